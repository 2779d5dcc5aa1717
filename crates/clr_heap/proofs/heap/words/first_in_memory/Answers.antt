use Rattle.std.proofs.Common.{◌-◌, ap, ◌∙◌, arith}
use Rattle.clr_mem.specs.Words.{is_between}
use Rattle.clr_heap.proofs.Naming.{run-bounds, run-word}
use Rattle.clr_heap.proofs.heap.words.first_in_memory.Goals as goal

pub first_between-requires-clause-words : goal.first_between-requires-clause-words
first_between-requires-clause-words c =
    let ms = c.args.memories.now.items in
    let m = c.index-memory.result.now in
    let n = c.args.n in
    let some = c.if-n-eq0.false in
    let low = run-bounds ms m c.args.k c.args.a n c.requires.words c.requires.segment c.index-memory.ensures 0
    (omega arith) in
    let high = run-bounds ms m c.args.k c.args.a n c.requires.words c.requires.segment c.index-memory.ensures (n - 1)
    (omega arith) in
    let above = low.0 in
    let below = high.1 in
    let base = c.len.ensures.aligned in
    let start = (c.requires.words 0 (omega arith)).aligned in
    record {
      above = omega (arith, above);
      below = omega (arith, below, base, start, some);
      start = omega (arith, start);
      whole = omega arith;
    }

pub returns-clause-before : goal.returns-clause-before
returns-clause-before c = λ j l.
    let most = c.first_between.ensures.most in
    ap (is_between c.args.low c.args.high)
    (run-word c.args.memories.now.items c.index-memory.result.now c.args.k c.args.a c.args.n c.requires.words
    c.requires.segment c.index-memory.ensures j (omega (arith, most, l)))
    ∙ c.first_between.ensures.before j l

pub returns-clause-found : goal.returns-clause-found
returns-clause-found c = λ l.
    ap (is_between c.args.low c.args.high)
    (run-word c.args.memories.now.items c.index-memory.result.now c.args.k c.args.a c.args.n c.requires.words
    c.requires.segment c.index-memory.ensures c.first_between.result l)
    ∙ c.first_between.ensures.found l
