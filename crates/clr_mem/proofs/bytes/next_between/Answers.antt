use Rattle.std.proofs.Common.{◌≡◌, ◌*◌, drop, ap, sym, ◌∙◌, arith}
use Rattle.clr_mem.specs.Words.{is_between, spelled}
use Rattle.clr_mem.proofs.Between.{before-more, rest-next}
use Rattle.clr_mem.proofs.Spelling.{spelled-take}
use Rattle.clr_mem.proofs.bytes.next_between.Goals as goal

pub returns-then-is_number_between-clause-found : goal.returns-then-is_number_between-clause-found
unfolding spelled
returns-then-is_number_between-clause-found c = λ _.
    let word : c.read_u64.result ≡ spelled (drop (8 * c.loop-word.passed) c.args.bytes.now) =
    c.read_u64.ensures ∙ ap spelled c.in-Some.ensures.cases.0 ∙ spelled-take 8 c.loop-word.rest.now (omega arith)
    ∙ ap spelled c.loop-word.invariant.rest in
    ap (is_between c.args.low c.args.high) (sym word) ∙ sym c.is_number_between.ensures ∙ c.if-is_number_between.true

pub loop-word-preserved : goal.loop-word-preserved
unfolding spelled
loop-word-preserved c =
    let xs = c.args.bytes.now in
    let n = c.loop-word.passed in
    let cut = c.in-Some.ensures.cases in
    let word : c.read_u64.result ≡ spelled (drop (8 * n) xs) =
    c.read_u64.ensures ∙ ap spelled cut.0 ∙ spelled-take 8 c.loop-word.rest.now (omega arith)
    ∙ ap spelled c.loop-word.invariant.rest in
    let left = cut.2 in
    record {
      rest = rest-next 8 xs c.loop-word.rest.now c.in-Some.more.now n c.loop-word.invariant.rest cut.1;
      sum = let sum = c.loop-word.invariant.sum in omega (arith, left, sum);
      before =
          before-more c.args.low c.args.high (λ j. spelled (drop (8 * j) xs)) n c.loop-word.invariant.before
          (ap (is_between c.args.low c.args.high) (sym word) ∙ sym c.is_number_between.ensures
          ∙ c.if-is_number_between.false);
    }
