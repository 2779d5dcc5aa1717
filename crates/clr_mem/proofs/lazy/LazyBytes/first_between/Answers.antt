use Rattle.std.proofs.Common.{inl, inr, ◌+◌, ◌-◌, ◌*◌, ◌≤◌, length, ap, sym, ◌∙◌, arith}
use Rattle.std.proofs.lemmas.Bool.{cases_lt}
use Rattle.clr_mem.specs.Words.{is_between}
use Rattle.clr_mem.proofs.Between.{between-zero, seen-behind, seen-part, whole-count}
use Rattle.clr_mem.proofs.Padding.{length-seen}
use Rattle.clr_mem.proofs.lazy.LazyBytes.first_between.Goals as goal

pub overflow_mul-n : goal.overflow_mul-n
overflow_mul-n c =
    let m = c.self.inside in
    let size = length-seen m.size m.stored.items _ c.self.view_is c.self.invariant.inside in
    omega arith

pub returns-then-count-eq0-clause-before : goal.returns-then-count-eq0-clause-before
returns-then-count-eq0-clause-before c = λ j l.
    let m = c.self.inside in
    let rest = c.count_below-count.ensures.rest in
    let none = c.if-count-eq0.true in
    let behind : length m.stored.items ≤ c.args.at + 8 * j = let past = rest (omega arith) in omega arith in
    between-zero c.args.low c.args.high _ c.requires.above
    (seen-behind m.size m.stored.items _ c.self.view_is c.self.invariant.inside (c.args.at + 8 * j) behind)

pub returns-then-met-count-clause-before : goal.returns-then-met-count-clause-before
returns-then-met-count-clause-before c = λ j l.
    let m = c.self.inside in
    let at = c.args.at in
    let n = at + c.count_below-count.result - at in
    let within = c.if-met-count.true in
    let whole : 8 * j + 8 ≤ n = omega (arith, l, within) in
    ap (is_between c.args.low c.args.high)
    (sym (seen-part m.size m.stored.items _ c.self.view_is c.self.invariant.inside c.deref.result.now
    c.deref.ensures.value at n j whole))
    ∙ c.first_word_between-met.ensures.before j l

pub returns-then-met-count-clause-found : goal.returns-then-met-count-clause-found
returns-then-met-count-clause-found c = λ l.
    let m = c.self.inside in
    let at = c.args.at in
    let count = c.count_below-count.result in
    let n = at + count - at in
    let j = c.first_word_between-met.result in
    let within = c.if-met-count.true in
    let words = c.self.invariant.words in
    let whole_words = whole-count c.args.n at c.len.result count c.requires.aligned (omega arith)
    c.count_below-count.ensures.most c.count_below-count.ensures.below c.count_below-count.ensures.rest in
    let whole : 8 * j + 8 ≤ n = omega (arith, whole_words, within) in
    let items = c.deref.ensures.value in
    ap (is_between c.args.low c.args.high)
    (sym (seen-part m.size m.stored.items _ c.self.view_is c.self.invariant.inside c.deref.result.now
    items at n j whole))
    ∙ c.first_word_between-met.ensures.found (omega (arith, within))

pub returns-else-met-count-clause-before : goal.returns-else-met-count-clause-before
returns-else-met-count-clause-before c = λ j l.
    let m = c.self.inside in
    let at = c.args.at in
    let count = c.count_below-count.result in
    let n = at + count - at in
    let none = c.if-met-count.false in
    elim (cases_lt (8 * j) count) [
      | inl stored ↦
          let words = c.self.invariant.words in
          let whole_words = whole-count c.args.n at c.len.result count c.requires.aligned (omega arith)
          c.count_below-count.ensures.most c.count_below-count.ensures.below c.count_below-count.ensures.rest in
          let whole : 8 * j + 8 ≤ n = omega (arith, whole_words, stored) in
          ap (is_between c.args.low c.args.high)
          (sym (seen-part m.size m.stored.items _ c.self.view_is c.self.invariant.inside c.deref.result.now
          c.deref.ensures.value at n j whole))
          ∙ c.first_word_between-met.ensures.before j (omega (arith, none, stored))
      | inr past ↦
          let behind : length m.stored.items ≤ at + 8 * j =
          let rest = c.count_below-count.ensures.rest (omega (arith, past, l)) in omega (arith, past, rest) in
          between-zero c.args.low c.args.high _ c.requires.above
          (seen-behind m.size m.stored.items _ c.self.view_is c.self.invariant.inside (at + 8 * j) behind)
    ]
