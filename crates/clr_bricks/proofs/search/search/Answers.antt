use Rattle.std.proofs.Common.{◌≡◌, ℕ, ℤ, pos, negsuc, ◌-◌, suc, ap, sym, ◌∙◌, arith, inr, w16}
use Rattle.std.proofs.Common.{FitsSigned, to_z, of_z, rules, true, false}
use Rattle.std.specs.Prelude.{int_lt, unsigned_abs}
use Rattle.std.proofs.lemmas.Int.{to_z-of_z}
use Rattle.clr_bricks.specs.Bricks.{entry_at, IsRoot, LeadsBack}
use Rattle.clr_bricks.proofs.Following.{back_below, first_below, first_is, IsAt-lower, LeadsBack-further, root_above}
use Rattle.clr_bricks.proofs.search.search.Goals as goal

-- an entry that is neither above 0 nor 0, as the tests tell it
back_by_tests : (z e : ℤ) (read back : ℕ) → FitsSigned w16 z → z ≡ e
    → int_lt (pos 0) (to_z w16 (of_z w16 z)) ≡ false → (of_z w16 z ≡ 0 → ⊥)
    → read ≡ unsigned_abs (to_z w16 (of_z w16 z)) → back ≡ read → (k : ℕ) × (e ≡ negsuc k) × (back ≡ suc k)
back_by_tests z e read back fits is low some reads backs =
    let same = to_z-of_z w16 z fits in
    let found =
    back_below z (ap (λ (y : ℤ). int_lt (pos 0) y) (sym same) ∙ low)
    (λ q. some (ap (λ (y : ℤ). of_z w16 y) q))
    in
    (found.0, sym is ∙ found.1, backs ∙ reads ∙ ap unsigned_abs same ∙ found.2)

-- an entry above 0, as the test tells it
root_by_tests : (z e : ℤ) → FitsSigned w16 z → z ≡ e → int_lt (pos 0) (to_z w16 (of_z w16 z)) ≡ true → IsRoot e
root_by_tests z e fits is high =
    let found = root_above z (ap (λ (y : ℤ). int_lt (pos 0) y) (sym (to_z-of_z w16 z fits)) ∙ high) in
    (found.0, sym is ∙ found.1)

pub back-init : goal.back-init
back-init g c =
    let zero : c.args.steps.now - c.args.steps.now ≡ 0 = omega arith in
    record { path = rw zero LeadsBack.here; counted = omega arith; there = c.requires; below = omega arith }

pub returns-then-entry-gt0-clause-searched : goal.returns-then-entry-gt0-clause-searched
returns-then-entry-gt0-clause-searched g c =
    let z = c.value-entry.result in
    let fits : FitsSigned w16 z = search rules in
    let i = c.back.invariant in
    let tick = c.tick.ensures in
    let counted = i.counted in
    let e = entry_at c.args.covers.now c.back.at in
    let root = root_by_tests z e fits (c.value-entry.ensures (pos 0)) c.if-entry-gt0.true in
    record {
      last = c.back.at;
      count = c.back.steps - c.args.steps.now;
      path = i.path;
      outcome = (omega arith, root);
      counted = omega arith;
    }

pub overflow_sub-at : goal.overflow_sub-at
overflow_sub-at g c =
    first_below c.args.covers.now c.args.k c.back.at c.first-first.result c.back.invariant.there
    c.first-first.ensures.value

pub returns-then-back-at-clause-searched : goal.returns-then-back-at-clause-searched
returns-then-back-at-clause-searched g c =
    let z = c.value-entry.result in
    let fits : FitsSigned w16 z = search rules in
    let i = c.back.invariant in
    let tick = c.tick.ensures in
    let counted = i.counted in
    let bs = c.args.covers.now in
    let f = c.first-first.ensures in
    let back =
    back_by_tests z (entry_at bs c.back.at) c.unsigned_abs.result c.from-back.result fits
    (c.value-entry.ensures (pos 0)) c.if-entry-gt0.false c.if-entry-eq0.false c.unsigned_abs.ensures.value
    c.from-back.ensures
    in
    let first = first_is bs c.args.k c.args.from c.first-first.result c.requires f.value f.apart in
    let low = first_below bs c.args.k c.back.at c.first-first.result i.there f.value in
    let far = c.if-back-at.true in
    let more = back.2 in
    record {
      last = c.back.at;
      count = c.back.steps - c.args.steps.now;
      path = i.path;
      outcome = inr (back.0, back.1, omega arith);
      counted = omega arith;
    }

pub back-preserved : goal.back-preserved
back-preserved g c =
    let z = c.value-entry.result in
    let fits : FitsSigned w16 z = search rules in
    let i = c.back.invariant in
    let tick = c.tick.ensures in
    let counted = i.counted in
    let below = i.below in
    let bs = c.args.covers.now in
    let f = c.first-first.ensures in
    let back =
    back_by_tests z (entry_at bs c.back.at) c.unsigned_abs.result c.from-back.result fits
    (c.value-entry.ensures (pos 0)) c.if-entry-gt0.false c.if-entry-eq0.false c.unsigned_abs.ensures.value
    c.from-back.ensures
    in
    let first = first_is bs c.args.k c.args.from c.first-first.result c.requires f.value f.apart in
    let low = first_below bs c.args.k c.back.at c.first-first.result i.there f.value in
    let near = c.if-back-at.false in
    let more = back.2 in
    record {
      path = LeadsBack-further back.0 _ _ i.path back.1 (omega arith) (omega arith) (omega arith);
      counted = omega arith;
      there = IsAt-lower bs c.args.k c.back.at c.first-first.result i.there f.value _ (omega arith) (omega arith);
      below = omega arith;
    }
