use Rattle.std.proofs.Common.{◌≡◌, ◌∙◌, ℤ, pos, true, arith, rules, subst, w16}
use Rattle.std.specs.Prelude.{int_lt}
use Rattle.std.proofs.lemmas.Int.{to_z-of_z}
use Rattle.clr_bricks.specs.Bricks.{entry_at}
use Rattle.clr_generations.proofs.OldBirthLaws.{lead-last}
use Rattle.clr_generations.proofs.old_births.led_end.Goals as goal

pub returns-then-entry-gt0 : goal.returns-then-entry-gt0
returns-then-entry-gt0 c =
    let some = c.requires.some in
    let above = c.if-last-place.true in
    lead-last (entry_at c.args.bricks.now) c.args.place c.args.size _ above (omega arith) (omega arith)
    (subst (λ (z : ℤ). int_lt (pos 0) z ≡ true) (to_z-of_z w16 c.entry.result (search rules) ∙ c.entry.ensures)
    c.if-entry-gt0.true)
