use Rattle.std.proofs.Common.{sym, ◌∙◌}
use Rattle.std.proofs.lemmas.Bool.{both_ways}
use Rattle.clr_bgmark.proofs.background.Background.is_all_found.Goals.{then-are_found, else-are_found}
use Rattle.clr_bgmark.proofs.background.Background.is_all_found.Goals.{then-are_found-2, else-are_found-2}
use Rattle.clr_bgmark.proofs.background.Background.is_all_found.Goals.{then-are_found-3, else-are_found-3}
use Rattle.clr_bgmark.proofs.background.Background.is_all_found.Goals as goal

pub returns-then-are_targets_found : goal.returns-then-are_targets_found
returns-then-are_targets_found c = (
  (λ sure. elim c.if-are_found-3.branch [
    | else-are_found-3 w ↦ absurd (both_ways c.if-are_found-3.value (w.value-is ∙ w.if-are_found-3.false)
        c.if-are_targets_found.true)
    | then-are_found-3 w ↦ elim c.if-are_found-2.branch [
      | else-are_found-2 v ↦ absurd (both_ways c.if-are_found-2.value (v.value-is ∙ v.if-are_found-2.false)
          w.if-are_found-3.true)
      | then-are_found-2 v ↦ elim c.if-are_found.branch [
        | else-are_found u ↦ absurd (both_ways c.if-are_found.value (u.value-is ∙ u.if-are_found.false)
            v.if-are_found-2.true)
        | then-are_found u ↦ record {
          local = c.are_found.ensures.0 u.if-are_found.true;
          queued = u.are_found-then-are_found.ensures.0 (sym u.value-is ∙ v.if-are_found-2.true);
          entry = v.are_found-then-are_found-2.ensures.0 (sym v.value-is ∙ w.if-are_found-3.true);
          targets = w.are_targets_found.ensures.0 (sym w.value-is ∙ c.if-are_targets_found.true);
          due = c.is_due_found.ensures.0 sure;
        }
      ]
    ]
  ]),
  (λ all. c.is_due_found.ensures.1 all.due),
)

pub returns-else-are_targets_found : goal.returns-else-are_targets_found
returns-else-are_targets_found c = (
  (λ sure. absurd cc),
  (λ all. elim c.if-are_found-3.branch [
    | then-are_found-3 w ↦ absurd (both_ways c.if-are_found-3.value c.if-are_targets_found.false
        (w.value-is ∙ w.are_targets_found.ensures.1 all.targets))
    | else-are_found-3 w ↦ elim c.if-are_found-2.branch [
      | then-are_found-2 v ↦ absurd (both_ways c.if-are_found-2.value w.if-are_found-3.false
          (v.value-is ∙ v.are_found-then-are_found-2.ensures.1 all.entry))
      | else-are_found-2 v ↦ elim c.if-are_found.branch [
        | then-are_found u ↦ absurd (both_ways c.if-are_found.value v.if-are_found-2.false
            (u.value-is ∙ u.are_found-then-are_found.ensures.1 all.queued))
        | else-are_found u ↦ absurd (both_ways c.are_found.result u.if-are_found.false
            (c.are_found.ensures.1 all.local))
      ]
    ]
  ]),
)
