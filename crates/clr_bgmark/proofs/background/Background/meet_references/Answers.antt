use Rattle.std.proofs.Common.{◌≤◌, ap, length, subst, sym}
use Rattle.clr_types.specs.declared.item.Item.{Item}
use Rattle.clr_mark.proofs.RunReferences.{run_references}
use Rattle.clr_bgmark.proofs.FollowedSlots.{at}
use Rattle.clr_bgmark.proofs.background.Background.meet_references.Goals as goal

pub reference_run-requires : goal.reference_run-requires
reference_run-requires c =
    let rows = c.args.types.now in
    subst (λ (i : Item). i.type_id.0 ≤ length rows) (sym c.requires.item)
    (at rows c.args.heap.now c.requires.heap c.requires.held c.args.item.place c.requires.stands).known

pub meet_long_run-requires-clause-run : goal.meet_long_run-requires-clause-run
meet_long_run-requires-clause-run c =
    run_references c.args.types.now c.args.heap.now c.args.item.place c.args.item.type_id c.args.item.len
    c.in-Some.run' (ap (λ (i : Item). i.type_id) c.requires.item) (ap (λ (i : Item). i.len) c.requires.item)
    c.in-Some.ensures.spelled
