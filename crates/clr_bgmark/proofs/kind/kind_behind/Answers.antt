use Rattle.std.proofs.Common.{◌≤◌, length, ap, sym, subst, ◌∙◌}
use Rattle.clr_types.specs.declared.item.Item.{Item}
use Rattle.clr_heap.specs.Parts.{unmarked}
use Rattle.clr_heap.specs.View.{word_of}
use Rattle.clr_mark.proofs.RunKinds.{run_kind}
use Rattle.clr_bgmark.proofs.FollowedSlots.{at}
use Rattle.clr_bgmark.proofs.kind.kind_behind.Goals as goal

pub has_length-requires : goal.has_length-requires
has_length-requires c =
    let rows = c.args.types.now in
    subst (λ (i : Item). i.type_id.0 ≤ length rows) (sym c.requires.item)
    (at rows c.args.heap.now c.requires.heap c.requires.held c.args.item.place c.requires.stands).known

pub reference_run-requires : goal.reference_run-requires
reference_run-requires c =
    let rows = c.args.types.now in
    subst (λ (i : Item). i.type_id.0 ≤ length rows) (sym c.requires.item)
    (at rows c.args.heap.now c.requires.heap c.requires.held c.args.item.place c.requires.stands).known

pub returns-in-Some : goal.returns-in-Some
returns-in-Some c =
    run_kind c.args.types.now (word_of c.args.heap.now) c.args.item.place c.unmarked.result
    c.args.item.type_id c.in-Some.run' (c.unmarked.ensures ∙ ap unmarked c.requires.word)
    (ap (λ (i : Item). i.type_id) c.requires.item) (sym c.has_length.ensures ∙ c.if-has_length.false)
    c.in-Some.ensures.spelled
