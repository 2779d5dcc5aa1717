use Rattle.std.proofs.Common.{ap, ◌∙◌}
use Rattle.clr_types.specs.declared.item.Item.{Item}
use Rattle.clr_heap.specs.View.{word_of}
use Rattle.clr_heap.proofs.Spelling.{place-item_at}
use Rattle.clr_bgmark.specs.FirstParts.{gapped_one}
use Rattle.clr_bgmark.specs.Pauses.{taken_one}
use Rattle.clr_bgmark.proofs.FirstTaken.{object_taken}
use Rattle.clr_bgmark.proofs.ToldParts.{gap_free, gap_none}
use Rattle.clr_bgmark.proofs.first_pause.take_other.Goals as goal

pub returns-then-found-ne0-clause-taken : goal.returns-then-found-ne0-clause-taken
returns-then-found-ne0-clause-taken c =
    let h = c.args.heap.now in
    let s = c.args.shade.now in
    let found = c.item_like_in-found.ensures.item in
    c.set_bit.ensures
    ∙ object_taken h s c.item_like_in-found.result c.args.place
    (ap (λ (i : Item). i.place) found ∙ place-item_at c.args.types.now (word_of h) c.args.place) c.if-found-ne0.true
    c.requires.old
    ∙ ap (taken_one h s) found

pub returns-then-found-ne0-clause-gaps : goal.returns-then-found-ne0-clause-gaps
returns-then-found-ne0-clause-gaps c =
    let s = c.args.shade.now in
    let p = c.args.part.now in
    let found = c.item_like_in-found.ensures.item in
    gap_none s p c.item_like_in-found.result c.if-found-ne0.true ∙ ap (gapped_one s p) found

pub returns-else-found-ne0-clause-gaps : goal.returns-else-found-ne0-clause-gaps
returns-else-found-ne0-clause-gaps c =
    let h = c.args.heap.now in
    let s = c.args.shade.now in
    let p = c.args.part.now in
    let found = c.item_like_in-found.ensures.item in
    c.add_gap.ensures
    ∙ gap_free s p c.item_like_in-found.result c.args.place c.cell.result
    (ap (λ (i : Item). i.place) found ∙ place-item_at c.args.types.now (word_of h) c.args.place) c.if-found-ne0.false
    c.cell.ensures
    ∙ ap (gapped_one s p) found
