use Rattle.std.proofs.Common.{◌≡◌, ◌∙◌, ℕ, ap, subst, sym}
use Rattle.clr_types.specs.declared.item.Item.{Item}
use Rattle.clr_heap.specs.Memories.{memory_index}
use Rattle.clr_heap.specs.Parts.{item_at, unmarked}
use Rattle.clr_heap.specs.View.{word_of}
use Rattle.clr_view.specs.SlotValues.{StandsAt}
use Rattle.clr_mark.specs.Markings.{references_at}
use Rattle.clr_bgmark.specs.Shades.{met_all}
use Rattle.clr_bgmark.proofs.FollowedSlots.{at, head, near, room}
use Rattle.clr_bgmark.proofs.background.Background.meet_object.Goals.{After-item_of_word-item}
use Rattle.clr_bgmark.proofs.background.Background.meet_object.Goals as goal

pub word_at-mt-requires-clause-word : goal.word_at-mt-requires-clause-word
word_at-mt-requires-clause-word c =
    (head c.args.types.now c.args.heap.now c.requires.heap c.requires.held c.args.obj c.requires.stands).mt

pub meet_run-requires-clause-run : goal.meet_run-requires-clause-run
meet_run-requires-clause-run c =
    c.requires.known.run (word_of c.args.heap.now) c.args.obj
    (ap unmarked (sym c.word_at-mt.ensures) ∙ c.has.ensures c.if-has.true)

pub item_of_word-item-requires-clause-item : goal.item_of_word-item-requires-clause-item
item_of_word-item-requires-clause-item c =
    head c.args.types.now c.args.heap.now c.requires.heap c.requires.held c.args.obj c.requires.stands

pub item_of_word-item-requires-clause-segment : goal.item_of_word-item-requires-clause-segment
item_of_word-item-requires-clause-segment c =
    c.requires.segment
    ∙ near c.args.types.now c.args.heap.now c.requires.heap c.requires.held c.args.obj c.requires.stands

pub item_of_word-item-requires-clause-room : goal.item_of_word-item-requires-clause-room
item_of_word-item-requires-clause-room c =
    room c.args.types.now c.args.heap.now c.requires.heap c.requires.held c.args.obj c.requires.stands

-- the item stands at the object's place
place : (c : After-item_of_word-item) → c.item_of_word-item.result.place ≡ c.args.obj
place c =
    ap (λ (i : Item). i.place) c.item_of_word-item.ensures
    ∙ (at c.args.types.now c.args.heap.now c.requires.heap c.requires.held c.args.obj c.requires.stands).at

pub meet_references-requires-clause-stands : goal.meet_references-requires-clause-stands
meet_references-requires-clause-stands c =
    subst (StandsAt c.args.types.now c.args.heap.now)
    (sym (place (goal.at.meet_references-requires-clause-stands c).After-item_of_word-item)) c.requires.stands

pub meet_references-requires-clause-segment : goal.meet_references-requires-clause-segment
meet_references-requires-clause-segment c =
    c.requires.segment
    ∙ ap (memory_index c.args.heap.now.memories)
    (sym (place (goal.at.meet_references-requires-clause-segment c).After-item_of_word-item))

pub meet_references-requires-clause-item : goal.meet_references-requires-clause-item
meet_references-requires-clause-item c =
    c.item_of_word-item.ensures
    ∙ ap (item_at c.args.types.now (word_of c.args.heap.now))
    (sym (place (goal.at.meet_references-requires-clause-item c).After-item_of_word-item))

pub kind_behind-requires-clause-stands : goal.kind_behind-requires-clause-stands
kind_behind-requires-clause-stands c =
    subst (StandsAt c.args.types.now c.args.heap.now)
    (sym (place (goal.at.kind_behind-requires-clause-stands c).After-item_of_word-item)) c.requires.stands

pub kind_behind-requires-clause-item : goal.kind_behind-requires-clause-item
kind_behind-requires-clause-item c =
    c.item_of_word-item.ensures
    ∙ ap (item_at c.args.types.now (word_of c.args.heap.now))
    (sym (place (goal.at.kind_behind-requires-clause-item c).After-item_of_word-item))

pub kind_behind-requires-clause-word : goal.kind_behind-requires-clause-word
kind_behind-requires-clause-word c =
    c.word_at-mt.ensures
    ∙ ap (word_of c.args.heap.now) (sym (place (goal.at.kind_behind-requires-clause-word c).After-item_of_word-item))

pub returns-clause-met : goal.returns-clause-met
returns-clause-met c =
    let rows = c.args.types.now in
    let h = c.args.heap.now in
    c.meet_references.ensures
    ∙ ap (λ (x : ℕ). met_all (word_of h) c.args.self.now x (references_at rows h x))
    (place (goal.at.returns-clause-met c).After-item_of_word-item)
