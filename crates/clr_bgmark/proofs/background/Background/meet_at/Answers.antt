use Rattle.std.proofs.Common.{◌≡◌, ◌∙◌, ℕ, ap, subst, sym}
use Rattle.clr_heap.specs.Memories.{memory_index}
use Rattle.clr_heap.specs.Parts.{item_at}
use Rattle.clr_heap.specs.View.{word_of}
use Rattle.clr_types.specs.declared.item.Item.{Item}
use Rattle.clr_view.specs.SlotValues.{StandsAt}
use Rattle.clr_mark.specs.Markings.{references_at}
use Rattle.clr_bgmark.specs.Shades.{met_all}
use Rattle.clr_bgmark.proofs.FollowedSlots.{at, head, near, room}
use Rattle.clr_bgmark.proofs.background.Background.meet_at.Goals.{After-item_of_word-item}
use Rattle.clr_bgmark.proofs.background.Background.meet_at.Goals as goal

pub segment_near-k-requires : goal.segment_near-k-requires
segment_near-k-requires c =
    (head c.args.types.now c.args.heap.now c.requires.heap c.requires.held c.args.obj c.requires.stands).mt

pub word_at-requires-clause-word : goal.word_at-requires-clause-word
word_at-requires-clause-word c =
    (head c.args.types.now c.args.heap.now c.requires.heap c.requires.held c.args.obj c.requires.stands).mt

pub item_of_word-item-requires-clause-item : goal.item_of_word-item-requires-clause-item
item_of_word-item-requires-clause-item c =
    head c.args.types.now c.args.heap.now c.requires.heap c.requires.held c.args.obj c.requires.stands

pub item_of_word-item-requires-clause-segment : goal.item_of_word-item-requires-clause-segment
item_of_word-item-requires-clause-segment c =
    c.segment_near-k.ensures
    ∙ near c.args.types.now c.args.heap.now c.requires.heap c.requires.held c.args.obj c.requires.stands

pub item_of_word-item-requires-clause-room : goal.item_of_word-item-requires-clause-room
item_of_word-item-requires-clause-room c =
    room c.args.types.now c.args.heap.now c.requires.heap c.requires.held c.args.obj c.requires.stands

-- the item stands at the object's place
place : (c : After-item_of_word-item) → c.item_of_word-item.result.place ≡ c.args.obj
place c =
    ap (λ (i : Item). i.place) c.item_of_word-item.ensures
    ∙ (at c.args.types.now c.args.heap.now c.requires.heap c.requires.held c.args.obj c.requires.stands).at

pub meet_references-requires-clause-stands : goal.meet_references-requires-clause-stands
meet_references-requires-clause-stands c =
    subst (StandsAt c.args.types.now c.args.heap.now)
    (sym (place (goal.at.meet_references-requires-clause-stands c).After-item_of_word-item)) c.requires.stands

pub meet_references-requires-clause-segment : goal.meet_references-requires-clause-segment
meet_references-requires-clause-segment c =
    c.segment_near-k.ensures
    ∙ ap (memory_index c.args.heap.now.memories)
    (sym (place (goal.at.meet_references-requires-clause-segment c).After-item_of_word-item))

pub meet_references-requires-clause-item : goal.meet_references-requires-clause-item
meet_references-requires-clause-item c =
    c.item_of_word-item.ensures
    ∙ ap (item_at c.args.types.now (word_of c.args.heap.now))
    (sym (place (goal.at.meet_references-requires-clause-item c).After-item_of_word-item))

pub returns : goal.returns
returns c =
    let rows = c.args.types.now in
    let h = c.args.heap.now in
    c.meet_references.ensures
    ∙ ap (λ (x : ℕ). met_all (word_of h) c.args.self.now x (references_at rows h x))
    (place (goal.at.returns c).After-item_of_word-item)
