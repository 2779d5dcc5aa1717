use Rattle.std.proofs.Common.{◌≡◌, ℕ, ◌+◌, ◌≤◌, List, [], ◌∷◌, ◌++◌, length, append-nil, append_assoc, ap, arith, sym}
use Rattle.std.proofs.Common.{◌∙◌, subst}
use Rattle.clr_types.specs.Rising.{IsIn}
use Rattle.clr_types.specs.Types.{form_at, size_of}
use Rattle.clr_types.specs.declared.item.Item.{Item}
use Rattle.clr_heap.specs.View.{word_of}
use Rattle.clr_mark.specs.Markings.{item_references, references_at}
use Rattle.clr_mark.proofs.Following.{next_listed}
use Rattle.clr_bgmark.specs.Shades.{met, met_all}
use Rattle.clr_bgmark.proofs.FollowedSlots.{at, met_more, slot_has, slot_index, slot_low}
use Rattle.clr_bgmark.proofs.background.Background.meet_each.Goals.{In-Some}
use Rattle.clr_bgmark.proofs.background.Background.meet_each.Goals as goal

pub slots-offset-items-requires-clause-known : goal.slots-offset-items-requires-clause-known
slots-offset-items-requires-clause-known c =
    let rows = c.args.types.now in
    subst (λ (i : Item). i.type_id.0 ≤ length rows) (sym c.requires.item)
    (at rows c.args.heap.now c.requires.heap c.requires.held c.args.item.place c.requires.stands).known

pub slots-offset-items-requires-clause-size : goal.slots-offset-items-requires-clause-size
slots-offset-items-requires-clause-size c =
    let rows = c.args.types.now in
    subst (λ (i : Item). size_of (form_at rows i.type_id.0) i.len ≤ 1073741824) (sym c.requires.item)
    (at rows c.args.heap.now c.requires.heap c.requires.held c.args.item.place c.requires.stands).small

-- the next offset is one of a reference
next : (c : In-Some) → IsIn c.in-Some.offset (references_at c.args.types.now c.args.heap.now c.args.item.place)
next c =
    let yielded = c.loop-offset.yielded in
    let rows = c.args.types.now in
    next_listed c.in-Some.offset yielded c.next.new.self (references_at rows c.args.heap.now c.args.item.place)
    (ap (λ (rest : List ℕ). yielded ++ rest) (sym c.in-Some.ensures.steps) ∙ c.loop-offset.invariant.walked
    ∙ c.into_iter-offset-iterator.ensures.into_iter_gives ∙ c.slots-offset-items.ensures
    ∙ ap (item_references rows) c.requires.item)

pub overflow_add-slot : goal.overflow_add-slot
overflow_add-slot c =
    let low = slot_low c.args.types.now c.args.heap.now c.requires.heap c.requires.held c.args.item.place
    c.requires.stands c.in-Some.offset (next (goal.at.overflow_add-slot c).In-Some) in
    omega (arith, low)

pub word_at-requires-clause-word : goal.word_at-requires-clause-word
word_at-requires-clause-word c =
    let rows = c.args.types.now in
    let x = c.args.item.place in
    let yielded = c.loop-offset.yielded in
    slot_has rows c.args.heap.now c.requires.heap c.requires.held x c.requires.stands c.in-Some.offset
    (next_listed c.in-Some.offset yielded c.next.new.self (references_at rows c.args.heap.now x)
    (ap (λ (rest : List ℕ). yielded ++ rest) (sym c.in-Some.ensures.steps) ∙ c.loop-offset.invariant.walked
    ∙ c.into_iter-offset-iterator.ensures.into_iter_gives ∙ c.slots-offset-items.ensures
    ∙ ap (item_references rows) c.requires.item))

pub word_at-requires-clause-segment : goal.word_at-requires-clause-segment
word_at-requires-clause-segment c =
    let rows = c.args.types.now in
    let x = c.args.item.place in
    let yielded = c.loop-offset.yielded in
    c.requires.segment
    ∙ slot_index rows c.args.heap.now c.requires.heap c.requires.held x c.requires.stands c.in-Some.offset
    (next_listed c.in-Some.offset yielded c.next.new.self (references_at rows c.args.heap.now x)
    (ap (λ (rest : List ℕ). yielded ++ rest) (sym c.in-Some.ensures.steps) ∙ c.loop-offset.invariant.walked
    ∙ c.into_iter-offset-iterator.ensures.into_iter_gives ∙ c.slots-offset-items.ensures
    ∙ ap (item_references rows) c.requires.item))

pub loop-offset-preserved : goal.loop-offset-preserved
loop-offset-preserved c =
    let word = word_of c.args.heap.now in
    let x = c.args.item.place in
    let yielded = c.loop-offset.yielded in
    let offset = c.in-Some.offset in
    record {
      walked = append_assoc yielded (offset ∷ []) c.next.new.self
          ∙ ap (λ (rest : List ℕ). yielded ++ rest) (sym c.in-Some.ensures.steps) ∙ c.loop-offset.invariant.walked;
      met = c.meet-shade.ensures
          ∙ (λ i. met (c.loop-offset.invariant.met i) (c.word_at.ensures i) (x + offset))
          ∙ sym (met_more word c.args.self.now x yielded offset);
    }

pub returns : goal.returns
returns c =
    let rows = c.args.types.now in
    let x = c.args.item.place in
    let yielded = c.loop-offset.yielded in
    let all : yielded ≡ references_at rows c.args.heap.now x =
    sym (append-nil yielded) ∙ ap (λ (rest : List ℕ). yielded ++ rest) (sym c.in-None.ensures.steps.0)
    ∙ c.loop-offset.invariant.walked ∙ c.into_iter-offset-iterator.ensures.into_iter_gives
    ∙ c.slots-offset-items.ensures ∙ ap (item_references rows) c.requires.item in
    c.loop-offset.invariant.met ∙ ap (met_all (word_of c.args.heap.now) c.args.self.now x) all
