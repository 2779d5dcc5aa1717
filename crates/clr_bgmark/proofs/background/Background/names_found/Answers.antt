use Rattle.std.proofs.Common.{◌≡◌, ℕ, ◌+◌, ◌≤◌, inl, inr, List, [], ◌∷◌, ◌++◌, length, append-nil}
use Rattle.std.proofs.Common.{append_assoc, ap, arith, sym, ◌∙◌, subst, refl}
use Rattle.std.proofs.lemmas.Bool.{both_ways}
use Rattle.clr_types.specs.Rising.{IsIn}
use Rattle.clr_types.specs.Types.{form_at, size_of}
use Rattle.clr_types.specs.declared.item.Item.{Item}
use Rattle.clr_types.proofs.ListMembers.{in_append}
use Rattle.clr_types.proofs.RisingLists.{in_cons}
use Rattle.clr_heap.specs.Parts.{item_at}
use Rattle.clr_heap.specs.View.{word_of}
use Rattle.clr_mark.specs.Markings.{item_references, references_at}
use Rattle.clr_mark.proofs.Following.{next_listed}
use Rattle.clr_mark.proofs.References.{refers_from}
use Rattle.clr_bgmark.specs.Closing.{IsNullOrFound}
use Rattle.clr_bgmark.proofs.AllFound.{some_found, word_found}
use Rattle.clr_bgmark.proofs.FollowedSlots.{at, head, near, room, slot_has, slot_index, slot_low}
use Rattle.clr_bgmark.proofs.background.Background.names_found.Goals.{In-Some}
use Rattle.clr_bgmark.proofs.background.Background.names_found.Goals as goal

pub segment_near-k-requires : goal.segment_near-k-requires
segment_near-k-requires c =
    (head c.args.types.now c.args.heap.now c.requires.heap c.requires.held c.args.obj c.requires.stands).mt

pub word_at-requires-clause-word : goal.word_at-requires-clause-word
word_at-requires-clause-word c =
    (head c.args.types.now c.args.heap.now c.requires.heap c.requires.held c.args.obj c.requires.stands).mt

pub item_of_word-item-requires-clause-item : goal.item_of_word-item-requires-clause-item
item_of_word-item-requires-clause-item c =
    head c.args.types.now c.args.heap.now c.requires.heap c.requires.held c.args.obj c.requires.stands

pub item_of_word-item-requires-clause-segment : goal.item_of_word-item-requires-clause-segment
item_of_word-item-requires-clause-segment c =
    c.segment_near-k.ensures
    ∙ near c.args.types.now c.args.heap.now c.requires.heap c.requires.held c.args.obj c.requires.stands

pub item_of_word-item-requires-clause-room : goal.item_of_word-item-requires-clause-room
item_of_word-item-requires-clause-room c =
    room c.args.types.now c.args.heap.now c.requires.heap c.requires.held c.args.obj c.requires.stands

pub slots-offset-items-requires-clause-known : goal.slots-offset-items-requires-clause-known
slots-offset-items-requires-clause-known c =
    let rows = c.args.types.now in
    subst (λ (i : Item). i.type_id.0 ≤ length rows) (sym c.item_of_word-item.ensures)
    (at rows c.args.heap.now c.requires.heap c.requires.held c.args.obj c.requires.stands).known

pub slots-offset-items-requires-clause-size : goal.slots-offset-items-requires-clause-size
slots-offset-items-requires-clause-size c =
    let rows = c.args.types.now in
    subst (λ (i : Item). size_of (form_at rows i.type_id.0) i.len ≤ 1073741824) (sym c.item_of_word-item.ensures)
    (at rows c.args.heap.now c.requires.heap c.requires.held c.args.obj c.requires.stands).small

pub loop-offset-init : goal.loop-offset-init
loop-offset-init c = record { walked = refl; found = λ offset i. elim i [ ] }

-- the next offset is one of a reference
next : (c : In-Some) → IsIn c.in-Some.offset (references_at c.args.types.now c.args.heap.now c.args.obj)
next c =
    let yielded = c.loop-offset.yielded in
    let rows = c.args.types.now in
    next_listed c.in-Some.offset yielded c.next.new.self (references_at rows c.args.heap.now c.args.obj)
    (ap (λ (rest : List ℕ). yielded ++ rest) (sym c.in-Some.ensures.steps) ∙ c.loop-offset.invariant.walked
    ∙ c.into_iter-offset-iterator.ensures.into_iter_gives ∙ c.slots-offset-items.ensures
    ∙ ap (item_references rows) c.item_of_word-item.ensures)

pub overflow_add-obj : goal.overflow_add-obj
overflow_add-obj c =
    let low = slot_low c.args.types.now c.args.heap.now c.requires.heap c.requires.held c.args.obj
    c.requires.stands c.in-Some.offset (next (goal.at.overflow_add-obj c).In-Some) in
    omega (arith, low)

pub word_at-requires-in-loop-offset-clause-word : goal.word_at-requires-in-loop-offset-clause-word
word_at-requires-in-loop-offset-clause-word c =
    slot_has c.args.types.now c.args.heap.now c.requires.heap c.requires.held c.args.obj c.requires.stands
    c.in-Some.offset (next (goal.at.word_at-requires-in-loop-offset-clause-word c).In-Some)

pub word_at-requires-in-loop-offset-clause-segment : goal.word_at-requires-in-loop-offset-clause-segment
word_at-requires-in-loop-offset-clause-segment c =
    c.segment_near-k.ensures
    ∙ slot_index c.args.types.now c.args.heap.now c.requires.heap c.requires.held c.args.obj c.requires.stands
    c.in-Some.offset (next (goal.at.word_at-requires-in-loop-offset-clause-segment c).In-Some)

pub loop-offset-preserved : goal.loop-offset-preserved
loop-offset-preserved c =
    let yielded = c.loop-offset.yielded in
    let offset = c.in-Some.offset in
    let ss = c.args.self.now.shades in
    let h = c.args.heap.now in
    record {
      walked = append_assoc yielded (offset ∷ []) c.next.new.self
          ∙ ap (λ (rest : List ℕ). yielded ++ rest) (sym c.in-Some.ensures.steps) ∙ c.loop-offset.invariant.walked;
      found = λ o i. elim (in_append yielded i) [
        | inl before ↦ c.loop-offset.invariant.found o before
        | inr last ↦ elim (in_cons last) [
          | inl is ↦ subst (λ (n : ℕ). IsNullOrFound ss (word_of h (c.args.obj + n))) (sym is)
              (subst (IsNullOrFound ss) c.word_at-in-loop-offset.ensures
              (c.is_null_or_found.ensures.0 c.if-not-is_null_or_found.false))
          | inr none ↦ elim none [ ]
        ]
      ];
    }

pub returns : goal.returns
returns c = (
  (λ sure y e.
      let rows = c.args.types.now in
      let h = c.args.heap.now in
      let x = c.args.obj in
      let ss = c.args.self.now.shades in
      let yielded = c.loop-offset.yielded in
      let all : yielded ≡ references_at rows h x =
      sym (append-nil yielded) ∙ ap (λ (rest : List ℕ). yielded ++ rest) (sym c.in-None.ensures.steps.0)
      ∙ c.loop-offset.invariant.walked ∙ c.into_iter-offset-iterator.ensures.into_iter_gives
      ∙ c.slots-offset-items.ensures ∙ ap (item_references rows) c.item_of_word-item.ensures in
      let r = refers_from rows h c.requires.heap c.requires.held x (item_at rows (word_of h) x)
      (at rows h c.requires.heap c.requires.held x c.requires.stands) y e in
      let listed : IsIn r.offset yielded = subst (λ (os : List ℕ). IsIn r.offset os) (sym all) r.listed in
      some_found ss y r.not_null
      (subst (IsNullOrFound ss) r.holds (c.loop-offset.invariant.found r.offset listed))),
  (λ all. refl),
)

pub returns-then-not-is_null_or_found : goal.returns-then-not-is_null_or_found
returns-then-not-is_null_or_found c = (
  (λ sure. absurd cc),
  (λ all.
      absurd (both_ways c.is_null_or_found.result c.if-not-is_null_or_found.true
      (c.is_null_or_found.ensures.1 (subst (IsNullOrFound c.args.self.now.shades)
      (sym c.word_at-in-loop-offset.ensures)
      (word_found c.args.types.now c.args.heap.now c.requires.heap c.requires.held c.args.self.now.shades c.args.obj
      c.requires.stands c.in-Some.offset
      (next (goal.at.returns-then-not-is_null_or_found c).In-Some) all))))),
)
