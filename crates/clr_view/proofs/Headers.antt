-- Whether finalisers are suppressed: what an object's header says of it, and what is left where that is written.
use Rattle.std.proofs.Common.{◌≡◌, ◌↔◌, ℕ, ◌+◌, ◌-◌, ◌/◌, ◌%◌, ◌≤◌, inl, inr, Bool, true, false, not, ◌&&◌, List}
use Rattle.std.proofs.Common.{Option, if◌then◌else◌, refl, ap, sym, ◌∙◌, subst, arith}
use Rattle.std.proofs.lemmas.Bool.{eq-eqb, eqb-false, eqb-true, ne_eqb}
use Rattle.clr_types.specs.Bits.{suppressed_bit}
use Rattle.clr_types.specs.Rising.{IsIn}
use Rattle.clr_types.specs.Types.{bytes_form, class_form, Form, form_at, has_finalizer, references_form, structs_form}
use Rattle.clr_types.specs.Types.{type_row, TypeRow}
use Rattle.clr_types.specs.declared.item.Item.{Item}
use Rattle.clr_heap.specs.Memories.{HasWord}
use Rattle.clr_heap.specs.Parts.{item_at}
use Rattle.clr_heap.specs.View.{heap_items, HeapView, IsHeap, stored, word_of}
use Rattle.clr_model.specs.Lookups.{type_of_object}
use Rattle.clr_model.specs.Machine.{Object}
use Rattle.clr_model.specs.Reach.{suppressed_or_none}
use Rattle.clr_model.specs.Updates.{with_flag_of}
use Rattle.clr_view.specs.Clean.{AreClean, IsCleanHeader, slots_end}
use Rattle.clr_view.specs.Flags.{flagged, HasFlagged, is_final_at, is_suppressed_at, with_flag_at}
use Rattle.clr_view.specs.Marks.{IsUnmarked}
use Rattle.clr_view.specs.SlotValues.{IsObjectAt, StandsAt}
use Rattle.clr_view.specs.View.{AreFreeHeads, has_suppressed_bit, IsHeld, is_object, object_in}
use Rattle.clr_view.proofs.CleanWords.{clean_stored, LeavesHeader, LeavesPadding}
use Rattle.clr_view.proofs.FreeHeads.{heads_stored}
use Rattle.clr_view.proofs.Listed.{listed-above, listed-item}
use Rattle.clr_view.proofs.ObjectItems.{stands-item}
use Rattle.clr_view.proofs.Slots.{slot-inside, slots-stay}
use Rattle.clr_view.proofs.Stores.{cell_has_word, elsewhere, held-stays, IsCellWord, items-stay, layout-stays}
use Rattle.clr_view.proofs.Stores.{objects-written, there-now}
use Rattle.clr_view.proofs.Unmarked.{marks_stored, stands-kept, unmarked_stored}

-- ---- the bit

-- a header says what was written
pub flag-told : (flag : Bool) (header : ℕ) → has_suppressed_bit (flagged flag header) ≡ flag
flag-told flag header = go flag (has_suppressed_bit header) refl
  where
    go : (flag has : Bool) → has_suppressed_bit header ≡ has
        → has_suppressed_bit (if flag && not has then header + suppressed_bit
        else if not flag && has then header - suppressed_bit else header) ≡ flag
    go true true is = is
    go true false is = let no = eqb-false (header / suppressed_bit % 2) 1 is in eq-eqb _ _ (omega arith)
    go false true is = let yes = eqb-true (header / suppressed_bit % 2) 1 is in ne_eqb _ _ (λ e. omega arith)
    go false false is = is

-- a clean header stays clean, where only objects with finalisers are suppressed
pub clean-flagged : (rows : List TypeRow) (t header : ℕ) (flag : Bool)
    → (flag ≡ true → has_finalizer (type_row rows t) ≡ true) → IsCleanHeader rows t header
    → IsCleanHeader rows t (flagged flag header)
clean-flagged rows t header true final (inl zero) =
    inr (subst (λ w. flagged true w ≡ suppressed_bit) (sym zero) refl, final refl)
clean-flagged rows t header true final (inr (says, has)) =
    inr (subst (λ w. flagged true w ≡ suppressed_bit) (sym says) refl, has)
clean-flagged rows t header false final (inl zero) = inl (subst (λ w. flagged false w ≡ 0) (sym zero) refl)
clean-flagged rows t header false final (inr (says, has)) = inl (subst (λ w. flagged false w ≡ 0) (sym says) refl)

-- padding begins above the method table word
slots_end-least : (form : Form) (len : ℕ) → 8 ≤ slots_end form len
slots_end-least (class_form pattern) len = omega arith
slots_end-least references_form len = omega arith
slots_end-least bytes_form len = omega arith
slots_end-least (structs_form pattern) len = omega arith

-- ---- an object's header

module _ (rows : List TypeRow) (h : HeapView) (i : Item) (flag : Bool) (heap : IsHeap h) (held : IsHeld rows h)
    (listed : IsIn i (heap_items rows h)) where
  abbrev a : ℕ
  a = i.place - 8

  abbrev v : ℕ
  v = flagged flag (word_of h a)

  -- the header is a word of the object's cell
  pub header-word : IsCellWord rows h i a
  header-word =
      let up = listed-above rows h i heap held listed in
      let is = listed-item rows h i heap held listed in
      let z = is.aligned in
      let least = is.least in
      record {
        listed = listed;
        aligned = omega arith;
        low = omega arith;
        high = omega arith;
        no_mt = λ same. omega arith;
        no_length = λ array same. omega arith;
      }

  abbrev new : HeapView
  new = stored h a v

  -- with another flag the object has the same slots
  flag-changed : object_in rows (word_of new) i ≡ with_flag_of flag (object_in rows (word_of h) i)
  flag-changed =
      let form = form_at rows i.type_id.0 in
      let up = listed-above rows h i heap held listed in
      let z = (listed-item rows h i heap held listed).aligned in
      let slots = slots-stay form (word_of h) (word_of new) i.place i.len (λ j l.
      let at = slot-inside form i.len i.place j z l in
      let above = at.above in
      elsewhere rows h i a v heap held header-word _ at.aligned (λ same. omega arith)) in
      let says : has_suppressed_bit (word_of new a) ≡ flag =
      ap has_suppressed_bit (there-now rows h i a v heap held header-word) ∙ flag-told flag (word_of h a) in
      λ k. record (object_in rows (word_of h) i) { slots = slots k; suppressed = says k }

  -- THE FLAG WRITTEN: the object has it, and all else that the heap holds stays
  flag-written : HasFlagged rows h new i.place flag
  flag-written = record {
    objects = objects-written rows h i a v heap held header-word (with_flag_of flag) flag-changed;
    items = items-stay rows h i a v heap held header-word;
    layout = layout-stays rows h i a v heap held header-word;
    marks = marks_stored rows h i a v heap held header-word;
    held = held-stays rows h i a v heap held header-word;
  }

  flag-unmarked : IsUnmarked rows h → IsUnmarked rows new
  flag-unmarked = unmarked_stored rows h i a v heap held header-word

  flag-heads : is_object i ≡ true → AreFreeHeads rows h → AreFreeHeads rows new
  flag-heads object = heads_stored rows h i a v heap held header-word (inl object)

  flag-clean : (flag ≡ true → has_finalizer (type_row rows i.type_id.0) ≡ true) → AreClean rows h → AreClean rows new
  flag-clean final =
      let header : LeavesHeader rows h i a v heap held header-word = λ was.
      subst (IsCleanHeader rows i.type_id.0) (sym (there-now rows h i a v heap held header-word))
      (clean-flagged rows i.type_id.0 (word_of h a) flag final was) in
      let padding : LeavesPadding rows h i a v heap held header-word = λ p low here.
      let up = listed-above rows h i heap held listed in
      let end = slots_end-least (form_at rows i.type_id.0) i.len in
      let z = (listed-item rows h i heap held listed).aligned in
      absurd (omega arith) in
      clean_stored rows h i a v heap held header-word header padding

-- ---- the object at a place

module _ (rows : List TypeRow) (h : HeapView) (place : ℕ) (i : Item) (this : IsObjectAt rows h place i) where
  -- whether its type has a finaliser
  pub final-told : has_finalizer (type_row rows i.type_id.0) ≡ is_final_at rows h place
  final-told = ap (λ (o : Option Object). has_finalizer (type_row rows (type_of_object o))) (sym this.named)

  -- and whether that is suppressed
  pub suppressed-told : has_suppressed_bit (word_of h (place - 8)) ≡ is_suppressed_at rows h place
  suppressed-told = ap (λ p. has_suppressed_bit (word_of h (p - 8))) (sym this.at)
      ∙ ap suppressed_or_none (sym this.named)

module _ (rows : List TypeRow) (h : HeapView) (place : ℕ) (heap : IsHeap h) (held : IsHeld rows h)
    (stands : StandsAt rows h place) where
  abbrev found : Item
  found = item_at rows (word_of h) place

  there : IsObjectAt rows h place found
  there = stands-item rows h heap held place stands

  pub header-high : 8 ≤ place
  header-high = subst (λ p. 8 ≤ p) there.at (listed-above rows h found heap held there.listed)

  pub header-has : HasWord h.memories (place - 8)
  header-has = subst (λ p. HasWord h.memories (p - 8)) there.at
      (cell_has_word rows h found (found.place - 8) 0 heap held (header-word rows h found true heap held there.listed))

  pub suppressed-at : has_suppressed_bit (word_of h (place - 8)) ≡ is_suppressed_at rows h place
  suppressed-at = suppressed-told rows h place found there

  module _ (flag : Bool) where
    pub flagged-at : HasFlagged rows h (with_flag_at h place flag) place flag
    flagged-at = subst (λ p. HasFlagged rows h (with_flag_at h p flag) p flag) there.at
        (flag-written rows h found flag heap held there.listed)

    pub unmarked-at : IsUnmarked rows h → IsUnmarked rows (with_flag_at h place flag)
    unmarked-at = subst (λ p. IsUnmarked rows h → IsUnmarked rows (with_flag_at h p flag)) there.at
        (flag-unmarked rows h found flag heap held there.listed)

    pub heads-at : AreFreeHeads rows h → AreFreeHeads rows (with_flag_at h place flag)
    heads-at = subst (λ p. AreFreeHeads rows h → AreFreeHeads rows (with_flag_at h p flag)) there.at
        (flag-heads rows h found flag heap held there.listed there.object)

    pub clean-at : (flag ≡ true → is_final_at rows h place ≡ true) → AreClean rows h
        → AreClean rows (with_flag_at h place flag)
    clean-at final = subst (λ p. AreClean rows h → AreClean rows (with_flag_at h p flag)) there.at
        (flag-clean rows h found flag heap held there.listed
        (λ on. final-told rows h place found there ∙ final on))

-- ---- objects that differ in flags alone

module _ {rows : List TypeRow} {old new : HeapView} {place : ℕ} {flag : Bool}
    (is : HasFlagged rows old new place flag) where
  -- objects stand where they stood
  pub flagged_stands : (x : ℕ) → StandsAt rows old x ↔ StandsAt rows new x
  flagged_stands x = (stands-kept rows old new is.items x, stands-kept rows new old (sym is.items) x)
