-- The bit of a pinned object's header: what is left where it is written.
use Rattle.std.proofs.Common.{◌≡◌, ◌↔◌, ℕ, ◌+◌, ◌-◌, ◌/◌, ◌%◌, inl, Bool, true, false, not, ◌&&◌, List}
use Rattle.std.proofs.Common.{if◌then◌else◌, ◌==◌, refl, ap, ◌∙◌, arith, [], ◌∷◌}
use Rattle.std.proofs.lemmas.Bool.{eqb-false, eqb-true}
use Rattle.clr_types.specs.Bits.{pinned_bit, suppressed_bit}
use Rattle.clr_types.specs.Rising.{changed_by, IsIn}
use Rattle.clr_types.specs.Types.{form_at, TypeRow}
use Rattle.clr_types.specs.declared.item.Item.{Item}
use Rattle.clr_heap.specs.View.{heap_items, HeapView, IsHeap, stored, word_of}
use Rattle.clr_model.specs.Machine.{Object}
use Rattle.clr_view.specs.Marks.{Marked}
use Rattle.clr_view.specs.View.{AreFreeHeads, has_suppressed_bit, IsHeld, is_object, layout_in, object_in, objects_in}
use Rattle.clr_view.proofs.FreeHeads.{heads_stored}
use Rattle.clr_view.proofs.Headers.{header-word}
use Rattle.clr_view.proofs.Listed.{listed-above, listed-item}
use Rattle.clr_view.proofs.Slots.{slot-inside, slots-stay}
use Rattle.clr_view.proofs.Stores.{elsewhere, held-stays, items-stay, layout-stays, objects-written, there-now}
use Rattle.clr_view.proofs.Unmarked.{marks_stored}
use Rattle.clr_plan.specs.Pinned.{has_pin}
use Rattle.clr_survivors.specs.Pins.{pinned_header}

-- the bit that suppresses finalisers stays
pub flag-kept : (on : Bool) (header : ℕ) → has_suppressed_bit (pinned_header on header) ≡ has_suppressed_bit header
flag-kept on header = go on (has_pin header) refl
  where
    bit : (a b : ℕ) → a / suppressed_bit % 2 ≡ b / suppressed_bit % 2 → has_suppressed_bit a ≡ has_suppressed_bit b
    bit a b same = ap (λ n. n == 1) same

    go : (on has : Bool) → has_pin header ≡ has
        → has_suppressed_bit (if on && not has then header + pinned_bit
        else if not on && has then header - pinned_bit else header) ≡ has_suppressed_bit header
    go true true is = refl
    go true false is =
        let no = eqb-false (header / pinned_bit % 2) 1 is in
        bit (header + pinned_bit) header (omega arith)
    go false true is =
        let yes = eqb-true (header / pinned_bit % 2) 1 is in
        bit (header - pinned_bit) header (omega arith)
    go false false is = refl

-- nothing changes where each member stays
unchanged : (place : ℕ) (os : List Object) → changed_by (λ o. o.name) place (λ o. o) os ≡ os
unchanged place [] = refl
unchanged place (o ∷ os) = both (o.name == place) (unchanged place os)
  where
    both : (b : Bool) → changed_by (λ q. q.name) place (λ q. q) os ≡ os
        → (if b then o else o) ∷ changed_by (λ q. q.name) place (λ q. q) os ≡ o ∷ os
    both true more = ap (λ (qs : List Object). o ∷ qs) more
    both false more = ap (λ (qs : List Object). o ∷ qs) more

-- What a store into the header of an object leaves, where the flag stays.
pub record HasHeader (rows : List TypeRow) (old new : HeapView) : Type 0 where
  pub objects : objects_in rows new ≡ objects_in rows old
  pub items : heap_items rows new ≡ heap_items rows old
  pub layout : layout_in rows new ≡ layout_in rows old
  pub marks : (x : ℕ) → Marked rows new x ↔ Marked rows old x
  pub free_heads : AreFreeHeads rows old → AreFreeHeads rows new
  pub held : IsHeld rows new

module _ (rows : List TypeRow) (h : HeapView) (i : Item) (v : ℕ) (heap : IsHeap h) (held : IsHeld rows h)
    (listed : IsIn i (heap_items rows h)) (object : is_object i ≡ true)
    (flag : has_suppressed_bit v ≡ has_suppressed_bit (word_of h (i.place - 8))) where
  abbrev a : ℕ
  a = i.place - 8

  same-object : object_in rows (word_of (stored h a v)) i ≡ object_in rows (word_of h) i
  same-object =
      let form = form_at rows i.type_id.0 in
      let up = listed-above rows h i heap held listed in
      let z = (listed-item rows h i heap held listed).aligned in
      let slots = slots-stay form (word_of h) (word_of (stored h a v)) i.place i.len (λ j l.
      let at = slot-inside form i.len i.place j z l in
      let above = at.above in
      elsewhere rows h i a v heap held (header-word rows h i true heap held listed) _ at.aligned
      (λ same. omega arith)) in
      let says : has_suppressed_bit (word_of (stored h a v) a) ≡ has_suppressed_bit (word_of h a) =
      ap has_suppressed_bit (there-now rows h i a v heap held (header-word rows h i true heap held listed)) ∙ flag in
      λ k. record (object_in rows (word_of h) i) { slots = slots k; suppressed = says k }

  pub header_written : HasHeader rows h (stored h a v)
  header_written =
      let word = header-word rows h i true heap held listed in
      record {
        objects = objects-written rows h i a v heap held word (λ o. o) same-object
            ∙ unchanged i.place (objects_in rows h);
        items = items-stay rows h i a v heap held word;
        layout = layout-stays rows h i a v heap held word;
        marks = marks_stored rows h i a v heap held word;
        free_heads = heads_stored rows h i a v heap held word (inl object);
        held = held-stays rows h i a v heap held word;
      }
