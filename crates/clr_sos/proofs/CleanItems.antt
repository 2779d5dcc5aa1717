-- The words of items one by one, and those of all items together.
use Rattle.std.proofs.Common.{◌≡◌, ℕ, ◌+◌, ◌-◌, ◌%◌, ◌<◌, true, false, List, filter, length, sym, ◌∙◌, ap, arith, inl}
use Rattle.std.proofs.Common.{inr}
use Rattle.std.proofs.lemmas.Bool.{both_ways, cases_Bool}
use Rattle.clr_types.specs.Rising.{IsIn}
use Rattle.clr_types.specs.Types.{form_at, has_finalizer, mt_of, type_row, TypeRow}
use Rattle.clr_types.specs.declared.item.Item.{Item}
use Rattle.clr_types.proofs.ChangedLists.{out_of_filter}
use Rattle.clr_types.proofs.ListMembers.{from-map}
use Rattle.clr_heap.specs.Parts.{type_number}
use Rattle.clr_heap.specs.View.{AreWalkable, first_of, heap_items, HeapView, last_of, parts_of, sight, word_of}
use Rattle.clr_model.specs.Machine.{Object}
use Rattle.clr_view.specs.Clean.{AreClean, AreZero, IsCleanHeader, slots_end}
use Rattle.clr_view.specs.Marks.{has_mark, IsUnmarked}
use Rattle.clr_view.specs.View.{AreFreeHeads, is_free, is_object, object_in}
use Rattle.clr_view.proofs.Listed.{item-spelled, listed-in, type-named}
use Rattle.clr_view.proofs.Standing.{stands_from}
use Rattle.clr_view.proofs.Unmarked.{even-mt}

-- The words of an item are clean: nothing in its header but that a finaliser is suppressed, no mark, and no padding
-- that isn't zero.
pub record IsClean (rows : List TypeRow) (h : HeapView) (i : Item) : Type 0 where
  pub header : IsCleanHeader rows i.type_id.0 (word_of h (i.place - 8))
  pub unmarked : word_of h i.place ≡ mt_of i.type_id.0
  pub padding : is_object i ≡ true
      → AreZero (word_of h) (i.place + slots_end (form_at rows i.type_id.0) i.len) (i.place + i.size - 8)

-- free space has no finaliser
free-header : (rows : List TypeRow) (t header : ℕ) → t ≡ 0 → IsCleanHeader rows t header → header ≡ 0
free-header rows t header e (inl none) = none
free-header rows t header e (inr suppressed) =
    absurd (both_ways (has_finalizer (type_row rows t))
    (ap (λ (n : ℕ). has_finalizer (type_row rows n)) e) suppressed.1)

-- the words of all items tell those of each
module _ (rows : List TypeRow) (h : HeapView) (walkable : AreWalkable rows h) (words : AreClean rows h)
    (clear : IsUnmarked rows h) (heads : AreFreeHeads rows h) where
  -- an object's method table word carries no mark
  exact-mt : (i : Item) → IsIn i (heap_items rows h) → is_object i ≡ true → word_of h i.place ≡ mt_of i.type_id.0
  exact-mt i l object =
      let home = listed-in rows h i 0 (length h.segments) l in
      let k : home.0 < length h.segments = let b = home.1 in omega arith in
      let walk = (walkable home.0 k).spelled in
      let s = sight rows h home.0 in
      let ps = parts_of rows h home.0 in
      let mt = (item-spelled s ps i (first_of h home.0) (last_of h home.0) walk home.2).1.mt in
      let number = type-named s ps i (first_of h home.0) (last_of h home.0) walk home.2 in
      let none : has_mark (word_of h i.place) ≡ false = elim (cases_Bool (has_mark (word_of h i.place))) [
        | inl marked ↦ absurd (clear i.place (record { stands = stands_from rows h i l object; mark = marked }))
        | inr off ↦ off
      ] in
      let even : word_of h i.place % 2 ≡ 0 = grind (arith, none) in
      let exact : word_of h i.place ≡ mt_of (type_number (word_of h i.place)) = omega (arith, mt, even) in
      exact ∙ ap mt_of number

  pub clean-each : (i : Item) → IsIn i (heap_items rows h) → IsClean rows h i
  clean-each i l = elim (cases_Bool (is_object i)) [
    | inl object ↦
        let own = words i l object in
        record { header = own.header; unmarked = exact-mt i l object; padding = λ o. own.padding }
    | inr other ↦
        let free : is_free i ≡ true = grind (arith, other) in
        let type : i.type_id.0 ≡ 0 = grind (arith, free) in
        let head = heads i l free in
        record {
          header = inl head.0;
          unmarked = head.1 ∙ ap mt_of (sym type);
          padding = λ o. absurd (both_ways (is_object i) other o);
        }
  ]

-- and the other way round
module _ (rows : List TypeRow) (h : HeapView) (each : (i : Item) → IsIn i (heap_items rows h) → IsClean rows h i) where
  pub clean-all : AreClean rows h
  clean-all i l object = let own = each i l in record { header = own.header; padding = own.padding object }

  pub unmarked-all : IsUnmarked rows h
  unmarked-all x marked =
      let stands = marked.stands in
      let from = from-map (object_in rows (word_of h)) stands.0 (filter is_object (heap_items rows h)) stands.1 in
      let passed = out_of_filter is_object from.0 (heap_items rows h) from.2 in
      let at : from.0.place ≡ x = sym (ap (λ (o : Object). o.place) from.1) ∙ stands.2 in
      let word = (each from.0 passed.1).unmarked in
      let none : has_mark (word_of h x) ≡ false =
      ap (λ (a : ℕ). has_mark (word_of h a)) (sym at) ∙ ap has_mark word ∙ even-mt from.0.type_id.0 in
      both_ways (has_mark (word_of h x)) none marked.mark

  pub heads-all : AreFreeHeads rows h
  heads-all i l free =
      let own = each i l in
      let type : i.type_id.0 ≡ 0 = grind (arith, free) in
      (free-header rows i.type_id.0 (word_of h (i.place - 8)) type own.header, own.unmarked ∙ ap mt_of type)
