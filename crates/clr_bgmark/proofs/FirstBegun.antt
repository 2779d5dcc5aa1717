-- The colours after a first pause are those that it is to give.
use Rattle.std.proofs.Common.{◌≡◌, ℕ, ◌%◌, inl, inr, List, [], ◌∷◌, filter}
use Rattle.std.proofs.Common.{arith, ap, refl, sym, subst, ◌∙◌, Bool, true, false, if◌then◌else◌, ◌||◌, ◌&&◌, not, ◌==◌}
use Rattle.std.proofs.Common.{nat_eq}
use Rattle.std.proofs.lemmas.Bool.{both_ways, cases_Bool, eqb-true, eq-eqb}
use Rattle.clr_types.specs.Rising.{IsIn, first, later}
use Rattle.clr_types.specs.Segments.{generation}
use Rattle.clr_types.specs.Types.{TypeRow}
use Rattle.clr_types.specs.declared.item.Item.{Item}
use Rattle.clr_types.proofs.ChangedLists.{into_filter, out_of_filter, IsIn-map}
use Rattle.clr_types.proofs.RisingLists.{in_cons}
use Rattle.clr_types.proofs.ListMembers.{from-map}
use Rattle.clr_heap.specs.View.{frame, heap_items, HeapView, IsHeap, word_of}
use Rattle.clr_model.specs.Background.{IsBegun}
use Rattle.clr_model.specs.Machine.{Object, Machine}
use Rattle.clr_model.specs.Reach.{Old, Roots}
use Rattle.clr_model.proofs.LawfulSurvivors.{generation-least}
use Rattle.clr_view.specs.View.{IsHeld, is_object, layout_in, object_in, objects_in}
use Rattle.clr_view.proofs.Standing.{mt_in, stands_from}
use Rattle.clr_bgmark.specs.Bits.{has_bit}
use Rattle.clr_bgmark.specs.Pauses.{all_taken, AreShadesOf, is_oldest, taken_item}
use Rattle.clr_bgmark.specs.Scanning.{is_gray_place, is_white_place, marking_in, places_where}
use Rattle.clr_bgmark.specs.Shades.{cell_of, changed_at, is_covered, is_marked, is_scanned, is_taken, ShadeView}
use Rattle.clr_bgmark.specs.Shades.{with_taken}
use Rattle.clr_bgmark.proofs.FirstColours.{IsInFirstPause, take_item}
use Rattle.clr_bgmark.proofs.FirstTaken.{cell_covered}
use Rattle.clr_bgmark.proofs.Kept.{in_cell, or_true, taken_more, told_kept}
use Rattle.clr_bgmark.proofs.Meeting.{HasMet, parts_white, white_parts}
use Rattle.clr_bgmark.proofs.ScannedLists.{marking_apart, named_stands, names, none_passes, own_cell, stands_aligned}

-- ---- the taking

module _ (h : HeapView) (items : List Item) (bare : List ShadeView) where
  -- what is marked stays
  pub taking_marks : (now : List ShadeView) (some : List Item) (b : ℕ)
      → is_marked (all_taken h now some) b ≡ is_marked now b
  taking_marks now [] b = refl
  taking_marks now (i ∷ some) b = taking_marks (taken_item h now i) some b ∙ go (is_oldest h i)
    where
      go : (o : Bool)
          → is_marked (if o then changed_at i.place (with_taken i.place) now else now) b ≡ is_marked now b
      go true =
          told_kept (λ s a. has_bit s.marked (cell_of s a)) (with_taken i.place) (λ s b. refl) (λ s b. refl) now
          i.place b
      go false = refl

  -- what was taken stays so
  taking_stays : (now : List ShadeView) (some : List Item) → IsInFirstPause h items bare now
      → ((i : Item) → IsIn i some → IsIn i items)
      → ((i : Item) → IsIn i items → is_oldest h i ≡ true → is_covered bare i.place ≡ true) → (b : ℕ)
      → is_taken now b ≡ true
      → is_taken (all_taken h now some) b ≡ true
  taking_stays now [] f within covered b e = e
  taking_stays now (i ∷ some) f within covered b e =
      taking_stays (taken_item h now i) some (take_item h items bare now i f (within i first))
      (λ j k. within j (later k))
      covered b (go (is_oldest h i) refl)
    where
      go : (o : Bool) → is_oldest h i ≡ o
          → is_taken (if o then changed_at i.place (with_taken i.place) now else now) b ≡ true
      go true old =
          taken_more now f.shades i.place b (f.covered i.place ∙ covered i (within i first) old)
          ∙ ap (λ (c : Bool). in_cell b i.place || c) e ∙ or_true (in_cell b i.place)
      go false old = e

  -- each object of generation 2 is taken
  pub taking_found : (now : List ShadeView) (some : List Item) → IsInFirstPause h items bare now
      → ((i : Item) → IsIn i some → IsIn i items)
      → ((i : Item) → IsIn i items → is_oldest h i ≡ true → is_covered bare i.place ≡ true) → (i : Item)
      → IsIn i some → is_oldest h i ≡ true
      → is_taken (all_taken h now some) i.place ≡ true
  taking_found now [] f within covered i k old = elim k [ ]
  taking_found now (j ∷ some) f within covered i k old =
      let g = take_item h items bare now j f (within j first) in
      elim (in_cons k) [
        | inl same ↦
            taking_stays (taken_item h now j) some g (λ x l. within x (later l)) covered i.place (
            let old_j : is_oldest h j ≡ true = ap (is_oldest h) (sym same) ∙ old in
            (λ n. is_taken (if old_j n then changed_at j.place (with_taken j.place) now else now) i.place)
            ∙ taken_more now f.shades j.place i.place (f.covered j.place ∙ covered j (within j first) old_j)
            ∙ ap (λ (x : Item). in_cell x.place j.place || is_taken now i.place) same
            ∙ ap (λ (c : Bool). c || is_taken now i.place) (own_cell j.place))
        | inr more ↦ taking_found (taken_item h now j) some g (λ x l. within x (later l)) covered i more old
      ]

-- ---- the colours

module _ (rows : List TypeRow) (h : HeapView) (heap : IsHeap h) (held : IsHeld rows h) (bare : List ShadeView)
    (shapes : AreShadesOf h bare) where
  -- the segments cover the place of each that is to be taken
  pub items_covered : (i : Item) → IsIn i (heap_items rows h) → is_oldest h i ≡ true → is_covered bare i.place ≡ true
  items_covered i k old = cell_covered rows h heap held bare shapes i k i.place (mt_in rows h heap held i k)

  module _ (ss now : List ShadeView) (f : IsInFirstPause h (heap_items rows h) bare ss)
      (unmarked : (b : ℕ) → is_marked ss b ≡ false)
      (found : (i : Item) → IsIn i (heap_items rows h) → is_oldest h i ≡ true → is_taken ss i.place ≡ true)
      (named : ℕ → Type 0) (met : HasMet ss now named) (m : Machine) (objects : m.objects ≡ objects_in rows h)
      (layout : m.layout ≡ layout_in rows h) (to : (b : ℕ) → named b → Roots m b)
      (from : (b : ℕ) → Roots m b → named b) where
    aligned : (b : ℕ) → IsIn b (names rows h heap held) → b % 8 ≡ 0
    aligned b j = stands_aligned rows h heap held b (named_stands rows h heap held b j)

    and_parts : (a b : Bool) → (not a && b) ≡ true → (a ≡ false) × (b ≡ true)
    and_parts true b e = absurd cc
    and_parts false b e = (refl, e)

    -- what is taken is an object of generation 2
    taken_oldest : (b : ℕ) → IsIn b (names rows h heap held) → is_taken ss b ≡ true → Old m 1 b
    taken_oldest b j e =
        let one = f.taken b e in
        let parts = and_parts (nat_eq one.item.type_id.0 0) (generation (frame h) one.item.place == 2) one.oldest in
        let object : is_object one.item ≡ true = ap not parts.0 in
        let stands = stands_from rows h one.item one.listed object in
        let even = stands_aligned rows h heap held one.item.place stands in
        let whole = aligned b j in
        let cell = one.cell in
        let same : one.item.place ≡ b = omega (arith, even, whole, cell) in
        record {
          object = object_in rows (word_of h) one.item;
          present = subst (λ (os : List Object). IsIn (object_in rows (word_of h) one.item) os) (sym objects)
              (IsIn-map (object_in rows (word_of h)) (into_filter is_object (heap_items rows h) object one.listed));
          named = same;
          above =
              let age : generation m.layout one.item.place ≡ 2 =
              (λ i. generation (layout i) one.item.place)
              ∙ eqb-true (generation (frame h) one.item.place) 2 parts.1 in
              omega (arith, age);
        }

    -- and the other way
    oldest_listed : (b : ℕ) → Old m 1 b → IsIn b (names rows h heap held) × (is_taken ss b ≡ true)
    oldest_listed b old =
        let present : IsIn old.object (objects_in rows h) =
        subst (λ (os : List Object). IsIn old.object os) objects old.present in
        let (item, e, j) = from-map (object_in rows (word_of h)) old.object (filter is_object (heap_items rows h))
        present in
        let (passes, listed) = out_of_filter is_object item (heap_items rows h) j in
        let place : old.object.place ≡ item.place = ap (λ (o : Object). o.place) e in
        let same : item.place ≡ b = sym (ap (λ (o : Object). o.name) e) ∙ old.named in
        let above = old.above in
        let most = generation-least m.layout old.object.place in
        let oldest : generation m.layout old.object.place ≡ 2 = omega (arith, above, most) in
        let age : generation (frame h) item.place ≡ 2 =
        (λ i. generation (sym layout i) (sym place i)) ∙ oldest in
        let is : is_oldest h item ≡ true = (λ i. passes i && (generation (frame h) item.place == 2))
        ∙ eq-eqb (generation (frame h) item.place) 2 age in (
          subst (λ (n : ℕ). IsIn n (names rows h heap held)) old.named (IsIn-map (λ (o : Object). o.name) present),
          subst (λ (n : ℕ). is_taken ss n ≡ true) same (found item listed is),
        )

    white_before : (b : ℕ) → is_taken ss b ≡ true → is_white_place ss b ≡ true
    white_before b e = parts_white ss b (record { taken = e; unmarked = unmarked b; unscanned = f.scanned b })

    dark : (b : ℕ) → is_scanned now b ≡ false
    dark b = met.scanned b ∙ f.scanned b

    and_left : (a b : Bool) → (a && b) ≡ true → a ≡ true
    and_left true b e = refl
    and_left false b e = absurd cc

    gray_forth : (b : ℕ) → IsIn b (places_where (is_gray_place now) (objects_in rows h)) → Old m 1 b × Roots m b
    gray_forth b j =
        let (e, i) = out_of_filter (is_gray_place now) b (names rows h heap held) j in
        elim (met.fresh b (aligned b i) (and_left (is_marked now b) (not (is_scanned now b)) e)) [
          | inl was ↦ absurd (both_ways (is_marked ss b) (unmarked b) was)
          | inr p ↦ (taken_oldest b i (white_parts ss b p.1).taken, to b p.0)
        ]

    gray_back : (b : ℕ) → Old m 1 b × Roots m b → IsIn b (places_where (is_gray_place now) (objects_in rows h))
    gray_back b p =
        let (i, e) = oldest_listed b p.0 in
        let marked : is_marked now b ≡ true = met.found b (from b p.1) (white_before b e) in
        let gray : is_gray_place now b ≡ true = (λ n. marked n && not (dark b n)) in
        into_filter (is_gray_place now) (names rows h heap held) gray i

    white_forth : (b : ℕ) → IsIn b (places_where (is_white_place now) (objects_in rows h))
        → Old m 1 b × (Roots m b → ⊥)
    white_forth b j =
        let (e, i) = out_of_filter (is_white_place now) b (names rows h heap held) j in
        let w = white_parts now b e in
        let was : is_taken ss b ≡ true = sym (met.taken b) ∙ w.taken in (
          taken_oldest b i was,
          λ root. both_ways (is_marked now b) w.unmarked (met.found b (from b root) (white_before b was)),
        )

    white_back : (b : ℕ) → Old m 1 b × (Roots m b → ⊥)
        → IsIn b (places_where (is_white_place now) (objects_in rows h))
    white_back b p =
        let (i, e) = oldest_listed b p.0 in
        into_filter (is_white_place now) (names rows h heap held)
        (parts_white now b (record {
          taken = met.taken b ∙ e;
          unmarked = elim (cases_Bool (is_marked now b)) [
            | inl marked ↦ absurd (elim (met.fresh b (aligned b i) marked) [
              | inl was ↦ both_ways (is_marked ss b) (unmarked b) was
              | inr q ↦ p.1 (to b q.0)
            ])
            | inr no_mark ↦ no_mark
          ];
          unscanned = dark b;
        })) i

    pub first_begun : IsBegun m (marking_in (objects_in rows h) now)
    first_begun = record {
      apart = marking_apart rows h heap held now;
      gray = λ b. (gray_forth b, gray_back b);
      white = λ b. (white_forth b, white_back b);
      black = none_passes (is_scanned now) (names rows h heap held) dark;
    }
