-- The last pause starts at what the marking has marked: the found places are the gray and the black objects.
use Rattle.std.proofs.Common.{◌≡◌, ℕ, ◌%◌, ◌⊎◌, inl, inr, List, refl, Bool, true, false, ◌&&◌, not, ◌↔◌}
use Rattle.std.proofs.lemmas.Bool.{cases_Bool}
use Rattle.clr_types.specs.Rising.{IsIn}
use Rattle.clr_types.specs.Types.{TypeRow}
use Rattle.clr_types.proofs.ChangedLists.{into_filter, out_of_filter}
use Rattle.clr_heap.specs.View.{HeapView, IsHeap}
use Rattle.clr_view.specs.View.{IsHeld, objects_in}
use Rattle.clr_bgmark.specs.Pauses.{IsFound}
use Rattle.clr_bgmark.specs.Scanning.{AreObjects, is_gray_place, marking_in}
use Rattle.clr_bgmark.specs.Shades.{is_marked, is_scanned, ShadeView}
use Rattle.clr_bgmark.proofs.ScannedLists.{named_stands, names, stands_aligned, stands_named}

module _ (rows : List TypeRow) (h : HeapView) (heap : IsHeap h) (held : IsHeld rows h) (ss : List ShadeView)
    (known : AreObjects rows h ss) where
  aligned : (b : ℕ) → IsIn b (names rows h heap held) → b % 8 ≡ 0
  aligned b j = stands_aligned rows h heap held b (named_stands rows h heap held b j)

  and_left : (a b : Bool) → (a && b) ≡ true → a ≡ true
  and_left true b e = refl
  and_left false b e = absurd cc

  forth : (y : ℕ) → IsFound ss y
      → IsIn y (marking_in (objects_in rows h) ss).gray ⊎ IsIn y (marking_in (objects_in rows h) ss).black
  forth y f =
      let there = stands_named rows h heap held y (known.marked y f.0 f.1) in
      elim (cases_Bool (is_scanned ss y)) [
        | inl was ↦ inr (into_filter (is_scanned ss) (names rows h heap held) was there)
        | inr never ↦
            let gray : is_gray_place ss y ≡ true = (λ i. f.1 i && not (never i)) in
            inl (into_filter (is_gray_place ss) (names rows h heap held) gray there)
      ]

  back : (y : ℕ)
      → IsIn y (marking_in (objects_in rows h) ss).gray ⊎ IsIn y (marking_in (objects_in rows h) ss).black
      → IsFound ss y
  back y (inl gray) =
      let (e, j) = out_of_filter (is_gray_place ss) y (names rows h heap held) gray in
      (aligned y j, and_left (is_marked ss y) (not (is_scanned ss y)) e)
  back y (inr black) =
      let (e, j) = out_of_filter (is_scanned ss) y (names rows h heap held) black in
      (aligned y j, known.black y (aligned y j) e)

  pub found_is_marked : (y : ℕ) → IsFound ss y
      ↔ (IsIn y (marking_in (objects_in rows h) ss).gray ⊎ IsIn y (marking_in (objects_in rows h) ss).black)
  found_is_marked y = (forth y, back y)
