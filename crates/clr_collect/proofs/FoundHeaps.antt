-- A heap in which exactly what the bits of a background collection tell as found is marked. No code builds it.
use Rattle.std.proofs.Common.{◌≡◌, ◌↔◌, ◌⊎◌, inl, inr, ℕ, ◌%◌, List, [], ◌∷◌, Bool, true, refl, ap, subst, sym, ◌∙◌}
use Rattle.std.proofs.Common.{filter, map}
use Rattle.clr_types.specs.Rising.{first, IsIn, later}
use Rattle.clr_types.specs.Types.{TypeRow}
use Rattle.clr_types.proofs.ChangedLists.{IsIn-map, into_filter, out_of_filter}
use Rattle.clr_types.proofs.ListMembers.{from-map}
use Rattle.clr_heap.specs.Parts.{item_at}
use Rattle.clr_heap.specs.View.{HeapView, IsHeap, word_of}
use Rattle.clr_model.specs.Machine.{Object}
use Rattle.clr_view.specs.Marks.{Marked}
use Rattle.clr_view.specs.SlotValues.{StandsAt}
use Rattle.clr_view.specs.View.{IsHeld, objects_in}
use Rattle.clr_view.proofs.Standing.{standing}
use Rattle.clr_view.proofs.ObjectItems.{stands-item}
use Rattle.clr_mark.specs.Marks.{IsRemarked, with_mark}
use Rattle.clr_bgmark.specs.LastPause.{HasMarked}
use Rattle.clr_bgmark.specs.Pauses.{IsFound}
use Rattle.clr_bgmark.specs.Scanning.{AreObjects}
use Rattle.clr_bgmark.specs.Shades.{is_marked, ShadeView}
use Rattle.clr_bgmark.proofs.EachMarked.{IsMarking, marking_begins, marking_ends, marking_goes, marking_heap}
use Rattle.clr_bgmark.proofs.EachMarked.{marking_held, marking_stands, one_marked}

module _ (rows : List TypeRow) (h : HeapView) (heap : IsHeap h) (held : IsHeld rows h) where
  -- all of these places are marked, one after the other
  mark_places : (All : ℕ → Type 0) → ((x : ℕ) → All x → StandsAt rows h x) → (xs : List ℕ)
      → ((x : ℕ) → IsIn x xs → All x) → (now : HeapView) → IsMarking rows All (λ x. IsIn x xs) h now
      → (v : HeapView) × HasMarked rows All h v
  mark_places All stands [] among now r = (now, marking_ends rows All (λ x. IsIn x []) h now r (λ x i. elim i [ ]))
  mark_places All stands (y ∷ ys) among now r =
      let here : StandsAt rows now y =
      marking_stands rows All (λ x. IsIn x (y ∷ ys)) h now heap held r y (stands y (among y first)) in
      mark_places All stands ys (λ x i. among x (later i)) (with_mark now 2 y)
      (marking_goes rows All (λ x. IsIn x (y ∷ ys)) (λ x. IsIn x ys) (λ x. x ≡ y) h now (with_mark now 2 y) heap held r
      (one_marked rows now (with_mark now 2 y) y (marking_heap rows All (λ x. IsIn x (y ∷ ys)) h now heap r)
      (marking_held rows All (λ x. IsIn x (y ∷ ys)) h now heap held r) here refl)
      (λ x e. subst All (sym e) (among y first))
      (λ x i. one x i))
    where
      one : (x : ℕ) → IsIn x (y ∷ ys) → (x ≡ y) ⊎ IsIn x ys
      one x first = inl refl
      one x (later i) = inr i

  module _ (ss : List ShadeView) (known : AreObjects rows h ss) where
    found_stands : (x : ℕ) → IsFound ss x → StandsAt rows h x
    found_stands x (aligned, marked) = known.marked x aligned marked

    -- the places of the objects that are found
    abbrev found_here : Object → Bool
    found_here o = is_marked ss o.place

    abbrev found_places : List ℕ
    found_places = map (λ (o : Object). o.place) (filter found_here (objects_in rows h))

    -- what stands, stands at a multiple of 8
    stands_aligned : (x : ℕ) → StandsAt rows h x → x % 8 ≡ 0
    stands_aligned x s =
        let i = item_at rows (word_of h) x in
        let at = stands-item rows h heap held x s in
        subst (λ a. a % 8 ≡ 0) at.at (standing rows h heap held i at.listed).aligned

    found_among : (x : ℕ) → IsIn x found_places → IsFound ss x
    found_among x i =
        let (o, e, j) = from-map (λ (o : Object). o.place) x (filter found_here (objects_in rows h)) i in
        let (marked, here) = out_of_filter found_here o (objects_in rows h) j in
        let stands : StandsAt rows h x = (o, here, sym e) in
        (stands_aligned x stands, ap (is_marked ss) e ∙ marked)

    among_found : (x : ℕ) → IsFound ss x → IsIn x found_places
    among_found x (aligned, marked) =
        let (o, here, at) = known.marked x aligned marked in
        subst (λ a. IsIn a found_places) at
        (IsIn-map (λ (o : Object). o.place) (into_filter found_here (objects_in rows h) (ap (is_marked ss) at ∙ marked)
        here))

    -- the heap with marks on what is found
    pub found_heap : (v : HeapView) × HasMarked rows (IsFound ss) h v
    found_heap =
        mark_places (IsFound ss) found_stands found_places found_among h (record {
          words = (marking_begins rows (IsFound ss) h).words;
          kept = λ x m. m;
          only = λ x m. inl m;
          found = λ x f. inl (among_found x f);
        })

    -- and where nothing was marked before, exactly that is marked
    pub found_marks : (v : HeapView) → HasMarked rows (IsFound ss) h v → ((x : ℕ) → Marked rows h x → ⊥)
        → (x : ℕ) → Marked rows v x ↔ IsFound ss x
    found_marks v r clear x = (
      λ m. elim (r.only x m) [ inl was ↦ absurd (clear x was) | inr found ↦ found ],
      λ found. r.found x found,
    )
