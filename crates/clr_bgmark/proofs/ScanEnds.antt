-- Each scan leaves fewer objects that aren't black.
use Rattle.std.proofs.Common.{◌≡◌, ℕ, ◌<◌, ◌≤◌, ◌⊎◌, Bool, true, false, not, if◌then◌else◌, List, [], ◌∷◌, filter}
use Rattle.std.proofs.Common.{length, refl, ap, subst, inl, inr, arith}
use Rattle.std.proofs.lemmas.Bool.{both_ways, cases_Bool}
use Rattle.clr_types.specs.Rising.{IsIn, first, later}
use Rattle.clr_types.specs.Types.{TypeRow}
use Rattle.clr_types.proofs.ChangedLists.{into_filter, out_of_filter}
use Rattle.clr_types.proofs.RisingLists.{in_cons}
use Rattle.clr_heap.specs.View.{HeapView, IsHeap}
use Rattle.clr_view.specs.View.{IsHeld, objects_in}
use Rattle.clr_bgmark.specs.Closing.{IsAtWork}
use Rattle.clr_bgmark.specs.Scanning.{HasScannedOne, is_gray_place, places_where}
use Rattle.clr_bgmark.specs.Shades.{BackgroundView, is_scanned, ShadeView}
use Rattle.clr_bgmark.proofs.ScannedLists.{gray_parts, names}

-- how many objects of a heap aren't black
unfoldable pub left_over : List TypeRow → HeapView → List ShadeView → ℕ
left_over rows h ss = length (places_where (λ a. not (is_scanned ss a)) (objects_in rows h))

-- ---- lists

no_more : (p q : ℕ → Bool) (xs : List ℕ) → ((y : ℕ) → IsIn y xs → q y ≡ true → p y ≡ true)
    → length (filter q xs) ≤ length (filter p xs)
no_more p q [] on = omega arith
no_more p q (x ∷ xs) on = go (q x) refl (p x) refl (no_more p q xs (λ y i. on y (later i)))
  where
    go : (b : Bool) → q x ≡ b → (d : Bool) → p x ≡ d → length (filter q xs) ≤ length (filter p xs)
        → length (if b then x ∷ filter q xs else filter q xs) ≤ length (if d then x ∷ filter p xs else filter p xs)
    go true f true g l = omega (arith, l)
    go true f false g l = absurd (both_ways (p x) g (on x first f))
    go false f true g l = omega (arith, l)
    go false f false g l = l

-- one member fewer passes
fewer_pass : (p q : ℕ → Bool) (xs : List ℕ) → ((y : ℕ) → IsIn y xs → q y ≡ true → p y ≡ true) → (x : ℕ) → IsIn x xs
    → p x ≡ true → q x ≡ false → length (filter q xs) < length (filter p xs)
fewer_pass p q [] on x i good bad = elim i [ ]
fewer_pass p q (y ∷ xs) on x i good bad =
    go (q y) refl (p y) refl (in_cons i) (no_more p q xs (λ z j. on z (later j)))
    (λ j. fewer_pass p q xs (λ z l. on z (later l)) x j good bad)
  where
    go : (b : Bool) → q y ≡ b → (d : Bool) → p y ≡ d → (x ≡ y) ⊎ IsIn x xs
        → length (filter q xs) ≤ length (filter p xs)
        → (IsIn x xs → length (filter q xs) < length (filter p xs))
        → length (if b then y ∷ filter q xs else filter q xs) < length (if d then y ∷ filter p xs else filter p xs)
    go true f true g (inl is) l more = absurd (both_ways (q y) (subst (λ n. q n ≡ false) is bad) f)
    go true f true g (inr j) l more = let less = more j in omega (arith, less)
    go true f false g at l more = absurd (both_ways (p y) g (on y first f))
    go false f true g at l more = omega (arith, l)
    go false f false g (inl is) l more = absurd (both_ways (p y) g (subst (λ n. p n ≡ true) is good))
    go false f false g (inr j) l more = more j

-- ---- a scan

pub fewer_left : (rows : List TypeRow) (h : HeapView) → IsHeap h → IsHeld rows h → (v w : BackgroundView)
    → IsAtWork rows h v → HasScannedOne (objects_in rows h) v.shades w.shades
    → left_over rows h w.shades < left_over rows h v.shades
unfolding left_over
fewer_left rows h heap held v w work one =
    let (m, types, same, law) = work.log in
    let scans = one m same in
    let ns = names rows h heap held in
    let x : ℕ = scans.scanned in
    let (gray, there) = out_of_filter (is_gray_place v.shades) x ns scans.was_gray in
    let black = (out_of_filter (is_scanned w.shades) x ns ((scans.black x).1 (inr refl))).0 in
    fewer_pass (λ a. not (is_scanned v.shades a)) (λ a. not (is_scanned w.shades a)) ns (λ y i off.
    elim (cases_Bool (is_scanned v.shades y)) [
      | inl was ↦
          let stays = (out_of_filter (is_scanned w.shades) y ns
          ((scans.black y).1 (inl (into_filter (is_scanned v.shades) ns was i)))).0 in
          absurd (both_ways (not (is_scanned w.shades y)) (ap not stays) off)
      | inr never ↦ ap not never
    ]) x there (ap not (gray_parts v.shades x gray).1) (ap not black)
