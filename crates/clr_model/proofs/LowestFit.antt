-- Where a size fits at some candidate above the pointer, it has a destination: candidates are finitely many.
use Rattle.std.proofs.Common.{◌≡◌, ℕ, ◌+◌, ◌-◌, ◌<◌, ◌≤◌, ◌⊎◌, inl, inr, List, [], ◌∷◌, ◌++◌, map, filter, refl, sym}
use Rattle.std.proofs.Common.{subst, arith, Bool, true, false, nat_le, ◌&&◌, Option, Some, None, MatchOption, IsTrue}
use Rattle.std.specs.List.{list_any}
use Rattle.std.proofs.lemmas.Bool.{and_parts, and_from, leb-true, le-leb, cases_lt, both_ways}
use Rattle.clr_types.specs.Rising.{IsIn, first, later}
use Rattle.clr_types.specs.Ranges.{fits}
use Rattle.clr_types.specs.Segments.{first_place, reserved_end}
use Rattle.clr_types.specs.declared.segment.SegInfo.{SegInfo}
use Rattle.clr_types.proofs.RisingLists.{in_cons}
use Rattle.clr_types.proofs.ListMembers.{from-map, any-from, any-in, in_append, append_right}
use Rattle.clr_types.proofs.ChangedLists.{into_filter, out_of_filter, append_left, IsIn-map}
use Rattle.clr_model.specs.Compaction.{Plug, plug_end, next_pin, FitsAt, IsCandidate, IsDestination}

-- ---- the lowest number that passes a test

module _ (test : ℕ → Bool) where
  abbrev IsLowest : List ℕ → ℕ → Type 0
  IsLowest ns low = IsIn low ns × (test low ≡ true) × ((n : ℕ) → IsIn n ns → test n ≡ true → low ≤ n)

  abbrev HasLowest : List ℕ → Type 0
  HasLowest ns = (low : ℕ) × IsLowest ns low

  abbrev NonePasses : List ℕ → Type 0
  NonePasses ns = (n : ℕ) → IsIn n ns → test n ≡ false

  lowest-or-none : (ns : List ℕ) → NonePasses ns ⊎ HasLowest ns
  lowest-or-none [] = inl (λ n i. elim i [ ])
  lowest-or-none (k ∷ ns) = go (test k) refl (lowest-or-none ns)
    where
      fails : test k ≡ false → NonePasses ns → (n : ℕ) → (n ≡ k) ⊎ IsIn n ns → test n ≡ false
      fails e none n (inl same) = subst (λ m. test m ≡ false) (sym same) e
      fails e none n (inr j) = none n j

      alone : NonePasses ns → (n : ℕ) → (n ≡ k) ⊎ IsIn n ns → test n ≡ true → k ≤ n
      alone none n (inl same) t = omega arith
      alone none n (inr j) t = absurd (both_ways (test n) (none n j) t)

      passed_by : test k ≡ false → (low : ℕ) → IsLowest ns low → (n : ℕ) → (n ≡ k) ⊎ IsIn n ns → test n ≡ true → low ≤ n
      passed_by e low is n (inl same) t =
          absurd (both_ways (test k) e (subst (λ m. test m ≡ true) same t))
      passed_by e low is n (inr j) t = is.2 n j t

      below : (low : ℕ) → IsLowest ns low → k ≤ low → (n : ℕ) → (n ≡ k) ⊎ IsIn n ns → test n ≡ true → k ≤ n
      below low is l n (inl same) t = omega arith
      below low is l n (inr j) t = let m : low ≤ n = is.2 n j t in omega arith

      stays : (low : ℕ) → IsLowest ns low → low < k → (n : ℕ) → (n ≡ k) ⊎ IsIn n ns → test n ≡ true → low ≤ n
      stays low is l n (inl same) t = omega arith
      stays low is l n (inr j) t = is.2 n j t

      either : test k ≡ true → (low : ℕ) → IsLowest ns low → (low < k) ⊎ (k ≤ low) → HasLowest (k ∷ ns)
      either e low is (inl l) = (low, (later is.0, is.1, λ n i. stays low is l n (in_cons i)))
      either e low is (inr l) = (k, (first, e, λ n i. below low is l n (in_cons i)))

      go : (b : Bool) → test k ≡ b → NonePasses ns ⊎ HasLowest ns → NonePasses (k ∷ ns) ⊎ HasLowest (k ∷ ns)
      go false e (inl none) = inl (λ n i. fails e none n (in_cons i))
      go false e (inr (low, is)) = inr (low, (later is.0, is.1, λ n i. passed_by e low is n (in_cons i)))
      go true e (inl none) = inr (k, (first, e, λ n i. alone none n (in_cons i)))
      go true e (inr (low, is)) = inr (either e low is (cases_lt low k))

  -- where a member passes, one that passes is the lowest
  pub lowest : (ns : List ℕ) (n : ℕ) → IsIn n ns → test n ≡ true → HasLowest ns
  lowest ns n i t = go (lowest-or-none ns)
    where
      go : NonePasses ns ⊎ HasLowest ns → HasLowest ns
      go (inl none) = absurd (both_ways (test n) (none n i) t)
      go (inr low) = low

-- ---- whether a size fits at a place, by a test

abbrev has_room : Option Plug → SegInfo → ℕ → ℕ → Bool
has_room None s size place = nat_le (place + size) (reserved_end s)
has_room (Some p) s size place = fits size (p.start - place)

abbrev RoomBefore : Option Plug → SegInfo → ℕ → ℕ → Type 0
RoomBefore pin s size place =
    MatchOption pin (place + size ≤ reserved_end s) (λ p. IsTrue (fits size (p.start - place)))

has_room-true : (pin : Option Plug) (s : SegInfo) (size place : ℕ) → has_room pin s size place ≡ true
    → RoomBefore pin s size place
has_room-true None s size place t = leb-true (place + size) (reserved_end s) t
has_room-true (Some p) s size place t = t

has_room-from : (pin : Option Plug) (s : SegInfo) (size place : ℕ) → RoomBefore pin s size place
    → has_room pin s size place ≡ true
has_room-from None s size place l = le-leb (place + size) (reserved_end s) l
has_room-from (Some p) s size place t = t

module _ (segments : List SegInfo) (all : List Plug) where
  abbrev room_at : ℕ → ℕ → SegInfo → Bool
  room_at size place s = has_room (next_pin all s place) s size place

  abbrev room_in : ℕ → ℕ → SegInfo → Bool
  room_in size place s = nat_le (first_place s) place && (nat_le place (reserved_end s) && room_at size place s)

  abbrev fits_at : ℕ → ℕ → Bool
  fits_at size place = list_any (room_in size place) segments

  fits_at-true : (size place : ℕ) → fits_at size place ≡ true → FitsAt segments all size place
  fits_at-true size place t =
      let (s, i, passes) = any-in (room_in size place) segments t in
      let rest : Bool = nat_le place (reserved_end s) && room_at size place s in
      let (low, more) = and_parts (nat_le (first_place s) place) rest passes in
      let (high, room) = and_parts (nat_le place (reserved_end s)) (room_at size place s) more in (
        s,
        i,
        leb-true (first_place s) place low,
        leb-true place (reserved_end s) high,
        has_room-true (next_pin all s place) s size place room,
      )

  fits_at-from : (size place : ℕ) → FitsAt segments all size place → fits_at size place ≡ true
  fits_at-from size place (s, i, low, high, room) =
      any-from (room_in size place) segments s i
      (and_from (nat_le (first_place s) place) (nat_le place (reserved_end s) && room_at size place s)
      (le-leb (first_place s) place low)
      (and_from (nat_le place (reserved_end s)) (room_at size place s) (le-leb place (reserved_end s) high)
      (has_room-from (next_pin all s place) s size place room)))

  -- ---- the candidates

  abbrev pin_ends : List ℕ
  pin_ends = map plug_end (filter (λ p. p.pinned) all)

  abbrev candidates : ℕ → List ℕ
  candidates pointer = pointer ∷ (pin_ends ++ map first_place segments)

  candidate-is : (pointer n : ℕ) → IsIn n (candidates pointer) → IsCandidate segments all pointer n
  candidate-is pointer n i = go (in_cons i)
    where
      edge : IsIn n pin_ends ⊎ IsIn n (map first_place segments) → IsCandidate segments all pointer n
      edge (inl j) =
          let (p, e, k) = from-map plug_end n (filter (λ (p : Plug). p.pinned) all) j in
          let (pinned, known) = out_of_filter (λ (p : Plug). p.pinned) p all k in inr (inl (p, known, pinned, e))
      edge (inr j) = let (s, e, k) = from-map first_place n segments j in inr (inr (s, k, e))

      go : (n ≡ pointer) ⊎ IsIn n (pin_ends ++ map first_place segments) → IsCandidate segments all pointer n
      go (inl e) = inl e
      go (inr j) = edge (in_append pin_ends j)

  candidate-in : (pointer n : ℕ) → IsCandidate segments all pointer n → IsIn n (candidates pointer)
  candidate-in pointer n (inl e) = subst (λ m. IsIn m (candidates pointer)) (sym e) first
  candidate-in pointer n (inr (inl (p, i, pinned, e))) =
      let known : IsIn p (filter (λ (p : Plug). p.pinned) all) = into_filter (λ (p : Plug). p.pinned) all pinned i in
      later (append_left (map first_place segments) (subst (λ m. IsIn m pin_ends) (sym e) (IsIn-map plug_end known)))
  candidate-in pointer n (inr (inr (s, i, e))) =
      let among : IsIn (first_place s) (map first_place segments) = IsIn-map first_place i in
      later (append_right pin_ends (subst (λ m. IsIn m (map first_place segments)) (sym e) among))

  -- ---- destinations

  abbrev fits_above : ℕ → ℕ → ℕ → Bool
  fits_above pointer size n = nat_le pointer n && fits_at size n

  above-from : (pointer size n : ℕ) → pointer ≤ n → FitsAt segments all size n → fits_above pointer size n ≡ true
  above-from pointer size n l fit =
      and_from (nat_le pointer n) (fits_at size n) (le-leb pointer n l) (fits_at-from size n fit)

  lowest-destination : (pointer size to : ℕ) → IsLowest (fits_above pointer size) (candidates pointer) to
      → IsDestination segments all pointer size to
  lowest-destination pointer size to is =
      let (up, fit) = and_parts (nat_le pointer to) (fits_at size to) is.1 in
      record {
        candidate = candidate-is pointer to is.0;
        not_below = leb-true pointer to up;
        fits = fits_at-true size to fit;
        lowest = λ n c l f. is.2 n (candidate-in pointer n c) (above-from pointer size n l f);
      }

  -- where a size fits at a candidate, it has a destination
  pub destination : (pointer size place : ℕ) → IsCandidate segments all pointer place → pointer ≤ place
      → FitsAt segments all size place → (to : ℕ) × IsDestination segments all pointer size to
  destination pointer size place candidate above fit =
      let passes : fits_above pointer size place ≡ true = above-from pointer size place above fit in
      let among : IsIn place (candidates pointer) = candidate-in pointer place candidate in
      let (to, is) = lowest (fits_above pointer size) (candidates pointer) place among passes in
      (to, lowest-destination pointer size to is)
