-- Segments of a lawful layout: any two lie apart, and one of them is the ephemeral one.
use Rattle.std.proofs.Common.{◌≡◌, ◌≢◌, ℕ, ◌<◌, ◌≤◌, ◌⊎◌, inl, inr, List, [], ◌∷◌, length, find, refl, sym, ap, subst}
use Rattle.std.proofs.Common.{arith, Bool, true, false, nat_le, nat_lt, if◌then◌else◌, Some}
use Rattle.std.proofs.lemmas.Bool.{and_parts, and_from, leb-true, ltb-true, le-leb, lt-ltb, cases_Bool}
use Rattle.clr_types.specs.Rising.{IsIn, first, later}
use Rattle.clr_types.specs.Segments.{Layout, first_place, reserved_end, same_kind, stands_in, segment_or_empty}
use Rattle.clr_types.specs.Segments.{segments_of, segment_of, ephemeral}
use Rattle.clr_types.specs.LawfulLayout.{AreDisjoint, IsLawfulSegment, IsLawfulLayout}
use Rattle.clr_types.specs.declared.segment.SegInfo.{SegInfo}
use Rattle.clr_types.specs.declared.segment.SegKind.TheVariants.{Ephemeral}
use Rattle.clr_types.proofs.RisingLists.{all_at, in_cons}
use Rattle.clr_types.proofs.ChangedLists.{out_of_filter}

-- one segment lies wholly below the other
abbrev pub AreSeparate : SegInfo → SegInfo → Type 0
AreSeparate s t = (s ≡ t) ⊎ ((reserved_end s ≤ t.base) ⊎ (reserved_end t ≤ s.base))

-- of two segments one lies below the other
pub disjoint-separate : (ss : List SegInfo) (s t : SegInfo) → AreDisjoint ss → IsIn s ss → IsIn t ss → AreSeparate s t
disjoint-separate ss s t d first first = inl refl
disjoint-separate (r ∷ ss) s t d first (later j) = inr (inl (all_at (λ (u : SegInfo). reserved_end s ≤ u.base) j d.0))
disjoint-separate (r ∷ ss) s t d (later i) first = inr (inr (all_at (λ (u : SegInfo). reserved_end t ≤ u.base) i d.0))
disjoint-separate (r ∷ ss) s t d (later i) (later j) = disjoint-separate ss s t d.1 i j

-- a list of one element is that element alone
pub one_alone : (ss : List SegInfo) → length ss ≡ 1 → ss ≡ segment_or_empty ss ∷ []
one_alone [] e = absurd (omega arith)
one_alone (s ∷ []) e = refl
one_alone (s ∷ r ∷ ss) e = absurd (omega (arith, e))

-- what a place in a segment lies between
pub stands-between : (s : SegInfo) (place : ℕ) → stands_in s place ≡ true
    → (first_place s ≤ place) × (place < reserved_end s)
stands-between s place e =
    let (low, high) = and_parts (nat_le (first_place s) place) (nat_lt place (reserved_end s)) e in
    (leb-true (first_place s) place low, ltb-true place (reserved_end s) high)

pub between-stands : (s : SegInfo) (place : ℕ) → first_place s ≤ place → place < reserved_end s
    → stands_in s place ≡ true
between-stands s place low high =
    and_from (nat_le (first_place s) place) (nat_lt place (reserved_end s)) (le-leb (first_place s) place low)
    (lt-ltb place (reserved_end s) high)

-- where one member alone passes the test, the search finds it
pub found_one : (test : SegInfo → Bool) (ss : List SegInfo) (s : SegInfo) → IsIn s ss → test s ≡ true
    → ((r : SegInfo) → IsIn r ss → test r ≡ true → r ≡ s) → find test ss ≡ Some s
found_one test [] s i passes one = elim i [ ]
found_one test (r ∷ ss) s i passes one =
    go (test r) refl (in_cons i) (λ j. found_one test ss s j passes (λ u k. one u (later k)))
  where
    go : (b : Bool) → test r ≡ b → (s ≡ r) ⊎ IsIn s ss → (IsIn s ss → find test ss ≡ Some s)
        → (if b then Some r else find test ss) ≡ Some s
    go true e j more = ap (λ u. Some u) (one r first e)
    go false e (inl same) more = let passes_r : test r ≡ true = subst (λ u. test u ≡ true) same passes in absurd cc
    go false e (inr j) more = more j

module _ (layout : Layout) (h : IsLawfulLayout layout) where
  pub separate : (s t : SegInfo) → IsIn s layout.segments → IsIn t layout.segments → AreSeparate s t
  separate s t = disjoint-separate layout.segments s t h.disjoint

  pub lawful_segment : (s : SegInfo) → IsIn s layout.segments → IsLawfulSegment s
  lawful_segment s i = all_at IsLawfulSegment i h.segments

  -- the ephemeral segment is the one of its kind
  pub ephemerals-are : segments_of Ephemeral layout ≡ ephemeral layout ∷ []
  ephemerals-are = one_alone (segments_of Ephemeral layout) h.one_ephemeral

  ephemeral-found : (same_kind Ephemeral (ephemeral layout).kind ≡ true) × IsIn (ephemeral layout) layout.segments
  ephemeral-found = out_of_filter (λ (s : SegInfo). same_kind Ephemeral s.kind) (ephemeral layout) layout.segments
      (subst (IsIn (ephemeral layout)) (sym ephemerals-are) first)

  pub ephemeral-in : IsIn (ephemeral layout) layout.segments
  ephemeral-in = ephemeral-found.1

  pub ephemeral-kind : same_kind Ephemeral (ephemeral layout).kind ≡ true
  ephemeral-kind = ephemeral-found.0

  -- segments of one base are one
  pub one_base : (s t : SegInfo) → IsIn s layout.segments → IsIn t layout.segments → s.base ≡ t.base → s ≡ t
  one_base s t i j same = go (separate s t i j)
    where
      go : AreSeparate s t → s ≡ t
      go (inl e) = e
      go (inr (inl l)) = let big : 262144 ≤ s.reserved = (lawful_segment s i).least in absurd (omega arith)
      go (inr (inr l)) = let big : 262144 ≤ t.reserved = (lawful_segment t j).least in absurd (omega arith)

  -- a place stands in one segment at most
  pub one_home : (s t : SegInfo) (place : ℕ) → IsIn s layout.segments → IsIn t layout.segments
      → stands_in s place ≡ true → stands_in t place ≡ true → s ≡ t
  one_home s t place i j in_s in_t = go (separate s t i j)
    where
      go : AreSeparate s t → s ≡ t
      go (inl e) = e
      go (inr (inl l)) =
          let (low, high) = stands-between t place in_t in
          let (low_s, high_s) = stands-between s place in_s in absurd (omega arith)
      go (inr (inr l)) =
          let (low, high) = stands-between t place in_t in
          let (low_s, high_s) = stands-between s place in_s in absurd (omega arith)

  pub elsewhere : (s t : SegInfo) (place : ℕ) → IsIn s layout.segments → IsIn t layout.segments → s.base ≢ t.base
      → stands_in t place ≡ true → stands_in s place ≡ false
  elsewhere s t place i j apart in_t =
      elim (cases_Bool (stands_in s place)) [
        | inl in_s ↦ absurd (apart (ap (λ (u : SegInfo). u.base) (one_home s t place i j in_s in_t)))
        | inr out ↦ out
      ]

  -- the segment of a place in which it stands
  pub segment_of-home : (s : SegInfo) (place : ℕ) → IsIn s layout.segments → stands_in s place ≡ true
      → segment_of layout place ≡ Some s
  segment_of-home s place i e = found_one (λ (u : SegInfo). stands_in u place) layout.segments s i e
      (λ r j f. one_home r s place j i f e)
