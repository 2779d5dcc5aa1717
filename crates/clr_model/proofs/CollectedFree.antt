-- The free items that a compaction leaves in the condemned parts of the small heap: each lies right before a pinned
-- object.
use Rattle.std.proofs.Common.{◌≡◌, ℕ, ◌≤◌, ◌⊎◌, inl, inr, List, [], ◌∷◌, ◌++◌, refl, sym, subst, ◌∙◌, Bool, true, false}
use Rattle.std.proofs.Common.{if◌then◌else◌, filter, ◌&&◌, not, ◌==◌, nat_le}
use Rattle.std.proofs.lemmas.Bool.{eqb-true, and_parts, both_ways}
use Rattle.std.specs.List.{flat_map}
use Rattle.clr_types.specs.Rising.{IsIn, first, later}
use Rattle.clr_types.specs.Ranges.{Piece, piece_end}
use Rattle.clr_types.specs.declared.segment.SegInfo.{SegInfo}
use Rattle.clr_types.specs.declared.segment.SegKind.{SegKind}
use Rattle.clr_types.specs.Segments.{Layout, stands_in, is_large_or_pinned, is_small_or_ephemeral}
use Rattle.clr_types.proofs.SortedLists.{out_of_sorted_by}
use Rattle.clr_types.proofs.ChangedLists.{append_left, IsIn-map, into_filter, out_of_filter}
use Rattle.clr_types.proofs.ListMembers.{in_append, append_right, any-in}
use Rattle.clr_types.proofs.SegmentFacts.{one_home}
use Rattle.clr_model.specs.Machine.{Machine, Object}
use Rattle.clr_model.specs.Lookups.{is_pinned}
use Rattle.clr_model.specs.Lawful.{IsLaid}
use Rattle.clr_model.specs.Sweep.{survivors, part_start, has_condemned_part, is_in_part, free_after, taking_part}
use Rattle.clr_model.specs.Sweep.{swept_free, swept_others}
use Rattle.clr_model.specs.Compaction.{Move, IsCompacted, compacted_free}
use Rattle.clr_model.specs.Collection.{object_after, objects_after, released}
use Rattle.clr_model.proofs.MovedPlaces.{IsBehind, free_before_object}
use Rattle.clr_model.proofs.CollectedLayout.{large_fresh, large-not_small, whole_after}

-- what stands among the free items afterwards stood there outside of the parts, or is new
pub after-is : (kinds : SegKind → Bool) (layout : Layout) (g : ℕ) (fresh : List Piece) (p : Piece)
    → IsIn p (free_after kinds layout g fresh)
    → ((is_in_part kinds layout g p ≡ false) × IsIn p layout.free) ⊎ IsIn p fresh
after-is kinds layout g fresh p i =
    elim (in_append (filter (λ p. not (is_in_part kinds layout g p)) layout.free)
    (out_of_sorted_by (λ (p : Piece). p.place) p
    (filter (λ p. not (is_in_part kinds layout g p)) layout.free ++ fresh) i)) [
      | inl j ↦ let (e, k) = out_of_filter (λ p. not (is_in_part kinds layout g p)) p layout.free j in
          inl (negated (is_in_part kinds layout g p) e, k)
      | inr j ↦ inr j
    ]
  where
    negated : (b : Bool) → not b ≡ true → b ≡ false
    negated true e = absurd cc
    negated false e = refl

-- a flat list's member comes from one of its parts
pub from_part : {X Y : Type 0} (f : X → List Y) (xs : List X) (y : Y) → IsIn y (flat_map f xs)
    → (x : X) × IsIn x xs × IsIn y (f x)
from_part f [] y i = elim i [ ]
from_part f (x ∷ xs) y i = go (in_append (f x) i) (from_part f xs y)
  where
    go : IsIn y (f x) ⊎ IsIn y (flat_map f xs) → (IsIn y (flat_map f xs) → (z : _) × IsIn z xs × IsIn y (f z))
        → (z : _) × IsIn z (x ∷ xs) × IsIn y (f z)
    go (inl j) more = (x, first, j)
    go (inr j) more = let (z, k, n) = more j in (z, later k, n)

-- and a part's member is one of the flat list
pub into_parts : {X Y : Type 0} (f : X → List Y) (x : X) (y : Y) (xs : List X) → IsIn x xs → IsIn y (f x)
    → IsIn y (flat_map f xs)
into_parts f x y [] i j = elim i [ ]
into_parts f x y (z ∷ xs) first j = append_left (flat_map f xs) j
into_parts f x y (z ∷ xs) (later i) j = append_right (f z) (into_parts f x y xs i j)

module _ (m : Machine) (h : IsLaid m) (g : ℕ) (least : g ≤ 2) (keeps : ℕ
    → Bool) (moves : List Move) (small : Layout) (c : IsCompacted m.layout g (survivors m g keeps) moves small) where
  abbrev in_small_part : Piece → Bool
  in_small_part p = is_in_part is_small_or_ephemeral m.layout g p

  -- right behind a new free item of the small heap stands a pinned object
  small_free : (p : Piece) → IsIn p small.free → in_small_part p ≡ true
      → (o : Object) × IsBehind m h g least keeps moves small c p o
  small_free p i part = go (after-is is_small_or_ephemeral m.layout g
      (flat_map (compacted_free m.layout g small.start0 c.plugs moves) c.segments) p (subst (IsIn p) c.free i))
    where
      go : ((in_small_part p ≡ false) × IsIn p m.layout.free)
          ⊎ IsIn p (flat_map (compacted_free m.layout g small.start0 c.plugs moves) c.segments)
          → (o : Object) × IsBehind m h g least keeps moves small c p o
      go (inl (away, j)) = absurd (both_ways (in_small_part p) away part)
      go (inr j) =
          let (s, k, n) = from_part (compacted_free m.layout g small.start0 c.plugs moves) c.segments p j in
          free_before_object m h g least keeps moves small c s k p n

  -- no free item of the large heap stands in a part of the small one
  whole_free : (objects : List Object) (p : Piece) → IsIn p (whole_after g (survivors m g keeps) small objects).free
      → in_small_part p ≡ true → IsIn p small.free
  whole_free objects p i part = go (g == 2) refl i
    where
      large_away : (s : SegInfo) × (is_large_or_pinned s.kind ≡ true) × IsIn s m.layout.segments
          × (stands_in s p.place ≡ true) → ⊥
      large_away (s, kind, known, stands) =
          let (t, j, e) = any-in (λ (s : SegInfo). is_small_or_ephemeral s.kind &&
          (has_condemned_part g s && (stands_in s p.place && nat_le (part_start m.layout g s) p.place)))
          m.layout.segments part in
          let (small_kind, rest) = and_parts (is_small_or_ephemeral t.kind)
          (has_condemned_part g t && (stands_in t p.place && nat_le (part_start m.layout g t) p.place)) e in
          let (condemned, at) = and_parts (has_condemned_part g t)
          (stands_in t p.place && nat_le (part_start m.layout g t) p.place) rest in
          let (stands_t, above) = and_parts (stands_in t p.place) (nat_le (part_start m.layout g t) p.place) at in
          let same : t ≡ s = one_home m.layout h.layout t s p.place j known stands_t stands in
          both_ways (is_small_or_ephemeral s.kind) (large-not_small s.kind kind)
          (subst (λ (u : SegInfo). is_small_or_ephemeral u.kind ≡ true) same small_kind)

      fresh_at : ℕ → List Piece
      fresh_at n = flat_map (swept_free small 2 (survivors m n keeps)) (taking_part (is_large_or_pinned) 2 small)

      two : (e : g ≡ 2) → IsIn p (fresh_at g)
          → (s : SegInfo) × (is_large_or_pinned s.kind ≡ true) × IsIn s m.layout.segments × (stands_in s p.place ≡ true)
      two e j = large_fresh m h keeps moves small true
          (subst (λ n. IsCompacted m.layout n (survivors m n keeps) moves small) e c) p
          (subst (λ n. IsIn p (fresh_at n)) e j)

      go : (b : Bool) → (g == 2) ≡ b → IsIn p
          (if b then released (swept_others small 2 (survivors m g keeps)) objects else small).free
          → IsIn p small.free
      go false e j = j
      go true e j =
          elim (after-is (is_large_or_pinned) small 2 (fresh_at g) p j) [
            | inl k ↦ k.1
            | inr k ↦ absurd (large_away (two (eqb-true g 2 e) k))
          ]

  -- Right behind a free item of the condemned parts stands a pinned object, also after the whole collection.
  pub free_before_pinned : (alive : ℕ → Bool) (objects : List Object) (p : Piece)
      → IsIn p (whole_after g (survivors m g keeps) small objects).free → in_small_part p ≡ true
      → (o : Object) × IsIn o (objects_after m alive keeps moves) × (o.place ≡ piece_end p)
      × (is_pinned m o.name ≡ true)
  free_before_pinned alive objects p i part =
      let (o, is) = small_free p (whole_free objects p i part) part in (
        object_after m alive moves o,
        IsIn-map (object_after m alive moves)
            (into_filter (λ (o : Object). keeps o.name) m.objects is.kept_on is.present),
        is.stays ∙ sym is.place,
        is.pinned,
      )
