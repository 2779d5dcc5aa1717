-- The sums that a machine counts are bounded by the bytes of its objects after a collection, too.
use Rattle.std.proofs.Common.{◌≡◌, ℕ, ◌+◌, ◌<◌, ◌≤◌, List, refl, sym, ap, ◌∙◌, arith, Bool, true, false, if◌then◌else◌}
use Rattle.std.proofs.Common.{filter, ◌&&◌, ◌==◌, nat_le, nat_lt, subst, sum_by, Option, IfSome}
use Rattle.std.proofs.lemmas.Bool.{both_ways, leb-true, leb-false, eqb-true, eqb-false}
use Rattle.clr_types.specs.Rising.{IsIn}
use Rattle.clr_types.specs.Segments.{Layout, ephemeral, generation, is_large_or_pinned, same_kind, stands_in}
use Rattle.clr_types.specs.declared.segment.SegInfo.{SegInfo}
use Rattle.clr_types.specs.declared.segment.SegKind.{SegKind}
use Rattle.clr_types.specs.declared.segment.SegKind.TheVariants.{Small, Ephemeral, Large, Pinned}
use Rattle.clr_types.proofs.RisingLists.{all_at}
use Rattle.clr_types.proofs.SegmentFacts.{ephemeral-in, ephemeral-kind, elsewhere, one_base, segment_of-home}
use Rattle.clr_types.proofs.ListMembers.{sum-mapped}
use Rattle.clr_types.proofs.ListSums.{counted, sum-filtered, sum-below, sum-both}
use Rattle.clr_model.specs.Machine.{Object, Sums, Machine}
use Rattle.clr_model.specs.Lookups.{object_piece, object_size, bytes_of, bytes_where, bytes_up_to}
use Rattle.clr_model.specs.Compaction.{Move, moved_by}
use Rattle.clr_model.specs.Collection.{object_after, objects_after, bytes_promoted, sums_after}
use Rattle.clr_model.specs.Lawful.{AreBoundedSums, IsLawful, Suits, SuitsItsSegment}
use Rattle.clr_model.proofs.BoundedSums.{is_large}
use Rattle.clr_model.proofs.CollectedLayout.{large-not_ephemeral}
use Rattle.clr_model.proofs.LawfulPieces.{HasHome, piece-home, object-in-pieces}

-- ---- large objects

-- an object of the large size stands in a large or in a pinned segment, so it has generation 2
pub large-old : (m : Machine) → IsLawful m → (o : Object) → IsIn o m.objects → is_large m o ≡ true
    → generation m.layout o.place ≡ 2
large-old m h o i large =
    go home.home.kind refl
    (subst (λ (r : Option SegInfo). IfSome r (λ s. Suits m o s.kind))
    (segment_of-home m.layout h.laid.layout home.home o.place home.among home.stands)
    (all_at (SuitsItsSegment m) i h.suited))
  where
    home : HasHome m.layout o.place
    home = piece-home m h.laid (object_piece m.types o) (object-in-pieces m h.laid o i)

    big : m.options.large ≤ object_size m.types o
    big = leb-true m.options.large (object_size m.types o) large

    away : (k : SegKind) → home.home.kind ≡ k → is_large_or_pinned k ≡ true
        → stands_in (ephemeral m.layout) o.place ≡ false
    away k e other =
        elsewhere m.layout h.laid.layout (ephemeral m.layout) home.home o.place (ephemeral-in m.layout h.laid.layout)
        home.among
        (λ base.
        let same = one_base m.layout h.laid.layout (ephemeral m.layout) home.home
        (ephemeral-in m.layout h.laid.layout) home.among base in
        let kind : same_kind Ephemeral k ≡ true =
        ap (same_kind Ephemeral) (sym (ap (λ (s : SegInfo). s.kind) same ∙ e))
        ∙ ephemeral-kind m.layout h.laid.layout in
        absurd (both_ways (same_kind Ephemeral k) (large-not_ephemeral k other) kind))
        home.stands

    old_there : (k : SegKind) → home.home.kind ≡ k → is_large_or_pinned k ≡ true → generation m.layout o.place ≡ 2
    old_there k e other =
        ap (λ b. if b then (if nat_lt o.place m.layout.start1 then 2
        else (if nat_lt o.place m.layout.start0 then 1 else 0)) else 2) (away k e other)

    go : (k : SegKind) → home.home.kind ≡ k → Suits m o k → generation m.layout o.place ≡ 2
    go Small e is = let l = big in absurd (omega arith)
    go Ephemeral e is = let l = big in absurd (omega arith)
    go Large e is = old_there Large e refl
    go Pinned e is = old_there Pinned e refl

-- ---- one object

-- what went up isn't young afterwards
went-up : (kept : Bool) (before after g size : ℕ)
    → (if kept && ((before == g) && (after == g + 1)) then size
    else 0) + (if kept then (if nat_le after g then size else 0) else 0) ≤ (if kept then size else 0)
went-up false before after g size = omega arith
went-up true before after g size = go (before == g) (after == g + 1) (nat_le after g) refl refl
  where
    go : (a b c : Bool) → (after == g + 1) ≡ b → nat_le after g ≡ c
        → (if a && b then size else 0) + (if c then size else 0) ≤ size
    go true true true e f = let up = eqb-true after (g + 1) e in let low = leb-true after g f in absurd (omega arith)
    go true true false e f = omega arith
    go true false true e f = omega arith
    go true false false e f = omega arith
    go false b true e f = omega arith
    go false b false e f = omega arith

-- and where an older object stays as it is, what was young and doesn't stay is all that is lost
more-up : (kept : Bool) (before after g size : ℕ) → (g < before → kept ≡ true) → (g < before → kept ≡ true → g < after)
    → ((if kept && ((before == g) && (after == g + 1)) then size
    else 0) + (if kept then (if nat_le after g then size else 0) else 0)) + size
    ≤ (if kept then size else 0) + (if nat_le before g then size else 0)
more-up kept before after g size stays older = go kept (nat_le before g) refl refl
  where
    go : (k b : Bool) → kept ≡ k → nat_le before g ≡ b
        → ((if k && ((before == g) && (after == g + 1)) then size
        else 0) + (if k then (if nat_le after g then size else 0) else 0)) + size
        ≤ (if k then size else 0) + (if b then size else 0)
    go true true e f = let up = went-up true before after g size in omega arith
    go false true e f = omega arith
    go false false e f = let low = leb-false before g f in let k = stays low in absurd cc
    go true false e f = by (before == g) (nat_le after g) refl refl
      where
        low : g < before
        low = leb-false before g f

        by : (c d : Bool) → (before == g) ≡ c → nat_le after g ≡ d
            → ((if c && (after == g + 1) then size else 0) + (if d then size else 0)) + size ≤ size + 0
        by true d p q = let high = low in let same = eqb-true before g p in absurd (omega arith)
        by false true p q = let young = leb-true after g q in let old = older low e in absurd (omega arith)
        by false false p q = omega arith

-- a large object that stays counts on
large-stays : (kept large : Bool) (size : ℕ) → (large ≡ true → kept ≡ true)
    → (if large then size else 0) ≤ (if kept then (if large then size else 0) else 0)
large-stays true large size stays = omega arith
large-stays false true size stays = let k = stays refl in absurd cc
large-stays false false size stays = omega arith

-- ---- all objects

module _ (m : Machine) (first kept : ℕ → Bool) (moves : List Move) (layout : Layout) where
  abbrev size : Object → ℕ
  size = object_size m.types

  abbrev after : Object → Object
  after = object_after m first moves

  abbrev stays : Object → Bool
  stays o = kept o.name

  abbrev next : Sums → Machine
  next sums = record m { objects = objects_after m first kept moves; layout = layout; sums = sums }

  abbrev age_before : Object → ℕ
  age_before o = generation m.layout o.place

  abbrev age_after : Object → ℕ
  age_after o = generation layout (moved_by moves o.place)

  -- the bytes that are left, counted over all objects of before
  bytes-left : sum_by size (objects_after m first kept moves) ≡ sum_by (counted stays size) m.objects
  bytes-left = sum-mapped after size (filter stays m.objects) ∙ sum-filtered stays size m.objects

  some-left : (test : Object → Bool)
      → sum_by size (filter test (objects_after m first kept moves))
      ≡ sum_by (counted stays (λ o. counted test size (after o))) m.objects
  some-left test =
      sum-filtered test size (objects_after m first kept moves)
      ∙ sum-mapped after (counted test size) (filter stays m.objects)
      ∙ sum-filtered stays (λ o. counted test size (after o)) m.objects

  abbrev young_after : ℕ → Object → ℕ
  young_after g = counted stays (λ o. if nat_le (age_after o) g then size o else 0)

  abbrev went : ℕ → Object → Bool
  went g o = kept o.name && ((age_before o == g) && (age_after o == g + 1))

  abbrev raised : ℕ → ℕ
  raised g = sum_by size (filter (went g) m.objects)

  -- what went up and what is young afterwards are parts of what is left
  apart-left : (sums : Sums) (g : ℕ) → raised g + bytes_up_to (next sums) g ≤ bytes_of (next sums)
  apart-left sums g =
      let a : bytes_up_to (next sums) g ≡ sum_by (young_after g) m.objects =
      some-left (λ o. nat_le (generation layout o.place) g) in
      let b : raised g ≡ sum_by (counted (went g) size) m.objects = sum-filtered (went g) size m.objects in
      let c : bytes_of (next sums) ≡ sum_by (counted stays size) m.objects = bytes-left in
      let d = sum-both (counted (went g) size) (young_after g) m.objects in
      let e : sum_by (λ o. counted (went g) size o + young_after g o) m.objects
      ≤ sum_by (counted stays size) m.objects =
      sum-below (λ o. counted (went g) size o + young_after g o) (counted stays size) m.objects
      (λ o i. went-up (kept o.name) (age_before o) (age_after o) g (size o)) in
      omega arith

  module _ (g : ℕ) (old_kept : (o : Object) → IsIn o m.objects → g < age_before o → kept o.name ≡ true)
      (old_stays : (o : Object) → IsIn o m.objects → kept o.name ≡ true → g < age_before o → age_after o ≡ age_before o)
    where
      -- Of a generation that is condemned, and of older ones, no more goes than is lost of the younger ones.
      more-left : (sums : Sums) (l : ℕ) → g ≤ l
          → (raised l + bytes_up_to (next sums) l) + bytes_of m ≤ bytes_of (next sums) + bytes_up_to m l
      more-left sums l most =
          let was : Object → ℕ = λ o. if nat_le (age_before o) l then size o else 0 in
          let now : Object → ℕ = λ o. counted (went l) size o + young_after l o in
          let a : bytes_up_to (next sums) l ≡ sum_by (young_after l) m.objects =
          some-left (λ o. nat_le (generation layout o.place) l) in
          let b : raised l ≡ sum_by (counted (went l) size) m.objects = sum-filtered (went l) size m.objects in
          let c : bytes_of (next sums) ≡ sum_by (counted stays size) m.objects = bytes-left in
          let d = sum-both (counted (went l) size) (young_after l) m.objects in
          let e = sum-both now size m.objects in
          let f = sum-both (counted stays size) was m.objects in
          let n : bytes_up_to m l ≡ sum_by was m.objects = sum-filtered (λ o. nat_le (age_before o) l) size m.objects in
          let q : sum_by (λ o. now o + size o) m.objects ≤ sum_by (λ o. counted stays size o + was o) m.objects =
          sum-below (λ o. now o + size o) (λ o. counted stays size o + was o) m.objects
          (λ o i.
          more-up (kept o.name) (age_before o) (age_after o) l (size o) (λ high. old_kept o i (omega arith))
          (λ high k. let same = old_stays o i k (omega arith) in omega arith)) in
          omega arith

      large-left : (sums : Sums) → ((o : Object) → IsIn o m.objects → is_large m o ≡ true → g < age_before o)
          → bytes_where m (is_large m) ≤ bytes_where (next sums) (is_large (next sums))
      large-left sums large =
          let a : bytes_where (next sums) (is_large (next sums))
          ≡ sum_by (counted stays (counted (is_large m) size)) m.objects = some-left (is_large m) in
          let b : bytes_where m (is_large m) ≡ sum_by (counted (is_large m) size) m.objects =
          sum-filtered (is_large m) size m.objects in
          let c : sum_by (counted (is_large m) size) m.objects
          ≤ sum_by (counted stays (counted (is_large m) size)) m.objects =
          sum-below (counted (is_large m) size) (counted stays (counted (is_large m) size)) m.objects
          (λ o i. large-stays (kept o.name) (is_large m o) (size o) (λ e. old_kept o i (large o i e))) in
          omega arith

      -- A collection leaves bounded sums, where objects of the large size have generation 2.
      pub bounded_left : g ≤ 2 → AreBoundedSums m
          → ((o : Object) → IsIn o m.objects → is_large m o ≡ true → age_before o ≡ 2)
          → AreBoundedSums (next (sums_after m g (bytes_promoted m layout kept moves 0)
          (bytes_promoted m layout kept moves 1)))
      bounded_left least h large =
          let s = sums_after m g (raised 0) (raised 1) in
          let apart0 = apart-left s 0 in let apart1 = apart-left s 1 in
          record {
            spent0 = omega arith;
            spent_large = spent (g == 2) refl;
            promoted1 = first_up (g == 0) refl;
            promoted2 = second_up (g == 2) refl;
          }
        where
          spent : (b : Bool) → (g == 2) ≡ b
              → (if b then 0 else m.sums.spent_large)
              ≤ bytes_where (next (sums_after m g (raised 0) (raised 1))) (is_large m)
          spent true e = omega arith
          spent false e =
              let apart = eqb-false g 2 e in
              let left = large-left (sums_after m g (raised 0) (raised 1))
              (λ o i l. let old = large o i l in omega arith) in
              let was = h.spent_large in
              omega arith

          first_up : (b : Bool) → (g == 0) ≡ b
              → (if b then m.sums.promoted1 + raised 0 else raised 0) + bytes_up_to
              (next (sums_after m g (raised 0) (raised 1))) 0 ≤ bytes_of (next (sums_after m g (raised 0) (raised 1)))
          first_up false e = apart-left (sums_after m g (raised 0) (raised 1)) 0
          first_up true e =
              let zero = eqb-true g 0 e in
              let more = more-left (sums_after m g (raised 0) (raised 1)) 0 (omega arith) in
              let was = h.promoted1 in
              omega arith

          second_up : (b : Bool) → (g == 2) ≡ b
              → (if b then raised 1 else m.sums.promoted2 + raised 1) + bytes_up_to
              (next (sums_after m g (raised 0) (raised 1))) 1 ≤ bytes_of (next (sums_after m g (raised 0) (raised 1)))
          second_up true e = apart-left (sums_after m g (raised 0) (raised 1)) 1
          second_up false e =
              let apart = eqb-false g 2 e in
              let more = more-left (sums_after m g (raised 0) (raised 1)) 1 (omega arith) in
              let was = h.promoted2 in
              omega arith
