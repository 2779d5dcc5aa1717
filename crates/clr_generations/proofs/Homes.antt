-- What objects are to a segment, and what places of one brick have in common.
use Rattle.std.proofs.Common.{◌≡◌, inl, inr, ℕ, ◌+◌, ◌*◌, ◌/◌, ◌%◌, ◌<◌, ◌≤◌, Bool, true, false, List, filter}
use Rattle.std.proofs.Common.{sym, subst, arith, leb, ltb, cond}
use Rattle.std.proofs.lemmas.Bool.{cases_Bool, cases_lt, le-leb, lt-ltb, or_left, or_right}
use Rattle.clr_types.specs.Rising.{IsIn}
use Rattle.clr_types.specs.Segments.{ephemeral, generation, Layout, stands_in}
use Rattle.clr_types.specs.Types.{TypeRow}
use Rattle.clr_types.specs.declared.segment.SegInfo.{SegInfo}
use Rattle.clr_types.proofs.ChangedLists.{out_of_filter}
use Rattle.clr_types.proofs.SegmentFacts.{stands-between}
use Rattle.clr_model.specs.Lookups.{object_size}
use Rattle.clr_model.specs.Machine.{Object}
use Rattle.clr_generations.specs.Laws.{IsBrickOf, may_lead, Stands}

-- a segment begins and ends with a brick
pub record HasWholeBricks (s : SegInfo) : Type 0 where
  pub base : s.base % 4096 ≡ 0
  pub reserved : s.reserved % 4096 ≡ 0

-- None of the objects reaches over another's place, one that meets a brick of the segment stands in it, and ends there.
pub record HaveHomes (rows : List TypeRow) (objects : List Object) (s : SegInfo) : Type 0 where
  pub bricks : HasWholeBricks s
  pub least : (o : Object) → IsIn o objects → 24 ≤ object_size rows o
  pub apart : (o q : Object) → IsIn o objects → IsIn q objects → o.place < q.place
      → o.place + object_size rows o ≤ q.place
  pub home : (o : Object) (brick : ℕ) → IsIn o objects → IsBrickOf s brick → o.place / 4096 ≤ brick
      → 4096 * brick < o.place + object_size rows o → stands_in s o.place ≡ true
  pub within : (o : Object) → IsIn o objects → stands_in s o.place ≡ true → o.place + object_size rows o ≤ s.end

-- ---- places of a segment

-- the brick of a place of the segment is one of its bricks
pub brick-of : (s : SegInfo) (place : ℕ) → HasWholeBricks s → stands_in s place ≡ true → IsBrickOf s (place / 4096)
brick-of s place w stands =
    let between = stands-between s place stands in
    let low = between.0 in
    let high = between.1 in
    let base = w.base in
    let reserved = w.reserved in
    (omega arith, omega arith)

-- what stands in a brick of the segment stands in the segment
pub stands-home : (rows : List TypeRow) (objects : List Object) (s : SegInfo) (place : ℕ) → HaveHomes rows objects s
    → Stands objects place → IsBrickOf s (place / 4096) → stands_in s place ≡ true
stands-home rows objects s place homes stands brick =
    let o = stands.0 in
    let at = stands.2 in
    let least = homes.least o stands.1 in
    let P : ℕ → Type 0 = λ p. IsBrickOf s (p / 4096) in
    let here = homes.home o (o.place / 4096) stands.1 (subst P (sym at) brick) (omega arith) (omega arith) in
    subst (λ (p : ℕ). stands_in s p ≡ true) at here

-- objects of which some are left have their homes
pub homes-left : (rows : List TypeRow) (objects : List Object) (s : SegInfo) (keep : Object → Bool)
    → HaveHomes rows objects s → HaveHomes rows (filter keep objects) s
homes-left rows objects s keep homes = record {
  bricks = homes.bricks;
  least = λ o l. homes.least o (among o l);
  apart = λ o q l m below. homes.apart o q (among o l) (among q m) below;
  home = λ o brick l of low high. homes.home o brick (among o l) of low high;
  within = λ o l in_s. homes.within o (among o l) in_s;
}
  where
    among : (o : Object) → IsIn o (filter keep objects) → IsIn o objects
    among o l = (out_of_filter keep o objects l).1

-- ---- which places a brick may name

-- what stands below generation 0 is of generation 1 or 2
pub old-before : (layout : Layout) (p : ℕ) → p < layout.start0 → 0 < generation layout p
old-before layout p below = go (stands_in (ephemeral layout) p)
  where
    go : (b : Bool) → 0 < cond b (cond (ltb p layout.start1) 2 (cond (ltb p layout.start0) 1 0)) 2
    go true = elim (cases_Bool (ltb p layout.start1)) [
      | inl one ↦ rw one (omega arith)
      | inr two ↦ rw (two, lt-ltb p layout.start0 below) (omega arith)
    ]
    go false = omega arith

-- so is what doesn't stand in the ephemeral segment
pub old-away : (layout : Layout) (p : ℕ) → stands_in (ephemeral layout) p ≡ false → 0 < generation layout p
old-away layout p away = rw away (omega arith)

-- a place of generation 1 or 2 may be named
pub old-may_lead : (layout : Layout) (p : ℕ) → 0 < generation layout p → may_lead layout p ≡ true
old-may_lead layout p old =
    or_left (ltb 0 (generation layout p)) (leb layout.start0 (4096 * (p / 4096)))
    (lt-ltb 0 (generation layout p) old)

-- what may not be named stands in generation 0, in the brick in which that begins
pub unnamed-young : (layout : Layout) (p : ℕ) → (may_lead layout p ≡ true → ⊥)
    → (layout.start0 ≤ p) × (4096 * (p / 4096) < layout.start0)
unnamed-young layout p never = (
  elim (cases_lt p layout.start0) [
    | inl below ↦ absurd (never (old-may_lead layout p (old-before layout p below)))
    | inr above ↦ above
  ],
  elim (cases_lt (4096 * (p / 4096)) layout.start0) [
    | inl under ↦ under
    | inr over ↦ absurd (never (or_right (ltb 0 (generation layout p)) (leb layout.start0 (4096 * (p / 4096)))
        (le-leb layout.start0 (4096 * (p / 4096)) over)))
  ],
)
