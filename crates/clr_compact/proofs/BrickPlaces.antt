-- What places of one brick have in common.
use Rattle.std.proofs.Common.{◌≡◌, inl, inr, ℕ, ◌*◌, ◌/◌, ◌<◌, ◌≤◌, Bool, true, false, refl}
use Rattle.std.proofs.Common.{sym, subst, arith, leb, ltb, cond}
use Rattle.std.proofs.lemmas.Bool.{cases_lt, le-ltb, lt-ltb, ltb-true, or_cases, or_left, or_right}
use Rattle.clr_types.specs.Segments.{ephemeral, generation, Layout, stands_in}
use Rattle.clr_types.specs.declared.segment.SegInfo.{SegInfo}
use Rattle.clr_types.proofs.SegmentFacts.{between-stands, stands-between}
use Rattle.clr_generations.specs.Laws.{may_lead}
use Rattle.clr_generations.proofs.Homes.{HasWholeBricks}

-- places of one brick stand in a segment alike
pub stands-alike : (s : SegInfo) (p q : ℕ) → HasWholeBricks s → q / 4096 ≡ p / 4096 → stands_in s p ≡ true
    → stands_in s q ≡ true
stands-alike s p q w same stands =
    let between = stands-between s p stands in
    let low = between.0 in
    let high = between.1 in
    let base = w.base in
    let reserved = w.reserved in
    between-stands s q (omega arith) (omega arith)

-- ---- which places a brick may name

-- the generation of a place of the ephemeral segment, by the boundaries
abbrev age : ℕ → ℕ → ℕ → ℕ
age one start p = cond (ltb p one) 2 (cond (ltb p start) 1 0)

age-lower : (one start p q : ℕ) → q ≤ p → 0 < age one start p → 0 < age one start q
age-lower one start p q below old = elim (cases_lt q one) [
  | inl first ↦ rw (lt-ltb q one first) (omega arith)
  | inr more ↦ elim (cases_lt q start) [
    | inl second ↦ rw (le-ltb q one more, lt-ltb q start second) (omega arith)
    | inr third ↦ absurd (none (le-ltb p one (omega arith)) (le-ltb p start (omega arith)))
  ]
]
  where
    none : ltb p one ≡ false → ltb p start ≡ false → ⊥
    none a b = let zero : 0 < 0 = rw (a, b) at old in omega arith

-- below a place of generation 1 or 2 in one brick none is of generation 0
pub old-lower : (layout : Layout) (p q : ℕ) → HasWholeBricks (ephemeral layout) → q / 4096 ≡ p / 4096 → q ≤ p
    → 0 < generation layout p → 0 < generation layout q
old-lower layout p q w same below old = go (stands_in (ephemeral layout) q) refl
  where
    go : (b : Bool) → stands_in (ephemeral layout) q ≡ b → 0 < cond b (age layout.start1 layout.start0 q) 2
    go true e =
        let both = stands-alike (ephemeral layout) q p w (sym same) e in
        let aged : 0 < age layout.start1 layout.start0 p =
        subst (λ (b : Bool). 0 < cond b (age layout.start1 layout.start0 p) 2) both old in
        age-lower layout.start1 layout.start0 p q below aged
    go false e = omega arith

-- where a brick may name a place, it may name each lower one in it
pub may_lead-lower : (layout : Layout) (p q : ℕ) → HasWholeBricks (ephemeral layout) → q / 4096 ≡ p / 4096 → q ≤ p
    → may_lead layout p ≡ true → may_lead layout q ≡ true
may_lead-lower layout p q w same below may =
    elim (or_cases (ltb 0 (generation layout p)) (leb layout.start0 (4096 * (p / 4096))) may) [
      | inl old ↦
          or_left (ltb 0 (generation layout q)) (leb layout.start0 (4096 * (q / 4096)))
          (lt-ltb 0 (generation layout q)
          (old-lower layout p q w same below (ltb-true 0 (generation layout p) old)))
      | inr whole ↦
          or_right (ltb 0 (generation layout q)) (leb layout.start0 (4096 * (q / 4096)))
          (subst (λ (b : ℕ). leb layout.start0 (4096 * b) ≡ true) (sym same) whole)
    ]
