-- Which units a range of addresses meets.
use Rattle.std.proofs.Common.{ℕ, ◌+◌, ◌-◌, ◌*◌, ◌/◌, ◌<◌, ◌≤◌, inl, inr, arith}
use Rattle.std.proofs.lemmas.Bool.{cases_lt}
use Rattle.std.proofs.Math.Nat.{div-lt_iff_lt-mul, le-div_iff_mul-le}
use Rattle.clr_nums.specs.Numbers.{MeetsUnit}

-- from the index of the first address to the index of the last: a common address is the greater of the two starts
pub meets_between : (unit i lo hi : ℕ) → 1 ≤ unit → lo < hi → (lo / unit ≤ i) × (i < (hi - 1) / unit + 1)
    → MeetsUnit unit i lo hi
meets_between unit i lo hi positive some h =
    let below : lo < (i + 1) * unit = (div-lt_iff_lt-mul {k = unit} {x = lo} {y = i + 1} (omega arith)).0 (omega arith)
    in
    let above : i * unit ≤ hi - 1 = (le-div_iff_mul-le {k = unit} {x = i} {y = hi - 1} (omega arith)).0 (omega arith) in
    elim (cases_lt (i * unit) lo) [
      | inl before ↦ (lo, (omega arith, some, (omega arith, omega arith)))
      | inr after ↦ (i * unit, (after, omega arith, (omega arith, omega arith)))
    ]

-- and the other way round
pub between_meets : (unit i lo hi : ℕ) → 1 ≤ unit → lo < hi → MeetsUnit unit i lo hi
    → (lo / unit ≤ i) × (i < (hi - 1) / unit + 1)
between_meets unit i lo hi positive some (addr, (from_lo, to_hi, (starts, ends))) =
    let first : lo / unit < i + 1 = (div-lt_iff_lt-mul {k = unit} {x = lo} {y = i + 1} (omega arith)).1 (omega arith) in
    let last : i ≤ (hi - 1) / unit = (le-div_iff_mul-le {k = unit} {x = i} {y = hi - 1} (omega arith)).1 (omega arith)
    in
    (omega arith, omega arith)
