-- Ranges that rise, and the one in which a place stands.
use Rattle.std.proofs.Common.{◌≡◌, ℕ, zero, suc, ◌-◌, ◌/◌, ◌<◌, ◌≤◌, ◌&&◌, ◌||◌, nat_le, Bool, true, false}
use Rattle.std.proofs.Common.{List, []}
use Rattle.std.proofs.Common.{◌∷◌, ◌++◌, length, get_or, refl, arith}
use Rattle.std.proofs.lemmas.List.{get_or_past}
use Rattle.std.specs.List.{AllByRecursion}
use Rattle.std.specs.List.Sorted.{IsNonDecreasingBy, IsPartitionPoint}
use Rattle.clr_load.specs.declared.starts.Range.{Range}
use Rattle.clr_load.specs.Starts.{AreApart, AreBelow, has_place, has_start, range_end}
use Rattle.clr_sos.specs.Windows.{bit_of}
use Rattle.clr_sos.proofs.StartBits.{bit_clear}

all_push : (P : Range → Type 0) (rs : List Range) (r : Range) → AllByRecursion P rs → P r
    → AllByRecursion P (rs ++ r ∷ [])
all_push P [] r all p = (p, tt)
all_push P (q ∷ rs) r all p = (all.0, all_push P rs r all.1 p)

-- a range behind all others
pub apart_push : (rs : List Range) (r : Range) → AreApart rs → AreBelow r.first rs → AreApart (rs ++ r ∷ [])
apart_push [] r apart below = (tt, tt)
apart_push (q ∷ rs) r apart below =
    (all_push (λ (p : Range). range_end q ≤ p.first) rs r apart.0 below.0, apart_push rs r apart.1 below.1)

-- behind its end a range has no bit
past_end : (r : Range) (x : ℕ) → range_end r ≤ x → has_place r x ≡ false
unfolding has_place
past_end r x past =
    let none : bit_of r.bits.items ((x - r.first) / 8) ≡ false =
    bit_clear r.bits.items ((x - r.first) / 8) (get_or_past r.bits.items ((x - r.first) / 8 / 64) 0
    (omega (arith, past))) in
    rw none (and_false _)
  where
    and_false : (b : Bool) → (b && false) ≡ false
    and_false true = refl
    and_false false = refl

-- before its front neither
before_front : (r : Range) (x : ℕ) → nat_le r.first x ≡ false → has_place r x ≡ false
unfolding has_place
before_front r x off = rw off refl

-- none of the ranges has begun
pub none_begun : (rs : List Range) (x : ℕ)
    → ((k : ℕ) (d : Range) → k < length rs → nat_le (get_or rs k d).first x ≡ false)
    → has_start rs x ≡ false
unfolding has_start
none_begun [] x off = refl
none_begun (r ∷ rs) x off =
    rw (before_front r x (off 0 r (omega arith))) (none_begun rs x (λ k d l. off (suc k) d (omega arith)))

-- an element of a list
all_at : (P : Range → Type 0) (rs : List Range) (k : ℕ) (d : Range) → AllByRecursion P rs → k < length rs
    → P (get_or rs k d)
all_at P [] k d all l = absurd (omega arith)
all_at P (r ∷ rs) zero d all l = all.0
all_at P (r ∷ rs) (suc k) d all l = all_at P rs k d all.1 (omega arith)

-- they begin by rising address
pub rising : (rs : List Range) → AreApart rs → IsNonDecreasingBy (λ (r : Range). r.first) rs
rising [] apart i j d up l = absurd (omega arith)
rising (r ∷ rs) apart zero zero d up l = omega arith
rising (r ∷ rs) apart zero (suc j) d up l =
    let behind = all_at (λ (q : Range). range_end r ≤ q.first) rs j d apart.0 (omega arith) in omega (arith, behind)
rising (r ∷ rs) apart (suc i) zero d up l = absurd (omega arith)
rising (r ∷ rs) apart (suc i) (suc j) d up l = rising rs apart.1 i j d (omega arith) (omega arith)

-- range k is the last that has begun
pub last_begun : (rs : List Range) (x k : ℕ) (d : Range) → AreApart rs → k < length rs
    → ((j : ℕ) (d : Range) → j ≤ k → nat_le (get_or rs j d).first x ≡ true)
    → ((j : ℕ) (d : Range) → k < j → j < length rs → nat_le (get_or rs j d).first x ≡ false)
    → has_start rs x ≡ has_place (get_or rs k d) x
unfolding has_start
last_begun [] x k d apart l on off = absurd (omega arith)
last_begun (r ∷ rs) x zero d apart l on off =
    rw (none_begun rs x (λ j e less. off (suc j) e (omega arith) (omega arith))) (or_false (has_place r x))
  where
    or_false : (b : Bool) → (b || false) ≡ b
    or_false true = refl
    or_false false = refl
last_begun (r ∷ rs) x (suc k) d apart l on off =
    let begun = on (suc k) d (omega arith) in
    let behind = all_at (λ (q : Range). range_end r ≤ q.first) rs k d apart.0 (omega arith) in
    rw (past_end r x (grind (arith, begun, behind)))
    (last_begun rs x k d apart.1 (omega arith) (λ j e less. on (suc j) e (omega arith))
    (λ j e more less. off (suc j) e (omega arith) (omega arith)))

-- the ranges that begin at the place or below it are the first k
abbrev pub IsBegun : List Range → ℕ → ℕ → Type 0
IsBegun rs x k =
    IsPartitionPoint (λ (r : Range). nat_le r.first x ≡ true) (λ (r : Range). nat_le r.first x ≡ false) rs k

-- the last of them tells
pub in_last : (rs : List Range) (x k : ℕ) (d : Range) → AreApart rs → 0 < k → k ≤ length rs → IsBegun rs x k
    → has_start rs x ≡ has_place (get_or rs (k - 1) d) x
in_last rs x k d apart some within begun =
    last_begun rs x (k - 1) d apart (omega arith) (λ j e l. begun.0 j e (omega arith) (omega arith))
    (λ j e more l. begun.1 j e (omega arith) l)

pub in_none : (rs : List Range) (x k : ℕ) → k ≤ 0 → IsBegun rs x k → has_start rs x ≡ false
in_none rs x k none begun = none_begun rs x (λ j e l. begun.1 j e (omega arith) l)
