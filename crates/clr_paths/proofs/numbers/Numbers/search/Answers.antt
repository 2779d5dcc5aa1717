-- The point before which addresses are lower.
use Rattle.std.proofs.Common.{◌≡◌, ◌<◌, arith, ltb, rules, ℕ, List, length, subst, sym}
use Rattle.std.proofs.lemmas.Bool.{ltb-false, ltb-true}
use Rattle.std.proofs.lemmas.List.Sorted.{IsPartitionPoint-from_clause}
use Rattle.clr_types.specs.Rising.{IsIn, IsRisingBy}
use Rattle.clr_paths.specs.Numbers.{place_of}
use Rattle.clr_paths.proofs.HeapNumbers.{parted-found, rising-parted}
use Rattle.clr_paths.proofs.numbers.Numbers.search.Goals as goal

pub returns : goal.returns
returns c =
    let x = c.args.place in
    let n = c.partition_point.result in
    let xs = c.deref.result.now in
    let same = sym c.deref.ensures.value in
    let rise = subst (λ (ys : List ℕ). IsRisingBy (λ (k : ℕ). k) ys) same c.requires.rise in
    let listed = subst (λ (ys : List ℕ). IsIn x ys) same c.requires.listed in
    let point = IsPartitionPoint-from_clause (λ (k : ℕ). ltb k x) _ _ c.partition_point.ensures.partitioned
    (rising-parted xs x rise) (λ a r q k. search rules) in
    let found = parted-found xs x n rise listed (λ i d l inside. ltb-true _ _ (point.0 i d (omega arith) l))
    (λ i d l inside. ltb-false _ _ (point.1 i d l inside)) in
    let there = subst (λ (ys : List ℕ). (n < length ys) × (place_of ys n ≡ x)) c.deref.ensures.value found in
    record { below = there.0; is = there.1 }
