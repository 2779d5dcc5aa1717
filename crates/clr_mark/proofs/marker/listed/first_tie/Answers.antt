-- The point before which the primaries are lower.
use Rattle.std.proofs.Common.{ltb, arith, rules}
use Rattle.std.proofs.lemmas.Bool.{ltb-false, ltb-true}
use Rattle.std.proofs.lemmas.List.Sorted.{IsPartitionPoint-from_clause}
use Rattle.clr_mark.specs.declared.marker.listed.Tie.{Tie}
use Rattle.clr_mark.proofs.TieLists.{parted_by}
use Rattle.clr_mark.proofs.marker.listed.first_tie.Goals as goal

pub returns-clause-below : goal.returns-clause-below
returns-clause-below c =
    let parted = parted_by c.args.ties.now c.args.primary c.requires in
    let point = IsPartitionPoint-from_clause (λ (t : Tie). ltb t.primary c.args.primary) _ _
    c.partition_point.ensures.partitioned parted (λ a r q k. search rules) in
    λ i d l. ltb-true _ _ (point.0 i d (omega arith) l)

pub returns-clause-above : goal.returns-clause-above
returns-clause-above c =
    let parted = parted_by c.args.ties.now c.args.primary c.requires in
    let point = IsPartitionPoint-from_clause (λ (t : Tie). ltb t.primary c.args.primary) _ _
    c.partition_point.ensures.partitioned parted (λ a r q k. search rules) in
    λ i d l inside. ltb-false _ _ (point.1 i d l inside)
