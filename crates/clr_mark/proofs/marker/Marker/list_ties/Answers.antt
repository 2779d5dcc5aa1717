-- A sort only moves ties, and leaves them by rising primaries.
use Rattle.std.proofs.Common.{rules}
use Rattle.std.proofs.lemmas.List.Sorted.{All-permutation, Contains-permutation, IsNonDecreasingBy-from_sort_by_key}
use Rattle.clr_model.specs.Reach.{SecondOf}
use Rattle.clr_mark.specs.declared.marker.listed.Tie.{Tie}
use Rattle.clr_mark.proofs.marker.Marker.list_ties.Goals as goal

pub returns-clause-listed : goal.returns-clause-listed
returns-clause-listed c = λ all.
    let lists = c.list_open.ensures c.if-not-list_open.false in
    record {
      only = All-permutation (λ (t : Tie). SecondOf c.args.handles.now t.primary t.second) _ _
          c.sort_unstable_by_key.ensures.permutation lists.only;
      all = λ x y s fresh. Contains-permutation _ _ (record { primary = x; second = y })
          c.sort_unstable_by_key.ensures.permutation (lists.all x y s fresh);
    }

pub returns-clause-rise : goal.returns-clause-rise
returns-clause-rise c = λ all. IsNonDecreasingBy-from_sort_by_key (λ (t : Tie). t.primary) _
    c.sort_unstable_by_key.ensures.sorted (λ a r q k. search rules)
