-- A sort only moves ties, and leaves them by rising primaries.
use Rattle.std.proofs.Common.{rules}
use Rattle.std.proofs.lemmas.List.Sorted.{All-permutation, Contains-permutation, IsNonDecreasingBy-from_sort_by_key}
use Rattle.clr_model.specs.Reach.{SecondOf}
use Rattle.clr_sos.specs.declared.reach.ties.Tie.{Tie}
use Rattle.clr_sos.proofs.reach.ties.ties_of.Goals as goal

pub returns : goal.returns
returns c = record {
  listed = record {
    only = All-permutation (λ (t : Tie). SecondOf c.args.handles.now t.primary t.second) _ _
        c.in_ok-sort_by_key.ensures.permutation c.in_ok-ties.ensures.only;
    all = λ x y s. Contains-permutation _ _ (record { primary = x; second = y })
        c.in_ok-sort_by_key.ensures.permutation (c.in_ok-ties.ensures.all x y s);
  };
  rise = IsNonDecreasingBy-from_sort_by_key (λ (t : Tie). t.primary) _ c.in_ok-sort_by_key.ensures.sorted
      (λ a r q k. search rules);
}
