-- The last range that begins at the place or below it is the only one that may have it.
use Rattle.std.proofs.Common.{◌≡◌, ◌-◌, get_or, nat_le, nat_lt, false, rules, of_calls, arith, ap, sym, ◌∙◌}
use Rattle.std.proofs.Common.{subst, List}
use Rattle.std.proofs.lemmas.Fn.{always_returns_same}
use Rattle.std.proofs.lemmas.List.Sorted.{IsPartitionedBy-leb}
use Rattle.clr_load.specs.Starts.{AreApart, has_place, has_start}
use Rattle.clr_load.specs.declared.starts.Range.{Range}
use Rattle.clr_load.proofs.StartRanges.{in_last, in_none, IsBegun, rising}
use Rattle.clr_load.proofs.starts.Starts.has.Goals as goal

pub returns-then-below-gt0 : goal.returns-then-below-gt0
returns-then-below-gt0 c =
    let x = c.args.place in
    let rs = c.deref.result.now in
    let k = c.partition_point-below.result in
    let apart : AreApart rs = subst AreApart (sym c.deref.ensures.value) c.self.invariant in
    let key = always_returns_same _ _ _ (λ a r f k. search (rules, of_calls)) in
    let begun : IsBegun rs x k = c.partition_point-below.ensures.partitioned (λ (r : Range). nat_le r.first x) key
    (IsPartitionedBy-leb (λ (r : Range). r.first) rs x (rising rs apart)) in
    c.has.ensures
    ∙ ap (λ (r : Range). has_place r x) c.index.ensures
    ∙ ap (λ (qs : List Range). has_place (get_or qs (k - 1) c.index.result.now) x) (sym c.deref.ensures.value)
    ∙ sym (in_last rs x k c.index.result.now apart c.if-below-gt0.true c.partition_point-below.ensures.bound begun)
    ∙ ap (λ (qs : List Range). has_start qs x) (c.deref.ensures.value ∙ c.self.view_is)

pub returns-else-below-gt0 : goal.returns-else-below-gt0
returns-else-below-gt0 c =
    let x = c.args.place in
    let rs = c.deref.result.now in
    let k = c.partition_point-below.result in
    let none = c.if-below-gt0.false in
    let off : nat_lt 0 k ≡ false = grind (arith, none) in
    let apart : AreApart rs = subst AreApart (sym c.deref.ensures.value) c.self.invariant in
    let key = always_returns_same _ _ _ (λ a r f k. search (rules, of_calls)) in
    let begun : IsBegun rs x k = c.partition_point-below.ensures.partitioned (λ (r : Range). nat_le r.first x) key
    (IsPartitionedBy-leb (λ (r : Range). r.first) rs x (rising rs apart)) in
    off ∙ sym (in_none rs x k none begun)
    ∙ ap (λ (qs : List Range). has_start qs x) (c.deref.ensures.value ∙ c.self.view_is)
