-- Each part is what is kept.
use Rattle.std.proofs.Common.{ℕ, ◌<◌, sym, ◌∙◌, ap, subst}
use Rattle.std.specs.List.{AllByRecursion}
use Rattle.clr_types.specs.Rising.{IsRisingBy}
use Rattle.clr_types.specs.declared.handle.Handle.{Handle}
use Rattle.clr_format.specs.Images.{Rest}
use Rattle.clr_format.specs.declared.head.Head.{Head}
use Rattle.clr_load.proofs.WholeTests.{low_handles, rising_handles}
use Rattle.clr_load.proofs.restoring.restore.Goals as goal

pub restore_handles-requires-clause-rising : goal.restore_handles-requires-clause-rising
restore_handles-requires-clause-rising c =
    let r = c.requires in
    subst (IsRisingBy (λ (e : ℕ × Handle). e.0)) (sym c.deref.ensures.value) (rising_handles r.0 c.args.whole r.1 r.2)

pub restore_handles-requires-clause-below : goal.restore_handles-requires-clause-below
restore_handles-requires-clause-below c =
    let r = c.requires in
    subst (AllByRecursion (λ (e : ℕ × Handle). e.0 < 65536)) (sym c.deref.ensures.value)
    (low_handles r.0 c.args.whole r.1 r.2)

pub returns : goal.returns
returns c bytes p is =
    let rest = is.rest in
    let head = is.head in
    record {
      types = is.types;
      heap = is.heap;
      locals = ap (λ (r : Rest). r.locals) rest;
      limit = ap (λ (h : Head). h.limit) head;
      large = ap (λ (h : Head). h.large) head;
      compact_large = ap (λ (h : Head). h.compact_large) head;
      holder = c.wide.ensures ∙ ap (λ (r : Rest). r.tables.holder) rest;
      steps = ap (λ (r : Rest). r.tables.steps) rest;
      handles = c.in_ok-handles.ensures ∙ c.deref.ensures.value ∙ ap (λ (r : Rest). r.tables.handles) rest;
      entries =
          c.in_ok-finals.ensures.entries ∙ c.deref-2.ensures.value ∙ ap (λ (r : Rest). r.tables.entries) rest;
      ready = c.in_ok-finals.ensures.ready ∙ c.deref-3.ensures.value ∙ ap (λ (r : Rest). r.tables.ready) rest;
      first = ap (λ (h : Head). h.first) head;
    }
