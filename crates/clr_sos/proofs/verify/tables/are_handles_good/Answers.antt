-- Handle by handle.
use Rattle.std.proofs.Common.{◌≡◌, ◌∙◌, false, refl, sym, arith}
use Rattle.clr_types.specs.declared.handle.Handle.{Handle}
use Rattle.clr_heap.specs.View.{heap_items}
use Rattle.clr_sos.specs.Windows.{is_bad_in}
use Rattle.clr_sos.specs.declared.verify.references.Judge.{Judge}
use Rattle.clr_sos.proofs.HandlePasses.{good_all, good_none, good_on}
use Rattle.clr_sos.proofs.verify.tables.are_handles_good.Goals as goal

abbrev IsGood : Judge → Handle → Type 0
IsGood judge row =
    (is_bad_in (heap_items judge.types.now judge.heap.now) judge.window row.target ≡ false)
    × (is_bad_in (heap_items judge.types.now judge.heap.now) judge.window row.second ≡ false)

pub loop-number-init : goal.loop-number-init
loop-number-init c = record { good = good_none c.args.handles.now (IsGood c.args.judge.now); within = omega arith }

pub loop-number-preserved : goal.loop-number-preserved
loop-number-preserved c =
    let next = c.in-Some.ensures.found in
    let below = c.in-Some.ensures.below c.in-Some.number c.in-Some.handle next.in_use in
    record {
      good =
          good_on c.args.handles.now (IsGood c.args.judge.now) c.loop-number.from c.in-Some.number c.in-Some.handle
          c.loop-number.invariant.good next (c.is_good_handle.ensures.0 c.if-not-is_good_handle.false);
      within = omega (arith, below);
    }

pub returns-then-not-is_good_handle : goal.returns-then-not-is_good_handle
returns-then-not-is_good_handle c = (
  λ e. absurd cc,
  λ all. sym c.if-not-is_good_handle.true
      ∙ c.is_good_handle.ensures.1 (all c.in-Some.number c.in-Some.handle c.in-Some.ensures.found.in_use),
)

pub returns : goal.returns
returns c = (
  λ e. good_all c.args.handles.now (IsGood c.args.judge.now) c.loop-number.from c.loop-number.invariant.good
      c.in_default.ensures.none c.in_default.ensures.below,
  λ all. refl,
)
