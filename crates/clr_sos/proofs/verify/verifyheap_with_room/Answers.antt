-- The segments, and then all names.
use Rattle.std.proofs.Common.{◌≡◌, Some, None, sym, ◌∙◌, ap}
use Rattle.clr_sos.specs.CheckedCells.{or_else}
use Rattle.clr_sos.specs.Faults.{locals_fault, references_fault}
use Rattle.clr_sos.proofs.CleanHeaps.{lawful_is_clean}
use Rattle.clr_sos.proofs.FaultlessHeaps.{lawful_if}
use Rattle.clr_sos.proofs.FaultlessWalks.{are_walkable, none_or}
use Rattle.clr_sos.proofs.verify.verifyheap_with_room.Goals as goal

pub named_verdict-requires-clause-walkable : goal.named_verdict-requires-clause-walkable
named_verdict-requires-clause-walkable c =
    let view = c.args.state.now.view in
    are_walkable view.types.now view.large view.heap.now c.segments_fault.ensures.heap c.requires.holes
    (sym c.segments_fault.ensures.fault ∙ c.in-None.is)

pub returns-in-Some-clause-lawful : goal.returns-in-Some-clause-lawful
returns-in-Some-clause-lawful c = (
  λ e. absurd cc,
  λ lawful.
      let view = c.args.state.now.view in
      let none =
      none_or _ _ (lawful_is_clean view.types.now view.large view.heap.now view.locals.now c.segments_fault.ensures.heap
      lawful.0) in
      let clash : Some c.in-Some.address ≡ None = sym c.in-Some.is ∙ c.segments_fault.ensures.fault ∙ none.0 in
      absurd cc,
)

pub returns-in-None-clause-lawful : goal.returns-in-None-clause-lawful
returns-in-None-clause-lawful c =
    let view = c.args.state.now.view in
    let heap = c.segments_fault.ensures.heap in
    let rest =
    or_else (references_fault view.types.now view.heap.now)
    (locals_fault view.types.now view.heap.now view.locals.now) in
    let first = ap (λ o. or_else o rest) (sym c.segments_fault.ensures.fault ∙ c.in-None.is) in (
      λ e. let told = c.named_verdict.ensures.lawful.0 e in (
        lawful_if view.types.now view.large view.heap.now view.locals.now heap c.requires.holes (first ∙ told.0),
        told.1,
      ),
      λ lawful. c.named_verdict.ensures.lawful.1 (
        sym first ∙ lawful_is_clean view.types.now view.large view.heap.now view.locals.now heap lawful.0,
        lawful.1,
      ),
    )
