use Rattle.std.proofs.Common.{◌≡◌, ℕ, ap, sym, ◌∙◌, subst, Some}
use Rattle.clr_heap.proofs.Rewrite.{shaped_heap}
use Rattle.clr_model.specs.Fitting.{lowest_item, older_items}
use Rattle.clr_view.specs.View.{layout_in}
use Rattle.clr_evacuate.specs.FittedRun.{HasFitted}
use Rattle.clr_evacuate.proofs.FittedRuns.{can_go, hints_after, lowest_is, older_after, still_older}
use Rattle.clr_evacuate.proofs.OldHomes.{older_home, run_inside}
use Rattle.clr_evacuate.proofs.plugs.carry_fitting.Goals as goal

pub carry_plug-requires-clause-can : goal.carry_plug-requires-clause-can
carry_plug-requires-clause-can c =
    let rows = c.args.types.now in
    let h = c.args.heap.now in
    let e : lowest_item c.args.plug.size (older_items (layout_in rows h)) ≡ Some c.in-Some.item =
    ap (λ (n : ℕ). lowest_item n (older_items (layout_in rows h))) (sym c.size.ensures.value)
    ∙ sym c.find_lowest-found.ensures.lowest ∙ c.in-Some.is in
    (c.requires.run.0, can_go rows h c.requires.run.0 c.args.plug c.in-Some.item c.requires.older c.requires.run.1 e)

pub carry_plug-requires-clause-inside : goal.carry_plug-requires-clause-inside
carry_plug-requires-clause-inside c =
    run_inside c.args.types.now c.args.heap.now c.find_lowest-found.ensures.heap c.requires.held c.requires.run.0
    c.args.plug c.requires.run.1

pub carry_plug-requires-clause-below : goal.carry_plug-requires-clause-below
carry_plug-requires-clause-below c = c.requires.run.1.below

pub carry_plug-requires-clause-home : goal.carry_plug-requires-clause-home
carry_plug-requires-clause-home c =
    let rows = c.args.types.now in
    let h = c.args.heap.now in
    let e : lowest_item c.args.plug.size (older_items (layout_in rows h)) ≡ Some c.in-Some.item =
    ap (λ (n : ℕ). lowest_item n (older_items (layout_in rows h))) (sym c.size.ensures.value)
    ∙ sym c.find_lowest-found.ensures.lowest ∙ c.in-Some.is in
    older_home rows h c.in-Some.item c.requires.older
    (lowest_is c.args.plug.size (older_items (layout_in rows h)) c.in-Some.item e).0

pub returns-in-Some-clause-bricks : goal.returns-in-Some-clause-bricks
returns-in-Some-clause-bricks c = c.carry_plug.ensures.bricks

pub returns-in-Some-clause-spans : goal.returns-in-Some-clause-spans
returns-in-Some-clause-spans c = c.carry_plug.ensures.spans

pub returns-in-Some-clause-fitted : goal.returns-in-Some-clause-fitted
returns-in-Some-clause-fitted c run is =
    let rows = c.args.types.now in
    let h = c.args.heap.now in
    let new = c.carry_plug.new.heap in
    let e : lowest_item c.args.plug.size (older_items (layout_in rows h)) ≡ Some c.in-Some.item =
    ap (λ (n : ℕ). lowest_item n (older_items (layout_in rows h))) (sym c.size.ensures.value)
    ∙ sym c.find_lowest-found.ensures.lowest ∙ c.in-Some.is in
    let there = (lowest_is c.args.plug.size (older_items (layout_in rows h)) c.in-Some.item e).0 in
    let carried = c.carry_plug.ensures.carried run
    (can_go rows h run c.args.plug c.in-Some.item c.requires.older is e) in
    subst (HasFitted rows h new run c.args.plug c.size-in-Some.result) (sym e) (
      record {
        carried = carried;
        older = older_after rows h new run c.args.plug c.in-Some.item c.find_lowest-found.ensures.heap c.requires.held
            c.requires.older is there carried;
      },
      c.size-in-Some.ensures.value,
    )

pub returns-in-Some-clause-older : goal.returns-in-Some-clause-older
returns-in-Some-clause-older c =
    let rows = c.args.types.now in
    let h = c.args.heap.now in
    let e : lowest_item c.args.plug.size (older_items (layout_in rows h)) ≡ Some c.in-Some.item =
    ap (λ (n : ℕ). lowest_item n (older_items (layout_in rows h))) (sym c.size.ensures.value)
    ∙ sym c.find_lowest-found.ensures.lowest ∙ c.in-Some.is in
    let there = (lowest_is c.args.plug.size (older_items (layout_in rows h)) c.in-Some.item e).0 in
    still_older rows h c.carry_plug.new.heap c.requires.run.0 c.args.plug c.in-Some.item
    c.find_lowest-found.ensures.heap c.requires.held c.requires.older c.requires.run.1 there
    (c.carry_plug.ensures.carried c.requires.run.0
    (can_go rows h c.requires.run.0 c.args.plug c.in-Some.item c.requires.older c.requires.run.1 e))

pub returns-in-Some-clause-hints : goal.returns-in-Some-clause-hints
returns-in-Some-clause-hints c =
    let rows = c.args.types.now in
    let h = c.args.heap.now in
    let e : lowest_item c.args.plug.size (older_items (layout_in rows h)) ≡ Some c.in-Some.item =
    ap (λ (n : ℕ). lowest_item n (older_items (layout_in rows h))) (sym c.size.ensures.value)
    ∙ sym c.find_lowest-found.ensures.lowest ∙ c.in-Some.is in
    let there = (lowest_is c.args.plug.size (older_items (layout_in rows h)) c.in-Some.item e).0 in
    let can = can_go rows h c.requires.run.0 c.args.plug c.in-Some.item c.requires.older c.requires.run.1 e in
    let carried = c.carry_plug.ensures.carried c.requires.run.0 can in
    hints_after rows h c.carry_plug.new.heap c.requires.run.0 c.args.plug c.in-Some.item
    c.find_lowest-found.ensures.heap c.requires.held c.requires.older c.requires.run.1 there carried
    (shaped_heap h c.carry_plug.new.heap carried.shape c.find_lowest-found.ensures.heap) c.requires.order can
    c.find_lowest-found.new.hints.hints c.find_lowest-found.ensures.hints

pub returns-in-Some-clause-heap : goal.returns-in-Some-clause-heap
returns-in-Some-clause-heap c =
    let rows = c.args.types.now in
    let h = c.args.heap.now in
    let e : lowest_item c.args.plug.size (older_items (layout_in rows h)) ≡ Some c.in-Some.item =
    ap (λ (n : ℕ). lowest_item n (older_items (layout_in rows h))) (sym c.size.ensures.value)
    ∙ sym c.find_lowest-found.ensures.lowest ∙ c.in-Some.is in
    let can = can_go rows h c.requires.run.0 c.args.plug c.in-Some.item c.requires.older c.requires.run.1 e in
    let carried = c.carry_plug.ensures.carried c.requires.run.0 can in
    shaped_heap h c.carry_plug.new.heap carried.shape c.find_lowest-found.ensures.heap

pub returns-in-None-clause-heap : goal.returns-in-None-clause-heap
returns-in-None-clause-heap c = c.find_lowest-found.ensures.heap
