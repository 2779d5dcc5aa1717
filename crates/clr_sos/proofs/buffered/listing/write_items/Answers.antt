-- Each item has its line, and is counted.
use Rattle.std.proofs.Common.{◌∙◌, ◌++◌, ap, arith, sym}
use Rattle.std.specs.List.{flat_map}
use Rattle.std.proofs.lemmas.Result.{err_from_is_err_and}
use Rattle.clr_model.specs.Sos.{item_line, total_line}
use Rattle.clr_sos.specs.Dumping.{counted, totals_line}
use Rattle.clr_sos.specs.declared.listing_lines.Totals.{Totals}
use Rattle.clr_sos.proofs.BufferedLines.{listing_all}
use Rattle.clr_sos.proofs.BufferedTexts.{cut_more, cut_within, lines_cut, lines_one, put_more}
use Rattle.clr_sos.proofs.ListedItems.{counted-push, next-count, next-known, walked-all, walked-on, within-counted}
use Rattle.clr_sos.proofs.buffered.listing.write_items.Goals as goal

pub write_item-requires : goal.write_item-requires
write_item-requires g c =
    next-known c.args.types.now c.loop-item.yielded c.loop-item.item-iterator c.next.new.self c.args.items
    c.in-Some.item c.in-Some.ensures.steps
    (c.loop-item.invariant.walked ∙ c.into_iter-item-iterator.ensures.into_iter_gives) c.requires

pub returns-in_err-write_item-clause-cut : goal.returns-in_err-write_item-clause-cut
returns-in_err-write_item-clause-cut g c =
    let p = err_from_is_err_and c.from_residual.result c.from_residual.ensures.1 in
    let says = item_line c.args.types.now in
    let front = c.loop-item.yielded in
    rw p.1 (cut_within _ (g.K.Sink.written c.loop-item.sink) _ _ (g.K.Sink.faults c.loop-item.sink) _ _
    c.loop-item.buffer.items (flat_map says front) (says c.in-Some.item)
    (flat_map says c.next.new.self ++ total_line c.args.items) _ c.loop-item.invariant.put
    c.in_err-write_item.ensures.cut
    (lines_cut says front c.next.new.self c.args.items c.in-Some.item (total_line c.args.items)
    (ap (λ back. front ++ back) (sym c.in-Some.ensures.steps) ∙ c.loop-item.invariant.walked
    ∙ c.into_iter-item-iterator.ensures.into_iter_gives)))

pub count-requires-clause-objects : goal.count-requires-clause-objects
count-requires-clause-objects g c =
    let few = next-count c.args.types.now c.loop-item.yielded c.loop-item.item-iterator c.next.new.self c.args.items
    c.in-Some.item c.in-Some.ensures.steps
    (c.loop-item.invariant.walked ∙ c.into_iter-item-iterator.ensures.into_iter_gives) c.requires in
    let objects = c.loop-item.invariant.within.objects in
    omega arith

pub loop-item-preserved : goal.loop-item-preserved
loop-item-preserved g c =
    let says = item_line c.args.types.now in
    record {
      walked = walked-on c.loop-item.yielded c.loop-item.item-iterator c.next.new.self
          c.into_iter-item-iterator.result c.in-Some.item c.in-Some.ensures.steps c.loop-item.invariant.walked;
      within = within-counted c.loop-item.totals c.count.new.self c.loop-item.yielded c.in-Some.item c.count.ensures
          c.loop-item.invariant.within;
      totals = c.count.ensures ∙ ap (λ (t : Totals). counted t c.in-Some.item) c.loop-item.invariant.totals
          ∙ counted-push c.loop-item.yielded c.in-Some.item;
      put = put_more _ (g.K.Sink.written c.loop-item.sink) _ _ (g.K.Sink.faults c.loop-item.sink) _ _
          c.loop-item.buffer.items _ (flat_map says c.loop-item.yielded) (says c.in-Some.item) _
          c.loop-item.invariant.put c.in_ok-write_item.ensures.put
          (lines_one says c.loop-item.yielded c.in-Some.item);
    }

pub returns-in_err-put_totals-clause-cut : goal.returns-in_err-put_totals-clause-cut
returns-in_err-put_totals-clause-cut g c =
    let failed = c.from_residual-in_err-put_totals in
    let p = err_from_is_err_and failed.result failed.ensures.1 in
    let all = walked-all c.loop-item.yielded c.loop-item.item-iterator c.args.items c.in-None.ensures.steps.0
    (c.loop-item.invariant.walked ∙ c.into_iter-item-iterator.ensures.into_iter_gives) in
    rw p.1 (cut_more _ (g.K.Sink.written c.loop-item.sink) _ _ (g.K.Sink.faults c.loop-item.sink) _ _
    c.loop-item.buffer.items (flat_map (item_line c.args.types.now) c.loop-item.yielded)
    (totals_line c.loop-item.totals) _ c.loop-item.invariant.put c.in_err-put_totals.ensures.cut
    (listing_all c.args.types.now c.loop-item.yielded c.args.items c.loop-item.totals all
    c.loop-item.invariant.totals))

pub returns-clause-put : goal.returns-clause-put
returns-clause-put g c =
    let all = walked-all c.loop-item.yielded c.loop-item.item-iterator c.args.items c.in-None.ensures.steps.0
    (c.loop-item.invariant.walked ∙ c.into_iter-item-iterator.ensures.into_iter_gives) in
    put_more _ (g.K.Sink.written c.loop-item.sink) _ _ (g.K.Sink.faults c.loop-item.sink) _ _
    c.loop-item.buffer.items _ (flat_map (item_line c.args.types.now) c.loop-item.yielded)
    (totals_line c.loop-item.totals) _ c.loop-item.invariant.put c.in_ok-put_totals.ensures.put
    (listing_all c.args.types.now c.loop-item.yielded c.args.items c.loop-item.totals all
    c.loop-item.invariant.totals)
