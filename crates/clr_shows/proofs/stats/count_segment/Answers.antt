-- Item after item is counted in its line and in the last one.
use Rattle.std.proofs.Common.{◌∙◌, ◌+◌, ◌++◌, ◌∷◌, [], List, ap, append_assoc, append-nil, length, refl, rules, subst}
use Rattle.std.proofs.Common.{sym}
use Rattle.clr_types.specs.declared.segment.SegInfo.{SegInfo}
use Rattle.clr_types.specs.declared.item.Item.{Item}
use Rattle.clr_heap.specs.View.{listing, listings}
use Rattle.clr_view.proofs.Walked.{walked-on as segments-on}
use Rattle.clr_sos.proofs.ListedItems.{walked-all, walked-on}
use Rattle.clr_shows.specs.StatBounds.{AreWithin}
use Rattle.clr_shows.specs.Stats.{AreCounted, with_counted}
use Rattle.clr_shows.specs.declared.stats.Stat.{Stat}
use Rattle.clr_shows.proofs.StatCounts.{counts-on, lines-kept, within-on}
use Rattle.clr_shows.proofs.StatLines.{next-here, next-room, row-told, segment-listed}
use Rattle.clr_shows.proofs.stats.count_segment.Goals as goal

pub is_dead-dead-requires : goal.is_dead-dead-requires
is_dead-dead-requires g c =
    let rows = c.args.view.now.types.now in
    let h = c.args.view.now.heap.now in
    c.requires.ask c.in-Some.item
    (segment-listed rows h c.walk-item-items.ensures.heap c.requires.held.walkable c.args.k c.requires.in_range
    c.in-Some.item
    (next-here rows h c.walk-item-items.ensures.heap c.requires.held.walkable c.args.k c.requires.in_range
    c.loop-item.yielded c.loop-item.item-iterator c.next.new.self c.in-Some.item c.in-Some.ensures.steps
    (c.loop-item.invariant.walked ∙ c.into_iter-item-iterator.ensures.into_iter_gives
    ∙ c.walk-item-items.ensures.items)))

pub count-requires-clause-room : goal.count-requires-clause-room
count-requires-clause-room g c =
    next-room c.args.view.now.types.now c.args.view.now.heap.now c.walk-item-items.ensures.heap
    c.requires.held.walkable c.args.k c.requires.in_range
    c.loop-item.yielded c.loop-item.item-iterator c.next.new.self c.in-Some.item c.in-Some.ensures.steps
    (c.loop-item.invariant.walked ∙ c.into_iter-item-iterator.ensures.into_iter_gives ∙ c.walk-item-items.ensures.items)
    c.loop-item.stats c.loop-item.invariant.within

pub loop-item-init : goal.loop-item-init
loop-item-init g c =
    let before = listings c.args.view.now.types.now c.args.view.now.heap.now 0 c.args.k in
    record {
      lines = search rules;
      walked = refl;
      within = subst (AreWithin c.args.stats.now) (sym (append-nil before)) c.requires.within;
      counted = λ test answers counts.
          subst (AreCounted c.args.view.now.types.now c.args.view.now.heap.now test c.args.stats.now)
          (sym (append-nil before)) counts;
    }

pub loop-item-preserved : goal.loop-item-preserved
loop-item-preserved g c =
    let rows = c.args.view.now.types.now in
    let h = c.args.view.now.heap.now in
    let i = c.in-Some.item in
    let before = listings rows h 0 c.args.k in
    let walked = c.loop-item.invariant.walked ∙ c.into_iter-item-iterator.ensures.into_iter_gives
    ∙ c.walk-item-items.ensures.items in
    let here = next-here rows h c.walk-item-items.ensures.heap c.requires.held.walkable c.args.k c.requires.in_range
    c.loop-item.yielded c.loop-item.item-iterator c.next.new.self i c.in-Some.ensures.steps walked in
    let row = row-told rows h c.walk-item-items.ensures.heap c.requires.held.walkable c.args.k c.requires.in_range i
    here c.info-kind.result.kind (ap (λ (s : SegInfo). s.kind) c.info-kind.ensures.value) c.row_of-row.result
    c.row_of-row.ensures.row in
    let more = append_assoc before c.loop-item.yielded (i ∷ []) in
    record {
      lines = ap (λ (stats : List Stat). length stats) c.count.ensures
          ∙ lines-kept c.loop-item.stats c.loop-item.invariant.lines c.row_of-row.result c.row_of-row.ensures.low i
          c.is_dead-dead.result;
      walked = walked-on c.loop-item.yielded c.loop-item.item-iterator c.next.new.self
          c.into_iter-item-iterator.result i c.in-Some.ensures.steps c.loop-item.invariant.walked;
      within = subst (λ (stats : List Stat). AreWithin stats (before ++ (c.loop-item.yielded ++ i ∷ [])))
          (sym c.count.ensures)
          (subst (AreWithin (with_counted c.loop-item.stats c.row_of-row.result i c.is_dead-dead.result)) more
          (within-on c.loop-item.stats c.loop-item.invariant.lines c.row_of-row.result c.row_of-row.ensures.low i
          c.is_dead-dead.result (before ++ c.loop-item.yielded) c.loop-item.invariant.within));
      counted = λ test answers counts.
          subst (λ (stats : List Stat). AreCounted rows h test stats (before ++ (c.loop-item.yielded ++ i ∷ [])))
          (sym c.count.ensures)
          (subst (AreCounted rows h test
          (with_counted c.loop-item.stats c.row_of-row.result i c.is_dead-dead.result)) more
          (counts-on c.loop-item.stats c.loop-item.invariant.lines c.row_of-row.result c.row_of-row.ensures.low i
          c.is_dead-dead.result rows h test (before ++ c.loop-item.yielded) row
          (c.is_dead-dead.ensures test (answers i (segment-listed rows h c.walk-item-items.ensures.heap
          c.requires.held.walkable c.args.k c.requires.in_range i here)))
          (c.loop-item.invariant.counted test answers counts)));
    }

pub returns-clause-within : goal.returns-clause-within
returns-clause-within g c =
    let rows = c.args.view.now.types.now in
    let h = c.args.view.now.heap.now in
    let all = walked-all c.loop-item.yielded c.loop-item.item-iterator (listing rows h c.args.k)
    c.in-None.ensures.steps.0 (c.loop-item.invariant.walked ∙ c.into_iter-item-iterator.ensures.into_iter_gives
    ∙ c.walk-item-items.ensures.items) in
    subst (AreWithin c.loop-item.stats)
    (ap (λ (items : List Item). listings rows h 0 c.args.k ++ items) all ∙ sym (segments-on rows h c.args.k))
    c.loop-item.invariant.within

pub returns-clause-counted : goal.returns-clause-counted
returns-clause-counted g c = λ test answers counts.
    let rows = c.args.view.now.types.now in
    let h = c.args.view.now.heap.now in
    let all = walked-all c.loop-item.yielded c.loop-item.item-iterator (listing rows h c.args.k)
    c.in-None.ensures.steps.0 (c.loop-item.invariant.walked ∙ c.into_iter-item-iterator.ensures.into_iter_gives
    ∙ c.walk-item-items.ensures.items) in
    subst (AreCounted rows h test c.loop-item.stats)
    (ap (λ (items : List Item). listings rows h 0 c.args.k ++ items) all ∙ sym (segments-on rows h c.args.k))
    (c.loop-item.invariant.counted test answers counts)
