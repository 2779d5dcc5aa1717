-- From what is alive to what is kept.
use Rattle.std.proofs.Common.{◌≡◌, ◌-◌, ◌↔◌, ◌⊎◌, ap, ◌∙◌, subst, sym, drop, take, length, List, ℕ}
use Rattle.std.proofs.lemmas.List.{take_rest}
use Rattle.clr_types.specs.Maps.{map_values}
use Rattle.clr_types.specs.declared.handle.Kind.TheVariants.{Dependent, WeakLong}
use Rattle.clr_handles.specs.Laws.{cleared}
use Rattle.clr_model.specs.Reach.{Reach}
use Rattle.clr_view.specs.Marks.{Marked}
use Rattle.clr_view.specs.Memory.{is_left_name}
use Rattle.clr_mark.specs.Roots.{AreObjects, IsCondemnedRoot}
use Rattle.clr_mark.specs.Ties.{Draws, IsTiedToOld}
use Rattle.clr_mark.specs.Waiting.{MarkerView}
use Rattle.clr_mark.proofs.Remarking.{keeps_layout, keeps_objects}
use Rattle.clr_collect.proofs.KeptMarks.{kept_marked}
use Rattle.clr_collect.proofs.KeptNames.{flat_handles, new_handles, short_handles, woken_stand}
use Rattle.clr_collect.proofs.TablesKept.{tables_flagged, tables_remarked}
use Rattle.clr_collect.proofs.UnflaggedMarks.{gray_unflagged}
use Rattle.clr_collect.proofs.judging.process_references.Goals as goal

-- the woken places as they are handed on
woken : (now : List ℕ) (told before : List ℕ) (ready : List ℕ) → now ≡ ready → told ≡ before
    → take (length now - length told) (drop (length told) now) ≡ drop (length before) ready
woken now told before ready same was =
    take_rest now (length told) ∙ (λ k. drop (length (was k)) (same k))

pub clear_short-requires-clause-handles : goal.clear_short-requires-clause-handles
clear_short-requires-clause-handles c =
    flat_handles c.args.types.now c.args.handles.now c.args.finals.now c.args.marker.now.oldest c.args.heap.now
    c.requires.entries c.requires.handles c.scan_finalizers.new.heap c.scan_finalizers.ensures.unflagged

pub mark_more-requires-clause-gray : goal.mark_more-requires-clause-gray
mark_more-requires-clause-gray c =
    gray_unflagged c.args.types.now c.args.heap.now c.scan_finalizers.new.heap c.args.marker.now.oldest
    c.args.finals.now.entries c.scan_finalizers.ensures.unflagged c.scan_finalizers.ensures.unflagged.heap
    c.args.marker.now
    c.requires.gray

pub mark_more-requires-clause-handles : goal.mark_more-requires-clause-handles
mark_more-requires-clause-handles c =
    short_handles c.args.types.now c.args.handles.now c.args.finals.now c.args.marker.now.oldest c.args.heap.now
    c.requires.entries c.requires.handles c.scan_finalizers.new.heap c.scan_finalizers.ensures.unflagged
    c.clear_short.new.handles c.clear_short.ensures

pub mark_more-requires-clause-objects : goal.mark_more-requires-clause-objects
mark_more-requires-clause-objects c =
    subst (AreObjects c.args.types.now c.scan_finalizers.new.heap)
    (sym (woken c.ready.result.now c.ready-waiting.result.now c.args.finals.now.ready c.scan_finalizers.new.finals.ready
    c.ready.ensures c.ready-waiting.ensures))
    (woken_stand c.args.types.now c.args.handles.now c.args.finals.now c.args.marker.now.oldest c.args.heap.now
    c.requires.entries c.requires.handles c.scan_finalizers.new.heap c.scan_finalizers.ensures.unflagged
    c.scan_finalizers.new.finals c.scan_finalizers.ensures.judged)

pub clear_long_and_dependent-requires-clause-handles : goal.clear_long_and_dependent-requires-clause-handles
clear_long_and_dependent-requires-clause-handles c =
    let flat = c.scan_finalizers.ensures.unflagged in
    new_handles c.args.types.now c.args.handles.now c.args.finals.now c.args.marker.now.oldest c.args.heap.now
    c.requires.entries c.requires.handles c.scan_finalizers.new.heap flat c.clear_short.new.handles
    c.clear_short.ensures
    c.mark_more.new.heap
    (keeps_objects c.args.types.now c.scan_finalizers.new.heap c.mark_more.new.heap
    c.scan_finalizers.ensures.unflagged.heap
    flat.held c.mark_more.ensures.words)

pub returns-clause-kept : goal.returns-clause-kept
returns-clause-kept c = λ old locals alive.
    let same = ap (λ (n : MarkerView). n.oldest) c.mark_more.ensures.marker in
    let flat = c.scan_finalizers.ensures.unflagged in
    kept_marked c.args.types.now old locals c.args.handles.now c.args.finals.now c.args.marker.now.oldest
    c.args.heap.now alive c.scan_finalizers.new.finals c.scan_finalizers.ensures.judged c.scan_finalizers.new.heap
    flat c.clear_short.new.handles c.clear_short.ensures
    (flat_handles c.args.types.now c.args.handles.now c.args.finals.now c.args.marker.now.oldest c.args.heap.now
    c.requires.entries c.requires.handles c.scan_finalizers.new.heap flat)
    c.mark_more.new.heap c.mark_more.ensures.words c.mark_more.ensures.gray.closed.heap
    c.mark_more.ensures.gray.closed.held (subst (λ (rs : List ℕ). (x : ℕ) → Marked c.args.types.now c.mark_more.new.heap
    x
    ↔ Reach (Draws c.args.types.now c.scan_finalizers.new.heap c.clear_short.new.handles c.args.marker.now.oldest)
    (λ y. Marked c.args.types.now c.scan_finalizers.new.heap y
    ⊎ (IsCondemnedRoot rs c.scan_finalizers.new.heap c.args.marker.now.oldest y
    ⊎ IsTiedToOld c.args.types.now c.scan_finalizers.new.heap c.clear_short.new.handles c.args.marker.now.oldest y)) x)
    (woken c.ready.result.now c.ready-waiting.result.now c.args.finals.now.ready c.scan_finalizers.new.finals.ready
    c.ready.ensures c.ready-waiting.ensures)
    c.mark_more.ensures.marked) c.clear_long_and_dependent.new.handles
    (subst (λ g. c.clear_long_and_dependent.new.handles
    ≡ map_values (cleared Dependent (is_left_name c.args.types.now c.mark_more.new.heap g))
    (map_values (cleared WeakLong (is_left_name c.args.types.now c.mark_more.new.heap g)) c.clear_short.new.handles))
    same c.clear_long_and_dependent.ensures)

pub returns-clause-tables : goal.returns-clause-tables
returns-clause-tables c = λ cards bricks tables.
    let rows = c.args.types.now in
    let flat = c.scan_finalizers.new.heap in
    tables_remarked rows flat c.mark_more.new.heap cards bricks
    (tables_flagged rows c.args.heap.now flat cards bricks tables c.args.marker.now.oldest c.args.finals.now.entries
    c.scan_finalizers.ensures.unflagged)
    (keeps_objects rows flat c.mark_more.new.heap c.scan_finalizers.ensures.unflagged.heap
    c.scan_finalizers.ensures.unflagged.held c.mark_more.ensures.words)
    (keeps_layout rows flat c.mark_more.new.heap c.scan_finalizers.ensures.unflagged.heap
    c.scan_finalizers.ensures.unflagged.held c.mark_more.ensures.words)
