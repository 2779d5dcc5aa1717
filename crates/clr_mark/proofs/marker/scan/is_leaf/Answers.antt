use Rattle.std.proofs.Common.{length, ap, sym, ◌∙◌}
use Rattle.std.proofs.lemmas.Bool.{eqb-true}
use Rattle.clr_types.specs.Descriptors.{series_of}
use Rattle.clr_types.specs.Types.{form_at}
use Rattle.clr_types.specs.declared.TypeId.{TypeId}
use Rattle.clr_heap.specs.Parts.{item_at}
use Rattle.clr_heap.specs.View.{word_of}
use Rattle.clr_mark.proofs.Following.{can_scan, none_left}
use Rattle.clr_mark.proofs.References.{no_references}
use Rattle.clr_mark.proofs.marker.scan.is_leaf.Goals as goal

pub type_at-type_id-requires-clause-item : goal.type_at-type_id-requires-clause-item
type_at-type_id-requires-clause-item c =
    (can_scan c.args.types.now c.args.heap.now c.args.obj c.requires.closed c.requires.marked).head

pub series-requires : goal.series-requires
series-requires c =
    let known = (can_scan c.args.types.now c.args.heap.now c.args.obj c.requires.closed c.requires.marked).known in
    rw c.type_at-type_id.ensures known

pub returns : goal.returns
returns c leaf =
    let i = item_at c.args.types.now (word_of c.args.heap.now) c.args.obj in
    let none = none_left c.series.result.now
    (eqb-true (length c.series.result.now) 0 (sym c.is_empty.ensures ∙ leaf)) in
    let same = ap (λ (t : TypeId). series_of (form_at c.args.types.now t.0)) (sym c.type_at-type_id.ensures) in
    no_references (form_at c.args.types.now i.type_id.0) i.len (same ∙ sym c.series.ensures ∙ none)
