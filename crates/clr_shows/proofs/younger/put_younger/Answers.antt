-- Neither an object of generation 0 nor one without references has such a slot.
use Rattle.std.proofs.Common.{◌∙◌, ◌++◌, List, ℕ, ap, append-nil, length, sym}
use Rattle.clr_types.specs.Descriptors.{series_of}
use Rattle.clr_types.specs.Types.{form_at}
use Rattle.clr_heap.specs.View.{word_of}
use Rattle.clr_model.specs.Machine.{Value}
use Rattle.clr_view.proofs.Listed.{listed-known}
use Rattle.clr_shows.proofs.YoungerObjects.{empty-told, no-lines, no-slots, object-lines, object-slots, series-object}
use Rattle.clr_shows.proofs.YoungerObjects.{some-told}
use Rattle.clr_shows.proofs.YoungerObjects.{young-none}
use Rattle.clr_shows.proofs.YoungerSlots.{plain-slots}
use Rattle.clr_shows.proofs.younger.put_younger.Goals as goal

pub series-requires : goal.series-requires
series-requires c =
    listed-known c.args.view.now.types.now c.args.view.now.heap.now c.args.item.now c.requires.shown.heap
    c.requires.shown.held c.requires.listed

pub returns-then-generation-eq0-clause-text : goal.returns-then-generation-eq0-clause-text
returns-then-generation-eq0-clause-text c = λ m shown.
    let v = c.args.view.now in
    let i = c.args.item.now in
    let young = sym c.gen_of-generation.ensures ∙ c.if-generation-eq0.true in
    sym (ap (λ (lines : List ℕ). c.args.text.now.items ++ lines) (no-lines v m i (young-none v m i shown young))
    ∙ append-nil c.args.text.now.items)

pub returns-then-generation-eq0-clause-count : goal.returns-then-generation-eq0-clause-count
returns-then-generation-eq0-clause-count c = λ m shown.
    let v = c.args.view.now in
    let i = c.args.item.now in
    let young = sym c.gen_of-generation.ensures ∙ c.if-generation-eq0.true in
    sym (ap (λ (slots : List (ℕ × Value)). length slots) (no-slots v m i (young-none v m i shown young)))

pub returns-then-is_empty-clause-text : goal.returns-then-is_empty-clause-text
returns-then-is_empty-clause-text c = λ m shown.
    let v = c.args.view.now in
    let i = c.args.item.now in
    let none = empty-told c.is_empty.result c.series.result.now (series_of (form_at v.types.now i.type_id.0))
    c.is_empty.ensures c.series.ensures c.if-is_empty.true in
    sym (ap (λ (lines : List ℕ). c.args.text.now.items ++ lines)
    (no-lines v m i (plain-slots m v.types.now (word_of v.heap.now) i none)) ∙ append-nil c.args.text.now.items)

pub returns-then-is_empty-clause-count : goal.returns-then-is_empty-clause-count
returns-then-is_empty-clause-count c = λ m shown.
    let v = c.args.view.now in
    let i = c.args.item.now in
    let none = empty-told c.is_empty.result c.series.result.now (series_of (form_at v.types.now i.type_id.0))
    c.is_empty.ensures c.series.ensures c.if-is_empty.true in
    sym (ap (λ (slots : List (ℕ × Value)). length slots)
    (no-slots v m i (plain-slots m v.types.now (word_of v.heap.now) i none)))

pub put_slots-requires-clause-object : goal.put_slots-requires-clause-object
put_slots-requires-clause-object c =
    let rows = c.args.view.now.types.now in
    let i = c.args.item.now in
    series-object rows i (some-told c.is_empty.result c.series.result.now (series_of (form_at rows i.type_id.0))
    c.is_empty.ensures c.series.ensures c.if-is_empty.false)

pub returns-clause-text : goal.returns-clause-text
returns-clause-text c = λ m shown.
    let v = c.args.view.now in
    let i = c.args.item.now in
    let object = series-object v.types.now i (some-told c.is_empty.result c.series.result.now
    (series_of (form_at v.types.now i.type_id.0)) c.is_empty.ensures c.series.ensures c.if-is_empty.false) in
    c.in_ok-count.ensures.text m shown
    ∙ ap (λ (lines : List ℕ). c.args.text.now.items ++ lines) (sym (object-lines v m i object))

pub returns-clause-count : goal.returns-clause-count
returns-clause-count c = λ m shown.
    let v = c.args.view.now in
    let i = c.args.item.now in
    let object = series-object v.types.now i (some-told c.is_empty.result c.series.result.now
    (series_of (form_at v.types.now i.type_id.0)) c.is_empty.ensures c.series.ensures c.if-is_empty.false) in
    c.in_ok-count.ensures.count m shown
    ∙ ap (λ (slots : List (ℕ × Value)). length slots) (sym (object-slots v m i object))
