-- What stands behind the place of a line that was put is kept.
use Rattle.std.proofs.Common.{◌≡◌, ◌∙◌, ℕ, ◌+◌, List, ap, ap₂, arith, drop, length}
use Rattle.clr_sos.proofs.LineEnds.{cut-rest, kept-ends, long-enough}
use Rattle.clr_sos.proofs.line_ends.put_new.Goals as goal

pub slice_bounds-end_of-count : goal.slice_bounds-end_of-count
slice_bounds-end_of-count c =
    let long = long-enough c.args.types.now c.args.text.now.items c.put_item.new.text.items c.args.item.now
    c.in_ok-put_item.ensures in
    let same = ap length c.deref.ensures.value in
    let start = c.len-start.ensures in
    omega (arith, long, same, start)

pub slice_bounds-end_of-start : goal.slice_bounds-end_of-start
slice_bounds-end_of-start c =
    let long = long-enough c.args.types.now c.args.text.now.items c.put_item.new.text.items c.args.item.now
    c.in_ok-put_item.ensures in
    let same = ap length c.deref.ensures.value in
    let start = c.len-start.ensures in
    omega (arith, long, same, start)

pub returns-clause-end : goal.returns-clause-end
returns-clause-end c =
    let start = c.len-start.ensures in
    let at : c.len-start.result + 16 ≡ length c.args.text.now.items + 16 = omega (arith, start) in
    kept-ends c.args.types.now c.args.text.now.items c.put_item.new.text.items c.args.item.now c.end_of.result
    c.in_ok-put_item.ensures c.end_of.ensures.type_id c.end_of.ensures.size c.end_of.ensures.within
    (λ some. c.end_of.ensures.bytes some ∙ cut-rest c.deref.result.now (c.len-start.result + 16)
    ∙ ap₂ (λ (n : ℕ) (items : List ℕ). drop n items) at c.deref.ensures.value)
