use Rattle.std.proofs.Common.{ap, arith, ◌∙◌}
use Rattle.clr_types.specs.Segments.{first_place}
use Rattle.clr_types.specs.declared.segment.SegInfo.{SegInfo}
use Rattle.clr_heap.specs.View.{first_of, last_of}
use Rattle.clr_bgmark.proofs.FrontSearch.{least_of, none_old}
use Rattle.clr_bgmark.proofs.front.old_words.Goals as goal

pub returns-clause-all : goal.returns-clause-all
returns-clause-all c n most group =
    let h = c.args.heap.now in
    let k = c.args.k in
    let top = c.max.result in
    let stop = c.stop.ensures in
    let two = c.min.ensures in
    let three = c.min-stop.ensures in
    let all = c.max.ensures in
    let end = ap (λ (s : SegInfo). s.end) c.info-segment.ensures.value in
    let first = c.first_place.ensures ∙ ap first_place c.info-segment.ensures.value in
    let base = c.base.ensures in
    let sub = c.saturating_sub.ensures in
    none_old h k c.args.shade.now c.args.part.now c.end_of_old.result top n c.end_of_old.ensures
    (least_of c.args.part.now.stop c.end_of_old.result (last_of h k) (first_of h k) top
    (omega (arith, stop, two, three, all, end, first)))
    (omega (arith, all, first)) (omega (arith, sub, base, most)) group
