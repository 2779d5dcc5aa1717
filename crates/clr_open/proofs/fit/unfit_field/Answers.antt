-- Field by field.
use Rattle.std.proofs.Common.{arith}
use Rattle.clr_open.proofs.FitFields.{large-fits, large-unfit, limit-unfit, rest-unfit, types-named}
use Rattle.clr_open.proofs.fit.unfit_field.Goals as goal

pub returns-then-image-segment : goal.returns-then-image-segment
returns-then-image-segment c = λ bytes p is shows.
    limit-unfit bytes c.args.image.now p is shows c.segment_size-segment.result c.segment_size-segment.ensures.is
    c.if-image-segment.true

pub returns-then-segment-image : goal.returns-then-segment-image
returns-then-segment-image c = λ bytes p is shows.
    large-unfit bytes c.args.image.now p is shows c.segment_size-segment.result c.segment_size-segment.ensures.is
    c.if-image-segment.false c.if-segment-image.true

pub overflow_add-image : goal.overflow_add-image
overflow_add-image c =
    let (bytes, p, is, shows) = c.requires in
    let large = large-fits bytes c.args.image.now p is shows in
    omega (arith, large)

pub segments_at-requires : goal.segments_at-requires
segments_at-requires c =
    let (bytes, p, is, shows) = c.requires in
    types-named bytes c.args.image.now p is shows

pub returns : goal.returns
returns c = λ bytes p is shows.
    rest-unfit bytes c.args.image.now p is shows c.segment_size-segment.result c.segment_size-segment.ensures.is
    c.if-image-segment.false c.if-segment-image.false c.unfit_segment.result c.segments_at.result
    c.segments_at.ensures.is c.unfit_segment.ensures
