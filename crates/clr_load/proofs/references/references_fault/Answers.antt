-- Segment by segment.
use Rattle.std.proofs.Common.{◌<◌, length, sym, ap, arith}
use Rattle.std.proofs.lemmas.List.{get_or_read}
use Rattle.clr_load.proofs.AllSegments.{all_ahead, here_kept, none_ahead, scan_here, there_here, within_kept}
use Rattle.clr_load.proofs.references.references_fault.Goals as goal

pub loop-k-init : goal.loop-k-init
loop-k-init c b is = all_ahead c.args.bytes.now c.args.types.now b is.read

pub info-requires : goal.info-requires
info-requires c =
    within_kept c.args.bytes.now c.args.types.now c.requires.kept.0 c.args.body.now c.requires.kept.1 c.loop-k.k
    (omega (arith, c.loop-k-test.true, c.len-k-end.ensures))

pub segment_fault-requires-clause-scan : goal.segment_fault-requires-clause-scan
segment_fault-requires-clause-scan c =
    let l : c.loop-k.k < length c.args.body.now.offsets.items =
    omega (arith, c.loop-k-test.true, c.len-k-end.ensures) in
    let b = c.requires.kept.0 in
    let is = c.requires.kept.1 in
    let h =
    here_kept c.args.bytes.now c.args.types.now b c.args.body.now is c.loop-k.k (c.loop-k.invariant b is)
    c.info.result c.index.result.now l c.info.ensures
    (get_or_read c.args.body.now.offsets.items _ _ l c.index.ensures 0) in
    scan_here _ b c.loop-k.k h c.requires.small

pub segment_fault-requires-clause-read : goal.segment_fault-requires-clause-read
segment_fault-requires-clause-read c =
    let l : c.loop-k.k < length c.args.body.now.offsets.items =
    omega (arith, c.loop-k-test.true, c.len-k-end.ensures) in
    let b = c.requires.kept.0 in
    let is = c.requires.kept.1 in
    let h =
    here_kept c.args.bytes.now c.args.types.now b c.args.body.now is c.loop-k.k (c.loop-k.invariant b is)
    c.info.result c.index.result.now l c.info.ensures
    (get_or_read c.args.body.now.offsets.items _ _ l c.index.ensures 0) in
    (h.here, there_here _ b c.loop-k.k h)

pub returns-in-Some : goal.returns-in-Some
returns-in-Some c b is =
    let l : c.loop-k.k < length c.args.body.now.offsets.items =
    omega (arith, c.loop-k-test.true, c.len-k-end.ensures) in
    let h =
    here_kept c.args.bytes.now c.args.types.now b c.args.body.now is c.loop-k.k (c.loop-k.invariant b is)
    c.info.result c.index.result.now l c.info.ensures
    (get_or_read c.args.body.now.offsets.items _ _ l c.index.ensures 0) in
    sym (h.fails c.in-Some.o
    (sym (c.in-Some.ensures h.here (there_here _ b c.loop-k.k h) b.items (record { same = is.starts }))))

pub loop-k-preserved : goal.loop-k-preserved
loop-k-preserved c b is =
    let l : c.loop-k.k < length c.args.body.now.offsets.items =
    omega (arith, c.loop-k-test.true, c.len-k-end.ensures) in
    let h =
    here_kept c.args.bytes.now c.args.types.now b c.args.body.now is c.loop-k.k (c.loop-k.invariant b is)
    c.info.result c.index.result.now l c.info.ensures
    (get_or_read c.args.body.now.offsets.items _ _ l c.index.ensures 0) in
    h.passes
    (sym (c.in_default.ensures h.here (there_here _ b c.loop-k.k h) b.items (record { same = is.starts })))

pub returns : goal.returns
returns c b is =
    let count = ap length is.offsets in
    sym (none_ahead c.args.bytes.now c.args.types.now b c.loop-k.k (c.loop-k.invariant b is)
    (omega (arith, count, c.loop-k-test.false, c.len-k-end.ensures)))
