use Rattle.std.proofs.Common.{◌≡◌, ℕ, ◌+◌, ◌-◌, ◌<◌, true, ap, subst, arith, sym, ◌∙◌, length, nat_lt}
use Rattle.clr_types.specs.Segments.{first_place, is_small_or_ephemeral}
use Rattle.clr_types.specs.declared.segment.SegInfo.{SegInfo}
use Rattle.clr_heap.specs.View.{listings, segment_at}
use Rattle.clr_sweep.specs.KeptBytes.{IsWeighed, kept_size, kept_small}
use Rattle.clr_sweep.specs.SweptItems.{items_from}
use Rattle.clr_sweep.proofs.KeptSizes.{HaveSummed, large_summed, none_summed, small_summed, summed-room, weighed-same}
use Rattle.clr_sweep.proofs.bytes.small_bytes.Goals as goal
use Rattle.clr_sweep.proofs.bytes.small_bytes.Goals.{else-is_small, then-is_small}

pub loop-k-init : goal.loop-k-init
loop-k-init c = none_summed c.args.types.now c.args.heap.now c.args.all c.args.need

pub overflow_sub-ahead-then-is_small : goal.overflow_sub-ahead-then-is_small
overflow_sub-ahead-then-is_small c =
    let h = c.args.heap.now in
    let n = c.segments-count.ensures.count in
    let inside : c.loop-k.k < length h.segments = omega (arith, n, c.loop-k-test.true) in
    let on : is_small_or_ephemeral (segment_at h c.loop-k.k).kind ≡ true =
    ap (λ (s : SegInfo). is_small_or_ephemeral s.kind) (sym c.info-segment.ensures.value) ∙ sym c.is_small.ensures
    ∙ c.if-is_small.true in
    let room = summed-room c.args.types.now h c.loop-k.k c.args.all c.args.need c.loop-k.ahead c.loop-k.bytes
    c.segments-count.ensures.heap c.requires.held inside c.loop-k.invariant c.requires.all on in
    let end = ap (λ (s : SegInfo). s.end) c.info-segment.ensures.value in
    let base = ap (λ (s : SegInfo). s.base) c.info-segment.ensures.value in
    omega (arith, room, end, base)

pub loop-k-preserved : goal.loop-k-preserved
loop-k-preserved c =
    let rows = c.args.types.now in
    let h = c.args.heap.now in
    let k = c.loop-k.k in
    let n = c.segments-count.ensures.count in
    let inside : k < length h.segments = omega (arith, n, c.loop-k-test.true) in
    let value = c.info-segment.ensures.value in
    let kind : is_small_or_ephemeral (segment_at h k).kind ≡ c.is_small.result =
    ap (λ (s : SegInfo). is_small_or_ephemeral s.kind) (sym value) ∙ sym c.is_small.ensures in
    elim c.if-is_small.branch [
      | then-is_small w ↦
          let now = w.part_bytes-bytes.ensures in
          rw (w.ahead-is, w.bytes-is) (subst (λ (s : SegInfo). HaveSummed rows h (k + 1) c.args.all c.args.need
          (c.loop-k.ahead - (s.end - first_place s)) w.part_bytes-bytes.result) (sym value)
          (small_summed rows h k c.args.all c.args.need c.loop-k.ahead c.loop-k.bytes c.segments-count.ensures.heap
          c.requires.held inside c.loop-k.invariant c.requires.all (kind ∙ w.if-is_small.true)
          w.part_bytes-bytes.result now.least
          (subst (λ (s : SegInfo). IsWeighed (c.loop-k.bytes + kept_size h (items_from rows h k (first_place s)))
          c.args.need (c.loop-k.ahead - (s.end - first_place s)) w.part_bytes-bytes.result) value now.weighed)
          now.fits))
      | else-is_small w ↦
          rw (w.ahead-is, w.bytes-is) (large_summed rows h k c.args.all c.args.need c.loop-k.ahead c.loop-k.bytes
          c.segments-count.ensures.heap c.requires.held inside c.loop-k.invariant (kind ∙ w.if-is_small.false))
    ]

pub returns-clause-bytes : goal.returns-clause-bytes
returns-clause-bytes c =
    let h = c.args.heap.now in
    let n = c.segments-count.ensures.count in
    let within = c.loop-k.invariant.within in
    let end : c.loop-k.k ≡ length h.segments = omega (arith, n, within, c.loop-k-test.false) in
    weighed-same (kept_small h (listings c.args.types.now h 0 c.loop-k.k)) c.args.need c.loop-k.ahead c.loop-k.bytes
    c.loop-k.invariant.weighed
    ∙ ap (λ (m : ℕ). nat_lt (kept_small h (listings c.args.types.now h 0 m)) c.args.need) end
