use Rattle.std.proofs.Common.{◌≡◌, ◌+◌, ◌-◌, refl, ap, sym, ◌∙◌, set, subst, arith}
use Rattle.clr_types.specs.Segments.{ended_at, ephemeral, reserved_end}
use Rattle.clr_types.specs.declared.segment.SegInfo.{SegInfo}
use Rattle.clr_heap.specs.View.{frame, HeapView, last_of, opening_heap, rest_between, segment_at, word_of}
use Rattle.clr_view.specs.View.{IsHeld}
use Rattle.clr_heap_tests.proofs.FirstContext.{CanOpen, held_opened, opening_clear}
use Rattle.clr_view.proofs.Opening.{held_at_start}
use Rattle.clr_heap_tests.proofs.objects.open_context.Goals as goal

pub returns : goal.returns
returns g c =
    let rows = c.args.types.now in
    let h = c.args.heap.now in
    let k = c.ephemeral-k.result in
    let i = c.args.thread - 1 in
    let size = c.args.size in
    let opened : h ≡ opening_heap 262144 1048576 = c.requires.opened in
    let positive = c.requires.positive in
    let few = c.requires.few in
    let small = c.requires.small in
    let is = c.ephemeral-k.ensures.segment in
    let end : last_of h k ≡ 0x10001000 = ap (λ (s : SegInfo). s.end) is
    ∙ ap (λ (q : HeapView). (ephemeral (frame q)).end) opened in
    let high : reserved_end (segment_at h k) ≡ 0x10040000 =
    ap reserved_end is ∙ ap (λ (q : HeapView). reserved_end (ephemeral (frame q))) opened in
    let start : h.start0 ≡ 0x10001000 = ap (λ (q : HeapView). q.start0) opened in
    let can : CanOpen rows h k i size = record {
      heap = c.ephemeral-k.ensures.heap;
      held = subst (IsHeld rows) (sym opened) (held_at_start rows 262144 1048576 refl);
      segment = record { in_range = c.ephemeral-k.ensures.in_range; is = is };
      rests = ap (λ (q : HeapView). q.rests) opened;
      thread = omega (arith, positive, few);
      young = omega (arith, end, start);
      least = c.requires.least;
      whole = c.requires.whole;
      room = omega (arith, end, high, small);
      clear = λ b z low up. ap (λ (q : HeapView). word_of q b) opened ∙ opening_clear 262144 1048576 b;
    } in
    let last : c.info-segment.result.end ≡ last_of h k = ap (λ (s : SegInfo). s.end) c.info-segment.ensures.value in
    let made = c.set_hole.ensures
    ∙ ap (λ (q : HeapView).
    record q { rests = set q.rests i (rest_between c.info-segment.result.end (c.info-segment.result.end + size)) })
    c.set_end.ensures
    ∙ ap (λ (e : _). record h {
      segments = set h.segments k (ended_at (e + size) (segment_at h k));
      rests = set h.rests i (rest_between e (e + size));
    }) last in
    subst (IsHeld rows) (sym made) (held_opened rows h k i size can)
