use Rattle.std.proofs.Common.{◌≡◌, ◌*◌, ◌≤◌, length, get_or, ap, sym, subst, ◌∙◌, arith}
use Rattle.clr_heap.specs.View.{segment_at}
use Rattle.clr_bgmark.specs.FirstParts.{IsUntold, no_part}
use Rattle.clr_bgmark.specs.Pauses.{used_size}
use Rattle.clr_bgmark.proofs.AllParts.{untold_more}
use Rattle.clr_bgmark.proofs.first_pause.parts_of.Goals as goal

pub loop-k-preserved : goal.loop-k-preserved
loop-k-preserved c =
    let h = c.args.heap.now in
    let k = c.loop-k.k in
    let inv = c.loop-k.invariant in
    let p = c.in_ok-part.part in
    let size : c.used_size.result ≡ used_size (segment_at h k) =
    c.used_size.ensures ∙ ap used_size c.info-segment.ensures.value in
    let more = untold_more h k c.loop-k.parts.items p inv.count inv.each
    (record {
      room = subst (λ n. n ≤ 512 * length p.gaps) size c.in_ok-part.ensures.room;
      none = c.in_ok-part.ensures.none;
    }) in
    record {
      count = ap length c.in_ok-push.ensures.items ∙ more.0;
      each = λ j l.
          subst (λ ps. IsUntold (used_size (segment_at h j)) (get_or ps j no_part)) (sym c.in_ok-push.ensures.items)
          (more.1 j l);
    }

pub returns : goal.returns
returns c =
    let low = c.loop-k-test.false in
    let high = c.loop-k.auto.k-end in
    let count = c.segments-k-end.ensures.count in
    let all : c.loop-k.k ≡ length c.args.heap.now.segments = omega (arith, low, high, count) in
    record {
      count = c.loop-k.invariant.count ∙ all;
      each = λ k l. c.loop-k.invariant.each k (omega (arith, l, all));
    }
