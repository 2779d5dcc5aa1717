use Rattle.std.proofs.Common.{◌≡◌, ℕ, ◌<◌, ◌≤◌, ◌+◌, ◌∙◌, sym, ap, subst, arith, Option, Some, None}
use Rattle.clr_model.specs.Compaction.{Plug, plug_end}
use Rattle.clr_heap.specs.Parts.{item_at}
use Rattle.clr_heap.specs.View.{word_of}
use Rattle.clr_view.specs.View.{is_object}
use Rattle.clr_plan.specs.Scans.{CanLook, kept_plug}
use Rattle.clr_plan.specs.Counts.{HasCounted}
use Rattle.clr_plan.proofs.Counting.{counting-starts, counts-fit, counts-kept, counts-left}
use Rattle.clr_plan.proofs.Looking.{kept-some}
use Rattle.clr_plan.proofs.Looking.{grow-starts, look_run, run-ends, run-stops, run-differs, grows, grows-within}
use Rattle.clr_plan.proofs.Looking.{stops-within, seen-at, size-at}
use Rattle.clr_plan.proofs.scan.whole_run.Goals as goal

pub loop-run-init : goal.loop-run-init
loop-run-init c = (
  grow-starts c.args.types.now c.args.heap.now c.args.k c.args.end c.args.plug c.requires.run,
  c.requires.known,
  counting-starts c.args.types.now c.args.heap.now c.args.k c.args.end (plug_end c.args.plug)
      c.args.walk.now.counts,
)

pub look-seen-requires-clause-can : goal.look-seen-requires-clause-can
look-seen-requires-clause-can c =
    let below : plug_end c.loop-run.run < c.args.end = subst (λ n. n < c.args.end) c.end.ensures.value
    c.loop-run-test.true in
    subst (CanLook c.args.types.now c.args.heap.now c.args.k) (sym c.end-in-loop-run.ensures.value)
    (look_run c.args.types.now c.args.heap.now c.args.k c.args.end c.args.plug c.loop-run.run c.loop-run.invariant.0
    below)

pub returns-then-not-is_alike : goal.returns-then-not-is_alike
returns-then-not-is_alike c =
    let rows = c.args.types.now in
    let h = c.args.heap.now in
    let below : plug_end c.loop-run.run < c.args.end = subst (λ n. n < c.args.end) c.end.ensures.value
    c.loop-run-test.true in
    let seen : ◌≡◌ {A = Option Plug} (Some c.in-Some.other)
    (kept_plug h c.args.k (item_at rows (word_of h) (plug_end c.loop-run.run))) = seen-at rows h c.args.k
    c.end-in-loop-run.ensures.value c.in-Some.is c.look-seen.ensures.kept in
    record {
      next = rw c.end-then-not-is_alike.ensures.value (run-differs rows h c.args.k c.args.end c.args.plug c.loop-run.run
          c.loop-run.invariant.0 below c.in-Some.other seen (sym c.is_alike.ensures ∙ c.if-not-is_alike.true));
      behind = let v = c.end-then-not-is_alike.ensures.value in omega (arith, v);
      known = c.look-seen.ensures.known;
      counted = rw c.end-then-not-is_alike.ensures.value c.loop-run.invariant.2;
    }

pub with_kept-walk-requires : goal.with_kept-walk-requires
with_kept-walk-requires c =
    let below : plug_end c.loop-run.run < c.args.end = subst (λ n. n < c.args.end) c.end.ensures.value
    c.loop-run-test.true in
    (counts-fit c.args.types.now c.args.heap.now c.args.k c.args.end (plug_end c.args.plug)
    c.args.walk.now.counts (plug_end c.loop-run.run) c.loop-run.walk.counts c.loop-run.invariant.2
    c.loop-run.invariant.0.scan below
    c.requires.counted).0

pub with_other-walk-requires : goal.with_other-walk-requires
with_other-walk-requires c =
    let below : plug_end c.loop-run.run < c.args.end = subst (λ n. n < c.args.end) c.end.ensures.value
    c.loop-run-test.true in
    (counts-fit c.args.types.now c.args.heap.now c.args.k c.args.end (plug_end c.args.plug)
    c.args.walk.now.counts (plug_end c.loop-run.run) c.loop-run.walk.counts c.loop-run.invariant.2
    c.loop-run.invariant.0.scan below
    c.requires.counted).1

pub joined-run-requires : goal.joined-run-requires
joined-run-requires c =
    let rows = c.args.types.now in
    let h = c.args.heap.now in
    let below : plug_end c.loop-run.run < c.args.end = subst (λ n. n < c.args.end) c.end.ensures.value
    c.loop-run-test.true in
    let seen : ◌≡◌ {A = Option Plug} (Some c.in-Some.other)
    (kept_plug h c.args.k (item_at rows (word_of h) (plug_end c.loop-run.run))) = seen-at rows h c.args.k
    c.end-in-loop-run.ensures.value c.in-Some.is c.look-seen.ensures.kept in
    let (within, high, longer) = grows-within rows h c.args.k c.args.end c.args.plug c.loop-run.run
    c.loop-run.invariant.0
    below c.in-Some.other seen in
    omega arith

pub loop-run-smaller : goal.loop-run-smaller
loop-run-smaller c =
    let rows = c.args.types.now in
    let h = c.args.heap.now in
    let below : plug_end c.loop-run.run < c.args.end = subst (λ n. n < c.args.end) c.end.ensures.value
    c.loop-run-test.true in
    let seen : ◌≡◌ {A = Option Plug} (Some c.in-Some.other)
    (kept_plug h c.args.k (item_at rows (word_of h) (plug_end c.loop-run.run))) = seen-at rows h c.args.k
    c.end-in-loop-run.ensures.value c.in-Some.is c.look-seen.ensures.kept in
    let (within, high, longer) = grows-within rows h c.args.k c.args.end c.args.plug c.loop-run.run
    c.loop-run.invariant.0
    below c.in-Some.other seen in
    let ends : plug_end c.joined-run.result ≡ c.loop-run.run.start + (c.loop-run.run.size + c.in-Some.other.size) =
    ap plug_end c.joined-run.ensures in
    omega arith

pub loop-run-preserved : goal.loop-run-preserved
loop-run-preserved c =
    let rows = c.args.types.now in
    let h = c.args.heap.now in
    let below : plug_end c.loop-run.run < c.args.end = subst (λ n. n < c.args.end) c.end.ensures.value
    c.loop-run-test.true in
    let seen : ◌≡◌ {A = Option Plug} (Some c.in-Some.other)
    (kept_plug h c.args.k (item_at rows (word_of h) (plug_end c.loop-run.run))) = seen-at rows h c.args.k
    c.end-in-loop-run.ensures.value c.in-Some.is c.look-seen.ensures.kept in
    let size = ap (λ (q : Plug). q.size) (kept-some h c.args.k (item_at rows (word_of h) (plug_end c.loop-run.run))
    c.in-Some.other seen).1 in
    let counted = counts-kept c.args.types.now c.args.heap.now c.args.k c.args.end (plug_end c.args.plug)
    c.args.walk.now.counts (plug_end c.loop-run.run) c.loop-run.walk.counts c.loop-run.invariant.2
    c.loop-run.invariant.0.scan below
    c.in-Some.other seen c.in-Some.other.size size in
    let further : plug_end c.loop-run.run + c.in-Some.other.size
    ≡ c.loop-run.run.start + (c.loop-run.run.size + c.in-Some.other.size) = omega arith in (
      rw c.joined-run.ensures (grows rows h c.args.k c.args.end c.args.plug c.loop-run.run c.loop-run.invariant.0 below
          c.in-Some.other seen (sym c.is_alike.ensures ∙ c.if-not-is_alike.false)),
      c.look-seen.ensures.known,
      rw (c.with_kept-walk.ensures, c.joined-run.ensures) (subst (λ (n : ℕ). HasCounted rows h c.args.k c.args.end
          (plug_end c.args.plug) c.args.walk.now.counts n
          (record c.loop-run.walk.counts { kept = c.loop-run.walk.counts.kept + 1 })) further counted),
    )

pub overflow_add-result : goal.overflow_add-result
overflow_add-result c =
    let rows = c.args.types.now in
    let h = c.args.heap.now in
    let below : plug_end c.loop-run.run < c.args.end = subst (λ n. n < c.args.end) c.end.ensures.value
    c.loop-run-test.true in
    let room = stops-within rows h c.args.k c.args.end c.args.plug c.loop-run.run c.loop-run.invariant.0 below
    c.look-seen.result.size (size-at rows h c.end-in-loop-run.ensures.value c.look-seen.ensures.size) in
    let at = c.end-in-None.ensures.value in
    omega arith

pub returns-in-None : goal.returns-in-None
returns-in-None c =
    let rows = c.args.types.now in
    let h = c.args.heap.now in
    let below : plug_end c.loop-run.run < c.args.end = subst (λ n. n < c.args.end) c.end.ensures.value
    c.loop-run-test.true in
    let seen : ◌≡◌ {A = Option Plug} None (kept_plug h c.args.k (item_at rows (word_of h) (plug_end c.loop-run.run))) =
    seen-at rows h c.args.k c.end-in-loop-run.ensures.value c.in-None.is c.look-seen.ensures.kept in
    let size = size-at rows h c.end-in-loop-run.ensures.value c.look-seen.ensures.size in
    record {
      next = run-stops rows h c.args.k c.args.end c.args.plug c.loop-run.run c.loop-run.invariant.0 below seen
          (c.end-in-None.result + c.look-seen.result.size) (omega (arith, c.end-in-None.ensures.value, size));
      behind = let v = c.end-in-None.ensures.value in omega (arith, v);
      known = c.look-seen.ensures.known;
      counted = rw (c.with_other-walk.ensures, c.end-in-None.ensures.value) (counts-left c.args.types.now
          c.args.heap.now c.args.k c.args.end (plug_end c.args.plug)
          c.args.walk.now.counts (plug_end c.loop-run.run) c.loop-run.walk.counts c.loop-run.invariant.2
          c.loop-run.invariant.0.scan below seen c.look-seen.result.is_object
          (c.look-seen.ensures.object ∙ ap (λ (n : ℕ). is_object (item_at rows (word_of h) n))
          c.end-in-loop-run.ensures.value) c.look-seen.result.size size);
    }

pub returns : goal.returns
returns c =
    let past : c.args.end ≤ plug_end c.loop-run.run = let l = c.loop-run-test.false in let e = c.end.ensures.value in
    omega arith in
    record {
      next = rw c.end-2.ensures.value (run-ends c.args.types.now c.args.heap.now c.args.k c.args.end c.args.plug
          c.loop-run.run c.loop-run.invariant.0 past);
      behind = let v = c.end-2.ensures.value in omega (arith, v);
      known = c.loop-run.invariant.1;
      counted = rw c.end-2.ensures.value c.loop-run.invariant.2;
    }
