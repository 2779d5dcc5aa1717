use Rattle.std.proofs.Common.{◌+◌, refl, sym, subst, ◌∙◌, arith}
use Rattle.clr_model.specs.Compaction.{plug_end}
use Rattle.clr_heap.specs.ObjectKinds.{IsObjectKind}
use Rattle.clr_plan.specs.Counts.{HasCounted}
use Rattle.clr_plan.specs.Runs.{IsPassing}
use Rattle.clr_plan.proofs.Counting.{counted-few, counting-ends, counting-starts, counting-then, counts-first}
use Rattle.clr_plan.proofs.Counting.{counts-fit}
use Rattle.clr_plan.proofs.Counting.{counts-left}
use Rattle.clr_plan.proofs.Looking.{first-begins, first-found, further, look_passing, passes-over}
use Rattle.clr_plan.proofs.Looking.{passing-then}
use Rattle.clr_plan.proofs.scan.next_plug.Goals as goal

pub loop-place-init : goal.loop-place-init
loop-place-init c = (
  (c.requires.scan, refl, omega arith),
  c.requires.known,
  counting-starts c.args.types.now c.args.heap.now c.args.k c.args.end c.args.from c.args.walk.now.counts,
)

pub look-seen-requires-clause-can : goal.look-seen-requires-clause-can
look-seen-requires-clause-can c = look_passing c.args.types.now c.args.heap.now c.args.k c.args.from c.args.end
    c.loop-place.place c.loop-place.invariant.0 c.loop-place-test.true

pub whole_run-requires-clause-run : goal.whole_run-requires-clause-run
whole_run-requires-clause-run c =
    first-begins c.args.types.now c.args.heap.now c.args.k c.args.from c.args.end c.loop-place.place
    c.loop-place.invariant.0 c.loop-place-test.true c.in-Some.plug (sym c.in-Some.is ∙ c.look-seen.ensures.kept)

pub with_kept-walk-requires : goal.with_kept-walk-requires
with_kept-walk-requires c = (counts-fit c.args.types.now c.args.heap.now c.args.k c.args.end c.args.from
    c.args.walk.now.counts c.loop-place.place c.loop-place.walk.counts c.loop-place.invariant.2
    c.loop-place.invariant.0.0 c.loop-place-test.true c.requires.counted).0

pub with_other-walk-requires : goal.with_other-walk-requires
with_other-walk-requires c = (counts-fit c.args.types.now c.args.heap.now c.args.k c.args.end c.args.from
    c.args.walk.now.counts c.loop-place.place c.loop-place.walk.counts c.loop-place.invariant.2
    c.loop-place.invariant.0.0 c.loop-place-test.true c.requires.counted).1

pub returns-in-Some-clause-plugs : goal.returns-in-Some-clause-plugs
returns-in-Some-clause-plugs c =
    first-found c.args.types.now c.args.heap.now c.args.k c.args.from c.args.end c.loop-place.place
    c.loop-place.invariant.0 c.loop-place-test.true c.in-Some.plug (sym c.in-Some.is ∙ c.look-seen.ensures.kept)
    c.whole_run.result c.whole_run.ensures.next

-- the item that was looked at is passed
over : (c : goal.After-over_dead-arg-1) → IsPassing c.args.types.now c.args.heap.now c.args.k c.args.from c.args.end
    (c.loop-place.place + c.look-seen.result.size)
over c = passes-over c.args.types.now c.args.heap.now c.args.k c.args.from c.args.end c.loop-place.place
    c.loop-place.invariant.0 c.loop-place-test.true (sym c.in_default.is ∙ c.look-seen.ensures.kept)
    c.look-seen.result.size c.look-seen.ensures.size

-- and counted
told : (c : goal.After-over_dead-arg-1) → HasCounted c.args.types.now c.args.heap.now c.args.k c.args.end c.args.from
    c.args.walk.now.counts (c.loop-place.place + c.look-seen.result.size) c.with_other-walk.result
told c = rw c.with_other-walk.ensures (counts-left c.args.types.now c.args.heap.now c.args.k c.args.end c.args.from
    c.args.walk.now.counts c.loop-place.place c.loop-place.walk.counts c.loop-place.invariant.2
    c.loop-place.invariant.0.0 c.loop-place-test.true (sym c.in_default.is ∙ c.look-seen.ensures.kept)
    c.look-seen.result.is_object c.look-seen.ensures.object c.look-seen.result.size c.look-seen.ensures.size)

pub over_dead-place-requires-clause-scan : goal.over_dead-place-requires-clause-scan
over_dead-place-requires-clause-scan c = (c.args.types.now, (over c).0, c.look-seen.ensures.known)

pub over_dead-place-requires-clause-counted : goal.over_dead-place-requires-clause-counted
over_dead-place-requires-clause-counted c =
    counted-few c.args.types.now c.args.heap.now c.args.k c.args.end c.args.from c.args.walk.now.counts
    (c.loop-place.place + c.look-seen.result.size) c.with_other-walk.result (told c) c.requires.counted

pub loop-place-preserved : goal.loop-place-preserved
loop-place-preserved c =
    let rows = c.args.types.now in
    let h = c.args.heap.now in
    let next = c.loop-place.place + c.look-seen.result.size in
    let (passed, counted) = c.over_dead-place.ensures.passed rows (over c.before).0 c.look-seen.ensures.known in (
      passing-then rows h c.args.k c.args.from c.args.end next c.over_dead-place.result (over c.before) passed,
      subst (IsObjectKind rows) (sym c.over_dead-place.ensures.known) c.look-seen.ensures.known,
      counting-then rows h c.args.k c.args.end c.args.from c.args.walk.now.counts next c.with_other-walk.result
          c.over_dead-place.result c.over_dead-place.new.walk.counts (told c.before) counted,
    )

pub loop-place-smaller : goal.loop-place-smaller
loop-place-smaller c =
    let rows = c.args.types.now in
    let h = c.args.heap.now in
    let (passed, counted) = c.over_dead-place.ensures.passed rows (over c.before).0 c.look-seen.ensures.known in
    let up = passed.2 in
    let (fits, more, within) = further rows h c.args.k c.args.from c.args.end c.loop-place.place
    c.loop-place.invariant.0 c.loop-place-test.true c.look-seen.result.size c.look-seen.ensures.size in
    let l = c.loop-place-test.true in
    omega (arith, up, more, l)

pub whole_run-requires-clause-counted : goal.whole_run-requires-clause-counted
whole_run-requires-clause-counted c =
    let first = subst (HasCounted c.args.types.now c.args.heap.now c.args.k c.args.end c.args.from
    c.args.walk.now.counts (plug_end c.in-Some.plug)) (sym c.with_kept-walk.ensures) (counts-first c.args.types.now
    c.args.heap.now c.args.k c.args.end c.args.from
    c.args.walk.now.counts c.loop-place.place c.loop-place.walk.counts c.loop-place.invariant.2
    c.loop-place.invariant.0.0
    c.loop-place-test.true c.in-Some.plug (sym c.in-Some.is ∙ c.look-seen.ensures.kept)) in
    counted-few c.args.types.now c.args.heap.now c.args.k c.args.end c.args.from c.args.walk.now.counts
    (plug_end c.in-Some.plug) c.with_kept-walk.result first c.requires.counted

pub returns-in-Some-clause-counted : goal.returns-in-Some-clause-counted
returns-in-Some-clause-counted c =
    let first = subst (HasCounted c.args.types.now c.args.heap.now c.args.k c.args.end c.args.from
    c.args.walk.now.counts (plug_end c.in-Some.plug)) (sym c.with_kept-walk.ensures) (counts-first c.args.types.now
    c.args.heap.now c.args.k c.args.end c.args.from
    c.args.walk.now.counts c.loop-place.place c.loop-place.walk.counts c.loop-place.invariant.2
    c.loop-place.invariant.0.0
    c.loop-place-test.true c.in-Some.plug (sym c.in-Some.is ∙ c.look-seen.ensures.kept)) in
    counting-then c.args.types.now c.args.heap.now c.args.k c.args.end c.args.from c.args.walk.now.counts
    (plug_end c.in-Some.plug) c.with_kept-walk.result c.whole_run.result.next c.whole_run.new.walk.counts first
    c.whole_run.ensures.counted

pub returns-clause-counted : goal.returns-clause-counted
returns-clause-counted c =
    let past = c.loop-place-test.false in
    counting-ends c.args.types.now c.args.heap.now c.args.k c.args.end c.args.from
    c.args.walk.now.counts c.loop-place.place c.loop-place.walk.counts c.loop-place.invariant.2
    c.loop-place.invariant.0.0 (omega (arith, past))
