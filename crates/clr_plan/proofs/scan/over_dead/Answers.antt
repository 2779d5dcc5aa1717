use Rattle.std.proofs.Common.{◌≡◌, ℕ, Option, Some, true, refl, sym, ap, ◌∙◌, arith}
use Rattle.clr_heap.specs.ObjectKinds.{known_size}
use Rattle.clr_heap.specs.View.{word_of}
use Rattle.clr_plan.specs.Scans.{CanLook}
use Rattle.clr_plan.proofs.Counting.{counting-starts, counts-left}
use Rattle.clr_plan.proofs.Looking.{known-item, look_passing, look-none, passes-over}
use Rattle.clr_plan.proofs.scan.over_dead.Goals as goal

pub loop-place-init : goal.loop-place-init
loop-place-init c = λ rows scan known. (
  (scan, refl, omega arith),
  counting-starts rows c.args.heap.now c.args.k c.args.end c.args.from c.args.walk.now.counts,
)

can : (c : goal.In-loop-place) → CanLook c.requires.scan.0 c.args.heap.now c.args.k c.loop-place.place
can c = look_passing c.requires.scan.0 c.args.heap.now c.args.k c.args.from c.args.end c.loop-place.place
    (c.loop-place.invariant c.requires.scan.0 c.requires.scan.1 c.requires.scan.2).0 c.loop-place-test.true

pub word_at-mt-requires-clause-word : goal.word_at-mt-requires-clause-word
word_at-mt-requires-clause-word c = (can c).item.mt

pub word_at-mt-requires-clause-segment : goal.word_at-mt-requires-clause-segment
word_at-mt-requires-clause-segment c = (can c).mt_in

pub loop-place-preserved : goal.loop-place-preserved
loop-place-preserved c = λ rows scan known.
    (let h = c.args.heap.now in
    let place = c.loop-place.place in
    let (passing, counted) = c.loop-place.invariant rows scan known in
    let seen : ◌≡◌ {A = Option ℕ} (Some c.in-Some.size) (known_size c.args.walk.now.known (word_of h place)) =
    sym c.in-Some.is ∙ c.size_with.ensures ∙ ap (known_size c.args.walk.now.known) c.word_at-mt.ensures in
    let (object, size) = known-item rows (word_of h) place c.in-Some.size c.args.walk.now.known known seen in
    let none = look-none rows h c.args.k place c.word_at-mt.result true c.word_at-mt.ensures object
    (sym c.is_marked.ensures ∙ c.if-is_marked.false) in (
      passes-over rows h c.args.k c.args.from c.args.end place passing c.loop-place-test.true none c.in-Some.size size,
      rw c.with_other-counts.ensures (counts-left rows h c.args.k c.args.end c.args.from c.args.walk.now.counts place
          c.loop-place.counts counted passing.0 c.loop-place-test.true none true object c.in-Some.size size),
    ))
