use Rattle.std.proofs.Common.{◌≡◌, ◌+◌, ◌*◌, ap, arith, refl, sym, ◌∙◌}
use Rattle.clr_types.specs.Descriptors.{offsets_from}
use Rattle.clr_heap.specs.View.{word_of}
use Rattle.clr_mark.proofs.RunReferences.{run_more}
use Rattle.clr_bgmark.specs.Shades.{met, met_all}
use Rattle.clr_bgmark.proofs.FollowedSlots.{met_more, run_slot}
use Rattle.clr_bgmark.proofs.background.Background.meet_long_run.Goals as goal

pub overflow_add-slot : goal.overflow_add-slot
overflow_add-slot c =
    let low = (run_slot c.args.types.now c.args.heap.now c.requires.heap c.requires.held c.args.obj c.requires.stands
    c.args.run c.requires.run c.loop-i.i c.loop-i-test.true).low in
    omega (arith, low)

pub overflow_mul-slot : goal.overflow_mul-slot
overflow_mul-slot c =
    let low = (run_slot c.args.types.now c.args.heap.now c.requires.heap c.requires.held c.args.obj c.requires.stands
    c.args.run c.requires.run c.loop-i.i c.loop-i-test.true).low in
    omega (arith, low)

pub overflow_add-slot-in-loop-i : goal.overflow_add-slot-in-loop-i
overflow_add-slot-in-loop-i c =
    let low = (run_slot c.args.types.now c.args.heap.now c.requires.heap c.requires.held c.args.obj c.requires.stands
    c.args.run c.requires.run c.loop-i.i c.loop-i-test.true).low in
    omega (arith, low)

pub word_at-requires-clause-word : goal.word_at-requires-clause-word
word_at-requires-clause-word c =
    (run_slot c.args.types.now c.args.heap.now c.requires.heap c.requires.held c.args.obj c.requires.stands c.args.run
    c.requires.run c.loop-i.i c.loop-i-test.true).has

pub word_at-requires-clause-segment : goal.word_at-requires-clause-segment
word_at-requires-clause-segment c =
    c.requires.segment
    ∙ (run_slot c.args.types.now c.args.heap.now c.requires.heap c.requires.held c.args.obj c.requires.stands
    c.args.run c.requires.run c.loop-i.i c.loop-i-test.true).index

pub loop-i-init : goal.loop-i-init
loop-i-init c =
    record { high = c.meet_stretch-i.ensures.high; met = c.meet_stretch-i.ensures.met c.args.self.now refl }

pub loop-i-preserved : goal.loop-i-preserved
loop-i-preserved c =
    let word = word_of c.args.heap.now in
    let x = c.args.obj in
    let run = c.args.run in
    let i = c.loop-i.i in
    let same : x + run.offset + 8 * i ≡ x + (run.offset + 8 * i) = omega arith in
    record {
      high = c.meet_stretch-i-in-loop-i.ensures.high;
      met = c.meet_stretch-i-in-loop-i.ensures.met c.args.self.now
          (c.meet-shade.ensures
          ∙ (λ k. met (c.loop-i.invariant.met k) (c.word_at.ensures k) (x + run.offset + 8 * i))
          ∙ ap (λ a. met (met_all word c.args.self.now x (offsets_from run.offset i)) (word a) a) same
          ∙ sym (met_more word c.args.self.now x (offsets_from run.offset i) (run.offset + 8 * i))
          ∙ ap (met_all word c.args.self.now x) (sym (run_more run.offset i)));
    }

pub returns : goal.returns
returns c =
    let last = c.loop-i-test.false in
    let within = c.loop-i.invariant.high in
    let end : c.loop-i.i ≡ c.args.run.count = omega (arith, last, within) in
    c.loop-i.invariant.met
    ∙ ap (met_all (word_of c.args.heap.now) c.args.self.now c.args.obj)
    (ap (offsets_from c.args.run.offset) end ∙ sym c.requires.run)
