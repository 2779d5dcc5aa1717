use Rattle.std.proofs.Common.{◌≡◌, ℕ, ◌+◌, ◌*◌, ap, arith, sym, subst, ◌∙◌}
use Rattle.clr_heap.specs.View.{word_of}
use Rattle.clr_bgmark.specs.Lending.{found_near, HasMetNear, StaysLawful}
use Rattle.clr_bgmark.specs.Shades.{ShadeView}
use Rattle.clr_bgmark.proofs.FollowedSlots.{run_slot}
use Rattle.clr_bgmark.proofs.Lent.{few_found, lawful_begins, lawful_goes, near_begins, near_goes}
use Rattle.clr_bgmark.proofs.lending.meet_lent.Goals as goal

pub loop-i-init : goal.loop-i-init
loop-i-init c =
    let from = c.requires.from in
    record {
      low = omega arith;
      high = from;
      few = omega arith;
      lawful = lawful_begins c.args.shade.now;
      met = near_begins (word_of c.args.heap.now) c.args.obj c.args.run.offset c.args.from c.args.shade.now;
    }

pub overflow_add-slot : goal.overflow_add-slot
overflow_add-slot c =
    let low = (run_slot c.args.types.now c.args.heap.now c.requires.heap c.requires.held c.args.obj c.requires.stands
    c.args.run c.requires.run c.loop-i.i c.loop-i-test.true).low in
    omega (arith, low)

pub overflow_mul-slot : goal.overflow_mul-slot
overflow_mul-slot c =
    let low = (run_slot c.args.types.now c.args.heap.now c.requires.heap c.requires.held c.args.obj c.requires.stands
    c.args.run c.requires.run c.loop-i.i c.loop-i-test.true).low in
    omega (arith, low)

pub overflow_add-slot-in-loop-i : goal.overflow_add-slot-in-loop-i
overflow_add-slot-in-loop-i c =
    let low = (run_slot c.args.types.now c.args.heap.now c.requires.heap c.requires.held c.args.obj c.requires.stands
    c.args.run c.requires.run c.loop-i.i c.loop-i-test.true).low in
    omega (arith, low)

pub word_at-requires-clause-word : goal.word_at-requires-clause-word
word_at-requires-clause-word c =
    (run_slot c.args.types.now c.args.heap.now c.requires.heap c.requires.held c.args.obj c.requires.stands c.args.run
    c.requires.run c.loop-i.i c.loop-i-test.true).has

pub word_at-requires-clause-segment : goal.word_at-requires-clause-segment
word_at-requires-clause-segment c =
    c.requires.segment
    ∙ (run_slot c.args.types.now c.args.heap.now c.requires.heap c.requires.held c.args.obj c.requires.stands
    c.args.run c.requires.run c.loop-i.i c.loop-i-test.true).index

pub loop-i-preserved : goal.loop-i-preserved
loop-i-preserved c =
    let word = word_of c.args.heap.now in
    let inv = c.loop-i.invariant in
    let i = c.loop-i.i in
    let s = c.args.shade.now in
    let now = c.loop-i.shade in
    let y = c.word_at.result in
    let is = c.in-Some.ensures in
    let same : c.args.obj + c.args.run.offset + 8 * i ≡ c.args.obj + (c.args.run.offset + 8 * i) = omega arith in
    let reads : y ≡ word (c.args.obj + (c.args.run.offset + 8 * i)) = c.word_at.ensures ∙ ap word same in
    let low = inv.low in
    let test = c.loop-i-test.true in
    let few = inv.few in
    let one = few_found now y in
    let found = is.found in
    record {
      low = omega (arith, low);
      high = omega (arith, test);
      few = omega (arith, few, one, found);
      lawful = subst (StaysLawful s) (sym is.met) (lawful_goes s now y inv.lawful is.near);
      met = subst (λ (n : ℕ). HasMetNear word c.args.obj c.args.run.offset c.args.from (i + 1) s c.meet.new.self
          (c.loop-i.found + n)) (sym found)
          (subst (λ (t : ShadeView). HasMetNear word c.args.obj c.args.run.offset c.args.from (i + 1) s t
          (c.loop-i.found + found_near now y)) (sym is.met)
          (near_goes word c.args.obj c.args.run.offset c.args.from i s now c.loop-i.found y inv.lawful inv.met is.near
          reads));
    }
