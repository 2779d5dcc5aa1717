use Rattle.std.proofs.Common.{◌<◌, ◌≤◌, ap, arith}
use Rattle.clr_types.specs.declared.segment.SegInfo.{SegInfo}
use Rattle.clr_heap.specs.View.{last_of}
use Rattle.clr_sweep.proofs.Passing.{can_step, passed}
use Rattle.clr_sweep.proofs.PassEnds.{can_end, home_is, pass_counted, pass_counts, pass_ends, pass_lawful, pass_starts}
use Rattle.clr_sweep.proofs.pass.sweep_segment.Goals as goal

pub loop-pass-init : goal.loop-pass-init
loop-pass-init c =
    let h = c.args.heap.now in
    record {
      passing = pass_starts c.args.types.now h c.args.k c.info-segment.ensures.heap c.args.from c.requires.in_range
          c.requires.parted c.requires.no_contexts c.args.tally c.requires.counted;
      known = c.none-known.ensures c.args.types.now;
    }

pub step-pass-requires : goal.step-pass-requires
step-pass-requires c =
    let rows = c.args.types.now in
    let h = c.args.heap.now in
    let k = c.args.k in
    let home = home_is rows h k c.info-segment.ensures.heap c.args.from c.requires.in_range c.requires.parted
    c.requires.no_contexts in
    let end = ap (λ (s : SegInfo). s.end) c.info-segment.ensures.value in
    let below : c.loop-pass.pass.place < last_of h k = let l = c.loop-pass-test.true in omega (arith, end, l) in
    record {
      can = can_step rows h c.loop-pass.heap k c.args.from (last_of h k) c.args.tally c.loop-pass.pass home
          c.loop-pass.invariant.passing below;
      known = c.loop-pass.invariant.known;
    }

pub loop-pass-smaller : goal.loop-pass-smaller
loop-pass-smaller c =
    let rows = c.args.types.now in
    let h = c.args.heap.now in
    let k = c.args.k in
    let home = home_is rows h k c.info-segment.ensures.heap c.args.from c.requires.in_range c.requires.parted
    c.requires.no_contexts in
    let end = ap (λ (s : SegInfo). s.end) c.info-segment.ensures.value in
    let below : c.loop-pass.pass.place < last_of h k = let l = c.loop-pass-test.true in omega (arith, end, l) in
    let least = (can_step rows h c.loop-pass.heap k c.args.from (last_of h k) c.args.tally c.loop-pass.pass home
    c.loop-pass.invariant.passing below).least in
    rw c.step-pass.ensures.pass (omega arith)

pub loop-pass-preserved : goal.loop-pass-preserved
loop-pass-preserved c =
    let rows = c.args.types.now in
    let h = c.args.heap.now in
    let k = c.args.k in
    let home = home_is rows h k c.info-segment.ensures.heap c.args.from c.requires.in_range c.requires.parted
    c.requires.no_contexts in
    let end = ap (λ (s : SegInfo). s.end) c.info-segment.ensures.value in
    let below : c.loop-pass.pass.place < last_of h k = let l = c.loop-pass-test.true in omega (arith, end, l) in
    record {
      passing = rw (c.step-pass.ensures.heap, c.step-pass.ensures.pass) (passed rows h c.loop-pass.heap k c.args.from
          (last_of h k) c.args.tally c.loop-pass.pass home c.loop-pass.invariant.passing below);
      known = c.step-pass.ensures.known;
    }

pub set_end-requires : goal.set_end-requires
set_end-requires c =
    let rows = c.args.types.now in
    let h = c.args.heap.now in
    let k = c.args.k in
    let end = ap (λ (s : SegInfo). s.end) c.info-segment.ensures.value in
    let past : last_of h k ≤ c.loop-pass.pass.place = let l = c.loop-pass-test.false in omega (arith, end, l) in
    let can = can_end rows h k c.info-segment.ensures.heap c.args.from c.requires.in_range c.requires.parted
    c.requires.no_contexts c.loop-pass.heap c.args.tally c.loop-pass.pass c.loop-pass.invariant.passing past in
    record { in_range = can.in_range; above = can.above; below = can.below; aligned = can.aligned }

pub returns : goal.returns
returns c =
    let rows = c.args.types.now in
    let h = c.args.heap.now in
    let k = c.args.k in
    let end = ap (λ (s : SegInfo). s.end) c.info-segment.ensures.value in
    let past : last_of h k ≤ c.loop-pass.pass.place = let l = c.loop-pass-test.false in omega (arith, end, l) in
    let w = c.requires.parted in
    let now = c.loop-pass.heap in
    let pass = c.loop-pass.pass in
    let heap = c.info-segment.ensures.heap in
    record {
      swept = rw c.set_end.ensures (pass_ends rows h k heap c.args.from c.requires.in_range w c.requires.no_contexts now
          c.args.tally pass c.loop-pass.invariant.passing past);
      tally = pass_counts rows h k heap c.args.from c.requires.in_range w c.requires.no_contexts now c.args.tally pass
          c.loop-pass.invariant.passing past;
      counted = pass_counted rows h k heap c.args.from c.requires.in_range w c.requires.no_contexts now c.args.tally
          pass c.loop-pass.invariant.passing past;
      lawful = rw c.set_end.ensures (pass_lawful rows h k heap c.args.from c.requires.in_range w
          c.requires.no_contexts now c.args.tally pass c.loop-pass.invariant.passing past);
    }
