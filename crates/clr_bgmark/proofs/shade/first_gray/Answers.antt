use Rattle.std.proofs.Common.{◌≡◌, ℕ, ◌*◌, ◌/◌, ◌<◌, ◌≤◌, ◌+◌, ◌∙◌, arith, true, false, length}
use Rattle.clr_bgmark.proofs.GrayPlaces.{gray_left, none_lower, none_waits}
use Rattle.clr_bgmark.proofs.shade.first_gray.Goals as goal

pub loop-k-preserved : goal.loop-k-preserved
loop-k-preserved c =
    let passed = c.pass-k.ensures in
    let so_far = c.loop-k.invariant in
    record {
      lowest = passed.value;
      above = passed.above;
      length = passed.length ∙ so_far.length;
      pending = λ n high gray.
          gray_left c.args.marked.now c.args.scanned.now c.loop-k.pending.numbers c.pass-k.new.self.numbers c.loop-k.k
          c.loop-k.pending.lowest so_far.lowest passed.numbers c.in_default.ensures.none n gray
          (so_far.pending n high gray);
    }

pub returns-in-Some-clause-lowest : goal.returns-in-Some-clause-lowest
returns-in-Some-clause-lowest c =
    let so_far = c.loop-k.invariant in
    let below = c.loop-k-test.true in
    let high = c.in-Some.ensures.high in
    none_lower c.args.marked.now c.args.scanned.now c.loop-k.pending.numbers c.loop-k.k c.args.past so_far.above
    so_far.pending c.in-Some.n (omega (arith, below, high)) c.in-Some.ensures.first

pub returns-clause-none : goal.returns-clause-none
returns-clause-none c =
    let so_far = c.loop-k.invariant in
    none_waits c.args.marked.now c.args.scanned.now c.loop-k.pending.numbers c.loop-k.k c.args.past so_far.above
    so_far.pending c.loop-k-test.false
