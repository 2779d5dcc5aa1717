use Rattle.std.proofs.Common.{◌+◌, ◌-◌, ◌/◌, ◌∙◌, sym, arith}
use Rattle.std.proofs.lemmas.Bool.{leb-false, leb-true}
use Rattle.clr_pinq.proofs.Lookups.{all_above, all_below}
use Rattle.clr_pinq.proofs.queue.place_of.Goals as goal

pub loop-low-preserved-then-is_below : goal.loop-low-preserved-then-is_below
loop-low-preserved-then-is_below c =
    let l = c.loop-low in
    let within = l.invariant.within in
    let test = c.loop-low-test.true in
    record {
      order = omega (arith, test);
      within = within;
      below = all_below c.args.entries.now.items (l.low + (l.high - l.low) / 2)
          c.args.a c.index.result.now c.requires (omega (arith, within, test)) c.index.ensures
          (leb-true c.index.result.now.end (c.args.a + 8) (sym c.is_below.ensures ∙ c.if-is_below.true));
      above = l.invariant.above;
    }

pub loop-low-preserved : goal.loop-low-preserved
loop-low-preserved c =
    let l = c.loop-low in
    let within = l.invariant.within in
    let test = c.loop-low-test.true in
    record {
      order = omega arith;
      within = omega (arith, within, test);
      below = l.invariant.below;
      above = all_above c.args.entries.now.items (l.low + (l.high - l.low) / 2)
          c.args.a c.index.result.now c.requires (omega (arith, within, test)) c.index.ensures
          (leb-false c.index.result.now.end (c.args.a + 8) (sym c.is_below.ensures ∙ c.if-is_below.false));
    }
