-- Each handle is counted.
use Rattle.std.proofs.Common.{◌∙◌, ap, arith, length, sym}
use Rattle.std.specs.FinMap as finmap
use Rattle.clr_sos.proofs.NumberedEntries.{count-more, entries-all, none-before}
use Rattle.clr_shows.proofs.kinds.count_all.Goals as goal

pub loop-number-init : goal.loop-number-init
loop-number-init c = record {
  count = sym (ap length (none-before c.args.handles.now));
  few = omega arith;
  within = omega arith;
}

pub loop-number-preserved : goal.loop-number-preserved
loop-number-preserved c =
    let next = c.in-Some.ensures.found in
    let below = c.in-Some.ensures.below c.in-Some.number c.in-Some.field-0-1 next.in_use in
    let above = next.above in
    let few = c.loop-number.invariant.few in
    record {
      count = rw c.loop-number.invariant.count
          (count-more c.args.handles.now c.loop-number.from c.in-Some.number c.in-Some.field-0-1 next);
      few = omega (arith, few, above);
      within = omega (arith, below);
    }

pub returns : goal.returns
returns c =
    c.loop-number.invariant.count
    ∙ ap length (entries-all c.args.handles.now c.loop-number.from c.in_default.ensures.below c.in_default.ensures.none)
    ∙ sym (finmap.len-entries c.args.handles.now)
