-- What the line says is one call of the runtime.
use Rattle.std.proofs.Common.{refl}
use Rattle.clr_model.specs.Instructions.{set_slot}
use Rattle.clr_lines.proofs.front.answer_set.Goals as goal

pub returns-clause-done : goal.returns-clause-done
returns-clause-done c =
    let w = c.in_ok-object in
    record {
      instruction = set_slot c.args.t w.object w.index w.from;
      front = w.ensures.line c.args.t c.ranges.t.fits;
      outcome = _;
      follows = c.set.ensures.follows;
      told = c.tell_done-written.ensures.text;
    }
