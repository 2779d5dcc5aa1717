-- What the line says is one call of the runtime.
use Rattle.std.proofs.Common.{refl}
use Rattle.clr_model.specs.Instructions.{get_slot}
use Rattle.clr_lines.proofs.front.answer_get.Goals as goal

pub returns-clause-done : goal.returns-clause-done
returns-clause-done c =
    let w = c.in_ok-to in
    record {
      instruction = get_slot c.args.t w.to w.from w.index;
      front = w.ensures.line c.args.t c.ranges.t.fits;
      outcome = _;
      follows = c.get.ensures.follows;
      told = c.tell_place-written.ensures.text;
    }
