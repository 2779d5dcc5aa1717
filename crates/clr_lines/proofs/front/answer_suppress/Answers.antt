-- What the line says is one call of the runtime.
use Rattle.std.proofs.Common.{refl}
use Rattle.clr_model.specs.Instructions.{suppress_object}
use Rattle.clr_lines.proofs.front.answer_suppress.Goals as goal

pub returns-clause-done : goal.returns-clause-done
returns-clause-done c =
    let w = c.in_ok-local in
    record {
      instruction = suppress_object c.args.t w.local;
      front = w.ensures.line c.args.t c.ranges.t.fits;
      outcome = _;
      follows = c.suppress.ensures.follows;
      told = c.tell_done-written.ensures.text;
    }
