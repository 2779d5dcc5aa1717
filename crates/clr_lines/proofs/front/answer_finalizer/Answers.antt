-- What the line says is one call of the runtime.
use Rattle.std.proofs.Common.{refl}
use Rattle.clr_model.specs.Instructions.{take_ready}
use Rattle.clr_lines.proofs.front.answer_finalizer.Goals as goal

pub returns-clause-done : goal.returns-clause-done
returns-clause-done c =
    let w = c.in_ok-to in
    record {
      instruction = take_ready c.args.t w.to;
      front = w.ensures.line c.args.t c.ranges.t.fits;
      outcome = _;
      follows = c.finalizer.ensures.follows;
      told = c.tell_place-written.ensures.text;
    }
