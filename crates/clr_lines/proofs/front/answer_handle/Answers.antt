-- What the line says is one call of the runtime.
use Rattle.std.proofs.Common.{refl}
use Rattle.clr_model.specs.Instructions.{create_handle}
use Rattle.clr_lines.proofs.front.answer_handle.Goals as goal

pub returns-clause-done : goal.returns-clause-done
returns-clause-done c =
    let w = c.in_ok-kind in
    record {
      instruction = create_handle c.args.t w.kind w.local w.second;
      front = w.ensures.line c.args.t c.ranges.t.fits;
      outcome = _;
      follows = c.handle.ensures.follows;
      told = c.tell_handle-written.ensures.text;
    }
