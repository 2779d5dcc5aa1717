-- What the line says is one call of the runtime.
use Rattle.std.proofs.Common.{refl}
use Rattle.clr_model.specs.Instructions.{read_number}
use Rattle.clr_lines.proofs.front.answer_read.Goals as goal

pub returns-clause-done : goal.returns-clause-done
returns-clause-done c =
    let w = c.in_ok-from in
    record {
      instruction = read_number c.args.t w.from w.index;
      front = w.ensures.line c.args.t c.ranges.t.fits;
      outcome = _;
      follows = c.read.ensures;
      told = c.tell_number-written.ensures.text;
    }
