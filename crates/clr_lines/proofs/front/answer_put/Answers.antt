-- What the line says is one call of the runtime.
use Rattle.std.proofs.Common.{refl}
use Rattle.clr_model.specs.Instructions.{put_number}
use Rattle.clr_lines.proofs.front.answer_put.Goals as goal

pub returns-clause-done : goal.returns-clause-done
returns-clause-done c =
    let w = c.in_ok-object in
    record {
      instruction = put_number c.args.t w.object w.index w.value;
      front = w.ensures.line c.args.t c.ranges.t.fits;
      outcome = _;
      follows = c.put.ensures.follows;
      told = c.tell_done-written.ensures.text;
    }
