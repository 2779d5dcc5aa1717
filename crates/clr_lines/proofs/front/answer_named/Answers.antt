-- What the line says is one call of the runtime.
use Rattle.std.proofs.Common.{arith, codes}
use Rattle.clr_model.specs.Instructions.{new_object}
use Rattle.clr_lines.proofs.FrontSteps.{done_left}
use Rattle.clr_lines.proofs.front.answer_named.Goals as goal

pub returns-clause-done : goal.returns-clause-done
returns-clause-done c =
    let w = c.in_ok-line in
    let (front, cut) = w.ensures.ends in
    done_left c.args.text.now front w.line.rest.now (codes "new") c.args.at _ c.args.t (omega arith) (omega arith) cut
    (record {
      instruction = new_object c.args.t w.line.local w.line.name.now w.line.len;
      front = w.ensures.line c.args.t c.ranges.t.fits;
      outcome = _;
      follows = c.new_object-told.ensures.follows;
      told = c.tell_place.ensures.text;
    })
