-- What the line says is one call of the runtime.
use Rattle.std.proofs.Common.{◌∷◌, drop}
use Rattle.clr_model.specs.Instructions.{new_object}
use Rattle.clr_script.proofs.FrontLines.{new_made}
use Rattle.clr_lines.proofs.front.answer_recent.Goals as goal

pub returns-clause-done : goal.returns-clause-done
returns-clause-done c =
    let local = c.in_ok-local in
    let known = c.in_ok-known in
    let len = c.in_ok-len in
    record {
      instruction = new_object c.args.t local.local known.name.now len.len;
      front = new_made local.local known.name.now len.len (32 ∷ drop c.args.at c.args.text.now) _ _ _
          local.ensures.read.0 known.ensures.read len.ensures.read.0 local.ensures.read.1 known.ensures.name
          len.ensures.read.1 c.args.t c.ranges.t.fits;
      outcome = _;
      follows = c.new_known-told.ensures.follows;
      told = c.tell_place.ensures.text;
    }
