use Rattle.clr_handles.proofs.NumberSwaps.{regives-from_same}
use Rattle.clr_handles.proofs.numbering.Numbering.assign.Goals as goal

pub returns : goal.returns
returns c =
    record {
      ok =
          regives-from_same c.args.self.now c.prepare.new.self c.give.new.self c.args.number c.args.key
          c.prepare.ensures.keys c.prepare.ensures.numbers c.give.ensures.given;
      err = tt;
    }
