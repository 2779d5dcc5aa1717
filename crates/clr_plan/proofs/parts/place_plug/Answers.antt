use Rattle.std.proofs.Common.{arith}
use Rattle.clr_plan.proofs.Laying.{way-small}
use Rattle.clr_plan.proofs.parts.place_plug.Goals as goal

pub write_plug-requires : goal.write_plug-requires
write_plug-requires c =
    let (w, can) = c.requires.stage in
    record {
      can = c.requires.can c.way_of-way.result.to (way-small w c.args.heap.now c.args.queue.now.entries
          c.args.laying.now.at c.args.home.segment c.args.plug c.way_of-way.result.to c.way_of-way.result.after can
          (c.way_of-way.ensures.gone w can) (c.requires.can 0 (omega arith)).small);
    }

pub returns-clause-settled : goal.returns-clause-settled
returns-clause-settled c = λ w can. (
  c.way_of-way.result.to,
  c.way_of-way.ensures.gone w can,
  c.write_plug.ensures.writing,
)
