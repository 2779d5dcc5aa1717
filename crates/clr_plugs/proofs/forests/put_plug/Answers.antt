use Rattle.std.proofs.Common.{◌<◌, length, arith}
use Rattle.clr_plugs.proofs.Telling.{count_told, put_told}
use Rattle.clr_plugs.proofs.forests.put_plug.Goals as goal

pub returns-clause-offsets : goal.returns-clause-offsets
returns-clause-offsets c =
    let room = c.requires.room in
    let count = c.requires.count in
    let inside : c.args.count < length c.args.into.now = omega (arith, room, count) in
    put_told c.args.into.now c.args.count c.args.low c.args.told c.min.result inside c.requires.fits c.min.ensures

pub returns-clause-count : goal.returns-clause-count
returns-clause-count c = count_told c.args.count c.args.low c.args.told c.min.result c.min.ensures
