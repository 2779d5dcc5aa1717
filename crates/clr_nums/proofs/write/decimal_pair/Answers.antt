use Rattle.clr_nums.proofs.PairTables.{decimal_pair-at}
use Rattle.clr_nums.proofs.write.decimal_pair.Goals as goal

pub returns : goal.returns
returns c = decimal_pair-at c.args.number c.requires
