use Rattle.clr_model.proofs.SlidLaws.{every_young_tiles}
use Rattle.clr_model.proofs.laws.a_young_collection_fills_the_segments.Goals as goal

pub returns : goal.returns
returns c = every_young_tiles
