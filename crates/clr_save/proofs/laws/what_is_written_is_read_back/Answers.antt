use Rattle.clr_save.proofs.Written.{word_back}
use Rattle.clr_save.proofs.WrittenImage.{image_law}
use Rattle.clr_save.proofs.WrittenTables.{tables_back}
use Rattle.clr_save.proofs.WrittenTypes.{types_back}
use Rattle.clr_save.proofs.laws.what_is_written_is_read_back.Goals as goal

pub returns : goal.returns
returns c = record { word = word_back; types = types_back; tables = tables_back; image = image_law }
