use Rattle.std.proofs.Common.{◌++◌, ◌∙◌, ap}
use Rattle.clr_format.specs.Saved.{empty_tables_bytes}
use Rattle.clr_load.proofs.OkThen.{ok_then}
use Rattle.clr_save.proofs.SavedParts.{zeros_are}
use Rattle.clr_image.proofs.migrating.put_empty_tables.Goals as goal

pub returns : goal.returns
unfolding empty_tables_bytes
returns c =
    ok_then c.put_zeros.result c.put_zeros.ensures (λ put. put ∙ ap (λ bs. c.args.out.now.items ++ bs) (zeros_are 84))
