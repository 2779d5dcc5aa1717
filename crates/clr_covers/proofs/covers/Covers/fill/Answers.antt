use Rattle.clr_covers.proofs.Finding.{share_covered}
use Rattle.clr_covers.proofs.covers.Covers.fill.Goals as goal

pub locate-k-requires : goal.locate-k-requires
locate-k-requires g c = share_covered _ c.args.from _ (c.requires c.if-from-past.true)
