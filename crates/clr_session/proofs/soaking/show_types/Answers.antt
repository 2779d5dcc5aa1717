-- The text is what the listing by types is of what is seen.
use Rattle.clr_session.proofs.SoakTexts.{stat_told}
use Rattle.clr_session.proofs.soaking.show_types.Goals as goal

pub returns-in-Text : goal.returns-in-Text
returns-in-Text c = stat_told _ _ _ c.requires c.in-Text.ensures.follows
