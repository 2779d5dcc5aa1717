-- There is no other reply.
use Rattle.clr_session.proofs.SoakTexts.{clean_alone, clean_told}
use Rattle.clr_session.proofs.soaking.verify.Goals as goal

pub returns : goal.returns
returns c = clean_told _ _ _ c.requires c.in-Reply.ensures.follows

pub unreachable-requires : goal.unreachable-requires
unreachable-requires c = clean_alone _ _ _ c.requires c.obey_look.ensures.follows c.in_default.not-Reply
