-- The search is for a line feed.
use Rattle.clr_session.proofs.Feeds as feeds
use Rattle.clr_session.proofs.session.first_feed.Goals as goal

pub returns : goal.returns
returns c = feeds.first_feed _ _ c.memchr.ensures
