use Rattle.std.proofs.Common.{arith}
use Rattle.clr_pinq.proofs.Lookups.{queue_at}
use Rattle.clr_pinq.proofs.queue.is_place.Goals as goal

pub returns : goal.returns
returns c told d =
    queue_at 0 c.args.entries.now.items c.args.i c.args.a d c.requires.rising
    (λ j low. c.are_below.ensures.yes c.if-not-are_below.false j d low) c.requires.within
    (c.are_above.ensures.yes told c.args.i d (omega arith) c.requires.within)
