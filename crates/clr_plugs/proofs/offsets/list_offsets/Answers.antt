use Rattle.std.proofs.Common.{take, arith}
use Rattle.clr_plugs.proofs.Listing.{can_list}
use Rattle.clr_plugs.proofs.offsets.list_offsets.Goals as goal

pub list_word-count-requires-clause-can : goal.list_word-count-requires-clause-can
list_word-count-requires-clause-can c =
    let in_words = c.loop-w-test.true in
    can_list c.args.words.now c.requires.apart c.loop-w.w (omega (arith, in_words))
    (take c.loop-w.count c.loop-w.into) c.loop-w.invariant.listed
