use Rattle.clr_save.proofs.SavedParts.{no_zeros, zero_more}
use Rattle.clr_save.proofs.put.put_zeros.Goals as goal

pub loop-turn-init : goal.loop-turn-init
loop-turn-init c = no_zeros c.args.out.now.items

pub loop-turn-preserved : goal.loop-turn-preserved
loop-turn-preserved c =
    zero_more c.args.out.now.items c.loop-turn.out.items _ c.loop-turn._turn c.loop-turn.invariant
    c.in_ok-put_word.ensures
