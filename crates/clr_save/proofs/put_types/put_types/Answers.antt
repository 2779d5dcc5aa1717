use Rattle.std.proofs.Common.{arith}
use Rattle.clr_save.proofs.SavedLists.{all_types, type_more}
use Rattle.clr_save.proofs.put_types.put_types.Goals as goal

pub loop-t-preserved : goal.loop-t-preserved
loop-t-preserved c =
    type_more c.put_word.new.out.items c.loop-t.out.items _ c.args.types.now c.loop-t.t (omega arith) (omega arith)
    c.loop-t.invariant c.in_ok-put_type.ensures

pub returns : goal.returns
returns c =
    let count = c.count-count.ensures.value in
    all_types c.args.out.now.items c.put_word.new.out.items _ c.args.types.now c.loop-t.t _ (omega arith) (omega arith)
    c.in_ok-put_word.ensures c.loop-t.invariant
