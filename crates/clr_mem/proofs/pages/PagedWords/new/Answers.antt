use Rattle.std.proofs.Common.{arith}
use Rattle.clr_mem.proofs.Paging.{none-paged, none-stored}
use Rattle.clr_mem.proofs.pages.PagedWords.new.Goals as goal

pub invariant_of-result : goal.invariant_of-result
invariant_of-result c =
    let numbers = c.in_ok-numbers.ensures in
    let stored = c.in_ok-stored.ensures in
    let whole = c.requires in
    none-paged c.args.len c.in_ok-numbers.numbers.items c.in_ok-stored.stored.items _ _ numbers.items stored.items whole
    (omega arith) (omega arith)

pub returns : goal.returns
returns c =
    none-stored c.args.len c.in_ok-numbers.numbers.items c.in_ok-stored.stored.items c.in_ok-numbers.ensures.items
