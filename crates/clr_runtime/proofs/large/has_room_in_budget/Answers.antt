-- The bytes of large objects stay a word.
use Rattle.std.proofs.Common.{◌+◌, ◌<◌, ◌^◌, arith}
use Rattle.clr_runtime.proofs.RuntimeKept.{spent_large_fits}
use Rattle.clr_runtime.proofs.large.has_room_in_budget.Goals as goal

pub overflow_add-parts : goal.overflow_add-parts
overflow_add-parts c =
    let fits : c.args.parts.now.sums.spent_large + c.args.size < 2 ^ 64 =
    spent_large_fits c.requires.runtime.shown c.args.size c.requires.most in
    omega arith
