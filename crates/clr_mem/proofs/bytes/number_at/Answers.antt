use Rattle.std.proofs.Common.{◌≡◌, ◌+◌, ◌-◌, ◌*◌, take, drop, ◌∙◌, arith}
use Rattle.clr_mem.specs.Words.{spelled}
use Rattle.clr_mem.proofs.Spelling.{spelled-take}
use Rattle.clr_mem.proofs.bytes.number_at.Goals as goal

pub returns : goal.returns
unfolding spelled
returns c =
    let n = 8 * c.args.i + 8 - 8 * c.args.i in
    let read : c.read_u64.result ≡ spelled (take n (drop (8 * c.args.i) c.args.eight.now)) = c.read_u64.ensures in
    read ∙ spelled-take n (drop (8 * c.args.i) c.args.eight.now) (omega arith)
