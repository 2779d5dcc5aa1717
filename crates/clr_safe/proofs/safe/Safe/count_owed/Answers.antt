use Rattle.std.proofs.Common.{◌≡◌, ◌≤◌, length, sym, ap, ◌∙◌, arith}
use Rattle.clr_safe.specs.Threads.{Threads}
use Rattle.clr_safe.proofs.Entries.{owed_past}
use Rattle.clr_safe.proofs.safe.Safe.count_owed.Goals as goal

pub returns-clause-count : goal.returns-clause-count
returns-clause-count c =
    let all : length c.args.self.now.begun ≡ 16 =
    ap (λ (s : Threads). length s.begun) (sym c.self.view_is) ∙ c.self.invariant.all in
    let end : length c.args.self.now.begun ≤ c.loop-what.what-index = omega arith in
    omega (arith, c.loop-what.invariant.counted, owed_past c.args.self.now.begun c.loop-what.what-index end)
