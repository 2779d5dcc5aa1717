-- What is pushed is what there is room for.
use Rattle.std.proofs.Common.{◌≡◌, ◌≤◌, length, arith}
use Rattle.clr_session.proofs.SessionSteps.{kept_front}
use Rattle.clr_session.proofs.session.keep.Goals as goal

pub returns-clause-items : goal.returns-clause-items
returns-clause-items c =
    let count : c.len.result ≡ length c.args.line.now.items = omega (arith, c.len.ensures, c.args.line.now.ok) in
    let short : length c.args.line.now.items ≤ 4097 = omega (arith, c.args.line.now.ok, c.requires.short) in
    rw (c.push_all.ensures.items, c.min-count.ensures, count)
    (kept_front c.args.line.now.items c.args.more.now 4097 short)
