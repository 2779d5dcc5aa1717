use Rattle.std.proofs.Common.{◌+◌, ◌/◌, ◌≤◌, ◌<◌, ◌*◌, arith, ℕ}
use Rattle.clr_bgmark.proofs.Groups.{none_up_to}
use Rattle.clr_bgmark.proofs.pending.next_in.Goals as goal

pub returns-in_default-first-clause-below : goal.returns-in_default-first-clause-below
returns-in_default-first-clause-below c =
    none_up_to c.args.numbers.now c.args.groups.now c.requires.grouped c.args.from c.args.past c.min.result
    (c.args.past / 64 + 1) c.args.past c.min.ensures (omega arith) c.in_default.ensures.none
    c.in_default-first.ensures.none (λ i low high. absurd (omega (arith, low, high)))

pub returns-in-Some-first-2-clause-below : goal.returns-in-Some-first-2-clause-below
returns-in-Some-first-2-clause-below c =
    let most = c.in-Some-first-2.ensures.high in
    none_up_to c.args.numbers.now c.args.groups.now c.requires.grouped c.args.from c.args.past c.min.result
    c.in-Some-first.group c.in-Some-first-2.n c.min.ensures (omega (arith, most)) c.in_default.ensures.none
    c.in-Some-first.ensures.first c.in-Some-first-2.ensures.first

pub returns-in-None-clause-below : goal.returns-in-None-clause-below
returns-in-None-clause-below c =
    none_up_to c.args.numbers.now c.args.groups.now c.requires.grouped c.args.from c.args.past c.min.result
    c.in-Some-first.group c.args.past c.min.ensures (omega arith) c.in_default.ensures.none
    c.in-Some-first.ensures.first c.in-None.ensures.none
