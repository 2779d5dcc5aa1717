-- The four bytes of a verb stand before its words.
use Rattle.std.proofs.Common.{◌≡◌, ◌+◌, ◌∷◌, arith, codes, drop}
use Rattle.clr_lines.proofs.FrontSteps.{verb_told}
use Rattle.clr_lines.proofs.front.answer_seldom.Goals as goal

pub returns-in-1634625894-clause-done : goal.returns-in-1634625894-clause-done
returns-in-1634625894-clause-done c =
    let is = c.in-1634625894.is in
    let called = c.answer_finalizer in
    verb_told called.result c.args.runtime.now.machine called.new.runtime.machine
    (called.new.runtime ≡ c.args.runtime.now) c.args.t c.args.text.now (codes "fina")
    (drop (c.args.at + 4) c.args.text.now) called.new.into c.args.at
    (c.four_bytes.ensures 102 105 110 97 (omega arith) (omega arith) (omega arith) (omega arith)
    (omega (arith, is)))
    called.ensures.done

pub returns-in-1886418291-clause-done : goal.returns-in-1886418291-clause-done
returns-in-1886418291-clause-done c =
    let is = c.in-1886418291.is in
    let called = c.answer_suppress in
    verb_told called.result c.args.runtime.now.machine called.new.runtime.machine
    (called.new.runtime ≡ c.args.runtime.now) c.args.t c.args.text.now (codes "supp")
    (drop (c.args.at + 4) c.args.text.now) called.new.into c.args.at
    (c.four_bytes.ensures 115 117 112 112 (omega arith) (omega arith) (omega arith) (omega arith)
    (omega (arith, is)))
    called.ensures.done

pub returns-in-1684955496-clause-done : goal.returns-in-1684955496-clause-done
returns-in-1684955496-clause-done c =
    let is = c.in-1684955496.is in
    let called = c.answer_handle in
    verb_told called.result c.args.runtime.now.machine called.new.runtime.machine
    (called.new.runtime ≡ c.args.runtime.now) c.args.t c.args.text.now (codes "hand")
    (drop (c.args.at + 4) c.args.text.now) called.new.into c.args.at
    (c.four_bytes.ensures 104 97 110 100 (omega arith) (omega arith) (omega arith) (omega arith)
    (omega (arith, is)))
    called.ensures.done
