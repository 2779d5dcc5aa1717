-- The four bytes of a verb stand before its words.
use Rattle.std.proofs.Common.{◌≡◌, ◌+◌, ◌∷◌, arith, codes, drop}
use Rattle.clr_lines.proofs.FrontSteps.{verb_told}
use Rattle.clr_lines.proofs.front.answer_verb.Goals as goal

pub returns-in-544499047-clause-done : goal.returns-in-544499047-clause-done
returns-in-544499047-clause-done c =
    let is = c.in-544499047.is in
    let called = c.answer_get in
    verb_told called.result c.args.runtime.now.machine called.new.runtime.machine
    (called.new.runtime ≡ c.args.runtime.now) c.args.t c.args.text.now (codes "get")
    (32 ∷ drop (c.args.at + 4) c.args.text.now) called.new.into c.args.at
    (c.four_bytes.ensures 103 101 116 32 (omega arith) (omega arith) (omega arith) (omega arith)
    (omega (arith, is)))
    called.ensures.done

pub returns-in-544499059-clause-done : goal.returns-in-544499059-clause-done
returns-in-544499059-clause-done c =
    let is = c.in-544499059.is in
    let called = c.answer_set in
    verb_told called.result c.args.runtime.now.machine called.new.runtime.machine
    (called.new.runtime ≡ c.args.runtime.now) c.args.t c.args.text.now (codes "set")
    (32 ∷ drop (c.args.at + 4) c.args.text.now) called.new.into c.args.at
    (c.four_bytes.ensures 115 101 116 32 (omega arith) (omega arith) (omega arith) (omega arith)
    (omega (arith, is)))
    called.ensures.done

pub returns-in-544503152-clause-done : goal.returns-in-544503152-clause-done
returns-in-544503152-clause-done c =
    let is = c.in-544503152.is in
    let called = c.answer_put in
    verb_told called.result c.args.runtime.now.machine called.new.runtime.machine
    (called.new.runtime ≡ c.args.runtime.now) c.args.t c.args.text.now (codes "put")
    (32 ∷ drop (c.args.at + 4) c.args.text.now) called.new.into c.args.at
    (c.four_bytes.ensures 112 117 116 32 (omega arith) (omega arith) (omega arith) (omega arith)
    (omega (arith, is)))
    called.ensures.done

pub answer_new-requires-clause-verb : goal.answer_new-requires-clause-verb
answer_new-requires-clause-verb c =
    let is = c.in-544695662.is in
    c.four_bytes.ensures 110 101 119 32 (omega arith) (omega arith) (omega arith) (omega arith) (omega (arith, is))

pub returns-in-1684104562-clause-done : goal.returns-in-1684104562-clause-done
returns-in-1684104562-clause-done c =
    let is = c.in-1684104562.is in
    let called = c.answer_read in
    verb_told called.result c.args.runtime.now.machine called.new.runtime.machine
    (called.new.runtime ≡ c.args.runtime.now) c.args.t c.args.text.now (codes "read")
    (drop (c.args.at + 4) c.args.text.now) called.new.into c.args.at
    (c.four_bytes.ensures 114 101 97 100 (omega arith) (omega arith) (omega arith) (omega arith)
    (omega (arith, is)))
    called.ensures.done

pub returns-in-2037411683-clause-done : goal.returns-in-2037411683-clause-done
returns-in-2037411683-clause-done c =
    let is = c.in-2037411683.is in
    let called = c.answer_copy in
    verb_told called.result c.args.runtime.now.machine called.new.runtime.machine
    (called.new.runtime ≡ c.args.runtime.now) c.args.t c.args.text.now (codes "copy")
    (drop (c.args.at + 4) c.args.text.now) called.new.into c.args.at
    (c.four_bytes.ensures 99 111 112 121 (omega arith) (omega arith) (omega arith) (omega arith)
    (omega (arith, is)))
    called.ensures.done

pub returns-in-1819047278-clause-done : goal.returns-in-1819047278-clause-done
returns-in-1819047278-clause-done c =
    let is = c.in-1819047278.is in
    let called = c.answer_null in
    verb_told called.result c.args.runtime.now.machine called.new.runtime.machine
    (called.new.runtime ≡ c.args.runtime.now) c.args.t c.args.text.now (codes "null")
    (drop (c.args.at + 4) c.args.text.now) called.new.into c.args.at
    (c.four_bytes.ensures 110 117 108 108 (omega arith) (omega arith) (omega arith) (omega arith)
    (omega (arith, is)))
    called.ensures.done
