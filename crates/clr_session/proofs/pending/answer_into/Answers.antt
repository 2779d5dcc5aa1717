-- The reply stands at the front of the array.
use Rattle.std.proofs.Common.{arith, length-append, length-drop, subst, sym, List, ℕ}
use Rattle.std.proofs.lemmas.List.{take-append-le}
use Rattle.clr_lines.specs.Fronts.{IsAnswered}
use Rattle.clr_session.proofs.pending.answer_into.Goals as goal

pub returns-in-Some-answer_front-clause-answered : goal.returns-in-Some-answer_front-clause-answered
returns-in-Some-answer_front-clause-answered c _ =
    let answered = c.in-Some-answer_front.answered in
    let fits = c.in-Some-answer_front.ensures.fits in
    subst (λ (l : List ℕ). IsAnswered c.args.runtime.now.machine c.args.text.now answered.read l
    c.answer_front.new.runtime.machine)
    (sym (take-append-le answered.written c.answer_front.new.into _
    (omega (arith, fits, length-append {A = ℕ}, length-drop {A = ℕ})))) c.in-Some-answer_front.ensures.answered
