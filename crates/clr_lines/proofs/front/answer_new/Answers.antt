-- The line is read by its type that is known, or by its name.
use Rattle.std.proofs.Common.{◌+◌, ◌∷◌, ◌++◌, List, ℕ, drop, subst, sym, take}
use Rattle.clr_model.specs.LineGrammar.{thread_word}
use Rattle.clr_runtime.specs.RuntimeView.{RuntimeView}
use Rattle.clr_lines.specs.Fronts.{IsDone}
use Rattle.clr_lines.proofs.FrontSteps.{behind_three}
use Rattle.clr_lines.proofs.front.answer_new.Goals as goal

pub returns-in-Some-clause-done : goal.returns-in-Some-clause-done
returns-in-Some-clause-done c =
    let text = c.args.text.now in
    let told = c.in-Some.answered in
    let new = c.answer_recent.new in
    subst (λ (l : List ℕ). IsDone c.args.runtime.now.machine (thread_word c.args.t ++ 32 ∷ l) (drop told.1 text)
    (take told.0 new.into) new.runtime.machine) (sym c.requires.verb) c.in-Some.ensures.done

pub returns-clause-done : goal.returns-clause-done
returns-clause-done c =
    let text = c.args.text.now in
    let told = c.in_ok-written in
    let new = c.answer_named.new in
    let words = behind_three text (32 ∷ drop (c.args.at + 4) text) c.args.at 110 101 119 c.requires.verb in
    subst (λ (v : RuntimeView). IsDone v.machine (thread_word c.args.t ++ 32 ∷ drop c.args.at text) (drop told.end text)
    (take told.written new.into) new.runtime.machine) c.in_default.ensures.done
    (subst (λ (l : List ℕ). IsDone c.answer_recent.new.runtime.machine (thread_word c.args.t ++ 32 ∷ l)
    (drop told.end text) (take told.written new.into) new.runtime.machine) (sym words) told.ensures.done)
