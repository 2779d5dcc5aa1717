-- The types come first, then what is drawn, and then nothing.
use Rattle.std.proofs.Common.{◌≡◌, ◌∙◌, ℕ, ◌+◌, ◌<◌, List, ◌∷◌, sym, ap, refl, arith}
use Rattle.clr_script.specs.Made.{lines_left}
use Rattle.clr_script.proofs.MadeLines.{type_left, use_left, none_left, some_line}
use Rattle.clr_script.proofs.made.Made.next_line.Goals as goal

pub returns-then-self-lt3-clause-line : goal.returns-then-self-lt3-clause-line
returns-then-self-lt3-clause-line c some =
    let m = c.self.inside in
    sym c.self.view_is ∙ (type_left m.types m.uses m.draws.state _ c.if-self-lt3.true c.type_line-line.ensures.line
    ∙ ap (λ (line : List ℕ). line ∷ lines_left (m.types + 1) m.uses m.draws.state) (sym c.put.ensures.text))

pub returns-then-self-lt3-clause-ends : goal.returns-then-self-lt3-clause-ends
returns-then-self-lt3-clause-ends c =
    let some : 0 < c.put.result = omega (arith, c.put.ensures.end, c.type_line-line.ensures.some) in
    some_line _ _ _ _ some (returns-then-self-lt3-clause-line c some)

pub returns-then-self-eq0-clause-ends : goal.returns-then-self-eq0-clause-ends
returns-then-self-eq0-clause-ends c =
    let m = c.self.inside in
    let all : m.types ≡ 3 = omega (arith, c.self.invariant) in
    (λ none. sym c.self.view_is ∙ none_left m.types m.uses m.draws.state all c.if-self-eq0.true, λ none. refl)

pub returns-clause-line : goal.returns-clause-line
returns-clause-line c some =
    let m = c.self.inside in
    let all : m.types ≡ 3 = omega (arith, c.self.invariant) in
    let more : 0 < m.uses = omega arith in
    sym c.self.view_is ∙ use_left m.types m.uses m.draws.state _ _ all more c.put_use.ensures.line
    c.put_use.ensures.state

pub returns-clause-ends : goal.returns-clause-ends
returns-clause-ends c = some_line _ _ _ _ c.put_use.ensures.some (returns-clause-line c c.put_use.ensures.some)
