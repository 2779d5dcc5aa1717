use Rattle.std.proofs.Common.{◌≡◌, ◌+◌, ◌*◌, ◌<◌, ℕ, ap, ap₂, sym, ◌∙◌, ◌∷◌, length, arith, rules}
use Rattle.std.specs.Prelude.{max}
use Rattle.clr_cards.proofs.Scanning.{left, left_end, skip_to_set, start_of, stretch}
use Rattle.clr_cards.proofs.runs.RunsIterator.next.Goals as goal

pub returns-then-from-self-clause-steps : goal.returns-then-from-self-clause-steps
returns-then-from-self-clause-steps c =
    let r = c.self.inside in
    let set = c.first_set-from.ensures in
    let end = left_end r.cards.now r.first r.lo r.hi c.first_set-from.result c.if-from-self.true in
    let skipped =
    skip_to_set r.cards.now r.first r.lo r.hi r.at c.first_set-from.result set.from set.within set.clear
    in
    (sym c.self.view_is ∙ skipped ∙ end, end)

pub returns-clause-steps : goal.returns-clause-steps
returns-clause-steps c =
    let r = c.self.inside in
    let from = c.first_set-from.result in
    let to = c.first_clear-to.result in
    let set = c.first_set-from.ensures in
    let clear = c.first_clear-to.ensures in
    let more = c.if-from-self.false in
    let here : from < length r.cards.now = omega arith in
    let low : c.first.result ≡ 2048 * (r.first + from) = let is = c.first.ensures in omega arith in
    let start : start_of r.cards.now r.first r.lo r.hi from ≡ c.max-start.result =
    ap (λ (n : ℕ). max r.lo n) (sym low) ∙ sym c.max-start.ensures
    in
    sym c.self.view_is
    ∙ stretch r.cards.now r.first r.lo r.hi r.at from to set.from here set.clear (set.set here)
    clear.from clear.set clear.within clear.clear
    ∙ ap₂ (λ (n m : ℕ). (n, m) ∷ left r.cards.now r.first r.lo r.hi to) start (sym c.end_of-end.ensures)

pub returns-clause-goes : goal.returns-clause-goes
returns-clause-goes c = let shorter = ap length (returns-clause-steps c) in search rules
