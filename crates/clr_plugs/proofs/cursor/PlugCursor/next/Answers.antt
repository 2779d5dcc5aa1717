use Rattle.std.proofs.Common.{◌≡◌, ℕ, ◌+◌, ◌∷◌, take, drop, ap, sym, ◌∙◌, subst, arith}
use Rattle.clr_plugs.specs.Builders.{places_from}
use Rattle.clr_plugs.specs.Cursors.{CursorView}
use Rattle.clr_plugs.proofs.Stepping.{at_end, at_next, first_at_hand, IsStepping, none_at_hand, steps_on, still_at_hand}
use Rattle.clr_plugs.proofs.cursor.PlugCursor.next.Goals as goal

pub returns-then-self-clause-next : goal.returns-then-self-clause-next
returns-then-self-clause-next c =
    let i = c.self.inside in
    let most = c.self.invariant.most in
    let view : CursorView =
    record { at_hand = places_from i.base (drop i.at (take i.count i.offsets)); brick = i.brick; past = i.past } in
    let P : CursorView → Type 0 = λ v. IsStepping c.args.heap.now c.args.bricks.now c.args.self.now v in
    at_end c.args.heap.now c.args.bricks.now c.args.self.now view (subst P (sym c.self.view_is) c.loop-self.invariant)
    (none_at_hand i.base i.at i.count i.offsets c.loop-self-test.true (omega (arith, c.self.told, most)))
    c.if-self.true

pub load-requires-clause-none : goal.load-requires-clause-none
load-requires-clause-none c =
    let i = c.self.inside in
    let most = c.self.invariant.most in
    sym (ap (λ (v : CursorView). v.at_hand) c.self.view_is)
    ∙ none_at_hand i.base i.at i.count i.offsets c.loop-self-test.true (omega (arith, c.self.told, most))

pub loop-self-preserved : goal.loop-self-preserved
loop-self-preserved c =
    steps_on c.args.heap.now c.args.bricks.now c.args.self.now c.loop-self.self c.load.new.self c.loop-self.invariant
    c.load.ensures.ahead c.load.ensures.brick c.load.ensures.past

pub bounds-self-inside-self-inside : goal.bounds-self-inside-self-inside
bounds-self-inside-self-inside c =
    let i = c.self.inside in
    let j = c.self-2.inside in
    let low = c.self.invariant.at_most in
    let most = c.self.invariant.most in
    let low2 = c.self-2.invariant.at_most in
    let most2 = c.self-2.invariant.most in
    let same = ap (λ (v : CursorView). v.at_hand) c.self.view_is
    ∙ sym (ap (λ (v : CursorView). v.at_hand) c.self-2.view_is) in
    let less = still_at_hand i.base i.at i.count i.offsets j.base j.at j.count j.offsets low c.loop-self-test.false
    (omega (arith, c.self.told, most)) low2 (omega (arith, c.self-2.told, most2)) same in
    omega (arith, less, most2)

pub invariant_of-self : goal.invariant_of-self
invariant_of-self c =
    let i = c.self.inside in
    let j = c.self-2.inside in
    let low = c.self.invariant.at_most in
    let most = c.self.invariant.most in
    let low2 = c.self-2.invariant.at_most in
    let most2 = c.self-2.invariant.most in
    let same = ap (λ (v : CursorView). v.at_hand) c.self.view_is
    ∙ sym (ap (λ (v : CursorView). v.at_hand) c.self-2.view_is) in
    let less = still_at_hand i.base i.at i.count i.offsets j.base j.at j.count j.offsets low c.loop-self-test.false
    (omega (arith, c.self.told, most)) low2 (omega (arith, c.self-2.told, most2)) same in
    record { at_most = omega (arith, less); most = most2; fits = c.self-2.invariant.fits }

pub returns-clause-next : goal.returns-clause-next
returns-clause-next c =
    let i = c.self.inside in
    let j = c.self-2.inside in
    let low = c.self.invariant.at_most in
    let most = c.self.invariant.most in
    let low2 = c.self-2.invariant.at_most in
    let most2 = c.self-2.invariant.most in
    let same = ap (λ (v : CursorView). v.at_hand) c.self.view_is
    ∙ sym (ap (λ (v : CursorView). v.at_hand) c.self-2.view_is) in
    let less = still_at_hand i.base i.at i.count i.offsets j.base j.at j.count j.offsets low c.loop-self-test.false
    (omega (arith, c.self.told, most)) low2 (omega (arith, c.self-2.told, most2)) same in
    let view : CursorView =
    record { at_hand = places_from j.base (drop j.at (take j.count j.offsets)); brick = j.brick; past = j.past } in
    let P : CursorView → Type 0 = λ v. IsStepping c.args.heap.now c.args.bricks.now c.args.self.now v in
    let rest = places_from j.base (drop (j.at + 1) (take j.count j.offsets)) in
    let hand : view.at_hand ≡ (j.base + c.from.result) ∷ rest =
    first_at_hand j.base j.at j.count j.offsets less (omega (arith, c.self-2.told, most2))
    ∙ ap (λ (o : ℕ). (j.base + o) ∷ rest) (sym c.from.ensures) in
    at_next c.args.heap.now c.args.bricks.now c.args.self.now view (j.base + c.from.result) rest
    (subst P (sym c.self-2.view_is) c.loop-self.invariant) hand
