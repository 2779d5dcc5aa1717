use Rattle.std.proofs.Common.{◌≡◌, ◌<◌, ◌+◌, true, false, Option, Some, None, is_some, length, refl, ap, sym, ◌∙◌}
use Rattle.std.proofs.Common.{arith}
use Rattle.std.specs.Option.{option_or}
use Rattle.clr_types.specs.Ranges.{Piece}
use Rattle.clr_items.specs.Items.{first_fitting}
use Rattle.clr_large.proofs.KindLists.{found_next, kind_ahead}
use Rattle.clr_large.proofs.places.first_walked.Goals as goal

either_some : (o r : Option Piece) → is_some o ≡ true → option_or o r ≡ o
either_some None r e = absurd cc
either_some (Some p) r e = refl

either_none : (o r : Option Piece) → is_some o ≡ false → option_or o r ≡ r
either_none None r e = refl
either_none (Some p) r e = absurd cc

pub returns-then-is_some : goal.returns-then-is_some
returns-then-is_some c =
    let rows = c.args.types.now in
    let h = c.args.heap.now in
    let k = c.loop-k.k in
    let inside : k < length h.segments = omega (arith, c.segments-count.ensures.count, c.loop-k-test.true) in
    let rest = first_fitting c.args.size (kind_ahead c.args.kind rows h (k + 1)) in
    sym (either_some c.first_if_of-found.result rest (sym c.is_some.ensures ∙ c.if-is_some.true))
    ∙ ap (λ (o : Option Piece). option_or o rest) c.first_if_of-found.ensures
    ∙ sym (found_next c.args.kind rows h c.segments-count.ensures.heap c.requires.held c.args.size k inside)
    ∙ c.loop-k.invariant

pub loop-k-preserved : goal.loop-k-preserved
loop-k-preserved c =
    let rows = c.args.types.now in
    let h = c.args.heap.now in
    let k = c.loop-k.k in
    let inside : k < length h.segments = omega (arith, c.segments-count.ensures.count, c.loop-k-test.true) in
    let rest = first_fitting c.args.size (kind_ahead c.args.kind rows h (k + 1)) in
    sym (either_none c.first_if_of-found.result rest (sym c.is_some.ensures ∙ c.if-is_some.false))
    ∙ ap (λ (o : Option Piece). option_or o rest) c.first_if_of-found.ensures
    ∙ sym (found_next c.args.kind rows h c.segments-count.ensures.heap c.requires.held c.args.size k inside)
    ∙ c.loop-k.invariant
