use Rattle.std.proofs.Common.{rules, ℤ, FitsSigned, to_z, of_z, w16}
use Rattle.std.proofs.Common.{◌*◌, ◌/◌, sym, ap, ◌∙◌, subst, arith, true, ◌≡◌}
use Rattle.std.proofs.lemmas.Int.{to_z-of_z}
use Rattle.clr_types.specs.Segments.{first_place}
use Rattle.clr_bricks.specs.Bricks.{entry_at}
use Rattle.clr_covers.specs.Covers.{is_covered}
use Rattle.clr_heap.specs.View.{first_of}
use Rattle.clr_heap.proofs.Framing.{lawful_at}
use Rattle.clr_generations.proofs.Covered.{brick-covered}
use Rattle.clr_generations.proofs.FoundItems.{start-named}
use Rattle.clr_generations.proofs.finding.walk_start.Goals as goal

-- an entry that was read is what it is as a number of 16 bits
read-entry : (z : ℤ) → FitsSigned w16 z → to_z w16 (of_z w16 z) ≡ z
read-entry z fits = to_z-of_z w16 z fits

pub entry_near-entry-requires : goal.entry_near-entry-requires
entry_near-entry-requires c =
    let h = c.args.heap.now in
    let first = c.first_place-first.ensures ∙ ap first_place c.info.ensures.value in
    let lawful = lawful_at h c.args.k c.info.ensures.heap c.requires.in_range in
    let base = lawful.base in
    let end = lawful.high in
    let low = c.loop-brick-test.true in
    let up = c.loop-brick.invariant in
    let high = c.requires.high in
    let at : 4096 * c.loop-brick.brick / 4096 ≡ c.loop-brick.brick = omega arith in
    subst (λ n. is_covered c.args.bricks.now n ≡ true) at
    (brick-covered h c.args.k (4096 * c.loop-brick.brick) c.info.ensures.heap c.requires.in_range
    (omega (arith, first, base, low)) (omega (arith, up, high, end)) c.args.bricks.now c.requires.bricks)

pub returns-then-place-a : goal.returns-then-place-a
returns-then-place-a c =
    let h = c.args.heap.now in
    let first : c.first_place-first.result ≡ first_of h c.args.k =
    c.first_place-first.ensures ∙ ap first_place c.info.ensures.value in
    let low = c.loop-brick-test.true in
    start-named c.args.types.now h (entry_at c.args.bricks.now) c.args.k c.args.a c.loop-brick.brick c.offset_of.result
    c.info.ensures.heap c.requires.law c.requires.in_range c.requires.high (omega (arith, first, low))
    c.loop-brick.invariant
    (sym c.entry_near-entry.ensures ∙ sym (read-entry c.entry_near-entry.result (search rules))
    ∙ c.offset_of.ensures.named)
    c.if-place-a.true
