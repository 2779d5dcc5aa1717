use Rattle.std.proofs.Common.{◌≡◌, ℕ, ◌+◌, List, ◌++◌, map, ap, arith, refl, sym, subst, ◌∙◌}
use Rattle.clr_heap.specs.View.{listing, listings}
use Rattle.clr_bgmark.specs.Pauses.{all_taken}
use Rattle.clr_bgmark.specs.Shades.{AreApart, ShadeView}
use Rattle.clr_bgmark.proofs.AllParts.{all_edges, all_parts, none_told, told_more}
use Rattle.clr_bgmark.proofs.FirstPause.{listings_more, taken_apart, taken_more}
use Rattle.clr_bgmark.proofs.FirstTaken.{all_shapes, shape}
use Rattle.clr_bgmark.proofs.first_pause.take_oldest.Goals as goal

pub loop-k-init : goal.loop-k-init
loop-k-init c = record {
  taken = refl;
  told = none_told c.args.types.now c.args.heap.now c.segments-k-end.ensures.heap c.args.shades.now.items
      c.args.parts.now.items c.requires.shapes c.requires.lawful c.requires.bare c.requires.untold;
}

pub loop-k-preserved : goal.loop-k-preserved
loop-k-preserved c =
    let rows = c.args.types.now in
    let h = c.args.heap.now in
    let k = c.loop-k.k in
    let ss = c.args.shades.now.items in
    let low : listings rows h 0 (k + 1) ≡ listings rows h 0 k ++ listing rows h k =
    listings_more rows h 0 k ∙ ap (λ (m : ℕ). listings rows h 0 k ++ listing rows h m) (omega arith) in
    record {
      taken = c.take_segment.ensures.taken
          ∙ ap (λ (taken : List ShadeView). all_taken h taken (listing rows h k)) c.loop-k.invariant.taken
          ∙ sym (taken_more h ss (listings rows h 0 k) (listing rows h k))
          ∙ ap (all_taken h ss) (sym low);
      told = told_more rows h k c.loop-k.shades.items c.take_segment.new.shades.items c.loop-k.parts.items
          c.take_segment.new.parts.items c.loop-k.invariant.told c.take_segment.ensures.told;
    }

pub returns-clause-taken : goal.returns-clause-taken
returns-clause-taken c =
    let rows = c.args.types.now in
    let h = c.args.heap.now in
    let low = c.loop-k-test.false in
    let high = c.loop-k.auto.k-end in
    let all : c.loop-k.k ≡ c.segments-k-end.result = omega (arith, low, high) in
    c.loop-k.invariant.taken
    ∙ ap (λ (n : ℕ). all_taken h c.args.shades.now.items (listings rows h 0 n)) (all ∙ c.segments-k-end.ensures.count)

pub take_segment-requires-clause-apart : goal.take_segment-requires-clause-apart
take_segment-requires-clause-apart c =
    let h = c.args.heap.now in
    subst AreApart (sym c.loop-k.invariant.taken)
    (taken_apart h (listings c.args.types.now h 0 c.loop-k.k) c.args.shades.now.items c.requires.apart)

pub take_segment-requires-clause-shapes : goal.take_segment-requires-clause-shapes
take_segment-requires-clause-shapes c =
    let h = c.args.heap.now in
    ap (map shape) c.loop-k.invariant.taken
    ∙ all_shapes h (listings c.args.types.now h 0 c.loop-k.k) c.args.shades.now.items ∙ c.requires.shapes

pub take_segment-requires-clause-walkable : goal.take_segment-requires-clause-walkable
take_segment-requires-clause-walkable c = c.requires.held.walkable

pub take_segment-requires-clause-count : goal.take_segment-requires-clause-count
take_segment-requires-clause-count c = c.loop-k.invariant.told.count ∙ c.loop-k.invariant.told.segments

pub take_segment-requires-clause-fresh : goal.take_segment-requires-clause-fresh
take_segment-requires-clause-fresh c =
    let told = c.loop-k.invariant.told in
    let low = c.loop-k-test.true in
    let count = c.segments-k-end.ensures.count in
    let segments = told.segments in
    told.ahead c.loop-k.k (omega arith) (omega (arith, low, count, segments))

pub returns-clause-parts : goal.returns-clause-parts
returns-clause-parts c =
    let told = c.loop-k.invariant.told in
    let low = c.loop-k-test.false in
    let count = c.segments-k-end.ensures.count in
    let segments = told.segments in
    all_parts c.args.types.now c.args.heap.now c.loop-k.shades.items c.loop-k.parts.items told.count
    (λ j l. told.done j (omega (arith, l, low, count, segments)) l)

pub returns-clause-edges : goal.returns-clause-edges
returns-clause-edges c =
    let told = c.loop-k.invariant.told in
    let low = c.loop-k-test.false in
    let count = c.segments-k-end.ensures.count in
    let segments = told.segments in
    all_edges c.args.types.now c.args.heap.now c.loop-k.shades.items c.loop-k.parts.items told.count
    (λ j l. told.done j (omega (arith, l, low, count, segments)) l)
