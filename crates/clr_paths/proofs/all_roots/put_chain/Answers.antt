-- The entries of a way have their lines, one by one.
use Rattle.std.proofs.Common.{◌≡◌, ◌-◌, ◌<◌, ℕ, suc, List, [], ◌∷◌, ◌++◌, ap, append-nil, arith, subst, sym, ◌∙◌}
use Rattle.std.proofs.lemmas.List.{flat_map_more}
use Rattle.clr_sos.specs.Reaching.{IsObjectOf}
use Rattle.clr_sos.specs.RootTexts.{place_line}
use Rattle.clr_paths.specs.AllRoots.{count_of, node_at}
use Rattle.clr_paths.specs.declared.all_roots.Way.{Way}
use Rattle.clr_paths.proofs.WayChains.{half-ends, half-more, half-starts}
use Rattle.clr_paths.proofs.WaysBack.{entry-read, node-stands}
use Rattle.clr_paths.proofs.all_roots.put_chain.Goals.{In-loop-way}
use Rattle.clr_paths.proofs.all_roots.put_chain.Goals as goal

pub put_place_line-requires-clause-stands : goal.put_place_line-requires-clause-stands
put_place_line-requires-clause-stands c =
    let v = c.args.view.now in
    let places = c.args.numbers.now.places.items in
    let ways = c.args.ways.now in
    let marks = c.requires.ways.marks in
    let read = entry-read v places c.requires.numbers ways marks c.args.entry c.index.result.now c.index-way.result.now
    c.requires.below c.index-way.ensures c.index.ensures in
    subst (IsObjectOf v) (sym read.1)
    (node-stands v places c.requires.numbers ways marks c.args.entry c.requires.below)

pub loop-way-init : goal.loop-way-init
loop-way-init c =
    let v = c.args.view.now in
    let places = c.args.numbers.now.places.items in
    let ways = c.args.ways.now in
    let text = c.args.text.now.items in
    let read = entry-read v places c.requires.numbers ways c.requires.ways.marks c.args.entry c.index.result.now
    c.index-way.result.now c.requires.below c.index-way.ensures c.index.ensures in (
      node_at places ways c.args.entry ∷ [],
      half-starts places ways c.args.entry c.index-way.result.now c.requires.below read.0,
      c.in_ok-put_place_line.ensures ∙ ap (λ (place : ℕ). text ++ place_line v place) read.1
          ∙ ap (λ (rest : List ℕ). text ++ rest) (sym (append-nil (place_line v (node_at places ways c.args.entry)))),
    )

-- the next entry stands before
next : (c : In-loop-way) → (c.loop-way.way.next ≡ suc (c.loop-way.way.next - 1))
    × (c.loop-way.way.next - 1 < count_of c.args.ways.now)
next c =
    let some = c.loop-way-test.true in
    let half = c.loop-way.invariant.1 in
    let own = ap (λ (w : Way). w.next) half.is in
    let below = half.below in
    let back = c.requires.ways.breadth.before half.index half.below in
    (omega (arith, some), omega (arith, some, own, below, back))

pub index-way-requires-in-loop-way : goal.index-way-requires-in-loop-way
index-way-requires-in-loop-way c =
    let low = (next (goal.at.index-way-requires-in-loop-way c).In-loop-way).1 in
    let whole = c.args.ways.now.found.ok.0 in
    omega (arith, low, whole)

pub put_place_line-requires-in-loop-way-clause-stands : goal.put_place_line-requires-in-loop-way-clause-stands
put_place_line-requires-in-loop-way-clause-stands c =
    let v = c.args.view.now in
    let places = c.args.numbers.now.places.items in
    let ways = c.args.ways.now in
    let marks = c.requires.ways.marks in
    let q = c.loop-way.way.next - 1 in
    let low = (next (goal.at.put_place_line-requires-in-loop-way-clause-stands c).In-loop-way).1 in
    let read = entry-read v places c.requires.numbers ways marks q c.index-in-loop-way.result.now
    c.index-way-in-loop-way.result.now low c.index-way-in-loop-way.ensures c.index-in-loop-way.ensures in
    subst (IsObjectOf v) (sym read.1) (node-stands v places c.requires.numbers ways marks q low)

pub loop-way-preserved : goal.loop-way-preserved
loop-way-preserved c =
    let v = c.args.view.now in
    let places = c.args.numbers.now.places.items in
    let ways = c.args.ways.now in
    let text = c.args.text.now.items in
    let q = c.loop-way.way.next - 1 in
    let more = next (goal.at.loop-way-preserved c).In-loop-way in
    let read = entry-read v places c.requires.numbers ways c.requires.ways.marks q c.index-in-loop-way.result.now
    c.index-way-in-loop-way.result.now more.1 c.index-way-in-loop-way.ensures c.index-in-loop-way.ensures in
    let shown = c.loop-way.invariant.0 in (
      shown ++ node_at places ways q ∷ [],
      half-more places ways c.args.entry c.loop-way.way c.index-way-in-loop-way.result.now q shown
          c.loop-way.invariant.1 more.0 more.1 read.0,
      c.in_ok-put_place_line-2.ensures ∙ ap (λ (place : ℕ). c.loop-way.text.items ++ place_line v place) read.1
          ∙ ap (λ (front : List ℕ). front ++ place_line v (node_at places ways q)) c.loop-way.invariant.2
          ∙ flat_map_more (place_line v) text shown (node_at places ways q),
    )

pub returns : goal.returns
returns c =
    let past = c.loop-way-test.false in (
      c.loop-way.invariant.0,
      half-ends c.args.numbers.now.places.items c.args.ways.now c.args.entry c.loop-way.way c.loop-way.invariant.0
          c.loop-way.invariant.1 (omega (arith, past)),
      c.loop-way.invariant.2,
    )
