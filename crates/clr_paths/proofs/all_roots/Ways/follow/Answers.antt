-- The edges of one list are taken one by one.
use Rattle.std.proofs.Common.{◌≢◌, ◌+◌, ◌<◌, ℕ, ap, arith, get_or, length, refl, subst, sym, ◌∙◌}
use Rattle.std.proofs.lemmas.List.{get_or_default}
use Rattle.clr_paths.specs.AllRoots.{AreMarked, mark_of, no_way, way_at}
use Rattle.clr_paths.specs.Incoming.{earlier, IsEdgeOf, own}
use Rattle.clr_paths.specs.declared.all_roots.Way.{Way}
use Rattle.clr_paths.specs.declared.incoming.Edge.{Edge}
use Rattle.clr_paths.proofs.WaysBack.{half-ends, half-more, half-starts, IsHalfFollowed, marked-own, met-refl}
use Rattle.clr_paths.proofs.WaysBack.{met-trans}
use Rattle.clr_paths.proofs.all_roots.Ways.follow.Goals.{In-loop-e}
use Rattle.clr_paths.proofs.all_roots.Ways.follow.Goals as goal

pub last-e-requires : goal.last-e-requires
last-e-requires c =
    let ways = c.args.self.now in
    let is = c.index.ensures ∙ get_or_default ways.found.items c.args.i c.index.result.now no_way c.requires.below in
    let count = c.requires.linked.count in
    let below = subst (λ (w : Way). w.number < length ways.at.items) (sym is)
    (c.requires.marks.numbered c.args.i c.requires.below) in
    omega (arith, count, below)

pub loop-e-init : goal.loop-e-init
loop-e-init c =
    let ways = c.args.self.now in
    let is = c.index.ensures ∙ get_or_default ways.found.items c.args.i c.index.result.now no_way c.requires.below in
    let to = (way_at ways c.args.i).number in
    let begun = c.last-e.ensures ∙ ap (λ (w : Way). get_or c.args.incoming.now.lasts.items w.number 0) is in
    let low = c.requires.linked.begin to in
    record {
      marks = c.requires.marks;
      met = met-refl ways (c.args.i + 1);
      half = half-starts c.args.incoming.now to c.last-e.result ways begun;
      within = omega (arith, begun, low);
    }

-- the next edge is listed
listed : (c : In-loop-e) → IsEdgeOf c.args.incoming.now.edges.items c.loop-e.e
listed c = let some = c.loop-e-test.true in (omega (arith, some), c.loop-e.invariant.within)

pub meet-requires-clause-marks : goal.meet-requires-clause-marks
meet-requires-clause-marks c = marked-own _ _ c.loop-e.invariant.marks

pub meet-requires-clause-below : goal.meet-requires-clause-below
meet-requires-clause-below c =
    let is = listed (goal.at.meet-requires-clause-below c).In-loop-e in
    let low = c.requires.linked.numbered c.loop-e.e is in
    let from = ap (λ (x : Edge). x.from) c.edge-edge.ensures in
    let count = c.loop-e.invariant.marks.count in
    omega (arith, low, from, count)

pub loop-e-preserved : goal.loop-e-preserved
loop-e-preserved c =
    let incoming = c.args.incoming.now in
    let edges = incoming.edges.items in
    let old = c.args.self.now in
    let to = (way_at old c.args.i).number in
    let e = c.loop-e.e in
    let now = c.loop-e.self in
    let new = c.meet.new.self in
    let s = c.loop-e.invariant in
    let met = c.in_ok-meet.ensures in
    let is = listed (goal.at.loop-e-preserved c).In-loop-e in
    let read = c.edge-edge.ensures in
    let down = c.requires.linked.falls e is in
    let before = ap (λ (x : Edge). x.before) read in
    let within = s.within in
    record {
      marks = subst (λ (k : ℕ). AreMarked k new) s.marks.count met.marks;
      met = met-trans old now new (c.args.i + 1) s.met met.met;
      half = subst (λ (x : Edge). IsHalfFollowed incoming to x.before old new) (sym read)
          (half-more incoming to e (c.args.i + 1) old now new is.0 met.met s.met s.half (own e is refl)
          (λ i late l. met.only i late l ∙ ap (λ (x : Edge). x.from) read)
          (subst (λ (x : Edge). mark_of new x.from ≢ 0) read met.found) (λ k more. earlier e is more));
      within = omega (arith, down, before, within);
    }

pub loop-e-smaller : goal.loop-e-smaller
loop-e-smaller c =
    let down = c.requires.linked.falls c.loop-e.e (listed (goal.at.loop-e-smaller c).In-loop-e) in
    let before = ap (λ (x : Edge). x.before) c.edge-edge.ensures in
    omega (arith, down, before)

pub returns : goal.returns
returns c =
    let s = c.loop-e.invariant in
    let past = c.loop-e-test.false in
    record {
      marks = s.marks;
      met = s.met;
      followed = half-ends c.args.incoming.now (way_at c.args.self.now c.args.i).number c.loop-e.e c.args.self.now
          c.loop-e.self s.half (omega (arith, past));
    }
