use Rattle.std.proofs.Common.{◌≡◌, ◌++◌, [], ◌∷◌, map, take, get_or, ap, arith, sym, ◌∙◌, length, ◌<◌, ◌≤◌, subst}
use Rattle.std.specs.List.{AllByRecursion}
use Rattle.clr_types.specs.Segments.{empty_segment}
use Rattle.clr_types.proofs.TableRows.{AllByRecursion-push}
use Rattle.clr_bgmark.specs.Pauses.{IsBare, used_of, used_size}
use Rattle.std.proofs.lemmas.List.{map-append, take_all, take_more}
use Rattle.clr_types.specs.declared.segment.SegInfo.{SegInfo}
use Rattle.clr_bgmark.specs.Shades.{IsShade, ShadeView}
use Rattle.clr_bgmark.proofs.FirstPause.{apart_shapes, rising_shapes}
use Rattle.clr_bgmark.proofs.first_pause.shades_of.Goals as goal

pub loop-k-preserved : goal.loop-k-preserved
loop-k-preserved c =
    let ss = c.loop-k.shades.items in
    let s = c.in_ok-shade.shade in
    let segs = c.args.heap.now.segments in
    let k = c.loop-k.k in
    let low = c.loop-k-test.true in
    let count = c.segments-k-end.ensures.count in
    let inside : k < length segs = omega (arith, low, count) in
    let pushed : c.push.new.self.items ≡ ss ++ (s ∷ []) = c.in_ok-push.ensures.items in
    let one : (s.base, s.size) ≡ used_of (get_or segs k empty_segment) =
    (λ i. (
      (c.in_ok-shade.ensures.base ∙ ap (λ (g : SegInfo). g.base) c.info-segment.ensures.value) i,
      (c.in_ok-shade.ensures.size ∙ c.used_size.ensures ∙ ap used_size c.info-segment.ensures.value) i,
    )) in
    record {
      shapes = ap (map (λ (s : ShadeView). (s.base, s.size))) pushed
          ∙ map-append (λ (s : ShadeView). (s.base, s.size)) ss (s ∷ [])
          ∙ (λ i. c.loop-k.invariant.shapes i ++ (one i ∷ []))
          ∙ sym (map-append used_of (take k segs) (get_or segs k empty_segment ∷ []))
          ∙ ap (map used_of) (sym (take_more segs k empty_segment inside));
      lawful = subst (AllByRecursion IsShade) (sym pushed)
          (AllByRecursion-push IsShade ss s c.loop-k.invariant.lawful c.in_ok-shade.ensures.lawful);
      bare = subst (AllByRecursion IsBare) (sym pushed)
          (AllByRecursion-push IsBare ss s c.loop-k.invariant.bare
          (record {
            taken = c.in_ok-shade.ensures.taken;
            marked = c.in_ok-shade.ensures.marked;
            scanned = c.in_ok-shade.ensures.scanned;
            logged = c.in_ok-shade.ensures.logged;
          }));
    }

pub returns-clause-apart : goal.returns-clause-apart
returns-clause-apart c =
    let segs = c.args.heap.now.segments in
    let low = c.loop-k-test.false in
    let count = c.segments-k-end.ensures.count in
    let all : length segs ≤ c.loop-k.k = omega (arith, low, count) in
    apart_shapes c.loop-k.shades.items segs
    (c.loop-k.invariant.shapes ∙ ap (map used_of) (take_all c.loop-k.k segs all))
    c.segments-k-end.ensures.heap.segments c.segments-k-end.ensures.heap.disjoint

pub returns-clause-rising : goal.returns-clause-rising
returns-clause-rising c =
    let segs = c.args.heap.now.segments in
    let low = c.loop-k-test.false in
    let count = c.segments-k-end.ensures.count in
    let all : length segs ≤ c.loop-k.k = omega (arith, low, count) in
    rising_shapes c.loop-k.shades.items segs
    (c.loop-k.invariant.shapes ∙ ap (map used_of) (take_all c.loop-k.k segs all))
    c.segments-k-end.ensures.heap.segments c.segments-k-end.ensures.heap.disjoint
