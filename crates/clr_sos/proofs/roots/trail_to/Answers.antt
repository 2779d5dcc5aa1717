-- The chain is read back, from its end to its root.
use Rattle.std.proofs.Common.{◌<◌, ◌∷◌, [], reverse, refl, arith, subst}
use Rattle.std.proofs.lemmas.List.{reverse-append}
use Rattle.clr_sos.specs.Reaching.{place_at}
use Rattle.clr_sos.specs.RootTexts.{ends, IsBefore, leads}
use Rattle.clr_sos.proofs.roots.trail_to.Goals as goal

pub loop-i-init : goal.loop-i-init
loop-i-init c = record {
  inside = c.requires.below;
  trail = rw (c.in_ok-push.ensures.items, c.new-places.ensures.items) (ends c.args.last c.requires.below refl);
}

pub loop-i-preserved : goal.loop-i-preserved
loop-i-preserved c =
    let es = c.args.entries.now in
    let i = c.loop-i.i in
    let q = c.in-Through.before in
    let s = c.loop-i.invariant in
    let inside = s.inside in
    let before : q < i = subst (IsBefore i) c.in-Through.is (c.requires.back i inside) in
    record {
      inside = omega (arith, before, inside);
      trail = rw (c.in_ok-push-2.ensures.items, reverse-append c.loop-i.places.items (place_at es q ∷ []))
          (leads q i (reverse c.loop-i.places.items) before c.in-Through.is s.trail);
    }
