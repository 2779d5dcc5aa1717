use Rattle.std.proofs.Common.{map, refl, ap, sym, ◌∙◌, subst, arith}
use Rattle.std.proofs.lemmas.List.{length-set, take_all}
use Rattle.clr_evacuate.specs.Forwarding.{CanForward}
use Rattle.clr_mark.proofs.Rooting.{at_in}
use Rattle.clr_evacuate.proofs.NamesGone.{le-refl, one-more, same-further}
use Rattle.clr_evacuate.proofs.roots.forward_locals.Goals as goal

pub loop-i-init : goal.loop-i-init
loop-i-init c = (refl, λ j high. refl, λ go leads. refl)

pub forward-requires : goal.forward-requires
forward-requires c =
    let (long, all, so_far) = c.loop-i.invariant in
    let same = all c.loop-i.i (le-refl c.loop-i.i) in
    record {
      heap = c.requires.heap;
      held = c.requires.held;
      can = subst (CanForward c.args.types.now c.args.heap.now) (sym same)
          (c.requires.named _ (at_in c.args.locals.now c.loop-i.i 0 c.loop-i-test.true));
    }

pub loop-i-preserved : goal.loop-i-preserved
loop-i-preserved c =
    let was = c.args.locals.now in
    let (long, same, so_far) = c.loop-i.invariant in
    let l = c.loop-i-test.true in (
      length-set c.loop-i.locals c.loop-i.i c.forward.result ∙ long,
      same-further was c.loop-i.locals c.loop-i.i c.forward.result same,
      λ go leads.
          let at = same c.loop-i.i (le-refl c.loop-i.i) in
          one-more go was c.loop-i.locals c.loop-i.i c.forward.result (omega (arith, l, long)) l
          (so_far go leads) (c.forward.ensures go leads ∙ ap go at),
    )

pub returns : goal.returns
returns c = λ go leads.
    let was = c.args.locals.now in
    let (long, same, so_far) = c.loop-i.invariant in
    let most = c.loop-i-test.false in
    sym (take_all c.loop-i.i c.loop-i.locals (omega (arith, long, most))) ∙ so_far go leads
    ∙ ap (map go) (take_all c.loop-i.i was most)
