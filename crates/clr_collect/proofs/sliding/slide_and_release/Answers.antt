-- The large heap slides where the flag is up, and empty segments are given back.
use Rattle.std.proofs.Common.{ap, Bool, subst}
use Rattle.clr_model.specs.Collection.{SlidesIf}
use Rattle.clr_model.specs.Picture.{picture}
use Rattle.clr_collect.proofs.AfterRelease.{unmarked_still}
use Rattle.clr_collect.proofs.SlideEnds.{index_ended, world_ended}
use Rattle.clr_collect.proofs.sliding.slide_and_release.Goals as goal

pub returns-clause-ended : goal.returns-clause-ended
returns-clause-ended c = λ n is named.
    let (slid, s, world) = c.slide_if.ensures.slid n is named in (
      slid,
      subst (λ (b : Bool). SlidesIf b n slid) c.is_due-slides.ensures s,
      world_ended c.args.types.now c.slide_if.new.space.heap c.slide_if.ensures.tidy.heap c.slide_if.ensures.tidy.held
          c.release_after.new.space.heap c.args.g c.release_after.ensures.released
          c.slide_if.new.roots.locals.items c.slide_if.new.roots.handles c.slide_if.new.roots.finals
          (λ two. c.slide_if.ensures.occupied (c.requires.occupied two)) (picture slid) world,
    )

pub returns-clause-collector : goal.returns-clause-collector
returns-clause-collector c =
    ap (λ (b : Bool). record c.args.collector.now { pins = c.slide_if.new.pins; compacts_large = b }) c.put_down.ensures

pub returns-clause-unmarked : goal.returns-clause-unmarked
returns-clause-unmarked c =
    unmarked_still c.args.types.now c.slide_if.new.space.heap c.slide_if.ensures.tidy.heap c.slide_if.ensures.tidy.held
    c.release_after.new.space.heap c.args.g c.release_after.ensures.released c.slide_if.ensures.unmarked

pub returns-clause-index : goal.returns-clause-index
returns-clause-index c = λ empty.
    index_ended c.args.types.now c.slide_if.new.space.heap c.slide_if.ensures.tidy.heap c.slide_if.ensures.tidy.held
    c.release_after.new.space.heap c.args.g c.release_after.ensures.released c.release_after.ensures.tidy.heap
    (c.slide_if.ensures.tail empty)
