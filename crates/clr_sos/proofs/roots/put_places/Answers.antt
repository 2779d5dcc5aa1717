-- Each of the places is an object's.
use Rattle.std.proofs.Common.{get_or}
use Rattle.clr_mark.proofs.Rooting.{at_in}
use Rattle.clr_sos.specs.RootTexts.{place_line}
use Rattle.clr_sos.proofs.LineParts.{lines-more}
use Rattle.clr_sos.proofs.roots.put_places.Goals as goal

pub put_place_line-requires-clause-stands : goal.put_place_line-requires-clause-stands
put_place_line-requires-clause-stands c =
    let k = c.loop-place.place-index in
    c.requires.stand (get_or c.args.places.now k 0) (at_in c.args.places.now k 0 c.loop-place-test.true)

pub loop-place-preserved : goal.loop-place-preserved
loop-place-preserved c =
    rw (c.in_ok-put_place_line.ensures, c.loop-place.invariant)
    (lines-more (place_line c.args.view.now) c.args.text.now.items c.args.places.now c.loop-place.place-index 0
    c.loop-place-test.true)
