-- Each type has its line.
use Rattle.std.proofs.Common.{◌<◌, length, arith}
use Rattle.clr_sos.proofs.Tallies.{tally-lines_more}
use Rattle.clr_sos.proofs.listing_counts.put_tallies.Goals as goal

pub loop-t-preserved : goal.loop-t-preserved
loop-t-preserved c = λ items all.
    let low = c.loop-t-test.true in
    let count = c.count-t-end.ensures.value in
    let long = c.requires in
    let inside : c.loop-t.t < length c.args.tallies.now = omega arith in
    tally-lines_more c.args.types.now items c.args.tallies.now c.loop-t.t c.args.text.now.items c.loop-t.text.items
    c.put_tally.new.text.items all inside (c.loop-t.invariant items all) c.in_ok-put_tally.ensures
