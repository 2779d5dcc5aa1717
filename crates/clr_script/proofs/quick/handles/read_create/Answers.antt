-- The words that were read are those of the line.
use Rattle.clr_script.proofs.SpelledLines.{handle_made}
use Rattle.clr_script.proofs.quick.handles.read_create.Goals as goal

pub returns : goal.returns
returns c = handle_made c.args.t c.in_ok-local.local c.in_ok-kind.kind c.in_ok-second.second c.args.text.now _ _
    c.in_ok-kind.ensures c.in_ok-local.ensures.0 c.in_ok-second.ensures.0 c.ranges.t.fits c.in_ok-local.ensures.1
    c.in_ok-second.ensures.1
