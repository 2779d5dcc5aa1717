use Rattle.std.proofs.Common.{◌∙◌}
use Rattle.clr_bgmark.proofs.RootedFound.{known_on, rooted_twice}
use Rattle.clr_bgmark.proofs.last_pause.root_due.Goals as goal

pub root_found-requires-2-clause-gray : goal.root_found-requires-2-clause-gray
root_found-requires-2-clause-gray c = c.root_found.ensures.gray

pub root_found-requires-2-clause-oldest : goal.root_found-requires-2-clause-oldest
root_found-requires-2-clause-oldest c = c.root_found.ensures.oldest ∙ c.requires.oldest

pub root_found-requires-2-clause-objects : goal.root_found-requires-2-clause-objects
root_found-requires-2-clause-objects c =
    let closed = c.requires.gray.closed in
    known_on c.args.types.now c.args.heap.now c.root_found.new.heap closed.heap closed.held
    c.root_found.ensures.reached.remarked c.args.shades.now.items c.requires.objects

pub returns : goal.returns
returns c =
    let closed = c.requires.gray.closed in
    rooted_twice c.args.types.now c.args.heap.now c.root_found.new.heap c.root_found-2.new.heap c.args.marker.now
    c.root_found.new.marker c.root_found-2.new.marker closed.heap closed.held c.args.shades.now.items
    c.requires.objects c.root_found.ensures c.root_found-2.ensures
