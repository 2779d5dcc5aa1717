-- What is tied to primaries that stay is marked first, then all that is reached.
use Rattle.clr_model.specs.Reach.{starts}
use Rattle.clr_mark.proofs.TieDrains.{drained_marker, drained_reached}
use Rattle.clr_mark.proofs.TieLaws.{ties_on}
use Rattle.clr_mark.proofs.marker.Marker.drain_tied.Goals as goal

pub drain_over-requires : goal.drain_over-requires
drain_over-requires c =
    let closed = c.requires.gray.closed in
    record {
      gray = c.root_tied.ensures.gray;
      ties = ties_on c.args.types.now c.args.heap.now c.root_tied.new.heap closed.heap closed.held
          c.root_tied.ensures.reached.remarked c.args.ties.now c.requires.ties;
    }

pub returns : goal.returns
returns c =
    let closed = c.requires.gray.closed in
    let first = c.root_tied.ensures in
    let done = c.drain_over.ensures in
    record {
      marker = drained_marker c.args.types.now c.args.ties.now c.args.heap.now c.root_tied.new.heap
          c.drain_over.new.heap c.args.self.now c.root_tied.new.self c.drain_over.new.self closed.heap closed.held
          first.reached first.oldest c.requires.idle first.capacity done.marker;
      gray = done.gray;
      reached = drained_reached c.args.types.now c.args.ties.now c.args.heap.now c.root_tied.new.heap
          c.drain_over.new.heap c.args.self.now c.root_tied.new.self c.drain_over.new.self closed.heap closed.held
          first.reached first.oldest done.words done.marked;
      old = λ y t. (done.marked y).1 (starts (first.old y t));
    }
