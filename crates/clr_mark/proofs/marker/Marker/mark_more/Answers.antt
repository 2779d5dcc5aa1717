use Rattle.std.proofs.Common.{ap, arith}
use Rattle.clr_mark.specs.Waiting.{MarkerView}
use Rattle.clr_view.specs.Marks.{Marked}
use Rattle.clr_mark.proofs.Held.{remarked-trans}
use Rattle.clr_mark.proofs.TiedMarks.{handles_on, more_all}
use Rattle.clr_mark.proofs.WholeMarkings.{more_marked}
use Rattle.clr_mark.proofs.marker.Marker.mark_more.Goals as goal

pub drain-requires-clause-handles : goal.drain-requires-clause-handles
drain-requires-clause-handles c =
    let closed = c.requires.gray.closed in
    handles_on c.args.types.now c.args.heap.now c.roots.new.heap closed.heap closed.held c.roots.ensures.words
    c.args.handles.now c.requires.handles

pub returns-clause-words : goal.returns-clause-words
returns-clause-words c =
    let closed = c.requires.gray.closed in
    remarked-trans c.args.types.now c.args.heap.now c.roots.new.heap c.drain.new.heap closed.heap closed.held
    c.roots.ensures.words c.drain.ensures.words

pub returns-clause-marked : goal.returns-clause-marked
returns-clause-marked c =
    let closed = c.requires.gray.closed in
    more_marked c.args.types.now c.args.heap.now c.roots.new.heap c.drain.new.heap c.args.handles.now closed.heap
    closed.held c.roots.ensures.words c.args.self.now.oldest c.args.roots.now c.roots.ensures.marked
    c.roots.new.self.oldest (ap (λ (m : MarkerView). m.oldest) c.roots.ensures.marker) c.drain.ensures.marked

pub returns-clause-all : goal.returns-clause-all
returns-clause-all c =
    let marked = returns-clause-marked c in
    λ e x.
    let all = more_all c.args.types.now c.args.heap.now c.args.handles.now c.args.self.now.oldest (omega (arith, e))
    (Marked c.args.types.now c.args.heap.now) c.args.roots.now x in
    (λ s. all.0 ((marked x).0 s), λ r. (marked x).1 (all.1 r))
