use Rattle.std.proofs.Common.{◌⊎◌, inl, sym, ◌∙◌}
use Rattle.clr_view.specs.Marks.{Marked}
use Rattle.clr_mark.specs.Ties.{Draws, IsTiedToOld}
use Rattle.clr_mark.proofs.Graying.{reached-refl}
use Rattle.clr_mark.proofs.TiedMarks.{handles_on}
use Rattle.clr_mark.proofs.Tying.{no_ties, tying_due, tying_ends, tying_not_due, tying_starts}
use Rattle.clr_mark.proofs.marker.Marker.follow_ties.Goals as goal

pub returns-then-not-has_kind-clause-reached : goal.returns-then-not-has_kind-clause-reached
returns-then-not-has_kind-clause-reached c =
    reached-refl c.args.types.now (Draws c.args.types.now c.args.heap.now c.args.handles.now c.args.self.now.oldest)
    (λ y. Marked c.args.types.now c.args.heap.now y
    ⊎ IsTiedToOld c.args.types.now c.args.heap.now c.args.handles.now c.args.self.now.oldest y) c.args.heap.now
    (λ x marked. inl marked)

pub returns-then-not-has_kind-clause-followed : goal.returns-then-not-has_kind-clause-followed
returns-then-not-has_kind-clause-followed c = λ done.
    no_ties c.args.types.now c.args.heap.now c.args.handles.now c.args.self.now.oldest
    (c.has_kind.ensures c.if-not-has_kind.true)

pub loop-handle-init : goal.loop-handle-init
loop-handle-init c =
    tying_starts c.args.types.now c.args.heap.now c.args.self.now c.args.handles.now c.args.ahead c.requires.gray
    c.requires.all

pub follow_tie-requires-clause-handle : goal.follow_tie-requires-clause-handle
follow_tie-requires-clause-handle c =
    let closed = c.requires.gray.closed in
    let taken = c.in-Some.ensures.taken in
    handles_on c.args.types.now c.args.heap.now c.loop-handle.heap closed.heap closed.held
    c.loop-handle.invariant.reached.remarked c.args.handles.now c.requires.handles taken.number c.in-Some.handle
    taken.in_use

pub loop-handle-preserved-then-follow_tie : goal.loop-handle-preserved-then-follow_tie
loop-handle-preserved-then-follow_tie c =
    let closed = c.requires.gray.closed in
    let done = c.follow_tie.ensures in
    tying_due c.args.types.now c.args.heap.now c.loop-handle.heap c.args.self.now c.loop-handle.self
    c.args.handles.now c.loop-handle.ahead c.loop-handle.marked closed.heap closed.held c.requires.handles
    c.loop-handle.invariant c.follow_tie.new.heap c.follow_tie.new.self c.lowest_condemned-low.result
    c.next.new.self c.in-Some.handle c.in-Some.ensures.taken (sym done.due ∙ c.if-follow_tie.true) done.marker
    done.gray done.words (done.marked c.if-follow_tie.true)

pub loop-handle-preserved : goal.loop-handle-preserved
loop-handle-preserved c =
    let rows = c.args.types.now in
    let h = c.args.heap.now in
    let m = c.args.self.now in
    let handles = c.args.handles.now in
    let closed = c.requires.gray.closed in
    let done = c.follow_tie.ensures in
    let next = tying_not_due rows h c.loop-handle.heap m c.loop-handle.self handles c.loop-handle.ahead
    c.loop-handle.marked closed.heap closed.held c.requires.handles c.loop-handle.invariant
    c.lowest_condemned-low.result c.lowest_condemned-low.ensures.below c.next.new.self c.in-Some.handle
    c.in-Some.ensures.taken (sym done.due ∙ c.if-follow_tie.false) in
    rw (done.marker, done.same c.if-follow_tie.false) next

pub returns-clause-followed : goal.returns-clause-followed
returns-clause-followed c =
    let closed = c.requires.gray.closed in
    tying_ends c.args.types.now c.args.heap.now c.loop-handle.heap c.args.self.now c.loop-handle.self
    c.args.handles.now c.loop-handle.ahead c.loop-handle.marked closed.heap closed.held c.requires.handles
    c.loop-handle.invariant c.lowest_condemned-low.result c.lowest_condemned-low.ensures.below
    c.in_default.ensures.below c.in_default.ensures.none
