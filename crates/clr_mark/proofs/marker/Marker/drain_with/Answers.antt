-- What is listed is what the handles tie.
use Rattle.std.proofs.Common.{inl, sym, ap, subst, List}
use Rattle.clr_mark.specs.Ties.{Draws}
use Rattle.clr_mark.specs.TieLists.{ListsOpen}
use Rattle.clr_mark.specs.Waiting.{IsIdle, MarkerView}
use Rattle.clr_mark.proofs.Graying.{reached-refl}
use Rattle.clr_mark.proofs.TieDrains.{gray_fewer, listed_followed, listed_reached}
use Rattle.clr_mark.proofs.TieLists.{listed_stand}
use Rattle.clr_mark.proofs.Tying.{MarkedOrTied}
use Rattle.clr_mark.specs.declared.marker.listed.Tie.{Tie}
use Rattle.std.specs.List.Sorted.{IsNonDecreasingBy}
use Rattle.clr_mark.proofs.marker.Marker.drain_with.Goals.{After-as_slice}
use Rattle.clr_mark.proofs.marker.Marker.drain_with.Goals as goal

pub list_ties-requires : goal.list_ties-requires
list_ties-requires c = record {
  heap = c.requires.gray.closed.heap;
  held = c.requires.gray.closed.held;
  handles = c.requires.handles;
}

pub returns-then-not-list_ties-clause-reached : goal.returns-then-not-list_ties-clause-reached
returns-then-not-list_ties-clause-reached c =
    let rows = c.args.types.now in
    let h = c.args.heap.now in
    let g = c.args.self.now.oldest in
    reached-refl rows (Draws rows h c.args.handles.now g) (MarkedOrTied rows h c.args.handles.now g) h (λ x s. inl s)

-- the slice is the list
slice_lists : (c : After-as_slice) → ListsOpen c.args.heap.now c.args.handles.now c.args.self.now.oldest
    c.as_slice.result.now
slice_lists c =
    let P : List Tie → Type 0 = λ ts. ListsOpen c.args.heap.now c.args.handles.now c.args.self.now.oldest ts in
    subst P (sym c.as_slice.ensures.value) (c.list_ties.ensures.listed c.if-not-list_ties.false)

pub drain_tied-requires-clause-ties : goal.drain_tied-requires-clause-ties
drain_tied-requires-clause-ties c =
    let P : List Tie → Type 0 = λ ts. IsNonDecreasingBy (λ (t : Tie). t.primary) ts in
    let lists = slice_lists (goal.at.drain_tied-requires-clause-ties c).After-as_slice in
    record {
      stand = listed_stand c.args.types.now c.args.heap.now c.args.handles.now c.as_slice.result.now
          c.requires.handles lists.only;
      rise = subst P (sym c.as_slice.ensures.value) (c.list_ties.ensures.rise c.if-not-list_ties.false);
    }

pub returns-clause-gray : goal.returns-clause-gray
returns-clause-gray c = gray_fewer c.args.types.now c.as_slice.result.now c.drain_tied.new.heap
    c.drain_tied.new.self c.drain_tied.ensures.gray

pub returns-clause-reached : goal.returns-clause-reached
returns-clause-reached c =
    let closed = c.requires.gray.closed in
    listed_reached c.args.types.now c.as_slice.result.now c.args.heap.now c.drain_tied.new.heap c.args.self.now
    c.drain_tied.new.self c.args.handles.now closed.heap closed.held c.requires.handles
    (slice_lists (goal.at.returns-clause-reached c).After-as_slice) c.drain_tied.ensures.reached

pub returns-clause-followed : goal.returns-clause-followed
returns-clause-followed c = λ all.
    let closed = c.requires.gray.closed in
    let done = c.drain_tied.ensures in
    let P : MarkerView → Type 0 = λ m. IsIdle m in
    listed_followed c.args.types.now c.as_slice.result.now c.args.heap.now c.drain_tied.new.heap c.args.self.now
    c.drain_tied.new.self c.args.handles.now closed.heap closed.held c.requires.handles
    (slice_lists (goal.at.returns-clause-followed c).After-as_slice) done.reached done.gray
    (subst P (sym done.marker) c.requires.idle) (ap (λ (m : MarkerView). m.oldest) done.marker) done.old
