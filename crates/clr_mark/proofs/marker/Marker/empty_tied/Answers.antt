use Rattle.std.proofs.Common.{◌≡◌, ℕ, ap, ap₂, sym, ◌∙◌, [], ◌∷◌, ◌++◌, List, subst, vec_capacity}
use Rattle.clr_types.specs.Rising.{first, IsIn}
use Rattle.clr_types.proofs.ListMembers.{append_right}
use Rattle.clr_mark.specs.TieLists.{LeadsBy}
use Rattle.clr_mark.specs.Waiting.{MarkerView}
use Rattle.clr_mark.proofs.EdgeLaws.{grayed_by-refl, grayed_by_next, stacked_by}
use Rattle.clr_mark.proofs.Held.{keeps_closed}
use Rattle.clr_mark.proofs.TieLaws.{ties_on, ties_stable}
use Rattle.clr_mark.proofs.marker.Marker.empty_tied.Goals as goal

pub loop-obj-init : goal.loop-obj-init
loop-obj-init c =
    grayed_by-refl c.args.types.now (LeadsBy c.args.types.now c.args.ties.now) c.args.heap.now c.args.self.now

pub follow_tied-requires : goal.follow_tied-requires
follow_tied-requires c =
    let rows = c.args.types.now in
    let g = c.loop-obj.invariant in
    let rest = c.pop.new.self.items in
    let stack : c.loop-obj.self.stack ≡ rest ++ c.in-Some.obj ∷ [] =
    sym (ap (λ (m : MarkerView). m.stack) c.self.view_is) ∙ c.in-Some.ensures.items in
    let on_stack = stacked_by rows (LeadsBy rows c.args.ties.now) c.args.heap.now c.loop-obj.heap c.args.self.now
    c.loop-obj.self g c.requires.stacked in
    let P : List ℕ → Type 0 = λ xs. IsIn c.in-Some.obj xs in
    record {
      closed = keeps_closed rows c.args.heap.now c.loop-obj.heap c.requires.closed.heap c.requires.closed.held
          g.marked.remarked c.requires.closed.named;
      marked = on_stack c.in-Some.obj (subst P (sym stack) (append_right rest first));
      ties = ties_on rows c.args.heap.now c.loop-obj.heap c.requires.closed.heap c.requires.closed.held
          g.marked.remarked c.args.ties.now c.requires.ties;
    }

pub loop-obj-preserved : goal.loop-obj-preserved
loop-obj-preserved c =
    let rows = c.args.types.now in
    let ties = c.args.ties.now in
    let popped : MarkerView = record {
      stack = c.pop.new.self.items;
      capacity = vec_capacity c.pop.new.self;
      ranges = c.self.inside.ranges;
      oldest = c.self.inside.oldest;
    } in
    let before : List ℕ → ℕ → MarkerView = λ xs n. record {
      stack = xs;
      capacity = n;
      ranges = c.self.inside.ranges;
      oldest = c.self.inside.oldest;
    } in
    let was : c.loop-obj.self ≡ record popped { stack = c.pop.new.self.items ++ c.in-Some.obj ∷ [] } =
    sym c.self.view_is ∙ ap₂ before c.in-Some.ensures.items (sym c.pop.ensures.capacity) in
    grayed_by_next rows (LeadsBy rows ties) (ties_stable rows ties) c.args.heap.now c.loop-obj.heap
    c.follow_tied.new.heap c.args.self.now c.loop-obj.self popped c.follow_tied.new.self c.in-Some.obj
    c.requires.closed c.loop-obj.invariant was c.follow_tied.ensures.grayed c.follow_tied.ensures.followed
