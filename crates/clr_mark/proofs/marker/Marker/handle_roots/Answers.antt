use Rattle.std.proofs.Common.{◌≡◌, ◌∙◌, ◌<◌, inl, inr, sym, subst, ℕ, true, arith}
use Rattle.clr_mark.specs.Markings.{HasMarked}
use Rattle.clr_mark.specs.Ties.{IsCondemnedTarget, is_root_handle}
use Rattle.clr_mark.proofs.Remarking.{keeps_stands}
use Rattle.clr_mark.proofs.Rooting.{AfterRoots, rooting_ends, rooting_followed, rooting_skip, rooting_starts}
use Rattle.clr_mark.proofs.TargetRoots.{IsVisited, no_root_target, none_added, root_target, target_all_visited}
use Rattle.clr_mark.proofs.TargetRoots.{target_stands, target_visits}
use Rattle.clr_mark.proofs.marker.Marker.handle_roots.Goals.{After-drain_slots-2}
use Rattle.clr_mark.proofs.marker.Marker.handle_roots.Goals as goal

pub loop-handle-init : goal.loop-handle-init
loop-handle-init c = record {
  rooting = rooting_starts c.args.types.now c.args.heap.now c.args.self.now
      (IsCondemnedTarget c.args.handles.now c.args.heap.now c.args.self.now.oldest) (IsVisited c.args.handles.now _)
      c.requires.gray (λ y s v. let none : v.number < 0 = v.behind in omega arith);
  known = c.none-known.ensures c.args.types.now;
}

pub follow_root-known-requires-clause-object : goal.follow_root-known-requires-clause-object
follow_root-known-requires-clause-object c =
    let rows = c.args.types.now in
    let h = c.args.heap.now in
    let closed = c.requires.gray.closed in
    let taken = c.in-Some.ensures.taken in
    let row = c.in-Some.handle in
    keeps_stands rows h c.loop-handle.heap closed.heap closed.held
    c.loop-handle.invariant.rooting.reached.remarked row.target
    (target_stands rows h c.args.handles.now c.requires.handles row.target
    (root_target c.args.handles.now taken.number row taken.in_use
    (sym c.is_root_handle.ensures ∙ c.if-is_root_handle.true)))

pub loop-handle-preserved-then-is_root_handle : goal.loop-handle-preserved-then-is_root_handle
loop-handle-preserved-then-is_root_handle c =
    let rows = c.args.types.now in
    let h = c.args.heap.now in
    let m = c.args.self.now in
    let handles = c.args.handles.now in
    let low = c.lowest_condemned-low.result in
    let closed = c.requires.gray.closed in
    let taken = c.in-Some.ensures.taken in
    let row = c.in-Some.handle in
    let root : is_root_handle row ≡ true = sym c.is_root_handle.ensures ∙ c.if-is_root_handle.true in
    let f = c.follow_root-known in
    let drained = subst (λ (b : ℕ). HasMarked rows b f.new.heap c.drain_if_full.new.heap) f.ensures.oldest
    c.drain_if_full.ensures.marked in
    record {
      rooting = rooting_followed rows h c.loop-handle.heap m c.loop-handle.self (IsCondemnedTarget handles h m.oldest)
          (IsVisited handles c.loop-handle.ahead) closed.heap closed.held c.loop-handle.invariant.rooting
          (IsVisited handles c.next.new.self) f.new.heap c.drain_if_full.new.heap c.drain_if_full.new.self row.target
          (λ near. record { target = root_target handles taken.number row taken.in_use root; condemned = near })
          (λ y s. s.condemned)
          (λ y s v. elim (target_visits h handles m.oldest low c.lowest_condemned-low.ensures.below c.loop-handle.ahead
          c.next.new.self row taken y s v) [ inl before ↦ inl before | inr is ↦ inr (sym is.1) ])
          f.ensures.rooted drained c.drain_if_full.ensures.gray
          (c.drain_if_full.ensures.capacity ∙ f.ensures.capacity)
          (c.drain_if_full.ensures.oldest ∙ f.ensures.oldest);
      known = f.ensures.known;
    }

pub loop-handle-preserved : goal.loop-handle-preserved
loop-handle-preserved c =
    let h = c.args.heap.now in
    let m = c.args.self.now in
    let handles = c.args.handles.now in
    let closed = c.requires.gray.closed in
    let row = c.in-Some.handle in
    let none = sym c.is_root_handle.ensures ∙ c.if-is_root_handle.false in
    record {
      rooting = rooting_skip c.args.types.now h c.loop-handle.heap m c.loop-handle.self
          (IsCondemnedTarget handles h m.oldest) (IsVisited handles c.loop-handle.ahead) closed.heap closed.held
          c.loop-handle.invariant.rooting (IsVisited handles c.next.new.self)
          (λ y s v. elim (target_visits h handles m.oldest c.lowest_condemned-low.result
          c.lowest_condemned-low.ensures.below c.loop-handle.ahead c.next.new.self row c.in-Some.ensures.taken y s v) [
            | inl before ↦ before
            | inr is ↦ absurd (no_root_target row y none is.0 is.1 s.target.not_null)
          ]);
      known = c.loop-handle.invariant.known;
    }

ends : (c : After-drain_slots-2) → AfterRoots c.args.types.now c.args.heap.now c.loop-handle.heap c.args.self.now
    c.loop-handle.self (IsCondemnedTarget c.args.handles.now c.args.heap.now c.args.self.now.oldest)
    (IsVisited c.args.handles.now c.loop-handle.ahead) c.requires.gray.closed.heap c.requires.gray.closed.held
    c.loop-handle.invariant.rooting c.drain_slots-2.new.heap
ends c =
    let h = c.args.heap.now in
    let m = c.args.self.now in
    let handles = c.args.handles.now in
    let closed = c.requires.gray.closed in
    rooting_ends c.args.types.now h c.loop-handle.heap m c.loop-handle.self (IsCondemnedTarget handles h m.oldest)
    (IsVisited handles c.loop-handle.ahead) closed.heap closed.held c.loop-handle.invariant.rooting
    c.drain_slots-2.new.heap
    (target_all_visited h handles m.oldest c.lowest_condemned-low.result c.lowest_condemned-low.ensures.below
    c.loop-handle.ahead c.in_default.ensures.none) c.drain_slots-2.ensures.words c.drain_slots-2.ensures.marked

pub returns-clause-words : goal.returns-clause-words
returns-clause-words c = (ends c).words

pub returns-clause-marked : goal.returns-clause-marked
returns-clause-marked c = (ends c).marked

pub returns-then-not-are_any_held-clause-marked : goal.returns-then-not-are_any_held-clause-marked
returns-then-not-are_any_held-clause-marked c =
    none_added c.args.types.now c.args.heap.now c.drain_slots.new.heap c.args.handles.now c.args.self.now.oldest
    (c.are_any_held.ensures.strong c.if-not-are_any_held.true)
    (c.are_any_held.ensures.pinned c.if-not-are_any_held.true) c.drain_slots.ensures.marked
