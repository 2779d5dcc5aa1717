-- Flags are cleared one after the other.
use Rattle.std.proofs.Common.{◌≡◌, ap, ◌∙◌, ◌++◌, ◌∷◌, [], ◌+◌, arith, length, suc, subst, sym, ℕ, take, get_or}
use Rattle.std.proofs.Common.{true≢false}
use Rattle.std.proofs.Math.Seq.{take-length, take-suc}
use Rattle.clr_heap.specs.View.{HeapView}
use Rattle.clr_mark.proofs.Rooting.{at_in}
use Rattle.clr_collect.specs.Collecting.{AllLeft, HasUnflagged}
use Rattle.clr_collect.proofs.ClearedFlags.{left_more, left_unflagged, stands_unflagged, unflagged_kept, unflagged_more}
use Rattle.clr_collect.proofs.ClearedFlags.{unflagged_none}
use Rattle.clr_collect.proofs.judging.clear_flags.Goals.{then-not-is_left, else-not-is_left}
use Rattle.clr_collect.proofs.judging.clear_flags.Goals as goal

pub loop-place-init : goal.loop-place-init
loop-place-init c = record {
  unflagged = unflagged_none c.args.types.now c.args.heap.now c.args.marker.now.oldest c.requires.heap
      c.requires.held;
  left = λ e x i. elim i [ ];
}

pub is_left-requires-clause-stands : goal.is_left-requires-clause-stands
is_left-requires-clause-stands c =
    let n = c.loop-place.place-index in
    stands_unflagged c.args.types.now c.args.heap.now c.loop-place.heap c.args.marker.now.oldest
    (take n c.args.places.now) c.loop-place.invariant.unflagged (get_or c.args.places.now n 0)
    (c.requires.places (get_or c.args.places.now n 0) (at_in c.args.places.now n 0 c.loop-place-test.true))

pub set_suppressed-requires-clause-stands : goal.set_suppressed-requires-clause-stands
set_suppressed-requires-clause-stands c =
    let n = c.loop-place.place-index in
    stands_unflagged c.args.types.now c.args.heap.now c.loop-place.heap c.args.marker.now.oldest
    (take n c.args.places.now) c.loop-place.invariant.unflagged (get_or c.args.places.now n 0)
    (c.requires.places (get_or c.args.places.now n 0) (at_in c.args.places.now n 0 c.loop-place-test.true))

pub loop-place-preserved : goal.loop-place-preserved
loop-place-preserved c =
    let n = c.loop-place.place-index in
    let rows = c.args.types.now in
    let old = c.args.heap.now in
    let g = c.args.marker.now.oldest in
    let done = take n c.args.places.now in
    let p = get_or c.args.places.now n 0 in
    let u = c.loop-place.invariant.unflagged in
    let next : n + 1 ≡ suc n = omega arith in
    let more = sym (ap (λ (k : ℕ). take k c.args.places.now) next
    ∙ take-suc c.args.places.now n 0 c.loop-place-test.true) in
    elim c.if-not-is_left.branch [
      | then-not-is_left w ↦
          record {
            unflagged =
                subst (HasUnflagged rows old c.if-not-is_left.heap g) more
                (subst (λ (h : HeapView). HasUnflagged rows old h g (done ++ p ∷ [])) (sym w.heap-is)
                (unflagged_more rows old g c.loop-place.heap w.set_suppressed.new.heap done p u
                (sym c.is_left.ensures ∙ w.if-not-is_left.true) w.set_suppressed.ensures.flagged
                w.set_suppressed.ensures.words
                (w.set_suppressed.ensures.clean (λ e. absurd (true≢false (sym e))))
                w.set_suppressed.ensures.free_heads));
            left = λ e x i. absurd (true≢false (sym w.any_dead-is ∙ e));
          }
      | else-not-is_left w ↦
          let stays = sym c.is_left.ensures ∙ w.if-not-is_left.false in
          record {
            unflagged =
                subst (HasUnflagged rows old c.if-not-is_left.heap g) more
                (subst (λ (h : HeapView). HasUnflagged rows old h g (done ++ p ∷ [])) (sym w.heap-is)
                (unflagged_kept rows old g c.loop-place.heap done p u stays));
            left = λ e. subst (AllLeft rows old g) more
                (left_more rows old g done p (c.loop-place.invariant.left (sym w.any_dead-is ∙ e))
                (sym (left_unflagged rows old c.loop-place.heap g done u p) ∙ stays));
          }
    ]

pub returns : goal.returns
returns c =
    let n = c.loop-place.place-index in
    let all : n ≡ length c.args.places.now =
    omega (arith, c.loop-place-test.false, c.loop-place.auto.place-index-end) in
    let whole = ap (λ (k : ℕ). take k c.args.places.now) all ∙ take-length c.args.places.now in
    record {
      unflagged = subst (HasUnflagged c.args.types.now c.args.heap.now c.loop-place.heap c.args.marker.now.oldest) whole
          c.loop-place.invariant.unflagged;
      left = λ e. subst (AllLeft c.args.types.now c.args.heap.now c.args.marker.now.oldest) whole
          (c.loop-place.invariant.left e);
    }
