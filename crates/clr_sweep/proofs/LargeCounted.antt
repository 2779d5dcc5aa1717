-- Counting the large segments, one after the other.
use Rattle.std.proofs.Common.{◌≡◌, ℕ, suc, ◌+◌, ◌^◌, ◌<◌, ◌≤◌, Bool, true, false, List, refl, ap, sym, ◌∙◌, arith}
use Rattle.std.proofs.Common.{inl, inr, length, if◌then◌else◌}
use Rattle.std.proofs.lemmas.Bool.{cases_Bool}
use Rattle.clr_types.specs.Types.{TypeRow}
use Rattle.clr_heap.specs.View.{first_of, HeapView, IsHeap, last_of, listing, no_rests}
use Rattle.clr_heap.proofs.Framing.{lawful_at}
use Rattle.clr_heap.proofs.Staying.{segment_order}
use Rattle.clr_view.specs.View.{IsHeld}
use Rattle.clr_sweep.specs.Passes.{IsAtMost, no_tally, plus}
use Rattle.clr_sweep.specs.SweptItems.{tally_among}
use Rattle.clr_sweep.specs.SweptLarge.{is_large, large_tally}
use Rattle.clr_sweep.specs.declared.tally.Tally.{Tally}
use Rattle.clr_sweep.proofs.MoreSwept.{whole_part}
use Rattle.clr_sweep.proofs.PassEnds.{home_is}
use Rattle.clr_sweep.proofs.Tallies.{at_most_up, plus-none}

-- the large ones below segment k are counted
pub record HaveCountedLarge (rows : List TypeRow) (h : HeapView) (k : ℕ) (tally : Tally) : Type 0 where
  pub within : k ≤ length h.segments
  pub counts : tally ≡ large_tally rows h k
  pub counted : (j : ℕ) → k ≤ j → j < length h.segments → IsAtMost tally (first_of h j)
  pub few : IsAtMost tally (2 ^ 62)

pub no_large_counted : (rows : List TypeRow) (h : HeapView) → HaveCountedLarge rows h 0 no_tally
no_large_counted rows h = record {
  within = omega arith;
  counts = refl;
  counted = λ j l m. record {
    kept = omega arith;
    freed = omega arith;
    promoted1 = omega arith;
    promoted2 = omega arith;
  };
  few = record { kept = omega arith; freed = omega arith; promoted1 = omega arith; promoted2 = omega arith };
}

pub more_large_counted : (rows : List TypeRow) (h : HeapView) (k : ℕ) (tally more : Tally) → IsHeap h → IsHeld rows h
    → h.rests ≡ no_rests → k < length h.segments → HaveCountedLarge rows h k tally
    → (is_large h k ≡ true → more ≡ plus tally (tally_among h (listing rows h k)))
    → (is_large h k ≡ false → more ≡ tally) → IsAtMost more (last_of h k) → HaveCountedLarge rows h (k + 1) more
more_large_counted rows h k tally more heap held none inside s large small most =
    let next : suc k ≡ k + 1 = omega arith in
    let adds : more ≡ plus tally (if is_large h k then tally_among h (listing rows h k) else no_tally) =
    elim (cases_Bool (is_large h k)) [
      | inl on ↦ large on
          ∙ sym (ap (λ (b : Bool). plus tally (if b then tally_among h (listing rows h k) else no_tally)) on)
      | inr off ↦ small off ∙ sym (plus-none tally)
          ∙ sym (ap (λ (b : Bool). plus tally (if b then tally_among h (listing rows h k) else no_tally)) off)
    ] in
    let home = home_is rows h k heap (first_of h k) inside (whole_part rows h k (held.walkable k inside)) none in
    record {
      within = omega arith;
      counts = adds
          ∙ ap (λ (t : Tally). plus t (if is_large h k then tally_among h (listing rows h k) else no_tally)) s.counts
          ∙ ap (large_tally rows h) next;
      counted = λ j above l.
          let high = (lawful_at h k heap inside).high in
          let order = segment_order h k j heap (omega arith) l in
          at_most_up more (last_of h k) (first_of h j) (omega (arith, high, order)) most;
      few = at_most_up more (last_of h k) (2 ^ 62) home.high most;
    }
