-- Counting the objects of parts, one part after the other.
use Rattle.std.proofs.Common.{◌≡◌, ℕ, zero, suc, ◌+◌, ◌^◌, ◌<◌, ◌≤◌, List, length, refl, sym, ap, ap₂, ◌∙◌}
use Rattle.std.proofs.Common.{arith, Bool, true, false, if◌then◌else◌}
use Rattle.clr_types.specs.Types.{TypeRow}
use Rattle.clr_heap.specs.View.{first_of, HeapView, IsHeap, last_of, segment_at}
use Rattle.clr_heap.proofs.Framing.{lawful_at}
use Rattle.clr_heap.proofs.Staying.{segment_order}
use Rattle.clr_moves.specs.Moves.{part_of, takes}
use Rattle.clr_moves.specs.declared.condemned.Condemned.{Condemned}
use Rattle.clr_plan.specs.Counts.{counts_between, counts_in, HasCounted, HaveCounted, no_counts, plus}
use Rattle.clr_plan.specs.declared.counts.Counts.{Counts}
use Rattle.clr_plan.proofs.Counting.{at_most_up, counted-whole, plus-none}

pub none-counted : (rows : List TypeRow) (h : HeapView) (g : Condemned) → HaveCounted rows h g 0 no_counts
none-counted rows h g = record {
  counts = refl;
  most = λ j l m. record { kept = omega arith; freed = omega arith };
}

module _ (rows : List TypeRow) (h : HeapView) (g : Condemned) (k : ℕ) (c : Counts) (s : HaveCounted rows h g k c) where
  -- a segment without a part adds nothing
  pub counted-over : takes g (segment_at h k) ≡ false → HaveCounted rows h g (k + 1) c
  counted-over off =
      let next : suc k ≡ k + 1 = omega arith in
      record {
        counts = s.counts ∙ sym (plus-none (counts_in rows h g k))
            ∙ sym (ap (λ (b : Bool). plus (counts_in rows h g k)
            (if b then counts_between rows h k (part_of h g k) (last_of h k) else no_counts)) off)
            ∙ ap (counts_in rows h g) next;
        most = λ j l m. s.most j (omega arith) m;
      }

  -- a whole segment adds its objects
  pub counted-by : IsHeap h → k < length h.segments → takes g (segment_at h k) ≡ true → part_of h g k ≡ first_of h k
      → first_of h k ≤ last_of h k → (more : Counts)
      → HasCounted rows h k (last_of h k) (first_of h k) no_counts (last_of h k) more
      → HaveCounted rows h g (k + 1) (plus c more)
  counted-by heap inside on start up more counted =
      let (is, kept, freed) = counted-whole rows h k (last_of h k) (first_of h k) more counted in
      let next : suc k ≡ k + 1 = omega arith in
      let few = s.most k (omega arith) inside in
      let a = few.kept in
      let b = few.freed in
      record {
        counts = ap₂ plus s.counts (is ∙ ap (λ (n : ℕ). counts_between rows h k n (last_of h k)) (sym start))
            ∙ sym (ap (λ (b : Bool). plus (counts_in rows h g k)
            (if b then counts_between rows h k (part_of h g k) (last_of h k) else no_counts)) on)
            ∙ ap (counts_in rows h g) next;
        most = λ j l m.
            let high = (lawful_at h k heap inside).high in
            let order = segment_order h k j heap (omega arith) m in
            at_most_up (plus c more) (last_of h k) (first_of h j) (omega (arith, high, order))
            (record { kept = omega (arith, a, kept); freed = omega (arith, b, freed) });
      }

  -- the sum stays far below what a word holds
  pub counted-fits : IsHeap h → k < length h.segments → (more : Counts)
      → HasCounted rows h k (last_of h k) (first_of h k) no_counts (last_of h k) more → last_of h k ≤ 2 ^ 62
      → (c.kept + more.kept < 2 ^ 64) × (c.freed + more.freed < 2 ^ 64)
  counted-fits heap inside more counted high =
      let (is, kept, freed) = counted-whole rows h k (last_of h k) (first_of h k) more counted in
      let few = s.most k (omega arith) inside in
      let a = few.kept in
      let b = few.freed in
      (omega (arith, a, kept, high), omega (arith, b, freed, high))

-- segments that have no part add nothing
pub counts-over : (rows : List TypeRow) (h : HeapView) (g : Condemned) (from n : ℕ)
    → ((t : ℕ) → from ≤ t → t < from + n → takes g (segment_at h t) ≡ false)
    → counts_in rows h g (from + n) ≡ counts_in rows h g from
counts-over rows h g from zero off = let none : from + 0 ≡ from = omega arith in ap (counts_in rows h g) none
counts-over rows h g from (suc n) off =
    let next : from + suc n ≡ suc (from + n) = omega arith in
    ap (counts_in rows h g) next
    ∙ ap (λ (b : Bool). plus (counts_in rows h g (from + n)) (if b
    then counts_between rows h (from + n) (part_of h g (from + n)) (last_of h (from + n)) else no_counts))
    (off (from + n) (omega arith) (omega arith))
    ∙ plus-none (counts_in rows h g (from + n))
    ∙ counts-over rows h g from n (λ t l m. off t l (omega (arith, m)))
