-- A heap before a birth, by what the birth leaves.
use Rattle.std.proofs.Common.{◌≡◌, inl, inr, ℕ, ◌+◌, ◌-◌, List, ap, sym, subst}
use Rattle.std.proofs.lemmas.Bool.{cases_Bool}
use Rattle.std.proofs.lemmas.List.{length-set}
use Rattle.clr_types.specs.Segments.{rest_of}
use Rattle.clr_types.specs.Types.{form_at, is_array, mt_of, size_of, TypeRow}
use Rattle.clr_heap.specs.View.{frame, HeapView, IsHeap, placed, rest_between, SameShape, stored}
use Rattle.clr_heap.proofs.Rewrite.{SameShape-refl, SameShape-stored}
use Rattle.clr_model.specs.Allocation.{context_front, rest_end}
use Rattle.clr_view.specs.Births.{with_newborn}
use Rattle.clr_view.proofs.Born.{heap-rested}

-- a head that is written changes words alone
SameShape-placed : (rows : List TypeRow) (h : HeapView) (a t n : ℕ) → SameShape h (placed rows h a t n)
unfolding placed
SameShape-placed rows h a t n =
    let h1 = stored h (a - 8) 0 in
    let h2 = stored h1 a (mt_of t) in
    let shape2 = SameShape-stored h h1 a (mt_of t) (SameShape-stored h h (a - 8) 0 (SameShape-refl h)) in
    elim (cases_Bool (is_array (form_at rows t))) [
      | inl some_len ↦ rw some_len (SameShape-stored h h2 (a + 8) n shape2)
      | inr no_len ↦ rw no_len shape2
    ]

-- where a birth leaves a heap, one was there before
pub heap-before : (rows : List TypeRow) (old new : HeapView) (thread t n : ℕ) → IsHeap new
    → new ≡ with_newborn rows old thread t n → IsHeap old
heap-before rows old new thread t n heap is =
    let front = context_front (frame old) thread in
    let rest = rest_between (front + size_of (form_at rows t) n) (rest_end (rest_of (frame old) thread)) in
    let born = with_newborn rows old thread t n in
    let shape = SameShape-placed rows old front t n in
    let back : SameShape born (record old { rests = born.rests }) = record {
      memories = sym shape.memories;
      others = ap (λ (g : HeapView). record g { memories = old.memories; rests = born.rests }) (sym shape.others);
    } in
    heap-rested born (record old { rests = born.rests }) old.rests (subst IsHeap is heap) back
    (sym (length-set old.rests (thread - 1) rest))
