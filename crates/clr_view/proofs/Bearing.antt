-- For the caller that makes an object: what a test of its context says, and what its writes leave.
use Rattle.std.proofs.Common.{◌≡◌, ◌⊎◌, inl, inr, ℕ, ◌+◌, ◌-◌, ◌^◌, ◌<◌, ◌≤◌, eqb, leb, true, List, [], ◌∷◌, ◌++◌, set}
use Rattle.std.proofs.Common.{Option, None, Some, refl, ap, sym, ◌∙◌, subst, subst₂, arith}
use Rattle.std.specs.Option.{option_map}
use Rattle.std.proofs.lemmas.Bool.{cases_Bool, eqb-true, leb-true}
use Rattle.std.proofs.lemmas.Option.{slice_get-get_or}
use Rattle.clr_types.specs.Types.{TypeRow, form_at, size_of}
use Rattle.clr_types.specs.Rising.{first, IsIn}
use Rattle.clr_types.proofs.ListMembers.{append_right}
use Rattle.clr_types.proofs.SortedLists.{into_sorted_by}
use Rattle.clr_types.specs.Ranges.{fits, Piece, piece_end}
use Rattle.clr_types.specs.Segments.{flat_option, rest_of}
use Rattle.clr_heap.specs.Memories.{memory_index}
use Rattle.clr_heap.specs.Parts.{IsMakeable}
use Rattle.clr_heap.specs.View.{frame, HasHead, HeapView, IsHeap, placed, rest_between, rest_bounds, word_of}
use Rattle.clr_heap.proofs.Framing.{below_top_at, lawful_at}
use Rattle.clr_model.specs.Allocation.{context_front, own_fits, rest_fits}
use Rattle.clr_model.specs.Machine.{Object}
use Rattle.clr_view.specs.View.{HasNewborn, IsHeld, newborn_at, objects_in}
use Rattle.clr_view.specs.SlotValues.{StandsAt}
use Rattle.clr_view.specs.Births.{with_newborn}
use Rattle.clr_view.proofs.Born.{born_at_front, front-is, grown, grown-is, heap-grown}
use Rattle.clr_view.proofs.Fronts.{bounds, cell-clear, FitsFront, head, hole, IsClearBehind, k, leaves}
use Rattle.clr_view.proofs.Fronts.{one-memory, up-to, young}

-- a size that fits fills the range or leaves 24 bytes
pub fits-is : (size bytes : ℕ) → fits size bytes ≡ true → (size ≡ bytes) ⊎ (size + 24 ≤ bytes)
fits-is size bytes e = elim (cases_Bool (eqb size bytes)) [
  | inl same ↦ inl (eqb-true size bytes same)
  | inr other ↦ let more : leb (size + 24) bytes ≡ true = rw other at e in inr (leb-true (size + 24) bytes more)
]

-- an object is asked for that fits at the front of a context
pub record IsAsked (rows : List TypeRow) (h : HeapView) (thread t n : ℕ) : Type 0 where
  pub heap : IsHeap h
  pub held : IsHeld rows h
  pub positive : 0 < thread
  pub few : thread ≤ 16
  pub item : IsMakeable rows t n
  pub object : 0 < t
  pub room : own_fits (frame h) thread (size_of (form_at rows t) n) ≡ true

-- The heap before a birth and after it: where the head is written, and that all else in the new object's cell is clear.
pub record IsBirth (rows : List TypeRow) (old new : HeapView) (thread t n : ℕ) : Type 0 where
  pub before : IsHeap old
  pub held : IsHeld rows old
  pub after : IsHeap new
  pub head : HasHead old (context_front (frame old) thread)
  pub born : HasNewborn rows old new thread t n
  pub words : new ≡ with_newborn rows old thread t n
  pub clear : IsClearBehind rows (word_of new) (context_front (frame old) thread) t n

module _ (rows : List TypeRow) (h : HeapView) (thread t n : ℕ) (asked : IsAsked rows h thread t n) where
  module _ (front end : ℕ) (found : Some (front, end) ≡ option_map rest_bounds (rest_of (frame h) thread)) where
    -- the context
    pub record IsFound : Type 0 where
      pub context : Piece
      pub front_is : front ≡ context.place
      pub end_is : end ≡ piece_end context
      pub fits_in : FitsFront rows h thread context t n

    context-found : IsFound
    context-found = go (rest_of (frame h) thread) refl asked.room found
      where
        go : (o : Option Piece) → rest_of (frame h) thread ≡ o → rest_fits o (size_of (form_at rows t) n) ≡ true
            → Some (front, end) ≡ option_map rest_bounds o → IsFound
        go None is room e = absurd cc
        go (Some r) is room e =
            let pos = asked.positive in
            let few = asked.few in
            let count = asked.heap.threads in
            let pair : (front, end) ≡ rest_bounds r = cc in
            record {
              context = r;
              front_is = ap (λ (b : ℕ × ℕ). b.0) pair;
              end_is = ap (λ (b : ℕ × ℕ). b.1) pair;
              fits_in = record {
                heap = asked.heap;
                held = asked.held;
                positive = asked.positive;
                few = asked.few;
                rest = sym (ap flat_option (slice_get-get_or h.rests (thread - 1) None (omega arith))) ∙ is;
                item = asked.item;
                object = asked.object;
                room = elim (fits-is (size_of (form_at rows t) n) r.size room) [
                  | inl l ↦ inl (omega arith)
                  | inr l ↦ inr (omega arith)
                ];
              };
            }

    abbrev r : Piece
    r = context-found.context

    abbrev f : FitsFront rows h thread r t n
    f = context-found.fits_in

    -- the head can be written
    pub front-head : HasHead h front
    front-head = subst (HasHead h) (sym context-found.front_is) (head rows h thread r t n f)

    -- all of it is in one memory
    pub front-memory : (b : ℕ) → front ≤ b + 8 → b ≤ front + 8 → memory_index h.memories (front - 8)
        ≡ memory_index h.memories b
    front-memory b low below =
        let at = context-found.front_is in
        let least = (hole rows h thread r t n f).least in
        let above = front-head.above in
        one-memory rows h thread r t n f (front - 8) (omega arith) (omega arith)
        ∙ sym (one-memory rows h thread r t n f b (omega arith) (omega arith))

    -- and far below the last address
    pub front-high : front + 8 < 2 ^ 64
    front-high =
        let at = context-found.front_is in
        let to = (bounds rows h thread r t n f).1 in
        let least = (hole rows h thread r t n f).least in
        let here = (young rows h thread r t n f).in_range in
        let in_segment = (lawful_at h (k rows h thread r t n f) asked.heap here).high in
        let top = below_top_at h (k rows h thread r t n f) asked.heap here in
        let small = asked.heap.top_small in
        omega arith

    -- the object ends within the context
    pub front-room : front + size_of (form_at rows t) n ≤ end
    front-room =
        let up = up-to rows h thread r t n f in
        let low = context-found.front_is in
        let high = context-found.end_is in
        omega arith

    pub front-place : front ≡ context_front (frame h) thread
    front-place = context-found.front_is ∙ sym (front-is rows h thread r t n f)

    -- the head is written, and then what is left of the context
    module _ (made new : HeapView) (size : ℕ) (size_is : size ≡ size_of (form_at rows t) n)
        (made_is : made ≡ placed rows h front t n)
        (new_is : new ≡ record made { rests = set made.rests (thread - 1) (rest_between (front + size) end) }) where
      new-grown : new ≡ grown rows h thread r t n f
      new-grown =
          let at = context-found.front_is in
          let high = context-found.end_is in
          let head_is : made ≡ placed rows h r.place t n = made_is ∙ ap (λ q. placed rows h q t n) at in
          let others = (leaves rows h thread r t n f).shape.others in
          new_is ∙ (λ i.
          record (head_is i) {
            rests = set (head_is i).rests (thread - 1) (rest_between (at i + size_is i) (high i));
          })
          ∙ ap (λ (g : HeapView).
          record (placed rows h r.place t n) {
            rests = set g.rests (thread - 1)
                (rest_between (r.place + size_of (form_at rows t) n) (piece_end r));
          }) others

      -- what it leaves is a heap
      front-heap : IsHeap new
      front-heap = subst IsHeap (sym new-grown) (heap-grown rows h thread r t n f)

      front-words : new ≡ with_newborn rows h thread t n
      front-words = new-grown ∙ sym (grown-is rows h thread r t n f)

      pub front-born : HasNewborn rows h new thread t n
      front-born = subst (λ g. HasNewborn rows h g thread t n) (sym new-grown) (born_at_front rows h thread r t n f)

      front-clear : IsClearBehind rows (word_of new) (context_front (frame h) thread) t n
      front-clear =
          subst₂ (λ (g : HeapView) (a : ℕ). IsClearBehind rows (word_of g) a t n) (sym new-grown)
          (sym (front-is rows h thread r t n f)) (cell-clear rows h thread r t n f)

      -- THE BIRTH
      pub front-birth : IsBirth rows h new thread t n
      front-birth = record {
        before = asked.heap;
        held = asked.held;
        after = front-heap;
        head = subst (HasHead h) front-place front-head;
        born = front-born;
        words = front-words;
        clear = front-clear;
      }

-- the new object is one of the heap's
pub born-listed : (rows : List TypeRow) (old new : HeapView) (thread t n : ℕ) → HasNewborn rows old new thread t n
    → IsIn (newborn_at rows (context_front (frame old) thread) t n) (objects_in rows new)
born-listed rows old new thread t n born =
    let o = newborn_at rows (context_front (frame old) thread) t n in
    let key : Object → ℕ = λ o. o.name in
    let last : IsIn o (objects_in rows old ++ o ∷ []) = append_right (objects_in rows old) first in
    subst (IsIn o) (sym born.objects) (into_sorted_by key o (objects_in rows old ++ o ∷ []) last)

-- and stands at the front of the context
pub born-stands : (rows : List TypeRow) (old new : HeapView) (thread t n : ℕ) → HasNewborn rows old new thread t n
    → StandsAt rows new (context_front (frame old) thread)
born-stands rows old new thread t n born =
    (newborn_at rows (context_front (frame old) thread) t n, born-listed rows old new thread t n born, refl)
