-- Single words written into a segment: what `set_word` leaves of the parts.
use Rattle.std.proofs.Common.{◌≡◌, ◌≢◌, ◌⊎◌, inl, inr, ℕ, ◌+◌, ◌%◌, ◌<◌, ◌≤◌, true, List, ap, sym, arith}
use Rattle.clr_types.specs.Types.{TypeRow, is_array, form_at}
use Rattle.clr_types.specs.declared.item.Item.{Item}
use Rattle.clr_heap.specs.Memories.{HasWord}
use Rattle.clr_heap.specs.Parts.{Among, item_part, type_number, unmarked}
use Rattle.clr_heap.specs.View.{first_of, HasParts, HeapView, IsWalkable, last_of, parts_of, sight, stored, word_of}
use Rattle.clr_heap.proofs.Storing.{word_in-store_in_other}
use Rattle.clr_heap.proofs.Spelling.{AgreesAt, Among-bounds, OnlyAt, Spells-same, Spells-write}
use Rattle.clr_heap.proofs.Rewrite.{aligned_among, has_parts, SameShape-refl, SameShape-stored}

only_there : (h : HeapView) (a v : ℕ) → a % 8 ≡ 0 → OnlyAt (word_of h) (word_of (stored h a v)) a
only_there h a v z b zb ne = word_in-store_in_other h.memories a v b z zb ne

-- a word of an item that isn't in its head: its header, a slot, or what a free item holds
pub stored_in_item : (rows : List TypeRow) (h : HeapView) (k : ℕ) (i : Item) (a v : ℕ) → IsWalkable rows h k
    → Among (parts_of rows h k) (item_part i) → a % 8 ≡ 0 → i.place ≤ a + 8 → a + 8 < i.place + i.size → a ≢ i.place
    → (is_array (form_at rows (type_number (word_of h i.place))) ≡ true → a ≢ i.place + 8)
    → HasParts rows h (stored h a v) k (parts_of rows h k)
stored_in_item rows h k i a v w m z low high ne len =
    let al = aligned_among (sight rows h k) (parts_of rows h k) i (first_of h k) (last_of h k) w.start w.spelled m in
    let there = only_there h a v z in
    let head : AgreesAt rows (word_of h) (word_of (stored h a v)) i.place = record {
      mt = ap unmarked (there i.place al.0 (λ same. ne (sym same)));
      len = λ has. there (i.place + 8) (omega arith) (λ same. len has (sym same));
    } in
    has_parts rows h (stored h a v) k (parts_of rows h k) w (SameShape-stored h h a v (SameShape-refl h))
    (Spells-write (sight rows h k) (word_of (stored h a v)) a (item_part i) (parts_of rows h k) (first_of h k)
    (last_of h k) w.start there w.spelled m low high head)

-- a word outside the segment's cells
pub stored_elsewhere : (rows : List TypeRow) (h : HeapView) (k a v : ℕ) → IsWalkable rows h k → a % 8 ≡ 0
    → (a + 8 < first_of h k) ⊎ (last_of h k ≤ a + 8) → HasParts rows h (stored h a v) k (parts_of rows h k)
stored_elsewhere rows h k a v w z out =
    has_parts rows h (stored h a v) k (parts_of rows h k) w (SameShape-stored h h a v (SameShape-refl h))
    (Spells-same (sight rows h k) (word_of (stored h a v)) (parts_of rows h k) (first_of h k) (last_of h k) w.start
    (λ b zb low high. only_there h a v z b zb (λ same. elim out [ inl l ↦ omega arith | inr l ↦ omega arith ]))
    w.spelled)

-- the head of an item of the segment can be read and written
pub words_of_item : (rows : List TypeRow) (h : HeapView) (k : ℕ) (i : Item) → IsWalkable rows h k
    → Among (parts_of rows h k) (item_part i) → HasWord h.memories i.place × HasWord h.memories (i.place + 8)
words_of_item rows h k i w m =
    let al = aligned_among (sight rows h k) (parts_of rows h k) i (first_of h k) (last_of h k) w.start w.spelled m in
    let b =
    Among-bounds (sight rows h k) (parts_of rows h k) (item_part i) (first_of h k) (last_of h k) w.spelled m in (
      record { aligned = al.0; inside = w.held i.place al.0 (omega arith) (omega arith) },
      record { aligned = omega arith; inside = w.held (i.place + 8) (omega arith) (omega arith) (omega arith) },
    )
