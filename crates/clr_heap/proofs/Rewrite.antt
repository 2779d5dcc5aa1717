-- Words of a segment that are written over: what keeps its shape, and what keeps its parts.
use Rattle.std.proofs.Common.{◌≡◌, inl, inr, ℕ, ◌+◌, ◌%◌, ◌<◌, ◌≤◌, List, [], ◌∷◌, refl, ap, sym, ◌∙◌, subst, subst₂}
use Rattle.std.proofs.Common.{arith, Option}
use Rattle.clr_types.specs.Types.{TypeRow}
use Rattle.clr_types.specs.Ranges.{Piece}
use Rattle.clr_types.specs.declared.item.Item.{Item}
use Rattle.clr_heap.specs.Memories.{store_in}
use Rattle.clr_heap.specs.Parts.{Among, Part, item_part, rest_part, Sight, Spells, unmarked}
use Rattle.clr_heap.specs.View.{HasParts, first_of, HeapView, holes_of, IsHeap, IsWalkable, last_of, parts_of}
use Rattle.clr_heap.specs.View.{SameShape, sight, stored, word_of}
use Rattle.clr_heap.proofs.Storing.{shapes-store_in, memory_index-shapes, length-shapes}
use Rattle.clr_heap.proofs.Spelling.{AgreesAt, AgreesOn, item_size, Spells-agrees, with_words}
use Rattle.clr_heap.proofs.Walking.{CanWalk-from, spelled_parts}

-- a write keeps the shape
pub SameShape-stored : (old now : HeapView) (a v : ℕ) → SameShape old now → SameShape old (stored now a v)
SameShape-stored old now a v h = record {
  memories = shapes-store_in now.memories a v ∙ h.memories;
  others = ap (λ (g : HeapView). record g { memories = store_in now.memories a v }) h.others;
}

pub SameShape-refl : (h : HeapView) → SameShape h h
SameShape-refl h = record { memories = refl; others = refl }

-- a heap stays lawful where words alone change
pub shaped_heap : (old now : HeapView) → SameShape old now → IsHeap old → IsHeap now
shaped_heap old now shape heap = subst IsHeap (sym shape.others) (record {
  memories = shape.memories ∙ heap.memories;
  segments = heap.segments;
  highest = heap.highest;
  disjoint = heap.disjoint;
  below_top = heap.below_top;
  one_ephemeral = heap.one_ephemeral;
  ephemeral_last = heap.ephemeral_last;
  top_aligned = heap.top_aligned;
  top_small = heap.top_small;
  within_limit = heap.within_limit;
  limit_small = heap.limit_small;
  threads = heap.threads;
})

pub holes_same : (old now : HeapView) (k : ℕ) → SameShape old now → holes_of now k ≡ holes_of old k
holes_same old now k h = ap (λ (g : HeapView). holes_of g k) h.others

pub has_parts : (rows : List TypeRow) (old new : HeapView) (k : ℕ) (ps : List Part) → IsWalkable rows old k
    → SameShape old new
    → Spells (with_words (sight rows old k) (word_of new)) (first_of old k) ps (last_of old k)
    → HasParts rows old new k ps
has_parts rows old new k ps c shape h =
    let first : first_of new k ≡ first_of old k = ap (λ (g : HeapView). first_of g k) shape.others in
    let last : last_of new k ≡ last_of old k = ap (λ (g : HeapView). last_of g k) shape.others in
    let seen : sight rows new k ≡ with_words (sight rows old k) (word_of new) =
    ap (λ (hs : List (Option Piece)). record { rows = rows; word = word_of new; holes = hs })
    (holes_same old new k shape) in
    let P : Sight → Type 0 = λ s. Spells s (first_of old k) ps (last_of old k) in
    let spells : Spells (sight rows new k) (first_of old k) ps (last_of old k) = subst P (sym seen) h in
    let Q : ℕ → ℕ → Type 0 = λ p e. Spells (sight rows new k) p ps e in
    let moved : Spells (sight rows new k) (first_of new k) ps (last_of new k) =
    subst₂ Q (sym first) (sym last) spells in
    record {
      shape = shape;
      walkable =
          CanWalk-from (sight rows new k) new.memories ps (first_of new k) (last_of new k) (rw first c.start) moved
          (λ a z low high. let held = c.held a z (let l : first_of old k ≤ a + 8 = rw first at low in l)
          (let l : a + 8 < last_of old k = rw last at high in l) in
          rw (
            memory_index-shapes new.memories old.memories a shape.memories,
            length-shapes new.memories old.memories shape.memories,
          ) held);
      parts = spelled_parts (sight rows new k) ps (first_of new k) (last_of new k) moved;
    }

-- ---- a rewriting that keeps the heads keeps the parts

AgreesOn-from : (s : Sight) (w : ℕ → ℕ) (ps : List Part)
    → ((i : Item) → Among ps (item_part i) → AgreesAt s.rows s.word w i.place) → AgreesOn s w ps
AgreesOn-from s w [] h = tt
AgreesOn-from s w (item_part i ∷ ps) h = (h i (inl refl), AgreesOn-from s w ps (λ j k. h j (inr k)))
AgreesOn-from s w (rest_part lo hi ∷ ps) h = AgreesOn-from s w ps (λ j k. h j (inr k))

-- every word of new is what f makes of the word of old
abbrev pub Rewrites : (ℕ → ℕ → ℕ) → (ℕ → ℕ) → (ℕ → ℕ) → Type 0
Rewrites f old new = (a : ℕ) → a % 8 ≡ 0 → new a ≡ f a (old a)

-- f leaves the head of an item
pub record KeepsHead (f : ℕ → ℕ → ℕ) (old : ℕ → ℕ) (a : ℕ) : Type 0 where
  pub mt : unmarked (f a (old a)) ≡ unmarked (old a)
  pub len : f (a + 8) (old (a + 8)) ≡ old (a + 8)

pub aligned_among : (s : Sight) (ps : List Part) (i : Item) (p e : ℕ) → p % 8 ≡ 0 → Spells s p ps e
    → Among ps (item_part i) → (i.place % 8 ≡ 0) × (24 ≤ i.size)
aligned_among s [] i p e z h k = absurd k
aligned_among s (item_part j ∷ ps) i p e z h k =
    let f = item_size s j p h.1 h.2 in
    elim k [
      | inl here ↦
          let same : j ≡ i = cc in
          let P : Item → Type 0 = λ x. (x.place % 8 ≡ 0) × (24 ≤ x.size) in
          subst P same (omega arith, f.0)
      | inr after ↦ aligned_among s ps i (p + j.size) e (omega arith) h.3 after
    ]
aligned_among s (rest_part lo hi ∷ ps) i p e z h k = elim k [
  | inl here ↦ absurd (cc)
  | inr after ↦ aligned_among s ps i hi e h.3 h.4 after
]

pub Spells-rewrites : (f : ℕ → ℕ → ℕ) (s : Sight) (w : ℕ → ℕ) (ps : List Part) (p e : ℕ) → p % 8 ≡ 0 → Spells s p ps e
    → Rewrites f s.word w
    → ((i : Item) → Among ps (item_part i) → KeepsHead f s.word i.place) → Spells (with_words s w) p ps e
Spells-rewrites f s w ps p e z h r keeps =
    Spells-agrees s w ps p e (AgreesOn-from s w ps (λ i k.
    let a = aligned_among s ps i p e z h k in
    let g = keeps i k in
    record {
      mt = ap unmarked (r i.place a.0) ∙ g.mt;
      len = λ _. r (i.place + 8) (omega arith) ∙ g.len;
    })) h

-- a rewriting that keeps the heads keeps the parts of the segment
pub rewriting_keeps : (f : ℕ → ℕ → ℕ) (rows : List TypeRow) (k : ℕ) (old new : HeapView) → IsWalkable rows old k
    → SameShape old new → Rewrites f (word_of old) (word_of new)
    → ((i : Item) → Among (parts_of rows old k) (item_part i) → KeepsHead f (word_of old) i.place)
    → HasParts rows old new k (parts_of rows old k)
rewriting_keeps f rows k old new c shape r keeps =
    has_parts rows old new k (parts_of rows old k) c shape
    (Spells-rewrites f (sight rows old k) (word_of new) (parts_of rows old k) (first_of old k)
    (last_of old k) c.start c.spelled r keeps)
