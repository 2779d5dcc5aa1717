-- The front of a free item is taken: its words are cleared, and what is left of the item is made free first, where
-- something is.
use Rattle.std.proofs.Common.{◌≡◌, ◌⊎◌, inl, inr, ℕ, ◌+◌, ◌-◌, ◌%◌, ◌<◌, ◌≤◌, ◌==◌, Bool, true, false, [], ◌∷◌}
use Rattle.std.proofs.Common.{filter, refl, ap, sym, ◌∙◌, subst, arith, if◌then◌else◌, leb, ltb, ◌&&◌}
use Rattle.std.proofs.lemmas.Bool.{eq-eqb, le-leb, le-ltb, lt-leb, lt-ltb, ne_eqb}
use Rattle.clr_types.specs.Types.{mt_of}
use Rattle.clr_types.specs.Ranges.{Piece, piece_end, range_piece}
use Rattle.clr_heap.specs.Memories.{clears, shapes}
use Rattle.clr_heap.specs.Parts.{free_item, item_part, items_in}
use Rattle.clr_heap.specs.View.{freed, HasHead, HeapView, SameShape, word_of}
use Rattle.clr_heap.proofs.Placing.{Placed, placed_leaves}
use Rattle.clr_heap.proofs.Swaps.{free_parts}
use Rattle.clr_view.specs.View.{free_among, HaveFreeHeads, is_object, IsFreeHead}
use Rattle.clr_view.proofs.FreeHeads.{heads_none, heads_one}

-- ---- words that are cleared

pub wiped_in : (a n : ℕ) (old : ℕ → ℕ) (b : ℕ) → a ≤ b → b < a + n → clears a n old b ≡ 0
wiped_in a n old b low high = let t = le-leb a b low in let u = lt-ltb b (a + n) high in rw (t, u) refl

pub wiped_out : (a n : ℕ) (old : ℕ → ℕ) (b : ℕ) → (b < a) ⊎ (a + n ≤ b) → clears a n old b ≡ old b
wiped_out a n old b out = elim out [
  | inl low ↦ let t = lt-leb a b low in rw t refl
  | inr high ↦ go (leb a b) high
]
  where
    go : (c : Bool) → a + n ≤ b → (if (c && ltb b (a + n)) then 0 else old b) ≡ old b
    go true high = let u = le-ltb b (a + n) high in rw u refl
    go false high = refl

-- ---- what is left

-- what is left of an item is made free, where something is
abbrev pub Carves : HeapView → Piece → ℕ → HeapView → Type 0
Carves h p n mid = ((n ≡ p.size) × (mid ≡ h)) ⊎ ((n < p.size) × (mid ≡ freed h (p.place + n) (p.size - n)))

pub carves_part : (h : HeapView) (p : Piece) (n low size : ℕ) (mid made : HeapView) → low ≡ p.place → size ≡ p.size
    → n < p.size → mid ≡ made → made ≡ freed h (low + n) (size - n) → Carves h p n mid
carves_part h p n low size mid made at all less is made_is =
    inr (less, is ∙ made_is ∙ (λ e. freed h (at e + n) (all e - n)))

-- what the words hold after that
pub record CarvedWords (h : HeapView) (p : Piece) (n : ℕ) (mid : HeapView) : Type 0 where
  pub shape : SameShape h mid
  pub header : n + 24 ≤ p.size → word_of mid (p.place + n - 8) ≡ 0
  pub head : n + 24 ≤ p.size → (word_of mid (p.place + n) ≡ mt_of 0)
      × (word_of mid (p.place + n + 8) ≡ p.size - n - 24)
  pub words : (b : ℕ) → b % 8 ≡ 0 → (b + 8 < p.place + n) ⊎ (piece_end p ≤ b + 8) → word_of mid b ≡ word_of h b

pub carved : (h : HeapView) (p : Piece) (n : ℕ) (mid : HeapView) → (n ≡ p.size) ⊎ (n + 24 ≤ p.size)
    → (n < p.size → HasHead h (p.place + n)) → Carves h p n mid → CarvedWords h p n mid
carved h p n mid cut head (inl (all, same)) = record {
  shape = record {
    memories = ap (λ (g : HeapView). shapes g.memories) same;
    others = same ∙ ap (λ (g : HeapView). record h { memories = g.memories }) (sym same);
  };
  header = λ more. absurd (omega arith);
  head = λ more. absurd (omega arith);
  words = λ b z out. ap (λ (g : HeapView). word_of g b) same;
}
carved h p n mid cut head (inr (l, made)) =
    let q : Placed [] h mid (p.place + n) 0 (p.size - n - 24) =
    subst (λ g. Placed [] h g (p.place + n) 0 (p.size - n - 24)) (sym made)
    (placed_leaves [] h (p.place + n) 0 (p.size - n - 24) (head l)) in
    let up = (head l).above in
    let left : n + 24 ≤ p.size = elim cut [ inl same ↦ omega arith | inr more ↦ more ] in
    record {
      shape = q.shape;
      header = λ more. q.header;
      head = λ more. (q.mt, q.len refl);
      words = λ b z out. q.others b z (λ same. elim out [ inl l ↦ omega arith | inr l ↦ omega arith ])
          (λ same. elim out [ inl l ↦ omega arith | inr l ↦ omega arith ])
          (λ same. elim out [ inl l ↦ omega arith | inr l ↦ omega arith ]);
    }

-- what is left of a range after a size that fits is a free item, or nothing
pub left_free : (mid high : ℕ) → (mid ≡ high) ⊎ (mid + 24 ≤ high)
    → free_among (items_in (free_parts mid high)) ≡ range_piece mid high
left_free mid high cut = elim cut [
  | inl same ↦ let hit = eq-eqb mid high same in let none = le-ltb mid high (omega arith) in rw (hit, none) refl
  | inr more ↦ let miss = ne_eqb mid high (λ same. omega arith) in let some = lt-ltb mid high (omega arith) in
      rw (miss, some) refl
]

pub left_objects : (mid high : ℕ) → filter is_object (items_in (free_parts mid high)) ≡ []
left_objects mid high = go (mid == high)
  where
    go : (b : Bool) → filter is_object (items_in (if b then [] else item_part (free_item mid (high - mid)) ∷ [])) ≡ []
    go true = refl
    go false = refl

-- its head is that of free space
pub left_heads : (word : ℕ → ℕ) (mid high : ℕ) → (mid ≡ high) ⊎ (mid + 24 ≤ high)
    → (mid + 24 ≤ high → IsFreeHead word mid) → HaveFreeHeads word (items_in (free_parts mid high))
left_heads word mid high cut head = elim cut [
  | inl same ↦ let hit = eq-eqb mid high same in rw hit (heads_none word)
  | inr more ↦
      let miss = ne_eqb mid high (λ same. omega arith) in
      rw miss (heads_one word (free_item mid (high - mid)) (head more))
]
