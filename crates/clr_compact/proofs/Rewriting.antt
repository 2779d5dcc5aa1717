-- Words that a walk over the parts of a segment rewrites.
use Rattle.std.proofs.Common.{◌≡◌, ◌≢◌, ◌⊎◌, inl, inr, ℕ, ◌+◌, ◌%◌, ◌<◌, ◌≤◌, true, false, eqb, ltb, List, [], ◌∷◌}
use Rattle.std.proofs.Common.{refl, ap, sym, ◌∙◌, subst, arith}
use Rattle.std.proofs.lemmas.Bool.{cases_Bool, cases_lt, lt-ltb, le-ltb, ne_eqb, eq-eqb}
use Rattle.clr_types.specs.declared.item.Item.{Item}
use Rattle.clr_heap.specs.Parts.{Among, Part, item_part, rest_part, start_of, part_end, items_in, Sight, Spells}
use Rattle.clr_heap.specs.Parts.{unmarked}
use Rattle.clr_compact.specs.Rewrites.{is_place, DoneBelow, Rewrites, cleared}
use Rattle.clr_heap.proofs.Rewrite.{aligned_among, KeepsHead}
use Rattle.clr_heap.proofs.Spelling.{Among-bounds, item_size, Spells-le}

-- no item's place lies below the first part
pub is_place-below : (s : Sight) (ps : List Part) (p e a : ℕ) → Spells s p ps e → a < p
    → is_place (items_in ps) a ≡ false
is_place-below s [] p e a h l = refl
is_place-below s (item_part i ∷ ps) p e a h l =
    let f = item_size s i p h.1 h.2 in
    let other : eqb i.place a ≡ false = ne_eqb i.place a (λ same. omega arith) in
    let ih = is_place-below s ps (p + i.size) e a h.3 (omega arith) in
    rw (other, ih) refl
is_place-below s (rest_part lo hi ∷ ps) p e a h l = is_place-below s ps hi e a h.4 (omega arith)

-- nor past the last
pub is_place-past : (s : Sight) (ps : List Part) (p e a : ℕ) → Spells s p ps e → e ≤ a + 8
    → is_place (items_in ps) a ≡ false
is_place-past s [] p e a h l = refl
is_place-past s (item_part i ∷ ps) p e a h l =
    let f = item_size s i p h.1 h.2 in
    let b = Spells-le s ps (p + i.size) e h.3 in
    let other : eqb i.place a ≡ false = ne_eqb i.place a (λ same. omega arith) in
    let ih = is_place-past s ps (p + i.size) e a h.3 l in
    rw (other, ih) refl
is_place-past s (rest_part lo hi ∷ ps) p e a h l = is_place-past s ps hi e a h.4 l

-- nor elsewhere in the cell of a part
pub is_place-inside : (s : Sight) (ps : List Part) (m : Part) (p e a : ℕ) → Spells s p ps e → Among ps m
    → start_of m ≤ a + 8 → a + 8 < part_end m → a ≢ start_of m → is_place (items_in ps) a ≡ false
is_place-inside s [] m p e a h k lo hi ne = absurd k
is_place-inside s (item_part i ∷ ps) m p e a h k lo hi ne =
    let f = item_size s i p h.1 h.2 in
    elim k [
      | inl here ↦
          let high : a + 8 < i.place + i.size = let P : Part → Type 0 = λ x. a + 8 < part_end x in subst P here hi in
          let apart : a ≢ i.place = let P : Part → Type 0 = λ x. a ≢ start_of x in subst P here ne in
          let other : eqb i.place a ≡ false = ne_eqb i.place a (λ same. apart (sym same)) in
          let later = is_place-below s ps (p + i.size) e a h.3 (omega arith) in
          rw (other, later) refl
      | inr after ↦
          let b = Among-bounds s ps m (p + i.size) e h.3 after in
          let other : eqb i.place a ≡ false = ne_eqb i.place a (λ same. omega arith) in
          let ih = is_place-inside s ps m (p + i.size) e a h.3 after lo hi ne in
          rw (other, ih) refl
    ]
is_place-inside s (rest_part from to ∷ ps) m p e a h k lo hi ne = elim k [
  | inl here ↦
      let high : a + 8 < to = let P : Part → Type 0 = λ x. a + 8 < part_end x in subst P here hi in
      is_place-below s ps to e a h.4 (omega arith)
  | inr after ↦ is_place-inside s ps m to e a h.4 after lo hi ne
]

-- an item's place is one
pub is_place-of : (ps : List Part) (i : Item) → Among ps (item_part i) → is_place (items_in ps) i.place ≡ true
is_place-of [] i k = absurd k
is_place-of (item_part j ∷ ps) i k = elim k [
  | inl here ↦
      let same : i ≡ j = cc in
      let hit : eqb j.place i.place ≡ true = eq-eqb j.place i.place (ap (λ (x : Item). x.place) (sym same)) in
      rw hit refl
  | inr after ↦
      let ih = is_place-of ps i after in
      elim (cases_Bool (eqb j.place i.place)) [ inl hit ↦ rw hit refl | inr miss ↦ rw (miss, ih) refl ]
]
is_place-of (rest_part lo hi ∷ ps) i k = elim k [
  | inl here ↦ absurd (cc)
  | inr after ↦ is_place-of ps i after
]

-- one more part is done
pub done_more : (f : ℕ → ℕ → ℕ) (old now new : ℕ → ℕ) (p q : ℕ) → p ≤ q → DoneBelow f old now p
    → ((a : ℕ) → a % 8 ≡ 0 → p ≤ a + 8 → a + 8 < q → new a ≡ f a (old a))
    → ((a : ℕ) → a % 8 ≡ 0 → (a + 8 < p) ⊎ (q ≤ a + 8) → new a ≡ now a)
    → DoneBelow f old new q
done_more f old now new p q le d cell others a z = elim (cases_lt (a + 8) q) [
  | inl below ↦ elim (cases_lt (a + 8) p) [
    | inl early ↦
        let t = lt-ltb (a + 8) p early in
        let u = lt-ltb (a + 8) q below in
        let e = d a z in
        let e' : now a ≡ f a (old a) = rw t at e in
        rw u (others a z (inl early) ∙ e')
    | inr here ↦ let u = lt-ltb (a + 8) q below in rw u (cell a z here below)
  ]
  | inr past ↦
      let t : ltb (a + 8) p ≡ false = le-ltb (a + 8) p (omega arith) in
      let u = le-ltb (a + 8) q past in
      let e = d a z in
      let e' : now a ≡ old a = rw t at e in
      rw u (others a z (inr past) ∙ e')
]

-- at the end all is done, where f changes nothing past it
pub done_all : (f : ℕ → ℕ → ℕ) (old new : ℕ → ℕ) (e : ℕ) → DoneBelow f old new e
    → ((a : ℕ) → e ≤ a + 8 → f a (old a) ≡ old a) → Rewrites f old new
done_all f old new e d past a z = elim (cases_lt (a + 8) e) [
  | inl below ↦ let t = lt-ltb (a + 8) e below in let g = d a z in rw t at g
  | inr above ↦ let t = le-ltb (a + 8) e above in let g = d a z in let g' : new a ≡ old a = rw t at g in
      g' ∙ sym (past a above)
]

-- at the start nothing is done, where f changes nothing before it
pub done_none : (f : ℕ → ℕ → ℕ) (old : ℕ → ℕ) (p : ℕ) → ((a : ℕ) → a + 8 < p → f a (old a) ≡ old a)
    → DoneBelow f old old p
done_none f old p before a z = elim (cases_lt (a + 8) p) [
  | inl below ↦ let t = lt-ltb (a + 8) p below in rw t (sym (before a below))
  | inr above ↦ let t = le-ltb (a + 8) p above in rw t refl
]

-- ---- a rewriting that keeps the heads keeps the parts

-- f leaves the head of an item
-- ---- clearing marks

pub cleared_keeps : (s : Sight) (ps : List Part) (p e : ℕ) → p % 8 ≡ 0 → Spells s p ps e → (i : Item)
    → Among ps (item_part i) → KeepsHead (cleared (items_in ps)) s.word i.place
cleared_keeps s ps p e z h i k =
    let here = is_place-of ps i k in
    let a = aligned_among s ps i p e z h k in
    let next = is_place-inside s ps (item_part i) p e (i.place + 8) h k (omega arith) (omega arith)
    (λ same. omega arith) in
    record { mt = rw here (omega arith); len = rw next refl }

pub cleared_at : (ps : List Part) (i : Item) (w : ℕ) → Among ps (item_part i)
    → cleared (items_in ps) i.place w ≡ unmarked w
cleared_at ps i w k = let here = is_place-of ps i k in rw here refl

pub cleared_inside : (s : Sight) (ps : List Part) (m : Part) (p e a w : ℕ) → Spells s p ps e → Among ps m
    → start_of m ≤ a + 8 → a + 8 < part_end m → a ≢ start_of m → cleared (items_in ps) a w ≡ w
cleared_inside s ps m p e a w h k lo hi ne = let off = is_place-inside s ps m p e a h k lo hi ne in rw off refl

pub cleared_below : (s : Sight) (ps : List Part) (p e a w : ℕ) → Spells s p ps e → a + 8 < p
    → cleared (items_in ps) a w ≡ w
cleared_below s ps p e a w h l = let off = is_place-below s ps p e a h (omega arith) in rw off refl

pub cleared_past : (s : Sight) (ps : List Part) (p e a w : ℕ) → Spells s p ps e → e ≤ a + 8
    → cleared (items_in ps) a w ≡ w
cleared_past s ps p e a w h l = let off = is_place-past s ps p e a h l in rw off refl
