-- Parts that words spell: joined, cut, and kept by a write.
use Rattle.std.proofs.Common.{◌≡◌, ◌≢◌, inl, inr, ℕ, zero, suc, ◌+◌, ◌-◌, ◌/◌, ◌%◌, ◌<◌, ◌≤◌, true, false, leb, List}
use Rattle.std.proofs.Common.{[], ◌∷◌, ◌++◌, refl, ap, sym, ◌∙◌, subst, arith, None}
use Rattle.std.proofs.lemmas.Bool.{le-leb, lt-leb, cases_Bool}
use Rattle.clr_types.specs.Types.{TypeRow, form_at, size_of, is_array, mt_of}
use Rattle.clr_types.specs.declared.item.Item.{Item}
use Rattle.clr_heap.specs.Parts.{Among, made_item, Part, item_part, rest_part, start_of, part_end, unmarked}
use Rattle.clr_heap.specs.Parts.{type_number, hole_from, IsMakeable, Sight, length_at, item_at, NamesItem, Spells}
use Rattle.clr_heap.specs.Parts.{parts}

pub place-item_at : (rows : List TypeRow) (word : ℕ → ℕ) (p : ℕ) → (item_at rows word p).place ≡ p
unfolding item_at
place-item_at rows word p = refl

-- the parts end where they end
pub Spells-le : (s : Sight) (ps : List Part) (p e : ℕ) → Spells s p ps e → p ≤ e
Spells-le s [] p e h = omega arith
Spells-le s (item_part i ∷ ps) p e h = let ih = Spells-le s ps (p + i.size) e h.3 in omega arith
Spells-le s (rest_part lo hi ∷ ps) p e h = let ih = Spells-le s ps hi e h.4 in omega arith

-- parts that follow one another
pub Spells-append : (s : Sight) (xs ys : List Part) (p q e : ℕ) → Spells s p xs q → Spells s q ys e
    → Spells s p (xs ++ ys) e
Spells-append s [] ys p q e h k = let P : ℕ → Type 0 = λ n. Spells s n ys e in subst P (sym h) k
Spells-append s (item_part i ∷ xs) ys p q e h k = (h.0, h.1, h.2, Spells-append s xs ys (p + i.size) q e h.3 k)
Spells-append s (rest_part lo hi ∷ xs) ys p q e h k = (h.0, h.1, h.2, h.3, Spells-append s xs ys hi q e h.4 k)

-- the parts that are spelled are the ones that a walk finds
pub parts-Spells : (s : Sight) (fuel : ℕ) (ps : List Part) (p e : ℕ) → Spells s p ps e → e ≤ p + fuel
    → parts fuel s p e ≡ ps
parts-Spells s zero [] p e h k = refl
parts-Spells s (suc n) [] p e h k = let done : leb e p ≡ true = le-leb e p (omega arith) in rw done refl
parts-Spells s zero (item_part i ∷ ps) p e h k = let l =
    Spells-le s ps (p + i.size) e h.3 in let z = h.2.least in let z' : 24 ≤ i.size = rw h.1 z in absurd (omega arith)
parts-Spells s zero (rest_part lo hi ∷ ps) p e h k = let l = Spells-le s ps hi e h.4 in absurd (omega arith)
parts-Spells s (suc n) (item_part i ∷ ps) p e h k =
    let l = Spells-le s ps (p + i.size) e h.3 in
    let least : 24 ≤ i.size = rw h.1 h.2.least in
    let more : leb e p ≡ false = lt-leb e p (omega arith) in
    let next : i.place + i.size ≡ p + i.size =
    ap (λ (j : Item). j.place + i.size) h.1 ∙ ap (λ (q : ℕ). q + i.size) (place-item_at s.rows s.word p) in
    let ih = parts-Spells s n ps (p + i.size) e h.3 (omega arith) in
    rw (more, h.0, ← h.1, next, ih) refl
parts-Spells s (suc n) (rest_part lo hi ∷ ps) p e h k =
    let l = Spells-le s ps hi e h.4 in
    let more : leb e p ≡ false = lt-leb e p (omega arith) in
    let ih = parts-Spells s n ps hi e h.4 (omega arith) in
    rw (more, h.1, ih, h.0) refl

-- so the words from p to e spell one list of parts at most
pub one_list : (s : Sight) (p e : ℕ) (ps qs : List Part) → Spells s p ps e → Spells s p qs e → ps ≡ qs
one_list s p e ps qs left right =
    sym (parts-Spells s e ps p e left (omega arith)) ∙ parts-Spells s e qs p e right (omega arith)

-- ---- words that are read: what an item is depends on its two first words alone

-- new words agree with the old ones on the head of the item at p
pub record AgreesAt (rows : List TypeRow) (old new : ℕ → ℕ) (p : ℕ) : Type 0 where
  pub mt : unmarked (new p) ≡ unmarked (old p)
  pub len : is_array (form_at rows (type_number (old p))) ≡ true → new (p + 8) ≡ old (p + 8)

-- a sight with other words
abbrev pub with_words : Sight → (ℕ → ℕ) → Sight
with_words s w = record { rows = s.rows; word = w; holes = s.holes }

number-agrees : (rows : List TypeRow) (old new : ℕ → ℕ) (p : ℕ) → AgreesAt rows old new p
    → type_number (new p) ≡ type_number (old p)
number-agrees rows old new p h = ap (λ (u : ℕ). (u - mt_of 0) / 64) h.mt

length_at-agrees : (rows : List TypeRow) (old new : ℕ → ℕ) (p : ℕ) → AgreesAt rows old new p
    → length_at rows new p ≡ length_at rows old p
unfolding length_at
length_at-agrees rows old new p h =
    rw (number-agrees rows old new p h) (elim (cases_Bool (is_array (form_at rows (type_number (old p))))) [
      | inl yes_len ↦ rw yes_len (h.len yes_len)
      | inr no_len ↦ rw no_len refl
    ])

pub item_at-agrees : (rows : List TypeRow) (old new : ℕ → ℕ) (p : ℕ) → AgreesAt rows old new p
    → item_at rows new p ≡ item_at rows old p
unfolding item_at
item_at-agrees rows old new p h = rw (number-agrees rows old new p h, length_at-agrees rows old new p h) refl

-- free items have a length word
free_has_length : (rows : List TypeRow) (t : ℕ) → t ≡ 0 → is_array (form_at rows t) ≡ true
free_has_length rows t e = ap (λ (n : ℕ). is_array (form_at rows n)) e

pub NamesItem-agrees : (rows : List TypeRow) (old new : ℕ → ℕ) (p : ℕ) → AgreesAt rows old new p → NamesItem rows old p
    → NamesItem rows new p
NamesItem-agrees rows old new p h n =
    let number = number-agrees rows old new p h in
    let same = item_at-agrees rows old new p h in
    record {
      known = rw number n.known;
      mt = rw (number, h.mt) n.mt;
      least = rw same n.least;
      most = rw same n.most;
      whole = rw same n.whole;
      free = λ e.
          let was_free : type_number (old p) ≡ 0 = sym number ∙ e in
          rw (h.len (free_has_length rows (type_number (old p)) was_free)) (n.free was_free);
    }

-- the heads of all items among parts stay as they are
abbrev pub AgreesOn : Sight → (ℕ → ℕ) → List Part → Type 0
AgreesOn s w [] = Unit {0}
AgreesOn s w (item_part i ∷ ps) = AgreesAt s.rows s.word w i.place × AgreesOn s w ps
AgreesOn s w (rest_part lo hi ∷ ps) = AgreesOn s w ps

-- THE FRAME RULE: where the heads stay, the parts stay
pub Spells-agrees : (s : Sight) (w : ℕ → ℕ) (ps : List Part) (p e : ℕ) → AgreesOn s w ps → Spells s p ps e
    → Spells (with_words s w) p ps e
Spells-agrees s w [] p e a h = h
Spells-agrees s w (item_part i ∷ ps) p e a h =
    let at : i.place ≡ p = ap (λ (j : Item). j.place) h.1 ∙ place-item_at s.rows s.word p in
    let head : AgreesAt s.rows s.word w p = let P : ℕ → Type 0 = λ q. AgreesAt s.rows s.word w q in subst P at a.0 in (
      h.0,
      h.1 ∙ sym (item_at-agrees s.rows s.word w p head),
      NamesItem-agrees s.rows s.word w p head h.2,
      Spells-agrees s w ps (p + i.size) e a.1 h.3,
    )
Spells-agrees s w (rest_part lo hi ∷ ps) p e a h = (h.0, h.1, h.2, h.3, Spells-agrees s w ps hi e a h.4)

-- ---- writes

-- w is s but for the word at a
abbrev pub OnlyAt : (ℕ → ℕ) → (ℕ → ℕ) → ℕ → Type 0
OnlyAt old new a = (b : ℕ) → b % 8 ≡ 0 → b ≢ a → new b ≡ old b

-- two functions agree on the words of the cells from p to e, but for headers
abbrev pub SameBetween : (ℕ → ℕ) → (ℕ → ℕ) → ℕ → ℕ → Type 0
SameBetween old new p e = (b : ℕ) → b % 8 ≡ 0 → p ≤ b → b + 16 ≤ e → new b ≡ old b

pub agree_from_same : (s : Sight) (w : ℕ → ℕ) (p : ℕ) → w p ≡ s.word p → w (p + 8) ≡ s.word (p + 8)
    → AgreesAt s.rows s.word w p
agree_from_same s w p h k = record { mt = ap unmarked h; len = λ _. k }

-- facts of the first item
pub item_size : (s : Sight) (i : Item) (p : ℕ) → i ≡ item_at s.rows s.word p → NamesItem s.rows s.word p
    → (24 ≤ i.size) × (i.size % 8 ≡ 0) × (i.place ≡ p)
item_size s i p e n =
    let least : 24 ≤ i.size = rw e n.least in
    let whole : i.size % 8 ≡ 0 = rw e n.whole in
    (least, whole, ap (λ (j : Item). j.place) e ∙ place-item_at s.rows s.word p)

-- where all words of the cells stay, the heads stay
pub AgreesOn-same : (s : Sight) (w : ℕ → ℕ) (ps : List Part) (p e : ℕ) → p % 8 ≡ 0 → SameBetween s.word w p e
    → Spells s p ps e → AgreesOn s w ps
AgreesOn-same s w [] p e z a h = tt
AgreesOn-same s w (item_part i ∷ ps) p e z a h =
    let f = item_size s i p h.1 h.2 in
    let l = Spells-le s ps (p + i.size) e h.3 in
    let first : w p ≡ s.word p = a p z (omega arith) (omega arith) in
    let second : w (p + 8) ≡ s.word (p + 8) = a (p + 8) (omega arith) (omega arith) (omega arith) in
    let head : AgreesAt s.rows s.word w i.place = let P : ℕ → Type 0 =
    λ q. AgreesAt s.rows s.word w q in subst P (sym f.2) (agree_from_same s w p first second) in
    (head, AgreesOn-same s w ps (p + i.size) e (omega arith) (λ b z' lo hi. a b z' (omega arith) hi) h.3)
AgreesOn-same s w (rest_part lo hi ∷ ps) p e z a h =
    AgreesOn-same s w ps hi e h.3 (λ b z' low high. a b z' (omega arith) high) h.4

-- parts whose words stay
pub Spells-same : (s : Sight) (w : ℕ → ℕ) (ps : List Part) (p e : ℕ) → p % 8 ≡ 0 → SameBetween s.word w p e
    → Spells s p ps e → Spells (with_words s w) p ps e
Spells-same s w ps p e z a h = Spells-agrees s w ps p e (AgreesOn-same s w ps p e z a h) h

-- a part among them starts no lower than they do, and ends no higher
pub Among-bounds : (s : Sight) (ps : List Part) (m : Part) (p e : ℕ) → Spells s p ps e → Among ps m
    → (p ≤ start_of m) × (part_end m ≤ e)
Among-bounds s [] m p e h k = absurd k
Among-bounds s (item_part i ∷ ps) m p e h k =
    let f = item_size s i p h.1 h.2 in
    let l = Spells-le s ps (p + i.size) e h.3 in
    elim k [
      | inl here ↦ let P : Part → Type 0 =
          λ x. (p ≤ start_of x) × (part_end x ≤ e) in subst P (sym here) (omega arith, omega arith)
      | inr later ↦ let ih = Among-bounds s ps m (p + i.size) e h.3 later in (omega arith, omega arith)
    ]
Among-bounds s (rest_part lo hi ∷ ps) m p e h k =
    let l = Spells-le s ps hi e h.4 in
    elim k [
      | inl here ↦ let P : Part → Type 0 =
          λ x. (p ≤ start_of x) × (part_end x ≤ e) in subst P (sym here) (omega arith, omega arith)
      | inr later ↦ let ih = Among-bounds s ps m hi e h.4 later in (omega arith, omega arith)
    ]

-- the head of a part stays
abbrev pub Keeps : Sight → (ℕ → ℕ) → Part → Type 0
Keeps s w (item_part i) = AgreesAt s.rows s.word w i.place
Keeps s w (rest_part lo hi) = Unit {0}

-- a write within the cell of one part that keeps its head
pub AgreesOn-write : (s : Sight) (w : ℕ → ℕ) (a : ℕ) (m : Part) (ps : List Part) (p e : ℕ) → p % 8 ≡ 0
    → OnlyAt s.word w a → Spells s p ps e
    → Among ps m → start_of m ≤ a + 8 → a + 8 < part_end m → Keeps s w m → AgreesOn s w ps
AgreesOn-write s w a m [] p e z o h k lo hi keeps = absurd k
AgreesOn-write s w a m (item_part i ∷ ps) p e z o h k lo hi keeps =
    let f = item_size s i p h.1 h.2 in
    elim k [
      | inl here ↦
          let P : Part → Type 0 = λ x. Keeps s w x in
          let Q : Part → Type 0 = λ x. a + 8 < part_end x in
          let below : a + 8 < i.place + i.size = subst Q here hi in (
            subst P here keeps,
            AgreesOn-same s w ps (p + i.size) e (omega arith)
                (λ b z' low high. o b z' (λ same. omega arith)) h.3,
          )
      | inr later ↦
          let b = Among-bounds s ps m (p + i.size) e h.3 later in
          let first : w p ≡ s.word p = o p z (λ same. omega arith) in
          let second : w (p + 8) ≡ s.word (p + 8) = o (p + 8) (omega arith) (λ same. omega arith) in
          let R : ℕ → Type 0 = λ q. AgreesAt s.rows s.word w q in (
            subst R (sym f.2) (agree_from_same s w p first second),
            AgreesOn-write s w a m ps (p + i.size) e (omega arith) o h.3 later lo hi keeps,
          )
    ]
AgreesOn-write s w a m (rest_part from to ∷ ps) p e z o h k lo hi keeps =
    elim k [
      | inl here ↦
          let Q : Part → Type 0 = λ x. a + 8 < part_end x in
          let below : a + 8 < to = subst Q here hi in
          AgreesOn-same s w ps to e h.3 (λ b z' low high. o b z' (λ same. omega arith)) h.4
      | inr later ↦ AgreesOn-write s w a m ps to e h.3 o h.4 later lo hi keeps
    ]

-- THE WRITE RULE: a write within the cell of a part that keeps its head keeps all parts
pub Spells-write : (s : Sight) (w : ℕ → ℕ) (a : ℕ) (m : Part) (ps : List Part) (p e : ℕ) → p % 8 ≡ 0 → OnlyAt s.word w a
    → Spells s p ps e
    → Among ps m → start_of m ≤ a + 8 → a + 8 < part_end m → Keeps s w m → Spells (with_words s w) p ps e
Spells-write s w a m ps p e z o h k lo hi keeps =
    Spells-agrees s w ps p e (AgreesOn-write s w a m ps p e z o h k lo hi keeps) h

-- the words of an item's head
pub record WritesHead (rows : List TypeRow) (w : ℕ → ℕ) (a t n : ℕ) : Type 0 where
  pub mt : w a ≡ mt_of t
  pub len : is_array (form_at rows t) ≡ true → w (a + 8) ≡ n

type_number-mt_of : (t : ℕ) → type_number (mt_of t) ≡ t
type_number-mt_of t = omega arith

unmarked-mt_of : (t : ℕ) → unmarked (mt_of t) ≡ mt_of t
unmarked-mt_of t = omega arith

length_at-made : (rows : List TypeRow) (w : ℕ → ℕ) (a t n : ℕ) → WritesHead rows w a t n
    → (is_array (form_at rows t) ≡ false → n ≡ 0) → length_at rows w a ≡ n
unfolding length_at
length_at-made rows w a t n h none =
    let number : type_number (w a) ≡ t = ap type_number h.mt ∙ type_number-mt_of t in
    rw number (elim (cases_Bool (is_array (form_at rows t))) [
      | inl some_len ↦ rw some_len (h.len some_len)
      | inr no_len ↦ rw no_len (sym (none no_len))
    ])

pub item_at-made : (rows : List TypeRow) (w : ℕ → ℕ) (a t n : ℕ) → WritesHead rows w a t n
    → (is_array (form_at rows t) ≡ false → n ≡ 0) → item_at rows w a ≡ made_item rows a t n
unfolding item_at
item_at-made rows w a t n h none =
    let number : type_number (w a) ≡ t = ap type_number h.mt ∙ type_number-mt_of t in
    let count = length_at-made rows w a t n h none in
    rw (number, count) refl

pub NamesItem-made : (rows : List TypeRow) (w : ℕ → ℕ) (a t n : ℕ) → WritesHead rows w a t n → IsMakeable rows t n
    → NamesItem rows w a
NamesItem-made rows w a t n h m =
    let same = item_at-made rows w a t n h m.no_length in
    let number : type_number (w a) ≡ t = ap type_number h.mt ∙ type_number-mt_of t in
    record {
      known = rw number m.known;
      mt = rw number (ap unmarked h.mt ∙ unmarked-mt_of t);
      least = rw same m.least;
      most = rw same m.most;
      whole = rw same m.whole;
      free = λ e. let zero_type : t ≡ 0 =
          sym number ∙ e in rw (h.len (free_has_length rows t zero_type)) (m.free zero_type);
    }

-- an item that was made is spelled
pub Spells-made : (s : Sight) (a t n : ℕ) → WritesHead s.rows s.word a t n → IsMakeable s.rows t n
    → hole_from s.holes a ≡ None
    → Spells s a (item_part (made_item s.rows a t n) ∷ []) (a + size_of (form_at s.rows t) n)
Spells-made s a t n h m no_hole =
    (no_hole, sym (item_at-made s.rows s.word a t n h m.no_length), NamesItem-made s.rows s.word a t n h m, refl)
