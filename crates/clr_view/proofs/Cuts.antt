-- Parts of a segment that stand apart, and a hole that cuts them in two.
use Rattle.std.proofs.Common.{◌≡◌, ◌⊎◌, inl, inr, ℕ, ◌+◌, ◌≤◌, List, [], ◌∷◌, ◌++◌, refl, ap, sym, ◌∙◌, subst, arith}
use Rattle.std.proofs.lemmas.Bool.{cases_eq, eq-eqb, le-ltb, ne_eqb}
use Rattle.clr_heap.specs.Parts.{Among, from_place, item_part, items_in, Part, part_end, replace_run, rest_part}
use Rattle.clr_heap.specs.Parts.{rest_parts, Sight, Spells, start_of}
use Rattle.clr_heap.proofs.Spelling.{Among-bounds, item_size}

-- ---- apart

-- they are the same part, or one ends before the other begins
abbrev pub AreApart : Part → Part → Type 0
AreApart m n = (m ≡ n) ⊎ ((part_end m ≤ start_of n) ⊎ (part_end n ≤ start_of m))

apart-step : (s : Sight) (x : Part) (ps : List Part) (m n : Part) (e : ℕ) → Spells s (part_end x) ps e
    → (Among ps m → Among ps n → AreApart m n) → Among (x ∷ ps) m → Among (x ∷ ps) n → AreApart m n
apart-step s x ps m n e h ih a b = elim a [
  | inl here ↦ elim b [
    | inl there ↦ inl (here ∙ sym there)
    | inr more ↦
        let f = Among-bounds s ps n (part_end x) e h more in
        let end = ap part_end here in
        inr (inl (omega arith))
  ]
  | inr later ↦ elim b [
    | inl there ↦
        let f = Among-bounds s ps m (part_end x) e h later in
        let end = ap part_end there in
        inr (inr (omega arith))
    | inr more ↦ ih later more
  ]
]

-- two parts of a segment stand apart
pub parts-apart : (s : Sight) (ps : List Part) (m n : Part) (p e : ℕ) → Spells s p ps e → Among ps m → Among ps n
    → AreApart m n
parts-apart s [] m n p e h a b = absurd a
parts-apart s (item_part i ∷ ps) m n p e h a b =
    let f = item_size s i p h.1 h.2 in
    let next : p + i.size ≡ i.place + i.size = omega arith in
    let spelled : Spells s (i.place + i.size) ps e = let P : ℕ → Type 0 = λ q. Spells s q ps e in subst P next h.3 in
    apart-step s (item_part i) ps m n e spelled (parts-apart s ps m n (p + i.size) e h.3) a b
parts-apart s (rest_part low high ∷ ps) m n p e h a b =
    apart-step s (rest_part low high) ps m n e h.4 (parts-apart s ps m n high e h.4) a b

-- ---- cut

-- the hole from low to high stands between the parts below it and those above it
pub record IsCut (s : Sight) (ps : List Part) (p low high e : ℕ) : Type 0 where
  pub below : List Part
  pub above : List Part
  pub whole : ps ≡ below ++ rest_part low high ∷ above
  pub replaced : (ns : List Part) → replace_run ps low high ns ≡ below ++ (ns ++ above)
  pub low_spelled : Spells s p below low
  pub high_spelled : Spells s high above e

from-start : (s : Sight) (ps : List Part) (p e : ℕ) → Spells s p ps e → from_place ps p ≡ ps
from-start s [] p e h = refl
from-start s (item_part i ∷ ps) p e h =
    let f = item_size s i p h.1 h.2 in
    let stop = le-ltb i.place p (omega arith) in
    rw stop refl
from-start s (rest_part low high ∷ ps) p e h =
    let at = h.0 in
    let stop = le-ltb low p (omega arith) in
    rw stop refl

-- a hole among parts cuts them
pub hole-cuts : (s : Sight) (ps : List Part) (p low high e : ℕ) → Spells s p ps e → Among ps (rest_part low high)
    → IsCut s ps p low high e
hole-cuts s [] p low high e h a = absurd a
hole-cuts s (item_part i ∷ ps) p low high e h a = elim a [
  | inl here ↦ absurd cc
  | inr later ↦
      let f = item_size s i p h.1 h.2 in
      let up = Among-bounds s ps (rest_part low high) (p + i.size) e h.3 later in
      let miss = ne_eqb i.place low (λ same. omega arith) in
      let c = hole-cuts s ps (p + i.size) low high e h.3 later in
      record {
        below = item_part i ∷ c.below;
        above = c.above;
        whole = ap (λ qs. item_part i ∷ qs) c.whole;
        replaced = λ ns. rw miss (ap (λ qs. item_part i ∷ qs) (c.replaced ns));
        low_spelled = (h.0, h.1, h.2, c.low_spelled);
        high_spelled = c.high_spelled;
      }
]
hole-cuts s (rest_part from to ∷ ps) p low high e h a = elim a [
  | inl here ↦
      let first : low ≡ from = ap start_of here in
      let last : high ≡ to = ap part_end here in
      let hit = eq-eqb from low (sym first) in
      let at = h.0 in
      let P : ℕ → Type 0 = λ q. Spells s q ps e in
      let spelled : Spells s high ps e = subst P (sym last) h.4 in
      record {
        below = [];
        above = ps;
        whole = ap (λ x. x ∷ ps) (sym here);
        replaced = λ ns. rw hit (ap (λ qs. ns ++ qs) (from-start s ps high e spelled));
        low_spelled = omega arith;
        high_spelled = spelled;
      }
  | inr later ↦
      let up = Among-bounds s ps (rest_part low high) to e h.4 later in
      let at = h.0 in
      let least = h.2 in
      let miss = ne_eqb from low (λ same. omega arith) in
      let c = hole-cuts s ps to low high e h.4 later in
      record {
        below = rest_part from to ∷ c.below;
        above = c.above;
        whole = ap (λ qs. rest_part from to ∷ qs) c.whole;
        replaced = λ ns. rw miss (ap (λ qs. rest_part from to ∷ qs) (c.replaced ns));
        low_spelled = (h.0, h.1, h.2, h.3, c.low_spelled);
        high_spelled = c.high_spelled;
      }
]

-- ---- what stands in a list that is joined

pub among-left : (xs ys : List Part) (m : Part) → Among xs m → Among (xs ++ ys) m
among-left [] ys m a = absurd a
among-left (x ∷ xs) ys m a = elim a [ inl here ↦ inl here | inr later ↦ inr (among-left xs ys m later) ]

pub among-right : (xs ys : List Part) (m : Part) → Among ys m → Among (xs ++ ys) m
among-right [] ys m a = a
among-right (x ∷ xs) ys m a = inr (among-right xs ys m a)

pub among-either : (xs ys : List Part) (m : Part) → Among (xs ++ ys) m → Among xs m ⊎ Among ys m
among-either [] ys m a = inr a
among-either (x ∷ xs) ys m a = elim a [
  | inl here ↦ inl (inl here)
  | inr later ↦ elim (among-either xs ys m later) [ inl l ↦ inl (inr l) | inr r ↦ inr r ]
]

-- a hole holds no items
pub items-of-rest : (low high : ℕ) (ps : List Part) → items_in (rest_parts low high ++ ps) ≡ items_in ps
items-of-rest low high ps = elim (cases_eq low high) [
  | inl same ↦ let hit = eq-eqb low high same in rw hit refl
  | inr apart ↦ let miss = ne_eqb low high apart in rw miss refl
]
