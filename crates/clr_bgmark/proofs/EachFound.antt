-- The last pause: the words of a segment's bits, and the segments, one after another.
use Rattle.std.proofs.Common.{◌≡◌, ℕ, ◌+◌, ◌-◌, ◌*◌, ◌/◌, ◌%◌, ◌<◌, ◌≤◌, ◌⊎◌, inl, inr, List, length, get_or}
use Rattle.std.proofs.Common.{ap, sym, ◌∙◌, subst, arith}
use Rattle.std.specs.Int.{bit_at}
use Rattle.std.specs.List.{AllByRecursion}
use Rattle.std.proofs.lemmas.Bool.{cases_eq, cases_lt, eq-eqb, eqb-true}
use Rattle.clr_heap.proofs.Framing.{all_at}
use Rattle.clr_bgmark.specs.LastPause.{IsInWord, IsMarkedIn}
use Rattle.clr_bgmark.specs.Pauses.{IsFound}
use Rattle.clr_bgmark.specs.Shades.{AreApart, cell_of, IsAt, IsShade, ShadeView}
use Rattle.clr_bgmark.proofs.EachMarked.{none_in_word}
use Rattle.clr_bgmark.proofs.FoundPlaces.{marked_at}
use Rattle.clr_bgmark.proofs.GrayPlaces.{covers_told}
use Rattle.clr_bgmark.proofs.Kept.{covers_inside, inside_covers}
use Rattle.clr_bgmark.proofs.Lookups.{at_within, read_covers}
use Rattle.clr_bgmark.proofs.PassedCells.{marked_in}

-- ---- one segment

-- a marked place of the words from this one on
pub record IsMarkedFrom (s : ShadeView) (n x : ℕ) : Type 0 where
  pub here : IsMarkedIn s x
  pub from : 64 * n ≤ cell_of s x

module _ (s : ShadeView) (shade : IsShade s) where
  pub from_first : (x : ℕ) → IsMarkedIn s x → IsMarkedFrom s 0 x
  from_first x i = record { here = i; from = omega arith }

  -- behind the last word there is none
  pub from_last : (n x : ℕ) → s.size / 512 ≤ n → IsMarkedFrom s n x → ⊥
  from_last n x l i =
      let from = i.from in
      let inside = covers_inside s x i.here.inside in
      let low = inside.low in
      let high = inside.high in
      let size = shade.size in
      omega (arith, l, from, low, high, size)

  module _ (n : ℕ) (within : n < s.size / 512) (place bits : ℕ) (at : place ≡ s.base + 512 * n)
      (word : bits ≡ get_or s.marked n 0) where
    -- the places of word n are marked places of the segment
    pub word_marked : (x : ℕ) → IsInWord place bits x → IsMarkedIn s x
    word_marked x i =
        let base = shade.base in
        let few = i.low in
        let there = i.at in
        let cell : cell_of s x ≡ 64 * n + i.index = omega (arith, at, there) in
        let number : cell_of s x / 64 ≡ n = omega (arith, cell, few) in
        let bit : cell_of s x % 64 ≡ i.index = omega (arith, cell, few) in
        record {
          aligned = omega (arith, at, there, base);
          inside = inside_covers s x
              (record { low = omega (arith, at, there); high = omega (arith, at, there, few, within) });
          marked = eq-eqb (bit_at (get_or s.marked (cell_of s x / 64) 0) (cell_of s x % 64)) 1
              ((λ j. bit_at (get_or s.marked (number j) 0) (bit j)) ∙ ap (λ w. bit_at w i.index) (sym word) ∙ i.has);
        }

    -- and those that are left are these or stand in later words
    pub word_or_later : (x : ℕ) → IsMarkedFrom s n x → IsInWord place bits x ⊎ IsMarkedFrom s (n + 1) x
    word_or_later x i = go (cases_lt (cell_of s x) (64 * (n + 1)))
      where
        go : (cell_of s x < 64 * (n + 1)) ⊎ (64 * (n + 1) ≤ cell_of s x)
            → IsInWord place bits x ⊎ IsMarkedFrom s (n + 1) x
        go (inr later) = inr (record { here = i.here; from = later })
        go (inl below) =
            let from = i.from in
            let whole = i.here.aligned in
            let base = shade.base in
            let low = (covers_inside s x i.here.inside).low in
            let number : cell_of s x / 64 ≡ n = omega (arith, from, below) in
            inl (record {
              index = cell_of s x % 64;
              low = omega arith;
              at = omega (arith, at, number, whole, base, low);
              has = ap (λ w. bit_at w (cell_of s x % 64)) (word ∙ ap (λ k. get_or s.marked k 0) (sym number))
                  ∙ eqb-true (bit_at (get_or s.marked (cell_of s x / 64) 0) (cell_of s x % 64)) 1 i.here.marked;
            })

    -- where the word is empty, they stand in later words
    pub none_or_later : bits ≡ 0 → (x : ℕ) → IsMarkedFrom s n x → IsMarkedFrom s (n + 1) x
    none_or_later empty x i = elim (word_or_later x i) [
      | inl here ↦ absurd (none_in_word place x (subst (λ w. IsInWord place w x) empty here))
      | inr later ↦ later
    ]

-- ---- all segments

-- a found place of the segments from this one on
pub record IsFoundFrom (ss : List ShadeView) (k x : ℕ) : Type 0 where
  pub found : IsFound ss x
  pub index : ℕ
  pub from : k ≤ index
  pub at : IsAt ss index x

module _ (ss : List ShadeView) where
  pub found_first : (x : ℕ) → IsFound ss x → IsFoundFrom ss 0 x
  found_first x f =
      let (k, at) = marked_at ss x f.1 in
      record { found = f; index = k; from = omega arith; at = at }

  pub found_last : (k x : ℕ) → length ss ≤ k → IsFoundFrom ss k x → ⊥
  found_last k x l f =
      let within = at_within ss f.index x f.at in
      let from = f.from in
      omega (arith, l, within, from)

  module _ (apart : AreApart ss) (k : ℕ) (within : k < length ss) (s : ShadeView) (read : s ≡ get_or ss k s) where
    -- the marked places of segment k are found
    pub segment_found : (x : ℕ) → IsMarkedIn s x → IsFound ss x
    segment_found x i =
        let at : IsAt ss k x = covers_told ss k x s read apart within i.inside in
        (i.aligned, sym (marked_in ss k x s read at) ∙ i.marked)

    -- and those that are left are these or lie in later segments
    pub segment_or_later : (x : ℕ) → IsFoundFrom ss k x → IsMarkedIn s x ⊎ IsFoundFrom ss (k + 1) x
    segment_or_later x f = elim (cases_eq f.index k) [
      | inl e ↦
          let at : IsAt ss k x = subst (λ n. IsAt ss n x) e f.at in
          inl (record {
            aligned = f.found.0;
            inside = read_covers ss k x s read at;
            marked = marked_in ss k x s read at ∙ f.found.1;
          })
      | inr ne ↦
          let from = f.from in
          inr (record { found = f.found; index = f.index; from = omega (arith, from, ne); at = f.at })
    ]

    pub lawful_shade : AllByRecursion IsShade ss → IsShade s
    lawful_shade all = subst IsShade (sym read) (all_at IsShade ss k s all within)
