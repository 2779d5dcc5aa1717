-- The last pause: what is found behind the fronts is marked, by words of bits.
use Rattle.std.proofs.Common.{◌≡◌, ℕ, zero, suc, ◌+◌, ◌-◌, ◌*◌, ◌/◌, ◌%◌, ◌^◌, ◌<◌, ◌≤◌, ◌⊎◌, inl, inr, List, [], ◌∷◌}
use Rattle.std.proofs.Common.{length, get_or, refl, ap, sym, ◌∙◌, subst, arith}
use Rattle.std.specs.Int.{bit_at}
use Rattle.std.proofs.lemmas.Bool.{cases_eq, cases_lt}
use Rattle.std.proofs.lemmas.Nat.{pow_pos, shr_split, shr-shr}
use Rattle.std.proofs.lemmas.Nat.Bits.{bit_at-zero, bit_at_cat_high, bit_at_cat_low}
use Rattle.clr_sweep.specs.Fronts.{front_at}
use Rattle.clr_sweep.specs.declared.behind.Front.{Front}
use Rattle.clr_bgmark.specs.LastPause.{IsFoundBehind, IsInWord, IsMarkedBehind}
use Rattle.clr_bgmark.specs.Shades.{AreApart, cell_of, IsAt, IsShade, ShadeView}
use Rattle.clr_bgmark.proofs.EachFound.{from_last, segment_found, word_marked, word_or_later}
use Rattle.clr_bgmark.proofs.EachMarked.{none_in_word}
use Rattle.clr_bgmark.proofs.GrayPlaces.{covers_told}
use Rattle.clr_bgmark.proofs.Lookups.{at_within, read_covers}
use Rattle.clr_bgmark.proofs.PassedCells.{marked_in}

-- ---- the high bits of a word

higher : (w low i : ℕ) → low ≤ i → bit_at (w / 2 ^ low * 2 ^ low) i ≡ bit_at w i
higher w low i above =
    let same : w / 2 ^ low * 2 ^ low ≡ w / 2 ^ low * 2 ^ low + 0 = omega arith in
    let at : low + (i - low) ≡ i = omega (arith, above) in
    ap (λ (v : ℕ). bit_at v i) same ∙ bit_at_cat_high (w / 2 ^ low) low 0 i (pow_pos low) above
    ∙ ap (λ (n : ℕ). n % 2) (shr-shr w low (i - low)) ∙ ap (λ (n : ℕ). w / 2 ^ n % 2) at

-- without its lowest bits a word has those from there on
pub high_only : (w low i : ℕ) → bit_at (w / 2 ^ low * 2 ^ low) i ≡ 1 → (bit_at w i ≡ 1) × (low ≤ i)
high_only w low i on = elim (cases_lt i low) [
  | inl below ↦
      let same : w / 2 ^ low * 2 ^ low + 0 ≡ w / 2 ^ low * 2 ^ low = omega arith in
      let cut = bit_at_cat_low (w / 2 ^ low) low 0 i below in
      let none = bit_at-zero i in
      let at = ap (λ (v : ℕ). bit_at v i) same in
      absurd (omega (arith, on, cut, none, at))
  | inr above ↦ (sym (higher w low i above) ∙ on, above)
]

pub high_all : (w low i : ℕ) → bit_at w i ≡ 1 → low ≤ i → bit_at (w / 2 ^ low * 2 ^ low) i ≡ 1
high_all w low i on above = higher w low i above ∙ on

pub high_fits : (w low : ℕ) → w < 2 ^ 64 → w / 2 ^ low * 2 ^ low < 2 ^ 64
high_fits w low fits = let parts = shr_split w low in omega (arith, parts, fits)

-- ---- one segment

-- a marked place from an address on, in the words from this one on
pub record IsBehindFrom (s : ShadeView) (from n x : ℕ) : Type 0 where
  pub here : IsMarkedBehind s from x
  pub later : 64 * n ≤ cell_of s x

module _ (s : ShadeView) (shade : IsShade s) (from : ℕ) where
  pub behind_first : (x : ℕ) → IsMarkedBehind s from x → IsBehindFrom s from ((from - s.base) / 512) x
  behind_first x i = let behind = i.behind in record { here = i; later = omega (arith, behind) }

  -- behind the last word there is none
  pub behind_last : (n x : ℕ) → s.size / 512 ≤ n → IsBehindFrom s from n x → ⊥
  behind_last n x l i = from_last s shade n x l (record { here = i.here.here; from = i.later })

  module _ (n : ℕ) (within : n < s.size / 512) (place word bits : ℕ) (at : place ≡ s.base + 512 * n)
      (is : word ≡ get_or s.marked n 0)
      (only : (i : ℕ) → bit_at bits i ≡ 1 → (bit_at word i ≡ 1) × (from ≤ place + 8 * i))
      (all : (i : ℕ) → bit_at word i ≡ 1 → from ≤ place + 8 * i → bit_at bits i ≡ 1) where
    -- the places of these bits are marked places from there on
    pub bits_marked : (x : ℕ) → IsInWord place bits x → IsMarkedBehind s from x
    bits_marked x i =
        let (on, low) = only i.index i.has in
        let there = i.at in
        record {
          here = word_marked s shade n within place word at is x
              (record { index = i.index; low = i.low; at = i.at; has = on });
          behind = omega (arith, there, low);
        }

    -- and those that are left are these or stand in later words
    pub bits_or_later : (x : ℕ) → IsBehindFrom s from n x → IsInWord place bits x ⊎ IsBehindFrom s from (n + 1) x
    bits_or_later x i =
        elim (word_or_later s shade n within place word at is x (record { here = i.here.here; from = i.later })) [
          | inl w ↦
              let behind = i.here.behind in
              let there = w.at in
              let bit = all w.index w.has (omega (arith, behind, there)) in
              inl (record { index = w.index; low = w.low; at = w.at; has = bit })
          | inr later ↦ inr (record { here = i.here; later = later.from })
        ]

    -- where there are none, they stand in later words
    pub no_bits : bits ≡ 0 → (x : ℕ) → IsBehindFrom s from n x → IsBehindFrom s from (n + 1) x
    no_bits empty x i = elim (bits_or_later x i) [
      | inl here ↦ absurd (none_in_word place x (subst (λ (w : ℕ). IsInWord place w x) empty here))
      | inr later ↦ later
    ]

-- ---- all segments

-- a found place behind its front, of the segments from this one on
pub record IsFoundLater (ss : List ShadeView) (fronts : List Front) (k x : ℕ) : Type 0 where
  pub here : IsFoundBehind ss fronts x
  pub from : k ≤ here.index

-- what is read of a list, whatever stands behind its end
pub read_front : (fronts : List Front) (k : ℕ) (f : Front) → k < length fronts → f ≡ get_or fronts k f
    → f ≡ front_at fronts k
read_front fronts k f l e = e ∙ same fronts k l f
  where
    same : (fronts : List Front) (k : ℕ) → k < length fronts → (f : Front) → get_or fronts k f ≡ front_at fronts k
    same [] k l f = absurd (omega arith)
    same (x ∷ fronts) zero l f = refl
    same (x ∷ fronts) (suc k) l f = same fronts k (omega arith) f

module _ (ss : List ShadeView) (fronts : List Front) where
  pub later_first : (x : ℕ) → IsFoundBehind ss fronts x → IsFoundLater ss fronts 0 x
  later_first x f = record { here = f; from = omega arith }

  pub later_last : (k x : ℕ) → length ss ≤ k → IsFoundLater ss fronts k x → ⊥
  later_last k x l f =
      let within = at_within ss f.here.index x f.here.at in
      let from = f.from in
      omega (arith, l, within, from)

  module _ (apart : AreApart ss) (k : ℕ) (within : k < length ss) (s : ShadeView) (read : s ≡ get_or ss k s) where
    -- the marked places of segment k behind its front are found
    pub segment_behind : (x : ℕ) → IsMarkedBehind s (front_at fronts k).place x → IsFoundBehind ss fronts x
    segment_behind x i = record {
      found = segment_found ss apart k within s read x i.here;
      index = k;
      at = covers_told ss k x s read apart within i.here.inside;
      behind = i.behind;
    }

    -- and those that are left are these or lie in later segments
    pub behind_or_later : (x : ℕ) → IsFoundLater ss fronts k x
        → IsMarkedBehind s (front_at fronts k).place x ⊎ IsFoundLater ss fronts (k + 1) x
    behind_or_later x f = elim (cases_eq f.here.index k) [
      | inl e ↦
          let at : IsAt ss k x = subst (λ (n : ℕ). IsAt ss n x) e f.here.at in
          inl (record {
            here = record {
              aligned = f.here.found.0;
              inside = read_covers ss k x s read at;
              marked = marked_in ss k x s read at ∙ f.here.found.1;
            };
            behind = subst (λ (n : ℕ). (front_at fronts n).place ≤ x) e f.here.behind;
          })
      | inr ne ↦ let from = f.from in inr (record { here = f.here; from = omega (arith, from, ne) })
    ]
