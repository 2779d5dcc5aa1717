-- Offsets are listed as their bits stand.
use Rattle.std.proofs.Common.{◌≡◌, ◌≢◌, ◌⊎◌, inl, inr, ℕ, ◌+◌, ◌-◌, ◌*◌, ◌^◌, ◌/◌, ◌%◌, ◌<◌, ◌≤◌, true, List, []}
use Rattle.std.proofs.Common.{◌∷◌, ◌++◌}
use Rattle.std.proofs.Common.{length, get_or, ap, sym, ◌∙◌, subst, arith, bit_and, w64}
use Rattle.std.specs.Int.{bit_at, bit_not, trailing_zeros}
use Rattle.std.proofs.lemmas.Bool.{cases_eq, cases_lt, eqb-true, eq-eqb}
use Rattle.std.proofs.lemmas.Nat.{and_le_l}
use Rattle.std.proofs.lemmas.Nat.Bits.{bit_at-trailing_zeros, bit_at-zero, bit_at_clear_other, bit_at_clear_same}
use Rattle.clr_types.specs.Rising.{first, IsIn, later}
use Rattle.clr_types.proofs.RisingLists.{in_cons}
use Rattle.clr_types.proofs.ListMembers.{append_right, in_append}
use Rattle.clr_types.proofs.ChangedLists.{append_left}
use Rattle.clr_plugs.specs.Offsets.{AreApart, AreListed, CanList, has_unit, HasListed, IsBitOf}
use Rattle.clr_plugs.specs.Plans.{AreSpaced}
use Rattle.clr_plugs.proofs.Gathering.{spaced_few}

pub spaced-push : (low : ℕ) (xs : List ℕ) (m : ℕ) → AreSpaced low xs → low ≤ m
    → ((x : ℕ) → IsIn x xs → x + 24 ≤ m) → AreSpaced low (xs ++ m ∷ [])
spaced-push low [] m s le below = (le, tt)
spaced-push low (x ∷ xs) m s le below = (s.0, spaced-push (x + 24) xs m s.1 (below x first) (λ y i. below y (later i)))

-- some bits of a word were listed behind these offsets, and others are left
pub record IsListing (word low : ℕ) (before : List ℕ) (left : ℕ) (now : List ℕ) : Type 0 where
  pub spaced : AreSpaced 0 now
  pub kept : (o : ℕ) → IsIn o before → IsIn o now
  pub each : (o : ℕ) → IsIn o now → IsIn o before ⊎ IsBitOf word low o
  pub rest : (i : ℕ) → i < 64 → bit_at left i ≡ 1 → bit_at word i ≡ 1
  pub all : (i : ℕ) → i < 64 → bit_at word i ≡ 1 → (bit_at left i ≡ 1) ⊎ IsIn (low + 8 * i) now
  pub below : (o i : ℕ) → IsIn o now → i < 64 → bit_at left i ≡ 1 → o + 24 ≤ low + 8 * i
  pub small : (o : ℕ) → IsIn o now → o < low + 512
  pub fits : left < 2 ^ 64

module _ (word low : ℕ) (before : List ℕ) (can : CanList word low before) where
  pub listing_starts : word < 2 ^ 64 → IsListing word low before word before
  listing_starts fits = record {
    spaced = can.spaced;
    kept = λ o i. i;
    each = λ o i. inl i;
    rest = λ i within e. e;
    all = λ i within e. inl e;
    below = can.below;
    small = λ o i. let s = can.small o i in omega (arith, s);
    fits = fits;
  }

  module _ (left : ℕ) (now : List ℕ) (s : IsListing word low before left now) where
    pub listed_few : length now ≤ 683
    listed_few =
        let high = can.high in
        let few = spaced_few 0 16384 now s.spaced (λ x i. let m = s.small x i in omega (arith, m, high)) in
        omega (arith, few)

    pub listing_ends : left ≡ 0 → HasListed word low before now
    listing_ends none = record {
      spaced = s.spaced;
      kept = s.kept;
      each = s.each;
      all = λ i within e. elim (s.all i within e) [
        | inl more ↦ let z = ap (λ (w : ℕ). bit_at w i) none ∙ bit_at-zero i in absurd (omega (arith, more, z))
        | inr there ↦ there
      ];
    }

    module _ (some : 0 < left) (t : ℕ) (is : t ≡ trailing_zeros w64 left) where
      lowest : (trailing_zeros w64 left < 64) × (bit_at left (trailing_zeros w64 left) ≡ 1)
          × ((i : ℕ) → i < trailing_zeros w64 left → bit_at left i ≡ 0)
      lowest = bit_at-trailing_zeros w64 left some s.fits

      pub bit_short : t < 64
      bit_short = let z = lowest.0 in omega (arith, is, z)

      here : bit_at left t ≡ 1
      here = ap (bit_at left) is ∙ lowest.1

      before_it : (i : ℕ) → i < t → bit_at left i ≡ 0
      before_it i less = lowest.2 i (omega (arith, less, is))

      abbrev cleared : ℕ
      cleared = bit_and left (bit_not w64 (1 * 2 ^ t % 2 ^ 64))

      -- a bit that is left then is another one that was
      others : (i : ℕ) → i < 64 → bit_at cleared i ≡ 1 → (i ≢ t) × (bit_at left i ≡ 1)
      others i within e =
          let off = bit_at_clear_same w64 left t bit_short in
          let ne : i ≢ t = λ same. (let at = ap (bit_at cleared) same in omega (arith, at, off, e)) in
          (ne, sym (bit_at_clear_other w64 left t bit_short i within ne) ∙ e)

      pub left_less : cleared < left
      left_less =
          let le = and_le_l left (bit_not w64 (1 * 2 ^ t % 2 ^ 64)) in
          elim (cases_eq cleared left) [
            | inl same ↦
                let off = bit_at_clear_same w64 left t bit_short in
                let on = ap (λ (w : ℕ). bit_at w t) same in
                let was = here in
                absurd (omega (arith, off, on, was))
            | inr ne ↦ omega (arith, le, ne)
          ]

      pub listing_more : IsListing word low before cleared (now ++ (low + 8 * t) ∷ [])
      listing_more =
          let short = bit_short in
          let own = s.rest t short here in
          let less = left_less in
          let fits = s.fits in
          record {
            spaced = spaced-push 0 now (low + 8 * t) s.spaced (omega arith) (λ x i. s.below x t i short here);
            kept = λ o i. append_left ((low + 8 * t) ∷ []) (s.kept o i);
            each = λ o i. elim (in_append now i) [
              | inl j ↦ s.each o j
              | inr j ↦ elim (in_cons j) [
                | inl e ↦ inr (record { bit = t; within = short; is = e; here = own })
                | inr none ↦ elim none [ ]
              ]
            ];
            rest = λ i within e. s.rest i within (others i within e).1;
            all = λ i within e. elim (s.all i within e) [
              | inl more ↦ elim (cases_eq i t) [
                | inl same ↦
                    let P : ℕ → Type 0 = λ k. IsIn (low + 8 * k) (now ++ (low + 8 * t) ∷ []) in
                    inr (subst P (sym same) (append_right now first))
                | inr ne ↦ inl (bit_at_clear_other w64 left t short i within ne ∙ more)
              ]
              | inr there ↦ inr (append_left ((low + 8 * t) ∷ []) there)
            ];
            below = λ o i j within e. elim (in_append now j) [
              | inl old ↦ s.below o i old within (others i within e).1
              | inr new ↦ elim (in_cons new) [
                | inl is ↦
                    let other = others i within e in
                    let ne = other.0 in
                    let up : t < i = elim (cases_lt t i) [
                      | inl less ↦ less
                      | inr le ↦
                          let off = before_it i (omega (arith, le, ne)) in
                          let on = other.1 in
                          absurd (omega (arith, off, on))
                    ] in
                    let apart = can.apart t i up within own (s.rest i within other.1) in
                    omega (arith, is, apart)
                | inr none ↦ elim none [ ]
              ]
            ];
            small = λ o i. elim (in_append now i) [
              | inl old ↦ s.small o old
              | inr new ↦ elim (in_cons new) [
                | inl is ↦ omega (arith, is, short)
                | inr none ↦ elim none [ ]
              ]
            ];
            fits = omega (arith, less, fits);
          }

-- ---- word after word

unit-bit : (words : List ℕ) (w i : ℕ) → i < 64 → bit_at (get_or words w 0) i ≡ 1 → has_unit words (64 * w + i) ≡ true
unit-bit words w i within e =
    let k : (64 * w + i) / 64 ≡ w = omega (arith, within) in
    let j : (64 * w + i) % 64 ≡ i = omega (arith, within) in
    eq-eqb (bit_at (get_or words ((64 * w + i) / 64) 0) ((64 * w + i) % 64)) 1
    (ap (λ (n : ℕ). bit_at (get_or words n 0) ((64 * w + i) % 64)) k ∙ ap (bit_at (get_or words w 0)) j ∙ e)

bit-unit : (words : List ℕ) (w i : ℕ) → i < 64 → has_unit words (64 * w + i) ≡ true → bit_at (get_or words w 0) i ≡ 1
bit-unit words w i within e =
    let k : (64 * w + i) / 64 ≡ w = omega (arith, within) in
    let j : (64 * w + i) % 64 ≡ i = omega (arith, within) in
    ap (bit_at (get_or words w 0)) (sym j) ∙ ap (λ (n : ℕ). bit_at (get_or words n 0) ((64 * w + i) % 64)) (sym k)
    ∙ eqb-true (bit_at (get_or words ((64 * w + i) / 64) 0) ((64 * w + i) % 64)) 1 e

pub none_listed : (words : List ℕ) → AreListed words 0 []
none_listed words = record {
  spaced = tt;
  each = λ o i. elim i [ ];
  all = λ n less e. absurd (omega (arith, less));
}

module _ (words : List ℕ) (apart : AreApart words) (w : ℕ) (within : w < 32) (now : List ℕ)
    (listed : AreListed words (64 * w) now) where
  pub can_list : CanList (get_or words w 0) (512 * w) now
  can_list = record {
    spaced = listed.spaced;
    below = λ o i j short e.
        let old = listed.each o j in
        let less = old.1.0 in
        let z = old.0 in
        let far = apart (o / 8) (64 * w + i) (omega (arith, less)) old.1.1 (unit-bit words w i short e) in
        omega (arith, far, z);
    apart = λ i j less short a b.
        let far = apart (64 * w + i) (64 * w + j) (omega (arith, less))
        (unit-bit words w i (omega (arith, less, short)) a) (unit-bit words w j short b) in
        omega (arith, far);
    small = λ o i. let old = listed.each o i in let less = old.1.0 in omega (arith, less);
    high = omega (arith, within);
  }

  pub listed_more : (after : List ℕ) → HasListed (get_or words w 0) (512 * w) now after
      → AreListed words (64 * (w + 1)) after
  listed_more after h = record {
    spaced = h.spaced;
    each = λ o i. elim (h.each o i) [
      | inl old ↦ let e = listed.each o old in let less = e.1.0 in (e.0, (omega (arith, less), e.1.1))
      | inr new ↦
          let is = new.is in
          let short = new.within in
          let at : o / 8 ≡ 64 * w + new.bit = omega (arith, is) in (
            omega (arith, is),
            (
              omega (arith, at, short),
              ap (has_unit words) at ∙ unit-bit words w new.bit short new.here,
            ),
          )
    ];
    all = λ n less e. elim (cases_lt n (64 * w)) [
      | inl old ↦ h.kept (8 * n) (listed.all n old e)
      | inr new ↦
          let i = n - 64 * w in
          let at : n ≡ 64 * w + i = omega (arith, new) in
          let short : i < 64 = omega (arith, less, new) in
          let there = h.all i short (bit-unit words w i short (ap (has_unit words) (sym at) ∙ e)) in
          let P : ℕ → Type 0 = λ m. IsIn m after in
          subst P (omega (arith, at)) there
    ];
  }

pub all_listed_few : (words : List ℕ) (past : ℕ) (now : List ℕ) → past ≤ 2048 → AreListed words past now
    → length now ≤ 683
all_listed_few words past now most listed =
    let few = spaced_few 0 16384 now listed.spaced
    (λ x i. let less = (listed.each x i).1.0 in omega (arith, less, most)) in
    omega (arith, few)
