-- Gray places: of one segment, and of all.
use Rattle.std.proofs.Common.{◌≡◌, ℕ, zero, suc, ◌+◌, ◌/◌, ◌<◌, ◌≤◌, List, [], ◌∷◌, length, refl, sym, ap, ◌∙◌}
use Rattle.std.proofs.Common.{arith, Bool, true, false, if◌then◌else◌, ◌&&◌, ◌||◌, not, get_or, nat_eq, ◌*◌, ◌⊎◌, inl, inr}
use Rattle.std.proofs.lemmas.Bool.{both_ways, cases_Bool, eqb-true}
use Rattle.clr_bgmark.specs.Bits.{has_bit, with_bit}
use Rattle.clr_bgmark.specs.Shades.{ShadeView, covers, is_covered, cell_of, is_marked, is_scanned, is_gray, AreApart}
use Rattle.clr_bgmark.specs.Shades.{HasNoGray, IsAt, is_gray_cell, is_gray_number}
use Rattle.clr_bgmark.proofs.Lookups.{at_told}
use Rattle.clr_bgmark.proofs.MoreBits.{bit_added}

-- ---- in one segment

-- where nothing is marked nothing is gray
pub none_marked : (marked scanned : List ℕ) → ((n : ℕ) → has_bit marked n ≡ false) → (n : ℕ)
    → is_gray_number marked scanned n ≡ true → ⊥
none_marked marked scanned none n gray =
    both_ways (is_gray_number marked scanned n) (λ i. none n i && not (has_bit scanned n)) gray

-- a mark makes its number gray, and no other
pub gray_marked : (marked scanned : List ℕ) (cell : ℕ) → cell < 64 * length marked → (n : ℕ)
    → is_gray_number (with_bit marked cell) scanned n ≡ true → (n ≡ cell) ⊎ (is_gray_number marked scanned n ≡ true)
gray_marked marked scanned cell room n e = elim (cases_Bool (nat_eq n cell)) [
  | inl is ↦ inl (eqb-true n cell is)
  | inr other ↦
      inr (sym (λ i. (bit_added marked cell room n ∙ ap (λ b. b || has_bit marked n) other) i && not (has_bit scanned n))
      ∙ e)
]

-- what was scanned makes nothing gray
pub gray_scanned : (marked scanned : List ℕ) (cell : ℕ) → cell < 64 * length scanned → (n : ℕ)
    → is_gray_number marked (with_bit scanned cell) n ≡ true → is_gray_number marked scanned n ≡ true
gray_scanned marked scanned cell room n e =
    less (has_bit marked n) (nat_eq n cell) (has_bit scanned n)
    (sym (λ i. has_bit marked n && not (bit_added scanned cell room n i)) ∙ e)
  where
    less : (marked here scanned : Bool) → (marked && not (here || scanned)) ≡ true → (marked && not scanned) ≡ true
    less false here scanned e = absurd cc
    less true true scanned e = absurd cc
    less true false scanned e = e

-- a word that is passed has no gray number, and those that have one stay pending
pub gray_left : (marked scanned old new : List ℕ) (k lowest : ℕ) → k ≡ lowest
    → ((i : ℕ) → has_bit new i ≡ (not (nat_eq i lowest) && has_bit old i))
    → ((i : ℕ) → 64 * k ≤ i → i < 64 * k + 64 → is_gray_number marked scanned i ≡ false)
    → (n : ℕ) → is_gray_number marked scanned n ≡ true → has_bit old (n / 64) ≡ true → has_bit new (n / 64) ≡ true
gray_left marked scanned old new k lowest at less none n gray was = elim (cases_Bool (nat_eq (n / 64) lowest)) [
  | inl is ↦
      let word = eqb-true (n / 64) lowest is in
      absurd (both_ways (is_gray_number marked scanned n)
      (none n (omega (arith, word, at)) (omega (arith, word, at))) gray)
  | inr other ↦ less (n / 64) ∙ ap (λ b. not b && has_bit old (n / 64)) other ∙ was
]

module _ (marked scanned pending : List ℕ) (k past : ℕ) (above : (n : ℕ) → has_bit pending n ≡ true → k ≤ n)
    (kept : (n : ℕ) → n < 64 * past → is_gray_number marked scanned n ≡ true → has_bit pending (n / 64) ≡ true) where
  -- below the first gray number of the lowest word that is pending none is gray
  pub none_lower : (n : ℕ) → n < 64 * past
      → ((i : ℕ) → 64 * k ≤ i → i < n → is_gray_number marked scanned i ≡ false)
      → (i : ℕ) → i < n → is_gray_number marked scanned i ≡ false
  none_lower n high first i less = elim (cases_Bool (is_gray_number marked scanned i)) [
    | inr f ↦ f
    | inl gray ↦
        let up = above (i / 64) (kept i (omega (arith, less, high)) gray) in
        first i (omega (arith, up)) less
  ]

  -- below the lowest word that is pending none is gray
  pub none_under : (i : ℕ) → i < 64 * past → i / 64 < k → is_gray_number marked scanned i ≡ false
  none_under i high under = elim (cases_Bool (is_gray_number marked scanned i)) [
    | inr f ↦ f
    | inl gray ↦
        let up = above (i / 64) (kept i high gray) in
        absurd (omega (arith, up, under))
  ]

  -- where no word is pending none is gray
  pub none_waits : past ≤ k → (i : ℕ) → i < 64 * past → is_gray_number marked scanned i ≡ false
  none_waits over i high = elim (cases_Bool (is_gray_number marked scanned i)) [
    | inr f ↦ f
    | inl gray ↦
        let up = above (i / 64) (kept i high gray) in
        absurd (omega (arith, up, over, high))
  ]

-- ---- in all segments

-- where no segment has a gray place, none is gray
pub no_gray_at_all : (ss : List ShadeView) (a : ℕ)
    → ((k : ℕ) (d : ShadeView) → k < length ss → HasNoGray (get_or ss k d)) → is_gray ss a ≡ false
no_gray_at_all [] a none = refl
no_gray_at_all (s ∷ ss) a none =
    go (covers s a) refl (no_gray_at_all ss a (λ k d l. none (suc k) d (omega (arith, l))))
  where
    go : (x : Bool) → covers s a ≡ x → is_gray ss a ≡ false
        → ((if x then has_bit s.marked (cell_of s a) else is_marked ss a)
        && not (if x then has_bit s.scanned (cell_of s a) else is_scanned ss a)) ≡ false
    go true f more = none zero s (omega arith) a f
    go false f more = more

-- ---- a place that is found

pub covered_by : (ss : List ShadeView) (k a : ℕ) (d : ShadeView) → k < length ss → covers (get_or ss k d) a ≡ true
    → is_covered ss a ≡ true
covered_by [] k a d l e = absurd (omega arith)
covered_by (s ∷ ss) zero a d l e = ap (λ b. if b then true else is_covered ss a) e
covered_by (s ∷ ss) (suc k) a d l e = go (covers s a) (covered_by ss k a d (omega arith) e)
  where
    go : (x : Bool) → is_covered ss a ≡ true → (if x then true else is_covered ss a) ≡ true
    go true f = refl
    go false f = f

pub apart_at : (ss : List ShadeView) (k a : ℕ) (d : ShadeView) → AreApart ss → k < length ss
    → covers (get_or ss k d) a ≡ true → IsAt ss k a
apart_at [] k a d apart l e = absurd (omega arith)
apart_at (s ∷ ss) zero a d apart l e = e
apart_at (s ∷ ss) (suc k) a d apart l e =
    (go (covers s a) refl, apart_at ss k a d apart.1 (omega arith) e)
  where
    go : (x : Bool) → covers s a ≡ x → covers s a ≡ false
    go true f = absurd (both_ways (is_covered ss a) (apart.0 a f) (covered_by ss k a d (omega arith) e))
    go false f = f

pub found_gray : (ss : List ShadeView) (k a : ℕ) (s : ShadeView) → s ≡ get_or ss k s → AreApart ss → k < length ss
    → covers s a ≡ true → is_gray_cell s (cell_of s a) ≡ true → is_gray ss a ≡ true
found_gray ss k a s read apart l e gray =
    let at = apart_at ss k a s apart l (ap (λ (t : ShadeView). covers t a) (sym read) ∙ e) in
    let m = at_told (λ s a. has_bit s.marked (cell_of s a)) ss k a s at in
    let n = at_told (λ s a. has_bit s.scanned (cell_of s a)) ss k a s at in
    (λ i. m i && not (n i)) ∙ ap (λ (t : ShadeView). is_gray_cell t (cell_of t a)) (sym read) ∙ gray

-- ---- the search for a marked place

pub covers_told : (ss : List ShadeView) (k a : ℕ) (s : ShadeView) → s ≡ get_or ss k s → AreApart ss → k < length ss
    → covers s a ≡ true → IsAt ss k a
covers_told ss k a s read apart l e =
    apart_at ss k a s apart l (ap (λ (t : ShadeView). covers t a) (sym read) ∙ e)
