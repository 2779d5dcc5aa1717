-- What a bit more in the segment of an address leaves, and what it tells.
use Rattle.std.proofs.Common.{◌≡◌, ℕ, ◌+◌, ◌*◌, ◌/◌, ◌<◌, ◌≤◌, inl, inr, List, [], ◌∷◌, length, refl}
use Rattle.std.proofs.Common.{sym, ap, subst, ◌∙◌, arith, Bool, true, false, if◌then◌else◌, ◌||◌, ◌&&◌, not, nat_eq}
use Rattle.std.proofs.Common.{◌⊎◌}
use Rattle.std.proofs.Common.{nat_le, nat_lt, min}
use Rattle.std.specs.List.{AllByRecursion}
use Rattle.std.proofs.lemmas.Bool.{cases_Bool, cases_eq, eqb-true, eq-eqb, ne_eqb, leb-true, le-leb, ltb-true, lt-ltb}
use Rattle.std.proofs.lemmas.Bool.{both_ways}
use Rattle.clr_bgmark.specs.Bits.{has_bit, with_bit}
use Rattle.clr_bgmark.specs.Shades.{ShadeView, IsShade, covers, is_covered, told, changed_at, AreApart, AreRising}
use Rattle.clr_bgmark.specs.Shades.{IsBackground}
use Rattle.clr_bgmark.specs.Shades.{cell_of, card_of, colour_at, colour_by, with_taken, with_marked, with_scanned}
use Rattle.clr_bgmark.specs.Shades.{with_logged}
use Rattle.clr_bgmark.specs.Shades.{is_taken, is_marked, is_scanned, is_logged, is_gray}
use Rattle.clr_bgmark.proofs.MoreBits.{with_bit_length, bit_added}
use Rattle.clr_bgmark.proofs.Lookups.{all_changed, none_changed}

pub or_true : (c : Bool) → (c || true) ≡ true
or_true true = refl
or_true false = refl

-- ---- one segment

pub record IsInside (s : ShadeView) (a : ℕ) : Type 0 where
  pub low : s.base ≤ a
  pub high : a < s.base + s.size

pub covers_inside : (s : ShadeView) (a : ℕ) → covers s a ≡ true → IsInside s a
covers_inside s a e = go (nat_le s.base a) refl (nat_lt a (s.base + s.size)) refl e
  where
    go : (x : Bool) → nat_le s.base a ≡ x → (y : Bool) → nat_lt a (s.base + s.size) ≡ y → (x && y) ≡ true → IsInside s a
    go true f true g e = record { low = leb-true s.base a f; high = ltb-true a (s.base + s.size) g }
    go true f false g e = absurd cc
    go false f y g e = absurd cc

pub inside_covers : (s : ShadeView) (a : ℕ) → IsInside s a → covers s a ≡ true
inside_covers s a i = λ j. le-leb s.base a i.low j && lt-ltb a (s.base + s.size) i.high j

module _ (s : ShadeView) (h : IsShade s) (a b : ℕ) (i : IsInside s a) where
  -- what has eight bytes in common with the address lies in the segment
  pub near_cell : b / 8 ≡ a / 8 → covers s b ≡ true
  near_cell e =
      let base = h.base in let size = h.size in let low = i.low in let high = i.high in
      inside_covers s b (record { low = omega (arith, e, base, low); high = omega (arith, e, base, size, high) })

  near_card : b / 2048 ≡ a / 2048 → covers s b ≡ true
  near_card e =
      let base = h.base in let size = h.size in let low = i.low in let high = i.high in
      inside_covers s b (record { low = omega (arith, e, base, low); high = omega (arith, e, base, size, high) })

  module _ (j : IsInside s b) where
    -- the same cell in the segment, the same cell in memory
    pub same_cell : nat_eq (cell_of s b) (cell_of s a) ≡ nat_eq (b / 8) (a / 8)
    same_cell = go (cases_eq (b / 8) (a / 8))
      where
        go : (b / 8 ≡ a / 8) ⊎ (b / 8 ≡ a / 8 → ⊥) → nat_eq (cell_of s b) (cell_of s a) ≡ nat_eq (b / 8) (a / 8)
        go (inl e) =
            let base = h.base in let low = i.low in let lower = j.low in
            eq-eqb (cell_of s b) (cell_of s a) (omega (arith, e, base, low, lower)) ∙ sym (eq-eqb (b / 8) (a / 8) e)
        go (inr e) =
            let base = h.base in let low = i.low in let lower = j.low in
            ne_eqb (cell_of s b) (cell_of s a) (λ f. e (omega (arith, f, base, low, lower)))
            ∙ sym (ne_eqb (b / 8) (a / 8) e)

    same_card : nat_eq (card_of s b) (card_of s a) ≡ nat_eq (b / 2048) (a / 2048)
    same_card = go (cases_eq (b / 2048) (a / 2048))
      where
        go : (b / 2048 ≡ a / 2048) ⊎ (b / 2048 ≡ a / 2048 → ⊥)
            → nat_eq (card_of s b) (card_of s a) ≡ nat_eq (b / 2048) (a / 2048)
        go (inl e) =
            let base = h.base in let low = i.low in let lower = j.low in
            eq-eqb (card_of s b) (card_of s a) (omega (arith, e, base, low, lower))
            ∙ sym (eq-eqb (b / 2048) (a / 2048) e)
        go (inr e) =
            let base = h.base in let low = i.low in let lower = j.low in
            ne_eqb (card_of s b) (card_of s a) (λ f. e (omega (arith, f, base, low, lower)))
            ∙ sym (ne_eqb (b / 2048) (a / 2048) e)

-- there is a bit for each address of a segment
pub cell_room : (s : ShadeView) (a n : ℕ) → IsInside s a → s.size ≤ 512 * n → cell_of s a < 64 * n
cell_room s a n i room = let low = i.low in let high = i.high in omega (arith, low, high, room)

pub card_room : (s : ShadeView) (a n : ℕ) → IsInside s a → s.size ≤ 131072 * n → card_of s a < 64 * n
card_room s a n i room = let low = i.low in let high = i.high in omega (arith, low, high, room)

-- ---- all segments

-- a test that a change leaves says what it said
pub told_kept : (test : ShadeView → ℕ → Bool) (change : ShadeView → ShadeView)
    → ((s : ShadeView) (b : ℕ) → covers (change s) b ≡ covers s b)
    → ((s : ShadeView) (b : ℕ) → test (change s) b ≡ test s b)
    → (ss : List ShadeView) (a b : ℕ) → told test (changed_at a change ss) b ≡ told test ss b
told_kept test change same kept [] a b = refl
told_kept test change same kept (s ∷ ss) a b = go (covers s a) (told_kept test change same kept ss a b)
  where
    go : (x : Bool) → told test (changed_at a change ss) b ≡ told test ss b
        → told test (if x then change s ∷ ss else s ∷ changed_at a change ss) b ≡ told test (s ∷ ss) b
    go true more = λ j. if same s b j then kept s b j else told test ss b
    go false more = ap (λ r. if covers s b then test s b else r) more

pub covered_kept : (change : ShadeView → ShadeView) → ((s : ShadeView) (b : ℕ) → covers (change s) b ≡ covers s b)
    → (ss : List ShadeView) (a b : ℕ) → is_covered (changed_at a change ss) b ≡ is_covered ss b
covered_kept change same [] a b = refl
covered_kept change same (s ∷ ss) a b = go (covers s a) (covered_kept change same ss a b)
  where
    go : (x : Bool) → is_covered (changed_at a change ss) b ≡ is_covered ss b
        → is_covered (if x then change s ∷ ss else s ∷ changed_at a change ss) b ≡ is_covered (s ∷ ss) b
    go true more = ap (λ c. if c then true else is_covered ss b) (same s b)
    go false more = ap (λ r. if covers s b then true else r) more

pub apart_kept : (change : ShadeView → ShadeView) → ((s : ShadeView) (b : ℕ) → covers (change s) b ≡ covers s b)
    → (ss : List ShadeView) (a : ℕ) → AreApart ss → AreApart (changed_at a change ss)
apart_kept change same [] a apart = tt
apart_kept change same (s ∷ ss) a apart = go (covers s a) (apart_kept change same ss a apart.1)
  where
    go : (x : Bool) → AreApart (changed_at a change ss)
        → AreApart (if x then change s ∷ ss else s ∷ changed_at a change ss)
    go true more = (λ b e. apart.0 b (sym (same s b) ∙ e), apart.1)
    go false more = (λ b e. covered_kept change same ss a b ∙ apart.0 b e, more)

-- a change that moves no segment leaves them rising
pub rising_kept : (change : ShadeView → ShadeView) → ((s : ShadeView) → (change s).base ≡ s.base)
    → ((s : ShadeView) → (change s).size ≡ s.size) → (ss : List ShadeView) (a : ℕ) → AreRising ss
    → AreRising (changed_at a change ss)
rising_kept change base size [] a rising = tt
rising_kept change base size (s ∷ ss) a rising = go (covers s a) (rising_kept change base size ss a rising.1)
  where
    go : (x : Bool) → AreRising (changed_at a change ss)
        → AreRising (if x then change s ∷ ss else s ∷ changed_at a change ss)
    go true more =
        let same : s.base + s.size ≡ (change s).base + (change s).size = λ i. sym (base s) i + sym (size s) i in
        (subst (λ (n : ℕ). AllByRecursion (λ (t : ShadeView). n ≤ t.base) ss) same rising.0, rising.1)
    go false more = (
      all_changed (λ (t : ShadeView). s.base + s.size ≤ t.base) change a
          (λ t low e. subst (λ (n : ℕ). s.base + s.size ≤ n) (sym (base t)) low) ss rising.0,
      more,
    )

-- ---- a bit more

module _ (test : ShadeView → ℕ → Bool) (change : ℕ → ShadeView → ShadeView) (near : ℕ → ℕ → Bool)
    (same : (a : ℕ) (s : ShadeView) (b : ℕ) → covers (change a s) b ≡ covers s b)
    (beside : (s : ShadeView) → IsShade s → (a b : ℕ) → covers s a ≡ true → near b a ≡ true → covers s b ≡ true)
    (back : (s : ShadeView) → IsShade s → (a b : ℕ) → covers s b ≡ true → near b a ≡ true → covers s a ≡ true)
    (added : (s : ShadeView) → IsShade s → (a b : ℕ) → covers s a ≡ true → covers s b ≡ true
    → test (change a s) b ≡ (near b a || test s b)) where
  -- where some segment has the address, the test says yes near it, and else what it said
  pub told_more : (ss : List ShadeView) → AllByRecursion IsShade ss → (a b : ℕ) → is_covered ss a ≡ true
      → told test (changed_at a (change a) ss) b ≡ (near b a || told test ss b)
  told_more [] all a b e = absurd cc
  told_more (s ∷ ss) all a b e = go (covers s a) refl (covers s b) refl e (told_more ss all.1 a b)
    where
      far : near b a ≡ false → (r : Bool) → r ≡ (near b a || r)
      far f r = ap (λ n. n || r) (sym f)

      apart : (near b a ≡ true → ⊥) → near b a ≡ false
      apart never = elim (cases_Bool (near b a)) [ inl e ↦ absurd (never e) | inr f ↦ f ]

      go : (x : Bool) → covers s a ≡ x → (y : Bool) → covers s b ≡ y → (if x then true else is_covered ss a) ≡ true
          → (is_covered ss a ≡ true → told test (changed_at a (change a) ss) b ≡ (near b a || told test ss b))
          → told test (if x then change a s ∷ ss else s ∷ changed_at a (change a) ss) b
          ≡ (near b a || (if y then test s b else told test ss b))
      go true f true g e more =
          (λ j. if (same a s b ∙ g) j then test (change a s) b else told test ss b) ∙ added s all.0 a b f g
      go true f false g e more =
          (λ j. if (same a s b ∙ g) j then test (change a s) b else told test ss b)
          ∙ far (apart (λ n. both_ways (covers s b) g (beside s all.0 a b f n))) (told test ss b)
      go false f true g e more =
          (λ j. if g j then test s b else told test (changed_at a (change a) ss) b)
          ∙ far (apart (λ n. both_ways (covers s a) f (back s all.0 a b g n))) (test s b)
      go false f false g e more =
          (λ j. if g j then test s b else told test (changed_at a (change a) ss) b) ∙ more e

-- the same eight bytes, the same card
abbrev pub in_cell : ℕ → ℕ → Bool
in_cell b a = nat_eq (b / 8) (a / 8)

abbrev pub on_card : ℕ → ℕ → Bool
on_card b a = nat_eq (b / 2048) (a / 2048)

cell_beside : (s : ShadeView) → IsShade s → (a b : ℕ) → covers s a ≡ true → in_cell b a ≡ true → covers s b ≡ true
cell_beside s h a b e n = near_cell s h a b (covers_inside s a e) (eqb-true (b / 8) (a / 8) n)

cell_back : (s : ShadeView) → IsShade s → (a b : ℕ) → covers s b ≡ true → in_cell b a ≡ true → covers s a ≡ true
cell_back s h a b e n = near_cell s h b a (covers_inside s b e) (sym (eqb-true (b / 8) (a / 8) n))

card_beside : (s : ShadeView) → IsShade s → (a b : ℕ) → covers s a ≡ true → on_card b a ≡ true → covers s b ≡ true
card_beside s h a b e n = near_card s h a b (covers_inside s a e) (eqb-true (b / 2048) (a / 2048) n)

card_back : (s : ShadeView) → IsShade s → (a b : ℕ) → covers s b ≡ true → on_card b a ≡ true → covers s a ≡ true
card_back s h a b e n = near_card s h b a (covers_inside s b e) (sym (eqb-true (b / 2048) (a / 2048) n))

module _ (ss : List ShadeView) (all : AllByRecursion IsShade ss) (a b : ℕ) (e : is_covered ss a ≡ true) where
  pub marked_more : is_marked (changed_at a (with_marked a) ss) b ≡ (in_cell b a || is_marked ss b)
  marked_more =
      told_more (λ s a. has_bit s.marked (cell_of s a)) with_marked in_cell (λ a s b. refl) cell_beside cell_back
      (λ s h a b f g.
      bit_added s.marked (cell_of s a) (cell_room s a (length s.marked) (covers_inside s a f) h.marked) (cell_of s b)
      ∙ ap (λ n. n || has_bit s.marked (cell_of s b)) (same_cell s h a b (covers_inside s a f) (covers_inside s b g)))
      ss all a b e

  pub scanned_more : is_scanned (changed_at a (with_scanned a) ss) b ≡ (in_cell b a || is_scanned ss b)
  scanned_more =
      told_more (λ s a. has_bit s.scanned (cell_of s a)) with_scanned in_cell (λ a s b. refl) cell_beside cell_back
      (λ s h a b f g.
      bit_added s.scanned (cell_of s a) (cell_room s a (length s.scanned) (covers_inside s a f) h.scanned) (cell_of s b)
      ∙ ap (λ n. n || has_bit s.scanned (cell_of s b)) (same_cell s h a b (covers_inside s a f) (covers_inside s b g)))
      ss all a b e

  pub taken_more : is_taken (changed_at a (with_taken a) ss) b ≡ (in_cell b a || is_taken ss b)
  taken_more =
      told_more (λ s a. has_bit s.taken (cell_of s a)) with_taken in_cell (λ a s b. refl) cell_beside cell_back
      (λ s h a b f g.
      bit_added s.taken (cell_of s a) (cell_room s a (length s.taken) (covers_inside s a f) h.taken) (cell_of s b)
      ∙ ap (λ n. n || has_bit s.taken (cell_of s b)) (same_cell s h a b (covers_inside s a f) (covers_inside s b g)))
      ss all a b e

  pub logged_more : is_logged (changed_at a (with_logged a) ss) b ≡ (on_card b a || is_logged ss b)
  logged_more =
      told_more (λ s a. has_bit s.logged (card_of s a)) with_logged on_card (λ a s b. refl) card_beside card_back
      (λ s h a b f g.
      bit_added s.logged (card_of s a) (card_room s a (length s.logged) (covers_inside s a f) h.logged) (card_of s b)
      ∙ ap (λ n. n || has_bit s.logged (card_of s b)) (same_card s h a b (covers_inside s a f) (covers_inside s b g)))
      ss all a b e

-- ---- what holds of every background collection

pub marked_shade : (s : ShadeView) (n : ℕ) → IsShade s → IsShade (record s { marked = with_bit s.marked n })
marked_shade s n h = record {
  base = h.base;
  size = h.size;
  fits = h.fits;
  taken = h.taken;
  logged = h.logged;
  scanned = h.scanned;
  marked = subst (λ n. s.size ≤ 512 * n) (sym (with_bit_length s.marked n)) h.marked;
}

pub scanned_shade : (s : ShadeView) (n : ℕ) → IsShade s → IsShade (record s { scanned = with_bit s.scanned n })
scanned_shade s n h = record {
  base = h.base;
  size = h.size;
  fits = h.fits;
  taken = h.taken;
  logged = h.logged;
  marked = h.marked;
  scanned = subst (λ n. s.size ≤ 512 * n) (sym (with_bit_length s.scanned n)) h.scanned;
}

module _ (ss : List ShadeView) (a : ℕ) where
  pub logged_shades : AllByRecursion IsShade ss → AllByRecursion IsShade (changed_at a (with_logged a) ss)
  logged_shades = all_changed IsShade (with_logged a) a (λ s h e.
      record {
        base = h.base;
        size = h.size;
        fits = h.fits;
        taken = h.taken;
        marked = h.marked;
        scanned = h.scanned;
        logged = subst (λ n. s.size ≤ 131072 * n) (sym (with_bit_length s.logged (card_of s a))) h.logged;
      }) ss

  pub marked_shades : AllByRecursion IsShade ss → AllByRecursion IsShade (changed_at a (with_marked a) ss)
  marked_shades = all_changed IsShade (with_marked a) a (λ s h e. marked_shade s (cell_of s a) h) ss

  pub scanned_shades : AllByRecursion IsShade ss → AllByRecursion IsShade (changed_at a (with_scanned a) ss)
  scanned_shades = all_changed IsShade (with_scanned a) a (λ s h e. scanned_shade s (cell_of s a) h) ss

  pub taken_shades : AllByRecursion IsShade ss → AllByRecursion IsShade (changed_at a (with_taken a) ss)
  taken_shades = all_changed IsShade (with_taken a) a (λ s h e.
      record {
        base = h.base;
        size = h.size;
        fits = h.fits;
        scanned = h.scanned;
        logged = h.logged;
        marked = h.marked;
        taken = subst (λ n. s.size ≤ 512 * n) (sym (with_bit_length s.taken (cell_of s a))) h.taken;
      }) ss

  -- a logged card grays nothing
  pub logged_gray : (b : ℕ) → is_gray (changed_at a (with_logged a) ss) b ≡ is_gray ss b
  logged_gray b =
      let m = told_kept (λ s a. has_bit s.marked (cell_of s a)) (with_logged a) (λ s b. refl) (λ s b. refl) ss a b in
      let n = told_kept (λ s a. has_bit s.scanned (cell_of s a)) (with_logged a) (λ s b. refl) (λ s b. refl) ss a b in
      λ j. m j && not (n j)

  pub logged_background : IsBackground ss → IsBackground (changed_at a (with_logged a) ss)
  logged_background h = record {
    shades = logged_shades h.shades;
    apart = apart_kept (with_logged a) (λ s b. refl) ss a h.apart;
    rising = rising_kept (with_logged a) (λ s. refl) (λ s. refl) ss a h.rising;
  }

  pub marked_background : IsBackground ss → IsBackground (changed_at a (with_marked a) ss)
  marked_background h = record {
    shades = marked_shades h.shades;
    apart = apart_kept (with_marked a) (λ s b. refl) ss a h.apart;
    rising = rising_kept (with_marked a) (λ s. refl) (λ s. refl) ss a h.rising;
  }

  pub scanned_background : IsBackground ss → IsBackground (changed_at a (with_scanned a) ss)
  scanned_background h = record {
    shades = scanned_shades h.shades;
    apart = apart_kept (with_scanned a) (λ s b. refl) ss a h.apart;
    rising = rising_kept (with_scanned a) (λ s. refl) (λ s. refl) ss a h.rising;
  }

  -- where some segment has the address its card is logged, and else none
  pub logged_or_not : AllByRecursion IsShade ss → (b : ℕ) → is_logged (changed_at a (with_logged a) ss) b
      ≡ ((is_covered ss a && on_card b a) || is_logged ss b)
  logged_or_not all b = go (cases_Bool (is_covered ss a))
    where
      go : (is_covered ss a ≡ true) ⊎ (is_covered ss a ≡ false) → is_logged (changed_at a (with_logged a) ss) b
          ≡ ((is_covered ss a && on_card b a) || is_logged ss b)
      go (inl some) =
          logged_more ss all a b some ∙ ap (λ c. (c && on_card b a) || is_logged ss b) (sym some)
      go (inr none) =
          ap (λ ts. is_logged ts b) (none_changed (with_logged a) ss a none)
          ∙ ap (λ c. (c && on_card b a) || is_logged ss b) (sym none)

  -- a logged card colours nothing
  pub logged_colours : (b : ℕ) → colour_at (changed_at a (with_logged a) ss) b ≡ colour_at ss b
  logged_colours b =
      let s = told_kept (λ s a. has_bit s.scanned (cell_of s a)) (with_logged a) (λ s b. refl) (λ s b. refl) ss a b in
      let m = told_kept (λ s a. has_bit s.marked (cell_of s a)) (with_logged a) (λ s b. refl) (λ s b. refl) ss a b in
      let t = told_kept (λ s a. has_bit s.taken (cell_of s a)) (with_logged a) (λ s b. refl) (λ s b. refl) ss a b in
      λ j. colour_by (s j) (m j) (t j)
