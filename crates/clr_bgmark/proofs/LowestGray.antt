-- The gray place that is taken is the lowest one.
use Rattle.std.proofs.Common.{◌≡◌, ℕ, ◌+◌, ◌-◌, ◌/◌, ◌%◌, ◌<◌, ◌≤◌, ◌&&◌, not, true, false, Bool, inl, inr, List, length}
use Rattle.std.proofs.Common.{refl, sym, ap, subst, ◌∙◌, arith, get_or}
use Rattle.std.specs.List.{AllByRecursion}
use Rattle.std.proofs.lemmas.Bool.{both_ways, cases_eq, cases_lt}
use Rattle.std.proofs.lemmas.List.{get_or_default}
use Rattle.clr_bgmark.specs.Bits.{has_bit}
use Rattle.clr_bgmark.specs.Shades.{cell_of, covers, is_gray, is_gray_cell, is_marked, is_scanned, IsAt, IsShade}
use Rattle.clr_bgmark.specs.Shades.{IsWatched, ShadeView}
use Rattle.clr_bgmark.proofs.FoundPlaces.{marked_at}
use Rattle.clr_bgmark.proofs.GrayPlaces.{apart_at}
use Rattle.clr_bgmark.proofs.Kept.{covers_inside}
use Rattle.clr_bgmark.proofs.Lookups.{all_get, at_covers, at_told, at_within}
use Rattle.clr_bgmark.proofs.Rising.{rising_order}
use Rattle.clr_bgmark.proofs.Watched.{gray_waits}

first_true : (b c : Bool) → (b && c) ≡ true → b ≡ true
first_true true c e = refl
first_true false c e = e

module _ (ss : List ShadeView) (pending : List ℕ) (watched : IsWatched ss pending) (k a : ℕ) (s : ShadeView)
    (read : s ≡ get_or ss k s) (above : (n : ℕ) → has_bit pending n ≡ true → k ≤ n) (within : k < length ss)
    (covered : covers s a ≡ true) (aligned : a % 8 ≡ 0)
    (first : (n : ℕ) → n < cell_of s a → is_gray_cell s n ≡ false) where
  -- a gray place of the segment
  here : (b : ℕ) → covers s b ≡ true → is_gray_cell s (cell_of s b) ≡ true → a ≤ b
  here b there gray = elim (cases_lt (cell_of s b) (cell_of s a)) [
    | inl less ↦ absurd (both_ways (is_gray_cell s (cell_of s b)) (first (cell_of s b) less) gray)
    | inr up ↦
        let at = apart_at ss k a s watched.background.apart within
        (ap (λ (t : ShadeView). covers t a) (sym read) ∙ covered) in
        let base = (all_get IsShade ss k a s watched.background.shades at).base in
        let same : s.base ≡ (get_or ss k s).base = ap (λ (t : ShadeView). t.base) read in
        let low = (covers_inside s a covered).low in
        let low-b = (covers_inside s b there).low in
        omega (arith, up, base, same, low, low-b, aligned)
  ]

  pub lowest_gray : (b : ℕ) → is_gray ss b ≡ true → a ≤ b
  lowest_gray b gray = go (marked_at ss b (first_true (is_marked ss b) (not (is_scanned ss b)) gray))
    where
      go : (j : ℕ) × IsAt ss j b → a ≤ b
      go (j, at) =
          let t = get_or ss j s in
          let m = at_told (λ s a. has_bit s.marked (cell_of s a)) ss j b s at in
          let n = at_told (λ s a. has_bit s.scanned (cell_of s a)) ss j b s at in
          let cell : is_gray_cell t (cell_of t b) ≡ true = sym (λ i. m i && not (n i)) ∙ gray in
          let inside = at_within ss j b at in
          let there : covers t b ≡ true = at_covers ss j b s at in
          let waits : has_bit pending j ≡ true =
          gray_waits ss pending j b t (get_or_default ss j s t inside) watched inside there cell in
          let up = above j waits in
          elim (cases_eq k j) [
            | inl e ↦
                let is : t ≡ s = ap (λ (i : ℕ). get_or ss i s) (sym e) ∙ sym read in
                here b (ap (λ (u : ShadeView). covers u b) (sym is) ∙ there)
                (ap (λ (u : ShadeView). is_gray_cell u (cell_of u b)) (sym is) ∙ cell)
            | inr ne ↦
                let order = rising_order ss k j s watched.background.rising (omega (arith, up, ne)) inside in
                let end : s.base + s.size ≡ (get_or ss k s).base + (get_or ss k s).size =
                ap (λ (u : ShadeView). u.base + u.size) read in
                let high = (covers_inside s a covered).high in
                let low = (covers_inside t b there).low in
                omega (arith, order, end, high, low)
          ]
