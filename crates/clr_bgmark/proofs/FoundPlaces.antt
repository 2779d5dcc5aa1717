-- The search for places that are gray or black: which were passed.
use Rattle.std.proofs.Common.{◌≡◌, ℕ, zero, suc, ◌+◌, ◌/◌, ◌%◌, ◌<◌, ◌≤◌, ◌⊎◌, inl, inr, List, [], ◌∷◌, length, refl}
use Rattle.std.proofs.Common.{sym, ap, subst, ◌∙◌, arith, Bool, true, false, if◌then◌else◌, get_or}
use Rattle.std.specs.List.{AllByRecursion}
use Rattle.std.proofs.lemmas.Bool.{cases_eq, cases_lt, both_ways}
use Rattle.clr_bgmark.specs.Bits.{has_bit}
use Rattle.clr_bgmark.specs.Pauses.{IsBehind, IsFound, IsNextFound, Passes, PassesCell}
use Rattle.clr_bgmark.specs.Shades.{ShadeView, AreApart, cell_of, covers, is_marked, IsAt, IsShade}
use Rattle.clr_bgmark.specs.declared.shade.Search.{Search}
use Rattle.clr_bgmark.proofs.Lookups.{at_within, read_covers}
use Rattle.clr_bgmark.proofs.GrayPlaces.{covers_told}
use Rattle.clr_bgmark.proofs.PassedCells.{marked_in, passes_at}

-- a marked place stands in some segment
pub marked_at : (ss : List ShadeView) (a : ℕ) → is_marked ss a ≡ true → (k : ℕ) × IsAt ss k a
marked_at [] a e = absurd cc
marked_at (s ∷ ss) a e = go (covers s a) refl e (marked_at ss a)
  where
    go : (x : Bool) → covers s a ≡ x → (if x then has_bit s.marked (cell_of s a) else is_marked ss a) ≡ true
        → (is_marked ss a ≡ true → (k : ℕ) × IsAt ss k a) → (k : ℕ) × IsAt (s ∷ ss) k a
    go true f g more = (zero, f)
    go false f g more = let (k, at) = more g in (suc k, (f, at))

-- where a place is behind a spot
pub behind_lower : (ss : List ShadeView) (j k from b : ℕ) → IsAt ss j b → j < k → IsBehind ss k from b
behind_lower [] j k from b at l = absurd at
behind_lower (s ∷ ss) zero zero from b at l = absurd (omega arith)
behind_lower (s ∷ ss) zero (suc k) from b at l = inl at
behind_lower (s ∷ ss) (suc j) zero from b at l = absurd (omega arith)
behind_lower (s ∷ ss) (suc j) (suc k) from b at l = inr (behind_lower ss j k from b at.1 (omega arith))

pub behind_here : (ss : List ShadeView) (k from b : ℕ) → IsAt ss k b → b / 8 < from / 8 → IsBehind ss k from b
behind_here [] k from b at l = absurd at
behind_here (s ∷ ss) zero from b at l = (at, l)
behind_here (s ∷ ss) (suc k) from b at l = inr (behind_here ss k from b at.1 l)

-- and what a place that is behind it is
pub behind_parts : (ss : List ShadeView) → AreApart ss → (j k from b : ℕ) → IsAt ss j b → IsBehind ss k from b
    → (j < k) ⊎ ((j ≡ k) × (b / 8 < from / 8))
behind_parts [] apart j k from b at l = absurd at
behind_parts (s ∷ ss) apart zero zero from b at l = inr (refl, l.1)
behind_parts (s ∷ ss) apart zero (suc k) from b at l = inl (omega arith)
behind_parts (s ∷ ss) apart (suc j) zero from b at l = absurd (both_ways (covers s b) at.0 l.0)
behind_parts (s ∷ ss) apart (suc j) (suc k) from b at (inl here) = absurd (both_ways (covers s b) at.0 here)
behind_parts (s ∷ ss) apart (suc j) (suc k) from b at (inr l) =
    elim (behind_parts ss apart.1 j k from b at.1 l) [
      | inl low ↦ inl (omega arith)
      | inr p ↦ inr (ap suc p.0, p.1)
    ]

-- from a spot on, all found places of the segments before k were passed, and those of segment k below `from`, but
-- those of which a search tells that it passes over them
abbrev pub IsPassed : Search → List ShadeView → ℕ → ℕ → ℕ → ℕ → Type 0
IsPassed search ss k0 from0 k from =
    (b : ℕ) → IsFound ss b → IsBehind ss k from b → IsBehind ss k0 from0 b ⊎ Passes search ss b

module _ (search : Search) (ss : List ShadeView) (apart : AreApart ss) (all : AllByRecursion IsShade ss)
    (k0 from0 k from : ℕ) (passed : IsPassed search ss k0 from0 k from) (s : ShadeView) (read : s ≡ get_or ss k s) where
  -- a found place below in the segment was passed
  low : (b : ℕ) → IsFound ss b → IsAt ss k b → b / 8 < from / 8 → IsBehind ss k0 from0 b ⊎ Passes search ss b
  low b f at l = passed b f (behind_here ss k from b at l)

  -- one over which the search passes there
  over : (b : ℕ) → IsFound ss b → IsAt ss k b
      → (covers s b ≡ true → has_bit s.marked (cell_of s b) ≡ true → PassesCell search s (cell_of s b))
      → Passes search ss b
  over b f at tells =
      passes_at search ss apart all k b s read at
      (tells (read_covers ss k b s read at) (marked_in ss k b s read at ∙ f.1))

  -- where the search passes over all that the segment has from there on, it is passed
  pub passed_segment : ((b : ℕ) → covers s b ≡ true → from / 8 ≤ b / 8 → has_bit s.marked (cell_of s b) ≡ true
      → PassesCell search s (cell_of s b))
      → IsPassed search ss k0 from0 (suc k) 0
  passed_segment none b f behind = go (marked_at ss b f.1)
    where
      go : (j : ℕ) × IsAt ss j b → IsBehind ss k0 from0 b ⊎ Passes search ss b
      go (j, at) = elim (behind_parts ss apart j (suc k) 0 b at behind) [
        | inl l ↦ by (cases_eq j k) l
        | inr p ↦ let below = p.1 in absurd (omega arith)
      ]
        where
          here : IsAt ss k b → (b / 8 < from / 8) ⊎ (from / 8 ≤ b / 8) → IsBehind ss k0 from0 b ⊎ Passes search ss b
          here at (inl l) = low b f at l
          here at (inr l) = inr (over b f at (λ there marked. none b there l marked))

          by : (j ≡ k) ⊎ (j ≡ k → ⊥) → j < suc k → IsBehind ss k0 from0 b ⊎ Passes search ss b
          by (inl e) l = here (subst (λ n. IsAt ss n b) e at) (cases_lt (b / 8) (from / 8))
          by (inr ne) l = passed b f (behind_lower ss j k from b at (omega (arith, l, ne)))

  -- the first one from there on, besides those, is the next
  pub found_next : (a : ℕ) → k < length ss → covers s a ≡ true → a % 8 ≡ 0
      → has_bit s.marked (cell_of s a) ≡ true
      → ((b : ℕ) → covers s b ≡ true → from / 8 ≤ b / 8 → b / 8 < a / 8 → has_bit s.marked (cell_of s b) ≡ true
      → PassesCell search s (cell_of s b))
      → IsNextFound search ss k0 from0 k a
  found_next a l there whole marked first = record {
    at = at_a;
    found = (whole, sym (marked_in ss k a s read at_a) ∙ marked);
    next = λ b f behind. go b f behind (marked_at ss b f.1);
  }
    where
      at_a : IsAt ss k a
      at_a = covers_told ss k a s read apart l there

      earlier : (b : ℕ) → IsBehind ss k0 from0 b ⊎ Passes search ss b
          → (IsBehind ss k0 from0 b ⊎ (b ≡ a)) ⊎ Passes search ss b
      earlier b (inl behind) = inl (inl behind)
      earlier b (inr p) = inr p

      go : (b : ℕ) → IsFound ss b → IsBehind ss k (a + 8) b → (j : ℕ) × IsAt ss j b
          → (IsBehind ss k0 from0 b ⊎ (b ≡ a)) ⊎ Passes search ss b
      go b f behind (j, at) = elim (behind_parts ss apart j k (a + 8) b at behind) [
        | inl less ↦ earlier b (passed b f (behind_lower ss j k from b at less))
        | inr p ↦ by (subst (λ n. IsAt ss n b) p.0 at) p.1 (cases_eq (b / 8) (a / 8)) (cases_lt (b / 8) (from / 8))
      ]
        where
          by : IsAt ss k b → b / 8 < (a + 8) / 8 → (b / 8 ≡ a / 8) ⊎ (b / 8 ≡ a / 8 → ⊥)
              → (b / 8 < from / 8) ⊎ (from / 8 ≤ b / 8) → (IsBehind ss k0 from0 b ⊎ (b ≡ a)) ⊎ Passes search ss b
          by at less (inl e) far = let even = f.0 in inl (inr (omega (arith, e, even, whole)))
          by at less (inr ne) (inl l) = earlier b (low b f at l)
          by at less (inr ne) (inr l) =
              inr (over b f at (λ there marked. first b there l (omega (arith, less, ne)) marked))

-- where all segments are passed, so is every found place
pub all_passed : (search : Search) (ss : List ShadeView) (k0 from0 k from : ℕ) → IsPassed search ss k0 from0 k from
    → length ss ≤ k → (a : ℕ) → IsFound ss a → IsBehind ss k0 from0 a ⊎ Passes search ss a
all_passed search ss k0 from0 k from passed l a f =
    let (j, at) = marked_at ss a f.1 in
    let below = at_within ss j a at in
    passed a f (behind_lower ss j k from a at (omega (arith, below, l)))

-- nothing is behind the first spot
pub behind_none : (ss : List ShadeView) (a : ℕ) → IsBehind ss 0 0 a → ⊥
behind_none [] a v = v
behind_none (s ∷ ss) a v = let low = v.1 in omega arith
