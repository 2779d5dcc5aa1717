-- A walk that begins at a place that no item reaches over.
use Rattle.std.proofs.Common.{◌≡◌, ◌⊎◌, inl, inr, ℕ, ◌+◌, ◌%◌, ◌≤◌, List, [], ◌∷◌, ◌++◌, refl, ap, ap₂, sym, ◌∙◌}
use Rattle.std.proofs.Common.{subst, arith, None}
use Rattle.clr_mem.specs.Words.{Memory}
use Rattle.clr_types.specs.Rising.{first, IsIn, later}
use Rattle.clr_types.specs.declared.item.Item.{Item}
use Rattle.clr_heap.specs.Parts.{hole_from, item_part, items_in, Part, parts, rest_part, Sight, Spells}
use Rattle.clr_heap.specs.View.{CanWalk, items_between}
use Rattle.clr_heap.proofs.Spelling.{item_size}
use Rattle.clr_heap.proofs.Walking.{CanWalk-from, spelled_parts}
use Rattle.clr_view.proofs.Listings.{items-append}

-- parts that end at c, and parts that start there
record IsSplit (s : Sight) (ps : List Part) (p c e : ℕ) : Type 0 where
  low : List Part
  high : List Part
  pub all : ps ≡ low ++ high
  pub below : Spells s p low c
  pub above : Spells s c high e

split_at : (s : Sight) (ps : List Part) (p c e : ℕ) → Spells s p ps e → p ≤ c → c ≤ e
    → ((q : ℕ) → hole_from s.holes q ≡ None)
    → ((i : Item) → IsIn i (items_in ps) → (c ≤ i.place) ⊎ (i.place + i.size ≤ c)) → IsSplit s ps p c e
split_at s [] p c e h low high none whole =
    record { low = []; high = []; all = refl; below = omega (arith, h); above = omega (arith, h) }
split_at s (item_part i ∷ ps) p c e h low high none whole =
    let f = item_size s i p h.1 h.2 in
    let place = f.2 in
    let least = f.0 in
    elim (whole i first) [
      | inl up ↦
          let at : p ≡ c = omega arith in
          record {
            low = [];
            high = item_part i ∷ ps;
            all = refl;
            below = at;
            above =
                subst (λ q. Spells s q (item_part i ∷ ps) e) at h;
          }
      | inr down ↦
          let rest = split_at s ps (p + i.size) c e h.3 (omega arith) high none (λ j l. whole j (later l)) in
          record {
            low = item_part i ∷ rest.low;
            high = rest.high;
            all = ap (λ qs. item_part i ∷ qs) rest.all;
            below =
                (h.0, h.1, h.2, rest.below);
            above = rest.above;
          }
    ]
split_at s (rest_part low_end high_end ∷ ps) p c e h low high none whole = let hole = h.1 in let no_hole = none p in
    absurd cc

-- a walk that can be begun at c too
pub record IsWalkedAt (s : Sight) (ms : List Memory) (p c e : ℕ) : Type 0 where
  pub below : CanWalk s ms p c
  pub above : CanWalk s ms c e
  pub items : items_between s p e ≡ items_between s p c ++ items_between s c e

pub walked_at : (s : Sight) (ms : List Memory) (p c e : ℕ) → CanWalk s ms p e → c % 8 ≡ 0 → p ≤ c → c ≤ e
    → ((q : ℕ) → hole_from s.holes q ≡ None)
    → ((i : Item) → IsIn i (items_between s p e) → (c ≤ i.place) ⊎ (i.place + i.size ≤ c)) → IsWalkedAt s ms p c e
walked_at s ms p c e w z low high none whole =
    let cut = split_at s (parts e s p e) p c e w.spelled low high none whole in
    record {
      below = CanWalk-from s ms cut.low p c w.start cut.below (λ a za lo hi. w.held a za lo (omega arith));
      above = CanWalk-from s ms cut.high c e z cut.above (λ a za lo hi. w.held a za (omega arith) hi);
      items = ap items_in cut.all ∙ items-append cut.low cut.high
          ∙ sym (ap₂ (λ (xs ys : List Part). items_in xs ++ items_in ys) (spelled_parts s cut.low p c cut.below)
          (spelled_parts s cut.high c e cut.above));
    }
