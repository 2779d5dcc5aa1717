-- A part of a segment in two, at a place that no item crosses.
use Rattle.std.proofs.Common.{◌≡◌, ℕ, ◌+◌, ◌%◌, ◌<◌, ◌≤◌, ◌⊎◌, inl, inr, List, [], ◌∷◌, ◌++◌, refl, sym, ap, ap₂, subst}
use Rattle.std.proofs.Common.{◌∙◌, arith, None, Some, Option, length}
use Rattle.clr_types.specs.Rising.{IsIn, first, later}
use Rattle.clr_types.specs.Types.{TypeRow}
use Rattle.clr_types.specs.declared.item.Item.{Item}
use Rattle.clr_heap.specs.Parts.{hole_from, item_part, items_in, Part, parts, rest_part, Sight, Spells}
use Rattle.clr_heap.specs.View.{CanWalk, first_of, HeapView, IsHeap, IsWalkable, items_between, last_of, no_rests}
use Rattle.clr_heap.specs.View.{sight}
use Rattle.clr_heap.proofs.Spelling.{place-item_at}
use Rattle.clr_heap.proofs.Walking.{CanWalk-from, spelled_parts}
use Rattle.clr_view.proofs.Listings.{items-append}
use Rattle.clr_sweep.specs.SweptSegments.{IsParted}
use Rattle.clr_sweep.proofs.Parting.{none_between}
use Rattle.clr_sweep.proofs.PassEnds.{home_is}
use Rattle.clr_sweep.proofs.Passing.{IsHome}
use Rattle.clr_plan.specs.Scans.{CanScan}

-- what spells parts, in two
pub record IsCut (s : Sight) (ps : List Part) (p c e : ℕ) : Type 0 where
  pub low : List Part
  pub high : List Part
  pub whole : ps ≡ low ++ high
  pub below : Spells s p low c
  pub above : Spells s c high e

cut : (s : Sight) → ((q : ℕ) → hole_from s.holes q ≡ None) → (ps : List Part) (p c e : ℕ) → Spells s p ps e → p ≤ c
    → c ≤ e → ((i : Item) → IsIn i (items_in ps) → (c ≤ i.place) ⊎ (i.place + i.size ≤ c)) → IsCut s ps p c e
cut s none [] p c e h l m whole = record { low = []; high = []; whole = refl; below = omega arith; above = omega arith }
cut s none (rest_part low high ∷ ps) p c e h l m whole = absurd (holds h.1 (none p))
  where
    holds : {o : Option ℕ} {n : ℕ} → o ≡ Some n → o ≡ None → ⊥
    holds a b = absurd cc
cut s none (item_part i ∷ ps) p c e h l m whole = go (whole i first) (λ u. cut s none ps (p + i.size) c e h.3 u m
    (λ j n. whole j (later n)))
  where
    place : i.place ≡ p
    place = ap (λ (j : Item). j.place) h.1 ∙ place-item_at s.rows s.word p

    go : (c ≤ i.place) ⊎ (i.place + i.size ≤ c) → (p + i.size ≤ c → IsCut s ps (p + i.size) c e)
        → IsCut s (item_part i ∷ ps) p c e
    go (inl k) more = let at = place in let same : p ≡ c = omega arith in
        record {
          low = [];
          high = item_part i ∷ ps;
          whole = refl;
          below = same;
          above = subst (λ n. Spells s n (item_part i ∷ ps) e) same h;
        }
    go (inr k) more =
        let at = place in
        let rest : IsCut s ps (p + i.size) c e = more (omega arith) in
        record {
          low = item_part i ∷ rest.low;
          high = rest.high;
          whole = ap (λ qs. item_part i ∷ qs) rest.whole;
          below = (h.0, h.1, h.2, rest.below);
          above = rest.above;
        }

-- the part in two
pub record IsSplit (rows : List TypeRow) (h : HeapView) (k p c e : ℕ) : Type 0 where
  pub below : CanScan rows h k p c
  pub above : CanScan rows h k c e
  pub items : items_between (sight rows h k) p e ≡ items_between (sight rows h k) p c ++ items_between (sight rows h k)
      c e

pub scan-split : (rows : List TypeRow) (h : HeapView) (k p c e : ℕ) → CanScan rows h k p e → c % 8 ≡ 0 → p ≤ c → c ≤ e
    → ((i : Item) → IsIn i (items_between (sight rows h k) p e) → (c ≤ i.place) ⊎ (i.place + i.size ≤ c))
    → IsSplit rows h k p c e
scan-split rows h k p c e s z l m whole =
    let is : IsCut (sight rows h k) (parts e (sight rows h k) p e) p c e = cut (sight rows h k) s.none
    (parts e (sight rows h k) p e) p c e s.walk.spelled l m whole in
    let up = s.up in
    let high = s.high in
    record {
      below = record {
        walk = CanWalk-from (sight rows h k) h.memories is.low p c s.walk.start is.below
            (λ a y lo hi. s.walk.held a y lo (omega arith));
        index = λ b lo hi. s.index b lo (omega arith);
        none = s.none;
        up = s.up;
        high = omega arith;
      };
      above = record {
        walk = CanWalk-from (sight rows h k) h.memories is.high c e z is.above
            (λ a y lo hi. s.walk.held a y (omega arith) hi);
        index = λ b lo hi. s.index b (omega arith) hi;
        none = s.none;
        up = omega arith;
        high = s.high;
      };
      items = ap items_in is.whole ∙ items-append is.low is.high
          ∙ sym (ap₂ (λ (xs ys : List Part). items_in xs ++ items_in ys) (spelled_parts (sight rows h k) is.low p c
          is.below) (spelled_parts (sight rows h k) is.high c e is.above));
    }

-- from a place to itself there is nothing to walk over
no-walk : (rows : List TypeRow) (h : HeapView) (k : ℕ) → first_of h k % 8 ≡ 0 → CanWalk (sight rows h k) h.memories
    (first_of h k) (first_of h k)
no-walk rows h k z = record {
  start = z;
  spelled = subst (λ ps. Spells (sight rows h k) (first_of h k) ps (first_of h k))
      (sym (none_between (sight rows h k) (first_of h k) (first_of h k))) refl;
  held = λ a y low high. absurd (omega arith);
}

-- a whole segment can be scanned
pub scan-segment : (rows : List TypeRow) (h : HeapView) (k : ℕ) → IsHeap h → k < length h.segments → IsWalkable rows h k
    → h.rests ≡ no_rests → CanScan rows h k (first_of h k) (last_of h k)
scan-segment rows h k heap inside walk none =
    let parted : IsParted rows h k (first_of h k) = record { below = no-walk rows h k walk.start; above = walk } in
    let is : IsHome rows h k (first_of h k) (last_of h k) = home_is rows h k heap (first_of h k) inside parted none in
    record { walk = is.walk; index = is.index; none = is.none; up = is.up; high = is.high }
