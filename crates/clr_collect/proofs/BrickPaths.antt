-- Bricks whose entries stay say the same of their segment.
use Rattle.std.proofs.Common.{◌≡◌, inl, inr, ℕ, suc, ◌-◌, ◌/◌, ◌≤◌, List, refl, sym, ◌∙◌, arith}
use Rattle.std.proofs.lemmas.Bool.{cases_lt}
use Rattle.std.specs.Prelude.{ℤ}
use Rattle.clr_types.specs.LawfulLayout.{IsLawfulSegment}
use Rattle.clr_types.specs.Segments.{Layout}
use Rattle.clr_types.specs.Types.{TypeRow}
use Rattle.clr_types.specs.declared.segment.SegInfo.{SegInfo}
use Rattle.clr_types.proofs.SegmentFacts.{stands-between}
use Rattle.clr_bricks.specs.Bricks.{back, here, IsRoot, LeadsBack}
use Rattle.clr_model.specs.Machine.{Object}
use Rattle.clr_generations.specs.Laws.{AreEntered, IsBrickOf, LeadsToNearest, ReachesInto}
use Rattle.clr_collect.proofs.CoveredSegments.{brick-inside}

-- back entries lead down
pub leads_down : (entry : ℕ → ℤ) (low from to n : ℕ) → LeadsBack entry low from to n → to ≤ from
leads_down entry low from to n here = omega arith
leads_down entry low from to n (back k e l path) =
    let ih = leads_down entry low (from - suc k) to _ path in
    omega arith

-- and the same way where they stay
pub leads_kept : (old new : ℕ → ℤ) (low from to n : ℕ) → LeadsBack old low from to n
    → ((b : ℕ) → to ≤ b → b ≤ from → new b ≡ old b) → LeadsBack new low from to n
leads_kept old new low from to n here same = here
leads_kept old new low from to n (back k e l path) same =
    let down = leads_down old low (from - suc k) to _ path in
    back k (same from (omega arith) (omega arith) ∙ e) l
    (leads_kept old new low (from - suc k) to _ path (λ b below above. same b below (omega arith)))

module _ (rows : List TypeRow) (layout : Layout) (objects : List Object) (s : SegInfo) (lawful : IsLawfulSegment s)
    (old new : ℕ → ℤ) (same : (b : ℕ) → IsBrickOf s b → new b ≡ old b)
    (inside : (b : ℕ) → IsBrickOf s b → (r : ReachesInto rows layout objects b) → s.base ≤ r.object.place) where
  root_kept : (b : ℕ) → IsBrickOf s b → IsRoot (old b) → IsRoot (new b)
  root_kept b of (offset, is) = (offset, same b of ∙ is)

  nearest_kept : (b : ℕ) → IsBrickOf s b → ReachesInto rows layout objects b → LeadsToNearest layout objects old b
      → LeadsToNearest layout objects new b
  nearest_kept b of r n =
      let low = inside b of r in
      let base = lawful.base in
      let from = r.from in
      let near : r.object.place / 4096 ≤ n.below = elim (cases_lt n.below (r.object.place / 4096)) [
        | inl up ↦ absurd (n.nearest r.object.place (r.object, r.present, refl) up from)
        | inr down ↦ down
      ] in
      let first : s.base / 4096 ≤ n.below = omega arith in
      let last = of.1 in
      record {
        below = n.below;
        lower = n.lower;
        place = n.place;
        leader = n.leader;
        count = n.count;
        path = leads_kept old new 0 b n.below n.count n.path (λ c low high. same c (omega arith, omega arith));
        nearest = n.nearest;
      }

  -- WHAT THE ENTRIES SAY stays
  pub entered_kept : AreEntered rows layout objects old s → AreEntered rows layout objects new s
  entered_kept e = record {
    named = λ b offset of is. e.named b offset of (sym (same b of) ∙ is);
    starts = λ place there stands may.
        let (low, high) = stands-between s place stands in
        let of = brick-inside s lawful place (omega arith) high in
        root_kept (place / 4096) of (e.starts place there stands may);
    reached = λ b of r. elim (e.reached b of r) [
      | inl root ↦ inl (root_kept b of root)
      | inr leads ↦ inr (nearest_kept b of r leads)
    ];
  }
