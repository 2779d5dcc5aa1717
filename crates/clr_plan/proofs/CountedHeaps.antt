-- The objects of the parts of a collection, counted part by part.
use Rattle.std.proofs.Common.{◌≡◌, ◌≢◌, ℕ, suc, ◌+◌, ◌-◌, ◌^◌, ◌≤◌, List, length, sym, ap, ap₂, ◌∙◌, arith}
use Rattle.std.proofs.Common.{Bool, if◌then◌else◌}
use Rattle.clr_types.specs.Types.{TypeRow}
use Rattle.clr_heap.specs.View.{HeapView, items_between, last_of, sight}
use Rattle.clr_heap.proofs.Framing.{lawful_at}
use Rattle.clr_moves.specs.Moves.{part_of}
use Rattle.clr_moves.specs.declared.condemned.Condemned.TheVariants.{Generations}
use Rattle.clr_plan.specs.Counts.{counts_among, counts_between, counts_in, HasCounted, HaveCounted, IsAtMost, no_counts}
use Rattle.clr_plan.specs.Counts.{plus}
use Rattle.clr_plan.specs.Plans.{CanPlanHeap}
use Rattle.clr_plan.specs.declared.counts.Counts.{Counts}
use Rattle.clr_plan.proofs.Counting.{counted-whole, counts-append, none-plus}
use Rattle.clr_plan.proofs.CountingParts.{counts-over}
use Rattle.clr_plan.proofs.SplitScans.{IsSplit}
use Rattle.clr_plan.proofs.Takes.{takes-above, takes-none, takes-young}

module _ (rows : List TypeRow) (h : HeapView) (g e : ℕ) (can : CanPlanHeap rows h g e) where
  -- in a collection of generation 0 or 1 nothing stands in parts below the ephemeral segment
  pub lower-counted : g ≢ 2 → HaveCounted rows h (Generations g) e no_counts
  lower-counted ne =
      let none : 0 + e ≡ e = omega arith in
      record {
        counts = sym (ap (counts_in rows h (Generations g)) (sym none)
            ∙ counts-over rows h (Generations g) 0 e (λ t l m. takes-none rows h g e can ne t (omega (arith, m))));
        most = λ j l m. record { kept = omega arith; freed = omega arith };
      }

  -- then those of the ephemeral segment's part are all
  pub young-counts : g ≢ 2 → counts_in rows h (Generations g) (length h.segments)
      ≡ counts_between rows h e (part_of h (Generations g) e) (last_of h e)
  young-counts ne =
      let inside = can.inside in
      let all : suc e + (length h.segments - suc e) ≡ length h.segments = omega (arith, inside) in
      let mine = counts_between rows h e (part_of h (Generations g) e) (last_of h e) in
      ap (counts_in rows h (Generations g)) (sym all)
      ∙ counts-over rows h (Generations g) (suc e) (length h.segments - suc e)
      (λ t l m. takes-above rows h g e can t (omega (arith, l)) (omega (arith, m, inside)))
      ∙ ap (λ (b : Bool). plus (counts_in rows h (Generations g) e) (if b then mine else no_counts))
      (takes-young rows h g e can)
      ∙ ap (λ (c : Counts). plus c mine) (sym (lower-counted ne).counts) ∙ none-plus mine

  -- with those of the ephemeral segment's part, in two, all are counted
  module _ (lower upper : Counts) (below : HaveCounted rows h (Generations g) e lower)
      (split : IsSplit rows h e (part_of h (Generations g) e) h.start0 (last_of h e))
      (young : upper ≡ plus (counts_between rows h e (part_of h (Generations g) e) h.start0)
      (counts_between rows h e h.start0 (last_of h e))) where
    pub all-counted : plus lower upper ≡ counts_in rows h (Generations g) (length h.segments)
    all-counted =
        let inside = can.inside in
        let all : suc e + (length h.segments - suc e) ≡ length h.segments = omega (arith, inside) in
        ap₂ plus below.counts (young ∙ sym (ap (counts_among h) split.items
        ∙ counts-append h (items_between (sight rows h e) (part_of h (Generations g) e) h.start0)
        (items_between (sight rows h e) h.start0 (last_of h e))))
        ∙ sym (ap (λ (b : Bool). plus (counts_in rows h (Generations g) e)
        (if b then counts_between rows h e (part_of h (Generations g) e) (last_of h e) else no_counts))
        (takes-young rows h g e can))
        ∙ sym (counts-over rows h (Generations g) (suc e) (length h.segments - suc e)
        (λ t l m. takes-above rows h g e can t (omega (arith, l)) (omega (arith, m, inside))))
        ∙ ap (counts_in rows h (Generations g)) all

    -- and there are few
    pub all-few : upper.kept + part_of h (Generations g) e ≤ last_of h e
        → upper.freed + part_of h (Generations g) e ≤ last_of h e
        → IsAtMost (plus lower upper) (2 ^ 63)
    all-few kept freed =
        let few = below.most e (omega arith) can.inside in
        let a = few.kept in
        let b = few.freed in
        let high = split.above.high in
        let up = (lawful_at h e can.heap can.inside).low in
        record { kept = omega (arith, a, kept, up, high); freed = omega (arith, b, freed, up, high) }

-- two walks over two parts of a segment, one behind the other
pub two-counted : (rows : List TypeRow) (h : HeapView) (k low mid end : ℕ) (c d : Counts)
    → HasCounted rows h k mid low no_counts mid c → HasCounted rows h k end mid no_counts end d
    → (plus c d ≡ plus (counts_between rows h k low mid) (counts_between rows h k mid end))
    × (c.kept + d.kept + low ≤ end) × (c.freed + d.freed + low ≤ end)
two-counted rows h k low mid end c d s t =
    let (a, kept, freed) = counted-whole rows h k mid low c s in
    let (b, kept2, freed2) = counted-whole rows h k end mid d t in
    (ap₂ plus a b, omega (arith, kept, kept2), omega (arith, freed, freed2))
