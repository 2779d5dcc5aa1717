-- The small segments below the ephemeral one, as parts that are whole segments.
use Rattle.std.proofs.Common.{◌≡◌, ℕ, ◌+◌, ◌≤◌, inl, List, [], ◌++◌, refl, ap, subst, ◌∙◌, arith}
use Rattle.std.proofs.Common.{append_assoc}
use Rattle.clr_types.specs.Types.{TypeRow}
use Rattle.clr_heap.specs.View.{frame, HeapView, segment_at}
use Rattle.clr_heap.proofs.Framing.{lawful_at}
use Rattle.clr_view.specs.View.{layout_in}
use Rattle.clr_model.specs.Compaction.{first_pointer}
use Rattle.clr_model.proofs.PlugRoom.{ArePlugs}
use Rattle.clr_generations.specs.Tables.{AreBricksOf}
use Rattle.clr_pinq.specs.Queue.{QueueView}
use Rattle.clr_plugs.specs.BrickEntries.{BricksView}
use Rattle.clr_moves.specs.declared.condemned.Condemned.TheVariants.{Generations}
use Rattle.clr_plan.specs.Heaps.{part_plugs, plugs_below}
use Rattle.clr_plan.specs.Planned.{pinned_count}
use Rattle.clr_plan.specs.Plans.{CanPlanHeap, condemned_plugs, old_part, parts_in, young_plugs}
use Rattle.clr_plan.specs.Pointing.{IsAt}
use Rattle.clr_plan.specs.WholeParts.{CanLayWhole, CanPlanWhole, Wholes, wholes}
use Rattle.clr_plan.proofs.Ages.{lower-age}
use Rattle.clr_plan.proofs.Beginning.{among-at, opens-first, plugs-lie, pointer-first}
use Rattle.clr_plan.proofs.Takes.{older-is, part-lower, plugs-lower, taken-small, takes-young}

-- the small parts of a collection of generation 2, where e is the ephemeral segment
abbrev pub small_wholes : List TypeRow → HeapView → ℕ → Wholes
small_wholes rows h e = record {
  segments = parts_in rows h 2;
  pointer = first_pointer (layout_in rows h) 2 (parts_in rows h 2);
  plugs = part_plugs rows h 2 e;
  behind = old_part rows h 2 e ++ young_plugs rows h e;
}

pub small-all : (rows : List TypeRow) (h : HeapView) (e : ℕ) → CanPlanHeap rows h 2 e
    → condemned_plugs rows h 2 e ≡ wholes (small_wholes rows h e) h (Generations 2) e
small-all rows h e can =
    ap (λ ps. ps ++ young_plugs rows h e) (older-is rows h 2 e can)
    ∙ append_assoc (plugs_below rows h 2 e e) (old_part rows h 2 e) (young_plugs rows h e)

module _ (rows : List TypeRow) (h : HeapView) (e : ℕ) (can : CanPlanHeap rows h 2 e) where
  small-can : CanPlanWhole (small_wholes rows h e) rows h (Generations 2) e
  small-can = record {
    heap = can.heap;
    inside = (let i = can.inside in omega (arith, i));
    some = (e, can.inside, takes-young rows h 2 e can);
    lie = subst (ArePlugs (parts_in rows h 2)) (small-all rows h e can) (plugs-lie rows h 2 e can);
    opens = λ n is. (
      pointer-first rows h 2 e can refl n is,
      subst (λ ps. IsAt (parts_in rows h 2) [] ps (segment_at h n)
          (first_pointer (layout_in rows h) 2 (parts_in rows h 2)) []) (small-all rows h e can)
          (opens-first rows h 2 e can refl n is),
    );
    among = λ at k l on order high. among-at rows h 2 e can at k (omega (arith, l)) (taken-small 2 (segment_at h k) on)
        order high (inl refl);
    plugs_are = λ k l on. plugs-lower rows h 2 e can k l;
    starts = λ k l on. part-lower rows h 2 e can k l on;
    scans = λ k l on. can.scans k l;
    ages = λ k x l on low high. (let i = can.inside in
        let up = (lawful_at h k can.heap (omega (arith, l, i))).high in
        lower-age rows h 2 e can k x l (omega (arith, high, up)));
  }

-- THE SMALL PARTS can be laid
pub small-lays : (rows : List TypeRow) (h : HeapView) (g e : ℕ) → g ≡ 2 → CanPlanHeap rows h g e → (bricks : BricksView)
    (queue : QueueView) → AreBricksOf (frame h) bricks → queue.entries ≡ []
    → pinned_count (condemned_plugs rows h g e) + 4 ≤ queue.spare
    → CanLayWhole (small_wholes rows h e) rows h bricks queue (Generations 2) e
small-lays rows h g e two can bricks queue of empty spare =
    let can_two : CanPlanHeap rows h 2 e = subst (λ n. CanPlanHeap rows h n e) two can in
    record {
      can = small-can rows h e can_two;
      bricks_of = of;
      empty = empty;
      spare = subst (λ ps. pinned_count ps + 4 ≤ queue.spare) (small-all rows h e can_two)
          (subst (λ n. pinned_count (condemned_plugs rows h n e) + 4 ≤ queue.spare) two spare);
    }
