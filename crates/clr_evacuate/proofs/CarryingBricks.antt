-- Bricks while runs are carried, object by object.
use Rattle.std.proofs.Common.{◌≡◌, inl, inr, ℕ, ◌-◌, ◌<◌, ◌≤◌, true, List, refl, ap, sym, ◌∙◌, subst, arith}
use Rattle.std.proofs.Common.{map, ℤ}
use Rattle.clr_types.specs.Ranges.{Piece, piece_end}
use Rattle.clr_types.specs.Segments.{ephemeral, Layout, stands_in}
use Rattle.clr_types.specs.Types.{TypeRow}
use Rattle.clr_bricks.specs.Bricks.{entry_at}
use Rattle.clr_covers.specs.Covers.{CoverView, spans}
use Rattle.clr_heap.specs.View.{frame, HeapView, SameShape}
use Rattle.clr_view.specs.View.{objects_in}
use Rattle.clr_view.proofs.Bearing.{fits-is}
use Rattle.clr_generations.specs.Laws.{BrickLaw}
use Rattle.clr_generations.specs.Tables.{AreBricksOf, units_of}
use Rattle.clr_evacuate.specs.Left.{IsOldHome}
use Rattle.clr_evacuate.proofs.CarryingRuns.{IsCarrying, to_at}

-- ---- laws

-- the bricks stay those of the segments, and keep their law
pub record KeepBricks (rows : List TypeRow) (h now : HeapView) (old bricks : List (CoverView ℤ)) : Type 0 where
  pub law : BrickLaw rows (frame h) (objects_in rows h) (entry_at old)
      → BrickLaw rows (frame now) (objects_in rows now) (entry_at bricks)
  pub spans : spans bricks ≡ spans old

pub bricks_start : (rows : List TypeRow) (h : HeapView) (old : List (CoverView ℤ)) → KeepBricks rows h h old old
bricks_start rows h old = record { law = λ l. l; spans = refl }

-- and keep it in one step more
pub bricks_more : (rows : List TypeRow) (h now new : HeapView) (old bricks after : List (CoverView ℤ))
    → KeepBricks rows h now old bricks
    → (BrickLaw rows (frame now) (objects_in rows now) (entry_at bricks)
    → BrickLaw rows (frame new) (objects_in rows new) (entry_at after))
    → spans after ≡ spans bricks → KeepBricks rows h new old after
bricks_more rows h now new old bricks after k law same = record { law = λ l. law (k.law l); spans = same ∙ k.spans }

-- they are still those of the heap
pub bricks_now : (rows : List TypeRow) (h now : HeapView) (old bricks : List (CoverView ℤ)) → SameShape h now
    → AreBricksOf (frame h) old → KeepBricks rows h now old bricks → AreBricksOf (frame now) bricks
bricks_now rows h now old bricks shape has k =
    k.spans ∙ has ∙ sym (ap (λ (g : HeapView). map (units_of 4096) g.segments) shape.others)

-- ---- a run

module _ (rows : List TypeRow) (h now : HeapView) (plug item : Piece) (place : ℕ)
    (c : IsCarrying rows h now plug item place) (below : place < piece_end plug) where
  -- the frame is that of before
  frame_is : frame now ≡ frame h
  frame_is = ap frame c.shape.others

  pub carrying_inside : ((p : ℕ) → plug.place ≤ p → p < piece_end plug
      → stands_in (ephemeral (frame h)) p ≡ true) → stands_in (ephemeral (frame now)) place ≡ true
  carrying_inside inside =
      subst (λ (l : Layout). stands_in (ephemeral l) place ≡ true) (sym frame_is) (inside place c.up below)

  pub carrying_old : piece_end plug ≤ h.start0 → place < now.start0
  carrying_old low =
      let same : now.start0 ≡ h.start0 = ap (λ (g : HeapView). g.start0) c.shape.others in
      omega (arith, same, low, below)

  pub carrying_home : ((p : ℕ) → item.place ≤ p → p < piece_end item → IsOldHome (frame h) p)
      → IsOldHome (frame now) (to_at plug item place)
  carrying_home home =
      let lower = c.can.lower in
      let up = c.up in
      let room : piece_end plug - place ≤ piece_end item - to_at plug item place = elim
      (fits-is (piece_end plug - place) (piece_end item - to_at plug item place) (c.within below))
      [ inl l ↦ omega (arith, l) | inr l ↦ omega (arith, l) ] in
      subst (λ (l : Layout). IsOldHome l (to_at plug item place)) (sym frame_is)
      (home (to_at plug item place) (omega (arith, lower, up)) (omega (arith, room, below)))
