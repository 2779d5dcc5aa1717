-- Bricks of one segment, and those of the others.
use Rattle.std.proofs.Common.{◌≡◌, ℕ, ◌*◌, ◌/◌, ◌<◌, ◌||◌, List}
use Rattle.std.proofs.Common.{length, ap, subst, leb, ltb, cond, ℤ}
use Rattle.clr_types.specs.Segments.{reserved_end}
use Rattle.clr_types.specs.Types.{TypeRow}
use Rattle.clr_heap.specs.View.{frame, HeapView, IsHeap, segment_at}
use Rattle.clr_view.specs.View.{IsHeld, objects_in}
use Rattle.clr_compact.specs.Entered.{forgotten, kept_below}
use Rattle.clr_generations.specs.Laws.{AreEntered, BrickLaw, IsBrickOf}
use Rattle.clr_generations.proofs.Alike.{alike-self, entered_alike}
pub use Rattle.clr_generations.proofs.AllBricks.{bricks-apart, number-of}
use Rattle.clr_generations.proofs.HeapHomes.{heap_homes}

-- ---- entries taken away

-- what becomes of a brick's entry depends on this alone
pub forgotten-alike : (entry other : ℕ → ℤ) (from end brick : ℕ) → other brick ≡ entry brick
    → forgotten other from end brick ≡ forgotten entry from end brick
forgotten-alike entry other from end brick same =
    ap (λ (e : ℤ). cond (ltb brick (from / 4096) || leb end (4096 * brick)) e (kept_below from brick e)) same

module _ (rows : List TypeRow) (h : HeapView) (heap : IsHeap h) (held : IsHeld rows h) where
  -- where other segments' bricks are entered, those of this one say the same
  pub entered_elsewhere : (j : ℕ) (entry other : ℕ → ℤ) → j < length h.segments
      → ((b : ℕ) → IsBrickOf (segment_at h j) b → other b ≡ entry b)
      → AreEntered rows (frame h) (objects_in rows h) entry (segment_at h j)
      → AreEntered rows (frame h) (objects_in rows h) other (segment_at h j)
  entered_elsewhere j entry other inside same e =
      let homes = heap_homes rows h heap held j inside in
      entered_alike rows (frame h) (frame h) (objects_in rows h) (objects_in rows h) (segment_at h j) entry other homes
      homes (alike-self rows (frame h) (objects_in rows h) (segment_at h j) (reserved_end (segment_at h j))) same e

  -- at the end the law holds
  pub all_obey : (entry : ℕ → ℤ) → ((j : ℕ) → j < length h.segments
      → AreEntered rows (frame h) (objects_in rows h) entry (segment_at h j))
      → BrickLaw rows (frame h) (objects_in rows h) entry
  all_obey entry all s i =
      let found = number-of h.segments s i in
      subst (AreEntered rows (frame h) (objects_in rows h) entry) found.2 (all found.0 found.1)
