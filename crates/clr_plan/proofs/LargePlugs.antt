-- The plugs of a machine's large heap are those of the heap's large segments, one after the other.
use Rattle.std.proofs.Common.{◌≡◌, ℕ, zero, suc, ◌+◌, ◌<◌, ◌≤◌, List, [], ◌++◌, map, filter, length, refl, sym, ap, ap₂}
use Rattle.std.proofs.Common.{◌∙◌, arith, Bool, true, false, ◌&&◌, nat_le, if◌then◌else◌}
use Rattle.std.proofs.lemmas.Bool.{le-leb}
use Rattle.std.proofs.lemmas.List.{map-append}
use Rattle.std.proofs.lemmas.List.Elements.{filter-append}
use Rattle.clr_types.specs.Types.{TypeRow}
use Rattle.clr_types.specs.Segments.{generation, Layout, same_kind}
use Rattle.clr_types.specs.declared.item.Item.{Item}
use Rattle.clr_types.specs.declared.segment.SegKind.{SegKind}
use Rattle.clr_types.specs.declared.segment.SegKind.TheVariants.{Large}
use Rattle.clr_types.proofs.ListMembers.{filter-on}
use Rattle.clr_heap.specs.View.{first_of, HeapView, IsHeap, last_of, listing, listings, segment_at, word_of}
use Rattle.clr_model.specs.Lawful.{IsLaid}
use Rattle.clr_model.specs.Machine.{Machine}
use Rattle.clr_model.specs.Slide.{large_plugs}
use Rattle.clr_model.specs.Sweep.{Survivor, survivors}
use Rattle.clr_model.specs.Compaction.{plugs_of}
use Rattle.clr_model.proofs.LawfulSurvivors.{generation-least}
use Rattle.clr_view.specs.View.{IsHeld, layout_in}
use Rattle.clr_view.specs.Memory.{TestsMarks}
use Rattle.clr_sweep.specs.SweptItems.{stays}
use Rattle.clr_sweep.proofs.SurvivorsSwept.{seen}
use Rattle.clr_moves.specs.declared.condemned.Condemned.TheVariants.{LargeSegments}
use Rattle.clr_plan.specs.PartLists.{plugs_in, whole_plugs}
use Rattle.clr_plan.specs.Pinned.{TellsPins}
use Rattle.clr_plan.specs.Scans.{survivor_in, survivors_between}
use Rattle.clr_plan.proofs.ChosenPlugs.{chosen-plugs, survivors_at, survivors_from}
use Rattle.clr_plan.proofs.HeapSurvivors.{of_item, segment-survivors, survives, survivors-are}
use Rattle.clr_plan.proofs.WholePlan.{plugs-all}
use Rattle.clr_plan.proofs.YoungParts.{and-false, and-true, filter-none}

module _ (rows : List TypeRow) (h : HeapView) (base : Machine) (heap : IsHeap h) (held : IsHeld rows h)
    (laid : IsLaid (seen rows h base)) (keep : ℕ → Bool) (tests : TestsMarks rows h 2 keep)
    (pins : TellsPins rows h base) where
  abbrev m : Machine
  m = seen rows h base

  abbrev layout : Layout
  layout = layout_in rows h

  abbrev large : SegKind → Bool
  large = same_kind Large

  abbrev found : List Item → List Survivor
  found is = map (of_item rows h base heap held laid 2 keep tests pins large)
      (filter (survives rows h base heap held laid 2 keep tests pins large) is)

  found-append : (xs ys : List Item) → found (xs ++ ys) ≡ found xs ++ found ys
  found-append xs ys =
      ap (map (of_item rows h base heap held laid 2 keep tests pins large))
      (filter-append (survives rows h base heap held laid 2 keep tests pins large) xs ys)
      ∙ map-append (of_item rows h base heap held laid 2 keep tests pins large)
      (filter (survives rows h base heap held laid 2 keep tests pins large) xs)
      (filter (survives rows h base heap held laid 2 keep tests pins large) ys)

  -- all of generation 2 and below stays where it is marked
  aged : (i : Item) → nat_le (generation layout i.place) 2 ≡ true
  aged i = le-leb (generation layout i.place) 2 (generation-least layout i.place)

  one-segment : (k : ℕ) → k < length h.segments → found (listing rows h k) ≡ survivors_at large rows h k
  one-segment k l =
      segment-survivors rows h base heap held laid 2 keep tests pins large k l
      ∙ ap (map (survivor_in h k)) (filter-on (λ i. stays (word_of h) i && (nat_le (generation layout i.place) 2
      && large (segment_at h k).kind)) (λ i. stays (word_of h) i && large (segment_at h k).kind) (listing rows h k)
      (λ i n. ap (λ b. stays (word_of h) i && (b && large (segment_at h k).kind)) (aged i)))
      ∙ go (large (segment_at h k).kind)
    where
      go : (b : Bool) → map (survivor_in h k) (filter (λ i. stays (word_of h) i && b) (listing rows h k))
          ≡ (if b then survivors_between rows h k (first_of h k) (last_of h k) else [])
      go true = ap (map (survivor_in h k)) (filter-on (λ i. stays (word_of h) i && true) (stays (word_of h))
          (listing rows h k) (λ i n. and-true (stays (word_of h) i)))
      go false = ap (map (survivor_in h k)) (filter-none (λ i. stays (word_of h) i && false) (listing rows h k)
          (λ i n. and-false (stays (word_of h) i)))

  by-segments : (k n : ℕ) → k + n ≤ length h.segments → found (listings rows h k n) ≡ survivors_from large rows h k n
  by-segments k zero l = refl
  by-segments k (suc n) l =
      found-append (listing rows h k) (listings rows h (k + 1) n)
      ∙ ap₂ (λ (xs ys : List Survivor). xs ++ ys) (one-segment k (omega (arith, l)))
      (by-segments (k + 1) n (omega (arith, l)))

  -- THE PLUGS
  pub large-plugs-are : large_plugs layout (survivors m 2 keep)
      ≡ plugs_in h LargeSegments (whole_plugs rows h) (length h.segments)
  large-plugs-are =
      ap plugs_of (survivors-are rows h base heap held laid 2 keep tests pins large
      ∙ by-segments 0 (length h.segments) (omega arith))
      ∙ chosen-plugs h heap large rows 0 (length h.segments) (omega arith)
      ∙ sym (plugs-all h LargeSegments (whole_plugs rows h) (length h.segments))
