-- What is kept of a layout is a lawful one with the same pieces.
use Rattle.std.proofs.Common.{◌≡◌, ℕ, ◌++◌, List, map, sym, subst, ◌∙◌, append_assoc, IsSome}
use Rattle.std.specs.List.{AllByRecursion}
use Rattle.clr_types.specs.LawfulLayout.{DoesNotCross, IsTiled}
use Rattle.clr_types.specs.Ranges.{by_place, Piece}
use Rattle.clr_types.specs.Segments.{rest_pieces, segment_of}
use Rattle.clr_types.proofs.ListMembers.{distinct_of_sorted, distinct_left, distinct_right}
use Rattle.clr_types.proofs.Shuffles.{followed, IsShuffled, shuffled-distinct, shuffled-left, shuffled-right}
use Rattle.clr_types.proofs.Shuffles.{shuffled-sorted, shuffled-sorts}
use Rattle.clr_types.proofs.SortedLists.{IsDistinctBy, sorted_by-rises}
use Rattle.clr_model.specs.Lawful.{IsLaid}
use Rattle.clr_model.specs.Lookups.{object_piece, pieces}
use Rattle.clr_model.specs.Machine.{Machine}
use Rattle.clr_model.proofs.LawfulPieces.{pieces-distinct}
use Rattle.clr_settled.specs.Settled.{kept_rests, left_rests, settled}
use Rattle.clr_settled.proofs.KeptRests.{below-highest, highest-aligned, kept-count, rests-shuffled}

module _ (m : Machine) (h : IsLaid m) where
  abbrev place : Piece → ℕ
  place p = p.place

  abbrev objects : List Piece
  objects = map (object_piece m.types) m.objects

  abbrev free : List Piece
  free = m.layout.free

  abbrev all : List Piece
  all = rest_pieces m.layout.rests

  abbrev left : List Piece
  left = left_rests m.steps m.layout.rests

  abbrev kept : List Piece
  kept = rest_pieces (kept_rests m.steps m.layout.rests)

  distinct : IsDistinctBy place ((objects ++ free) ++ all)
  distinct = distinct_of_sorted place ((objects ++ free) ++ all) (pieces-distinct m h)

  -- what is given up goes to the free items
  moved : IsShuffled ((objects ++ free) ++ all) ((objects ++ (free ++ left)) ++ kept)
  moved =
      subst (IsShuffled ((objects ++ free) ++ all))
      (sym (append_assoc (objects ++ free) left kept)
      ∙ (λ i. append_assoc objects free left i ++ kept))
      (shuffled-right (objects ++ free) (rests-shuffled m.steps m.layout.rests))

  sorted : IsShuffled ((objects ++ (free ++ left)) ++ kept) ((objects ++ by_place (free ++ left)) ++ kept)
  sorted = shuffled-left kept (shuffled-right objects (shuffled-sorted place (free ++ left)))

  pub settled-pieces : pieces (settled m) ≡ pieces m
  settled-pieces = sym (shuffled-sorts place (followed moved sorted) distinct)

  free-distinct : IsDistinctBy place (free ++ left)
  free-distinct =
      distinct_right place objects (free ++ left)
      (distinct_left place (objects ++ (free ++ left)) kept (shuffled-distinct place moved distinct))

  pub settled-laid : IsLaid (settled m)
  settled-laid = record {
    layout = record {
      segments = h.layout.segments;
      bounded = h.layout.bounded;
      disjoint = h.layout.disjoint;
      below_top = below-highest m.layout.segments h.layout.disjoint;
      top_aligned = highest-aligned m.layout.segments h.layout.segments;
      one_ephemeral = h.layout.one_ephemeral;
      ephemeral_last = h.layout.ephemeral_last;
      some_large = h.layout.some_large;
      start1_low = h.layout.start1_low;
      start1_high = h.layout.start1_high;
      start0_high = h.layout.start0_high;
      aligned = h.layout.aligned;
      free_rise = sorted_by-rises place (free ++ left) free-distinct;
      threads = kept-count m.steps m.layout.rests ∙ h.layout.threads;
    };
    housed = subst (AllByRecursion (λ (p : Piece). IsSome (segment_of m.layout p.place))) (sym settled-pieces) h.housed;
    tiled = subst (λ ps. AllByRecursion (IsTiled ps) m.layout.segments) (sym settled-pieces) h.tiled;
    whole1 = subst (AllByRecursion (DoesNotCross m.layout.start1)) (sym settled-pieces) h.whole1;
    whole0 = subst (AllByRecursion (DoesNotCross m.layout.start0)) (sym settled-pieces) h.whole0;
  }

  -- where all contexts are given up then, free items are those that there would have been
  pub settled-free : by_place (by_place (free ++ left) ++ kept) ≡ by_place (free ++ all)
  settled-free =
      sym (shuffled-sorts place
      (followed (subst (IsShuffled (free ++ all)) (sym (append_assoc free left kept))
      (shuffled-right free (rests-shuffled m.steps m.layout.rests)))
      (shuffled-left kept (shuffled-sorted place (free ++ left))))
      (distinct_right place objects (free ++ all)
      (subst (IsDistinctBy place) (append_assoc objects free all) distinct)))
