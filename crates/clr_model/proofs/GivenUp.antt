-- Giving up the contexts leaves the pieces as they are.
use Rattle.std.proofs.Common.{◌≡◌, ℕ, [], ◌++◌, map, refl, sym, subst, ◌∙◌, zero, suc, None, length, replicate}
use Rattle.std.proofs.Common.{append_assoc, IsSome}
use Rattle.std.proofs.lemmas.List.{append-nil, length-replicate}
use Rattle.std.specs.List.{AllByRecursion}
use Rattle.clr_types.specs.Ranges.{Piece, by_place}
use Rattle.clr_types.proofs.SortedLists.{IsDistinctBy, sorted_by-rises}
use Rattle.clr_model.specs.Machine.{Machine}
use Rattle.clr_model.specs.Lookups.{pieces, object_piece}
use Rattle.clr_model.specs.Updates.{all_given_up}
use Rattle.clr_types.specs.Segments.{rest_pieces, segment_of}
use Rattle.clr_types.specs.LawfulLayout.{IsTiled, DoesNotCross}
use Rattle.clr_model.specs.Lawful.{IsLaid}
use Rattle.clr_model.proofs.LawfulPieces.{pieces-distinct}
use Rattle.clr_types.proofs.ListMembers.{distinct_of_sorted, distinct_right}
use Rattle.clr_types.proofs.Shuffles.{IsShuffled, shuffled-sorted, shuffled-sorts, shuffled-right}

pub no_rests : (n : ℕ) → rest_pieces (replicate n None) ≡ []
no_rests zero = refl
no_rests (suc n) = no_rests n

module _ (m : Machine) (h : IsLaid m) where
  abbrev begun : Machine
  begun = record m { layout = all_given_up m.layout }

  distinct : IsDistinctBy (λ (p : Piece). p.place)
      ((map (object_piece m.types) m.objects ++ m.layout.free) ++ rest_pieces m.layout.rests)
  distinct =
      distinct_of_sorted (λ (p : Piece). p.place)
      ((map (object_piece m.types) m.objects ++ m.layout.free) ++ rest_pieces m.layout.rests) (pieces-distinct m h)

  shuffled : IsShuffled ((map (object_piece m.types) m.objects ++ m.layout.free) ++ rest_pieces m.layout.rests)
      ((map (object_piece m.types) m.objects ++ by_place (m.layout.free ++ rest_pieces m.layout.rests)) ++ rest_pieces
      (replicate (length m.layout.rests) None))
  shuffled =
      subst (λ rs. IsShuffled ((map (object_piece m.types) m.objects ++ m.layout.free) ++ rest_pieces m.layout.rests)
      ((map (object_piece m.types) m.objects ++ by_place (m.layout.free ++ rest_pieces m.layout.rests)) ++ rs))
      (sym (no_rests (length m.layout.rests)))
      (subst (λ ws. IsShuffled ((map (object_piece m.types) m.objects ++ m.layout.free) ++ rest_pieces m.layout.rests)
      ws) (sym (append-nil (map (object_piece m.types) m.objects ++ by_place
      (m.layout.free ++ rest_pieces m.layout.rests))))
      (subst (λ ws. IsShuffled ws (map (object_piece m.types) m.objects ++ by_place
      (m.layout.free ++ rest_pieces m.layout.rests)))
      (sym (append_assoc (map (object_piece m.types) m.objects) m.layout.free (rest_pieces m.layout.rests)))
      (shuffled-right (map (object_piece m.types) m.objects)
      (shuffled-sorted (λ (p : Piece). p.place) (m.layout.free ++ rest_pieces m.layout.rests)))))

  pub given_up-pieces : pieces m ≡ pieces begun
  given_up-pieces = shuffled-sorts (λ (p : Piece). p.place) shuffled distinct

  free-distinct : IsDistinctBy (λ (p : Piece). p.place) (m.layout.free ++ rest_pieces m.layout.rests)
  free-distinct =
      distinct_right (λ (p : Piece). p.place) (map (object_piece m.types) m.objects)
      (m.layout.free ++ rest_pieces m.layout.rests)
      (subst (IsDistinctBy (λ (p : Piece). p.place))
      (append_assoc (map (object_piece m.types) m.objects) m.layout.free (rest_pieces m.layout.rests)) distinct)

  -- the layout stays lawful
  pub given_up_laid : IsLaid begun
  given_up_laid = record {
    layout = record {
      segments = h.layout.segments;
      bounded = h.layout.bounded;
      disjoint = h.layout.disjoint;
      below_top = h.layout.below_top;
      top_aligned = h.layout.top_aligned;
      one_ephemeral = h.layout.one_ephemeral;
      ephemeral_last = h.layout.ephemeral_last;
      some_large = h.layout.some_large;
      start1_low = h.layout.start1_low;
      start1_high = h.layout.start1_high;
      start0_high = h.layout.start0_high;
      aligned = h.layout.aligned;
      free_rise = sorted_by-rises (λ (p : Piece). p.place) (m.layout.free ++ rest_pieces m.layout.rests) free-distinct;
      threads = length-replicate (length m.layout.rests) None ∙ h.layout.threads;
    };
    housed = subst (AllByRecursion (λ (p : Piece). IsSome (segment_of m.layout p.place))) given_up-pieces h.housed;
    tiled = subst (λ ps. AllByRecursion (IsTiled ps) m.layout.segments) given_up-pieces h.tiled;
    whole1 = subst (AllByRecursion (DoesNotCross m.layout.start1)) given_up-pieces h.whole1;
    whole0 = subst (AllByRecursion (DoesNotCross m.layout.start0)) given_up-pieces h.whole0;
  }
