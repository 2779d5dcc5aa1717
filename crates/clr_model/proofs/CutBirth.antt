-- A birth at the front of a piece: a context or a free item becomes the object and what is behind it.
use Rattle.std.proofs.Common.{◌≡◌, ℕ, ◌+◌, List, [], ◌∷◌, ◌++◌, map, length, refl, sym, subst, true, Option, IfSome}
use Rattle.std.proofs.Common.{append_assoc}
use Rattle.std.specs.List.{AllByRecursion}
use Rattle.std.proofs.lemmas.List.{map-append}
use Rattle.clr_types.specs.Rising.{IsRisingBy}
use Rattle.clr_types.specs.Ranges.{Piece, fits}
use Rattle.clr_types.specs.Types.{form_at}
use Rattle.clr_types.specs.Segments.{Layout, segment_of, generation, rest_pieces}
use Rattle.clr_types.proofs.TableRows.{AllByRecursion-push}
use Rattle.clr_types.proofs.Shuffles.{IsShuffled, under, followed, shuffled-sym, shuffled-right, shuffled-behind}
use Rattle.clr_types.proofs.Shuffles.{shuffled-turn}
use Rattle.clr_types.proofs.TailTaken.{size-lawful}
use Rattle.clr_model.specs.Machine.{Machine}
use Rattle.clr_model.specs.Lookups.{object_piece}
use Rattle.clr_model.specs.Allocation.{with_layout}
use Rattle.clr_model.specs.Lawful.{IsLawful, Suits, SuitsItsSegment, HasItsRoom, AllFrom}
use Rattle.clr_model.proofs.SplitPieces.{unsorted_pieces, front_piece, back_pieces, split_fills}
use Rattle.clr_model.proofs.ItemContext.{same_segments}
use Rattle.clr_model.proofs.Birth.{born_size, born_object, birth_pieces, IsBirthplace}

-- the object's range is one piece more
pub pieces-born : (m : Machine) (layout : Layout) (place type len : ℕ)
    → IsShuffled (birth_pieces m layout place type len)
    (object_piece m.types (born_object m (m.born + 1) place type len)
    ∷ (map (object_piece m.types) m.objects ++ (layout.free ++ rest_pieces layout.rests)))
pieces-born m layout place type len =
    let held = map (object_piece m.types) m.objects in
    let born = born_object m (m.born + 1) place type len in
    let piece = object_piece m.types born in
    let free = layout.free in
    let rests = rest_pieces layout.rests in
    subst (λ ws. IsShuffled ((ws ++ free) ++ rests) (piece ∷ (held ++ (free ++ rests))))
    (sym (map-append (object_piece m.types) m.objects (born ∷ [])))
    (subst (λ ws. IsShuffled ws (piece ∷ (held ++ (free ++ rests))))
    (sym (append_assoc (held ++ (piece ∷ [])) free rests))
    (subst (λ ws. IsShuffled ws (piece ∷ (held ++ (free ++ rests))))
    (sym (append_assoc held (piece ∷ []) (free ++ rests)))
    (shuffled-sym (shuffled-behind piece held (free ++ rests)))))

module _ (m : Machine) (h : IsLawful m) (type len : ℕ) (p : Piece) (fit : fits (born_size m type len) p.size ≡ true)
    (free : List Piece) (rests : List (Option Piece)) (beside : List Piece)
    (was : IsShuffled (m.layout.free ++ rest_pieces m.layout.rests) (p ∷ beside))
    (now : IsShuffled (free ++ rest_pieces rests) (back_pieces p (born_size m type len) ++ beside))
  where
    abbrev size : ℕ
    size = born_size m type len

    abbrev held : List Piece
    held = map (object_piece m.types) m.objects

    abbrev next : Layout
    next = record m.layout { free = free; rests = rests }

    -- the piece is one of all pieces
    all_was : IsShuffled (unsorted_pieces m) (p ∷ (held ++ beside))
    all_was =
        subst (λ ws. IsShuffled ws (p ∷ (held ++ beside)))
        (sym (append_assoc held m.layout.free (rest_pieces m.layout.rests)))
        (followed (shuffled-right held was) (shuffled-sym (shuffled-behind p held beside)))

    -- and the object and what is behind it stand for it
    all_now : IsShuffled (birth_pieces m next p.place type len)
        (front_piece p size ∷ (back_pieces p size ++ (held ++ beside)))
    all_now =
        followed (pieces-born m next p.place type len)
        (under (followed (shuffled-right held now) (shuffled-turn held (back_pieces p size) beside)))

    -- Where items and rests are in order, the front of the piece is a place for the object.
    pub cut_birthplace : IsRisingBy (λ (p : Piece). p.place) free → length rests ≡ 16
        → AllByRecursion (λ (p : Piece). generation m.layout p.place ≡ 0) (rest_pieces rests)
        → AllFrom (HasItsRoom (with_layout m (record m.layout { free = free; rests = rests }))) 1 m.steps
        → IfSome (segment_of m.layout p.place) (λ s. Suits m (born_object m (m.born + 1) p.place type len) s.kind)
        → IsBirthplace m (record m.layout { free = free; rests = rests }) p.place type len
    cut_birthplace rise count young rooms suits = record {
      lawful = same_segments m.layout free rests h.laid.layout rise count;
      fills =
          let f = split_fills m h.laid p size (size-lawful (form_at m.types type) len) fit (held ++ beside)
          (birth_pieces m next p.place type len) all_was all_now in
          record { housed = f.housed; tiled = f.tiled; whole1 = f.whole1; whole0 = f.whole0 };
      young = young;
      suited = AllByRecursion-push (SuitsItsSegment (with_layout m next)) m.objects
          (born_object m (m.born + 1) p.place type len) h.suited suits;
      limit = h.limit;
      rooms = rooms;
      ages = λ x. refl;
    }
