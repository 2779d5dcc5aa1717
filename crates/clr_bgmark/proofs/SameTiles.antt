-- The old parts of segments are told by the bits of what was taken alone: they stay where colours and the log change.
use Rattle.std.proofs.Common.{◌≡◌, ◌∙◌, ℕ, Bool, true, false, if◌then◌else◌, List, [], ◌∷◌, length, map}
use Rattle.std.proofs.Common.{refl, sym, ap, subst}
use Rattle.std.specs.Prelude.{MatchBool}
use Rattle.std.proofs.lemmas.List.{length-map}
use Rattle.clr_bgmark.specs.Bits.{has_bit}
use Rattle.clr_bgmark.specs.Closing.{without_colours}
use Rattle.clr_bgmark.specs.Shades.{cell_of, changed_at, covers, is_covered, is_taken, PartView, ShadeView, with_logged}
use Rattle.clr_bgmark.specs.Tiles.{AreParts, IsEdge, IsEdgeBy, IsPart}

-- ---- a segment without its colours

bare_part : (s : ShadeView) (p : PartView) → IsPart s p → IsPart (without_colours s) p
bare_part s p is = record {
  low = is.low;
  high = is.high;
  aligned = is.aligned;
  room = is.room;
  first = is.first;
  taken_low = is.taken_low;
  taken_high = is.taken_high;
  gaps_low = is.gaps_low;
  gaps_high = is.gaps_high;
}

part_of_bare : (s : ShadeView) (p : PartView) → IsPart (without_colours s) p → IsPart s p
part_of_bare s p is = record {
  low = is.low;
  high = is.high;
  aligned = is.aligned;
  room = is.room;
  first = is.first;
  taken_low = is.taken_low;
  taken_high = is.taken_high;
  gaps_low = is.gaps_low;
  gaps_high = is.gaps_high;
}

bare_parts : (ss : List ShadeView) (ps : List PartView) → AreParts ss ps → AreParts (map without_colours ss) ps
bare_parts [] [] are = tt
bare_parts [] (p ∷ ps) are = are
bare_parts (s ∷ ss) [] are = are
bare_parts (s ∷ ss) (p ∷ ps) are = (bare_part s p are.0, bare_parts ss ps are.1)

parts_of_bare : (ss : List ShadeView) (ps : List PartView) → AreParts (map without_colours ss) ps → AreParts ss ps
parts_of_bare [] [] are = tt
parts_of_bare [] (p ∷ ps) are = are
parts_of_bare (s ∷ ss) [] are = are
parts_of_bare (s ∷ ss) (p ∷ ps) are = (part_of_bare s p are.0, parts_of_bare ss ps are.1)

-- one of two, of which the second follows from another
second_by : (b : Bool) (A B C : Type 0) → (B → C) → MatchBool b A B → MatchBool b A C
second_by true A B C f is = is
second_by false A B C f is = f is

bare_edge : (ss : List ShadeView) (ps : List PartView) (x y : ℕ) → IsEdgeBy ss ps x y
    → IsEdgeBy (map without_colours ss) ps x y
bare_edge [] ps x y is = is
bare_edge (s ∷ ss) [] x y is = is
bare_edge (s ∷ ss) (p ∷ ps) x y is =
    second_by (covers s x) (IsEdge s p y) (IsEdgeBy ss ps x y) (IsEdgeBy (map without_colours ss) ps x y)
    (bare_edge ss ps x y) is

edge_of_bare : (ss : List ShadeView) (ps : List PartView) (x y : ℕ) → IsEdgeBy (map without_colours ss) ps x y
    → IsEdgeBy ss ps x y
edge_of_bare [] ps x y is = is
edge_of_bare (s ∷ ss) [] x y is = is
edge_of_bare (s ∷ ss) (p ∷ ps) x y is =
    second_by (covers s x) (IsEdge s p y) (IsEdgeBy (map without_colours ss) ps x y) (IsEdgeBy ss ps x y)
    (edge_of_bare ss ps x y) is

bare_covered : (ss : List ShadeView) (a : ℕ) → is_covered (map without_colours ss) a ≡ is_covered ss a
bare_covered [] a = refl
bare_covered (s ∷ ss) a = ap (λ b. if covers s a then true else b) (bare_covered ss a)

bare_taken : (ss : List ShadeView) (a : ℕ) → is_taken (map without_colours ss) a ≡ is_taken ss a
bare_taken [] a = refl
bare_taken (s ∷ ss) a = ap (λ b. if covers s a then has_bit s.taken (cell_of s a) else b) (bare_taken ss a)

-- ---- where what was taken is the same

module _ (old new : List ShadeView) (same : map without_colours new ≡ map without_colours old) where
  pub same_parts : (ps : List PartView) → AreParts old ps → AreParts new ps
  same_parts ps are = parts_of_bare new ps (subst (λ ss. AreParts ss ps) (sym same) (bare_parts old ps are))

  pub same_edge : (ps : List PartView) (x y : ℕ) → IsEdgeBy old ps x y → IsEdgeBy new ps x y
  same_edge ps x y is =
      edge_of_bare new ps x y (subst (λ ss. IsEdgeBy ss ps x y) (sym same) (bare_edge old ps x y is))

  pub same_covered : (a : ℕ) → is_covered new a ≡ is_covered old a
  same_covered a = sym (bare_covered new a) ∙ ap (λ ss. is_covered ss a) same ∙ bare_covered old a

  pub same_taken : (a : ℕ) → is_taken new a ≡ is_taken old a
  same_taken a = sym (bare_taken new a) ∙ ap (λ ss. is_taken ss a) same ∙ bare_taken old a

  pub same_count : length new ≡ length old
  same_count = sym (length-map new without_colours) ∙ ap length same ∙ length-map old without_colours

-- so it is where a card is logged
pub logged_bare : (ss : List ShadeView) (a : ℕ) → map without_colours (changed_at a (with_logged a) ss)
    ≡ map without_colours ss
logged_bare [] a = refl
logged_bare (s ∷ ss) a = go (covers s a) (logged_bare ss a)
  where
    go : (b : Bool) → map without_colours (changed_at a (with_logged a) ss) ≡ map without_colours ss
        → map without_colours (if b then with_logged a s ∷ ss else s ∷ changed_at a (with_logged a) ss)
        ≡ map without_colours (s ∷ ss)
    go true more = refl
    go false more = ap (λ ts. without_colours s ∷ ts) more
