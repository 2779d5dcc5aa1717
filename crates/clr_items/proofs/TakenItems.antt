-- Free items by rising place that pass a test, where the front of one of them is taken.
use Rattle.std.proofs.Common.{◌≡◌, inl, inr, ℕ, ◌+◌, ◌-◌, ◌<◌, true, Bool, List, [], ◌∷◌, ◌++◌, refl, ap, sym, ◌∙◌}
use Rattle.std.proofs.Common.{subst}
use Rattle.std.proofs.Common.{filter, if◌then◌else◌}
use Rattle.std.proofs.lemmas.Bool.{cases_lt, le-ltb, lt-ltb}
use Rattle.std.proofs.lemmas.List.Elements.{filter-append}
use Rattle.clr_types.specs.Rising.{IsRisingBy}
use Rattle.clr_types.specs.Ranges.{Piece, piece_end, range_piece}
use Rattle.clr_types.proofs.ListMembers.{filter-rises}
use Rattle.clr_model.specs.Allocation.{taken_from}
use Rattle.clr_items.proofs.Lists.{apart_around, place, taken-between}

module _ (t : Piece → Bool) (xs : List Piece) (p : Piece) (ys : List Piece) (n : ℕ)
    (rise : IsRisingBy place (xs ++ p ∷ ys)) (passes : t p ≡ true)
    (left : p.place + n < piece_end p
    → t (record { place = p.place + n; size = piece_end p - (p.place + n) }) ≡ true) where
  those : filter t (xs ++ p ∷ ys) ≡ filter t xs ++ p ∷ filter t ys
  those = filter-append t xs (p ∷ ys)
      ∙ ap (λ (b : Bool). filter t xs ++ (if b then p ∷ filter t ys else filter t ys)) passes

  left_passes : filter t (range_piece (p.place + n) (piece_end p)) ≡ range_piece (p.place + n) (piece_end p)
  left_passes = elim (cases_lt (p.place + n) (piece_end p)) [
    | inl more ↦
        let some = lt-ltb (p.place + n) (piece_end p) more in
        let q : Piece = record { place = p.place + n; size = piece_end p - (p.place + n) } in
        ap (λ (b : Bool). filter t (if b then q ∷ [] else [])) some
        ∙ ap (λ (b : Bool). if b then q ∷ [] else []) (left more)
        ∙ ap (λ (b : Bool). if b then q ∷ [] else []) (sym some)
    | inr none ↦ let stop = le-ltb (p.place + n) (piece_end p) none in rw stop refl
  ]

  -- those that pass are those of before, with the front of this one taken
  pub filter-taken : filter t (taken_from p.place n (xs ++ p ∷ ys)) ≡ taken_from p.place n (filter t (xs ++ p ∷ ys))
  filter-taken =
      let rise_those = subst (IsRisingBy place) those (filter-rises t place (xs ++ p ∷ ys) rise) in
      let rest = range_piece (p.place + n) (piece_end p) in
      ap (filter t) (taken-between xs p ys n (apart_around xs p ys rise))
      ∙ filter-append t xs (rest ++ ys)
      ∙ ap (λ (ps : List Piece). filter t xs ++ ps) (filter-append t rest ys
      ∙ ap (λ (ps : List Piece). ps ++ filter t ys) left_passes)
      ∙ sym (taken-between (filter t xs) p (filter t ys) n (apart_around (filter t xs) p (filter t ys) rise_those))
      ∙ ap (taken_from p.place n) (sym those)
