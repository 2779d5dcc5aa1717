-- A piece that is put in before all others.
use Rattle.std.proofs.Common.{◌≡◌, ℕ, ◌<◌, List, [], ◌∷◌, refl, sym, subst, arith, ◌∙◌}
use Rattle.std.specs.List.{AllByRecursion}
use Rattle.std.proofs.lemmas.Bool.{le-leb}
use Rattle.clr_types.specs.Rising.{insert_by, IsRisingBy}
use Rattle.clr_types.specs.Ranges.{Piece}
use Rattle.clr_types.proofs.ChangedLists.{all_imply}

abbrev pub AreAbove : ℕ → List Piece → Type 0
AreAbove at ps = AllByRecursion (λ (p : Piece). at < p.place) ps

put-first : (x : Piece) (ps : List Piece) → AreAbove x.place ps → insert_by (λ (p : Piece). p.place) x ps ≡ x ∷ ps
put-first x [] above = refl
put-first x (p ∷ ps) above = let l = above.0 in let here = le-leb x.place p.place (omega (arith, l)) in rw here refl

-- where all stand above a place, they do and rise with one that is put in there
pub put-front : (x : Piece) (ps qs : List Piece) (at low : ℕ) → qs ≡ insert_by (λ (p : Piece). p.place) x ps
    → x.place ≡ at → low < at → IsRisingBy (λ (p : Piece). p.place) ps → AreAbove at ps
    → IsRisingBy (λ (p : Piece). p.place) qs × AreAbove low qs
put-front x ps qs at low is here l rise above =
    let up = subst (λ (n : ℕ). AreAbove n ps) (sym here) above in
    let now = is ∙ put-first x ps up in (
      subst (IsRisingBy (λ (p : Piece). p.place)) (sym now) (up, rise),
      subst (AreAbove low) (sym now) (
        omega (arith, here, l),
        all_imply (λ (p : Piece). at < p.place) (λ (p : Piece). low < p.place) ps
            (λ p more. omega (arith, more, l)) above,
      ),
    )
