-- What a lawful machine's threads have begun.
use Rattle.std.proofs.Common.{◌≡◌, ℕ, zero, suc, ◌+◌, ◌<◌, ◌≤◌, true, false, refl, List, [], ◌∷◌, get_or, length}
use Rattle.std.proofs.Common.{Some, None, is_some, IsTrue, ap, sym, subst, arith, inl, inr, lt-ltb, Option}
use Rattle.std.specs.Prelude.{slice_get}
use Rattle.std.proofs.lemmas.Bool.{cases_Bool, eq-eqb, true≢false}
use Rattle.clr_types.specs.Ranges.{Piece}
use Rattle.clr_types.specs.Rising.{first, IsIn, later}
use Rattle.clr_types.specs.Segments.{flat_option, rest_pieces}
use Rattle.clr_types.specs.Types.{form_at, is_array, size_of, type_row, TypeRow}
use Rattle.clr_types.proofs.RisingLists.{in_cons}
use Rattle.clr_sos.specs.Steps.{is_new_length}

-- what is left of a thread's context, by its number
pub rest-there : (rests : List (Option Piece)) (i : ℕ) (r : Piece) → flat_option (slice_get rests i) ≡ Some r
    → get_or rests i None ≡ Some r
rest-there [] i r e = absurd cc
rest-there (None ∷ rests) zero r e = absurd cc
rest-there (Some q ∷ rests) zero r e = e
rest-there (o ∷ rests) (suc i) r e = rest-there rests i r e

-- it is one of all
pub rest-in : (rs : List (Option Piece)) (i : ℕ) (r : Piece) → get_or rs i None ≡ Some r → IsIn r (rest_pieces rs)
rest-in [] i r e = absurd cc
rest-in (None ∷ rs) zero r e = absurd cc
rest-in (None ∷ rs) (suc i) r e = rest-in rs i r e
rest-in (Some q ∷ rs) zero r e = let same : r ≡ q = cc in subst (λ x. IsIn x (q ∷ rest_pieces rs)) (sym same) first
rest-in (Some q ∷ rs) (suc i) r e = later (rest-in rs i r e)

-- and each of all is a thread's
pub rest-of : (rs : List (Option Piece)) (r : Piece) → IsIn r (rest_pieces rs) → (i : ℕ) × (get_or rs i None ≡ Some r)
rest-of [] r l = elim l [ ]
rest-of (None ∷ rs) r l = let found = rest-of rs r l in (suc found.0, found.1)
rest-of (Some q ∷ rs) r l = elim (in_cons l) [
  | inl here ↦ (zero, ap (λ (x : Piece). Some x) (sym here))
  | inr more ↦ let found = rest-of rs r more in (suc found.0, found.1)
]

-- a type of the table
pub known-type : (rows : List TypeRow) (t : ℕ) → IsTrue (is_some (type_row rows t)) → (1 ≤ t) × (t ≤ length rows)
known-type rows zero known = absurd (true≢false (sym known))
known-type rows (suc t) known = (omega arith, let l = below rows t known in omega arith)
  where
    below : (rows : List TypeRow) (t : ℕ) → IsTrue (is_some (slice_get rows t)) → t + 1 ≤ length rows
    below [] t known = absurd (true≢false (sym known))
    below (row ∷ rows) zero known = omega arith
    below (row ∷ rows) (suc t) known = let l = below rows t known in omega arith

-- a length that an object which is begun may have
pub new-length : (rows : List TypeRow) (large t len : ℕ) → (is_array (form_at rows t) ≡ false → len ≡ 0)
    → size_of (form_at rows t) len < large → is_new_length rows large t len ≡ true
new-length rows large t len none small = elim (cases_Bool (is_array (form_at rows t))) [
  | inl array ↦ let l = lt-ltb (size_of (form_at rows t) len) large small in rw (array, l) refl
  | inr plain ↦
      let l = lt-ltb (size_of (form_at rows t) len) large small in
      let e = eq-eqb len 0 (none plain) in rw (plain, e, l) refl
]
