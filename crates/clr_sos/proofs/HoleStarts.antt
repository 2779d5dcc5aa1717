-- Where holes begin.
use Rattle.std.proofs.Common.{◌≡◌, ℕ, ◌+◌, ◌-◌, ◌^◌, ◌<◌, ◌≤◌, ◌&&◌, nat_lt, nat_le, nat_eq, Bool, true, false, List}
use Rattle.std.proofs.Common.{[], ◌∷◌, Option, Some, None, refl, sym, ◌∙◌, arith, inl, inr, subst}
use Rattle.std.specs.Prelude.{IsSome}
use Rattle.std.proofs.lemmas.Bool.{cases_Bool, cases_lt, eq-eqb, le-ltb, lt-ltb, or_left, or_right}
use Rattle.clr_types.specs.Ranges.{Piece, piece_end}
use Rattle.clr_heap.specs.Parts.{hole_from}
use Rattle.clr_sos.specs.CheckedCells.{begins_in}
use Rattle.clr_sos.specs.CellScans.{IsNext}

-- no hole starts where none begins
pub none_from : (holes : List (Option Piece)) (p : ℕ) → begins_in holes p (p + 1) ≡ false → hole_from holes p ≡ None
none_from [] p h = refl
none_from (None ∷ holes) p h = none_from holes p h
none_from (Some hole ∷ holes) p h =
    let later : begins_in holes p (p + 1) ≡ false = grind (arith, h) in
    let other : nat_eq hole.place p ≡ false = grind (arith, h) in
    rw other (none_from holes p later)

-- nor up to the next one
pub none_before : (holes : List (Option Piece)) (p next : ℕ) → IsNext holes p next → p < next → p + 1 < 2 ^ 64
    → hole_from holes p ≡ None
none_before holes p next h l fits = none_from holes p (h (p + 1) fits ∙ le-ltb next (p + 1) (omega arith))

-- a hole that starts at q begins in a range about q
begins-here : (holes : List (Option Piece)) (p q e : ℕ) → IsSome (hole_from holes q) → p ≤ q → q < e
    → begins_in holes p e ≡ true
begins-here [] p q e some low high = absurd cc
begins-here (None ∷ holes) p q e some low high = begins-here holes p q e some low high
begins-here (Some hole ∷ holes) p q e some low high = elim (cases_Bool (nat_eq hole.place q)) [
  | inl here ↦
      let within : (nat_le p hole.place && nat_lt hole.place e) ≡ true = grind (arith, here, low, high) in
      or_left (nat_le p hole.place && nat_lt hole.place e) (begins_in holes p e) within
  | inr other ↦
      let more = begins-here holes p q e (rw other at some) low high in
      or_right (nat_le p hole.place && nat_lt hole.place e) (begins_in holes p e) more
]

-- and none begins in a range where none starts
begins-nowhere : (holes : List (Option Piece)) (p e : ℕ)
    → ((q : ℕ) → p ≤ q → q < e → hole_from holes q ≡ None) → begins_in holes p e ≡ false
begins-nowhere [] p e none = refl
begins-nowhere (None ∷ holes) p e none = begins-nowhere holes p e none
begins-nowhere (Some hole ∷ holes) p e none =
    go (nat_le p hole.place && nat_lt hole.place e) refl (begins-nowhere holes p e further)
  where
    same : nat_eq hole.place hole.place ≡ true
    same = eq-eqb hole.place hole.place refl

    further : (q : ℕ) → p ≤ q → q < e → hole_from holes q ≡ None
    further q low high = elim (cases_Bool (nat_eq hole.place q)) [
      | inl here ↦ let clash : Some (piece_end hole) ≡ None = sym (rw here refl) ∙ none q low high in absurd cc
      | inr other ↦ sym (rw other refl) ∙ none q low high
    ]

    go : (b : Bool) → (nat_le p hole.place && nat_lt hole.place e) ≡ b → begins_in holes p e ≡ false
        → begins_in (Some hole ∷ holes) p e ≡ false
    go true on more =
        let low : p ≤ hole.place = grind (arith, on) in
        let high : hole.place < e = grind (arith, on) in
        let clash : Some (piece_end hole) ≡ None = sym (rw same refl) ∙ none hole.place low high in
        absurd cc
    go false off more = rw off more

-- a hole at a place is the next one from there on
pub next_here : (holes : List (Option Piece)) (p : ℕ) → IsSome (hole_from holes p) → IsNext holes p p
next_here holes p some e fits = elim (cases_lt p e) [
  | inl under ↦ begins-here holes p p e some (omega arith) under ∙ sym (lt-ltb p e under)
  | inr over ↦ begins-nowhere holes p e (λ q low high. absurd (omega arith)) ∙ sym (le-ltb p e over)
]

-- where none starts at a place, it is the next one above
pub next_above : (holes : List (Option Piece)) (p next : ℕ) → hole_from holes p ≡ None
    → ((q : ℕ) → p < q → q < next → hole_from holes q ≡ None) → p < next
    → (next < 2 ^ 64 - 1 → IsSome (hole_from holes next)) → IsNext holes p next
next_above holes p next here before ahead starts e fits = elim (cases_lt next e) [
  | inl under ↦ begins-here holes p next e (starts (omega arith)) (omega arith) under ∙ sym (lt-ltb next e under)
  | inr over ↦ begins-nowhere holes p e (none over) ∙ sym (le-ltb next e over)
]
  where
    none : e ≤ next → (q : ℕ) → p ≤ q → q < e → hole_from holes q ≡ None
    none over q low high = elim (cases_lt p q) [
      | inl later ↦ before q later (omega arith)
      | inr same ↦ let at : p ≡ q = omega arith in subst (λ (x : ℕ). hole_from holes x ≡ None) at here
    ]

-- from a place on up to which none begins
from_later : (holes : List (Option Piece)) (p q e : ℕ) → p ≤ q → begins_in holes p q ≡ false
    → begins_in holes q e ≡ begins_in holes p e
from_later [] p q e l h = refl
from_later (None ∷ holes) p q e l h = from_later holes p q e l h
from_later (Some hole ∷ holes) p q e l h =
    let rest : begins_in holes p q ≡ false = grind (arith, h) in
    let same : (nat_le q hole.place && nat_lt hole.place e) ≡ (nat_le p hole.place && nat_lt hole.place e) =
    grind (arith, h) in
    rw (same, from_later holes p q e l rest) refl

pub next_after : (holes : List (Option Piece)) (p next q : ℕ) → IsNext holes p next → p ≤ q → q ≤ next → q < 2 ^ 64
    → IsNext holes q next
next_after holes p next q h l m small e fits =
    from_later holes p q e l (h q small ∙ le-ltb next q m) ∙ h e fits
