-- The contexts of threads that have begun an object are found at the fronts that an image tells.
use Rattle.std.proofs.Common.{◌≡◌, ℕ, suc, ◌+◌, ◌-◌, nat_eq, List, [], ◌∷◌, length, map, refl, sym, ap}
use Rattle.std.proofs.Common.{ap₂, ◌∙◌, subst, arith, Option, None, Some}
use Rattle.std.specs.Prelude.{find, slice_get}
use Rattle.std.specs.List.{flat_map}
use Rattle.clr_types.specs.Ranges.{Piece}
use Rattle.clr_types.specs.Rising.{first, IsIn, later}
use Rattle.clr_types.specs.Segments.{flat_option, rest_of, rest_pieces}
use Rattle.clr_model.specs.Lawful.{AllFrom, HasItsRoom}
use Rattle.clr_model.specs.Machine.{begun_new, begun_store, Machine, no_step, ThreadStep}
use Rattle.clr_format.specs.NameTests.{fronts_of}
use Rattle.clr_sos.specs.Steps.{front_or_zero}
use Rattle.clr_save.specs.Snapshots.{steps_of}
use Rattle.clr_settled.specs.Settled.{kept_rests}
use Rattle.clr_opened.specs.Opened.{front_rest}

module _ (m : Machine) where
  -- contexts from the one of thread n + 1 on
  abbrev AreFrom : ℕ → List (Option Piece) → Type 0
  AreFrom n rests = (i : ℕ) → slice_get rests i ≡ slice_get m.layout.rests (n + i)

  -- behind the first one they are those from the next thread on
  from-next : (n : ℕ) (r : Option Piece) (rests : List (Option Piece)) → AreFrom n (r ∷ rests) → AreFrom (n + 1) rests
  from-next n r rests at i =
      let next : n + suc i ≡ n + 1 + i = omega arith in at (suc i) ∙ ap (slice_get m.layout.rests) next

  -- where none is left, none is left for the next thread
  from-none : (n : ℕ) → AreFrom n [] → AreFrom (n + 1) []
  from-none n at i =
      let next : n + suc i ≡ n + 1 + i = omega arith in at (suc i) ∙ ap (slice_get m.layout.rests) next

  -- a thread's context is the first of those from it on
  rest-there : (n : ℕ) (rests : List (Option Piece)) (rest : Piece) → AreFrom n rests
      → rest_of m.layout (n + 1) ≡ Some rest → flat_option (slice_get rests 0) ≡ Some rest
  rest-there n rests rest at is =
      let here : n + 0 ≡ n + 1 - 1 = omega arith in
      ap flat_option (at 0 ∙ ap (slice_get m.layout.rests) here) ∙ is

  -- the fronts of begun objects are those of the contexts that are kept
  pub fronts-kept : (n : ℕ) (steps : List ThreadStep) (rests : List (Option Piece)) → AreFrom n rests
      → AllFrom (HasItsRoom m) (n + 1) steps
      → flat_map fronts_of (steps_of m.layout (n + 1) steps)
      ≡ map (λ (p : Piece). p.place) (rest_pieces (kept_rests steps rests))
  fronts-kept n [] [] at rooms = refl
  fronts-kept n [] (r ∷ rs) at rooms = fronts-kept (n + 1) [] rs (from-next n r rs at) tt
  fronts-kept n (no_step ∷ ss) [] at rooms = fronts-kept (n + 1) ss [] (from-none n at) rooms.1
  fronts-kept n (no_step ∷ ss) (r ∷ rs) at rooms = fronts-kept (n + 1) ss rs (from-next n r rs at) rooms.1
  fronts-kept n (begun_store object slot ∷ ss) [] at rooms = fronts-kept (n + 1) ss [] (from-none n at) rooms.1
  fronts-kept n (begun_store object slot ∷ ss) (r ∷ rs) at rooms =
      fronts-kept (n + 1) ss rs (from-next n r rs at) rooms.1
  fronts-kept n (begun_new type len local ∷ ss) [] at rooms =
      let (rest, is, enough, small) = rooms.0 in
      let none : None ≡ Some rest = rest-there n [] rest at is in absurd cc
  fronts-kept n (begun_new type len local ∷ ss) (r ∷ rs) at rooms =
      let (rest, is, enough, small) = rooms.0 in
      let same : r ≡ Some rest = rest-there n (r ∷ rs) rest at is in
      ap₂ (λ (x : ℕ) (xs : List ℕ). x ∷ xs) (ap front_or_zero is)
      (fronts-kept (n + 1) ss rs (from-next n r rs at) rooms.1)
      ∙ ap (λ (o : Option Piece). map (λ (p : Piece). p.place) (rest_pieces (o ∷ kept_rests ss rs))) (sym same)

  module _ (free : List Piece) where
    -- a search by where a context begins finds it
    abbrev IsFound : Piece → Type 0
    IsFound r = find (λ (p : Piece). nat_eq p.place r.place) free ≡ Some r

    -- each thread has the context that is kept
    pub rests-opened : (n : ℕ) (steps : List ThreadStep) (rests : List (Option Piece)) → AreFrom n rests
        → AllFrom (HasItsRoom m) (n + 1) steps → length steps ≡ length rests
        → ((r : Piece) → IsIn r (rest_pieces (kept_rests steps rests)) → IsFound r)
        → map (front_rest free) (steps_of m.layout (n + 1) steps) ≡ kept_rests steps rests
    rests-opened n [] [] at rooms few found = refl
    rests-opened n [] (r ∷ rs) at rooms few found = absurd (omega (arith, few))
    rests-opened n (s ∷ ss) [] at rooms few found = absurd (omega (arith, few))
    rests-opened n (no_step ∷ ss) (r ∷ rs) at rooms few found =
        ap (λ (os : List (Option Piece)). None ∷ os)
        (rests-opened (n + 1) ss rs (from-next n r rs at) rooms.1 (omega (arith, few)) found)
    rests-opened n (begun_store object slot ∷ ss) (r ∷ rs) at rooms few found =
        ap (λ (os : List (Option Piece)). None ∷ os)
        (rests-opened (n + 1) ss rs (from-next n r rs at) rooms.1 (omega (arith, few)) found)
    rests-opened n (begun_new type len local ∷ ss) (r ∷ rs) at rooms few found =
        let (rest, is, enough, small) = rooms.0 in
        let same : r ≡ Some rest = rest-there n (r ∷ rs) rest at is in
        let front : front_or_zero (rest_of m.layout (n + 1)) ≡ rest.place = ap front_or_zero is in
        let kept = kept_rests ss rs in
        let here : IsIn rest (rest_pieces (r ∷ kept)) =
        subst (λ (o : Option Piece). IsIn rest (rest_pieces (o ∷ kept))) (sym same) first in
        ap₂ (λ (o : Option Piece) (os : List (Option Piece)). o ∷ os)
        (ap (λ (x : ℕ). find (λ (p : Piece). nat_eq p.place x) free) front ∙ found rest here ∙ sym same)
        (rests-opened (n + 1) ss rs (from-next n r rs at) rooms.1 (omega (arith, few))
        (λ q i. found q (subst (λ (o : Option Piece). IsIn q (rest_pieces (o ∷ kept))) (sym same) (later i))))
