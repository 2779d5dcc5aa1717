-- Sizes of pieces in a stretch: a bound of them through its changes, and a size that is above it.
use Rattle.std.proofs.Common.{◌≡◌, inl, inr, ℕ, zero, suc, ◌+◌, ◌<◌, ◌≤◌, true, false, Bool, List, [], ◌∷◌, ◌++◌}
use Rattle.std.proofs.Common.{refl, sym, subst, arith, take, drop, find, None, Some}
use Rattle.std.proofs.Common.{if◌then◌else◌, nat_le, ◌==◌}
use Rattle.std.proofs.lemmas.Bool.{cases_lt, le-ltb, lt-ltb}
use Rattle.std.proofs.lemmas.List.Concat.{flat_map-cons}
use Rattle.clr_types.specs.Rising.{insert_by}
use Rattle.clr_types.specs.Ranges.{fits, Piece, piece_end, range_piece}
use Rattle.clr_model.specs.Allocation.{taken_from}
use Rattle.clr_model.proofs.SplitPieces.{fits-is}
use Rattle.clr_items.specs.Stretches.{HaveAtMost}
use Rattle.clr_items.proofs.Lists.{left_of, place}

pub at-most-more : (m n : ℕ) (ps : List Piece) → m ≤ n → HaveAtMost m ps → HaveAtMost n ps
at-most-more m n [] l all = tt
at-most-more m n (p ∷ ps) l all = let a = all.0 in (omega (arith, a, l), at-most-more m n ps l all.1)

pub at-most-append : (m : ℕ) (ps qs : List Piece) → HaveAtMost m ps → HaveAtMost m qs → HaveAtMost m (ps ++ qs)
at-most-append m [] qs all both = both
at-most-append m (p ∷ ps) qs all both = (all.0, at-most-append m ps qs all.1 both)

pub at-most-put : (m : ℕ) (x : Piece) (ps : List Piece) → x.size ≤ m → HaveAtMost m ps
    → HaveAtMost m (insert_by place x ps)
at-most-put m x [] l all = (l, tt)
at-most-put m x (p ∷ ps) l all = go (nat_le x.place p.place) (at-most-put m x ps l all.1)
  where
    go : (b : Bool) → HaveAtMost m (insert_by place x ps)
        → HaveAtMost m (if b then x ∷ p ∷ ps else p ∷ insert_by place x ps)
    go true rest = (l, all)
    go false rest = (all.0, rest)

pub at-most-drop : (m n : ℕ) (ps : List Piece) → HaveAtMost m ps → HaveAtMost m (drop n ps)
at-most-drop m zero ps all = all
at-most-drop m (suc n) [] all = tt
at-most-drop m (suc n) (p ∷ ps) all = at-most-drop m n ps all.1

pub at-most-take : (m n : ℕ) (ps : List Piece) → HaveAtMost m ps → HaveAtMost m (take n ps)
at-most-take m zero ps all = tt
at-most-take m (suc n) [] all = tt
at-most-take m (suc n) (p ∷ ps) all = (all.0, at-most-take m n ps all.1)

-- what is left of a piece is no larger
at-most-left : (m at n : ℕ) (p : Piece) → p.size ≤ m → HaveAtMost m (left_of at n p)
at-most-left m at n p l = outer (p.place == at)
  where
    outer : (b : Bool) → HaveAtMost m (if b then range_piece (p.place + n) (piece_end p) else p ∷ [])
    outer true = elim (cases_lt (p.place + n) (piece_end p)) [
      | inl more ↦ let some = lt-ltb (p.place + n) (piece_end p) more in rw some (omega (arith, l), tt)
      | inr none ↦ let stop = le-ltb (p.place + n) (piece_end p) none in rw stop tt
    ]
    outer false = (l, tt)

pub at-most-taken : (m at n : ℕ) (ps : List Piece) → HaveAtMost m ps → HaveAtMost m (taken_from at n ps)
at-most-taken m at n [] all = tt
at-most-taken m at n (p ∷ ps) all = subst (HaveAtMost m) (sym (flat_map-cons (left_of at n) p ps))
    (at-most-append m (left_of at n p) (taken_from at n ps) (at-most-left m at n p all.0)
    (at-most-taken m at n ps all.1))

-- where all are too small, a size fits in none
pub none-fits : (size most : ℕ) (ps : List Piece) → most < size → HaveAtMost most ps
    → find (λ (p : Piece). fits size p.size) ps ≡ None
none-fits size most [] l all = refl
none-fits size most (p ∷ ps) l all = go (fits size p.size) refl (none-fits size most ps l all.1)
  where
    go : (b : Bool) → fits size p.size ≡ b → find (λ (q : Piece). fits size q.size) ps ≡ None
        → (if b then Some p else find (λ (q : Piece). fits size q.size) ps) ≡ None
    go true e rest = let a = all.0 in elim (fits-is size p.size e) [
      | inl same ↦ absurd (omega (arith, a, l, same))
      | inr more ↦ absurd (omega (arith, a, l, more))
    ]
    go false e rest = rest
