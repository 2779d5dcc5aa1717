-- Contexts and free items as lists: one rest put in the place of another, and one item that gives up its front.
use Rattle.std.proofs.Common.{◌≡◌, ◌≢◌, ℕ, zero, suc, ◌+◌, ◌-◌, ◌<◌, ◌≤◌, ◌⊎◌, inl, inr, List, [], ◌∷◌, ◌++◌, refl, sym}
use Rattle.std.proofs.Common.{ap, subst, arith, Bool, true, false, if◌then◌else◌, ◌==◌, nat_lt, slice_set, Option, Some}
use Rattle.std.proofs.Common.{None, ne_eqb, eq-eqb}
use Rattle.std.specs.Prelude.{slice_get}
use Rattle.std.specs.List.{AllByRecursion}
use Rattle.std.proofs.lemmas.Bool.{ltb-true}
use Rattle.clr_types.specs.Rising.{IsIn, first, later, IsRisingBy}
use Rattle.clr_types.specs.Ranges.{Piece, piece_end, range_piece}
use Rattle.clr_types.specs.Segments.{rest_pieces}
use Rattle.clr_types.proofs.RisingLists.{in_cons, all_at}
use Rattle.clr_types.proofs.SortedLists.{IsDistinctBy}
use Rattle.clr_types.proofs.ListMembers.{in_append, both_all, rising_append}
use Rattle.clr_types.proofs.Shuffles.{IsShuffled, under, swapped, followed, shuffled-same, shuffled-right}
use Rattle.clr_types.proofs.Shuffles.{shuffled-turn, shuffled-behind}
use Rattle.clr_model.specs.Updates.{option_piece, pieces_of_option}
use Rattle.clr_model.specs.Allocation.{taken_from}

-- ---- rests

rest_pieces-cons : (r : Option Piece) (rs : List (Option Piece))
    → rest_pieces (r ∷ rs) ≡ pieces_of_option r ++ rest_pieces rs
rest_pieces-cons None rs = refl
rest_pieces-cons (Some p) rs = refl

-- the rest at this index beside all others, whatever is put there
pub record HasRest (rests : List (Option Piece)) (i : ℕ) (rest : Option Piece) : Type 0 where
  pub others : List Piece
  pub was : IsShuffled (rest_pieces rests) (pieces_of_option rest ++ others)
  pub put : (new : Option Piece) → IsShuffled (rest_pieces (slice_set rests i new)) (pieces_of_option new ++ others)

pub rest-at : (rests : List (Option Piece)) (i : ℕ) (rest : Option Piece) → slice_get rests i ≡ Some rest
    → HasRest rests i rest
rest-at [] i rest e = absurd cc
rest-at (r ∷ rs) zero rest e =
    let same : r ≡ rest = cc in
    record {
      others = rest_pieces rs;
      was = subst (λ q. IsShuffled (rest_pieces (r ∷ rs)) (pieces_of_option q ++ rest_pieces rs)) same
          (subst (IsShuffled (rest_pieces (r ∷ rs))) (rest_pieces-cons r rs) (shuffled-same (rest_pieces (r ∷ rs))));
      put = λ new. subst (IsShuffled (rest_pieces (new ∷ rs))) (rest_pieces-cons new rs)
          (shuffled-same (rest_pieces (new ∷ rs)));
    }
rest-at (r ∷ rs) (suc i) rest e =
    let k : HasRest rs i rest = rest-at rs i rest e in
    record {
      others = pieces_of_option r ++ k.others;
      was =
          subst (λ ps. IsShuffled ps (pieces_of_option rest ++ (pieces_of_option r ++ k.others)))
          (sym (rest_pieces-cons r rs))
          (followed (shuffled-right (pieces_of_option r) k.was)
          (shuffled-turn (pieces_of_option r) (pieces_of_option rest) k.others));
      put = λ new.
          subst (λ ps. IsShuffled ps (pieces_of_option new ++ (pieces_of_option r ++ k.others)))
          (sym (rest_pieces-cons r (slice_set rs i new)))
          (followed (shuffled-right (pieces_of_option r) (k.put new))
          (shuffled-turn (pieces_of_option r) (pieces_of_option new) k.others));
    }

-- what all rests have, they have with one more that has it
pub all-rests : (P : Piece → Type 0) (rests : List (Option Piece)) (i : ℕ) (new : Option Piece)
    → AllByRecursion P (rest_pieces rests) → AllByRecursion P (pieces_of_option new)
    → AllByRecursion P (rest_pieces (slice_set rests i new))
all-rests P [] i new all here = tt
all-rests P (r ∷ rs) zero new all here =
    subst (AllByRecursion P) (sym (rest_pieces-cons new rs))
    (both_all P (pieces_of_option new) (rest_pieces rs) here (behind r all))
  where
    behind : (r : Option Piece) → AllByRecursion P (rest_pieces (r ∷ rs)) → AllByRecursion P (rest_pieces rs)
    behind None all = all
    behind (Some p) all = all.1
all-rests P (None ∷ rs) (suc i) new all here = all-rests P rs i new all here
all-rests P (Some p ∷ rs) (suc i) new all here = (all.0, all-rests P rs i new all.1 here)

-- a write at one index leaves what stands at any other
pub slice_get-elsewhere : {X : Type 0} (xs : List X) (i j : ℕ) (x : X) → j ≢ i
    → slice_get (slice_set xs i x) j ≡ slice_get xs j
slice_get-elsewhere [] i j x apart = refl
slice_get-elsewhere (y ∷ ys) zero zero x apart = absurd (apart refl)
slice_get-elsewhere (y ∷ ys) zero (suc j) x apart = refl
slice_get-elsewhere (y ∷ ys) (suc i) zero x apart = refl
slice_get-elsewhere (y ∷ ys) (suc i) (suc j) x apart = slice_get-elsewhere ys i j x (λ e. apart (ap suc e))

-- ---- ranges

-- a range has one piece at most
pub option-range : (low high : ℕ) → pieces_of_option (option_piece (range_piece low high)) ≡ range_piece low high
option-range low high = go (nat_lt low high)
  where
    go : (b : Bool) → pieces_of_option (option_piece (if b then record { place = low; size = high - low } ∷ [] else []))
        ≡ (if b then record { place = low; size = high - low } ∷ [] else [])
    go true = refl
    go false = refl

pub in-range : (low high : ℕ) (x : Piece) → IsIn x (range_piece low high)
    → (low < high) × (x ≡ record { place = low; size = high - low })
in-range low high x i = go (nat_lt low high) refl i
  where
    one : (x ≡ record { place = low; size = high - low }) ⊎ IsIn x [] → x ≡ record { place = low; size = high - low }
    one (inl e) = e
    one (inr j) = elim j [ ]

    go : (b : Bool) → nat_lt low high ≡ b → IsIn x (if b then record { place = low; size = high - low } ∷ [] else [])
        → (low < high) × (x ≡ record { place = low; size = high - low })
    go true e i = (ltb-true low high e, one (in_cons i))
    go false e i = elim i [ ]

pub range-distinct : (low high : ℕ) → IsDistinctBy (λ (p : Piece). p.place) (range_piece low high)
range-distinct low high = go (nat_lt low high)
  where
    go : (b : Bool) → IsDistinctBy (λ (p : Piece). p.place)
        (if b then record { place = low; size = high - low } ∷ [] else [])
    go true = (tt, tt)
    go false = tt

pub range-rises : (low high : ℕ) → IsRisingBy (λ (p : Piece). p.place) (range_piece low high)
range-rises low high = go (nat_lt low high)
  where
    go : (b : Bool) → IsRisingBy (λ (p : Piece). p.place)
        (if b then record { place = low; size = high - low } ∷ [] else [])
    go true = (tt, tt)
    go false = tt

-- ---- an item that gives up its front

-- what an item becomes
abbrev taken_item : ℕ → ℕ → Piece → List Piece
taken_item place size i = if i.place == place then range_piece (i.place + size) (piece_end i) else i ∷ []

taken-none : (place size : ℕ) (ps : List Piece) → AllByRecursion (λ (p : Piece). place ≢ p.place) ps
    → taken_from place size ps ≡ ps
taken-none place size [] apart = refl
taken-none place size (p ∷ ps) apart =
    let here : taken_item place size p ≡ p
    ∷ [] = ap (λ b. if b then range_piece (p.place + size) (piece_end p) else p ∷ [])
    (ne_eqb p.place place (λ e. apart.0 (sym e))) in
    let rest = taken-none place size ps apart.1 in λ i. here i ++ rest i

-- the item beside all others, before and after
pub record HasItem (item : Piece) (size : ℕ) (free : List Piece) : Type 0 where
  pub others : List Piece
  pub was : IsShuffled free (item ∷ others)
  pub taken : IsShuffled (taken_from item.place size free) (range_piece (item.place + size) (piece_end item) ++ others)

pub item-at : (item : Piece) (size : ℕ) (free : List Piece) → IsDistinctBy (λ (p : Piece). p.place) free
    → IsIn item free → HasItem item size free
item-at item size [] d i = elim i [ ]
item-at item size (p ∷ ps) d first = record {
  others = ps;
  was = shuffled-same (item ∷ ps);
  taken =
      let here : taken_item item.place size item
      ≡ range_piece (item.place + size) (piece_end item) =
      ap (λ b. if b then range_piece (item.place + size) (piece_end item) else item ∷ [])
      (eq-eqb item.place item.place refl) in
      let rest = taken-none item.place size ps d.0 in
      subst (λ qs. IsShuffled qs (range_piece (item.place + size) (piece_end item) ++ ps)) (sym (λ k. here k ++ rest k))
      (shuffled-same (range_piece (item.place + size) (piece_end item) ++ ps));
}
item-at item size (p ∷ ps) d (later i) =
    let k : HasItem item size ps = item-at item size ps d.1 i in
    let here : taken_item item.place size p ≡ p
    ∷ [] = ap (λ b. if b then range_piece (p.place + size) (piece_end p) else p ∷ [])
    (ne_eqb p.place item.place (all_at (λ (q : Piece). p.place ≢ q.place) i d.0)) in
    record {
      others = p ∷ k.others;
      was = followed (under k.was) swapped;
      taken =
          subst (λ qs. IsShuffled (qs ++ taken_from item.place size ps)
          (range_piece (item.place + size) (piece_end item) ++ (p ∷ k.others))) (sym here)
          (followed (under k.taken) (shuffled-behind p (range_piece (item.place + size) (piece_end item)) k.others));
    }

-- each of what items become lies in the range of one of them
taken-within : (place size : ℕ) (ps : List Piece) (x : Piece) → IsIn x (taken_from place size ps)
    → (p : Piece) × IsIn p ps × (p.place ≤ x.place)
taken-within place size [] x i = elim i [ ]
taken-within place size (p ∷ ps) x i = go (in_append (taken_item place size p) i) (taken-within place size ps x)
  where
    one : (x ≡ p) ⊎ IsIn x [] → p.place ≤ x.place
    one (inl e) = let same : x.place ≡ p.place = ap (λ (q : Piece). q.place) e in omega arith
    one (inr j) = elim j [ ]

    here : (b : Bool) → IsIn x (if b then range_piece (p.place + size) (piece_end p) else p ∷ []) → p.place ≤ x.place
    here true j = let (below, e) = in-range (p.place + size) (piece_end p) x j in
        let same : x.place ≡ p.place + size = ap (λ (q : Piece). q.place) e in omega arith
    here false j = one (in_cons j)

    go : IsIn x (taken_item place size p) ⊎ IsIn x (taken_from place size ps)
        → (IsIn x (taken_from place size ps) → (q : Piece) × IsIn q ps × (q.place ≤ x.place))
        → (q : Piece) × IsIn q (p ∷ ps) × (q.place ≤ x.place)
    go (inl j) more = (p, first, here (p.place == place) j)
    go (inr j) more = let (q, k, l) = more j in (q, later k, l)

-- items that rise and lie apart still rise
pub taken-rises : (place size : ℕ) (ps : List Piece) → IsRisingBy (λ (p : Piece). p.place) ps
    → ((p q : Piece) → IsIn p ps → IsIn q ps → p.place < q.place → piece_end p ≤ q.place)
    → IsRisingBy (λ (p : Piece). p.place) (taken_from place size ps)
taken-rises place size [] rise apart = tt
taken-rises place size (p ∷ ps) rise apart =
    rising_append (λ (q : Piece). q.place) (taken_item place size p) (taken_from place size ps)
    (alone (p.place == place)) (taken-rises place size ps rise.1 (λ q r i j. apart q r (later i) (later j)))
    (λ x y i j. let (q, k, l) = taken-within place size ps y j in
    let up : p.place < q.place = all_at (λ (q : Piece). p.place < q.place) k rise.0 in
    let a = apart p q first (later k) up in below x (p.place == place) i q.place y.place a up l)
  where
    alone : (b : Bool) → IsRisingBy (λ (q : Piece). q.place)
        (if b then range_piece (p.place + size) (piece_end p) else p ∷ [])
    alone true = range-rises (p.place + size) (piece_end p)
    alone false = (tt, tt)

    one : (x : Piece) → (x ≡ p) ⊎ IsIn x [] → x.place ≡ p.place
    one x (inl e) = ap (λ (q : Piece). q.place) e
    one x (inr j) = elim j [ ]

    below : (x : Piece) (b : Bool) → IsIn x (if b then range_piece (p.place + size) (piece_end p) else p ∷ [])
        → (mid high : ℕ) → piece_end p ≤ mid → p.place < mid → mid ≤ high → x.place < high
    below x true i mid high a up l = let (lo, e) = in-range (p.place + size) (piece_end p) x i in
        let same : x.place ≡ p.place + size = ap (λ (q : Piece). q.place) e in omega arith
    below x false i mid high a up l = let same = one x (in_cons i) in omega arith
