-- Fits as lists: of some plugs and then of others, and what finds no room.
use Rattle.std.proofs.Common.{◌≡◌, ℕ, ◌+◌, ◌-◌, ◌<◌, ◌≤◌, List, [], ◌∷◌, ◌++◌, refl, sym, ap, ◌∙◌, arith, Bool}
use Rattle.std.proofs.Common.{subst, true, false, if◌then◌else◌, ◌==◌, ◌||◌, ◌⊎◌, inl, inr, Option, None, Some}
use Rattle.std.proofs.Common.{nat_le, nat_lt}
use Rattle.std.proofs.lemmas.Bool.{both_ways, eq-eqb, le-leb, lt-ltb, ltb-true, ne_eqb}
use Rattle.std.specs.List.{AllByRecursion}
use Rattle.clr_types.specs.Ranges.{fits, Piece, piece_end, range_piece}
use Rattle.clr_types.specs.Rising.{IsIn}
use Rattle.clr_types.proofs.ChangedLists.{all_members}
use Rattle.clr_types.proofs.RisingLists.{all_at, in_cons}
use Rattle.clr_model.specs.Compaction.{Plug}
use Rattle.clr_model.specs.Fitting.{Fit, fit, fit_into, lowest_item, taken_from}
use Rattle.clr_fitting.specs.Laws.{AreItems}

-- a fit of some plugs, and then of others in the items that it leaves
abbrev then_fit : List Plug → Fit → Fit
then_fit qs f = record { moves = f.moves ++ (fit qs f.left).moves; left = (fit qs f.left).left }

-- is a fit of both
pub fit_both : (ps qs : List Plug) (items : List Piece) → fit (ps ++ qs) items ≡ then_fit qs (fit ps items)
fit_both [] qs items = refl
fit_both (p ∷ ps) qs items = go (lowest_item p.size items) (λ is. fit_both ps qs is)
  where
    go : (o : Option Piece) → ((is : List Piece) → fit (ps ++ qs) is ≡ then_fit qs (fit ps is))
        → fit_into p o (fit (ps ++ qs)) items ≡ then_fit qs (fit_into p o (fit ps) items)
    go None again = again items
    go (Some i) again =
        ap (λ (f : Fit). record f {
          moves = record { start = p.start; size = p.size; to = i.place } ∷ f.moves;
        }) (again (taken_from i.place p.size items))

pub fit_append : (ps qs : List Plug) (items : List Piece)
    → ((fit (ps ++ qs) items).moves ≡ (fit ps items).moves ++ (fit qs (fit ps items).left).moves)
    × ((fit (ps ++ qs) items).left ≡ (fit qs (fit ps items).left).left)
fit_append ps qs items =
    let e = fit_both ps qs items in (ap (λ (f : Fit). f.moves) e, ap (λ (f : Fit). f.left) e)

-- ---- what finds no room

pub fits-either : (size bytes : ℕ) → fits size bytes ≡ true → (size ≡ bytes) ⊎ (size + 24 ≤ bytes)
fits-either size bytes e = grind arith

fits-more : (size bytes : ℕ) → size + 24 ≤ bytes → fits size bytes ≡ true
fits-more size bytes l = go (size == bytes) (le-leb (size + 24) bytes l)
  where
    go : (b : Bool) → nat_le (size + 24) bytes ≡ true → (b || nat_le (size + 24) bytes) ≡ true
    go true e = refl
    go false e = e

-- where a size doesn't fit, it doesn't fit when the front is taken
less-room : (size bytes taken : ℕ) → 24 ≤ taken → taken ≤ bytes → fits size bytes ≡ false
    → fits size (bytes - taken) ≡ false
less-room size bytes taken least most e = go (fits size (bytes - taken)) refl
  where
    go : (b : Bool) → fits size (bytes - taken) ≡ b → fits size (bytes - taken) ≡ false
    go false f = f
    go true f = elim (fits-either size (bytes - taken) f) [
      | inl same ↦ absurd (both_ways (fits size bytes) e (fits-more size bytes (omega arith)))
      | inr more ↦ absurd (both_ways (fits size bytes) e (fits-more size bytes (omega arith)))
    ]

-- a size that fits in no item doesn't fit later, when a plug was put into one
pub no_room_later : (size place taken : ℕ) (items : List Piece) → 24 ≤ taken → lowest_item size items ≡ None
    → lowest_item size (taken_from place taken items) ≡ None
no_room_later size place taken [] least e = refl
no_room_later size place taken (i ∷ is) least e =
    by (fits size i.size) refl e (λ f. no_room_later size place taken is least f)
  where
    cut : (b : Bool) → nat_lt (i.place + taken) (piece_end i) ≡ b → fits size i.size ≡ false
        → lowest_item size (taken_from place taken is) ≡ None
        → lowest_item size
        ((if b then record { place = i.place + taken; size = piece_end i - (i.place + taken) } ∷ [] else [])
        ++ taken_from place taken is)
        ≡ None
    cut false l off more = more
    cut true l off more =
        let below = ltb-true (i.place + taken) (piece_end i) l in
        let same : piece_end i - (i.place + taken) ≡ i.size - taken = omega arith in
        ap (λ b. if b then Some (record { place = i.place + taken; size = piece_end i - (i.place + taken) }) else
        lowest_item size (taken_from place taken is))
        (ap (fits size) same ∙ less-room size i.size taken least (omega arith) off) ∙ more

    go : (b : Bool) → fits size i.size ≡ false → lowest_item size (taken_from place taken is) ≡ None
        → lowest_item size
        ((if b then range_piece (i.place + taken) (piece_end i) else i ∷ []) ++ taken_from place taken is) ≡ None
    go true off more = cut (nat_lt (i.place + taken) (piece_end i)) refl off more
    go false off more = ap (λ b. if b then Some i else lowest_item size (taken_from place taken is)) off ∙ more

    by : (b : Bool) → fits size i.size ≡ b → (if b then Some i else lowest_item size is) ≡ None
        → (lowest_item size is ≡ None → lowest_item size (taken_from place taken is) ≡ None)
        → lowest_item size (taken_from place taken (i ∷ is)) ≡ None
    by true f e more = absurd cc
    by false f e more = go (i.place == place) f (more e)

-- a search may begin behind items in which the size doesn't fit
pub lowest_behind : (size : ℕ) (below above : List Piece) → lowest_item size below ≡ None
    → lowest_item size (below ++ above) ≡ lowest_item size above
lowest_behind size [] above e = refl
lowest_behind size (i ∷ is) above e = go (fits size i.size) e (λ f. lowest_behind size is above f)
  where
    go : (b : Bool) → (if b then Some i else lowest_item size is) ≡ None
        → (lowest_item size is ≡ None → lowest_item size (is ++ above) ≡ lowest_item size above)
        → (if b then Some i else lowest_item size (is ++ above)) ≡ lowest_item size above
    go true e more = absurd cc
    go false e more = more e

-- ---- the front of an item

-- every item begins at the place or above it
abbrev pub AreAbove : ℕ → List Piece → Type 0
AreAbove low is = AllByRecursion (λ (i : Piece). low ≤ i.place) is

-- a place below all items is none of theirs
pub none-taken : (place size : ℕ) (is : List Piece) → AreAbove (place + 1) is → taken_from place size is ≡ is
none-taken place size [] a = refl
none-taken place size (i ∷ is) a =
    let l : place + 1 ≤ i.place = a.0 in
    ap (λ b. (if b then range_piece (i.place + size) (piece_end i) else i ∷ []) ++ taken_from place size is)
    (ne_eqb i.place place (λ e. absurd (omega (arith, e, l))))
    ∙ ap (λ js. i ∷ js) (none-taken place size is a.1)

-- what is taken at once can be taken in two steps
pub taken_twice : (place a b : ℕ) (items : List Piece) → AreItems items → 0 < a → 0 < b → (i : Piece) → IsIn i items
    → i.place ≡ place → a + b ≤ i.size
    → taken_from (place + a) b (taken_from place a items) ≡ taken_from place (a + b) items
taken_twice place a b [] h some more i n at room = elim n [ ]
taken_twice place a b (j ∷ is) h some more i n at room =
    by (in_cons n) (λ k. taken_twice place a b is h.2 some more i k at room)
  where
    above : (low : ℕ) → low ≤ piece_end j → AreAbove low is
    above low l = all_members (λ (k : Piece). low ≤ k.place) is
        (λ k o. let up : piece_end j ≤ k.place = all_at (λ (k : Piece). piece_end j ≤ k.place) o h.1 in omega arith)

    here : j.place ≡ place → a + b ≤ j.size
        → taken_from (place + a) b (taken_from place a (j ∷ is)) ≡ taken_from place (a + b) (j ∷ is)
    here at room =
        let same = eq-eqb j.place place at in
        let rest : Piece = record { place = j.place + a; size = piece_end j - (j.place + a) } in
        let first_cut : taken_from place a (j ∷ is) ≡ rest ∷ is =
        ap (λ c. (if c then range_piece (j.place + a) (piece_end j) else j ∷ []) ++ taken_from place a is) same
        ∙ ap (λ c. (if c then rest ∷ [] else []) ++ taken_from place a is)
        (lt-ltb (j.place + a) (piece_end j) (omega arith))
        ∙ ap (λ js. rest ∷ js) (none-taken place a is (above (place + 1) (omega arith))) in
        let end : piece_end rest ≡ piece_end j = omega arith in
        let from : rest.place + b ≡ j.place + (a + b) = omega arith in
        ap (taken_from (place + a) b) first_cut
        ∙ ap (λ c. (if c then range_piece (rest.place + b) (piece_end rest) else rest ∷ [])
        ++ taken_from (place + a) b is) (eq-eqb rest.place (place + a) (omega arith))
        ∙ (let none = none-taken (place + a) b is (above (place + a + 1) (omega arith)) in
        λ k. range_piece (from k) (end k) ++ none k)
        ∙ sym (ap (λ c. (if c then range_piece (j.place + (a + b)) (piece_end j) else j ∷ []) ++
        taken_from place (a + b) is) same
        ∙ ap (λ js. range_piece (j.place + (a + b)) (piece_end j) ++ js)
        (none-taken place (a + b) is (above (place + 1) (omega arith))))

    further : IsIn i is
        → taken_from (place + a) b (taken_from place a is) ≡ taken_from place (a + b) is
        → taken_from (place + a) b (taken_from place a (j ∷ is)) ≡ taken_from place (a + b) (j ∷ is)
    further k again =
        let up : piece_end j ≤ i.place = all_at (λ (k : Piece). piece_end j ≤ k.place) k h.1 in
        let (least, z) = h.0 in
        let off = ne_eqb j.place place (λ e. absurd (omega (arith, e, up, at, least))) in
        ap (λ c. taken_from (place + a) b
        ((if c then range_piece (j.place + a) (piece_end j) else j ∷ []) ++ taken_from place a is)) off
        ∙ ap (λ c. (if c then range_piece (j.place + b) (piece_end j) else j ∷ []) ++
        taken_from (place + a) b (taken_from place a is))
        (ne_eqb j.place (place + a) (λ e. absurd (omega (arith, e, up, at, least))))
        ∙ ap (λ js. j ∷ js) again
        ∙ sym (ap (λ c. (if c then range_piece (j.place + (a + b)) (piece_end j) else j ∷ []) ++
        taken_from place (a + b) is) off)

    by : (i ≡ j) ⊎ IsIn i is
        → (IsIn i is → taken_from (place + a) b (taken_from place a is) ≡ taken_from place (a + b) is)
        → taken_from (place + a) b (taken_from place a (j ∷ is)) ≡ taken_from place (a + b) (j ∷ is)
    by (inl e) again =
        here (sym (ap (λ (p : Piece). p.place) e) ∙ at) (subst (λ (p : Piece). a + b ≤ p.size) e room)
    by (inr k) again = further k (again k)
