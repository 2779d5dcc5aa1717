-- Item by item go the same plugs to the same places as plug by plug.
use Rattle.std.proofs.Common.{◌≡◌, ℕ, ◌+◌, ◌-◌, ◌<◌, ◌≤◌, List, [], ◌∷◌, ◌++◌, refl, sym, ap, subst, ◌∙◌, arith, Bool}
use Rattle.std.proofs.Common.{true, false, if◌then◌else◌, ◌==◌, ◌⊎◌, inl, inr, Option, None, Some, nat_lt}
use Rattle.std.proofs.lemmas.Bool.{ne_eqb, eq-eqb, lt-ltb, le-ltb, cases_order}
use Rattle.std.specs.List.{AllByRecursion}
use Rattle.clr_types.specs.Ranges.{fits, IsLawfulSize, Piece, piece_end, range_piece}
use Rattle.clr_types.proofs.RisingLists.{all_at}
use Rattle.clr_types.proofs.ChangedLists.{all_members}
use Rattle.clr_types.proofs.Shuffles.{followed, IsShuffled, shuffled-behind, shuffled-right, shuffled-same}
use Rattle.clr_types.proofs.Shuffles.{shuffled-sym, under}
use Rattle.clr_model.specs.Compaction.{Move, Plug}
use Rattle.clr_model.specs.Fitting.{Fit, fit, fit_into, lowest_item, taken_from}
use Rattle.clr_fitting.specs.Items.{Filled, filled, fit_by_item, with_move, with_over}
use Rattle.clr_fitting.specs.Laws.{AreItems}
use Rattle.clr_fitting.proofs.FitLists.{AreAbove, none-taken}

-- an item that is taken from leaves no lower one
above-taken : (low place size : ℕ) (is : List Piece) → AreAbove low is → AreAbove low (taken_from place size is)
above-taken low place size [] a = tt
above-taken low place size (i ∷ is) a = go (i.place == place) (above-taken low place size is a.1)
  where
    cut : (b : Bool) → AreAbove low (taken_from place size is)
        → AreAbove low
        ((if b then record { place = i.place + size; size = piece_end i - (i.place + size) } ∷ [] else [])
        ++ taken_from place size is)
    cut false more = more
    cut true more = (let l : low ≤ i.place = a.0 in omega arith, more)

    go : (b : Bool) → AreAbove low (taken_from place size is)
        → AreAbove low ((if b then range_piece (i.place + size) (piece_end i) else i ∷ []) ++ taken_from place size is)
    go true more = cut (nat_lt (i.place + size) (piece_end i)) more
    go false more = (a.0, more)

-- what is found is an item
found : (size low : ℕ) (is : List Piece) (j : Piece) → AreAbove low is → lowest_item size is ≡ Some j → low ≤ j.place
found size low [] j a e = absurd cc
found size low (i ∷ is) j a e = go (λ f. found size low is j a.1 f) (fits size i.size) e
  where
    same : {x y : Piece} → Some x ≡ Some y → x ≡ y
    same e = cc

    go : (lowest_item size is ≡ Some j → low ≤ j.place) → (b : Bool)
        → (if b then Some i else lowest_item size is) ≡ Some j → low ≤ j.place
    go again true e = subst (λ (k : Piece). low ≤ k.place) (same e) a.0
    go again false e = again e

-- a fit into what is left of an item and into the others: the item's plugs and the others', in their order
record IsMerged (all : Fit) (f : Filled) (others : Fit) : Type 0 where
  pub moves : IsShuffled (f.moves ++ others.moves) all.moves
  pub left : all.left ≡ f.rest ++ others.left

-- what is left of an item, as a list
abbrev rest_of : ℕ → ℕ → List Piece
rest_of place room = range_piece place (place + room)

abbrev item_of : ℕ → ℕ → Piece
item_of place room = record { place = place; size = place + room - place }

rest-some : (place room : ℕ) → 0 < room → rest_of place room ≡ item_of place room ∷ []
rest-some place room l =
    ap (λ b. if b then item_of place room ∷ [] else []) (lt-ltb place (place + room) (omega arith))

rest-none : (place room : ℕ) → room ≡ 0 → rest_of place room ≡ []
rest-none place room e =
    ap (λ b. if b then item_of place room ∷ [] else []) (le-ltb place (place + room) (omega arith))

fits-least : (size bytes : ℕ) → 24 ≤ size → fits size bytes ≡ true → size ≤ bytes
fits-least size bytes l e = grind arith

abbrev move_to : Plug → ℕ → Move
move_to p place = record { start = p.start; size = p.size; to = place }

-- a plug more in front
abbrev moved_first : Plug → ℕ → Fit → Fit
moved_first p place f = record { moves = move_to p place ∷ f.moves; left = f.left }

module _ (p : Plug) (ps : List Plug) (place room : ℕ) (is : List Piece) (big : 24 ≤ p.size)
    (a : AreAbove (place + room) is) where
  -- ---- the plug fits

  module _ (t : fits p.size room ≡ true) where
    enough : p.size ≤ room
    enough = fits-least p.size room big t

    lowest-is : lowest_item p.size (item_of place room ∷ is) ≡ Some (item_of place room)
    lowest-is =
        let same : place + room - place ≡ room = omega arith in
        ap (λ b. if b then Some (item_of place room) else lowest_item p.size is) (ap (fits p.size) same ∙ t)

    taken-is : taken_from place p.size (item_of place room ∷ is) ≡ rest_of (place + p.size) (room - p.size) ++ is
    taken-is =
        let l = enough in
        let end : place + (place + room - place) ≡ place + p.size + (room - p.size) = omega arith in
        let up : AreAbove (place + 1) is =
        all_members (λ (i : Piece). place + 1 ≤ i.place) is
        (λ i n. let low : place + room ≤ i.place = all_at (λ (i : Piece). place + room ≤ i.place) n a in omega arith) in
        ap (λ b. (if b then range_piece (place + p.size) (piece_end (item_of place room)) else
        item_of place room ∷ []) ++ taken_from place p.size is) (eq-eqb place place refl)
        ∙ (let none = none-taken place p.size is up in λ k. range_piece (place + p.size) (end k) ++ none k)

    pub front-is : fit (p ∷ ps) (rest_of place room ++ is)
        ≡ moved_first p place (fit ps (rest_of (place + p.size) (room - p.size) ++ is))
    front-is =
        let l = enough in
        ap (λ r. fit (p ∷ ps) (r ++ is)) (rest-some place room (omega arith))
        ∙ ap (λ o. fit_into p o (fit ps) (item_of place room ∷ is)) lowest-is
        ∙ ap (λ js. moved_first p place (fit ps js)) taken-is

    above-rest : AreAbove (place + p.size + (room - p.size)) is
    above-rest = let l = enough in
        let same : place + room ≡ place + p.size + (room - p.size) = omega arith in
        subst (λ n. AreAbove n is) same a

  -- ---- it doesn't

  module _ (t : fits p.size room ≡ false) where
    lowest-over : lowest_item p.size (rest_of place room ++ is) ≡ lowest_item p.size is
    lowest-over = go (cases_order 0 room)
      where
        go : (0 ≡ room) ⊎ ((0 < room) ⊎ (room < 0)) → lowest_item p.size (rest_of place room ++ is)
            ≡ lowest_item p.size is
        go (inl e) = ap (λ r. lowest_item p.size (r ++ is)) (rest-none place room (sym e))
        go (inr (inr l)) = absurd (omega (arith, l))
        go (inr (inl l)) =
            let same : place + room - place ≡ room = omega arith in
            ap (λ r. lowest_item p.size (r ++ is)) (rest-some place room l)
            ∙ ap (λ b. if b then Some (item_of place room) else lowest_item p.size is) (ap (fits p.size) same ∙ t)

    taken-over : (j : Piece) → place + room ≤ j.place
        → taken_from j.place p.size (rest_of place room ++ is) ≡ rest_of place room ++ taken_from j.place p.size is
    taken-over j low = go (cases_order 0 room)
      where
        go : (0 ≡ room) ⊎ ((0 < room) ⊎ (room < 0))
            → taken_from j.place p.size (rest_of place room ++ is)
            ≡ rest_of place room ++ taken_from j.place p.size is
        go (inl e) =
            let none = rest-none place room (sym e) in
            ap (λ r. taken_from j.place p.size (r ++ is)) none
            ∙ ap (λ r. r ++ taken_from j.place p.size is) (sym none)
        go (inr (inr l)) = absurd (omega (arith, l))
        go (inr (inl l)) =
            let some = rest-some place room l in
            ap (λ r. taken_from j.place p.size (r ++ is)) some
            ∙ ap (λ b. (if b then range_piece (place + p.size) (piece_end (item_of place room)) else
            item_of place room ∷ []) ++ taken_from j.place p.size is)
            (ne_eqb place j.place (λ e. absurd (omega (arith, e, l, low))))
            ∙ ap (λ r. r ++ taken_from j.place p.size is) (sym some)

merged : (ps : List Plug) (place room : ℕ) (is : List Piece) → AllByRecursion (λ (p : Plug). 24 ≤ p.size) ps
    → AreAbove (place + room) is
    → IsMerged (fit ps (rest_of place room ++ is)) (filled place room ps) (fit (filled place room ps).over is)
merged [] place room is least a = record { moves = shuffled-same []; left = refl }
merged (p ∷ ps) place room is least a =
    go (λ at bytes js. merged ps at bytes js least.1) (fits p.size room) refl
  where
    Again : Type 0
    Again = (at bytes : ℕ) (js : List Piece) → AreAbove (at + bytes) js
        → IsMerged (fit ps (rest_of at bytes ++ js)) (filled at bytes ps) (fit (filled at bytes ps).over js)

    passed : Again → fits p.size room ≡ false → (o : Option Piece) → lowest_item p.size is ≡ o
        → IsMerged (fit_into p o (fit ps) (rest_of place room ++ is)) (with_over p (filled place room ps))
        (fit_into p o (fit (filled place room ps).over) is)
    passed again t None e = let r = again place room is a in record { moves = r.moves; left = r.left }
    passed again t (Some j) e =
        let low : place + room ≤ j.place = found p.size (place + room) is j a e in
        let r = again place room (taken_from j.place p.size is) (above-taken (place + room) j.place p.size is a) in
        let over = taken-over p ps place room is least.0 a t j low in
        subst (λ js. IsMerged (moved_first p j.place (fit ps js)) (with_over p (filled place room ps))
        (moved_first p j.place (fit (filled place room ps).over (taken_from j.place p.size is)))) (sym over)
        (record {
          moves = followed (shuffled-sym (shuffled-behind (move_to p j.place) (filled place room ps).moves
              (fit (filled place room ps).over (taken_from j.place p.size is)).moves)) (under r.moves);
          left = r.left;
        })

    go : Again → (b : Bool) → fits p.size room ≡ b
        → IsMerged (fit (p ∷ ps) (rest_of place room ++ is))
        (if b then with_move p place (filled (place + p.size) (room - p.size) ps) else
        with_over p (filled place room ps))
        (fit (if b then with_move p place (filled (place + p.size) (room - p.size) ps) else
        with_over p (filled place room ps)).over is)
    go again true t =
        let r = again (place + p.size) (room - p.size) is (above-rest p ps place room is least.0 a t) in
        subst (λ all. IsMerged all (with_move p place (filled (place + p.size) (room - p.size) ps))
        (fit (filled (place + p.size) (room - p.size) ps).over is)) (sym (front-is p ps place room is least.0 a t))
        (record { moves = under r.moves; left = r.left })
    go again false t =
        subst (λ all. IsMerged all (with_over p (filled place room ps)) (fit (p ∷ (filled place room ps).over) is))
        (sym (ap (λ o. fit_into p o (fit ps) (rest_of place room ++ is)) (lowest-over p ps place room is least.0 a t)))
        (passed again t (lowest_item p.size is) refl)

-- ---- all items

no-items : (ps : List Plug) → fit ps [] ≡ record { moves = []; left = [] }
no-items [] = refl
no-items (p ∷ ps) = no-items ps

-- what an item leaves for higher ones are plugs
over-least : (ps : List Plug) (place room : ℕ) → AllByRecursion (λ (p : Plug). 24 ≤ p.size) ps
    → AllByRecursion (λ (p : Plug). 24 ≤ p.size) (filled place room ps).over
over-least [] place room least = tt
over-least (p ∷ ps) place room least =
    go (fits p.size room) (over-least ps (place + p.size) (room - p.size) least.1) (over-least ps place room least.1)
  where
    go : (b : Bool) → AllByRecursion (λ (p : Plug). 24 ≤ p.size) (filled (place + p.size) (room - p.size) ps).over
        → AllByRecursion (λ (p : Plug). 24 ≤ p.size) (filled place room ps).over
        → AllByRecursion (λ (p : Plug). 24 ≤ p.size)
        (if b then with_move p place (filled (place + p.size) (room - p.size) ps) else
        with_over p (filled place room ps)).over
    go true more less = more
    go false more less = (least.0, less)

whole-item : (i : Piece) → IsLawfulSize i.size → rest_of i.place i.size ≡ i ∷ []
whole-item i (l, m) =
    let same : i.place + i.size - i.place ≡ i.size = omega arith in
    rest-some i.place i.size (omega arith) ∙ ap (λ n. record { place = i.place; size = n } ∷ []) same

pub by_item : (ps : List Plug) (items : List Piece) → AllByRecursion (λ (p : Plug). 24 ≤ p.size) ps → AreItems items
    → IsShuffled (fit_by_item items ps).moves (fit ps items).moves × ((fit_by_item items ps).left ≡ (fit ps items).left)
by_item ps [] least h =
    let none = no-items ps in (
      subst (IsShuffled []) (sym (ap (λ (f : Fit). f.moves) none)) (shuffled-same []),
      sym (ap (λ (f : Fit). f.left) none),
    )
by_item ps (i ∷ is) least h =
    let (moves, left) = by_item (filled i.place i.size ps).over is (over-least ps i.place i.size least) h.2 in
    let r : IsMerged (fit ps (i ∷ is)) (filled i.place i.size ps) (fit (filled i.place i.size ps).over is) =
    subst (λ r. IsMerged (fit ps (r ++ is)) (filled i.place i.size ps) (fit (filled i.place i.size ps).over is))
    (whole-item i h.0) (merged ps i.place i.size is least h.1) in (
      followed (shuffled-right (filled i.place i.size ps).moves moves) r.moves,
      ap (λ js. (filled i.place i.size ps).rest ++ js) left ∙ sym r.left,
    )
