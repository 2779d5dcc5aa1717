-- Plugs that find room in free items: each item is filled from its front, and what is left of it is one item or none.
use Rattle.std.proofs.Common.{◌≡◌, ℕ, ◌+◌, ◌-◌, ◌<◌, ◌≤◌, ◌⊎◌, inl, inr, List, [], ◌∷◌, ◌++◌, map, refl, sym, ap, subst}
use Rattle.std.proofs.Common.{◌∙◌, arith, Bool, true, false, if◌then◌else◌, ◌==◌, Option, None, Some, nat_lt}
use Rattle.std.proofs.lemmas.Bool.{eqb-true, lt-ltb, le-ltb, eqb-false}
use Rattle.std.specs.List.{AllByRecursion, flat_map}
use Rattle.clr_types.specs.Rising.{IsIn, first, later, IsRisingBy}
use Rattle.clr_types.specs.Ranges.{Piece, piece_end, IsLawfulSize, Tiles, fits, range_piece}
use Rattle.clr_types.proofs.RisingLists.{all_at, in_cons}
use Rattle.clr_types.proofs.ChangedLists.{all_members}
use Rattle.clr_model.specs.Compaction.{Plug, Move}
use Rattle.clr_model.specs.Fitting.{lowest_item, taken_from, fit, fit_into}
use Rattle.clr_model.proofs.PlugsApart.{piece_of_move}

-- items by rising place, lawful and apart
abbrev pub AreItems : List Piece → Type 0
AreItems [] = Unit {0}
AreItems (i ∷ is) = IsLawfulSize i.size × AllByRecursion (λ (j : Piece). piece_end i ≤ j.place) is × AreItems is

pub items-lawful : (items : List Piece) (i : Piece) → AreItems items → IsIn i items → IsLawfulSize i.size
items-lawful (j ∷ is) i h first = h.0
items-lawful (j ∷ is) i h (later n) = items-lawful is i h.2 n
items-lawful [] i h n = elim n [ ]

-- of two items one ends before the other begins, or they are one
pub items-apart : (items : List Piece) (i j : Piece) → AreItems items → IsIn i items → IsIn j items
    → (i ≡ j) ⊎ ((piece_end i ≤ j.place) ⊎ (piece_end j ≤ i.place))
items-apart (k ∷ is) i j h first first = inl refl
items-apart (k ∷ is) i j h first (later n) = inr (inl (all_at (λ (j : Piece). piece_end k ≤ j.place) n h.1))
items-apart (k ∷ is) i j h (later n) first = inr (inr (all_at (λ (j : Piece). piece_end k ≤ j.place) n h.1))
items-apart (k ∷ is) i j h (later n) (later o) = items-apart is i j h.2 n o
items-apart [] i j h n o = elim n [ ]

pub items-once : (items : List Piece) (i j : Piece) → AreItems items → IsIn i items → IsIn j items
    → i.place ≡ j.place → i ≡ j
items-once items i j h n o e = elim (items-apart items i j h n o) [
  | inl same ↦ same
  | inr (inl l) ↦ let (a, b) = items-lawful items i h n in absurd (omega arith)
  | inr (inr l) ↦ let (a, b) = items-lawful items j h o in absurd (omega arith)
]

-- ---- one item filled

-- an item, the moves into it by rising destination, and what is left of it
pub record Filling : Type 0 where
  pub item : Piece
  pub moves : List Move
  pub rest : List Piece

abbrev pub filling_pieces : Filling → List Piece
filling_pieces f = map piece_of_move f.moves ++ f.rest

abbrev pub IsFilling : Filling → Type 0
IsFilling f = Tiles f.item.place (piece_end f.item) (filling_pieces f)

-- how items are filled by these moves, with these items left
pub record AreFillings (items : List Piece) (moves : List Move) (left : List Piece) : Type 0 where
  pub fillings : List Filling
  pub items_are : map (λ f. f.item) fillings ≡ items
  pub left_are : left ≡ flat_map (λ f. f.rest) fillings
  pub filled : AllByRecursion IsFilling fillings
  pub moves_into : (v : Move) → IsIn v moves → (f : Filling) × IsIn f fillings × IsIn v f.moves
  pub moves_from : (f : Filling) → IsIn f fillings → (v : Move) → IsIn v f.moves → IsIn v moves

abbrev unfilled : Piece → Filling
unfilled i = record { item = i; moves = []; rest = i ∷ [] }

none-filled : (items : List Piece) → AreItems items → AreFillings items [] items
none-filled items h = record {
  fillings = map unfilled items;
  items_are = same items;
  left_are = left items;
  filled = filled items h;
  moves_into = λ v i. elim i [ ];
  moves_from = λ f n v i. absurd (empty items f n v i);
}
  where
    same : (is : List Piece) → map (λ f. f.item) (map unfilled is) ≡ is
    same [] = refl
    same (i ∷ is) = ap (λ js. i ∷ js) (same is)

    left : (is : List Piece) → is ≡ flat_map (λ f. f.rest) (map unfilled is)
    left [] = refl
    left (i ∷ is) = ap (λ js. i ∷ js) (left is)

    filled : (is : List Piece) → AreItems is → AllByRecursion IsFilling (map unfilled is)
    filled [] h = tt
    filled (i ∷ is) h = ((refl, h.0, refl), filled is h.2)

    empty : (is : List Piece) (f : Filling) → IsIn f (map unfilled is) → (v : Move) → IsIn v f.moves → ⊥
    empty [] f n v i = elim n [ ]
    empty (j ∷ is) f first v i = elim i [ ]
    empty (j ∷ is) f (later n) v i = empty is f n v i

-- ---- an item of which the front is taken

-- what is left of an item is one lawful item or none
record IsTaken (size : ℕ) (i : Piece) : Type 0 where
  pub lawful : IsLawfulSize size
  pub whole : IsLawfulSize i.size
  pub fits_in : (size ≡ i.size) ⊎ (size + 24 ≤ i.size)

module _ (place size : ℕ) (lawful : IsLawfulSize size) where
  abbrev take : Piece → List Piece
  take i = if i.place == place then range_piece (i.place + size) (piece_end i) else i ∷ []

  abbrev Fits : List Piece → Type 0
  Fits is = AllByRecursion (λ (i : Piece). i.place ≡ place → (size ≡ i.size) ⊎ (size + 24 ≤ i.size)) is

  -- the rest of one item
  rest-items : (i : Piece) → IsLawfulSize i.size → (i.place ≡ place → (size ≡ i.size) ⊎ (size + 24 ≤ i.size))
      → (js : List Piece) → AllByRecursion (λ (j : Piece). piece_end i ≤ j.place) js → AreItems js
      → AreItems (take i ++ js)
  rest-items i whole fit js above h = go (i.place == place) refl
    where
      cut : (b : Bool) → nat_lt (i.place + size) (piece_end i) ≡ b → (size ≡ i.size) ⊎ (size + 24 ≤ i.size)
          → AreItems ((if b then record { place = i.place + size; size = piece_end i - (i.place + size) } ∷ [] else [])
          ++ js)
      cut false e f = h
      cut true e f = let (a, b) = whole in let (c, d) = lawful in (
        elim f [
          | inl same ↦ absurd (true_false (nat_lt (i.place + size) (piece_end i)) e
              (le-ltb (i.place + size) (piece_end i) (omega arith)))
          | inr more ↦ (omega arith, omega arith)
        ],
        all_members (λ (j : Piece). i.place + size + (piece_end i - (i.place + size)) ≤ j.place) js
            (λ j n. let l : piece_end i ≤ j.place = all_at (λ (j : Piece). piece_end i ≤ j.place) n above in
            bound j l f),
        h,
      )
        where
          true_false : (b : Bool) → b ≡ true → b ≡ false → ⊥
          true_false true e f = absurd cc
          true_false false e f = absurd cc

          bound : (j : Piece) → piece_end i ≤ j.place → (size ≡ i.size) ⊎ (size + 24 ≤ i.size)
              → i.place + size + (piece_end i - (i.place + size)) ≤ j.place
          bound j l (inl g) = omega arith
          bound j l (inr g) = omega arith

      go : (b : Bool) → (i.place == place) ≡ b
          → AreItems ((if b then range_piece (i.place + size) (piece_end i) else i ∷ []) ++ js)
      go true e = cut (nat_lt (i.place + size) (piece_end i)) refl (fit (eqb-true i.place place e))
      go false e = (whole, above, h)

  abbrev AreAbove : ℕ → List Piece → Type 0
  AreAbove low js = AllByRecursion (λ (j : Piece). low ≤ j.place) js

  above-taken : (low : ℕ) (is : List Piece) → AllByRecursion (λ (j : Piece). low ≤ j.place) is
      → AllByRecursion (λ (j : Piece). low ≤ j.place) (flat_map take is)
  above-taken low [] a = tt
  above-taken low (i ∷ is) a = go (i.place == place) (above-taken low is a.1)
    where
      cut : (b : Bool) → AreAbove low (flat_map take is)
          → AreAbove low
          ((if b then record { place = i.place + size; size = piece_end i - (i.place + size) } ∷ [] else [])
          ++ flat_map take is)
      cut false more = more
      cut true more = (let l : low ≤ i.place = a.0 in omega arith, more)

      go : (b : Bool) → AreAbove low (flat_map take is)
          → AreAbove low ((if b then range_piece (i.place + size) (piece_end i) else i ∷ []) ++ flat_map take is)
      go true more = cut (nat_lt (i.place + size) (piece_end i)) more
      go false more = (a.0, more)

  pub taken-items : (is : List Piece) → AreItems is → Fits is → AreItems (taken_from place size is)
  taken-items [] h f = tt
  taken-items (i ∷ is) h f =
      rest-items i h.0 f.0 (flat_map take is) (above-taken (piece_end i) is h.1) (taken-items is h.2 f.1)

  module _ (v : Move) (to : v.to ≡ place) (sized : v.size ≡ size) where
    -- fillings of what is left make fillings of the whole
    record Refilled (is : List Piece) (fs : List Filling) : Type 0 where
      pub fillings : List Filling
      pub items_are : map (λ f. f.item) fillings ≡ is
      pub left_are : flat_map (λ f. f.rest) fs ≡ flat_map (λ f. f.rest) fillings
      pub filled : AllByRecursion IsFilling fillings
      pub more : (w : Move) (f : Filling) → IsIn f fs → IsIn w f.moves
          → (g : Filling) × IsIn g fillings × IsIn w g.moves
      pub only : (g : Filling) → IsIn g fillings → (w : Move) → IsIn w g.moves
          → (w ≡ v) ⊎ ((f : Filling) × IsIn f fs × IsIn w f.moves)
      pub added : (i : Piece) → IsIn i is → i.place ≡ place → (g : Filling) × IsIn g fillings × IsIn v g.moves

    nothing : (ps : List Piece) (p : Piece) (qs : List Piece) → [] ≡ p ∷ qs → ⊥
    nothing ps p qs e = cc

    abbrev item_of : Filling → Piece
    item_of f = f.item

    head_is : (f : Filling) (fs : List Filling) (p : Piece) (qs : List Piece) → map item_of (f ∷ fs) ≡ p ∷ qs
        → (f.item ≡ p) × (map item_of fs ≡ qs)
    head_is f fs p qs e = (heads e, tails e)
      where
        heads : {X : Type 0} {x y : X} {xs ys : List X} → x ∷ xs ≡ y ∷ ys → x ≡ y
        heads e = cc

        tails : {X : Type 0} {x y : X} {xs ys : List X} → x ∷ xs ≡ y ∷ ys → xs ≡ ys
        tails e = cc

    -- a filling in front of others
    in_front : (i : Piece) (is : List Piece) (fs gs : List Filling) (new : Filling) → new.item ≡ i → IsFilling new
        → Refilled is gs → flat_map (λ f. f.rest) fs ≡ new.rest ++ flat_map (λ f. f.rest) gs
        → ((w : Move) (f : Filling) → IsIn f fs → IsIn w f.moves → IsIn w new.moves ⊎ IsIn f gs)
        → ((w : Move) → IsIn w new.moves → (w ≡ v) ⊎ ((f : Filling) × IsIn f fs × IsIn w f.moves))
        → ((f : Filling) → IsIn f gs → IsIn f fs) → (i.place ≡ place → IsIn v new.moves) → Refilled (i ∷ is) fs
    in_front i is fs gs new at filled r left more only sub added = record {
      fillings = new ∷ r.fillings;
      items_are = (let a = at in let b = r.items_are in λ k. a k ∷ b k);
      left_are = left ∙ ap (λ ps. new.rest ++ ps) r.left_are;
      filled = (filled, r.filled);
      more = λ w f n o. elim (more w f n o) [
        | inl here ↦ (new, first, here)
        | inr there ↦ let (g, p, q) = r.more w f there o in (g, later p, q)
      ];
      only = λ g n w o. elim (in_cons n) [
        | inl same ↦ only w (subst (λ (h : Filling). IsIn w h.moves) same o)
        | inr p ↦ elim (r.only g p w o) [ inl e ↦ inl e | inr (f, q, s) ↦ inr (f, sub f q, s) ]
      ];
      added = λ j n e. elim (in_cons n) [
        | inl same ↦ (new, first, added (sym (ap (λ (p : Piece). p.place) same) ∙ e))
        | inr p ↦ let (g, q, s) = r.added j p e in (g, later q, s)
      ];
    }

    abbrev More : List Piece → Type 0
    More is = (gs : List Filling) → map item_of gs ≡ flat_map take is → AllByRecursion IsFilling gs → Refilled is gs

    refill : (is : List Piece) (fs : List Filling) → AreItems is → Fits is → map item_of fs ≡ flat_map take is
        → AllByRecursion IsFilling fs → Refilled is fs
    refill [] [] h f e filled = record {
      fillings = [];
      items_are = refl;
      left_are = refl;
      filled = tt;
      more = λ w g n o. elim n [ ];
      only = λ g n w o. elim n [ ];
      added = λ i n e. elim n [ ];
    }
    refill [] (g ∷ fs) h f e filled = absurd cc
    refill (i ∷ is) fs h f e filled = go (λ gs. refill is gs h.2 f.1) (i.place == place) refl e
      where
        size_of : IsLawfulSize size
        size_of = lawful

        -- the item is used up
        used : More is → i.place ≡ place → size ≡ i.size → map item_of fs ≡ flat_map take is → Refilled (i ∷ is) fs
        used again at whole e =
            in_front i is fs fs (record { item = i; moves = v ∷ []; rest = [] }) refl
            (omega arith, subst IsLawfulSize (sym sized) lawful, omega arith)
            (again fs e filled) refl (λ w g n o. inr n)
            (λ w n. elim (in_cons n) [ inl s ↦ inl s | inr o ↦ elim o [ ] ]) (λ g n. n) (λ s. first)

        -- one item is left of it
        cut : More is → i.place ≡ place → size + 24 ≤ i.size → (gs : List Filling)
            → map item_of gs ≡ record { place = i.place + size; size = piece_end i - (i.place + size) }
            ∷ flat_map take is
            → AllByRecursion IsFilling gs → Refilled (i ∷ is) gs
        cut again at room [] e filled = absurd cc
        cut again at room (g ∷ gs) e filled =
            let (same, others) = head_is g gs (record { place = i.place + size; size = piece_end i - (i.place + size) })
            (flat_map take is) e in
            let begins : g.item.place ≡ i.place + size = ap (λ (p : Piece). p.place) same in
            let long : g.item.size ≡ piece_end i - (i.place + size) = ap (λ (p : Piece). p.size) same in
            let from : g.item.place ≡ v.to + v.size = omega arith in
            let up : piece_end g.item ≡ piece_end i = omega arith in
            in_front i is (g ∷ gs) gs (record { item = i; moves = v ∷ g.moves; rest = g.rest }) refl (
              omega arith,
              subst IsLawfulSize (sym sized) lawful,
              subst (λ n. Tiles n (piece_end i) (filling_pieces g)) from
                  (subst (λ n. Tiles g.item.place n (filling_pieces g)) up filled.0),
            )
            (again gs others filled.1) refl
            (λ w k n o. elim (in_cons n) [
              | inl s ↦ inl (later (subst (λ (x : Filling). IsIn w x.moves) s o))
              | inr p ↦ inr p
            ])
            (λ w n. elim (in_cons n) [ inl s ↦ inl s | inr o ↦ inr (g, first, o) ])
            (λ k n. later n) (λ s. first)

        -- another item
        other : More is → (i.place == place) ≡ false → (gs : List Filling) → map item_of gs ≡ i ∷ flat_map take is
            → AllByRecursion IsFilling gs → Refilled (i ∷ is) gs
        other again away [] e filled = absurd cc
        other again away (g ∷ gs) e filled =
            let (same, others) = head_is g gs i (flat_map take is) e in
            in_front i is (g ∷ gs) gs g same filled.0 (again gs others filled.1) refl
            (λ w k n o. elim (in_cons n) [
              | inl s ↦ inl (subst (λ (x : Filling). IsIn w x.moves) s o)
              | inr p ↦ inr p
            ])
            (λ w n. inr (g, first, n)) (λ k n. later n) (λ s. absurd (eqb-false i.place place away s))

        by_size : More is → (b : Bool) → nat_lt (i.place + size) (piece_end i) ≡ b → i.place ≡ place
            → (size ≡ i.size) ⊎ (size + 24 ≤ i.size)
            → map item_of fs ≡ (if b then record { place = i.place + size; size = piece_end i - (i.place + size) } ∷ []
            else []) ++ flat_map take is → Refilled (i ∷ is) fs
        by_size again false b at (inl whole) e = used again at whole e
        by_size again false b at (inr room) e = absurd (false_true (nat_lt (i.place + size) (piece_end i)) b
            (lt-ltb (i.place + size) (piece_end i) (omega arith)))
          where
            false_true : (c : Bool) → c ≡ false → c ≡ true → ⊥
            false_true true e f = absurd cc
            false_true false e f = absurd cc
        by_size again true b at (inl whole) e = absurd (true_false (nat_lt (i.place + size) (piece_end i)) b
            (le-ltb (i.place + size) (piece_end i) (omega arith)))
          where
            true_false : (c : Bool) → c ≡ true → c ≡ false → ⊥
            true_false true e f = absurd cc
            true_false false e f = absurd cc
        by_size again true b at (inr room) e = cut again at room fs e filled

        go : More is → (b : Bool) → (i.place == place) ≡ b
            → map item_of fs ≡ (if b then range_piece (i.place + size) (piece_end i) else i ∷ []) ++ flat_map take is
            → Refilled (i ∷ is) fs
        go again true at e =
            let same = eqb-true i.place place at in
            by_size again (nat_lt (i.place + size) (piece_end i)) refl same (f.0 same) e
        go again false at e = other again at fs e filled

-- ---- all plugs

-- what the search for an item finds
found-item : (size : ℕ) (items : List Piece) (i : Piece) → lowest_item size items ≡ Some i
    → IsIn i items × (fits size i.size ≡ true)
found-item size [] i e = absurd cc
found-item size (j ∷ is) i e = go (fits size j.size) refl e (found-item size is i)
  where
    same : Some j ≡ Some i → j ≡ i
    same e = cc

    go : (b : Bool) → fits size j.size ≡ b → (if b then Some j else lowest_item size is) ≡ Some i
        → (lowest_item size is ≡ Some i → IsIn i is × (fits size i.size ≡ true))
        → IsIn i (j ∷ is) × (fits size i.size ≡ true)
    go true f e more = let s = same e in
        (subst (λ k. IsIn k (j ∷ is)) s first, subst (λ (k : Piece). fits size k.size ≡ true) s f)
    go false f e more = let (n, k) = more e in (later n, k)

fits-either : (size bytes : ℕ) → fits size bytes ≡ true → (size ≡ bytes) ⊎ (size + 24 ≤ bytes)
fits-either size bytes e = grind arith

-- The plugs that found room fill items.
pub fit_fills : (ps : List Plug) (items : List Piece) → AreItems items
    → AllByRecursion (λ (p : Plug). IsLawfulSize p.size) ps
    → AreFillings items (fit ps items).moves (fit ps items).left
fit_fills [] items h sizes = none-filled items h
fit_fills (p ∷ ps) items h sizes = go (λ is k. fit_fills ps is k sizes.1) (lowest_item p.size items) refl
  where
    go : ((is : List Piece) → AreItems is → AreFillings is (fit ps is).moves (fit ps is).left) → (o : Option Piece)
        → lowest_item p.size items ≡ o
        → AreFillings items (fit_into p o (fit ps) items).moves (fit_into p o (fit ps) items).left
    go again None e = again items h
    go again (Some i) e =
        let (n, room) = found-item p.size items i e in
        let fits_all : AllByRecursion (λ (j : Piece). j.place ≡ i.place → (p.size ≡ j.size) ⊎ (p.size + 24 ≤ j.size))
        items =
        all_members (λ (j : Piece). j.place ≡ i.place → (p.size ≡ j.size) ⊎ (p.size + 24 ≤ j.size)) items
        (λ j o same. subst (λ (k : Piece). (p.size ≡ k.size) ⊎ (p.size + 24 ≤ k.size))
        (items-once items i j h n o (sym same)) (fits-either p.size i.size room)) in
        let rest : AreFillings (taken_from i.place p.size items) (fit ps (taken_from i.place p.size items)).moves
        (fit ps (taken_from i.place p.size items)).left =
        again (taken_from i.place p.size items) (taken-items i.place p.size sizes.0 items h fits_all) in
        let v : Move = record { start = p.start; size = p.size; to = i.place } in
        let r = refill i.place p.size sizes.0 v refl refl items rest.fillings h fits_all rest.items_are rest.filled in
        record {
          fillings = r.fillings;
          items_are = r.items_are;
          left_are = rest.left_are ∙ r.left_are;
          filled = r.filled;
          moves_into = λ w o. elim (in_cons o) [
            | inl same ↦ let (g, q, s) = r.added i n refl in
                (g, q, subst (λ x. IsIn x g.moves) (sym same) s)
            | inr later_one ↦ let (f, q, s) = rest.moves_into w later_one in r.more w f q s
          ];
          moves_from = λ g q w o. elim (r.only g q w o) [
            | inl same ↦ subst (λ x. IsIn x (v ∷ (fit ps (taken_from i.place p.size items)).moves)) (sym same) first
            | inr (f, s, t) ↦ later (rest.moves_from f s w t)
          ];
        }

-- the moves are those of some of the plugs, in their order
pub record IsMoveOfPlug (ps : List Plug) (v : Move) : Type 0 where
  pub plug : Plug
  pub among : IsIn plug ps
  pub start : v.start ≡ plug.start
  pub size : v.size ≡ plug.size

pub fit-moves : (ps : List Plug) (items : List Piece) (v : Move) → IsIn v (fit ps items).moves → IsMoveOfPlug ps v
fit-moves [] items v i = elim i [ ]
fit-moves (p ∷ ps) items v i = go (λ is j. fit-moves ps is v j) (lowest_item p.size items) i
  where
    more : IsMoveOfPlug ps v → IsMoveOfPlug (p ∷ ps) v
    more m = record { plug = m.plug; among = later m.among; start = m.start; size = m.size }

    go : ((is : List Piece) → IsIn v (fit ps is).moves → IsMoveOfPlug ps v) → (o : Option Piece)
        → IsIn v (fit_into p o (fit ps) items).moves → IsMoveOfPlug (p ∷ ps) v
    go again None i = more (again items i)
    go again (Some j) i = elim (in_cons i) [
      | inl same ↦ record {
        plug = p;
        among = first;
        start = ap (λ (w : Move). w.start) same;
        size = ap (λ (w : Move). w.size) same;
      }
      | inr n ↦ more (again (taken_from j.place p.size items) n)
    ]

-- so they rise where the plugs do
pub fit-rise : (ps : List Plug) (items : List Piece) → IsRisingBy (λ (p : Plug). p.start) ps
    → IsRisingBy (λ (v : Move). v.start) (fit ps items).moves
fit-rise [] items r = tt
fit-rise (p ∷ ps) items r = go (λ is. fit-rise ps is r.1) (lowest_item p.size items)
  where
    go : ((is : List Piece) → IsRisingBy (λ (v : Move). v.start) (fit ps is).moves) → (o : Option Piece)
        → IsRisingBy (λ (v : Move). v.start) (fit_into p o (fit ps) items).moves
    go again None = again items
    go again (Some i) = (
      all_members (λ (w : Move). p.start < w.start) (fit ps (taken_from i.place p.size items)).moves
          (λ w n. let is = fit-moves ps (taken_from i.place p.size items) w n in
          let at : w.start ≡ is.plug.start = is.start in
          let up : p.start < is.plug.start = all_at (λ (q : Plug). p.start < q.start) is.among r.0 in omega arith),
      again (taken_from i.place p.size items),
    )
