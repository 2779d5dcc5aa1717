-- Layouts where threads go on with what they have begun, one after the other.
use Rattle.std.proofs.Common.{◌≡◌, ℕ, suc, ◌+◌, ◌-◌, ◌<◌, ◌==◌, ◌&&◌, ◌||◌, not, Bool, true, false, nat_eq, nat_le}
use Rattle.std.proofs.Common.{nat_lt, if◌then◌else◌, List, [], ◌∷◌, ◌++◌, filter, find, length, map, replicate, refl}
use Rattle.std.proofs.Common.{ap, ap₂, sym, ◌∙◌, subst, arith, Option, None, Some, append_assoc, append-nil, inl, inr}
use Rattle.std.specs.Prelude.{slice_get, slice_set}
use Rattle.std.specs.List.{flat_map, list_any}
use Rattle.std.proofs.lemmas.Bool.{and_parts, cases_Bool}
use Rattle.std.proofs.lemmas.Bool.Decides.{nat_tests}
use Rattle.std.proofs.lemmas.List.{map-append}
use Rattle.clr_types.specs.Ranges.{fits, Piece, piece_end, range_piece}
use Rattle.clr_types.specs.Rising.{first, IsIn, IsRisingBy, later}
use Rattle.clr_types.specs.Segments.{ephemeral, flat_option, generation, Layout, rest_pieces, stands_in}
use Rattle.clr_types.specs.Types.{TypeRow}
use Rattle.clr_types.proofs.ChangedLists.{into_filter}
use Rattle.clr_types.proofs.ListMembers.{any-in, filter-on}
use Rattle.clr_types.proofs.RisingLists.{all_at, in_cons}
use Rattle.clr_heap.specs.View.{frame, heap_items, HeapView, no_rests}
use Rattle.clr_model.specs.Allocation.{from_item, is_young_item, taken_from}
use Rattle.clr_model.proofs.ContextChange.{context-is}
use Rattle.clr_sweep.proofs.Filters.{filter-all, filter-filter}
use Rattle.clr_view.specs.View.{free_among, free_in, layout_in}
use Rattle.clr_format.specs.NameTests.{fronts_of, is_among, is_front, rooms}
use Rattle.clr_sos.specs.declared.step.Step.{Step}
use Rattle.clr_sos.specs.declared.step.Step.TheVariants.{Begun, Idle, Store}
use Rattle.clr_opened.specs.Opened.{front_rest, opened_layout}
use Rattle.clr_open.specs.Begun.{fronted, IsFrontOf, layout_with}

-- ---- lists

-- what stands behind a list
pub at-middle : {X : Type 0} (xs : List X) (y : X) (ys : List X) → slice_get (xs ++ y ∷ ys) (length xs) ≡ Some y
at-middle [] y ys = refl
at-middle (x ∷ xs) y ys = at-middle xs y ys

-- it is replaced
pub set-middle : {X : Type 0} (xs : List X) (y : X) (ys : List X) (z : X)
    → slice_set (xs ++ y ∷ ys) (length xs) z ≡ xs ++ z ∷ ys
set-middle [] y ys z = refl
set-middle (x ∷ xs) y ys z = ap (λ zs. x ∷ zs) (set-middle xs y ys z)

-- one is done more
pub done-more : {X Y : Type 0} (f : X → Y) (done : List X) (x : X) (ys : List Y)
    → map f (done ++ x ∷ []) ++ ys ≡ map f done ++ f x ∷ ys
done-more f done x ys =
    ap (λ zs. zs ++ ys) (map-append f done (x ∷ [])) ∙ append_assoc (map f done) (f x ∷ []) ys

-- a search passes over what no test passes
find-filter : {X : Type 0} (test keep : X → Bool) (xs : List X) → ((x : X) → test x ≡ true → keep x ≡ true)
    → find test (filter keep xs) ≡ find test xs
find-filter {X = X} test keep [] f = refl
find-filter {X = X} test keep (x ∷ xs) f = go (keep x) (test x) refl refl (find-filter test keep xs f)
  where
    go : (k t : Bool) → keep x ≡ k → test x ≡ t → find test (filter keep xs) ≡ find test xs
        → find test (if k then x ∷ filter keep xs else filter keep xs) ≡ (if t then Some x else find test xs)
    go true t ek et rest = ap (λ (b : Bool). if b then Some x else find test (filter keep xs)) et
        ∙ ap (λ (o : Option X). if t then Some x else o) rest
    go false true ek et rest = absurd (clash (sym (f x et) ∙ ek))
      where
        clash : true ≡ false → ⊥
        clash e = cc
    go false false ek et rest = rest

-- ---- fronts

flat-more : (done : List Step) (s : Step) → flat_map fronts_of (done ++ s ∷ []) ≡ flat_map fronts_of done ++ fronts_of s
flat-more [] s = append-nil (fronts_of s)
flat-more (d ∷ done) s =
    ap (λ (xs : List ℕ). fronts_of d ++ xs) (flat-more done s)
    ∙ sym (append_assoc (fronts_of d) (flat_map fronts_of done) (fronts_of s))

or-false : (b : Bool) → (b || false) ≡ b
or-false true = refl
or-false false = refl

among-more : (xs : List ℕ) (front a : ℕ) → is_among (xs ++ front ∷ []) a ≡ (is_among xs a || (front == a))
among-more [] front a = or-false (front == a)
among-more (x ∷ xs) front a =
    ap (λ (b : Bool). (x == a) || b) (among-more xs front a) ∙ joined (x == a) (is_among xs a) (front == a)
  where
    joined : (p q r : Bool) → (p || (q || r)) ≡ ((p || q) || r)
    joined true q r = refl
    joined false q r = refl

-- the free items that aren't taken yet
abbrev pub left_free : List Step → List Piece → List Piece
left_free done free = filter (λ (p : Piece). not (is_among (flat_map fronts_of done) p.place)) free

left-more : (done : List Step) (s : Step) (front : ℕ) (free : List Piece) → fronts_of s ≡ front ∷ []
    → filter (λ (p : Piece). not (nat_eq p.place front)) (left_free done free) ≡ left_free (done ++ s ∷ []) free
left-more done s front free is =
    filter-filter (λ (p : Piece). not (is_among (flat_map fronts_of done) p.place))
    (λ (p : Piece). not (nat_eq p.place front)) free
    ∙ filter-on (λ (p : Piece). not (is_among (flat_map fronts_of done) p.place) && not (nat_eq p.place front))
    (λ (p : Piece). not (is_among (flat_map fronts_of (done ++ s ∷ [])) p.place)) free
    (λ p i. both (is_among (flat_map fronts_of done) p.place) p.place
    ∙ ap not (sym (among-more (flat_map fronts_of done) front p.place))
    ∙ ap (λ (xs : List ℕ). not (is_among xs p.place))
    (sym (flat-more done s ∙ ap (λ (xs : List ℕ). flat_map fronts_of done ++ xs) is)))
  where
    turned : (m n : ℕ) → nat_eq m n ≡ nat_eq n m
    turned m n = elim (cases_Bool (nat_eq m n)) [
      | inl on ↦ let back : nat_eq n m ≡ true = grind (arith, nat_tests, on) in on ∙ sym back
      | inr off ↦ let back : nat_eq n m ≡ false = grind (arith, nat_tests, off) in off ∙ sym back
    ]

    both : (b : Bool) (a : ℕ) → (not b && not (nat_eq a front)) ≡ not (b || (front == a))
    both true a = refl
    both false a = ap not (turned a front)

left-same : (done : List Step) (s : Step) (free : List Piece) → fronts_of s ≡ []
    → left_free (done ++ s ∷ []) free ≡ left_free done free
left-same done s free none =
    ap (λ (xs : List ℕ). filter (λ (p : Piece). not (is_among xs p.place)) free)
    (flat-more done s ∙ ap (λ (xs : List ℕ). flat_map fronts_of done ++ xs) none
    ∙ append-nil (flat_map fronts_of done))

left-none : (free : List Piece) → left_free [] free ≡ free
left-none free = filter-all (λ (p : Piece). not (is_among [] p.place)) free (λ p i. refl)

-- ---- the layout where threads have begun these, and n more have begun nothing yet

abbrev pub layout_of : Layout → List Step → ℕ → Layout
layout_of layout done n = record layout {
  free = left_free done layout.free;
  rests = map (front_rest layout.free) done ++ replicate n None;
}

-- the front is none of those before
abbrev pub IsFresh : List Step → Step → Type 0
IsFresh done Idle = Unit {0}
IsFresh done (Store object slot) = Unit {0}
IsFresh done (Begun t len local front) = is_among (flat_map fronts_of done) front ≡ false

-- ONE THREAD MORE
pub next-layout : (layout : Layout) (done : List Step) (n : ℕ) (s : Step) → IsFresh done s
    → layout_with (layout_of layout done (suc n)) (length done + 1) s ≡ layout_of layout (done ++ s ∷ []) n
next-layout layout done n Idle fresh =
    let free = sym (left-same done Idle layout.free refl) in
    let rests = sym (done-more (front_rest layout.free) done Idle (replicate n None)) in
    λ i. record layout { free = free i; rests = rests i }
next-layout layout done n (Store object slot) fresh =
    let free = sym (left-same done (Store object slot) layout.free refl) in
    let rests = sym (done-more (front_rest layout.free) done (Store object slot) (replicate n None)) in
    λ i. record layout { free = free i; rests = rests i }
next-layout layout done n (Begun t len local front) fresh =
    let s = Begun t len local front in
    let f = front_rest layout.free in
    let test : Piece → Bool = λ (p : Piece). nat_eq p.place front in
    let same : find test (left_free done layout.free) ≡ f s =
    find-filter test (λ (p : Piece). not (is_among (flat_map fronts_of done) p.place)) layout.free
    (λ p on. ap not (ap (is_among (flat_map fronts_of done)) (place-is p.place on) ∙ fresh)) in
    let index : length done + 1 - 1 ≡ length (map f done) = omega (arith, count f done) in
    let rests : slice_set (map f done ++ replicate (suc n) None) (length done + 1 - 1)
    (find test (left_free done layout.free)) ≡ map f (done ++ s ∷ []) ++ replicate n None =
    ap₂ (λ (i : ℕ) (o : Option Piece). slice_set (map f done ++ replicate (suc n) None) i o) index same
    ∙ set-middle (map f done) None (replicate n None) (f s)
    ∙ sym (done-more f done s (replicate n None)) in
    λ i. record layout { free = left-more done s front layout.free refl i; rests = rests i }
  where
    place-is : (a : ℕ) → nat_eq a front ≡ true → a ≡ front
    place-is a on = grind (arith, nat_tests, on)

    count : (f : Step → Option Piece) (xs : List Step) → length (map f xs) ≡ length xs
    count f [] = refl
    count f (x ∷ xs) = ap suc (count f xs)

-- ---- one context

-- an item that gives all of it is gone
taken-all : (xs : List Piece) (place size : ℕ)
    → ((p : Piece) → IsIn p xs → p.place ≡ place → p.size ≡ size)
    → taken_from place size xs ≡ filter (λ (p : Piece). not (nat_eq p.place place)) xs
taken-all [] place size one = refl
taken-all (x ∷ xs) place size one =
    go (nat_eq x.place place) refl (taken-all xs place size (λ p i. one p (later i)))
  where
    none : (low high : ℕ) → low ≡ high → range_piece low high ≡ []
    none low high e =
        let off : nat_lt low high ≡ false = grind (arith, nat_tests, e) in
        ap (λ (b : Bool). if b then record { place = low; size = high - low } ∷ [] else []) off

    go : (b : Bool) → nat_eq x.place place ≡ b
        → taken_from place size xs ≡ filter (λ (p : Piece). not (nat_eq p.place place)) xs
        → (if b then range_piece (x.place + size) (piece_end x) else x ∷ []) ++ taken_from place size xs
        ≡ (if not b then x ∷ filter (λ (p : Piece). not (nat_eq p.place place)) xs
        else filter (λ (p : Piece). not (nat_eq p.place place)) xs)
    go true e rest =
        let at : x.place ≡ place = grind (arith, nat_tests, e) in
        let is = one x first at in
        ap (λ (ps : List Piece). ps ++ taken_from place size xs)
        (none (x.place + size) (piece_end x) (ap (λ (n : ℕ). x.place + n) (sym is))) ∙ rest
    go false e rest = ap (λ (ps : List Piece). x ∷ ps) rest

find-place : (xs : List Piece) (x : Piece) → IsRisingBy (λ (p : Piece). p.place) xs → IsIn x xs
    → find (λ (p : Piece). nat_eq p.place x.place) xs ≡ Some x
find-place [] x rise i = elim i [ ]
find-place (y ∷ ys) x rise i = elim (in_cons i) [
  | inl here ↦
      let same = ap (λ (q : Piece). q.place) here in
      let hit : nat_eq y.place x.place ≡ true = grind (arith, nat_tests, same) in
      rw hit (ap Some (sym here))
  | inr more ↦
      let below : y.place < x.place = all_at (λ (q : Piece). y.place < q.place) more rise.0 in
      let miss : nat_eq y.place x.place ≡ false = grind (arith, nat_tests, below) in
      rw miss (find-place ys x rise.1 more)
]

-- free items with one place have one size
pub one-size : (xs : List Piece) (x p : Piece) → IsRisingBy (λ (q : Piece). q.place) xs → IsIn x xs → IsIn p xs
    → p.place ≡ x.place → p.size ≡ x.size
one-size xs x p rise i j e =
    let a = find-place xs x rise i in
    let b = find-place xs p rise j in
    let same : Some p ≡ Some x = sym b ∙ ap (λ (n : ℕ). find (λ (q : Piece). nat_eq q.place n) xs) e ∙ a in
    let is : p ≡ x = cc in
    ap (λ (q : Piece). q.size) is

-- A CONTEXT of all of an item
pub fronted-is : (layout : Layout) (t : ℕ) (item : Piece) → IsRisingBy (λ (p : Piece). p.place) layout.free
    → IsIn item layout.free → 0 < item.size → from_item layout t item item.size ≡ fronted layout t item.place
fronted-is layout t item rise here some =
    let free = taken-all layout.free item.place item.size
    (λ p i e. one-size layout.free item p rise here i e) in
    let rest = context-is item.place item.size some ∙ sym (find-place layout.free item rise here) in
    λ i. record layout { free = free i; rests = slice_set layout.rests (t - 1) (rest i) }

-- ---- the front of an image's step

-- what is of generation 0 stands in the ephemeral segment above the boundary
pub young-of : (layout : Layout) (p : Piece) → generation layout p.place ≡ 0 → is_young_item layout p ≡ true
young-of layout p e =
    go (stands_in (ephemeral layout) p.place) (nat_lt p.place layout.start1) (nat_lt p.place layout.start0) refl e
  where
    go : (a b c : Bool) → nat_lt p.place layout.start0 ≡ c
        → ◌≡◌ {A = ℕ} (if a then (if b then 2 else (if c then 1 else 0)) else 2) 0
        → (a && nat_le layout.start0 p.place) ≡ true
    go true true c ec e = absurd (omega arith)
    go true false true ec e = absurd (omega arith)
    go true false false ec e = grind (arith, nat_tests, ec)
    go false b c ec e = absurd (omega arith)

-- the free item at a front
pub record IsFrontItem (layout : Layout) (size front : ℕ) : Type 0 where
  pub item : Piece
  pub here : IsIn item layout.free
  pub at : item.place ≡ front
  pub room : fits size item.size ≡ true
  pub young : is_young_item layout item ≡ true

pub front-item : (rows : List TypeRow) (h : HeapView) (size front : ℕ) → h.rests ≡ no_rests
    → is_front (heap_items rows h) h size front ≡ true → IsFrontItem (layout_in rows h) size front
front-item rows h size front alone on =
    let parts = and_parts (list_any (λ (p : Piece). (p.place == front) && fits size p.size)
    (rooms (heap_items rows h) h)) (generation (frame h) front == 0) on in
    let found = any-in (λ (p : Piece). (p.place == front) && fits size p.size) (rooms (heap_items rows h) h) parts.0 in
    let item = found.0 in
    let tests = and_parts (item.place == front) (fits size item.size) found.2 in
    let hit = tests.0 in
    let at : item.place ≡ front = grind (arith, nat_tests, hit) in
    let zero_ = parts.1 in
    let young : generation (frame h) front ≡ 0 = grind (arith, nat_tests, zero_) in
    record {
      item = item;
      here = subst (IsIn item)
          (ap (λ (rs : List (Option Piece)). free_among (heap_items rows h) ++ rest_pieces rs) alone
          ∙ append-nil (free_among (heap_items rows h))) found.1;
      at = at;
      room = tests.1;
      young = young-of (layout_in rows h) item (ap (generation (frame h)) at ∙ young);
    }

-- a front that is fresh is the next thread's
pub has-front : (layout : Layout) (done : List Step) (n size front : ℕ) → IsFrontItem layout size front
    → is_among (flat_map fronts_of done) front ≡ false
    → IsFrontOf (layout_of layout done (suc n)) (length done + 1) front
has-front layout done n size front f fresh =
    let g = front_rest layout.free in
    let rests = map g done ++ replicate (suc n) None in
    let index : length done + 1 - 1 ≡ length (map g done) = omega (arith, count done) in
    record {
      none = ap (λ (i : ℕ). flat_option (slice_get rests i)) index
          ∙ ap flat_option (at-middle (map g done) None (replicate n None));
      item = f.item;
      young = into_filter (is_young_item layout) (left_free done layout.free) f.young
          (into_filter (λ (p : Piece). not (is_among (flat_map fronts_of done) p.place)) layout.free
          (ap not (ap (is_among (flat_map fronts_of done)) f.at ∙ fresh)) f.here);
      at = f.at;
    }
  where
    count : (xs : List Step) → length (map (front_rest layout.free) xs) ≡ length xs
    count [] = refl
    count (x ∷ xs) = ap suc (count xs)

-- ---- from none to all

-- where no thread has begun anything it is the heap's own
pub first-layout : (rows : List TypeRow) (h : HeapView) → h.rests ≡ no_rests
    → layout_of (layout_in rows h) [] 16 ≡ layout_in rows h
first-layout rows h alone =
    let rests = sym alone in
    λ i. record (layout_in rows h) { free = left-none (free_in rows h) i; rests = rests i }

-- where all have, it is the one that the image says
pub last-layout : (rows : List TypeRow) (h : HeapView) (steps : List Step)
    → layout_of (layout_in rows h) steps 0 ≡ opened_layout rows h steps
last-layout rows h steps =
    ap (λ (rests : List (Option Piece)). let l : Layout = record (layout_in rows h) {
      free = left_free steps (free_in rows h);
      rests = rests;
    } in l) (append-nil (map (front_rest (free_in rows h)) steps))
