-- A run of objects is carried object by object: what the heap holds then is what one move of all of them gives.
use Rattle.std.proofs.Common.{◌≡◌, ◌≢◌, ◌⊎◌, inl, inr, ℕ, ◌+◌, ◌-◌, ◌<◌, ◌≤◌, true, false, Bool, List, [], ◌∷◌}
use Rattle.std.proofs.Common.{◌++◌, append_assoc, refl, ap, sym, ◌∙◌, subst, arith, map, if◌then◌else◌, ◌==◌, ◌&&◌}
use Rattle.std.proofs.Common.{nat_le, nat_lt, filter}
use Rattle.std.specs.List.{flat_map}
use Rattle.std.proofs.lemmas.Bool.{both_ways, cases_eq, cases_lt, eq-eqb, le-leb, le-ltb, lt-leb, lt-ltb, ne_eqb}
use Rattle.std.proofs.lemmas.Bool.{ltb-true}
use Rattle.std.proofs.lemmas.List.Concat.{flat_map-append}
use Rattle.clr_types.specs.Ranges.{by_place, Piece, piece_end, range_piece}
use Rattle.clr_types.specs.Rising.{first, IsIn, IsRisingBy, later, sorted_by}
use Rattle.clr_types.specs.Segments.{Layout}
use Rattle.clr_types.specs.Types.{TypeRow}
use Rattle.clr_types.specs.declared.item.Item.{Item}
use Rattle.clr_types.proofs.ChangedLists.{IsIn-map, out_of_filter, rising-distinct}
use Rattle.clr_types.proofs.ListMembers.{append_right, distinct_of_sorted, filter-rises, from-map, map-map, map-on}
use Rattle.clr_types.proofs.Shuffles.{followed, IsShuffled, nothing, shuffled-left, shuffled-map, shuffled-right}
use Rattle.clr_types.proofs.Shuffles.{shuffled-sorted, shuffled-sorts, shuffled-sym, shuffled-turn}
use Rattle.clr_types.proofs.Shuffles.{swapped, under}
use Rattle.clr_types.proofs.SortedLists.{into_sorted_by, IsDistinctBy}
use Rattle.clr_heap.specs.Parts.{item_piece}
use Rattle.clr_heap.specs.View.{heap_items, HeapView, IsHeap, word_of}
use Rattle.clr_heap.proofs.Framing.{SameShape-trans}
use Rattle.clr_model.specs.Allocation.{taken_from}
use Rattle.clr_model.specs.Compaction.{Move, moved_by}
use Rattle.clr_model.specs.Machine.{Object}
use Rattle.clr_fitting.proofs.MovesInTurn.{in_turn, two_parts}
use Rattle.clr_view.specs.Memory.{is_marked}
use Rattle.clr_view.specs.SlotValues.{StandsAt}
use Rattle.clr_view.specs.View.{free_in, is_free, IsHeld, is_object, object_in, objects_in}
use Rattle.clr_view.proofs.Listed.{listed-item}
use Rattle.clr_view.proofs.Listings.{heap-rise}
use Rattle.clr_view.proofs.Rises.{objects-rise}
use Rattle.clr_sweep.proofs.LayoutSwept.{free-rise}
use Rattle.clr_moves.specs.Objects.{moved_object}
use Rattle.clr_evacuate.specs.Carried.{CanCarry, going_there, HasCarried, IsUnmovedIn}
use Rattle.clr_evacuate.specs.CarriedRun.{going_along, HasCarriedRun, is_within, run_of}
use Rattle.clr_evacuate.specs.Fittings.{AreSideBySide}
use Rattle.clr_evacuate.specs.Forwards.{HasForwards}
use Rattle.clr_evacuate.proofs.Copying.{free_item_of, stands_below}
use Rattle.clr_evacuate.proofs.PassedItems.{side-up}

-- ---- ranges

pub inside : (p : Piece) (x : ℕ) → p.place ≤ x → x < piece_end p → is_within p x ≡ true
inside p x low high = let a = le-leb p.place x low in let b = lt-ltb x (piece_end p) high in rw (a, b) refl

pub outside_below : (p : Piece) (x : ℕ) → x < p.place → is_within p x ≡ false
outside_below p x low = let a = lt-leb p.place x low in rw a refl

pub outside_above : (p : Piece) (x : ℕ) → piece_end p ≤ x → is_within p x ≡ false
outside_above p x high = go (nat_le p.place x) (le-ltb x (piece_end p) high)
  where
    go : (b : Bool) → nat_lt x (piece_end p) ≡ false → (b && nat_lt x (piece_end p)) ≡ false
    go true e = e
    go false e = refl

-- a range from a place on
abbrev pub part : ℕ → ℕ → Piece
part place size = record { place = place; size = size }

-- ---- what is taken from items

-- what is left of an item
abbrev left_of : ℕ → ℕ → Piece → List Piece
left_of at n i = if i.place == at then range_piece (i.place + n) (piece_end i) else i ∷ []

nothing_more : (xs : List Piece) → xs ++ [] ≡ xs
nothing_more [] = refl
nothing_more (x ∷ xs) = ap (λ (ys : List Piece). x ∷ ys) (nothing_more xs)

-- what is taken at once can be taken in two steps, where no item begins between
left_twice : (to a b : ℕ) (j : Piece) → j.place ≢ to + a
    → taken_from (to + a) b (left_of to a j) ≡ left_of to (a + b) j
left_twice to a b j ne = elim (cases_eq j.place to) [
  | inr other ↦
      let miss = ne_eqb j.place to other in
      let away = ne_eqb j.place (to + a) ne in
      rw miss (rw away refl)
  | inl same ↦
      let hit = eq-eqb j.place to same in
      rw hit (cut same (nat_lt (j.place + a) (piece_end j)) refl)
]
  where
    cut : j.place ≡ to → (c : Bool) → nat_lt (j.place + a) (piece_end j) ≡ c
        → taken_from (to + a) b
        (if c then record { place = j.place + a; size = piece_end j - (j.place + a) } ∷ [] else [])
        ≡ range_piece (j.place + (a + b)) (piece_end j)
    cut same true e =
        let below = ltb-true (j.place + a) (piece_end j) e in
        let hit = eq-eqb (j.place + a) (to + a) (omega (arith, same)) in
        let from : j.place + a + b ≡ j.place + (a + b) = omega arith in
        let end : j.place + a + (piece_end j - (j.place + a)) ≡ piece_end j = omega (arith, below) in
        rw hit (nothing_more (range_piece (j.place + a + b) (j.place + a + (piece_end j - (j.place + a))))
        ∙ (λ k. range_piece (from k) (end k)))
    cut same false e =
        let miss = le-ltb (j.place + (a + b)) (piece_end j) (past e) in
        rw miss refl
      where
        past : nat_lt (j.place + a) (piece_end j) ≡ false → piece_end j ≤ j.place + (a + b)
        past e = elim (cases_lt (j.place + a) (piece_end j)) [
          | inl l ↦ absurd (both_ways (nat_lt (j.place + a) (piece_end j)) e (lt-ltb (j.place + a) (piece_end j) l))
          | inr l ↦ omega (arith, l)
        ]

taken_in_two : (to a b : ℕ) (ps : List Piece) → ((p : Piece) → IsIn p ps → p.place ≢ to + a)
    → taken_from (to + a) b (taken_from to a ps) ≡ taken_from to (a + b) ps
taken_in_two to a b [] apart = refl
taken_in_two to a b (j ∷ ps) apart =
    flat_map-append (left_of (to + a) b) (left_of to a j) (taken_from to a ps)
    ∙ (let one = left_twice to a b j (apart j first) in
    let more = taken_in_two to a b ps (λ p n. apart p (later n)) in
    λ k. one k ++ more k)

shuffled-flat : (f : Piece → List Piece) {xs ys : List Piece} → IsShuffled xs ys
    → IsShuffled (flat_map f xs) (flat_map f ys)
shuffled-flat f nothing = nothing
shuffled-flat f (under {x = x} s) = shuffled-right (f x) (shuffled-flat f s)
shuffled-flat f (swapped {x = x} {y = y} {xs = xs}) = shuffled-turn (f x) (f y) (flat_map f xs)
shuffled-flat f (followed s t) = followed (shuffled-flat f s) (shuffled-flat f t)

-- ---- where places go

module _ (p a b to : ℕ) (lower : to < p) where
  abbrev one : Piece
  one = part p a

  abbrev rest : Piece
  rest = part (p + a) b

  abbrev all : Piece
  all = part p (a + b)

  -- first with the first object, and then with the rest
  pub goes_in_turn : (x : ℕ)
      → moved_by (run_of rest (to + a)) (moved_by (run_of one to) x) ≡ moved_by (run_of all to) x
  goes_in_turn x =
      sym (in_turn (p + a) (run_of one to) (run_of rest (to + a)) lands starts x) ∙ sym (two_parts p a b to [] x)
    where
      lands : (v : Move) → IsIn v (run_of one to) → v.to + v.size ≤ p + a
      lands v first = omega (arith, lower)
      lands v (later n) = absurd (elim n [ ])

      starts : (w : Move) → IsIn w (run_of rest (to + a)) → p + a ≤ w.start
      starts w first = omega arith
      starts w (later n) = absurd (elim n [ ])

  -- where a place is, by cases
  data IsWhere (x : ℕ) : Type 0 where
    in_one : is_within one x ≡ true → is_within rest x ≡ false → is_within all x ≡ true → p ≤ x → x < p + a → IsWhere x
    in_rest : is_within one x ≡ false → is_within rest x ≡ true → is_within all x ≡ true → p + a ≤ x → IsWhere x
    in_none : is_within one x ≡ false → is_within rest x ≡ false → is_within all x ≡ false → IsWhere x

  where_is : (x : ℕ) → IsWhere x
  where_is x = elim (cases_lt x p) [
    | inl l ↦ in_none (outside_below one x l) (outside_below rest x (omega (arith, l))) (outside_below all x l)
    | inr l ↦ elim (cases_lt x (p + a)) [
      | inl m ↦ in_one (inside one x l m) (outside_below rest x m) (inside all x l (omega (arith, m))) l m
      | inr m ↦ elim (cases_lt x (p + a + b)) [
        | inl n ↦ in_rest (outside_above one x m) (inside rest x m n) (inside all x l (omega (arith, n))) m
        | inr n ↦ in_none (outside_above one x m) (outside_above rest x n) (outside_above all x (omega (arith, n)))
      ]
    ]
  ]

  pub along_in_turn : (go : ℕ → ℕ) (x : ℕ)
      → going_along (going_along go one to) rest (to + a) x ≡ going_along go all to x
  along_in_turn go x = elim (where_is x) [
    | in_one i r l low high ↦ rw (i, r, l) refl
    | in_rest i r l low ↦ rw (r, l) (omega (arith, low))
    | in_none i r l ↦ rw (i, r, l) refl
  ]

  -- what is no longer marked
  pub unmarked_in_turn : (m : Bool) (x : ℕ)
      → (if is_within rest (moved_by (run_of one to) x) then false else (if is_within one x then false else m))
      ≡ (if is_within all x then false else m)
  unmarked_in_turn m x = elim (where_is x) [
    | in_one i r l low high ↦
        let at : moved_by (run_of one to) x ≡ to + (x - p) =
        ap (λ (c : Bool). if c then to + (x - p) else x) i in
        let off = outside_below rest (to + (x - p)) (omega (arith, low, high, lower)) in
        ap (λ (n : ℕ). if is_within rest n then false else (if is_within one x then false else m)) at
        ∙ ap (λ (c : Bool). if c then false else (if is_within one x then false else m)) off
        ∙ ap (λ (c : Bool). if c then false else m) i
        ∙ sym (ap (λ (c : Bool). if c then false else m) l)
    | in_rest i r l low ↦
        let at : moved_by (run_of one to) x ≡ x =
        ap (λ (c : Bool). if c then to + (x - p) else x) i in
        ap (λ (n : ℕ). if is_within rest n then false else (if is_within one x then false else m)) at
        ∙ ap (λ (c : Bool). if c then false else (if is_within one x then false else m)) r
        ∙ sym (ap (λ (c : Bool). if c then false else m) l)
    | in_none i r l ↦
        let at : moved_by (run_of one to) x ≡ x =
        ap (λ (c : Bool). if c then to + (x - p) else x) i in
        ap (λ (n : ℕ). if is_within rest n then false else (if is_within one x then false else m)) at
        ∙ ap (λ (c : Bool). if c then false else (if is_within one x then false else m)) r
        ∙ ap (λ (c : Bool). if c then false else m) i
        ∙ sym (ap (λ (c : Bool). if c then false else m) l)
  ]

-- ---- lists of a heap

module _ (rows : List TypeRow) (h : HeapView) (heap : IsHeap h) (held : IsHeld rows h) where
  frees-rise : IsRisingBy (λ (p : Piece). p.place) (free_in rows h)
  frees-rise =
      free-rise (filter is_free (heap_items rows h))
      (filter-rises is_free (λ (i : Item). i.place) (heap_items rows h) (heap-rise rows h held.walkable heap))

  all-rise : IsRisingBy (λ (o : Object). o.name) (objects_in rows h)
  all-rise = objects-rise rows (word_of h) (heap_items rows h) (heap-rise rows h held.walkable heap)

-- ---- one object

-- functions that agree where items begin have the same forwards
forwards-agree : (rows : List TypeRow) (h : HeapView) (go other : ℕ → ℕ)
    → ((i : Item) → IsIn i (heap_items rows h) → other i.place ≡ go i.place) → other 0 ≡ go 0 → HasForwards rows h go
    → HasForwards rows h other
forwards-agree rows h go other same zero_same has = record {
  free = λ i listed is_one. (
    (has.free i listed is_one).0 ∙ sym (ap (λ (n : ℕ). if n == i.place then 0 else n) (same i listed)),
    (has.free i listed is_one).1,
  );
  objects = λ x stands.
      let (i, at, listed) = home x stands in
      ap other (sym at) ∙ same i listed ∙ ap go at ∙ has.objects x stands;
  null = zero_same ∙ has.null;
}
  where
    home : (x : ℕ) → StandsAt rows h x → (i : Item) × (i.place ≡ x) × IsIn i (heap_items rows h)
    home x (o, among, at) =
        let (i, is, mine) = from-map (object_in rows (word_of h)) o (filter is_object (heap_items rows h)) among in
        let (object, listed) = out_of_filter is_object i (heap_items rows h) mine in
        (i, sym (ap (λ (p : Object). p.place) is) ∙ at, listed)

-- one step: an object is carried, in a lawful heap, to another one
pub record IsStep (rows : List TypeRow) (h mid : HeapView) (i : Item) (item : Piece) : Type 0 where
  pub heap : IsHeap h
  pub held : IsHeld rows h
  pub can : CanCarry rows h i item
  pub next : IsHeap mid
  pub carried : HasCarried rows h mid i item

module _ (rows : List TypeRow) (h mid : HeapView) (i : Item) (item : Piece) (s : IsStep rows h mid i item) where
  open s use {heap, held, can, next, carried}

  step_least : 24 ≤ i.size
  step_least = (listed-item rows h i heap held can.listed).least

  -- the item ends below the object
  pub step_apart : piece_end item ≤ i.place
  step_apart =
      let (x, is_x) = free_item_of rows h item can.free in
      let at = ap (λ (p : Piece). p.place) is_x.is in
      let size = ap (λ (p : Piece). p.size) is_x.is in
      let lower = can.lower in
      let apart = stands_below rows h heap held x i is_x.listed can.listed (omega (arith, at, lower)) in
      omega (arith, at, size, apart)

  -- no item begins in what the object was
  none_within : (j : Item) → IsIn j (heap_items rows mid) → (j.place ≤ i.place) ⊎ (i.place + i.size ≤ j.place)
  none_within j listed = elim (cases_lt i.place j.place) [
    | inr low ↦ inl low
    | inl high ↦
        let (x, is_x) = free_item_of rows mid (item_piece i) there in
        let at = ap (λ (p : Piece). p.place) is_x.is in
        let size = ap (λ (p : Piece). p.size) is_x.is in
        let apart =
        stands_below rows mid next carried.held x j is_x.listed listed (omega (arith, at, high)) in
        inr (omega (arith, at, size, apart))
  ]
    where
      there : IsIn (item_piece i) (free_in rows mid)
      there =
          subst (IsIn (item_piece i)) (sym (ap (λ (l : Layout). l.free) carried.layout))
          (into_sorted_by (λ (p : Piece). p.place) (item_piece i)
          (taken_from item.place i.size (free_in rows h) ++ item_piece i ∷ [])
          (append_right (taken_from item.place i.size (free_in rows h)) first))

  step_marks : (o : Object) → IsIn o (objects_in rows h)
      → is_marked mid (moved_object (run_of (item_piece i) item.place) o)
      ≡ (if is_within (item_piece i) o.place then false else is_marked h o)
  step_marks o mine =
      carried.marks o mine ∙ ap (λ (c : Bool). if c then false else is_marked h o) same
    where
      home : (j : Item) × (o.place ≡ j.place) × IsIn j (heap_items rows h)
      home =
          let (j, is, among) = from-map (object_in rows (word_of h)) o (filter is_object (heap_items rows h)) mine in
          let (object, listed) = out_of_filter is_object j (heap_items rows h) among in
          (j, ap (λ (p : Object). p.place) is, listed)

      same : (o.place == i.place) ≡ is_within (item_piece i) o.place
      same = elim (cases_eq o.place i.place) [
        | inl e ↦
            let least = step_least in
            let hit = eq-eqb o.place i.place e in
            hit ∙ sym (inside (item_piece i) o.place (omega (arith, e)) (omega (arith, e, least)))
        | inr ne ↦
            let miss = ne_eqb o.place i.place ne in
            let (j, at, listed) = home in
            elim (cases_lt o.place i.place) [
              | inl low ↦ miss ∙ sym (outside_below (item_piece i) o.place low)
              | inr high ↦
                  let over : i.place < j.place = strictly high at ne in
                  let apart = stands_below rows h heap held i j can.listed listed over in
                  miss ∙ sym (outside_above (item_piece i) o.place (omega (arith, apart, at)))
            ]
      ]
        where
          strictly : {q : ℕ} → i.place ≤ o.place → o.place ≡ q → o.place ≢ i.place → i.place < q
          strictly high at ne = elim (cases_lt i.place o.place) [
            | inl l ↦ omega (arith, l, at)
            | inr l ↦ absurd (ne (omega (arith, l, high)))
          ]

  step_forwards : (go : ℕ → ℕ) → HasForwards rows h go → IsUnmovedIn go item
      → HasForwards rows mid (going_along go (item_piece i) item.place)
  step_forwards go has unmoved =
      forwards-agree rows mid (going_there go i.place item.place) (going_along go (item_piece i) item.place)
      (λ j listed. agree j.place (none_within j listed)) (agree 0 (inl (omega arith)))
      (carried.forwards go has unmoved)
    where
      agree : (x : ℕ) → (x ≤ i.place) ⊎ (i.place + i.size ≤ x)
          → going_along go (item_piece i) item.place x ≡ going_there go i.place item.place x
      agree x out = elim (cases_eq x i.place) [
        | inl e ↦
            let least = step_least in
            let hit = eq-eqb x i.place e in
            let yes = inside (item_piece i) x (omega (arith, e)) (omega (arith, e, least)) in
            rw (hit, yes) (omega (arith, e))
        | inr ne ↦
            let least = step_least in
            let miss = ne_eqb x i.place ne in
            let no = off ne in
            rw (miss, no) refl
      ]
        where
          off : x ≢ i.place → is_within (item_piece i) x ≡ false
          off ne = elim out [
            | inr high ↦ outside_above (item_piece i) x high
            | inl low ↦ elim (cases_lt x i.place) [
              | inl l ↦ outside_below (item_piece i) x l
              | inr l ↦ absurd (ne (omega (arith, l, low)))
            ]
          ]

  -- A RUN OF ONE
  pub one_carried : HasCarriedRun rows h mid (i ∷ []) (item_piece i) item
  one_carried = record {
    objects = carried.objects;
    layout = carried.layout;
    marks = step_marks;
    words = carried.words;
    headers = carried.headers;
    padding = carried.padding;
    forwards = step_forwards;
    shape = carried.shape;
    held = carried.held;
  }

-- ---- an object, and the rest behind it

module _ (rows : List TypeRow) (h mid new : HeapView) (i : Item) (is : List Item) (b to high : ℕ) (first_one
    : HasCarriedRun rows h mid (i ∷ []) (item_piece i) (part to (high - to)))
    (others : HasCarriedRun rows mid new is (part (i.place + i.size) b) (part (to + i.size) (high - (to + i.size))))
    (heap : IsHeap new) (lower : high ≤ i.place) (least : 24 ≤ i.size) (room : to + (i.size + b) ≤ high)
    (behind : 24 ≤ b) where
  below : to < i.place
  below = omega (arith, lower, least, room)

  abbrev whole : Piece
  whole = part i.place (i.size + b)

  abbrev f1 : Object → Object
  f1 = moved_object (run_of (item_piece i) to)

  abbrev f2 : Object → Object
  f2 = moved_object (run_of (part (i.place + i.size) b) (to + i.size))

  abbrev f : Object → Object
  f = moved_object (run_of whole to)

  abbrev name : Object → ℕ
  name o = o.name

  abbrev place : Piece → ℕ
  place p = p.place

  moved_twice : (o : Object) → f2 (f1 o) ≡ f o
  moved_twice o =
      let at = goes_in_turn i.place i.size b to below o.place in
      λ k. record o { name = at k; place = at k }

  two_objects : objects_in rows new ≡ sorted_by name (map f (objects_in rows h))
  two_objects =
      let mapped : IsShuffled (map f2 (map f1 (objects_in rows h))) (map f2 (objects_in rows mid)) =
      subst (λ (os : List Object). IsShuffled (map f2 (map f1 (objects_in rows h))) (map f2 os))
      (sym first_one.objects)
      (shuffled-map f2 (shuffled-sorted name (map f1 (objects_in rows h)))) in
      let distinct : IsDistinctBy name (map f2 (objects_in rows mid)) =
      distinct_of_sorted name (map f2 (objects_in rows mid))
      (subst (IsDistinctBy name) others.objects
      (rising-distinct name (objects_in rows new) (all-rise rows new heap others.held))) in
      others.objects
      ∙ shuffled-sorts name (shuffled-sym mapped) distinct
      ∙ ap (sorted_by name)
      (map-map f1 f2 (objects_in rows h)
      ∙ map-on (λ (o : Object). f2 (f1 o)) f (objects_in rows h) (λ o n. moved_twice o))

  abbrev taken : ℕ → ℕ → List Piece → List Piece
  taken = taken_from

  two_frees : ((p : Piece) → IsIn p (free_in rows h) → p.place ≢ to + i.size)
      → free_in rows new ≡ by_place (taken to (i.size + b) (free_in rows h) ++ map item_piece (i ∷ is))
  two_frees apart =
      let was : free_in rows mid ≡ by_place (taken to i.size (free_in rows h) ++ item_piece i ∷ []) =
      ap (λ (l : Layout). l.free) first_one.layout in
      let now : free_in rows new
      ≡ by_place (taken (to + i.size) b (free_in rows mid) ++ map item_piece is) =
      ap (λ (l : Layout). l.free) others.layout in
      let sorted : IsShuffled (taken (to + i.size) b (taken to i.size (free_in rows h) ++ item_piece i ∷ []))
      (taken (to + i.size) b (free_in rows mid)) =
      subst (λ (ps : List Piece). IsShuffled
      (taken (to + i.size) b (taken to i.size (free_in rows h) ++ item_piece i ∷ [])) (taken (to + i.size) b ps))
      (sym was)
      (shuffled-flat (left_of (to + i.size) b)
      (shuffled-sorted place (taken to i.size (free_in rows h) ++ item_piece i ∷ []))) in
      let distinct : IsDistinctBy place (taken (to + i.size) b (free_in rows mid) ++ map item_piece is) =
      distinct_of_sorted place (taken (to + i.size) b (free_in rows mid) ++ map item_piece is)
      (subst (IsDistinctBy place) now
      (rising-distinct place (free_in rows new) (frees-rise rows new heap others.held))) in
      let miss = ne_eqb i.place (to + i.size) (λ e. omega (arith, e, lower, least, room)) in
      let single : taken (to + i.size) b (item_piece i ∷ []) ≡ item_piece i ∷ [] =
      ap (λ (c : Bool). (if c then range_piece (i.place + b) (i.place + i.size) else item_piece i ∷ []) ++ []) miss in
      let same : taken (to + i.size) b (taken to i.size (free_in rows h) ++ item_piece i ∷ [])
      ≡ taken to (i.size + b) (free_in rows h) ++ item_piece i ∷ [] =
      flat_map-append (left_of (to + i.size) b) (taken to i.size (free_in rows h)) (item_piece i ∷ [])
      ∙ (let front = taken_in_two to i.size b (free_in rows h) apart in λ k. front k ++ single k) in
      now
      ∙ shuffled-sorts place (shuffled-left (map item_piece is) (shuffled-sym sorted)) distinct
      ∙ ap (λ (ps : List Piece). by_place (ps ++ map item_piece is)) same
      ∙ ap by_place (append_assoc (taken to (i.size + b) (free_in rows h)) (item_piece i ∷ []) (map item_piece is))

  two_marks : (o : Object) → IsIn o (objects_in rows h)
      → is_marked new (f o) ≡ (if is_within whole o.place then false else is_marked h o)
  two_marks o mine =
      let there : IsIn (f1 o) (objects_in rows mid) =
      subst (IsIn (f1 o)) (sym first_one.objects)
      (into_sorted_by name (f1 o) (map f1 (objects_in rows h)) (IsIn-map f1 mine)) in
      ap (is_marked new) (sym (moved_twice o))
      ∙ others.marks (f1 o) there
      ∙ ap (λ (m : Bool). if is_within (part (i.place + i.size) b) (f1 o).place then false else m)
      (first_one.marks o mine)
      ∙ unmarked_in_turn i.place i.size b to below (is_marked h o) o.place

  -- headers are what they were, at places that go twice
  two_headers : (o : Object) → IsIn o (objects_in rows h) → word_of new ((f o).place - 8) ≡ word_of h (o.place - 8)
  two_headers o mine =
      let there : IsIn (f1 o) (objects_in rows mid) =
      subst (IsIn (f1 o)) (sym first_one.objects)
      (into_sorted_by name (f1 o) (map f1 (objects_in rows h)) (IsIn-map f1 mine)) in
      ap (λ (p : Object). word_of new (p.place - 8)) (sym (moved_twice o))
      ∙ others.headers (f1 o) there ∙ first_one.headers o mine

  two_forwards : (go : ℕ → ℕ) → HasForwards rows h go → IsUnmovedIn go (part to (high - to))
      → HasForwards rows new (going_along go whole to)
  two_forwards go has unmoved =
      subst (HasForwards rows new)
      (λ k x. along_in_turn i.place i.size b to below go x k)
      (others.forwards (going_along go (item_piece i) to) (first_one.forwards go has unmoved) (λ x low up.
      let off = outside_below (item_piece i) x (omega (arith, up, low, lower)) in
      ap (λ (c : Bool). if c then to + (x - i.place) else go x) off
      ∙ unmoved x (omega (arith, low)) (omega (arith, up, low))))

  pub two_carried : ((p : Piece) → IsIn p (free_in rows h) → p.place ≢ to + i.size)
      → HasCarriedRun rows h new (i ∷ is) whole (part to (high - to))
  two_carried apart = record {
    objects = two_objects;
    layout = others.layout
        ∙ (let free = sym (ap (λ (l : Layout). l.free) others.layout) ∙ two_frees apart in
        λ k. record (first_one.layout k) { free = free k });
    marks = two_marks;
    words = λ q z out_item out_plug.
        others.words q z (elim out_item [ inl l ↦ inl (omega (arith, l)) | inr l ↦ inr (omega (arith, l, room)) ])
        (elim out_plug [ inl l ↦ inl (omega (arith, l)) | inr l ↦ inr (omega (arith, l)) ])
        ∙ first_one.words q z out_item
        (elim out_plug [ inl l ↦ inl l | inr l ↦ inr (omega (arith, l)) ]);
    headers = two_headers;
    padding = λ p. others.padding (first_one.padding p);
    forwards = two_forwards;
    shape = SameShape-trans h mid new first_one.shape others.shape;
    held = others.held;
  }

-- ---- a run

-- the objects are carried one behind the other, to places from `to` on
abbrev pub AreSteps : List TypeRow → HeapView → HeapView → ℕ → ℕ → List Item → Type 0
AreSteps rows h new to high [] = h ≡ new
AreSteps rows h new to high (i ∷ is) =
    (mid : HeapView) × IsStep rows h mid i (part to (high - to)) × AreSteps rows mid new (to + i.size) high is

-- no item begins where what is left of another one does
rest_apart : (rows : List TypeRow) (h : HeapView) (item : Piece) (at : ℕ) → IsHeap h → IsHeld rows h
    → IsIn item (free_in rows h) → item.place < at → at < piece_end item → (p : Piece) → IsIn p (free_in rows h)
    → p.place ≢ at
rest_apart rows h item at heap held free low high p other e =
    let (x, is_x) = free_item_of rows h item free in
    let (y, is_y) = free_item_of rows h p other in
    let place_x = ap (λ (q : Piece). q.place) is_x.is in
    let size_x = ap (λ (q : Piece). q.size) is_x.is in
    let place_y = ap (λ (q : Piece). q.place) is_y.is in
    let apart =
    stands_below rows h heap held x y is_x.listed is_y.listed (omega (arith, place_x, place_y, e, low)) in
    omega (arith, apart, place_x, size_x, place_y, e, high)

pub run_carried : (rows : List TypeRow) (h new : HeapView) (to high : ℕ) (i : Item) (is : List Item) (n : ℕ)
    → AreSteps rows h new to high (i ∷ is) → AreSideBySide i.place (i ∷ is) (i.place + n) → to + n ≤ high
    → HasCarriedRun rows h new (i ∷ is) (part i.place n) (part to (high - to))
run_carried rows h new to high i [] n (mid, step, done) side room =
    let size : i.size ≡ n = (let e = side.1 in omega (arith, e)) in
    subst (λ (m : ℕ). HasCarriedRun rows h new (i ∷ []) (part i.place m) (part to (high - to))) size
    (subst (λ (g : HeapView). HasCarriedRun rows h g (i ∷ []) (item_piece i) (part to (high - to))) done
    (one_carried rows h mid i (part to (high - to)) step))
run_carried rows h new to high i (j ∷ js) n (mid, step, steps) side room =
    let up = side-up (i.place + i.size) (i.place + n) (j ∷ js) side.1 in
    let at : j.place ≡ i.place + i.size = side.1.0 in
    let whole : i.size + (n - i.size) ≡ n = omega (arith, up) in
    let end : i.place + n ≡ j.place + (n - i.size) = omega (arith, at, up) in
    let behind : AreSideBySide j.place (j ∷ js) (j.place + (n - i.size)) = (
      refl,
      subst (AreSideBySide (j.place + j.size) js) end
          (subst (λ (q : ℕ). AreSideBySide (q + j.size) js (i.place + n)) (sym at) side.1.1),
    ) in
    let others = run_carried rows mid new (to + i.size) high j js (n - i.size) steps behind
    (omega (arith, whole, room)) in
    let apart = step_apart rows h mid i (part to (high - to)) step in
    let least = (listed-item rows h i step.heap step.held step.can.listed).least in
    let more = (listed-item rows mid j steps.1.heap steps.1.held steps.1.can.listed).least in
    let rest = side-up (j.place + j.size) (j.place + (n - i.size)) js behind.1 in
    subst (λ (m : ℕ). HasCarriedRun rows h new (i ∷ j ∷ js) (part i.place m) (part to (high - to))) whole
    (two_carried rows h mid new i (j ∷ js) (n - i.size) to high
    (one_carried rows h mid i (part to (high - to)) step)
    (subst (λ (q : ℕ). HasCarriedRun rows mid new (j ∷ js) (part q (n - i.size))
    (part (to + i.size) (high - (to + i.size)))) at others)
    (last_heap rows mid new (to + i.size) high j js steps) (omega (arith, apart, room)) least
    (omega (arith, whole, room)) (omega (arith, more, rest, at, whole, end))
    (rest_apart rows h (part to (high - to)) (to + i.size) step.heap step.held step.can.free
    (omega (arith, least)) (omega (arith, room, whole, rest, more))))
  where
    last_heap : (rows : List TypeRow) (h new : HeapView) (to high : ℕ) (i : Item) (is : List Item)
        → AreSteps rows h new to high (i ∷ is) → IsHeap new
    last_heap rows h new to high i [] (mid, step, done) = subst IsHeap done step.next
    last_heap rows h new to high i (k ∷ ks) (mid, step, steps) = last_heap rows mid new (to + i.size) high k ks steps
