-- Runs that go into older items one after the other make the fit of their plugs.
use Rattle.std.proofs.Common.{◌≡◌, inl, inr, ℕ, ◌+◌, ◌-◌, ◌<◌, ◌≤◌, true, false, Bool, List, [], ◌∷◌, ◌++◌}
use Rattle.std.proofs.Common.{append_assoc, refl, ap, sym, ◌∙◌, subst, arith, map, filter, if◌then◌else◌, ◌==◌, ◌||◌}
use Rattle.std.proofs.Common.{not, nat_lt, ◌&&◌}
use Rattle.std.specs.List.{AllByRecursion}
use Rattle.std.proofs.lemmas.Bool.{cases_eq, cases_lt, eq-eqb, le-ltb, lt-leb, ne_eqb}
use Rattle.std.proofs.lemmas.List.Elements.{filter-append}
use Rattle.clr_types.specs.Ranges.{by_place, Piece, piece_end, range_piece}
use Rattle.clr_types.specs.Rising.{first, IsIn, IsRisingBy, later, sorted_by}
use Rattle.clr_types.specs.Segments.{Layout}
use Rattle.clr_types.specs.Types.{TypeRow}
use Rattle.clr_types.specs.declared.item.Item.{Item}
use Rattle.clr_types.proofs.ChangedLists.{IsIn-map, out_of_filter, rising-distinct}
use Rattle.clr_types.proofs.ListMembers.{distinct_of_sorted, filter-rises, map-map, map-on, rising_same}
use Rattle.clr_types.proofs.RisingLists.{in_cons}
use Rattle.clr_types.proofs.Shuffles.{followed, IsShuffled, shuffled-filter, shuffled-left, shuffled-map}
use Rattle.clr_types.proofs.Shuffles.{shuffled-right, shuffled-sorted, shuffled-sorts, shuffled-sym}
use Rattle.clr_types.proofs.Shuffles.{shuffled-turn}
use Rattle.clr_types.proofs.SortedLists.{into_sorted_by, IsDistinctBy}
use Rattle.clr_heap.specs.Parts.{item_piece}
use Rattle.clr_heap.specs.View.{heap_items, HeapView, IsHeap, word_of}
use Rattle.clr_heap.proofs.Framing.{SameShape-trans}
use Rattle.clr_model.specs.Compaction.{Move, moved_by}
use Rattle.clr_model.specs.Fitting.{Fit, is_moved, is_older_item, older_items, taken_from}
use Rattle.clr_model.specs.Machine.{Object}
use Rattle.clr_fitting.proofs.MovesInTurn.{in_turn}
use Rattle.clr_view.specs.Memory.{is_marked}
use Rattle.clr_view.specs.View.{free_in, is_free, IsHeld, layout_in, objects_in}
use Rattle.clr_view.proofs.Listings.{heap-rise}
use Rattle.clr_view.proofs.Rises.{objects-rise}
use Rattle.clr_sweep.proofs.LayoutSwept.{free-rise}
use Rattle.clr_moves.specs.Objects.{moved_object}
use Rattle.clr_evacuate.specs.CarriedRun.{going_along, HasCarriedRun, is_within, run_of}
use Rattle.clr_evacuate.specs.FittedAll.{going_with, HasCarriedAll, IsUnmovedBelow}
use Rattle.clr_evacuate.specs.FittedRun.{AreOlder, IsYoungRun}
use Rattle.clr_evacuate.specs.Forwards.{HasForwards}
use Rattle.clr_evacuate.proofs.CarriedRuns.{outside_above, outside_below}

-- ---- lists

abbrev left_of : ℕ → ℕ → Piece → List Piece
left_of at n i = if i.place == at then range_piece (i.place + n) (piece_end i) else i ∷ []

-- those that don't pass stay, where the front of one that does is taken
others-stay : (t : Piece → Bool) (at n : ℕ) (ps : List Piece)
    → ((p : Piece) → IsIn p ps → p.place ≡ at → (t p ≡ true)
    × (p.place + n < piece_end p → t (record { place = p.place + n; size = piece_end p - (p.place + n) }) ≡ true))
    → filter (λ p. not (t p)) (taken_from at n ps) ≡ filter (λ p. not (t p)) ps
others-stay t at n [] passes = refl
others-stay t at n (j ∷ ps) passes =
    filter-append (λ p. not (t p)) (left_of at n j) (taken_from at n ps)
    ∙ ap (λ (qs : List Piece). filter (λ p. not (t p)) (left_of at n j) ++ qs)
    (others-stay t at n ps (λ p m. passes p (later m)))
    ∙ one (passes j first)
  where
    rest : List Piece
    rest = filter (λ p. not (t p)) ps

    piece : Piece
    piece = record { place = j.place + n; size = piece_end j - (j.place + n) }

    none : (c : Bool) → t piece ≡ true
        → filter (λ p. not (t p)) (if c then piece ∷ [] else []) ≡ []
    none true on = ap (λ (b : Bool). if not b then piece ∷ [] else []) on
    none false on = refl

    range_none : (j.place + n < piece_end j → t piece ≡ true)
        → filter (λ p. not (t p)) (range_piece (j.place + n) (piece_end j)) ≡ []
    range_none on = elim (cases_lt (j.place + n) (piece_end j)) [
      | inl l ↦ none (nat_lt (j.place + n) (piece_end j)) (on l)
      | inr l ↦ let miss = le-ltb (j.place + n) (piece_end j) l in rw miss refl
    ]

    kept : (c : Bool) → (if c then j ∷ [] else []) ++ rest ≡ (if c then j ∷ rest else rest)
    kept true = refl
    kept false = refl

    one : (j.place ≡ at → (t j ≡ true) × (j.place + n < piece_end j → t piece ≡ true))
        → filter (λ p. not (t p)) (left_of at n j) ++ rest ≡ (if not (t j) then j ∷ rest else rest)
    one passes_j = elim (cases_eq j.place at) [
      | inl same ↦
          let hit = eq-eqb j.place at same in
          let (on, left) = passes_j same in
          ap (λ (b : Bool). filter (λ p. not (t p))
          (if b then range_piece (j.place + n) (piece_end j) else j ∷ []) ++ rest) hit
          ∙ ap (λ (qs : List Piece). qs ++ rest) (range_none left)
          ∙ sym (ap (λ (b : Bool). if not b then j ∷ rest else rest) on)
      | inr ne ↦
          let miss = ne_eqb j.place at ne in
          ap (λ (b : Bool). filter (λ p. not (t p))
          (if b then range_piece (j.place + n) (piece_end j) else j ∷ []) ++ rest) miss
          ∙ kept (not (t j))
    ]

-- no move that begins above a place takes it
not-moved : (ws : List Move) (x : ℕ) → ((w : Move) → IsIn w ws → x < w.start) → is_moved ws x ≡ false
not-moved [] x above = refl
not-moved (w ∷ ws) x above =
    let low = lt-leb w.start x (above w first) in
    ap (λ (b : Bool). (b && nat_lt x (w.start + w.size)) || is_moved ws x) low
    ∙ not-moved ws x (λ v m. above v (later m))

-- the same pieces in four parts
regrouped : (ps qs us vs : List Piece) → IsShuffled (((ps ++ qs) ++ us) ++ vs) ((ps ++ us) ++ (qs ++ vs))
regrouped ps qs us vs =
    subst (λ (xs : List Piece). IsShuffled xs ((ps ++ us) ++ (qs ++ vs)))
    (sym (append_assoc (ps ++ qs) us vs ∙ append_assoc ps qs (us ++ vs)))
    (subst (λ (xs : List Piece). IsShuffled (ps ++ (qs ++ (us ++ vs))) xs) (sym (append_assoc ps us (qs ++ vs)))
    (shuffled-right ps (shuffled-turn qs us vs)))

map_both : (is js : List Item) → map item_piece (is ++ js) ≡ map item_piece is ++ map item_piece js
map_both [] js = refl
map_both (i ∷ is) js = ap (λ (ps : List Piece). item_piece i ∷ ps) (map_both is js)

-- ---- a run, and then the others

abbrev pub move_to : Piece → ℕ → Move
move_to plug to = record { start = plug.place; size = plug.size; to = to }

module _ (rows : List TypeRow) (h mid new : HeapView) (run gone : List Item) (plug item : Piece) (f : Fit) (heap
    : IsHeap h) (held : IsHeld rows h) (last : IsHeap new) (are : AreOlder (layout_in rows h))
    (is : IsYoungRun rows h run plug) (there : IsIn item (older_items (layout_in rows h)))
    (room : plug.size ≤ item.size) (c : HasCarriedRun rows h mid run plug item)
    (others : HasCarriedAll rows mid new (piece_end plug) f gone) where
  abbrev t : Piece → Bool
  t = is_older_item (layout_in rows h)

  abbrev v : Move
  v = move_to plug item.place

  abbrev name : Object → ℕ
  name o = o.name

  abbrev place : Piece → ℕ
  place p = p.place

  lands : item.place + plug.size ≤ h.start1
  lands = let end = are.below item there in omega (arith, end, room)

  goes : (x : ℕ) → moved_by f.moves (moved_by (run_of plug item.place) x) ≡ moved_by (v ∷ f.moves) x
  goes x =
      sym (in_turn h.start1 (run_of plug item.place) f.moves to_below from_above x)
    where
      to_below : (w : Move) → IsIn w (run_of plug item.place) → w.to + w.size ≤ h.start1
      to_below w first = lands
      to_below w (later n) = absurd (elim n [ ])

      from_above : (w : Move) → IsIn w f.moves → h.start1 ≤ w.start
      from_above w n =
          let low = others.from w n in
          let up = is.above in
          omega (arith, low, up)

  abbrev f1 : Object → Object
  f1 = moved_object (run_of plug item.place)

  abbrev f2 : Object → Object
  f2 = moved_object f.moves

  abbrev both : Object → Object
  both = moved_object (v ∷ f.moves)

  moved_twice : (o : Object) → f2 (f1 o) ≡ both o
  moved_twice o = let at = goes o.place in λ k. record o { name = at k; place = at k }

  all_objects : objects_in rows new ≡ sorted_by name (map both (objects_in rows h))
  all_objects =
      let mapped : IsShuffled (map f2 (map f1 (objects_in rows h))) (map f2 (objects_in rows mid)) =
      subst (λ (os : List Object). IsShuffled (map f2 (map f1 (objects_in rows h))) (map f2 os))
      (sym c.objects)
      (shuffled-map f2 (shuffled-sorted name (map f1 (objects_in rows h)))) in
      let distinct : IsDistinctBy name (map f2 (objects_in rows mid)) =
      distinct_of_sorted name (map f2 (objects_in rows mid))
      (subst (IsDistinctBy name) others.objects
      (rising-distinct name (objects_in rows new)
      (objects-rise rows (word_of new) (heap_items rows new) (heap-rise rows new others.held.walkable last)))) in
      others.objects
      ∙ shuffled-sorts name (shuffled-sym mapped) distinct
      ∙ ap (sorted_by name)
      (map-map f1 f2 (objects_in rows h)
      ∙ map-on (λ (o : Object). f2 (f1 o)) both (objects_in rows h) (λ o n. moved_twice o))

  free-rises : (g : HeapView) → IsHeap g → IsHeld rows g → IsRisingBy place (free_in rows g)
  free-rises g heap_g held_g =
      free-rise (filter is_free (heap_items rows g))
      (filter-rises is_free (λ (i : Item). i.place) (heap_items rows g) (heap-rise rows g held_g.walkable heap_g))

  passes : (p : Piece) → IsIn p (free_in rows h) → p.place ≡ item.place → (t p ≡ true)
      × (p.place + plug.size < piece_end p
      → t (record { place = p.place + plug.size; size = piece_end p - (p.place + plug.size) }) ≡ true)
  passes p m at =
      let (older, free) = out_of_filter t item (free_in rows h) there in
      let same : p ≡ item = rising_same place (free_in rows h) p item (free-rises h heap held) m free at in
      subst (λ (q : Piece). (t q ≡ true)
      × (q.place + plug.size < piece_end q
      → t (record { place = q.place + plug.size; size = piece_end q - (q.place + plug.size) }) ≡ true)) (sym same) (
        older,
        λ more. are.throughout item
            (record { place = item.place + plug.size; size = piece_end item - (item.place + plug.size) }) there
            (omega arith)
            more,
      )

  all_young : (is : List Item) → AllByRecursion (λ (i : Item). t (item_piece i) ≡ false) is
      → filter (λ p. not (t p)) (map item_piece is) ≡ map item_piece is
  all_young [] young = refl
  all_young (i ∷ is) young =
      let more = all_young is young.1 in
      ap (λ (b : Bool). if not b then item_piece i ∷ filter (λ p. not (t p)) (map item_piece is)
      else filter (λ p. not (t p)) (map item_piece is)) young.0
      ∙ ap (λ (ps : List Piece). item_piece i ∷ ps) more

  abbrev young_frees : List Piece
  young_frees = filter (λ p. not (t p)) (free_in rows h)

  all_frees : free_in rows new ≡ by_place ((young_frees ++ f.left) ++ map item_piece (run ++ gone))
  all_frees =
      let was : free_in rows mid ≡ by_place (taken_from item.place plug.size (free_in rows h) ++ map item_piece run) =
      ap (λ (l : Layout). l.free) c.layout in
      let test : is_older_item (layout_in rows mid) ≡ t = ap is_older_item c.layout in
      let now : free_in rows new
      ≡ by_place ((filter (λ p. not (is_older_item (layout_in rows mid) p)) (free_in rows mid) ++ f.left)
      ++ map item_piece gone) = ap (λ (l : Layout). l.free) others.layout in
      let now_t : free_in rows new
      ≡ by_place ((filter (λ p. not (t p)) (free_in rows mid) ++ f.left) ++ map item_piece gone) =
      now ∙ ap (λ (s : Piece → Bool). by_place ((filter (λ p. not (s p)) (free_in rows mid) ++ f.left)
      ++ map item_piece gone)) test in
      let sorted : IsShuffled (filter (λ p. not (t p))
      (taken_from item.place plug.size (free_in rows h) ++ map item_piece run))
      (filter (λ p. not (t p)) (free_in rows mid)) =
      subst (λ (ps : List Piece). IsShuffled (filter (λ p. not (t p))
      (taken_from item.place plug.size (free_in rows h) ++ map item_piece run)) (filter (λ p. not (t p)) ps)) (sym was)
      (shuffled-filter (λ p. not (t p))
      (shuffled-sorted place (taken_from item.place plug.size (free_in rows h) ++ map item_piece run))) in
      let parts : filter (λ p. not (t p)) (taken_from item.place plug.size (free_in rows h) ++ map item_piece run)
      ≡ young_frees ++ map item_piece run =
      filter-append (λ p. not (t p)) (taken_from item.place plug.size (free_in rows h)) (map item_piece run)
      ∙ (let front = others-stay t item.place plug.size (free_in rows h) passes in
      let back = all_young run is.young in λ k. front k ++ back k) in
      let distinct : IsDistinctBy place
      ((filter (λ p. not (t p)) (free_in rows mid) ++ f.left) ++ map item_piece gone) =
      distinct_of_sorted place ((filter (λ p. not (t p)) (free_in rows mid) ++ f.left) ++ map item_piece gone)
      (subst (IsDistinctBy place) now_t
      (rising-distinct place (free_in rows new) (free-rises new last others.held))) in
      let grouped : IsShuffled ((filter (λ p. not (t p)) (free_in rows mid) ++ f.left) ++ map item_piece gone)
      ((young_frees ++ f.left) ++ (map item_piece run ++ map item_piece gone)) =
      followed (shuffled-left (map item_piece gone) (shuffled-left f.left
      (subst (IsShuffled (filter (λ p. not (t p)) (free_in rows mid))) parts (shuffled-sym sorted))))
      (regrouped young_frees (map item_piece run) f.left (map item_piece gone)) in
      now_t ∙ shuffled-sorts place grouped distinct
      ∙ ap (λ (ps : List Piece). by_place ((young_frees ++ f.left) ++ ps)) (sym (map_both run gone))

  all_marks : (o : Object) → IsIn o (objects_in rows h)
      → is_marked new (both o) ≡ (if is_moved (v ∷ f.moves) o.place then false else is_marked h o)
  all_marks o mine =
      let in_mid : IsIn (f1 o) (objects_in rows mid) =
      subst (IsIn (f1 o)) (sym c.objects)
      (into_sorted_by name (f1 o) (map f1 (objects_in rows h)) (IsIn-map f1 mine)) in
      ap (is_marked new) (sym (moved_twice o))
      ∙ others.marks (f1 o) in_mid
      ∙ ap (λ (m : Bool). if is_moved f.moves (moved_by (run_of plug item.place) o.place) then false else m)
      (c.marks o mine)
      ∙ go (is_within plug o.place)
    where
      twice : (b : Bool) → (if b then false else false) ≡ false
      twice true = refl
      twice false = refl

      go : (b : Bool)
          → (if is_moved f.moves (if b then item.place + (o.place - plug.place) else o.place) then false
          else (if b then false else is_marked h o))
          ≡ (if b || is_moved f.moves o.place then false else is_marked h o)
      go true = twice (is_moved f.moves (item.place + (o.place - plug.place)))
      go false = refl

  -- headers are what they were, at places that go with the run and then with the others
  all_headers : (o : Object) → IsIn o (objects_in rows h)
      → word_of new ((both o).place - 8) ≡ word_of h (o.place - 8)
  all_headers o mine =
      let in_mid : IsIn (f1 o) (objects_in rows mid) =
      subst (IsIn (f1 o)) (sym c.objects)
      (into_sorted_by name (f1 o) (map f1 (objects_in rows h)) (IsIn-map f1 mine)) in
      ap (λ (p : Object). word_of new (p.place - 8)) (sym (moved_twice o))
      ∙ others.headers (f1 o) in_mid ∙ c.headers o mine

  all_from : (w : Move) → IsIn w (v ∷ f.moves) → plug.place ≤ w.start
  all_from w m = elim (in_cons m) [
    | inl e ↦ (let at = ap (λ (u : Move). u.start) e in omega (arith, at))
    | inr n ↦ (let low = others.from w n in omega (arith, low))
  ]

  along : (go : ℕ → ℕ) (x : ℕ)
      → going_with (going_along go plug item.place) f.moves x ≡ going_with go (v ∷ f.moves) x
  along go x = elim (cases_lt x (piece_end plug)) [
    | inl l ↦
        let off = not-moved f.moves x (λ w n. let low = others.from w n in omega (arith, l, low)) in
        under off (is_within plug x)
    | inr l ↦ let off = outside_above plug x l in over off
  ]
    where
      under : is_moved f.moves x ≡ false → (b : Bool)
          → (if is_moved f.moves x then moved_by f.moves x
          else (if b then item.place + (x - plug.place) else go x))
          ≡ (if b || is_moved f.moves x then (if b then item.place + (x - plug.place) else moved_by f.moves x)
          else go x)
      under off true = ap (λ (m : Bool). if m then moved_by f.moves x else item.place + (x - plug.place)) off
      under off false = refl

      over : is_within plug x ≡ false
          → (if is_moved f.moves x then moved_by f.moves x
          else (if is_within plug x then item.place + (x - plug.place) else go x))
          ≡ (if is_within plug x || is_moved f.moves x
          then (if is_within plug x then item.place + (x - plug.place) else moved_by f.moves x) else go x)
      over off = by (is_within plug x) off
        where
          by : (b : Bool) → b ≡ false
              → (if is_moved f.moves x then moved_by f.moves x
              else (if b then item.place + (x - plug.place) else go x))
              ≡ (if b || is_moved f.moves x
              then (if b then item.place + (x - plug.place) else moved_by f.moves x) else go x)
          by true e = absurd cc
          by false e = refl

  all_forwards : (go : ℕ → ℕ) → HasForwards rows h go → IsUnmovedBelow go h.start1
      → HasForwards rows new (going_with go (v ∷ f.moves))
  all_forwards go has unmoved =
      let bound : mid.start1 ≡ h.start1 = ap (λ (g : HeapView). g.start1) c.shape.others in
      let end = are.below item there in
      let up = is.above in
      subst (HasForwards rows new) (λ k x. along go x k)
      (others.forwards (going_along go plug item.place)
      (c.forwards go has (λ x low high. unmoved x (omega (arith, high, end))))
      (λ x low.
      let off = outside_below plug x (omega (arith, low, bound, up)) in
      ap (λ (b : Bool). if b then item.place + (x - plug.place) else go x) off
      ∙ unmoved x (omega (arith, low, bound))))

  -- ALL OF THEM
  pub run_and_others : HasCarriedAll rows h new plug.place (record { moves = v ∷ f.moves; left = f.left })
      (run ++ gone)
  run_and_others = record {
    objects = all_objects;
    layout = others.layout
        ∙ (let free = sym (ap (λ (l : Layout). l.free) others.layout) ∙ all_frees in
        λ k. record (c.layout k) { free = free k });
    marks = all_marks;
    from = all_from;
    headers = all_headers;
    padding = λ p. others.padding (c.padding p);
    forwards = all_forwards;
    shape = SameShape-trans h mid new c.shape others.shape;
    held = others.held;
  }
