-- What older items become when a run goes into one of them.
use Rattle.std.proofs.Common.{◌≡◌, inl, inr, ℕ, ◌+◌, ◌-◌, ◌<◌, ◌≤◌, true, false, Bool, List, [], ◌∷◌, ◌++◌}
use Rattle.std.proofs.Common.{refl, ap, sym, ◌∙◌, subst, arith, map, filter, if◌then◌else◌, ◌==◌, nat_lt}
use Rattle.std.proofs.Common.{Some, true≢false}
use Rattle.std.specs.List.{AllByRecursion}
use Rattle.std.proofs.lemmas.Bool.{cases_eq, cases_lt, eq-eqb, le-ltb, ne_eqb}
use Rattle.std.proofs.lemmas.List.{append-nil}
use Rattle.std.proofs.lemmas.List.Elements.{filter-append}
use Rattle.clr_types.specs.Ranges.{by_place, Piece, piece_end, range_piece}
use Rattle.clr_types.specs.Rising.{first, IsIn, IsRisingBy, later}
use Rattle.clr_types.specs.Segments.{Layout}
use Rattle.clr_types.specs.Types.{TypeRow}
use Rattle.clr_types.specs.declared.item.Item.{Item}
use Rattle.clr_types.proofs.ChangedLists.{out_of_filter, rising-sorted, sorted_by-done}
use Rattle.clr_types.proofs.ListMembers.{filter-rises, in_append, rising_same}
use Rattle.clr_types.proofs.RisingLists.{in_cons}
use Rattle.clr_heap.specs.Parts.{item_piece}
use Rattle.clr_heap.specs.View.{heap_items, HeapView, IsHeap}
use Rattle.clr_model.specs.Fitting.{is_older_item, lowest_item, older_items, taken_from}
use Rattle.clr_model.proofs.RestLists.{taken-rises}
use Rattle.clr_fitting.proofs.PartFit.{filter-sorted}
use Rattle.clr_view.specs.View.{free_in, is_free, IsHeld, layout_in}
use Rattle.clr_view.proofs.Bearing.{fits-is}
use Rattle.clr_view.proofs.Listings.{heap-rise}
use Rattle.clr_sweep.proofs.LayoutSwept.{free-rise}
use Rattle.clr_evacuate.specs.CarriedRun.{CanCarryRun, HasCarriedRun}
use Rattle.clr_types.proofs.ChangedLists.{into_filter, IsIn-map}
use Rattle.clr_types.proofs.ListMembers.{from-map}
use Rattle.clr_types.proofs.SortedLists.{into_sorted_by}
use Rattle.clr_heap.specs.Parts.{item_at, unmarked}
use Rattle.clr_heap.specs.View.{word_of}
use Rattle.clr_heap.proofs.Spelling.{item_at-agrees}
use Rattle.clr_model.specs.Machine.{Object}
use Rattle.clr_view.specs.View.{is_object, object_in, objects_in}
use Rattle.clr_view.proofs.Listed.{listed-item, listed-spelled}
use Rattle.clr_moves.specs.Objects.{moved_object}
use Rattle.clr_evacuate.specs.CarriedRun.{run_of}
use Rattle.clr_evacuate.proofs.CarriedRuns.{outside_above}
use Rattle.clr_evacuate.specs.FittedRun.{AreOlder, IsYoungRun}
use Rattle.clr_evacuate.specs.Hints.{AreHints}
use Rattle.clr_evacuate.specs.declared.hints.Hint.{Hint}
use Rattle.clr_evacuate.proofs.Copying.{free_item_of, stands_below}
use Rattle.clr_evacuate.proofs.HintFacts.{hints-stay}
pub use Rattle.clr_evacuate.proofs.HintFacts.{lowest_is}
use Rattle.clr_evacuate.proofs.SearchStarts.{search_stays}

-- ---- lists

abbrev left_of : ℕ → ℕ → Piece → List Piece
left_of at n i = if i.place == at then range_piece (i.place + n) (piece_end i) else i ∷ []

-- an item that passes a test, what is left of which does too
abbrev PassesOn : (Piece → Bool) → ℕ → Piece → Type 0
PassesOn t n p = (t p ≡ true)
    × (p.place + n < piece_end p → t (record { place = p.place + n; size = piece_end p - (p.place + n) }) ≡ true)

-- those that pass are those of before, with the front of one taken
filter-taken : (t : Piece → Bool) (at n : ℕ) (ps : List Piece)
    → ((p : Piece) → IsIn p ps → p.place ≡ at → PassesOn t n p)
    → filter t (taken_from at n ps) ≡ taken_from at n (filter t ps)
filter-taken t at n [] passes = refl
filter-taken t at n (j ∷ ps) passes =
    filter-append t (left_of at n j) (taken_from at n ps)
    ∙ ap (λ (qs : List Piece). filter t (left_of at n j) ++ qs)
    (filter-taken t at n ps (λ p m. passes p (later m)))
    ∙ one (passes j first)
  where
    rest : List Piece
    rest = filter t ps

    left_passes : (t (record { place = j.place + n; size = piece_end j - (j.place + n) }) ≡ true)
        → (c : Bool)
        → filter t (if c then record { place = j.place + n; size = piece_end j - (j.place + n) } ∷ [] else [])
        ≡ (if c then record { place = j.place + n; size = piece_end j - (j.place + n) } ∷ [] else [])
    left_passes on true = ap
        (λ (b : Bool). if b then record { place = j.place + n; size = piece_end j - (j.place + n) } ∷ [] else []) on
    left_passes on false = refl

    range_passes : (j.place + n < piece_end j
        → t (record { place = j.place + n; size = piece_end j - (j.place + n) }) ≡ true)
        → filter t (range_piece (j.place + n) (piece_end j)) ≡ range_piece (j.place + n) (piece_end j)
    range_passes on = elim (cases_lt (j.place + n) (piece_end j)) [
      | inl l ↦ left_passes (on l) (nat_lt (j.place + n) (piece_end j))
      | inr l ↦ let miss = le-ltb (j.place + n) (piece_end j) l in rw miss refl
    ]

    other : (c : Bool) → (j.place == at) ≡ false
        → (if c then j ∷ [] else []) ++ taken_from at n rest
        ≡ taken_from at n (if c then j ∷ rest else rest)
    other true miss = sym (ap (λ (b : Bool). (if b then range_piece (j.place + n) (piece_end j) else j ∷ [])
        ++ taken_from at n rest) miss)
    other false miss = refl

    one : (j.place ≡ at → PassesOn t n j)
        → filter t (left_of at n j) ++ taken_from at n rest ≡ taken_from at n (if t j then j ∷ rest else rest)
    one passes_j = elim (cases_eq j.place at) [
      | inl same ↦
          let hit = eq-eqb j.place at same in
          let (on, left) = passes_j same in
          ap (λ (b : Bool). filter t (if b then range_piece (j.place + n) (piece_end j) else j ∷ [])
          ++ taken_from at n rest) hit
          ∙ ap (λ (qs : List Piece). qs ++ taken_from at n rest) (range_passes left)
          ∙ sym (ap (λ (b : Bool). (if b then range_piece (j.place + n) (piece_end j) else j ∷ [])
          ++ taken_from at n rest) hit)
          ∙ sym (ap (λ (b : Bool). taken_from at n (if b then j ∷ rest else rest)) on)
      | inr ne ↦
          let miss = ne_eqb j.place at ne in
          ap (λ (b : Bool). filter t (if b then range_piece (j.place + n) (piece_end j) else j ∷ [])
          ++ taken_from at n rest) miss
          ∙ other (t j) miss
    ]

-- what items become lies in one of them
taken-inside : (at n : ℕ) (ps : List Piece) (x : Piece) → IsIn x (taken_from at n ps)
    → (p : Piece) × IsIn p ps × (p.place ≤ x.place) × (piece_end x ≤ piece_end p)
taken-inside at n [] x m = absurd (elim m [ ])
taken-inside at n (j ∷ ps) x m = elim (in_append (left_of at n j) m) [
  | inl here ↦ let (low, high) = cut (j.place == at) here in (j, first, low, high)
  | inr there ↦ let (p, k, low, high) = taken-inside at n ps x there in (p, later k, low, high)
]
  where
    range : (c : Bool) → nat_lt (j.place + n) (piece_end j) ≡ c
        → IsIn x (if c then record { place = j.place + n; size = piece_end j - (j.place + n) } ∷ [] else [])
        → (j.place ≤ x.place) × (piece_end x ≤ piece_end j)
    range false e i = absurd (elim i [ ])
    range true e i = elim (in_cons i) [
      | inl same ↦
          let place = ap (λ (p : Piece). p.place) same in
          let size = ap (λ (p : Piece). p.size) same in
          (omega (arith, place), room e place size)
      | inr none ↦ absurd (elim none [ ])
    ]
      where
        room : nat_lt (j.place + n) (piece_end j) ≡ true → x.place ≡ j.place + n
            → x.size ≡ piece_end j - (j.place + n) → piece_end x ≤ piece_end j
        room e place size = elim (cases_lt (j.place + n) (piece_end j)) [
          | inl l ↦ omega (arith, l, place, size)
          | inr l ↦ (let off = le-ltb (j.place + n) (piece_end j) l in absurd (true≢false (sym e ∙ off)))
        ]

    cut : (c : Bool) → IsIn x (if c then range_piece (j.place + n) (piece_end j) else j ∷ [])
        → (j.place ≤ x.place) × (piece_end x ≤ piece_end j)
    cut true i = range (nat_lt (j.place + n) (piece_end j)) refl i
    cut false i = elim (in_cons i) [
      | inl same ↦ (
        (let place = ap (λ (p : Piece). p.place) same in omega (arith, place)),
        (let end = ap piece_end same in omega (arith, end)),
      )
      | inr none ↦ absurd (elim none [ ])
    ]

-- ---- the older items

-- the lowest older item is a free item of the heap below the run, in which that can be carried
pub can_go : (rows : List TypeRow) (h : HeapView) (run : List Item) (plug item : Piece) → AreOlder (layout_in rows h)
    → IsYoungRun rows h run plug → lowest_item plug.size (older_items (layout_in rows h)) ≡ Some item
    → CanCarryRun rows h run plug item
can_go rows h run plug item old is e =
    let (there, room) = lowest_is plug.size (older_items (layout_in rows h)) item e in
    let (older, free) = out_of_filter (is_older_item (layout_in rows h)) item (free_in rows h) there in
    let below = old.below item there in
    let above = is.above in
    let least = is.least in
    let enough : plug.size ≤ item.size = elim (fits-is plug.size item.size room)
    [ inl l ↦ omega (arith, l) | inr l ↦ omega (arith, l) ] in
    record {
      listed = is.listed;
      objects = is.objects;
      side_by_side = is.side_by_side;
      least = is.least;
      free = free;
      lower = omega (arith, below, above, least, enough);
      within = room;
    }

module _ (rows : List TypeRow) (old new : HeapView) (run : List Item) (plug item : Piece) (heap : IsHeap old)
    (held : IsHeld rows old) (are : AreOlder (layout_in rows old)) (is : IsYoungRun rows old run plug)
    (there : IsIn item (older_items (layout_in rows old))) (c : HasCarriedRun rows old new run plug item) where
  abbrev t : Piece → Bool
  t = is_older_item (layout_in rows old)

  frees : List Piece
  frees = free_in rows old

  frees-rise : IsRisingBy (λ (p : Piece). p.place) (free_in rows old)
  frees-rise =
      free-rise (filter is_free (heap_items rows old))
      (filter-rises is_free (λ (i : Item). i.place) (heap_items rows old) (heap-rise rows old held.walkable heap))

  apart : (p q : Piece) → IsIn p (free_in rows old) → IsIn q (free_in rows old) → p.place < q.place
      → piece_end p ≤ q.place
  apart p q m n low =
      let (x, is_x) = free_item_of rows old p m in
      let (y, is_y) = free_item_of rows old q n in
      let place_x = ap (λ (r : Piece). r.place) is_x.is in
      let size_x = ap (λ (r : Piece). r.size) is_x.is in
      let place_y = ap (λ (r : Piece). r.place) is_y.is in
      let far = stands_below rows old heap held x y is_x.listed is_y.listed (omega (arith, place_x, place_y, low)) in
      omega (arith, place_x, size_x, place_y, far)

  passes : (p : Piece) → IsIn p (free_in rows old) → p.place ≡ item.place → PassesOn t plug.size p
  passes p m at =
      let (older, free) = out_of_filter t item (free_in rows old) there in
      let same : p ≡ item =
      rising_same (λ (q : Piece). q.place) (free_in rows old) p item frees-rise m free at in
      subst (PassesOn t plug.size) (sym same) (
        older,
        λ more.
            are.throughout item (record {
              place = item.place + plug.size;
              size = piece_end item -
                  (item.place + plug.size);
            })
            there (omega arith) more,
      )

  none_old : (is : List Item) → AllByRecursion (λ (i : Item). t (item_piece i) ≡ false) is
      → filter t (map item_piece is) ≡ []
  none_old [] young = refl
  none_old (i ∷ is) young =
      ap (λ (b : Bool). if b then item_piece i ∷ filter t (map item_piece is) else filter t (map item_piece is)) young.0
      ∙ none_old is young.1

  pub older_after : older_items (layout_in rows new)
      ≡ taken_from item.place plug.size (older_items (layout_in rows old))
  older_after =
      let place : Piece → ℕ = λ p. p.place in
      let taken : List Piece = taken_from item.place plug.size (free_in rows old) in
      let rise : IsRisingBy (λ (p : Piece). p.place)
      (taken_from item.place plug.size (filter t (free_in rows old))) =
      taken-rises item.place plug.size (filter t (free_in rows old))
      (filter-rises t (λ (p : Piece). p.place) (free_in rows old) frees-rise)
      (λ p q m n. apart p q (out_of_filter t p (free_in rows old) m).1 (out_of_filter t q (free_in rows old) n).1) in
      ap older_items c.layout
      ∙ filter-sorted (λ (p : Piece). p.place) t (taken ++ map item_piece run)
      ∙ ap by_place (filter-append t taken (map item_piece run)
      ∙ ap (λ (ps : List Piece). filter t taken ++ ps) (none_old run is.young)
      ∙ append-nil (filter t taken)
      ∙ filter-taken t item.place plug.size (free_in rows old) passes)
      ∙ sorted_by-done (λ (p : Piece). p.place) (taken_from item.place plug.size (filter t (free_in rows old)))
      (rising-sorted (λ (p : Piece). p.place) (taken_from item.place plug.size (filter t (free_in rows old))) rise)

  pub still_older : AreOlder (layout_in rows new)
  still_older = record {
    throughout = λ p q m low high.
        let (r, n, down, up) = taken-inside item.place plug.size (older_items (layout_in rows old)) p
        (subst (IsIn p) older_after m) in
        ap (λ (l : Layout). is_older_item l q) c.layout
        ∙ are.throughout r q n (omega (arith, down, low)) (omega (arith, up, high));
    below = λ p m.
        let (r, n, down, up) = taken-inside item.place plug.size (older_items (layout_in rows old)) p
        (subst (IsIn p) older_after m) in
        let end = are.below r n in
        let same : (layout_in rows new).start1 ≡ (layout_in rows old).start1 =
        ap (λ (l : Layout). l.start1) c.layout in
        omega (arith, up, end, same);
  }

  pub hints_after : IsHeap new → old.start1 ≤ old.start0 → CanCarryRun rows old run plug item → (hints : List Hint)
      → AreHints rows old hints → AreHints rows new hints
  hints_after next order can hints = hints-stay rows old new item.place plug.size hints is.least older_after
      (search_stays rows old new run plug item heap held next can c order)

-- ---- what stands behind a run

-- an object behind the run stays
pub behind_stays : (rows : List TypeRow) (h mid : HeapView) (run : List Item) (plug item : Piece) → IsHeap h
    → IsHeld rows h → IsHeap mid → piece_end item ≤ plug.place → HasCarriedRun rows h mid run plug item → (j : Item)
    → IsIn j (heap_items rows h) → is_object j ≡ true → piece_end plug ≤ j.place → IsIn j (heap_items rows mid)
behind_stays rows h mid run plug item heap held next apart c j listed object above =
    let o : Object = object_in rows (word_of h) j in
    let there : IsIn o (objects_in rows h) =
    IsIn-map (object_in rows (word_of h)) (into_filter is_object (heap_items rows h) object listed) in
    let now : IsIn (moved_object (run_of plug item.place) o) (objects_in rows mid) =
    subst (IsIn (moved_object (run_of plug item.place) o)) (sym c.objects)
    (into_sorted_by (λ (p : Object). p.name) (moved_object (run_of plug item.place) o)
    (map (moved_object (run_of plug item.place)) (objects_in rows h))
    (IsIn-map (moved_object (run_of plug item.place)) there)) in
    let (k, is, among) = from-map (object_in rows (word_of mid)) (moved_object (run_of plug item.place) o)
    (filter is_object (heap_items rows mid)) now in
    let (object_k, listed_k) = out_of_filter is_object k (heap_items rows mid) among in
    let off = outside_above plug j.place above in
    let at : k.place ≡ j.place =
    sym (ap (λ (p : Object). p.place) is)
    ∙ ap (λ (b : Bool). if b then item.place + (j.place - plug.place) else j.place) off in
    let was = (listed-spelled rows h j heap held listed).0 in
    let spelled = (listed-spelled rows mid k next c.held listed_k).0 in
    let z = (listed-item rows h j heap held listed).aligned in
    let mt = c.words j.place z (inr (omega (arith, apart, above))) (inr (omega (arith, above))) in
    let len = c.words (j.place + 8) (omega (arith, z)) (inr (omega (arith, apart, above))) (inr (omega
    (arith, above))) in
    let same : k ≡ j =
    spelled ∙ ap (item_at rows (word_of mid)) at
    ∙ item_at-agrees rows (word_of h) (word_of mid) j.place (record { mt = ap unmarked mt; len = λ _. len })
    ∙ sym was in
    subst (λ (l : Item). IsIn l (heap_items rows mid)) same listed_k
