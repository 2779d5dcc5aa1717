-- The items that a fit leaves free are the ranges of the objects that its moves take.
use Rattle.std.proofs.Common.{◌≡◌, inl, inr, ℕ, ◌+◌, ◌-◌, ◌<◌, ◌≤◌, true, false, Bool, List, [], ◌∷◌, ◌++◌, ◌||◌, ◌&&◌}
use Rattle.std.proofs.Common.{refl, ap, sym, ◌∙◌, subst, arith, map, filter, if◌then◌else◌, nat_le, nat_lt}
use Rattle.std.proofs.lemmas.Bool.{and_parts, cases_lt, leb-true, ltb-true, or_cases}
use Rattle.std.proofs.lemmas.List.{map-append}
use Rattle.clr_types.specs.Ranges.{Piece, piece_end}
use Rattle.clr_types.specs.Rising.{first, IsIn, later, sorted_by}
use Rattle.clr_types.specs.Types.{TypeRow}
use Rattle.clr_types.specs.declared.item.Item.{Item}
use Rattle.clr_types.proofs.ChangedLists.{append_left, into_filter, IsIn-map, out_of_filter}
use Rattle.clr_types.proofs.ListMembers.{any-in, append_right, from-map, in_append, rising_same}
use Rattle.clr_types.proofs.RisingLists.{all_at}
use Rattle.clr_types.proofs.SortedLists.{into_sorted_by, out_of_sorted_by}
use Rattle.clr_heap.specs.Parts.{item_piece}
use Rattle.clr_heap.specs.View.{heap_items, HeapView, IsHeap, word_of}
use Rattle.clr_model.specs.Compaction.{Move}
use Rattle.clr_model.specs.Fitting.{is_moved, older_items}
use Rattle.clr_model.specs.Lookups.{object_piece}
use Rattle.clr_model.specs.Machine.{Object}
use Rattle.clr_fitting.proofs.AlikeLayouts.{none-left}
use Rattle.clr_view.specs.View.{IsHeld, is_object, layout_in, object_in, objects_in}
use Rattle.clr_view.proofs.Listed.{listed-item, listed-sized}
use Rattle.clr_view.proofs.Listings.{heap-rise}
use Rattle.clr_moves.specs.Objects.{moved_object}
use Rattle.clr_evacuate.specs.CarriedRun.{is_within, run_of}
use Rattle.clr_evacuate.specs.FittedAll.{AreGone, moved_pieces}
use Rattle.clr_evacuate.specs.FittedRun.{AreOlder, IsYoungRun}
use Rattle.clr_evacuate.specs.Fittings.{AreSideBySide}
use Rattle.clr_evacuate.proofs.CarriedRuns.{inside, outside_above}
use Rattle.clr_evacuate.proofs.Copying.{stands_below}
use Rattle.clr_evacuate.proofs.FittedAll.{move_to}
use Rattle.clr_evacuate.proofs.PassedItems.{side-up}

-- ---- items side by side

-- each of them lies in the range
pub side-within : (p e : ℕ) (is : List Item) (i : Item) → AreSideBySide p is e → IsIn i is
    → (p ≤ i.place) × (i.place + i.size ≤ e)
side-within p e [] i side n = absurd (elim n [ ])
side-within p e (j ∷ is) i side first =
    let at = side.0 in
    let up = side-up (p + j.size) e is side.1 in
    (omega (arith, at), omega (arith, at, up))
side-within p e (j ∷ is) i side (later n) =
    let (low, high) = side-within (p + j.size) e is i side.1 n in
    (omega (arith, low), high)

-- and each place of the range in one of them
pub side-covers : (p e : ℕ) (is : List Item) (x : ℕ) → AreSideBySide p is e → p ≤ x → x < e
    → (i : Item) × IsIn i is × (i.place ≤ x) × (x < i.place + i.size)
side-covers p e [] x side low high = absurd (omega (arith, side, low, high))
side-covers p e (j ∷ is) x side low high = elim (cases_lt x (p + j.size)) [
  | inl l ↦ (let at = side.0 in (j, first, omega (arith, at, low), omega (arith, at, l)))
  | inr l ↦ (let (i, n, from, to) = side-covers (p + j.size) e is x side.1 l high in (i, later n, from, to))
]

-- ---- no moves

-- without moves none is gone
pub none_moved : (rows : List TypeRow) (h : HeapView) → AreGone rows h [] []
none_moved rows h p =
    let none : moved_pieces rows h [] ≡ [] =
    ap (map (object_piece rows)) (none-left (λ (o : Object). is_moved [] o.place) (objects_in rows h) (λ o n. refl)) in
    (λ n. absurd (elim n [ ]), λ n. subst (IsIn p) none n)

-- ---- a run, and then the others

module _ (rows : List TypeRow) (h mid : HeapView) (run gone : List Item) (plug item : Piece) (ws : List Move)
    (heap : IsHeap h) (held : IsHeld rows h) (are : AreOlder (layout_in rows h)) (is : IsYoungRun rows h run plug)
    (there : IsIn item (older_items (layout_in rows h))) (room : plug.size ≤ item.size)
    (now : objects_in rows mid
    ≡ sorted_by (λ o. o.name) (map (moved_object (run_of plug item.place)) (objects_in rows h)))
    (from : (w : Move) → IsIn w ws → piece_end plug ≤ w.start) (others : AreGone rows mid ws gone) where
  abbrev all : List Move
  all = move_to plug item.place ∷ ws

  abbrev moves_it : List Move → Object → Bool
  moves_it vs o = is_moved vs o.place

  abbrev f : Object → Object
  f = moved_object (run_of plug item.place)

  lands : item.place + plug.size ≤ plug.place
  lands =
      let end = are.below item there in
      let up = is.above in
      omega (arith, end, up, room)

  -- what the others move stands behind the run
  behind : (x : ℕ) → is_moved ws x ≡ true → piece_end plug ≤ x
  behind x t =
      let (w, n, on) = any-in (λ (v : Move). nat_le v.start x && nat_lt x (v.start + v.size)) ws t in
      let low = leb-true w.start x (and_parts (nat_le w.start x) (nat_lt x (w.start + w.size)) on).0 in
      let start = from w n in
      omega (arith, low, start)

  within : (x : ℕ) → is_within plug x ≡ true → (plug.place ≤ x) × (x < piece_end plug)
  within x t =
      let (low, high) = and_parts (nat_le plug.place x) (nat_lt x (piece_end plug)) t in
      (leb-true plug.place x low, ltb-true x (piece_end plug) high)

  or-right : (a b : Bool) → b ≡ true → (a || b) ≡ true
  or-right true b e = refl
  or-right false b e = e

  -- an object's range is its item's
  range : (i : Item) → IsIn i (heap_items rows h) → object_piece rows (object_in rows (word_of h) i) ≡ item_piece i
  range i n = let size = listed-sized rows h i heap held n in λ k. record { place = i.place; size = sym size k }

  -- an object behind the run stays where it is
  stays : (o : Object) → is_within plug o.place ≡ false → (f o).place ≡ o.place
  stays o off = ap (λ (b : Bool). if b then item.place + (o.place - plug.place) else o.place) off

  same_range : (o : Object) → is_within plug o.place ≡ false → object_piece rows (f o) ≡ object_piece rows o
  same_range o off = let at = stays o off in λ k. record { place = at k; size = (object_piece rows o).size }

  -- the run is moved
  run_moved : (i : Item) → IsIn i run → IsIn (item_piece i) (moved_pieces rows h all)
  run_moved i n =
      let listed = all_at (λ (j : Item). IsIn j (heap_items rows h)) n is.listed in
      let object = all_at (λ (j : Item). is_object j ≡ true) n is.objects in
      let (low, high) = side-within plug.place (piece_end plug) run i is.side_by_side n in
      let least = (listed-item rows h i heap held listed).least in
      let on = inside plug i.place low (omega (arith, high, least)) in
      subst (λ (q : Piece). IsIn q (moved_pieces rows h all)) (range i listed)
      (IsIn-map (object_piece rows) (into_filter (moves_it all) (objects_in rows h)
      (ap (λ (b : Bool). b || is_moved ws i.place) on)
      (IsIn-map (object_in rows (word_of h)) (into_filter is_object (heap_items rows h) object listed))))

  -- and what the others move, too
  others_moved : (p : Piece) → IsIn p (moved_pieces rows mid ws) → IsIn p (moved_pieces rows h all)
  others_moved p n =
      let (o, e, k) = from-map (object_piece rows) p (filter (moves_it ws) (objects_in rows mid)) n in
      let (t, among) = out_of_filter (moves_it ws) o (objects_in rows mid) k in
      let (q, same, mine) = from-map f o (objects_in rows h)
      (out_of_sorted_by (λ (o : Object). o.name) o (map f (objects_in rows h)) (subst (IsIn o) now among)) in
      let moved : is_moved ws (f q).place ≡ true = subst (λ (w : Object). is_moved ws w.place ≡ true) same t in
      subst (λ (w : Piece). IsIn w (moved_pieces rows h all)) (sym (e ∙ ap (object_piece rows) same))
      (go q mine moved (is_within plug q.place) refl)
    where
      go : (q : Object) → IsIn q (objects_in rows h) → is_moved ws (f q).place ≡ true → (b : Bool)
          → is_within plug q.place ≡ b → IsIn (object_piece rows (f q)) (moved_pieces rows h all)
      go q mine moved true e =
          let at : (f q).place ≡ item.place + (q.place - plug.place) =
          ap (λ (b : Bool). if b then item.place + (q.place - plug.place) else q.place) e in
          let (low, high) = within q.place e in
          let far = behind (f q).place moved in
          let down = lands in
          absurd (omega (arith, at, low, high, far, down))
      go q mine moved false e =
          let on : is_moved ws q.place ≡ true = subst (λ (x : ℕ). is_moved ws x ≡ true) (stays q e) moved in
          subst (λ (w : Piece). IsIn w (moved_pieces rows h all)) (sym (same_range q e))
          (IsIn-map (object_piece rows) (into_filter (moves_it all) (objects_in rows h)
          (or-right (is_within plug q.place) (is_moved ws q.place) on) mine))

  -- an object in the range is of the run
  of_run : (o : Object) → IsIn o (objects_in rows h) → is_within plug o.place ≡ true
      → IsIn (object_piece rows o) (map item_piece run)
  of_run o mine t =
      let (i, e, n) = from-map (object_in rows (word_of h)) o (filter is_object (heap_items rows h)) mine in
      let (object, listed) = out_of_filter is_object i (heap_items rows h) n in
      let at : o.place ≡ i.place = ap (λ (w : Object). w.place) e in
      let (low, high) = within o.place t in
      let (r, k, from, to) = side-covers plug.place (piece_end plug) run o.place is.side_by_side low high in
      let known = all_at (λ (j : Item). IsIn j (heap_items rows h)) k is.listed in
      let same : r ≡ i =
      rising_same (λ (j : Item). j.place) (heap_items rows h) r i (heap-rise rows h held.walkable heap) known listed
      (one r i known listed at from to) in
      subst (λ (q : Piece). IsIn q (map item_piece run))
      (ap item_piece same ∙ sym (range i listed) ∙ sym (ap (object_piece rows) e)) (IsIn-map item_piece k)
    where
      one : (r i : Item) → IsIn r (heap_items rows h) → IsIn i (heap_items rows h) → o.place ≡ i.place
          → r.place ≤ o.place → o.place < r.place + r.size → r.place ≡ i.place
      one r i known listed at from to = elim (cases_lt r.place i.place) [
        | inl l ↦
            let apart = stands_below rows h heap held r i known listed l in
            absurd (omega (arith, apart, at, to))
        | inr l ↦ omega (arith, l, at, from)
      ]

  -- THE ITEMS that are gone are the ranges of what is moved
  pub all_moved : AreGone rows h (move_to plug item.place ∷ ws) (run ++ gone)
  all_moved p = (into, out)
    where
      into : IsIn p (map item_piece (run ++ gone)) → IsIn p (moved_pieces rows h all)
      into n =
          let (i, e, k) = from-map item_piece p (run ++ gone) n in
          subst (λ (w : Piece). IsIn w (moved_pieces rows h all)) (sym e) (elim (in_append run k) [
            | inl here ↦ run_moved i here
            | inr there ↦ others_moved (item_piece i) ((others (item_piece i)).0 (IsIn-map item_piece there))
          ])

      both : map item_piece (run ++ gone) ≡ map item_piece run ++ map item_piece gone
      both = map-append item_piece run gone

      out : IsIn p (moved_pieces rows h all) → IsIn p (map item_piece (run ++ gone))
      out n =
          let (o, e, k) = from-map (object_piece rows) p (filter (moves_it all) (objects_in rows h)) n in
          let (t, mine) = out_of_filter (moves_it all) o (objects_in rows h) k in
          subst (λ (w : Piece). IsIn w (map item_piece (run ++ gone))) (sym e)
          (subst (IsIn (object_piece rows o)) (sym both)
          (elim (or_cases (is_within plug o.place) (is_moved ws o.place) t) [
            | inl on ↦ append_left (map item_piece gone) (of_run o mine on)
            | inr on ↦ append_right (map item_piece run) (moved_on o mine on)
          ]))
        where
          moved_on : (o : Object) → IsIn o (objects_in rows h) → is_moved ws o.place ≡ true
              → IsIn (object_piece rows o) (map item_piece gone)
          moved_on o mine on =
              let off = outside_above plug o.place (behind o.place on) in
              let there : IsIn (f o) (objects_in rows mid) =
              subst (IsIn (f o)) (sym now)
              (into_sorted_by (λ (o : Object). o.name) (f o) (map f (objects_in rows h)) (IsIn-map f mine)) in
              let goes : is_moved ws (f o).place ≡ true =
              subst (λ (x : ℕ). is_moved ws x ≡ true) (sym (stays o off)) on in
              (others (object_piece rows o)).1
              (subst (λ (w : Piece). IsIn w (moved_pieces rows mid ws)) (same_range o off)
              (IsIn-map (object_piece rows) (into_filter (moves_it ws) (objects_in rows mid) goes there)))
