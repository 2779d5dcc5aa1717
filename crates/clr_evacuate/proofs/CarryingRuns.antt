-- The loop that carries a run, object by object.
use Rattle.std.proofs.Common.{◌≡◌, ◌⊎◌, inl, inr, ℕ, ◌+◌, ◌-◌, ◌<◌, ◌≤◌, true, List, [], ◌∷◌}
use Rattle.std.proofs.Common.{◌++◌, refl, ap, sym, ◌∙◌, subst, arith, map, filter, if◌then◌else◌, ◌==◌}
use Rattle.std.specs.List.{AllByRecursion}
use Rattle.std.proofs.lemmas.Bool.{eq-eqb, lt-ltb}
use Rattle.clr_types.specs.Ranges.{fits, Piece, piece_end, range_piece}
use Rattle.clr_types.specs.Rising.{first, IsIn, later}
use Rattle.clr_types.specs.Segments.{Layout}
use Rattle.clr_types.specs.Types.{TypeRow}
use Rattle.clr_types.specs.declared.item.Item.{Item}
use Rattle.clr_types.proofs.ChangedLists.{all_members, append_left, into_filter, IsIn-map, out_of_filter}
use Rattle.clr_types.proofs.ListMembers.{append_right, from-map, rising_same}
use Rattle.clr_types.proofs.RisingLists.{all_at}
use Rattle.clr_types.proofs.SortedLists.{into_sorted_by}
use Rattle.clr_heap.specs.Parts.{item_at, item_piece, unmarked}
use Rattle.clr_heap.specs.View.{HasItem, heap_items, HeapView, IsHeap, SameShape, word_of}
use Rattle.clr_heap.proofs.Framing.{SameShape-trans}
use Rattle.clr_heap.proofs.Rewrite.{SameShape-refl}
use Rattle.clr_heap.proofs.Spelling.{item_at-agrees}
use Rattle.clr_model.specs.Allocation.{taken_from}
use Rattle.clr_model.specs.Machine.{Object}
use Rattle.clr_model.proofs.ItemContext.{fits-more}
use Rattle.clr_view.specs.View.{free_in, IsHeld, is_object, object_in, objects_in}
use Rattle.clr_view.proofs.Bearing.{fits-is}
use Rattle.clr_view.proofs.Listed.{listed-head, listed-item, listed-spelled}
use Rattle.clr_view.proofs.Listings.{heap-rise}
use Rattle.clr_moves.specs.Objects.{moved_object}
use Rattle.clr_evacuate.specs.Carried.{CanCarry, carry_of, HasCarried}
use Rattle.clr_evacuate.specs.CarriedRun.{CanCarryRun, HasCarriedRun}
use Rattle.clr_evacuate.specs.Fittings.{AreSideBySide}
use Rattle.clr_evacuate.proofs.CarriedHeap.{carried_past}
use Rattle.clr_evacuate.proofs.CarriedRuns.{AreSteps, IsStep, part, run_carried, step_apart}
use Rattle.clr_evacuate.proofs.PassedItems.{side-up}

-- ---- runs

-- the range that is left of the item when a run has been carried up to a place
abbrev pub to_at : Piece → Piece → ℕ → ℕ
to_at plug item place = place - (plug.place - item.place)

abbrev pub left_at : Piece → Piece → ℕ → Piece
left_at plug item place = part (to_at plug item place) (piece_end item - to_at plug item place)

-- The run was carried up to a place: the objects ahead are where they were, and what is left of the item is free.
pub record IsCarrying (rows : List TypeRow) (h now : HeapView) (plug item : Piece) (place : ℕ) : Type 0 where
  pub run : List Item
  pub can : CanCarryRun rows h run plug item
  pub ahead : List Item
  pub listed : AllByRecursion (λ (i : Item). IsIn i (heap_items rows now)) ahead
  pub objects : AllByRecursion (λ (i : Item). is_object i ≡ true) ahead
  pub side_by_side : AreSideBySide place ahead (piece_end plug)
  pub free : place < piece_end plug → IsIn (left_at plug item place) (free_in rows now)
  pub within : place < piece_end plug → fits (piece_end plug - place) (piece_end item - to_at plug item place) ≡ true
  pub up : plug.place ≤ place
  pub heap : IsHeap now
  pub held : IsHeld rows now
  pub shape : SameShape h now
  pub steps : (final : HeapView) → AreSteps rows now final (to_at plug item place) (piece_end item) ahead
      → AreSteps rows h final item.place (piece_end item) run

-- a run is the only one of its range
pub one_run : (rows : List TypeRow) (h : HeapView) (is js : List Item) (p e : ℕ) → IsHeap h → IsHeld rows h
    → AllByRecursion (λ (i : Item). IsIn i (heap_items rows h)) is
    → AllByRecursion (λ (i : Item). IsIn i (heap_items rows h)) js → AreSideBySide p is e → AreSideBySide p js e
    → is ≡ js
one_run rows h [] [] p e heap held li lj si sj = refl
one_run rows h [] (j ∷ js) p e heap held li lj si sj =
    let up = side-up (p + j.size) e js sj.1 in
    let least = (listed-item rows h j heap held lj.0).least in
    absurd (omega (arith, up, least, si))
one_run rows h (i ∷ is) [] p e heap held li lj si sj =
    let up = side-up (p + i.size) e is si.1 in
    let least = (listed-item rows h i heap held li.0).least in
    absurd (omega (arith, up, least, sj))
one_run rows h (i ∷ is) (j ∷ js) p e heap held li lj si sj =
    let same : i ≡ j =
    rising_same (λ (l : Item). l.place) (heap_items rows h) i j (heap-rise rows h held.walkable heap) li.0 lj.0
    (si.0 ∙ sym sj.0) in
    let more = one_run rows h is js (p + i.size) e heap held li.1 lj.1 si.1
    (subst (λ (n : ℕ). AreSideBySide (p + n) js e) (sym (ap (λ (l : Item). l.size) same)) sj.1) in
    λ k. same k ∷ more k

-- ---- what stays while an object is carried

module _ (rows : List TypeRow) (h mid : HeapView) (i : Item) (item : Piece) (s : IsStep rows h mid i item) where
  open s use {heap, held, can, next, carried}

  -- an object above the carried one stays
  pub above_stays : (j : Item) → IsIn j (heap_items rows h) → is_object j ≡ true → i.place + i.size ≤ j.place
      → IsIn j (heap_items rows mid)
  above_stays j listed object above =
      let o : Object = object_in rows (word_of h) j in
      let there : IsIn o (objects_in rows h) =
      IsIn-map (object_in rows (word_of h)) (into_filter is_object (heap_items rows h) object listed) in
      let now : IsIn (moved_object (carry_of i item.place) o) (objects_in rows mid) =
      subst (IsIn (moved_object (carry_of i item.place) o)) (sym carried.objects)
      (into_sorted_by (λ (p : Object). p.name) (moved_object (carry_of i item.place) o)
      (map (moved_object (carry_of i item.place)) (objects_in rows h)) (IsIn-map (moved_object
      (carry_of i item.place)) there)) in
      let (k, is, among) =
      from-map (object_in rows (word_of mid)) (moved_object (carry_of i item.place) o)
      (filter is_object (heap_items rows mid)) now in
      let (object_k, listed_k) = out_of_filter is_object k (heap_items rows mid) among in
      let at : k.place ≡ j.place =
      sym (ap (λ (p : Object). p.place) is) ∙ carried_past i item.place j.place (inr above) in
      let was = (listed-spelled rows h j heap held listed).0 in
      let spelled = (listed-spelled rows mid k next carried.held listed_k).0 in
      let is_j = listed-item rows h j heap held listed in
      let z = is_j.aligned in
      let least = is_j.least in
      let apart = step_apart rows h mid i item s in
      let size = (listed-item rows h i heap held can.listed).least in
      let mt = carried.words j.place z (inr (omega (arith, apart, above, size))) (inr (omega (arith, above))) in
      let len = carried.words (j.place + 8) (omega (arith, z)) (inr (omega (arith, apart, above, size)))
      (inr (omega (arith, above))) in
      let same : k ≡ j =
      spelled ∙ ap (item_at rows (word_of mid)) at
      ∙ item_at-agrees rows (word_of h) (word_of mid) j.place (record { mt = ap unmarked mt; len = λ _. len })
      ∙ sym was in
      subst (λ (l : Item). IsIn l (heap_items rows mid)) same listed_k

-- what is left of an item of which the front was taken
left_in : (place size : ℕ) (ps : List Piece) (p : Piece) → IsIn p ps → p.place ≡ place → place + size < piece_end p
    → IsIn (part (p.place + size) (piece_end p - (p.place + size))) (taken_from place size ps)
left_in place size [] p n at more = elim n [ ]
left_in place size (q ∷ ps) p first at more =
    let hit = eq-eqb p.place place at in
    let low = lt-ltb (p.place + size) (piece_end p) (omega (arith, at, more)) in
    rw hit (rw low first)
left_in place size (q ∷ ps) p (later n) at more =
    append_right (if q.place == place then range_piece (q.place + size) (piece_end q) else q ∷ [])
    (left_in place size ps p n at more)

-- ---- the loop

module _ (rows : List TypeRow) (h : HeapView) (plug item : Piece) (heap : IsHeap h) (held : IsHeld rows h) where
  whole_item : (run : List Item) → CanCarryRun rows h run plug item → left_at plug item plug.place ≡ item
  whole_item run can =
      let lower = can.lower in
      let to : to_at plug item plug.place ≡ item.place = omega (arith, lower) in
      let size : piece_end item - to_at plug item plug.place ≡ item.size = omega (arith, lower) in
      λ k. record { place = to k; size = size k }

  pub carrying_starts : ((run : List Item) × CanCarryRun rows h run plug item)
      → IsCarrying rows h h plug item plug.place
  carrying_starts (run, can) = record {
    run = run;
    can = can;
    ahead = run;
    listed = can.listed;
    objects = can.objects;
    side_by_side = can.side_by_side;
    free = λ l. subst (λ (p : Piece). IsIn p (free_in rows h)) (sym (whole_item run can)) can.free;
    within = λ l.
        let lower = can.lower in
        let all : piece_end plug - plug.place ≡ plug.size = omega arith in
        let size : piece_end item - to_at plug item plug.place ≡ item.size = omega (arith, lower) in
        (λ k. fits (all k) (size k)) ∙ can.within;
    up = omega arith;
    heap = heap;
    held = held;
    shape = SameShape-refl h;
    steps = λ final s.
        subst (λ (n : ℕ). AreSteps rows h final n (piece_end item) run)
        (ap (λ (p : Piece). p.place) (whole_item run can)) s;
  }

-- the object at a place that the loop came to, and what is left of the item
pub record IsNext (rows : List TypeRow) (now : HeapView) (place end : ℕ) (item : Piece) : Type 0 where
  pub head : HasItem rows now place
  pub can : CanCarry rows now (item_at rows (word_of now) place) item
  pub least : 24 ≤ (item_at rows (word_of now) place).size
  pub ends : place + (item_at rows (word_of now) place).size ≤ end

-- objects side by side fill nothing, or at least the room of one
ends_or : (rows : List TypeRow) (h : HeapView) (is : List Item) (p e : ℕ) → IsHeap h → IsHeld rows h
    → AllByRecursion (λ (i : Item). IsIn i (heap_items rows h)) is → AreSideBySide p is e
    → (p ≡ e) ⊎ (p + 24 ≤ e)
ends_or rows h [] p e heap held listed side = inl side
ends_or rows h (i ∷ is) p e heap held listed side =
    let least = (listed-item rows h i heap held listed.0).least in
    let up = side-up (p + i.size) e is side.1 in
    inr (omega (arith, least, up))

-- and none begins below where they begin
side_above : (is : List Item) (p e : ℕ) → AreSideBySide p is e → (i : Item) → IsIn i is → p ≤ i.place
side_above [] p e side i n = absurd (elim n [ ])
side_above (j ∷ is) p e side i first = (let at = side.0 in omega (arith, at))
side_above (j ∷ is) p e side i (later n) = (let more = side_above is (p + j.size) e side.1 i n in omega (arith, more))

module _ (rows : List TypeRow) (h now : HeapView) (plug item : Piece) (place : ℕ)
    (c : IsCarrying rows h now plug item place) (below : place < piece_end plug) where
  open c use {ahead, heap, held}

  lower : item.place < plug.place
  lower = c.can.lower

  -- the item has room for what is ahead
  room : piece_end plug - place ≤ piece_end item - to_at plug item place
  room = elim (fits-is (piece_end plug - place) (piece_end item - to_at plug item place) (c.within below))
      [ inl l ↦ omega (arith, l) | inr l ↦ omega (arith, l) ]

  next_is : (is : List Item) → AllByRecursion (λ (i : Item). IsIn i (heap_items rows now)) is
      → AllByRecursion (λ (i : Item). is_object i ≡ true) is → AreSideBySide place is (piece_end plug)
      → IsNext rows now place (piece_end plug) (left_at plug item place)
  next_is [] listed objects side = absurd (let e : place ≡ piece_end plug = side in omega (arith, e, below))
  next_is (i ∷ is) listed objects side =
      let at : i.place ≡ place = side.0 in
      let same : i ≡ item_at rows (word_of now) place =
      (listed-spelled rows now i heap held listed.0).0 ∙ ap (item_at rows (word_of now)) at in
      let low = lower in
      let up = c.up in
      let enough = room in
      let least = (listed-item rows now i heap held listed.0).least in
      let rest = side-up (place + i.size) (piece_end plug) is side.1 in
      record {
        head = subst (HasItem rows now) at (listed-head rows now i heap held listed.0);
        can = subst (λ (j : Item). CanCarry rows now j (left_at plug item place)) same (record {
          listed = listed.0;
          object = objects.0;
          free = c.free below;
          lower = omega (arith, at, low, up);
          within = elim (ends_or rows now is (place + i.size) (piece_end plug) heap held listed.1 side.1) [
            | inl e ↦
                let all : piece_end plug - place ≡ i.size = omega (arith, e) in
                subst (λ (n : ℕ). fits n (piece_end item - to_at plug item place) ≡ true) all (c.within below)
            | inr more ↦
                fits-more i.size (piece_end item - to_at plug item place) (omega (arith, more, enough))
          ];
        });
        least = subst (λ (j : Item). 24 ≤ j.size) same least;
        ends = subst (λ (j : Item). place + j.size ≤ piece_end plug) same rest;
      }

  pub next_there : IsNext rows now place (piece_end plug) (left_at plug item place)
  next_there = next_is ahead c.listed c.objects c.side_by_side

  -- the item's rest begins in the item
  pub to_within : to_at plug item place ≤ piece_end item
  to_within = (let enough = room in omega (arith, enough, below))

  module _ (new : HeapView) (next : IsHeap new) where
    abbrev to : ℕ
    to = to_at plug item place

    abbrev high : ℕ
    high = piece_end item

    go : (i : Item) (is : List Item) → AllByRecursion (λ (j : Item). IsIn j (heap_items rows now)) (i ∷ is)
        → AllByRecursion (λ (j : Item). is_object j ≡ true) (i ∷ is) → AreSideBySide place (i ∷ is) (piece_end plug)
        → ((final : HeapView) → AreSteps rows now final to high (i ∷ is)
        → AreSteps rows h final item.place high c.run)
        → CanCarry rows now i (left_at plug item place) → HasCarried rows now new i (left_at plug item place)
        → IsCarrying rows h new plug item (place + i.size)
    go i is listed objects side steps can done =
        let step : IsStep rows now new i (left_at plug item place) =
        record { heap = heap; held = held; can = can; next = next; carried = done } in
        let at : i.place ≡ place = side.0 in
        let low = lower in
        let up = c.up in
        let enough = room in
        let within_item = to_within in
        let on : to + i.size ≡ to_at plug item (place + i.size) = omega (arith, low, up) in
        record {
          run = c.run;
          can = c.can;
          ahead = is;
          listed = all_members (λ (j : Item). IsIn j (heap_items rows new)) is (λ j n.
              let above = side_above is (place + i.size) (piece_end plug) side.1 j n in
              above_stays rows now new i (left_at plug item place) step j
              (all_at (λ (k : Item). IsIn k (heap_items rows now)) n listed.1)
              (all_at (λ (k : Item). is_object k ≡ true) n objects.1) (omega (arith, above, at)));
          objects = objects.1;
          side_by_side = side.1;
          free = λ more.
              let size : (to + (high - to)) - (to + i.size) ≡ high - to_at plug item (place + i.size) =
              omega (arith, low, up, within_item) in
              subst (λ (p : Piece). IsIn p (free_in rows new)) (λ k. record { place = on k; size = size k })
              (subst (IsIn (part (to + i.size) ((to + (high - to)) - (to + i.size))))
              (sym (ap (λ (l : Layout). l.free) done.layout))
              (into_sorted_by (λ (p : Piece). p.place) (part (to + i.size) ((to + (high - to)) - (to + i.size)))
              (taken_from to i.size (free_in rows now) ++ item_piece i ∷ [])
              (append_left (item_piece i ∷ [])
              (left_in to i.size (free_in rows now) (left_at plug item place) (c.free below) refl
              (omega (arith, more, enough))))));
          within = λ more. elim
              (fits-is (piece_end plug - place) (piece_end item - to_at plug item place) (c.within below)) [
                | inl same ↦
                    let n : piece_end plug - (place + i.size) ≡ piece_end item - to_at plug item (place + i.size) =
                    omega (arith, same, more, low, up) in
                    let hit = eq-eqb (piece_end plug - (place + i.size))
                    (piece_end item - to_at plug item (place + i.size)) n in
                    rw hit refl
                | inr over ↦
                    fits-more (piece_end plug - (place + i.size)) (piece_end item - to_at plug item (place + i.size))
                    (omega (arith, over, more, low, up))
              ];
          up = omega (arith, up);
          heap = next;
          held = done.held;
          shape = SameShape-trans h now new c.shape done.shape;
          steps = λ final s. steps final
              (new, step, subst (λ (n : ℕ). AreSteps rows new final n high is) (sym on) s);
        }

    abbrev found : Item
    found = item_at rows (word_of now) place

    by : (is : List Item) → AllByRecursion (λ (j : Item). IsIn j (heap_items rows now)) is
        → AllByRecursion (λ (j : Item). is_object j ≡ true) is → AreSideBySide place is (piece_end plug)
        → ((final : HeapView) → AreSteps rows now final to high is
        → AreSteps rows h final item.place high c.run)
        → CanCarry rows now found (left_at plug item place) → HasCarried rows now new found (left_at plug item place)
        → IsCarrying rows h new plug item (place + found.size)
    by [] listed objects side steps can done = absurd (let e : place ≡ piece_end plug = side in omega (arith, e, below))
    by (i ∷ is) listed objects side steps can done =
        let same : i ≡ found =
        (listed-spelled rows now i heap held listed.0).0 ∙ ap (item_at rows (word_of now)) side.0 in
        subst (λ (j : Item). IsCarrying rows h new plug item (place + j.size)) same
        (go i is listed objects side steps
        (subst (λ (j : Item). CanCarry rows now j (left_at plug item place)) (sym same) can)
        (subst (λ (j : Item). HasCarried rows now new j (left_at plug item place)) (sym same) done))

    pub carrying_on : HasCarried rows now new found (left_at plug item place)
        → IsCarrying rows h new plug item (place + found.size)
    carrying_on done = by ahead c.listed c.objects c.side_by_side c.steps next_there.can done

-- THE RUN was carried where the loop ends
pub run_done : (rows : List TypeRow) (h now : HeapView) (plug item : Piece) (place : ℕ) → IsHeap h → IsHeld rows h
    → IsCarrying rows h now plug item place → piece_end plug ≤ place → (run : List Item)
    → CanCarryRun rows h run plug item → HasCarriedRun rows h now run plug item
run_done rows h now plug item place heap held c past run can =
    let same : c.run ≡ run =
    one_run rows h c.run run plug.place (piece_end plug) heap held c.can.listed can.listed c.can.side_by_side
    can.side_by_side in
    by run can (subst (AreSteps rows h now item.place (piece_end item)) same
    (c.steps now (ended c.ahead c.listed c.side_by_side)))
  where
    ended : (is : List Item) → AllByRecursion (λ (j : Item). IsIn j (heap_items rows now)) is
        → AreSideBySide place is (piece_end plug) → AreSteps rows now now (to_at plug item place) (piece_end item) is
    ended [] listed side = refl
    ended (i ∷ is) listed side =
        let up = side-up (place + i.size) (piece_end plug) is side.1 in
        let least = (listed-item rows now i c.heap c.held listed.0).least in
        absurd (omega (arith, up, least, past))

    by : (is : List Item) → CanCarryRun rows h is plug item → AreSteps rows h now item.place (piece_end item) is
        → HasCarriedRun rows h now is plug item
    by [] asked steps = absurd (let e : plug.place ≡ piece_end plug = asked.side_by_side in let least = asked.least in
        omega (arith, e, least))
    by (i ∷ is) asked steps =
        let at : i.place ≡ plug.place = asked.side_by_side.0 in
        let size : piece_end item - item.place ≡ item.size = omega arith in
        let enough : plug.size ≤ item.size = elim (fits-is plug.size item.size asked.within)
        [ inl l ↦ omega (arith, l) | inr l ↦ omega (arith, l) ] in
        subst (λ (n : ℕ). HasCarriedRun rows h now (i ∷ is) plug (part item.place n)) size
        (subst (λ (q : ℕ). HasCarriedRun rows h now (i ∷ is) (part q plug.size)
        (part item.place (piece_end item - item.place))) at
        (run_carried rows h now item.place (piece_end item) i is plug.size steps
        (subst (λ (q : ℕ). AreSideBySide q (i ∷ is) (q + plug.size)) (sym at) asked.side_by_side)
        (omega (arith, enough))))
