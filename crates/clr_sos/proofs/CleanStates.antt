-- Nothing is wrong with what a runtime shows between lines.
use Rattle.std.proofs.Common.{◌≡◌, ℕ, suc, ◌+◌, ◌<◌, ◌≤◌, ◌&&◌, ◌⊎◌, nat_lt, nat_le, if◌then◌else◌, IfSome, Bool, true}
use Rattle.std.proofs.Common.{false, List, [], ◌∷◌, ◌++◌, filter, map, length, get_or, Option, Some, None, refl, sym}
use Rattle.std.proofs.Common.{◌∙◌, ap, ap₂, subst, arith, inl, inr, not}
use Rattle.std.specs.List.{AllByRecursion}
use Rattle.std.proofs.lemmas.Bool.{cases_Bool}
use Rattle.std.proofs.lemmas.Bool.{both_ways, cases_Bool}
use Rattle.clr_types.specs.LawfulLayout.{DoesNotCross}
use Rattle.clr_types.specs.Ranges.{Piece, piece_end}
use Rattle.clr_types.specs.Rising.{IsIn}
use Rattle.clr_types.specs.Segments.{empty_segment, ephemeral, first_place, Layout, rest_pieces, same_kind, segment_of}
use Rattle.clr_types.specs.Types.{form_at, is_bytes, size_of, slots_of, TypeRow}
use Rattle.clr_types.specs.Descriptors.{reference_offsets}
use Rattle.clr_types.specs.declared.item.Item.{Item}
use Rattle.clr_types.specs.declared.segment.SegInfo.{SegInfo}
use Rattle.clr_types.specs.declared.segment.SegKind.{SegKind}
use Rattle.clr_types.specs.declared.segment.SegKind.TheVariants.{Small, Ephemeral, Large, Pinned}
use Rattle.clr_types.specs.declared.shape.Slot.{Slot}
use Rattle.clr_types.proofs.ChangedLists.{append_left, into_filter, IsIn-map, out_of_filter}
use Rattle.clr_types.proofs.ListMembers.{append_right, from-map}
use Rattle.clr_types.proofs.RisingLists.{all_at}
use Rattle.clr_types.proofs.SegmentFacts.{between-stands, segment_of-home}
use Rattle.clr_types.proofs.SlotsByForm.{bytes_offsets}
use Rattle.clr_types.proofs.SortedLists.{into_sorted_by}
use Rattle.clr_heap.specs.Parts.{Among, item_part, item_piece, Part, part_end, rest_part, Sight, Spells, start_of}
use Rattle.clr_heap.specs.View.{first_of, frame, heap_items, HeapView, holes_of, IsHeap, last_of, listing, parts_of}
use Rattle.clr_heap.specs.View.{segment_at, sight, word_of}
use Rattle.clr_heap.proofs.Framing.{lawful_at}
use Rattle.clr_heap.proofs.Holes.{hole_among}
use Rattle.clr_heap.proofs.Spelling.{Among-bounds, item_size}
use Rattle.clr_model.proofs.CollectedFree.{from_part}
use Rattle.clr_model.specs.Lawful.{IsLawful, IsNullOrPresent, SlotIsPresent, Suits, SuitsItsSegment}
use Rattle.clr_model.specs.Lookups.{object_piece, pieces}
use Rattle.clr_model.specs.Machine.{Machine, Object, ref, Value}
use Rattle.clr_view.proofs.Standing.{listed_from}
use Rattle.clr_view.specs.World.{IsNullOrStands}
use Rattle.clr_view.specs.View.{is_free, is_object, layout_in, object_in, objects_in, slot_value, word_value}
use Rattle.clr_view.proofs.Listed.{listed-sized, part-among}
use Rattle.clr_view.proofs.StoredSlots.{bytes-form, value-is}
use Rattle.clr_view.proofs.Tails.{found-young, only-young}
use Rattle.clr_generations.proofs.FoundItems.{in-at}
use Rattle.clr_sos.specs.CheckedCells.{begins_in, may_hold}
use Rattle.clr_sos.specs.declared.view.View.{View}
use Rattle.clr_sos.specs.Faultless.{HasBounds, IsFaultless, IsWellPlaced}
use Rattle.clr_sos.specs.CellScans.{suits_object}
use Rattle.clr_sos.specs.CleanStates.{IsCleanState}
use Rattle.clr_sos.specs.Faults.{addresses, AreInside, is_young, item_addresses}
use Rattle.clr_sos.proofs.NamedPlaces.{present-stands}
use Rattle.clr_sos.proofs.WalkedItems.{walked_is}

-- a part of rests apart from an item's
rest_apart : (s : Sight) (ps : List Part) (i : Item) (low high p e : ℕ) → Spells s p ps e → Among ps (item_part i)
    → Among ps (rest_part low high) → (low < i.place) ⊎ (i.place + i.size ≤ low)
rest_apart s [] i low high p e h m n = absurd m
rest_apart s (item_part j ∷ ps) i low high p e h m n = elim n [
  | inl wrong ↦ absurd cc
  | inr rest ↦ elim m [
    | inl here ↦
        let bounds = Among-bounds s ps (rest_part low high) (p + j.size) e h.3 rest in
        let size = item_size s j p h.1 h.2 in
        let at = size.2 in
        let place : i.place ≡ j.place = ap start_of here in
        let end : i.place + i.size ≡ j.place + j.size = ap part_end here in
        let from = bounds.0 in
        inr (omega (arith, at, end, from))
    | inr more ↦ rest_apart s ps i low high (p + j.size) e h.3 more rest
  ]
]
rest_apart s (rest_part from to ∷ ps) i low high p e h m n = elim m [
  | inl wrong ↦ absurd cc
  | inr more ↦ elim n [
    | inl here ↦
        let bounds = Among-bounds s ps (item_part i) to e h.4 more in
        let at = h.0 in
        let up = h.2 in
        let place : low ≡ from = ap start_of here in
        let above = bounds.0 in
        inl (omega (arith, at, up, place, above))
    | inr rest ↦ rest_apart s ps i low high to e h.4 more rest
  ]
]

-- holes that all lie apart from a range don't begin in it
none_begins : (holes : List (Option Piece)) (p e : ℕ)
    → ((n : ℕ) (r : Piece) → get_or holes n None ≡ Some r → (r.place < p) ⊎ (e ≤ r.place)) → begins_in holes p e ≡ false
none_begins [] p e apart = refl
none_begins (None ∷ holes) p e apart = none_begins holes p e (λ n r is. apart (suc n) r is)
none_begins (Some hole ∷ holes) p e apart =
    let here : (nat_le p hole.place && nat_lt hole.place e) ≡ false =
    elim (apart 0 hole refl) [ inl low ↦ grind (arith, low) | inr high ↦ grind (arith, high) ] in
    rw here (none_begins holes p e (λ n r is. apart (suc n) r is))

young_kind : (kind : SegKind) → same_kind kind Ephemeral ≡ true → kind ≡ Ephemeral
young_kind Small e = absurd cc
young_kind Ephemeral e = refl
young_kind Large e = absurd cc
young_kind Pinned e = absurd cc

is_bytes_free : (rows : List TypeRow) (t : ℕ) → t ≡ 0 → is_bytes (form_at rows t) ≡ true
is_bytes_free rows t e = ap (λ (n : ℕ). is_bytes (form_at rows n)) e

-- the machine with these types, objects, places and locals
abbrev with_parts : Machine → List TypeRow → List Object → Layout → List ℕ → Machine
with_parts m types objects layout locals =
    record m { types = types; objects = objects; layout = layout; locals = locals }

-- where they are its own
told : (m : Machine) (types : List TypeRow) (objects : List Object) (layout : Layout) (locals : List ℕ)
    → m.types ≡ types → m.objects ≡ objects → m.layout ≡ layout → m.locals ≡ locals → IsLawful m
    → IsLawful (with_parts m types objects layout locals)
told m types objects layout locals a b c d lawful =
    subst (λ (x : List TypeRow). IsLawful (with_parts m x objects layout locals)) a
    (subst (λ (x : List Object). IsLawful (with_parts m m.types x layout locals)) b
    (subst (λ (x : Layout). IsLawful (with_parts m m.types m.objects x locals)) c
    (subst (λ (x : List ℕ). IsLawful (with_parts m m.types m.objects m.layout x)) d lawful)))

module _ (v : View) (machine : Machine) (heap : IsHeap v.heap.now) (s : IsCleanState v machine) where
  abbrev rows : List TypeRow
  rows = v.types.now

  abbrev h : HeapView
  h = v.heap.now

  abbrev locals : List ℕ
  locals = v.locals.now

  abbrev m : Machine
  m = with_parts machine rows (objects_in rows h) (layout_in rows h) locals

  abbrev lawful : IsLawful m
  lawful =
      told machine rows (objects_in rows h) (layout_in rows h) locals s.seen.types s.seen.objects s.seen.layout
      s.seen.locals s.sound.lawful

  abbrev items : List Item
  items = heap_items rows h

  object_listed : (i : Item) → IsIn i items → is_object i ≡ true
      → IsIn (object_in rows (word_of h) i) (objects_in rows h)
  object_listed i l o = IsIn-map (object_in rows (word_of h)) (into_filter is_object items o l)

  -- ---- names

  reference_ok : (a : ℕ) → IsIn a (addresses rows items) → IsNullOrStands rows h (word_of h a)
  reference_ok a l =
      let home = from_part (item_addresses rows) items a l in
      let i : Item = home.0 in
      let form = form_at rows i.type_id.0 in
      let offset = from-map (λ (o : ℕ). i.place + o) a (reference_offsets form i.len) home.2 in
      elim (cases_Bool (is_bytes form)) [
        | inl bytes ↦
            elim (subst (λ (os : List ℕ). IsIn offset.0 os)
            (sym (bytes_offsets form i.len (bytes-form form bytes))) offset.2) [ ]
        | inr words ↦
            let found =
            from-map (λ (t : Slot). t.offset) offset.0
            (filter (λ (t : Slot). t.reference) (slots_of form i.len)) offset.2 in
            let slot : Slot = found.0 in
            let passed = out_of_filter (λ (t : Slot). t.reference) slot (slots_of form i.len) found.2 in
            let value : slot_value form (word_of h) i.place slot ≡ ref (word_of h a) =
            value-is form (word_of h) slot.reference (i.place + slot.offset) words
            ∙ ap (λ (kind : Bool). word_value kind (word_of h (i.place + slot.offset))) passed.0
            ∙ ap (λ (n : ℕ). ref (word_of h (i.place + n))) (sym found.1)
            ∙ ap (λ (n : ℕ). ref (word_of h n)) (sym offset.1) in
            let object : is_object i ≡ true = elim (cases_Bool (is_object i)) [
              | inl on ↦ on
              | inr off ↦
                  let type : i.type_id.0 ≡ 0 = grind (arith, off) in
                  absurd (both_ways (is_bytes form) words (is_bytes_free rows i.type_id.0 type))
            ] in
            let slots =
            all_at (λ (o : Object). AllByRecursion (SlotIsPresent m) o.slots)
            (object_listed i home.1 object) lawful.names.slots in
            let own : IsIn (ref (word_of h a)) (object_in rows (word_of h) i).slots =
            subst (λ (v : Value). IsIn v (object_in rows (word_of h) i).slots) value
            (IsIn-map (slot_value form (word_of h) i.place) passed.1) in
            present-stands rows h (word_of h a) (all_at (SlotIsPresent m) own slots)
      ]

  local_ok : (x : ℕ) → IsIn x locals → IsNullOrStands rows h x
  local_ok x l = present-stands rows h x (all_at (IsNullOrPresent m) l lawful.names.locals)

  -- ---- the layout

  young_is : (k : ℕ) → k < length h.segments → is_young h k ≡ true → segment_at h k ≡ ephemeral (frame h)
  young_is k l young =
      let found = found-young h heap in
      let same = only-young h found.0 heap found.1 k l (young_kind (segment_at h k).kind young) in
      ap (segment_at h) same ∙ found.1.is

  bounds : (k : ℕ) → k < length h.segments → is_young h k ≡ true → HasBounds h k
  bounds k l young =
      let is = young_is k l young in
      let layout = lawful.laid.layout in
      let first' = ap first_place is in
      let end = ap (λ (g : SegInfo). g.end) is in
      let a = layout.start1_low in
      let b = layout.start0_high in
      record {
        aligned = layout.aligned;
        low = omega (arith, first', a);
        middle = layout.start1_high;
        high = omega (arith, end, b);
      }

  piece_listed : (i : Item) → IsIn i items → IsIn (item_piece i) (pieces m)
  piece_listed i l =
      into_sorted_by (λ (p : Piece). p.place) (item_piece i)
      ((map (object_piece rows) (objects_in rows h) ++ m.layout.free) ++ rest_pieces m.layout.rests)
      (append_left (rest_pieces m.layout.rests) (elim (cases_Bool (is_object i)) [
        | inl object ↦
            let sized = listed-sized rows h i heap s.held l in
            let same : object_piece rows (object_in rows (word_of h) i) ≡ item_piece i =
            ap (λ (n : ℕ). let p : Piece = record { place = i.place; size = n } in p) (sym sized) in
            append_left m.layout.free
            (subst (λ (p : Piece). IsIn p (map (object_piece rows) (objects_in rows h))) same
            (IsIn-map (object_piece rows) (object_listed i l object)))
        | inr other ↦
            let free : is_free i ≡ true = grind (arith, other) in
            append_right (map (object_piece rows) (objects_in rows h))
            (IsIn-map item_piece (into_filter is_free items free l))
      ]))

  apart : (k : ℕ) (i : Item) → k < length h.segments → IsIn i (listing rows h k)
      → begins_in (holes_of h k) i.place (i.place + i.size) ≡ false
  apart k i l listed = go (segment_at h k).kind refl
    where
      go : (kind : SegKind) → (segment_at h k).kind ≡ kind
          → begins_in (if same_kind kind Ephemeral then h.rests else []) i.place (i.place + i.size) ≡ false
      go Small e = refl
      go Large e = refl
      go Pinned e = refl
      go Ephemeral e = none_begins h.rests i.place (i.place + i.size) (λ n r is.
          let context = s.held.contexts n r is in
          rest_apart (sight rows h k) (parts_of rows h k) i r.place (piece_end r) (first_of h k) (last_of h k)
          (s.held.walkable k l).spelled (part-among (parts_of rows h k) i listed) (context.among k l e))

  suited : (kind : SegKind) (o : Object) (size : ℕ) → size ≡ size_of (form_at rows o.type) o.len → Suits m o kind
      → suits_object v.large kind size ≡ true
  suited Small o size e l = let g = s.large in grind (arith, e, l, g)
  suited Ephemeral o size e l = let g = s.large in grind (arith, e, l, g)
  suited Large o size e l = let g = s.large in grind (arith, e, l, g)
  suited Pinned o size e l = refl

  -- a free item has the form of bytes, and an object that suits a pinned segment is an array without references
  free_held : (kind : SegKind) (t : ℕ) → t ≡ 0 → may_hold kind (form_at rows t) ≡ true
  free_held Small t e = refl
  free_held Ephemeral t e = refl
  free_held Large t e = refl
  free_held Pinned t e = ap (λ (n : ℕ). may_hold Pinned (form_at rows n)) e

  object_held : (kind : SegKind) (o : Object) → Suits m o kind → may_hold kind (form_at rows o.type) ≡ true
  object_held Small o l = refl
  object_held Ephemeral o l = refl
  object_held Large o l = refl
  object_held Pinned o l = ap₂ (λ (a b : Bool). a && not b) l.0 l.1

  placed : (k : ℕ) (i : Item) → k < length h.segments → IsIn i (listing rows h k) → IsWellPlaced rows v.large h k i
  placed k i l listed =
      let all = listed_from rows h k i l listed in
      let piece = piece_listed i all in
      let is = walked_is rows h k i s.held.walkable l listed in
      let own = lawful_at h k heap l in
      let above = is.above in
      let below = is.below in
      let least = is.least in
      let up = own.high in
      let home : segment_of m.layout i.place ≡ Some (segment_at h k) =
      segment_of-home m.layout lawful.laid.layout (segment_at h k) i.place (in-at h.segments k empty_segment l)
      (between-stands (segment_at h k) i.place above (omega arith)) in
      let o = object_in rows (word_of h) i in
      let fits : is_object i ≡ true → Suits m o (segment_at h k).kind =
      λ object. subst (λ (x : Option SegInfo). IfSome x (λ (g : SegInfo). Suits m o g.kind)) home
      (all_at (SuitsItsSegment m) (object_listed i all object) lawful.suited) in
      record {
        old = λ young. all_at (DoesNotCross h.start1) piece lawful.laid.whole1;
        young = λ young. all_at (DoesNotCross h.start0) piece lawful.laid.whole0;
        apart = apart k i l listed;
        held = elim (cases_Bool (is_object i)) [
          | inl object ↦ object_held (segment_at h k).kind o (fits object)
          | inr free ↦ free_held (segment_at h k).kind i.type_id.0 (grind (arith, free))
        ];
        suits = λ object.
            suited (segment_at h k).kind o i.size (listed-sized rows h i heap s.held all) (fits object);
      }

  inside : AreInside h
  inside n k r is l young =
      let context = s.held.contexts n r is in
      let walk = s.held.walkable k l in
      let among = context.among k l young in
      let hole =
      hole_among (sight rows h k) (parts_of rows h k) r.place (piece_end r) (first_of h k)
      (last_of h k) walk.spelled among in
      let bounds =
      Among-bounds (sight rows h k) (parts_of rows h k) (rest_part r.place (piece_end r)) (first_of h k)
      (last_of h k) walk.spelled among in
      let least = hole.least in
      record { above = bounds.0; below = bounds.1; least = omega arith; aligned = hole.whole }

  pub clean_state_is_faultless : AreInside h × IsFaultless rows v.large h locals
  clean_state_is_faultless = (
    inside,
    record {
      walkable = s.held.walkable;
      bounds = bounds;
      placed = placed;
      clean = s.clean;
      unmarked = s.unmarked;
      free_heads = s.free_heads;
      references = reference_ok;
      locals_named = local_ok;
    },
  )
