-- A type more leaves what the words of a heap hold.
use Rattle.std.proofs.Common.{if◌then◌else◌, ◌≡◌, ℕ, zero, suc, ◌+◌, ◌-◌, ◌<◌, ◌≤◌, Bool, true, false, List, [], ◌∷◌}
use Rattle.std.proofs.Common.{◌++◌, filter, length, map, refl, ap, sym, ◌∙◌, subst, arith, length-append}
use Rattle.std.specs.Prelude.{slice_get}
use Rattle.std.specs.List.{AllByRecursion}
use Rattle.clr_types.specs.Types.{TypeRow, Form, form_at, form_of_row, is_array, size_of, slots_of, type_row}
use Rattle.clr_types.specs.Rising.{IsIn}
use Rattle.clr_types.specs.declared.item.Item.{Item}
use Rattle.clr_types.proofs.ChangedLists.{all_imply}
use Rattle.clr_types.proofs.RisingLists.{all_at}
use Rattle.clr_heap.specs.Parts.{Among, item_at, item_part, items_in, length_at, NamesItem, Part, rest_part, Sight}
use Rattle.clr_heap.specs.Parts.{Spells, type_number}
use Rattle.clr_types.specs.Ranges.{Piece, piece_end}
use Rattle.clr_heap.specs.View.{AreWalkable, first_of, frame, heap_items, HeapView, holes_of, IsWalkable, last_of}
use Rattle.clr_heap.specs.View.{listing, parts_of, PartsAre, sight, word_of}
use Rattle.clr_heap.proofs.Staying.{parts_from}
use Rattle.clr_view.specs.View.{free_among, free_in, IsHeld, is_object, has_suppressed_bit, layout_in, object_in}
use Rattle.clr_view.specs.View.{objects_among, objects_in, slot_value}
use Rattle.clr_view.proofs.Items.{IsItem}
use Rattle.clr_view.proofs.Listings.{listing-are, listings-agree, listings-all, objects-agree}

slice_get-left : {X : Type 0} (xs ys : List X) (i : ℕ) → i < length xs → slice_get (xs ++ ys) i ≡ slice_get xs i
slice_get-left [] ys i l = absurd (omega arith)
slice_get-left (x ∷ xs) ys zero l = refl
slice_get-left (x ∷ xs) ys (suc i) l = slice_get-left xs ys i (omega arith)

module _ (rows : List TypeRow) (row : TypeRow) where
  abbrev grown : List TypeRow
  grown = rows ++ row ∷ []

  -- a type that there was stays
  pub row-stays : (t : ℕ) → t ≤ length rows → type_row grown t ≡ type_row rows t
  row-stays zero l = refl
  row-stays (suc t) l = slice_get-left rows (row ∷ []) t (omega arith)

  -- and has the form that it had
  pub form-stays : (t : ℕ) → t ≤ length rows → form_at grown t ≡ form_at rows t
  form-stays t l = ap form_of_row (row-stays t l)

  length-stays : (word : ℕ → ℕ) (p : ℕ) → type_number (word p) ≤ length rows
      → length_at grown word p ≡ length_at rows word p
  unfolding length_at
  length-stays word p l =
      ap (λ (form : Form). if is_array form then word (p + 8) else 0) (form-stays (type_number (word p)) l)

  item-stays : (word : ℕ → ℕ) (p : ℕ) → type_number (word p) ≤ length rows → item_at grown word p ≡ item_at rows word p
  unfolding item_at
  item-stays word p l =
      let form = form-stays (type_number (word p)) l in
      let len = length-stays word p l in
      λ i. record {
        place = p;
        size = size_of (form i) (len i);
        type_id = record { 0 = type_number (word p) };
        len = len i;
      }

  names-stays : (word : ℕ → ℕ) (p : ℕ) → NamesItem rows word p → NamesItem grown word p
  names-stays word p n =
      let same = item-stays word p n.known in
      let known = n.known in
      let count = length-append rows (row ∷ []) in
      record {
        known = omega arith;
        mt = n.mt;
        least = rw same n.least;
        most = rw same n.most;
        whole = rw same n.whole;
        free = n.free;
      }

  abbrev wider_sight : Sight → Sight
  wider_sight s = record s { rows = grown }

  spells-stays : (s : Sight) (ps : List Part) (p e : ℕ) → s.rows ≡ rows → Spells s p ps e
      → Spells (wider_sight s) p ps e
  spells-stays s [] p e is h = h
  spells-stays s (item_part i ∷ ps) p e is h =
      let names : NamesItem rows s.word p = subst (λ rs. NamesItem rs s.word p) is h.2 in (
        h.0,
        h.1 ∙ ap (λ (rs : List TypeRow). item_at rs s.word p) is
            ∙ sym (item-stays s.word p names.known),
        names-stays s.word p names,
        spells-stays s ps (p + i.size) e is h.3,
      )
  spells-stays s (rest_part low high ∷ ps) p e is h = (h.0, h.1, h.2, h.3, spells-stays s ps high e is h.4)

  -- the parts of each segment stay
  pub parts-stay : (h : HeapView) (k : ℕ) → IsWalkable rows h k → PartsAre grown h k (parts_of rows h k)
  parts-stay h k w =
      parts_from grown h k (parts_of rows h k) (holes_of h k) (first_of h k) (last_of h k) refl refl refl w.start
      (spells-stays (sight rows h k) (parts_of rows h k) (first_of h k) (last_of h k) refl w.spelled) w.held

  object-named : (word : ℕ → ℕ) (low high : ℕ) (i : Item) → IsItem rows low high i
      → object_in grown word i ≡ object_in rows word i
  object-named word low high i is =
      ap (λ (form : Form). record {
        name = i.place;
        place = i.place;
        type = i.type_id.0;
        len = i.len;
        slots = map (slot_value form word i.place) (slots_of form i.len);
        suppressed = has_suppressed_bit (word (i.place - 8));
      }) (form-stays i.type_id.0 is.known)

  objects-named : (word : ℕ → ℕ) (low high : ℕ) (items : List Item) → AllByRecursion (IsItem rows low high) items
      → objects_among grown word items ≡ objects_among rows word items
  objects-named word low high [] all = refl
  objects-named word low high (i ∷ items) all =
      go (is_object i) (object-named word low high i all.0) (objects-named word low high items all.1)
    where
      go : (b : Bool) → object_in grown word i ≡ object_in rows word i
          → objects_among grown word items ≡ objects_among rows word items
          → map (object_in grown word) (if b then i ∷ filter is_object items else filter is_object items) ≡ map
          (object_in rows word) (if b then i ∷ filter is_object items else filter is_object items)
      go true here rest = λ k. here k ∷ rest k
      go false here rest = rest

  module _ (h : HeapView) (walkable : AreWalkable rows h) where
    listing-stays : (j : ℕ) → j < length h.segments → listing grown h j ≡ listing rows h j
    listing-stays j l = ap items_in (parts-stay h j (walkable j l)).parts

    pub items-stay : heap_items grown h ≡ heap_items rows h
    items-stay = listings-agree rows grown h h 0 (length h.segments) (λ j low high. listing-stays j (omega arith))

    -- each of a type that there was
    pub item-known : (i : Item) → IsIn i (heap_items rows h) → i.type_id.0 ≤ length rows
    item-known i l =
        let P : Item → Type 0 = λ x. x.type_id.0 ≤ length rows in
        all_at P l (listings-all rows h walkable P 0 (length h.segments) (λ m low high.
        all_imply (IsItem rows (first_of h m) (last_of h m)) P (listing rows h m) (λ x is. is.known)
        (listing-are rows h walkable m (omega arith))))

    -- the same objects
    pub objects_with_type : objects_in grown h ≡ objects_in rows h
    objects_with_type =
        ap (objects_among grown (word_of h)) items-stay
        ∙ objects-agree rows grown (word_of h) (word_of h) h 0 (length h.segments)
        (λ j low high. objects-named (word_of h) (first_of h j) (last_of h j) (listing rows h j)
        (listing-are rows h walkable j (omega arith)))

    -- the same free items
    pub free_with_type : free_in grown h ≡ free_in rows h
    free_with_type = ap free_among items-stay

    -- and the same layout
    pub layout_with_type : layout_in grown h ≡ layout_in rows h
    layout_with_type = ap (λ (free : List Piece). record (frame h) { free = free }) free_with_type

  -- A TYPE MORE: a heap that is held is held under the longer table
  pub held_with_type : (h : HeapView) → IsHeld rows h → IsHeld grown h
  held_with_type h held = record {
    walkable = λ j l. (parts-stay h j (held.walkable j l)).walkable;
    contexts = λ i r e.
        let context = held.contexts i r e in
        record {
          among = λ k l young. subst (λ ps. Among ps (rest_part r.place (piece_end r)))
              (sym (parts-stay h k (held.walkable k l)).parts) (context.among k l young);
          young = context.young;
          clear = context.clear;
        };
    apart = held.apart;
    young = held.young;
  }
