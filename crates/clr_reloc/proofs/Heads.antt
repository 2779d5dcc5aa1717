-- Relocation leaves the heads of items, so that the parts of each segment stay.
use Rattle.std.proofs.Common.{◌≡◌, inl, inr, ℕ, ◌+◌, ◌/◌, ◌*◌, ◌%◌, ◌<◌, ◌≤◌, true, List, [], ◌∷◌}
use Rattle.std.proofs.Common.{length}
use Rattle.std.proofs.Common.{ap, ◌∙◌, subst, arith}
use Rattle.clr_types.specs.Descriptors.{reference_offsets}
use Rattle.clr_types.specs.Rising.{first, IsIn, later}
use Rattle.clr_types.specs.Types.{form_at, is_array, slot_offset, TypeRow, Form, class_form}
use Rattle.clr_types.specs.Types.{references_form}
use Rattle.clr_types.specs.Types.{bytes_form, structs_form}
use Rattle.clr_types.specs.declared.item.Item.{Item}
use Rattle.clr_heap.specs.Parts.{item_part, items_in, Part, rest_part, Sight, type_number}
use Rattle.clr_heap.specs.View.{first_of, HasParts, heap_items, HeapView, IsHeap, last_of, listings, parts_of}
use Rattle.clr_heap.specs.View.{sight}
use Rattle.clr_heap.specs.View.{word_of}
use Rattle.clr_heap.proofs.Rewrite.{has_parts}
use Rattle.clr_heap.proofs.Spelling.{AgreesAt, AgreesOn, Spells-agrees}
use Rattle.clr_model.specs.Compaction.{Move}
use Rattle.clr_view.specs.View.{IsHeld}
use Rattle.clr_view.proofs.Listed.{type-named}
use Rattle.clr_view.proofs.Listings.{listings-agree}
use Rattle.clr_view.proofs.Standing.{listed_from, standing}
use Rattle.clr_scan.proofs.SlotScans.{slot_number}
use Rattle.clr_moves.specs.declared.condemned.Condemned.{Condemned}
use Rattle.clr_reloc.specs.References.{references_of}
use Rattle.clr_reloc.specs.Relocating.{IsLeftReference, IsUnderway}
use Rattle.clr_reloc.proofs.Cells.{left_inside, one_item}

-- heads that stay on all items
pub agrees_all : (s : Sight) (w : ℕ → ℕ) (ps : List Part)
    → ((i : Item) → IsIn i (items_in ps) → AgreesAt s.rows s.word w i.place) → AgreesOn s w ps
agrees_all s w [] each = tt
agrees_all s w (item_part i ∷ ps) each = (each i first, agrees_all s w ps (λ j l. each j (later l)))
agrees_all s w (rest_part lo hi ∷ ps) each = agrees_all s w ps each

-- references of arrays stand behind the length word
pub array_reference : (form : Form) (len offset : ℕ) → IsIn offset (reference_offsets form len)
    → is_array form ≡ true → 16 ≤ offset
array_reference form len offset l on = let n = slot_number form len offset l in go form n.0 offset on n.1.offset_is
  where
    go : (form : Form) (j o : ℕ) → is_array form ≡ true → o ≡ slot_offset form j → 16 ≤ o
    go (class_form pattern) j o e f = absurd cc
    go references_form j o e f = omega arith
    go bytes_form j o e f = omega arith
    go (structs_form pattern) j o e f = omega arith

module _ (rows : List TypeRow) (view now : HeapView) (g : Condemned) (vs : List Move) (heap : IsHeap view)
    (held : IsHeld rows view) (u : IsUnderway rows view now g vs) where
  -- a word at which no reference of what is left stands
  pub word_left : (b : ℕ) → b % 8 ≡ 0 → (IsLeftReference rows view g b → ⊥) → word_of now b ≡ word_of view b
  word_left b z none = elim (u.words b z) [ inl same ↦ same | inr r ↦ absurd (none r.0) ]

  -- a reference in an item's cell is one of the item
  pub own_reference : (i : Item) (b : ℕ) → IsIn i (heap_items rows view) → i.place ≤ b + 8 → b + 8 < i.place + i.size
      → (r : IsLeftReference rows view g b) → r.item ≡ i
  own_reference i b l low high r =
      let c = left_inside rows view heap held g b r in
      let up = c.above in
      one_item rows view heap held r.item i b r.left.listed l (omega arith) c.below low high

  -- the words before an item's slots stay
  pub head_left : (i : Item) → IsIn i (heap_items rows view) → (b : ℕ) → b % 8 ≡ 0 → i.place ≤ b + 8
      → b < i.place + 8 → word_of now b ≡ word_of view b
  head_left i l b z low high =
      let least = (standing rows view heap held i l).least in
      word_left b z (λ r.
      let same = ap (λ (k : Item). k.place) (own_reference i b l low (omega arith) r) in
      let above = (left_inside rows view heap held g b r).above in
      omega arith)

  pub agrees : (i : Item) → IsIn i (heap_items rows view) → AgreesAt rows (word_of view) (word_of now) i.place
  agrees i l =
      let s = standing rows view heap held i l in
      let z = s.aligned in
      let least = s.least in
      record {
        mt = ap (λ w. w / 2 * 2) (head_left i l i.place z (omega arith) (omega arith));
        len = λ array. word_left (i.place + 8) (omega arith) (λ r.
            let same = own_reference i (i.place + 8) l (omega arith) (omega arith) r in
            let type : type_number (word_of view i.place) ≡ i.type_id.0 =
            type-named (sight rows view s.segment) (parts_of rows view s.segment) i (first_of view s.segment)
            (last_of view s.segment) (held.walkable s.segment s.in_range).spelled s.listed in
            let array_i : is_array (form_at rows i.type_id.0) ≡ true =
            subst (λ q. is_array (form_at rows q) ≡ true) type array in
            let reference = subst (λ (k : Item). IsIn r.offset (references_of rows k)) same r.reference in
            let far = array_reference (form_at rows i.type_id.0) i.len r.offset reference array_i in
            let address : i.place + 8 ≡ i.place + r.offset =
            r.address ∙ ap (λ (k : Item). k.place + r.offset) same in
            omega arith);
      }

  pub parts_left : (t : ℕ) → t < length view.segments → HasParts rows view now t (parts_of rows view t)
  parts_left t l =
      has_parts rows view now t (parts_of rows view t) (held.walkable t l) u.shape
      (Spells-agrees (sight rows view t) (word_of now) (parts_of rows view t) (first_of view t) (last_of view t)
      (agrees_all (sight rows view t) (word_of now) (parts_of rows view t)
      (λ i n. agrees i (listed_from rows view t i l n))) (held.walkable t l).spelled)

  pub count_same : length now.segments ≡ length view.segments
  count_same = ap (λ (h : HeapView). length h.segments) u.shape.others

  pub items_same : heap_items rows now ≡ heap_items rows view
  items_same =
      ap (λ n. listings rows now 0 n) count_same
      ∙ listings-agree rows rows view now 0 (length view.segments)
      (λ j low high. ap items_in (parts_left j (omega arith)).parts)
