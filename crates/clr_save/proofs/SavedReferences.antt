-- What the references of an image name is there.
use Rattle.std.proofs.Common.{◌≡◌, ℕ, zero, suc, ◌+◌, ◌%◌, ◌≤◌, ◌<◌, ◌==◌, true, false, not, List, []}
use Rattle.std.proofs.Common.{length, map, refl, ap, sym, ◌∙◌, subst, arith, inl, inr}
use Rattle.std.specs.List.{AllByRecursion, flat_map}
use Rattle.std.proofs.lemmas.Bool.{cases_Bool, eqb-true}
use Rattle.clr_types.specs.Descriptors.{reference_offsets}
use Rattle.clr_types.specs.Rising.{IsIn}
use Rattle.clr_types.specs.Types.{bytes_form, form_at, size_of, TypeRow}
use Rattle.clr_types.specs.declared.item.Item.{Item}
use Rattle.clr_types.proofs.ChangedLists.{all_members}
use Rattle.clr_types.proofs.ListMembers.{both_all, from-map}
use Rattle.clr_types.proofs.Offsets.{inside_law}
use Rattle.clr_types.proofs.RisingLists.{all_at}
use Rattle.clr_types.proofs.SlotsByForm.{bytes_offsets}
use Rattle.clr_heap.specs.View.{heap_items, HeapView, IsHeap, listing, parts_of, word_of}
use Rattle.clr_model.proofs.CollectedFree.{from_part, into_parts}
use Rattle.clr_view.specs.View.{IsHeld}
use Rattle.clr_view.specs.World.{IsNullOrStands}
use Rattle.clr_view.proofs.Listed.{listed-item}
use Rattle.clr_view.proofs.Standing.{listed_from}
use Rattle.clr_sos.specs.Faults.{addresses, is_name, item_addresses}
use Rattle.clr_format.specs.declared.head.Head.{Head}
use Rattle.clr_save.specs.WrittenHeap.{names_in, names_in_segments, word_among}
use Rattle.clr_save.proofs.LowBytes.{put_as-same}
use Rattle.clr_save.proofs.SavedFills.{segment-words, written_from, written_segment}
use Rattle.clr_save.proofs.SavedItems.{saved_items}
use Rattle.clr_save.proofs.SavedNames.{image_items, named, place-fits}
use Rattle.clr_save.proofs.SavedPlaces.{part-item}

-- a free item names nothing
none-named : (rows : List TypeRow) (i : Item) (a : ℕ) → i.type_id.0 ≡ 0 → IsIn a (item_addresses rows i) → ⊥
none-named rows i a free l =
    let none : reference_offsets (form_at rows i.type_id.0) i.len ≡ [] =
    ap (λ (t : ℕ). reference_offsets (form_at rows t) i.len) free ∙ sym (bytes_offsets bytes_form i.len refl) in
    elim (subst (λ (os : List ℕ). IsIn a (map (λ (o : ℕ). i.place + o) os)) none l) [ ]

module _ (rows : List TypeRow) (h : HeapView) (heap : IsHeap h) (held : IsHeld rows h) (head : Head)
    (few : length rows ≤ 1000)
    (there : (a : ℕ) → IsIn a (addresses rows (heap_items rows h)) → IsNullOrStands rows h (word_of h a)) where
  abbrev IsNamed : ℕ → Type 0
  IsNamed place = is_name (image_items rows h heap held) place ≡ true

  -- a reference of an object of segment k
  object-names : (k : ℕ) (l : k < length h.segments) (i : Item) (a : ℕ) → IsIn i (listing rows h k)
      → (i.type_id.0 == 0) ≡ false → IsIn a (item_addresses rows i) → IsNamed (word_among (written_segment rows h k) a)
  object-names k l i a here some among =
      let listed = listed_from rows h k i l here in
      let is = listed-item rows h i heap held listed in
      let z = is.aligned in
      let sized = is.sized in
      let offset = from-map (λ (o : ℕ). i.place + o) a (reference_offsets (form_at rows i.type_id.0) i.len) among in
      let inside =
      all_at (λ (o : ℕ). (8 ≤ o) × (o + 16 ≤ size_of (form_at rows i.type_id.0) i.len) × (o % 8 ≡ 0)) offset.2
      (inside_law (form_at rows i.type_id.0) i.len) in
      let at = offset.1 in
      let low = inside.0 in
      let high = inside.1 in
      let aligned = inside.2 in
      let stands = there a (into_parts (item_addresses rows) i a (heap_items rows h) listed among) in
      let word = segment-words rows h heap head few k l (held.walkable k l) i here some a (omega arith) (omega arith)
      (omega arith) in
      ap (is_name (image_items rows h heap held))
      (word ∙ put_as-same (word_of h a) (place-fits rows h heap held (word_of h a) stands))
      ∙ named rows h heap held (word_of h a) stands

  segment-names : (k : ℕ) → k < length h.segments → AllByRecursion IsNamed (names_in rows (written_segment rows h k))
  segment-names k l =
      let w = word_among (written_segment rows h k) in
      let as_ = flat_map (item_addresses rows) (saved_items rows h k) in
      all_members IsNamed (map w as_) (λ x among.
      let word = from-map w x as_ among in
      let home = from_part (item_addresses rows) (saved_items rows h k) word.0 word.2 in
      let i : Item = home.0 in
      subst IsNamed (sym word.1) (elim (cases_Bool (i.type_id.0 == 0)) [
        | inl free ↦ absurd (none-named rows i word.0 (eqb-true i.type_id.0 0 free) home.2)
        | inr some ↦
            object-names k l i word.0 (part-item (parts_of rows h k) i home.1 (ap not some)) some home.2
      ]))

  names-from : (k n : ℕ) → k + n ≤ length h.segments
      → AllByRecursion IsNamed (names_in_segments rows (written_from rows h k n))
  names-from k zero l = tt
  names-from k (suc n) l =
      both_all IsNamed (names_in rows (written_segment rows h k))
      (names_in_segments rows (written_from rows h (k + 1) n))
      (segment-names k (omega arith)) (names-from (k + 1) n (omega arith))

  -- THE REFERENCES of an image name its objects
  pub references-named : AllByRecursion IsNamed (names_in_segments rows (written_from rows h 0 (length h.segments)))
  references-named = names-from 0 (length h.segments) (omega arith)
