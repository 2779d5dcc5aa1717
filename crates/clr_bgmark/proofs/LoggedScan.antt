-- A scan logs what it reads.
use Rattle.std.proofs.Common.{◌≡◌, ◌≢◌, ℕ, ◌+◌, ◌/◌, ◌%◌, ◌⊎◌, inl, inr, List, map, filter, refl, sym, ap, subst}
use Rattle.std.proofs.Common.{◌∙◌, arith, Bool, true, false, ◌&&◌, not, Some}
use Rattle.std.specs.Prelude.{slice_get, IsTrue}
use Rattle.std.specs.List.{AllByRecursion}
use Rattle.std.proofs.lemmas.Bool.{cases_Bool, both_ways, eq-eqb, eqb-true}
use Rattle.clr_types.specs.Rising.{IsIn}
use Rattle.clr_types.specs.Types.{TypeRow, Form, form_at, is_bytes, slot_offset, slots_of}
use Rattle.clr_types.specs.declared.item.Item.{Item}
use Rattle.clr_types.specs.declared.shape.Slot.{Slot}
use Rattle.clr_types.proofs.ChangedLists.{into_filter, IsIn-map, out_of_filter}
use Rattle.clr_types.proofs.ListMembers.{from-map}
use Rattle.clr_types.proofs.SlotsByForm.{bytes_offsets}
use Rattle.clr_heap.specs.Parts.{item_at}
use Rattle.clr_heap.specs.View.{HeapView, heap_items, IsHeap, word_of}
use Rattle.clr_model.specs.Background.{taken}
use Rattle.clr_model.specs.Machine.{ref, Object, Machine, Marking}
use Rattle.clr_model.specs.Reach.{Marked, SlotNames}
use Rattle.clr_model.proofs.ObjectChanged.{slice_get-map}
use Rattle.clr_view.specs.View.{IsHeld, object_in, objects_in, slot_value, word_value}
use Rattle.clr_view.specs.SlotValues.{IsObjectAt, StandsAt}
use Rattle.clr_view.proofs.SlotReads.{slot-told}
use Rattle.clr_view.proofs.StoredSlots.{bytes-form, value-is}
use Rattle.clr_mark.specs.Markings.{references_at}
use Rattle.clr_mark.proofs.References.{refers_to, value_ref}
use Rattle.clr_background.specs.Log.{slot_address}
use Rattle.clr_background.proofs.Markings.{marked_taken, taken_parts, white_taken}
use Rattle.clr_background.proofs.Members.{member_read, read_member}
use Rattle.clr_bgmark.specs.Bits.{has_bit}
use Rattle.clr_bgmark.specs.Scanning.{AreObjects, followed, HasLogged, is_gray_place, is_white_place, IsReadAt}
use Rattle.clr_bgmark.specs.Scanning.{marking_in}
use Rattle.clr_bgmark.specs.Shades.{BackgroundView, card_of, colour_at, colour_by, IsShade, is_covered, is_logged}
use Rattle.clr_bgmark.specs.Shades.{is_marked, is_outside, is_scanned, is_taken, met_all, ShadeView, with_scanned}
use Rattle.clr_bgmark.proofs.FollowedSlots.{at}
use Rattle.clr_bgmark.proofs.Kept.{covered_kept, told_kept}
use Rattle.clr_bgmark.proofs.OwnSlots.{map_read, object_is}
use Rattle.clr_bgmark.proofs.ScannedLists.{black_back, black_forth, gray_parts, stands_aligned, stands_named, x_stands}
use Rattle.clr_bgmark.proofs.ScannedLog.{IsReadOutside, logged_all, LogsReferences}

-- ---- what was taken

-- a place isn't outside just where it has a colour
inside_by : (s m t : Bool) → (((t && (not m && not s)) ≡ true) ⊎ ((m && not s) ≡ true)) ⊎ (s ≡ true)
    → is_outside (colour_by s m t) ≡ false
inside_by true m t e = refl
inside_by false true t e = refl
inside_by false false true e = refl
inside_by false false false (inl (inl e)) = absurd cc
inside_by false false false (inl (inr e)) = absurd cc
inside_by false false false (inr e) = absurd cc

coloured : (s m t : Bool) → is_outside (colour_by s m t) ≡ false
    → (((t && (not m && not s)) ≡ true) ⊎ ((m && not s) ≡ true)) ⊎ (s ≡ true)
coloured true m t e = inr refl
coloured false true t e = inl (inr refl)
coloured false false true e = inl (inl refl)
coloured false false false e = absurd cc

module _ (objects : List Object) (ss : List ShadeView) (y : ℕ) where
  abbrev names : List ℕ
  names = map (λ (o : Object). o.name) objects

  taken_inside : IsIn y (taken (marking_in objects ss)) → is_outside (colour_at ss y) ≡ false
  taken_inside j =
      inside_by (is_scanned ss y) (is_marked ss y) (is_taken ss y) (go (taken_parts (marking_in objects ss) y j))
    where
      go : IsIn y (marking_in objects ss).white ⊎ Marked (marking_in objects ss) y
          → ((is_white_place ss y ≡ true) ⊎ (is_gray_place ss y ≡ true)) ⊎ (is_scanned ss y ≡ true)
      go (inl white) = inl (inl (out_of_filter (is_white_place ss) y names white).0)
      go (inr (inl gray)) = inl (inr (out_of_filter (is_gray_place ss) y names gray).0)
      go (inr (inr black)) = inr (out_of_filter (is_scanned ss) y names black).0

  inside_taken : IsIn y names → is_outside (colour_at ss y) ≡ false → IsIn y (taken (marking_in objects ss))
  inside_taken there inside = go (coloured (is_scanned ss y) (is_marked ss y) (is_taken ss y) inside)
    where
      go : ((is_white_place ss y ≡ true) ⊎ (is_gray_place ss y ≡ true)) ⊎ (is_scanned ss y ≡ true)
          → IsIn y (taken (marking_in objects ss))
      go (inl (inl white)) =
          white_taken (marking_in objects ss) y (into_filter (is_white_place ss) names white there)
      go (inl (inr gray)) =
          marked_taken (marking_in objects ss) y (inl (into_filter (is_gray_place ss) names gray there))
      go (inr black) = marked_taken (marking_in objects ss) y (inr (into_filter (is_scanned ss) names black there))

-- ---- one object is scanned

module _ (rows : List TypeRow) (h : HeapView) (heap : IsHeap h) (held : IsHeld rows h) (v : BackgroundView)
    (all : AllByRecursion IsShade v.shades) (known : AreObjects rows h v.shades) (x : ℕ) (whole : x % 8 ≡ 0)
    (gray : is_gray_place v.shades x ≡ true) (closed : (y : ℕ) → SlotNames (objects_in rows h) x y → StandsAt rows h y)
    (slots : (offset : ℕ) → IsIn offset (references_at rows h x) → is_covered v.shades (x + offset) ≡ true) where
  abbrev objects : List Object
  objects = objects_in rows h

  abbrev i : Item
  i = item_at rows (word_of h) x

  abbrev form : Form
  form = form_at rows i.type_id.0

  abbrev own : Object
  own = object_in rows (word_of h) i

  abbrev ss : List ShadeView
  ss = v.shades

  abbrev mid : List ShadeView
  mid = (met_all (word_of h) v x (references_at rows h x)).shades

  abbrev now : List ShadeView
  now = (followed rows h v x).shades

  stands : IsObjectAt rows h x i
  stands = at rows h heap held x (x_stands rows h heap held v all known x whole gray closed)

  own_present : IsIn own objects
  own_present = IsIn-map (object_in rows (word_of h)) (into_filter _ (heap_items rows h) stands.object stands.listed)

  named : (offset : ℕ) → IsIn offset (references_at rows h x) → word_of h (x + offset) ≢ 0
      → SlotNames objects x (word_of h (x + offset))
  named offset l some = refers_to rows h heap held x i stands offset l some

  -- ---- its slots and its references

  -- its slot of this number is the reference at this offset
  record IsReference (number offset : ℕ) : Type 0 where
    pub listed : IsIn offset (references_at rows h x)
    pub is : offset ≡ slot_offset form number
    pub holds : slice_get own.slots number ≡ Some (ref (word_of h (x + offset)))

  reference_of : (number y : ℕ) → slice_get own.slots number ≡ Some (ref y)
      → (offset : ℕ) × IsReference number offset × (word_of h (x + offset) ≡ y)
  reference_of number y e =
      let (slot, found, value) = map_read (slot_value form (word_of h) i.place) (slots_of form i.len) number (ref y) e
      in
      let reference = value_ref form (word_of h) slot.reference (i.place + slot.offset) y value in
      let holds : word_of h (x + slot.offset) ≡ y =
      ap (λ p. word_of h (p + slot.offset)) (sym stands.at) ∙ reference.1 in (
        slot.offset,
        record {
          listed = IsIn-map (λ (s : Slot). s.offset)
              (into_filter (λ (s : Slot). s.reference) (slots_of form i.len) reference.0
              (read_member (slots_of form i.len) number slot found));
          is = (slot-told form i.len number slot found).1;
          holds = e ∙ ap (λ z. Some (ref z)) (sym holds);
        },
        holds,
      )

  slot_at : (offset : ℕ) → IsIn offset (references_at rows h x) → (number : ℕ) × IsReference number offset
  slot_at offset l = elim (cases_Bool (is_bytes form)) [
    | inl bytes ↦ elim (subst (λ (os : List ℕ). IsIn offset os) (sym (bytes_offsets form i.len (bytes-form form bytes)))
        l) [ ]
    | inr words ↦
        let (slot, e, passed) = from-map (λ (s : Slot). s.offset) offset
        (filter (λ (s : Slot). s.reference) (slots_of form i.len)) l in
        let (kind, j) = out_of_filter (λ (s : Slot). s.reference) slot (slots_of form i.len) passed in
        let (number, found) = member_read (slots_of form i.len) slot j in
        let value : slot_value form (word_of h) i.place slot ≡ ref (word_of h (x + offset)) =
        value-is form (word_of h) slot.reference (i.place + slot.offset) words
        ∙ ap (λ (kind : Bool). word_value kind (word_of h (i.place + slot.offset))) kind
        ∙ (λ n. ref (word_of h (stands.at n + sym e n))) in (
          number,
          record {
            listed = l;
            is = e ∙ (slot-told form i.len number slot found).1;
            holds =
                slice_get-map (slot_value form (word_of h) i.place) (slots_of form i.len) number slot found
                ∙ ap Some value;
          },
        )
  ]

  -- ---- what is logged

  logged : LogsReferences (word_of h) x (references_at rows h x) ss mid
  logged = logged_all (word_of h) x (references_at rows h x) v all (λ offset l some.
      stands_aligned rows h heap held (word_of h (x + offset)) (closed (word_of h (x + offset)) (named offset l some)))

  logged_now : (b : ℕ) → is_logged now b ≡ is_logged mid b
  logged_now b =
      told_kept (λ s a. has_bit s.logged (card_of s a)) (with_scanned x) (λ s b. refl) (λ s b. refl) mid x b

  module _ (m : Machine) (types : m.types ≡ rows) (same : m.objects ≡ objects) where
    abbrev old : Marking
    old = marking_in objects ss

    abbrev new : Marking
    new = marking_in objects now

    address : (number offset : ℕ) → IsReference number offset → slot_address m own number ≡ x + offset
    address number offset r =
        λ k. stands.at k + (ap (λ table. slot_offset (form_at table own.type) number) types ∙ sym r.is) k

    -- the object that became black is the one that was scanned
    read_is : (a : ℕ) → (r : IsReadAt m old new a) → r.object ≡ own
    read_is a r = object_is rows h heap held x i stands r.object (subst (λ os. IsIn r.object os) same r.present) (elim
        (black_forth rows h heap held v all known x whole gray closed r.object.name r.black) [
          | inl black ↦ absurd (r.was_not black)
          | inr is ↦ is
        ])

    outside_of : (offset : ℕ) → IsIn offset (references_at rows h x) → word_of h (x + offset) ≢ 0
        → (IsIn (word_of h (x + offset)) (taken old) → ⊥) → is_outside (colour_at ss (word_of h (x + offset))) ≡ true
    outside_of offset l some untaken = elim (cases_Bool (is_outside (colour_at ss (word_of h (x + offset))))) [
      | inl outside ↦ outside
      | inr inside ↦ absurd (untaken (inside_taken objects ss (word_of h (x + offset))
          (stands_named rows h heap held (word_of h (x + offset))
          (closed (word_of h (x + offset)) (named offset l some))) inside))
    ]

    read : (a : ℕ) → IsReadAt m old new a → IsTrue (is_logged now a)
    read a r =
        let is = read_is a r in
        let (offset, reference, holds) = reference_of r.slot r.name
        (subst (λ (o : Object). slice_get o.slots r.slot ≡ Some (ref r.name)) is r.holds) in
        let some = r.not_null in
        let not_null : word_of h (x + offset) ≢ 0 = λ e. omega (arith, holds, some, e) in
        let card : (x + offset) / 2048 ≡ a / 2048 =
        ap (λ b. b / 2048) (sym (address r.slot offset reference))
        ∙ ap (λ (o : Object). slot_address m o r.slot / 2048) (sym is) ∙ r.card in
        logged_now a ∙ logged.read a (record {
          offset = offset;
          listed = reference.listed;
          at = record {
            not_null = not_null;
            outside = outside_of offset reference.listed not_null
                (λ t. r.untaken (subst (λ n. IsIn n (taken old)) holds t));
            card = eq-eqb (a / 2048) ((x + offset) / 2048) (sym card);
          };
        }) (slots offset reference.listed)

    -- it wasn't black
    was_not_black : IsIn own.name old.black → ⊥
    was_not_black j =
        both_ways (is_scanned ss x) (gray_parts ss x gray).1 (subst (λ n. is_scanned ss n ≡ true) stands.at
        (out_of_filter (is_scanned ss) own.name (map (λ (o : Object). o.name) objects) j).0)

    is_read : (a : ℕ) → IsReadOutside (word_of h) x (references_at rows h x) ss a → IsReadAt m old new a
    is_read a r =
        let (number, reference) = slot_at r.offset r.listed in
        let some = r.at.not_null in
        record {
          object = own;
          present = subst (λ os. IsIn own os) (sym same) own_present;
          black = black_back rows h heap held v all known x whole gray closed own.name (inr stands.at);
          was_not = was_not_black;
          slot = number;
          name = word_of h (x + r.offset);
          holds = reference.holds;
          not_null = omega (arith, some);
          untaken = λ t. both_ways (is_outside (colour_at ss (word_of h (x + r.offset))))
              (taken_inside objects ss (word_of h (x + r.offset)) t) r.at.outside;
          card = ap (λ b. b / 2048) (address number r.offset reference)
              ∙ sym (eqb-true (a / 2048) ((x + r.offset) / 2048) r.at.card);
        }

  pub log_scanned : HasLogged rows objects ss now
  log_scanned m types same = record {
    stays = λ a e. logged_now a ∙ logged.stays a e;
    read = read m types same;
    only = λ a e. elim (logged.only a (sym (logged_now a) ∙ e)) [
      | inl was ↦ inl was
      | inr r ↦ inr (is_read m types same a r)
    ];
  }

  -- and the segments are the same
  pub covered_now : (b : ℕ) → is_covered now b ≡ is_covered ss b
  covered_now b = covered_kept (with_scanned x) (λ s b. refl) mid x b ∙ logged.covered b
