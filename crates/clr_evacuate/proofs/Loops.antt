-- What the loops over the references of an object, the items of a segment and the segments have forwarded.
use Rattle.std.proofs.Common.{◌≡◌, ◌≢◌, ◌⊎◌, inl, inr, ℕ, ◌+◌, ◌<◌, ◌≤◌, true, List, [], ◌∷◌, ◌++◌, length, refl}
use Rattle.std.proofs.Common.{ap, ap₂, sym, ◌∙◌, subst, arith, zero, suc, ◌-◌, ◌*◌}
use Rattle.std.proofs.lemmas.Bool.{cases_eq, cases_lt}
use Rattle.clr_types.specs.Descriptors.{offsets_from}
use Rattle.clr_types.specs.Rising.{first, IsIn}
use Rattle.clr_types.specs.Types.{form_at, TypeRow}
use Rattle.clr_types.specs.declared.item.Item.{Item}
use Rattle.clr_types.proofs.ChangedLists.{append_left, rising-distinct}
use Rattle.clr_types.proofs.ListMembers.{append_right, distinct_cross, in_append}
use Rattle.clr_types.proofs.Offsets.{rising_offsets_law}
use Rattle.clr_types.proofs.RisingLists.{in_cons}
use Rattle.clr_types.proofs.SortedLists.{IsDistinctBy}
use Rattle.clr_covers.specs.Covers.{CoverView}
use Rattle.clr_heap.specs.View.{first_of, heap_items, HeapView, IsHeap, last_of, word_of}
use Rattle.clr_heap.proofs.Framing.{lawful_at}
use Rattle.clr_heap.proofs.Staying.{segment_order}
use Rattle.clr_mark.specs.Markings.{item_references}
use Rattle.clr_mark.proofs.References.{refers_to}
use Rattle.clr_model.specs.Reach.{SlotNames}
use Rattle.clr_view.specs.View.{is_free, is_object, IsHeld, objects_in}
use Rattle.clr_view.specs.SlotValues.{IsObjectAt}
use Rattle.clr_view.proofs.Listed.{listed-known, listed-small}
use Rattle.clr_view.proofs.ObjectItems.{object-told}
use Rattle.clr_view.proofs.Standing.{standing}
use Rattle.clr_evacuate.specs.Forwarding.{AreForwardable, CanForward, IsBetween, IsForwarded, IsOffsetOf}
use Rattle.clr_evacuate.specs.Forwarding.{IsReferenceAt}
use Rattle.clr_evacuate.proofs.Cells.{not_in_free, own_reference, reference_in}
use Rattle.clr_evacuate.proofs.Stages.{forwardable_still, forwarded_alike, forwarded_more, forwarded_none}
use Rattle.clr_evacuate.proofs.Stages.{left_reference, still_can}
use Rattle.clr_evacuate.proofs.Walks.{IsWalking}

-- ---- one object

module _ (rows : List TypeRow) (h : HeapView) (i : Item) (cards : List (CoverView ℕ)) (heap : IsHeap h)
    (held : IsHeld rows h) (listed : IsIn i (heap_items rows h)) (object : is_object i ≡ true) where
  -- the references at these offsets are forwarded
  abbrev pub HasDone : HeapView → List (CoverView ℕ) → List ℕ → Type 0
  HasDone now flags offsets = IsForwarded rows h now cards flags (λ a. IsOffsetOf i.place offsets a)

  pub none_done : HasDone h cards []
  none_done = forwarded_none rows h cards (λ a. IsOffsetOf i.place [] a) held (λ a r at. elim at.listed [ ])

  module _ (now : HeapView) (flags : List (CoverView ℕ)) (done : List ℕ) (offset : ℕ) (rest : List ℕ)
      (walked : done ++ offset ∷ rest ≡ item_references rows i) (f : HasDone now flags done) where
    pub next_listed : IsIn offset (item_references rows i)
    next_listed = subst (λ (os : List ℕ). IsIn offset os) walked (append_right done first)

    next_reference : IsReferenceAt rows (heap_items rows h) (i.place + offset)
    next_reference = record {
      item = i;
      listed = listed;
      object = object;
      reference = record { offset = offset; listed = next_listed; address = refl };
    }

    -- it isn't one of those before
    next_ahead : IsOffsetOf i.place done (i.place + offset) → ⊥
    next_ahead r =
        let key : ℕ → ℕ = λ n. n in
        let rising = rising_offsets_law (form_at rows i.type_id.0) i.len in
        let distinct = rising-distinct key (item_references rows i) rising in
        let address = r.address in
        distinct_cross key done (offset ∷ rest)
        (subst (λ (os : List ℕ). IsDistinctBy key os) (sym walked) distinct) r.offset offset r.listed first
        (omega (arith, address))

    pub next_can : AreForwardable rows h (λ a. IsOffsetOf i.place (item_references rows i) a)
        → CanForward rows now (word_of now (i.place + offset))
    next_can can =
        let a = i.place + offset in
        subst (CanForward rows now)
        (sym (left_reference rows h now cards flags (λ a. IsOffsetOf i.place done a) heap held f a next_reference
        next_ahead))
        (still_can rows h now cards flags (λ a. IsOffsetOf i.place done a) heap held f (word_of h a)
        (can a next_reference (record { offset = offset; listed = next_listed; address = refl })))

    pub next_done : (new : HeapView) (after : List (CoverView ℕ))
        → IsForwarded rows now new flags after (λ a. a ≡ i.place + offset) → HasDone new after (done ++ offset ∷ [])
    next_done new after g =
        forwarded_alike rows h new cards after (λ a. IsOffsetOf i.place done a ⊎ (a ≡ i.place + offset))
        (λ a. IsOffsetOf i.place (done ++ offset ∷ []) a)
        (λ a r here. elim here [
          | inl old ↦ record {
            offset = old.offset;
            listed = append_left (offset ∷ []) old.listed;
            address = old.address;
          }
          | inr new ↦ record { offset = offset; listed = append_right done first; address = new }
        ])
        (λ a r at. elim (in_append done at.listed) [
          | inl old ↦ inl (record { offset = at.offset; listed = old; address = at.address })
          | inr new ↦ elim (in_cons new) [
            | inl is ↦ inr (at.address ∙ ap (λ (n : ℕ). i.place + n) is)
            | inr none ↦ elim none [ ]
          ]
        ])
        (forwarded_more rows h now cards flags (λ a. IsOffsetOf i.place done a) heap held f new after
        (λ a. a ≡ i.place + offset)
        (λ a r at here. next_ahead (subst (λ (b : ℕ). IsOffsetOf i.place done b) at here)) g)

-- one reference of a run, with those before it and those behind it
pub run_around : (offset count i : ℕ) → i < count
    → offsets_from offset i ++ (offset + 8 * i) ∷ offsets_from (offset + 8 * i + 8) (count - i - 1)
    ≡ offsets_from offset count
run_around offset zero i l = absurd (omega arith)
run_around offset (suc count) zero l =
    let at : offset + 8 * 0 ≡ offset = omega arith in
    let left : suc count - 0 - 1 ≡ count = omega arith in
    ap₂ (λ (m n : ℕ). m ∷ offsets_from (m + 8) n) at left
run_around offset (suc count) (suc i) l =
    let at : offset + 8 * suc i ≡ offset + 8 + 8 * i = omega arith in
    let left : suc count - suc i - 1 ≡ count - i - 1 = omega arith in
    ap₂ (λ (m n : ℕ). offset ∷ (offsets_from (offset + 8) i ++ m ∷ offsets_from (m + 8) n)) at left
    ∙ ap (λ (ns : List ℕ). offset ∷ ns) (run_around (offset + 8) count i (omega arith))

-- ---- one item

module _ (rows : List TypeRow) (h : HeapView) (i : Item) (heap : IsHeap h) (held : IsHeld rows h)
    (listed : IsIn i (heap_items rows h)) where
  -- a reference in the cell of an item is one of its references
  own_offset : (a : ℕ) → IsReferenceAt rows (heap_items rows h) a → IsBetween i.place (i.place + i.size) a
      → IsOffsetOf i.place (item_references rows i) a
  own_offset a r b =
      let z = (reference_in rows h heap held r.item a r.listed r.reference).0.aligned in
      let same = own_reference rows h heap held i a listed (record { aligned = z; low = b.0; high = b.1 }) r in
      subst (λ (x : Item). IsOffsetOf x.place (item_references rows x) a) same r.reference

  in_item : (a : ℕ) → IsOffsetOf i.place (item_references rows i) a → IsBetween i.place (i.place + i.size) a
  in_item a r = let c = (reference_in rows h heap held i a listed r).0 in (c.low, c.high)

  pub item_named : AreForwardable rows h (λ a. IsBetween i.place (i.place + i.size) a)
      → AreForwardable rows h (λ a. IsOffsetOf i.place (item_references rows i) a)
  item_named can a r at = can a r (in_item a at)

  pub object_done : (new : HeapView) (cards after : List (CoverView ℕ))
      → IsForwarded rows h new cards after (λ a. IsOffsetOf i.place (item_references rows i) a)
      → IsForwarded rows h new cards after (λ a. IsBetween i.place (i.place + i.size) a)
  object_done new cards after f =
      forwarded_alike rows h new cards after (λ a. IsOffsetOf i.place (item_references rows i) a)
      (λ a. IsBetween i.place (i.place + i.size) a) (λ a r at. in_item a at) own_offset f

  pub free_done : (cards : List (CoverView ℕ)) → is_free i ≡ true
      → IsForwarded rows h h cards cards (λ a. IsBetween i.place (i.place + i.size) a)
  free_done cards free =
      forwarded_none rows h cards (λ a. IsBetween i.place (i.place + i.size) a) held (λ a r b.
      let z = (reference_in rows h heap held r.item a r.listed r.reference).0.aligned in
      not_in_free rows h heap held i a listed (record { aligned = z; low = b.0; high = b.1 }) free r)

-- ---- one segment

module _ (rows : List TypeRow) (h now : HeapView) (cards flags : List (CoverView ℕ)) (k p : ℕ) (heap : IsHeap h)
    (held : IsHeld rows h) (w : IsWalking rows h k p (last_of h k))
    (f : IsForwarded rows h now cards flags (λ a. IsBetween (first_of h k) p a)) where
  abbrev to : ℕ → ℕ → Type 0
  to q a = IsBetween (first_of h k) q a

  -- what the references of the next item name can be forwarded
  pub next_named : (size : ℕ) → p + size ≤ last_of h k
      → AreForwardable rows h (λ a. IsBetween (first_of h k) (last_of h k) a)
      → AreForwardable rows now (λ a. IsBetween p (p + size) a)
  next_named size within can =
      let up = w.up in
      forwardable_still rows h now cards flags (to p) heap held f (λ a. IsBetween p (p + size) a)
      (λ a b c. let low = b.0 in let high = c.1 in omega (arith, low, high))
      (λ a r b. can a r (let low = b.0 in let high = b.1 in
      (omega (arith, low, up), omega (arith, high, within))))

  pub item_done : (size : ℕ) (new : HeapView) (after : List (CoverView ℕ))
      → IsForwarded rows now new flags after (λ a. IsBetween p (p + size) a)
      → IsForwarded rows h new cards after (λ a. IsBetween (first_of h k) (p + size) a)
  item_done size new after g =
      let up = w.up in
      forwarded_alike rows h new cards after (λ a. to p a ⊎ IsBetween p (p + size) a) (to (p + size))
      (λ a r b. elim b [
        | inl old ↦ (let low = old.0 in let high = old.1 in (low, omega (arith, high)))
        | inr new ↦ (let low = new.0 in let high = new.1 in (omega (arith, low, up), high))
      ])
      (λ a r b. let low = b.0 in let high = b.1 in elim (cases_lt (a + 8) p) [
        | inl under ↦ inl (low, under)
        | inr over ↦ inr (omega (arith, over), high)
      ])
      (forwarded_more rows h now cards flags (to p) heap held f new after (λ a. IsBetween p (p + size) a)
      (λ a r b c. let low = b.0 in let high = c.1 in omega (arith, low, high)) g)

-- ---- the heap

-- the address is one of the cells of the first n segments
pub record IsInFirst (h : HeapView) (n a : ℕ) : Type 0 where
  pub segment : ℕ
  pub below : segment < n
  pub between : IsBetween (first_of h segment) (last_of h segment) a

pub segments_start : (rows : List TypeRow) (h : HeapView) (cards : List (CoverView ℕ)) → IsHeld rows h
    → IsForwarded rows h h cards cards (λ a. IsInFirst h 0 a)
segments_start rows h cards held =
    forwarded_none rows h cards (λ a. IsInFirst h 0 a) held (λ a r b. let l = b.below in omega (arith, l))

module _ (rows : List TypeRow) (h now : HeapView) (cards flags : List (CoverView ℕ)) (k : ℕ) (heap : IsHeap h)
    (held : IsHeld rows h) (inside : k < length h.segments)
    (f : IsForwarded rows h now cards flags (λ a. IsInFirst h k a)) where
  first_same : first_of now k ≡ first_of h k
  first_same = ap (λ (g : HeapView). first_of g k) f.shape.others

  last_same : last_of now k ≡ last_of h k
  last_same = ap (λ (g : HeapView). last_of g k) f.shape.others

  later_apart : (a : ℕ) → IsBetween (first_of now k) (last_of now k) a → IsInFirst h k a → ⊥
  later_apart a b c =
      let under = c.below in
      let o = segment_order h c.segment k heap under inside in
      let top = (lawful_at h c.segment heap (omega (arith, under, inside))).high in
      let low = b.0 in
      let high = c.between.1 in
      let start = first_same in
      omega (arith, o, top, low, high, start)

  pub segment_named : AreForwardable rows h (λ a. IsInFirst h (k + 1) a)
      → AreForwardable rows now (λ a. IsBetween (first_of now k) (last_of now k) a)
  segment_named can =
      forwardable_still rows h now cards flags (λ a. IsInFirst h k a) heap held f
      (λ a. IsBetween (first_of now k) (last_of now k) a) later_apart
      (λ a r b. can a r (record {
        segment = k;
        below = omega arith;
        between = (let low = b.0 in let high = b.1 in let start = first_same in let stop = last_same in
            (omega (arith, low, start), omega (arith, high, stop)));
      }))

  pub segment_done : (new : HeapView) (after : List (CoverView ℕ))
      → IsForwarded rows now new flags after (λ a. IsBetween (first_of now k) (last_of now k) a)
      → IsForwarded rows h new cards after (λ a. IsInFirst h (k + 1) a)
  segment_done new after g =
      forwarded_alike rows h new cards after
      (λ a. IsInFirst h k a ⊎ IsBetween (first_of now k) (last_of now k) a) (λ a. IsInFirst h (k + 1) a)
      (λ a r b. elim b [
        | inl old ↦ record {
          segment = old.segment;
          below = (let l = old.below in omega (arith, l));
          between = old.between;
        }
        | inr new ↦ record {
          segment = k;
          below = omega arith;
          between = (let low = new.0 in let high = new.1 in let start = first_same in let stop = last_same in
              (omega (arith, low, start), omega (arith, high, stop)));
        }
      ])
      (λ a r b. let l = b.below in elim (cases_lt b.segment k) [
        | inl under ↦ inl (record { segment = b.segment; below = under; between = b.between })
        | inr over ↦
            let same : b.segment ≡ k = omega (arith, l, over) in
            let low : first_of h k ≤ a + 8 = subst (λ (n : ℕ). first_of h n ≤ a + 8) same b.between.0 in
            let high : a + 8 < last_of h k = subst (λ (n : ℕ). a + 8 < last_of h n) same b.between.1 in
            let start = first_same in
            let stop = last_same in
            inr (omega (arith, low, start), omega (arith, high, stop))
      ])
      (forwarded_more rows h now cards flags (λ a. IsInFirst h k a) heap held f new after
      (λ a. IsBetween (first_of now k) (last_of now k) a) (λ a r b c. later_apart a b c) g)

-- each reference is in a segment
pub all_first : (rows : List TypeRow) (h : HeapView) (n : ℕ) → IsHeap h → IsHeld rows h → length h.segments ≤ n
    → (a : ℕ) → IsReferenceAt rows (heap_items rows h) a → IsInFirst h n a
all_first rows h n heap held most a r =
    let s = standing rows h heap held r.item r.listed in
    let c = (reference_in rows h heap held r.item a r.listed r.reference).0 in
    let in_range = s.in_range in
    let above = s.above in
    let below = s.below in
    let low = c.low in
    let high = c.high in
    record {
      segment = s.segment;
      below = omega (arith, in_range, most);
      between = (omega (arith, above, low), omega (arith, below, high));
    }

-- what references name, slots name
pub references_named : (rows : List TypeRow) (h : HeapView) (Here : ℕ → Type 0) → IsHeap h → IsHeld rows h
    → ((x y : ℕ) → SlotNames (objects_in rows h) x y → CanForward rows h y) → AreForwardable rows h Here
references_named rows h Here heap held named a r here = elim (cases_eq (word_of h a) 0) [
  | inl none ↦ inl none
  | inr some ↦
      let i = r.item in
      let o = r.reference in
      let address = r.reference.address in
      let at : IsObjectAt rows h i.place i = record {
        listed = r.listed;
        object = r.object;
        at = refl;
        named = object-told rows h heap held i r.listed r.object;
        known = listed-known rows h i heap held r.listed;
        small = listed-small rows h i heap held r.listed;
      } in
      let there : word_of h (i.place + o.offset) ≢ 0 = λ e. some (ap (word_of h) address ∙ e) in
      subst (CanForward rows h) (sym (ap (word_of h) address))
      (named i.place (word_of h (i.place + o.offset))
      (refers_to rows h heap held i.place i at o.offset o.listed there))
]
