-- Forwards are taken away: item by item, and what stays.
use Rattle.std.proofs.Common.{◌≡◌, ◌⊎◌, inl, inr, ℕ, ◌+◌, ◌-◌, ◌%◌, true, false, not, List, filter, refl}
use Rattle.std.proofs.Common.{ap, sym, ◌∙◌, subst, arith, Bool, if◌then◌else◌}
use Rattle.std.proofs.lemmas.Bool.{cases_eq, eq-eqb, true≢false}
use Rattle.clr_types.specs.Rising.{IsIn}
use Rattle.clr_types.specs.Segments.{Layout}
use Rattle.clr_types.specs.Types.{TypeRow}
use Rattle.clr_types.specs.declared.item.Item.{Item}
use Rattle.clr_heap.specs.View.{frame, heap_items, HeapView, IsHeap, stored, word_of}
use Rattle.clr_heap.proofs.Framing.{SameShape-trans}
use Rattle.clr_heap.proofs.Rewrite.{SameShape-refl, SameShape-stored, shaped_heap}
use Rattle.clr_mark.proofs.Remarking.{same_frame}
use Rattle.clr_view.specs.Clean.{AreClean}
use Rattle.clr_view.specs.View.{AreFreeHeads, free_among, is_free, is_object, IsHeld, KeepsObjects, layout_in}
use Rattle.clr_view.specs.View.{objects_in}
use Rattle.clr_view.specs.View.{objects_among, object_in}
use Rattle.clr_view.proofs.CleanWords.{clean_kept}
use Rattle.clr_view.proofs.Items.{object-stays}
use Rattle.clr_view.proofs.Listed.{listed-above, listed-item}
use Rattle.clr_view.proofs.Standing.{InCell, mt_in, standing}
use Rattle.clr_view.proofs.Stores.{elsewhere, held-stays, IsCellWord, items-stay, there-now}
use Rattle.clr_types.proofs.ListMembers.{map-on}
use Rattle.clr_types.proofs.ChangedLists.{out_of_filter}
use Rattle.clr_evacuate.specs.Forwards.{HasForwards}
use Rattle.clr_evacuate.specs.Forwarding.{AreCleared, IsBetween, IsFreeHeader}
use Rattle.clr_evacuate.proofs.Cells.{header_in, one_cell}

-- ---- stages

pub cleared_none : (rows : List TypeRow) (h : HeapView) (Here : ℕ → Type 0) → IsHeld rows h
    → ((a : ℕ) → IsFreeHeader (heap_items rows h) a → Here a → ⊥) → AreCleared rows h h Here
cleared_none rows h Here held none = record {
  shape = SameShape-refl h;
  held = held;
  items = refl;
  words = λ a z. inl refl;
  zero = λ a r here. absurd (none a r here);
}

pub cleared_alike : (rows : List TypeRow) (old new : HeapView) (Here There : ℕ → Type 0)
    → ((a : ℕ) → IsFreeHeader (heap_items rows old) a → Here a → There a)
    → ((a : ℕ) → IsFreeHeader (heap_items rows old) a → There a → Here a)
    → AreCleared rows old new Here → AreCleared rows old new There
cleared_alike rows old new Here There to from f = record {
  shape = f.shape;
  held = f.held;
  items = f.items;
  words = λ a z. elim (f.words a z) [ inl same ↦ inl same | inr here ↦ inr (here.0, to a here.0 here.1) ];
  zero = λ a r there. f.zero a r (from a r there);
}

module _ (rows : List TypeRow) (old new next : HeapView) (Here There : ℕ → Type 0) (heap : IsHeap old)
    (held : IsHeld rows old) (f : AreCleared rows old new Here) (g : AreCleared rows new next There) where
  was_header : (a : ℕ) → IsFreeHeader (heap_items rows new) a → IsFreeHeader (heap_items rows old) a
  was_header a r = subst (λ (is : List Item). IsFreeHeader is a) f.items r

  still_header : (a : ℕ) → IsFreeHeader (heap_items rows old) a → IsFreeHeader (heap_items rows new) a
  still_header a r = subst (λ (is : List Item). IsFreeHeader is a) (sym f.items) r

  header_aligned : (a : ℕ) → IsFreeHeader (heap_items rows old) a → a % 8 ≡ 0
  header_aligned a r =
      subst (λ (n : ℕ). n % 8 ≡ 0) (sym r.address) (header_in rows old heap held r.item r.listed).aligned

  pub cleared_more : AreCleared rows old next (λ a. Here a ⊎ There a)
  cleared_more = record {
    shape = SameShape-trans old new next f.shape g.shape;
    held = g.held;
    items = g.items ∙ f.items;
    words = λ a z. elim (g.words a z) [
      | inl same ↦ elim (f.words a z) [
        | inl first ↦ inl (same ∙ first)
        | inr here ↦ inr (here.0, inl here.1)
      ]
      | inr there ↦ inr (was_header a there.0, inr there.1)
    ];
    zero = λ a r done. elim done [
      | inl here ↦ elim (g.words a (header_aligned a r)) [
        | inl same ↦ same ∙ f.zero a r here
        | inr there ↦ g.zero a there.0 there.1
      ]
      | inr there ↦ g.zero a (still_header a r) there
    ];
  }

-- ---- one item

module _ (rows : List TypeRow) (h : HeapView) (heap : IsHeap h) (held : IsHeld rows h) (i : Item)
    (listed : IsIn i (heap_items rows h)) where
  header_cell : IsCellWord rows h i (i.place - 8)
  header_cell =
      let c = header_in rows h heap held i listed in
      let s = standing rows h heap held i listed in
      let least = s.least in
      let up = listed-above rows h i heap held listed in
      record {
        listed = listed;
        aligned = c.aligned;
        low = c.low;
        high = omega (arith, least, up);
        no_mt = λ same. omega (arith, up, same);
        no_length = λ array same. omega (arith, up, same);
      }

  -- only its own header is in its cell
  only_header : (a : ℕ) → IsFreeHeader (heap_items rows h) a → IsBetween i.place (i.place + i.size) a
      → (is_free i ≡ true) × (a ≡ i.place - 8)
  only_header a r b =
      let z = header_in rows h heap held r.item r.listed in
      let in_own : InCell r.item a = subst (InCell r.item) (sym r.address) z in
      let same : r.item ≡ i =
      one_cell rows h heap held r.item i a r.listed listed in_own
      (record { aligned = in_own.aligned; low = b.0; high = b.1 }) in
      (ap is_free (sym same) ∙ r.free, r.address ∙ ap (λ (x : Item). x.place - 8) same)

  pub cleared_item : (new : HeapView) → is_free i ≡ true → new ≡ stored h (i.place - 8) 0
      → AreCleared rows h new (λ a. IsBetween i.place (i.place + i.size) a)
  cleared_item new free is =
      let a = i.place - 8 in
      let c = header_in rows h heap held i listed in
      let up = listed-above rows h i heap held listed in
      subst (λ (g : HeapView). AreCleared rows h g (λ a. IsBetween i.place (i.place + i.size) a)) (sym is) (record {
        shape = SameShape-stored h h a 0 (SameShape-refl h);
        held = held-stays rows h i a 0 heap held header_cell;
        items = items-stay rows h i a 0 heap held header_cell;
        words = λ b z. elim (cases_eq b a) [
          | inl same ↦ inr (
            record { item = i; listed = listed; free = free; address = same },
            subst (IsBetween i.place (i.place + i.size)) (sym same) (c.low, c.high),
          )
          | inr ne ↦ inl (elsewhere rows h i a 0 heap held header_cell b z ne)
        ];
        zero = λ b r here. ap (word_of (stored h a 0)) (only_header b r here).1
            ∙ there-now rows h i a 0 heap held header_cell;
      })

  pub cleared_object : is_free i ≡ false → AreCleared rows h h (λ a. IsBetween i.place (i.place + i.size) a)
  cleared_object used =
      cleared_none rows h (λ a. IsBetween i.place (i.place + i.size) a) held
      (λ a r here. true≢false (sym (only_header a r here).0 ∙ used))

-- ---- the heap

module _ (rows : List TypeRow) (old new : HeapView) (Here : ℕ → Type 0) (heap : IsHeap old) (held : IsHeld rows old)
    (f : AreCleared rows old new Here) where
  pub cleared_heap : IsHeap new
  cleared_heap = shaped_heap old new f.shape heap

  pub cleared_layout : layout_in rows new ≡ layout_in rows old
  cleared_layout =
      ap (λ (l : Layout). record l { free = free_among (heap_items rows new) }) (same_frame old new f.shape)
      ∙ ap (λ (is : List Item). record (frame old) { free = free_among is }) f.items

  -- no word of an object's cell is a free item's header
  pub cleared_cells : KeepsObjects rows old new
  cleared_cells i b listed object z low high = elim (f.words b z) [
    | inl same ↦ same
    | inr here ↦
        let r = here.0 in
        let c = header_in rows old heap held r.item r.listed in
        let in_own : InCell r.item b = subst (InCell r.item) (sym r.address) c in
        let same : r.item ≡ i =
        one_cell rows old heap held r.item i b r.listed listed in_own
        (record { aligned = z; low = low; high = high }) in
        absurd (true≢false (sym object ∙ ap is_object (sym same) ∙ ap not r.free))
  ]

  pub cleared_objects : objects_in rows new ≡ objects_in rows old
  cleared_objects =
      ap (objects_among rows (word_of new)) f.items
      ∙ map-on (object_in rows (word_of new)) (object_in rows (word_of old)) (filter is_object (heap_items rows old))
      (λ i n.
      let (object, listed) = out_of_filter is_object i (heap_items rows old) n in
      let up = listed-above rows old i heap held listed in
      object-stays rows (word_of old) (word_of new) i.place (i.place + i.size) i up
      (λ b z low high. cleared_cells i b listed object z low (omega (arith, high)))
      (listed-item rows old i heap held listed))

  pub cleared_clean : AreClean rows old → AreClean rows new
  cleared_clean = clean_kept rows old new heap held cleared_heap f.held cleared_objects cleared_cells

  -- ALL FORWARDS are gone, where each header was cleared or said nothing
  pub cleared_heads : (go : ℕ → ℕ) → HasForwards rows old go
      → ((i : Item) → IsIn i (heap_items rows old) → Here (i.place - 8) ⊎ (go i.place ≡ i.place))
      → AreFreeHeads rows new
  cleared_heads go has all i l free =
      let listed = subst (λ (is : List Item). IsIn i is) f.items l in
      let r : IsFreeHeader (heap_items rows old) (i.place - 8) =
      record { item = i; listed = listed; free = free; address = refl } in
      let m = mt_in rows old heap held i listed in (
        elim (all i listed) [
          | inl here ↦ f.zero (i.place - 8) r here
          | inr still ↦ elim (f.words (i.place - 8) (header_in rows old heap held i listed).aligned) [
            | inl same ↦ same ∙ (has.free i listed free).0
                ∙ ap (λ (b : Bool). if b then 0 else go i.place) (eq-eqb (go i.place) i.place still)
            | inr gone ↦ f.zero (i.place - 8) gone.0 gone.1
          ]
        ],
        elim (f.words i.place m.aligned) [
          | inl same ↦ same ∙ (has.free i listed free).1
          | inr here ↦
              let c = header_in rows old heap held here.0.item here.0.listed in
              let own : InCell here.0.item i.place = subst (InCell here.0.item) (sym here.0.address) c in
              let same = one_cell rows old heap held here.0.item i i.place here.0.listed listed own m in
              let address = here.0.address in
              let place = ap (λ (x : Item). x.place) same in
              let up = listed-above rows old i heap held listed in
              absurd (omega (arith, address, place, up))
        ],
      )
