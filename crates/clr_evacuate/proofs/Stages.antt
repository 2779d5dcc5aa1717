-- Forwardings one after the other.
use Rattle.std.proofs.Common.{◌≡◌, ◌⊎◌, inl, inr, ℕ, ◌-◌, ◌/◌, true, List, refl, ap, sym, ◌∙◌, subst}
use Rattle.std.proofs.Common.{arith}
use Rattle.clr_types.specs.Rising.{IsIn}
use Rattle.clr_types.specs.Segments.{ephemeral, Layout, stands_in}
use Rattle.clr_types.specs.Types.{TypeRow}
use Rattle.clr_types.specs.declared.item.Item.{Item}
use Rattle.clr_covers.specs.Covers.{CoverView}
use Rattle.clr_generations.specs.Tables.{AreCardsOf}
use Rattle.clr_heap.specs.View.{frame, heap_items, HeapView, IsHeap, word_of}
use Rattle.clr_heap.proofs.Framing.{SameShape-trans}
use Rattle.clr_heap.proofs.Rewrite.{SameShape-refl, shaped_heap}
use Rattle.clr_mark.proofs.Remarking.{same_frame}
use Rattle.clr_view.specs.View.{free_among, IsHeld, layout_in}
use Rattle.clr_view.proofs.Standing.{mt_in}
use Rattle.clr_view.proofs.Unmarked.{stands-kept}
use Rattle.clr_evacuate.specs.Forwards.{HasForwards}
use Rattle.clr_evacuate.specs.Forwarding.{AreForwardable, CanForward, HaveStayed, IsForwarded}
use Rattle.clr_evacuate.specs.Forwarding.{IsReferenceAt, LeadsBy}
use Rattle.clr_evacuate.proofs.Cells.{header_in, not_in_head, reference_in}

-- nothing is done where no reference stands
pub forwarded_none : (rows : List TypeRow) (h : HeapView) (cards : List (CoverView ℕ)) (Here : ℕ → Type 0)
    → IsHeld rows h → ((a : ℕ) → IsReferenceAt rows (heap_items rows h) a → Here a → ⊥)
    → IsForwarded rows h h cards cards Here
forwarded_none rows h cards Here held none = record {
  shape = SameShape-refl h;
  held = held;
  items = refl;
  words = λ a z. inl refl;
  gone = λ go leads a r here. absurd (none a r here);
  clean = λ clean. clean;
  spans = refl;
  kept = λ card set. set;
  carded = λ a r here young. absurd (none a r here);
}

-- where items stay, what can be forwarded still can
pub can_where_items_stay : (rows : List TypeRow) (old new : HeapView) → heap_items rows new ≡ heap_items rows old
    → (place : ℕ) → CanForward rows old place → CanForward rows new place
can_where_items_stay rows old new items place can = elim can [
  | inl none ↦ inl none
  | inr there ↦ elim there [
    | inl stands ↦ inr (inl (stands-kept rows old new items place stands))
    | inr free ↦ inr (inr (record {
      item = free.item;
      listed = subst (λ (is : List Item). IsIn free.item is) (sym items) free.listed;
      free = free.free;
      at = free.at;
    }))
  ]
]

-- the same addresses, told otherwise
pub forwarded_alike : (rows : List TypeRow) (old new : HeapView) (before after : List (CoverView ℕ))
    (Here There : ℕ → Type 0) → ((a : ℕ) → IsReferenceAt rows (heap_items rows old) a → Here a → There a)
    → ((a : ℕ) → IsReferenceAt rows (heap_items rows old) a → There a → Here a)
    → IsForwarded rows old new before after Here → IsForwarded rows old new before after There
forwarded_alike rows old new before after Here There to from f = record {
  shape = f.shape;
  held = f.held;
  items = f.items;
  words = λ a z. elim (f.words a z) [ inl same ↦ inl same | inr here ↦ inr (here.0, to a here.0 here.1) ];
  gone = λ go leads a r there. f.gone go leads a r (from a r there);
  clean = f.clean;
  spans = f.spans;
  kept = f.kept;
  carded = λ a r there young. f.carded a r (from a r there) young;
}

module _ (rows : List TypeRow) (old new : HeapView) (before after : List (CoverView ℕ)) (Here : ℕ → Type 0)
    (heap : IsHeap old) (held : IsHeld rows old) (f : IsForwarded rows old new before after Here) where
  pub forwarded_heap : IsHeap new
  forwarded_heap = shaped_heap old new f.shape heap

  pub forwarded_frame : frame new ≡ frame old
  forwarded_frame = same_frame old new f.shape

  pub forwarded_cards : AreCardsOf (frame old) before → AreCardsOf (frame new) after
  forwarded_cards cards = subst (λ (l : Layout). AreCardsOf l after) (sym forwarded_frame) (f.spans ∙ cards)

  -- a reference elsewhere is as it was
  pub left_reference : (a : ℕ) → IsReferenceAt rows (heap_items rows old) a → (Here a → ⊥)
      → word_of new a ≡ word_of old a
  left_reference a r away =
      let z = (reference_in rows old heap held r.item a r.listed r.reference).0.aligned in
      elim (f.words a z) [ inl same ↦ same | inr here ↦ absurd (away here.1) ]

  -- headers and method table words are as they were
  pub heads_stay : (i : Item) → IsIn i (heap_items rows old)
      → (word_of new (i.place - 8) ≡ word_of old (i.place - 8)) × (word_of new i.place ≡ word_of old i.place)
  heads_stay i l =
      let header = header_in rows old heap held i l in
      let mt = mt_in rows old heap held i l in (
        elim (f.words (i.place - 8) header.aligned) [
          | inl same ↦ same
          | inr here ↦ absurd (not_in_head rows old heap held i (i.place - 8) l header (omega arith) here.0)
        ],
        elim (f.words i.place mt.aligned) [
          | inl same ↦ same
          | inr here ↦ absurd (not_in_head rows old heap held i i.place l mt (omega arith) here.0)
        ],
      )

  -- what can be forwarded still can
  pub still_can : (place : ℕ) → CanForward rows old place → CanForward rows new place
  still_can = can_where_items_stay rows old new f.items

  -- references stand where they stood
  pub reference_was : (a : ℕ) → IsReferenceAt rows (heap_items rows new) a → IsReferenceAt rows (heap_items rows old) a
  reference_was a r = subst (λ (is : List Item). IsReferenceAt rows is a) f.items r

  pub reference_still : (a : ℕ) → IsReferenceAt rows (heap_items rows old) a
      → IsReferenceAt rows (heap_items rows new) a
  reference_still a r = subst (λ (is : List Item). IsReferenceAt rows is a) (sym f.items) r

  -- FORWARDS STAY
  pub forwards_stay : (go : ℕ → ℕ) → HasForwards rows old go → HasForwards rows new go
  forwards_stay go has = record {
    free = λ i l free.
        let was = subst (λ (is : List Item). IsIn i is) f.items l in
        let heads = heads_stay i was in
        let said = has.free i was free in
        (heads.0 ∙ said.0, heads.1 ∙ said.1);
    objects = λ x stands. has.objects x (stands-kept rows new old (sym f.items) x stands);
    null = has.null;
  }

  pub leads_still : (go : ℕ → ℕ) → LeadsBy rows old go → LeadsBy rows new go
  leads_still go leads = record { forwards = forwards_stay go leads.forwards; to_null = leads.to_null }

  -- other references name what they named, which can be forwarded
  pub forwardable_still : (There : ℕ → Type 0) → ((a : ℕ) → There a → Here a → ⊥) → AreForwardable rows old There
      → AreForwardable rows new There
  forwardable_still There apart can a r there =
      let was = reference_was a r in
      subst (CanForward rows new) (sym (left_reference a was (apart a there)))
      (still_can (word_of old a) (can a was there))

  -- the layout is as it was
  forwarded_layout : layout_in rows new ≡ layout_in rows old
  forwarded_layout =
      ap (λ (l : Layout). record l { free = free_among (heap_items rows new) }) forwarded_frame
      ∙ ap (λ (is : List Item). record (frame old) { free = free_among is }) f.items

  pub has_stayed : HaveStayed rows old new
  has_stayed = record {
    shape = f.shape;
    held = f.held;
    items = f.items;
    layout = forwarded_layout;
    heads = heads_stay;
    clean = f.clean;
  }

  -- more is forwarded
  module _ (next : HeapView) (later : List (CoverView ℕ)) (There : ℕ → Type 0)
      (apart : (a : ℕ) → IsReferenceAt rows (heap_items rows old) a → There a → Here a → ⊥)
      (g : IsForwarded rows new next after later There) where
    later_same : (a : ℕ) → IsReferenceAt rows (heap_items rows old) a → Here a → word_of next a ≡ word_of new a
    later_same a r here =
        let z = (reference_in rows old heap held r.item a r.listed r.reference).0.aligned in
        elim (g.words a z) [ inl same ↦ same | inr there ↦ absurd (apart a r there.1 here) ]

    pub forwarded_more : IsForwarded rows old next before later (λ a. Here a ⊎ There a)
    forwarded_more = record {
      shape = SameShape-trans old new next f.shape g.shape;
      held = g.held;
      items = g.items ∙ f.items;
      words = λ a z. elim (g.words a z) [
        | inl same ↦ elim (f.words a z) [
          | inl first ↦ inl (same ∙ first)
          | inr here ↦ inr (here.0, inl here.1)
        ]
        | inr there ↦ inr (reference_was a there.0, inr there.1)
      ];
      gone = λ go leads a r done. elim done [
        | inl here ↦ later_same a r here ∙ f.gone go leads a r here
        | inr there ↦
            g.gone go (leads_still go leads) a (reference_still a r) there
            ∙ ap go (left_reference a r (λ here. apart a r there here))
      ];
      clean = λ clean. g.clean (f.clean clean);
      spans = g.spans ∙ f.spans;
      kept = λ card set. g.kept card (f.kept card set);
      carded = λ a r done young. elim done [
        | inl here ↦
            g.kept (a / 2048) (f.carded a r here
            (subst (λ (w : ℕ). stands_in (ephemeral (frame old)) w ≡ true) (later_same a r here) young))
        | inr there ↦
            g.carded a (reference_still a r) there
            (subst (λ (l : Layout). stands_in (ephemeral l) (word_of next a) ≡ true) (sym forwarded_frame) young)
      ];
    }
