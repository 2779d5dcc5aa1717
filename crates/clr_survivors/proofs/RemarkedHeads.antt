-- The heads of free items stay where marks of objects change.
use Rattle.std.proofs.Common.{◌≡◌, inl, inr, ◌-◌, true, not, List, ap, sym, ◌∙◌, arith}
use Rattle.std.proofs.lemmas.Bool.{true≢false}
use Rattle.clr_types.specs.Rising.{IsIn}
use Rattle.clr_types.specs.Segments.{Layout}
use Rattle.clr_types.specs.Types.{TypeRow}
use Rattle.clr_types.specs.declared.item.Item.{Item}
use Rattle.clr_types.proofs.ChangedLists.{rising-distinct}
use Rattle.clr_types.proofs.SortedLists.{same_by_key}
use Rattle.clr_heap.specs.Parts.{item_at}
use Rattle.clr_heap.specs.View.{heap_items, HeapView, IsHeap, word_of}
use Rattle.clr_view.specs.SlotValues.{StandsAt}
use Rattle.clr_view.specs.View.{AreFreeHeads, is_free, is_object, IsHeld}
use Rattle.clr_view.proofs.FreeHeads.{heads_kept, listed_room}
use Rattle.clr_view.proofs.Items.{stacked-apart}
use Rattle.clr_view.proofs.Listings.{heap-rise, heap-stacked}
use Rattle.clr_view.proofs.ObjectItems.{stands-item}
use Rattle.clr_view.proofs.Standing.{standing}
use Rattle.clr_mark.specs.Marks.{IsRemarked}
use Rattle.clr_mark.proofs.Remarking.{keeps_layout, keeps_stands}

module _ (rows : List TypeRow) (h : HeapView) (heap : IsHeap h) (held : IsHeld rows h) (i : Item)
    (listed : IsIn i (heap_items rows h)) (free : is_free i ≡ true) where
  -- no object stands at a free item
  no-object-at : StandsAt rows h i.place → ⊥
  no-object-at stands =
      let this = stands-item rows h heap held i.place stands in
      let distinct =
      rising-distinct (λ (y : Item). y.place) (heap_items rows h) (heap-rise rows h held.walkable heap) in
      let one : item_at rows (word_of h) i.place ≡ i =
      same_by_key (λ (y : Item). y.place) (heap_items rows h) (item_at rows (word_of h) i.place) i distinct this.listed
      listed this.at in
      true≢false (sym this.object ∙ ap is_object one ∙ ap not free)

  -- nor just before it
  no-object-before : StandsAt rows h (i.place - 8) → ⊥
  no-object-before stands =
      let this = stands-item rows h heap held (i.place - 8) stands in
      let at = this.at in
      let least = (listed_room rows h heap held (item_at rows (word_of h) (i.place - 8)) this.listed).1 in
      let room = (listed_room rows h heap held i listed).1 in
      let low = (standing rows h heap held i listed).above in
      elim (stacked-apart (heap_items rows h) (item_at rows (word_of h) (i.place - 8)) i
      (heap-stacked rows h held.walkable heap) this.listed listed (λ same. omega arith)) [
        | inl under ↦ omega arith
        | inr over ↦ omega arith
      ]

module _ (rows : List TypeRow) (old new : HeapView) (heap : IsHeap old) (held : IsHeld rows old) (now : IsHeap new)
    (now_held : IsHeld rows new) (r : IsRemarked rows old new) where
  -- FREE HEADS stay
  pub heads_remarked : AreFreeHeads rows old → AreFreeHeads rows new
  heads_remarked =
      heads_kept rows old new (ap (λ (l : Layout). l.free) (keeps_layout rows old new heap held r)) (λ i listed free.
      let z = (listed_room rows new now now_held i listed).0 in (
        elim (r.words (i.place - 8) (omega arith)) [
          | inl same ↦ same
          | inr other ↦
              absurd (no-object-before rows new now now_held i listed free
              (keeps_stands rows old new heap held r (i.place - 8) other.0))
        ],
        elim (r.words i.place z) [
          | inl same ↦ same
          | inr other ↦
              absurd (no-object-at rows new now now_held i listed free
              (keeps_stands rows old new heap held r i.place other.0))
        ],
      ))
