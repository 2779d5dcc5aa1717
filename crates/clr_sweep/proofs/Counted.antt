-- What a sweep counts, told by the items that it goes over.
use Rattle.std.proofs.Common.{◌≡◌, inl, inr, ℕ, zero, suc, ◌+◌, ◌-◌, ◌<◌, ◌≤◌, true, false}
use Rattle.std.proofs.Common.{List, ◌++◌, length}
use Rattle.std.proofs.Common.{ap, ap₂, sym, ◌∙◌, arith}
use Rattle.clr_types.specs.Rising.{IsIn}
use Rattle.clr_types.specs.Segments.{ephemeral, generation}
use Rattle.clr_types.specs.Types.{TypeRow}
use Rattle.clr_types.specs.declared.item.Item.{Item}
use Rattle.clr_types.proofs.ListMembers.{in_append}
use Rattle.clr_heap.specs.View.{frame, heap_items, HeapView, IsHeap}
use Rattle.clr_heap.specs.View.{listing, listings, no_rests, segment_at}
use Rattle.clr_model.specs.Lawful.{IsLaid}
use Rattle.clr_model.specs.Machine.{Machine}
use Rattle.clr_view.specs.View.{IsHeld}
use Rattle.clr_view.proofs.Listed.{listed-in}
use Rattle.clr_view.proofs.Listings.{heap-cut}
use Rattle.clr_sweep.specs.Passes.{plus}
use Rattle.clr_view.specs.Memory.{is_reached_by}
use Rattle.clr_sweep.specs.Swept.{tally_of}
use Rattle.clr_sweep.specs.SweptItems.{items_below, items_from, tally_among}
use Rattle.clr_sweep.specs.SweptItems.{young_start}
use Rattle.clr_sweep.proofs.SurvivorsSwept.{seen}
use Rattle.clr_sweep.proofs.Tallies.{none-plus, plus-none}
use Rattle.clr_sweep.proofs.TallySwept.{tally_all, tally_by, tally_joined, tally_none, tally_swept}
use Rattle.clr_sweep.proofs.YoungPart.{below-old, from-swept, other-old, young-items}
use Rattle.clr_model.proofs.LawfulSurvivors.{generation-least}
use Rattle.std.proofs.lemmas.Bool.{le-leb}

-- items of segments from one on stand in one of them
listed-above : (rows : List TypeRow) (h : HeapView) (i : Item) (s n : ℕ) → IsIn i (listings rows h s n) → (k : ℕ)
    × (s ≤ k) × (k < s + n) × IsIn i (listing rows h k)
listed-above rows h i s zero l = elim l [ ]
listed-above rows h i s (suc n) l = elim (in_append (listing rows h s) l) [
  | inl here ↦ (s, omega arith, omega arith, here)
  | inr more ↦ let (k, low, high, there) = listed-above rows h i (s + 1) n more in (k, omega arith, omega arith, there)
]

-- ---- the young part

module _ (rows : List TypeRow) (old : HeapView) (base : Machine) (heap : IsHeap old) (held : IsHeld rows old)
    (none : old.rests ≡ no_rests) (laid : IsLaid (seen rows old base)) (g : ℕ) (young : g ≤ 1) (k : ℕ)
    (inside : k < length old.segments) (eph : segment_at old k ≡ ephemeral (frame old)) where
  abbrev part : List Item
  part = items_from rows old k (young_start old g)

  abbrev below : List Item
  below = items_below rows old k (young_start old g)

  -- no sweep goes over the items of other segments
  pub front-old : (i : Item) → IsIn i (listings rows old 0 k) → is_reached_by old g i.place ≡ false
  front-old i l = let (j, under, there) = listed-in rows old i 0 k l in
      other-old rows old base heap held none laid g young k inside eph j (omega arith) (λ e. omega arith) i there

  pub back-old : (i : Item) → IsIn i (listings rows old (k + 1) (length old.segments - (k + 1)))
      → is_reached_by old g i.place ≡ false
  back-old i l = let (j, over, under, there) = listed-above rows old i (k + 1) (length old.segments - (k + 1)) l in
      other-old rows old base heap held none laid g young k inside eph j (omega arith) (λ e. omega arith) i there

  -- THE COUNTS are those of the young part
  pub young-counted : tally_among old (items_from rows old k (young_start old g)) ≡ tally_of rows old g
  young-counted =
      let front = listings rows old 0 k in
      let back = listings rows old (k + 1) (length old.segments - (k + 1)) in
      let split : heap_items rows old ≡ front ++ ((below ++ part) ++ back) =
      heap-cut rows old k (length old.segments) inside ∙ ap (λ (is : List Item). front ++ (is ++ back))
      (young-items rows old base heap held none laid g young k inside eph) in
      let lower : tally_by old g (below ++ part) ≡ tally_among old part =
      tally_joined old g below part
      ∙ ap₂ plus (tally_none old g below (below-old rows old base heap held none laid g young k inside eph))
      (tally_all old g part (from-swept rows old base heap held none laid g young k inside eph))
      ∙ none-plus (tally_among old part) in
      let upper : tally_by old g ((below ++ part) ++ back) ≡ tally_among old part =
      tally_joined old g (below ++ part) back ∙ ap₂ plus lower (tally_none old g back back-old)
      ∙ plus-none (tally_among old part) in
      sym (sym (tally_swept rows old g heap held) ∙ ap (tally_by old g) split
      ∙ tally_joined old g front ((below ++ part) ++ back) ∙ ap₂ plus (tally_none old g front front-old) upper
      ∙ none-plus (tally_among old part))

-- ---- the whole heap

-- a sweep of all generations goes over every place
pub all_swept_over : (h : HeapView) (place : ℕ) → is_reached_by h 2 place ≡ true
all_swept_over h place = le-leb (generation (frame h) place) 2 (generation-least (frame h) place)

pub whole-counted : (rows : List TypeRow) (h : HeapView) → IsHeap h → IsHeld rows h
    → tally_among h (heap_items rows h) ≡ tally_of rows h 2
whole-counted rows h heap held =
    sym (tally_all h 2 (heap_items rows h) (λ i l. all_swept_over h i.place)) ∙ tally_swept rows h 2 heap held
