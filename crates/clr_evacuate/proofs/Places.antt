-- Where what stood at a place went, by the two words before and at it.
use Rattle.std.proofs.Common.{◌≡◌, ◌≢◌, ◌⊎◌, ◌≤◌, inl, inr, ℕ, ◌-◌, ◌==◌, Bool, true, ap, sym, ◌∙◌, subst, arith}
use Rattle.std.proofs.Common.{if◌then◌else◌, List, refl}
use Rattle.std.proofs.lemmas.Bool.{cases_Bool, eqb-true, eq-eqb}
use Rattle.clr_types.specs.Rising.{IsIn}
use Rattle.clr_types.specs.Types.{mt_of, TypeRow}
use Rattle.clr_types.specs.declared.item.Item.{Item}
use Rattle.clr_heap.specs.Memories.{HasWord, memory_index}
use Rattle.clr_heap.specs.Parts.{item_at, type_number}
use Rattle.clr_heap.specs.View.{heap_items, HeapView, IsHeap, word_of}
use Rattle.clr_view.specs.View.{is_free, is_object, IsHeld}
use Rattle.clr_view.proofs.Listed.{listed-above, listed-spelled}
use Rattle.clr_view.proofs.ObjectItems.{stands-item}
use Rattle.clr_view.proofs.Standing.{cell_has, cell_index, mt_in, stands_from}
use Rattle.clr_evacuate.specs.Forwards.{forward_of}
use Rattle.clr_evacuate.specs.Forwarding.{CanForward, LeadsBy}
use Rattle.clr_evacuate.proofs.Cells.{header_in}

-- what the header of a free item says
pub forward_none : (go : ℕ → ℕ) (place to : ℕ) → to ≡ forward_of go place → (go place ≡ 0 → place ≡ 0) → to ≡ 0
    → place ≡ go place
forward_none go place to is some zero = elim (cases_Bool (go place == place)) [
  | inl same ↦ sym (eqb-true (go place) place same)
  | inr apart ↦
      let none : go place ≡ 0 = sym (is ∙ ap (λ (b : Bool). if b then 0 else go place) apart) ∙ zero in
      some none ∙ sym none
]

pub forward_some : (go : ℕ → ℕ) (place to : ℕ) → to ≡ forward_of go place → to ≢ 0 → to ≡ go place
forward_some go place to is some = elim (cases_Bool (go place == place)) [
  | inl same ↦ absurd (some (is ∙ ap (λ (b : Bool). if b then 0 else go place) same))
  | inr apart ↦ is ∙ ap (λ (b : Bool). if b then 0 else go place) apart
]

-- an item with the method table word of free space is free
free_by_word : (rows : List TypeRow) (h : HeapView) (i : Item) → IsHeap h → IsHeld rows h → IsIn i (heap_items rows h)
    → word_of h i.place ≡ mt_of 0 → is_free i ≡ true
unfolding item_at
free_by_word rows h i heap held l word =
    let spelled = ap (λ (j : Item). j.type_id.0) (listed-spelled rows h i heap held l).0 in
    let number : type_number (mt_of 0) ≡ 0 = refl in
    eq-eqb i.type_id.0 0 (spelled ∙ ap type_number word ∙ number)

module _ (rows : List TypeRow) (h : HeapView) (place : ℕ) (heap : IsHeap h) (held : IsHeld rows h)
    (can : CanForward rows h place) where
  -- the item that begins at a place
  pub record BeginsAt : Type 0 where
    pub item : Item
    pub listed : IsIn item (heap_items rows h)
    pub at : item.place ≡ place
    pub kind : (is_object item ≡ true) ⊎ (is_free item ≡ true)

  pub begins_at : place ≢ 0 → BeginsAt
  begins_at some = elim can [
    | inl none ↦ absurd (some none)
    | inr there ↦ elim there [
      | inl stands ↦
          let i = stands-item rows h heap held place stands in
          record { item = item_at rows (word_of h) place; listed = i.listed; at = i.at; kind = inl i.object }
      | inr free ↦ record { item = free.item; listed = free.listed; at = free.at; kind = inr free.free }
    ]
  ]

  -- its method table word and its header can be read
  pub place_has : place ≢ 0 → HasWord h.memories place
  place_has some =
      let b = begins_at some in
      subst (HasWord h.memories) b.at
      (cell_has rows h heap held b.item b.item.place b.listed (mt_in rows h heap held b.item b.listed))

  pub header_has : place ≢ 0 → HasWord h.memories (place - 8)
  header_has some =
      let b = begins_at some in
      subst (λ (n : ℕ). HasWord h.memories (n - 8)) b.at
      (cell_has rows h heap held b.item (b.item.place - 8) b.listed (header_in rows h heap held b.item b.listed))

  -- they are words of one segment
  pub header_near : place ≢ 0 → memory_index h.memories place ≡ memory_index h.memories (place - 8)
  header_near some =
      let b = begins_at some in
      subst (λ (n : ℕ). memory_index h.memories n ≡ memory_index h.memories (n - 8)) b.at
      (cell_index rows h heap held b.item b.item.place b.listed (mt_in rows h heap held b.item b.listed)
      ∙ sym (cell_index rows h heap held b.item (b.item.place - 8) b.listed
      (header_in rows h heap held b.item b.listed)))

  pub place_above : place ≢ 0 → 8 ≤ place
  place_above some =
      let b = begins_at some in
      let up = listed-above rows h b.item heap held b.listed in
      let at = b.at in
      omega (arith, up, at)

  module _ (go : ℕ → ℕ) (leads : LeadsBy rows h go) where
    -- null stays
    pub null_stays : place ≡ 0 → 0 ≡ go place
    null_stays none = sym (ap go none ∙ leads.forwards.null)

    -- so does what isn't free
    pub object_stays : place ≢ 0 → word_of h place ≢ mt_of 0 → place ≡ go place
    object_stays some used =
        let b = begins_at some in
        elim b.kind [
          | inl object ↦
              sym (subst (λ (n : ℕ). go n ≡ n) b.at
              (leads.forwards.objects b.item.place (stands_from rows h b.item b.listed object)))
          | inr free ↦ absurd (used (subst (λ (n : ℕ). word_of h n ≡ mt_of 0) b.at
              (leads.forwards.free b.item b.listed free).1))
        ]

    -- and of a free item its header tells
    free_header : place ≢ 0 → word_of h place ≡ mt_of 0 → word_of h (place - 8) ≡ forward_of go place
    free_header some clear =
        let b = begins_at some in
        let free = free_by_word rows h b.item heap held b.listed (ap (word_of h) b.at ∙ clear) in
        subst (λ (n : ℕ). word_of h (n - 8) ≡ forward_of go n) b.at (leads.forwards.free b.item b.listed free).0

    pub stays_free : place ≢ 0 → word_of h place ≡ mt_of 0 → word_of h (place - 8) ≡ 0 → place ≡ go place
    stays_free some clear none =
        forward_none go place (word_of h (place - 8)) (free_header some clear) (leads.to_null place) none

    pub has_gone : place ≢ 0 → word_of h place ≡ mt_of 0 → word_of h (place - 8) ≢ 0
        → word_of h (place - 8) ≡ go place
    has_gone some clear there = forward_some go place (word_of h (place - 8)) (free_header some clear) there
