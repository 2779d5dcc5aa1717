-- The padding of an object stays zero where its cell stays, or moves with it.
use Rattle.std.proofs.Common.{◌≡◌, ◌≢◌, ℕ, ◌+◌, ◌-◌, ◌%◌, ◌<◌, ◌≤◌, List, refl, ap, ap₂, sym, ◌∙◌, arith}
use Rattle.clr_mem.specs.Words.{byte_of}
use Rattle.clr_types.specs.Types.{form_at, TypeRow}
use Rattle.clr_types.specs.declared.item.Item.{Item}
use Rattle.clr_heap.specs.Memories.{word_address}
use Rattle.clr_view.specs.Clean.{AreZero, slots_end}
use Rattle.clr_view.proofs.Items.{IsItem}
use Rattle.clr_view.proofs.Padding.{HaveSameWords, padding-word}

-- the padding of one object is zero
abbrev pub IsPadded : List TypeRow → (ℕ → ℕ) → Item → Type 0
IsPadded rows word i = AreZero word (i.place + slots_end (form_at rows i.type_id.0) i.len) (i.place + i.size - 8)

module _ (rows : List TypeRow) (old new : ℕ → ℕ) where
  -- PADDING THAT MOVES with its object
  pub padding-moves : (i j : Item) (low high : ℕ) → 8 ≤ i.place → i.place % 8 ≡ 0 → 8 ≤ low → IsItem rows low high j
      → j.type_id.0 ≡ i.type_id.0 → j.len ≡ i.len → j.size ≡ i.size
      → HaveSameWords old new i j → IsPadded rows old i → IsPadded rows new j
  padding-moves i j low high up z first is type len size words padded a down over =
      let above = is.above in
      let least = is.least in
      let aligned = is.aligned in
      let sized = is.sized in
      let ends : slots_end (form_at rows j.type_id.0) j.len ≡ slots_end (form_at rows i.type_id.0) i.len =
      λ k. slots_end (form_at rows (type k)) (len k) in
      let p = i.place + (a - j.place) in
      let at = padding-word (form_at rows j.type_id.0) j.len j.place a aligned down (omega arith) in
      let over_mt = at.above in
      let within = at.below in
      let d = word_address a + 8 - j.place in
      let to : word_address a ≡ j.place - 8 + d = omega arith in
      let from : i.place - 8 + d ≡ word_address p = omega arith in
      let word : new (word_address a) ≡ old (word_address p) =
      ap new to ∙ words d (omega arith) (omega arith) (omega arith) ∙ ap old from in
      let digit : a % 8 ≡ p % 8 = omega arith in
      ap₂ byte_of word digit ∙ padded p (omega arith) (omega arith)

  -- PADDING THAT STAYS: that of an item whose cell stays, but for its mark
  pub padding-stays : (i : Item) (low high : ℕ) → 8 ≤ low → IsItem rows low high i
      → ((b : ℕ) → b % 8 ≡ 0 → i.place ≤ b + 8 → b + 8 < i.place + i.size → b ≢ i.place → new b ≡ old b)
      → IsPadded rows old i → IsPadded rows new i
  padding-stays i low high first is stays padded =
      let above = is.above in
      let aligned = is.aligned in
      padding-moves i i low high (omega arith) is.aligned first is refl refl refl
      (λ d z l ne. stays (i.place - 8 + d) (omega arith) (omega arith) (omega arith) (omega arith)) padded
