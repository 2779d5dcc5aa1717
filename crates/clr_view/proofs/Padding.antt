-- An object's header and padding: where the words of its padding stand, and clean words that stay, move or are cleared.
use Rattle.std.proofs.Common.{◌≡◌, ◌≢◌, inl, ℕ, ◌+◌, ◌-◌, ◌%◌, ◌<◌, ◌≤◌, true, false, List, length, refl, ap, ap₂, sym}
use Rattle.std.proofs.Common.{◌∙◌, subst₂, arith}
use Rattle.std.proofs.lemmas.Bool.{true≢false}
use Rattle.clr_mem.specs.Words.{byte_of}
use Rattle.clr_mem.proofs.Digits.{byte_of-zero_word}
use Rattle.clr_types.specs.Types.{bytes_form, class_form, Form, form_at, is_array, is_bytes, references_form, size_of}
use Rattle.clr_types.specs.Types.{slot_kinds, slot_offset, structs_form, TypeRow}
use Rattle.clr_types.specs.declared.item.Item.{Item}
use Rattle.clr_heap.specs.Memories.{word_address}
use Rattle.clr_view.specs.Clean.{HasCleanWords, IsCleanHeader, slots_end}
use Rattle.clr_view.proofs.Items.{IsItem}
use Rattle.clr_view.proofs.Slots.{IsSlotWord, slot-count}

-- ---- where padding stands

-- a word of the padding stands in the cell, above the method table word
pub padding-word : (form : Form) (len place a : ℕ) → place % 8 ≡ 0 → place + slots_end form len ≤ a
    → a < place + size_of form len - 8
    → IsSlotWord form len place (word_address a)
padding-word (class_form pattern) len place a z low high =
    record { aligned = omega arith; above = omega arith; below = omega arith }
padding-word references_form len place a z low high =
    record { aligned = omega arith; above = omega arith; below = omega arith }
padding-word bytes_form len place a z low high =
    record { aligned = omega arith; above = omega arith; below = omega arith }
padding-word (structs_form pattern) len place a z low high =
    record { aligned = omega arith; above = omega arith; below = omega arith }

-- and in an array above the length word
pub padding-above-length : (form : Form) (len place a : ℕ) → place % 8 ≡ 0 → is_array form ≡ true
    → place + slots_end form len ≤ a → place + 16 ≤ word_address a
padding-above-length (class_form pattern) len place a z array low = absurd (true≢false (sym array))
padding-above-length references_form len place a z array low = omega arith
padding-above-length bytes_form len place a z array low = omega arith
padding-above-length (structs_form pattern) len place a z array low = omega arith

-- a slot that is a word ends where the padding begins, or before
pub slot-below-padding : (form : Form) (len place j a : ℕ) → place % 8 ≡ 0 → is_bytes form ≡ false
    → j < length (slot_kinds form len) → place + slots_end form len ≤ a
    → place + slot_offset form j + 8 ≤ word_address a
slot-below-padding (class_form pattern) len place j a z words l low = let n = slot-count (class_form pattern) len in
    omega arith
slot-below-padding references_form len place j a z words l low = let n = slot-count references_form len in omega arith
slot-below-padding bytes_form len place j a z words l low = absurd (true≢false words)
slot-below-padding (structs_form pattern) len place j a z words l low = let n = slot-count (structs_form pattern) len in
    omega arith

-- ---- clean words

-- the words of the cell of item i, but for its method table word, are those of the cell of item j
abbrev pub HaveSameWords : (ℕ → ℕ) → (ℕ → ℕ) → Item → Item → Type 0
HaveSameWords old new i j = (d : ℕ) → d % 8 ≡ 0 → d < i.size → d ≢ 8 → new (j.place - 8 + d) ≡ old (i.place - 8 + d)

module _ (rows : List TypeRow) (old new : ℕ → ℕ) where
  -- CLEAN WORDS THAT MOVE with their object
  pub clean-moved : (i j : Item) (low high : ℕ) → 8 ≤ i.place → i.place % 8 ≡ 0 → 8 ≤ low → IsItem rows low high j
      → j.type_id.0 ≡ i.type_id.0 → j.len ≡ i.len → j.size ≡ i.size
      → HaveSameWords old new i j → HasCleanWords rows old i → HasCleanWords rows new j
  clean-moved i j low high up z first is type len size words clean =
      let above = is.above in
      let least = is.least in
      let aligned = is.aligned in
      let sized = is.sized in
      let front : j.place - 8 ≡ j.place - 8 + 0 = omega arith in
      let back : i.place - 8 + 0 ≡ i.place - 8 = omega arith in
      let header : new (j.place - 8) ≡ old (i.place - 8) = ap new front ∙ words 0 refl (omega arith) (omega arith)
      ∙ ap old back in
      let ends : slots_end (form_at rows j.type_id.0) j.len ≡ slots_end (form_at rows i.type_id.0) i.len =
      λ k. slots_end (form_at rows (type k)) (len k) in
      record {
        header = subst₂ (λ (t w : ℕ). IsCleanHeader rows t w) (sym type) (sym header) clean.header;
        padding = λ a down over.
            let p = i.place + (a - j.place) in
            let at = padding-word (form_at rows j.type_id.0) j.len j.place a aligned down (omega arith) in
            let over_mt = at.above in
            let within = at.below in
            let d = word_address a + 8 - j.place in
            let to : word_address a ≡ j.place - 8 + d = omega arith in
            let from : i.place - 8 + d ≡ word_address p = omega arith in
            let word : new (word_address a) ≡ old (word_address p) =
            ap new to ∙ words d (omega arith) (omega arith) (omega arith) ∙ ap old from in
            let digit : a % 8 ≡ p % 8 = omega arith in
            ap₂ byte_of word digit ∙ clean.padding p (omega arith) (omega arith);
      }

  -- CLEAN WORDS THAT STAY: those of an item whose cell stays, but for its mark
  pub clean-stays : (i : Item) (low high : ℕ) → 8 ≤ low → IsItem rows low high i
      → ((b : ℕ) → b % 8 ≡ 0 → i.place ≤ b + 8 → b + 8 < i.place + i.size → b ≢ i.place → new b ≡ old b)
      → HasCleanWords rows old i → HasCleanWords rows new i
  clean-stays i low high first is stays clean =
      let above = is.above in
      let aligned = is.aligned in
      clean-moved i i low high (omega arith) is.aligned first is refl refl refl
      (λ d z l ne. stays (i.place - 8 + d) (omega arith) (omega arith) (omega arith) (omega arith)) clean

-- CLEAN WORDS AT FIRST: an item with a clear header, of which all else above its head is clear
pub clean-clear : (rows : List TypeRow) (word : ℕ → ℕ) (i : Item) (low high : ℕ) → IsItem rows low high i
    → word (i.place - 8) ≡ 0
    → ((b : ℕ) → b % 8 ≡ 0 → i.place + 8 ≤ b → b + 16 ≤ i.place + i.size
    → (is_array (form_at rows i.type_id.0) ≡ true → i.place + 16 ≤ b) → word b ≡ 0)
    → HasCleanWords rows word i
clean-clear rows word i low high is header clear =
    let sized = is.sized in
    record {
      header = inl header;
      padding = λ a down over.
          let at = padding-word (form_at rows i.type_id.0) i.len i.place a is.aligned down (omega arith) in
          let within = at.below in
          let zero = clear (word_address a) at.aligned at.above (omega arith)
          (λ array. padding-above-length (form_at rows i.type_id.0) i.len i.place a is.aligned array down) in
          ap (λ (w : ℕ). byte_of w (a % 8)) zero ∙ byte_of-zero_word (a % 8);
    }
