-- What keeps the logical words: saving words before they are overwritten, writing one of them back, and reading where
-- none is saved.
use Rattle.std.proofs.Common.{◌≡◌, ◌≢◌, inl, inr, ℕ, ◌%◌, ◌<◌, ◌≤◌, List, [], ◌∷◌, ◌++◌, refl, ap, sym, ◌∙◌, subst}
use Rattle.std.proofs.Common.{Option, Some, None, true, false, eqb}
use Rattle.std.proofs.lemmas.Bool.{cases_Bool, eq-eqb, eqb-true}
use Rattle.clr_heap.specs.Memories.{HasWord}
use Rattle.clr_heap.specs.View.{HeapView, stored, word_of}
use Rattle.clr_heap.proofs.Storing.{word_in-store_in_other, word_in-store_in_same}
use Rattle.clr_pinq.specs.Queue.{entry_word, first_of_two, IsPlain, logical, or_else, queue_word}
use Rattle.clr_pinq.specs.declared.entry.PinEntry.{PinEntry}
use Rattle.clr_pinq.proofs.Changes.{queue_push}

-- The logical words stay where an entry with what was read for its words is pushed, and the heap changes at those words
-- alone.
pub pushed_view : (es : List PinEntry) (e : PinEntry) (old new : ℕ → ℕ)
    → ((b w : ℕ) → entry_word e b ≡ Some w → w ≡ logical es old b)
    → ((b : ℕ) → b % 8 ≡ 0 → entry_word e b ≡ None → new b ≡ old b)
    → (b : ℕ) → b % 8 ≡ 0 → logical (es ++ e ∷ []) new b ≡ logical es old b
pushed_view es e old new told others b z =
    ap (λ (o : Option ℕ). or_else o (new b)) (queue_push es e b) ∙ go (queue_word es b) refl (entry_word e b) refl
  where
    go : (saved : Option ℕ) → queue_word es b ≡ saved → (own : Option ℕ) → entry_word e b ≡ own
        → or_else (first_of_two saved own) (new b) ≡ or_else saved (old b)
    go (Some w) is own here = refl
    go None is (Some w) here = told b w here ∙ ap (λ (o : Option ℕ). or_else o (old b)) is
    go None is None here = others b z here

-- The logical words stay where the logical word of an address is written into the heap.
pub restored_view : (es : List PinEntry) (h : HeapView) (a v : ℕ) → HasWord h.memories a → v ≡ logical es (word_of h) a
    → (b : ℕ) → b % 8 ≡ 0 → logical es (word_of (stored h a v)) b ≡ logical es (word_of h) b
restored_view es h a v has is b z = elim (cases_Bool (eqb b a)) [
  | inl e ↦
      let same = eqb-true b a e in
      let P : ℕ → Type 0 = λ c. logical es (word_of (stored h a v)) c ≡ logical es (word_of h) c in
      subst P (sym same)
      (ap (λ (w : ℕ). or_else (queue_word es a) w) (word_in-store_in_same h.memories a v has.inside ∙ is)
      ∙ again (queue_word es a) (word_of h a))
  | inr n ↦
      let ne : b ≢ a = λ s. (let on = eq-eqb b a s in let bad : true ≡ false = sym on ∙ n in cc) in
      ap (λ (w : ℕ). or_else (queue_word es b) w) (word_in-store_in_other h.memories a v b has.aligned z ne)
] where
  again : (o : Option ℕ) (w : ℕ) → or_else o (or_else o w) ≡ or_else o w
  again None w = refl
  again (Some v) w = refl

-- Where no word is saved, the heap's words are the logical ones.
pub plain_view : (es : List PinEntry) (word : ℕ → ℕ) (low high b : ℕ) → IsPlain es low high → low ≤ b → b < high
    → logical es word b ≡ word b
plain_view es word low high b plain le lt = ap (λ (o : Option ℕ). or_else o (word b)) (plain b le lt)
