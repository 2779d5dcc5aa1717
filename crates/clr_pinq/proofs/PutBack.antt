-- Saved words written back into the heap.
use Rattle.std.proofs.Common.{◌≡◌, ◌≢◌, inl, inr, ℕ, ◌+◌, ◌%◌, List, [], ◌∷◌, ◌++◌, refl, ap, sym, ◌∙◌, subst, arith}
use Rattle.std.proofs.Common.{true, false, Option, Some, None, eqb, if◌then◌else◌}
use Rattle.std.proofs.lemmas.Bool.{cases_Bool, eq-eqb, eqb-true}
use Rattle.clr_heap.specs.Memories.{HasWord}
use Rattle.clr_heap.specs.View.{HeapView, SameShape, stored, word_of}
use Rattle.clr_heap.proofs.Rewrite.{SameShape-refl, SameShape-stored}
use Rattle.clr_heap.proofs.Storing.{HasWord-shapes, HasWord-store_in, word_in-store_in_other, word_in-store_in_same}
use Rattle.clr_pinq.specs.Bounds.{AreSavedHeld, CanPutBack}
use Rattle.clr_pinq.specs.Queue.{first_of_two, logical, option_word, or_else, queue_word, saved_word}
use Rattle.clr_pinq.specs.declared.entry.PinEntry.{PinEntry}
use Rattle.clr_pinq.specs.declared.entry.Saved.{Saved}
use Rattle.clr_pinq.proofs.Changes.{queue_push}

-- ---- three words

-- one word written
stored_word : (h : HeapView) (a v b : ℕ) → HasWord h.memories a → b % 8 ≡ 0
    → word_of (stored h a v) b ≡ (if eqb b a then v else word_of h b)
stored_word h a v b has z = elim (cases_Bool (eqb b a)) [
  | inl e ↦ let same = eqb-true b a e in let P : ℕ → Type 0 = λ c. word_of (stored h a v) c ≡ v in
      rw e (subst P (sym same) (word_in-store_in_same h.memories a v has.inside))
  | inr n ↦
      let ne : b ≢ a = λ s. (let on = eq-eqb b a s in let bad : true ≡ false = sym on ∙ n in cc) in
      rw n (word_in-store_in_other h.memories a v b has.aligned z ne)
]

-- the heap with three words written
abbrev pub with_saved : HeapView → Saved → HeapView
with_saved h s = stored (stored (stored h s.at s.w0) (s.at + 8) s.w1) (s.at + 16) s.w2

module _ (h : HeapView) (s : Saved) (can : CanPutBack h (Some s)) where
  pub second_held : HasWord (stored h s.at s.w0).memories (s.at + 8)
  second_held = HasWord-store_in h.memories s.at s.w0 (s.at + 8) can.1

  pub third_held : HasWord (stored (stored h s.at s.w0) (s.at + 8) s.w1).memories (s.at + 16)
  third_held = HasWord-store_in (stored h s.at s.w0).memories (s.at + 8) s.w1 (s.at + 16)
      (HasWord-store_in h.memories s.at s.w0 (s.at + 16) can.2)

  pub saved_words : (b : ℕ) → b % 8 ≡ 0 → word_of (with_saved h s) b ≡ or_else (saved_word s b) (word_of h b)
  saved_words b z =
      let h1 = stored h s.at s.w0 in
      let h2 = stored h1 (s.at + 8) s.w1 in
      stored_word h2 (s.at + 16) s.w2 b third_held z
      ∙ ap (λ (w : ℕ). if eqb b (s.at + 16) then s.w2 else w)
      (stored_word h1 (s.at + 8) s.w1 b second_held z
      ∙ ap (λ (w : ℕ). if eqb b (s.at + 8) then s.w1 else w) (stored_word h s.at s.w0 b can.0 z))
      ∙ turn b (word_of h b)
    where
      turn : (b w : ℕ) → (if eqb b (s.at + 16) then s.w2 else
          (if eqb b (s.at + 8) then s.w1 else (if eqb b s.at then s.w0 else w))) ≡ or_else (saved_word s b) w
      turn b w = grind arith

  pub saved_shape : SameShape h (with_saved h s)
  saved_shape =
      let h1 = stored h s.at s.w0 in
      let h2 = stored h1 (s.at + 8) s.w1 in
      SameShape-stored h h2 (s.at + 16) s.w2
      (SameShape-stored h h1 (s.at + 8) s.w1 (SameShape-stored h h s.at s.w0 (SameShape-refl h)))

-- ---- all entries, from the last one on

pub can_still : (h now : HeapView) (o : Option Saved) → SameShape h now → CanPutBack h o → CanPutBack now o
can_still h now None s c = tt
can_still h now (Some t) s c = (
  HasWord-shapes h.memories now.memories t.at s.memories c.0,
  HasWord-shapes h.memories now.memories (t.at + 8) s.memories c.1,
  HasWord-shapes h.memories now.memories (t.at + 16) s.memories c.2,
)

pub held_still : (h now : HeapView) (es : List PinEntry) → SameShape h now → AreSavedHeld h es → AreSavedHeld now es
held_still h now [] s c = tt
held_still h now (e ∷ es) s c = (can_still h now e.pre s c.0, can_still h now e.post s c.1, held_still h now es s c.2)

held_split : (h : HeapView) (es : List PinEntry) (e : PinEntry) → AreSavedHeld h (es ++ e ∷ [])
    → AreSavedHeld h es × CanPutBack h e.pre × CanPutBack h e.post
held_split h [] e c = (tt, c.0, c.1)
held_split h (f ∷ fs) e c = let r = held_split h fs e c.2 in ((c.0, c.1, r.0), r.1, r.2)

-- the words that are written back so far are those of the entries that were taken out
pub record IsPutting (old now : HeapView) (all left : List PinEntry) : Type 0 where
  pub words : (b : ℕ) → b % 8 ≡ 0 → logical left (word_of now) b ≡ logical all (word_of old) b
  pub shape : SameShape old now
  pub held : AreSavedHeld now left

pub putting_begins : (h : HeapView) (es : List PinEntry) → AreSavedHeld h es → IsPutting h h es es
putting_begins h es c = record { words = λ b z. refl; shape = SameShape-refl h; held = c }

same_then : (h mid now : HeapView) → SameShape h mid → SameShape mid now → SameShape h now
same_then h mid now s t = record {
  memories = t.memories ∙ s.memories;
  others = t.others ∙ ap (λ (v : HeapView). let w : HeapView = record v { memories = now.memories } in w) s.others;
}

-- what an entry asks before its words are written
pub last_held : (old now : HeapView) (all left rest : List PinEntry) (e : PinEntry) → IsPutting old now all left
    → left ≡ rest ++ e ∷ [] → CanPutBack now e.pre × CanPutBack now e.post
last_held old now all left rest e p cut = let P : List PinEntry → Type 0 = λ es. AreSavedHeld now es in
    let h = held_split now rest e (subst P cut p.held) in (h.1, h.2)

pub putting_on : (old now mid next : HeapView) (all left rest : List PinEntry) (e : PinEntry)
    → IsPutting old now all left → left ≡ rest ++ e ∷ []
    → ((b : ℕ) → b % 8 ≡ 0 → word_of mid b ≡ or_else (option_word e.post b) (word_of now b)) → SameShape now mid
    → ((b : ℕ) → b % 8 ≡ 0 → word_of next b ≡ or_else (option_word e.pre b) (word_of mid b)) → SameShape mid next
    → IsPutting old next all rest
putting_on old now mid next all left rest e p cut post s1 pre s2 =
    let shape = same_then now mid next s1 s2 in
    record {
      words = λ b z.
          ap (λ (w : ℕ). or_else (queue_word rest b) w)
          (pre b z ∙ ap (λ (w : ℕ). or_else (option_word e.pre b) w) (post b z))
          ∙ regroup (queue_word rest b) (option_word e.pre b) (option_word e.post b) (word_of now b)
          ∙ ap (λ (o : Option ℕ). or_else o (word_of now b))
          (sym (queue_push rest e b) ∙ ap (λ (es : List PinEntry). queue_word es b) (sym cut))
          ∙ p.words b z;
      shape = same_then old now next p.shape shape;
      held = let P : List PinEntry → Type 0 = λ es. AreSavedHeld now es in
          held_still now next rest shape (held_split now rest e (subst P cut p.held)).0;
    }
  where
    regroup : (x y z : Option ℕ) (w : ℕ) → or_else x (or_else y (or_else z w))
        ≡ or_else (first_of_two x (first_of_two y z)) w
    regroup None None z w = refl
    regroup None (Some v) z w = refl
    regroup (Some v) y z w = refl
