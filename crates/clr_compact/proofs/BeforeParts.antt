-- The words before the parts are put back, part by part.
use Rattle.std.proofs.Common.{◌≡◌, ◌⊎◌, inl, inr, ℕ, ◌+◌, ◌-◌, ◌%◌, ◌<◌, ◌≤◌, true, false, List, length, refl, ap, sym}
use Rattle.std.proofs.Common.{◌∙◌, subst, arith, Option, None, Some}
use Rattle.std.specs.Prelude.{IsSome}
use Rattle.std.proofs.lemmas.Bool.{both_ways, cases_lt, cases_order}
use Rattle.clr_heap.proofs.Addresses.{in_one_segment, InOne-shapes}
use Rattle.clr_heap.proofs.Rewrite.{SameShape-refl}
use Rattle.clr_heap.proofs.Staying.{segment_order}
use Rattle.clr_heap.specs.View.{HeapView, IsHeap, SameShape, segment_at, word_of}
use Rattle.clr_pinq.specs.Queue.{IsPlain, logical, or_else, queue_word}
use Rattle.clr_pinq.specs.declared.entry.PinEntry.{PinEntry}
use Rattle.clr_plugs.specs.Info.{HasInfo, IsInfoWord}
use Rattle.clr_moves.specs.Moves.{part_of, takes}
use Rattle.clr_moves.specs.Overlaid.{IsOutside}
use Rattle.clr_compact.specs.Overlaid.{AreSavedBefore, IsPartStart, IsPartWord}
use Rattle.clr_moves.specs.declared.condemned.Condemned.{Condemned}

-- the words before the first k parts are those that were saved, and all logical words are as they were
pub record IsPuttingBefore (old now : HeapView) (es : List PinEntry) (g : Condemned) (k : ℕ) : Type 0 where
  pub shape : SameShape old now
  pub whole : (b : ℕ) → b % 8 ≡ 0 → logical es (word_of now) b ≡ logical es (word_of old) b
  pub done : (b t : ℕ) → b % 8 ≡ 0 → t < k → t < length old.segments → takes g (segment_at old t) ≡ true
      → IsInfoWord (part_of old g t) b → word_of now b ≡ logical es (word_of old) b
  pub parts : (b : ℕ) → b % 8 ≡ 0 → IsPartWord old g b → word_of now b ≡ word_of old b

-- all parts are done
pub put_outside : (old now : HeapView) (es : List PinEntry) (g : Condemned) (n : ℕ) → IsPuttingBefore old now es g n
    → length old.segments ≤ n → AreSavedBefore old es g → (b : ℕ) → b % 8 ≡ 0 → IsOutside old g b
    → word_of now b ≡ logical es (word_of old) b
put_outside old now es g n p all saved b z out = go (queue_word es b) refl
  where
    go : (w : Option ℕ) → queue_word es b ≡ w → word_of now b ≡ logical es (word_of old) b
    go None e = sym (ap (λ o. or_else o (word_of now b)) e) ∙ p.whole b z
    go (Some w) e = let s = saved.saved b z out (subst IsSome (sym e) refl) in let l = s.in_range in
        p.done b s.segment z (omega (arith, l, all)) l s.takes s.info

pub putting_before_begins : (h : HeapView) (es : List PinEntry) (g : Condemned) → IsPuttingBefore h h es g 0
putting_before_begins h es g =
    record {
      shape = SameShape-refl h;
      whole = λ b z. refl;
      done = λ b t z low. absurd (omega arith);
      parts = λ b z p. refl;
    }

-- the words before a part lie in its segment
pub part_info : (old now : HeapView) (g : Condemned) (t : ℕ) → IsHeap old → SameShape old now → t < length old.segments
    → IsPartStart old g t → HasInfo now (part_of old g t)
part_info old now g t heap shape l start =
    let low = start.low in
    let high = start.high in
    let z = start.aligned in
    record {
      above = omega arith;
      bytes = InOne-shapes old.memories now.memories (part_of old g t - 32) 24 shape.memories
          (in_one_segment old t (part_of old g t - 32) heap l (omega arith) 24 (omega arith) refl (omega arith)
          (omega arith));
    }

-- no word of a part lies before a part
apart : (old : HeapView) (es : List PinEntry) (g : Condemned) (k b : ℕ) → IsHeap old → AreSavedBefore old es g
    → k < length old.segments → takes g (segment_at old k) ≡ true → IsPartWord old g b → IsInfoWord (part_of old g k) b
    → ⊥
apart old es g k b heap saved l on p (i, j) =
    let lt = p.in_range in
    let lo = p.low in
    let hi = p.high in
    let a = saved.starts k l on in
    let al = a.low in
    let ah = a.high in
    let c = saved.starts p.segment lt p.takes in
    let cl = c.low in
    elim (cases_order p.segment k) [
      | inl e ↦ let same = ap (part_of old g) e in omega (arith, same, lo, j)
      | inr (inl less) ↦ let s = segment_order old p.segment k heap less l in omega (arith, s, hi, al, i)
      | inr (inr more) ↦ let s = segment_order old k p.segment heap more lt in omega (arith, s, lo, j, cl, ah)
    ]

again : (o : Option ℕ) (w : ℕ) → or_else o (or_else o w) ≡ or_else o w
again None w = refl
again (Some v) w = refl

-- the words before one part more
pub put_more : (old now : HeapView) (es : List PinEntry) (g : Condemned) (k : ℕ) → IsPuttingBefore old now es g k
    → IsHeap old
    → AreSavedBefore old es g → k < length old.segments → takes g (segment_at old k) ≡ true
    → (new : HeapView) → SameShape now new
    → ((b : ℕ) → b % 8 ≡ 0 → IsInfoWord (part_of old g k) b → word_of new b ≡ logical es (word_of now) b)
    → ((b : ℕ) → b % 8 ≡ 0 → (b + 32 < part_of old g k) ⊎ (part_of old g k ≤ b + 8) → word_of new b ≡ word_of now b)
    → IsPuttingBefore old new es g (k + 1)
put_more old now es g k p heap saved l on new shape each others = record {
  shape = record {
    memories = shape.memories ∙ p.shape.memories;
    others = shape.others ∙ ap (λ (v : HeapView). let w : HeapView = record v { memories = new.memories } in w)
        p.shape.others;
  };
  whole = λ b z. elim (side b) [
    | inl i ↦ ap (λ (n : ℕ). or_else (queue_word es b) n) (each b z i) ∙ again (queue_word es b) (word_of now b)
        ∙ p.whole b z
    | inr out ↦ ap (λ (n : ℕ). or_else (queue_word es b) n) (others b z out) ∙ p.whole b z
  ];
  done = λ b t z low lt takes_t info. elim (side b) [
    | inl i ↦ each b z i ∙ p.whole b z
    | inr out ↦ elim (cases_lt t k) [
      | inl less ↦ others b z out ∙ p.done b t z less lt takes_t info
      | inr more ↦
          let e : t ≡ k = omega arith in
          let same = ap (part_of old g) e in
          let (i, j) = info in
          absurd (elim out [ inl under ↦ omega (arith, under, i, same) | inr over ↦ omega (arith, over, j, same) ])
    ]
  ];
  parts = λ b z w. elim (side b) [
    | inl i ↦ absurd (apart old es g k b heap saved l on w i)
    | inr out ↦ others b z out ∙ p.parts b z w
  ];
}
  where
    side : (b : ℕ) → IsInfoWord (part_of old g k) b ⊎ ((b + 32 < part_of old g k) ⊎ (part_of old g k ≤ b + 8))
    side b = elim (cases_lt (b + 32) (part_of old g k)) [
      | inl under ↦ inr (inl under)
      | inr over ↦ elim (cases_lt (b + 8) (part_of old g k)) [ inl low ↦ inl (over, low) | inr high ↦ inr (inr high) ]
    ]

-- the three words of a range before a place
pub three_words : (es : List PinEntry) (now new : ℕ → ℕ) (place : ℕ) → place % 8 ≡ 0 → 32 ≤ place
    → new (place - 32) ≡ logical es now (place - 32) → new (place - 24) ≡ logical es now (place - 24)
    → new (place - 16) ≡ logical es now (place - 16)
    → (b : ℕ) → b % 8 ≡ 0 → IsInfoWord place b → new b ≡ logical es now b
three_words es now new place zp up w0 w1 w2 b z (i, j) =
    let P : ℕ → Type 0 = λ n. new n ≡ logical es now n in
    elim (cases_order (b + 24) place) [
      | inl e ↦ let same : place - 24 ≡ b = omega (arith, e) in subst P same w1
      | inr (inl less) ↦ let same : place - 32 ≡ b = omega (arith, less, i, zp, z) in subst P same w0
      | inr (inr more) ↦ let same : place - 16 ≡ b = omega (arith, more, j, zp, z) in subst P same w2
    ]

-- nothing is saved before it
pub put_plain : (es : List PinEntry) (now : ℕ → ℕ) (place : ℕ) → 32 ≤ place → IsPlain es (place - 32) (place - 8)
    → (b : ℕ) → b % 8 ≡ 0 → IsInfoWord place b → now b ≡ logical es now b
put_plain es now place up plain b z (i, j) =
    sym (ap (λ o. or_else o (now b)) (plain b (omega (arith, i)) (omega (arith, j, up))))

-- a segment without a part
pub put_skip : (old now : HeapView) (es : List PinEntry) (g : Condemned) (k : ℕ) → IsPuttingBefore old now es g k
    → takes g (segment_at old k) ≡ false → IsPuttingBefore old now es g (k + 1)
put_skip old now es g k p off = record {
  shape = p.shape;
  whole = p.whole;
  done = λ b t z low lt on info. elim (cases_lt t k) [
    | inl less ↦ p.done b t z less lt on info
    | inr more ↦ let e : t ≡ k = omega arith in
        absurd (both_ways (takes g (segment_at old t)) (ap (λ i. takes g (segment_at old i)) e ∙ off) on)
  ];
  parts = p.parts;
}

-- a part begins where it began
pub part_still : (old now : HeapView) (g : Condemned) (t : ℕ) → SameShape old now → part_of now g t ≡ part_of old g t
part_still old now g t shape = ap (λ (h : HeapView). part_of h g t) shape.others

pub takes_still : (old now : HeapView) (g : Condemned) (t : ℕ) → SameShape old now
    → takes g (segment_at now t) ≡ takes g (segment_at old t)
takes_still old now g t shape = ap (λ (h : HeapView). takes g (segment_at h t)) shape.others
