-- The words before a plug: what writing them makes of the heap.
use Rattle.std.proofs.Common.{◌≡◌, ◌≢◌, ℕ, ◌+◌, ◌-◌, ◌/◌, ◌%◌, ◌<◌, ◌≤◌, List, [], get_or, true, ap, sym, ◌∙◌, arith}
use Rattle.clr_mem.specs.Words.{Memory}
use Rattle.clr_heap.specs.Memories.{contains, HasWord, InOne, memory_index}
use Rattle.clr_heap.specs.View.{HeapView, IsHeap, SameShape, stored, word_of}
use Rattle.clr_heap.proofs.Rewrite.{SameShape-refl, SameShape-stored}
use Rattle.clr_heap.proofs.Framing.{memories_apart}
use Rattle.clr_heap.proofs.Moving.{index_unique}
use Rattle.clr_heap.proofs.Storing.{contains_at_index, contains_bounds, contains_from, HasWord-store_in}
use Rattle.clr_heap.proofs.Storing.{index_below, memory_index-store_in, word_in-store_in_other, word_in-store_in_same}
use Rattle.std.specs.Int.{cast_signed, cast_unsigned, w64}
use mir.Val.{SFits}
use Rattle.std.proofs.lemmas.Int.{to_z-of_z}
use Rattle.clr_plugs.specs.Info.{children_word, HasInfo, info_at}
use Rattle.clr_plugs.specs.declared.words.PlugInfo.{PlugInfo}

-- an address of a range in one memory lies in that memory
inner_contained : (ms : List Memory) (a n b : ℕ) → InOne ms a n → a ≤ b → b < a + n → (d : Memory)
    → contains (get_or ms (memory_index ms a) d) b ≡ true
inner_contained ms a n b one low high d =
    let m = get_or ms (memory_index ms a) d in
    let here = contains_bounds m a (contains_at_index ms a d one.word.inside) in
    let within = one.within d in
    contains_from m b (omega (arith, here.0)) (omega (arith, within))

-- so there is such a word, whether or not other memories stand apart
pub inner_has : (ms : List Memory) (a n b : ℕ) → InOne ms a n → a ≤ b → b < a + n → b % 8 ≡ 0 → HasWord ms b
inner_has ms a n b one low high z =
    let d : Memory = record { base = 0; words = [] } in
    record {
      aligned = z;
      inside = index_below ms (memory_index ms a) b d one.word.inside (inner_contained ms a n b one low high d);
    }

-- a word of a range in one memory lies in that memory
pub record IsInner (h : HeapView) (a b : ℕ) : Type 0 where
  pub word : HasWord h.memories b
  pub same : memory_index h.memories a ≡ memory_index h.memories b

pub inner_word : (h : HeapView) (a n b : ℕ) → IsHeap h → InOne h.memories a n → a ≤ b → b < a + n → b % 8 ≡ 0
    → IsInner h a b
inner_word h a n b heap one low high z =
    let d : Memory = record { base = 0; words = [] } in
    let there = inner_contained h.memories a n b one low high d in
    record {
      word = inner_has h.memories a n b one low high z;
      same = sym (index_unique h.memories (memory_index h.memories a) b d (memories_apart h heap) one.word.inside
          there);
    }

-- the three words before a plug
pub record AreInfoWords (h : HeapView) (plug : ℕ) : Type 0 where
  pub above : 32 ≤ plug
  pub gap : HasWord h.memories (plug - 32)
  pub distance : IsInner h (plug - 32) (plug - 24)
  pub children : IsInner h (plug - 32) (plug - 16)

pub info_words : (h : HeapView) (plug : ℕ) → IsHeap h → HasInfo h plug → AreInfoWords h plug
info_words h plug heap has =
    let above = has.above in
    let z = has.bytes.word.aligned in
    record {
      above = above;
      gap = has.bytes.word;
      distance = inner_word h (plug - 32) 24 (plug - 24) heap has.bytes (omega arith) (omega arith) (omega arith);
      children = inner_word h (plug - 32) 24 (plug - 16) heap has.bytes (omega arith) (omega arith) (omega arith);
    }

-- the heap with the three words written
abbrev pub written : HeapView → ℕ → ℕ → ℕ → ℕ → HeapView
written h plug gap distance children =
    stored (stored (stored h (plug - 32) gap) (plug - 24) distance) (plug - 16) children

module _ (h : HeapView) (plug gap distance children : ℕ) (w : AreInfoWords h plug) where
  pub first_can : HasWord (stored h (plug - 32) gap).memories (plug - 24)
      × (memory_index h.memories (plug - 32) ≡ memory_index (stored h (plug - 32) gap).memories (plug - 24))
  first_can = (
    HasWord-store_in h.memories (plug - 32) gap (plug - 24) w.distance.word,
    w.distance.same
        ∙ sym (memory_index-store_in h.memories (plug - 32) gap (plug - 24)),
  )

  pub second_can : HasWord (stored (stored h (plug - 32) gap) (plug - 24) distance).memories (plug - 16)
      × (memory_index h.memories (plug - 32) ≡ memory_index
      (stored (stored h (plug - 32) gap) (plug - 24) distance).memories (plug - 16))
  second_can =
      let h1 = stored h (plug - 32) gap in (
        HasWord-store_in h1.memories (plug - 24) distance (plug - 16)
            (HasWord-store_in h.memories (plug - 32) gap (plug - 16) w.children.word),
        w.children.same ∙ sym (memory_index-store_in h.memories (plug - 32) gap (plug - 16))
            ∙ sym (memory_index-store_in h1.memories (plug - 24) distance (plug - 16)),
      )

  pub others_stay : (b : ℕ) → b % 8 ≡ 0 → b + 32 ≢ plug → b + 24 ≢ plug → b + 16 ≢ plug
      → word_of (written h plug gap distance children) b ≡ word_of h b
  others_stay b z n1 n2 n3 =
      let above = w.above in
      let zg = w.gap.aligned in
      let h1 = stored h (plug - 32) gap in
      let h2 = stored h1 (plug - 24) distance in
      word_in-store_in_other h2.memories (plug - 16) children b (omega arith) z (λ e. n3 (omega arith))
      ∙ word_in-store_in_other h1.memories (plug - 24) distance b (omega arith) z (λ e. n2 (omega arith))
      ∙ word_in-store_in_other h.memories (plug - 32) gap b zg z (λ e. n1 (omega arith))

  pub gap_is : word_of (written h plug gap distance children) (plug - 32) ≡ gap
  gap_is =
      let above = w.above in
      let zg = w.gap.aligned in
      let h1 = stored h (plug - 32) gap in
      let h2 = stored h1 (plug - 24) distance in
      word_in-store_in_other h2.memories (plug - 16) children (plug - 32) (omega arith) zg (λ e. omega arith)
      ∙ word_in-store_in_other h1.memories (plug - 24) distance (plug - 32) (omega arith) zg (λ e. omega arith)
      ∙ word_in-store_in_same h.memories (plug - 32) gap w.gap.inside

  pub distance_is : word_of (written h plug gap distance children) (plug - 24) ≡ distance
  distance_is =
      let above = w.above in
      let zg = w.gap.aligned in
      let h1 = stored h (plug - 32) gap in
      let h2 = stored h1 (plug - 24) distance in
      word_in-store_in_other h2.memories (plug - 16) children (plug - 24) (omega arith) (omega arith) (λ e. omega arith)
      ∙ word_in-store_in_same h1.memories (plug - 24) distance first_can.0.inside

  pub children_is : word_of (written h plug gap distance children) (plug - 16) ≡ children
  children_is =
      let h1 = stored h (plug - 32) gap in
      let h2 = stored h1 (plug - 24) distance in
      word_in-store_in_same h2.memories (plug - 16) children second_can.0.inside

  pub written_shape : SameShape h (written h plug gap distance children)
  written_shape =
      let h1 = stored h (plug - 32) gap in
      let h2 = stored h1 (plug - 24) distance in
      SameShape-stored h h2 (plug - 16) children
      (SameShape-stored h h1 (plug - 24) distance (SameShape-stored h h (plug - 32) gap (SameShape-refl h)))

-- reading the words of an information gives it back
pub info_back : (word : ℕ → ℕ) (plug : ℕ) (info : PlugInfo) → word (plug - 32) ≡ info.gap
    → word (plug - 24) ≡ cast_unsigned w64 info.distance
    → word (plug - 16) ≡ children_word info.left info.right → SFits w64 info.distance → info.left < 4294967296
    → info_at word plug ≡ info
info_back word plug info g d c fits small =
    let dist : cast_signed w64 (word (plug - 24)) ≡ info.distance =
    ap (cast_signed w64) d ∙ to_z-of_z w64 info.distance fits in
    let left : word (plug - 16) % 4294967296 ≡ info.left = omega (arith, c, small) in
    let right : word (plug - 16) / 4294967296 ≡ info.right = omega (arith, c, small) in
    λ e. record { gap = g e; distance = dist e; left = left e; right = right e }
