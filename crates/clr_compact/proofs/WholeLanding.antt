-- One plug is placed, with the words at its end.
use Rattle.std.proofs.Common.{◌≡◌, ◌⊎◌, inl, inr, ℕ, ◌+◌, ◌-◌, ◌%◌, ◌<◌, ◌≤◌, List, None, get_or, refl, ap, sym, ◌∙◌}
use Rattle.std.proofs.Common.{subst, arith}
use Rattle.std.proofs.lemmas.Bool.{cases_lt, cases_order}
use Rattle.clr_mem.specs.Words.{end_of}
use Rattle.clr_heap.specs.Memories.{InOne}
use Rattle.clr_heap.specs.View.{HeapView, IsHeap, SameShape, word_of}
use Rattle.clr_heap.proofs.Addresses.{InOne-shapes}
use Rattle.clr_model.specs.Compaction.{Move}
use Rattle.clr_moves.specs.Moves.{landing_end}
use Rattle.clr_compact.specs.Slides.{CanLand, HasCells, HasLanded}
use Rattle.clr_pinq.specs.Queue.{IsPlain, logical, or_else, queue_word}
use Rattle.clr_pinq.specs.declared.entry.PinEntry.{PinEntry}
use Rattle.clr_plugs.specs.Info.{HasInfo}
use Rattle.clr_plugs.proofs.Information.{inner_word}
use Rattle.clr_compact.specs.Landings.{EndsUnderInfo, HasLandedWhole}

-- the last three words of a range of cells can be read
pub has_last : (h : HeapView) (a n : ℕ) → IsHeap h → 8 ≤ a → a % 8 ≡ 0 → 24 ≤ n → InOne h.memories (a - 8) n
    → HasInfo h (a + n)
has_last h a n heap up z least one =
    let zn = one.whole in
    let here = inner_word h (a - 8) n (a + n - 32) heap one (omega arith) (omega arith) (omega arith) in
    record {
      above = omega arith;
      bytes = record {
        word = here.word;
        whole = refl;
        within = λ d. let P : ℕ → Type 0 = λ k. a - 8 + n ≤ end_of (get_or h.memories k d) in
            let e = subst P here.same (one.within d) in omega (arith, e);
      };
    }

pub info-shapes : (h now : HeapView) (place : ℕ) → SameShape h now → HasInfo h place → HasInfo now place
info-shapes h now place shape has =
    record { above = has.above; bytes = InOne-shapes h.memories now.memories (place - 32) 24 shape.memories has.bytes }

module _ (es : List PinEntry) (v : Move) (top : ℕ) (h : HeapView) (can : CanLand h v top)
    (ends : EndsUnderInfo es v) where
  abbrev whole : ℕ → ℕ
  whole = logical es (word_of h)

  gap_up : top ≤ v.to
  gap_up = elim can.gap [ inl e ↦ omega arith | inr l ↦ omega arith ]

  plain_is : (b : ℕ) → queue_word es b ≡ None → word_of h b ≡ whole b
  plain_is b none = sym (ap (λ o. or_else o (word_of h b)) none)

  -- no words are saved at its end
  pub landed_plain : (now : ℕ → ℕ) → IsPlain es (v.start + v.size - 32) (v.start + v.size - 8)
      → HasLanded v top (word_of h) now → HasLandedWhole v top whole (word_of h) now
  landed_plain now plain l = record {
    cells = λ b z low high. l.cells b z low high ∙ plain_is (b + (v.start - v.to)) (none b z low high);
    free = l.free;
    others = l.others;
  }
    where
      none : (b : ℕ) → b % 8 ≡ 0 → v.to ≤ b + 8 → b + 8 < landing_end v → queue_word es (b + (v.start - v.to)) ≡ None
      none b z low high =
          let lower = can.lower in
          let (zs, zt) = can.aligned in
          elim (cases_lt (b + (v.start - v.to) + 32) (v.start + v.size)) [
            | inl far ↦ ends (b + (v.start - v.to)) (omega arith) (omega arith) far
            | inr near ↦ plain (b + (v.start - v.to)) (omega arith) (omega arith)
          ]

  -- they are written where it ends
  pub landed_put : (mid now : ℕ → ℕ) → v.size % 8 ≡ 0 → HasLanded v top (word_of h) mid
      → now (landing_end v - 32) ≡ whole (v.start + v.size - 32)
      → now (landing_end v - 24) ≡ whole (v.start + v.size - 24)
      → now (landing_end v - 16) ≡ whole (v.start + v.size - 16)
      → ((b : ℕ) → b % 8 ≡ 0 → (b + 32 < landing_end v) ⊎ (landing_end v ≤ b + 8) → now b ≡ mid b)
      → HasLandedWhole v top whole (word_of h) now
  landed_put mid now zn l w0 w1 w2 rest = record {
    cells = cells;
    free = λ some.
        let room : top + 24 ≤ v.to = elim can.gap [ inl e ↦ absurd (omega arith) | inr far ↦ far ] in
        let f = l.free some in
        let k = can.head some in
        let least = can.least in
        let up = k.above in
        record {
          header = rest (top - 8) k.header.aligned (inl (omega arith)) ∙ f.header;
          mt = rest top k.mt.aligned (inl (omega arith)) ∙ f.mt;
          len = rest (top + 8) k.len.aligned (inl (omega arith)) ∙ f.len;
        };
    others = λ b z o. let least = can.least in let up = gap_up in
        rest b z (elim o [ inl under ↦ inl (omega arith) | inr over ↦ inr over ]) ∙ l.others b z o;
  }
    where
      at : (b a : ℕ) → b ≡ a → now a ≡ whole (v.start + v.size - (landing_end v - a)) → v.to ≤ b + 8
          → b + 8 < landing_end v → now b ≡ whole (b + (v.start - v.to))
      at b a e w low high =
          let lower = can.lower in
          let same : v.start + v.size - (landing_end v - a) ≡ b + (v.start - v.to) = omega arith in
          ap now e ∙ w ∙ ap whole same

      cells : HasCells whole now v
      cells b z low high =
          let lower = can.lower in
          let least = can.least in
          let (zs, zt) = can.aligned in
          elim (cases_lt (b + 32) (landing_end v)) [
            | inl far ↦ rest b z (inl far) ∙ l.cells b z low high
                ∙ plain_is (b + (v.start - v.to))
                (ends (b + (v.start - v.to)) (omega arith) (omega arith) (omega arith))
            | inr near ↦ elim (cases_order (b + 24) (landing_end v)) [
              | inl e ↦ at b (landing_end v - 24) (omega arith) (w1 ∙ ap whole (omega arith)) low high
              | inr (inl less) ↦ at b (landing_end v - 32) (omega arith) (w0 ∙ ap whole (omega arith)) low high
              | inr (inr more) ↦ at b (landing_end v - 16) (omega arith) (w2 ∙ ap whole (omega arith)) low high
            ]
          ]
