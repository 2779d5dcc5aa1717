-- Each thread's context is looked at.
use Rattle.std.proofs.Common.{◌≡◌, ℕ, zero, suc, ◌+◌, ◌-◌, ◌<◌, ◌≤◌, List, [], ◌∷◌, length, replicate, ap, refl, sym}
use Rattle.std.proofs.Common.{◌∙◌, subst}
use Rattle.std.proofs.Common.{arith, Option, None, Some, is_some, option_map, true, false}
use Rattle.std.proofs.Common.{inl, inr}
use Rattle.std.proofs.lemmas.Bool.{cases_lt}
use Rattle.std.specs.Prelude.{slice_get}
use Rattle.clr_types.specs.Ranges.{Piece}
use Rattle.clr_types.specs.Segments.{flat_option, rest_of}
use Rattle.clr_heap.specs.View.{frame, HeapView, no_rests, rest_bounds}
use Rattle.clr_ctx.proofs.young_items.has_no_contexts.Goals as goal

-- a list of nothing else
all-none : (rs : List (Option Piece)) → ((i : ℕ) → i < length rs → flat_option (slice_get rs i) ≡ None)
    → rs ≡ replicate (length rs) None
all-none [] none = refl
all-none (None ∷ rs) none =
    ap (λ (os : List (Option Piece)). None ∷ os) (all-none rs (λ i l. none (suc i) (omega (arith, l))))
all-none (Some r ∷ rs) none = absurd (let e : Some r ≡ None = none 0 (omega arith) in cc)

bare : (h : HeapView) (t : ℕ) → length h.rests ≡ 16 → 17 ≤ t → ((k : ℕ) → 1 ≤ k → k < t → rest_of (frame h) k ≡ None)
    → h.rests ≡ no_rests
bare h t count all none =
    all-none h.rests (λ i l.
    let same : i + 1 - 1 ≡ i = omega arith in
    subst (λ n. flat_option (slice_get h.rests n) ≡ None) same
    (none (i + 1) (omega arith) (omega (arith, l, count, all))))
    ∙ ap (λ n. replicate n None) count

-- what is mapped to nothing is nothing
unmapped : (o : Option Piece) (f : Piece → ℕ × ℕ) → is_some (option_map f o) ≡ false → o ≡ None
unmapped None f e = refl
unmapped (Some x) f e = absurd cc

pub loop-thread-preserved : goal.loop-thread-preserved
loop-thread-preserved c = λ k low high. elim (cases_lt k c.loop-thread.thread) [
  | inl u ↦ c.loop-thread.invariant k low u
  | inr u ↦
      let same : c.loop-thread.thread ≡ k = omega arith in
      subst (λ n. rest_of (frame c.args.heap.now) n ≡ None) same
      (unmapped (rest_of (frame c.args.heap.now) c.loop-thread.thread) rest_bounds
      (ap is_some (sym c.hole.ensures) ∙ sym c.is_some.ensures ∙ c.if-is_some.false))
]

pub returns : goal.returns
returns c = λ yes. bare c.args.heap.now c.loop-thread.thread c.requires.threads c.loop-thread-test.false
    c.loop-thread.invariant
