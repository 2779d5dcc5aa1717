use Rattle.std.proofs.Common.{◌≡◌, ◌⊎◌, ℕ, ◌+◌, ◌-◌, ◌%◌, ◌<◌, ◌≤◌, length, arith, ap, sym, refl, ◌∙◌, subst, true}
use Rattle.clr_heap.specs.View.{HeapView, segment_at, word_of}
use Rattle.clr_heap.proofs.Rewrite.{SameShape-refl, shaped_heap}
use Rattle.clr_plugs.specs.Info.{HasInfo, IsInfoWord}
use Rattle.clr_pinq.specs.Queue.{IsPlain, logical}
use Rattle.clr_moves.specs.Moves.{part_of, takes}
use Rattle.clr_compact.proofs.BeforeParts.{IsPuttingBefore, part_info, part_still, put_more, put_outside, put_plain}
use Rattle.clr_compact.proofs.BeforeParts.{put_skip, putting_before_begins, takes_still, three_words}
use Rattle.clr_compact.proofs.before.put_before_parts.Goals as goal
use Rattle.clr_compact.proofs.before.put_before_parts.Goals.{then-takes_part+then-next_saved-start}
use Rattle.clr_compact.proofs.before.put_before_parts.Goals.{then-takes_part+else-next_saved-start, else-takes_part}

pub words_before-saved-requires-clause-info : goal.words_before-saved-requires-clause-info
words_before-saved-requires-clause-info c =
    let h = c.args.heap.now in
    let p = c.loop-k.invariant in
    let n = c.segments-count.ensures.count in
    let k = c.loop-k.k in
    let l = c.loop-k-test.true in
    let inside : k < length h.segments = omega (arith, n, l) in
    let on : takes c.args.g (segment_at h k) ≡ true =
    sym (takes_still h c.loop-k.heap c.args.g k p.shape) ∙ sym (ap (takes c.args.g) c.info.ensures.value)
    ∙ sym c.takes_part.ensures ∙ c.if-takes_part.true in
    let e : part_of h c.args.g k ≡ c.part_start-start.result =
    sym (part_still h c.loop-k.heap c.args.g k p.shape) ∙ sym c.part_start-start.ensures in
    subst (λ (a : ℕ). HasInfo c.loop-k.heap a) e
    (part_info h c.loop-k.heap c.args.g k c.segments-count.ensures.heap p.shape inside
    (c.requires.starts k inside on))

pub put_before-requires-clause-info : goal.put_before-requires-clause-info
put_before-requires-clause-info c =
    let h = c.args.heap.now in
    let p = c.loop-k.invariant in
    let n = c.segments-count.ensures.count in
    let k = c.loop-k.k in
    let l = c.loop-k-test.true in
    let inside : k < length h.segments = omega (arith, n, l) in
    let on : takes c.args.g (segment_at h k) ≡ true =
    sym (takes_still h c.loop-k.heap c.args.g k p.shape) ∙ sym (ap (takes c.args.g) c.info.ensures.value)
    ∙ sym c.takes_part.ensures ∙ c.if-takes_part.true in
    let e : part_of h c.args.g k ≡ c.part_start-start.result =
    sym (part_still h c.loop-k.heap c.args.g k p.shape) ∙ sym c.part_start-start.ensures in
    subst (λ (a : ℕ). HasInfo c.loop-k.heap a) e
    (part_info h c.loop-k.heap c.args.g k c.segments-count.ensures.heap p.shape inside
    (c.requires.starts k inside on))

pub loop-k-preserved : goal.loop-k-preserved
loop-k-preserved c =
    let h = c.args.heap.now in
    let p = c.loop-k.invariant in
    let n = c.segments-count.ensures.count in
    let k = c.loop-k.k in
    let l = c.loop-k-test.true in
    let inside : k < length h.segments = omega (arith, n, l) in
    let heap = c.segments-count.ensures.heap in
    let es = c.args.pins.now.entries in
    let g = c.args.g in
    let now : HeapView = c.loop-k.heap in
    let P : HeapView → Type 0 = λ v. IsPuttingBefore h v es g (k + 1) in
    let told : c.takes_part.result ≡ takes g (segment_at h k) =
    c.takes_part.ensures ∙ ap (takes g) c.info.ensures.value ∙ takes_still h now g k p.shape in
    elim c.if-takes_part.branch [
      | then-takes_part+then-next_saved-start w ↦
          let on : takes g (segment_at h k) ≡ true = sym told ∙ w.if-takes_part.true in
          let e : w.part_start-start.result ≡ part_of h g k =
          w.part_start-start.ensures ∙ part_still h now g k p.shape in
          let start = c.requires.starts k inside on in
          let z = start.aligned in
          let low = start.low in
          let new : HeapView = w.put_before.new.heap in
          let q = w.put_before.ensures in
          let s = w.words_before-saved.ensures in
          let place : ℕ = w.part_start-start.result in
          let W : ℕ → Type 0 = λ a. (b : ℕ) → b % 8 ≡ 0 → IsInfoWord a b → word_of new b ≡ logical es (word_of now) b in
          let O : ℕ → Type 0 = λ a. (b : ℕ) → b % 8 ≡ 0 → (b + 32 < a) ⊎ (a ≤ b + 8) → word_of new b ≡ word_of now b in
          let each : W place =
          three_words es (word_of now) (word_of new) place (omega (arith, z, e)) (omega (arith, low, e))
          (q.first ∙ ap (λ t. t.w0) s) (q.second ∙ ap (λ t. t.w1) s) (q.third ∙ ap (λ t. t.w2) s) in
          subst P (sym w.heap-is)
          (put_more h now es g k p heap c.requires inside on new q.shape (subst W e each) (subst O e q.others))
      | then-takes_part+else-next_saved-start w ↦
          let on : takes g (segment_at h k) ≡ true = sym told ∙ w.if-takes_part.true in
          let e : w.part_start-start.result ≡ part_of h g k =
          w.part_start-start.ensures ∙ part_still h now g k p.shape in
          let start = c.requires.starts k inside on in
          let low = start.low in
          let far = w.if-next_saved-start.false in
          let plain : IsPlain es (part_of h g k - 32) (part_of h g k - 8) =
          λ a lo hi. w.next_saved.ensures.plain a (omega (arith, lo, e)) (omega (arith, hi, far, e)) in
          subst P (sym w.heap-is)
          (put_more h now es g k p heap c.requires inside on now (SameShape-refl now)
          (put_plain es (word_of now) (part_of h g k) (omega (arith, low)) plain) (λ b z o. refl))
      | else-takes_part w ↦ subst P (sym w.heap-is) (put_skip h now es g k p (sym told ∙ w.if-takes_part.false))
    ]

pub loop-k-init : goal.loop-k-init
loop-k-init c = putting_before_begins c.args.heap.now c.args.pins.now.entries c.args.g

pub returns-clause-lawful : goal.returns-clause-lawful
returns-clause-lawful c =
    shaped_heap c.args.heap.now c.loop-k.heap c.loop-k.invariant.shape c.segments-count.ensures.heap

pub returns-clause-outside : goal.returns-clause-outside
returns-clause-outside c = let n = c.segments-count.ensures.count in let l = c.loop-k-test.false in
    put_outside c.args.heap.now c.loop-k.heap c.args.pins.now.entries c.args.g c.loop-k.k c.loop-k.invariant
    (omega (arith, n, l)) c.requires
