use Rattle.std.proofs.Common.{◌≡◌, ℕ, ◌+◌, ◌-◌, arith, inl, inr, ap, sym, ◌∙◌, subst, Option}
use Rattle.std.specs.Prelude.{IfNone, IfSome}
use Rattle.clr_heap.specs.View.{word_of}
use Rattle.clr_heap.proofs.Rewrite.{shaped_heap}
use Rattle.clr_model.specs.Compaction.{Move}
use Rattle.clr_moves.specs.Moves.{landing_end}
use Rattle.clr_pinq.specs.Queue.{IsPlain, logical}
use Rattle.clr_pinq.specs.declared.entry.Saved.{Saved}
use Rattle.clr_plugs.specs.Info.{HasInfo}
use Rattle.clr_compact.specs.Landings.{three_before}
use Rattle.clr_compact.proofs.WholeLanding.{has_last, info-shapes, landed_plain, landed_put}
use Rattle.clr_compact.proofs.whole.land_plug.Goals as goal

pub saved_before-requires-clause-info : goal.saved_before-requires-clause-info
saved_before-requires-clause-info c =
    let can = c.requires.can in
    let up = can.up in
    let lower = can.lower in
    let e : c.args.plug.start + c.args.plug.size ≡ c.start.result + c.size.result =
    (let a = c.start.ensures in let b = c.size.ensures in omega arith) in
    let P : ℕ → Type 0 = λ n. HasInfo c.args.heap.now n in
    subst P e (has_last c.args.heap.now c.args.plug.start c.args.plug.size c.requires.heap (omega arith)
    can.aligned.0 can.least can.from)

pub put_before-requires-clause-heap : goal.put_before-requires-clause-heap
put_before-requires-clause-heap c =
    shaped_heap c.args.heap.now c.slide_plug.new.heap c.slide_plug.ensures.shape c.requires.heap

pub put_before-requires-clause-info : goal.put_before-requires-clause-info
put_before-requires-clause-info c =
    let can = c.requires.can in
    let e : c.args.plug.to + c.args.plug.size ≡ c.to.result + c.size-in-Some.result =
    (let a = c.to.ensures in let b = c.size-in-Some.ensures in omega arith) in
    let P : ℕ → Type 0 = λ n. HasInfo c.slide_plug.new.heap n in
    subst P e (info-shapes c.args.heap.now c.slide_plug.new.heap (c.args.plug.to + c.args.plug.size)
    c.slide_plug.ensures.shape
    (has_last c.args.heap.now c.args.plug.to c.args.plug.size c.requires.heap can.up can.aligned.1 can.least
    can.into))

pub returns-in-Some-clause-words : goal.returns-in-Some-clause-words
returns-in-Some-clause-words c =
    let can = c.requires.can in
    let v : Move = c.args.plug in
    let now : ℕ → ℕ = word_of c.put_before.new.heap in
    let whole : ℕ → ℕ = logical c.args.pins.now.entries (word_of c.args.heap.now) in
    let e : landing_end v ≡ c.to.result + c.size-in-Some.result =
    (let a = c.to.ensures in let b = c.size-in-Some.ensures in omega arith) in
    let f : v.start + v.size ≡ c.start.result + c.size.result =
    (let a = c.start.ensures in let b = c.size.ensures in omega arith) in
    let q = c.put_before.ensures in
    let P : Option Saved → Type 0 = λ o. IfSome o (λ s. s ≡ three_before c.args.pins.now.entries
    (word_of c.args.heap.now) (c.start.result + c.size.result)) in
    let is : c.in-Some.saved ≡ three_before c.args.pins.now.entries (word_of c.args.heap.now)
    (c.start.result + c.size.result) = subst P c.in-Some.is c.saved_before.ensures.some in
    landed_put c.args.pins.now.entries v c.args.top c.args.heap.now can c.requires.end (word_of c.slide_plug.new.heap)
    now can.from.whole c.slide_plug.ensures.words
    (ap (λ (n : ℕ). now (n - 32)) e ∙ q.first ∙ ap (λ s. s.w0) is
    ∙ ap (λ (n : ℕ). whole (n - 32)) (sym f))
    (ap (λ (n : ℕ). now (n - 24)) e ∙ q.second ∙ ap (λ s. s.w1) is
    ∙ ap (λ (n : ℕ). whole (n - 24)) (sym f))
    (ap (λ (n : ℕ). now (n - 16)) e ∙ q.third ∙ ap (λ s. s.w2) is
    ∙ ap (λ (n : ℕ). whole (n - 16)) (sym f))
    (λ b z o. q.others b z (elim o [ inl l ↦ inl (omega arith) | inr l ↦ inr (omega arith) ]))

pub returns-in-None-clause-words : goal.returns-in-None-clause-words
returns-in-None-clause-words c =
    let can = c.requires.can in
    let v : Move = c.args.plug in
    let f : v.start + v.size ≡ c.start.result + c.size.result =
    (let a = c.start.ensures in let b = c.size.ensures in omega arith) in
    let P : Option Saved → Type 0 = λ o. IfNone o (IsPlain c.args.pins.now.entries (c.start.result + c.size.result - 32)
    (c.start.result + c.size.result - 8)) in
    let told = subst P c.in-None.is c.saved_before.ensures.none in
    let plain : IsPlain c.args.pins.now.entries (v.start + v.size - 32) (v.start + v.size - 8) =
    λ a low high. told a (omega (arith, low, f)) (omega (arith, high, f)) in
    landed_plain c.args.pins.now.entries v c.args.top c.args.heap.now can c.requires.end
    (word_of c.slide_plug-in-None.new.heap) plain c.slide_plug-in-None.ensures.words
