use Rattle.std.proofs.Common.{◌≡◌, ◌<◌, length, ap, refl, sym, ◌∙◌, subst, arith, Option, Some, None, ℕ, false}
use Rattle.std.proofs.Common.{true≢false}
use Rattle.std.specs.Prelude.{IsSome, is_some}
use Rattle.clr_pinq.specs.Queue.{entry_word}
use Rattle.clr_pinq.specs.declared.entry.PinEntry.{PinEntry}
use Rattle.clr_pinq.proofs.Lookups.{queue_hit}
use Rattle.clr_pinq.proofs.queue.saved_in.Goals as goal

nothing : (o : Option ℕ) → is_some o ≡ false → o ≡ None
nothing None e = refl
nothing (Some w) e = absurd (true≢false e)

pub returns-then-is_some : goal.returns-then-is_some
returns-then-is_some c =
    let es = c.args.entries.now.items in
    let d = c.index.result.now in
    let less : c.args.near < length es = omega (arith, c.if-near-len.true, c.len.ensures) in
    let found = c.word-word.ensures ∙ ap (λ (e : PinEntry). entry_word e c.args.a) c.index.ensures in
    let P : Option ℕ → Type 0 = λ o. IsSome o in
    found ∙ sym (queue_hit 0 es c.args.near c.args.a d c.requires less
    (subst P found (sym c.is_some.ensures ∙ c.if-is_some.true)))

pub returns-then-is_place : goal.returns-then-is_place
returns-then-is_place c =
    let d = c.index.result.now in
    sym (nothing c.word-word.result (sym c.is_some.ensures ∙ c.if-is_some.false))
    ∙ c.word-word.ensures ∙ ap (λ (e : PinEntry). entry_word e c.args.a) c.index.ensures
    ∙ sym (c.is_place.ensures c.if-is_place.true d)
