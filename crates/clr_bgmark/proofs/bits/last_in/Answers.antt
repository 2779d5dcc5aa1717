use Rattle.std.proofs.Common.{ℕ, ◌*◌, ◌%◌, ◌-◌, ◌^◌, ap, ◌∙◌, arith, refl, w64}
use Rattle.std.specs.Int.{bit_at, leading_zeros}
use Rattle.std.proofs.lemmas.Nat.Bits.{bit_at-zero}
use Rattle.clr_bgmark.proofs.LastInWord.{last_told, none_last}
use Rattle.clr_bgmark.proofs.bits.last_in.Goals as goal

pub returns-then-word-eq0-clause-none : goal.returns-then-word-eq0-clause-none
returns-then-word-eq0-clause-none c =
    λ i low near. ap (λ w. bit_at w (i % 64)) c.if-word-eq0.true ∙ bit_at-zero (i % 64)

pub returns-then-rest-eq0-clause-none : goal.returns-then-rest-eq0-clause-none
returns-then-rest-eq0-clause-none c = none_last c.args.word c.args.n c.if-rest-eq0.true

-- the number of zeros above the last bit
abbrev zeros : ℕ → ℕ → ℕ
zeros word n = leading_zeros w64 (word * 2 ^ (63 - n % 64) % 2 ^ 64)

pub overflow_sub-result : goal.overflow_sub-result
overflow_sub-result c =
    let some = c.if-rest-eq0.false in
    (last_told c.args.word c.args.n (zeros c.args.word c.args.n) (omega (arith, some)) refl).0

pub returns-clause-near : goal.returns-clause-near
returns-clause-near c =
    let some = c.if-rest-eq0.false in
    (last_told c.args.word c.args.n (zeros c.args.word c.args.n) (omega (arith, some)) refl).1.near

pub returns-clause-here : goal.returns-clause-here
returns-clause-here c =
    let some = c.if-rest-eq0.false in
    (last_told c.args.word c.args.n (zeros c.args.word c.args.n) (omega (arith, some)) refl).1.here

pub returns-clause-last : goal.returns-clause-last
returns-clause-last c =
    let some = c.if-rest-eq0.false in
    (last_told c.args.word c.args.n (zeros c.args.word c.args.n) (omega (arith, some)) refl).1.last
