-- One digit, or two.
use Rattle.std.proofs.Common.{◌≡◌, ◌<◌, ◌∙◌, ◌+◌, ◌∷◌, ◌++◌, ℕ, List, ap, arith, decimal, drop}
use Rattle.clr_script.proofs.Places.{digit_alone, digit_more}
use Rattle.clr_script.proofs.quick.places.short_number.Goals as goal

pub returns-then-second-gt9-clause-read : goal.returns-then-second-gt9-clause-read
returns-then-second-gt9-clause-read c =
    let high = c.if-front-gt9.false in
    let low : c.digit_at-front.result < 10 = omega (arith, high) in
    (c.digit_at-front.ensures low ∙ digit_alone c.digit_at-front.result _ low, omega (arith, low))

pub returns-clause-read : goal.returns-clause-read
returns-clause-read c =
    let text = c.args.text.now in
    let front = c.digit_at-front.result in
    let second = c.digit_at-second.result in
    let high = c.if-front-gt9.false in
    let over = c.if-second-gt9.false in
    let low : front < 10 = omega (arith, high) in
    let less : second < 10 = omega (arith, over) in
    let end : c.args.at + 1 + 1 ≡ c.args.at + 2 = omega arith in (
      c.digit_at-front.ensures low ∙ (digit_alone front _ low
          ∙ (ap (λ (l : List ℕ). decimal front ++ l)
          (c.digit_at-second.ensures less ∙ ap (λ (n : ℕ). (48 + second) ∷ drop n text) end)
          ∙ digit_more front second _ less c.if-front-eq0.false (omega (arith, low)))),
      omega (arith, low, less),
    )
