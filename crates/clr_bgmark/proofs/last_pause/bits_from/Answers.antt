use Rattle.std.proofs.Common.{◌≡◌, ℕ, ◌-◌, ◌/◌, subst, sym, arith}
use Rattle.std.specs.Int.{bit_at}
use Rattle.std.proofs.Math.Nat.{mod-eq_of_lt}
use Rattle.clr_bgmark.proofs.MarkedBehind.{high_all, high_fits, high_only}
use Rattle.clr_bgmark.proofs.last_pause.bits_from.Goals as goal

pub returns-clause-only : goal.returns-clause-only
returns-clause-only c =
    let low = (c.args.from - c.args.place) / 8 in
    let same = mod-eq_of_lt (high_fits c.args.word low c.ranges.word.fits) in
    let from = c.requires.aligned in
    let place = c.requires.place in
    let more = c.if-from-place.false in
    λ i on.
    let (bit, above) = high_only c.args.word low i (subst (λ (w : ℕ). bit_at w i ≡ 1) same on) in
    (bit, omega (arith, above, from, place, more))

pub returns-clause-all : goal.returns-clause-all
returns-clause-all c =
    let low = (c.args.from - c.args.place) / 8 in
    let same = mod-eq_of_lt (high_fits c.args.word low c.ranges.word.fits) in
    λ i on above.
    subst (λ (w : ℕ). bit_at w i ≡ 1) (sym same) (high_all c.args.word low i on (omega (arith, above)))
