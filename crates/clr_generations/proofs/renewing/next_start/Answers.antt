use Rattle.std.proofs.Common.{◌-◌, arith, inl, inr}
use Rattle.std.proofs.lemmas.Bool.{cases_lt}
use Rattle.clr_bricks.specs.Bricks.{entry_at}
use Rattle.clr_generations.proofs.Renewed.{led_no_root}
use Rattle.clr_generations.proofs.renewing.next_start.Goals as goal

pub led_on-to-requires-clause-shared : goal.led_on-to-requires-clause-shared
led_on-to-requires-clause-shared c = λ under.
    let near = c.stop_from-stop.ensures.near in
    c.requires.shared c.args.from (c.stop_from-stop.result - 1) (omega arith) (omega (arith, under))
    (omega (arith, under, near))

pub returns-clause-none : goal.returns-clause-none
returns-clause-none c = λ i up under.
    let most = c.next_root.ensures.high in
    let stop = c.stop_from-stop.ensures.none i up (omega (arith, under, most)) in (
      elim (cases_lt i c.led_on-to.result) [
        | inl low ↦
            let behind = c.led_on-to.ensures.later (omega (arith, up, low)) in
            led_no_root (entry_at c.args.bricks.now) c.args.next c.led_on-to.result i c.led_on-to.ensures.led
            (omega (arith, behind, up)) low
        | inr high ↦
            let most' = c.max.ensures in
            c.next_root.ensures.none i (omega (arith, most', up, high)) under
      ],
      stop,
    )

pub next_root-requires : goal.next_root-requires
next_root-requires c = λ under.
    let near = c.stop_from-stop.ensures.near in
    let from = c.max.ensures in
    c.requires.shared c.max.result (c.stop_from-stop.result - 1) (omega (arith, from)) (omega (arith, under))
    (omega (arith, under, near))
