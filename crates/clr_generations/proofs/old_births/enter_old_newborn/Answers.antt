use Rattle.std.proofs.Common.{◌≡◌, ℕ, ◌+◌, ◌/◌, ◌∙◌, arith}
use Rattle.clr_bricks.specs.Bricks.{entry_at}
use Rattle.clr_covers.proofs.Spans.{is_covered-spans}
use Rattle.clr_generations.specs.Born.{with_named}
use Rattle.clr_generations.specs.Renewing.{led_back}
use Rattle.clr_generations.proofs.OldBirthLaws.{brick_law-told, others-led}
use Rattle.clr_generations.proofs.old_births.enter_old_newborn.Goals as goal
use Rattle.clr_generations.proofs.old_births.enter_old_newborn.Goals.{After-lead_back}

pub lead_back-requires-clause-covered : goal.lead_back-requires-clause-covered
lead_back-requires-clause-covered c = λ i above under.
    is_covered-spans c.name_newborn.new.bricks c.args.bricks.now i c.name_newborn.ensures.spans
    ∙ c.requires.covered i (omega arith) (c.led_end-to.ensures.reached i (omega arith) under)

-- the entries in the end
told : (c : After-lead_back) (i : ℕ) → entry_at c.lead_back.new.bricks i
    ≡ led_back (with_named (entry_at c.args.bricks.now) c.args.place) (c.args.place / 4096 + 1) c.led_end-to.result i
told c i =
    c.lead_back.ensures.entries i
    ∙ (λ k. led_back (λ n. c.name_newborn.ensures.entries n k) (c.args.place / 4096 + 1) c.led_end-to.result i)

pub returns-clause-bricks : goal.returns-clause-bricks
returns-clause-bricks c = λ rows before after objects now newborn place size b law.
    brick_law-told rows before after objects now newborn (entry_at c.args.bricks.now)
    (entry_at c.lead_back.new.bricks) c.args.place c.args.size c.led_end-to.result place size c.led_end-to.ensures
    (told c) b law

pub returns-clause-others : goal.returns-clause-others
returns-clause-others c = λ i away.
    told c i
    ∙ others-led (entry_at c.args.bricks.now) c.args.place c.args.size c.led_end-to.result c.led_end-to.ensures
    c.requires.some i away
