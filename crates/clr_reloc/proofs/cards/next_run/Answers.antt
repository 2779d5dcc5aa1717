use Rattle.clr_cards.specs.Cards.{is_card_set}
use Rattle.clr_scan.proofs.CardRuns.{first_run}
use Rattle.clr_reloc.proofs.cards.next_run.Goals as goal

pub returns-clause-some : goal.returns-clause-some
returns-clause-some c = first_run (is_card_set c.args.cards.now) c.args.lo c.args.hi c.runs.result c.next.new.self
    c.next.result c.next.ensures.steps c.runs.ensures
