use Rattle.clr_view.proofs.Headers.{flagged_stands}
use Rattle.clr_heap_tests.proofs.objects.suppress.Goals as goal

pub is_suppressed-requires-clause-stands : goal.is_suppressed-requires-clause-stands
is_suppressed-requires-clause-stands c =
    (flagged_stands c.set_suppressed.ensures.flagged c.args.place).0 c.requires.stands

pub returns-clause-stands : goal.returns-clause-stands
returns-clause-stands c = (flagged_stands c.set_suppressed.ensures.flagged c.args.place).0 c.requires.stands
