use Rattle.std.proofs.Common.{◌/◌, sym, ◌∙◌, arith}
use Rattle.clr_covers.proofs.Spans.{is_covered-spans}
use Rattle.clr_heap.specs.View.{frame}
use Rattle.clr_compact.proofs.BrickWalks.{to-enter}
use Rattle.clr_compact.proofs.entering.enter_item.Goals as goal

pub set_root-requires-clause-covered : goal.set_root-requires-clause-covered
set_root-requires-clause-covered c =
    let is = to-enter (frame c.args.heap.now) c.args.found c.args.next (sym c.is_entered.ensures
    ∙ c.if-not-is_entered.false) in
    is_covered-spans c.lead_back.new.bricks c.args.bricks.now (c.args.found.place / 4096) c.lead_back.ensures.spans
    ∙ c.requires.covered (c.args.found.place / 4096) is.up (omega arith)
