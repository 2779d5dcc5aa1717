use Rattle.std.proofs.Common.{sym, ◌∙◌}
use Rattle.clr_plan.proofs.Settling.{gone-by, gone-pinned}
use Rattle.clr_plan.proofs.way.way_of.Goals as goal

pub returns-then-pinned : goal.returns-then-pinned
returns-then-pinned c = record {
  gone = λ w can. rw c.start.ensures (gone-pinned w c.args.heap.now c.args.queue.now.entries c.args.at c.args.home
      c.args.plug can (sym c.pinned.ensures ∙ c.if-pinned.true));
}

pub returns : goal.returns
returns c = record {
  gone = λ w can. rw c.size-2.ensures
      (gone-by w c.args.heap.now c.args.queue.now.entries c.args.at c.args.home c.args.plug can
      c.find_place-found.result c.size.result c.size.ensures (sym c.pinned.ensures ∙ c.if-pinned.false)
      c.find_place-found.ensures.found);
}
