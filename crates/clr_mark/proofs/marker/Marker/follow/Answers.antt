use Rattle.std.proofs.Common.{sym, ◌∙◌}
use Rattle.clr_heap.specs.View.{word_of}
use Rattle.clr_mark.proofs.Following.{scan_none}
use Rattle.clr_mark.proofs.Laws.{grayed-refl}
use Rattle.clr_mark.proofs.marker.Marker.follow.Goals as goal

pub scan_run-requires-clause-run : goal.scan_run-requires-clause-run
scan_run-requires-clause-run c =
    c.requires.known.run (word_of c.args.heap.now) c.args.obj (sym c.requires.word ∙ c.if-mt-known.true)

pub returns-then-is_leaf-clause-grayed : goal.returns-then-is_leaf-clause-grayed
returns-then-is_leaf-clause-grayed c = grayed-refl c.args.types.now c.args.heap.now c.args.self.now

pub returns-then-is_leaf-clause-followed : goal.returns-then-is_leaf-clause-followed
returns-then-is_leaf-clause-followed c = scan_none c.args.types.now c.args.heap.now c.args.obj c.requires.closed
    c.requires.marked c.args.self.now.oldest (c.is_leaf.ensures c.if-is_leaf.true)
