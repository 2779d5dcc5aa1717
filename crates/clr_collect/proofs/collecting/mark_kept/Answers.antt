-- From what is alive to what is kept.
use Rattle.std.proofs.Common.{ap, refl}
use Rattle.clr_mark.specs.Waiting.{MarkerView}
use Rattle.clr_survivors.specs.Survivors.{world_of}
use Rattle.clr_collect.proofs.KeptNames.{alive_entries, alive_handles}
use Rattle.clr_collect.proofs.MarkingGoesOn.{kept_on}
use Rattle.clr_collect.proofs.TidySpaces.{tidy_kept}
use Rattle.clr_collect.proofs.collecting.mark_kept.Goals as goal

pub process_references-requires-clause-handles : goal.process_references-requires-clause-handles
process_references-requires-clause-handles c =
    alive_handles (world_of c.args.types.now c.args.space.now.heap c.args.roots.now) c.requires.world c.args.g
    c.mark_alive.new.space.heap c.mark_alive.ensures.alive

pub process_references-requires-clause-entries : goal.process_references-requires-clause-entries
process_references-requires-clause-entries c =
    alive_entries (world_of c.args.types.now c.args.space.now.heap c.args.roots.now) c.requires.world c.args.g
    c.mark_alive.new.space.heap c.mark_alive.ensures.alive

pub returns-clause-kept : goal.returns-clause-kept
returns-clause-kept c =
    kept_on (world_of c.args.types.now c.args.space.now.heap c.args.roots.now)
    c.mark_alive.new.space.heap c.process_references.new.heap c.process_references.new.handles
    c.process_references.new.finals c.args.g
    c.mark_alive.new.marker.oldest (ap (λ (n : MarkerView). n.oldest) c.mark_alive.ensures.marker)
    c.mark_alive.ensures.alive (c.process_references.ensures.kept c.args.space.now.heap c.args.roots.now.locals.items)

pub returns-clause-tidy : goal.returns-clause-tidy
returns-clause-tidy c =
    tidy_kept (world_of c.args.types.now c.args.space.now.heap c.args.roots.now) c.args.space.now
    (record c.mark_alive.new.space { heap = c.process_references.new.heap }) c.process_references.new.handles
    c.process_references.new.finals
    c.args.g refl c.requires.tidy
    (kept_on (world_of c.args.types.now c.args.space.now.heap c.args.roots.now)
    c.mark_alive.new.space.heap c.process_references.new.heap c.process_references.new.handles
    c.process_references.new.finals c.args.g
    c.mark_alive.new.marker.oldest (ap (λ (n : MarkerView). n.oldest) c.mark_alive.ensures.marker)
    c.mark_alive.ensures.alive (c.process_references.ensures.kept c.args.space.now.heap c.args.roots.now.locals.items))
    (c.process_references.ensures.tables c.mark_alive.new.space.cards c.mark_alive.new.space.bricks
    c.mark_alive.ensures.tables)
