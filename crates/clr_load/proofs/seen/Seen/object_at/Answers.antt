-- An object stands where a start is.
use Rattle.std.proofs.Common.{sym, ◌∙◌}
use Rattle.clr_sos.proofs.PlacedItems.{no_object, stands_there, the_object}
use Rattle.clr_load.specs.SeenItems.{items_seen}
use Rattle.clr_load.proofs.seen.Seen.object_at.Goals as goal

pub object_item-requires-clause-stands : goal.object_item-requires-clause-stands
object_item-requires-clause-stands c =
    stands_there c.args.self.now.types.now c.args.self.now.heap.now c.requires.heap c.requires.held.walkable
    c.args.place
    (sym (c.requires.starts.same c.args.place) ∙ sym c.has.ensures ∙ c.if-has.true)

pub returns-then-has-clause-object : goal.returns-then-has-clause-object
returns-then-has-clause-object c =
    sym (the_object c.args.self.now.types.now c.args.self.now.heap.now c.requires.heap c.requires.held.walkable
    c.args.place
    c.object_item.result c.object_item.ensures)

pub returns-else-has-clause-object : goal.returns-else-has-clause-object
returns-else-has-clause-object c =
    sym (no_object (items_seen c.args.self.now) c.args.place
    (sym (c.requires.starts.same c.args.place) ∙ sym c.has.ensures ∙ c.if-has.false))
