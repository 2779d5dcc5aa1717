use Rattle.std.proofs.Common.{sym, ◌∙◌}
use Rattle.clr_types.specs.Ranges.{fits, Piece}
use Rattle.clr_items.proofs.FoundItems.{found_passes}
use Rattle.clr_heap_tests.proofs.contexts.taken_whole.Goals as goal

pub take_front-requires-clause-listed : goal.take_front-requires-clause-listed
take_front-requires-clause-listed c =
    (found_passes (λ (p : Piece). fits c.args.size p.size) c.args.items.now.items c.in_ok-item.item
    (sym c.first_in.ensures ∙ c.in_ok-item.was)).0
