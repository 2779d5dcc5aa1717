use Rattle.std.proofs.Common.{◌≡◌, ◌++◌, List}
use Rattle.clr_types.specs.declared.item.Item.{Item}
use Rattle.clr_model.specs.Sos.{stat_lines}
use Rattle.clr_sos.specs.Dumping.{AreTallies}
use Rattle.clr_sos.proofs.listing_counts.put_tallies.Given as goal

abbrev pub invariant-loop-t : goal.invariant-loop-t
invariant-loop-t l = (items : List Item) → AreTallies l.tallies items
    → l.text.items ≡ l.initial.text.items ++ stat_lines l.t 0 l.types items
