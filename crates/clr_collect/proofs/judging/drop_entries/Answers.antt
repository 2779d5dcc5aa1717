-- Entries are dropped where there may be some to drop.
use Rattle.std.proofs.Common.{rules, sym, slice_index}
use Rattle.clr_mark.proofs.Rooting.{at_in}
use Rattle.clr_view.specs.Memory.{is_left_name}
use Rattle.clr_collect.proofs.EntryPasses.{dropped_entries, dropped_ready}
use Rattle.clr_collect.proofs.JudgedEntries.{all_stay}
use Rattle.clr_collect.proofs.judging.drop_entries.Goals as goal

pub dead_from-requires : goal.dead_from-requires
dead_from-requires c = λ i inside high κs p e a l. (
  c.requires.held,
  c.requires.stand (slice_index c.args.finals.now.entries i) (at_in c.args.finals.now.entries i 0 inside),
)

pub returns-then-any_dead-clause-entries : goal.returns-then-any_dead-clause-entries
returns-then-any_dead-clause-entries c =
    dropped_entries c.args.types.now c.args.heap.now c.args.marker.now.oldest c.lowest_condemned-low.result
    c.lowest_condemned-low.ensures.below c.args.finals.now c.dead_from.new.self c.requires.stand _
    c.dead_from.ensures.places (λ x v answer. search rules)

pub returns-then-any_dead-clause-ready : goal.returns-then-any_dead-clause-ready
returns-then-any_dead-clause-ready c =
    dropped_ready c.args.types.now c.args.heap.now c.args.marker.now.oldest c.lowest_condemned-low.result
    c.lowest_condemned-low.ensures.below c.args.finals.now c.dead_from.new.self c.requires.stand _
    c.dead_from.ensures.places (λ x v answer. search rules)

pub returns-else-any_dead-clause-entries : goal.returns-else-any_dead-clause-entries
returns-else-any_dead-clause-entries c =
    sym (all_stay (is_left_name c.args.types.now c.args.heap.now c.args.marker.now.oldest) c.args.finals.now.entries
    (c.requires.left c.if-any_dead.false))
