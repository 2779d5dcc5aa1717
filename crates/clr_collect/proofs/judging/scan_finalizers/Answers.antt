-- Entries are judged in two passes, between which flags are cleared.
use Rattle.std.proofs.Common.{◌≡◌, ◌-◌, ℕ, List, rules, ap, ◌∙◌, subst, drop, take, length, slice_index}
use Rattle.std.proofs.lemmas.List.{take_rest}
use Rattle.clr_types.specs.Rising.{IsIn}
use Rattle.clr_mark.proofs.Rooting.{at_in}
use Rattle.clr_collect.specs.Collecting.{AllLeft, HasUnflagged}
use Rattle.clr_collect.proofs.ClearedFlags.{behind-among}
use Rattle.clr_collect.proofs.EntryPasses.{all_left, all_unflagged, both_judged, flat_stand, mid_stand}
use Rattle.clr_collect.proofs.judging.scan_finalizers.Goals as goal

pub dead_from-requires : goal.dead_from-requires
dead_from-requires c = λ i inside high κs p e a l. (
  c.requires.held,
  c.requires.entries (slice_index c.args.finals.now.entries i)
      (at_in c.args.finals.now.entries i 0 inside),
)

-- the entries that are looked at are those behind the settled ones
looked : (told entries : List ℕ) (n : ℕ) → told ≡ entries → take (length told - n) (drop n told) ≡ drop n entries
looked told entries n same = take_rest told n ∙ ap (drop n) same

pub clear_flags-any_dead-requires-clause-places : goal.clear_flags-any_dead-requires-clause-places
clear_flags-any_dead-requires-clause-places c = λ x i.
    mid_stand c.args.types.now c.args.heap.now c.requires.heap c.requires.held c.args.marker.now.oldest
    c.lowest_condemned-low.result c.lowest_condemned-low.ensures.below c.args.finals.now c.requires.entries _
    c.dead_from.new.self c.dead_from.ensures.places (λ x v answer. search rules) x
    (behind-among c.settled-first.result c.dead_from.new.self.entries x
    (subst (IsIn x) (looked c.entries.result.now c.dead_from.new.self.entries c.settled-first.result
    c.entries.ensures) i))

pub drop_entries-requires-clause-stand : goal.drop_entries-requires-clause-stand
drop_entries-requires-clause-stand c =
    flat_stand c.args.types.now c.args.heap.now c.requires.heap c.requires.held c.args.marker.now.oldest
    c.lowest_condemned-low.result c.lowest_condemned-low.ensures.below c.args.finals.now c.requires.entries _
    c.dead_from.new.self c.dead_from.ensures.places (λ x v answer. search rules) c.settled-first.result
    c.settled-first.ensures.within c.settled-first.ensures.below c.clear_flags-any_dead.new.heap
    (subst (HasUnflagged c.args.types.now c.args.heap.now c.clear_flags-any_dead.new.heap c.args.marker.now.oldest)
    (looked c.entries.result.now c.dead_from.new.self.entries c.settled-first.result c.entries.ensures)
    c.clear_flags-any_dead.ensures.unflagged)

pub drop_entries-requires-clause-left : goal.drop_entries-requires-clause-left
drop_entries-requires-clause-left c = λ none.
    let same = looked c.entries.result.now c.dead_from.new.self.entries c.settled-first.result c.entries.ensures in
    all_left c.args.types.now c.args.heap.now c.requires.heap c.requires.held c.args.marker.now.oldest
    c.lowest_condemned-low.result c.lowest_condemned-low.ensures.below c.args.finals.now c.requires.entries _
    c.dead_from.new.self c.dead_from.ensures.places (λ x v answer. search rules) c.settled-first.result
    c.settled-first.ensures.within c.settled-first.ensures.below c.clear_flags-any_dead.new.heap
    (subst (HasUnflagged c.args.types.now c.args.heap.now c.clear_flags-any_dead.new.heap c.args.marker.now.oldest)
    same c.clear_flags-any_dead.ensures.unflagged)
    (subst (AllLeft c.args.types.now c.args.heap.now c.args.marker.now.oldest) same
    (c.clear_flags-any_dead.ensures.left none))

pub returns-clause-judged : goal.returns-clause-judged
returns-clause-judged c =
    both_judged c.args.types.now c.args.heap.now c.requires.heap c.requires.held c.args.marker.now.oldest
    c.lowest_condemned-low.result c.lowest_condemned-low.ensures.below c.args.finals.now c.requires.entries _
    c.dead_from.new.self c.dead_from.ensures.places (λ x v answer. search rules) c.settled-first.result
    c.settled-first.ensures.within c.settled-first.ensures.below c.clear_flags-any_dead.new.heap
    (subst (HasUnflagged c.args.types.now c.args.heap.now c.clear_flags-any_dead.new.heap c.args.marker.now.oldest)
    (looked c.entries.result.now c.dead_from.new.self.entries c.settled-first.result c.entries.ensures)
    c.clear_flags-any_dead.ensures.unflagged) c.drop_entries.new.finals c.drop_entries.ensures.entries
    c.drop_entries.ensures.ready

pub returns-clause-unflagged : goal.returns-clause-unflagged
returns-clause-unflagged c =
    all_unflagged c.args.types.now c.args.heap.now c.requires.heap c.requires.held c.args.marker.now.oldest
    c.lowest_condemned-low.result c.lowest_condemned-low.ensures.below c.args.finals.now c.requires.entries _
    c.dead_from.new.self c.dead_from.ensures.places (λ x v answer. search rules) c.settled-first.result
    c.settled-first.ensures.within c.settled-first.ensures.below c.clear_flags-any_dead.new.heap
    (subst (HasUnflagged c.args.types.now c.args.heap.now c.clear_flags-any_dead.new.heap c.args.marker.now.oldest)
    (looked c.entries.result.now c.dead_from.new.self.entries c.settled-first.result c.entries.ensures)
    c.clear_flags-any_dead.ensures.unflagged)
