use Rattle.std.proofs.Common.{◌≡◌, ℕ, ◌-◌, ◌≤◌, length}
use Rattle.clr_model.specs.Lookups.{object_size}
use Rattle.clr_mark.specs.Roots.{IsRoot}
use Rattle.clr_sos.specs.Reaching.{IsFollowed, IsListed, IsSearch}
use Rattle.clr_objsize.proofs.CountedEntries.{sum_among}
use Rattle.clr_objsize.proofs.sizes.total_of_locals.Given as goal

abbrev pub invariant-loop-next : goal.invariant-loop-next
invariant-loop-next l = record {
  search : IsSearch l.view l.reached.seen.items l.reached.entries.items;
  roots : (x : ℕ) → IsRoot l.view.locals.now x → IsListed l.reached.entries.items x;
  followed : IsFollowed l.view l.reached.entries.items l.next;
  within : l.next ≤ length l.reached.entries.items;
  bytes : l.bytes ≡ sum_among l.view l.reached.entries.items l.next (object_size l.view.types.now);
}

-- there are never more entries than a word can count
abbrev pub decreases-loop-next : goal.decreases-loop-next
decreases-loop-next l = 18446744073709551616 - l.next
