-- What a move of all that is named leaves as it is beside the heap: how many handles are pinned, and what queues hold.
use Rattle.std.proofs.Common.{◌≡◌, ℕ, ◌+◌, List, [], length, ap, ◌∙◌, arith}
use Rattle.std.proofs.lemmas.List.{length-map}
use Rattle.clr_handles.specs.Laws.{relocated}
use Rattle.clr_handles.specs.Tables.{Table}
use Rattle.clr_handles.specs.Tops.{pinned_in}
use Rattle.clr_model.specs.Compaction.{Move, moved_by}
use Rattle.clr_pinq.specs.Queue.{QueueView}
use Rattle.clr_types.specs.Maps.{map_values}
use Rattle.clr_survivors.specs.Moving.{IsReadyFor, KeepsNumbers}
use Rattle.clr_survivors.specs.Roots.{HaveGone}
use Rattle.clr_survivors.specs.declared.roots.Roots.{Roots}
use Rattle.clr_survivors.proofs.PinnedFrom.{pinned-relocated}

-- numbers stay where names go
pub numbers-kept : (moves : List Move) (old new : Roots) → HaveGone moves old new → KeepsNumbers old new
numbers-kept moves old new gone = record {
  pinned = ap pinned_in gone.table_is ∙ pinned-relocated (moved_by moves) old.handles;
  spare = gone.spare;
  entries = ap length gone.entries_is ∙ length-map old.finals.entries (moved_by moves);
}

-- a queue that a plan has filled, and that is emptied again, has the room that it had
pub ready-kept : (to : ℕ → ℕ) (old new : Table) (before planned after : QueueView)
    → new ≡ map_values (relocated to) old → IsReadyFor old before
    → before.spare ≡ planned.spare + length planned.entries → after.entries ≡ []
    → after.spare ≡ planned.spare + length planned.entries → IsReadyFor new after
ready-kept to old new before planned after same ready filled empty emptied =
    let pinned = ap pinned_in same ∙ pinned-relocated to old in
    let room = ready.room in
    record {
      empty = empty;
      room = omega (arith, pinned, room, filled, emptied);
    }
