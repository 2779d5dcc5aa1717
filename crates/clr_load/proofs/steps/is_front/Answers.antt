-- No room is as large as an object that no heap has.
use Rattle.std.proofs.Common.{◌≡◌, ◌<◌, sym, inl, inr}
use Rattle.std.proofs.lemmas.Bool.{cases_lt}
use Rattle.clr_types.specs.Types.{form_at, size_of}
use Rattle.clr_sos.proofs.ContextRooms.{no_room}
use Rattle.clr_load.proofs.LoadedHeaps.{are_inside}
use Rattle.clr_load.proofs.steps.is_front.Goals as goal

pub returns-in_default : goal.returns-in_default
returns-in_default c =
    let seen = c.args.seen.now in
    let large : 1073741824 < size_of (form_at c.args.seen.now.types.now c.args.type_id.0) c.args.len =
    elim (cases_lt 1073741824 (size_of (form_at c.args.seen.now.types.now c.args.type_id.0) c.args.len)) [
      | inl more ↦ more
      | inr most ↦ absurd (c.in_default.ensures most)
    ] in
    sym (no_room seen.types.now seen.heap.now c.requires.seen.heap c.requires.seen.held.walkable
    (are_inside seen.heap.now c.requires.seen.alone) (size_of (form_at seen.types.now c.args.type_id.0) c.args.len)
    c.args.place large)
