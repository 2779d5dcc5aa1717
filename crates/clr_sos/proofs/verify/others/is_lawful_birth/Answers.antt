-- No room is as large as an object that no heap has.
use Rattle.std.proofs.Common.{◌∙◌, ◌<◌, sym, inl, inr}
use Rattle.std.proofs.lemmas.Bool.{cases_lt}
use Rattle.clr_types.specs.Types.{form_at, size_of}
use Rattle.clr_sos.proofs.ContextRooms.{no_room}
use Rattle.clr_sos.proofs.verify.others.is_lawful_birth.Goals as goal

pub returns-in-None : goal.returns-in-None
returns-in-None c = λ local few.
    let view = c.args.view.now in
    let size = size_of (form_at view.types.now c.args.type_id.0) c.args.len in
    let large : 1073741824 < size_of (form_at c.args.view.now.types.now c.args.type_id.0) c.args.len =
    elim (cases_lt 1073741824 (size_of (form_at c.args.view.now.types.now c.args.type_id.0) c.args.len)) [
      | inl more ↦ more
      | inr most ↦ absurd (c.in-None.ensures most)
    ] in (
      λ e. absurd cc,
      λ lawful. sym (no_room view.types.now view.heap.now c.requires.heap c.requires.walkable c.requires.holes size
          c.args.front large)
          ∙ lawful.1.0,
    )
