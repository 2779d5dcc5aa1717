-- Where the pointer of a plan stands among the plugs: those that the walk has passed, and those that are ahead of it.
use Rattle.std.specs.Prelude.{◌≡◌, ℕ, ◌≤◌, List, ◌++◌, map, filter, nat_le, ◌&&◌}
use Rattle.clr_types.specs.Rising.{IsIn}
use Rattle.clr_types.specs.Ranges.{Piece}
use Rattle.clr_types.specs.Segments.{first_place, reserved_end}
use Rattle.clr_types.specs.declared.segment.SegInfo.{SegInfo}
use Rattle.clr_model.specs.Compaction.{Plug, piece_of_plug}
use Rattle.clr_model.proofs.PlugRoom.{IsOutside}
use Rattle.clr_model.proofs.PlugPointer.{IsNear}

-- the ranges of the pinned plugs among these that begin at the place or above it
abbrev pub pins_from : ℕ → List Plug → List Piece
pins_from place plugs = map piece_of_plug (filter (λ p. p.pinned && nat_le place p.start) plugs)

-- The pointer is at this place of segment s, when the walk has passed the plugs `done` and the plugs `ahead` are to
-- come: these pins are the ones that it has yet to pass, it is in no pin, and it is near each plug ahead.
pub record IsAt (segments : List SegInfo) (done ahead : List Plug) (s : SegInfo) (place : ℕ) (pins : List Piece) : Type
    0 where
  pub among : IsIn s segments
  pub low : first_place s ≤ place
  pub high : place ≤ reserved_end s
  pub waiting : pins ≡ pins_from place done
  pub outside : IsOutside (done ++ ahead) place
  pub near : (q : Plug) → IsIn q ahead → IsNear segments (done ++ ahead) place q.start
