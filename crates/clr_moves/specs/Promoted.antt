-- The bytes of plugs that go from one generation to the next.
use Rattle.std.specs.Prelude.{ℕ, ◌+◌, Bool, ◌&&◌, ◌==◌, List, filter, sum_by}
use Rattle.clr_types.specs.Segments.{generation, Layout}
use Rattle.clr_model.specs.Compaction.{Move}
use Rattle.clr_moves.specs.declared.planned.Planned.{Planned}

-- a layout with the boundaries of generations that a plan answers
abbrev pub rebounded : Layout → Planned → Layout
rebounded layout planned = record layout { start1 = planned.start1; start0 = planned.start0 }

-- a plug is of this generation, and afterwards of the next older one
abbrev pub is_between : Layout → Planned → ℕ → Move → Bool
is_between layout planned e v =
    (generation layout v.start == e) && (generation (rebounded layout planned) v.to == e + 1)

-- the bytes of the plugs that go from this generation to the next older one
abbrev pub bytes_between : Layout → Planned → List Move → ℕ → ℕ
bytes_between layout planned vs e = sum_by (λ v. v.size) (filter (is_between layout planned e) vs)
