-- Where the parts begin that a compaction goes over.
use Rattle.std.specs.Prelude.{ℕ, ◌==◌, if◌then◌else◌}
use Rattle.clr_heap.specs.View.{HeapView}
use Rattle.clr_moves.specs.declared.condemned.Condemned.{Condemned}
use Rattle.clr_moves.specs.declared.condemned.Condemned.TheVariants.{Generations, LargeSegments}

-- no part of a collection of the generations up to g has a place below this one
abbrev pub condemned_from : HeapView → ℕ → ℕ
condemned_from h g = if g == 0 then h.start0 else (if g == 1 then h.start1 else 1)

-- and none of these parts
abbrev pub parts_from : HeapView → Condemned → ℕ
parts_from h (Generations g) = condemned_from h g
parts_from h LargeSegments = 1
