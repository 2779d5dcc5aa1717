-- Parts outside of which set cards tell the references that count.
use Rattle.std.specs.Prelude.{ℕ, ◌<◌, List, ℤ}
use Rattle.clr_types.specs.Types.{TypeRow}
use Rattle.clr_heap.specs.View.{HeapView}
use Rattle.clr_scan.specs.OldParts.{HaveOldParts}
use Rattle.clr_plugs.specs.BrickEntries.{BricksView}
use Rattle.clr_moves.specs.Objects.{AreRemembered}
use Rattle.clr_moves.specs.declared.condemned.Condemned.{Condemned}
use Rattle.clr_moves.specs.declared.condemned.Condemned.TheVariants.{Generations, LargeSegments}

-- they are those of less than all generations
abbrev pub IsPartial : Condemned → Type 0
IsPartial (Generations g) = g < 2
IsPartial LargeSegments = ⊥

-- old objects stand outside of them
abbrev pub HaveOldPartsOf : List TypeRow → HeapView → Condemned → Type 0
HaveOldPartsOf rows h (Generations g) = g < 2 → HaveOldParts rows h g
HaveOldPartsOf rows h LargeSegments = Unit {0}

-- the entries of bricks before the plan obeyed their law, and those that it has overwritten are remembered
abbrev pub HaveEntriesOf : List TypeRow → HeapView → BricksView → Condemned → (ℕ → ℤ) → ℤ → ℤ → Type 0
HaveEntriesOf rows h bricks (Generations g) entry below first = AreRemembered rows h bricks (Generations g) entry below
    first
HaveEntriesOf rows h bricks LargeSegments entry below first = Unit {0}
