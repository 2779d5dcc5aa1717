-- Objects whose references are one run.
use Rattle.std.specs.Prelude.{◌≡◌, ℕ, ◌+◌, ◌*◌, List, [], ◌∷◌, map, Option, Some, None}
use Rattle.clr_types.specs.Types.{Form, class_form, references_form, bytes_form, structs_form, is_reference}
use Rattle.clr_types.specs.Descriptors.{offsets_from, reference_offsets, Run, runs_of}
use Rattle.clr_types.specs.declared.descriptors.ReferenceRun.{ReferenceRun}

-- the run among a class's slots, where there is one
abbrev pub one_run : List Run → Option ReferenceRun
one_run [] = None
one_run (run ∷ []) = Some (record { offset = 8 + 8 * run.first; count = run.count })
one_run (run ∷ next ∷ runs) = None

-- the run of a class whose references are one run
abbrev pub class_run : Form → Option ReferenceRun
class_run (class_form pattern) = one_run (runs_of (map is_reference pattern))
class_run references_form = None
class_run bytes_form = None
class_run (structs_form pattern) = None

-- the run of an object of len elements: of such a class, or of an array of references
abbrev pub single_run : Form → ℕ → Option ReferenceRun
single_run (class_form pattern) len = one_run (runs_of (map is_reference pattern))
single_run references_form len = Some (record { offset = 16; count = len })
single_run bytes_form len = None
single_run (structs_form pattern) len = None

-- a run is that of all references of an object
abbrev pub SpellsReferences : Form → ℕ → ReferenceRun → Type 0
SpellsReferences form len run = reference_offsets form len ≡ offsets_from run.offset run.count
