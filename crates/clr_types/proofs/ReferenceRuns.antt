-- A run spells the offsets of all references of an object.
use Rattle.std.proofs.Common.{◌≡◌, ℕ, ◌+◌, ◌-◌, ◌*◌, ◌/◌, ◌≤◌, List, [], ◌∷◌, map, refl, ap, sym, ◌∙◌, arith, length}
use Rattle.std.proofs.Common.{get_or, pos, ◌-ℤ◌, IfSome, append-nil}
use Rattle.std.specs.List.{flat_map, AllByRecursion}
use Rattle.clr_types.specs.Types.{Form, class_form, references_form, bytes_form, structs_form, is_reference, size_of}
use Rattle.clr_types.specs.Descriptors.{offsets_from, run_bytes, Run, run_offsets, runs_of, series_of_run}
use Rattle.clr_types.specs.Cursors.{IsInRange}
use Rattle.clr_types.specs.ReferenceRuns.{one_run, single_run, SpellsReferences}
use Rattle.clr_types.specs.declared.descriptors.Series.{Series}
use Rattle.clr_types.proofs.Offsets.{run_slots_are, series_law}

one_run_spells : (pattern : List ℕ) (len : ℕ) (runs : List Run) → runs_of (map is_reference pattern) ≡ runs
    → IfSome (one_run runs) (SpellsReferences (class_form pattern) len)
one_run_spells pattern len [] e = tt
one_run_spells pattern len (run ∷ []) e =
    let size = size_of (class_form pattern) len in
    sym (series_law (class_form pattern) len)
    ∙ ap (λ (runs : List Run). flat_map (run_offsets size) (map (series_of_run 8 size) runs)) e
    ∙ append-nil (offsets_from (8 + 8 * run.first) (run_bytes (pos (8 * run.count) -ℤ pos size) size / 8))
    ∙ ap (offsets_from (8 + 8 * run.first)) (run_slots_are run.count size)
one_run_spells pattern len (run ∷ next ∷ runs) e = tt

pub single_run_spells : (form : Form) (len : ℕ) → IfSome (single_run form len) (SpellsReferences form len)
single_run_spells (class_form pattern) len = one_run_spells pattern len (runs_of (map is_reference pattern)) refl
single_run_spells references_form len =
    let slots : (24 + 8 * len - 24) / 8 ≡ len = omega arith in
    sym (series_law references_form len) ∙ append-nil (offsets_from 16 ((24 + 8 * len - 24) / 8))
    ∙ ap (offsets_from 16) slots
single_run_spells bytes_form len = tt
single_run_spells (structs_form pattern) len = tt

-- the first of some series is in range where all are
pub first_in_range : (size : ℕ) (series : List Series) (other : Series) → 1 ≤ length series
    → AllByRecursion (IsInRange size) series → IsInRange size (get_or series 0 other)
first_in_range size [] other some all = absurd (omega (arith, some))
first_in_range size (run ∷ series) other some all = all.0
