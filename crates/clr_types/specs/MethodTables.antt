-- What a method table shows, and what holds of its fields.
use Rattle.std.specs.Prelude.{◌≡◌, true}
use Rattle.clr_types.specs.Types.{is_lawful_form}
use Rattle.clr_types.specs.Table.{Described, base_size, element_size}
use Rattle.clr_types.specs.Descriptors.{series_of}
use Rattle.clr_types.specs.ReferenceRuns.{class_run}
use Rattle.clr_types.specs.Kept.{form_of_pattern}
use Rattle.clr_types.specs.declared.method_table.MethodTable.TheInside.{Inside}

abbrev pub described : Inside → Described
described table = record { form = form_of_pattern table.pattern; finalizer = table.finalizer }

-- the form is lawful, and the sizes, the series and the run are the form's
pub record IsMethodTable (table : Inside) : Type 0 where
  pub lawful : is_lawful_form (form_of_pattern table.pattern) table.finalizer ≡ true
  pub base : table.base_size ≡ base_size (form_of_pattern table.pattern)
  pub element : table.element_size ≡ element_size (form_of_pattern table.pattern)
  pub series : table.series.items ≡ series_of (form_of_pattern table.pattern)
  pub run : table.run ≡ class_run (form_of_pattern table.pattern)
