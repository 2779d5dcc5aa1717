-- The second pass over what stands behind the heap of an image.
use Rattle.std.specs.Prelude.{◌≡◌, ℕ, ◌+◌, ◌*◌, ◌-◌, ◌^◌, ◌<◌, ◌≤◌, List, [], length, Option}
use Rattle.clr_types.specs.Types.{TypeRow}
use Rattle.clr_types.specs.declared.item.Item.{Item}
use Rattle.clr_heap.specs.View.{HeapView}
use Rattle.clr_sos.specs.CheckedCells.{or_else}
use Rattle.clr_format.specs.Images as images
use Rattle.clr_format.specs.NameTests.{final_tests, first_failed, handle_tests, name_tests, step_tests, tests_of}
use Rattle.clr_format.specs.NameTests.{with_earlier}
use Rattle.clr_load.specs.declared.rest.Rest.{Rest}

-- locals and tables whose offsets are small
pub record HasOffsets (r : Rest) : Type 0 where
  pub low : 8192 ≤ r.tables_at
  pub high : r.tables_at < 2 ^ 63
  pub locals : length r.locals.items ≡ 1024
  pub steps : length r.tables.steps.items ≡ 16
  pub fits : r.tables_at + (32 * length r.tables.handles.items + 8 * length r.tables.entries.items
      + 8 * length r.tables.ready.items) < 2 ^ 63

-- the offset of the first word in them that names what it may not
abbrev pub first_in_tables : images.Rest → List TypeRow → HeapView → List Item → Option ℕ
first_in_tables rest rows h items =
    or_else (or_else (or_else (or_else
    (first_failed (tests_of 8 (name_tests items) (rest.tables_at - 8192) rest.locals))
    (first_failed (tests_of 40 (step_tests rows items h) (rest.tables_at + 8) (with_earlier [] rest.tables.steps))))
    (first_failed (tests_of 32 (handle_tests items) (rest.tables_at + 656) rest.tables.handles)))
    (first_failed (tests_of 8 (final_tests rows items) (rest.tables_at + 656 + 32 * length rest.tables.handles + 8)
    rest.tables.entries)))
    (first_failed (tests_of 8 (final_tests rows items)
    (rest.tables_at + 656 + 32 * length rest.tables.handles + 8 + 8 * length rest.tables.entries + 8)
    rest.tables.ready))
