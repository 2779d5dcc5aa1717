-- The tables that were read, as the definitions see them.
use Rattle.clr_format.specs.TableFields as fields
use Rattle.clr_format.specs.Images as images
use Rattle.clr_load.specs.declared.rest.Rest.{Rest}
use Rattle.clr_load.specs.declared.tables.Tables.{Tables}

abbrev pub tables_of : Tables → fields.Tables
tables_of t = record {
  holder = t.holder;
  steps = t.steps.items;
  handles = t.handles.items;
  entries = t.entries.items;
  ready = t.ready.items;
}

abbrev pub rest_of : Rest → images.Rest
rest_of r = record { locals = r.locals.items; tables = tables_of r.tables; tables_at = r.tables_at }
