-- The bytes of the second version of an image, from the values that code has.
use Rattle.std.specs.Prelude.{ℕ, List, ◌++◌, length, false}
use Rattle.std.specs.List.{flat_map}
use Rattle.std.specs.FinMap as finmap
use Rattle.clr_types.specs.Types.{TypeRow}
use Rattle.clr_heap.specs.View.{HeapView}
use Rattle.clr_format.specs.Saved.{type_bytes, word_bytes, words_bytes}
use Rattle.clr_save.specs.SavedWords.{bytes_of_segments}
use Rattle.clr_format.specs.TableFields.{Tables}
use Rattle.clr_save.specs.Written.{bytes_of_tables, head_bytes}
use Rattle.clr_format.specs.declared.head.Head.{Head}
use Rattle.clr_save.specs.declared.snapshot.Snapshot.{Snapshot}

-- what an image holds
pub record Contents : Type 0 where
  pub head : Head
  pub types : List TypeRow
  pub heap : HeapView
  pub locals : List ℕ
  pub tables : Tables

-- the image with these contents
unfoldable pub bytes_of : Contents → List ℕ
bytes_of c =
    head_bytes c.head ++ ((word_bytes (length c.types) ++ flat_map type_bytes c.types)
    ++ ((word_bytes (length c.heap.segments) ++ bytes_of_segments c.types c.heap 0 (length c.heap.segments))
    ++ (words_bytes c.locals ++ bytes_of_tables c.tables)))

-- the contents of what is saved
abbrev pub saved : Snapshot → Contents
saved v = record {
  head = record { limit = v.limit; large = v.large; compact_large = v.compact_large; first = false };
  types = v.types.now;
  heap = v.heap.now;
  locals = v.locals.now;
  tables = record {
    holder = v.holder;
    steps = v.steps.now;
    handles = finmap.entries v.handles.now;
    entries = v.finals.now.entries;
    ready = v.finals.now.ready;
  };
}
