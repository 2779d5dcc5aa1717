-- A whole image of the second version: its bytes, when they are lawful, and what is read back.
use Rattle.std.specs.Prelude.{◌≡◌, ℕ, List, [], ◌++◌, length, true}
use Rattle.std.specs.List.{AllByRecursion, flat_map, list_all}
use Rattle.clr_types.specs.Types.{TypeRow}
use Rattle.clr_types.specs.declared.item.Item.{Item}
use Rattle.clr_heap.specs.Drafts.{empty_heap}
use Rattle.clr_heap.specs.View.{HeapView}
use Rattle.clr_sos.specs.Faults.{is_name}
use Rattle.clr_format.specs.Images.{IsImage, Parts}
use Rattle.clr_format.specs.NameTests.{final_tests, handle_tests, name_tests, step_tests, Test, with_earlier}
use Rattle.clr_format.specs.Saved.{type_bytes, word_bytes, words_bytes}
use Rattle.clr_format.specs.TableFields.{Tables}
use Rattle.clr_save.specs.Writable.{AreWritten, AreWrittenTables, IsWord, IsWrittenHead}
use Rattle.clr_save.specs.Written.{bytes_of_tables, head_bytes}
use Rattle.clr_save.specs.WrittenHeap.{AreWrittenSegments, heap_after, IsBody, items_of_segments, names_in_segments}
use Rattle.clr_save.specs.WrittenHeap.{segments_bytes, WrittenSegment}
use Rattle.clr_format.specs.declared.head.Head.{Head}

-- what is written
pub record WrittenImage : Type 0 where
  pub head : Head
  pub types : List TypeRow
  pub segments : List WrittenSegment
  pub locals : List ℕ
  pub tables : Tables

-- its bytes
unfoldable pub written_bytes : WrittenImage → List ℕ
written_bytes w =
    head_bytes w.head ++ ((word_bytes (length w.types) ++ flat_map type_bytes w.types)
    ++ ((word_bytes (length w.segments) ++ segments_bytes w.segments)
    ++ (words_bytes w.locals ++ bytes_of_tables w.tables)))

-- the heap that is read back, and its items
abbrev pub heap_of : WrittenImage → HeapView
heap_of w = heap_after (empty_heap w.head.limit) w.segments

abbrev pub items_of : WrittenImage → List Item
items_of w = items_of_segments w.segments

-- each of these passes its tests
abbrev pub Passes : {X : Type 0} → (X → List Test) → List X → Type 0
Passes {X = X} tests xs = AllByRecursion (λ (x : X). list_all (λ (t : Test). t.1) (tests x) ≡ true) xs

-- fields are lawful, and what is named is there
pub record IsWritten (w : WrittenImage) : Type 0 where
  pub head : IsWrittenHead w.head
  pub types : AreWritten w.types
  pub segments : AreWrittenSegments w.head w.types w.segments
  pub threads : length w.locals ≡ 1024
  pub words : AllByRecursion IsWord w.locals
  pub tables : AreWrittenTables w.types w.head.large w.tables
  pub references : AllByRecursion (λ place. is_name (items_of w) place ≡ true) (names_in_segments w.types w.segments)
  pub locals : Passes (name_tests (items_of w)) w.locals
  pub steps : Passes (step_tests w.types (items_of w) (heap_of w)) (with_earlier [] w.tables.steps)
  pub handles : Passes (handle_tests (items_of w)) w.tables.handles
  pub entries : Passes (final_tests w.types (items_of w)) w.tables.entries
  pub ready : Passes (final_tests w.types (items_of w)) w.tables.ready

-- these are the parts that were written
pub record ArePartsOf (w : WrittenImage) (p : Parts) : Type 0 where
  pub head : p.head ≡ w.head
  pub types : p.types ≡ w.types
  pub body : IsBody p.body (heap_of w) (items_of w) (names_in_segments w.types w.segments)
  pub locals : p.rest.locals ≡ w.locals
  pub tables : p.rest.tables ≡ w.tables

-- what is written is an image, and its parts are those that were written
abbrev pub ImageLaw : Type 0
ImageLaw = (w : WrittenImage) → IsWritten w → (p : Parts) × IsImage (written_bytes w) p × ArePartsOf w p
