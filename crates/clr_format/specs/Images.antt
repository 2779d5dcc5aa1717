-- Images: which bytes are one, the offset of the first fault of others, and what stands in them.
use Rattle.std.specs.Prelude.{◌≡◌, ℕ, ◌+◌, ◌-◌, ◌*◌, ◌==◌, nat_le, nat_eq, List, [], ◌++◌, length, map}
use Rattle.std.specs.Prelude.{take, drop, codes, Bool, true, false, if◌then◌else◌, Option, Some, None, bytes_eq}
use Rattle.std.specs.List.{starts_with}
use Rattle.clr_mem.specs.Words.{words_of}
use Rattle.clr_types.specs.Types.{TypeRow}
use Rattle.clr_fields.specs.Fields.{Found, fault, found, Fields, field, gives, is_from_to, is_up_to}
use Rattle.clr_fields.specs.Fields.{nothing_more, text, ◌>>=◌}
use Rattle.clr_fields.specs.TypeFields.{types_fields}
use Rattle.clr_format.specs.HeapFields.{Body, heap_fields}
use Rattle.clr_format.specs.declared.head.Head.{Head}
use Rattle.clr_format.specs.TableFields.{Tables, tables_fields, no_tables}
use Rattle.clr_format.specs.NameTests.{Test, tests_of, first_failed, name_tests, final_tests, handle_tests, step_tests}
use Rattle.clr_format.specs.NameTests.{reference_test, with_earlier}

-- ---- the first pass

-- what stands before the types, in the first version: sizes are compared with 85,000
abbrev pub magic : List ℕ → List ℕ → Bool
magic name bytes = bytes_eq bytes name

unfoldable pub first_head_fields : Fields Head
first_head_fields = do
  name ← text 8 (magic (codes "CLRHEAP1"))
  limit ← field (is_from_to 524288 1073741824)
  gives (record { limit = limit; large = 85000; compact_large = false; first = true })

unfoldable pub second_head_fields : Fields Head
second_head_fields = do
  name ← text 8 (magic (codes "CLRHEAP2"))
  limit ← field (is_from_to 524288 1073741824)
  large ← field (is_from_to 85000 67104768)
  flag ← field (is_up_to 1)
  gives (record { limit = limit; large = large; compact_large = flag == 1; first = false })

-- 64 words for each of 16 threads, which are one field
unfoldable pub locals_field : Fields (List ℕ)
locals_field bytes o =
    if nat_le (o + 8192) (length bytes) then found (words_of 1024 (take 8192 (drop o bytes))) (o + 8192) else fault o

-- what stands behind the heap, and the offset behind the locals
pub record Rest : Type 0 where
  pub locals : List ℕ
  pub tables : Tables
  pub tables_at : ℕ

-- all parts of an image
pub record Parts : Type 0 where
  pub head : Head
  pub types : List TypeRow
  pub body : Body
  pub rest : Rest

abbrev pub here : Fields ℕ
here bytes o = found o o

abbrev pub version_tables : Head → List TypeRow → Fields Tables
version_tables head types = if head.first then gives no_tables else tables_fields head types

unfoldable pub rest_fields : Head → List TypeRow → Fields Rest
rest_fields head types = do
  locals ← locals_field
  tables_at ← here
  tables ← version_tables head types
  end ← nothing_more
  gives (record { locals = locals; tables = tables; tables_at = tables_at })

-- what both versions have
unfoldable pub common_fields : Head → Fields Parts
common_fields head = do
  types ← types_fields
  body ← heap_fields head types
  rest ← rest_fields head types
  gives (record { head = head; types = types; body = body; rest = rest })

abbrev pub head_fields : Bool → Fields Head
head_fields first = if first then first_head_fields else second_head_fields

unfoldable pub parts_fields : Bool → Fields Parts
parts_fields first = do
  head ← head_fields first
  common_fields head

-- an image of the first version begins with its name, and all other bytes are read as one of the second
unfoldable pub is_first : List ℕ → Bool
is_first bytes = starts_with nat_eq bytes (codes "CLRHEAP1")

abbrev pub fields_of : List ℕ → Found Parts
fields_of bytes = parts_fields (is_first bytes) bytes 0

-- ---- the second pass

-- every word that names something, in the order of their offsets: references, locals, what threads have begun, targets
-- and seconds of handles, entries and what waits
abbrev pub tests_in : Parts → List Test
tests_in p =
    let handles_at = p.rest.tables_at + 656 in
    let entries_at = handles_at + 32 * length p.rest.tables.handles + 8 in
    let ready_at = entries_at + 8 * length p.rest.tables.entries + 8 in
    ((((map (reference_test p.body.items) p.body.references
    ++ tests_of 8 (name_tests p.body.items) (p.rest.tables_at - 8192) p.rest.locals)
    ++ tests_of 40 (step_tests p.types p.body.items p.body.heap) (p.rest.tables_at + 8)
    (with_earlier [] p.rest.tables.steps))
    ++ tests_of 32 (handle_tests p.body.items) handles_at p.rest.tables.handles)
    ++ tests_of 8 (final_tests p.types p.body.items) entries_at p.rest.tables.entries)
    ++ tests_of 8 (final_tests p.types p.body.items) ready_at p.rest.tables.ready

abbrev pub unless_failed : Parts → ℕ → Option ℕ → Found Parts
unless_failed p next None = found p next
unless_failed p next (Some o) = fault o

abbrev pub judged : Found Parts → Found Parts
judged (fault o) = fault o
judged (found p next) = unless_failed p next (first_failed (tests_in p))

-- ---- the whole

-- the parts of an image, or its first fault
unfoldable pub image_of : List ℕ → Found Parts
image_of bytes = judged (fields_of bytes)

-- bytes are an image with these parts
pub record IsImage (bytes : List ℕ) (parts : Parts) : Type 0 where
  pub is : image_of bytes ≡ found parts (length bytes)

-- bytes aren't an image, and this is the offset of their first fault
pub record HasFault (bytes : List ℕ) (offset : ℕ) : Type 0 where
  pub is : image_of bytes ≡ fault offset
