-- The bytes of a machine's image, whose objects are named by their places.
use Rattle.std.specs.Prelude.{ℕ, ◌+◌, ◌-◌, ◌==◌, List, [], ◌∷◌, ◌++◌, filter, length, take, drop, codes}
use Rattle.std.specs.Prelude.{replicate, Bool, if◌then◌else◌, Option, Some, None}
use Rattle.std.specs.List.{flat_map}
use Rattle.std.specs.FinMap as finmap
use Rattle.std.specs.Int.{bytes_low_first}
use Rattle.clr_types.specs.HandleCode.{number_of_kind}
use Rattle.clr_types.specs.Segments.{Layout, rest_of, same_kind, stands_in}
use Rattle.clr_types.specs.Types.{Form, bytes_form, class_form, form_at, is_array, mt_of, references_form, size_of}
use Rattle.clr_types.specs.Types.{structs_form, TypeRow}
use Rattle.clr_types.specs.declared.handle.Handle.{Handle}
use Rattle.clr_types.specs.declared.item.Item.{Item}
use Rattle.clr_types.specs.declared.segment.SegInfo.{SegInfo}
use Rattle.clr_types.specs.declared.segment.SegKind.TheVariants.{Ephemeral}
use Rattle.clr_model.specs.Listing.{listing}
use Rattle.clr_model.specs.Lookups.{object_at}
use Rattle.clr_model.specs.Machine.{Machine, Object, Value, ref, num, ThreadStep, no_step, begun_store, begun_new}
use Rattle.clr_model.specs.Updates.{all_given_up}
use Rattle.clr_view.specs.Clean.{slots_end}
use Rattle.clr_sos.specs.Steps.{front_or_zero}
use Rattle.clr_fields.specs.TypeFields.{form_number, form_pattern}
use Rattle.clr_format.specs.HeapFields.{kind_number}

-- a field of 8 bytes, the lowest first
unfoldable pub word_bytes : ℕ → List ℕ
word_bytes n = bytes_low_first 0 8 n

abbrev pub words_bytes : List ℕ → List ℕ
words_bytes words = flat_map word_bytes words

-- n zero bytes
unfoldable pub zero_bytes : ℕ → List ℕ
zero_bytes n = replicate n 0

abbrev pub bit : Bool → ℕ
bit b = if b then 1 else 0

-- ---- types

abbrev pub type_bytes : TypeRow → List ℕ
type_bytes row =
    word_bytes (length row.name) ++ (row.name
    ++ (words_bytes (form_number row.form ∷ bit row.finalizer ∷ length (form_pattern row.form) ∷ [])
    ++ form_pattern row.form))

-- ---- items

-- a slot takes a word, and that of an array of bytes one byte
abbrev pub value_bytes : Form → Value → List ℕ
value_bytes bytes_form (num number) = number ∷ []
value_bytes bytes_form (ref name) = name ∷ []
value_bytes (class_form pattern) (ref name) = word_bytes name
value_bytes (class_form pattern) (num number) = word_bytes number
value_bytes references_form (ref name) = word_bytes name
value_bytes references_form (num number) = word_bytes number
value_bytes (structs_form pattern) (ref name) = word_bytes name
value_bytes (structs_form pattern) (num number) = word_bytes number

abbrev pub header_of : Bool → ℕ
header_of suppressed = if suppressed then 0x40000000 else 0

abbrev pub length_words : Form → ℕ → List ℕ
length_words form len = if is_array form then len ∷ [] else []

-- an object: its header, its method table word, the length of an array, its slots, and padding
abbrev pub object_bytes : List TypeRow → Object → List ℕ
object_bytes rows o =
    let form = form_at rows o.type in
    words_bytes (header_of o.suppressed ∷ mt_of o.type ∷ length_words form o.len)
    ++ (flat_map (value_bytes form) o.slots ++ zero_bytes (size_of form o.len - 8 - slots_end form o.len))

-- a free item: a clear header, its method table word, its length, and zeros
abbrev pub free_bytes : Item → List ℕ
free_bytes i = words_bytes (0 ∷ mt_of 0 ∷ i.len ∷ []) ++ zero_bytes (i.size - 24)

abbrev pub bytes_of_object : List TypeRow → Option Object → List ℕ
bytes_of_object rows None = []
bytes_of_object rows (Some o) = object_bytes rows o

abbrev pub item_bytes : Machine → Item → List ℕ
item_bytes m i =
    if i.type_id.0 == 0 then free_bytes i else bytes_of_object m.types (object_at m.objects i.place)

-- ---- segments

abbrev pub boundary_word : SegInfo → ℕ → ℕ
boundary_word s boundary = if same_kind s.kind Ephemeral then boundary else 0

abbrev pub segment_words : Layout → SegInfo → List ℕ
segment_words layout s =
    s.base ∷ s.reserved ∷ kind_number s.kind ∷ s.end ∷ boundary_word s layout.start1
    ∷ boundary_word s layout.start0 ∷ []

abbrev pub segment_bytes : Machine → SegInfo → List ℕ
segment_bytes m s =
    words_bytes (segment_words m.layout s) ++ flat_map (item_bytes m) (filter (λ i. stands_in s i.place) (listing m))

-- ---- tables

abbrev pub handle_bytes : ℕ × Handle → List ℕ
handle_bytes (h, row) = words_bytes (h ∷ number_of_kind row.kind ∷ row.target ∷ row.second ∷ [])

-- what thread t has begun; a begun object is to stand at the front of the thread's context
abbrev pub step_words : Layout → ℕ → ThreadStep → List ℕ
step_words layout t no_step = 0 ∷ 0 ∷ 0 ∷ 0 ∷ 0 ∷ []
step_words layout t (begun_store object slot) = 1 ∷ object ∷ slot ∷ 0 ∷ 0 ∷ []
step_words layout t (begun_new type len local) =
    2 ∷ type ∷ len ∷ local ∷ front_or_zero (rest_of layout t) ∷ []

abbrev pub steps_words : Layout → ℕ → List ThreadStep → List ℕ
steps_words layout t [] = []
steps_words layout t (s ∷ ss) = step_words layout t s ++ steps_words layout (t + 1) ss

abbrev pub number_or_zero : Option ℕ → ℕ
number_or_zero None = 0
number_or_zero (Some n) = n

abbrev pub queue_bytes : List ℕ → List ℕ
queue_bytes places = words_bytes (length places ∷ places)

-- ---- the whole

-- the machine whose contexts are given up: what is left of them is written as free items
abbrev pub without_rests : Machine → Machine
without_rests m = record m { layout = all_given_up m.layout }

-- types, segments and locals, which both versions have
abbrev pub common_bytes : Machine → List ℕ
common_bytes m =
    (word_bytes (length m.types) ++ flat_map type_bytes m.types)
    ++ ((word_bytes (length m.layout.segments) ++ flat_map (segment_bytes m) m.layout.segments)
    ++ words_bytes m.locals)

abbrev pub tables_bytes : Machine → List ℕ
tables_bytes m =
    (words_bytes (number_or_zero m.holder ∷ steps_words m.layout 1 m.steps)
    ++ (word_bytes (finmap.len m.handles) ++ flat_map handle_bytes (finmap.entries m.handles)))
    ++ (queue_bytes m.entries ++ queue_bytes m.ready)

-- the image of a machine, which is always of the second version
unfoldable pub image_bytes : Machine → List ℕ
image_bytes m =
    (codes "CLRHEAP2" ++ words_bytes (m.options.limit ∷ m.options.large ∷ bit m.compacts_large ∷ []))
    ++ (common_bytes (without_rests m) ++ tables_bytes m)

-- the tables of an image without handles, entries, steps and holder: 84 words of zero
unfoldable pub empty_tables_bytes : List ℕ
empty_tables_bytes = zero_bytes 672

-- The image of the second version with what an image of the first version says: its limit, types, segments and locals,
-- between the new head and empty tables. One of the second version stays.
unfoldable pub migrated : Bool → List ℕ → List ℕ
migrated first bytes =
    if first
    then (codes "CLRHEAP2" ++ (take 8 (drop 8 bytes) ++ words_bytes (85000 ∷ 0 ∷ [])))
    ++ (drop 16 bytes ++ empty_tables_bytes)
    else bytes
