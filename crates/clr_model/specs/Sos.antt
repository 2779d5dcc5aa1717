-- The texts of the commands that show the heap. They speak of places, so they are texts of a picture.
use Rattle.std.specs.Prelude.{◌≡◌, ℕ, zero, suc, ◌+◌, ◌-◌, ◌<◌, ◌≤◌, List, [], ◌∷◌, ◌++◌, length, if◌then◌else◌, ◌==◌}
use Rattle.std.specs.Prelude.{nat_le, Bool, true, false, ◌&&◌, not, ◌≢◌, filter, find, sum_by, take, codes, decimal, Option}
use Rattle.std.specs.Prelude.{Some, None, IsTrue, slice_get}
use Rattle.std.specs.List.{flat_map, enumerate_from, AllByRecursion}
use Rattle.std.specs.FinMap as finmap
use Rattle.clr_types.specs.Ranges.{Piece, piece_end}
use Rattle.clr_types.specs.Types.{TypeRow, is_array, mt_of, name_of, number_with_free, form_at}
use Rattle.clr_model.specs.declared.Mode.{Mode}
use Rattle.clr_model.specs.declared.Mode.TheVariants.{Full, Stat, Short}
use Rattle.clr_model.specs.declared.Life.{Life}
use Rattle.clr_model.specs.declared.Life.TheVariants.{Any, Live, Dead}
use Rattle.clr_model.specs.declared.Where.{Where}
use Rattle.clr_types.specs.declared.handle.Handle.{Handle}
use Rattle.clr_model.specs.Machine.{Value, ref, num, Object, Machine}
use Rattle.clr_model.specs.Lookups.{object_size, object_at, local_index, is_thread}
use Rattle.clr_types.specs.Kinds.{is_dependent, is_root_kind}
use Rattle.clr_model.specs.Reach.{Edge}
use Rattle.clr_model.specs.Listing.{listing}
use Rattle.clr_model.specs.Instructions.{DumpOptions, least_of, greatest_of}
use Rattle.clr_nums.specs.Numbers.{hex16}
use Rattle.clr_model.specs.ReplyText.{spaced, place_text, kind_word, segment_word}
use Rattle.clr_types.specs.declared.segment.SegKind.{SegKind}
use Rattle.clr_types.specs.declared.segment.SegKind.TheVariants.{Small, Ephemeral, Large, Pinned}
use Rattle.clr_types.specs.declared.segment.SegInfo.{SegInfo}
use Rattle.clr_types.specs.Segments.{Layout, generation, stands_in, reserved_sum}
use Rattle.clr_types.specs.declared.item.Item.{Item}

-- a line of words, with its line feed
abbrev pub line : List (List ℕ) → List ℕ
line words = spaced words ++ (10 ∷ [])

-- ---- dumpheap

abbrev pub passes_life : Life → (ℕ → Bool) → Item → Bool
passes_life Any live i = true
passes_life Live live i = not (i.type_id.0 == 0) && live i.place
passes_life Dead live i = not (i.type_id.0 == 0) && not (live i.place)

abbrev pub passes_mt : Option ℕ → Item → Bool
passes_mt None i = true
passes_mt (Some mt) i = mt_of i.type_id.0 == mt

abbrev pub is_number : Option ℕ → ℕ → Bool
is_number None type = false
is_number (Some n) type = n == type

abbrev pub passes_name : List TypeRow → Option (List ℕ) → Item → Bool
passes_name rows None i = true
passes_name rows (Some name) i = is_number (number_with_free rows name) i.type_id.0

abbrev pub stands_in_some : Option SegInfo → ℕ → Bool
stands_in_some None place = false
stands_in_some (Some s) place = stands_in s place

-- the place is of the generation that is asked for, if one is
abbrev pub passes_generation : Layout → Option ℕ → ℕ → Bool
passes_generation layout None place = true
passes_generation layout (Some g) place = generation layout place == g

-- the place is of the segment with the base that is asked for, if one is; where no segment has the base, none is
abbrev pub passes_segment : Layout → Option ℕ → ℕ → Bool
passes_segment layout None place = true
passes_segment layout (Some base) place = stands_in_some (find (λ s. s.base == base) layout.segments) place

-- the item stands where it is asked for
abbrev pub passes_place : Layout → DumpOptions → Item → Bool
passes_place layout o i = passes_generation layout o.generation i.place && passes_segment layout o.segment i.place

-- the item passes every option but those on places; `live` says which places hold objects that the roots reach
abbrev pub passes : List TypeRow → (ℕ → Bool) → DumpOptions → Item → Bool
passes rows live o i =
    (passes_life o.life live i && (passes_mt o.mt i && passes_name rows o.name i))
    && (nat_le (least_of o) i.size && nat_le i.size (greatest_of o))

abbrev pub item_line : List TypeRow → Item → List ℕ
item_line rows i = line (hex16 i.place ∷ hex16 (mt_of i.type_id.0) ∷ decimal i.size ∷ name_of rows i.type_id.0 ∷ [])

abbrev pub is_free_item : Item → Bool
is_free_item i = i.type_id.0 == 0

abbrev pub bytes_in : List Item → ℕ
bytes_in = sum_by (λ i. i.size)

abbrev pub total_line : List Item → List ℕ
total_line shown =
    let objects = filter (λ i. not (is_free_item i)) shown in
    line (codes "total" ∷ decimal (length objects) ∷ codes "bytes" ∷ decimal (bytes_in objects) ∷ codes "free"
    ∷ decimal (bytes_in (filter is_free_item shown)) ∷ [])

abbrev pub none_or : List Item → List ℕ → List ℕ
none_or [] text = line (codes "none" ∷ [])
none_or (i ∷ is) text = text

-- a line for a type with at least one item
abbrev pub stat_line : List TypeRow → List Item → ℕ → List ℕ
stat_line rows [] type = []
stat_line rows (i ∷ is) type = line
    (hex16 (mt_of type) ∷ decimal (length (i ∷ is)) ∷ decimal (bytes_in (i ∷ is)) ∷ name_of rows type ∷ [])

-- a line for each of so many types from this number on
abbrev pub stat_lines : ℕ → ℕ → List TypeRow → List Item → List ℕ
stat_lines zero type rows shown = []
stat_lines (suc n) type rows shown = stat_line rows (filter (λ i. i.type_id.0 == type) shown) type
    ++ stat_lines n (type + 1) rows shown

abbrev pub dump_by_mode : Mode → List TypeRow → List Item → List ℕ
dump_by_mode Full rows shown = flat_map (item_line rows) shown ++ total_line shown
dump_by_mode Short rows shown = none_or shown (flat_map (λ i. line (hex16 i.place ∷ [])) shown)
dump_by_mode Stat rows shown = stat_lines (length rows + 1) 0 rows shown ++ total_line shown

abbrev pub dumpheap_text : Machine → (ℕ → Bool) → DumpOptions → List ℕ
dumpheap_text m live o =
    dump_by_mode o.mode m.types (filter (λ i. passes m.types live o i && passes_place m.layout o i) (listing m))

-- ---- dumpobj

abbrev pub slot_words : ℕ × Value → List (List ℕ)
slot_words (i, ref place) = codes "slot" ∷ decimal i ∷ codes "ref" ∷ place_text place ∷ []
slot_words (i, num number) = codes "slot" ∷ decimal i ∷ codes "num" ∷ decimal number ∷ []

abbrev pub length_words : Bool → ℕ → List (List ℕ)
length_words true len = codes "length" ∷ decimal len ∷ []
length_words false len = []

abbrev pub more_line : ℕ → List ℕ
more_line n = if nat_le n 16 then [] else line (codes "more" ∷ decimal (n - 16) ∷ [])

-- the line of an object itself
abbrev pub object_line : Machine → Object → List ℕ
object_line m o =
    line (codes "object" ∷ hex16 o.place ∷ name_of m.types o.type ∷ codes "size" ∷ decimal (object_size m.types o)
    ∷ codes "gen" ∷ decimal (generation m.layout o.place) ∷ length_words (is_array (form_at m.types o.type)) o.len)

abbrev pub object_text : Machine → Object → List ℕ
object_text m o =
    (object_line m o
    ++ flat_map (λ s. line (slot_words s)) (take 16 (enumerate_from 0 o.slots)))
    ++ more_line (length o.slots)

abbrev pub text_of_object : Machine → Option Object → List ℕ
text_of_object m None = []
text_of_object m (Some o) = object_text m o

abbrev pub dumpobj_text : Machine → ℕ → List ℕ
dumpobj_text m a = text_of_object m (object_at m.objects a)

-- ---- gcroot

-- the root's words, and the object that it names
pub data RootWords (m : Machine) : List (List ℕ) → ℕ → Type 0 where
  local_root : {place : ℕ} (t k : ℕ) → IsTrue (is_thread t) → k < 64 → slice_get m.locals (local_index t k) ≡ Some place
      → RootWords m (codes "root" ∷ (116 ∷ decimal t) ∷ (108 ∷ decimal k) ∷ []) place
  handle_root : {place : ℕ} (h : ℕ) (row : Handle) → finmap.get m.handles h ≡ Some row → IsTrue (is_root_kind row.kind)
      → row.target ≡ place → RootWords m (codes "root" ∷ (104 ∷ decimal h) ∷ []) place
  ready_root : {place : ℕ} (i : ℕ) → slice_get m.ready i ≡ Some place
      → RootWords m (codes "root" ∷ codes "ready" ∷ decimal i ∷ []) place

-- each place has an edge to the next, and the last is this one
abbrev pub IsChain : Machine → List ℕ → ℕ → Type 0
IsChain m [] last = ⊥
IsChain m (x ∷ []) last = x ≡ last
IsChain m (x ∷ y ∷ ys) last = Edge m x y × IsChain m (y ∷ ys) last

-- no place stands twice
abbrev pub IsWithoutRepeats : List ℕ → Type 0
IsWithoutRepeats [] = Unit {0}
IsWithoutRepeats (x ∷ xs) = AllByRecursion (λ y. x ≢ y) xs × IsWithoutRepeats xs

abbrev pub StartsAt : List ℕ → ℕ → Type 0
StartsAt [] place = ⊥
StartsAt (x ∷ xs) place = x ≡ place

abbrev pub type_of_place : Option Object → ℕ
type_of_place None = 0
type_of_place (Some o) = o.type

abbrev pub chain_line : Machine → ℕ → List ℕ
chain_line m place = line (hex16 place ∷ name_of m.types (type_of_place (object_at m.objects place)) ∷ [])

-- any chain from a root to the object that is a shortest one of all roots
pub record IsRootText (m : Machine) (a : ℕ) (text : List ℕ) : Type 0 where
  pub words : List (List ℕ)
  pub chain : List ℕ
  pub root : ℕ
  pub not_null : 0 < root
  pub rooted : RootWords m words root
  pub starts : StartsAt chain root
  pub linked : IsChain m chain a
  pub least : (other_words : List (List ℕ)) (start : ℕ) (other : List ℕ) → 0 < start → RootWords m other_words start
      → StartsAt other start → IsChain m other a → length chain ≤ length other
  pub distinct : IsWithoutRepeats chain
  pub shown : text ≡ line words ++ flat_map (chain_line m) chain

-- ---- the other texts

abbrev pub kind_number : SegKind → ℕ
kind_number Small = 0
kind_number Ephemeral = 1
kind_number Large = 2
kind_number Pinned = 3

abbrev pub boundary_words : Layout → SegKind → List (List ℕ)
boundary_words layout Ephemeral = codes "gen1" ∷ hex16 layout.start1 ∷ codes "gen0" ∷ hex16 layout.start0 ∷ []
boundary_words layout Small = []
boundary_words layout Large = []
boundary_words layout Pinned = []

abbrev pub segment_line : Layout → SegInfo → List ℕ
segment_line layout s =
    line (codes "segment" ∷ hex16 s.base ∷ segment_word (kind_number s.kind) ∷ codes "end" ∷ hex16 s.end
    ∷ codes "reserved" ∷ decimal s.reserved ∷ boundary_words layout s.kind)

abbrev pub context_line : ℕ × Option Piece → List ℕ
context_line (t, None) = []
context_line (t, Some rest) = line
    (codes "context" ∷ (116 ∷ decimal t) ∷ hex16 rest.place ∷ hex16 (piece_end rest) ∷ [])

abbrev pub eeheap_text : Machine → List ℕ
eeheap_text m =
    (flat_map (segment_line m.layout) m.layout.segments ++ flat_map context_line (enumerate_from 1 m.layout.rests))
    ++ line (codes "reserved" ∷ decimal (reserved_sum m.layout) ∷ codes "limit" ∷ decimal m.options.limit ∷ [])

abbrev pub second_words : Bool → ℕ → List (List ℕ)
second_words true second = place_text second ∷ []
second_words false second = []

abbrev pub handle_line : ℕ × Handle → List ℕ
handle_line (h, row) = line ((104 ∷ decimal h) ∷ kind_word row.kind ∷ place_text row.target
    ∷ second_words (is_dependent row.kind) row.second)

abbrev pub gchandles_text : Machine → List ℕ
gchandles_text m = flat_map handle_line (finmap.entries m.handles)
    ++ line (codes "handles" ∷ decimal (finmap.len m.handles) ∷ [])

abbrev pub queue_line : Machine → List ℕ → ℕ → List ℕ
queue_line m word place = line (word ∷ hex16 place ∷ name_of m.types (type_of_place (object_at m.objects place)) ∷ [])

abbrev pub finalizequeue_text : Machine → List ℕ
finalizequeue_text m =
    (flat_map (queue_line m (codes "entry")) m.entries ++ flat_map (queue_line m (codes "ready")) m.ready)
    ++ line (codes "entries" ∷ decimal (length m.entries) ∷ codes "ready" ∷ decimal (length m.ready) ∷ [])

abbrev pub where_of_segments : Layout → List SegInfo → ℕ → ℕ → Where
where_of_segments layout [] place size = record { generation = 2; kind = 0; base = 0; size = size }
where_of_segments layout (s ∷ ss) place size =
    if stands_in s place
    then record { generation = generation layout place; kind = kind_number s.kind; base = s.base; size = size }
    else where_of_segments layout ss place size

abbrev pub size_or_zero : List TypeRow → Option Object → ℕ
size_or_zero rows None = 0
size_or_zero rows (Some o) = object_size rows o

abbrev pub where_of : Machine → ℕ → Where
where_of m a = where_of_segments m.layout m.layout.segments a (size_or_zero m.types (object_at m.objects a))
