-- What lines that look reply: one text for each concrete view of a machine, or any of some where a choice is open.
use Rattle.std.specs.Prelude.{◌≡◌, ℕ, zero, suc, ◌+◌, ◌-◌, ◌/◌, ◌%◌, ◌<◌, ◌≤◌, List, [], ◌∷◌, ◌++◌, length, if◌then◌else◌, ◌==◌}
use Rattle.std.specs.Prelude.{nat_le, nat_lt, Bool, true, false, ◌&&◌, not, filter, find, take, drop, codes, decimal}
use Rattle.std.specs.Prelude.{Option, Some, None, unwrap_or, count_by}
use Rattle.std.specs.List.{flat_map, enumerate_from}
use Rattle.std.specs.FinMap as finmap
use Rattle.clr_types.specs.Rising.{sorted_by, Tests}
use Rattle.clr_types.specs.Types.{form_at, has_finalizer, mt_of, name_of, type_row, TypeRow}
use Rattle.clr_types.specs.Kinds.{is_root_kind}
use Rattle.clr_types.specs.declared.handle.Handle.{Handle}
use Rattle.clr_types.specs.declared.handle.Kind.{Kind}
use Rattle.clr_types.specs.declared.handle.Kind.TheVariants.{Strong, Pinned, Weak, WeakLong, Dependent}
use Rattle.clr_types.specs.declared.item.Item.{Item}
use Rattle.clr_types.specs.declared.segment.SegInfo.{SegInfo}
use Rattle.clr_types.specs.declared.segment.SegKind.{SegKind}
use Rattle.clr_types.specs.declared.segment.SegKind.TheVariants as segment_kind
use Rattle.clr_types.specs.Segments.{first_place, generation, Layout, stands_in}
use Rattle.clr_nums.specs.Numbers.{hex16}
use Rattle.clr_model.specs.declared.look.Look.{Look}
use Rattle.clr_model.specs.declared.look.Look.TheVariants.{DumpArray, DumpMt, GcRoots, PathTo, Retained, GcHeapStat}
use Rattle.clr_model.specs.declared.look.Look.TheVariants.{ListNearObj, EphRefs, HandleStat, HandlesOf}
use Rattle.clr_model.specs.Machine.{Value, ref, num, Object, Machine}
use Rattle.clr_model.specs.Lookups.{bytes_where, object_at, object_size}
use Rattle.clr_model.specs.Reach.{Live, ReachFrom, Without}
use Rattle.clr_model.specs.Listing.{listing}
use Rattle.clr_model.specs.LineGrammar.{final_words, form_words}
use Rattle.clr_model.specs.ReplyText.{kind_word, place_text}
use Rattle.clr_model.specs.Sos.{bytes_in, chain_line, handle_line, is_free_item, item_line, line, object_line, slot_words}
use Rattle.clr_model.specs.Sos.{IsChain, StartsAt, type_of_place}

-- ---- dumparray

-- at most so many, where a number is said
abbrev pub at_most : {A : Type 0} → Option ℕ → List A → List A
at_most None xs = xs
at_most (Some n) xs = take n xs

-- what is left of a list behind those
abbrev pub behind : {A : Type 0} → Option ℕ → List A → List A
behind None xs = []
behind (Some n) xs = drop n xs

-- how many slots come behind those that are shown
abbrev pub rest_line : ℕ → List ℕ
rest_line n = if n == 0 then [] else line (codes "more" ∷ decimal n ∷ [])

-- the slots from `start` on, each with its number
abbrev pub numbered_from : Option ℕ → List Value → List (ℕ × Value)
numbered_from start slots = drop (unwrap_or start 0) (enumerate_from 0 slots)

abbrev pub array_text : Machine → Option ℕ → Option ℕ → Object → List ℕ
array_text m start count o =
    (object_line m o ++ flat_map (λ s. line (slot_words s)) (at_most count (numbered_from start o.slots)))
    ++ rest_line (length (behind count (numbered_from start o.slots)))

abbrev pub dumparray_text : Machine → Option ℕ → Option ℕ → Option Object → List ℕ
dumparray_text m start count None = []
dumparray_text m start count (Some o) = array_text m start count o

-- ---- dumpmt

-- the number of the type with a method table word
abbrev pub type_with_mt : ℕ → ℕ
type_with_mt mt = (mt - mt_of 0) / 64

-- what stands behind the name in the line that defines a type; nothing for free items
abbrev pub defining_words : List TypeRow → ℕ → List (List ℕ)
defining_words rows zero = []
defining_words rows (suc t) = form_words (form_at rows (suc t)) ++ final_words (has_finalizer (type_row rows (suc t)))

abbrev pub dumpmt_text : Machine → ℕ → List ℕ
dumpmt_text m mt =
    line (codes "mt" ∷ hex16 mt ∷ name_of m.types (type_with_mt mt)
    ∷ defining_words m.types (type_with_mt mt))

-- ---- chains

-- no chain of slots and dependent handles from one object to the other has fewer objects
pub record IsShortest (m : Machine) (from to : ℕ) (chain : List ℕ) : Type 0 where
  pub starts : StartsAt chain from
  pub linked : IsChain m chain to
  pub least : (other : List ℕ) → StartsAt other from → IsChain m other to → length chain ≤ length other

-- a root: the words of its line, and the object that it refers to
pub record Root : Type 0 where
  pub words : List (List ℕ)
  pub place : ℕ

abbrev pub root_if : Bool → List (List ℕ) → ℕ → List Root
root_if true words place = record { words = words; place = place } ∷ []
root_if false words place = []

abbrev pub local_root_at : ℕ × ℕ → List Root
local_root_at (i, place) = root_if (nat_lt 0 place)
    (codes "root" ∷ (116 ∷ decimal (i / 64 + 1)) ∷ (108 ∷ decimal (i % 64)) ∷ []) place

abbrev pub handle_root_at : ℕ × Handle → List Root
handle_root_at (h, row) = root_if (is_root_kind row.kind && nat_lt 0 row.target)
    (codes "root" ∷ (104 ∷ decimal h) ∷ []) row.target

abbrev pub ready_root_at : ℕ × ℕ → List Root
ready_root_at (i, place) = root_if (nat_lt 0 place) (codes "root" ∷ codes "ready" ∷ decimal i ∷ []) place

-- each root, by its kind and number: locals, strong and pinned handles, the f-reachable queue
abbrev pub roots_of : Machine → List Root
roots_of m =
    (flat_map local_root_at (enumerate_from 0 m.locals) ++ flat_map handle_root_at (finmap.entries m.handles))
    ++ flat_map ready_root_at (enumerate_from 0 m.ready)

-- what is told of roots in order: the line of each that leads to the object, and a shortest chain behind it
pub data TellsRoots (m : Machine) (a : ℕ) : List Root → ℕ → List ℕ → Type 0 where
  no_more : TellsRoots m a [] 0 []
  leads_not : {root : Root} {roots : List Root} {count : ℕ} {text : List ℕ} → (ReachFrom m root.place a → ⊥)
      → TellsRoots m a roots count text → TellsRoots m a (root ∷ roots) count text
  leads : {root : Root} {roots : List Root} {count : ℕ} {text : List ℕ} (chain : List ℕ)
      → IsShortest m root.place a chain → TellsRoots m a roots count text
      → TellsRoots m a (root ∷ roots) (suc count) ((line root.words ++ flat_map (chain_line m) chain) ++ text)

-- each root that leads to the object, and how many these are
pub record IsRootsText (m : Machine) (a : ℕ) (text : List ℕ) : Type 0 where
  pub count : ℕ
  pub blocks : List ℕ
  pub told : TellsRoots m a (roots_of m) count blocks
  pub shown : text ≡ blocks ++ line (codes "roots" ∷ decimal count ∷ [])

-- a shortest chain from one object to the other, or `none` where there is none
pub data IsPathText (m : Machine) (a b : ℕ) (text : List ℕ) : Type 0 where
  leads : (chain : List ℕ) → IsShortest m a b chain → text ≡ flat_map (chain_line m) chain → IsPathText m a b text
  leads_not : (ReachFrom m a b → ⊥) → text ≡ line (codes "none" ∷ []) → IsPathText m a b text

-- ---- retained

-- the object is live, and would be garbage were the one at an address not there
abbrev pub is_retained : (live without : ℕ → Bool) → Object → Bool
is_retained live without o = live o.name && not (without o.name)

pub record IsRetainedText (m : Machine) (a : ℕ) (text : List ℕ) : Type 0 where
  pub live : ℕ → Bool
  pub lives : Tests live (Live m)
  pub without : ℕ → Bool
  pub stays : Tests without (Without m a)
  pub shown : text ≡ line (codes "retained" ∷ hex16 a
      ∷ codes "objects" ∷ decimal (count_by (is_retained live without) m.objects)
      ∷ codes "bytes" ∷ decimal (bytes_where m (is_retained live without)) ∷ [])

-- ---- gcheapstat

-- the number of the line that counts what stands in a segment of this kind, in this generation
abbrev pub stat_row : SegKind → ℕ → ℕ
stat_row segment_kind.Small g = g
stat_row segment_kind.Ephemeral g = g
stat_row segment_kind.Large g = 3
stat_row segment_kind.Pinned g = 4

abbrev pub stat_row_in : Layout → List SegInfo → ℕ → ℕ
stat_row_in layout [] place = 2
stat_row_in layout (s ∷ ss) place =
    if stands_in s place then stat_row s.kind (generation layout place) else stat_row_in layout ss place

-- the items that line k counts
abbrev pub row_items : Machine → ℕ → List Item
row_items m k = filter (λ i. stat_row_in m.layout m.layout.segments i.place == k) (listing m)

abbrev pub objects_among : List Item → List Item
objects_among items = filter (λ i. not (is_free_item i)) items

abbrev pub dead_words : Bool → ℕ → List (List ℕ)
dead_words true bytes = codes "dead" ∷ decimal bytes ∷ []
dead_words false bytes = []

abbrev pub stat_words : List (List ℕ) → Bool → (ℕ → Bool) → List Item → List (List ℕ)
stat_words name unrooted live items =
    name ++ (codes "objects" ∷ decimal (length (objects_among items)) ∷ codes "bytes"
    ∷ decimal (bytes_in (objects_among items)) ∷ codes "free" ∷ decimal (bytes_in (filter is_free_item items))
    ∷ dead_words unrooted (bytes_in (filter (λ i. not (live i.place)) (objects_among items))))

abbrev pub gcheapstat_text : Machine → Bool → (ℕ → Bool) → List ℕ
gcheapstat_text m unrooted live =
    line (stat_words (codes "gen" ∷ codes "0" ∷ []) unrooted live (row_items m 0))
    ++ (line (stat_words (codes "gen" ∷ codes "1" ∷ []) unrooted live (row_items m 1))
    ++ (line (stat_words (codes "gen" ∷ codes "2" ∷ []) unrooted live (row_items m 2))
    ++ (line (stat_words (codes "large" ∷ []) unrooted live (row_items m 3))
    ++ (line (stat_words (codes "pinned" ∷ []) unrooted live (row_items m 4))
    ++ line (stat_words (codes "total" ∷ []) unrooted live (listing m))))))

-- a test of what is live is wanted only where the dead are asked for
abbrev pub TestsIf : Bool → (ℕ → Bool) → (ℕ → Type 0) → Type 0
TestsIf true live P = Tests live P
TestsIf false live P = Unit {0}

-- ---- listnearobj

-- the items of the segment that uses the address, if one does
abbrev pub near_items : Machine → ℕ → List Item
near_items m a = flat_map (λ s. if nat_le (first_place s) a && nat_lt a s.end
    then filter (λ i. stands_in s i.place) (listing m) else []) m.layout.segments

abbrev pub is_over : ℕ → Item → Bool
is_over a i = nat_le i.place a && nat_lt a (i.place + i.size)

abbrev pub last_item : List Item → Option Item
last_item [] = None
last_item (i ∷ []) = Some i
last_item (i ∷ j ∷ items) = last_item (j ∷ items)

abbrev pub place_or : ℕ → Option Item → ℕ
place_or a None = a
place_or a (Some i) = i.place

abbrev pub near_line : List ℕ → List TypeRow → Option Item → List ℕ
near_line word rows None = []
near_line word rows (Some i) = (word ++ (32 ∷ [])) ++ item_line rows i

abbrev pub none_if_empty : List ℕ → List ℕ
none_if_empty [] = line (codes "none" ∷ [])
none_if_empty (b ∷ bs) = b ∷ bs

-- the item over an address, the one before that or before the address, and the next one above the address
abbrev pub listnearobj_text : Machine → ℕ → List ℕ
listnearobj_text m a =
    let items = near_items m a in
    let at = find (is_over a) items in
    none_if_empty (
    near_line (codes "before") m.types (last_item (filter (λ i. nat_le (i.place + i.size) (place_or a at)) items))
    ++ (near_line (codes "at") m.types at ++ near_line (codes "after") m.types (find (λ i. nat_lt a i.place) items)))

-- ---- ephrefs

-- a slot refers to an object of a younger generation
abbrev pub is_younger : Layout → ℕ → Value → Bool
is_younger layout place (ref target) = nat_lt 0 target && nat_lt (generation layout target) (generation layout place)
is_younger layout place (num number) = false

abbrev pub younger_line : Machine → Object → ℕ × Value → List ℕ
younger_line m o (i, ref target) =
    line (hex16 o.place ∷ name_of m.types o.type ∷ codes "slot" ∷ decimal i ∷ codes "ref" ∷ hex16 target
    ∷ name_of m.types (type_of_place (object_at m.objects target)) ∷ [])
younger_line m o (i, num number) = []

abbrev pub younger_slots : Machine → Object → List (ℕ × Value)
younger_slots m o = filter (λ s. is_younger m.layout o.place s.1) (enumerate_from 0 o.slots)

abbrev pub objects_by_place : Machine → List Object
objects_by_place m = sorted_by (λ o. o.place) m.objects

abbrev pub ephrefs_text : Machine → List ℕ
ephrefs_text m =
    flat_map (λ o. flat_map (younger_line m o) (younger_slots m o)) (objects_by_place m)
    ++ line (codes "refs" ∷ decimal (length (flat_map (younger_slots m) (objects_by_place m))) ∷ [])

-- ---- gchandles

abbrev pub is_kind : Kind → Kind → Bool
is_kind Strong Strong = true
is_kind Pinned Pinned = true
is_kind Weak Weak = true
is_kind WeakLong WeakLong = true
is_kind Dependent Dependent = true
is_kind _ _ = false

abbrev pub handles_of_kind : Machine → Kind → List (ℕ × Handle)
handles_of_kind m kind = filter (λ h. is_kind kind h.1.kind) (finmap.entries m.handles)

abbrev pub kind_line : Machine → Kind → List ℕ
kind_line m kind = line (kind_word kind ∷ decimal (length (handles_of_kind m kind)) ∷ [])

abbrev pub handlestat_text : Machine → List ℕ
handlestat_text m =
    flat_map (kind_line m) (Strong ∷ Pinned ∷ Weak ∷ WeakLong ∷ Dependent ∷ [])
    ++ line (codes "handles" ∷ decimal (finmap.len m.handles) ∷ [])

abbrev pub handlesof_text : Machine → Kind → List ℕ
handlesof_text m kind =
    flat_map handle_line (handles_of_kind m kind)
    ++ line (codes "handles" ∷ decimal (length (handles_of_kind m kind)) ∷ [])

-- ---- all of them

-- the text is a reply to the line, for the concrete view of a machine
abbrev pub IsLookText : Machine → Look → List ℕ → Type 0
IsLookText m (DumpArray start count a) text = text ≡ dumparray_text m start count (object_at m.objects a)
IsLookText m (DumpMt mt) text = text ≡ dumpmt_text m mt
IsLookText m (GcRoots a) text = IsRootsText m a text
IsLookText m (PathTo a b) text = IsPathText m a b text
IsLookText m (Retained a) text = IsRetainedText m a text
IsLookText m (GcHeapStat unrooted) text =
    (live : ℕ → Bool) × TestsIf unrooted live (Live m) × (text ≡ gcheapstat_text m unrooted live)
IsLookText m (ListNearObj a) text = text ≡ listnearobj_text m a
IsLookText m EphRefs text = text ≡ ephrefs_text m
IsLookText m HandleStat text = text ≡ handlestat_text m
IsLookText m (HandlesOf kind) text = text ≡ handlesof_text m kind
