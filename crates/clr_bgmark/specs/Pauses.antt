-- The first and the last pause of a background collection.
use Rattle.std.specs.Prelude.{◌≡◌, ℕ, zero, suc, ◌+◌, ◌-◌, ◌/◌, ◌%◌, ◌*◌, ◌<◌, ◌≤◌, ◌⊎◌, ◌&&◌, not, nat_eq, nat_lt}
use Rattle.std.specs.Prelude.{Bool, true, false, List, [], ◌∷◌, map}
use Rattle.std.specs.Prelude.{if◌then◌else◌, ◌==◌, get_or, Option, Some, None}
use Rattle.std.specs.FinMap as finmap
use Rattle.std.specs.Ordering.{nat_cmp}
use Rattle.clr_types.specs.Kinds.{is_root_kind}
use Rattle.clr_types.specs.Segments.{generation}
use Rattle.clr_types.specs.Types.{TypeRow}
use Rattle.clr_types.specs.declared.handle.Handle.{Handle}
use Rattle.clr_types.specs.declared.item.Item.{Item}
use Rattle.clr_types.specs.declared.segment.SegInfo.{SegInfo}
use Rattle.clr_heap.specs.View.{frame, HeapView}
use Rattle.clr_model.specs.Background.{IsBegun}
use Rattle.clr_model.specs.Machine.{Machine}
use Rattle.clr_view.specs.View.{layout_in, objects_in}
use Rattle.clr_bgmark.specs.Bits.{has_bit}
use Rattle.clr_bgmark.specs.Scanning.{marking_in}
use Rattle.clr_bgmark.specs.Shades.{BackgroundView, changed_at, colour_at, covers, grayed, is_logged, is_marked}
use Rattle.clr_bgmark.specs.Shades.{is_scanned, is_white, IsAt, ShadeView, with_taken}
use Rattle.clr_bgmark.specs.declared.shade.Search.{Search}
use Rattle.clr_bgmark.specs.declared.shade.Search.TheVariants.{Gray, Logged}

-- ---- the first pause

-- The colours are those of a first pause, in every machine that the heap, the handles, the locals and the f-reachable
-- queue are parts of.
abbrev pub HasBegun : List TypeRow → HeapView → finmap.FinMap nat_cmp Handle → List ℕ → List ℕ → List ShadeView
    → Type 0
HasBegun rows h handles locals ready ss =
    (m : Machine) → m.objects ≡ objects_in rows h → m.layout ≡ layout_in rows h → m.handles ≡ handles
    → m.locals ≡ locals → m.ready ≡ ready → IsBegun m (marking_in (objects_in rows h) ss)

-- no bit of a segment is set
pub record IsBare (s : ShadeView) : Type 0 where
  pub taken : (n : ℕ) → has_bit s.taken n ≡ false
  pub marked : (n : ℕ) → has_bit s.marked n ≡ false
  pub scanned : (n : ℕ) → has_bit s.scanned n ≡ false
  pub logged : (n : ℕ) → has_bit s.logged n ≡ false

-- how many bytes of a segment are in use up to its end, in whole pages of 4,096 bytes
abbrev pub used_size : SegInfo → ℕ
used_size s = (s.end - s.base + 4095) / 4096 * 4096

-- where a segment begins and how many bytes of it are in use
abbrev pub used_of : SegInfo → ℕ × ℕ
used_of s = (s.base, used_size s)

-- these are the bits for the used part of each of the heap's segments
abbrev pub AreShadesOf : HeapView → List ShadeView → Type 0
AreShadesOf h ss = map (λ (s : ShadeView). (s.base, s.size)) ss ≡ map used_of h.segments

-- an item that is an object of generation 2
abbrev pub is_oldest : HeapView → Item → Bool
is_oldest h i = not (nat_eq i.type_id.0 0) && (generation (frame h) i.place == 2)

-- it is taken, where it is one
abbrev pub taken_item : HeapView → List ShadeView → Item → List ShadeView
taken_item h ss i = if is_oldest h i then changed_at i.place (with_taken i.place) ss else ss

-- all of these items, one after the other
abbrev pub all_taken : HeapView → List ShadeView → List Item → List ShadeView
all_taken h ss [] = ss
all_taken h ss (i ∷ items) = all_taken h (taken_item h ss i) items

-- the same in the bits of the segment that the items are of
abbrev pub taken_one : HeapView → ShadeView → Item → ShadeView
taken_one h s i = if is_oldest h i then with_taken i.place s else s

abbrev pub taken_in : HeapView → ShadeView → List Item → ShadeView
taken_in h s [] = s
taken_in h s (i ∷ items) = taken_in h (taken_one h s i) items

-- a place is of generation 2 where it is below this
abbrev pub IsOldBelow : HeapView → ℕ → ℕ → Type 0
IsOldBelow h place end = (generation (frame h) place == 2) ≡ nat_lt place end

-- a root becomes gray, where it is white
abbrev pub root_grayed : BackgroundView → ℕ → BackgroundView
root_grayed v root = if is_white (colour_at v.shades root) then grayed v root else v

-- the first n of these roots, one after the other
unfoldable pub roots_grayed : List ℕ → ℕ → BackgroundView → BackgroundView
roots_grayed roots zero v = v
roots_grayed roots (suc n) v = root_grayed (roots_grayed roots n v) (get_or roots n 0)

-- the target of a strong or pinned handle becomes gray, where it is white
abbrev pub target_grayed : Option Handle → BackgroundView → BackgroundView
target_grayed None v = v
target_grayed (Some row) v = if is_root_kind row.kind then root_grayed v row.target else v

-- the same for the handles of the first n numbers; not an `abbrev`, since antt would write it out for a literal
unfoldable pub targets_grayed : finmap.FinMap nat_cmp Handle → ℕ → BackgroundView → BackgroundView
targets_grayed handles zero v = v
targets_grayed handles (suc n) v = target_grayed (finmap.get handles n) (targets_grayed handles n v)

-- ---- the last pause

-- a place that is gray or black
abbrev pub IsFound : List ShadeView → ℕ → Type 0
IsFound ss a = (a % 8 ≡ 0) × (is_marked ss a ≡ true)

-- the address lies in one of the first k segments, or in segment k below `from`
abbrev pub IsBehind : List ShadeView → ℕ → ℕ → ℕ → Type 0
IsBehind [] k from a = ⊥
IsBehind (s ∷ ss) zero from a = (covers s a ≡ true) × (a / 8 < from / 8)
IsBehind (s ∷ ss) (suc k) from a = (covers s a ≡ true) ⊎ IsBehind ss k from a

-- another cell behind one of a segment is marked, and no card is logged between the two
pub record IsUnlogged (s : ShadeView) (i : ℕ) : Type 0 where
  pub next : ℕ
  pub further : i < next
  pub within : next < s.size / 8
  pub marked : has_bit s.marked next ≡ true
  pub clear : (k : ℕ) → i / 256 ≤ k → 256 * k < next → has_bit s.logged k ≡ false

-- what a search tells of a marked cell over which it passes
abbrev pub PassesCell : Search → ShadeView → ℕ → Type 0
PassesCell Gray s i = has_bit s.scanned i ≡ true
PassesCell Logged s i = IsUnlogged s i

-- another found place stands above this one, and nothing is logged between the two
pub record IsClear (ss : List ShadeView) (a : ℕ) : Type 0 where
  pub next : ℕ
  pub found : IsFound ss next
  pub further : a < next
  pub clear : (b : ℕ) → a ≤ b → b < next → is_logged ss b ≡ false

-- what a search tells of a found place over which it passes
abbrev pub Passes : Search → List ShadeView → ℕ → Type 0
Passes Gray ss a = is_scanned ss a ≡ true
Passes Logged ss a = IsClear ss a

-- a found place, such that a search passes over those between it and a spot
pub record IsNextFound (search : Search) (ss : List ShadeView) (k from j a : ℕ) : Type 0 where
  pub at : IsAt ss j a
  pub found : IsFound ss a
  pub next : (b : ℕ) → IsFound ss b → IsBehind ss j (a + 8) b → (IsBehind ss k from b ⊎ (b ≡ a)) ⊎ Passes search ss b
