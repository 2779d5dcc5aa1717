-- Bricks that are renewed: before a sweep, what the sweep leaves; which objects count, and the first of a brick.
use Rattle.std.specs.Prelude.{◌≡◌, ◌≢◌, ℕ, ◌+◌, ◌*◌, ◌/◌, ◌%◌, ◌<◌, ◌≤◌, ◌⊎◌, Bool, true, ◌==◌}
use Rattle.std.specs.Prelude.{if◌then◌else◌, ℤ, List, filter, Option, Some, None}
use Rattle.clr_types.specs.Rising.{IsIn}
use Rattle.clr_types.specs.Segments.{generation, Layout, stands_in}
use Rattle.clr_types.specs.Types.{TypeRow}
use Rattle.clr_types.specs.declared.item.Item.{Item}
use Rattle.clr_bricks.specs.Bricks.{IsRoot, root_entry}
pub use Rattle.clr_bricks.specs.Bricks.{hop, led_back}
use Rattle.clr_heap.specs.View.{CanWalk, first_of, HeapView, items_between, last_of, listing, segment_at, sight}
use Rattle.clr_heap.specs.View.{word_of}
use Rattle.clr_model.specs.Machine.{Object}
use Rattle.clr_view.specs.Marks.{has_mark}
use Rattle.clr_view.specs.View.{objects_in}
use Rattle.clr_generations.specs.Laws.{AreEntered, LeadsBrick, may_lead, Stands}
use Rattle.clr_generations.specs.declared.renewing.Counted.{Counted}
use Rattle.clr_generations.specs.declared.renewing.Counted.TheVariants.{All, Marked}

-- ---- which objects count

-- whether an object with this method table word counts
abbrev pub passes : Counted → ℕ → Bool
passes Marked mt = has_mark mt
passes All mt = true

-- an object that counts stands at x: its method table word passes
pub record IsCounted (rows : List TypeRow) (h : HeapView) (counts : ℕ → Bool) (x : ℕ) : Type 0 where
  pub stands : Stands (objects_in rows h) x
  pub counted : counts (word_of h x) ≡ true

-- ---- what is left

-- Of the part of segment k from a place on those objects are kept that count, and all below it. In the layout
-- afterwards, what stands below the place is of generation 1 or 2, and each kept object may be named by its brick.
pub record AreKept (rows : List TypeRow) (h : HeapView) (counts : ℕ → Bool) (k from : ℕ) (after : Layout)
    (keep : Object → Bool) : Type 0 where
  pub below : (o : Object) → IsIn o (objects_in rows h) → stands_in (segment_at h k) o.place ≡ true → o.place < from
      → keep o ≡ true
  pub above : (o : Object) → IsIn o (objects_in rows h) → stands_in (segment_at h k) o.place ≡ true → from ≤ o.place
      → keep o ≡ counts (word_of h o.place)
  pub old : (place : ℕ) → stands_in (segment_at h k) place ≡ true → place < from → 0 < generation after place
  pub may : (o : Object) → IsIn o (objects_in rows h) → stands_in (segment_at h k) o.place ≡ true → keep o ≡ true
      → may_lead after o.place ≡ true

-- a sweep of the part keeps the marked ones
abbrev pub AreLeft : List TypeRow → HeapView → ℕ → ℕ → Layout → (Object → Bool) → Type 0
AreLeft rows h k from after keep = AreKept rows h has_mark k from after keep

-- the objects that are kept
abbrev pub left_in : List TypeRow → HeapView → (Object → Bool) → List Object
left_in rows h keep = filter keep (objects_in rows h)

-- ---- where a search may begin

-- no item of segment k reaches over the place: words spell the items below it, and those from there on
pub record IsBorder (rows : List TypeRow) (h : HeapView) (k place : ℕ) : Type 0 where
  pub below : CanWalk (sight rows h k) h.memories (first_of h k) place
  pub above : CanWalk (sight rows h k) h.memories place (last_of h k)

-- where the place is one of segment k, no item reaches over it
abbrev pub HasBorder : List TypeRow → HeapView → ℕ → ℕ → Type 0
HasBorder rows h k place = first_of h k ≤ place → place < last_of h k → IsBorder rows h k place

-- where generation 0 begins in segment k, no item reaches over its start
abbrev pub HasYoungBorder : List TypeRow → HeapView → ℕ → Type 0
HasYoungBorder rows h k = HasBorder rows h k h.start0

-- a walk over items of segment k can begin at the place
pub record CanBegin (rows : List TypeRow) (h : HeapView) (k place : ℕ) : Type 0 where
  pub low : first_of h k ≤ place
  pub walk : CanWalk (sight rows h k) h.memories place (last_of h k)
  pub among : (i : Item) → IsIn i (items_between (sight rows h k) place (last_of h k)) → IsIn i (listing rows h k)

-- an entry names a place below
abbrev pub NamesBelow : ℤ → ℕ → ℕ → Type 0
NamesBelow entry brick from = (offset : ℕ) × (entry ≡ root_entry offset) × (4096 * brick + offset < from)

-- a search for a brick's first object begins where the brick's entry says, and where it says nothing but generation 0
-- begins in the brick, there
abbrev pub IsSearchStart : ℤ → ℕ → ℕ → ℕ → Type 0
IsSearchStart entry brick young place =
    ((offset : ℕ) × (entry ≡ root_entry offset) × (place ≡ 4096 * brick + offset))
    ⊎ ((IsRoot entry → ⊥) × (young / 4096 ≡ brick) × (place ≡ young))

-- and where neither is so, no object starts in the brick
abbrev pub HasNoStart : ℤ → ℕ → ℕ → Type 0
HasNoStart entry brick young = (IsRoot entry → ⊥) × (young / 4096 ≢ brick)

-- ---- what entries told before

-- the entries of segment k told of its objects when the layout was another, in which generation 0 began at `young`, and
-- what stands below `from` was of generation 1 or 2
pub record HaveTold (rows : List TypeRow) (h : HeapView) (k from young : ℕ) (entry : ℕ → ℤ) : Type 0 where
  pub before : Layout
  pub start0 : before.start0 ≡ young
  pub old : (place : ℕ) → stands_in (segment_at h k) place ≡ true → place < from → 0 < generation before place
  pub law : AreEntered rows before (objects_in rows h) entry (segment_at h k)

-- so did the entry of a brick
pub record HasTold (objects : List Object) (young brick : ℕ) (entry : ℤ) : Type 0 where
  pub before : Layout
  pub start0 : before.start0 ≡ young
  pub named : (offset : ℕ) → entry ≡ root_entry offset → LeadsBrick before objects brick (4096 * brick + offset)
  pub starts : (x : ℕ) → Stands objects x → x / 4096 ≡ brick → may_lead before x ≡ true → IsRoot entry

-- ---- the first object that counts

-- no object that counts has a place from `start` on and below `past`
abbrev pub NoneCounted : List TypeRow → HeapView → (ℕ → Bool) → ℕ → ℕ → Type 0
NoneCounted rows h counts start past = (x : ℕ) → IsCounted rows h counts x → start ≤ x → x < past → ⊥

-- the first object that counts from `start` on stands at the place, below `past`
pub record IsFirstFrom (rows : List TypeRow) (h : HeapView) (counts : ℕ → Bool) (start past place : ℕ) : Type 0 where
  pub counted : IsCounted rows h counts place
  pub low : start ≤ place
  pub high : place < past
  pub first : NoneCounted rows h counts start place

-- no object that counts starts in the brick
abbrev pub NoneCountedIn : List TypeRow → HeapView → (ℕ → Bool) → ℕ → Type 0
NoneCountedIn rows h counts brick = (x : ℕ) → IsCounted rows h counts x → x / 4096 ≡ brick → ⊥

-- the first object of the brick that counts stands at the place
pub record IsFirstIn (rows : List TypeRow) (h : HeapView) (counts : ℕ → Bool) (brick place : ℕ) : Type 0 where
  pub counted : IsCounted rows h counts place
  pub inside : place / 4096 ≡ brick
  pub first : (x : ℕ) → IsCounted rows h counts x → x / 4096 ≡ brick → place ≤ x

-- ---- entries that are written

-- the first brick that isn't settled, after a brick whose first object that counts this is
abbrev pub next_after : Option ℕ → ℕ → ℕ → ℕ
next_after None brick next = next
next_after (Some place) brick next = brick + 1

-- the entries then
abbrev pub named_after : Option ℕ → (ℕ → ℤ) → ℕ → ℕ → ℕ → ℤ
named_after None entry brick next i = entry i
named_after (Some place) entry brick next i =
    if i == brick then root_entry (place % 4096) else led_back entry next brick i
