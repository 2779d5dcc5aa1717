-- The first pause: what is taken in one segment, with its bits lent.
use Rattle.std.proofs.Common.{◌≡◌, ◌≢◌, ℕ, zero, suc, ◌+◌, ◌^◌, ◌<◌, ◌≤◌, List, [], ◌∷◌, length, map, get_or, set}
use Rattle.std.proofs.Common.{refl, sym, ap, subst, ◌∙◌, arith, Bool, true, false, if◌then◌else◌, ◌&&◌, not, nat_eq}
use Rattle.std.proofs.Common.{nat_lt, ◌==◌, Option, Some, None, min}
use Rattle.std.proofs.lemmas.Bool.{eqb-true, le-ltb, lt-ltb, ne_eqb}
use Rattle.std.proofs.lemmas.List.{get_or-map, length-map}
use Rattle.clr_types.specs.Bits.{unmarked}
use Rattle.clr_types.specs.Rising.{IsIn, first, later}
use Rattle.clr_types.specs.Segments.{empty_segment, ephemeral, first_place, generation, reserved_end, stands_in}
use Rattle.clr_types.specs.Types.{TypeRow}
use Rattle.clr_types.specs.declared.item.Item.{Item}
use Rattle.clr_types.specs.declared.segment.SegInfo.{SegInfo}
use Rattle.clr_types.proofs.SegmentFacts.{between-stands, stands-between}
use Rattle.clr_types.proofs.RisingLists.{all_at}
use Rattle.clr_heap.specs.Memories.{memory_index}
use Rattle.clr_heap.specs.ObjectKinds.{IsObjectKind, known_size}
use Rattle.clr_heap.specs.Parts.{item_at, parts}
use Rattle.clr_heap.specs.View.{AfterItem, AreWalkable, CanWalk, first_of, frame, HasItem, heap_items, HeapView}
use Rattle.clr_heap.specs.View.{IsHeap, items_between, last_of, listing, segment_at, sight}
use Rattle.clr_heap.specs.declared.kinds.ObjectKind.{ObjectKind}
use Rattle.clr_heap.proofs.Addresses.{index_is_segment}
use Rattle.clr_heap.proofs.ItemHeads.{head-in}
use Rattle.clr_heap.proofs.Framing.{below_top_at, lawful_at}
use Rattle.clr_view.specs.View.{IsHeld}
use Rattle.clr_view.proofs.Items.{IsItem, items-are}
use Rattle.clr_view.proofs.Listings.{listing-are}
use Rattle.clr_view.proofs.Standing.{InCell, standing}
use Rattle.clr_bgmark.specs.Pauses.{all_taken, AreShadesOf, IsOldBelow, is_oldest, taken_in, taken_item, taken_one}
use Rattle.clr_bgmark.specs.Pauses.{used_of}
use Rattle.clr_bgmark.specs.Shades.{AreApart, changed_at, covers, is_covered, IsAt, ShadeView, with_taken}
use Rattle.clr_bgmark.proofs.FirstPause.{used_part}
use Rattle.clr_bgmark.proofs.GrayPlaces.{apart_at, covered_by}
use Rattle.clr_bgmark.proofs.Kept.{inside_covers}

-- where a segment's bits begin, and of how many bytes they are
abbrev pub shape : ShadeView → ℕ × ℕ
shape s = (s.base, s.size)

-- ---- one item

pub one_shape : (h : HeapView) (s : ShadeView) (i : Item) → shape (taken_one h s i) ≡ shape s
one_shape h s i = go (is_oldest h i)
  where
    go : (b : Bool) → shape (if b then with_taken i.place s else s) ≡ shape s
    go true = refl
    go false = refl

-- an object of generation 2 is taken
pub object_taken : (h : HeapView) (s : ShadeView) (i : Item) (place : ℕ) → i.place ≡ place → i.type_id.0 ≢ 0
    → generation (frame h) place ≡ 2 → with_taken place s ≡ taken_one h s i
object_taken h s i place at object old =
    go (nat_eq i.type_id.0 0) (generation (frame h) i.place == 2) (ne_eqb i.type_id.0 0 object)
    (ap (λ a. generation (frame h) a == 2) at ∙ ap (λ n. n == 2) old)
  where
    go : (z b : Bool) → z ≡ false → b ≡ true
        → with_taken place s ≡ (if not z && b then with_taken i.place s else s)
    go true b e f = absurd cc
    go false false e f = absurd cc
    go false true e f = ap (λ p. with_taken p s) (sym at)

-- and a free item isn't
pub free_left : (h : HeapView) (s : ShadeView) (i : Item) → i.type_id.0 ≡ 0 → s ≡ taken_one h s i
free_left h s i free =
    ap (λ n. if not (nat_eq n 0) && (generation (frame h) i.place == 2) then with_taken i.place s else s) (sym free)

-- of items of younger generations none is taken
young_left : (h : HeapView) (s : ShadeView) (items : List Item)
    → ((i : Item) → IsIn i items → (generation (frame h) i.place == 2) ≡ false) → taken_in h s items ≡ s
young_left h s [] young = refl
young_left h s (i ∷ items) young =
    ap (λ now. taken_in h now items)
    (here (not (nat_eq i.type_id.0 0)) (generation (frame h) i.place == 2) (young i first))
    ∙ young_left h s items (λ j l. young j (later l))
  where
    here : (b c : Bool) → c ≡ false → (if b && c then with_taken i.place s else s) ≡ s
    here true true e = absurd cc
    here true false e = refl
    here false c e = refl

-- NOTHING IS TAKEN BEHIND WHERE GENERATION 2 ENDS
pub rest_left : (rows : List TypeRow) (h : HeapView) (k place stop : ℕ) (s : ShadeView)
    → CanWalk (sight rows h k) h.memories place (last_of h k) → first_of h k ≤ place
    → ((a : ℕ) → first_of h k ≤ a → a < last_of h k → IsOldBelow h a stop) → min stop (last_of h k) ≤ place
    → taken_in h s (items_between (sight rows h k) place (last_of h k)) ≡ s
rest_left rows h k place stop s walk low old behind =
    let end = last_of h k in
    young_left h s (items_between (sight rows h k) place end)
    (λ i l.
    let is : IsItem rows place end i =
    all_at (IsItem rows place end) l
    (items-are (sight rows h k) (parts end (sight rows h k) place end) place end walk.start walk.spelled) in
    let above = is.above in
    let below = is.below in
    let least = is.least in
    old i.place (omega (arith, low, above)) (omega (arith, below, least))
    ∙ le-ltb i.place stop (omega (arith, behind, above, below, least)))

-- what has the word of a known kind is an object, of the size that is known
pub known_kind : (rows : List TypeRow) (word : ℕ → ℕ) (a size : ℕ) (kind : ObjectKind) → IsObjectKind rows kind
    → ◌≡◌ {A = Option ℕ} (Some size) (known_size kind (word a))
    → ((item_at rows word a).type_id.0 ≢ 0) × (size ≡ (item_at rows word a).size)
known_kind rows word a size kind known e = go (unmarked (word a) == kind.mt) refl e
  where
    some-same : {x y : ℕ} → ◌≡◌ {A = Option ℕ} (Some x) (Some y) → x ≡ y
    some-same e = cc

    go : (b : Bool) → (unmarked (word a) == kind.mt) ≡ b
        → ◌≡◌ {A = Option ℕ} (Some size) (if b then Some kind.size else None)
        → ((item_at rows word a).type_id.0 ≢ 0) × (size ≡ (item_at rows word a).size)
    go true same e =
        let here : unmarked (word a) ≡ kind.mt = eqb-true (unmarked (word a)) kind.mt same in
        (known.object word a here, some-same e ∙ sym (known.size word a here))
    go false same e = let none : ◌≡◌ {A = Option ℕ} (Some size) None = e in absurd cc

-- ---- one segment among all

taken_shapes : (h : HeapView) (a : ℕ) (ss : List ShadeView) → map shape (changed_at a (with_taken a) ss) ≡ map shape ss
taken_shapes h a [] = refl
taken_shapes h a (s ∷ ss) = go (covers s a) (taken_shapes h a ss)
  where
    go : (b : Bool) → map shape (changed_at a (with_taken a) ss) ≡ map shape ss
        → map shape (if b then with_taken a s ∷ ss else s ∷ changed_at a (with_taken a) ss) ≡ map shape (s ∷ ss)
    go true more = refl
    go false more = ap (λ ps. shape s ∷ ps) more

-- what is taken leaves where the segments lie
pub all_shapes : (h : HeapView) (items : List Item) (ss : List ShadeView)
    → map shape (all_taken h ss items) ≡ map shape ss
all_shapes h [] ss = refl
all_shapes h (i ∷ items) ss = all_shapes h items (taken_item h ss i) ∙ one (is_oldest h i)
  where
    one : (b : Bool) → map shape (if b then changed_at i.place (with_taken i.place) ss else ss) ≡ map shape ss
    one true = taken_shapes h i.place ss
    one false = refl

-- all items lie in the first segment
first_taken : (h : HeapView) (items : List Item) (s : ShadeView) (ss : List ShadeView)
    → ((i : Item) → IsIn i items → covers s i.place ≡ true)
    → all_taken h (s ∷ ss) items ≡ taken_in h s items ∷ ss
first_taken h [] s ss inside = refl
first_taken h (i ∷ items) s ss inside =
    ap (λ now. all_taken h now items) (here (is_oldest h i) (covers s i.place) (inside i first))
    ∙ first_taken h items (taken_one h s i) ss
    (λ j l. covers_on (is_oldest h i) j.place ∙ inside j (later l))
  where
    here : (b c : Bool) → c ≡ true
        → (if b then (if c then with_taken i.place s ∷ ss else s ∷ changed_at i.place (with_taken i.place) ss)
        else s ∷ ss) ≡ (if b then with_taken i.place s else s) ∷ ss
    here true true e = refl
    here true false e = absurd cc
    here false c e = refl

    covers_on : (b : Bool) (a : ℕ) → covers (if b then with_taken i.place s else s) a ≡ covers s a
    covers_on true a = refl
    covers_on false a = refl

-- none of them does
later_taken : (h : HeapView) (items : List Item) (s : ShadeView) (ss : List ShadeView)
    → ((i : Item) → IsIn i items → covers s i.place ≡ false)
    → all_taken h (s ∷ ss) items ≡ s ∷ all_taken h ss items
later_taken h [] s ss outside = refl
later_taken h (i ∷ items) s ss outside =
    ap (λ now. all_taken h now items) (there (is_oldest h i) (covers s i.place) (outside i first))
    ∙ later_taken h items s (taken_item h ss i) (λ j l. outside j (later l))
  where
    there : (b c : Bool) → c ≡ false
        → (if b then (if c then with_taken i.place s ∷ ss else s ∷ changed_at i.place (with_taken i.place) ss)
        else s ∷ ss) ≡ s ∷ (if b then changed_at i.place (with_taken i.place) ss else ss)
    there true true e = absurd cc
    there true false e = refl
    there false c e = refl

-- ITEMS OF SEGMENT k ARE TAKEN IN ITS BITS ALONE
pub taken_at : (h : HeapView) (items : List Item) (ss : List ShadeView) (k : ℕ) (d : ShadeView) → k < length ss
    → ((i : Item) → IsIn i items → IsAt ss k i.place)
    → set ss k (taken_in h (get_or ss k d) items) ≡ all_taken h ss items
taken_at h items [] k d l at = absurd (omega arith)
taken_at h items (s ∷ ss) zero d l at = sym (first_taken h items s ss at)
taken_at h items (s ∷ ss) (suc k) d l at =
    ap (λ now. s ∷ now) (taken_at h items ss k d (omega arith) (λ i j. (at i j).1))
    ∙ sym (later_taken h items s ss (λ i j. (at i j).0))

-- ---- the items of segment k

module _ (h : HeapView) (heap : IsHeap h) (ss : List ShadeView) (shapes : AreShadesOf h ss) (k : ℕ)
    (inside : k < length h.segments) where
  pub shade_there : k < length ss
  shade_there =
      let count = sym (length-map ss shape) ∙ ap length shapes ∙ length-map h.segments used_of in
      omega (arith, count, inside)

  -- the bits of segment k are those of its used part
  pub shade_shape : (d : ShadeView) → shape (get_or ss k d) ≡ used_of (segment_at h k)
  shade_shape d = sym (get_or-map shape ss k d (0, 0) shade_there)
      ∙ ap (λ ps. get_or ps k (0, 0)) shapes
      ∙ get_or-map used_of h.segments k empty_segment (0, 0) inside

  abbrev none : ShadeView
  none = record { base = 0; size = 0; taken = []; marked = []; scanned = []; logged = [] }

  -- they cover all addresses below its end
  end_covers : (a : ℕ) → (segment_at h k).base ≤ a → a < last_of h k → covers (get_or ss k none) a ≡ true
  end_covers a low below =
      let base = ap (λ (p : ℕ × ℕ). p.0) (shade_shape none) in
      let size = ap (λ (p : ℕ × ℕ). p.1) (shade_shape none) in
      let holds = (used_part (segment_at h k) (lawful_at h k heap inside)).holds in
      inside_covers (get_or ss k none) a
      (record { low = omega (arith, base, low); high = omega (arith, base, size, holds, below) })

  below_covered : (a : ℕ) → (segment_at h k).base ≤ a → a < last_of h k → is_covered ss a ≡ true
  below_covered a low below = covered_by ss k a none shade_there (end_covers a low below)

  pub items_at : (rows : List TypeRow) → AreWalkable rows h → AreApart ss → (i : Item) → IsIn i (listing rows h k)
      → IsAt ss k i.place
  items_at rows walkable apart i l =
      let is : IsItem rows (first_of h k) (last_of h k) i =
      all_at (IsItem rows (first_of h k) (last_of h k)) l (listing-are rows h walkable k inside) in
      let above = is.above in
      let below = is.below in
      let least = is.least in
      apart_at ss k i.place none apart shade_there
      (end_covers i.place (omega (arith, above)) (omega (arith, below, least)))

-- ---- the cells of items

-- EACH WORD OF AN ITEM IS COVERED
pub cell_covered : (rows : List TypeRow) (h : HeapView) → IsHeap h → IsHeld rows h → (ss : List ShadeView)
    → AreShadesOf h ss → (i : Item) → IsIn i (heap_items rows h) → (a : ℕ) → InCell i a → is_covered ss a ≡ true
cell_covered rows h heap held ss shapes i listed a cell =
    let place = standing rows h heap held i listed in
    let above = place.above in
    let below = place.below in
    let low = cell.low in
    let high = cell.high in
    below_covered h heap ss shapes place.segment place.in_range a (omega (arith, above, low))
    (omega (arith, below, high))

-- ---- where generation 2 ends

module _ (h : HeapView) (heap : IsHeap h) (k e : ℕ) (inside : k < length h.segments) (young : e < length h.segments)
    (is : segment_at h e ≡ ephemeral (frame h)) (a : ℕ) (low : first_of h k ≤ a) (below : a < last_of h k) where
  high : a < reserved_end (segment_at h k)
  high = let up = (lawful_at h k heap inside).high in omega (arith, up, below)

  here : memory_index h.memories a ≡ k
  here = index_is_segment h k a heap inside (omega (arith, low)) high

  by_start : (b : Bool) → stands_in (ephemeral (frame h)) a ≡ b → (c d : Bool)
      → ((if b then (if c then 2 else (if d then 1 else 0)) else 2) == 2) ≡ (if b then c else true)
  by_start true s true d = refl
  by_start true s false true = refl
  by_start true s false false = refl
  by_start false s c d = refl

  -- in the ephemeral segment it ends where generation 1 begins
  pub young_old : k ≡ e → IsOldBelow h a h.start1
  young_old same =
      let at : segment_at h k ≡ ephemeral (frame h) = ap (segment_at h) same ∙ is in
      let from : first_place (ephemeral (frame h)) ≤ a = subst (λ (s : SegInfo). first_place s ≤ a) at low in
      let to : a < reserved_end (ephemeral (frame h)) = subst (λ (s : SegInfo). a < reserved_end s) at high in
      let stands : stands_in (ephemeral (frame h)) a ≡ true = between-stands (ephemeral (frame h)) a from to in
      by_start (stands_in (ephemeral (frame h)) a) refl (nat_lt a h.start1) (nat_lt a h.start0)
      ∙ ap (λ b. if b then nat_lt a h.start1 else true) stands

  -- elsewhere all is of generation 2
  pub other_old : (k ≡ e → ⊥) → (end : ℕ) → a < end → IsOldBelow h a end
  other_old apart end up =
      by_start (stands_in (ephemeral (frame h)) a) refl (nat_lt a h.start1) (nat_lt a h.start0)
      ∙ away (stands_in (ephemeral (frame h)) a) refl ∙ sym (lt-ltb a end up)
    where
      away : (b : Bool) → stands_in (ephemeral (frame h)) a ≡ b → (if b then nat_lt a h.start1 else true) ≡ true
      away false s = refl
      away true s =
          let within = stands-between (ephemeral (frame h)) a s in
          let from = subst (λ (t : SegInfo). first_place t ≤ a) (sym is) within.0 in
          let to : a < reserved_end (segment_at h e) =
          subst (λ (t : SegInfo). a < reserved_end t) (sym is) within.1 in
          absurd (apart (sym here ∙ index_is_segment h e a heap young (omega (arith, from)) to))

  -- addresses are far below the last number
  pub far_below : a < 18446744073709551615
  far_below =
      let up = high in
      let top = below_top_at h k heap inside in
      let small = heap.top_small in
      omega (arith, up, top, small)

-- what is known of the item at a place of a walk over segment k
pub record CanTake (rows : List TypeRow) (h : HeapView) (k place : ℕ) (s : ShadeView) : Type 0 where
  pub item : HasItem rows h place
  pub segment : k ≡ memory_index h.memories place
  pub behind : k ≡ memory_index h.memories (place + 8)
  pub room : place + 8 < 2 ^ 64
  pub inside : covers s place ≡ true

pub can_take : (rows : List TypeRow) (h : HeapView) → IsHeap h → (k : ℕ) → k < length h.segments → (place end : ℕ)
    → (s : ShadeView) → shape s ≡ used_of (segment_at h k) → first_of h k ≤ place → place < end → end ≡ last_of h k
    → AfterItem (sight rows h k) h.memories place end → CanTake rows h k place s
can_take rows h heap k inside place end s is low below last after =
    let base = ap (λ (p : ℕ × ℕ). p.0) is in
    let size = ap (λ (p : ℕ × ℕ). p.1) is in
    let holds = (used_part (segment_at h k) (lawful_at h k heap inside)).holds in
    let head = head-in rows h k place end heap inside low (omega (arith, last)) after in
    record {
      item = record { names = after.names; mt = after.mt; len = after.len };
      segment = head.segment;
      behind = head.behind;
      room = head.room;
      inside = inside_covers s place
          (record { low = omega (arith, base, low); high = omega (arith, base, size, below, last, holds) });
    }
