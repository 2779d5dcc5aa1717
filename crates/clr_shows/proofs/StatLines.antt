-- Which line counts an item, and the lines of the machine that a view shows.
use Rattle.std.proofs.Common.{◌≡◌, ◌∙◌, ℕ, zero, suc, ◌+◌, ◌-◌, ◌<◌, Bool, true, false, List, [], ◌∷◌, ◌++◌, arith}
use Rattle.std.proofs.Common.{cond, filter}
use Rattle.std.proofs.Common.{get_or, if◌then◌else◌, length, refl, sym, ap, subst, ◌==◌, append_assoc, codes}
use Rattle.clr_types.specs.Rising.{IsIn}
use Rattle.clr_types.specs.Segments.{empty_segment, generation, Layout, stands_in}
use Rattle.clr_types.specs.Types.{TypeRow}
use Rattle.clr_types.specs.declared.item.Item.{Item}
use Rattle.clr_types.specs.declared.segment.SegInfo.{SegInfo}
use Rattle.clr_types.specs.declared.segment.SegKind.{SegKind}
use Rattle.clr_types.proofs.ChangedLists.{append_left}
use Rattle.clr_types.proofs.ListMembers.{append_right}
use Rattle.clr_types.proofs.RisingLists.{all_at}
use Rattle.clr_heap.specs.View.{AreWalkable, first_of, frame, heap_items, HeapView, IsHeap, last_of, listing, listings}
use Rattle.clr_heap.specs.View.{segment_at}
use Rattle.clr_model.specs.Listing.{listing as machine_listing}
use Rattle.clr_model.specs.Looks.{gcheapstat_text, row_items, stat_row, stat_row_in, TestsIf}
use Rattle.clr_model.specs.Machine.{Machine}
use Rattle.clr_model.specs.Reach.{Live}
use Rattle.clr_model.specs.Sos.{line}
use Rattle.clr_view.specs.View.{layout_in}
use Rattle.clr_view.proofs.Items.{IsItem}
use Rattle.clr_view.proofs.Listings.{heap-cut, listing-are}
use Rattle.clr_sos.specs.TextPieces.{each_spaced}
use Rattle.clr_sos.specs.Views.{IsShownView, IsViewOf}
use Rattle.clr_sos.specs.declared.view.View.{View}
use Rattle.clr_sos.proofs.HeapListed.{heap-listed}
use Rattle.clr_sos.proofs.LineParts.{ended, ended-is, line-cons}
use Rattle.clr_sos.proofs.ListedItems.{next-bytes, next-count, next-in}
use Rattle.clr_shows.specs.StatBounds.{AreWithin}
use Rattle.clr_shows.specs.Stats.{AreCounted, CanCount, in_line, no_stat, stat_line, stat_of, stats_lines}
use Rattle.clr_shows.specs.declared.stats.Stat.{Stat}
use Rattle.clr_shows.proofs.SegmentItems.{item-elsewhere, item-there, listing-told}
use Rattle.clr_shows.proofs.StatCounts.{room-left}

-- ---- the line of one item

-- the first segment of a list that has an address tells which line counts it
row-first : (layout : Layout) (ss : List SegInfo) (k place : ℕ) → k < length ss
    → stands_in (get_or ss k empty_segment) place ≡ true
    → ((j : ℕ) → j < k → stands_in (get_or ss j empty_segment) place ≡ false)
    → stat_row_in layout ss place ≡ stat_row (get_or ss k empty_segment).kind (generation layout place)
row-first layout [] k place l here before = absurd (omega arith)
row-first layout (s ∷ ss) zero place l here before =
    ap (λ (b : Bool). cond b (stat_row s.kind (generation layout place)) (stat_row_in layout ss place)) here
row-first layout (s ∷ ss) (suc k) place l here before =
    ap (λ (b : Bool). cond b (stat_row s.kind (generation layout place)) (stat_row_in layout ss place))
    (before 0 (omega arith))
    ∙ row-first layout ss k place (omega arith) here (λ j low. before (suc j) (omega arith))

-- AN ITEM OF SEGMENT k is counted in the line of the segment's kind
pub row-told : (rows : List TypeRow) (h : HeapView) → IsHeap h → AreWalkable rows h → (k : ℕ) → k < length h.segments
    → (i : Item) → IsIn i (listing rows h k) → (kind : SegKind) → kind ≡ (segment_at h k).kind → (row : ℕ)
    → row ≡ stat_row kind (generation (frame h) i.place) → stat_row_in (layout_in rows h) h.segments i.place ≡ row
row-told rows h heap walkable k l i listed kind same row is =
    let it = all_at (IsItem rows (first_of h k) (last_of h k)) listed (listing-are rows h walkable k l) in
    row-first (layout_in rows h) h.segments k i.place l (item-there rows h heap k l i it)
    (λ j low. item-elsewhere rows h heap k j l (omega (arith, l, low)) (λ e. omega (arith, e, low)) i it)
    ∙ sym (is ∙ ap (λ (kd : SegKind). stat_row kd (generation (frame h) i.place)) same)

-- ---- all lines

module _ (v : View) (m : Machine) (is : IsViewOf v m) (shown : IsShownView v) (unrooted : Bool) (live : ℕ → Bool)
    (stats : List Stat)
    (counts : AreCounted v.types.now v.heap.now live stats (heap_items v.types.now v.heap.now)) where
  -- the items that a line counts are those that the machine has in it
  items-told : (k : ℕ)
      → filter (λ (i : Item). stat_row_in (layout_in v.types.now v.heap.now) v.heap.now.segments i.place == k)
      (heap_items v.types.now v.heap.now) ≡ row_items m k
  items-told k =
      let items = listing-told v m is shown in
      let layout = is.layout in
      sym (λ j. filter (λ (i : Item). stat_row_in (layout j) (layout j).segments i.place == k) (items j))

  -- the text of a line that counts a part of the items
  part-told : (name : List ℕ) (k : ℕ) → k < 5
      → ((i : Item) → in_line v.types.now v.heap.now k i
      ≡ (stat_row_in (layout_in v.types.now v.heap.now) v.heap.now.segments i.place == k))
      → stat_line name unrooted (get_or stats k no_stat)
      ≡ stat_line name unrooted (stat_of live (row_items m k))
  part-told name k low same =
      ap (stat_line name unrooted) (counts k (omega (arith, low))
      ∙ ap (λ (test : Item → Bool). stat_of live (filter test (heap_items v.types.now v.heap.now))) (λ j i. same i j)
      ∙ ap (stat_of live) (items-told k))

  -- the text of the line that counts all items
  all-told : (name : List ℕ) → stat_line name unrooted (get_or stats 5 no_stat)
      ≡ stat_line name unrooted (stat_of live (machine_listing m))
  all-told name =
      ap (stat_line name unrooted) (counts 5 (omega arith)
      ∙ ap (stat_of live) (all-passed (heap_items v.types.now v.heap.now) ∙ sym (listing-told v m is shown)))
    where
      all-passed : (items : List Item) → filter (in_line v.types.now v.heap.now 5) items ≡ items
      all-passed [] = refl
      all-passed (i ∷ items) = ap (λ (js : List Item). i ∷ js) (all-passed items)

  -- THE WHOLE TEXT is what `gcheapstat` tells of the machine
  pub stats-told : stats_lines unrooted stats ≡ gcheapstat_text m unrooted live
  stats-told =
      let zero_told = part-told (codes "gen 0") 0 (omega arith) (λ i. refl) in
      let one_told = part-told (codes "gen 1") 1 (omega arith) (λ i. refl) in
      let two_told = part-told (codes "gen 2") 2 (omega arith) (λ i. refl) in
      let large_told = part-told (codes "large") 3 (omega arith) (λ i. refl) in
      let pinned_told = part-told (codes "pinned") 4 (omega arith) (λ i. refl) in
      let total_told = all-told (codes "total") in
      λ j. zero_told j ++ (one_told j ++ (two_told j ++ (large_told j ++ (pinned_told j ++ total_told j))))

-- the words of a line of counts, put behind a text one by one
pub stat_parts : (text name objects bytes free : List ℕ) (words : List (List ℕ))
    → (((((((((text ++ name) ++ codes " objects ") ++ objects) ++ codes " bytes ") ++ bytes) ++ codes " free ") ++ free)
    ++ each_spaced words) ++ (10 ∷ []))
    ≡ text ++ line (name ∷ codes "objects" ∷ objects ∷ codes "bytes" ∷ bytes ∷ codes "free" ∷ free ∷ words)
stat_parts text name objects bytes free words =
    let parts : (((((((((text ++ name) ++ codes " objects ") ++ objects) ++ codes " bytes ") ++ bytes)
    ++ codes " free ") ++ free) ++ each_spaced words) ++ (10 ∷ []))
    ≡ text ++ (name ++ ended (codes "objects" ∷ objects ∷ codes "bytes" ∷ bytes ∷ codes "free" ∷ free ∷ words)) =
    rw (ended-is words) (simp append_assoc) in
    parts ∙ ap (λ (rest : List ℕ). text ++ rest)
    (sym (line-cons name (codes "objects" ∷ objects ∷ codes "bytes" ∷ bytes ∷ codes "free" ∷ free ∷ words)))

-- ---- the items of one segment, one by one

module _ (rows : List TypeRow) (h : HeapView) (heap : IsHeap h) (walkable : AreWalkable rows h) (k : ℕ)
    (l : k < length h.segments) where
  -- the items of the segments below
  abbrev below : List Item
  below = listings rows h 0 k

  -- the items of the segments above
  abbrev above : List Item
  above = listings rows h (k + 1) (length h.segments - (k + 1))

  -- an item of a segment is one of the heap
  pub segment-listed : (i : Item) → IsIn i (listing rows h k) → IsIn i (heap_items rows h)
  segment-listed i listed =
      subst (IsIn i) (sym (heap-cut rows h k (length h.segments) l)) (append_right below (append_left above listed))

  module _ (yielded rest left : List Item) (i : Item) (steps : rest ≡ i ∷ left)
      (walked : yielded ++ rest ≡ listing rows h k) where
    -- the items before the next one, and those from it on, are the heap's
    whole : (below ++ yielded) ++ (rest ++ above) ≡ heap_items rows h
    whole =
        append_assoc below yielded (rest ++ above)
        ∙ ap (λ (items : List Item). below ++ items) (sym (append_assoc yielded rest above)
        ∙ ap (λ (items : List Item). items ++ above) walked)
        ∙ sym (heap-cut rows h k (length h.segments) l)

    -- the next item of a walk over a segment is one of the segment
    pub next-here : IsIn i (listing rows h k)
    next-here = next-in yielded rest left (listing rows h k) i steps walked

    -- the next item of a walk over a segment can be counted
    pub next-room : (stats : List Stat) → AreWithin stats (below ++ yielded) → (n : ℕ) → n < 6
        → CanCount (get_or stats n no_stat) i
    next-room stats within n low =
        let step = ap (λ (items : List Item). items ++ above) steps in
        let listed = heap-listed rows h heap walkable in
        room-left (get_or stats n no_stat) (below ++ yielded) i (within n low)
        (next-count rows (below ++ yielded) (rest ++ above) (left ++ above) (heap_items rows h) i step whole listed)
        (next-bytes rows (below ++ yielded) (rest ++ above) (left ++ above) (heap_items rows h) i step whole listed)

-- ---- whether the dead are asked for

-- the text is one that `gcheapstat` may tell
abbrev pub IsStatsText : Machine → Bool → List ℕ → Type 0
IsStatsText m unrooted text =
    (live : ℕ → Bool) × TestsIf unrooted live (Live m) × (text ≡ gcheapstat_text m unrooted live)

-- whether the dead are asked for is what was asked
pub text-if : (m : Machine) (unrooted asked : Bool) (text : List ℕ) → unrooted ≡ asked → IsStatsText m asked text
    → IsStatsText m unrooted text
text-if m unrooted asked text same told = subst (λ (b : Bool). IsStatsText m b text) (sym same) told

-- where the dead aren't asked for, it doesn't matter what the roots reach
pub text-plain : (m : Machine) (live : ℕ → Bool) (text : List ℕ) → text ≡ gcheapstat_text m false live
    → IsStatsText m false text
text-plain m live text told = (live, tt, told)
