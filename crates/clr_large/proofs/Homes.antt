-- Where a free item of a segment of a kind stands, and what a birth promises.
use Rattle.std.proofs.Common.{◌-◌, ◌≢◌, if◌then◌else◌, None, []}
use Rattle.std.proofs.Common.{◌≡◌, ℕ, ◌+◌, ◌%◌, ◌<◌, ◌≤◌, true, List, length, filter, refl, ap, sym, ◌∙◌, subst, arith}
use Rattle.clr_types.specs.Rising.{IsIn}
use Rattle.clr_types.specs.Types.{form_at, size_of, TypeRow}
use Rattle.clr_types.specs.Ranges.{Piece, piece_end}
use Rattle.clr_types.specs.Segments.{same_kind, segments_of, stands_in}
use Rattle.clr_types.specs.declared.item.Item.{Item}
use Rattle.clr_types.specs.declared.segment.SegInfo.{SegInfo}
use Rattle.clr_types.specs.declared.segment.SegKind.{SegKind}
use Rattle.clr_types.specs.declared.segment.SegKind.TheVariants.{Ephemeral}
use Rattle.clr_types.proofs.ChangedLists.{into_filter, out_of_filter}
use Rattle.clr_types.proofs.ListMembers.{any-from, any-in, from-map}
use Rattle.clr_heap.specs.Memories.{shapes}
use Rattle.clr_heap.specs.Parts.{Among, hole_from, item_part, item_piece}
use Rattle.clr_heap.specs.View.{first_of, HasHead, heap_items, HeapView, holes_of, IsHeap, last_of, parts_of}
use Rattle.clr_heap.specs.View.{segment_at}
use Rattle.clr_heap.proofs.Storing.{HasWord-shapes}
use Rattle.clr_model.specs.Allocation.{stands_in_kind}
use Rattle.clr_view.specs.View.{free_in, is_free, IsHeld, layout_in}
use Rattle.clr_view.proofs.Listed.{listed-head, listed-in, listed-small, listed-sized, listed-spelled, part-among}
use Rattle.clr_generations.proofs.AllBricks.{number-in, number-of}
use Rattle.clr_sweep.proofs.LargeSwept.{listed_at, listed_stands, one_segment}
use Rattle.clr_large.specs.Births.{HasNewbornIn}
use Rattle.clr_large.specs.Places.{address_of, items_left, kind_items, with_place_taken}
use Rattle.clr_large.specs.declared.places.Birthplace.{Birthplace}
use Rattle.clr_large.proofs.OldKinds.{kind-is, kind-same}

-- what a birth at a place promises
pub record IsBorneAt (group : SegKind) (rows : List TypeRow) (h new : HeapView) (place : Birthplace) (t n : ℕ)
    : Type 0 where
  pub born : HasNewbornIn group rows h new (address_of h place) t n
  pub layout : layout_in rows new ≡ with_place_taken rows h (size_of (form_at rows t) n) place
  pub items : kind_items group (layout_in rows new)
      ≡ items_left (size_of (form_at rows t) n) place (kind_items group (layout_in rows h))

-- a segment of another kind than the ephemeral one has no holes
pub no_holes : (h : HeapView) (k q : ℕ) → (segment_at h k).kind ≢ Ephemeral → hole_from (holes_of h k) q ≡ None
no_holes h k q other = go (segment_at h k).kind other
  where
    go : (kind : SegKind) → kind ≢ Ephemeral
        → hole_from (if same_kind kind Ephemeral then h.rests else []) q ≡ None
    go Ephemeral other = absurd (other refl)
    go _ other = refl

-- a head that can be written can be so where the memories have other words
pub head_shapes : (h new : HeapView) (a : ℕ) → shapes new.memories ≡ shapes h.memories → HasHead h a → HasHead new a
head_shapes h new a same g = record {
  above = g.above;
  header = HasWord-shapes h.memories new.memories (a - 8) same g.header;
  mt = HasWord-shapes h.memories new.memories a same g.mt;
  len = HasWord-shapes h.memories new.memories (a + 8) same g.len;
}

-- a place stands in segments of a kind where it stands in one of them, by its number
pub in_kind : (group : SegKind) (rows : List TypeRow) (h : HeapView) (k place : ℕ) → k < length h.segments
    → (segment_at h k).kind ≡ group → stands_in (segment_at h k) place ≡ true
    → stands_in_kind group (layout_in rows h) place ≡ true
in_kind group rows h k place l is stands =
    any-from (λ (s : SegInfo). stands_in s place) (segments_of group (layout_in rows h)) (segment_at h k)
    (into_filter (λ (s : SegInfo). same_kind group s.kind) h.segments (ap (same_kind group) is ∙ kind-same group)
    (number-in h.segments k l)) stands

-- and has such a number where it does
pub of_kind_number : (group : SegKind) (rows : List TypeRow) (h : HeapView) (place : ℕ)
    → stands_in_kind group (layout_in rows h) place ≡ true
    → (k : ℕ) × (k < length h.segments) × ((segment_at h k).kind ≡ group) × (stands_in (segment_at h k) place ≡ true)
of_kind_number group rows h place e =
    let (s, among, stands) = any-in (λ (s : SegInfo). stands_in s place) (segments_of group (layout_in rows h)) e in
    let (kind, there) = out_of_filter (λ (s : SegInfo). same_kind group s.kind) s h.segments among in
    let (k, l, at) = number-of h.segments s there in (
      k,
      l,
      ap (λ (s : SegInfo). s.kind) at ∙ kind-is group s.kind kind,
      subst (λ (s : SegInfo). stands_in s place ≡ true) (sym at) stands,
    )

-- a free item of a segment of the kind is one of its parts
pub record KindItemAt (group : SegKind) (rows : List TypeRow) (h : HeapView) (k : ℕ) (p : Piece) : Type 0 where
  pub item : Item
  pub is : p ≡ item_piece item
  pub free : is_free item ≡ true
  pub in_range : k < length h.segments
  pub is_of : (segment_at h k).kind ≡ group
  pub among : Among (parts_of rows h k) (item_part item)
  pub aligned : p.place % 8 ≡ 0
  pub whole : piece_end p % 8 ≡ 0
  pub least : 24 ≤ p.size
  pub low : first_of h k ≤ p.place
  pub high : piece_end p ≤ last_of h k
  pub most : p.size ≤ 1073741824

pub kind_item : (group : SegKind) (rows : List TypeRow) (h : HeapView) (p : Piece) → IsHeap h → IsHeld rows h
    → IsIn p (kind_items group (layout_in rows h)) → (k : ℕ) × KindItemAt group rows h k p
kind_item group rows h p heap held listed =
    let (passes, free) = out_of_filter (λ (p : Piece). stands_in_kind group (layout_in rows h) p.place) p
    (free_in rows h) listed in
    let (i, is, among) = from-map item_piece p (filter is_free (heap_items rows h)) free in
    let (free, there) = out_of_filter is_free i (heap_items rows h) among in
    let (j, bound, here) = listed-in rows h i 0 (length h.segments) there in
    let l : j < length h.segments = omega arith in
    let place : p.place ≡ i.place = ap (λ (q : Piece). q.place) is in
    let size : p.size ≡ i.size = ap (λ (q : Piece). q.size) is in
    let (k, in_k, is_of, stands) = of_kind_number group rows h p.place passes in
    let stands_k = subst (λ q. stands_in (segment_at h k) q ≡ true) place stands in
    let same = one_segment h heap k j i.place in_k l stands_k (listed_stands rows h heap held j l i here) in
    let at = listed_at rows h heap held j l i here in
    let above = at.above in
    let below = at.below in
    let least = at.least in
    let aligned = at.aligned in
    let sized = listed-sized rows h i heap held there in
    let small = listed-small rows h i heap held there in
    let spelled = ap (λ (x : Item). x.size) (listed-spelled rows h i heap held there).0 in
    let whole = (listed-head rows h i heap held there).names.whole in (
      j,
      record {
        item = i;
        is = is;
        free = free;
        in_range = l;
        is_of = subst (λ n. (segment_at h n).kind ≡ group) same is_of;
        among = part-among (parts_of rows h j) i here;
        aligned = omega (arith, place, aligned);
        whole = omega (arith, place, size, aligned, spelled, whole);
        least = omega (arith, size, least);
        low = omega (arith, place, above);
        high = omega (arith, place, size, below);
        most = omega (arith, size, sized, small);
      },
    )
