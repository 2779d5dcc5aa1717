-- A heap in whose large segment an object was born: what its bricks and cards are told of it, and the laws after it.
use Rattle.std.proofs.Common.{◌≡◌, ℕ, ◌+◌, ◌*◌, ◌/◌, ◌<◌, ◌≤◌, ◌^◌, inl, inr, true, false, List, refl, ap, sym}
use Rattle.std.proofs.Common.{◌∙◌, subst, arith, ℤ}
use Rattle.std.proofs.lemmas.Bool.{both_ways, cases_Bool, leb-true}
use Rattle.clr_types.specs.Rising.{first, IsIn}
use Rattle.clr_types.specs.LawfulLayout.{IsLawfulSegment}
use Rattle.clr_types.specs.Segments.{ephemeral, Layout, reserved_end, same_kind, segments_of, stands_in}
use Rattle.clr_types.specs.Types.{form_at, size_of, TypeRow}
use Rattle.clr_types.specs.declared.segment.SegInfo.{SegInfo}
use Rattle.clr_types.specs.declared.segment.SegKind.TheVariants.{Small, Ephemeral, Large, Pinned}
use Rattle.clr_types.specs.declared.segment.SegKind.{SegKind}
use Rattle.clr_types.specs.Segments.{is_large_or_pinned}
use Rattle.clr_types.proofs.ChangedLists.{out_of_filter}
use Rattle.clr_types.proofs.ListMembers.{any-in}
use Rattle.clr_types.proofs.RisingLists.{all_at}
use Rattle.clr_types.proofs.SegmentFacts.{between-stands, disjoint-separate, one_alone, stands-between}
use Rattle.clr_types.proofs.TailTaken.{size-lawful}
use Rattle.clr_covers.specs.Covers.{CoverView, is_covered}
use Rattle.clr_heap.specs.View.{frame, heap_items, HeapView, IsHeap, word_of}
use Rattle.clr_heap.proofs.Framing.{below_top_at}
use Rattle.clr_model.specs.Allocation.{IsPlacedIn}
use Rattle.clr_model.proofs.CollectedLayout.{large-not_ephemeral}
use Rattle.clr_view.specs.Among.{AreClosedAmong}
use Rattle.clr_view.specs.View.{layout_in, newborn_at, objects_in}
use Rattle.clr_generations.specs.Laws.{NamesNoMore}
use Rattle.clr_generations.specs.OldBirths.{HasOldNewborn}
use Rattle.clr_generations.specs.Tables.{AreBricksOf}
use Rattle.clr_generations.proofs.AddedObjects.{apart, born, came, HasOneMore, stays, unnamed-birth}
use Rattle.clr_generations.proofs.HeapHomes.{brick-covered, brick-in, IsOf, item-of}
use Rattle.clr_generations.proofs.Homes.{old-away}
use Rattle.clr_generations.proofs.KeptTables.{bounds-from}
use Rattle.clr_generations.proofs.OldBirthLaws.{old_birth_cards}
use Rattle.clr_generations.proofs.SameBounds.{HasSameBounds, outlines, outlines_ended, units-same}

large-other : (k : SegKind) → same_kind Large k ≡ true → is_large_or_pinned k ≡ true
large-other Small e = absurd cc
large-other Ephemeral e = absurd cc
large-other Large e = refl
large-other Pinned e = absurd cc

-- what stands in a large or a pinned segment doesn't stand in the ephemeral one
pub large_away : (h : HeapView) (s : SegInfo) (place : ℕ) → IsHeap h → IsIn s h.segments
    → is_large_or_pinned s.kind ≡ true → stands_in s place ≡ true → stands_in (ephemeral (frame h)) place ≡ false
large_away h s place heap i kind stands = elim (cases_Bool (stands_in (ephemeral (frame h)) place)) [
  | inr out ↦ out
  | inl meets ↦
      let one = one_alone (segments_of Ephemeral (frame h)) heap.one_ephemeral in
      let young = out_of_filter (λ (r : SegInfo). same_kind Ephemeral r.kind) (ephemeral (frame h)) h.segments
      (subst (IsIn (ephemeral (frame h))) (sym one) first) in
      let (low, high) = stands-between s place stands in
      let (from, to) = stands-between (ephemeral (frame h)) place meets in
      elim (disjoint-separate h.segments s (ephemeral (frame h)) heap.disjoint i young.1) [
        | inl same ↦
            absurd (both_ways (same_kind Ephemeral s.kind) (large-not_ephemeral s.kind kind)
            (subst (λ (r : SegInfo). same_kind Ephemeral r.kind ≡ true) (sym same) young.0))
        | inr (inl below) ↦ absurd (omega arith)
        | inr (inr above) ↦ absurd (omega arith)
      ]
]

module _ (rows : List TypeRow) (old new : HeapView) (place t n : ℕ) (f : HasOneMore rows old new place t n)
    (placed : IsPlacedIn Large (layout_in rows old) (size_of (form_at rows t) n) place (layout_in rows new)) where
  abbrev size : ℕ
  size = size_of (form_at rows t) n

  -- ---- where it stands

  -- no bound moves but an end, and the place is one of a large segment
  record IsHome : Type 0 where
    bounds : HasSameBounds (frame old) (frame new)
    segment : SegInfo
    listed : IsIn segment old.segments
    kind : is_large_or_pinned segment.kind ≡ true
    inside : stands_in segment place ≡ true

  home : IsHome
  home = elim placed [
    | inl (item, i, stands, fit, at, same) ↦
        let found = any-in (λ (s : SegInfo). stands_in s item.place) (segments_of Large (frame old)) stands in
        let large = out_of_filter (λ (s : SegInfo). same_kind Large s.kind) found.0 old.segments found.1 in
        record {
          bounds = bounds-from (frame old) (frame new) (ap (λ (l : Layout). l.segments) same)
              (ap (λ (l : Layout). l.start1) same) (ap (λ (l : Layout). l.start0) same);
          segment = found.0;
          listed = large.1;
          kind = large-other _ large.0;
          inside = subst (λ (p : ℕ). stands_in found.0 p ≡ true) (sym at) found.2;
        }
    | inr (s, i, room, at, same) ↦
        let large = out_of_filter (λ (r : SegInfo). same_kind Large r.kind) s old.segments i in
        let lawful = all_at IsLawfulSegment large.1 f.before.segments in
        let least = (size-lawful (form_at rows t) n).0 in
        let low = lawful.low in
        let high = leb-true (s.end + size) (reserved_end s) room in
        record {
          bounds = record {
            segments = ap (λ (l : Layout). outlines l.segments) same
                ∙ outlines_ended s.base (s.end + size) old.segments;
            start1 = ap (λ (l : Layout). l.start1) same;
            start0 = ap (λ (l : Layout). l.start0) same;
          };
          segment = s;
          listed = large.1;
          kind = large-other _ large.0;
          inside = between-stands s place (omega arith) (omega arith);
        }
  ]

  -- ---- for bricks

  -- THE NEWBORN, as its bricks are told of it
  pub old_newborn : HasOldNewborn rows (frame old) (frame new) (objects_in rows old) (objects_in rows new)
      (newborn_at rows place t n)
  old_newborn =
      let lawful = all_at IsLawfulSegment home.listed f.before.segments in
      record {
        members = came rows old new place t n f;
        stays = stays rows old new place t n f;
        born = born rows old new place t n f;
        apart = apart rows old new place t n f;
        segments = home.bounds.segments;
        start1 = home.bounds.start1;
        start0 = home.bounds.start0;
        home = home.segment;
        listed = home.listed;
        base = lawful.base;
        reserved = lawful.reserved;
        inside = home.inside;
        old = λ p stands up. old-away (frame old) p
            (large_away old home.segment p f.before home.listed home.kind stands);
      }

  -- the bricks of the heap are those of the heap after it
  pub old_newborn-bricks : (bricks : List (CoverView ℤ)) → AreBricksOf (frame old) bricks
      → AreBricksOf (frame new) bricks
  old_newborn-bricks bricks e = e ∙ sym (units-same (frame old) (frame new) home.bounds 4096)

  -- the item that it is
  item : IsOf rows new f.after f.now_held (newborn_at rows place t n)
  item = item-of rows new f.after f.now_held (newborn_at rows place t n) (born rows old new place t n f)

  -- it ends low enough
  pub old_newborn-ends : place + size_of (form_at rows t) n < 2 ^ 62
  old_newborn-ends =
      let at = item.place in
      let sized = item.size in
      let below = item.at.below in
      let reserved = item.at.reserved in
      let top = below_top_at new item.at.segment f.after item.at.in_range in
      let small = f.after.top_small in
      omega arith

  -- the bricks that it meets are there
  pub old_newborn-covered : (bricks : List (CoverView ℤ)) → AreBricksOf (frame old) bricks → (i : ℕ) → place / 4096 ≤ i
      → 4096 * i < place + size_of (form_at rows t) n → is_covered bricks i ≡ true
  old_newborn-covered bricks e i low high =
      let k = item.at.segment in
      let at = item.place in
      let sized = item.size in
      let above = item.at.above in
      let below = item.at.below in
      brick-covered new bricks bricks k i f.after item.at.in_range (old_newborn-bricks bricks e) refl
      (brick-in new k i f.after item.at.in_range (omega arith) (omega arith))

  -- ---- for cards

  -- no reference to a younger object is new, where what is named stands
  pub old_newborn-cards : AreClosedAmong rows (word_of old) (heap_items rows old)
      → NamesNoMore rows (frame old) (objects_in rows old) (frame new) (objects_in rows new)
  old_newborn-cards closed =
      let birth = unnamed-birth rows old new place t n f closed in
      old_birth_cards rows (frame old) (frame new) (objects_in rows old) (objects_in rows new)
      (newborn_at rows place t n) t n old_newborn refl birth.names birth.unnamed
