-- The objects of a heap that are entered into bricks one after the other, by rising place: each of them is to the
-- bricks as if it were born now.
use Rattle.std.proofs.Common.{◌≡◌, ◌⊎◌, inl, inr, ℕ, ◌+◌, ◌*◌, ◌/◌, ◌<◌, ◌≤◌, Bool, true, false, if◌then◌else◌, ◌&&◌}
use Rattle.std.proofs.Common.{List, [], ◌∷◌, ◌++◌, filter, map, refl, ap, sym, ◌∙◌, subst, arith, leb, ltb, ℤ}
use Rattle.std.proofs.lemmas.Bool.{cases_Bool, cases_eq, cases_lt, le-leb, leb-true, lt-ltb, ltb-true}
use Rattle.clr_types.specs.Rising.{first, IsIn, later}
use Rattle.clr_types.specs.Segments.{empty_segment, ephemeral, generation, reserved_end, stands_in}
use Rattle.clr_types.specs.Types.{TypeRow}
use Rattle.clr_types.specs.declared.item.Item.{Item}
use Rattle.clr_types.specs.declared.segment.SegInfo.{SegInfo}
use Rattle.clr_types.proofs.ChangedLists.{append_left, out_of_filter}
use Rattle.clr_types.proofs.ListMembers.{append_right, in_append}
use Rattle.clr_types.proofs.SegmentFacts.{between-stands, stands-between}
use Rattle.clr_types.proofs.RisingLists.{all_at, in_cons}
use Rattle.clr_covers.specs.Covers.{CoverView, is_covered, spans}
use Rattle.clr_bricks.specs.Bricks.{entry_at}
use Rattle.clr_heap.specs.View.{first_of, frame, heap_items, HeapView, IsHeap, last_of, segment_at, word_of}
use Rattle.clr_heap.proofs.Framing.{lawful_at}
use Rattle.clr_heap.proofs.Staying.{outside_other}
use Rattle.clr_model.specs.Lookups.{object_size}
use Rattle.clr_model.specs.Machine.{Object}
use Rattle.clr_view.specs.View.{IsHeld, is_object, object_in, objects_among}
use Rattle.clr_view.proofs.Items.{AreStacked}
use Rattle.clr_view.proofs.Listed.{listed-sized}
use Rattle.clr_view.proofs.Listings.{heap-stacked, objects-append}
use Rattle.clr_view.proofs.ObjectItems.{in_map}
use Rattle.clr_view.proofs.Standing.{Standing, standing}
use Rattle.clr_view.proofs.Tails.{found-young}
use Rattle.clr_generations.specs.Born.{with_place}
use Rattle.clr_generations.specs.Laws.{BrickLaw, IsBrickOf}
use Rattle.clr_generations.specs.OldBirths.{HasOldNewborn}
use Rattle.clr_generations.proofs.BirthFacts.{below-boundary}
use Rattle.clr_generations.proofs.BirthLaws.{brick_law-born, IsYoungBirth}
use Rattle.clr_generations.proofs.FoundItems.{in-at}
use Rattle.clr_generations.proofs.Homes.{old-away, old-before}

-- ---- lists

-- each item ends before one that stands behind it
stacked-before : (before : List Item) (i : Item) (after : List Item) → AreStacked (before ++ i ∷ after) → (j : Item)
    → IsIn j before → j.place + j.size ≤ i.place
stacked-before [] i after stacked j l = elim l [ ]
stacked-before (x ∷ before) i after stacked j first =
    all_at (λ (y : Item). x.place + x.size ≤ y.place) (append_right before first) stacked.0
stacked-before (x ∷ before) i after stacked j (later l) = stacked-before before i after stacked.1 j l

module _ (rows : List TypeRow) (h : HeapView) (heap : IsHeap h) (held : IsHeld rows h) (before : List Item) (i : Item)
    (after : List Item) (cut : before ++ i ∷ after ≡ heap_items rows h) where
  abbrev objects : List Object
  objects = objects_among rows (word_of h) before

  abbrev now : List Object
  now = objects_among rows (word_of h) (before ++ i ∷ [])

  abbrev own : Object
  own = object_in rows (word_of h) i

  listed : IsIn i (heap_items rows h)
  listed = subst (IsIn i) cut (append_right before first)

  there : Standing rows h i
  there = standing rows h heap held i listed

  abbrev s : SegInfo
  s = segment_at h there.segment

  -- ---- where the item stands

  own-stands : stands_in s i.place ≡ true
  own-stands =
      let above = there.above in
      let below = there.below in
      let least = there.least in
      let all = there.reserved in
      between-stands s i.place (omega arith) (omega arith)

  -- what stands in the segment and in the ephemeral one tells that the segment is that
  is-young : (p : ℕ) → stands_in s p ≡ true → stands_in (ephemeral (frame h)) p ≡ true
      → stands_in (ephemeral (frame h)) i.place ≡ true
  is-young p here young =
      let found = found-young h heap in
      let k = found.0 in
      let same : segment_at h k ≡ ephemeral (frame h) = found.1.is in
      let there_young : stands_in (segment_at h k) p ≡ true = ap (λ (q : SegInfo). stands_in q p) same ∙ young in
      let a = stands-between s p here in
      let b = stands-between (segment_at h k) p there_young in
      let low = a.0 in
      let high = a.1 in
      let low_young = b.0 in
      let high_young = b.1 in
      elim (cases_eq there.segment k) [
        | inl one ↦ ap (λ (q : SegInfo). stands_in q i.place) (sym same)
            ∙ ap (λ (j : ℕ). stands_in (segment_at h j) i.place) (sym one) ∙ own-stands
        | inr other ↦ elim (outside_other h there.segment k p heap there.in_range found.1.in_range other (omega arith)
            (omega arith)) [ inl under ↦ absurd (omega arith) | inr over ↦ absurd (omega arith) ]
      ]

  -- ---- the objects before it

  -- what an object before it is
  record WasEntered (o : Object) : Type 0 where
    item : Item
    listed_before : IsIn item before
    at : item.place ≡ o.place
    sized : item.size ≡ object_size rows o

  in-heap : (j : Item) → IsIn j before → IsIn j (heap_items rows h)
  in-heap j l = subst (IsIn j) cut (append_left (i ∷ after) l)

  was-entered : (o : Object) → IsIn o objects → WasEntered o
  was-entered o l =
      let found = in_map (object_in rows (word_of h)) o (filter is_object before) l in
      let passed = out_of_filter is_object found.0 before found.1 in
      record {
        item = found.0;
        listed_before = passed.1;
        at = ap (λ (p : Object). p.place) found.2;
        sized = listed-sized rows h found.0 heap held (in-heap found.0 passed.1)
            ∙ ap (λ (p : Object). object_size rows p) found.2;
      }

  apart : (o : Object) → IsIn o objects → o.place + object_size rows o ≤ i.place
  apart o l =
      let was = was-entered o l in
      let at = was.at in
      let sized = was.sized in
      let ends = stacked-before before i after (subst AreStacked (sym cut) (heap-stacked rows h held.walkable heap))
      was.item was.listed_before in
      omega arith

  home : (o : Object) → IsIn o objects
      → (t : SegInfo) × IsIn t h.segments × (stands_in t o.place ≡ true) × IsBrickOf t (o.place / 4096)
  home o l =
      let was = was-entered o l in
      let at = was.at in
      let stands = standing rows h heap held was.item (in-heap was.item was.listed_before) in
      let k = stands.segment in
      let t = segment_at h k in
      let lawful = lawful_at h k heap stands.in_range in
      let base = lawful.base in
      let reserved = lawful.reserved in
      let above = stands.above in
      let below = stands.below in
      let least = stands.least in
      let all = stands.reserved in (
        t,
        in-at h.segments k empty_segment stands.in_range,
        between-stands t o.place (omega arith) (omega arith),
        (omega arith, omega arith),
      )

  -- ---- an item that is free

  pub law-free : is_object i ≡ false → (entry : ℕ → ℤ) → BrickLaw rows (frame h) objects entry
      → BrickLaw rows (frame h) now entry
  law-free free entry law =
      subst (λ (os : List Object). BrickLaw rows (frame h) os entry) (sym same) law
    where
      none : objects_among rows (word_of h) (i ∷ []) ≡ []
      none = ap (λ (b : Bool). map (object_in rows (word_of h)) (if b then i ∷ [] else [])) free

      append-none : (os : List Object) → os ++ [] ≡ os
      append-none [] = refl
      append-none (o ∷ os) = ap (λ (rest : List Object). o ∷ rest) (append-none os)

      same : now ≡ objects
      same = objects-append rows (word_of h) before (i ∷ []) ∙ ap (λ (os : List Object). objects ++ os) none
          ∙ append-none objects

  -- ---- an object

  module _ (object : is_object i ≡ true) where
    one-more : now ≡ objects ++ own ∷ []
    one-more =
        objects-append rows (word_of h) before (i ∷ [])
        ∙ ap (λ (b : Bool). objects ++ map (object_in rows (word_of h)) (if b then i ∷ [] else [])) object

    came : (o : Object) → IsIn o now → (o ≡ own) ⊎ IsIn o objects
    came o l = elim (in_append objects (subst (IsIn o) one-more l)) [
      | inl was ↦ inr was
      | inr last ↦ elim (in_cons last) [ inl new_one ↦ inl new_one | inr none ↦ elim none [ ] ]
    ]

    stays : (o : Object) → IsIn o objects → IsIn o now
    stays o l = subst (IsIn o) (sym one-more) (append_left (own ∷ []) l)

    born : IsIn own now
    born = subst (IsIn own) (sym one-more) (append_right objects first)

    pub own-sized : object_size rows own ≡ i.size
    own-sized = sym (listed-sized rows h i heap held listed)

    -- AN OBJECT OF GENERATION 1 OR 2, as its bricks are told of it
    pub entered-old : h.start1 ≤ h.start0 → 0 < generation (frame h) i.place
        → HasOldNewborn rows (frame h) (frame h) objects now own
    entered-old order old =
        let lawful = lawful_at h there.segment heap there.in_range in
        record {
          members = came;
          stays = stays;
          born = born;
          apart = λ o l. inl (apart o l);
          segments = refl;
          start1 = refl;
          start0 = refl;
          home = s;
          listed = in-at h.segments there.segment empty_segment there.in_range;
          base = lawful.base;
          reserved = lawful.reserved;
          inside = own-stands;
          old = up-to;
        }
      where
        up-to : (p : ℕ) → stands_in s p ≡ true → p ≤ i.place → 0 < generation (frame h) p
        up-to p here up = elim (cases_Bool (stands_in (ephemeral (frame h)) p)) [
          | inl young ↦ elim (below-boundary (frame h) i.place (is-young p here young) old) [
            | inl one ↦ old-before (frame h) p (omega arith)
            | inr none ↦ old-before (frame h) p (omega arith)
          ]
          | inr away ↦ old-away (frame h) p away
        ]

    -- AN OBJECT OF GENERATION 0
    module _ (order : h.start1 ≤ h.start0) (young : generation (frame h) i.place ≡ 0) where
      inside : stands_in (ephemeral (frame h)) i.place ≡ true
      inside = elim (cases_Bool (stands_in (ephemeral (frame h)) i.place)) [
        | inl yes_in ↦ yes_in
        | inr away ↦ let old = old-away (frame h) i.place away in absurd (omega arith)
      ]

      low : h.start0 ≤ i.place
      low = elim (cases_lt i.place h.start0) [
        | inl below ↦ let old = old-before (frame h) i.place below in absurd (omega arith)
        | inr above ↦ above
      ]

      near : (p : ℕ) → p / 4096 ≡ i.place / 4096 → 0 < generation (frame h) p → p < i.place
      near p e old =
          let found = found-young h heap in
          let k = found.0 in
          let t = segment_at h k in
          let lawful = lawful_at h k heap found.1.in_range in
          let base = lawful.base in
          let reserved = lawful.reserved in
          let between = stands-between t i.place (ap (λ (q : SegInfo). stands_in q i.place) found.1.is ∙ inside) in
          let from = between.0 in
          let to = between.1 in
          let p_stands : stands_in (ephemeral (frame h)) p ≡ true =
          ap (λ (q : SegInfo). stands_in q p) (sym found.1.is) ∙ between-stands t p (omega arith) (omega arith) in
          let above = low in
          elim (below-boundary (frame h) p p_stands old) [ inl one ↦ omega arith | inr none ↦ omega arith ]

      entered-young : IsYoungBirth rows (frame h) (frame h) objects now i.place
      entered-young = record {
        same = record { segments = refl; start1 = refl; start0 = refl };
        came = λ o l. elim (came o l) [
          | inl is ↦ inl (ap (λ (q : Object). q.place) is)
          | inr was ↦ inr was
        ];
        stays = stays;
        there = (own, born, refl);
        young = young;
        low = low;
        apart = λ o l. inl (apart o l);
        near = near;
        homes = home;
      }

      pub law-young : (bricks new : List (CoverView ℤ))
          → ((b : ℕ) → entry_at new b ≡ with_place (frame h) (entry_at bricks) i.place b)
          → BrickLaw rows (frame h) objects (entry_at bricks) → BrickLaw rows (frame h) now (entry_at new)
      law-young bricks new told law =
          subst (BrickLaw rows (frame h) now) (λ j brick. sym (told brick) j)
          (brick_law-born rows (frame h) (frame h) objects now i.place entered-young (entry_at bricks) law)
