-- The layout that a sweep of the young part leaves is the one that the machine's sweep leaves.
use Rattle.std.proofs.Common.{◌≡◌, ◌≢◌, ◌⊎◌, inl, inr, ℕ, suc, ◌<◌, ◌≤◌, Bool, true, false, not, List, [], ◌∷◌, ◌++◌}
use Rattle.std.proofs.Common.{filter, map, length, get_or, set, if◌then◌else◌, ◌==◌, ◌&&◌, ◌||◌, nat_le, min, refl, ap}
use Rattle.std.proofs.Common.{ap₂, sym, ◌∙◌, subst, arith}
use Rattle.std.proofs.lemmas.Bool.{and_from, and_parts, both_ways, cases_eq, cases_order, le-leb, leb-true, ne_eqb}
use Rattle.std.proofs.lemmas.List.{ext_get_or, get_or-map, get_or-set_other, get_or-set_same}
use Rattle.std.specs.List.{flat_map}
use Rattle.clr_types.specs.Ranges.{Piece}
use Rattle.clr_types.specs.Rising.{IsIn}
use Rattle.clr_types.specs.Segments.{empty_segment, ended_at, ephemeral, is_small_or_ephemeral, Layout, same_kind}
use Rattle.clr_types.specs.Segments.{stands_in}
use Rattle.clr_types.specs.LawfulLayout.{IsLawfulLayout}
use Rattle.clr_types.specs.Types.{TypeRow}
use Rattle.clr_types.specs.declared.item.Item.{Item}
use Rattle.clr_types.specs.declared.segment.SegInfo.{SegInfo}
use Rattle.clr_types.specs.declared.segment.SegKind.{SegKind}
use Rattle.clr_types.specs.declared.segment.SegKind.TheVariants.{Ephemeral, Large, Small, Pinned}
use Rattle.clr_types.proofs.ChangedLists.{append_left, into_filter, IsIn-map, out_of_filter}
use Rattle.clr_types.proofs.ListMembers.{any-from, any-in, append_right, filter-rises, from-map}
use Rattle.clr_types.proofs.HighestSegment.{ephemeral-one}
use Rattle.clr_types.proofs.SortedLists.{into_sorted_by, rising_agree_by}
use Rattle.clr_heap.specs.Parts.{item_piece}
use Rattle.clr_heap.specs.View.{frame, heap_items, HeapView, IsHeap, listing, no_rests, segment_at}
use Rattle.clr_heap.proofs.Framing.{lawful_at}
use Rattle.clr_heap.proofs.Staying.{segment_order}
use Rattle.clr_model.specs.Lawful.{IsLaid}
use Rattle.clr_model.specs.Machine.{Machine}
use Rattle.clr_model.specs.Sweep.{has_condemned_part, is_in_part, part_start, Survivor, survivors, swept_end}
use Rattle.clr_model.specs.Sweep.{swept_free, swept_small, taking_part}
use Rattle.clr_model.proofs.CollectedFree.{after-is, from_part, into_parts}
use Rattle.clr_model.proofs.LayoutLaws.{sweep_lawful}
use Rattle.clr_view.specs.View.{free_among, free_in, IsHeld, is_free, layout_in, tail_of}
use Rattle.clr_view.proofs.Listings.{heap-rise}
use Rattle.clr_view.specs.Memory.{TestsMarks}
use Rattle.clr_sweep.specs.Swept.{swept_layout}
use Rattle.clr_sweep.specs.SweptItems.{aged, items_below, part_last, swept_part, young_start}
use Rattle.clr_sweep.specs.SweptSegments.{HasSweptSegment}
use Rattle.clr_sweep.proofs.LayoutSwept.{free-rise}
use Rattle.clr_sweep.proofs.SurvivorsSwept.{at-in, listed-from, seen}
use Rattle.clr_sweep.proofs.YoungPart.{below-is, below-listed, from-is, from-listed, listed-stands, other-away}
use Rattle.clr_sweep.proofs.YoungPart.{young-kind, young-known, young-start}
use Rattle.clr_sweep.proofs.YoungSurvivors.{young-end, young-gaps}
use Rattle.clr_sweep.proofs.YoungSwept.{now-whereabouts, other-listing, whereabouts, young-count, young-segments}
use Rattle.clr_sweep.proofs.YoungSwept.{young-walkable}

-- only the ephemeral segment has a young part
others-none : (k : SegKind) (two : Bool) → same_kind Ephemeral k ≡ false → two ≡ false
    → (is_small_or_ephemeral k && (same_kind Ephemeral k || two)) ≡ false
others-none Small two e none = none
others-none Ephemeral two e none = absurd cc
others-none Large two e none = refl
others-none Pinned two e none = refl

young-takes : (k : SegKind) (two : Bool) → same_kind Ephemeral k ≡ true
    → (is_small_or_ephemeral k && (same_kind Ephemeral k || two)) ≡ true
young-takes Small two e = absurd cc
young-takes Ephemeral two e = refl
young-takes Large two e = absurd cc
young-takes Pinned two e = absurd cc

takes-young : (k : SegKind) (two : Bool) → two ≡ false → (is_small_or_ephemeral k && (same_kind Ephemeral k || two))
    ≡ true → same_kind Ephemeral k ≡ true
takes-young Small two none e = absurd (both_ways two none e)
takes-young Ephemeral two none e = refl
takes-young Large two none e = absurd cc
takes-young Pinned two none e = absurd cc

module _ (rows : List TypeRow) (old : HeapView) (base : Machine) (heap : IsHeap old) (held : IsHeld rows old)
    (none : old.rests ≡ no_rests) (laid : IsLaid (seen rows old base)) (g : ℕ) (young : g ≤ 1) (k : ℕ)
    (inside : k < length old.segments) (eph : segment_at old k ≡ ephemeral (frame old)) (now : HeapView)
    (w : HasSweptSegment rows old now k (young_start old g)) (swept_heap : IsHeap (aged now g)) (kept : ℕ → Bool)
    (tests : TestsMarks rows old g kept) where
  abbrev m : Machine
  m = seen rows old base

  abbrev s : SegInfo
  s = segment_at old k

  abbrev from : ℕ
  from = young_start old g

  abbrev stay : List Survivor
  stay = survivors m g kept

  abbrev after : Layout
  after = swept_small m.layout g stay

  abbrev new : HeapView
  new = aged now g

  least : g ≤ 2
  least = omega arith

  not_two : (g == 2) ≡ false
  not_two = ne_eqb g 2 (λ e. omega arith)

  lawful : IsLawfulLayout after
  lawful = sweep_lawful m laid g least kept

  known : IsIn s old.segments
  known = young-known rows old base heap held none laid g young k inside eph

  kind : same_kind Ephemeral s.kind ≡ true
  kind = young-kind rows old base heap held none laid g young k inside eph

  last : part_last rows old k (young_start old g) ≡ swept_end m.layout g stay s
  last = young-end rows old base heap held none laid g young k inside eph kept tests

  -- ---- segments

  abbrev change : SegInfo → SegInfo
  change t = if is_small_or_ephemeral t.kind && has_condemned_part g t then record t {
    end = swept_end m.layout g stay t;
  } else t

  change-here : change s ≡ ended_at (swept_end m.layout g stay s) s
  change-here = ap (λ b. if b then ended_at (swept_end m.layout g stay s) s else s) (young-takes s.kind (g == 2) kind)

  -- another segment is of another kind
  other-kind : (j : ℕ) → j < length old.segments → j ≢ k → same_kind Ephemeral (segment_at old j).kind ≡ false
  other-kind j l ne = go (same_kind Ephemeral (segment_at old j).kind) refl
    where
      go : (b : Bool) → same_kind Ephemeral (segment_at old j).kind ≡ b → same_kind Ephemeral (segment_at old j).kind
          ≡ false
      go false e = e
      go true e =
          let same : segment_at old j ≡ s = ephemeral-one m.layout laid.layout (segment_at old j)
          (at-in old.segments j empty_segment l) e ∙ sym eph in
          let bases : (segment_at old j).base ≡ s.base = ap (λ (t : SegInfo). t.base) same in
          let sizes : (segment_at old j).reserved ≡ s.reserved = ap (λ (t : SegInfo). t.reserved) same in
          let room = (lawful_at old k heap inside).least in
          elim (cases_order j k) [
            | inl at ↦ absurd (ne at)
            | inr (inl lower) ↦ let o = segment_order old j k heap lower inside in absurd (omega arith)
            | inr (inr upper) ↦ let o = segment_order old k j heap upper l in absurd (omega arith)
          ]

  change-other : (j : ℕ) → j < length old.segments → j ≢ k → change (segment_at old j) ≡ segment_at old j
  change-other j l ne =
      ap (λ b. if b then ended_at (swept_end m.layout g stay (segment_at old j)) (segment_at old j) else segment_at old
      j)
      (others-none (segment_at old j).kind (g == 2) (other-kind j l ne) not_two)

  same_count : (f : SegInfo → SegInfo) (ts : List SegInfo) → length (map f ts) ≡ length ts
  same_count f [] = refl
  same_count f (t ∷ ts) = ap suc (same_count f ts)

  segments-are : now.segments ≡ map change old.segments
  segments-are =
      let c = young-count rows old base heap held none laid g young k inside eph now w in
      ext_get_or empty_segment now.segments (map change old.segments) (c ∙ sym (same_count change old.segments))
      (λ j l. let here : j < length old.segments = omega arith in
      ap (λ ts. get_or ts j empty_segment) (young-segments rows old base heap held none laid g young k inside eph
      now w) ∙ at j here (cases_eq j k) ∙ sym (get_or-map change old.segments j empty_segment empty_segment here))
    where
      ended : SegInfo
      ended = ended_at (part_last rows old k (young_start old g)) s

      at : (j : ℕ) → j < length old.segments → (j ≡ k) ⊎ (j ≢ k) → get_or (set old.segments k ended) j empty_segment
          ≡ change (segment_at old j)
      at j l (inl e) = subst (λ n. get_or (set old.segments k ended) n empty_segment ≡ change (segment_at old n))
          (sym e) (get_or-set_same old.segments k ended empty_segment inside ∙ ap (λ n. ended_at n s) last
          ∙ sym change-here)
      at j l (inr ne) = get_or-set_other old.segments k j ended empty_segment ne ∙ sym (change-other j l ne)

  -- ---- boundaries

  ephemeral-is : ephemeral (frame now) ≡ change s
  ephemeral-is =
      ap (λ ts. ephemeral (record (frame now) { segments = ts })) segments-are
      ∙ sym (ephemeral-one after lawful (change s) (IsIn-map change known)
      (ap (λ (t : SegInfo). same_kind Ephemeral t.kind) change-here ∙ kind))

  tail-is : tail_of now ≡ swept_end m.layout g stay (ephemeral m.layout)
  tail-is = ap (λ (t : SegInfo). t.end) (ephemeral-is ∙ change-here) ∙ ap (swept_end m.layout g stay) eph

  start1-is : new.start1 ≡ after.start1
  start1-is =
      ap₂ (λ (h : HeapView) (n : ℕ). if g == 0 then h.start1 else min h.start0 n) w.others tail-is

  -- ---- free items

  abbrev in_part : Piece → Bool
  in_part = is_in_part is_small_or_ephemeral m.layout g

  abbrev fresh : List Piece
  fresh = flat_map (swept_free m.layout g stay) (taking_part is_small_or_ephemeral g m.layout)

  abbrev others : List Piece
  others = filter (λ p. not (in_part p)) m.layout.free

  -- what takes part is the ephemeral segment
  taking-young : (t : SegInfo) → IsIn t old.segments → (is_small_or_ephemeral t.kind && has_condemned_part g t) ≡ true
      → t ≡ s
  taking-young t i takes = ephemeral-one m.layout laid.layout t i (takes-young t.kind (g == 2) not_two takes) ∙ sym eph

  -- the part begins where the heap's does
  start : part_start m.layout g s ≡ from
  start = young-start rows old base heap held none laid g young k inside eph

  -- what stands elsewhere or below isn't in the part
  not-in-part : (p : Piece) → (stands_in s p.place ≡ true → from ≤ p.place → ⊥) → (b : Bool) → in_part p ≡ b
      → not b ≡ true
  not-in-part p away false e = refl
  not-in-part p away true e =
      let (t, i, passes) =
      any-in (λ (t : SegInfo). is_small_or_ephemeral t.kind
      && (has_condemned_part g t && (stands_in t p.place && nat_le (part_start m.layout g t) p.place))) old.segments
      e in
      let (small, rest) =
      and_parts (is_small_or_ephemeral t.kind)
      (has_condemned_part g t && (stands_in t p.place && nat_le (part_start m.layout g t) p.place)) passes in
      let (condemned, at) = and_parts (has_condemned_part g t) (stands_in t p.place && nat_le (part_start m.layout g t)
      p.place) rest in
      let (stands, above) = and_parts (stands_in t p.place) (nat_le (part_start m.layout g t) p.place) at in
      let same : t ≡ s = taking-young t i (and_from (is_small_or_ephemeral t.kind) (has_condemned_part g t) small
      condemned) in
      let over : part_start m.layout g s ≤ p.place = subst (λ (u : SegInfo). part_start m.layout g u ≤ p.place) same
      (leb-true (part_start m.layout g t) p.place above) in
      absurd (away (subst (λ (u : SegInfo). stands_in u p.place ≡ true) same stands) (let e = start in omega arith))

  in-part : (p : Piece) → stands_in s p.place ≡ true → from ≤ p.place → in_part p ≡ true
  in-part p stands over =
      any-from (λ (t : SegInfo). is_small_or_ephemeral t.kind
      && (has_condemned_part g t && (stands_in t p.place && nat_le (part_start m.layout g t) p.place))) old.segments
      s known
      (let (small, condemned) = and_parts (is_small_or_ephemeral s.kind) (has_condemned_part g s)
      (young-takes s.kind (g == 2) kind) in
      and_from (is_small_or_ephemeral s.kind)
      (has_condemned_part g s && (stands_in s p.place && nat_le (part_start m.layout g s) p.place)) small
      (and_from (has_condemned_part g s) (stands_in s p.place && nat_le (part_start m.layout g s) p.place) condemned
      (and_from (stands_in s p.place) (nat_le (part_start m.layout g s) p.place) stands
      (le-leb (part_start m.layout g s) p.place (let e = start in omega arith)))))

  -- a free item that stays
  stays-free : (i : Item) → IsIn i (heap_items rows old) → is_free i ≡ true
      → (stands_in s i.place ≡ true → from ≤ i.place → ⊥) → IsIn (item_piece i) after.free
  stays-free i l free away =
      into_sorted_by (λ (p : Piece). p.place) (item_piece i) (others ++ fresh)
      (append_left fresh (into_filter (λ p. not (in_part p)) m.layout.free
      (not-in-part (item_piece i) away (in_part (item_piece i)) refl)
      (IsIn-map item_piece (into_filter is_free (heap_items rows old) free l))))

  gaps : free_among (swept_part rows old k from) ≡ swept_free m.layout g stay s
  gaps = young-gaps rows old base heap held none laid g young k inside eph kept tests

  into-free : (i : Item) → IsIn i (heap_items rows new) → is_free i ≡ true → IsIn (item_piece i) after.free
  into-free i l free = elim (now-whereabouts rows old base heap held none laid g young k inside eph now w i l) [
    | inl (j, under, ne, there) ↦
        let away = other-away rows old base heap held none laid g young k inside eph j under ne i there in
        stays-free i (listed-from rows old j i under there) free (λ stands over. both_ways (stands_in s i.place) away
        stands)
    | inr (inl there) ↦
        let is = below-is rows old base heap held none laid g young k inside eph i there in
        let high = is.below in
        let size = is.least in
        stays-free i (listed-from rows old k i inside (below-listed rows old base heap held none laid g young k inside
        eph i there)) free (λ stands over. omega arith)
    | inr (inr there) ↦
        into_sorted_by (λ (p : Piece). p.place) (item_piece i) (others ++ fresh)
        (append_right others (into_parts (swept_free m.layout g stay) s (item_piece i)
        (taking_part is_small_or_ephemeral g m.layout)
        (into_filter (λ (t : SegInfo). is_small_or_ephemeral t.kind && has_condemned_part g t) old.segments
        (young-takes s.kind (g == 2) kind) known)
        (subst (IsIn (item_piece i)) gaps
        (IsIn-map item_piece (into_filter is_free (swept_part rows old k from) free there)))))
  ]

  -- where items of the new heap come from
  new-listed : (j : ℕ) → j < length old.segments → (i : Item) → IsIn i (listing rows new j)
      → IsIn i (heap_items rows new)
  new-listed j l i m = let c = young-count rows old base heap held none laid g young k inside eph now w in
      listed-from rows new j i (omega arith) m

  into-new : (i : Item) (xs : List Item) → IsIn i xs → is_free i ≡ true
      → ((j : Item) → IsIn j xs → IsIn j (heap_items rows new)) → IsIn (item_piece i) (free_in rows new)
  into-new i xs l free up = IsIn-map item_piece (into_filter is_free (heap_items rows new) free (up i l))

  out-of-free : (p : Piece) → IsIn p after.free → IsIn p (free_in rows new)
  out-of-free p n = elim (after-is is_small_or_ephemeral m.layout g fresh p n) [
    | inl (off, there) ↦ kept_free off (from-map item_piece p (filter is_free (heap_items rows old)) there)
    | inr there ↦
        let (t, takes, here) = from_part (swept_free m.layout g stay) (taking_part is_small_or_ephemeral g m.layout) p
        there in
        let (test, among) = out_of_filter (λ (t : SegInfo). is_small_or_ephemeral t.kind && has_condemned_part g t) t
        old.segments takes in
        let at : IsIn p (free_among (swept_part rows old k from)) =
        subst (IsIn p) (sym gaps) (subst (λ (u : SegInfo). IsIn p (swept_free m.layout g stay u))
        (taking-young t among test) here) in
        let (i, is, m) = from-map item_piece p (filter is_free (swept_part rows old k from)) at in
        let (free, j) = out_of_filter is_free i (swept_part rows old k from) m in
        subst (λ q. IsIn q (free_in rows new)) (sym is) (into-new i (swept_part rows old k from) j free swept_up)
  ]
    where
      swept_up : (j : Item) → IsIn j (swept_part rows old k from) → IsIn j (heap_items rows new)
      swept_up j l = new-listed k inside j (subst (IsIn j) (sym w.items) (append_right (items_below rows old k from) l))

      below_up : (j : Item) → IsIn j (items_below rows old k from) → IsIn j (heap_items rows new)
      below_up j l = new-listed k inside j (subst (IsIn j) (sym w.items) (append_left (swept_part rows old k from) l))

      other_up : (n : ℕ) → n < length old.segments → n ≢ k → (j : Item) → IsIn j (listing rows old n)
          → IsIn j (heap_items rows new)
      other_up n l ne j t =
          new-listed n l j
          (subst (IsIn j) (sym (other-listing rows old base heap held none laid g young k inside eph now w n l ne)) t)

      kept_free : in_part p ≡ false → (i : Item) × (p ≡ item_piece i) × IsIn i (filter is_free (heap_items rows old))
          → IsIn p (free_in rows new)
      kept_free off (i, is, m) =
          let (free, l) = out_of_filter is_free i (heap_items rows old) m in
          elim (whereabouts rows old base heap held none laid g young k inside eph now w i l) [
            | inl (j, under, ne, there) ↦ subst (λ q. IsIn q (free_in rows new)) (sym is)
                (into-new i (listing rows old j) there free (other_up j under ne))
            | inr (inl there) ↦ subst (λ q. IsIn q (free_in rows new)) (sym is)
                (into-new i (items_below rows old k from) there free below_up)
            | inr (inr there) ↦
                let stands = listed-stands rows old base heap held none laid g young k inside eph i
                (from-listed rows old base heap held none laid g young k inside eph i there) in
                let over = (from-is rows old base heap held none laid g young k inside eph i there).above in
                absurd (both_ways (in_part p) off
                (subst (λ q. in_part q ≡ true) (sym is) (in-part (item_piece i) stands over)))
          ]

  -- THE FREE ITEMS are those that the machine's sweep leaves
  free-is : free_in rows new ≡ after.free
  free-is =
      rising_agree_by (λ (p : Piece). p.place) (free_in rows new) after.free
      (free-rise (filter is_free (heap_items rows new)) (filter-rises is_free (λ (i : Item). i.place)
      (heap_items rows new) (heap-rise rows new (young-walkable rows old base heap held none laid g young k inside
      eph now w) swept_heap)))
      lawful.free_rise
      (λ p. (λ n. into p n, out-of-free p))
    where
      into : (p : Piece) → IsIn p (free_in rows new) → IsIn p after.free
      into p n =
          let (i, is, m) = from-map item_piece p (filter is_free (heap_items rows new)) n in
          let (free, l) = out_of_filter is_free i (heap_items rows new) m in
          subst (λ q. IsIn q after.free) (sym is) (into-free i l free)

  -- THE LAYOUT is the one that the machine's sweep leaves
  pub young-layout : layout_in rows (aged now g) ≡ swept_layout m.layout g (survivors m g kept)
  young-layout =
      let rests : now.rests ≡ old.rests = ap (λ (h : HeapView). h.rests) w.others in
      let top : now.top ≡ old.top = ap (λ (h : HeapView). h.top) w.others in
      let segments = segments-are in
      let one = start1-is in
      let start = tail-is in
      let free = free-is in
      let is : layout_in rows new ≡ after = λ i. record {
        segments = segments i;
        start1 = one i;
        start0 = start i;
        free = free i;
        rests = rests i;
        top = top i;
      } in
      is ∙ sym (ap (λ b. if b then swept_layout m.layout 2 stay else after) not_two)
