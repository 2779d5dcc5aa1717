-- The survivors of a sweep of the young part and the items there that stay: the same ranges, and the same gaps.
use Rattle.std.proofs.Common.{◌≡◌, ◌⊎◌, inl, inr, ℕ, zero, suc, ◌+◌, ◌<◌, ◌≤◌, List, [], ◌∷◌, ◌++◌, map, filter, length}
use Rattle.std.proofs.Common.{refl, sym, ap, subst, ◌∙◌, arith, Bool, true, false, not, if◌then◌else◌, ◌&&◌, ◌||◌, ◌==◌}
use Rattle.std.proofs.Common.{nat_eq}
use Rattle.std.proofs.lemmas.Bool.{and_from, and_parts, eq-eqb, eqb-true, or_cases}
use Rattle.std.specs.List.{flat_map}
use Rattle.clr_types.specs.Rising.{IsIn, first}
use Rattle.clr_types.specs.Types.{TypeRow}
use Rattle.clr_types.specs.Ranges.{end_of_last, Piece}
use Rattle.clr_types.specs.Segments.{ephemeral, first_place, generation, stands_in}
use Rattle.clr_types.specs.LawfulLayout.{DoesNotCross}
use Rattle.clr_types.specs.declared.item.Item.{Item}
use Rattle.clr_types.specs.declared.segment.SegInfo.{SegInfo}
use Rattle.clr_types.proofs.ChangedLists.{into_filter, IsIn-map, out_of_filter}
use Rattle.clr_types.proofs.ListMembers.{from-map, in_append}
use Rattle.clr_types.proofs.RisingLists.{all_at, in_cons}
use Rattle.clr_types.proofs.SegmentFacts.{one_home}
use Rattle.clr_types.proofs.SortedLists.{into_sorted_by, rising_agree_by}
use Rattle.clr_heap.specs.Parts.{item_piece, parts}
use Rattle.clr_heap.specs.View.{frame, heap_items, HeapView, IsHeap, last_of, listing, no_rests, segment_at, sight}
use Rattle.clr_heap.specs.View.{word_of}
use Rattle.clr_model.specs.Lawful.{IsLaid}
use Rattle.clr_model.specs.Lookups.{object_piece, pieces}
use Rattle.clr_model.specs.Machine.{Machine, Object}
use Rattle.clr_model.specs.Sweep.{is_condemned, part_start, sections, Survivor, survivor, survivor_piece}
use Rattle.clr_model.specs.Sweep.{survivor_pieces, survivors, swept_end, swept_free}
use Rattle.clr_model.proofs.LawfulPieces.{object-in-pieces, piece-home}
use Rattle.clr_model.proofs.SweptLawful.{kept_are, swept-is}
use Rattle.clr_model.proofs.SweptTiles.{chain}
use Rattle.clr_view.specs.Marks.{has_mark}
use Rattle.clr_view.specs.View.{free_among, IsHeld, is_free, is_object, object_in}
use Rattle.clr_view.specs.Memory.{TestsMarks}
use Rattle.clr_sweep.specs.SweptItems.{is_cut, items_below, items_from, part_last, stays, swept_part, young_start}
use Rattle.clr_sweep.proofs.SectionsSwept.{AreFilled, end_same, IsRun, kept_pieces, kept-rise, section_gaps, swept_gaps}
use Rattle.clr_sweep.proofs.ObjectsSwept.{filled-parts, no-holes, stays-object}
use Rattle.clr_sweep.proofs.SurvivorsSwept.{item-in-pieces, listed-from, listed-where, object-range, seen}
use Rattle.clr_sweep.proofs.YoungPart.{below-is, from-is, from-listed, listed-stands, swept-on, young-high, young-in}
use Rattle.clr_sweep.proofs.YoungPart.{young-items, young-kind, young-known, young-parted, young-start}

module _ (rows : List TypeRow) (old : HeapView) (base : Machine) (heap : IsHeap old) (held : IsHeld rows old)
    (none : old.rests ≡ no_rests) (laid : IsLaid (seen rows old base)) (g : ℕ) (young : g ≤ 1) (k : ℕ)
    (inside : k < length old.segments) (eph : segment_at old k ≡ ephemeral (frame old))
    (kept : ℕ → Bool) (tests : TestsMarks rows old g kept) where
  abbrev m : Machine
  m = seen rows old base

  abbrev keep : Item → Bool
  keep = stays (word_of old)

  abbrev s : SegInfo
  s = segment_at old k

  abbrev from : ℕ
  from = young_start old g

  abbrev stay : List Survivor
  stay = survivors m g kept

  abbrev qs : List Piece
  qs = survivor_pieces s stay

  abbrev items : List Item
  items = items_from rows old k (young_start old g)

  least : g ≤ 2
  least = omega arith

  known : IsIn s old.segments
  known = young-known rows old base heap held none laid g young k inside eph

  filled : AreFilled from items (last_of old k)
  filled =
      filled-parts (sight rows old k) (parts (last_of old k) (sight rows old k) from (last_of old k)) from
      (last_of old k) (λ q. no-holes old k q none)
      (young-parted rows old base heap held none laid g young k inside eph).above.spelled

  start : part_start m.layout g s ≡ from
  start = young-start rows old base heap held none laid g young k inside eph

  -- ---- the survivors of the segment are its young items that stay

  out-of-survivors : (q : Piece) → IsIn q qs → IsIn q (kept_pieces keep items)
  out-of-survivors q n =
      let is = swept-is m laid g least kept s known q n in
      let (stands, piece) = out_of_filter (λ (p : Piece). stands_in s p.place) q (pieces m) is.among in
      let (i, same, there) = from-map (object_in rows (word_of old)) is.object (filter is_object (heap_items rows old))
      is.present in
      let (object, listed) = out_of_filter is_object i (heap_items rows old) there in
      let range : q ≡ item_piece i = is.is ∙ ap (object_piece rows) same
      ∙ object-range rows old base heap held none laid i listed in
      let at : stands_in s i.place ≡ true = subst (λ (p : Piece). stands_in s p.place ≡ true) range stands in
      let mark : has_mark (word_of old i.place) ≡ true = ap (λ (o : Object). has_mark (word_of old o.place)) (sym same)
      ∙ sym (tests is.object is.present is.age) ∙ is.kept_on in
      let on : keep i ≡ true = and_from (is_object i) (has_mark (word_of old i.place)) object mark in
      let here : IsIn i (listing rows old k) = listed-where rows old base heap held none laid i listed k inside at in
      let above : from ≤ i.place = let u = is.above in let e = start in let p = ap (λ (p : Piece). p.place) range in
      omega (arith, u, e, p) in
      subst (λ p. IsIn p (kept_pieces keep items)) (sym range)
      (IsIn-map item_piece
      (into_filter keep items on
      (young_one i above (in_append (items_below rows old k from)
      (subst (λ is. IsIn i is) (young-items rows old base heap held none laid g young k inside eph) here)))))
    where
      young_one : (i : Item) → from ≤ i.place → IsIn i (items_below rows old k from) ⊎ IsIn i items → IsIn i items
      young_one i above (inl low) =
          let is = below-is rows old base heap held none laid g young k inside eph i low in
          let under = is.below in
          let size = is.least in
          absurd (omega arith)
      young_one i above (inr high) = high

  into-survivors : (q : Piece) → IsIn q (kept_pieces keep items) → IsIn q qs
  into-survivors q n =
      let (i, range, there) = from-map item_piece q (filter keep items) n in
      let (on, young_here) = out_of_filter keep i items there in
      let here = from-listed rows old base heap held none laid g young k inside eph i young_here in
      let listed = listed-from rows old k i inside here in
      let o = object_in rows (word_of old) i in
      let present : IsIn o m.objects =
      IsIn-map (object_in rows (word_of old)) (into_filter is_object (heap_items rows old)
      (stays-object (word_of old) i on) listed) in
      let stands = listed-stands rows old base heap held none laid g young k inside eph i here in
      let age : generation (frame old) o.place ≤ g = young-in rows old base heap held none laid g young k inside eph
      o.place stands (from-is rows old base heap held none laid g young k inside eph i young_here).above in
      let passes : kept o.name ≡ true = tests o present age
      ∙ (and_parts (is_object i) (has_mark (word_of old i.place)) on).1 in
      let condemned : is_condemned m g o ≡ true = swept-on rows old base heap held none laid g young k inside eph
      o.place age in
      let survives : IsIn (survivor m o) stay =
      into_sorted_by (λ (s : Survivor). s.place) (survivor m o)
      (map (survivor m) (filter (λ o. is_condemned m g o && kept o.name) m.objects))
      (IsIn-map (survivor m) (into_filter (λ o. is_condemned m g o && kept o.name) m.objects
      (and_from (is_condemned m g o) (kept o.name) condemned passes) present)) in
      let home = piece-home m laid (object_piece rows o) (object-in-pieces m laid o present) in
      let same : home.home ≡ s = one_home m.layout laid.layout home.home s i.place home.among known home.stands
      stands in
      let segment : (survivor m o).segment ≡ s.base = home.base ∙ ap (λ (u : SegInfo). u.base) same in
      let among : IsIn (survivor_piece (survivor m o)) qs =
      IsIn-map survivor_piece (into_filter (λ (k : Survivor). k.segment == s.base) stay
      (eq-eqb (survivor m o).segment s.base segment) survives) in
      subst (λ p. IsIn p qs) (object-range rows old base heap held none laid i listed ∙ sym range) among

  -- THE SURVIVORS of the segment have the ranges of its young items that stay
  pub young-survivors : qs ≡ kept_pieces keep items
  young-survivors =
      rising_agree_by (λ (p : Piece). p.place) qs (kept_pieces keep items) (kept_are m laid g least kept s known).rise
      (kept-rise keep from (last_of old k) items filled)
      (λ q. (out-of-survivors q, into-survivors q))

  -- ---- where the segment ends

  pub young-end : part_last rows old k (young_start old g) ≡ swept_end m.layout g stay s
  young-end = end_same keep from items ∙ (λ i. end_of_last (sym start i) (sym young-survivors i))

  -- ---- its sections

  abbrev highs : Bool → List ℕ
  highs zero_g = if zero_g then s.end ∷ [] else old.start0 ∷ s.end ∷ []

  -- no section is of generation 2
  sections-are : sections m.layout g s ≡ chain from (highs (g == 0))
  sections-are =
      ap (λ b. if b then ((if g == 2 then record { low = first_place s; high = old.start1 } ∷ [] else [])
      ++ (if g == 0 then [] else record { low = old.start1; high = old.start0 } ∷ []))
      ++ (record { low = old.start0; high = s.end } ∷ []) else record { low = first_place s; high = s.end } ∷ [])
      (young-kind rows old base heap held none laid g young k inside eph) ∙ go g young
    where
      go : (n : ℕ) → n ≤ 1 → ((if n == 2 then record { low = first_place s; high = old.start1 } ∷ [] else [])
          ++ (if n == 0 then [] else record { low = old.start1; high = old.start0 } ∷ []))
          ++ (record { low = old.start0; high = s.end } ∷ []) ≡ chain (if n == 0 then old.start0 else old.start1)
          (if n == 0 then s.end ∷ [] else old.start0 ∷ s.end ∷ [])
      go zero l = refl
      go (suc zero) l = refl
      go (suc (suc n)) l = absurd (omega arith)

  at-end : (i : Item) → IsIn i items → (s.end ≤ i.place) ⊎ (i.place + i.size ≤ s.end)
  at-end i n = inr (from-is rows old base heap held none laid g young k inside eph i n).below

  high : from ≤ s.end
  high = young-high rows old base heap held none laid g young k inside eph

  cut-at : (q : ℕ) → is_cut old q ≡ true → (q ≡ old.start1) ⊎ (q ≡ old.start0)
  cut-at q on = elim (or_cases (nat_eq q old.start1) (nat_eq q old.start0) on) [
    | inl e ↦
        inl (eqb-true q old.start1 e)
    | inr e ↦ inr (eqb-true q old.start0 e)
  ]

  order : old.start1 ≤ old.start0
  order = laid.layout.start1_high

  abbrev Run : Bool → Type 0
  Run zero_g = IsRun (is_cut old) (if zero_g then old.start0 else old.start1)
      (if zero_g then old.start0 else old.start1) (if zero_g then old.start0 else old.start1) s.end (highs zero_g) items

  -- the runs of free space between the boundaries
  run : (b : Bool) → (g == 0) ≡ b → Run b
  run true e =
      let at : from ≡ old.start0 = ap (λ b. if b then old.start0 else old.start1) e in
      let up : old.start0 ≤ s.end = let h = high in omega (arith, at, h) in
      let o = order in
      record {
        filled = subst (λ n. AreFilled n items s.end) at filled;
        lower = omega arith;
        run = omega arith;
        ends = (up, refl);
        whole = λ h i n l. elim (in_cons n) [
          | inl e ↦ subst (λ n. (n ≤ i.place) ⊎ (i.place + i.size ≤ n)) (sym e)
              (at-end i l)
          | inr n ↦ elim n [ ]
        ];
        cuts = λ q low top on. elim (cut-at q on) [ inl e ↦ absurd (omega arith) | inr e ↦ absurd (omega arith) ];
        cut_at = λ h n low top. elim (in_cons n) [ inl e ↦ absurd (omega arith) | inr n ↦ elim n [ ] ];
        at_cut = λ n. refl;
      }
  run false e =
      let at : from ≡ old.start1 = ap (λ b. if b then old.start0 else old.start1) e in
      record {
        filled = subst (λ n. AreFilled n items s.end) at filled;
        lower = omega arith;
        run = omega arith;
        ends = (order, (top, refl));
        whole = λ h i n l. whole h i l (in_cons n);
        cuts = λ q low up on. elim (cut-at q on) [
          | inl e ↦ absurd (omega arith)
          | inr e ↦
              subst (λ n. IsIn n (old.start0 ∷ s.end ∷ [])) (sym e) first
        ];
        cut_at = λ h n low up. cut_on h up (in_cons n);
        at_cut = λ n. refl;
      }
    where
      top : old.start0 ≤ s.end
      top = subst (λ (u : SegInfo). old.start0 ≤ u.end) (sym eph) laid.layout.start0_high

      listed : (i : Item) → IsIn i items → IsIn (item_piece i) (pieces m)
      listed i n = item-in-pieces rows old base heap held none laid i
          (listed-from rows old k i inside (from-listed rows old base heap held none laid g young k inside eph i n))

      whole : (h : ℕ) (i : Item) → IsIn i items → (h ≡ old.start0) ⊎ IsIn h (s.end ∷ []) → (h ≤ i.place)
          ⊎ (i.place + i.size ≤ h)
      whole h i l (inl e) = subst (λ n. (n ≤ i.place) ⊎ (i.place + i.size ≤ n)) (sym e)
          (all_at (DoesNotCross old.start0) (listed i l) laid.whole0)
      whole h i l (inr n) =
          elim (in_cons n) [
            | inl e ↦ subst (λ n. (n ≤ i.place) ⊎ (i.place + i.size ≤ n)) (sym e) (at-end i l)
            | inr n ↦
                elim n [ ]
          ]

      cut_at0 : (h : ℕ) → (b : Bool) → nat_eq h old.start0 ≡ true → (b || nat_eq h old.start0) ≡ true
      cut_at0 h true e = refl
      cut_at0 h false e = e

      cut_on : (h : ℕ) → h < s.end → (h ≡ old.start0) ⊎ IsIn h (s.end ∷ []) → is_cut old h ≡ true
      cut_on h l (inl e) = cut_at0 h (nat_eq h old.start1) (eq-eqb h old.start0 e)
      cut_on h l (inr n) = elim (in_cons n) [ inl e ↦ absurd (omega arith) | inr n ↦ elim n [ ] ]

  -- THE FREE ITEMS that the sweep leaves are those that the machine's sweep makes
  pub young-gaps : free_among (swept_part rows old k (young_start old g)) ≡ swept_free m.layout g stay s
  young-gaps =
      swept_gaps keep (is_cut old) (λ i on. not_free (is_free i) (stays-object (word_of old) i on)) s.end
      (part_last rows old k from) from (highs (g == 0)) items (run (g == 0) refl) refl
      ∙ (λ i. flat_map (section_gaps (young-end i) (sym young-survivors i)) (sym sections-are i))
    where
      not_free : (b : Bool) → not b ≡ true → b ≡ false
      not_free true e = absurd cc
      not_free false e = refl
