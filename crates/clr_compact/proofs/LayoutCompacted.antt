-- The layout of the heap after a compaction is the one that the machine's compaction leaves; and what else holds of the
-- heap.
use Rattle.std.proofs.Common.{◌≡◌, ◌⊎◌, ℕ, suc, ◌+◌, ◌-◌, ◌%◌, ◌<◌, inl, inr, Bool, true, false, not, List, []}
use Rattle.std.proofs.Common.{◌∷◌, ◌++◌, length, map, filter, refl, sym, ap, subst, ◌∙◌, arith, if◌then◌else◌}
use Rattle.std.proofs.lemmas.Bool.{both_ways, cases_Bool, cases_eq, eq-eqb, eqb-true, ne_eqb, not-true}
use Rattle.std.proofs.lemmas.List.{ext_get_or, get_or-map}
use Rattle.std.specs.List.{flat_map}
use Rattle.clr_types.specs.Rising.{IsIn, IsRisingBy}
use Rattle.clr_types.specs.Ranges.{Piece}
use Rattle.clr_types.specs.Segments.{empty_segment, Layout}
use Rattle.clr_types.specs.Types.{mt_of, TypeRow}
use Rattle.clr_types.specs.declared.item.Item.{Item}
use Rattle.clr_types.specs.declared.segment.SegInfo.{SegInfo}
use Rattle.clr_types.proofs.ChangedLists.{all-map, append_left, into_filter, IsIn-map, out_of_filter}
use Rattle.clr_types.proofs.ListMembers.{append_right, filter-rises, from-map, in_append}
use Rattle.clr_types.proofs.SortedLists.{into_sorted_by, out_of_sorted_by, rising_agree_by}
use Rattle.clr_heap.specs.Parts.{free_item, item_piece, unmarked}
use Rattle.clr_compact.specs.Rewrites.{cleared, Rewrites}
use Rattle.clr_heap.specs.View.{AreWalkable, heap_items, HeapView, IsHeap, no_rests, SameShape, segment_at, word_of}
use Rattle.clr_model.specs.Compaction.{Move, moved_by}
use Rattle.clr_model.specs.Lawful.{IsLaid}
use Rattle.clr_model.specs.Machine.{Machine, Object}
use Rattle.clr_model.proofs.CollectedFree.{from_part, into_parts}
use Rattle.clr_view.specs.Marks.{has_mark, Marked}
use Rattle.clr_view.specs.View.{AreFreeHeads, free_in, IsFreeHead, IsHeld, object_in}
use Rattle.clr_view.specs.Items.{is_free, is_object}
use Rattle.clr_view.proofs.Listings.{heap-rise}
use Rattle.clr_sweep.proofs.SurvivorsSwept.{listed-from, seen}
use Rattle.clr_moves.specs.Objects.{is_in_parts}
use Rattle.clr_compact.specs.Compacted.{KeepsMovedCells, KeepsMovedHeaders, part_items}
use Rattle.clr_view.specs.Memory.{word_without_mark}
use Rattle.clr_view.specs.Memory.{TestsMarks}
use Rattle.clr_moves.specs.Moves.{age_of, takes}
use Rattle.clr_compact.specs.Slides.{HasSlid}
use Rattle.clr_compact.proofs.CompactedHeap.{away_below, below_away, below_listed_now, below_words, came_from, CameFrom}
use Rattle.clr_compact.proofs.CompactedHeap.{clean_walkable, count_same, freed, part_in, part_to_heap, stayed, went}
use Rattle.clr_compact.proofs.CompactedHeap.{words_gone}
use Rattle.clr_compact.proofs.AllParts.{part_item}
use Rattle.clr_compact.proofs.Gone.{goes_with}
use Rattle.clr_compact.proofs.MemoryItems.{object_of, standing}
use Rattle.clr_compact.proofs.PartEnds.{free_range}
use Rattle.clr_compact.proofs.PartsClean.{part_unmarked, word_kept}
use Rattle.clr_compact.proofs.PartsSlid.{now_ends, slid_parts, slid_walkable}
use Rattle.clr_compact.proofs.Relisted.{free_in_part}
use Rattle.clr_moves.specs.declared.condemned.Condemned.{Condemned}
use Rattle.clr_moves.proofs.FilledParts.{FillsParts}

module _ (rows : List TypeRow) (old : HeapView) (base : Machine) (heap : IsHeap old) (held : IsHeld rows old)
    (none : old.rests ≡ no_rests) (laid : IsLaid (seen rows old base)) (g : Condemned) (keeps : ℕ → Bool)
    (moves : List Move) (after : Layout) (c : FillsParts rows old base g keeps moves after) (mid : HeapView)
    (slid : HasSlid old mid g moves) (tests : TestsMarks rows old (age_of g) keeps) (mid_heap : IsHeap mid)
    (clean : HeapView) (shape : SameShape mid clean)
    (words : Rewrites (cleared (part_items rows mid g (length mid.segments))) (word_of mid)
    (word_of clean))
    (clean_heap : IsHeap clean) where
  count : length clean.segments ≡ length old.segments
  count = count_same rows old base heap held none laid g keeps moves after c mid slid tests mid_heap clean shape
      words

  -- ---- segments

  abbrev change : SegInfo → SegInfo
  change s = if takes g s then record s { end = c.end s } else s

  same_count : (ts : List SegInfo) → length (map change ts) ≡ length ts
  same_count [] = refl
  same_count (t ∷ ts) = ap suc (same_count ts)

  one_segment : (t : ℕ) → t < length old.segments → segment_at clean t ≡ change (segment_at old t)
  one_segment t inside =
      ap (λ (h : HeapView). segment_at h t) shape.others
      ∙ elim (cases_Bool (takes g (segment_at old t))) [
        | inl on ↦ now_ends rows old base heap held none laid g keeps moves after c mid slid t inside on
            ∙ sym (ap
            (λ b. if b then record (segment_at old t) { end = c.end (segment_at old t) } else segment_at old t) on)
        | inr off ↦ slid.rest t inside off
            ∙ sym (ap
            (λ b. if b then record (segment_at old t) { end = c.end (segment_at old t) } else segment_at old t) off)
      ]

  pub segments_compacted : clean.segments ≡ after.segments
  segments_compacted =
      ext_get_or empty_segment clean.segments (map change old.segments) (count ∙ sym (same_count old.segments))
      (λ k l. let n = count in let inside : k < length old.segments = omega arith in
      one_segment k inside ∙ sym (get_or-map change old.segments k empty_segment empty_segment inside))
      ∙ sym c.ends

  -- ---- free items

  abbrev fresh : List Piece
  fresh = flat_map c.free c.segments

  abbrev was_free : List Piece
  was_free = filter (λ p. not (is_in_parts old g p.place)) (free_in rows old)

  into_free : (p : Piece) → IsIn p (was_free ++ fresh) → IsIn p after.free
  into_free p n = subst (IsIn p) (sym c.free_ranges) (into_sorted_by (λ (p : Piece). p.place) p (was_free ++ fresh) n)

  out_of_free : (p : Piece) → IsIn p after.free
      → ((is_in_parts old g p.place ≡ false) × IsIn p (free_in rows old)) ⊎ IsIn p fresh
  out_of_free p n = elim (in_append was_free
      (out_of_sorted_by (λ (p : Piece). p.place) p (was_free ++ fresh) (subst (IsIn p) c.free_ranges n))) [
        | inl i ↦
            let (away, there) = out_of_filter (λ p. not (is_in_parts old g p.place)) p (free_in rows old) i in
            inl (not-true (is_in_parts old g p.place) away, there)
        | inr i ↦ inr i
      ]

  out : (p : Piece) → IsIn p (free_in rows clean) → IsIn p after.free
  out p n =
      let (j, is, there) = from-map item_piece p (filter is_free (heap_items rows clean)) n in
      let (free, listed) = out_of_filter is_free j (heap_items rows clean) there in
      go p j is free (came_from rows old base heap held none laid g keeps moves after c mid slid tests mid_heap
      clean shape words j listed)
    where
      go : (p : Piece) (j : Item) → p ≡ item_piece j → is_free j ≡ true
          → CameFrom rows old base heap held none laid g keeps moves after c mid slid tests mid_heap clean shape
          words j → IsIn p after.free
      go p j is free (stayed t below) =
          let (l, here, low) = below in
          let away = below_away rows old base heap held none laid g keeps moves after c mid slid tests mid_heap
          clean shape words t j below in
          subst (λ q. IsIn q after.free) (sym is)
          (into_free (item_piece j)
          (append_left fresh
          (into_filter (λ p. not (is_in_parts old g p.place)) (free_in rows old) (ap not away)
          (IsIn-map item_piece (into_filter is_free (heap_items rows old) free (listed-from rows old t j l here))))))
      go p j is free (went i h at) = let clash : false ≡ true = sym (ap not free) ∙ ap is_object at ∙ h.object in
          absurd cc
      go p j is free (freed t inside on f new at) =
          let same : p ≡ f = is ∙ ap item_piece at in
          subst (λ q. IsIn q after.free) (sym same)
          (into_free f (append_right was_free
          (into_parts c.free (segment_at old t) f c.segments (c.among t inside on) new)))

  into : (p : Piece) → IsIn p after.free → IsIn p (free_in rows clean)
  into p n = elim (out_of_free p n) [
    | inl (away, k) ↦
        let (i, is, there) = from-map item_piece p (filter is_free (heap_items rows old)) k in
        let (free, listed) = out_of_filter is_free i (heap_items rows old) there in
        let away_i : is_in_parts old g i.place ≡ false =
        subst (λ (q : Piece). is_in_parts old g q.place ≡ false) is away in
        let (t, below) = away_below rows old base heap held none laid g keeps moves after c mid slid tests
        mid_heap clean shape words i listed away_i in
        let (l, here, low) = below in
        let e = count in
        subst (λ q. IsIn q (free_in rows clean)) (sym is)
        (IsIn-map item_piece (into_filter is_free (heap_items rows clean) free
        (listed-from rows clean t i (omega arith)
        (below_listed_now rows old base heap held none laid g keeps moves after c mid slid tests mid_heap
        clean shape words t i below))))
    | inr new ↦
        let (s, known, here) = from_part c.free c.segments p new in
        let (t, inside, same, on) = c.number s known in
        let there = subst (λ u. IsIn p (c.free u)) same here in
        let listed : IsIn (free_item p.place p.size) (filter is_free (heap_items rows clean)) =
        into_filter is_free (heap_items rows clean) refl
        (part_to_heap rows old base heap held none laid g keeps moves after c mid slid tests mid_heap clean shape
        words t inside (free_item p.place p.size)
        (free_in_part rows old base heap held none laid g keeps moves after c mid slid t inside on p there)) in
        IsIn-map item_piece listed
  ]

  free-rise : (items : List Item) → IsRisingBy (λ (i : Item). i.place) items
      → IsRisingBy (λ (p : Piece). p.place) (map item_piece items)
  free-rise [] r = tt
  free-rise (i ∷ items) r = (all-map item_piece (λ (p : Piece). i.place < p.place) items r.0, free-rise items r.1)

  pub free_compacted : free_in rows clean ≡ after.free
  free_compacted =
      rising_agree_by (λ (p : Piece). p.place) (free_in rows clean) after.free
      (free-rise (filter is_free (heap_items rows clean))
      (filter-rises is_free (λ (i : Item). i.place) (heap_items rows clean)
      (heap-rise rows clean
      (clean_walkable rows old base heap held none laid g keeps moves after c mid slid tests mid_heap clean
      shape words) clean_heap)))
      c.lawful.free_rise
      (λ p. (out p, into p))

  -- ---- the rest

  pub rests_same : clean.rests ≡ old.rests
  rests_same = ap (λ (h : HeapView). h.rests) shape.others ∙ ap (λ (h : HeapView). h.rests) slid.others

  pub top_same : clean.top ≡ old.top
  top_same = ap (λ (h : HeapView). h.top) shape.others ∙ ap (λ (h : HeapView). h.top) slid.others

  pub limit_same : clean.limit ≡ old.limit
  limit_same = ap (λ (h : HeapView). h.limit) shape.others ∙ ap (λ (h : HeapView). h.limit) slid.others

  -- the words of what went
  pub cells_kept : KeepsMovedCells rows old clean g moves
  cells_kept i b listed object mark inside z low high =
      let h = goes_with rows old base heap held none laid g keeps moves after c mid slid tests i listed object
      mark inside in
      let is = h.carried in
      let a = is.low in
      let to = is.to in
      let lower = (c.are.each h.plug is.within).lower in
      let p = moved_by moves i.place in
      let w = word_of old (b + (i.place - p)) in
      words_gone rows old base heap held none laid g keeps moves after c mid slid tests mid_heap clean shape words
      i h b z low high
      ∙ elim (cases_eq b p) [
        | inl same ↦ ap (λ t. if t then unmarked w else w) (eq-eqb b p same)
            ∙ sym (ap (λ t. if t then unmarked w else w) (eq-eqb (b + (i.place - p)) i.place (omega arith)))
        | inr differ ↦ ap (λ t. if t then unmarked w else w) (ne_eqb b p differ)
            ∙ sym (ap (λ t. if t then unmarked w else w)
            (ne_eqb (b + (i.place - p)) i.place (λ e. differ (omega arith))))
      ]

  -- and so does their header
  pub headers_kept : KeepsMovedHeaders rows old clean g moves
  headers_kept i listed object mark inside =
      let am = c.are in
      let h = goes_with rows old base heap held none laid g keeps moves after c mid slid tests i listed object
      mark inside in
      let is = h.carried in
      let v = am.each h.plug is.within in
      let (zs, zn, zt) = v.aligned in
      let lower = v.lower in
      let into = v.into_in in
      let low_part = into.low in
      let (first, room, zp) = am.starts v.into into.in_range into.takes in
      let st = (standing rows old base heap held laid i listed).is in
      let z = st.aligned in
      let size = st.least in
      let low = is.low in
      let to = is.to in
      let p = moved_by moves i.place in
      let at : p - 8 + (i.place - p) ≡ i.place - 8 = omega arith in
      let w = word_of old (i.place - 8) in
      cells_kept i (p - 8) listed object mark inside (omega arith) (omega arith) (omega arith)
      ∙ ap (word_without_mark old i) at
      ∙ ap (λ t. if t then unmarked w else w) (ne_eqb (i.place - 8) i.place (λ e. omega arith))

  -- no mark is left in a part, and none is new
  pub marks_left : (x : ℕ) → Marked rows clean x → Marked rows old x × (is_in_parts old g x ≡ false)
  marks_left x marked =
      let (o, n, at) = marked.stands in
      let (j, is, there) = from-map (object_in rows (word_of clean)) o (filter is_object (heap_items rows clean)) n in
      let (object, listed) = out_of_filter is_object j (heap_items rows clean) there in
      let place : j.place ≡ x = sym (ap (λ (o : Object). o.place) is) ∙ at in
      subst (λ y. Marked rows old y × (is_in_parts old g y ≡ false)) place
      (go j object (subst (λ y. has_mark (word_of clean y) ≡ true) (sym place) marked.mark)
      (came_from rows old base heap held none laid g keeps moves after c mid slid tests mid_heap clean shape
      words j listed))
    where
      go : (j : Item) → is_object j ≡ true → has_mark (word_of clean j.place) ≡ true
          → CameFrom rows old base heap held none laid g keeps moves after c mid slid tests mid_heap clean shape
          words j → Marked rows old j.place × (is_in_parts old g j.place ≡ false)
      go j object mark (stayed t below) =
          let (l, here, low) = below in
          let listed = listed-from rows old t j l here in
          let is = (standing rows old base heap held laid j listed).is in
          let z = is.aligned in
          let size = is.least in
          let same = below_words rows old base heap held none laid g keeps moves after c mid slid tests mid_heap
          clean shape words t j below j.place z (omega arith) (omega arith) in (
            record {
              stands =
                  (object_in rows (word_of old) j, object_of rows old base heap held laid j listed object, refl);
              mark =
                  ap has_mark (sym same) ∙ mark;
            },
            below_away rows old base heap held none laid g keeps moves after c mid slid tests mid_heap clean shape
                words t j below,
          )
      go j object mark (went i h at) =
          let p = moved_by moves i.place in
          let is = h.carried in
          let st = (standing rows old base heap held laid i h.listed).is in
          let z = st.aligned in
          let size = st.least in
          let v = c.are.each h.plug is.within in
          let (zs, zn, zt) = v.aligned in
          let a = is.low in
          let to = is.to in
          let w = word_of old (p + (i.place - p)) in
          let word : word_of clean p ≡ unmarked w =
          words_gone rows old base heap held none laid g keeps moves after c mid slid tests mid_heap clean shape
          words i h p (omega arith) (omega arith) (omega arith)
          ∙ ap (λ t. if t then unmarked w else w) (eq-eqb p p refl)
          in
          let on : has_mark (word_of clean p) ≡ true =
          subst (λ (k : Item). has_mark (word_of clean k.place) ≡ true) at mark in
          let odd = eqb-true (word_of clean p % 2) 1 on in
          absurd (omega arith)
      go j object mark (freed t inside on f _ at) = absurd (both_ways (is_object j) (ap is_object at) object)

  -- free items have clear heads
  pub heads_kept : AreFreeHeads rows old → AreFreeHeads rows clean
  heads_kept heads j listed free =
      go j free (came_from rows old base heap held none laid g keeps moves after c mid slid tests mid_heap clean
      shape words j listed)
    where
      mid_at : (t : ℕ) → t < length old.segments → t < length mid.segments
      mid_at t l = let n = slid.count in omega arith

      go : (j : Item) → is_free j ≡ true → CameFrom rows old base heap held none laid g keeps moves after c mid
          slid tests mid_heap clean shape words j → IsFreeHead (word_of clean) j.place
      go j free (stayed t below) =
          let (l, here, low) = below in
          let listed = listed-from rows old t j l here in
          let (header, mt) = heads j listed free in
          let is = (standing rows old base heap held laid j listed).is in
          let z = is.aligned in
          let size = is.least in
          let above = is.above in
          let same = below_words rows old base heap held none laid g keeps moves after c mid slid tests mid_heap
          clean shape words t j below in (
            same (j.place - 8) (omega arith) (omega arith) (omega arith)
                ∙ header,
            same j.place z (omega arith) (omega arith) ∙ mt,
          )
      go j free (went i h at) = let clash : false ≡ true = sym (ap not free) ∙ ap is_object at ∙ h.object in absurd cc
      go j free (freed t inside on f new at) =
          let range = free_range rows old base g keeps moves after c heap t inside on mid slid f new in
          let n = free_in_part rows old base heap held none laid g keeps moves after c mid slid t inside on f
          new in
          let x = free_item f.place f.size in
          let ws = slid_parts rows old base heap held none laid g keeps moves after c mid slid in
          let walkable = slid_walkable rows old base heap held none laid g keeps moves after c mid slid in
          let there = part_in rows old base heap held none laid g keeps moves after c mid slid tests mid_heap
          clean shape words in
          let (low, is) = part_item rows mid g mid_heap ws t (mid_at t inside) x n in
          let z = is.aligned in
          let above = is.above in
          let size = is.least in
          let start = ws.low t (mid_at t inside) low in
          let in_mid = listed-from rows mid t x (mid_at t inside) (there t (mid_at t inside) x n) in
          let header : word_of clean (f.place - 8) ≡ 0 =
          word_kept rows mid clean g mid_heap walkable ws there shape words x in_mid (f.place - 8) (omega arith)
          (omega arith) (omega arith) (λ e. omega arith) ∙ range.header in
          let mt : word_of clean f.place ≡ mt_of 0 =
          part_unmarked rows mid clean g mid_heap walkable ws there shape words t (mid_at t inside) x n z
          ∙ ap unmarked range.mt in
          subst (IsFreeHead (word_of clean)) (sym (ap (λ (i : Item). i.place) at)) (header, mt)

  pub walkable_now : AreWalkable rows clean
  walkable_now = clean_walkable rows old base heap held none laid g keeps moves after c mid slid tests mid_heap
      clean shape words
