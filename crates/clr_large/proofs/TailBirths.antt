-- An object is born behind the end of a segment of a kind whose objects are old from birth, which then ends past it.
use Rattle.std.proofs.Common.{◌≡◌, ◌≢◌, ◌⊎◌, inl, inr, ℕ, ◌+◌, ◌-◌, ◌%◌, ◌<◌, ◌≤◌, true, false, Bool, List, [], ◌∷◌}
use Rattle.std.proofs.Common.{◌++◌, length, get_or, set, refl, ap, sym, ◌∙◌, subst, subst₂, arith, filter, nat_le}
use Rattle.std.proofs.Common.{nat_lt, ◌&&◌, length-set}
use Rattle.std.specs.List.{list_any}
use Rattle.std.proofs.lemmas.Bool.{cases_eq, leb-true}
use Rattle.std.proofs.lemmas.List.{append-nil, get_or-set_other, get_or-set_same}
use Rattle.clr_mem.specs.Words.{Memory}
use Rattle.clr_types.specs.Rising.{changed_by}
use Rattle.clr_types.specs.Types.{TypeRow, form_at, size_of}
use Rattle.clr_types.specs.Ranges.{Piece}
use Rattle.clr_types.specs.Segments.{empty_segment, ended_at, ephemeral, first_place, fits_in_tail, reserved_end}
use Rattle.clr_types.specs.Segments.{same_kind}
use Rattle.clr_types.specs.Segments.{segment_or_empty, segments_of, stands_in}
use Rattle.clr_types.specs.declared.segment.SegInfo.{SegInfo}
use Rattle.clr_types.specs.declared.segment.SegKind.{SegKind}
use Rattle.clr_types.specs.declared.segment.SegKind.TheVariants.{Ephemeral}
use Rattle.clr_types.proofs.ChangedLists.{into_filter}
use Rattle.clr_types.proofs.ListMembers.{any-map}
use Rattle.clr_heap.specs.Memories.{clears, InOne, shapes, word_in}
use Rattle.clr_heap.specs.Parts.{IsMakeable, item_part, made_item, Part}
use Rattle.clr_heap.specs.View.{extent_of, extents, first_of, frame, HasHead, HeapView, IsHeap, IsKept, last_of}
use Rattle.clr_heap.specs.View.{parts_of, PartsAre, placed, SameShape, segment_at, sight, word_of}
use Rattle.clr_heap.proofs.Addresses.{in_one_segment}
use Rattle.clr_heap.proofs.Changing.{kept_ended}
use Rattle.clr_heap.proofs.Ends.{head_at_end, made_at_end}
use Rattle.clr_heap.proofs.Framing.{lawful_at, of_kind_set}
use Rattle.clr_heap.proofs.Placing.{Placed, placed_leaves}
use Rattle.clr_heap.proofs.Spelling.{Among-bounds}
use Rattle.clr_heap.proofs.Staying.{parts_stay, stays_ended, stays_written}
use Rattle.clr_heap.proofs.Storing.{length-shapes, memory_index-shapes}
use Rattle.clr_model.specs.Allocation.{stands_in_kind}
use Rattle.clr_view.specs.View.{free_in, IsHeld, layout_in}
use Rattle.clr_view.proofs.Born.{heap-rested}
use Rattle.clr_view.proofs.Carving.{wiped_in, wiped_out}
use Rattle.clr_view.proofs.FreeHeads.{heads_none}
use Rattle.clr_view.proofs.Fronts.{clear-behind}
use Rattle.clr_view.proofs.Swapping.{Swaps}
use Rattle.clr_view.proofs.Tails.{changed-set}
use Rattle.clr_generations.proofs.AllBricks.{number-in}
use Rattle.clr_sweep.proofs.LargeSwept.{ephemerals-alike}
use Rattle.clr_large.specs.Births.{HasNewbornIn}
use Rattle.clr_large.specs.Places.{IsOldKind, kind_items, with_place_taken}
use Rattle.clr_large.specs.declared.places.Birthplace.TheVariants.{Tail}
use Rattle.clr_large.proofs.Homes.{head_shapes, IsBorneAt, no_holes}
use Rattle.clr_large.proofs.OldKinds.{kind-same, old-not_ephemeral, old-other}
use Rattle.clr_large.proofs.Newborns.{cells_borne, clean_borne, free_after, free_before, heads_borne, held_borne}
use Rattle.clr_large.proofs.Newborns.{IsBorneIn, objects_borne, unmarked_borne}

-- whether a place stands in a segment of this extent
abbrev holds : ℕ → ℕ × ℕ → Bool
holds place e = nat_le (e.0 + 0x1000) place && nat_lt place (e.0 + e.1)

-- a place stands in segments of a kind where it stood in those of the same extents
stands_alike : (place : ℕ) (ss us : List SegInfo) → extents us ≡ extents ss
    → list_any (λ (s : SegInfo). stands_in s place) us ≡ list_any (λ (s : SegInfo). stands_in s place) ss
stands_alike place ss us same =
    sym (any-map extent_of (holds place) us) ∙ ap (list_any (holds place)) same ∙ any-map extent_of (holds place) ss

-- a segment of the same kind in the place of another changes no kind
kind_at : (ss : List SegInfo) (k j : ℕ) (s : SegInfo) → k < length ss → s.kind ≡ (get_or ss k empty_segment).kind
    → (get_or (set ss k s) j empty_segment).kind ≡ (get_or ss j empty_segment).kind
kind_at ss k j s l same = elim (cases_eq j k) [
  | inl at ↦
      ap (λ i. (get_or (set ss k s) i empty_segment).kind) at
      ∙ ap (λ (s : SegInfo). s.kind) (get_or-set_same ss k s empty_segment l) ∙ same
      ∙ ap (λ i. (get_or ss i empty_segment).kind) (sym at)
  | inr ne ↦ ap (λ (s : SegInfo). s.kind) (get_or-set_other ss k j s empty_segment ne)
]

-- an object is asked for that fits behind the end of a segment of the kind
pub record FitsTail (group : SegKind) (rows : List TypeRow) (h : HeapView) (k t n : ℕ) : Type 0 where
  pub old : IsOldKind group
  pub heap : IsHeap h
  pub held : IsHeld rows h
  pub item : IsMakeable rows t n
  pub object : 0 < t
  pub in_range : k < length h.segments
  pub is_of : (segment_at h k).kind ≡ group
  pub within : fits_in_tail (segment_at h k) (size_of (form_at rows t) n) ≡ true

module _ (group : SegKind) (rows : List TypeRow) (h : HeapView) (k t n : ℕ) (asked : FitsTail group rows h k t n)
  where
    open asked use {heap, held, item, object, is_of, within}

    l : k < length h.segments
    l = asked.in_range

    abbrev size : ℕ
    size = size_of (form_at rows t) n

    abbrev low : ℕ
    low = last_of h k

    abbrev mid : ℕ
    mid = low + size

    pub tail_room : mid ≤ reserved_end (segment_at h k)
    tail_room = leb-true mid (reserved_end (segment_at h k)) within

    pub tail_above : first_of h k ≤ low
    tail_above = (lawful_at h k heap l).low

    pub tail_aligned : mid % 8 ≡ 0
    tail_aligned = let z = (lawful_at h k heap l).aligned in let whole = item.whole in omega arith

    -- the cells of the object can be cleared, all of them or the first ones
    pub tail_cells : {m : ℕ} (end : ℕ) → end ≡ low → m % 8 ≡ 0 → 0 < m → m ≤ size → InOne h.memories (end - 8) m
    tail_cells {m} end at whole some within =
        let above = tail_above in
        let z = (lawful_at h k heap l).aligned in
        let room = tail_room in
        in_one_segment h k (end - 8) heap l (omega arith) m (omega arith) whole some (omega arith)

    -- its head can be written, also where other words stand there
    tail_head : HasHead h low
    tail_head = let least = item.least in let room = tail_room in head_at_end h k heap l (omega arith)

    pub cleared_head : (cleared : HeapView) → SameShape h cleared → HasHead cleared low
    cleared_head cleared shape = head_shapes h cleared low shape.memories tail_head

    module _ (ms : List Memory) (shape : shapes ms ≡ shapes h.memories)
        (words : (b : ℕ) → b % 8 ≡ 0 → word_in ms b ≡ clears (low - 8) size (word_of h) b) where
      abbrev wiped : HeapView
      wiped = record h { memories = ms }

      wiped_shape : SameShape h wiped
      wiped_shape = record { memories = shape; others = refl }

      wiped_heap : IsHeap wiped
      wiped_heap = heap-rested h wiped h.rests heap wiped_shape refl

      wiped_head : HasHead wiped low
      wiped_head = head_shapes h wiped low shape tail_head

      abbrev made : HeapView
      made = placed rows wiped low t n

      leaves : Placed rows wiped made low t n
      leaves = placed_leaves rows wiped low t n wiped_head

      -- the heap with the words alone
      abbrev written : HeapView
      written = record h { memories = made.memories }

      abbrev moved : SegInfo
      moved = ended_at mid (segment_at h k)

      abbrev grown : HeapView
      grown = record h { memories = made.memories; segments = set h.segments k moved }

      made_is : made ≡ written
      made_is = leaves.shape.others

      made_grown : record made { segments = set made.segments k (ended_at mid (segment_at made k)) } ≡ grown
      made_grown = ap
          (λ (g : HeapView). record g { segments = set g.segments k (ended_at mid (segment_at g k)) }) made_is

      made_shape : shapes made.memories ≡ shapes h.memories
      made_shape = leaves.shape.memories ∙ shape

      stays : (b : ℕ) → b % 8 ≡ 0 → (b + 8 < low) ⊎ (mid ≤ b + 8) → word_of grown b ≡ word_of h b
      stays b z out =
          let least = item.least in
          let above = tail_above in
          leaves.others b z (λ same. elim out [ inl l ↦ omega arith | inr l ↦ omega arith ])
          (λ same. elim out [ inl l ↦ omega arith | inr l ↦ omega arith ])
          (λ same. elim out [ inl l ↦ omega arith | inr l ↦ omega arith ])
          ∙ words b z
          ∙ wiped_out (low - 8) size (word_of h) b
          (elim out [ inl l ↦ inl (omega arith) | inr l ↦ inr (omega arith) ])

      heap_grown : IsHeap grown
      heap_grown =
          let heap_written : IsHeap written =
          heap-rested h written h.rests heap (record { memories = made_shape; others = refl }) refl in
          let above = tail_above in
          let room = tail_room in
          let kept : IsKept written (first_place (ephemeral (frame h))) (reserved_end (ephemeral (frame h))) =
          record { heap = heap_written; low = refl; high = refl } in
          (kept_ended written k mid _ _ moved kept l refl (omega arith) room tail_aligned).heap

      -- ---- the parts

      abbrev newborn : Part
      newborn = item_part (made_item rows low t n)

      wiped_words : (b : ℕ) → b % 8 ≡ 0 → first_of h k ≤ b → b + 16 ≤ last_of h k → word_in ms b ≡ word_of h b
      wiped_words b z from to = words b z ∙ wiped_out (low - 8) size (word_of h) b (inl (omega arith))

      wiped_parts : PartsAre rows wiped k (parts_of rows h k)
      wiped_parts = parts_stay rows h wiped k k (held.walkable k l) (record {
        first = refl;
        last = refl;
        words = wiped_words;
        holes = λ q up down. refl;
        held = λ b up down inside. rw (memory_index-shapes ms h.memories b shape, length-shapes ms h.memories shape)
            inside;
      })

      new_here : PartsAre rows grown k (parts_of rows h k ++ newborn ∷ [])
      new_here =
          let there =
          made_at_end rows wiped made k t n wiped_heap l wiped_parts.walkable leaves item tail_room
          (no_holes wiped k low (old-other group (segment_at h k).kind asked.old is_of)) in
          let P : HeapView → List Part → Type 0 = λ g ps. PartsAre rows g k (ps ++ newborn ∷ []) in
          subst₂ P made_grown wiped_parts.parts there

      others : (j : ℕ) → j < length h.segments → j ≢ k → PartsAre rows grown j (parts_of rows h j)
      others j lj ne =
          let room = tail_room in
          let above = tail_above in
          let there =
          parts_stay rows h written j j (held.walkable j lj)
          (stays_written h written j k heap lj l ne made_shape refl
          (λ b z out. stays b z (elim out [ inl l ↦ inl (omega arith) | inr l ↦ inr (omega arith) ]))) in
          let ended = parts_stay rows written grown j j there.walkable (stays_ended written j k moved ne) in
          record { walkable = ended.walkable; parts = ended.parts ∙ there.parts }

      swaps : Swaps rows h grown k low mid [] (newborn ∷ [])
      swaps =
          let w = held.walkable k l in
          record {
            heap = heap;
            new_heap = heap_grown;
            held = held;
            in_range = l;
            count = length-set h.segments k moved;
            below = parts_of rows h k;
            above = [];
            old_parts = sym (append-nil (parts_of rows h k));
            new_parts = new_here;
            low = λ y j. (Among-bounds (sight rows h k) (parts_of rows h k) y (first_of h k) low w.spelled j).1;
            high = λ y none. absurd none;
            others = others;
            from = tail_above;
            to = tail_room;
            words = stays;
          }

      same_young : ephemeral (frame grown) ≡ ephemeral (frame h)
      same_young =
          let off : same_kind Ephemeral (segment_at h k).kind ≡ false =
          ap (same_kind Ephemeral) is_of ∙ old-not_ephemeral group asked.old in
          ap segment_or_empty (ephemerals-alike (set h.segments k moved) h.segments (length-set h.segments k moved)
          (λ j lj. elim (cases_eq j k) [
            | inl at ↦
                let old : same_kind Ephemeral (segment_at h j).kind ≡ false =
                ap (λ i. same_kind Ephemeral (segment_at h i).kind) at ∙ off in
                inr (ap (same_kind Ephemeral) (kind_at h.segments k j moved l refl) ∙ old, old)
            | inr ne ↦ inl (get_or-set_other h.segments k j moved empty_segment ne)
          ]))

      borne : IsBorneIn rows h grown k low t n [] []
      borne =
          let least = item.least in
          let above = tail_above in
          record {
            other = old-other group (segment_at h k).kind asked.old is_of;
            kinds = λ j. kind_at h.segments k j moved l refl;
            rests = refl;
            start0 = refl;
            tail = ap (λ (s : SegInfo). s.end) same_young;
            item = item;
            object = object;
            none_was = refl;
            none_left = refl;
            left_heads = heads_none (word_of grown);
            aligned = (lawful_at h k heap l).aligned;
            header = leaves.header;
            mt = leaves.mt;
            clear = clear-behind rows wiped low t n wiped_head (λ b z from to. words b z
                ∙ wiped_in (low - 8) size (word_of h) b (omega arith) (omega arith));
          }

      -- ---- the layout

      free_same : free_in rows grown ≡ free_in rows h
      free_same = free_after rows h grown k low mid t n [] [] swaps borne
          ∙ sym (free_before rows h grown k low mid t n [] [] swaps borne)

      segments_are : set h.segments k moved ≡ changed_by (λ s. s.base) (segment_at h k).base (ended_at mid) h.segments
      segments_are = sym (changed-set (ended_at mid) h.segments k heap.disjoint heap.segments l)

      layout_grown : layout_in rows grown ≡ with_place_taken rows h size (Tail k)
      layout_grown = λ e. record (frame h) { segments = segments_are e; free = free_same e }

      items_grown : kind_items group (layout_in rows grown) ≡ kind_items group (layout_in rows h)
      items_grown =
          let same = of_kind_set group h.segments k moved empty_segment l refl refl in
          let stands : (p : Piece) → stands_in_kind group (layout_in rows grown) p.place
          ≡ stands_in_kind group (layout_in rows h) p.place =
          λ p. stands_alike p.place (segments_of group (frame h)) (segments_of group (frame grown)) same in
          λ e. filter (λ p. stands p e) (free_same e)

      born_grown : HasNewbornIn group rows h grown low t n
      born_grown = record {
        objects = objects_borne rows h grown k low mid t n [] [] swaps borne;
        layout = inr (
          segment_at h k,
          into_filter (λ (s : SegInfo). same_kind group s.kind) h.segments
              (ap (same_kind group) is_of ∙ kind-same group)
              (number-in h.segments k l),
          within,
          refl,
          layout_grown,
        );
        cells = cells_borne rows h grown k low mid t n [] [] swaps borne;
        unmarked = unmarked_borne rows h grown k low mid t n [] [] swaps borne;
        free_heads = heads_borne rows h grown k low mid t n [] [] swaps borne;
        clean = clean_borne rows h grown k low mid t n [] [] swaps borne;
        limit = refl;
        heap = heap_grown;
        held = held_borne rows h grown k low mid t n [] [] swaps borne;
      }

      made_borne : IsBorneAt group rows h
          (record made { segments = set made.segments k (ended_at mid (segment_at made k)) })
          (Tail k) t n
      made_borne = subst (λ g. IsBorneAt group rows h g (Tail k) t n) (sym made_grown)
          (record { born = born_grown; layout = layout_grown; items = items_grown })

    module _ (cleared : HeapView) (shape : SameShape h cleared)
        (words : (b : ℕ) → b % 8 ≡ 0 → word_of cleared b ≡ clears (low - 8) size (word_of h) b) where
      -- AN OBJECT BORN BEHIND THE END
      pub tail_borne : (made new : HeapView) → made ≡ placed rows cleared low t n
          → new ≡ record made { segments = set made.segments k (ended_at mid (segment_at made k)) }
          → IsBorneAt group rows h new (Tail k) t n
      tail_borne made new made_is new_is =
          let head : made ≡ placed rows (record h { memories = cleared.memories }) low t n =
          made_is ∙ ap (λ (g : HeapView). placed rows g low t n) shape.others in
          subst (λ g. IsBorneAt group rows h g (Tail k) t n)
          (sym (new_is
          ∙ ap (λ (g : HeapView). record g { segments = set g.segments k (ended_at mid (segment_at g k)) }) head))
          (made_borne cleared.memories shape.memories words)
