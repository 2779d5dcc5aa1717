-- What is seen while references are relocated is the memory of a machine whose compaction is planned.
use Rattle.std.proofs.Common.{◌≡◌, inl, inr, ℕ, zero, suc, ◌≤◌, Bool, List, ◌++◌}
use Rattle.std.proofs.Common.{◌&&◌, filter}
use Rattle.std.proofs.Common.{refl, ap, sym, ◌∙◌, subst, arith, map, get_or, replicate, None, Some, IsSome}
use Rattle.std.specs.List.{AllByRecursion}
use Rattle.clr_types.specs.LawfulLayout.{DoesNotCross, IsTiled}
use Rattle.clr_types.specs.Ranges.{by_place, Piece}
use Rattle.clr_types.specs.Rising.{IsIn, sorted_by}
use Rattle.clr_types.specs.Segments.{generation, rest_pieces, segment_of}
use Rattle.clr_types.specs.Types.{TypeRow}
use Rattle.clr_types.specs.declared.item.Item.{Item}
use Rattle.clr_types.proofs.ChangedLists.{into_filter, IsIn-map, out_of_filter}
use Rattle.clr_types.proofs.ListMembers.{filter-map, from-map, map-map}
use Rattle.clr_mem.specs.Words.{Memory}
use Rattle.clr_heap.specs.Memories.{shapes}
use Rattle.clr_heap.specs.View.{frame, heap_items, HeapView, IsHeap, no_rests, SameShape, word_of}
use Rattle.clr_model.specs.Compaction.{Move}
use Rattle.clr_model.specs.Lawful.{IsLaid}
use Rattle.clr_model.specs.Lookups.{object_piece, pieces}
use Rattle.clr_model.specs.Machine.{Machine, Object}
use Rattle.clr_model.specs.Sweep.{is_condemned, survivor, Survivor, survivors}
use Rattle.clr_view.specs.Marks.{has_mark}
use Rattle.clr_view.specs.Memory.{IsMemoryOf, TestsMarks}
use Rattle.clr_view.specs.View.{free_among, IsHeld, is_object, layout_in, object_in, objects_in, tail_of}
use Rattle.clr_view.proofs.Standing.{standing}
use Rattle.clr_plugs.specs.BrickEntries.{BricksView}
use Rattle.clr_pinq.specs.declared.entry.PinEntry.{PinEntry}
use Rattle.clr_moves.specs.Going.{IsStretchOf}
use Rattle.clr_moves.specs.Moves.{age_of, AreMoves, IsInPart, move_at}
use Rattle.clr_moves.specs.Overlaid.{HoldsPlan, IsLaidBy, IsOutside, MayGo}
use Rattle.clr_moves.specs.declared.condemned.Condemned.{Condemned}
use Rattle.clr_moves.specs.declared.stretch.Stretch.{Stretch}
use Rattle.clr_reloc.specs.Relocating.{IsRelocating, IsUnderway}
use Rattle.clr_reloc.proofs.Heads.{count_same, head_left, items_same, parts_left}

-- ---- the shape

module _ (view : HeapView) (ms : List Memory) where
  abbrev W : HeapView
  W = record view { memories = ms }

  in_part : (g : Condemned) (t x : ℕ) → IsInPart view g t x → IsInPart W g t x
  in_part g t x p = record { in_range = p.in_range; takes = p.takes; low = p.low; high = p.high }

  in_part_back : (g : Condemned) (t x : ℕ) → IsInPart W g t x → IsInPart view g t x
  in_part_back g t x p = record { in_range = p.in_range; takes = p.takes; low = p.low; high = p.high }

  moves_of_shape : (g : Condemned) (vs : List Move) → AreMoves view g vs → AreMoves W g vs
  moves_of_shape g vs m = record {
    each = λ k l. let v = m.each k l in record {
      lower = v.lower;
      least = v.least;
      aligned = v.aligned;
      from = v.from;
      from_in = v.from_in;
      from_low = v.from_low;
      from_high = v.from_high;
      into = v.into;
      into_in = in_part g v.into (move_at vs k).to v.into_in;
      into_gap = v.into_gap;
      into_high = v.into_high;
    };
    follows = m.follows;
    gapped = λ j k t lj lk a b. m.gapped j k t lj lk (in_part_back g t (move_at vs j).to a)
        (in_part_back g t (move_at vs k).to b);
    starts = m.starts;
  }

  heap_of_shape : shapes ms ≡ shapes view.memories → IsHeap view → IsHeap W
  heap_of_shape e h = record {
    memories = e ∙ h.memories;
    segments = h.segments;
    highest = h.highest;
    disjoint = h.disjoint;
    below_top = h.below_top;
    one_ephemeral = h.one_ephemeral;
    ephemeral_last = h.ephemeral_last;
    top_aligned = h.top_aligned;
    top_small = h.top_small;
    within_limit = h.within_limit;
    limit_small = h.limit_small;
    threads = h.threads;
  }

module _ (view now : HeapView) (shape : SameShape view now) where
  pub part_now : (g : Condemned) (t x : ℕ) → IsInPart view g t x → IsInPart now g t x
  part_now g t x p = subst (λ h. IsInPart h g t x) (sym shape.others) (in_part view now.memories g t x p)

  pub part_before : (g : Condemned) (t x : ℕ) → IsInPart now g t x → IsInPart view g t x
  part_before g t x p =
      in_part_back view now.memories g t x (subst (λ h. IsInPart h g t x) shape.others p)

  pub may_go_now : (g : Condemned) (vs : List Move) (x : ℕ) → MayGo view g vs x → MayGo now g vs x
  may_go_now g vs x may = elim may [
    | inl none ↦ inl (λ t p. none t (part_before g t x p))
    | inr plug ↦ inr plug
  ]

  -- a stretch of the moves is one wherever the parts are the same
  pub stretch_now : (g : Condemned) (vs : List Move) (s : Stretch) → IsStretchOf view g vs s → IsStretchOf now g vs s
  stretch_now g vs s met x low high may = met x low high (elim may [
    | inl none ↦ inl (λ t p. none t (part_now g t x p))
    | inr plug ↦ inr plug
  ])

  pub stretch_before : (g : Condemned) (vs : List Move) (s : Stretch) → IsStretchOf now g vs s → IsStretchOf view g vs s
  stretch_before g vs s met x low high may = met x low high (may_go_now g vs x may)

  moves_now : (g : Condemned) (vs : List Move) → AreMoves view g vs → AreMoves now g vs
  moves_now g vs m =
      subst (λ h. AreMoves h g vs) (sym shape.others) (moves_of_shape view now.memories g vs m)

  pub heap_now : IsHeap view → IsHeap now
  heap_now h = subst IsHeap (sym shape.others) (heap_of_shape view now.memories shape.memories h)

  outside_now : (g : Condemned) (b : ℕ) → IsOutside now g b → IsOutside view g b
  outside_now g b o = subst (λ h. IsOutside h g b) shape.others o

  outside_before : (g : Condemned) (b : ℕ) → IsOutside view g b → IsOutside now g b
  outside_before g b o = subst (λ h. IsOutside h g b) (sym shape.others) o

-- ---- the machine

none_at : (n i : ℕ) (r : Piece) → get_or (replicate n None) i None ≡ Some r → ⊥
none_at zero i r e = absurd cc
none_at (suc n) zero r e = absurd cc
none_at (suc n) (suc i) r e = none_at n i r e

pub no_rest : (h : HeapView) → h.rests ≡ no_rests → (i : ℕ) (r : Piece) → get_or h.rests i None ≡ Some r → ⊥
no_rest h same i r e = none_at 16 i r (ap (λ rs. get_or rs i None) (sym same) ∙ e)

module _ (rows : List TypeRow) (view now : HeapView) (g : Condemned) (vs : List Move) (heap : IsHeap view)
    (held : IsHeld rows view) (none : view.rests ≡ no_rests) (u : IsUnderway rows view now g vs) where
  rests_now : now.rests ≡ no_rests
  rests_now = ap (λ (h : HeapView). h.rests) u.shape.others ∙ none

  pub held_now : IsHeld rows now
  held_now = record {
    walkable = λ t l. let n = count_same rows view now g vs heap held u in
        (parts_left rows view now g vs heap held u t (omega arith)).walkable;
    contexts = λ i r e. absurd (no_rest now rests_now i r e);
    apart = λ i j r q e f same. absurd (no_rest now rests_now i r e);
    young = subst (λ (h : HeapView). h.start0 ≤ tail_of h) (sym u.shape.others) held.young;
  }

  pub layout_now : layout_in rows now ≡ layout_in rows view
  layout_now =
      let segments = ap (λ (h : HeapView). h.segments) u.shape.others in
      let rests = ap (λ (h : HeapView). h.rests) u.shape.others in
      let start1 = ap (λ (h : HeapView). h.start1) u.shape.others in
      let start0 = ap (λ (h : HeapView). h.start0) u.shape.others in
      let top = ap (λ (h : HeapView). h.top) u.shape.others in
      let free = ap free_among (items_same rows view now g vs heap held u) in
      λ k. record {
        segments = segments k;
        start1 = start1 k;
        start0 = start0 k;
        free = free k;
        rests = rests k;
        top = top k;
      }

  -- any function of objects that reads no words
  alike : {X : Type 0} (f : Object → X) → ((i : Item) → f (object_in rows (word_of now) i)
      ≡ f (object_in rows (word_of view) i)) → map f (objects_in rows now) ≡ map f (objects_in rows view)
  alike f same =
      map-map (object_in rows (word_of now)) f (filter is_object (heap_items rows now))
      ∙ ap (λ is. map (λ i. f (object_in rows (word_of now) i)) (filter is_object is))
      (items_same rows view now g vs heap held u)
      ∙ (λ k. map (λ i. same i k) (filter is_object (heap_items rows view)))
      ∙ sym (map-map (object_in rows (word_of view)) f (filter is_object (heap_items rows view)))

  -- marks stay
  pub mark_now : (o : Object) → IsIn o (objects_in rows now)
      → (q : Object) × IsIn q (objects_in rows view) × (q.place ≡ o.place) × (q.name ≡ o.name)
      × (word_of now o.place ≡ word_of view o.place)
  mark_now o n =
      let (i, at, listed) = from-map (object_in rows (word_of now)) o (filter is_object (heap_items rows now)) n in
      let (object, known) = out_of_filter is_object i (heap_items rows now) listed in
      let there : IsIn i (heap_items rows view) =
      subst (λ is. IsIn i is) (items_same rows view now g vs heap held u) known in
      let place : o.place ≡ i.place = ap (λ (o : Object). o.place) at in
      let s = standing rows view heap held i there in
      let low = s.above in
      let head = head_left rows view now g vs heap held u i there i.place s.aligned (omega arith) (omega arith) in (
        object_in rows (word_of view) i,
        IsIn-map (object_in rows (word_of view)) (into_filter is_object (heap_items rows view) object there),
        sym place,
        sym (ap (λ (o : Object). o.name) at),
        ap (word_of now) place ∙ head ∙ ap (word_of view) (sym place),
      )

  module _ (m : Machine) (memory : IsMemoryOf rows view m) where
    abbrev pub machine_now : Machine
    machine_now = record m { objects = objects_in rows now }

    pieces_now : pieces (record m { objects = objects_in rows now }) ≡ pieces m
    pieces_now =
        ap (λ ps. by_place ((ps ++ m.layout.free) ++ rest_pieces m.layout.rests))
        (alike (object_piece m.types) (λ i. refl) ∙ ap (map (object_piece m.types)) (sym memory.objects))

    pub laid_now : IsLaid m → IsLaid (record m { objects = objects_in rows now })
    laid_now laid = record {
      layout = laid.layout;
      housed = subst (λ ps. AllByRecursion (λ (p : Piece). IsSome (segment_of m.layout p.place)) ps) (sym pieces_now)
          laid.housed;
      tiled = subst (λ ps. AllByRecursion (IsTiled ps) m.layout.segments) (sym pieces_now) laid.tiled;
      whole1 = subst (λ ps. AllByRecursion (DoesNotCross m.layout.start1) ps) (sym pieces_now) laid.whole1;
      whole0 = subst (λ ps. AllByRecursion (DoesNotCross m.layout.start0) ps) (sym pieces_now) laid.whole0;
    }

    pub survivors_now : (kept : ℕ → Bool) → survivors (record m { objects = objects_in rows now }) (age_of g) kept
        ≡ survivors m (age_of g) kept
    survivors_now kept =
        ap (sorted_by (λ (s : Survivor). s.place))
        (flat (word_of now) (heap_items rows now)
        ∙ ap (λ is. map (λ i. survivor m (object_in rows (word_of view) i))
        (filter (λ i. is_condemned m (age_of g) (object_in rows (word_of view) i) && kept i.place)
        (filter is_object is)))
        (items_same rows view now g vs heap held u)
        ∙ sym (flat (word_of view) (heap_items rows view))
        ∙ ap (λ os. map (survivor m) (filter (λ o. is_condemned m (age_of g) o && kept o.name) os))
        (sym memory.objects))
      where
        flat : (w : ℕ → ℕ) (is : List Item)
            → map (survivor m) (filter (λ o. is_condemned m (age_of g) o && kept o.name)
            (map (object_in rows w) (filter is_object is)))
            ≡ map (λ i. survivor m (object_in rows w i))
            (filter (λ i. is_condemned m (age_of g) (object_in rows w i) && kept i.place) (filter is_object is))
        flat w is =
            ap (map (survivor m)) (filter-map (object_in rows w) (λ o. is_condemned m (age_of g) o && kept o.name)
            (filter is_object is))
            ∙ map-map (object_in rows w) (survivor m)
            (filter (λ i. is_condemned m (age_of g) (object_in rows w i) && kept i.place) (filter is_object is))

    pub tests_now : (kept : ℕ → Bool) → TestsMarks rows view (age_of g) kept → TestsMarks rows now (age_of g) kept
    tests_now kept tests o n young =
        let (q, there, place, name, word) = mark_now o n in
        let same : frame now ≡ frame view = ap (λ (h : HeapView). frame h) u.shape.others in
        let low : generation (frame view) q.place ≤ age_of g =
        subst (λ x. generation (frame view) x ≤ age_of g) (sym place)
        (subst (λ f. generation f o.place ≤ age_of g) same young) in
        ap kept (sym name) ∙ tests q there low ∙ ap (λ x. has_mark (word_of view x)) place ∙ ap has_mark (sym word)

shape_between : (view now h : HeapView) → SameShape view now → SameShape view h → SameShape now h
shape_between view now h a b = record {
  memories = b.memories ∙ sym a.memories;
  others = b.others ∙ sym (ap (λ (x : HeapView). record x { memories = h.memories }) a.others);
}

-- THE PLAN is still held, of what is seen now
pub plan_now : (rows : List TypeRow) (view now h : HeapView) (bricks : BricksView) (entries : List PinEntry)
    (g : Condemned) (vs : List Move) (start1 start0 : ℕ)
    → IsRelocating rows view now h bricks entries g vs start1 start0
    → HoldsPlan rows now h bricks entries g vs start1 start0
plan_now rows view now h bricks entries g vs start1 start0 r =
    let plan = r.begun.plan in
    let over = plan.overlaid in
    let shape = r.underway.shape in
    let c = plan.compaction in
    record {
      overlaid = record {
        heap = heap_now view now shape over.heap;
        moves = moves_now view now shape g vs over.moves;
        line = over.line;
        starts = λ k l. let s = over.starts k l in (s.0, part_now view now shape g s.0 (move_at vs k).start s.1);
        shape = shape_between view now h shape r.shape;
        cells = λ k b z w. r.words b z (inl (k, w));
        outside = λ b z o. r.words b z (inr (outside_now view now shape g b o));
        saved = r.saved;
        hidden = λ k b l z info. elim (r.hidden k b l z info) [
          | inl some ↦ inl some
          | inr off ↦ inr (off.0, λ o. off.1 (outside_now view now shape g b o))
        ];
      };
      told = r.told;
      held = held_now rows view now g vs over.heap plan.held plan.no_contexts r.underway;
      no_contexts = ap (λ (h : HeapView). h.rests) shape.others ∙ plan.no_contexts;
      machine = machine_now rows view now g vs over.heap plan.held plan.no_contexts r.underway plan.machine c.memory;
      kept = plan.kept;
      after = plan.after;
      compaction = record {
        memory = record {
          types = c.memory.types;
          objects = refl;
          layout = c.memory.layout ∙ sym (layout_now rows view now g vs over.heap plan.held plan.no_contexts
              r.underway);
        };
        laid = laid_now rows view now g vs over.heap plan.held plan.no_contexts r.underway plan.machine c.memory c.laid;
        tests = tests_now rows view now g vs over.heap plan.held plan.no_contexts r.underway plan.machine c.memory
            plan.kept
            c.tests;
        compacted = subst (λ ks. IsLaidBy g plan.machine.layout ks vs plan.after)
            (sym (survivors_now rows view now g vs over.heap plan.held plan.no_contexts r.underway plan.machine c.memory
            plan.kept)) c.compacted;
      };
      start1_is = plan.start1_is;
      start0_is = plan.start0_is;
    }
