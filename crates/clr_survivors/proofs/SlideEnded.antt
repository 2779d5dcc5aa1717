-- What a slide of the large heap leaves: objects, layout, marks.
use Rattle.std.proofs.Common.{◌≡◌, ℕ, Bool, true, false, ◌&&◌, ◌==◌, List, [], ◌∷◌, filter, map, if◌then◌else◌, refl}
use Rattle.std.proofs.Common.{ap, sym, ◌∙◌, subst, inl, inr, nat_le}
use Rattle.std.specs.FinMap as finmap
use Rattle.std.specs.FinMap.{FinMap}
use Rattle.std.specs.List.{list_any}
use Rattle.std.specs.Ordering.{nat_cmp}
use Rattle.std.proofs.Common.{arith}
use Rattle.std.proofs.lemmas.Bool.{and_from, and_parts, both_ways, eqb-true, le-leb}
use Rattle.clr_types.specs.Rising.{first, IsIn, later, sorted_by}
use Rattle.clr_types.specs.Segments.{Layout, same_kind, stands_in}
use Rattle.clr_types.specs.declared.handle.Handle.{Handle}
use Rattle.clr_types.specs.declared.segment.SegInfo.{SegInfo}
use Rattle.clr_types.specs.declared.segment.SegKind.TheVariants.{Large}
use Rattle.clr_types.proofs.ListMembers.{any-from, any-in, filter-map, from-map, map-map, map-on}
use Rattle.clr_types.proofs.SegmentFacts.{one_base, stands-between}
use Rattle.clr_types.proofs.SortedLists.{into_sorted_by}
use Rattle.clr_types.proofs.ChangedLists.{IsIn-map}
use Rattle.clr_heap.specs.View.{HeapView, no_rests, word_of}
use Rattle.clr_model.specs.Compaction.{moved_by, Placed, Plug, plugs_of, survivors_in}
use Rattle.clr_model.specs.Lookups.{object_piece}
use Rattle.clr_model.specs.Machine.{Machine, Object}
use Rattle.clr_model.specs.Slide.{all_survivors, IsLargeSlid, large_plugs, large_segments, lowest_place, slid_layout}
use Rattle.clr_model.specs.Sweep.{base_at, has_condemned_part, is_condemned, part_start, Survivor, survivor}
use Rattle.clr_model.specs.Sweep.{survivors}
use Rattle.clr_model.proofs.LargeSurvivors.{all-take}
use Rattle.clr_model.proofs.LawfulPieces.{HasHome, object-in-pieces, piece-home}
use Rattle.clr_view.specs.Marks.{has_mark, IsUnmarked}
use Rattle.clr_view.specs.Memory.{is_marked}
use Rattle.clr_view.specs.SlotValues.{StandsAt}
use Rattle.clr_view.specs.View.{AreFreeHeads, layout_in, objects_in}
use Rattle.clr_view.proofs.LeftNames.{name-is-place}
use Rattle.clr_moves.specs.Objects.{is_in_parts, is_spared, moved_object, relocated_object}
use Rattle.clr_moves.specs.declared.condemned.Condemned.TheVariants.{LargeSegments}
use Rattle.clr_moves.proofs.SegmentsBelow.{part_of_two}
use Rattle.clr_survivors.specs.Pins.{HasPins, PinsStand}
use Rattle.clr_survivors.proofs.FullObjects.{filter-both, filter-sorted}
use Rattle.clr_survivors.proofs.LeftObjects.{was-handle}
use Rattle.clr_survivors.proofs.MovedList.{filter-alike}
use Rattle.clr_survivors.proofs.RelocatedPlan.{compaction-stays, relocated_machine, turned, turned-mark, turned-place}
use Rattle.clr_survivors.proofs.RelocatedPlan.{turned-spared}
use Rattle.clr_survivors.proofs.RemarkedHeads.{heads_remarked}
use Rattle.clr_survivors.proofs.SlideCourse.{all-spared, inside-view, IsCourse, mark-view, null-stays}
use Rattle.clr_survivors.specs.Survivors.{world_of}
use Rattle.clr_survivors.proofs.SlideCourse.{objects-view, Stages, start0-planned, start1-planned}
use Rattle.clr_survivors.proofs.SlideGiven.{row-stands}
use Rattle.clr_survivors.proofs.SlideMarks.{marked-heap, marked-held}

pub filter-every : (p : Object → Bool) (xs : List Object) → ((x : Object) → IsIn x xs → p x ≡ true) → filter p xs ≡ xs
filter-every p [] on = refl
filter-every p (x ∷ xs) on =
    ap (λ (b : Bool). if b then x ∷ filter p xs else filter p xs) (on x first)
    ∙ ap (λ (ys : List Object). x ∷ ys) (filter-every p xs (λ y i. on y (later i)))

module _ (s : Stages) (m : Machine) (c : IsCourse s m) where
  abbrev pub gone : Object → Object
  gone o = moved_object c.begun.plan.moves (relocated_object c.begun.plan.moves o)

  -- ---- objects

  -- all slots name where their targets go
  mid-objects : objects_in s.rows c.went.mid
      ≡ map (relocated_object c.begun.plan.moves) (objects_in s.rows s.old.heap)
  mid-objects =
      c.went.relocated.objects
      ∙ map-on (turned s.rows c.begun.view c.went.mid LargeSegments c.begun.plan.moves c.went.relocated)
      (relocated_object c.begun.plan.moves) (objects_in s.rows c.begun.view)
      (λ o i. ap (λ (b : Bool). if b then relocated_object c.begun.plan.moves o else o)
      (all-spared s c.run.given m c.begun o
      (subst (λ (os : List Object). IsIn o os) (objects-view s c.run.given m c.begun) i)))
      ∙ ap (map (relocated_object c.begun.plan.moves)) (objects-view s c.run.given m c.begun)

  mid-spared : (q : Object) → IsIn q (objects_in s.rows c.went.mid) → is_spared c.went.mid LargeSegments q ≡ true
  mid-spared q i =
      let vs = c.begun.plan.moves in
      let (o, is, there) = from-map (turned s.rows c.begun.view c.went.mid LargeSegments vs c.went.relocated) q
      (objects_in s.rows c.begun.view)
      (subst (λ (os : List Object). IsIn q os) c.went.relocated.objects i) in
      ap (is_spared c.went.mid LargeSegments) is
      ∙ turned-spared s.rows c.begun.view c.went.mid LargeSegments vs c.went.relocated o there
      ∙ all-spared s c.run.given m c.begun o
      (subst (λ (os : List Object). IsIn o os) (objects-view s c.run.given m c.begun) there)

  -- THE OBJECTS, where they go
  pub objects-moved : objects_in s.rows s.moved.heap ≡ sorted_by (λ o. o.name) (map gone (objects_in s.rows s.old.heap))
  objects-moved =
      let vs = c.begun.plan.moves in
      c.went.compacted.objects
      ∙ ap (λ (os : List Object). sorted_by (λ o. o.name) (map (moved_object vs) os))
      (filter-every (is_spared c.went.mid LargeSegments) (objects_in s.rows c.went.mid) mid-spared ∙ mid-objects)
      ∙ ap (sorted_by (λ (o : Object). o.name))
      (map-map (relocated_object vs) (moved_object vs) (objects_in s.rows s.old.heap))

  pub in-moved : (o : Object) → IsIn o (objects_in s.rows s.old.heap) → IsIn (gone o) (objects_in s.rows s.moved.heap)
  in-moved o i =
      subst (λ (os : List Object). IsIn (gone o) os) (sym objects-moved)
      (into_sorted_by (λ (q : Object). q.name) (gone o) (map gone (objects_in s.rows s.old.heap)) (IsIn-map gone i))

  pub null-moved : moved_by c.begun.plan.moves 0 ≡ 0
  null-moved =
      null-stays s c.run.given c.run.start1_is c.run.start0_is m c.begun

  -- what pinned handles name stands in the heap
  pub pins-stand : PinsStand s.rows s.moved.heap s.roots_after.handles
  pins-stand n row here pinned some =
      let (was, found, is) = was-handle (moved_by c.begun.plan.moves) s.roots.handles n row
      (sym (ap (λ (t : FinMap nat_cmp Handle). finmap.get t n) c.went.gone.table_is) ∙ here) in
      let at : row.target ≡ moved_by c.begun.plan.moves was.target = ap (λ (r : Handle). r.target) is in
      let (base, of, named) = c.run.given.world in
      subst (StandsAt s.rows s.moved.heap) (sym at)
      (elim ((row-stands (world_of s.rows s.old.heap s.roots) base of named n was found).0) [
        | inl null ↦
            let zero_is : row.target ≡ 0 = at ∙ ap (moved_by c.begun.plan.moves) null ∙ null-moved in
            absurd (omega (arith, some, zero_is))
        | inr (o, i, place) ↦ (gone o, in-moved o i, ap (moved_by c.begun.plan.moves) place)
      ])

  -- ---- the layout

  pub layout-moved : layout_in s.rows s.moved.heap ≡ c.begun.plan.after
  layout-moved =
      c.went.compacted.layout
      (relocated_machine s.rows c.begun.view c.went.mid LargeSegments c.begun.plan.moves c.went.relocated m
      c.begun.plan.compaction.memory) (is_in_parts s.old.heap LargeSegments) c.begun.plan.after
      (compaction-stays s.rows c.begun.view c.went.mid LargeSegments c.begun.plan.moves c.went.relocated m
      c.begun.plan.compaction.memory (is_in_parts s.old.heap LargeSegments) c.begun.plan.after c.begun.plan.compaction)
      (start1-planned s c.run.given c.run.start1_is c.run.start0_is m c.begun
      ∙ sym c.run.start1_kept)
      (start0-planned s c.run.given c.run.start1_is c.run.start0_is m c.begun
      ∙ sym c.run.start0_kept)

  pub laid-moved : layout_in s.rows s.moved.heap ≡ slid_layout m.layout c.begun.plan.moves
  laid-moved = layout-moved ∙ c.begun.plan.compaction.compacted.laid

  pub rests-moved : s.moved.heap.rests ≡ no_rests
  rests-moved =
      ap (λ (l : Layout). l.rests) laid-moved ∙ ap (λ (l : Layout). l.rests) c.memory.layout ∙ c.run.given.no_contexts

  pub limit-moved : s.moved.heap.limit ≡ s.old.heap.limit
  limit-moved =
      c.went.compacted.limit ∙ ap (λ (h : HeapView). h.limit) c.went.relocated.others
      ∙ ap (λ (h : HeapView). h.limit) c.begun.pins.shape.others
      ∙ ap (λ (h : HeapView). h.limit) c.begun.remarked.shape.others

  pub heads-moved : AreFreeHeads s.rows s.moved.heap
  heads-moved =
      c.went.compacted.free_heads (c.went.relocated.free_heads (c.begun.pins.free_heads
      (heads_remarked s.rows s.old.heap c.begun.marked c.run.given.tidy.heap c.run.given.tidy.held
      (marked-heap s.rows s.old.heap c.begun.marked c.run.given.tidy.heap c.run.given.tidy.held c.begun.remarked)
      (marked-held s.rows s.old.heap c.begun.marked c.run.given.tidy.heap c.run.given.tidy.held c.begun.remarked)
      c.begun.remarked c.run.given.tidy.free_heads)))

  -- no mark is left
  pub unmarked-moved : IsUnmarked s.rows s.moved.heap
  unmarked-moved x marked =
      let vs = c.begun.plan.moves in
      let (had, away) = c.went.compacted.marks x marked in
      let (q, there, at) = had.stands in
      let (o, is, i) = from-map (turned s.rows c.begun.view c.went.mid LargeSegments vs c.went.relocated) q
      (objects_in s.rows c.begun.view)
      (subst (λ (os : List Object). IsIn q os) c.went.relocated.objects there) in
      let was : o.place ≡ x =
      sym (turned-place s.rows c.begun.view c.went.mid LargeSegments vs c.went.relocated o)
      ∙ sym (ap (λ (y : Object). y.place) is) ∙ at in
      let mark : is_marked c.begun.view o ≡ true =
      sym (turned-mark s.rows c.begun.view c.went.mid LargeSegments vs c.went.relocated o i)
      ∙ ap (λ y. has_mark (word_of c.went.mid y))
      (turned-place s.rows c.begun.view c.went.mid LargeSegments vs c.went.relocated o ∙ was) ∙ had.mark in
      let inside : is_in_parts c.begun.view LargeSegments x ≡ true =
      ap (is_in_parts c.begun.view LargeSegments) (sym was)
      ∙ inside-view s c.run.given m c.begun o.place
      ∙ sym (mark-view s c.run.given m c.begun o
      (subst (λ (os : List Object). IsIn o os) (objects-view s c.run.given m c.begun) i)) ∙ mark in
      both_ways (is_in_parts c.begun.view LargeSegments x)
      (sym (ap (λ (h : HeapView). is_in_parts h LargeSegments x) c.went.relocated.others) ∙ away) inside

  -- ---- the slide

  abbrev in-large : Survivor → Bool
  in-large k = list_any (λ u. same_kind Large u.kind && (u.base == k.segment)) m.layout.segments

  -- what stands in a large segment is in its part
  large-part : (o : Object) → IsIn o m.objects → in-large (survivor m o) ≡ true
      → is_in_parts s.old.heap LargeSegments o.name ≡ true
  large-part o i on =
      let (u, among, both) = any-in (λ (u : SegInfo). same_kind Large u.kind &&
      (u.base == base_at m.layout.segments o.place)) m.layout.segments on in
      let (kind, base) = and_parts (same_kind Large u.kind) (u.base == base_at m.layout.segments o.place) both in
      let h : HasHome m.layout o.place =
      piece-home m c.laid (object_piece m.types o) (object-in-pieces m c.laid o i) in
      let same : h.home ≡ u =
      one_base m.layout c.laid.layout h.home u h.among among
      (sym h.base ∙ sym (eqb-true u.base (base_at m.layout.segments o.place) base)) in
      let stands : stands_in u o.place ≡ true =
      subst (λ (t : SegInfo). stands_in t o.place ≡ true) same h.stands in
      let low = (stands-between u o.place stands).0 in
      let starts = part_of_two m.layout u in
      let inside : list_any (λ t. same_kind Large t.kind && (has_condemned_part 2 t &&
      (stands_in t o.place && nat_le (part_start m.layout 2 t) o.place))) m.layout.segments ≡ true =
      any-from (λ (t : SegInfo). same_kind Large t.kind && (has_condemned_part 2 t &&
      (stands_in t o.place && nat_le (part_start m.layout 2 t) o.place))) m.layout.segments u among
      (and_from (same_kind Large u.kind) (has_condemned_part 2 u &&
      (stands_in u o.place && nat_le (part_start m.layout 2 u) o.place)) kind
      (and_from (has_condemned_part 2 u) (stands_in u o.place && nat_le (part_start m.layout 2 u) o.place)
      (all-take u)
      (and_from (stands_in u o.place) (nat_le (part_start m.layout 2 u) o.place) stands
      (le-leb (part_start m.layout 2 u) o.place (omega (arith, starts, low)))))) in
      ap (is_in_parts s.old.heap LargeSegments)
      (name-is-place s.rows s.old.heap o (subst (λ (os : List Object). IsIn o os) c.memory.objects i))
      ∙ ap (λ (l : Layout). list_any (λ t. same_kind Large t.kind && (has_condemned_part 2 t &&
      (stands_in t o.place && nat_le (part_start l 2 t) o.place))) l.segments) (sym c.memory.layout)
      ∙ inside

  same-test : (o : Object) → IsIn o m.objects
      → ((is_condemned m 2 o && is_in_parts s.old.heap LargeSegments o.name) && in-large (survivor m o))
      ≡ ((is_condemned m 2 o && true) && in-large (survivor m o))
  same-test o i = go (in-large (survivor m o)) refl
    where
      go : (b : Bool) → in-large (survivor m o) ≡ b
          → ((is_condemned m 2 o && is_in_parts s.old.heap LargeSegments o.name) && b)
          ≡ ((is_condemned m 2 o && true) && b)
      go true on = ap (λ (d : Bool). (is_condemned m 2 o && d) && true) (large-part o i on)
      go false off = none (is_condemned m 2 o && is_in_parts s.old.heap LargeSegments o.name)
          ∙ sym (none (is_condemned m 2 o && true))
        where
          none : (d : Bool) → (d && false) ≡ false
          none true = refl
          none false = refl

  large-of : (kept : ℕ → Bool) → survivors_in (same_kind Large) m.layout (survivors m 2 kept)
      ≡ sorted_by (λ k. k.place) (map (survivor m)
      (filter (λ o. (is_condemned m 2 o && kept o.name) && in-large (survivor m o)) m.objects))
  large-of kept =
      let passes : Object → Bool = λ o. is_condemned m 2 o && kept o.name in
      filter-sorted (λ (k : Survivor). k.place) in-large (map (survivor m) (filter passes m.objects))
      ∙ ap (sorted_by (λ (k : Survivor). k.place))
      (filter-map (survivor m) in-large (filter passes m.objects)
      ∙ ap (map (survivor m)) (filter-both (λ o. in-large (survivor m o)) passes m.objects))

  -- the marked objects and all objects have the same large plugs
  plugs-same : large_plugs m.layout (survivors m 2 (is_in_parts s.old.heap LargeSegments))
      ≡ large_plugs m.layout (all_survivors m)
  plugs-same =
      ap plugs_of (large-of (is_in_parts s.old.heap LargeSegments)
      ∙ ap (λ (os : List Object). sorted_by (λ k. k.place) (map (survivor m) os))
      (filter-alike
      (λ o. (is_condemned m 2 o && is_in_parts s.old.heap LargeSegments o.name) && in-large (survivor m o))
      (λ o. (is_condemned m 2 o && true) && in-large (survivor m o)) m.objects same-test)
      ∙ sym (large-of (λ name. true)))

  -- THE SLIDE is that of all objects
  pub slid-all : IsLargeSlid m.layout (all_survivors m) c.begun.plan.moves c.begun.plan.after
  slid-all =
      let slid = c.begun.plan.compaction.compacted in
      record {
        after = slid.after;
        placed = subst (λ (ps : List Plug). Placed (large_segments m.layout) ps (lowest_place m.layout) ps
            c.begun.plan.moves slid.after) plugs-same slid.placed;
        laid = slid.laid;
      }

  -- ---- when no header says any more what is pinned

  module _ (new : HeapView) (e : HasPins s.rows s.moved.heap new s.roots_after.handles 1 65536 false) where
    pub objects-ended : objects_in s.rows new ≡ sorted_by (λ o. o.name) (map gone (objects_in s.rows s.old.heap))
    objects-ended = e.objects ∙ objects-moved

    pub layout-ended : layout_in s.rows new ≡ c.begun.plan.after
    layout-ended = e.layout ∙ layout-moved

    pub unmarked-ended : IsUnmarked s.rows new
    unmarked-ended x marked = unmarked-moved x ((e.marks x).0 marked)
