-- The list of objects after all has moved, and what was marked.
use Rattle.std.proofs.Common.{◌≡◌, inl, inr, ℕ, ◌-◌, ◌≤◌, Bool, true, false, not, ◌||◌, ◌&&◌, List}
use Rattle.std.proofs.Common.{refl, ap, sym}
use Rattle.std.proofs.Common.{◌∙◌, subst, arith, filter, map, if◌then◌else◌, [], ◌∷◌}
use Rattle.std.specs.List.{list_any}
use Rattle.std.proofs.lemmas.Bool.{both_ways, cases_Bool, le-leb}
use Rattle.clr_types.specs.Rising.{first, IsIn, later, sorted_by}
use Rattle.clr_types.specs.Segments.{generation, is_small_or_ephemeral, same_kind, stands_in}
use Rattle.clr_types.specs.declared.segment.SegInfo.{SegInfo}
use Rattle.clr_types.specs.declared.segment.SegKind.TheVariants.{Large}
use Rattle.clr_types.proofs.ChangedLists.{into_filter, IsIn-map, out_of_filter}
use Rattle.clr_types.proofs.ListMembers.{filter-map, from-map, map-map, map-on}
use Rattle.clr_types.proofs.SortedLists.{into_sorted_by}
use Rattle.clr_heap.specs.View.{frame, HeapView, word_of}
use Rattle.clr_model.specs.Compaction.{compacted_end}
use Rattle.clr_model.specs.Machine.{Machine, Object}
use Rattle.clr_model.specs.Sweep.{has_condemned_part, segments_after}
use Rattle.clr_view.specs.Marks.{has_mark, Marked}
use Rattle.clr_view.specs.Memory.{is_left, is_marked, is_reached_by}
use Rattle.clr_view.specs.View.{objects_in}
use Rattle.clr_sweep.specs.SweptLarge.{is_large_place}
use Rattle.clr_moves.specs.Objects.{is_in_parts, is_spared, moved_object, relocated_object}
use Rattle.clr_survivors.specs.Survivors.{left_objects}
use Rattle.clr_survivors.proofs.CanMoveAll.{left-view}
use Rattle.clr_survivors.proofs.Course.{IsCourse, segments-moved, Stages}
use Rattle.clr_survivors.proofs.LeftGoes.{condemned-is, part-young}
use Rattle.clr_survivors.proofs.RelocatedPlan.{turned, turned-mark, turned-place, turned-spared}
use Rattle.clr_survivors.proofs.Standings.{young-home}
use Rattle.clr_types.specs.Segments.{is_large_or_pinned}
use Rattle.clr_moves.specs.declared.condemned.Condemned.TheVariants.{Generations}

-- ---- lists

pub filter-alike : (p q : Object → Bool) (xs : List Object) → ((x : Object) → IsIn x xs → p x ≡ q x)
    → filter p xs ≡ filter q xs
filter-alike p q [] same = refl
filter-alike p q (x ∷ xs) same =
    ap (λ (b : Bool). if b then x ∷ filter p xs else filter p xs) (same x first)
    ∙ ap (λ (ys : List Object). if q x then x ∷ ys else ys) (filter-alike p q xs (λ y i. same y (later i)))

-- the segment is a large one where the place stands
abbrev large_test : ℕ → SegInfo → Bool
large_test x u = is_large_or_pinned u.kind && stands_in u x

pub large-ends : (g x : ℕ) (ends : SegInfo → ℕ) (ss : List SegInfo)
    → list_any (large_test x) (segments_after is_small_or_ephemeral g ends ss) ≡ list_any (large_test x) ss
large-ends g x ends [] = refl
large-ends g x ends (s ∷ ss) =
    go (is_small_or_ephemeral s.kind && has_condemned_part g s)
    ∙ ap (λ (b : Bool). large_test x s || b) (large-ends g x ends ss)
  where
    go : (b : Bool) → (large_test x (if b then record s { end = ends s } else s)
        || list_any (large_test x) (segments_after is_small_or_ephemeral g ends ss))
        ≡ (large_test x s || list_any (large_test x) (segments_after is_small_or_ephemeral g ends ss))
    go true = refl
    go false = refl

or-turned : (a b : Bool) → (a || not b) ≡ (not b || a)
or-turned true true = refl
or-turned true false = refl
or-turned false true = refl
or-turned false false = refl

module _ (s : Stages) (m : Machine) (kept : ℕ → Bool) (c : IsCourse s m kept) where
  -- an object where it goes, with its new references where it is left
  abbrev pub placed : Object → Object
  placed o = moved_object c.begun.plan.moves
      (turned s.rows c.begun.view c.went.mid (Generations s.g) c.begun.plan.moves c.went.relocated o)

  pub now-in-view : (o : Object) → IsIn o (objects_in s.rows s.old.heap) → IsIn o (objects_in s.rows c.begun.view)
  now-in-view o i = subst (λ (os : List Object). IsIn o os) (sym c.begun.pins.objects) i

  -- THE OBJECTS: those that are spared, where they go
  pub moved-list : objects_in s.rows s.moved.heap
      ≡ sorted_by (λ o. o.name)
      (map placed (filter (is_spared c.begun.view (Generations s.g)) (objects_in s.rows s.old.heap)))
  moved-list =
      let vs = c.begun.plan.moves in
      let mid = c.went.mid in
      let turn = turned s.rows c.begun.view mid (Generations s.g) vs c.went.relocated in
      let before = objects_in s.rows c.begun.view in
      c.went.compacted.objects
      ∙ ap (λ (os : List Object). sorted_by (λ o. o.name)
      (map (moved_object vs) (filter (is_spared mid (Generations s.g)) os)))
      c.went.relocated.objects
      ∙ ap (λ (os : List Object). sorted_by (λ o. o.name) (map (moved_object vs) os))
      (filter-map turn (is_spared mid (Generations s.g)) before)
      ∙ ap (sorted_by (λ (o : Object). o.name))
      (map-map turn (moved_object vs) (filter (λ o. is_spared mid (Generations s.g) (turn o)) before))
      ∙ ap (λ (os : List Object). sorted_by (λ o. o.name) (map placed os))
      (filter-alike (λ o. is_spared mid (Generations s.g) (turn o)) (is_spared c.begun.view (Generations s.g)) before
      (turned-spared s.rows c.begun.view mid (Generations s.g) vs c.went.relocated))
      ∙ ap (λ (os : List Object). sorted_by (λ o. o.name)
      (map placed (filter (is_spared c.begun.view (Generations s.g)) os)))
      c.begun.pins.objects

  -- one that is spared is there
  pub in-moved : (o : Object) → IsIn o (objects_in s.rows s.old.heap)
      → is_spared c.begun.view (Generations s.g) o ≡ true → IsIn (placed o) (objects_in s.rows s.moved.heap)
  in-moved o i spared =
      subst (λ (os : List Object). IsIn (placed o) os) (sym moved-list)
      (into_sorted_by (λ (x : Object). x.name) (placed o)
      (map placed (filter (is_spared c.begun.view (Generations s.g)) (objects_in s.rows s.old.heap)))
      (IsIn-map placed
      (into_filter (is_spared c.begun.view (Generations s.g)) (objects_in s.rows s.old.heap) spared i)))

  -- where one that is left goes, it has new references
  pub placed-left : (o : Object) → IsIn o (objects_in s.rows s.old.heap) → is_left s.old.heap s.g o ≡ true
      → placed o ≡ moved_object c.begun.plan.moves (relocated_object c.begun.plan.moves o)
  placed-left o i left =
      ap (λ (b : Bool). moved_object c.begun.plan.moves (if b then relocated_object c.begun.plan.moves o else o))
      (left-view s.rows s.old s.ready s.roots s.g s.entries s.planned c.run.given m kept c.begun o i ∙ left)

  pub placed-list : map placed (filter (is_left s.old.heap s.g) (objects_in s.rows s.old.heap))
      ≡ left_objects s.rows s.old.heap s.g c.begun.plan.moves
  placed-list =
      map-on placed (λ o. moved_object c.begun.plan.moves (relocated_object c.begun.plan.moves o))
      (filter (is_left s.old.heap s.g) (objects_in s.rows s.old.heap))
      (λ o i. let (left, there) = out_of_filter (is_left s.old.heap s.g) o (objects_in s.rows s.old.heap) i in
      placed-left o there left)

  pub large-moved : (x : ℕ) → is_large_place s.moved.heap x ≡ is_large_place s.old.heap x
  large-moved x =
      ap (list_any (λ (u : SegInfo). is_large_or_pinned u.kind && stands_in u x)) (segments-moved s m kept c)
      ∙ large-ends s.g x
      (compacted_end c.begun.plan.after.start0 c.begun.plan.compaction.compacted.plugs c.begun.plan.moves)
      s.old.heap.segments

  -- ---- young collections

  pub parts-reached : s.g ≤ 1 → (o : Object) → IsIn o (objects_in s.rows c.begun.view)
      → is_in_parts c.begun.view (Generations s.g) o.place ≡ is_reached_by c.begun.view s.g o.place
  parts-reached young o i = elim (cases_Bool (is_in_parts c.begun.view (Generations s.g) o.place)) [
    | inl inside ↦
        inside ∙ sym (le-leb (generation (frame c.begun.view) o.place) s.g
        (part-young s.rows c.begun.view s.g c.begun.plan.moves m kept c.begun.plan.after c.run.given.generation
        c.begun.plan.compaction o.place inside))
    | inr away ↦ elim (cases_Bool (is_reached_by c.begun.view s.g o.place)) [
      | inl reached ↦
          absurd (both_ways (is_in_parts c.begun.view (Generations s.g) o.place) away
          (young-home s.rows c.begun.view c.begun.plan.overlaid.heap c.begun.pins.held s.g young
          (c.can.relocates.old_parts (omega (arith, young))) o i reached))
      | inr older ↦ away ∙ sym older
    ]
  ]

  spared-left : s.g ≤ 1 → (o : Object) → IsIn o (objects_in s.rows s.old.heap)
      → is_spared c.begun.view (Generations s.g) o ≡ is_left s.old.heap s.g o
  spared-left young o i =
      ap (λ (b : Bool). is_marked c.begun.view o || not b) (parts-reached young o (now-in-view o i))
      ∙ or-turned (is_marked c.begun.view o) (is_reached_by c.begun.view s.g o.place)
      ∙ left-view s.rows s.old s.ready s.roots s.g s.entries s.planned c.run.given m kept c.begun o i

  pub objects-young : s.g ≤ 1 → objects_in s.rows s.moved.heap
      ≡ sorted_by (λ o. o.name) (left_objects s.rows s.old.heap s.g c.begun.plan.moves)
  objects-young young =
      moved-list
      ∙ ap (λ (os : List Object). sorted_by (λ o. o.name) (map placed os))
      (filter-alike (is_spared c.begun.view (Generations s.g)) (is_left s.old.heap s.g) (objects_in s.rows s.old.heap)
      (spared-left young))
      ∙ ap (sorted_by (λ (o : Object). o.name)) placed-list

  -- ---- marks

  pub was-marked : (x : ℕ) → Marked s.rows s.moved.heap x
      → Marked s.rows s.old.heap x × (is_in_parts c.begun.view (Generations s.g) x ≡ false)
  was-marked x marked =
      let (had, away) = c.went.compacted.marks x marked in
      let (q, there, at) = had.stands in
      let turn = turned s.rows c.begun.view c.went.mid (Generations s.g) c.begun.plan.moves c.went.relocated in
      let (o, is, i) = from-map turn q (objects_in s.rows c.begun.view)
      (subst (λ (os : List Object). IsIn q os) c.went.relocated.objects there) in
      let place : (turn o).place ≡ x = sym (ap (λ (y : Object). y.place) is) ∙ at in
      let was : o.place ≡ x =
      sym (turned-place s.rows c.begun.view c.went.mid (Generations s.g) c.begun.plan.moves c.went.relocated o)
      ∙ place in
      let mark : is_marked c.begun.view o ≡ true =
      sym (turned-mark s.rows c.begun.view c.went.mid (Generations s.g) c.begun.plan.moves c.went.relocated o i)
      ∙ ap (λ y. has_mark (word_of c.went.mid y)) place ∙ had.mark in (
        (c.begun.pins.marks x).0 (record {
          stands = (o, i, was);
          mark = ap (λ y. has_mark (word_of c.begun.view y)) (sym was) ∙ mark;
        }),
        sym (ap (λ (h : HeapView). is_in_parts h (Generations s.g) x) c.went.relocated.others) ∙ away,
      )

  pub unmarked-young : s.g ≤ 1 → (x : ℕ) → Marked s.rows s.moved.heap x → ⊥
  unmarked-young young x marked =
      let (had, away) = was-marked x marked in
      let (o, i, at) = had.stands in
      let condemned = c.run.given.marked.young x had in
      let reached : is_reached_by c.begun.view s.g o.place ≡ true =
      ap (λ (h : HeapView). is_reached_by h s.g o.place) c.begun.pins.shape.others
      ∙ ap (is_reached_by s.old.heap s.g) at ∙ sym (condemned-is s.old.heap s.g x) ∙ condemned in
      both_ways (is_in_parts c.begun.view (Generations s.g) x) away
      (ap (is_in_parts c.begun.view (Generations s.g)) (sym at)
      ∙ young-home s.rows c.begun.view c.begun.plan.overlaid.heap c.begun.pins.held s.g young
      (c.can.relocates.old_parts (omega (arith, young))) o (now-in-view o i) reached)
