-- The objects after a full collection: large segments are swept, too.
use Rattle.std.proofs.Common.{◌≡◌, inl, inr, ℕ, ◌≤◌, Bool, true, false, not, ◌||◌, ◌&&◌, List}
use Rattle.std.proofs.Common.{refl, ap, sym}
use Rattle.std.proofs.Common.{◌∙◌, subst, arith, filter, map, if◌then◌else◌, [], ◌∷◌, nat_le}
use Rattle.std.specs.List.{AllByRecursion}
use Rattle.std.proofs.lemmas.Bool.{both_ways, cases_Bool, cases_order, le-leb, leb-true}
use Rattle.clr_types.specs.Rising.{insert_by, IsIn, sorted_by}
use Rattle.clr_types.specs.Segments.{generation, same_kind}
use Rattle.clr_types.specs.declared.segment.SegKind.TheVariants.{Ephemeral}
use Rattle.clr_types.proofs.ChangedLists.{IsSortedBy, sorted_by-sorted}
use Rattle.clr_types.proofs.ListMembers.{filter-map}
use Rattle.clr_heap.specs.View.{first_of, frame, HeapView, segment_at, word_of}
use Rattle.clr_heap.proofs.Staying.{segment_order}
use Rattle.clr_model.specs.Compaction.{moved_by}
use Rattle.clr_model.specs.Machine.{Machine, Object}
use Rattle.clr_model.proofs.LawfulSurvivors.{generation-least}
use Rattle.clr_view.specs.Marks.{has_mark, Marked}
use Rattle.clr_view.specs.Memory.{is_left, is_marked, is_reached_by}
use Rattle.clr_view.specs.View.{objects_in}
use Rattle.clr_sweep.specs.SweptLarge.{HasSweptLarge, is_large_place}
use Rattle.clr_moves.specs.Moves.{part_of, takes}
use Rattle.clr_moves.specs.Objects.{is_in_parts, is_spared}
use Rattle.clr_moves.specs.Overlaid.{IsOutside}
use Rattle.clr_moves.proofs.PlacesInPlugs.{in_part-same, moved_in_plug, outside_stays}
use Rattle.clr_moves.proofs.PartPlaces.{into_parts}
use Rattle.clr_survivors.specs.Condemned.{condemned_from}
use Rattle.clr_survivors.specs.Pins.{HasPins}
use Rattle.clr_survivors.specs.Survivors.{left_objects}
use Rattle.clr_survivors.proofs.Course.{IsCourse, Stages}
use Rattle.clr_survivors.proofs.LeftGoes.{marked-goes, part-test, the-moves}
use Rattle.clr_survivors.proofs.MovedList.{filter-alike, in-moved, large-moved, moved-list, now-in-view, placed}
use Rattle.clr_survivors.proofs.MovedList.{placed-list}
use Rattle.clr_survivors.proofs.MovedList.{was-marked}
use Rattle.clr_survivors.proofs.ItemsOf.{place-high}
use Rattle.clr_survivors.proofs.PinsTold.{marked-kept}
use Rattle.clr_survivors.proofs.RelocatedPlan.{turned, turned-mark, turned-place}
use Rattle.clr_survivors.proofs.Standings.{full-home, large-outside, segment-of}
use Rattle.clr_moves.specs.declared.condemned.Condemned.TheVariants.{Generations}

-- ---- lists

pub filter-both : (p q : Object → Bool) (xs : List Object) → filter p (filter q xs) ≡ filter (λ x. q x && p x) xs
filter-both p q [] = refl
filter-both p q (x ∷ xs) = go (q x) (filter-both p q xs)
  where
    go : (b : Bool) → filter p (filter q xs) ≡ filter (λ y. q y && p y) xs
        → filter p (if b then x ∷ filter q xs else filter q xs)
        ≡ (if b && p x then x ∷ filter (λ y. q y && p y) xs else filter (λ y. q y && p y) xs)
    go true more = ap (λ (ys : List Object). if p x then x ∷ ys else ys) more
    go false more = more

module _ {X : Type 0} (key : X → ℕ) (t : X → Bool) where
  low-first : (x : X) (ys : List X) → AllByRecursion (λ y. key x ≤ key y) ys
      → insert_by key x (filter t ys) ≡ x ∷ filter t ys
  low-first x [] all = refl
  low-first x (y ∷ ys) all = go (t y) (low-first x ys all.1)
    where
      go : (b : Bool) → insert_by key x (filter t ys) ≡ x ∷ filter t ys
          → insert_by key x (if b then y ∷ filter t ys else filter t ys)
          ≡ x ∷ (if b then y ∷ filter t ys else filter t ys)
      go true more =
          ap (λ (b : Bool). if b then x ∷ y ∷ filter t ys else y ∷ insert_by key x (filter t ys))
          (le-leb (key x) (key y) all.0)
      go false more = more

  filter-insert : (x : X) (ys : List X) → IsSortedBy key ys
      → filter t (insert_by key x ys) ≡ (if t x then insert_by key x (filter t ys) else filter t ys)
  filter-insert x [] sorted = go (t x)
    where
      go : (b : Bool) → (if b then x ∷ [] else []) ≡ (if b then x ∷ [] else [])
      go b = refl
  filter-insert x (y ∷ ys) sorted = elim (cases_Bool (nat_le (key x) (key y))) [
    | inl low ↦
        let l = leb-true (key x) (key y) low in
        ap (λ (b : Bool). filter t (if b then x ∷ y ∷ ys else y ∷ insert_by key x ys)) low
        ∙ front (t x) (low-first x (y ∷ ys) (l, above ys sorted.0 l))
    | inr high ↦
        ap (λ (b : Bool). filter t (if b then x ∷ y ∷ ys else y ∷ insert_by key x ys)) high
        ∙ back (t y) (t x) high (filter-insert x ys sorted.1)
  ]
    where
      above : (zs : List X) → AllByRecursion (λ z. key y ≤ key z) zs → key x ≤ key y
          → AllByRecursion (λ z. key x ≤ key z) zs
      above [] all l = tt
      above (z ∷ zs) all l = let a = all.0 in (omega (arith, a, l), above zs all.1 l)

      front : (b : Bool) → insert_by key x (filter t (y ∷ ys)) ≡ x ∷ filter t (y ∷ ys)
          → (if b then x ∷ filter t (y ∷ ys) else filter t (y ∷ ys))
          ≡ (if b then insert_by key x (filter t (y ∷ ys)) else filter t (y ∷ ys))
      front true is = sym is
      front false is = refl

      back : (b d : Bool) → nat_le (key x) (key y) ≡ false
          → filter t (insert_by key x ys) ≡ (if d then insert_by key x (filter t ys) else filter t ys)
          → (if b then y ∷ filter t (insert_by key x ys) else filter t (insert_by key x ys))
          ≡ (if d then insert_by key x (if b then y ∷ filter t ys else filter t ys)
          else (if b then y ∷ filter t ys else filter t ys))
      back true true high more =
          ap (λ (zs : List X). y ∷ zs) more
          ∙ sym (ap (λ (b : Bool). if b then x ∷ y ∷ filter t ys else y ∷ insert_by key x (filter t ys)) high)
      back true false high more = ap (λ (zs : List X). y ∷ zs) more
      back false true high more = more
      back false false high more = more

  -- sorting and choosing
  pub filter-sorted : (xs : List X) → filter t (sorted_by key xs) ≡ sorted_by key (filter t xs)
  filter-sorted [] = refl
  filter-sorted (x ∷ xs) =
      filter-insert x (sorted_by key xs) (sorted_by-sorted key xs) ∙ go (t x) (filter-sorted xs)
    where
      go : (b : Bool) → filter t (sorted_by key xs) ≡ sorted_by key (filter t xs)
          → (if b then insert_by key x (filter t (sorted_by key xs)) else filter t (sorted_by key xs))
          ≡ sorted_by key (if b then x ∷ filter t xs else filter t xs)
      go true more = ap (insert_by key x) more
      go false more = more

-- ---- a full collection

module _ (s : Stages) (m : Machine) (kept : ℕ → Bool) (c : IsCourse s m kept) (full : s.g ≡ 2) where
  whole-start : (t : ℕ) → part_of c.begun.view (Generations s.g) t ≡ first_of c.begun.view t
  whole-start t =
      ap (λ (g : ℕ). part_of c.begun.view (Generations g) t) full
      ∙ go (same_kind Ephemeral (segment_at c.begun.view t).kind)
    where
      go : (b : Bool) → {x : ℕ} → (if b then x else x) ≡ x
      go true = refl
      go false = refl

  -- an object that stands in no part stands outside of all of them
  outside-word : (o : Object) → IsIn o (objects_in s.rows c.begun.view)
      → is_in_parts c.begun.view (Generations s.g) o.place ≡ false
      → IsOutside c.begun.view (Generations s.g) o.place
  outside-word o i away t within takes_part =
      let heap = c.begun.plan.overlaid.heap in
      let h = segment-of s.rows c.begun.view heap c.begun.pins.held o i in
      let low = h.low in
      let high = h.high in
      let top = h.room in
      elim (cases_order h.segment t) [
        | inl same ↦
            let into : is_in_parts c.begun.view (Generations s.g) o.place ≡ true =
            let start = whole-start h.segment in
            into_parts c.begun.view (Generations s.g) h.segment o.place
            (record {
              in_range = h.in_range;
              takes = ap (λ (n : ℕ). takes (Generations s.g) (segment_at c.begun.view n)) same ∙ takes_part;
              low = omega (arith, start, low);
              high = high;
            }) low in
            absurd (both_ways (is_in_parts c.begun.view (Generations s.g) o.place) away into)
        | inr (inl lower) ↦
            let order = segment_order c.begun.view h.segment t heap lower within in inl (omega (arith, order, top))
        | inr (inr upper) ↦
            let order = segment_order c.begun.view t h.segment heap upper h.in_range in
            inr (inr (omega (arith, order, low)))
      ]

  -- and stays where it is
  pub unmoved-place : (x : ℕ) → is_in_parts c.begun.view (Generations s.g) x ≡ false → moved_by c.begun.plan.moves x ≡ x
  unmoved-place x away =
      sym (outside_stays s.rows s.ready.heap s.ready.bricks
      (Generations s.g) c.begun.plan.moves c.ready_heap c.begun.plan.told x
      (λ t is. both_ways (is_in_parts c.begun.view (Generations s.g) x) away
      (part-test s.rows c.begun.view s.g c.begun.plan.moves m kept c.begun.plan.after c.run.given.generation
      c.begun.plan.compaction t x
      (in_part-same c.begun.view s.ready.heap (Generations s.g) t x c.begun.plan.overlaid.shape is))))

  -- a marked object of a part goes to a part
  pub lands-inside : (o : Object) → IsIn o (objects_in s.rows c.begun.view) → is_marked c.begun.view o ≡ true
      → is_in_parts c.begun.view (Generations s.g) o.place ≡ true
      → is_in_parts c.begun.view (Generations s.g) (moved_by c.begun.plan.moves o.place) ≡ true
  lands-inside o i mark inside =
      let vs = c.begun.plan.moves in
      let view = c.begun.view in
      let (k, plug) = marked-goes s.rows view s.g vs m kept c.begun.plan.after c.run.given.generation
      c.begun.plan.compaction o i mark inside in
      let v = (the-moves s.rows view s.g vs m kept c.begun.plan.after c.run.given.generation
      c.begun.plan.compaction).each k plug.within in
      let at = moved_in_plug vs c.begun.plan.overlaid.line k o.place plug in
      let into = v.into_in in
      let low = plug.low in
      let high = plug.high in
      let from = into.low in
      let end = v.into_high in
      part-test s.rows view s.g vs m kept c.begun.plan.after c.run.given.generation c.begun.plan.compaction v.into
      (moved_by vs o.place)
      (record {
        in_range = into.in_range;
        takes = into.takes;
        low = omega (arith, at, from);
        high = omega (arith, at, low, high, end);
      })

  module _ (bare : HeapView) (pins : HasPins s.rows s.moved.heap bare s.roots_after.handles s.low 65536 false) where
    abbrev stays : Object → Bool
    stays q = not (is_large_place bare q.place) || is_marked bare q

    pub large-bare : (x : ℕ) → is_large_place bare x ≡ is_large_place s.old.heap x
    large-bare x = ap (λ (h : HeapView). is_large_place h x) pins.shape.others ∙ large-moved s m kept c x

    pub large-view : (x : ℕ) → is_large_place c.begun.view x ≡ is_large_place s.old.heap x
    large-view x = ap (λ (h : HeapView). is_large_place h x) c.begun.pins.shape.others

    reached-all : (b d : Bool) → b ≡ true → (not b || d) ≡ d
    reached-all true d e = refl
    reached-all false d e = absurd cc

    -- all that is left is marked
    pub left-marked : (o : Object) → is_left s.old.heap s.g o ≡ is_marked s.old.heap o
    left-marked o =
        reached-all (is_reached_by s.old.heap s.g o.place) (is_marked s.old.heap o)
        (le-leb (generation (frame s.old.heap) o.place) s.g
        (let least = generation-least (frame s.old.heap) o.place in omega (arith, least, full)))

    pub mark-view : (o : Object) → IsIn o (objects_in s.rows s.old.heap)
        → is_marked c.begun.view o ≡ is_marked s.old.heap o
    mark-view o i =
        marked-kept s.rows s.old.heap c.begun.view s.roots.handles (condemned_from s.old.heap s.g)
        c.run.given.tidy.heap c.run.given.tidy.held true c.begun.pins o i

    -- in a large segment an object keeps its mark
    pub mark-kept : (o : Object) → IsIn o (objects_in s.rows s.old.heap)
        → is_in_parts c.begun.view (Generations s.g) o.place ≡ false
        → is_spared c.begun.view (Generations s.g) o ≡ true
        → is_marked bare (placed s m kept c o) ≡ is_marked s.old.heap o
    mark-kept o i away spared =
        let vs = c.begun.plan.moves in
        let r = c.went.relocated in
        let q = turned s.rows c.begun.view c.went.mid (Generations s.g) vs r o in
        let at : (placed s m kept c o).place ≡ o.place =
        ap (moved_by vs) (turned-place s.rows c.begun.view c.went.mid (Generations s.g) vs r o)
        ∙ unmoved-place o.place away in
        let there = now-in-view s m kept c o i in
        let aligned = (place-high s.rows s.old.heap c.run.given.tidy.heap c.run.given.tidy.held o i).1 in
        let outside : IsOutside c.went.mid (Generations s.g) o.place =
        subst (λ (h : HeapView). IsOutside h (Generations s.g) o.place) (sym r.others) (outside-word o there away) in
        marked-kept s.rows s.moved.heap bare s.roots_after.handles s.low c.went.heap c.went.compacted.held false pins
        (placed s m kept c o) (in-moved s m kept c o i spared)
        ∙ ap (λ x. has_mark (word_of s.moved.heap x)) at
        ∙ ap has_mark (c.went.compacted.outside o.place aligned outside)
        ∙ ap (λ x. has_mark (word_of c.went.mid x))
        (sym (turned-place s.rows c.begun.view c.went.mid (Generations s.g) vs r o))
        ∙ turned-mark s.rows c.begun.view c.went.mid (Generations s.g) vs r o there
        ∙ mark-view o i

    pub out-of-large : (o : Object) → is_large_place s.old.heap o.place ≡ true
        → is_in_parts c.begun.view (Generations s.g) o.place ≡ false
    out-of-large o large = elim (cases_Bool (is_in_parts c.begun.view (Generations s.g) o.place)) [
      | inl inside ↦
          absurd (both_ways (is_large_place c.begun.view o.place)
          (large-outside s.rows c.begun.view m c.begun.plan.compaction.memory c.begun.plan.compaction.laid s.g o.place
          inside) (large-view o.place ∙ large))
      | inr away ↦ away
    ]

    pub in-part : (o : Object) → IsIn o (objects_in s.rows s.old.heap) → is_large_place s.old.heap o.place ≡ false
        → is_in_parts c.begun.view (Generations s.g) o.place ≡ true
    in-part o i off =
        subst (λ g. is_in_parts c.begun.view (Generations g) o.place ≡ true) (sym full)
        (full-home s.rows c.begun.view c.begun.plan.overlaid.heap c.begun.pins.held o (now-in-view s m kept c o i)
        (large-view o.place ∙ off))

    -- what is spared and stays in the sweep is what is left
    stays-left : (o : Object) → IsIn o (objects_in s.rows s.old.heap)
        → (is_spared c.begun.view (Generations s.g) o && stays (placed s m kept c o)) ≡ is_left s.old.heap s.g o
    stays-left o i = elim (cases_Bool (is_large_place s.old.heap o.place)) [
      | inl large ↦
          let away = out-of-large o large in
          let spared : is_spared c.begun.view (Generations s.g) o ≡ true =
          ap (λ (b : Bool). is_marked c.begun.view o || not b) away ∙ or-last (is_marked c.begun.view o) in
          let at : is_large_place bare (placed s m kept c o).place ≡ true =
          ap (is_large_place bare)
          (ap (moved_by c.begun.plan.moves)
          (turned-place s.rows c.begun.view c.went.mid (Generations s.g) c.begun.plan.moves c.went.relocated o)
          ∙ unmoved-place o.place away) ∙ large-bare o.place ∙ large in
          ap (λ (b : Bool). b && stays (placed s m kept c o)) spared
          ∙ ap (λ (b : Bool). not b || is_marked bare (placed s m kept c o)) at
          ∙ mark-kept o i away spared ∙ sym (left-marked o)
      | inr off ↦
          let inside = in-part o i off in
          let spared : is_spared c.begun.view (Generations s.g) o ≡ is_marked s.old.heap o =
          ap (λ (b : Bool). is_marked c.begun.view o || not b) inside ∙ or-false (is_marked c.begun.view o)
          ∙ mark-view o i in
          ap (λ (b : Bool). b && stays (placed s m kept c o)) spared
          ∙ both-or (is_marked s.old.heap o) (stays (placed s m kept c o))
          (λ mark. ap (λ (b : Bool). not b || is_marked bare (placed s m kept c o))
          (ap (is_large_place bare)
          (ap (moved_by c.begun.plan.moves)
          (turned-place s.rows c.begun.view c.went.mid (Generations s.g) c.begun.plan.moves c.went.relocated o))
          ∙ large-bare (moved_by c.begun.plan.moves o.place)
          ∙ sym (large-view (moved_by c.begun.plan.moves o.place))
          ∙ large-outside s.rows c.begun.view m c.begun.plan.compaction.memory c.begun.plan.compaction.laid s.g
          (moved_by c.begun.plan.moves o.place)
          (lands-inside o (now-in-view s m kept c o i) (mark-view o i ∙ mark) inside)))
          ∙ sym (left-marked o)
    ]
      where
        or-last : (b : Bool) → (b || true) ≡ true
        or-last true = refl
        or-last false = refl

        or-false : (b : Bool) → (b || false) ≡ b
        or-false true = refl
        or-false false = refl

        both-or : (a b : Bool) → (a ≡ true → b ≡ true) → (a && b) ≡ a
        both-or true b e = e refl
        both-or false b e = refl

    pub objects-full : (new : HeapView) → HasSweptLarge s.rows bare new → objects_in s.rows new
        ≡ sorted_by (λ o. o.name) (left_objects s.rows s.old.heap s.g c.begun.plan.moves)
    objects-full new swept =
        let spared = filter (is_spared c.begun.view (Generations s.g)) (objects_in s.rows s.old.heap) in
        swept.objects
        ∙ ap (filter stays) (pins.objects ∙ moved-list s m kept c)
        ∙ filter-sorted (λ o. o.name) stays (map (placed s m kept c) spared)
        ∙ ap (sorted_by (λ (o : Object). o.name)) (filter-map (placed s m kept c) stays spared)
        ∙ ap (λ (os : List Object). sorted_by (λ o. o.name) (map (placed s m kept c) os))
        (filter-both (λ o. stays (placed s m kept c o)) (is_spared c.begun.view (Generations s.g))
        (objects_in s.rows s.old.heap)
        ∙ filter-alike (λ o. is_spared c.begun.view (Generations s.g) o && stays (placed s m kept c o))
        (is_left s.old.heap s.g)
        (objects_in s.rows s.old.heap) stays-left)
        ∙ ap (sorted_by (λ (o : Object). o.name)) (placed-list s m kept c)

    pub unmarked-full : (new : HeapView) → HasSweptLarge s.rows bare new → (x : ℕ) → Marked s.rows new x → ⊥
    unmarked-full new swept x marked =
        let (had, off) = swept.marks x marked in
        let (was, away) = was-marked s m kept c x ((pins.marks x).0 had) in
        let (o, i, at) = was.stands in
        both_ways (is_in_parts c.begun.view (Generations s.g) x) away
        (ap (is_in_parts c.begun.view (Generations s.g)) (sym at)
        ∙ in-part o i (ap (is_large_place s.old.heap) at ∙ sym (large-bare x) ∙ off))
