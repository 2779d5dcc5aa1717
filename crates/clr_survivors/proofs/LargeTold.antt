-- What survives in large segments, as a sweep of them wants it told.
use Rattle.std.proofs.Common.{◌≡◌, inl, inr, ℕ, ◌≤◌, ◌<◌, ◌==◌, Bool, true, false, not, ◌||◌, ◌&&◌, List}
use Rattle.std.proofs.Common.{refl, ap, sym}
use Rattle.std.proofs.Common.{◌∙◌, subst, arith, filter, map, if◌then◌else◌, [], ◌∷◌}
use Rattle.std.proofs.lemmas.Bool.{and_from, and_parts, both_ways, cases_Bool, eq-eqb, eqb-true, le-leb}
use Rattle.clr_types.specs.Rising.{first, IsIn, IsRisingBy, later, sorted_by}
use Rattle.clr_types.specs.Segments.{generation, is_small_or_ephemeral, Layout, same_kind, stands_in}
use Rattle.clr_types.specs.Types.{TypeRow}
use Rattle.clr_types.specs.declared.segment.SegInfo.{SegInfo}
use Rattle.clr_types.specs.declared.segment.SegKind.{SegKind}
use Rattle.clr_types.specs.declared.segment.SegKind.TheVariants.{Ephemeral, Large, Small, Pinned}
use Rattle.clr_types.proofs.ChangedLists.{all_members, IsSortedBy, out_of_filter, sorted_by-done}
use Rattle.clr_types.proofs.ListMembers.{any-from, filter-map, filter-rises, from-map, map-map, map-on}
use Rattle.clr_types.proofs.RisingLists.{all_at}
use Rattle.clr_types.proofs.SegmentFacts.{one_base, one_home}
use Rattle.clr_heap.specs.View.{frame, heap_items, HeapView, word_of}
use Rattle.clr_model.specs.Compaction.{compacted_end, moved_by}
use Rattle.clr_model.specs.Lookups.{object_piece}
use Rattle.clr_model.specs.Machine.{Machine, Object}
use Rattle.clr_model.specs.Sweep.{base_at, has_condemned_part, is_condemned, segments_after, Survivor, survivor}
use Rattle.clr_model.specs.Sweep.{survivor_piece}
use Rattle.clr_model.specs.Sweep.{survivor_pieces, survivors}
use Rattle.clr_model.proofs.LawfulPieces.{HasHome, object-in-pieces, piece-home}
use Rattle.clr_model.proofs.LawfulSurvivors.{generation-least}
use Rattle.clr_view.specs.Memory.{is_left, is_marked}
use Rattle.clr_view.specs.View.{objects_in}
use Rattle.clr_view.proofs.LeftNames.{name-is-place}
use Rattle.clr_view.proofs.Listings.{heap-rise}
use Rattle.clr_view.proofs.Rises.{objects-rise}
use Rattle.clr_sweep.specs.SweptLarge.{is_large_place, TellsLarge}
use Rattle.clr_moves.specs.Objects.{is_spared, moved_object, relocated_object}
use Rattle.clr_survivors.specs.Pins.{HasPins}
use Rattle.clr_survivors.proofs.Course.{IsCourse, segments-moved, Stages}
use Rattle.clr_survivors.proofs.FullObjects.{filter-both, filter-sorted, in-part, lands-inside, large-view}
use Rattle.clr_survivors.proofs.FullObjects.{mark-kept, mark-view, out-of-large, unmoved-place}
use Rattle.clr_survivors.proofs.MovedList.{filter-alike, moved-list, now-in-view, placed}
use Rattle.clr_survivors.proofs.RelocatedPlan.{turned-place}
use Rattle.clr_survivors.proofs.Standings.{large-outside}
use Rattle.clr_types.specs.Segments.{is_large_or_pinned}
use Rattle.clr_moves.specs.declared.condemned.Condemned.TheVariants.{Generations}

-- ---- lists

-- what keeps the names of a list that rises keeps its order
pub map-rising : {Z : Type 0} (f : Object → Z) (key : Z → ℕ) (xs : List Object) → IsRisingBy (λ o. o.name) xs
    → ((o : Object) → IsIn o xs → key (f o) ≡ o.name) → IsSortedBy key (map f xs)
map-rising f key [] rise keeps = tt
map-rising f key (x ∷ xs) rise keeps = (
  all_members (λ z. key (f x) ≤ key z) (map f xs) (λ z i.
      let (w, is, there) = from-map f z xs i in
      let above = all_at (λ (y : Object). x.name < y.name) there rise.0 in
      let here = keeps x first in
      let other = ap key is ∙ keeps w (later there) in
      omega (arith, above, here, other)),
  map-rising f key xs rise.1 (λ o i. keeps o (later i)),
)

-- a large segment of the compacted ones is one of those before
large-was : (g : ℕ) (ends : SegInfo → ℕ) (ss : List SegInfo) (t : SegInfo)
    → IsIn t (segments_after is_small_or_ephemeral g ends ss) → is_large_or_pinned t.kind ≡ true → IsIn t ss
large-was g ends ss t i large =
    let change : SegInfo → SegInfo =
    λ u. if is_small_or_ephemeral u.kind && has_condemned_part g u then record u { end = ends u } else u in
    let (u, is, there) = from-map change t ss i in
    go u (is_small_or_ephemeral u.kind) refl (has_condemned_part g u) is there
  where
    clash : (k : SegKind) → is_small_or_ephemeral k ≡ true → is_large_or_pinned k ≡ true → ⊥
    clash Small e f = absurd cc
    clash Ephemeral e f = absurd cc
    clash Large e f = absurd cc
    clash Pinned e f = absurd cc

    go : (u : SegInfo) (a : Bool) → is_small_or_ephemeral u.kind ≡ a → (b : Bool)
        → t ≡ (if a && b then record u { end = ends u } else u) → IsIn u ss → IsIn t ss
    go u true small true is there =
        absurd (clash u.kind small (ap (λ (v : SegInfo). is_large_or_pinned v.kind) (sym is) ∙ large))
    go u true small false is there = subst (λ v. IsIn v ss) (sym is) there
    go u false small b is there = subst (λ v. IsIn v ss) (sym is) there

module _ (s : Stages) (m : Machine) (kept : ℕ → Bool) (c : IsCourse s m kept) where
  -- the segment where an object stands is told by its base
  base-stands : (t : SegInfo) → IsIn t s.old.heap.segments → (o : Object) → IsIn o (objects_in s.rows s.old.heap)
      → (base_at m.layout.segments o.place == t.base) ≡ stands_in t o.place
  base-stands t i o n =
      let h : HasHome m.layout o.place =
      piece-home m c.laid (object_piece m.types o)
      (object-in-pieces m c.laid o (subst (λ (os : List Object). IsIn o os) (sym c.memory.objects) n)) in
      let among : IsIn t m.layout.segments =
      subst (λ (l : Layout). IsIn t l.segments) (sym c.memory.layout) i in
      elim (cases_Bool (stands_in t o.place)) [
        | inl on ↦
            let same = one_home m.layout c.laid.layout h.home t o.place h.among among h.stands on in
            eq-eqb (base_at m.layout.segments o.place) t.base (h.base ∙ ap (λ (u : SegInfo). u.base) same) ∙ sym on
        | inr off ↦ elim (cases_Bool (base_at m.layout.segments o.place == t.base)) [
          | inl equal ↦
              let same = one_base m.layout c.laid.layout h.home t h.among among
              (sym h.base ∙ eqb-true (base_at m.layout.segments o.place) t.base equal) in
              absurd (both_ways (stands_in t o.place) off
              (subst (λ (u : SegInfo). stands_in u o.place ≡ true) same h.stands))
          | inr other ↦ other ∙ sym off
        ]
      ]

  rises : IsRisingBy (λ (o : Object). o.name) (objects_in s.rows s.old.heap)
  rises = objects-rise s.rows (word_of s.old.heap) (heap_items s.rows s.old.heap)
      (heap-rise s.rows s.old.heap c.run.given.tidy.held.walkable c.run.given.tidy.heap)

  module _ (full : s.g ≡ 2) (t : SegInfo) (there : IsIn t s.old.heap.segments) where
    abbrev before : List Object
    before = objects_in s.rows s.old.heap

    -- the marked objects of the segment
    abbrev pub chosen : Object → Bool
    chosen o = is_marked s.old.heap o && stands_in t o.place

    condemned-kept : (o : Object) → IsIn o before
        → (is_condemned m s.g o && kept o.name) ≡ is_marked s.old.heap o
    condemned-kept o i =
        let least = generation-least m.layout o.place in
        let low = generation-least (frame s.old.heap) o.place in
        ap (λ (b : Bool). b && kept o.name)
        (le-leb (generation m.layout o.place) s.g (omega (arith, least, full)))
        ∙ c.tests o i (omega (arith, low, full))

    pub survivors-told : survivor_pieces t (survivors m s.g kept) ≡ map (object_piece s.rows) (filter chosen before)
    survivors-told =
        let marked = filter (is_marked s.old.heap) before in
        ap (λ (ks : List Survivor). survivor_pieces t (sorted_by (λ (k : Survivor). k.place) ks))
        (ap (map (survivor m))
        (ap (filter (λ o. is_condemned m s.g o && kept o.name)) c.memory.objects
        ∙ filter-alike (λ o. is_condemned m s.g o && kept o.name) (is_marked s.old.heap) before condemned-kept))
        ∙ ap (survivor_pieces t)
        (sorted_by-done (λ (k : Survivor). k.place) (map (survivor m) marked)
        (map-rising (survivor m) (λ k. k.place) marked
        (filter-rises (is_marked s.old.heap) (λ o. o.name) before rises)
        (λ o i. sym (name-is-place s.rows s.old.heap o (out_of_filter (is_marked s.old.heap) o before i).1))))
        ∙ ap (map survivor_piece)
        (filter-map (survivor m) (λ k. k.segment == t.base) marked)
        ∙ map-map (survivor m) survivor_piece (filter (λ o. base_at m.layout.segments o.place == t.base) marked)
        ∙ ap (λ (rows : List TypeRow). map (object_piece rows)
        (filter (λ o. base_at m.layout.segments o.place == t.base) marked)) c.memory.types
        ∙ ap (map (object_piece s.rows))
        (filter-both (λ o. base_at m.layout.segments o.place == t.base) (is_marked s.old.heap) before
        ∙ filter-alike (λ o. is_marked s.old.heap o && (base_at m.layout.segments o.place == t.base)) chosen before
        (λ o i. ap (λ (b : Bool). is_marked s.old.heap o && b) (base-stands t there o i)))

    module _ (bare : HeapView) (pins : HasPins s.rows s.moved.heap bare s.roots_after.handles s.low 65536 false)
        (large : is_large_or_pinned t.kind ≡ true) where
      abbrev put : Object → Object
      put = placed s m kept c

      abbrev swept_test : Object → Bool
      swept_test q = stands_in t q.place && is_marked bare q

      put-place : (o : Object) → (put o).place ≡ moved_by c.begun.plan.moves o.place
      put-place o =
          ap (moved_by c.begun.plan.moves)
          (turned-place s.rows c.begun.view c.went.mid (Generations s.g) c.begun.plan.moves c.went.relocated o)

      in-large : (x : ℕ) → stands_in t x ≡ true → is_large_place s.old.heap x ≡ true
      in-large x stands =
          any-from (λ (u : SegInfo). is_large_or_pinned u.kind && stands_in u x) s.old.heap.segments t there
          (and_from (is_large_or_pinned t.kind) (stands_in t x) large stands)

      off-large : (x : ℕ) → is_large_place s.old.heap x ≡ false → stands_in t x ≡ false
      off-large x off = elim (cases_Bool (stands_in t x)) [
        | inl stands ↦ absurd (both_ways (is_large_place s.old.heap x) off (in-large x stands))
        | inr none ↦ none
      ]

      same-choice : (o : Object) → IsIn o before
          → (is_spared c.begun.view (Generations s.g) o && swept_test (put o)) ≡ chosen o
      same-choice o i = elim (cases_Bool (is_large_place s.old.heap o.place)) [
        | inl on ↦
            let away = out-of-large s m kept c full bare pins o on in
            let spared : is_spared c.begun.view (Generations s.g) o ≡ true =
            ap (λ (b : Bool). is_marked c.begun.view o || not b) away ∙ or-last (is_marked c.begun.view o) in
            ap (λ (b : Bool). b && swept_test (put o)) spared
            ∙ ap (λ (x : ℕ). stands_in t x && is_marked bare (put o))
            (put-place o ∙ unmoved-place s m kept c full o.place away)
            ∙ ap (λ (b : Bool). stands_in t o.place && b) (mark-kept s m kept c full bare pins o i away spared)
            ∙ and-turned (stands_in t o.place) (is_marked s.old.heap o)
        | inr off ↦
            let inside = in-part s m kept c full bare pins o i off in
            let spared : is_spared c.begun.view (Generations s.g) o ≡ is_marked s.old.heap o =
            ap (λ (b : Bool). is_marked c.begun.view o || not b) inside ∙ or-false (is_marked c.begun.view o)
            ∙ mark-view s m kept c full bare pins o i in
            ap (λ (b : Bool). b && swept_test (put o)) spared
            ∙ neither (is_marked s.old.heap o) (swept_test (put o)) (stands_in t o.place)
            (λ mark. ap (λ (b : Bool). b && is_marked bare (put o))
            (ap (stands_in t) (put-place o)
            ∙ off-large (moved_by c.begun.plan.moves o.place)
            (sym (large-view s m kept c full bare pins (moved_by c.begun.plan.moves o.place))
            ∙ large-outside s.rows c.begun.view m c.begun.plan.compaction.memory c.begun.plan.compaction.laid s.g
            (moved_by c.begun.plan.moves o.place)
            (lands-inside s m kept c full o (now-in-view s m kept c o i)
            (mark-view s m kept c full bare pins o i ∙ mark) inside))))
            (off-large o.place off)
      ]
        where
          or-last : (b : Bool) → (b || true) ≡ true
          or-last true = refl
          or-last false = refl

          or-false : (b : Bool) → (b || false) ≡ b
          or-false true = refl
          or-false false = refl

          and-turned : (a b : Bool) → (a && b) ≡ (b && a)
          and-turned true true = refl
          and-turned true false = refl
          and-turned false true = refl
          and-turned false false = refl

          neither : (a b d : Bool) → (a ≡ true → b ≡ false) → d ≡ false → (a && b) ≡ (a && d)
          neither true b d e f = e refl ∙ sym f
          neither false b d e f = refl

      -- the chosen ones stay where they are
      chosen-name : (o : Object) → IsIn o (filter chosen before) → (put o).name ≡ o.name
      chosen-name o i =
          let (yes_chosen, was) = out_of_filter chosen o before i in
          let on = in-large o.place (and_parts (is_marked s.old.heap o) (stands_in t o.place) yes_chosen).1 in
          put-place o ∙ unmoved-place s m kept c full o.place (out-of-large s m kept c full bare pins o on)
          ∙ sym (name-is-place s.rows s.old.heap o was)

      chosen-piece : (o : Object) → IsIn o (filter chosen before) → object_piece s.rows (put o) ≡ object_piece s.rows o
      chosen-piece o i =
          let (yes_chosen, was) = out_of_filter chosen o before i in
          let name = chosen-name o i ∙ name-is-place s.rows s.old.heap o was in
          ap (λ (b : Bool). object_piece s.rows
          (moved_object c.begun.plan.moves (if b then relocated_object c.begun.plan.moves o else o))) refl
          ∙ each (is_left c.begun.view s.g o) name
        where
          each : (b : Bool)
              → moved_by c.begun.plan.moves (if b then relocated_object c.begun.plan.moves o else o).place ≡ o.place
              → object_piece s.rows
              (moved_object c.begun.plan.moves (if b then relocated_object c.begun.plan.moves o else o))
              ≡ object_piece s.rows o
          each true at = λ k. record (object_piece s.rows o) { place = at k }
          each false at = λ k. record (object_piece s.rows o) { place = at k }

      pub swept-told : map (object_piece s.rows) (filter swept_test (objects_in s.rows bare))
          ≡ map (object_piece s.rows) (filter chosen before)
      swept-told =
          let spared = filter (is_spared c.begun.view (Generations s.g)) before in
          ap (λ (os : List Object). map (object_piece s.rows) (filter swept_test os))
          (pins.objects ∙ moved-list s m kept c)
          ∙ ap (map (object_piece s.rows)) (filter-sorted (λ o. o.name) swept_test (map put spared)
          ∙ ap (sorted_by (λ (o : Object). o.name)) (filter-map put swept_test spared
          ∙ ap (map put) (filter-both (λ o. swept_test (put o)) (is_spared c.begun.view (Generations s.g)) before
          ∙ filter-alike
          (λ o. is_spared c.begun.view (Generations s.g) o && swept_test (put o)) chosen before same-choice))
          ∙ sorted_by-done (λ (o : Object). o.name) (map put (filter chosen before))
          (map-rising put (λ o. o.name) (filter chosen before)
          (filter-rises chosen (λ o. o.name) before rises) chosen-name))
          ∙ map-map put (object_piece s.rows) (filter chosen before)
          ∙ map-on (λ o. object_piece s.rows (put o)) (object_piece s.rows) (filter chosen before) chosen-piece

  -- THE SWEEP of large segments is told what survives there
  pub tells-large : s.g ≡ 2 → (bare : HeapView)
      → HasPins s.rows s.moved.heap bare s.roots_after.handles s.low 65536 false
      → TellsLarge s.rows bare (survivors m s.g kept)
  tells-large full bare pins t i large =
      let moved = subst (λ (ss : List SegInfo). IsIn t ss)
      (ap (λ (h : HeapView). h.segments) pins.shape.others ∙ segments-moved s m kept c) i in
      let there = large-was s.g
      (compacted_end c.begun.plan.after.start0 c.begun.plan.compaction.compacted.plugs c.begun.plan.moves)
      s.old.heap.segments t moved large in
      survivors-told full t there ∙ sym (swept-told full t there bare pins large)
