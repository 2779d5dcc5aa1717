-- A collection that sweeps, for every generation and every machine: from tests of what it keeps, and the marks that
-- agree with them.
use Rattle.std.proofs.Common.{◌≡◌, ℕ, ◌+◌, ◌≤◌, ◌==◌, ◌&&◌, ◌||◌, Bool, true, false, not, if◌then◌else◌}
use Rattle.std.proofs.Common.{nat_le, nat_lt, List, [], ◌++◌, filter, map, count_by, sum_by, length, refl, ap}
use Rattle.std.proofs.Common.{ap₂, sym, ◌∙◌, subst, arith}
use Rattle.std.specs.Prelude.{MatchBool}
use Rattle.std.specs.List.{list_any}
use Rattle.std.proofs.lemmas.Bool.{eq-eqb, eqb-true, leb-false, leb-true, ne_eqb}
use Rattle.std.proofs.lemmas.List.{length-map}
use Rattle.std.proofs.lemmas.List.Sums.{length-filter}
use Rattle.clr_types.specs.Rising.{IsIn, sorted_by}
use Rattle.clr_types.specs.Segments.{generation, Layout, stands_in}
use Rattle.clr_types.specs.Types.{TypeRow}
use Rattle.clr_types.specs.declared.segment.SegInfo.{SegInfo}
use Rattle.clr_types.proofs.ChangedLists.{IsIn-map}
use Rattle.clr_types.proofs.ListMembers.{any-map, filter-map, filter-on, map-map, sum-mapped}
use Rattle.clr_heap.specs.View.{frame, HeapView}
use Rattle.clr_model.specs.declared.Collected.{Collected}
use Rattle.clr_model.specs.declared.How.{How}
use Rattle.clr_model.specs.declared.How.TheVariants.{Sweep}
use Rattle.clr_model.specs.Collection.{bytes_promoted, compacts, decides_to_compact, IsSmallLaid, marking_after}
use Rattle.clr_model.specs.Collection.{object_after, objects_after, released}
use Rattle.clr_model.specs.Collection.{row_after, sums_after}
use Rattle.clr_model.specs.Lawful.{IsLaid}
use Rattle.clr_model.specs.Lookups.{object_size}
use Rattle.clr_model.specs.Machine.{Machine, Object}
use Rattle.clr_types.specs.Maps.{map_values}
use Rattle.clr_model.specs.Reach.{woken}
use Rattle.clr_model.specs.Sweep.{is_condemned, Survivor, survivor, survivors, swept_others, swept_small}
use Rattle.clr_model.proofs.CollectedAges.{sweep_ages}
use Rattle.clr_model.proofs.CollectedLayout.{large_ephemeral}
use Rattle.clr_view.specs.Memory.{is_left, is_marked, is_reached_by, IsMemoryOf, TestsMarks}
use Rattle.clr_view.specs.View.{layout_in, objects_in}
use Rattle.clr_sweep.specs.Swept.{HasSwept, is_kept, is_kept_of, swept_layout, tally_of}
use Rattle.clr_sweep.specs.declared.tally.Tally.{Tally}
use Rattle.clr_collect.specs.Collecting.{objects_unflagged, TestsKept}
use Rattle.clr_collect.specs.Released.{HasObjects, HasReleased}
use Rattle.clr_collect.proofs.NeededSegments.{released_layout}
use Rattle.clr_collect.proofs.SegmentsLost.{lost_objects}
use Rattle.clr_collect.proofs.SweptLayouts.{swept_occupied}
use Rattle.clr_model.proofs.PlainCollections.{IsPlainlyCollected}

-- ---- small facts

-- members that pass one test or the other are as many
pub count-on : {X : Type 0} (s t : X → Bool) (xs : List X) → ((x : X) → IsIn x xs → s x ≡ t x)
    → count_by s xs ≡ count_by t xs
count-on s t xs same = sym (length-filter s xs) ∙ ap length (filter-on s t xs same) ∙ length-filter t xs

and-true : (b : Bool) → (b && true) ≡ b
and-true true = refl
and-true false = refl

-- what a test guards need agree only where it passes
and-on : (a x y : Bool) → (a ≡ true → x ≡ y) → (a && x) ≡ (a && y)
and-on true x y same = same refl
and-on false x y same = refl

or-on : (a x y : Bool) → (a ≡ true → x ≡ y) → (a ≡ false → y ≡ true) → (not a || x) ≡ y
or-on true x y same other = same refl
or-on false x y same other = sym (other refl)

-- how many of the changed pass
pub count-map : {X Y : Type 0} (f : X → Y) (s : Y → Bool) (xs : List X)
    → count_by s (map f xs) ≡ count_by (λ x. s (f x)) xs
count-map f s xs =
    sym (length-filter s (map f xs)) ∙ ap length (filter-map f s xs) ∙ length-map (filter (λ x. s (f x)) xs) f
    ∙ length-filter (λ x. s (f x)) xs

-- ---- the machine

-- a test of names passes those of older objects
abbrev pub KeepsOlder : Machine → ℕ → (ℕ → Bool) → Type 0
KeepsOlder m g kept = (o : Object) → IsIn o m.objects → is_condemned m g o ≡ false → kept o.name ≡ true

module _ (m : Machine) (h : IsLaid m) (g : ℕ) (least : g ≤ 2) (first kept : ℕ → Bool)
    (older : KeepsOlder m g kept) where
  abbrev pub survive : List Survivor
  survive = survivors m g kept

  abbrev pub small : Layout
  small = swept_small m.layout g (survivors m g kept)

  abbrev pub laid : Layout
  laid = if g == 2 then swept_others (swept_small m.layout g (survivors m g kept)) 2 (survivors m g kept)
      else swept_small m.layout g (survivors m g kept)

  -- ---- the layout

  pub laid-is : swept_layout m.layout g (survivors m g kept) ≡ laid
  laid-is = go (g == 2) refl
    where
      go : (b : Bool) → (g == 2) ≡ b
          → (if b then swept_others (swept_small m.layout 2 survive) 2 survive else small)
          ≡ (if b then swept_others small 2 survive else small)
      go true e = ap (λ (n : ℕ). swept_others (swept_small m.layout n survive) 2 survive) (sym (eqb-true g 2 e))
      go false e = refl

  -- sweeping the large heap changes no generation
  pub laid-generation : (place : ℕ) → generation laid place ≡ generation small place
  laid-generation place = go (g == 2) refl
    where
      swept : ℕ → Layout
      swept n = swept_small m.layout n (survivors m n kept)

      two-generation : generation (swept_others (swept 2) 2 (survivors m 2 kept)) place ≡ generation (swept 2) place
      two-generation =
          ap (λ (s : SegInfo).
          if stands_in s place
          then (if nat_lt place (swept 2).start1 then 2 else (if nat_lt place (swept 2).start0 then 1 else 0))
          else 2)
          (large_ephemeral m h kept [] (swept 2) false (refl, refl))

      go : (b : Bool) → (g == 2) ≡ b
          → generation (if b then swept_others small 2 survive else small) place ≡ generation small place
      go true e =
          subst (λ (n : ℕ). generation (swept_others (swept n) 2 (survivors m n kept)) place
          ≡ generation (swept n) place) (sym (eqb-true g 2 e)) two-generation
      go false e = refl

  -- ---- ages

  -- a kept object goes to the next generation exactly where it is condemned
  passes : (e : ℕ) → e ≤ 1 → (o : Object) → IsIn o m.objects
      → (kept o.name && ((generation m.layout o.place == e) && (generation laid o.place == e + 1)))
      ≡ ((is_condemned m g o && kept o.name) && (generation m.layout o.place == e))
  passes e low o i = go (kept o.name) refl (generation m.layout o.place == e) refl (is_condemned m g o) refl
    where
      next : Bool
      next = generation laid o.place == e + 1

      go : (k : Bool) → kept o.name ≡ k → (a : Bool) → (generation m.layout o.place == e) ≡ a → (c : Bool)
          → is_condemned m g o ≡ c → (k && (a && (generation laid o.place == e + 1))) ≡ ((c && k) && a)
      go false on a at true c = refl
      go false on a at false c = refl
      go true on false at true c = refl
      go true on false at false c = refl
      go true on true at true c =
          let was : generation m.layout o.place ≡ e = eqb-true (generation m.layout o.place) e at in
          let young = leb-true (generation m.layout o.place) g c in
          let now = laid-generation o.place ∙ (sweep_ages m h g least kept [] small (refl, refl) o i on).1 young in
          eq-eqb (generation laid o.place) (e + 1) (omega (arith, now, was))
      go true on true at false c =
          let was : generation m.layout o.place ≡ e = eqb-true (generation m.layout o.place) e at in
          let old = leb-false (generation m.layout o.place) g c in
          let now = laid-generation o.place ∙ (sweep_ages m h g least kept [] small (refl, refl) o i on).0 old in
          ne_eqb (generation laid o.place) (e + 1) (λ same. omega (arith, now, was, same))

  bytes : (e : ℕ) → e ≤ 1 → bytes_promoted m laid kept [] e
      ≡ sum_by (object_size m.types)
      (filter (λ o. (is_condemned m g o && kept o.name) && (generation m.layout o.place == e)) m.objects)
  bytes e low = ap (sum_by (object_size m.types)) (filter-on _ _ m.objects (passes e low))

  -- ---- the collection

  -- the machine that such a collection leaves
  abbrev pub swept_machine : Collected → Machine
  swept_machine answer = record m {
    objects = objects_after m first kept [];
    handles = map_values (row_after first kept) m.handles;
    entries = filter first m.entries;
    ready = m.ready ++ woken m first;
    layout = if g == 2 then released laid (objects_after m first kept []) else laid;
    sums = sums_after m g answer.promoted1 answer.promoted2;
    background = marking_after (g == 2) m.background;
  }

  -- what a sweep that counted so answers
  abbrev pub told : Bool → Tally → Collected
  told last_pause tally = record {
    generation = g;
    compacted = false;
    fitted = false;
    background = last_pause;
    kept = tally.kept;
    freed = tally.freed;
    promoted1 = tally.promoted1;
    promoted2 = tally.promoted2;
  }

  -- the machine when objects have lost the flags of entries that are dropped
  abbrev pub plain : Machine
  plain = record m { objects = objects_unflagged m first }

  abbrev change : Object → Object
  change = object_after m first []

  pub survive-plain : survivors plain g kept ≡ survivors m g kept
  survive-plain =
      ap (sorted_by (λ (k : Survivor). k.place))
      (ap (map (survivor plain)) (filter-map change (λ o. is_condemned m g o && kept o.name) m.objects)
      ∙ map-map change (survivor plain) (filter (λ o. is_condemned m g o && kept o.name) m.objects))

  module _ (rows : List TypeRow) (marked : HeapView) (memory : IsMemoryOf rows marked plain)
      (marks : TestsMarks rows marked g kept) where
    reached-is : (o : Object) → is_reached_by marked g o.place ≡ is_condemned m g o
    reached-is o = ap (λ (l : Layout). nat_le (generation l o.place) g) (sym memory.layout)

    mark-is : (o : Object) → IsIn o m.objects → is_condemned m g o ≡ true → is_marked marked o ≡ kept o.name
    mark-is o i c =
        let young : generation (frame marked) o.place ≤ g =
        leb-true (generation (frame marked) o.place) g (reached-is o ∙ c) in
        sym (marks (change o) (subst (λ (os : List Object). IsIn (change o) os) memory.objects (IsIn-map change i))
        young)

    -- ---- the counts

    pub kept-is : (o : Object) → IsIn o m.objects → is_kept marked g o ≡ (is_condemned m g o && kept o.name)
    kept-is o i =
        ap (λ (b : Bool). b && is_marked marked o) (reached-is o)
        ∙ and-on (is_condemned m g o) (is_marked marked o) (kept o.name) (mark-is o i)

    pub freed-is : (o : Object) → IsIn o m.objects
        → (is_reached_by marked g o.place && not (is_marked marked o)) ≡ (is_condemned m g o && not (kept o.name))
    freed-is o i =
        ap (λ (b : Bool). b && not (is_marked marked o)) (reached-is o)
        ∙ and-on (is_condemned m g o) (not (is_marked marked o)) (not (kept o.name)) (λ c. ap not (mark-is o i c))

    kept-of : (e : ℕ) (o : Object) → IsIn o m.objects
        → is_kept_of marked g e o ≡ ((is_condemned m g o && kept o.name) && (generation m.layout o.place == e))
    kept-of e o i =
        ap₂ (λ (a b : Bool). a && b) (kept-is o i) (ap (λ (l : Layout). generation l o.place == e) (sym memory.layout))

    pub counted : (s t : Object → Bool) → ((o : Object) → IsIn o m.objects → s (change o) ≡ t o)
        → count_by s (objects_in rows marked) ≡ count_by t m.objects
    counted s t same =
        ap (count_by s) (sym memory.objects) ∙ count-map change s m.objects
        ∙ count-on (λ o. s (change o)) t m.objects same

    summed : (e : ℕ) → e ≤ 1 → sum_by (object_size rows) (filter (is_kept_of marked g e) (objects_in rows marked))
        ≡ bytes_promoted m laid kept [] e
    summed e low =
        ap₂ (λ (ts : List TypeRow) (os : List Object). sum_by (object_size ts) (filter (is_kept_of marked g e) os))
        (sym memory.types) (sym memory.objects)
        ∙ ap (sum_by (object_size m.types)) (filter-map change (is_kept_of marked g e) m.objects)
        ∙ sum-mapped change (object_size m.types) (filter (is_kept_of marked g e) m.objects)
        ∙ ap (sum_by (object_size m.types)) (filter-on _ _ m.objects (kept-of e))
        ∙ sym (bytes e low)

    -- THE COLLECTION: of a kind that comes to a sweep, from a start with these tests, and with the counts of the sweep
    pub sweep_collects_as : (start : ℕ → Type 0) → TestsKept m start first kept → (last_pause : Bool) (how : How)
        → compacts how (decides_to_compact m g (survivors m g kept)) ≡ false
        → (answer : Collected) → answer ≡ told last_pause (tally_of rows marked g)
        → IsPlainlyCollected m g how last_pause start answer (swept_machine answer)
    sweep_collects_as start tests last_pause how decided answer is = record {
      first = first;
      kept = kept;
      first_is = tests.first_is;
      kept_is = tests.kept_is;
      survive = survive;
      survive_are = refl;
      small = small;
      moves = [];
      small_laid = subst (λ (b : Bool). IsSmallLaid b m.layout g survive [] small) (sym decided) (refl, refl);
      laid = laid;
      large_laid = refl;
      answered =
          is
          ∙ (λ k. record {
            generation = g;
            compacted = sym decided k;
            fitted = false;
            background = last_pause;
            kept = counted (is_kept marked g) (λ o. is_condemned m g o && kept o.name) kept-is k;
            freed =
                counted (λ o. is_reached_by marked g o.place && not (is_marked marked o))
                (λ o. is_condemned m g o && not (kept o.name)) freed-is k;
            promoted1 = summed 0 (omega arith) k;
            promoted2 = summed 1 (omega arith) k;
          });
      state = refl;
    }

    -- in its layout segments aren't released yet
    pub sweep_laid : (start : ℕ → Type 0) (tests : TestsKept m start first kept) (last_pause : Bool) (how : How)
        (decided : compacts how (decides_to_compact m g (survivors m g kept)) ≡ false)
        (answer : Collected) (is : answer ≡ told last_pause (tally_of rows marked g))
        → (sweep_collects_as start tests last_pause how decided answer is).laid ≡ laid
    unfolding sweep_collects_as
    sweep_laid start tests last_pause how decided answer is = refl

    -- and of a sweep
    pub sweep_collects : (start : ℕ → Type 0) → TestsKept m start first kept → (last_pause : Bool)
        → (answer : Collected) → answer ≡ told last_pause (tally_of rows marked g)
        → IsPlainlyCollected m g Sweep last_pause start answer (swept_machine answer)
    sweep_collects start tests last_pause = sweep_collects_as start tests last_pause Sweep refl

    -- ---- the heap afterwards

    pub left-is : (o : Object) → IsIn o m.objects → is_left marked g o ≡ kept o.name
    left-is o i =
        ap (λ (b : Bool). not b || is_marked marked o) (reached-is o)
        ∙ or-on (is_condemned m g o) (is_marked marked o) (kept o.name) (mark-is o i) (older o i)

    module _ (swept : HeapView) (s : HasSwept rows marked swept g) where
      -- of the objects those stay that are kept, without the flags of entries that are dropped
      pub objects-after : objects_after m first kept [] ≡ objects_in rows swept
      objects-after =
          sym (s.objects
          ∙ ap (filter (is_left marked g)) (sym memory.objects)
          ∙ filter-map change (is_left marked g) m.objects
          ∙ ap (map change) (filter-on (is_left marked g) (λ o. kept o.name) m.objects left-is))

      pub layout-swept : layout_in rows swept ≡ laid
      layout-swept = s.layout plain kept memory marks ∙ ap (swept_layout m.layout g) survive-plain ∙ laid-is

      -- a sweep gives no context
      pub rests_swept : swept.rests ≡ m.layout.rests
      rests_swept = ap (λ (l : Layout). l.rests) layout-swept ∙ go (g == 2)
        where
          go : (b : Bool) → (if b then swept_others small 2 survive else small).rests ≡ m.layout.rests
          go true = refl
          go false = refl

      -- after a full sweep a segment that isn't empty has an object
      pub swept_full : g ≡ 2 → HasObjects rows swept
      swept_full two t i other l =
          let is : layout_in rows swept ≡ swept_layout m.layout g (survivors m g kept) =
          s.layout plain kept memory marks ∙ ap (swept_layout m.layout g) survive-plain in
          let there : IsIn t (swept_layout m.layout 2 (survivors m 2 kept)).segments =
          subst (λ (n : ℕ). IsIn t (swept_layout m.layout n (survivors m n kept)).segments) two
          (subst (λ (w : Layout). IsIn t w.segments) is i) in
          ap (list_any (λ (o : Object). stands_in t o.place)) (sym objects-after)
          ∙ any-map change (λ o. stands_in t o.place) (filter (λ o. kept o.name) m.objects)
          ∙ swept_occupied m h kept t there l

      module _ (new : HeapView) (ended : MatchBool (g == 2) (HasReleased rows swept new) (new ≡ swept)) where
        -- what the machine has, the heap holds at the end: a full collection gives back the segments in which nothing
        -- stands
        ends : (b : Bool) → (g == 2) ≡ b → MatchBool b (HasReleased rows swept new) (new ≡ swept)
            → (objects_in rows new ≡ objects_in rows swept)
            × (layout_in rows new ≡ (if b then released laid (objects_after m first kept []) else laid))
        ends true e r = (
          lost_objects rows swept new s.heap s.held r.lost,
          released_layout rows swept s.heap s.held new (swept_full (eqb-true g 2 e)) r
              ∙ ap₂ released layout-swept (sym objects-after),
        )
        ends false e same = (ap (objects_in rows) same, ap (layout_in rows) same ∙ layout-swept)

        -- THE MEMORY of that machine is the heap
        pub swept_memory : (answer : Collected) → IsMemoryOf rows new (swept_machine answer)
        swept_memory answer =
            let (objects, layout) = ends (g == 2) refl ended in
            record { types = memory.types; objects = objects-after ∙ sym objects; layout = sym layout }
