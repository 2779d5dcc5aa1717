-- Names don't matter for a collection.
use Rattle.std.proofs.Common.{◌≡◌, ℕ, ◌+◌, ◌<◌, ◌⊎◌, inl, inr, List, [], ◌∷◌, ◌++◌, map, refl, sym, ap, subst, ◌∙◌}
use Rattle.std.proofs.Common.{Bool, true, false, if◌then◌else◌, filter, ◌&&◌, ◌||◌, not, ◌==◌, Option, Some, None}
use Rattle.std.proofs.Common.{lt_irrefl, sum_by, count_by}
use Rattle.std.specs.Option.{option_map}
use Rattle.std.proofs.lemmas.Bool.{ne_eqb}
use Rattle.std.proofs.lemmas.List.{map-append}
use Rattle.std.specs.List.{list_any}
use Rattle.std.specs.FinMap as finmap
use Rattle.clr_types.specs.declared.handle.Kind.{Kind}
use Rattle.clr_types.specs.declared.handle.Kind.TheVariants.{Strong, Pinned, Weak, WeakLong, Dependent}
use Rattle.clr_types.specs.Rising.{IsIn, first, later, sorted_by}
use Rattle.clr_types.proofs.SortedLists.{IsDistinctBy}
use Rattle.clr_types.specs.declared.handle.Handle.{Handle}
use Rattle.clr_model.specs.Machine.{Value, ref, num, Object, ThreadStep, no_step, begun_store, begun_new, Marking}
use Rattle.clr_model.specs.Machine.{Machine}
use Rattle.clr_model.specs.Lookups.{place_of, place_or_null, object_named, object_size, is_pinned}
use Rattle.clr_types.specs.Kinds.{is_pinned_kind}
use Rattle.clr_model.specs.Lookups.{handle_rows}
use Rattle.clr_types.specs.Maps.{map_values}
use Rattle.clr_model.specs.Picture.{picture, renamed_object, renamed_value, renamed_row, renamed_step}
use Rattle.clr_model.specs.Picture.{renamed_marking}
use Rattle.clr_model.specs.Reach.{woken, is_suppressed, suppressed_or_none}
use Rattle.clr_model.specs.Sweep.{Survivor, survivor, survivors, is_condemned}
use Rattle.clr_model.specs.Compaction.{Move, moved_by}
use Rattle.clr_model.specs.Collection.{row_of_kind, row_after, is_dropped, object_after, objects_after, bytes_promoted}
use Rattle.clr_model.specs.Collection.{is_retained, released, base_of_first, marking_after}
use Rattle.clr_types.specs.Segments.{Layout, generation, stands_in, same_kind, segments_of}
use Rattle.clr_types.specs.declared.segment.SegKind.TheVariants.{Ephemeral, Large}
use Rattle.clr_types.proofs.MapValues.{get-map_values, entries-map_values, map_values-same, changed}
use Rattle.clr_model.proofs.Apart.{AreApart, place_of-member}
use Rattle.clr_model.proofs.Naming.{KeepsApart, object_named-picture, object_named-renamed}
use Rattle.clr_types.proofs.ListMembers.{from-map, distinct_map, distinct_filter, filter-map, filter-on, map-map}
use Rattle.clr_types.proofs.ListMembers.{map-on, any-map, any-on, sum-mapped, distinct-on}
use Rattle.clr_types.proofs.ChangedLists.{all_members, out_of_filter}
use Rattle.clr_types.proofs.Shuffles.{IsShuffled, shuffled-sym, shuffled-sorted, shuffled-filter, shuffled-map}
use Rattle.clr_types.proofs.Shuffles.{shuffled-sum, shuffled-any, shuffled-distinct, shuffled-sorts, shuffled-finds}
use Rattle.clr_model.proofs.NamedWell.{AreNamed, HasObject, name-cases, not-named, place-above, name-above, keeps_apart}
use Rattle.clr_model.proofs.NamedWell.{apart-at, apart-to}

not-found : (objects : List Object) (x : ℕ) → ((o : Object) → IsIn o objects → (o.name == x) ≡ false)
    → object_named objects x ≡ None
not-found [] x h = refl
not-found (o ∷ os) x h = ap (λ b. if b then Some o else object_named os x) (h o first)
    ∙ not-found os x (λ p i. h p (later i))

-- two changes of names, one after another
renamed_twice : (f g : ℕ → ℕ) (o : Object) → renamed_object g (renamed_object f o) ≡ renamed_object (λ x. g (f x)) o
renamed_twice f g o = ap (λ vs. record o { name = g (f o.name); slots = vs })
    (map-map (renamed_value f) (renamed_value g) o.slots
    ∙ map-on (λ v. renamed_value g (renamed_value f v)) (renamed_value (λ x. g (f x))) o.slots (λ v i. go v))
  where
    go : (v : Value) → renamed_value g (renamed_value f v) ≡ renamed_value (λ x. g (f x)) v
    go (ref n) = refl
    go (num n) = refl

module _ (m : Machine) (h : AreNamed m) where
  abbrev to : ℕ → ℕ
  to = place_of m.objects

  abbrev P : Machine
  P = picture m

  abbrev R : Object → Object
  R = renamed_object to

  pub objects-shuffled : IsShuffled (map R m.objects) P.objects
  objects-shuffled = shuffled-sorted (λ (o : Object). o.name) (map R m.objects)

  -- ---- what is seen of a name at its place

  rows-picture : handle_rows P ≡ map (renamed_row to) (handle_rows m)
  rows-picture = ap (map (λ e. e.1)) (entries-map_values (renamed_row to) m.handles)
      ∙ map-map (changed (renamed_row to)) (λ e. e.1) (finmap.entries m.handles)
      ∙ sym (map-map (λ e. e.1) (renamed_row to) (finmap.entries m.handles))

  pub pinned-picture : (o : Object) → IsIn o m.objects → is_pinned P (to o.name) ≡ is_pinned m o.name
  pinned-picture o i =
      ap (list_any (λ row. is_pinned_kind row.kind && (row.target == to o.name))) rows-picture
      ∙ any-map (renamed_row to) (λ row. is_pinned_kind row.kind && (row.target == to o.name)) (handle_rows m)
      ∙ any-on (λ (row : Handle). is_pinned_kind row.kind && (to row.target == to o.name))
      (λ row. is_pinned_kind row.kind && (row.target == o.name)) (handle_rows m)
      (λ row j. ap (λ b. is_pinned_kind row.kind && b) (apart-to m h row.target o i))

  pub suppressed-picture : (x : ℕ) → is_suppressed P (to x) ≡ is_suppressed m x
  suppressed-picture x = ap suppressed_or_none (object_named-picture m x (keeps_apart m h x))
      ∙ go (object_named m.objects x)
    where
      go : (r : Option Object) → suppressed_or_none (option_map R r) ≡ suppressed_or_none r
      go None = refl
      go (Some o) = refl

  module _ (first_seen : ℕ → Bool) where
    abbrev first_of : ℕ → Bool
    first_of x = first_seen (to x)

    pub woken-picture : woken P first_seen ≡ map to (woken m first_of)
    woken-picture =
        filter-map to (λ e. not (first_seen e) && not (is_suppressed P e)) m.entries
        ∙ ap (map to) (filter-on (λ e. not (first_seen (to e)) && not (is_suppressed P (to e)))
        (λ e. not (first_of e) && not (is_suppressed m e)) m.entries
        (λ e i. ap (λ b. not (first_of e) && not b) (suppressed-picture e)))

    pub dropped-picture : (o : Object) → IsIn o m.objects
        → is_dropped P first_seen (to o.name) ≡ is_dropped m first_of o.name
    dropped-picture o i =
        let a : list_any (λ e. e == to o.name) P.entries ≡ list_any (λ e. e == o.name) m.entries =
        any-map to (λ e. e == to o.name) m.entries
        ∙ any-on (λ e. to e == to o.name) (λ e. e == o.name) m.entries (λ e j. apart-to m h e o i)
        in
        let b = suppressed-picture o.name in
        λ k. a k && (not (first_of o.name) && b k)

    -- ---- what is counted, and what survives

    module _ (kept_seen : ℕ → Bool) where
      abbrev kept_of : ℕ → Bool
      kept_of x = kept_seen (to x)

      pub count-seen : (test : Object → Bool) → count_by test P.objects ≡ count_by (λ o. test (R o)) m.objects
      count-seen test = sym (shuffled-sum (λ (o : Object). if test o then 1 else 0) objects-shuffled)
          ∙ sum-mapped R (λ (o : Object). if test o then 1 else 0) m.objects

      pub promoted-seen : (new : Layout) (moves : List Move) (g : ℕ)
          → bytes_promoted P new kept_seen moves g ≡ bytes_promoted m new kept_of moves g
      promoted-seen new moves g =
          sym (shuffled-sum (object_size m.types)
          (shuffled-filter (λ (o : Object). kept_seen o.name &&
          ((generation m.layout o.place == g) && (generation new (moved_by moves o.place) == g + 1)))
          objects-shuffled))
          ∙ ap (sum_by (object_size m.types))
          (filter-map R (λ (o : Object). kept_seen o.name &&
          ((generation m.layout o.place == g) && (generation new (moved_by moves o.place) == g + 1))) m.objects)
          ∙ sum-mapped R (object_size m.types)
          (filter (λ (o : Object). kept_of o.name &&
          ((generation m.layout o.place == g) && (generation new (moved_by moves o.place) == g + 1))) m.objects)

      pub survivors-seen : (g : ℕ) → survivors P g kept_seen ≡ survivors m g kept_of
      survivors-seen g =
          sym (shuffled-sorts (λ (k : Survivor). k.place)
          (shuffled-map (survivor P) (shuffled-filter
          (λ (o : Object). is_condemned P g o && kept_seen o.name) objects-shuffled))
          (subst (IsDistinctBy (λ (k : Survivor). k.place)) (sym same)
          (distinct_map (survivor m) (λ (k : Survivor). k.place)
          (filter (λ (o : Object). is_condemned m g o && kept_of o.name) m.objects)
          (distinct_filter (λ (o : Object). o.place)
          (λ (o : Object). is_condemned m g o && kept_of o.name) m.objects h.apart.places))))
          ∙ ap (sorted_by (λ (k : Survivor). k.place)) same
        where
          same : map (survivor P) (filter (λ (o : Object). is_condemned P g o && kept_seen o.name) (map R m.objects))
              ≡ map (survivor m) (filter (λ (o : Object). is_condemned m g o && kept_of o.name) m.objects)
          same =
              ap (map (survivor P)) (filter-map R (λ (o : Object). is_condemned P g o && kept_seen o.name) m.objects)
              ∙ map-map R (survivor P) (filter (λ (o : Object). is_condemned m g o && kept_of o.name) m.objects)
              ∙ map-on (λ o. survivor P (R o)) (survivor m)
              (filter (λ (o : Object). is_condemned m g o && kept_of o.name) m.objects)
              (λ o i. ap (λ b. record (survivor m o) { pinned = b })
              (pinned-picture o (out_of_filter
              (λ (o : Object). is_condemned m g o && kept_of o.name) o m.objects i).1))

      -- ---- the objects

      module _ (moves : List Move) where
        abbrev next_objects : List Object
        next_objects = objects_after m first_of kept_of moves

        abbrev seen_objects : List Object
        seen_objects = objects_after P first_seen kept_seen moves

        -- the objects that the picture keeps are those that the machine keeps, by their old places
        pub kept-shuffled : IsShuffled (map R next_objects) seen_objects
        kept-shuffled = subst (λ os. IsShuffled os seen_objects) same
            (shuffled-map (object_after P first_seen moves)
            (shuffled-filter (λ (o : Object). kept_seen o.name) objects-shuffled))
          where
            same : map (object_after P first_seen moves) (filter (λ (o : Object). kept_seen o.name) (map R m.objects))
                ≡ map R next_objects
            same =
                ap (map (object_after P first_seen moves)) (filter-map R (λ (o : Object). kept_seen o.name) m.objects)
                ∙ map-map R (object_after P first_seen moves) (filter (λ (o : Object). kept_of o.name) m.objects)
                ∙ map-on (λ o. object_after P first_seen moves (R o)) (λ o. R (object_after m first_of moves o))
                (filter (λ (o : Object). kept_of o.name) m.objects)
                (λ o i. ap (λ b. record (R o) { place = moved_by moves o.place; suppressed = o.suppressed && not b })
                (dropped-picture o (out_of_filter (λ (o : Object). kept_of o.name) o m.objects i).1))
                ∙ sym (map-map (object_after m first_of moves) R (filter (λ (o : Object). kept_of o.name) m.objects))

        next-is : (o : Object) → IsIn o next_objects
            → (p : Object) × IsIn p m.objects × (o ≡ object_after m first_of moves p)
        next-is o i =
            let (p, e, j) = from-map (object_after m first_of moves) o
            (filter (λ (o : Object). kept_of o.name) m.objects) i in
            (p, (out_of_filter (λ (o : Object). kept_of o.name) p m.objects j).1, e)

        old_names-distinct : IsDistinctBy (λ (o : Object). o.name) (map R next_objects)
        old_names-distinct =
            distinct_map R (λ (o : Object). o.name) next_objects
            (distinct_map (object_after m first_of moves) (λ (o : Object). to o.name)
            (filter (λ (o : Object). kept_of o.name) m.objects)
            (distinct_filter (λ (o : Object). to o.name) (λ (o : Object). kept_of o.name) m.objects
            (distinct-on (λ (o : Object). to o.name) (λ (o : Object). o.place) m.objects
            (place_of-member m.objects h.apart) h.apart.places)))

        next-apart : (x : ℕ) → KeepsApart to x next_objects
        next-apart x = all_members (λ (o : Object). (to o.name == to x) ≡ (o.name == x)) next_objects
            (λ o i. let (p, j, e) = next-is o i in
            subst (λ n. (to n == to x) ≡ (n == x)) (sym (ap (λ (o : Object). o.name) e)) (apart-at m h x p j))

        abbrev to_next : ℕ → ℕ
        to_next = place_of next_objects

        abbrev to_seen : ℕ → ℕ
        to_seen = place_of seen_objects

        found-seen : (x : ℕ) → object_named seen_objects (to x) ≡ option_map R (object_named next_objects x)
        found-seen x = sym (shuffled-finds (λ (o : Object). o.name) (to x) kept-shuffled old_names-distinct)
            ∙ object_named-renamed to x next_objects (next-apart x)

        place-seen : (x : ℕ) → place_or_null (object_named seen_objects (to x))
            ≡ place_or_null (object_named next_objects x)
        place-seen x = ap place_or_null (found-seen x) ∙ go (object_named next_objects x)
          where
            go : (r : Option Object) → place_or_null (option_map R r) ≡ place_or_null r
            go None = refl
            go (Some o) = refl

        -- a name's place afterwards is the same by its old place
        pub place-after : (x : ℕ) → to_seen (to x) ≡ to_next x
        place-after x = go (name-cases m.objects x)
          where
            both : (a b : Bool) (n : ℕ) → n ≡ 0 → ◌≡◌ {A = ℕ} (if a then 0 else n) (if b then 0 else n)
            both true true n e = refl
            both true false n e = sym e
            both false true n e = e
            both false false n e = refl

            go : (x ≡ 0) ⊎ (HasObject m.objects x ⊎ (object_named m.objects x ≡ None)) → to_seen (to x) ≡ to_next x
            go (inl e) = subst (λ n. to_seen (to n) ≡ to_next n) (sym e) refl
            go (inr (inl (o, i, e))) =
                ap (λ b. if b then 0 else place_or_null (object_named seen_objects (to x)))
                (subst (λ n. (to n == 0) ≡ false) e
                (ne_eqb (to o.name) 0 (λ f. lt_irrefl 0 (subst (λ n. 0 < n) f (place-above m h o i)))))
                ∙ place-seen x
                ∙ sym (ap (λ b. if b then 0 else place_or_null (object_named next_objects x))
                (subst (λ n. (n == 0) ≡ false) e
                (ne_eqb o.name 0 (λ f. lt_irrefl 0 (subst (λ n. 0 < n) f (name-above m h o i))))))
            go (inr (inr e)) =
                ap (λ n. if to x == 0 then 0 else n) (place-seen x)
                ∙ both (to x == 0) (x == 0) (place_or_null (object_named next_objects x))
                (ap place_or_null (not-found next_objects x (λ o i. let (p, j, q) = next-is o i in
                ap (λ (o : Object). o.name == x) q ∙ not-named m.objects x e p j)))

        names-after : (λ x. to_seen (to x)) ≡ to_next
        names-after = λ i x. place-after x i

        -- ---- the parts of the picture afterwards

        map-after : (xs : List ℕ) → map to_seen (map to xs) ≡ map to_next xs
        map-after xs = map-map to to_seen xs ∙ ap (λ f. map f xs) names-after

        module _ (apart : AreApart seen_objects) where
          pub objects-after : sorted_by (λ (o : Object). o.name) (map (renamed_object to_next) next_objects)
              ≡ sorted_by (λ (o : Object). o.name) (map (renamed_object to_seen) seen_objects)
          objects-after =
              ap (sorted_by (λ (o : Object). o.name)) (sym same)
              ∙ shuffled-sorts (λ (o : Object). o.name) shuffled
              (shuffled-distinct (λ (o : Object). o.name) (shuffled-sym shuffled) distinct)
            where
              shuffled : IsShuffled (map (renamed_object to_seen) (map R next_objects))
                  (map (renamed_object to_seen) seen_objects)
              shuffled = shuffled-map (renamed_object to_seen) kept-shuffled

              same : map (renamed_object to_seen) (map R next_objects) ≡ map (renamed_object to_next) next_objects
              same =
                  map-map R (renamed_object to_seen) next_objects
                  ∙ map-on (λ o. renamed_object to_seen (R o)) (renamed_object (λ x. to_seen (to x))) next_objects
                  (λ o i. renamed_twice to to_seen o)
                  ∙ ap (λ f. map (renamed_object f) next_objects) names-after

              distinct : IsDistinctBy (λ (o : Object). o.name) (map (renamed_object to_seen) seen_objects)
              distinct =
                  distinct_map (renamed_object to_seen) (λ (o : Object). o.name) seen_objects
                  (distinct-on (λ (o : Object). to_seen o.name) (λ (o : Object). o.place) seen_objects
                  (place_of-member seen_objects apart) apart.places)

        row-after : (row : Handle) → renamed_row to_next (row_after first_of kept_of row)
            ≡ renamed_row to_seen (row_after first_seen kept_seen (renamed_row to row))
        row-after row = go row.kind
          where
            named : (b : Bool) (x : ℕ) → to_next (if b then x else 0) ≡ to_seen (if b then to x else 0)
            named true x = sym (place-after x)
            named false x = refl

            whole : renamed_row to_next row ≡ renamed_row to_seen (renamed_row to row)
            whole = let a = sym (place-after row.target) in let b = sym (place-after row.second) in
                λ i. record row { target = a i; second = b i }

            go : (k : Kind) → renamed_row to_next (row_of_kind first_of kept_of k row)
                ≡ renamed_row to_seen (row_of_kind first_seen kept_seen k (renamed_row to row))
            go Strong = whole
            go Pinned = whole
            go Weak = let a = named (first_of row.target) row.target in let b = sym (place-after row.second) in
                λ i. record row { target = a i; second = b i }
            go WeakLong = let a = named (kept_of row.target) row.target in let b = sym (place-after row.second) in
                λ i. record row { target = a i; second = b i }
            go Dependent = dependent (kept_of row.target)
              where
                dependent : (b : Bool) → renamed_row to_next (if b then row else record row { target = 0; second = 0 })
                    ≡ renamed_row to_seen (if b then renamed_row to row else
                    record (renamed_row to row) { target = 0; second = 0 })
                dependent true = whole
                dependent false = refl

        pub handles-after : map_values (renamed_row to_next) (map_values (row_after first_of kept_of) m.handles)
            ≡ map_values (renamed_row to_seen) (map_values (row_after first_seen kept_seen) P.handles)
        handles-after =
            map_values-same (map_values (renamed_row to_next) (map_values (row_after first_of kept_of) m.handles))
            (map_values (renamed_row to_seen) (map_values (row_after first_seen kept_seen) P.handles)) (λ k.
            get-map_values (renamed_row to_next) (map_values (row_after first_of kept_of) m.handles) k
            ∙ ap (option_map (renamed_row to_next)) (get-map_values (row_after first_of kept_of) m.handles k)
            ∙ go (finmap.get m.handles k)
            ∙ sym (get-map_values (renamed_row to_seen) (map_values (row_after first_seen kept_seen) P.handles) k
            ∙ ap (option_map (renamed_row to_seen))
            (get-map_values (row_after first_seen kept_seen) P.handles k
            ∙ ap (option_map (row_after first_seen kept_seen)) (get-map_values (renamed_row to) m.handles k))))
          where
            go : (r : Option Handle) → option_map (renamed_row to_next) (option_map (row_after first_of kept_of) r)
                ≡ option_map (renamed_row to_seen)
                (option_map (row_after first_seen kept_seen) (option_map (renamed_row to) r))
            go None = refl
            go (Some row) = ap Some (row-after row)

        pub locals-after : map to_next m.locals ≡ map to_seen P.locals
        locals-after = sym (map-after m.locals)

        pub entries-after : map to_next (filter first_of m.entries) ≡ map to_seen (filter first_seen P.entries)
        entries-after = sym (ap (map to_seen) (filter-map to first_seen m.entries)
            ∙ map-after (filter first_of m.entries))

        pub ready-after : map to_next (m.ready ++ woken m first_of) ≡ map to_seen (P.ready ++ woken P first_seen)
        ready-after =
            sym (ap (λ ws. map to_seen (map to m.ready ++ ws)) woken-picture
            ∙ ap (map to_seen) (sym (map-append to m.ready (woken m first_of)))
            ∙ map-after (m.ready ++ woken m first_of))

        pub steps-after : map (renamed_step to_next) m.steps ≡ map (renamed_step to_seen) P.steps
        steps-after = sym (map-map (renamed_step to) (renamed_step to_seen) m.steps
            ∙ map-on (λ s. renamed_step to_seen (renamed_step to s)) (renamed_step to_next) m.steps (λ s i. go s))
          where
            go : (s : ThreadStep) → renamed_step to_seen (renamed_step to s) ≡ renamed_step to_next s
            go no_step = refl
            go (begun_store object slot) = ap (λ n. begun_store n slot) (place-after object)
            go (begun_new type len local) = refl

        marked-after : (k : Marking) → renamed_marking to_next k ≡ renamed_marking to_seen (renamed_marking to k)
        marked-after k =
            let white = sym (map-after k.white) in let gray = sym (map-after k.gray) in
            let black = sym (map-after k.black) in
            λ i. record { white = white i; gray = gray i; black = black i }

        pub background-after : (full : Bool) → option_map (renamed_marking to_next) (marking_after full m.background)
            ≡ option_map (renamed_marking to_seen) (marking_after full P.background)
        background-after full = go full m.background
          where
            go : (b : Bool) (r : Option Marking) → option_map (renamed_marking to_next) (marking_after b r)
                ≡ option_map (renamed_marking to_seen) (marking_after b (option_map (renamed_marking to) r))
            go b None = refl
            go true (Some k) = refl
            go false (Some k) = ap Some (marked-after k)

        pub layout-after : (b : Bool) (laid : Layout)
            → (if b then released laid next_objects else laid) ≡ (if b then released laid seen_objects else laid)
        layout-after false laid = refl
        layout-after true laid =
            ap (λ ss. record laid { segments = ss })
            (filter-on (is_retained laid next_objects) (is_retained laid seen_objects) laid.segments
            (λ s i. ap (λ b. b || (same_kind Ephemeral s.kind || (s.base == base_of_first (segments_of Large laid))))
            (sym (any-map R (λ (o : Object). stands_in s o.place) next_objects)
            ∙ shuffled-any (λ (o : Object). stands_in s o.place) kept-shuffled)))
