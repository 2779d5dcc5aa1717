-- What a collection leaves is lawful, where its memory is: names, handles, queues, marks and sums then are too.
use Rattle.std.proofs.Common.{◌≡◌, ℕ, ◌<◌, ◌≤◌, inl, inr, List, [], length, refl, sym, ap, subst, ◌∙◌, arith, Bool}
use Rattle.std.proofs.Common.{true, false, filter, not, ◌==◌, None, Some, Option, IfSome}
use Rattle.std.proofs.lemmas.Bool.{and_parts, eqb-false}
use Rattle.std.proofs.lemmas.List.{length-map}
use Rattle.std.specs.List.{AllByRecursion}
use Rattle.std.specs.FinMap as finmap
use Rattle.clr_types.specs.Rising.{IsIn, IsRisingBy, Tests}
use Rattle.clr_types.specs.Ranges.{Piece}
use Rattle.clr_types.specs.Segments.{Layout, generation, rest_pieces}
use Rattle.clr_types.specs.Segments.{reserved_sum}
use Rattle.clr_types.proofs.RisingLists.{all_at}
use Rattle.clr_types.proofs.ChangedLists.{all_members, all_imply, into_filter, out_of_filter, IsIn-map}
use Rattle.clr_types.proofs.ListMembers.{from-map, filter-rises}
use Rattle.clr_model.specs.Machine.{Object, ThreadStep, no_step, Sums, Marking, Machine}
use Rattle.clr_model.specs.Background.{IsLawfulMarking, taken}
use Rattle.clr_model.specs.Lookups.{lowest_in_step}
use Rattle.clr_model.specs.Reach.{IsAlive, Kept, starts, Old, StartOf}
use Rattle.clr_model.specs.Updates.{all_given_up}
use Rattle.clr_model.specs.Compaction.{Move, moved_by}
use Rattle.clr_model.specs.Collection.{bytes_promoted, row_after, is_dropped, object_after, objects_after}
use Rattle.clr_model.specs.Collection.{sums_after, marking_after}
use Rattle.clr_model.specs.Lawful.{AreBoundedSums, IsLaid, IsLawful, IsShaped, SuitsItsSegment}
use Rattle.clr_model.specs.Lawful.{NamesArePresent}
use Rattle.clr_types.proofs.MapValues.{entries-map_values, keys-map_values, changed}
use Rattle.clr_model.proofs.RootsChanged.{shaped_alike}
use Rattle.clr_model.proofs.SweptLawful.{map-rises}
use Rattle.clr_model.proofs.CollectedPresent.{all_idle, idle_rooms, collected_machine, entries_final, names_left}
use Rattle.clr_model.proofs.CollectedPresent.{ready_final, seconds_left}
use Rattle.clr_model.proofs.CollectedSums.{bounded_left, large-old}

-- what is asked of the memory that is left
pub record IsWellLeft (m : Machine) (g : ℕ) (alive kept : ℕ → Bool) (moves : List Move) (layout : Layout)
    (promoted1 promoted2 : ℕ) : Type 0 where
  pub laid : IsLaid (record m {
    objects = objects_after (record m { layout = all_given_up m.layout }) alive kept moves;
    layout = layout;
  })
  pub bare : rest_pieces layout.rests ≡ []
  pub suited : (o : Object) → IsIn o (objects_after (record m { layout = all_given_up m.layout }) alive kept moves)
      → SuitsItsSegment (record m {
        objects = objects_after (record m { layout = all_given_up m.layout }) alive kept moves;
        layout = layout;
      }) o
  pub limit : reserved_sum layout ≤ m.options.limit
  pub old_stays : (o : Object) → IsIn o m.objects → kept o.name ≡ true → g < generation m.layout o.place
      → generation layout (moved_by moves o.place) ≡ generation m.layout o.place
  pub first_bytes : promoted1 ≡ bytes_promoted (record m { layout = all_given_up m.layout }) layout kept moves 0
  pub second_bytes : promoted2 ≡ bytes_promoted (record m { layout = all_given_up m.layout }) layout kept moves 1

module _ (m : Machine) (h : IsLawful m) (idle : lowest_in_step m ≡ None) (g : ℕ) (least : g ≤ 2) (alive kept : ℕ → Bool)
    {source : ℕ → Type 0} (covers : (x : ℕ) → StartOf (record m { layout = all_given_up m.layout }) g x → source x)
    (alive_is : Tests alive (IsAlive (record m { layout = all_given_up m.layout }) source))
    (kept_is : Tests kept (Kept (record m { layout = all_given_up m.layout }) source alive)) (moves : List Move)
    (layout : Layout) (promoted1 promoted2 : ℕ) (left : IsWellLeft m g alive kept moves layout promoted1 promoted2)
  where
    abbrev start : Machine
    start = record m { layout = all_given_up m.layout }

    abbrev objects : List Object
    objects = objects_after start alive kept moves

    abbrev sums : Sums
    sums = sums_after start g promoted1 promoted2

    abbrev background : Option Marking
    background = marking_after (g == 2) m.background

    abbrev next : Machine
    next = collected_machine start alive kept moves layout sums background

    steps-idle : AllByRecursion (λ (s : ThreadStep). s ≡ no_step) m.steps
    steps-idle = all_idle 1 m.steps idle

    -- an older object is where the marking starts
    old_kept : (o : Object) → IsIn o start.objects → g < generation start.layout o.place → kept o.name ≡ true
    old_kept o i above =
        (kept_is o.name).1
        (starts (inl (covers o.name (inr (record { object = o; present = i; named = refl; above = above })))))

    shapes-start : AllByRecursion (IsShaped start) start.objects
    shapes-start = all_imply (IsShaped m) (IsShaped start) m.objects (λ o. shaped_alike m start o refl) h.shapes

    names-start : NamesArePresent start
    names-start =
        record {
          slots = h.names.slots;
          locals = h.names.locals;
          handles = h.names.handles;
          entries = h.names.entries;
          ready = h.names.ready;
          steps = h.names.steps;
        }

    -- ---- the parts of a lawful state

    names_rise : IsRisingBy (λ (o : Object). o.name) objects
    names_rise =
        map-rises (object_after start alive moves) (λ (o : Object). o.name)
        (filter (λ (o : Object). kept o.name) m.objects)
        (filter-rises (λ (o : Object). kept o.name) (λ (o : Object). o.name) m.objects h.names_rise)

    back : (P : Object → Type 0) → ((q : Object) → IsIn q m.objects → P (object_after start alive moves q))
        → AllByRecursion P objects
    back P f =
        all_members P objects
        (λ o i.
        let (q, e, j) =
        from-map (object_after start alive moves) o (filter (λ (o : Object). kept o.name) m.objects) i in
        subst P (sym e) (f q (out_of_filter (λ (o : Object). kept o.name) q m.objects j).1))

    shaped : (q : Object) → IsIn q m.objects → IsShaped next (object_after start alive moves q)
    shaped q i =
        let is : IsShaped m q = all_at (IsShaped m) i h.shapes in
        record {
          named = is.named;
          typed = is.typed;
          size = is.size;
          class_len = is.class_len;
          kinds = is.kinds;
          numbers = is.numbers;
          suppressed = λ e. is.suppressed (and_parts q.suppressed (not (is_dropped start alive q.name)) e).0;
        }

    laid-next : IsLaid next
    laid-next =
        let is = left.laid in
        record { layout = is.layout; housed = is.housed; tiled = is.tiled; whole1 = is.whole1; whole0 = is.whole0 }

    suited-next : AllByRecursion (SuitsItsSegment next) objects
    suited-next = all_members (SuitsItsSegment next) objects left.suited

    handle_count-next : finmap.len next.handles ≡ finmap.len m.handles
    handle_count-next =
        finmap.len-entries next.handles ∙ ap length (entries-map_values (row_after alive kept) m.handles)
        ∙ length-map (finmap.entries m.handles) (changed (row_after alive kept)) ∙ sym (finmap.len-entries m.handles)

    -- ---- what is counted

    abbrev bare_next : ℕ → ℕ → Machine
    bare_next promoted1 promoted2 =
        record start { objects = objects; layout = layout; sums = sums_after start g promoted1 promoted2 }

    sums-start : AreBoundedSums start
    sums-start =
        record {
          spent0 = h.sums.spent0;
          spent_large = h.sums.spent_large;
          promoted1 = h.sums.promoted1;
          promoted2 =
              h.sums.promoted2;
        }

    old_stays : (o : Object) → IsIn o m.objects → kept o.name ≡ true → g < generation m.layout o.place
        → generation layout (moved_by moves o.place) ≡ generation m.layout o.place
    old_stays = left.old_stays

    bounds-next : AreBoundedSums (bare_next promoted1 promoted2)
    bounds-next =
        subst (λ n. AreBoundedSums (bare_next promoted1 n)) (sym left.second_bytes)
        (subst (λ n. AreBoundedSums (bare_next n (bytes_promoted start layout kept moves 1))) (sym left.first_bytes)
        (bounded_left start alive kept moves layout g old_kept old_stays least sums-start (large-old m h)))

    -- ---- what a background collection took

    old-next : g ≤ 1 → (x : ℕ) → Old m 1 x → Old next 1 x
    old-next young x old =
        let high = old.above in
        let stays = old_kept old.object old.present (omega arith) in
        record {
          object = object_after start alive moves old.object;
          present =
              IsIn-map (object_after start alive moves)
              (into_filter (λ (o : Object). kept o.name) m.objects stays old.present);
          named = old.named;
          above =
              subst (λ n. 1 < n) (sym (old_stays old.object old.present stays (omega arith))) old.above;
        }

    marking-next : IfSome background (IsLawfulMarking next)
    marking-next = go (g == 2) refl m.background h.marking
      where
        go : (b : Bool) → (g == 2) ≡ b → (r : Option Marking) → IfSome r (IsLawfulMarking m)
            → IfSome (marking_after b r) (IsLawfulMarking next)
        go b e None is = tt
        go true e (Some k) is = tt
        go false e (Some k) is =
            record {
              present = all_imply (Old m 1) (Old next 1) (taken k)
                  (old-next (omega (arith, eqb-false g 2 e, least))) is.present;
              apart = is.apart;
            }

    pub parts_lawful : IsLawful (collected_machine (record m { layout = all_given_up m.layout }) alive kept moves layout
        (sums_after (record m { layout = all_given_up m.layout }) g promoted1 promoted2)
        (marking_after (g == 2) m.background))
    parts_lawful = record {
      options = h.options;
      types = h.types;
      type_count = h.type_count;
      type_names = h.type_names;
      type_words = h.type_words;
      names_rise = names_rise;
      shapes = back (IsShaped next) shaped;
      laid = laid-next;
      rests_young = subst (AllByRecursion (λ (p : Piece). generation layout p.place ≡ 0)) (sym left.bare) tt;
      suited = suited-next;
      limit = left.limit;
      names =
          names_left start shapes-start names-start h.seconds g alive kept covers alive_is kept_is moves layout sums
          background steps-idle;
      seconds =
          seconds_left start shapes-start names-start h.seconds g alive kept covers alive_is kept_is moves layout sums
          background;
      locals = h.locals;
      steps = h.steps;
      rooms = idle_rooms next 1 m.steps steps-idle;
      holder = h.holder;
      handle_count = let same = handle_count-next in let l = h.handle_count in omega arith;
      handle_numbers = keys-map_values (row_after alive kept) (λ n. n < 65536) m.handles h.handle_numbers;
      entries =
          entries_final start shapes-start names-start h.seconds g alive kept covers alive_is kept_is moves layout
          sums background h.entries;
      ready =
          ready_final start shapes-start names-start h.seconds g alive kept covers alive_is kept_is moves layout sums
          background h.entries h.ready;
      sums = record {
        spent0 = bounds-next.spent0;
        spent_large = bounds-next.spent_large;
        promoted1 = bounds-next.promoted1;
        promoted2 = bounds-next.promoted2;
      };
      marking = marking-next;
    }

    -- births only go
    pub parts_birth_named : AllByRecursion (λ (o : Object). o.name ≤ m.born) m.objects
        → AllByRecursion (λ (o : Object). o.name ≤ m.born)
        (objects_after (record m { layout = all_given_up m.layout }) alive kept moves)
    parts_birth_named born =
        back (λ (o : Object). o.name ≤ m.born) (λ q i. all_at (λ (o : Object). o.name ≤ m.born) i born)
