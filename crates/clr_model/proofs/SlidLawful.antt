-- A slide of the large heap leaves a lawful machine.
use Rattle.std.proofs.Common.{◌≡◌, ℕ, ◌+◌, ◌<◌, ◌≤◌, inl, inr, List, [], ◌∷◌, map, refl, sym, ap, subst, ◌∙◌, arith}
use Rattle.std.proofs.Common.{Bool, true, false, if◌then◌else◌, filter, ◌==◌, nat_le, sum_by, Option, Some, None}
use Rattle.std.proofs.Common.{IfSome, is_some, slice_get, ◌&&◌}
use Rattle.std.specs.List.{AllByRecursion}
use Rattle.std.specs.FinMap as finmap
use Rattle.std.specs.Option.{option_map}
use Rattle.clr_types.specs.Rising.{IsIn}
use Rattle.clr_types.specs.Ranges.{Piece}
use Rattle.clr_types.specs.declared.handle.Handle.{Handle}
use Rattle.clr_types.specs.declared.segment.SegKind.{SegKind}
use Rattle.clr_types.specs.declared.segment.SegKind.TheVariants.{Small, Ephemeral, Large, Pinned}
use Rattle.clr_types.specs.declared.segment.SegInfo.{SegInfo}
use Rattle.clr_types.specs.Segments.{Layout, generation, stands_in, same_kind, rest_pieces, reserved_sum}
use Rattle.clr_types.proofs.RisingLists.{all_at}
use Rattle.clr_types.proofs.ChangedLists.{all_members, all_imply, IsIn-map}
use Rattle.clr_types.specs.Types.{has_finalizer, type_row}
use Rattle.clr_types.specs.LawfulLayout.{IsLawfulLayout}
use Rattle.clr_model.specs.Sweep.{has_condemned_part}
use Rattle.clr_types.proofs.ListMembers.{from-map, sum-mapped, filter-map, filter-on}
use Rattle.clr_types.proofs.SegmentFacts.{segment_of-home}
use Rattle.clr_model.specs.Machine.{Value, ref, num, Object, ThreadStep, no_step, begun_store, begun_new, Machine}
use Rattle.clr_model.specs.Lookups.{object_named, object_size, object_piece, slots_or_none, type_of_object}
use Rattle.clr_model.specs.Lookups.{bytes_where}
use Rattle.clr_model.specs.Compaction.{Move, moved_by}
use Rattle.clr_model.specs.Slide.{slid_object, slid_layout, slid_end, IsLargeSlid, SlidesLarge, all_survivors}
use Rattle.clr_model.specs.Lawful.{IsLawful, IsLaid, IsShaped, IsPresent, IsNullOrPresent, SlotIsPresent}
use Rattle.clr_model.specs.Lawful.{StepIsPresent, NamesArePresent, Suits, SuitsItsSegment, HasItsRoom, AllFrom}
use Rattle.clr_model.specs.Lawful.{AreBoundedSums, IsFinal}
use Rattle.clr_model.proofs.LawfulPieces.{HasHome, piece-home, object-in-pieces}
use Rattle.clr_model.proofs.SweptLawful.{map-rises}
use Rattle.clr_model.proofs.ReservedBytes.{reserved-after}
use Rattle.clr_model.proofs.LargeSurvivors.{large-is}
use Rattle.clr_model.proofs.SlidLaid.{stays_laid, layout_slid, age_stays, still_or_large, GoesAmongLarge}
use Rattle.clr_model.proofs.SlidLaid.{same-stands}
use Rattle.clr_model.proofs.MarkingKept.{marking_kept, old_as}

-- an object of a name, where these moves take it
pub named-slid : (moves : List Move) (os : List Object) (x : ℕ)
    → object_named (map (slid_object moves) os) x ≡ option_map (slid_object moves) (object_named os x)
named-slid moves [] x = refl
named-slid moves (o ∷ os) x = go (o.name == x) (named-slid moves os x)
  where
    go : (b : Bool) → object_named (map (slid_object moves) os) x ≡ option_map (slid_object moves) (object_named os x)
        → (if b then Some (slid_object moves o) else object_named (map (slid_object moves) os) x)
        ≡ option_map (slid_object moves) (if b then Some o else object_named os x)
    go true e = refl
    go false e = e

module _ (m : Machine) (h : IsLawful m) (bare : rest_pieces m.layout.rests ≡ []) (moves : List Move)
    (c : IsLargeSlid m.layout (all_survivors m) moves (slid_layout m.layout moves)) where
  abbrev slid : Layout
  slid = slid_layout m.layout moves

  abbrev next : Machine
  next = record m { objects = map (slid_object moves) m.objects; layout = slid }

  back : (P : Object → Type 0) → ((q : Object) → IsIn q m.objects → P (slid_object moves q))
      → AllByRecursion P (map (slid_object moves) m.objects)
  back P f =
      all_members P (map (slid_object moves) m.objects)
      (λ o i. let (q, e, j) = from-map (slid_object moves) o m.objects i in subst P (sym e) (f q j))

  shaped : (q : Object) → IsIn q m.objects → IsShaped next (slid_object moves q)
  shaped q i =
      let is : IsShaped m q = all_at (IsShaped m) i h.shapes in
      record {
        named = is.named;
        typed = is.typed;
        size = is.size;
        class_len = is.class_len;
        kinds = is.kinds;
        numbers = is.numbers;
        suppressed = is.suppressed;
      }

  -- ---- names

  present : (x : ℕ) → IsPresent m x → IsPresent next x
  present x p =
      subst (λ b. b ≡ true) (sym (ap is_some (named-slid moves m.objects x) ∙ same (object_named m.objects x)))
      p
    where
      same : (o : Option Object) → is_some (option_map (slid_object moves) o) ≡ is_some o
      same None = refl
      same (Some o) = refl

  null_or : (x : ℕ) → IsNullOrPresent m x → IsNullOrPresent next x
  null_or x (inl e) = inl e
  null_or x (inr p) = inr (present x p)

  slot : (v : Value) → SlotIsPresent m v → SlotIsPresent next v
  slot (ref name) p = null_or name p
  slot (num number) p = p

  same-slots : (x : ℕ) → slots_or_none (object_named next.objects x) ≡ slots_or_none (object_named m.objects x)
  same-slots x = ap slots_or_none (named-slid moves m.objects x) ∙ same (object_named m.objects x)
    where
      same : (o : Option Object) → slots_or_none (option_map (slid_object moves) o) ≡ slots_or_none o
      same None = refl
      same (Some o) = refl

  same-type : (x : ℕ) → type_of_object (object_named next.objects x) ≡ type_of_object (object_named m.objects x)
  same-type x = ap type_of_object (named-slid moves m.objects x) ∙ same (object_named m.objects x)
    where
      same : (o : Option Object) → type_of_object (option_map (slid_object moves) o) ≡ type_of_object o
      same None = refl
      same (Some o) = refl

  step : (s : ThreadStep) → StepIsPresent m s → StepIsPresent next s
  step no_step p = tt
  step (begun_store object slot) (here, name, e) =
      (present object here, name, ap (λ vs. slice_get vs slot) (same-slots object) ∙ e)
  step (begun_new type len local) p = p

  final : (x : ℕ) → IsFinal m x → IsFinal next x
  final x f = ap (λ t. has_finalizer (type_row m.types t)) (same-type x) ∙ f

  names-next : NamesArePresent next
  names-next =
      record {
        slots = back (λ (o : Object). AllByRecursion (SlotIsPresent next) o.slots)
            (λ q i. all_imply (SlotIsPresent m) (SlotIsPresent next) q.slots slot
            (all_at (λ (o : Object). AllByRecursion (SlotIsPresent m) o.slots) i h.names.slots));
        locals = all_imply (IsNullOrPresent m) (IsNullOrPresent next) m.locals null_or h.names.locals;
        handles = all_imply (λ (row : Handle). IsNullOrPresent m row.target × IsNullOrPresent m row.second)
            (λ (row : Handle). IsNullOrPresent next row.target × IsNullOrPresent next row.second)
            (finmap.values m.handles) (λ row p. (null_or row.target p.0, null_or row.second p.1)) h.names.handles;
        entries = all_imply (IsPresent m) (IsPresent next) m.entries present h.names.entries;
        ready = all_imply (IsPresent m) (IsPresent next) m.ready present h.names.ready;
        steps = all_imply (StepIsPresent m) (StepIsPresent next) m.steps step h.names.steps;
      }

  -- ---- segments

  lawful-layout : IsLawfulLayout slid
  lawful-layout = layout_slid m h.laid moves slid c

  abbrev change : SegInfo → SegInfo
  change s = if same_kind Large s.kind && has_condemned_part 2 s then record s { end = slid_end moves s } else s

  same-kind : (s : SegInfo) → (change s).kind ≡ s.kind
  same-kind s = go (same_kind Large s.kind && has_condemned_part 2 s)
    where
      go : (b : Bool) → (if b then record s { end = slid_end moves s } else s).kind ≡ s.kind
      go true = refl
      go false = refl

  is_large : (k : SegKind) → same_kind Large k ≡ true → k ≡ Large
  is_large Small e = absurd cc
  is_large Ephemeral e = absurd cc
  is_large Large e = refl
  is_large Pinned e = absurd cc

  fits : (q : Object) (k : SegKind) → Suits m q k → Suits next (slid_object moves q) k
  fits q Small p = p
  fits q Ephemeral p = p
  fits q Large p = p
  fits q Pinned p = p

  suited : (q : Object) → IsIn q m.objects → SuitsItsSegment next (slid_object moves q)
  suited q i = elim (still_or_large m h.laid moves slid c q i) [ inl e ↦ still e | inr g ↦ gone g ]
    where
      home : (t : SegInfo) → IsIn t m.layout.segments → stands_in t q.place ≡ true → Suits m q t.kind
      home t among at = subst (λ (r : Option SegInfo). IfSome r (λ u. Suits m q u.kind))
          (segment_of-home m.layout h.laid.layout t q.place among at) (all_at (SuitsItsSegment m) i h.suited)

      there : (s : SegInfo) → IsIn s m.layout.segments → stands_in s (moved_by moves q.place) ≡ true
          → Suits m q s.kind → SuitsItsSegment next (slid_object moves q)
      there s known stands fit =
          subst (λ (r : Option SegInfo). IfSome r (λ u. Suits next (slid_object moves q) u.kind))
          (sym (segment_of-home slid lawful-layout (change s) (moved_by moves q.place) (IsIn-map change known)
          (same-stands m h.laid moves slid c bare s (moved_by moves q.place) ∙ stands)))
          (subst (Suits next (slid_object moves q)) (sym (same-kind s)) (fits q s.kind fit))

      still : moved_by moves q.place ≡ q.place → SuitsItsSegment next (slid_object moves q)
      still e =
          let n : HasHome m.layout q.place =
          piece-home m h.laid (object_piece m.types q) (object-in-pieces m h.laid q i) in
          there n.home n.among (subst (λ x. stands_in n.home x ≡ true) (sym e) n.stands) (home n.home n.among n.stands)

      gone : GoesAmongLarge m h.laid moves slid c q → SuitsItsSegment next (slid_object moves q)
      gone g =
          let (from, known) = large-is m h.laid g.from g.from_large in
          let (into, there_known) = large-is m h.laid g.into g.into_large in
          there g.into there_known g.into_stands
          (subst (Suits m q) (is_large g.from.kind from ∙ sym (is_large g.into.kind into))
          (home g.from known g.from_stands))

  limit : reserved_sum slid ≤ m.options.limit
  limit = let l = h.limit in let same = reserved-after (same_kind Large) 2 (slid_end moves) m.layout.segments in
      omega arith

  -- ---- what is counted

  bytes-all : sum_by (object_size m.types) (map (slid_object moves) m.objects) ≡ sum_by (object_size m.types) m.objects
  bytes-all = sum-mapped (slid_object moves) (object_size m.types) m.objects

  bytes-where : (test other : Object → Bool)
      → ((q : Object) → IsIn q m.objects → test (slid_object moves q) ≡ other q)
      → sum_by (object_size m.types) (filter test (map (slid_object moves) m.objects))
      ≡ sum_by (object_size m.types) (filter other m.objects)
  bytes-where test other same =
      ap (sum_by (object_size m.types)) (filter-map (slid_object moves) test m.objects)
      ∙ sum-mapped (slid_object moves) (object_size m.types) (filter (λ q. test (slid_object moves q)) m.objects)
      ∙ ap (sum_by (object_size m.types)) (filter-on (λ q. test (slid_object moves q)) other m.objects same)

  bytes-up_to : (g : ℕ)
      → bytes_where next (λ o. nat_le (generation slid o.place) g)
      ≡ bytes_where m (λ o. nat_le (generation m.layout o.place) g)
  bytes-up_to g = bytes-where (λ o. nat_le (generation slid o.place) g) (λ o. nat_le (generation m.layout o.place) g)
      (λ q i. ap (λ n. nat_le n g) (age_stays m h.laid moves slid c q i))

  sums-next : AreBoundedSums next
  sums-next =
      let a = bytes-all in
      let b = bytes-where (λ o. nat_le m.options.large (object_size m.types o))
      (λ o. nat_le m.options.large (object_size m.types o)) (λ q i. refl) in
      let zero = bytes-up_to 0 in let one = bytes-up_to 1 in
      record {
        spent0 = let l = h.sums.spent0 in omega arith;
        spent_large = let l = h.sums.spent_large in omega arith;
        promoted1 = let l = h.sums.promoted1 in omega arith;
        promoted2 = let l = h.sums.promoted2 in omega arith;
      }

  room : (t : ℕ) (s : ThreadStep) → HasItsRoom m t s → HasItsRoom next t s
  room t no_step r = tt
  room t (begun_store object slot) r = tt
  room t (begun_new type len local) r = r

  rooms : (t : ℕ) (steps : List ThreadStep) → AllFrom (HasItsRoom m) t steps → AllFrom (HasItsRoom next) t steps
  rooms t [] r = tt
  rooms t (s ∷ ss) r = (room t s r.0, rooms (t + 1) ss r.1)

  laid-next : IsLaid next
  laid-next =
      let is = stays_laid m h.laid moves slid c bare in
      record { layout = is.layout; housed = is.housed; tiled = is.tiled; whole1 = is.whole1; whole0 = is.whole0 }

  lawful-next : IsLawful next
  lawful-next = record {
    options = h.options;
    types = h.types;
    type_count = h.type_count;
    type_names = h.type_names;
    type_words = h.type_words;
    names_rise = map-rises (slid_object moves) (λ (o : Object). o.name) m.objects h.names_rise;
    shapes = back (IsShaped next) shaped;
    laid = laid-next;
    rests_young = subst (AllByRecursion (λ (p : Piece). generation slid p.place ≡ 0)) (sym bare) tt;
    suited = back (SuitsItsSegment next) suited;
    limit = limit;
    names = names-next;
    seconds = h.seconds;
    locals = h.locals;
    steps = h.steps;
    rooms = rooms 1 m.steps h.rooms;
    holder = h.holder;
    handle_count = h.handle_count;
    handle_numbers = h.handle_numbers;
    entries = all_imply (IsFinal m) (IsFinal next) m.entries final h.entries;
    ready = all_imply (IsFinal m) (IsFinal next) m.ready final h.ready;
    sums = sums-next;
    marking =
        marking_kept m next m.background
        (old_as m next (slid_object moves) (λ o. refl) (λ o i. IsIn-map (slid_object moves) i)
        (λ o i old. subst (λ n. 1 < n) (sym (age_stays m h.laid moves slid c o i)) old)) h.marking;
  }

-- A slide leaves a lawful machine.
pub slide_stays_lawful : (m : Machine) (moves : List Move) (new : Machine) → IsLawful m
    → rest_pieces m.layout.rests ≡ [] → SlidesLarge m moves new → IsLawful new
slide_stays_lawful m moves new h bare c =
    subst IsLawful (sym (c.state ∙ ap (λ l. record m { objects = map (slid_object moves) m.objects; layout = l })
    c.slid.laid))
    (lawful-next m h bare moves
    (subst (λ l. IsLargeSlid m.layout (all_survivors m) moves l) c.slid.laid c.slid))
