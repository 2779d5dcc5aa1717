-- The state that an image says is lawful, where a run goes on from it.
use Rattle.std.proofs.Common.{◌≡◌, ℕ, zero, suc, ◌+◌, ◌-◌, ◌^◌, ◌<◌, ◌≤◌, ◌==◌, ◌||◌, Bool, true, false, nat_lt, nat_le}
use Rattle.std.proofs.Common.{not, if◌then◌else◌, List, [], ◌∷◌, ◌++◌, filter, length, map, replicate, refl, ap, sym}
use Rattle.std.proofs.Common.{◌∙◌, subst, arith, Option, None, Some, IfSome, append_assoc, append-nil, sum_by}
use Rattle.std.specs.List.{AllByRecursion, flat_map}
use Rattle.std.specs.FinMap as finmap
use Rattle.std.specs.FinMap.{FinMap}
use Rattle.std.specs.Ordering.{nat_cmp}
use Rattle.std.proofs.lemmas.Bool.{and_parts}
use Rattle.std.proofs.lemmas.Bool.Decides.{nat_tests}
use Rattle.std.proofs.lemmas.List.Sums.{sum_by-cons}
use Rattle.clr_types.specs.LawfulLayout.{IsLawfulLayout, IsLawfulSegment}
use Rattle.clr_types.specs.Ranges.{Piece}
use Rattle.clr_types.specs.Rising.{first, IsIn, later}
use Rattle.clr_types.specs.Segments.{empty_segment, ephemeral, generation, is_small_or_ephemeral, Layout, rest_pieces}
use Rattle.clr_types.specs.Segments.{same_kind, segment_of, segments_of}
use Rattle.clr_types.specs.Table.{HasDistinctNames, IsLawfulRow}
use Rattle.clr_types.specs.Types.{form_at, is_array, is_array_with_references, size_of, TypeRow}
use Rattle.clr_types.specs.declared.handle.Handle.{Handle}
use Rattle.clr_types.specs.declared.segment.SegInfo.{SegInfo}
use Rattle.clr_types.specs.declared.segment.SegKind.{SegKind}
use Rattle.clr_types.specs.declared.segment.SegKind.TheVariants.{Ephemeral, Large, Pinned, Small}
use Rattle.clr_types.proofs.ChangedLists.{all_imply, all_members}
use Rattle.clr_types.proofs.ListMembers.{append_right}
use Rattle.clr_types.proofs.RisingLists.{all_at}
use Rattle.clr_types.proofs.SegmentFacts.{between-stands, segment_of-home}
use Rattle.clr_heap.specs.Drafts.{has_kind}
use Rattle.clr_heap.specs.View.{frame, heap_items, HeapView, IsHeap, no_rests, segment_at, word_of}
use Rattle.clr_heap.proofs.Framing.{bounded_at, lawful_at}
use Rattle.clr_model.specs.Lawful.{AllFrom, AreLawfulOptions, HasItsRoom, HasItsSecond, IsBirthNamed, IsFinal, IsLawful}
use Rattle.clr_model.specs.Lawful.{IsNullOrPresent, IsPlaceNamed, IsPresent, IsShaped, StepIsPresent, Suits}
use Rattle.clr_model.specs.Lawful.{SuitsItsSegment}
use Rattle.clr_model.specs.Lookups.{bytes_of, bytes_up_to, object_size}
use Rattle.clr_model.specs.Machine.{Machine, no_step, Object}
use Rattle.clr_model.proofs.HandleTables.{values_all}
use Rattle.clr_model.proofs.Opening.{all_copies}
use Rattle.clr_model.proofs.RootsChanged.{shaped_alike}
use Rattle.clr_generations.proofs.FoundItems.{in-at}
use Rattle.clr_format.specs.Images.{Parts}
use Rattle.clr_format.specs.NameTests.{fronts_of, with_earlier}
use Rattle.clr_format.specs.TableFields.{is_new_length}
use Rattle.clr_sos.specs.declared.step.Step.{Step}
use Rattle.clr_sos.specs.declared.step.Step.TheVariants.{Begun, Idle, Store}
use Rattle.clr_load.specs.Sound as sound
use Rattle.clr_load.specs.Sound.{StepStands}
use Rattle.clr_load.specs.StepTests.{IsNewStep}
use Rattle.clr_load.specs.declared.image.Image.{Image}
use Rattle.clr_load.proofs.ReadImages.{ArePartsFound, parts_found}
use Rattle.clr_opened.specs.Opened.{Budgets, opened, options_with, thread_step}
use Rattle.clr_opened.proofs.OpenedParts.{map-opened}
use Rattle.clr_sos.specs.CellScans.{suits_object}
use Rattle.clr_sos.specs.CheckedCells.{may_hold}
use Rattle.clr_sos.specs.Faultless.{IsFaultless}
use Rattle.clr_view.specs.Flags.{is_final_at}
use Rattle.clr_view.specs.SlotValues.{StandsAt}
use Rattle.clr_view.specs.View.{IsHeld, layout_in, object_in, objects_in}
use Rattle.clr_view.specs.World.{HandleStands, IsNullOrStands}
use Rattle.clr_view.proofs.Listed.{listed-low, listed-sized}
use Rattle.clr_view.proofs.Listings.{heap-rise}
use Rattle.clr_view.proofs.Rises.{objects-rise}
use Rattle.clr_view.proofs.Standing.{standing}
use Rattle.clr_view.proofs.Tails.{found-young, IsEphemeral, kind-young}
use Rattle.clr_open.specs.Fit.{AreLawfulBudgets, IsFit}
use Rattle.clr_open.specs.Read.{IsRead}
use Rattle.clr_open.proofs.FrontLayouts.{first-layout, front-item, IsFresh, last-layout}
use Rattle.clr_open.proofs.FrontMachines.{all-more, CanBegin, CanBeginNew, machine_of}
use Rattle.clr_open.proofs.ReadFields.{AreFieldsFound, fields-found, fields-of}
use Rattle.clr_open.proofs.ReadNames.{is-null-or-present, is-present, slots-present, store-present}
use Rattle.clr_open.proofs.ReadPieces.{shown-laid, shown-layout}
use Rattle.clr_open.proofs.ReadShapes.{object-of, objects-shaped, row-known}
use Rattle.clr_open.proofs.ReadWords.{words-fit}

-- ---- names from births

-- how many were born plays no part where no background collection runs
unborn : (m : Machine) (born : ℕ) → IsLawful (record m { born = born; background = None })
    → IsLawful (record m { background = None })
unborn m born h =
    let old : Machine = record m { born = born; background = None } in
    let next : Machine = record m { background = None } in
    record {
      options = h.options;
      types = h.types;
      type_count = h.type_count;
      type_names = h.type_names;
      type_words = h.type_words;
      names_rise = h.names_rise;
      shapes = all_imply (IsShaped old) (IsShaped next) m.objects (λ o. shaped_alike old next o refl) h.shapes;
      laid = record {
        layout = h.laid.layout;
        housed = h.laid.housed;
        tiled = h.laid.tiled;
        whole1 = h.laid.whole1;
        whole0 = h.laid.whole0;
      };
      rests_young = h.rests_young;
      suited = h.suited;
      limit = h.limit;
      names = record {
        slots = h.names.slots;
        locals = h.names.locals;
        handles = h.names.handles;
        entries = h.names.entries;
        ready = h.names.ready;
        steps = h.names.steps;
      };
      seconds = h.seconds;
      locals = h.locals;
      steps = h.steps;
      rooms = h.rooms;
      holder = h.holder;
      handle_count = h.handle_count;
      handle_numbers = h.handle_numbers;
      entries = h.entries;
      ready = h.ready;
      sums = record {
        spent0 = h.sums.spent0;
        spent_large = h.sums.spent_large;
        promoted1 = h.sums.promoted1;
        promoted2 = h.sums.promoted2;
      };
      marking = tt;
    }

-- ---- lists

sum-part : {X : Type 0} (f : X → ℕ) (test : X → Bool) (xs : List X) → sum_by f (filter test xs) ≤ sum_by f xs
sum-part f test [] = omega arith
sum-part f test (x ∷ xs) =
    let all = sum_by-cons f x xs in
    go (test x) all (sum-part f test xs)
  where
    go : (b : Bool) → sum_by f (x ∷ xs) ≡ f x + sum_by f xs → sum_by f (filter test xs) ≤ sum_by f xs
        → sum_by f (if b then x ∷ filter test xs else filter test xs) ≤ sum_by f (x ∷ xs)
    go true all rest = let part = sum_by-cons f x (filter test xs) in omega (arith, part, all, rest)
    go false all rest = omega (arith, all, rest)

idle-rooms : (m : Machine) (n t : ℕ) → AllFrom (HasItsRoom m) t (replicate n no_step)
idle-rooms m zero t = tt
idle-rooms m (suc n) t = (tt, idle-rooms m n (t + 1))

-- a step stands with the fronts of those before it
in-earlier : (earlier : List ℕ) (d : List Step) (s : Step) (r : List Step)
    → IsIn (earlier ++ flat_map fronts_of d, s) (with_earlier earlier (d ++ s ∷ r))
in-earlier earlier [] s r =
    subst (λ (xs : List ℕ). IsIn (xs, s) (with_earlier earlier (s ∷ r))) (sym (append-nil earlier)) first
in-earlier earlier (x ∷ d) s r =
    later (subst (λ (xs : List ℕ). IsIn (xs, s) (with_earlier (earlier ++ fronts_of x) (d ++ s ∷ r)))
    (append_assoc earlier (fronts_of x) (flat_map fronts_of d)) (in-earlier (earlier ++ fronts_of x) d s r))

-- a kind that some segment has
some-of : (kind : SegKind) (ss : List SegInfo) → has_kind kind ss ≡ true
    → 0 < length (filter (λ (s : SegInfo). same_kind kind s.kind) ss)
some-of kind [] e = absurd cc
some-of kind (s ∷ ss) e = go (same_kind kind s.kind) e (some-of kind ss)
  where
    go : (b : Bool) → (b || has_kind kind ss) ≡ true
        → (has_kind kind ss ≡ true → 0 < length (filter (λ (s : SegInfo). same_kind kind s.kind) ss))
        → 0 < length (if b then s ∷ filter (λ (s : SegInfo). same_kind kind s.kind) ss
        else filter (λ (s : SegInfo). same_kind kind s.kind) ss)
    go true e more = omega arith
    go false e more = more e

-- ---- objects

-- an object suits the kind of its segment
suits-kind : (m : Machine) (o : Object) (large : ℕ) (kind : SegKind) (size : ℕ) → m.options.large ≡ large
    → size ≡ object_size m.types o → suits_object large kind size ≡ true
    → may_hold kind (form_at m.types o.type) ≡ true → Suits m o kind
suits-kind m o large Small size is same on holds = grind (arith, nat_tests, is, same, on)
suits-kind m o large Ephemeral size is same on holds = grind (arith, nat_tests, is, same, on)
suits-kind m o large Large size is same on holds = grind (arith, nat_tests, is, same, on)
suits-kind m o large Pinned size is same on holds =
    let parts = and_parts (is_array (form_at m.types o.type)) _ holds in
    (parts.0, off (is_array_with_references (form_at m.types o.type)) parts.1)
  where
    off : (b : Bool) → not b ≡ true → b ≡ false
    off true e = absurd cc
    off false e = refl

-- ---- THE STATE THAT AN IMAGE SAYS

module _ (bytes : List ℕ) (image : Image) (p : Parts) (b : Budgets) (read : IsRead bytes image p) (fit : IsFit p)
    (budgets : AreLawfulBudgets b) where
  abbrev rows : List TypeRow
  rows = p.types

  abbrev h : HeapView
  h = p.body.heap

  abbrev locals : List ℕ
  locals = p.rest.locals

  abbrev large : ℕ
  large = p.head.large

  parts : ArePartsFound bytes p (length bytes)
  parts = parts_found bytes p (length bytes) (fields-of bytes p read.is)

  said : AreFieldsFound bytes p
  said = fields-found bytes p (length bytes) (fields-of bytes p read.is)

  -- what holds of types and heap of what was loaded
  pub back : (P : List TypeRow → HeapView → Type 0) → P image.types image.heap → P rows h
  back P x =
      subst (λ (g : HeapView). P rows g) read.shows.heap
      (subst (λ (r : List TypeRow). P r image.heap) read.shows.types x)

  pub alone : h.rests ≡ no_rests
  alone = parts.body.made.rests

  pub heap : IsHeap h
  heap = back (λ r g. IsHeap g) read.sound.heap

  pub held : IsHeld rows h
  held = back IsHeld read.sound.held

  pub faultless : IsFaultless rows large h locals
  faultless =
      subst (λ (n : ℕ). IsFaultless rows n h locals) read.shows.large
      (subst (λ (xs : List ℕ). IsFaultless rows image.large h xs) read.shows.locals
      (back (λ r g. IsFaultless r image.large g image.locals.items) read.sound.faultless))

  word_fits : (a : ℕ) → word_of h a < 2 ^ 64
  word_fits = words-fit bytes read.fits large rows p.body parts.body

  some_large : 0 < length (segments_of Large (frame h))
  some_large = some-of Large h.segments said.large_kind

  layout : IsLawfulLayout (layout_in rows h)
  layout = shown-layout rows h heap held alone large locals faultless fit.bounded some_large

  -- the state, named by numbers up to 2^62, where no thread has begun anything
  abbrev ground : Machine
  ground = record (opened p b) {
    born = 2 ^ 62;
    layout = layout_in rows h;
    steps = replicate 16 no_step;
  }

  -- ---- options

  abbrev young : (k : ℕ) × IsEphemeral h k
  young = found-young h heap

  segment_lawful : IsLawfulSegment (ephemeral (frame h))
  segment_lawful = subst IsLawfulSegment young.1.is (lawful_at h young.0 heap young.1.in_range)

  segment_most : (ephemeral (frame h)).reserved ≤ 67108864
  segment_most =
      let k = young.0 in
      let most = bounded_at h k fit.bounded young.1.in_range
      (ap is_small_or_ephemeral (kind-young h k heap young.1)) in
      subst (λ (s : SegInfo). s.reserved ≤ 67108864) young.1.is most

  options : AreLawfulOptions (options_with p b)
  options =
      let s = segment_lawful in
      record {
        segment_least = s.least;
        segment_greatest = segment_most;
        segment_aligned = s.reserved;
        limit_least = fit.limit;
        limit_greatest = said.limit_high;
        b0 = budgets.b0;
        b1 = budgets.b1;
        b2 = budgets.b2;
        bl = budgets.bl;
        compact = budgets.compact;
        large_least = said.large_low;
        large_greatest = fit.large;
      }

  -- ---- objects

  object_suited : (o : Object) → IsIn o (objects_in rows h) → SuitsItsSegment ground o
  object_suited o i =
      let of = object-of rows h o i in
      let x = of.item in
      let there = standing rows h heap held x of.listed in
      let s = segment_at h there.segment in
      let low = there.above in
      let high = there.below in
      let least = there.least in
      let up = there.reserved in
      let home : segment_of (layout_in rows h) x.place ≡ Some s =
      segment_of-home (layout_in rows h) layout s x.place (in-at h.segments there.segment empty_segment there.in_range)
      (between-stands s x.place low (omega (arith, high, least, up))) in
      let well = faultless.placed there.segment x there.in_range there.listed in
      subst (SuitsItsSegment ground) (sym of.is)
      (subst (λ (q : Option SegInfo). IfSome q (λ (g : SegInfo). Suits ground (object_in rows (word_of h) x) g.kind))
      (sym home)
      (suits-kind ground (object_in rows (word_of h) x) large s.kind x.size refl
      (listed-sized rows h x heap held of.listed) (well.suits of.object) well.held))

  object_low : (o : Object) → IsIn o (objects_in rows h) → o.name ≤ 2 ^ 62
  object_low o i =
      let of = object-of rows h o i in
      let low = listed-low rows h of.item heap held of.listed in
      let name : o.name ≡ of.item.place = ap (λ (q : Object). q.name) of.is in
      omega (arith, low, name)

  -- ---- what names objects

  stands : (x : ℕ) → StandsAt image.types image.heap x → IsPresent ground x
  stands x s = is-present rows h heap held ground refl x (back (λ r g. StandsAt r g x) s)

  null_or_stands : (x : ℕ) → IsNullOrStands image.types image.heap x → IsNullOrPresent ground x
  null_or_stands x s = is-null-or-present rows h heap held ground refl x (back (λ r g. IsNullOrStands r g x) s)

  final : (x : ℕ) → sound.IsFinal image x → IsFinal ground x
  final x f = back (λ r g. is_final_at r g x ≡ true) f.final

  pub same_handles : finmap.from_entries p.rest.tables.handles ≡ image.handles
  same_handles =
      ap (λ (es : List (ℕ × Handle)). finmap.from_entries {R = nat_cmp} es) (sym read.shows.handles)
      ∙ map-opened image.handles

  all_handles : (P : Handle → Type 0) → ((row : Handle) → HandleStands image.types image.heap row → P row)
      → AllByRecursion P (finmap.values ground.handles)
  all_handles P each =
      subst (λ (hs : FinMap nat_cmp Handle). AllByRecursion P (finmap.values hs)) (sym same_handles)
      (values_all P image.handles (λ k row e. each row (read.sound.handles k row e)))

  entries_are : finmap.entries ground.handles ≡ p.rest.tables.handles
  entries_are = ap (λ (hs : FinMap nat_cmp Handle). finmap.entries hs) same_handles ∙ read.shows.handles

  queue : (P : ℕ → Type 0) (old new : List ℕ) → old ≡ new → ((x : ℕ) → IsIn x old → P x) → AllByRecursion P new
  queue P old new same each = all_members P new (λ x i. each x (subst (IsIn x) (sym same) i))

  young_bytes : (g : ℕ) → bytes_up_to ground g ≤ bytes_of ground
  young_bytes g =
      sum-part (object_size rows) (λ (o : Object). nat_le (generation ground.layout o.place) g) (objects_in rows h)

  ground_lawful : IsLawful ground
  ground_lawful = record {
    options = options;
    types = subst (AllByRecursion IsLawfulRow) read.shows.types read.types;
    type_count = subst (λ (r : List TypeRow). length r ≤ 1000) read.shows.types read.few;
    type_names = subst HasDistinctNames read.shows.types read.distinct;
    type_words = said.named;
    names_rise = objects-rise rows (word_of h) (heap_items rows h) (heap-rise rows h held.walkable heap);
    shapes = objects-shaped rows h heap held faultless.clean word_fits ground refl;
    laid = shown-laid rows h heap held alone large locals faultless fit.bounded some_large ground refl refl refl;
    rests_young = subst (λ (rests : List (Option Piece)).
        AllByRecursion (λ (q : Piece). generation (layout_in rows h) q.place ≡ 0)
        (rest_pieces rests)) (sym alone) tt;
    suited = all_members (SuitsItsSegment ground) (objects_in rows h) object_suited;
    limit = let within = heap.within_limit in let same = said.heap_limit in omega (arith, within, same);
    names = record {
      slots = slots-present rows h heap held ground refl large locals faultless;
      locals = queue (IsNullOrPresent ground) image.locals.items locals read.shows.locals
          (λ x i. null_or_stands x (read.sound.locals x i));
      handles = all_handles (λ (row : Handle). IsNullOrPresent ground row.target × IsNullOrPresent ground row.second)
          (λ row s. (null_or_stands row.target s.target, null_or_stands row.second s.second));
      entries = queue (IsPresent ground) image.finals.entries p.rest.tables.entries read.shows.entries
          (λ x i. stands x (read.sound.entries x i).stands);
      ready = queue (IsPresent ground) image.finals.ready p.rest.tables.ready read.shows.ready
          (λ x i. stands x (read.sound.ready x i).stands);
      steps = all_copies (StepIsPresent ground) 16 no_step tt;
    };
    seconds = all_handles HasItsSecond (λ row s. s.owned);
    locals = parts.rest.locals;
    steps = refl;
    rooms = idle-rooms ground 16 1;
    holder = parts.rest.tables.holder;
    handle_count = let few = parts.rest.tables.few in
        let count = ap length entries_are in
        let len = finmap.len-entries ground.handles in omega (arith, few, count, len);
    handle_numbers = subst (AllByRecursion (λ (e : ℕ × Handle). e.0 < 65536)) (sym entries_are) parts.rest.tables.below;
    entries = queue (IsFinal ground) image.finals.entries p.rest.tables.entries read.shows.entries
        (λ x i. final x (read.sound.entries x i));
    ready = queue (IsFinal ground) image.finals.ready p.rest.tables.ready read.shows.ready
        (λ x i. final x (read.sound.ready x i));
    sums = record {
      spent0 = omega arith;
      spent_large = omega arith;
      promoted1 = let part = young_bytes 0 in omega (arith, part);
      promoted2 = let part = young_bytes 1 in omega (arith, part);
    };
    marking = tt;
  }

  -- ---- what threads have begun

  new_can : (t len local front : ℕ) → 1 ≤ t → t ≤ length rows → is_new_length rows large t len ≡ true → local ≤ 63
      → sound.StepStands rows h ([], Begun (record { 0 = t }) len local front) → CanBeginNew ground t len local front
  new_can t len local front some known suited low step =
      let both = and_parts (is_array (form_at rows t) || (len == 0)) (nat_lt (size_of (form_at rows t) len) large)
      suited in
      let either = both.0 in
      let less = both.1 in
      record {
        present = (
          omega (arith, low),
          row-known rows t (λ none. absurd (omega (arith, some, none))) known,
          λ class. no_len (is_array (form_at rows t)) len class either,
        );
        small = grind (arith, nat_tests, less);
        item = front-item rows h (size_of (form_at rows t) len) front alone step.0;
      }
    where
      no_len : (a : Bool) (len : ℕ) → a ≡ false → (a || (len == 0)) ≡ true → len ≡ 0
      no_len true len class either = absurd cc
      no_len false len class either = grind (arith, nat_tests, either)

  step_can : (d : List Step) (s : Step) → IsNewStep rows large s → StepStands rows h (flat_map fronts_of d, s)
      → CanBegin ground s × IsFresh d s
  step_can d Idle new step = (tt, tt)
  step_can d (Store object slot) new step =
      (store-present rows h heap held ground refl object slot step.0 step.1, tt)
  step_can d (Begun t len local front) new step =
      (new_can t.0 len local front new.0 new.1 new.2 new.3 (step.0, refl), step.1)

  steps_can : (d : List Step) (s : Step) (r : List Step) → d ++ s ∷ r ≡ p.rest.tables.steps
      → CanBegin ground s × IsFresh d s
  steps_can d s r e =
      step_can d s
      (all_at (IsNewStep rows large) (subst (IsIn s) e (append_right d first)) parts.rest.tables.new)
      (back (λ rs g. StepStands rs g (flat_map fronts_of d, s)) (read.sound.steps (flat_map fronts_of d, s)
      (subst (λ (steps : List Step). IsIn (flat_map fronts_of d, s) (with_earlier [] steps)) (e ∙ sym read.shows.steps)
      (in-earlier [] d s r))))

  all_begun : IsBirthNamed (machine_of ground p.rest.tables.steps 0)
  all_begun =
      let count = parts.rest.tables.steps in
      all-more ground [] p.rest.tables.steps (omega (arith, count))
      (subst (λ (n : ℕ). IsBirthNamed (machine_of ground [] n)) (sym count)
      (subst IsBirthNamed (sym start) (record {
        lawful = ground_lawful;
        born = all_members (λ (o : Object). o.name ≤ 2 ^ 62) (objects_in rows h) object_low;
      })))
      steps_can
    where
      start : machine_of ground [] 16 ≡ ground
      start = ap (λ (l : Layout). let m : Machine = record ground { layout = l } in m) (first-layout rows h alone)

  finish : machine_of ground p.rest.tables.steps 0
      ≡ (let m : Machine = record (opened p b) { born = 2 ^ 62 } in m)
  finish =
      let same = last-layout rows h p.rest.tables.steps in
      let steps = append-nil (map thread_step p.rest.tables.steps) in
      λ i. record (opened p b) { born = 2 ^ 62; layout = same i; steps = steps i }

  -- IT IS LAWFUL, each object named by its place
  pub opened-lawful : IsPlaceNamed (opened p b)
  opened-lawful = record {
    lawful = unborn (opened p b) (2 ^ 62) (subst IsBirthNamed finish all_begun).lawful;
    places = all_members (λ (o : Object). o.name ≡ o.place) (objects_in rows h) (λ o i.
        let of = object-of rows h o i in
        subst (λ (x : Object). x.name ≡ x.place) (sym of.is) refl);
    uncounted = refl;
  }
