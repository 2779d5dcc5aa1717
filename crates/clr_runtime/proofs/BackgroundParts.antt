-- The parts of a runtime after the first pause of a background collection, and after steps of the marker.
use Rattle.std.proofs.Common.{◌≡◌, ◌∙◌, ℕ, ◌⊎◌, inl, inr, Bool, true, false, not, List, length}
use Rattle.std.proofs.Common.{map, refl, sym, ap, subst, arith, if◌then◌else◌, None, Some, is_some}
use Rattle.std.specs.Prelude.{Err, IfSome, IsTrue, is_none, Ok, OnErr, OnOk, Result}
use Rattle.std.proofs.lemmas.Bool.{cases_eq}
use Rattle.clr_types.specs.Rising.{IsIn}
use Rattle.clr_types.specs.Types.{form_at}
use Rattle.clr_types.proofs.ChangedLists.{into_filter, IsIn-map}
use Rattle.clr_types.proofs.RisingLists.{all_at}
use Rattle.clr_heap.specs.Parts.{item_at}
use Rattle.clr_heap.specs.View.{heap_items, word_of}
use Rattle.clr_view.specs.SlotValues.{IsObjectAt, StandsAt}
use Rattle.clr_view.specs.View.{is_object, object_in, objects_in}
use Rattle.clr_view.specs.World.{HandlesStand}
use Rattle.clr_view.proofs.ObjectItems.{stands-item}
use Rattle.clr_mark.specs.Marks.{IsClosed}
use Rattle.clr_mark.specs.Roots as roots
use Rattle.clr_model.specs.Background.{IsBegun, IsLawfulMarking, ScansUpTo, taken}
use Rattle.clr_model.specs.Lawful.{IsPlaceNamed}
use Rattle.clr_model.specs.Lookups.{lowest_in_step}
use Rattle.clr_model.specs.Machine.{begun_store, Machine, Marking, Object, ref}
use Rattle.clr_model.specs.Reach.{SlotNames}
use Rattle.clr_model.proofs.Remarked.{begun_lawful, remarked_place_named, scans_lawful}
use Rattle.clr_model.proofs.SeenSound.{found-at}
use Rattle.clr_background.specs.Log.{IsNullOrMarked, LogLaw, slot_address, StrictLogLaw}
use Rattle.clr_background.proofs.LogHolds.{strict_log_holds}
use Rattle.clr_background.proofs.Markings.{MarksOn, scans_on_marking}
use Rattle.clr_background.proofs.Members.{read_member, stands_or_not}
use Rattle.clr_bgmark.specs.Closing.{without_colours}
use Rattle.clr_bgmark.specs.LastPause.{LogHolds}
use Rattle.clr_bgmark.specs.Pauses.{HasBegun}
use Rattle.clr_bgmark.specs.Scanning.{AreObjects, HasLogged, HasScanned, HaveWholeObjects, IsCounted, IsTakenAt}
use Rattle.clr_bgmark.specs.Scanning.{LogsRead, marking_in}
use Rattle.clr_bgmark.specs.Shades.{BackgroundView, is_logged, PartView, ShadeView}
use Rattle.clr_bgmark.specs.Tiles.{AreParts, AreTiled}
use Rattle.clr_bgmark.proofs.SameTiles.{same_count, same_parts}
use Rattle.clr_collect.proofs.WorldNames.{handles_stand, locals_stand, ready_stand, slots_stand}
use Rattle.clr_runtime.specs.Marked.{AreColours, IsMarkedSoFar, marking_by, marking_of, StandsWhole, StandWhole}
use Rattle.clr_runtime.specs.RuntimeView.{ahead_of, IsRuntime, seen, world_of}
use Rattle.clr_runtime.specs.declared.parts.Parts.{Parts}
use Rattle.clr_runtime.proofs.CollectLines.{world-seen}
use Rattle.clr_runtime.proofs.MarkedKept.{running_marking}
use Rattle.clr_runtime.proofs.StandingWhole.{edge_of_form, edge_of_item, same_stands}
use Rattle.clr_runtime.proofs.MarkingRead.{bit_of_taken, coloured_objects, marking_is, objects_coloured, taken_of_bit}

-- ---- whether one runs

pub runs_is : (v : BackgroundView) → is_some (marking_of v) ≡ v.running
runs_is v = go v.running
  where
    go : (b : Bool) → is_some (if b then Some (marking_by v.shades) else None) ≡ b
    go true = refl
    go false = refl

pub none_is : (v : BackgroundView) → is_none (marking_of v) ≡ not v.running
none_is v = go v.running
  where
    go : (b : Bool) → is_none (if b then Some (marking_by v.shades) else None) ≡ not b
    go true = refl
    go false = refl

pub none_marking : (v : BackgroundView) → v.running ≡ false → marking_of v ≡ None
none_marking v none = ap (λ (b : Bool). if b then Some (marking_by v.shades) else None) none

-- ---- the log over steps of the marker

-- where each slot that was read and names what wasn't taken is logged, the law of the log holds on
read_law : (m : Machine) (old new : Marking) (was is : ℕ → Bool) → LogsRead m old new was is → MarksOn m old new
    → LogLaw m old was → LogLaw m new is
read_law m old new was is logs marks law o i name here black e = go (stands_or_not o.name old.black)
  where
    before : (IsNullOrMarked old name ⊎ IsTrue (was (slot_address m o i))) ⊎ IsIn (begun_store o.name i) m.steps
        → (IsNullOrMarked new name ⊎ IsTrue (is (slot_address m o i))) ⊎ IsIn (begun_store o.name i) m.steps
    before (inl (inl (inl null))) = inl (inl (inl null))
    before (inl (inl (inr marked))) = inl (inl (inr (marks.keeps name marked)))
    before (inl (inr logged)) = inl (inr (logs.stays (slot_address m o i) logged))
    before (inr store) = inr store

    read : (IsIn o.name old.black → ⊥) → (name ≡ 0) ⊎ (name ≡ 0 → ⊥)
        → IsIn name (taken old) ⊎ (IsIn name (taken old) → ⊥)
        → (IsNullOrMarked new name ⊎ IsTrue (is (slot_address m o i))) ⊎ IsIn (begun_store o.name i) m.steps
    read none (inl null) there = inl (inl (inl null))
    read none (inr some) (inl there) =
        let names : SlotNames m.objects o.name name =
        record {
          object = o;
          present = here;
          named = refl;
          slot = read_member o.slots i (ref name) e;
          not_null = omega (arith, some);
        } in
        inl (inl (inr (marks.named o.name name black none names there)))
    read none (inr some) (inr untaken) = inl (inr (logs.read (slot_address m o i) (record {
      object = o;
      present = here;
      black = black;
      was_not = none;
      slot = i;
      name = name;
      holds = e;
      not_null = omega (arith, some);
      untaken = untaken;
      card = refl;
    })))

    go : IsIn o.name old.black ⊎ (IsIn o.name old.black → ⊥)
        → (IsNullOrMarked new name ⊎ IsTrue (is (slot_address m o i))) ⊎ IsIn (begun_store o.name i) m.steps
    go (inl black_before) = before (law o i name here black_before e)
    go (inr none) = read none (cases_eq name 0) (stands_or_not name (taken old))

-- ---- parts

module _ (p : Parts) (is : IsRuntime p) where
  abbrev objects : List Object
  objects = objects_in p.types p.space.heap

  -- the heap is closed, and all that names objects from outside names those that stand
  pub parts_closed : IsClosed p.types p.space.heap
  parts_closed = record {
    heap = is.heap;
    held = is.shown.held;
    named = slots_stand (world_of p) (seen p) (world-seen p.safe (ahead_of p)) is.shown.sound;
  }

  pub parts_handles : HandlesStand p.types p.space.heap p.roots.handles
  parts_handles = handles_stand (world_of p) (seen p) (world-seen p.safe (ahead_of p)) is.shown.sound

  pub parts_locals : roots.AreObjects p.types p.space.heap p.roots.locals.items
  parts_locals = locals_stand (world_of p) (seen p) (world-seen p.safe (ahead_of p)) is.shown.sound

  pub parts_ready : roots.AreObjects p.types p.space.heap p.roots.finals.ready
  parts_ready = ready_stand (world_of p) (seen p) (world-seen p.safe (ahead_of p)) is.shown.sound

  -- ---- the references of what was taken

  -- an object is read from its item
  own_item : (o : Object) → IsIn o objects → o
      ≡ object_in p.types (word_of p.space.heap) (item_at p.types (word_of p.space.heap) o.name)
  own_item o here =
      let home : o.name ≡ o.place = all_at (λ (o : Object). o.name ≡ o.place) here is.shown.sound.places in
      let at : IsObjectAt p.types p.space.heap o.name (item_at p.types (word_of p.space.heap) o.name) =
      stands-item p.types p.space.heap is.heap is.shown.held o.name (o, here, sym home) in
      one o _ (sym (found-at (seen p) is.shown.sound o here o.name (sym home)) ∙ at.named)
    where
      one : (a b : Object) → Some a ≡ Some b → a ≡ b
      one a b e = cc

  module _ (ss : List ShadeView) (ps : List PartView) (colours : AreColours ss) where
    stands_whole : HaveWholeObjects p.types p.space.heap ss → AreTiled p.types p.space.heap ss ps
        → StandWhole (seen p) (marking_by ss) ss ps
    stands_whole whole tiled o here took =
        let home : o.name ≡ o.place = all_at (λ (o : Object). o.name ≡ o.place) here is.shown.sound.places in
        let bit = bit_of_taken ss colours o.name took in
        subst (λ x. StandsWhole ss ps x (form_at p.types o.type) o.len) home
        (subst (λ (w : Object). StandsWhole ss ps o.name (form_at p.types w.type) w.len) (sym (own_item o here))
        (record {
          slots = λ offset listed. whole o.name offset bit listed;
          edge = edge_of_form p.types (word_of p.space.heap) ss ps o.name (tiled o.name bit);
        }))

    module _ (known : AreObjects p.types p.space.heap ss) (whole : StandWhole (seen p) (marking_by ss) ss ps) where
      -- what was taken stands whole where its item is read
      own_stands : (x : ℕ) → IsTakenAt ss x
          → StandsWhole ss ps x
          (form_at p.types (object_in p.types (word_of p.space.heap) (item_at p.types (word_of p.space.heap) x)).type)
          (object_in p.types (word_of p.space.heap) (item_at p.types (word_of p.space.heap) x)).len
      own_stands x bit =
          let i = item_at p.types (word_of p.space.heap) x in
          let own = object_in p.types (word_of p.space.heap) i in
          let at : IsObjectAt p.types p.space.heap x i = stands-item p.types p.space.heap is.heap is.shown.held x
          (stands x bit) in
          let present : IsIn own objects =
          IsIn-map (object_in p.types (word_of p.space.heap))
          (into_filter is_object (heap_items p.types p.space.heap) at.object
          at.listed) in
          subst (λ y. StandsWhole ss ps y (form_at p.types own.type) own.len) at.at
          (whole own present
          (subst (λ n. IsIn n (taken (marking_by ss))) (sym at.at) (taken_of_bit ss colours x bit)))
        where
          stands : (x : ℕ) → IsTakenAt ss x → StandsAt p.types p.space.heap x
          stands x (there, inl t) = known.taken x there t
          stands x (there, inr m) = known.marked x there m

      pub slots_whole : HaveWholeObjects p.types p.space.heap ss
      slots_whole x offset bit listed = (own_stands x bit).slots offset listed

      pub edges_tiled : AreTiled p.types p.space.heap ss ps
      edges_tiled x bit = edge_of_item p.types (word_of p.space.heap) ss ps x (own_stands x bit).edge

  -- ---- the first pause

  module _ (v : BackgroundView) (running : v.running ≡ true)
      (begun : HasBegun p.types p.space.heap p.roots.handles p.roots.locals.items p.roots.finals.ready v.shades)
      (known : AreObjects p.types p.space.heap v.shades) where
    same_begun : marking_by v.shades ≡ marking_in objects v.shades
    same_begun = marking_is p.types p.space.heap is.heap is.shown.held v.shades known

    is_begun : IsBegun (seen p) (marking_by v.shades)
    is_begun = subst (IsBegun (seen p)) (sym same_begun) (begun (seen p) refl refl refl refl refl)

    begun_seen : seen (record p { background = v }) ≡ record (seen p) { background = Some (marking_by v.shades) }
    begun_seen = λ j. record (seen p) { background = running_marking v running j }

    begun_answer : (marking : Marking) × IsBegun (seen p) marking
        × (seen (record p { background = v }) ≡ record (seen p) { background = Some marking })
    begun_answer = (marking_by v.shades, is_begun, begun_seen)

    module _ (whole : HaveWholeObjects p.types p.space.heap v.shades)
        (counted : IsCounted (objects_in p.types p.space.heap) v) (parts : AreParts v.shades v.parts)
        (tiled : AreTiled p.types p.space.heap v.shades v.parts) (fronts : length v.fronts ≡ length v.shades) where
      -- nothing is black yet
      begun_marked : IsMarkedSoFar (seen (record p { background = v })) v
      begun_marked =
          let colours = objects_coloured p.types p.space.heap is.heap is.shown.held v.shades known in
          record {
            colours = colours;
            counted = counted ∙ sym (ap (λ (k : Marking). length k.gray) same_begun);
            whole = stands_whole v.shades v.parts colours whole tiled;
            parts = parts;
            fronts = fronts;
            log = λ o i name here black e. elim (subst (IsIn o.name) is_begun.black black) [ ];
          }

      begun_kept : IsRuntime (record p { background = v })
      begun_kept = record {
        shown = record {
          locals = is.shown.locals;
          held = is.shown.held;
          unmarked = is.shown.unmarked;
          free_heads = is.shown.free_heads;
          clean = is.shown.clean;
          sound = subst IsPlaceNamed (sym begun_seen)
              (remarked_place_named (seen p) is.shown.sound p.collector.compacts_large (Some (marking_by v.shades))
              (begun_lawful (seen p) (marking_by v.shades) is_begun));
          marked = λ running. begun_marked;
        };
        heap = is.heap;
        tables = is.tables;
        owed = is.owed;
        finalizers = is.finalizers;
        index = is.index;
        large = is.large;
        pinned = is.pinned;
        limit = is.limit;
        ready = is.ready;
      }

  -- where there was memory for it, and where there was none
  module _ {E : Type 0} (v : BackgroundView) (r : Result (Unit {0}) E) where
    pub begun_ok : OnOk r (v.running ≡ true)
        → OnOk r (HasBegun p.types p.space.heap p.roots.handles p.roots.locals.items p.roots.finals.ready v.shades)
        → OnOk r (AreObjects p.types p.space.heap v.shades)
        → OnOk r ((marking : Marking) × IsBegun (seen p) marking
        × (seen (record p { background = v }) ≡ record (seen p) { background = Some marking }))
    begun_ok = go r
      where
        go : (r : Result (Unit {0}) E) → OnOk r (v.running ≡ true)
            → OnOk r (HasBegun p.types p.space.heap p.roots.handles p.roots.locals.items p.roots.finals.ready v.shades)
            → OnOk r (AreObjects p.types p.space.heap v.shades)
            → OnOk r ((marking : Marking) × IsBegun (seen p) marking
            × (seen (record p { background = v }) ≡ record (seen p) { background = Some marking }))
        go (Ok done) running begun known = begun_answer v running begun known
        go (Err fault) running begun known = tt

    pub begun_runtime : OnOk r (v.running ≡ true)
        → OnOk r (HasBegun p.types p.space.heap p.roots.handles p.roots.locals.items p.roots.finals.ready v.shades)
        → OnOk r (AreObjects p.types p.space.heap v.shades) → OnOk r (HaveWholeObjects p.types p.space.heap v.shades)
        → OnOk r (IsCounted (objects_in p.types p.space.heap) v) → OnOk r (AreParts v.shades v.parts)
        → OnOk r (AreTiled p.types p.space.heap v.shades v.parts) → OnOk r (length v.fronts ≡ length v.shades)
        → OnErr r (v ≡ p.background) → IsRuntime (record p { background = v })
    begun_runtime = go r
      where
        go : (r : Result (Unit {0}) E) → OnOk r (v.running ≡ true)
            → OnOk r (HasBegun p.types p.space.heap p.roots.handles p.roots.locals.items p.roots.finals.ready v.shades)
            → OnOk r (AreObjects p.types p.space.heap v.shades)
            → OnOk r (HaveWholeObjects p.types p.space.heap v.shades)
            → OnOk r (IsCounted (objects_in p.types p.space.heap) v) → OnOk r (AreParts v.shades v.parts)
            → OnOk r (AreTiled p.types p.space.heap v.shades v.parts) → OnOk r (length v.fronts ≡ length v.shades)
            → OnErr r (v ≡ p.background) → IsRuntime (record p { background = v })
        go (Ok done) running begun known whole counted parts tiled fronts same =
            begun_kept v running begun known whole counted parts tiled fronts
        go (Err fault) running begun known whole counted parts tiled fronts same =
            subst (λ (w : BackgroundView). IsRuntime (record p { background = w })) (sym same) is

    pub begun_err : OnErr r (v ≡ p.background) → OnErr r (seen (record p { background = v }) ≡ seen p)
    begun_err = go r
      where
        go : (r : Result (Unit {0}) E) → OnErr r (v ≡ p.background)
            → OnErr r (seen (record p { background = v }) ≡ seen p)
        go (Ok done) same = tt
        go (Err fault) same = ap (λ (w : BackgroundView). seen (record p { background = w })) same

  -- ---- steps of the marker

  module _ (runs : p.background.running ≡ true) where
    abbrev old_shades : List ShadeView
    old_shades = p.background.shades

    so_far : IsMarkedSoFar (seen p) p.background
    so_far = is.shown.marked runs

    pub runs_seen : (seen p).background ≡ Some (marking_by p.background.shades)
    runs_seen = running_marking p.background runs

    pub parts_objects : AreObjects p.types p.space.heap p.background.shades
    parts_objects =
        coloured_objects (seen p) is.shown.sound p.types p.space.heap refl p.background.shades runs_seen so_far.colours

    pub parts_whole : HaveWholeObjects p.types p.space.heap p.background.shades
    parts_whole = slots_whole p.background.shades p.background.parts so_far.colours parts_objects so_far.whole

    -- the old parts of the segments are those of the first pause, and there is room for their fronts
    pub parts_old : AreParts p.background.shades p.background.parts
    parts_old = so_far.parts

    pub parts_tiled : AreTiled p.types p.space.heap p.background.shades p.background.parts
    parts_tiled = edges_tiled p.background.shades p.background.parts so_far.colours parts_objects so_far.whole

    pub parts_fronts : length p.background.fronts ≡ length p.background.shades
    parts_fronts = so_far.fronts

    pub same_old : marking_by p.background.shades ≡ marking_in (objects_in p.types p.space.heap) p.background.shades
    same_old = marking_is p.types p.space.heap is.heap is.shown.held old_shades parts_objects

    -- no thread is between the halves of a step: what black objects name is gray or black, or logged
    pub parts_log : lowest_in_step (seen p) ≡ None
        → LogHolds p.types (objects_in p.types p.space.heap) p.background.shades
    parts_log idle = (
      seen p,
      refl,
      refl,
      subst (λ (k : Marking). StrictLogLaw (seen p) k (is_logged old_shades)) same_old
          (strict_log_holds (seen p) (marking_by old_shades) (is_logged old_shades) idle so_far.log),
    )

    pub parts_counted : IsCounted (objects_in p.types p.space.heap) p.background
    parts_counted = so_far.counted ∙ ap (λ (k : Marking). length k.gray) same_old

    module _ (v : BackgroundView) (n scanned gray : ℕ) (running : v.running ≡ p.background.running)
        (known : AreObjects p.types p.space.heap v.shades) (counted : IsCounted (objects_in p.types p.space.heap) v)
        (log : HasLogged p.types (objects_in p.types p.space.heap) p.background.shades v.shades)
        (scans : HasScanned (objects_in p.types p.space.heap) n p.background.shades scanned v.shades)
        (left : gray ≡ length (marking_in (objects_in p.types p.space.heap) v.shades).gray) where
      same_new : marking_by v.shades ≡ marking_in objects v.shades
      same_new = marking_is p.types p.space.heap is.heap is.shown.held v.shades known

      scans_seen : ScansUpTo (seen p) n (marking_by old_shades) scanned (marking_by v.shades)
      scans_seen =
          subst (ScansUpTo (seen p) n (marking_by old_shades) scanned) (sym same_new)
          (subst (λ k. ScansUpTo (seen p) n k scanned (marking_in objects v.shades)) (sym same_old)
          (scans (seen p) refl))

      scanned_seen : seen (record p { background = v }) ≡ record (seen p) { background = Some (marking_by v.shades) }
      scanned_seen = λ j. record (seen p) { background = running_marking v (running ∙ runs) j }

      pub scanned_answer : (old new : Marking) × ((seen p).background ≡ Some old) × ScansUpTo (seen p) n old scanned new
          × (gray ≡ length new.gray)
          × (seen (record p { background = v }) ≡ record (seen p) { background = Some new })
      scanned_answer = (
        marking_by old_shades,
        marking_by v.shades,
        runs_seen,
        scans_seen,
        left ∙ sym (ap (λ (k : Marking). length k.gray) same_new),
        scanned_seen,
      )

      marks_on : MarksOn (seen p) (marking_by old_shades) (marking_by v.shades)
      marks_on = scans_on_marking (seen p) n (marking_by old_shades) scanned (marking_by v.shades) scans_seen

      log_now : LogLaw (seen p) (marking_by v.shades) (is_logged v.shades)
      log_now =
          read_law (seen p) (marking_by old_shades) (marking_by v.shades) (is_logged old_shades) (is_logged v.shades)
          (subst (λ k. LogsRead (seen p) (marking_by old_shades) k (is_logged old_shades) (is_logged v.shades))
          (sym same_new)
          (subst (λ k. LogsRead (seen p) k (marking_in objects v.shades) (is_logged old_shades) (is_logged v.shades))
          (sym same_old) (log (seen p) refl refl))) marks_on so_far.log

      module _ (taken_same : map without_colours v.shades ≡ map without_colours p.background.shades)
          (parts_same : v.parts ≡ p.background.parts) (fronts_same : v.fronts ≡ p.background.fronts) where
        -- what was taken stands as it stood
        whole_now : StandWhole (seen p) (marking_by v.shades) v.shades v.parts
        whole_now o here took =
            subst (λ ps. StandsWhole v.shades ps o.place (form_at p.types o.type) o.len) (sym parts_same)
            (same_stands old_shades v.shades taken_same p.background.parts o.place (form_at p.types o.type) o.len
            (so_far.whole o here ((marks_on.same o.name).1 took)))

        scanned_marked : IsMarkedSoFar (seen (record p { background = v })) v
        scanned_marked = record {
          colours = objects_coloured p.types p.space.heap is.heap is.shown.held v.shades known;
          counted = counted ∙ sym (ap (λ (k : Marking). length k.gray) same_new);
          whole = whole_now;
          parts = subst (AreParts v.shades) (sym parts_same)
              (same_parts old_shades v.shades taken_same p.background.parts so_far.parts);
          fronts = ap length fronts_same ∙ so_far.fronts ∙ sym (same_count old_shades v.shades taken_same);
          log = log_now;
        }

        pub scanned_kept : IsRuntime (record p { background = v })
        scanned_kept = record {
          shown = record {
            locals = is.shown.locals;
            held = is.shown.held;
            unmarked = is.shown.unmarked;
            free_heads = is.shown.free_heads;
            clean = is.shown.clean;
            sound = subst IsPlaceNamed (sym scanned_seen)
                (remarked_place_named (seen p) is.shown.sound p.collector.compacts_large (Some (marking_by v.shades))
                (scans_lawful (seen p) n (marking_by old_shades) scanned (marking_by v.shades)
                (subst (λ r. IfSome r (IsLawfulMarking (seen p))) runs_seen is.shown.sound.lawful.marking) scans_seen));
            marked = λ running. scanned_marked;
          };
          heap = is.heap;
          tables = is.tables;
          owed = is.owed;
          finalizers = is.finalizers;
          index = is.index;
          large = is.large;
          pinned = is.pinned;
          limit = is.limit;
          ready = is.ready;
        }
