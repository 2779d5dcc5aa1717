-- A whole collection: what is marked is what is kept, and the parts make the collection of every machine whose world it
-- is.
use Rattle.std.proofs.Common.{◌≡◌, ◌≢◌, ℕ, ◌≤◌, Bool, true, false, if◌then◌else◌, List, [], ◌++◌, refl, ap, sym}
use Rattle.std.proofs.Common.{◌∙◌, subst, arith, None, Option, Some, IsSome, ◌%◌, ◌<◌, ◌==◌, true≢false}
use Rattle.std.specs.Prelude.{MatchBool}
use Rattle.std.proofs.lemmas.Bool.{lt-leb}
use Rattle.std.specs.List.{AllByRecursion}
use Rattle.std.specs.FinMap.{FinMap}
use Rattle.std.specs.Ordering.{nat_cmp}
use Rattle.clr_types.specs.LawfulLayout.{DoesNotCross, IsTiled}
use Rattle.clr_types.specs.Ranges.{by_place, Piece}
use Rattle.clr_types.specs.Rising.{IsIn}
use Rattle.clr_types.specs.Segments.{generation, Layout, rest_pieces, segment_of}
use Rattle.clr_types.specs.Types.{TypeRow}
use Rattle.clr_types.specs.declared.handle.Handle.{Handle}
use Rattle.clr_types.specs.declared.item.Item.{Item}
use Rattle.clr_types.proofs.ChangedLists.{IsIn-map, out_of_filter}
use Rattle.clr_types.proofs.ListMembers.{map-map}
use Rattle.clr_final.specs.Queues.{Queues}
use Rattle.clr_heap.specs.Parts.{item_at}
use Rattle.clr_heap.specs.View.{frame, HeapView, no_rests, word_of}
use Rattle.clr_model.specs.declared.Collected.{Collected}
use Rattle.std.proofs.Common.{◌+◌, ◌-◌, not, ◌||◌, nat_le}
use Rattle.clr_model.specs.Collection.{begun, object_after}
use Rattle.clr_model.specs.Lawful.{IsLaid, IsPlaceNamed}
use Rattle.clr_model.specs.Lookups.{lowest_in_step, object_piece, pieces}
use Rattle.clr_model.specs.Machine.{Machine, Object}
use Rattle.clr_model.proofs.GivenUp.{given_up_laid}
use Rattle.clr_view.specs.Clean.{AreClean}
use Rattle.clr_view.specs.Marks.{has_mark, IsUnmarked, Marked}
use Rattle.clr_view.specs.Memory.{is_left, is_left_name, is_marked, is_reached_by, IsMemoryOf}
use Rattle.clr_view.specs.Memory.{word_without_mark}
use Rattle.clr_view.specs.SlotValues.{StandsAt}
use Rattle.clr_view.specs.View.{layout_in, objects_in, tail_of}
use Rattle.clr_view.specs.World.{IsWorldOf, World}
use Rattle.clr_view.proofs.CleanWords.{clean_but_marks}
use Rattle.clr_view.proofs.LeftNames.{left-name}
use Rattle.clr_view.proofs.ObjectItems.{stands-item}
use Rattle.clr_view.proofs.Standing.{standing}
use Rattle.clr_ctx.specs.Contexts.{IsIndex}
use Rattle.clr_covers.specs.Covers.{CoverView, spans}
use Rattle.clr_bricks.specs.Bricks.{entry_at}
use Rattle.clr_generations.specs.Laws.{BrickLaw}
use Rattle.clr_generations.specs.Tables.{AreTablesOf}
use Rattle.std.specs.Prelude.{ℤ}
use Rattle.clr_collect.proofs.SweptCards.{tables_swept}
use Rattle.clr_sweep.specs.Swept.{HasSwept}
use Rattle.clr_sweep.proofs.ObjectsSwept.{mark-elsewhere}
use Rattle.clr_collect.specs.Collecting.{HasMarkedKept, LeavesKept, objects_unflagged}
use Rattle.clr_collect.specs.Collecting.{world_with}
use Rattle.clr_collect.specs.Released.{HasLost, HasReleased}
use Rattle.clr_survivors.proofs.LeftGoes.{condemned-is}
use Rattle.clr_collect.proofs.SegmentsLost.{lost-refl, lost_objects}
use Rattle.clr_collect.proofs.SweepCollects.{KeepsOlder, rests_swept, swept_machine, swept_memory}
use Rattle.clr_collect.proofs.SweptLayouts.{whole_tail}
use Rattle.clr_collect.proofs.YoungItems.{none_young}

-- The heap of a world before its collection, and before its sweep, with what is kept marked.
module _ {start : Machine → ℕ → Type 0} (w : World) (marked : HeapView) (handles : FinMap nat_cmp Handle)
    (queues : Queues) (g : ℕ) (least : g ≤ 2) (k : HasMarkedKept w start marked handles queues g) where
  abbrev rows : List TypeRow
  rows = w.rows

  -- what is left passes
  abbrev pub left : ℕ → Bool
  left = is_left_name w.rows marked g

  -- ---- one machine when its contexts are given up

  pub begun_laid : (m : Machine) → IsPlaceNamed m → IsLaid (begun m)
  begun_laid m named = given_up_laid m named.lawful.laid

  -- the machine before the sweep: objects have lost the flags of entries that are dropped
  abbrev pub due : Machine → Machine
  due m = record (begun m) { objects = objects_unflagged (begun m) k.first }

  pub due_memory : (m : Machine) → IsWorldOf w m → IsPlaceNamed m → IsMemoryOf w.rows marked (due m)
  due_memory m is named = record {
    types = is.memory.types;
    objects = sym (k.leaves m is named).objects;
    layout = ap (λ (l : Layout). (begun (record m { layout = l })).layout) is.memory.layout ∙ sym k.layout;
  }

  -- older objects are left
  pub older_kept : (m : Machine) → IsWorldOf w m → IsPlaceNamed m → KeepsOlder (begun m) g left
  older_kept m is named o i off =
      let memory = due_memory m is named in
      let there : IsIn (object_after (begun m) k.first [] o) (objects_in w.rows marked) =
      subst (λ (os : List Object). IsIn (object_after (begun m) k.first [] o) os) memory.objects
      (IsIn-map (object_after (begun m) k.first []) i) in
      left-name w.rows marked g (object_after (begun m) k.first [] o) there
      ∙ ap (λ (b : Bool). not b || is_marked marked o)
      (ap (λ (l : Layout). nat_le (generation l o.place) g) (sym memory.layout) ∙ off)

  abbrev pub Known : Type 0
  Known = (m : Machine) × IsWorldOf w m × IsPlaceNamed m × (lowest_in_step m ≡ None)

  pub due_laid : (m : Machine) → IsPlaceNamed m → IsLaid (due m)
  due_laid m named =
      let laid = begun_laid m named in
      let same : pieces (begun m) ≡ pieces (due m) =
      ap (λ (ps : List Piece). by_place ((ps ++ (begun m).layout.free) ++ rest_pieces (begun m).layout.rests))
      (sym (map-map (object_after (begun m) k.first []) (object_piece m.types) m.objects)) in
      record {
        layout = laid.layout;
        housed = subst (AllByRecursion (λ (p : Piece). IsSome (segment_of (begun m).layout p.place))) same laid.housed;
        tiled = subst (λ ps. AllByRecursion (IsTiled ps) (begun m).layout.segments) same laid.tiled;
        whole1 = subst (AllByRecursion (DoesNotCross (begun m).layout.start1)) same laid.whole1;
        whole0 = subst (AllByRecursion (DoesNotCross (begun m).layout.start0)) same laid.whole0;
      }

  -- what the sweep wants to know
  pub memory_laid : Known → (n : Machine) × IsMemoryOf w.rows marked n × IsLaid n
  memory_laid (m, is, named, idle) = (due m, due_memory m is named, due_laid m named)

  -- ---- afterwards

  module _ (swept : HeapView) (s : HasSwept w.rows marked swept g) where
    -- a sweep gives no context
    pub none_given : Known → swept.rests ≡ no_rests
    none_given (m, is, named, idle) =
        rests_swept (begun m) (begun_laid m named) g least k.first left (older_kept m is named) w.rows marked
        (due_memory m is named) k.marks swept s
        ∙ ap (λ (l : Layout). l.rests) (due_memory m is named).layout
        ∙ k.no_contexts

    -- cards and bricks of the swept heap
    pub whole_tables : Known → (cards : List (CoverView ℕ)) (was bricks : List (CoverView ℤ))
        → AreTablesOf w.rows marked cards was → spans bricks ≡ spans was
        → BrickLaw w.rows (frame swept) (objects_in w.rows swept) (entry_at bricks)
        → AreTablesOf w.rows swept cards bricks
    whole_tables (m, is, named, idle) =
        tables_swept (begun m) (begun_laid m named) g least k.first left (older_kept m is named) w.rows marked
        (due_memory m is named) k.marks swept s

    -- ---- marks

    -- an object of the swept heap that isn't condemned has the word that it had before
    older-word : (x : ℕ) → StandsAt w.rows swept x → g < generation (frame marked) x
        → word_of swept x ≡ word_of marked x
    older-word x stands above =
        let i = item_at w.rows (word_of swept) x in
        let at = stands-item w.rows swept s.heap s.held x stands in
        let here = standing w.rows swept s.heap s.held i at.listed in
        let least = here.least in
        let place = at.at in
        let z : x % 8 ≡ 0 = subst (λ (p : ℕ). p % 8 ≡ 0) at.at here.aligned in
        let old : is_reached_by marked g i.place ≡ false =
        ap (is_reached_by marked g) at.at ∙ lt-leb (generation (frame marked) x) g above in
        s.cells i x at.listed at.object z (omega arith) (omega arith)
        ∙ ap (λ (b : Bool). if b then word_without_mark marked i x else word_of marked x) old

    stands-marked : (x : ℕ) → StandsAt w.rows swept x → StandsAt w.rows marked x
    stands-marked x (o, i, at) = (
      o,
      (out_of_filter (is_left marked g) o (objects_in w.rows marked)
          (subst (λ (os : List Object). IsIn o os) s.objects i)).1,
      at,
    )

    -- no mark is left in the swept heap, since no older object had one
    pub swept-unmarked : IsUnmarked w.rows swept
    swept-unmarked x u =
        let above = s.unmarked x u in
        let was : Marked w.rows marked x = record {
          stands = stands-marked x u.stands;
          mark = sym (ap has_mark (older-word x u.stands above)) ∙ u.mark;
        } in
        true≢false (sym (k.young x was) ∙ condemned-is marked g x ∙ lt-leb (generation (frame marked) x) g above)

    -- ---- clean words

    -- all that stays was there before, and the sweep clears only marks
    pub clean-swept : AreClean w.rows marked → AreClean w.rows swept
    clean-swept =
        clean_but_marks w.rows marked swept k.heap k.held s.heap s.held (λ o i.
        let listed = subst (λ (os : List Object). IsIn o os) s.objects i in
        (out_of_filter (is_left marked g) o (objects_in w.rows marked) listed).1)
        (λ i b was l object aligned low high apart.
        s.cells i b l object aligned low high ∙ unmarked-elsewhere (is_reached_by marked g i.place) i b apart)
      where
        unmarked-elsewhere : (t : Bool) (i : Item) (b : ℕ) → b ≢ i.place
            → (if t then word_without_mark marked i b else word_of marked b) ≡ word_of marked b
        unmarked-elsewhere true i b apart = mark-elsewhere marked i b apart
        unmarked-elsewhere false i b apart = refl

    module _ (new : HeapView) (ended : MatchBool (g == 2) (HasReleased w.rows swept new) (new ≡ swept)) where
      -- whether or not segments were given back, all items stay
      pub lost : HasLost w.rows swept new
      lost = go (g == 2) ended
        where
          go : (b : Bool) → MatchBool b (HasReleased w.rows swept new) (new ≡ swept) → HasLost w.rows swept new
          go true r = r.lost
          go false same = subst (HasLost w.rows swept) (sym same) (lost-refl w.rows swept s.heap s.held)

      abbrev pub world : World
      world = world_with w.rows new w.locals handles queues

      pub limit_after : new.limit ≡ w.heap.limit
      limit_after = ap (λ (h : HeapView). h.limit) lost.others ∙ s.limit ∙ k.limit

      -- ---- one machine

      module _ (m : Machine) (is : IsWorldOf w m) (named : IsPlaceNamed m) where
        abbrev leaves : LeavesKept (begun m) (start m) k.first left (objects_in w.rows marked) handles queues
        leaves = k.leaves m is named

        abbrev pub after : Collected → Machine
        after = swept_machine (begun m) (begun_laid m named) g least k.first left (older_kept m is named)

        memory-after : (answer : Collected) → IsMemoryOf w.rows new (after answer)
        memory-after =
            swept_memory (begun m) (begun_laid m named) g least k.first left (older_kept m is named) w.rows marked
            (due_memory m is named) k.marks swept s new ended

        pub world-after : (answer : Collected) → IsWorldOf world (after answer)
        world-after answer = record {
          memory = memory-after answer;
          locals = is.locals;
          handles = sym leaves.handles;
          entries = sym leaves.entries;
          ready = sym leaves.ready;
        }

      -- THE INDEX: no free item is of generation 0
      pub new_index : Known → (index : Option (List Piece)) → index ≡ Some [] → IsIndex w.rows new index
      new_index (m, is, named, idle) index none =
          let answer : Collected =
          record {
            generation = g;
            compacted = false;
            fitted = false;
            background = false;
            kept = 0;
            freed = 0;
            promoted1 = 0;
            promoted2 = 0;
          } in
          let layout = (memory-after m is named answer).layout in
          let tail : new.start0 ≡ tail_of new =
          whole_tail (begun m) (begun_laid m named) g least left (after m is named answer).objects
          (layout_in w.rows new)
          (sym layout) in
          subst (IsIndex w.rows new) (sym none) (sym (none_young w.rows new lost.heap lost.held tail))

      -- ---- marks

      -- nor in what is left of it
      pub none_marked : IsUnmarked w.rows new
      none_marked x u =
          let objects = lost_objects w.rows swept new s.heap s.held lost in
          let stands : StandsAt w.rows swept x = subst (λ (os : List Object). (o : Object) × IsIn o os × (o.place ≡ x))
          objects u.stands in
          let i = item_at w.rows (word_of swept) x in
          let at = stands-item w.rows swept s.heap s.held x stands in
          let here = standing w.rows swept s.heap s.held i at.listed in
          let least = here.least in
          let place = at.at in
          let same : word_of new x ≡ word_of swept x = lost.cells i x at.listed (omega arith) (omega arith) in
          swept-unmarked x (record { stands = stands; mark = sym (ap has_mark same) ∙ u.mark })
