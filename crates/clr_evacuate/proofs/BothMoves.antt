-- A fit, and then a compaction of generation 1 of what is seen of it: both are a fitting.
use Rattle.std.proofs.Common.{◌≡◌, ℕ, ◌+◌, ◌-◌, ◌^◌, ◌<◌, ◌≤◌, Bool, true, false, ◌&&◌, ◌==◌, List, [], ◌∷◌}
use Rattle.std.proofs.Common.{◌++◌, drop, filter, if◌then◌else◌, map, min, length, refl, ap, sym, ◌∙◌, subst, arith, sum_by}
use Rattle.std.proofs.Math.Seq.{drop-append_seam}
use Rattle.std.specs.FinMap as finmap
use Rattle.std.specs.FinMap.{FinMap}
use Rattle.std.specs.Ordering.{nat_cmp}
use Rattle.clr_types.specs.Maps.{map_values}
use Rattle.clr_types.specs.Rising.{first, IsIn, later, sorted_by}
use Rattle.clr_types.specs.Segments.{ephemeral, generation, Layout, rest_pieces}
use Rattle.clr_types.specs.declared.handle.Handle.{Handle}
use Rattle.clr_types.proofs.ChangedLists.{rising-distinct}
use Rattle.clr_types.proofs.ListMembers.{distinct_of_sorted, filter-map, filter-on, map-map, map-on}
use Rattle.clr_types.proofs.ListSums.{sum-filter_below}
use Rattle.clr_types.proofs.MapValues.{get-map_values, map_values-same}
use Rattle.clr_types.proofs.PieceGaps.{IsGapped}
use Rattle.clr_types.proofs.Shuffles.{IsShuffled, shuffled-filter, shuffled-map, shuffled-sorted, shuffled-sorts}
use Rattle.clr_types.proofs.Shuffles.{shuffled-sym}
use Rattle.clr_types.proofs.SortedLists.{IsDistinctBy}
use Rattle.std.specs.Option.{option_map}
use Rattle.std.proofs.Common.{None, Option, Some}
use Rattle.clr_final.specs.Queues.{Queues}
use Rattle.clr_handles.specs.Laws.{relocated}
use Rattle.clr_heap.specs.View.{heap_items, HeapView, IsHeap, word_of}
use Rattle.clr_model.specs.Collection.{bytes_promoted}
use Rattle.clr_model.specs.Compaction.{IsCompacted, Move, moved_by}
use Rattle.clr_model.specs.Lookups.{object_size}
use Rattle.clr_model.specs.Machine.{Machine, num, Object, ref, Value}
use Rattle.clr_model.specs.Sweep.{part_start, survivors}
use Rattle.clr_model.proofs.CondemnedParts.{start-ephemeral, young-only}
use Rattle.clr_model.proofs.LawfulPieces.{places-distinct}
use Rattle.clr_model.proofs.LawfulSurvivors.{IsPlugOf, plug-is}
use Rattle.clr_model.proofs.MovedPlaces.{landing}
use Rattle.clr_fitting.specs.Laws.{Compacts, IsPromotedTwice}
use Rattle.clr_fitting.specs.Steps.{fitted, fitted_bytes, IsFitMove}
use Rattle.clr_fitting.proofs.AlikeLayouts.{same-compaction}
use Rattle.clr_fitting.proofs.FitMoves.{move_is}
use Rattle.clr_fitting.proofs.FittedBytes.{fitted_bytes_are}
use Rattle.clr_fitting.proofs.MovesInTurn.{in_turn}
use Rattle.clr_fitting.proofs.PromotedTwice.{promoted_twice}
use Rattle.clr_fitting.proofs.SeenFitted.{promoted_seen}
use Rattle.clr_fitting.proofs.SeenSteps.{seen_survive}
use Rattle.clr_fitting.proofs.TwoSteps.{stays_laid, two_steps}
use Rattle.clr_view.specs.Memory.{is_left}
use Rattle.clr_view.specs.View.{IsHeld, layout_in, objects_in}
use Rattle.clr_view.proofs.HeldBytes.{objects_bytes_bounded}
use Rattle.clr_view.proofs.Listings.{heap-rise}
use Rattle.clr_view.proofs.Rises.{objects-rise}
use Rattle.clr_moves.specs.Moves.{goes, moved_bytes}
use Rattle.clr_moves.specs.Objects.{moved_object, relocated_object, relocated_value}
use Rattle.clr_survivors.specs.Survivors.{HaveMoved, left_objects, world_with}
use Rattle.clr_view.specs.World.{World}
use Rattle.clr_evacuate.specs.Evacuated.{moves_in}
use Rattle.clr_evacuate.proofs.LeftAfterFit.{bare, FitStages, IsFit, left-still, null-fits, world_before, world_between}
use Rattle.clr_evacuate.proofs.SeenAfterFit.{kept_then, seen-as, seen_in}

-- ---- names that go twice

map-twice : (f g h : ℕ → ℕ) → ((x : ℕ) → h x ≡ g (f x)) → (was mid now : List ℕ) → mid ≡ map f was → now ≡ map g mid
    → now ≡ map h was
map-twice f g h both was mid now e d =
    d ∙ ap (map g) e ∙ map-map f g was ∙ map-on (λ x. g (f x)) h was (λ x i. sym (both x))

rows-twice : (f g h : ℕ → ℕ) → ((x : ℕ) → h x ≡ g (f x)) → (was mid now : FinMap nat_cmp Handle)
    → mid ≡ map_values (relocated f) was → now ≡ map_values (relocated g) mid → now ≡ map_values (relocated h) was
rows-twice f g h both was mid now e d =
    d ∙ ap (map_values (relocated g)) e
    ∙ map_values-same _ _
    (λ k. get-map_values (relocated g) (map_values (relocated f) was) k
    ∙ ap (option_map (relocated g)) (get-map_values (relocated f) was k)
    ∙ at (finmap.get was k) ∙ sym (get-map_values (relocated h) was k))
  where
    at : (found : Option Handle)
        → option_map (relocated g) (option_map (relocated f) found) ≡ option_map (relocated h) found
    at None = refl
    at (Some row) =
        let target = both row.target in let second = both row.second in
        λ k. Some (record row { target = sym target k; second = sym second k })

-- ---- both steps

-- what the moves behind the fit leave, and what is counted before and after both
pub record MoveStages : Type 0 where
  pub new : HeapView
  pub locals_new : List ℕ
  pub table_new : FinMap nat_cmp Handle
  pub queues_new : Queues
  pub to1 : ℕ
  pub to2 : ℕ
  pub before : ℕ
  pub after : ℕ

abbrev pub world_after : FitStages → MoveStages → World
world_after s e = world_with s.rows e.new e.locals_new e.table_new e.queues_new

-- the moves that were made of what is seen after the fit
abbrev pub HaveMovedThen : FitStages → MoveStages → Machine → (ℕ → Bool) → Type 0
HaveMovedThen s e n kept =
    HaveMoved false (world_between s) (world_after s e) 1 (seen_in s.rows s.mid s.table_mid n) (kept_then n kept) e.to1
    e.to2 e.before e.after

module _ (s : FitStages) (n : Machine) (kept : ℕ → Bool) (f : IsFit s n kept) (e : MoveStages)
    (d : HaveMovedThen s e n kept) where
  abbrev F : List Move
  F = moves_in n kept

  abbrev others : List Move
  others = d.moves

  abbrev seen : Machine
  seen = seen_in s.rows s.mid s.table_mid n

  one : 1 ≤ 2
  one = omega arith

  none : rest_pieces n.layout.rests ≡ []
  none = bare s n kept f

  compacts : Compacts (fitted n kept) kept d.moves d.after
  compacts =
      let is-seen = seen-as s n kept f in
      subst (λ ks. IsCompacted (fitted n kept).layout 1 ks d.moves d.after)
      (seen_survive (fitted n kept) kept seen (kept_then n kept) is-seen 1
      (places-distinct (fitted n kept) (stays_laid n kept f.laid none)))
      (same-compaction (fitted n kept).layout seen.layout is-seen.layout (survivors seen 1 (kept_then n kept)) d.moves
      d.after d.compacted)

  -- the compaction takes nothing from below the first boundary
  starts : (w : Move) → IsIn w d.moves → n.layout.start1 ≤ w.start
  starts w i =
      let laid = stays_laid n kept f.laid none in
      let (p, j, l) = landing (fitted n kept) laid 1 one kept d.moves d.after compacts w i in
      let is : IsPlugOf (fitted n kept) laid 1 one kept p =
      plug-is (fitted n kept) laid 1 one kept p (subst (IsIn p) compacts.plugs_are j) in
      let home : is.home ≡ ephemeral n.layout =
      young-only (fitted n kept).layout laid.layout 1 one is.home is.among (omega arith) in
      let from : IsGapped (part_start (fitted n kept).layout 1 is.home) p.start = is.from in
      let begins : part_start (fitted n kept).layout 1 is.home ≡ n.layout.start1 =
      ap (part_start (fitted n kept).layout 1) home ∙ start-ephemeral (fitted n kept).layout laid.layout 1 one in
      let start = l.start in
      omega (arith, from, begins, start)

  -- A PLACE goes where the fit takes it, and from there where the compaction does
  twice : (x : ℕ) → moved_by (moves_in n kept ++ d.moves) x ≡ moved_by d.moves (moved_by (moves_in n kept) x)
  twice x = in_turn n.layout.start1 F others (λ v i. (move_is n kept f.laid none v i).to) starts x

  abbrev go : List Move → Object → Object
  go vs o = moved_object vs (relocated_object vs o)

  value-twice : (v : Value) → relocated_value d.moves (relocated_value (moves_in n kept) v)
      ≡ relocated_value (moves_in n kept ++ d.moves) v
  value-twice (ref x) = ap ref (sym (twice x))
  value-twice (num x) = refl

  object-twice : (o : Object) → go d.moves (go (moves_in n kept) o) ≡ go (moves_in n kept ++ d.moves) o
  object-twice o =
      let place = twice o.place in
      let slots : map (relocated_value others) (map (relocated_value F) o.slots)
      ≡ map (relocated_value (F ++ others)) o.slots =
      map-map (relocated_value F) (relocated_value others) o.slots
      ∙ map-on (λ v. relocated_value others (relocated_value F v)) (relocated_value (F ++ others)) o.slots
      (λ v i. value-twice v) in
      λ k. record o { name = sym place k; place = sym place k; slots = slots k }

  -- OBJECTS that are left are those that are left by both, where both take them
  objects-twice : IsHeap e.new → IsHeld s.rows e.new → objects_in s.rows e.new
      ≡ sorted_by (λ o. o.name) (left_objects s.rows s.old 1 (moves_in n kept ++ d.moves))
  objects-twice heap held =
      d.objects ∙ shuffled-sorts name (shuffled-sym mapped) distinct ∙ ap (sorted_by name) both
    where
      name : Object → ℕ
      name o = o.name

      moved : List Object
      moved = map (go F) (objects_in s.rows s.old)

      mapped : IsShuffled (map (go others) (filter (is_left s.mid 1) moved)) (left_objects s.rows s.mid 1 others)
      mapped =
          shuffled-map (go others) (shuffled-filter (is_left s.mid 1)
          (subst (IsShuffled moved) (sym f.fitted.objects) (shuffled-sorted name moved)))

      distinct : IsDistinctBy name (left_objects s.rows s.mid 1 others)
      distinct =
          distinct_of_sorted name (left_objects s.rows s.mid 1 others)
          (subst (IsDistinctBy name) d.objects
          (rising-distinct name (objects_in s.rows e.new)
          (objects-rise s.rows (word_of e.new) (heap_items s.rows e.new) (heap-rise s.rows e.new held.walkable heap))))

      both : map (go others) (filter (is_left s.mid 1) moved) ≡ left_objects s.rows s.old 1 (F ++ others)
      both =
          ap (map (go others))
          (filter-map (go F) (is_left s.mid 1) (objects_in s.rows s.old)
          ∙ ap (map (go F))
          (filter-on (λ o. is_left s.mid 1 (go F o)) (is_left s.old 1) (objects_in s.rows s.old)
          (λ o i. left-still s n kept f o i)))
          ∙ map-map (go F) (go others) (filter (is_left s.old 1) (objects_in s.rows s.old))
          ∙ map-on (λ o. go others (go F o)) (go (F ++ others)) (filter (is_left s.old 1) (objects_in s.rows s.old))
          (λ o i. object-twice o)

  -- ---- bytes

  layout-is : layout_in s.rows e.new ≡ d.after
  layout-is = d.layout

  promoted : (age : ℕ)
      → bytes_promoted (seen_in s.rows s.mid s.table_mid n) (layout_in s.rows e.new) (kept_then n kept) d.moves age
      ≡ bytes_promoted (fitted n kept) d.after kept d.moves age
  promoted age =
      promoted_seen (fitted n kept) kept seen (kept_then n kept)
      (seen-as s n kept f) others (layout_in s.rows e.new) age
      ∙ ap (λ (l : Layout). bytes_promoted (fitted n kept) l kept others age) layout-is

  adds-up : IsPromotedTwice n kept d.moves d.after
  adds-up = promoted_twice n kept f.laid none d.moves d.after compacts

  first-bytes : e.to1 ≡ bytes_promoted n (layout_in s.rows e.new) kept (moves_in n kept ++ d.moves) 0
  first-bytes =
      d.promoted1_is ∙ promoted 0 ∙ sym adds-up.to1
      ∙ ap (λ (l : Layout). bytes_promoted n l kept (F ++ others) 0) (sym layout-is)

  pub second-bytes : e.to2 + s.bytes ≡ bytes_promoted n (layout_in s.rows e.new) kept (moves_in n kept ++ d.moves) 1
  second-bytes =
      let compacted = d.promoted2_is ∙ promoted 1 in
      let fit : s.bytes ≡ fitted_bytes n kept = f.fitted.counted ∙ fitted_bytes_are n kept f.laid none in
      (λ k. compacted k + fit k) ∙ sym adds-up.to2
      ∙ ap (λ (l : Layout). bytes_promoted n l kept (F ++ others) 1) (sym layout-is)

  -- they are no more than those of all objects
  pub few-bytes : IsHeap s.old → IsHeld s.rows s.old → e.to2 + s.bytes ≤ 1073741824
  few-bytes heap held =
      let is = second-bytes in
      let below : bytes_promoted n (layout_in s.rows e.new) kept (F ++ others) 1
      ≤ sum_by (object_size n.types) n.objects =
      sum-filter_below (λ (o : Object). kept o.name && ((generation n.layout o.place == 1)
      && (generation (layout_in s.rows e.new) (moved_by (F ++ others) o.place) == 2)))
      (object_size n.types) n.objects in
      let all : sum_by (object_size n.types) n.objects ≡ sum_by (object_size s.rows) (objects_in s.rows s.old) =
      let types = f.memory.types in let objects = f.memory.objects in
      λ k. sum_by (object_size (types k)) (objects k) in
      let bound = objects_bytes_bounded s.rows s.old heap held in
      let within = heap.within_limit in
      let small = heap.limit_small in
      omega (arith, is, below, all, bound, within, small)

  -- the count is that of the moves behind the fit
  counted-behind : e.after
      ≡ min (2 ^ 64 - 1) (e.before + (1 + moved_bytes (drop (length F) (F ++ others))))
  counted-behind =
      d.slid
      ∙ ap (λ (vs : List Move). min (2 ^ 64 - 1) (e.before + (1 + moved_bytes vs))) (sym (drop-append_seam F others))

  -- THE WORLD after both
  pub moved-twice : IsHeap e.new → IsHeld s.rows e.new → (all2 : ℕ) → all2 ≡ e.to2 + s.bytes
      → HaveMoved true (world_before s) (world_after s e) 1 n kept e.to1 all2 e.before e.after
  moved-twice heap held all2 sum = record {
    moves = F ++ others;
    after = d.after;
    compacted = two_steps n kept f.laid none others d.after compacts;
    null = twice 0 ∙ ap (moved_by others) (null-fits s n kept f) ∙ d.null;
    objects = objects-twice heap held;
    layout = d.layout;
    locals = map-twice (moved_by F) (moved_by others) (moved_by (F ++ others)) twice s.locals s.locals_mid e.locals_new
        f.fitted.locals d.locals;
    handles = rows-twice (moved_by F) (moved_by others) (moved_by (F ++ others)) twice s.table s.table_mid e.table_new
        f.fitted.handles d.handles;
    entries = map-twice (moved_by F) (moved_by others) (moved_by (F ++ others)) twice s.queues.entries
        s.queues_mid.entries e.queues_new.entries f.fitted.entries d.entries;
    ready = map-twice (moved_by F) (moved_by others) (moved_by (F ++ others)) twice s.queues.ready
        s.queues_mid.ready e.queues_new.ready f.fitted.ready d.ready;
    promoted1_is = first-bytes;
    promoted2_is = sum ∙ second-bytes;
    slid = counted-behind;
  }
