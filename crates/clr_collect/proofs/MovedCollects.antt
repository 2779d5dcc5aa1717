-- A collection that compacts, for every generation and every machine: from tests of what it keeps, and the moves.
use Rattle.std.proofs.Common.{◌≡◌, ℕ, ◌+◌, ◌==◌, ◌&&◌, Bool, true, false, not, if◌then◌else◌}
use Rattle.std.proofs.Common.{List, [], ◌++◌, filter, map, count_by, sum_by, refl, ap, ap₂, sym, ◌∙◌, subst}
use Rattle.std.specs.Prelude.{MatchBool}
use Rattle.std.specs.FinMap as finmap
use Rattle.std.specs.List.{list_any}
use Rattle.clr_types.specs.Rising.{sorted_by}
use Rattle.clr_types.specs.Kinds.{is_pinned_kind}
use Rattle.clr_types.specs.Segments.{generation, Layout}
use Rattle.clr_types.specs.declared.handle.Handle.{Handle}
use Rattle.clr_types.specs.declared.handle.Kind.{Kind}
use Rattle.clr_types.specs.declared.handle.Kind.TheVariants.{Dependent, Pinned, Strong, Weak, WeakLong}
use Rattle.clr_types.specs.Maps.{map_values}
use Rattle.clr_types.proofs.ListMembers.{any-map, any-on, filter-map, map-map, map-on, sum-mapped}
use Rattle.clr_types.proofs.MapValues.{values-map_values}
use Rattle.clr_model.specs.declared.Collected.{Collected}
use Rattle.clr_model.specs.declared.How.{How}
use Rattle.clr_model.specs.Collection.{bytes_promoted, compacts, decides_to_compact, is_fit, IsCollected, IsSmallLaid}
use Rattle.clr_model.specs.Collection.{kept_or_null, marking_after}
use Rattle.clr_model.specs.Collection.{object_after, objects_after, row_after, row_of_kind, sums_after}
use Rattle.clr_model.specs.Compaction.{Move, moved_by}
use Rattle.clr_model.specs.Fitting.{IsFitted}
use Rattle.clr_model.specs.Lookups.{is_pinned, object_size}
use Rattle.clr_model.specs.Machine.{Machine, Object}
use Rattle.clr_model.specs.Reach.{StartOf, woken}
use Rattle.clr_model.specs.Sweep.{is_condemned, Survivor, survivor, survivors, swept_others}
use Rattle.clr_collect.specs.Collecting.{objects_unflagged, TestsKept}
use Rattle.clr_survivors.specs.Survivors.{GoBy}

-- ---- pins

-- what becomes of a handle in a collection keeps its kind, and a pinned one's target
module _ (first kept : ℕ → Bool) where
  pins-after : (row : Handle) (name : ℕ)
      → (is_pinned_kind (row_after first kept row).kind && ((row_after first kept row).target == name))
      ≡ (is_pinned_kind row.kind && (row.target == name))
  pins-after row name = go row.kind refl
    where
      go : (kind : Kind) → row.kind ≡ kind
          → (is_pinned_kind (row_of_kind first kept kind row).kind
          && ((row_of_kind first kept kind row).target == name))
          ≡ (is_pinned_kind row.kind && (row.target == name))
      go Strong e = refl
      go Pinned e = refl
      go Weak e =
          ap (λ (k : Kind). is_pinned_kind k && (kept_or_null first row.target == name)) e
          ∙ sym (ap (λ (k : Kind). is_pinned_kind k && (row.target == name)) e)
      go WeakLong e =
          ap (λ (k : Kind). is_pinned_kind k && (kept_or_null kept row.target == name)) e
          ∙ sym (ap (λ (k : Kind). is_pinned_kind k && (row.target == name)) e)
      go Dependent e = dependent (kept row.target)
        where
          off : (k : Handle) → k.kind ≡ row.kind → (is_pinned_kind k.kind && (k.target == name)) ≡ false
          off k same = ap (λ (d : Kind). is_pinned_kind d && (k.target == name)) (same ∙ e)

          dependent : (b : Bool)
              → (is_pinned_kind (if b then row else record row { target = 0; second = 0 }).kind
              && ((if b then row else record row { target = 0; second = 0 }).target == name))
              ≡ (is_pinned_kind row.kind && (row.target == name))
          dependent true = refl
          dependent false =
              off (record row { target = 0; second = 0 }) refl ∙ sym (off row refl)

-- ---- the machine

-- m, whose contexts are given up, and the same machine when handles were cleared and objects have lost the flags of
-- entries that are dropped
module _ (m : Machine) (g : ℕ) (first kept : ℕ → Bool) where
  abbrev pub turned : Machine
  turned = record m { objects = objects_unflagged m first; handles = map_values (row_after first kept) m.handles }

  abbrev change : Object → Object
  change = object_after m first []

  pinned-turned : (name : ℕ) → is_pinned turned name ≡ is_pinned m name
  pinned-turned name =
      ap (list_any (λ (row : Handle). is_pinned_kind row.kind && (row.target == name)))
      (values-map_values (row_after first kept) m.handles)
      ∙ any-map (row_after first kept) (λ row. is_pinned_kind row.kind && (row.target == name))
      (finmap.values m.handles)
      ∙ any-on _ _ (finmap.values m.handles) (λ row i. pins-after first kept row name)

  survivor-turned : (o : Object) → survivor turned (change o) ≡ survivor m o
  survivor-turned o = ap (λ (b : Bool). record (survivor m o) { pinned = b }) (pinned-turned o.name)

  pub survive-turned : survivors turned g kept ≡ survivors m g kept
  survive-turned =
      ap (sorted_by (λ (k : Survivor). k.place))
      (ap (map (survivor turned)) (filter-map change (λ o. is_condemned m g o && kept o.name) m.objects)
      ∙ map-map change (survivor turned) (filter (λ o. is_condemned m g o && kept o.name) m.objects)
      ∙ map-on _ _ (filter (λ o. is_condemned m g o && kept o.name) m.objects) (λ o i. survivor-turned o))

  -- a kept object of generation e goes to the next older one
  abbrev goes-up : Layout → List Move → ℕ → Object → Bool
  goes-up laid moves e o =
      kept o.name && ((generation m.layout o.place == e) && (generation laid (moved_by moves o.place) == e + 1))

  pub promoted-turned : (laid : Layout) (moves : List Move) (e : ℕ)
      → bytes_promoted turned laid kept moves e ≡ bytes_promoted m laid kept moves e
  promoted-turned laid moves e =
      ap (sum_by (object_size m.types)) (filter-map change (goes-up laid moves e) m.objects)
      ∙ sum-mapped change (object_size m.types) (filter (goes-up laid moves e) m.objects)

  -- ---- the collection

  module _ (tests : TestsKept m (StartOf m g) first kept) (how : How) (fitted : Bool) (same : is_fit how ≡ fitted)
      (moves : List Move) (small : Layout)
      (decided : compacts how (decides_to_compact m g (survivors m g kept)) ≡ true)
      (went : GoBy fitted m.layout g (survivors m g kept) moves small) where
    abbrev pub laid : Layout
    laid = if g == 2 then swept_others small 2 (survivors m g kept) else small

    -- the machine that such a collection leaves
    abbrev pub moved_machine : Collected → Machine
    moved_machine answer = record m {
      objects = objects_after m first kept moves;
      handles = map_values (row_after first kept) m.handles;
      entries = filter first m.entries;
      ready = m.ready ++ woken m first;
      layout = laid;
      sums = sums_after m g answer.promoted1 answer.promoted2;
      background = marking_after (g == 2) m.background;
    }

    -- what counted so, and compacts or doesn't, with a fit or without one
    abbrev pub moved_answer : Bool → Bool → Collected
    moved_answer compacting fitting = record {
      generation = g;
      compacted = compacting;
      fitted = fitting;
      background = false;
      kept = count_by (λ o. is_condemned m g o && kept o.name) m.objects;
      freed = count_by (λ o. is_condemned m g o && not (kept o.name)) m.objects;
      promoted1 = bytes_promoted m laid kept moves 0;
      promoted2 = bytes_promoted m laid kept moves 1;
    }

    -- THE COLLECTION: with these tests and moves, and what was counted
    pub compaction_collects : (answer : Collected) → answer ≡ moved_answer true fitted
        → IsCollected m g how false (StartOf m g) answer (moved_machine answer)
    compaction_collects answer is = record {
      first = first;
      kept = kept;
      first_is = tests.first_is;
      kept_is = tests.kept_is;
      survive = survivors m g kept;
      survive_are = refl;
      small = small;
      moves = moves;
      small_laid =
          subst (λ (b : Bool). MatchBool b (IsFitted m.layout (survivors m g kept) moves small)
          (IsSmallLaid (compacts how (decides_to_compact m g (survivors m g kept))) m.layout g (survivors m g kept)
          moves small)) (sym same)
          (subst (λ (b : Bool). MatchBool fitted (IsFitted m.layout (survivors m g kept) moves small)
          (IsSmallLaid b m.layout g (survivors m g kept) moves small)) (sym decided) went);
      laid = laid;
      large_laid = refl;
      answered = is ∙ sym (ap₂ moved_answer decided same);
      state = refl;
    }

    pub compaction_moves : (answer : Collected) (is : answer ≡ moved_answer true fitted)
        → (compaction_collects answer is).moves ≡ moves
    unfolding compaction_collects
    compaction_moves answer is = refl

    pub compaction_survivors : (answer : Collected) (is : answer ≡ moved_answer true fitted)
        → (compaction_collects answer is).survive ≡ survivors m g kept
    unfolding compaction_collects
    compaction_survivors answer is = refl
