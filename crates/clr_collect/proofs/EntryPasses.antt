-- Entries between the two passes that judge them: from what each pass answers to what both leave.
use Rattle.std.proofs.Common.{◌≡◌, ℕ, ◌<◌, ◌≤◌, ◌++◌, ◌||◌, List, filter, map, drop, length}
use Rattle.std.proofs.Common.{slice_index}
use Rattle.std.proofs.Common.{if◌then◌else◌, Bool, true, false, refl, ap, ◌∙◌, subst, arith}
use Rattle.clr_types.specs.Rising.{IsIn}
use Rattle.clr_types.specs.Types.{TypeRow}
use Rattle.clr_types.proofs.ChangedLists.{out_of_filter, rising-distinct}
use Rattle.clr_types.proofs.ListMembers.{filter-on, map-on}
use Rattle.clr_types.proofs.SortedLists.{find_by-member}
use Rattle.clr_final.specs.Queues.{ArePlacesJudged, is_alive, is_woken, Queues}
use Rattle.clr_final.specs.declared.verdict.Verdict.{Verdict}
use Rattle.clr_final.specs.declared.verdict.Verdict.TheVariants.{Alive, Dropped, Woken}
use Rattle.clr_heap.specs.View.{heap_items, HeapView, IsHeap, word_of}
use Rattle.clr_model.specs.Machine.{Object}
use Rattle.clr_model.specs.Reach.{suppressed_or_none}
use Rattle.clr_view.specs.Flags.{is_suppressed_at}
use Rattle.clr_view.specs.Memory.{is_left_name}
use Rattle.clr_view.specs.View.{IsHeld, objects_in}
use Rattle.clr_view.proofs.Listings.{heap-rise}
use Rattle.clr_view.proofs.Rises.{objects-rise}
use Rattle.clr_mark.specs.Marks.{is_condemned_place}
use Rattle.clr_mark.proofs.Rooting.{at_in}
use Rattle.clr_collect.specs.Collecting.{AllLeft, AllStand, drops_at, HasUnflagged, HaveBeenJudged, unflagged}
use Rattle.clr_collect.specs.Collecting.{wakes_at}
use Rattle.clr_collect.proofs.ClearedFlags.{behind, left_unflagged, stands_unflagged, unflagged_all}
use Rattle.clr_collect.proofs.JudgedEntries.{entries_after, left_dropped, none_woken, ready_after, sorted_by_verdict}
use Rattle.clr_collect.proofs.JudgedEntries.{wakes-alive}
use Rattle.clr_collect.proofs.LeftBelow.{left_below}

module _ (rows : List TypeRow) (h : HeapView) (heap : IsHeap h) (held : IsHeld rows h) (g low : ℕ)
    (lowest : (x : ℕ) → is_condemned_place h g x ≡ true → low ≤ x) (old : Queues)
    (stand : AllStand rows h old.entries) where
  abbrev left : ℕ → Bool
  left = is_left_name rows h g

  abbrev suppressed : ℕ → Bool
  suppressed = is_suppressed_at rows h

  -- an object's flag is told by its name
  known : (o : Object) → IsIn o (objects_in rows h) → suppressed o.name ≡ o.suppressed
  known o i =
      ap suppressed_or_none
      (find_by-member (λ (q : Object). q.name) o (objects_in rows h)
      (rising-distinct (λ (q : Object). q.name) (objects_in rows h)
      (objects-rise rows (word_of h) (heap_items rows h) (heap-rise rows h held.walkable heap))) i)

  -- ---- after the first pass

  module _ (answers : ℕ → Verdict → Type 0) (mid : Queues)
      (sorted : ArePlacesJudged answers low old.entries mid.entries old.ready mid.ready)
      (told : (x : ℕ) (v : Verdict) → answers x v → v ≡ wakes_at rows h g x) where
    first-pass : (mid.entries ≡ filter (λ x. is_alive (wakes_at rows h g x)) old.entries)
        × (mid.ready ≡ old.ready ++ filter (λ x. is_woken (wakes_at rows h g x)) old.entries)
    first-pass =
        sorted_by_verdict rows h low (wakes_at rows h g)
        (λ x under stands. ap (λ (b : Bool). if b || suppressed x then Alive else Woken)
        (left_below rows h g low lowest x under stands))
        answers told old.entries mid.entries old.ready mid.ready stand sorted

    passed : mid.entries ≡ filter (λ x. left x || suppressed x) old.entries
    passed = first-pass.0
        ∙ filter-on (λ x. is_alive (wakes_at rows h g x)) (λ x. left x || suppressed x) old.entries
        (λ x i. wakes-alive left suppressed (left x) (suppressed x))

    -- what stays stood there before
    pub mid_stand : AllStand rows h mid.entries
    mid_stand x i =
        stand x (out_of_filter (λ x. left x || suppressed x) x old.entries (subst (IsIn x) passed i)).1

    -- ---- after flags were cleared

    module _ (n : ℕ) (within : n ≤ length mid.entries) (early : (i : ℕ) → i < n → slice_index mid.entries i < low)
        (flat : HeapView) (u : HasUnflagged rows h flat g (drop n mid.entries)) where
      early-left : (i : ℕ) → i < n → left (slice_index (filter (λ x. left x || suppressed x) old.entries) i) ≡ true
      early-left i l =
          subst (λ xs. left (slice_index xs i) ≡ true) passed
          (left_below rows h g low lowest (slice_index mid.entries i) (early i l)
          (mid_stand (slice_index mid.entries i) (at_in mid.entries i 0 (omega (arith, l, within)))))

      looked : drop n mid.entries ≡ drop n (filter (λ x. left x || suppressed x) old.entries)
      looked = ap (drop n) passed

      -- FLAGS are those that a look at all entries leaves
      pub all_unflagged : HasUnflagged rows h flat g old.entries
      all_unflagged = record {
        heap = u.heap;
        held = u.held;
        objects =
            u.objects
            ∙ ap (λ xs. map (unflagged left xs) (objects_in rows h)) looked
            ∙ map-on (unflagged left (drop n (filter (λ x. left x || suppressed x) old.entries)))
            (unflagged left old.entries) (objects_in rows h)
            (λ o i. unflagged_all left suppressed n old.entries early-left o (known o i));
        layout = u.layout;
        marks = u.marks;
        clean = u.clean;
        free_heads = u.free_heads;
        limit = u.limit;
        rests = u.rests;
      }

      pub flat_stand : AllStand rows flat mid.entries
      flat_stand x i = stands_unflagged rows h flat g (drop n mid.entries) u x (mid_stand x i)

      same-left : (x : ℕ) → is_left_name rows flat g x ≡ left x
      same-left = left_unflagged rows h flat g (drop n mid.entries) u

      -- where all that were looked at are left, so are all that stay
      pub all_left : AllLeft rows h g (drop n mid.entries) → AllLeft rows flat g mid.entries
      all_left looked_left x i = same-left x ∙ go (left x) refl
        where
          go : (b : Bool) → left x ≡ b → left x ≡ true
          go true e = e
          go false e = looked_left x (behind left suppressed n mid.entries x i e (λ j l.
              left_below rows h g low lowest (slice_index mid.entries j) (early j l)
              (mid_stand (slice_index mid.entries j) (at_in mid.entries j 0 (omega (arith, l, within))))))

      -- ---- after the second pass

      -- ENTRIES AND QUEUE are as a collection leaves them
      pub both_judged : (new : Queues) → new.entries ≡ filter (is_left_name rows flat g) mid.entries
          → new.ready ≡ mid.ready → HaveBeenJudged rows h g old new
      both_judged new entries ready = record {
        entries =
            entries
            ∙ filter-on (is_left_name rows flat g) left mid.entries (λ x i. same-left x)
            ∙ ap (filter left) first-pass.0
            ∙ entries_after left suppressed old.entries;
        ready = ready ∙ first-pass.1 ∙ ready_after left suppressed old.entries old.ready;
      }

-- ---- the second pass

module _ (rows : List TypeRow) (h : HeapView) (g low : ℕ)
    (lowest : (x : ℕ) → is_condemned_place h g x ≡ true → low ≤ x) (old new : Queues)
    (stand : AllStand rows h old.entries) (answers : ℕ → Verdict → Type 0)
    (sorted : ArePlacesJudged answers low old.entries new.entries old.ready new.ready)
    (told : (x : ℕ) (v : Verdict) → answers x v → v ≡ drops_at rows h g x) where
  dropped : (new.entries ≡ filter (λ x. is_alive (drops_at rows h g x)) old.entries)
      × (new.ready ≡ old.ready ++ filter (λ x. is_woken (drops_at rows h g x)) old.entries)
  dropped =
      sorted_by_verdict rows h low (drops_at rows h g)
      (λ x under stands. ap (λ (b : Bool). if b then Alive else Dropped)
      (left_below rows h g low lowest x under stands))
      answers told old.entries new.entries old.ready new.ready stand sorted

  pub dropped_entries : new.entries ≡ filter (is_left_name rows h g) old.entries
  dropped_entries = dropped.0 ∙ left_dropped (is_left_name rows h g) (λ x. true) old.entries

  pub dropped_ready : new.ready ≡ old.ready
  dropped_ready = dropped.1 ∙ none_woken (is_left_name rows h g) (λ x. true) old.entries old.ready
