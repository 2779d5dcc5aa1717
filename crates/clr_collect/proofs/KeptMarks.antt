-- What is kept: from marks of what is alive, judged entries and cleared handles, to what a collection leaves of handles
-- and queues before its sweep.
use Rattle.std.proofs.Common.{◌≡◌, ◌↔◌, ◌⊎◌, inl, inr, ℕ, ◌%◌, ◌<◌, ◌==◌, ◌&&◌, Bool, true, false, not, List, [], ◌++◌}
use Rattle.std.proofs.Common.{filter, map, drop, length, refl, ap, sym, ◌∙◌, subst}
use Rattle.std.specs.List.{list_any}
use Rattle.std.specs.FinMap as finmap
use Rattle.std.specs.FinMap.{FinMap}
use Rattle.std.specs.Prelude.{Option, Some}
use Rattle.std.proofs.Common.{arith, nat_le}
use Rattle.std.proofs.lemmas.Bool.{cases_Bool}
use Rattle.std.specs.Ordering.{nat_cmp}
use Rattle.std.proofs.Math.Seq.{drop-append_seam}
use Rattle.clr_types.specs.Maps.{map_values}
use Rattle.clr_types.specs.Rising.{IsIn, Tests}
use Rattle.clr_types.specs.Segments.{generation, Layout}
use Rattle.clr_types.specs.Types.{TypeRow}
use Rattle.clr_types.specs.declared.handle.Handle.{Handle}
use Rattle.clr_types.specs.declared.handle.Kind.TheVariants.{Dependent, Weak, WeakLong}
use Rattle.clr_types.proofs.ChangedLists.{IsIn-map, out_of_filter}
use Rattle.clr_types.proofs.ListMembers.{filter-on, from-map, map-on}
use Rattle.clr_types.proofs.RisingLists.{all_at}
use Rattle.clr_final.specs.Queues.{Queues}
use Rattle.clr_handles.specs.Laws.{cleared}
use Rattle.clr_heap.specs.View.{HeapView, IsHeap, word_of}
use Rattle.clr_model.specs.Collection.{begun, object_after, row_after}
use Rattle.clr_model.specs.Lawful.{IsPlaceNamed}
use Rattle.clr_model.specs.Lookups.{object_named}
use Rattle.clr_model.specs.Machine.{Machine, Object, ref}
use Rattle.clr_model.specs.Reach.{Edge, follows, is_suppressed, Kept, Reach, SecondOf, SlotNames, starts}
use Rattle.clr_model.specs.Reach.{suppressed_or_none, woken}
use Rattle.clr_model.proofs.NamedWell.{lawful-named, name-above}
use Rattle.clr_model.proofs.SeenSound.{found-at}
use Rattle.clr_view.specs.Flags.{is_suppressed_at}
use Rattle.clr_view.specs.Marks.{Marked}
use Rattle.clr_view.specs.Memory.{is_left_name}
use Rattle.clr_view.specs.SlotValues.{StandsAt}
use Rattle.clr_view.specs.View.{IsHeld, objects_in}
use Rattle.clr_view.specs.World.{HandlesStand, IsNullOrStands, IsWorldOf, World}
use Rattle.clr_view.proofs.CleanWords.{clean_remarked}
use Rattle.clr_view.proofs.LeftNames.{marked-left, tests_marks}
use Rattle.clr_mark.specs.Marks.{is_condemned_place, IsRemarked}
use Rattle.clr_mark.specs.Roots.{IsCondemnedRoot}
use Rattle.clr_mark.specs.Ties.{Draws, IsTiedToOld, Joins}
use Rattle.clr_mark.proofs.Graying.{reach_bind, same_condemned}
use Rattle.clr_mark.proofs.Remarking.{keeps_layout, keeps_objects, keeps_stands, stands_before}
use Rattle.clr_collect.specs.Collecting.{HasMarkedAlive, HasMarkedKept, HasUnflagged, HaveBeenJudged, is_woken_at}
use Rattle.clr_collect.specs.Collecting.{LeavesKept, objects_unflagged, unflagged, world_with}
use Rattle.clr_collect.proofs.ClearedFlags.{left_unflagged, stands_unflagged}
use Rattle.clr_collect.proofs.HandlesAfter.{rows_after, second_cleared, second_was}
use Rattle.clr_survivors.proofs.LeftGoes.{condemned-is}
use Rattle.clr_collect.proofs.LeftCases.{condemned-left, IsOlder, left-cases, older-left}
use Rattle.clr_collect.proofs.RemarkedHeads.{heads_remarked}
use Rattle.clr_collect.proofs.WorldNames.{entries_stand, handles_stand, slots_stand}
use Rattle.clr_collect.proofs.YoungReach.{near_reached, reached_young}

-- ---- flags

-- a flag that goes where an entry is dropped, is one that goes where the object has an entry and isn't left
flag-goes : (s in_use left : Bool) → (s && not (in_use && not left)) ≡ (s && not (in_use && (not left && s)))
flag-goes false in_use left = refl
flag-goes true true true = refl
flag-goes true true false = refl
flag-goes true false left = refl

module _ (m : Machine) (first : ℕ → Bool) where
  -- without the flags of those that aren't left, objects are what they are when entries were dropped
  unflagged-after : ((o : Object) → IsIn o m.objects → is_suppressed m o.name ≡ o.suppressed)
      → map (unflagged first m.entries) m.objects ≡ objects_unflagged m first
  unflagged-after known =
      map-on (unflagged first m.entries) (object_after m first []) m.objects (λ o i.
      let listed = list_any (λ e. e == o.name) m.entries in
      let flag = flag-goes o.suppressed listed (first o.name)
      ∙ ap (λ (b : Bool). o.suppressed && not (listed && (not (first o.name) && b))) (sym (known o i)) in
      ap (λ (b : Bool). record o { suppressed = b }) flag)

-- ---- edges where flags alone changed

module _ (left : ℕ → Bool) (entries : List ℕ) (objects : List Object) where
  pub edge-unflagged : (x y : ℕ) → SlotNames objects x y → SlotNames (map (unflagged left entries) objects) x y
  edge-unflagged x y e = record {
    object = unflagged left entries e.object;
    present = IsIn-map (unflagged left entries) e.present;
    named = e.named;
    slot = e.slot;
    not_null = e.not_null;
  }

  pub edge-was : (x y : ℕ) → SlotNames (map (unflagged left entries) objects) x y → SlotNames objects x y
  edge-was x y e =
      let (o, same, i) = from-map (unflagged left entries) e.object objects e.present in
      record {
        object = o;
        present = i;
        named = sym (ap (λ (q : Object). q.name) same) ∙ e.named;
        slot = subst (λ (q : Object). IsIn (ref y) q.slots) same e.slot;
        not_null = e.not_null;
      }

-- ---- the heap

-- Before the collection, with what is alive marked, and with entries judged and flags cleared.
module _ {origin : Machine → ℕ → Type 0} (rows : List TypeRow) (old : HeapView) (locals : List ℕ)
    (handles : FinMap nat_cmp Handle) (queues : Queues) (g : ℕ) (alive : HeapView)
    (a : HasMarkedAlive (world_with rows old locals handles queues) origin alive g)
    (judged : Queues) (j : HaveBeenJudged rows alive g queues judged)
    (flat : HeapView) (f : HasUnflagged rows alive flat g queues.entries) where
  abbrev w : World
  w = world_with rows old locals handles queues

  abbrev pub first : ℕ → Bool
  first = is_left_name rows alive g

  -- the f-reachable places that are new
  abbrev pub woken_now : List ℕ
  woken_now = drop (length queues.ready) judged.ready

  -- clearing flags leaves the same names
  left-flat : (x : ℕ) → is_left_name rows flat g x ≡ first x
  left-flat = left_unflagged rows alive flat g queues.entries f

  -- ---- for one machine

  module _ (m : Machine) (is : IsWorldOf w m) (named : IsPlaceNamed m) where
    objects-alive : objects_in rows alive ≡ m.objects
    objects-alive = a.objects ∙ sym is.memory.objects

    suppressed-is : (x : ℕ) → is_suppressed_at rows alive x ≡ is_suppressed m x
    suppressed-is x = ap (λ (os : List Object). suppressed_or_none (object_named os x)) objects-alive

    -- the woken entries are the machine's
    woken-is : filter (is_woken_at rows alive g) queues.entries ≡ woken (begun m) first
    woken-is =
        ap (filter (is_woken_at rows alive g)) (sym is.entries)
        ∙ filter-on (is_woken_at rows alive g) (λ e. not (first e) && not (is_suppressed m e)) m.entries
        (λ e i. ap (λ (b : Bool). not (first e) && not b) (suppressed-is e))

    known-flag : (o : Object) → IsIn o m.objects → is_suppressed m o.name ≡ o.suppressed
    known-flag o i = ap suppressed_or_none
        (found-at m named o i o.name (sym (all_at (λ (q : Object). q.name ≡ q.place) i named.places)))

    objects-flat : objects_in rows flat ≡ objects_unflagged (begun m) first
    objects-flat =
        f.objects
        ∙ ap (λ (os : List Object). map (unflagged first queues.entries) os) objects-alive
        ∙ ap (λ (es : List ℕ). map (unflagged first es) m.objects) (sym is.entries)
        ∙ unflagged-after (begun m) first known-flag

    -- ---- what is marked after the woken ones were roots

    module _ (short : FinMap nat_cmp Handle)
        (short_is : short ≡ map_values (cleared Weak (is_left_name rows flat g)) handles) (new : HeapView)
        (words : IsRemarked rows flat new)
        (marked : (x : ℕ) → Marked rows new x ↔ Reach (Draws rows flat short g) (λ y. Marked rows flat y
        ⊎ (IsCondemnedRoot woken_now flat g y ⊎ IsTiedToOld rows flat short g y)) x) where
      abbrev edge : ℕ → ℕ → Type 0
      edge = Edge (begun m)

      abbrev start : ℕ → Type 0
      start y = origin m y ⊎ IsIn y (woken (begun m) first)

      abbrev near : ℕ → ℕ → Type 0
      near = Draws rows flat short g

      abbrev begin : ℕ → Type 0
      begin y = Marked rows flat y ⊎ (IsCondemnedRoot woken_now flat g y ⊎ IsTiedToOld rows flat short g y)

      waiting-is : woken_now ≡ woken (begun m) first
      waiting-is =
          ap (drop (length queues.ready)) j.ready
          ∙ drop-append_seam queues.ready (filter (is_woken_at rows alive g) queues.entries) ∙ woken-is

      woken-above : (y : ℕ) → IsIn y (woken (begun m) first) → 0 < y
      woken-above y i =
          let names = lawful-named m named.lawful in
          let entry = out_of_filter (λ e. not (first e) && not (is_suppressed m e)) y m.entries i in
          let (o, there, at) = names.entries y entry.1 in
          subst (λ n. 0 < n) at (name-above m names o there)

      edge-there : (x y : ℕ) → edge x y → Joins rows flat short x y
      edge-there x y (inl e) =
          inl (subst (λ (os : List Object). SlotNames os x y) (sym f.objects)
          (edge-unflagged first queues.entries (objects_in rows alive) x y
          (subst (λ (os : List Object). SlotNames os x y) (sym objects-alive) e)))
      edge-there x y (inr e) =
          inr (subst (λ (hs : FinMap nat_cmp Handle). SecondOf hs x y) (sym short_is)
          (second_cleared (is_left_name rows flat g) handles x y
          (subst (λ (hs : FinMap nat_cmp Handle). SecondOf hs x y) is.handles e)))

      edge-here : (x y : ℕ) → Joins rows flat short x y → edge x y
      edge-here x y (inl e) =
          inl (subst (λ (os : List Object). SlotNames os x y) objects-alive
          (edge-was first queues.entries (objects_in rows alive) x y
          (subst (λ (os : List Object). SlotNames os x y) f.objects e)))
      edge-here x y (inr e) =
          inr (subst (λ (hs : FinMap nat_cmp Handle). SecondOf hs x y) (sym is.handles)
          (second_was (is_left_name rows flat g) handles x y
          (subst (λ (hs : FinMap nat_cmp Handle). SecondOf hs x y) short_is e)))

      -- what is left before is alive, and what is alive is left
      left-alive : (y : ℕ) → is_left_name rows flat g y ≡ true → Reach edge start y
      left-alive y e =
          reach_bind edge edge start (origin m) y (λ p q e. e) (λ p s. starts (inl s))
          ((a.alive m is named y).0 (sym (left-flat y) ∙ e))

      alive-left : (y : ℕ) → Reach edge (origin m) y → is_left_name rows flat g y ≡ true
      alive-left y r = left-flat y ∙ (a.alive m is named y).1 r

      alive-marked : (y : ℕ) → Reach edge (origin m) y → is_condemned_place flat g y ≡ true
          → Marked rows flat y
      alive-marked y r on = condemned-left rows flat g y on (alive-left y r)

      -- an older object is alive
      older-alive : (y : ℕ) → IsOlder rows flat g y → Reach edge (origin m) y
      older-alive y older = (a.alive m is named y).0 (sym (left-flat y) ∙ older-left rows flat g y older)

      young-there : (y : ℕ) → start y → is_condemned_place flat g y ≡ true → begin y
      young-there y (inl s) on = inl (alive-marked y (starts s) on)
      young-there y (inr i) on =
          inr (inl (record {
            root = record { listed = subst (IsIn y) (sym waiting-is) i; not_null = woken-above y i };
            condemned = on;
          }))

      -- whatever is kept stands
      stands-flat : (y : ℕ) → StandsAt rows old y → StandsAt rows flat y
      stands-flat y s =
          stands_unflagged rows alive flat g queues.entries f y
          (subst (λ (os : List Object). (o : Object) × IsIn o os × (o.place ≡ y)) (sym a.objects) s)

      kept-stands : (y : ℕ) → Reach edge start y → StandsAt rows flat y
      kept-stands y (starts (inl s)) = left-stands y (alive-left y (starts s))
        where
          left-stands : (y : ℕ) → is_left_name rows flat g y ≡ true → StandsAt rows flat y
          left-stands y e = elim (left-cases rows flat g y e) [
            | inl older ↦ older.stands
            | inr mark ↦ mark.stands
          ]
      kept-stands y (starts (inr i)) =
          let entry = out_of_filter (λ e. not (first e) && not (is_suppressed m e)) y m.entries i in
          stands-flat y (entries_stand w m is named y (subst (λ (es : List ℕ). IsIn y es) is.entries entry.1))
      kept-stands y (follows {x = z} r (inl e)) =
          stands-flat y (slots_stand w m is named z y
          (subst (λ (os : List Object). SlotNames os z y) is.memory.objects e))
      kept-stands y (follows {x = z} r (inr e)) =
          let row : finmap.get handles e.handle ≡ some e.row =
          subst (λ (hs : FinMap nat_cmp Handle). finmap.get hs e.handle ≡ some e.row) is.handles e.in_use in
          stands-flat y (above-stands y e.not_null
          (subst (IsNullOrStands rows old) e.secondary (handles_stand w m is named e.handle e.row row).second))
        where
          some : Handle → Option Handle
          some row = Some row

          above-stands : (y : ℕ) → 0 < y → IsNullOrStands rows old y → StandsAt rows old y
          above-stands y up (inl null) = absurd (omega arith)
          above-stands y up (inr stands) = stands

      -- what an older object leads to is alive, and so it is marked
      crossing : (x y : ℕ) → Reach edge start x → is_condemned_place flat g x ≡ false → edge x y
          → is_condemned_place flat g y ≡ true → begin y
      crossing x y r off e on =
          let older = older-alive x (record { stands = kept-stands x r; old = off }) in
          inl (alive-marked y (follows older e) on)

      begin-here : (y : ℕ) → begin y → Reach edge start y
      begin-here y (inl u) = left-alive y (marked-left rows flat g y u)
      begin-here y (inr (inl r)) = starts (inr (subst (IsIn y) waiting-is r.root.listed))
      begin-here y (inr (inr t)) =
          let older : IsOlder rows flat g t.by = record { stands = t.stands; old = t.old } in
          follows (left-alive t.by (older-left rows flat g t.by older)) (edge-here t.by y (inr t.tied))

      same-old : (y : ℕ) → is_condemned_place new g y ≡ is_condemned_place flat g y
      same-old y = same_condemned rows flat new g y words

      -- THE KEPT SET: what is left at the end
      kept-is : Tests (is_left_name rows new g) (Kept (begun m) (origin m) first)
      kept-is x = (
        λ e. elim (left-cases rows new g x e) [
          | inl older ↦
              left-alive x (older-left rows flat g x (record {
                stands = stands_before rows flat new f.heap f.held words x older.stands;
                old = sym (same-old x) ∙ older.old;
              }))
          | inr mark ↦
              reach_bind edge near start begin x (λ y z e. edge-here y z e.joined) begin-here ((marked x).0 mark)
        ],
        λ r. elim (cases_Bool (is_condemned_place flat g x)) [
          | inl on ↦
              marked-left rows new g x ((marked x).1 (near_reached edge near start begin (is_condemned_place flat g)
              (λ y z e c. record { joined = edge-there y z e; condemned = c }) young-there crossing x r on))
          | inr off ↦ older-left rows new g x (record {
            stands = keeps_stands rows flat new f.heap f.held words x (kept-stands x r);
            old = same-old x ∙ off;
          })
        ],
      )

      leaves-kept : (after : FinMap nat_cmp Handle) → HandlesStand rows flat handles
          → after ≡ map_values (cleared Dependent (is_left_name rows new g))
          (map_values (cleared WeakLong (is_left_name rows new g)) short)
          → objects_in rows new ≡ objects_in rows flat
          → LeavesKept (begun m) (origin m) first (is_left_name rows new g) (objects_in rows new) after judged
      leaves-kept after stand cleared_is same = record {
        tests = record { first_is = a.alive m is named; kept_is = kept-is };
        objects = same ∙ objects-flat;
        handles =
            cleared_is
            ∙ ap (λ (hs : FinMap nat_cmp Handle). map_values (cleared Dependent (is_left_name rows new g))
            (map_values (cleared WeakLong (is_left_name rows new g)) hs)) (short_is ∙ short-first)
            ∙ rows_after first (is_left_name rows new g) rows flat handles stand
            ∙ ap (map_values (row_after first (is_left_name rows new g))) (sym is.handles);
        entries = j.entries ∙ ap (filter first) (sym is.entries);
        ready = j.ready ∙ (λ k. sym is.ready k ++ woken-is k);
      }
        where
          short-first : map_values (cleared Weak (is_left_name rows flat g)) handles
              ≡ map_values (cleared Weak first) handles
          short-first = ap (λ (test : ℕ → Bool). map_values (cleared Weak test) handles) (λ k x. left-flat x k)

  -- WHAT IS KEPT is marked, and handles and queue are as the collection leaves them
  pub kept_marked : (short : FinMap nat_cmp Handle)
      → short ≡ map_values (cleared Weak (is_left_name rows flat g)) handles
      → HandlesStand rows flat handles
      → (new : HeapView) → IsRemarked rows flat new → IsHeap new → IsHeld rows new
      → ((x : ℕ) → Marked rows new x ↔ Reach (Draws rows flat short g) (λ y. Marked rows flat y
      ⊎ (IsCondemnedRoot woken_now flat g y ⊎ IsTiedToOld rows flat short g y)) x)
      → (after : FinMap nat_cmp Handle) → after ≡ map_values (cleared Dependent (is_left_name rows new g))
      (map_values (cleared WeakLong (is_left_name rows new g)) short)
      → HasMarkedKept (world_with rows old locals handles queues) origin new after judged g
  kept_marked short short_is stand new words now now_held marked after after_is = record {
    heap = now;
    held = now_held;
    layout = keeps_layout rows flat new f.heap f.held words ∙ f.layout ∙ a.layout;
    no_contexts = ap (λ (g : HeapView). g.rests) words.shape.others ∙ f.rests ∙ a.no_contexts;
    first = first;
    leaves = λ m is named. leaves-kept m is named short short_is new words marked after stand after_is objects;
    marks = tests_marks rows new g;
    young = λ x u. same-old x ∙ reached_young (Draws rows flat short g)
        (λ y. Marked rows flat y ⊎ (IsCondemnedRoot woken_now flat g y ⊎ IsTiedToOld rows flat short g y))
        (is_condemned_place flat g)
        (λ y z e. e.condemned) begins-young x ((marked x).0 u);
    clean = λ c.
        clean_remarked rows flat new f.heap f.held now now_held objects remarked (f.clean (a.clean c));
    free_heads = λ h.
        heads_remarked rows flat new f.heap f.held now now_held words (f.free_heads (a.free_heads h));
    limit = ap (λ (g : HeapView). g.limit) words.shape.others ∙ f.limit ∙ a.limit;
  }
    where
      same-old : (y : ℕ) → is_condemned_place new g y ≡ is_condemned_place flat g y
      same-old y = same_condemned rows flat new g y words

      begins-young : (y : ℕ)
          → Marked rows flat y ⊎ (IsCondemnedRoot woken_now flat g y ⊎ IsTiedToOld rows flat short g y)
          → is_condemned_place flat g y ≡ true
      begins-young y (inl u) =
          condemned-is flat g y ∙ ap (λ (l : Layout). nat_le (generation l y) g) f.layout ∙ sym (condemned-is alive g y)
          ∙ a.young y ((f.marks y).0 u)
      begins-young y (inr (inl r)) = r.condemned
      begins-young y (inr (inr t)) = t.condemned

      objects : objects_in rows new ≡ objects_in rows flat
      objects = keeps_objects rows flat new f.heap f.held words

      remarked : (b : ℕ) → b % 8 ≡ 0 → (word_of new b ≡ word_of flat b) ⊎ StandsAt rows flat b
      remarked b z = elim (words.words b z) [
        | inl same ↦ inl same
        | inr other ↦ inr other.0
      ]
