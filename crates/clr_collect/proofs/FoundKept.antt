-- What the last pause of a background collection keeps, where all of it is found by bits, and what handles and entries
-- name, too: exactly that, in a heap in which it is marked. Handles and the queue are as the collection leaves them.
use Rattle.std.proofs.Common.{◌≡◌, ◌↔◌, ◌⊎◌, inl, inr, ℕ, ◌<◌, ◌==◌, ◌&&◌, ◌||◌, Bool, true, false, not, List, []}
use Rattle.std.proofs.Common.{◌∷◌, ◌++◌}
use Rattle.std.proofs.Common.{filter, map, drop, length, refl, ap, sym, ◌∙◌, subst, if◌then◌else◌, Option, Some, None}
use Rattle.std.specs.List.{list_any}
use Rattle.std.specs.Option.{option_map}
use Rattle.std.specs.FinMap as finmap
use Rattle.std.specs.FinMap.{FinMap}
use Rattle.std.specs.Ordering.{nat_cmp}
use Rattle.std.proofs.lemmas.Bool.{both_ways, cases_eq, eqb-true, ne_eqb}
use Rattle.std.proofs.Math.Seq.{drop-append_seam}
use Rattle.std.proofs.lemmas.List.{append-nil}
use Rattle.clr_types.specs.Maps.{map_values}
use Rattle.clr_types.specs.Rising.{first, IsIn, later}
use Rattle.clr_types.specs.Types.{TypeRow}
use Rattle.clr_types.specs.declared.handle.Handle.{Handle}
use Rattle.clr_types.specs.declared.handle.Kind.{Kind}
use Rattle.clr_types.specs.declared.handle.Kind.TheVariants.{Dependent, Pinned, Strong, Weak, WeakLong}
use Rattle.clr_types.proofs.MapValues.{get-map_values, map_values-same}
use Rattle.clr_final.specs.Queues.{Queues}
use Rattle.clr_handles.specs.Laws.{cleared, is_kind}
use Rattle.clr_handles.specs.Places.{nulled_of}
use Rattle.clr_heap.specs.View.{HeapView, IsHeap}
use Rattle.clr_model.specs.Machine.{Machine, Marking, Object}
use Rattle.clr_model.specs.Reach.{follows, Reach, SlotNames, starts}
use Rattle.clr_model.proofs.NamedWell.{lawful-named, name-above}
use Rattle.clr_view.specs.Flags.{is_suppressed_at}
use Rattle.clr_view.specs.Marks.{IsUnmarked, Marked}
use Rattle.clr_view.specs.Memory.{is_left_name}
use Rattle.clr_view.specs.View.{HasGivenUp, IsHeld, objects_in}
use Rattle.clr_view.specs.World.{HandlesStand, IsWorldOf, World}
use Rattle.clr_view.proofs.LeftNames.{marked-left}
use Rattle.clr_model.specs.Lawful.{IsPlaceNamed}
use Rattle.clr_mark.specs.Marks.{is_condemned_place, IsRemarked}
use Rattle.clr_mark.specs.Roots.{IsCondemnedRoot}
use Rattle.clr_mark.specs.Ties.{Draws, IsStart, IsTiedToOld, Joins}
use Rattle.clr_mark.proofs.Held.{remarked-refl}
use Rattle.clr_mark.proofs.Remarking.{keeps_objects}
use Rattle.clr_bgmark.specs.Closing.{HaveFoundTargets, IsNullOrFound}
use Rattle.clr_bgmark.specs.Pauses.{IsFound}
use Rattle.clr_bgmark.specs.Scanning.{AreObjects, marking_in}
use Rattle.clr_bgmark.specs.Shades.{ShadeView}
use Rattle.clr_survivors.specs.Survivors.{world_with}
use Rattle.clr_collect.specs.Collecting.{HasMarkedAlive, HasMarkedKept, HasUnflagged, HaveBeenJudged, is_woken_at}
use Rattle.clr_collect.specs.Collecting.{LastPauseStart, unflagged}
use Rattle.clr_collect.proofs.FoundAlive.{all_condemned, found_alive}
use Rattle.clr_collect.proofs.KeptMarks.{kept_marked}
use Rattle.clr_collect.proofs.KeptNames.{alive_handles}

-- ---- lists and tables of which all passes

pub filter-all : {X : Type 0} (p : X → Bool) (xs : List X) → ((x : X) → IsIn x xs → p x ≡ true) → filter p xs ≡ xs
filter-all p [] on = refl
filter-all p (x ∷ xs) on = go (p x) (on x first) (filter-all p xs (λ y i. on y (later i)))
  where
    go : (b : Bool) → b ≡ true → filter p xs ≡ xs → (if b then x ∷ filter p xs else filter p xs) ≡ x ∷ xs
    go true e rest = ap (λ ys. x ∷ ys) rest
    go false e rest = absurd cc

pub filter-nothing : {X : Type 0} (p : X → Bool) (xs : List X) → ((x : X) → IsIn x xs → p x ≡ false)
    → filter p xs ≡ []
filter-nothing p [] off = refl
filter-nothing p (x ∷ xs) off = go (p x) (off x first) (filter-nothing p xs (λ y i. off y (later i)))
  where
    go : (b : Bool) → b ≡ false → filter p xs ≡ [] → (if b then x ∷ filter p xs else filter p xs) ≡ []
    go true e rest = absurd cc
    go false e rest = rest

map-self : {X : Type 0} (f : X → X) (xs : List X) → ((x : X) → IsIn x xs → f x ≡ x) → map f xs ≡ xs
map-self f [] same = refl
map-self f (x ∷ xs) same = λ k. same x first k ∷ map-self f xs (λ y i. same y (later i)) k

and-on : (b : Bool) → (b && true) ≡ b
and-on true = refl
and-on false = refl

-- what is listed is left, where all of the list is
listed-left : (left : ℕ → Bool) (xs : List ℕ) → ((x : ℕ) → IsIn x xs → left x ≡ true) → (n : ℕ)
    → (list_any (λ e. e == n) xs && not (left n)) ≡ false
listed-left left [] all n = refl
listed-left left (x ∷ xs) all n = go (x == n) refl (listed-left left xs (λ y i. all y (later i)) n)
  where
    go : (b : Bool) → (x == n) ≡ b → (list_any (λ e. e == n) xs && not (left n)) ≡ false
        → ((b || list_any (λ e. e == n) xs) && not (left n)) ≡ false
    go true e rest = ap not (ap left (sym (eqb-true x n e)) ∙ all x first)
    go false e rest = rest

-- a table stays where each of its rows does
map_values-self : (f : Handle → Handle) (handles : FinMap nat_cmp Handle)
    → ((k : ℕ) (row : Handle) → finmap.get handles k ≡ Some row → f row ≡ row) → map_values f handles ≡ handles
map_values-self f handles same = map_values-same _ _ (λ k.
    get-map_values f handles k ∙ one (finmap.get handles k) (λ row e. same k row e))
  where
    one : (r : Option Handle) → ((row : Handle) → r ≡ Some row → f row ≡ row) → option_map f r ≡ r
    one None same = refl
    one (Some row) same = ap (λ (w : Handle). some w) (same row refl)
      where
        some : Handle → Option Handle
        some w = Some w

-- no handle is cleared whose target is null or passes
abbrev row_of : Kind → ℕ → ℕ → Handle
row_of kind target second = record { kind = kind; target = target; second = second }

null-self : (kind : Kind) → nulled_of kind (row_of kind 0 0) ≡ row_of kind 0 0
null-self Strong = refl
null-self Pinned = refl
null-self Weak = refl
null-self WeakLong = refl
null-self Dependent = refl

cleared-self : (kind of : Kind) (test : ℕ → Bool) (t s : ℕ) → (t ≡ 0 → s ≡ 0) → (t ≡ 0) ⊎ (test t ≡ true)
    → cleared kind test (row_of of t s) ≡ row_of of t s
cleared-self kind of test t s owned left = elim (cases_eq t 0) [
  | inl zero ↦ (λ k. cleared kind test (row_of of (zero k) (owned zero k))) ∙ empty (is_kind of kind)
      ∙ (λ k. row_of of (sym zero k) (sym (owned zero) k))
  | inr some ↦ passes (is_kind of kind) (t == 0) (ne_eqb t 0 some) (test t) (elim left [
    | inl zero ↦ absurd (some zero)
    | inr on ↦ on
  ])
]
  where
    empty : (b : Bool) → (if b && true then nulled_of of (row_of of 0 0) else row_of of 0 0) ≡ row_of of 0 0
    empty true = null-self of
    empty false = refl

    passes : (b z : Bool) → z ≡ false → (p : Bool) → p ≡ true
        → (if b && not (not z && p) then nulled_of of (row_of of t s) else row_of of t s) ≡ row_of of t s
    passes b true e p on = absurd cc
    passes true false e true on = refl
    passes false false e true on = refl
    passes b false e false on = absurd cc

-- ---- what is kept

module _ (rows : List TypeRow) (old : HeapView) (locals : List ℕ) (handles : FinMap nat_cmp Handle) (queues : Queues)
    (heap : IsHeap old) (held : IsHeld rows old) (clear : IsUnmarked rows old)
    (some : (m : Machine) × IsWorldOf (world_with rows old locals handles queues) m × IsPlaceNamed m)
    (mid : HeapView) (mid_heap : IsHeap mid) (given : HasGivenUp rows old mid) (ss : List ShadeView)
    (known : AreObjects rows old ss) (fs : List ShadeView)
    (reached : (x : ℕ) → IsFound fs x
    → Reach (Joins rows old handles) (λ y. IsStart handles locals queues.ready y ⊎ IsFound ss y) x)
    (all : (x : ℕ) → Reach (Joins rows old handles) (λ y. IsStart handles locals queues.ready y ⊎ IsFound ss y) x
    → IsFound fs x)
    (targets : HaveFoundTargets handles fs) (entries : (x : ℕ) → IsIn x queues.entries → 0 < x → IsFound fs x)
    (v : HeapView) (words : IsRemarked rows mid v) (now : IsHeap v) (now_held : IsHeld rows v)
    (marks : (x : ℕ) → Marked rows v x ↔ IsFound fs x) where
  abbrev w : World
  w = world_with rows old locals handles queues

  abbrev marking : Marking
  marking = marking_in (objects_in rows old) ss

  objects-old : objects_in rows v ≡ objects_in rows old
  objects-old = keeps_objects rows mid v mid_heap given.held words ∙ given.objects

  joins-mid : (x y : ℕ) → Joins rows mid handles x y → Joins rows old handles x y
  joins-mid x y (inl e) = inl (subst (λ (os : List Object). SlotNames os x y) given.objects e)
  joins-mid x y (inr e) = inr e

  joins-old : (x y : ℕ) → Joins rows old handles x y → Joins rows mid handles x y
  joins-old x y (inl e) = inl (subst (λ (os : List Object). SlotNames os x y) (sym given.objects) e)
  joins-old x y (inr e) = inr e

  abbrev begin : ℕ → Type 0
  begin y = IsStart handles locals queues.ready y ⊎ IsFound ss y

  to_old : (x : ℕ) → Reach (Joins rows mid handles) begin x → Reach (Joins rows old handles) begin x
  to_old x (starts s) = starts s
  to_old x (follows {x = z} r e) = follows (to_old z r) (joins-mid z x e)

  to_mid : (x : ℕ) → Reach (Joins rows old handles) begin x → Reach (Joins rows mid handles) begin x
  to_mid x (starts s) = starts s
  to_mid x (follows {x = z} r e) = follows (to_mid z r) (joins-old z x e)

  -- what is marked is what is reached
  marked : (x : ℕ) → Marked rows v x ↔ Reach (Joins rows mid handles) begin x
  marked x = (λ m. to_mid x (reached x ((marks x).0 m)), λ r. (marks x).1 (all x (to_old x r)))

  alive : HasMarkedAlive w (LastPauseStart marking) v 2
  alive = found_alive w mid heap held clear given ss known v mid_heap words now now_held marked

  abbrev left : ℕ → Bool
  left = is_left_name rows v 2

  found-left : (x : ℕ) → IsFound fs x → left x ≡ true
  found-left x f = marked-left rows v 2 x ((marks x).1 f)

  -- ---- entries

  entry-left : (x : ℕ) → IsIn x queues.entries → left x ≡ true
  entry-left x i = found-left x (entries x i (above x i))
    where
      above : (x : ℕ) → IsIn x queues.entries → 0 < x
      above x i =
          let (m, is, named) = some in
          let names = lawful-named m named.lawful in
          let (o, there, at) = names.entries x (subst (λ (es : List ℕ). IsIn x es) (sym is.entries) i) in
          subst (λ n. 0 < n) at (name-above m names o there)

  judged : HaveBeenJudged rows v 2 queues queues
  judged = record {
    entries = sym (filter-all left queues.entries entry-left);
    ready =
        sym (ap (λ (more : List ℕ). queues.ready ++ more) (filter-nothing (is_woken_at rows v 2) queues.entries (λ x i.
        ap (λ (b : Bool). not b && not (is_suppressed_at rows v x)) (entry-left x i)))
        ∙ append-nil queues.ready);
  }

  flags-stay : (o : Object) → unflagged left queues.entries o ≡ o
  flags-stay o =
      ap (λ (b : Bool). record o { suppressed = o.suppressed && not b })
      (listed-left left queues.entries entry-left o.name)
      ∙ ap (λ (b : Bool). record o { suppressed = b }) (and-on o.suppressed)

  unflagged-self : HasUnflagged rows v v 2 queues.entries
  unflagged-self = record {
    heap = now;
    held = now_held;
    objects = sym (map-self (unflagged left queues.entries) (objects_in rows v) (λ o i. flags-stay o));
    layout = refl;
    marks = λ x. (λ m. m, λ m. m);
    clean = λ c. c;
    free_heads = λ h. h;
    limit = refl;
    rests = refl;
  }

  -- ---- handles

  stand : HandlesStand rows v handles
  stand = alive_handles w some 2 v alive

  handles-stay : (kind : Kind) → map_values (cleared kind left) handles ≡ handles
  handles-stay kind = map_values-self (cleared kind left) handles (λ k row e.
      cleared-self kind row.kind left row.target row.second (stand k row e).owned.primary (elim (targets k row e).0 [
        | inl null ↦ inl null
        | inr found ↦ inr (found-left row.target found)
      ]))

  -- ---- nothing more is reached

  abbrev begins : ℕ → Type 0
  begins y = Marked rows v y
      ⊎ (IsCondemnedRoot (drop (length queues.ready) queues.ready) v 2 y ⊎ IsTiedToOld rows v handles 2 y)

  none_woken : (x : ℕ) → IsIn x (drop (length queues.ready) queues.ready) → ⊥
  none_woken x i =
      let none : drop (length queues.ready) queues.ready ≡ [] =
      ap (drop (length queues.ready)) (sym (append-nil queues.ready)) ∙ drop-append_seam queues.ready [] in
      elim (subst (IsIn x) none i) [ ]

  joins-v : (x y : ℕ) → Joins rows v handles x y → Joins rows old handles x y
  joins-v x y (inl e) = inl (subst (λ (os : List Object). SlotNames os x y) objects-old e)
  joins-v x y (inr e) = inr e

  closed : (x : ℕ) → Reach (Draws rows v handles 2) begins x → Marked rows v x
  closed x (starts (inl m)) = m
  closed x (starts (inr (inl r))) = absurd (none_woken x r.root.listed)
  closed x (starts (inr (inr t))) = absurd (both_ways (is_condemned_place v 2 t.by) t.old (all_condemned v t.by))
  closed x (follows {x = z} r e) =
      (marks x).1 (all x (follows (reached z ((marks z).0 (closed z r))) (joins-v z x e.joined)))

  -- WHAT IS KEPT is what is found
  pub found_kept : HasMarkedKept w (LastPauseStart marking) v handles queues 2
  found_kept =
      kept_marked rows old locals handles queues 2 v alive queues judged v unflagged-self handles
      (sym (handles-stay Weak)) stand v (remarked-refl rows v) now now_held
      (λ x. (λ m. starts (inl m), closed x)) handles
      (sym (ap (map_values (cleared Dependent left)) (handles-stay WeakLong) ∙ handles-stay Dependent))
