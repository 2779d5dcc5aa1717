-- What is alive in a machine, and what stays, is told by tests: a machine's edges and starts are listed.
use Rattle.std.proofs.Common.{◌≡◌, ℕ, ◌<◌, ◌⊎◌, inl, inr, List, [], ◌∷◌, ◌++◌, map, filter, refl, sym, ap, subst}
use Rattle.std.proofs.Common.{Bool, true, false, if◌then◌else◌, nat_lt, ◌&&◌}
use Rattle.std.specs.List.{flat_map}
use Rattle.std.proofs.lemmas.Bool.{and_parts, and_from, ltb-true, lt-ltb}
use Rattle.clr_types.specs.Rising.{IsIn, first, Tests}
use Rattle.clr_types.specs.Segments.{generation}
use Rattle.clr_types.proofs.RisingLists.{in_cons}
use Rattle.clr_types.proofs.ListMembers.{from-map, in_append, append_right}
use Rattle.clr_types.proofs.ChangedLists.{into_filter, out_of_filter, append_left, IsIn-map}
use Rattle.clr_types.specs.declared.handle.Handle.{Handle}
use Rattle.clr_model.specs.Machine.{Value, ref, num, Object, Machine, Marking}
use Rattle.clr_model.specs.Lookups.{handle_rows}
use Rattle.clr_types.specs.Kinds.{is_dependent, is_root_kind}
use Rattle.clr_model.specs.Reach.{SlotNames, SecondOf, Edge, HeldBy, Roots, Old, StartOf, IsAlive, Kept, woken}
use Rattle.clr_model.specs.Reach.{StartOfBackground}
use Rattle.clr_types.proofs.MapValues.{value-in_use}
use Rattle.clr_model.proofs.HandleTables.{value-among}
use Rattle.clr_model.proofs.CollectedFree.{from_part, into_parts}
use Rattle.clr_model.proofs.ReachTests.{Arc, ArcIn, reached_by, Lists, ListsEdges, reached-tests}

module _ (m : Machine) where
  -- ---- edges

  abbrev arc : ℕ → ℕ → Arc
  arc x y = record { from = x; to = y }

  abbrev value_arcs : ℕ → Value → List Arc
  value_arcs x (ref y) = if nat_lt 0 y then arc x y ∷ [] else []
  value_arcs x (num n) = []

  abbrev object_arcs : Object → List Arc
  object_arcs o = flat_map (value_arcs o.name) o.slots

  abbrev ties : Handle → Bool
  ties row = is_dependent row.kind && nat_lt 0 row.second

  abbrev row_arc : Handle → Arc
  row_arc row = arc row.target row.second

  abbrev slot_edges : List Arc
  slot_edges = flat_map object_arcs m.objects

  abbrev tied_edges : List Arc
  tied_edges = map row_arc (filter ties (handle_rows m))

  abbrev arcs : List Arc
  arcs = slot_edges ++ tied_edges

  value-arc : (x y : ℕ) → 0 < y → IsIn (arc x y) (value_arcs x (ref y))
  value-arc x y l = subst (λ b. IsIn (arc x y) (if b then arc x y ∷ [] else [])) (sym (lt-ltb 0 y l)) first

  -- an edge of a value is to the name in it
  abbrev IsValueArc : ℕ → Value → Arc → Type 0
  IsValueArc x v a = (a.from ≡ x) × (0 < a.to) × (v ≡ ref a.to)

  value-arc-is : (x : ℕ) (v : Value) (a : Arc) → IsIn a (value_arcs x v) → IsValueArc x v a
  value-arc-is x (num n) a i = elim i [ ]
  value-arc-is x (ref y) a i = go (nat_lt 0 y) refl i
    where
      one : 0 < y → (a ≡ arc x y) ⊎ IsIn a [] → IsValueArc x (ref y) a
      one l (inl e) =
          let to : y ≡ a.to = sym (ap (λ (b : Arc). b.to) e) in
          (ap (λ (b : Arc). b.from) e, subst (λ n. 0 < n) to l, ap ref to)
      one l (inr j) = elim j [ ]

      go : (b : Bool) → nat_lt 0 y ≡ b → IsIn a (if b then arc x y ∷ [] else []) → IsValueArc x (ref y) a
      go true e i = one (ltb-true 0 y e) (in_cons i)
      go false e i = elim i [ ]

  slot-listed : (x y : ℕ) → SlotNames m.objects x y → ArcIn arcs x y
  slot-listed x y s =
      let a : Arc = arc s.object.name y in
      let of : IsIn a (object_arcs s.object) =
      into_parts (value_arcs s.object.name) (ref y) a s.object.slots s.slot (value-arc s.object.name y s.not_null) in
      (a, append_left tied_edges (into_parts object_arcs s.object a m.objects s.present of), s.named, refl)

  tied-listed : (x y : ℕ) → SecondOf m.handles x y → ArcIn arcs x y
  tied-listed x y s =
      let second : 0 < s.row.second = subst (λ n. 0 < n) (sym s.secondary) s.not_null in
      let passes : nat_lt 0 s.row.second ≡ true = lt-ltb 0 s.row.second second in
      let tied : ties s.row ≡ true =
      and_from (is_dependent s.row.kind) (nat_lt 0 s.row.second) s.dependent passes in
      let among : IsIn s.row (filter ties (handle_rows m)) =
      into_filter ties (handle_rows m) tied (value-among m.handles s.handle s.row s.in_use) in
      (row_arc s.row, append_right slot_edges (IsIn-map row_arc among), s.primary, s.secondary)

  slot-edge : (a : Arc) → IsIn a slot_edges → SlotNames m.objects a.from a.to
  slot-edge a i =
      let (o, present, j) = from_part object_arcs m.objects a i in
      let (v, among, k) = from_part (value_arcs o.name) o.slots a j in
      let (named, not_null, is) = value-arc-is o.name v a k in
      record {
        object = o;
        present = present;
        named = sym named;
        slot = subst (λ w. IsIn w o.slots) is among;
        not_null = not_null;
      }

  tied-edge : (a : Arc) → IsIn a tied_edges → SecondOf m.handles a.from a.to
  tied-edge a i =
      let (row, e, j) = from-map row_arc a (filter ties (handle_rows m)) i in
      let (tied, among) = out_of_filter ties row (handle_rows m) j in
      let (dependent, second) = and_parts (is_dependent row.kind) (nat_lt 0 row.second) tied in
      let (k, in_use) = value-in_use m.handles row among in
      let to : row.second ≡ a.to = sym (ap (λ (b : Arc). b.to) e) in
      record {
        handle = k;
        row = row;
        in_use = in_use;
        dependent = dependent;
        primary = sym (ap (λ (b : Arc). b.from) e);
        secondary = to;
        not_null = subst (λ n. 0 < n) to (ltb-true 0 row.second second);
      }

  edges-listed : ListsEdges arcs (Edge m)
  edges-listed x y = (into, from)
    where
      into : Edge m x y → ArcIn arcs x y
      into (inl s) = slot-listed x y s
      into (inr s) = tied-listed x y s

      some_edge : (a : Arc) → IsIn a slot_edges ⊎ IsIn a tied_edges → Edge m a.from a.to
      some_edge a (inl i) = inl (slot-edge a i)
      some_edge a (inr i) = inr (tied-edge a i)

      from : ArcIn arcs x y → Edge m x y
      from (a, i, e, f) = subst (λ n. Edge m n y) e (subst (Edge m a.from) f (some_edge a (in_append slot_edges i)))

  -- ---- starts

  abbrev root_rows : List Handle
  root_rows = filter (λ row. is_root_kind row.kind) (handle_rows m)

  abbrev held_names : List ℕ
  held_names = map (λ row. row.target) root_rows

  abbrev possible_names : List ℕ
  possible_names = (m.locals ++ held_names) ++ m.ready

  abbrev root_names : List ℕ
  root_names = filter (λ x. nat_lt 0 x) possible_names

  abbrev is_old : ℕ → Object → Bool
  is_old g o = nat_lt g (generation m.layout o.place)

  abbrev old_names : ℕ → List ℕ
  old_names g = map (λ o. o.name) (filter (is_old g) m.objects)

  abbrev start_names : ℕ → List ℕ
  start_names g = root_names ++ old_names g

  held-listed : (x : ℕ) → HeldBy m.handles x → IsIn x held_names
  held-listed x s =
      let known : IsIn s.row (handle_rows m) = value-among m.handles s.handle s.row s.in_use in
      let among : IsIn s.row root_rows =
      into_filter (λ (row : Handle). is_root_kind row.kind) (handle_rows m) s.holds known in
      subst (λ n. IsIn n held_names) s.target (IsIn-map (λ (row : Handle). row.target) among)

  held-is : (x : ℕ) → IsIn x held_names → HeldBy m.handles x
  held-is x i =
      let (row, e, j) = from-map (λ (row : Handle). row.target) x root_rows i in
      let (holds, among) = out_of_filter (λ (row : Handle). is_root_kind row.kind) row (handle_rows m) j in
      let (k, in_use) = value-in_use m.handles row among in
      record { handle = k; row = row; in_use = in_use; holds = holds; target = sym e }

  roots-listed : (x : ℕ) → Roots m x → IsIn x root_names
  roots-listed x (l, root) = into_filter (λ x. nat_lt 0 x) possible_names (lt-ltb 0 x l) (go root)
    where
      go : (IsIn x m.locals ⊎ HeldBy m.handles x) ⊎ IsIn x m.ready → IsIn x possible_names
      go (inl (inl i)) = append_left m.ready (append_left held_names i)
      go (inl (inr s)) = append_left m.ready (append_right m.locals (held-listed x s))
      go (inr i) = append_right (m.locals ++ held_names) i

  roots-are : (x : ℕ) → IsIn x root_names → Roots m x
  roots-are x i =
      let (l, j) = out_of_filter (λ x. nat_lt 0 x) x possible_names i in
      (ltb-true 0 x l, go (in_append (m.locals ++ held_names) j))
    where
      early : IsIn x m.locals ⊎ IsIn x held_names → IsIn x m.locals ⊎ HeldBy m.handles x
      early (inl i) = inl i
      early (inr i) = inr (held-is x i)

      go : IsIn x (m.locals ++ held_names) ⊎ IsIn x m.ready → (IsIn x m.locals ⊎ HeldBy m.handles x) ⊎ IsIn x m.ready
      go (inl i) = inl (early (in_append m.locals i))
      go (inr i) = inr i

  old-listed : (g x : ℕ) → Old m g x → IsIn x (old_names g)
  old-listed g x s =
      let old : is_old g s.object ≡ true = lt-ltb g (generation m.layout s.object.place) s.above in
      let among : IsIn s.object (filter (is_old g) m.objects) = into_filter (is_old g) m.objects old s.present in
      subst (λ n. IsIn n (old_names g)) s.named (IsIn-map (λ (o : Object). o.name) among)

  old-is : (g x : ℕ) → IsIn x (old_names g) → Old m g x
  old-is g x i =
      let (o, e, j) = from-map (λ (o : Object). o.name) x (filter (is_old g) m.objects) i in
      let (old, present) = out_of_filter (is_old g) o m.objects j in
      record { object = o; present = present; named = sym e; above = ltb-true g (generation m.layout o.place) old }

  starts-listed : (g : ℕ) → Lists (start_names g) (StartOf m g)
  starts-listed g x = (into, λ i. from (in_append root_names i))
    where
      into : StartOf m g x → IsIn x (start_names g)
      into (inl root) = append_left (old_names g) (roots-listed x root)
      into (inr old) = append_right root_names (old-listed g x old)

      from : IsIn x root_names ⊎ IsIn x (old_names g) → StartOf m g x
      from (inl i) = inl (roots-are x i)
      from (inr i) = inr (old-is g x i)

  -- ---- tests

  -- what is alive before finalisation in a collection of generation g
  abbrev pub alive : ℕ → ℕ → Bool
  alive g = reached_by arcs (start_names g)

  pub alive-tests : (g : ℕ) → Tests (alive g) (IsAlive m (StartOf m g))
  alive-tests g = reached-tests arcs (start_names g) (Edge m) (StartOf m g) edges-listed (starts-listed g)

  -- what stays, where a test tells what is alive before finalisation
  abbrev pub stays : ℕ → (ℕ → Bool) → ℕ → Bool
  stays g alive_first = reached_by arcs (start_names g ++ woken m alive_first)

  pub stays-tests : (g : ℕ) (alive_first : ℕ → Bool) → Tests (stays g alive_first) (Kept m (StartOf m g) alive_first)
  stays-tests g alive_first =
      reached-tests arcs (start_names g ++ woken m alive_first) (Edge m)
      (λ x. StartOf m g x ⊎ IsIn x (woken m alive_first)) edges-listed listed
    where
      listed : Lists (start_names g ++ woken m alive_first) (λ x. StartOf m g x ⊎ IsIn x (woken m alive_first))
      listed x = (into, λ i. from (in_append (start_names g) i))
        where
          into : StartOf m g x ⊎ IsIn x (woken m alive_first) → IsIn x (start_names g ++ woken m alive_first)
          into (inl s) = append_left (woken m alive_first) ((starts-listed g x).0 s)
          into (inr i) = append_right (start_names g) i

          from : IsIn x (start_names g) ⊎ IsIn x (woken m alive_first) → StartOf m g x ⊎ IsIn x (woken m alive_first)
          from (inl i) = inl ((starts-listed g x).1 i)
          from (inr i) = inr i

  -- ---- the last pause of a background collection

  -- the names where it starts
  abbrev pub marked_names : Marking → List ℕ
  marked_names k = root_names ++ (k.gray ++ k.black)

  marked-listed : (k : Marking) → Lists (marked_names k) (StartOfBackground m k)
  marked-listed k x = (into, λ i. from (in_append root_names i))
    where
      into : StartOfBackground m k x → IsIn x (marked_names k)
      into (inl root) = append_left (k.gray ++ k.black) (roots-listed x root)
      into (inr (inl i)) = append_right root_names (append_left k.black i)
      into (inr (inr i)) = append_right root_names (append_right k.gray i)

      colour : IsIn x k.gray ⊎ IsIn x k.black → StartOfBackground m k x
      colour (inl i) = inr (inl i)
      colour (inr i) = inr (inr i)

      from : IsIn x root_names ⊎ IsIn x (k.gray ++ k.black) → StartOfBackground m k x
      from (inl i) = inl (roots-are x i)
      from (inr i) = colour (in_append k.gray i)

  abbrev pub marked_alive : Marking → ℕ → Bool
  marked_alive k = reached_by arcs (marked_names k)

  pub marked_alive-tests : (k : Marking) → Tests (marked_alive k) (IsAlive m (StartOfBackground m k))
  marked_alive-tests k =
      reached-tests arcs (marked_names k) (Edge m) (StartOfBackground m k) edges-listed (marked-listed k)

  abbrev pub marked_stays : Marking → (ℕ → Bool) → ℕ → Bool
  marked_stays k alive_first = reached_by arcs (marked_names k ++ woken m alive_first)

  pub marked_stays-tests : (k : Marking) (alive_first : ℕ → Bool)
      → Tests (marked_stays k alive_first) (Kept m (StartOfBackground m k) alive_first)
  marked_stays-tests k alive_first =
      reached-tests arcs (marked_names k ++ woken m alive_first) (Edge m)
      (λ x. StartOfBackground m k x ⊎ IsIn x (woken m alive_first)) edges-listed listed
    where
      listed : Lists (marked_names k ++ woken m alive_first)
          (λ x. StartOfBackground m k x ⊎ IsIn x (woken m alive_first))
      listed x = (into, λ i. from (in_append (marked_names k) i))
        where
          into : StartOfBackground m k x ⊎ IsIn x (woken m alive_first) → IsIn x (marked_names k ++ woken m alive_first)
          into (inl s) = append_left (woken m alive_first) ((marked-listed k x).0 s)
          into (inr i) = append_right (marked_names k) i

          from : IsIn x (marked_names k) ⊎ IsIn x (woken m alive_first)
              → StartOfBackground m k x ⊎ IsIn x (woken m alive_first)
          from (inl i) = inl ((marked-listed k x).1 i)
          from (inr i) = inr i
