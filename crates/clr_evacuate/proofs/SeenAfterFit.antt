-- The machine that is seen after a fit: lawful, and by its marks it keeps what was kept before.
use Rattle.std.proofs.Common.{◌≡◌, inl, inr, ℕ, ◌≤◌, ◌⊎◌, Bool, true, false, ◌&&◌, ◌==◌, if◌then◌else◌, List, []}
use Rattle.std.proofs.Common.{map, refl, ap, sym, ◌∙◌, subst, arith}
use Rattle.std.proofs.lemmas.Bool.{and_from, and_parts, both_ways, cases_Bool, eq-eqb, eqb-true}
use Rattle.std.proofs.lemmas.List.{append-nil}
use Rattle.std.specs.FinMap as finmap
use Rattle.std.specs.FinMap.{FinMap}
use Rattle.std.specs.List.{AllByRecursion, list_any}
use Rattle.std.specs.Ordering.{nat_cmp}
use Rattle.clr_types.specs.Maps.{map_values}
use Rattle.clr_types.specs.Rising.{IsIn}
use Rattle.clr_types.specs.Segments.{generation, Layout, rest_pieces}
use Rattle.clr_types.specs.Types.{TypeRow}
use Rattle.clr_types.specs.declared.handle.Handle.{Handle}
use Rattle.clr_types.proofs.ChangedLists.{all_members}
use Rattle.clr_types.proofs.ListMembers.{any-from, any-in, map-map}
use Rattle.clr_types.proofs.MapValues.{value-in_use}
use Rattle.clr_types.proofs.Shuffles.{IsShuffled, shuffled-sorted}
use Rattle.clr_handles.specs.Laws.{relocated}
use Rattle.clr_heap.specs.View.{frame, HeapView}
use Rattle.clr_model.specs.Compaction.{Move, moved_by}
use Rattle.clr_model.specs.Fitting.{is_moved}
use Rattle.clr_model.specs.Lawful.{IsLaid, IsNullOrPresent, IsPresent}
use Rattle.clr_model.specs.Lookups.{handle_rows}
use Rattle.clr_model.specs.Machine.{Machine, Object}
use Rattle.clr_model.specs.Slide.{slid_object}
use Rattle.clr_model.proofs.BirthSeen.{member-present}
use Rattle.clr_model.proofs.FitLaid.{unmoved-still}
use Rattle.clr_fitting.specs.Steps.{fitted, free_elsewhere, IsAlike, IsFittedObject, IsFittedSeen, IsSeenAs}
use Rattle.clr_fitting.proofs.Copies.{laid_seen}
use Rattle.clr_fitting.proofs.FitMoves.{fit_one}
use Rattle.clr_fitting.proofs.SeenFitted.{fitted_seen}
use Rattle.clr_fitting.proofs.TwoSteps.{fitted_object, stays_laid}
use Rattle.clr_view.specs.Memory.{is_marked, IsMemoryOf, TestsMarks}
use Rattle.clr_view.specs.View.{layout_in, objects_in}
use Rattle.clr_view.proofs.LeftNames.{name-is-place}
use Rattle.clr_moves.specs.Objects.{moved_object, relocated_object, relocated_value}
use Rattle.clr_survivors.specs.Survivors.{IsNullOrLeft}
use Rattle.clr_evacuate.specs.Evacuated.{moves_in}
use Rattle.clr_evacuate.proofs.LeftAfterFit.{age-stays, bare, FitStages, IsFit, known, mark-is, was-object}

-- the machine whose memory a heap is, with this table of handles, and otherwise this one
abbrev pub seen_in : List TypeRow → HeapView → FinMap nat_cmp Handle → Machine → Machine
seen_in rows h table n = record n { objects = objects_in rows h; layout = layout_in rows h; handles = table }

-- a name is kept after the fit where it is a place to which the fit takes an object that is kept
abbrev pub kept_then : Machine → (ℕ → Bool) → ℕ → Bool
kept_then n kept x = list_any (λ (o : Object). (moved_by (moves_in n kept) o.place == x) && kept o.name) n.objects

module _ (s : FitStages) (n : Machine) (kept : ℕ → Bool) (f : IsFit s n kept) where
  abbrev F : List Move
  F = moves_in n kept

  abbrev go : Object → Object
  go o = moved_object (moves_in n kept) (relocated_object (moves_in n kept) o)

  abbrev seen : Machine
  seen = seen_in s.rows s.mid s.table_mid n

  none : rest_pieces n.layout.rests ≡ []
  none = bare s n kept f

  -- ---- its memory

  pub seen-memory : IsMemoryOf s.rows s.mid (seen_in s.rows s.mid s.table_mid n)
  seen-memory = record { types = f.memory.types; objects = refl; layout = refl }

  abbrev shown : Object → Object
  shown o = record o { name = o.place; slots = map (relocated_value (moves_in n kept)) o.slots }

  shuffled-gone : IsShuffled (map go (objects_in s.rows s.old)) (objects_in s.rows s.mid)
  shuffled-gone =
      subst (IsShuffled (map go (objects_in s.rows s.old))) (sym f.fitted.objects)
      (shuffled-sorted (λ (o : Object). o.name) (map go (objects_in s.rows s.old)))

  gone-known : map go n.objects ≡ map go (objects_in s.rows s.old)
  gone-known = ap (map go) f.memory.objects

  pub seen-laid : IsLaid (seen_in s.rows s.mid s.table_mid n)
  seen-laid =
      laid_seen (fitted n kept) seen shown (stays_laid n kept f.laid none) refl f.fitted.layout
      (subst (λ (os : List Object). IsShuffled os (objects_in s.rows s.mid))
      (sym (map-map (slid_object F) shown n.objects ∙ gone-known)) shuffled-gone)
      (λ o. refl)

  -- ---- what it keeps

  then-is : (o : Object) → IsIn o n.objects → kept_then n kept (moved_by (moves_in n kept) o.place) ≡ kept o.name
  then-is o i = by (cases_Bool (kept o.name)) (cases_Bool (kept_then n kept (moved_by F o.place)))
    where
      goes-there : Object → Bool
      goes-there q = (moved_by F q.place == moved_by F o.place) && kept q.name

      by : (kept o.name ≡ true) ⊎ (kept o.name ≡ false)
          → (kept_then n kept (moved_by F o.place) ≡ true) ⊎ (kept_then n kept (moved_by F o.place) ≡ false)
          → kept_then n kept (moved_by F o.place) ≡ kept o.name
      by (inl on) t =
          any-from goes-there n.objects o i
          (and_from (moved_by F o.place == moved_by F o.place) (kept o.name)
          (eq-eqb (moved_by F o.place) (moved_by F o.place) refl) on)
          ∙ sym on
      by (inr off) (inr t) = t ∙ sym off
      by (inr off) (inl t) =
          let (q, j, passed) = any-in goes-there n.objects t in
          let (at, on) = and_parts (moved_by F q.place == moved_by F o.place) (kept q.name) passed in
          let same : q ≡ o = fit_one n kept f.laid none q o j i (eqb-true (moved_by F q.place) (moved_by F o.place) at)
          in
          absurd (both_ways (kept o.name) off (subst (λ (w : Object). kept w.name ≡ true) same on))

  -- of the objects that a collection of generation 1 goes over it keeps the marked ones
  pub then-marks : TestsMarks s.rows s.mid 1 (kept_then n kept)
  then-marks p j young =
      let (o, is, i) = was-object s n kept f p j in
      subst (λ (q : Object). kept_then n kept q.name ≡ is_marked s.mid q) (sym is)
      (at o i (subst (λ (q : Object). generation (frame s.mid) q.place ≤ 1) is young)
      (cases_Bool (is_moved (moves_in n kept) o.place)))
    where
      at : (o : Object) → IsIn o (objects_in s.rows s.old) → generation (frame s.mid) (moved_by F o.place) ≤ 1
          → (is_moved (moves_in n kept) o.place ≡ true) ⊎ (is_moved (moves_in n kept) o.place ≡ false)
          → kept_then n kept (moved_by F o.place) ≡ is_marked s.mid (go o)
      at o i low (inl t) =
          let there = known s n kept f o i in
          let is : IsFittedObject n kept o = fitted_object n kept f.laid none o there t in
          let after : generation (frame s.mid) (moved_by F o.place) ≡ 2 =
          ap (λ (l : Layout). generation l (moved_by F o.place)) f.fitted.layout ∙ is.after in
          absurd (omega (arith, after, low))
      at o i low (inr t) =
          let there = known s n kept f o i in
          let place : moved_by F o.place ≡ o.place = unmoved-still F o.place t in
          let age : generation (frame s.mid) (moved_by F o.place) ≡ generation (frame s.old) o.place =
          ap (generation (frame s.mid)) place ∙ age-stays s n kept f o.place in
          then-is o there ∙ f.tests o i (omega (arith, age, low))
          ∙ sym (mark-is s n kept f o i
          ∙ ap (λ (b : Bool). if b then false else is_marked s.old o) t)

  -- ---- the machine after the fit, under other names

  alike : IsAlike (fitted n kept).layout (seen_in s.rows s.mid s.table_mid n).layout
  alike =
      let e : layout_in s.rows s.mid ≡ (fitted n kept).layout = f.fitted.layout in
      record {
        segments = ap (λ (l : Layout). l.segments) e;
        start1 = ap (λ (l : Layout). l.start1) e;
        start0 = ap (λ (l : Layout). l.start0) e;
        rests = ap (λ (l : Layout). l.rests) e;
        top = ap (λ (l : Layout). l.top) e;
        free = ap (λ (l : Layout). free_elsewhere (layout_in s.rows s.mid) l.free) e;
      }

  is-seen : IsFittedSeen n kept (seen_in s.rows s.mid s.table_mid n)
  is-seen = record {
    change = map (relocated_value (moves_in n kept));
    more = [];
    types = refl;
    layout = alike;
    objects = subst (λ (os : List Object). IsShuffled os (objects_in s.rows s.mid))
        (sym (append-nil (map go n.objects) ∙ gone-known)) shuffled-gone;
    handles = f.fitted.handles ∙ ap (map_values (relocated (moved_by (moves_in n kept)))) (sym f.same);
  }

  named-places : AllByRecursion (λ (o : Object). o.name ≡ o.place) n.objects
  named-places =
      all_members (λ (o : Object). o.name ≡ o.place) n.objects
      (λ o i. name-is-place s.rows s.old o (subst (λ (os : List Object). IsIn o os) f.memory.objects i))

  present : (x : ℕ) → IsNullOrLeft s.rows s.old 1 x → IsNullOrPresent n x
  present x (inl null) = inl null
  present x (inr left) =
      inr (subst (IsPresent n) left.named
      (member-present n.objects left.object (known s n kept f left.object left.present)))

  targets-present : AllByRecursion (λ (row : Handle). IsNullOrPresent n row.target) (handle_rows n)
  targets-present =
      all_members (λ (row : Handle). IsNullOrPresent n row.target) (handle_rows n)
      (λ row i. let (k, here) = value-in_use n.handles row i in
      present row.target (f.named.targets k row
      (sym (ap (λ (t : FinMap nat_cmp Handle). finmap.get t k) f.same) ∙ here)))

  pub seen-as : IsSeenAs (fitted n kept) kept (seen_in s.rows s.mid s.table_mid n) (kept_then n kept)
  unfolding is-seen
  seen-as =
      fitted_seen n kept f.laid none named-places targets-present seen (kept_then n kept) is-seen then-is
      (λ o i. elim i [ ])
