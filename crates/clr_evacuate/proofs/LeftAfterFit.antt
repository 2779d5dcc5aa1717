-- What a collection leaves after a fit: the same objects, where the fit took them, and all that names them.
use Rattle.std.proofs.Common.{◌≡◌, inl, inr, ℕ, ◌<◌, Bool, true, false, not, ◌||◌, if◌then◌else◌, List, [], ◌∷◌}
use Rattle.std.proofs.Common.{map, nat_le, refl, ap, sym, ◌∙◌, subst, arith, slice_get, Some, ◌⊎◌, zero, suc}
use Rattle.std.proofs.lemmas.Bool.{cases_Bool}
use Rattle.std.specs.FinMap as finmap
use Rattle.std.specs.FinMap.{FinMap}
use Rattle.std.specs.Ordering.{nat_cmp}
use Rattle.clr_types.specs.Rising.{IsIn}
use Rattle.clr_types.specs.Segments.{generation, Layout, rest_pieces}
use Rattle.clr_types.specs.Types.{TypeRow}
use Rattle.clr_types.specs.declared.handle.Handle.{Handle}
use Rattle.clr_types.proofs.ChangedLists.{IsIn-map}
use Rattle.clr_types.proofs.ListMembers.{from-map}
use Rattle.clr_types.proofs.SortedLists.{into_sorted_by, out_of_sorted_by}
use Rattle.clr_final.specs.Queues.{Queues}
use Rattle.clr_heap.specs.View.{frame, HeapView, no_rests, word_of}
use Rattle.clr_model.specs.Compaction.{Move, moved_by}
use Rattle.clr_model.specs.Fitting.{is_moved}
use Rattle.clr_model.specs.Lawful.{IsLaid}
use Rattle.clr_model.specs.Machine.{Machine, num, Object, ref, Value}
use Rattle.clr_model.specs.Reach.{SlotNames}
use Rattle.clr_model.proofs.FitLaid.{unmoved-still}
use Rattle.clr_fitting.specs.Steps.{IsFittedObject}
use Rattle.clr_fitting.proofs.FitMoves.{below_stays}
use Rattle.clr_fitting.proofs.TwoSteps.{fitted_object}
use Rattle.clr_mark.specs.Marks.{is_condemned_place}
use Rattle.clr_view.specs.Marks.{has_mark, Marked}
use Rattle.clr_view.specs.Memory.{is_left, is_marked, IsLeft, IsMemoryOf, TestsMarks}
use Rattle.clr_view.specs.SlotValues.{StandsAt}
use Rattle.clr_view.specs.View.{objects_in}
use Rattle.clr_view.specs.World.{World}
use Rattle.clr_view.proofs.LeftNames.{name-is-place}
use Rattle.clr_moves.specs.Objects.{moved_object, relocated_object, relocated_value}
use Rattle.clr_survivors.specs.Survivors.{AreClosed, IsNullOrLeft, NameLeft, world_with}
use Rattle.clr_survivors.proofs.LeftObjects.{was-handle}
use Rattle.clr_evacuate.specs.Evacuated.{HaveFitted, moves_in}

-- ---- lists of values

-- what is read of changed values is one of them, changed
read-changed : {X Y : Type 0} (g : X → Y) (xs : List X) (j : ℕ) (y : Y) → slice_get (map g xs) j ≡ Some y
    → (x : X) × (slice_get xs j ≡ Some x) × (g x ≡ y)
read-changed g [] j y e = absurd cc
read-changed g (x ∷ xs) zero y e = (x, refl, same e)
  where
    same : Some (g x) ≡ Some y → g x ≡ y
    same f = cc
read-changed g (x ∷ xs) (suc j) y e = read-changed g xs j y e

-- a relocated value that is a reference was one
was-reference : (vs : List Move) (v : Value) (y : ℕ) → relocated_value vs v ≡ ref y
    → (z : ℕ) × (v ≡ ref z) × (y ≡ moved_by vs z)
was-reference vs (ref z) y e = (z, refl, same e)
  where
    same : ref (moved_by vs z) ≡ ref y → y ≡ moved_by vs z
    same f = cc
was-reference vs (num n) y e = absurd cc

-- what `b` has in place of false is true only where `t` isn't
not-gone : (t b : Bool) → (if t then false else b) ≡ true → (t ≡ false) × (b ≡ true)
not-gone true b e = absurd cc
not-gone false b e = (refl, e)

-- ---- the world after the fit

-- what a fit works on, and what it leaves of it
pub record FitStages : Type 0 where
  pub rows : List TypeRow
  pub old : HeapView
  pub mid : HeapView
  pub locals : List ℕ
  pub locals_mid : List ℕ
  pub table : FinMap nat_cmp Handle
  pub table_mid : FinMap nat_cmp Handle
  pub queues : Queues
  pub queues_mid : Queues
  pub bytes : ℕ

-- the worlds before and after it
abbrev pub world_before : FitStages → World
world_before s = world_with s.rows s.old s.locals s.table s.queues

abbrev pub world_between : FitStages → World
world_between s = world_with s.rows s.mid s.locals_mid s.table_mid s.queues_mid

-- What is given before survivors move, and a fit that was made of it.
pub record IsFit (s : FitStages) (n : Machine) (kept : ℕ → Bool) : Type 0 where
  pub memory : IsMemoryOf s.rows s.old n
  pub laid : IsLaid n
  pub no_contexts : s.old.rests ≡ no_rests
  pub same : n.handles ≡ s.table
  pub tests : TestsMarks s.rows s.old 1 kept
  pub named : NameLeft (world_before s) 1
  pub fitted : HaveFitted (world_before s) (world_between s) n kept s.bytes

module _ (s : FitStages) (n : Machine) (kept : ℕ → Bool) (f : IsFit s n kept) where
  abbrev F : List Move
  F = moves_in n kept

  -- an object where the fit takes it
  abbrev go : Object → Object
  go o = moved_object (moves_in n kept) (relocated_object (moves_in n kept) o)

  pub bare : rest_pieces n.layout.rests ≡ []
  bare = ap (λ (l : Layout). rest_pieces l.rests) f.memory.layout ∙ ap rest_pieces f.no_contexts

  pub known : (o : Object) → IsIn o (objects_in s.rows s.old) → IsIn o n.objects
  known o i = subst (λ (os : List Object). IsIn o os) (sym f.memory.objects) i

  -- boundaries stay
  pub age-stays : (x : ℕ) → generation (frame s.mid) x ≡ generation (frame s.old) x
  age-stays x =
      ap (λ (l : Layout). generation l x) f.fitted.layout ∙ ap (λ (l : Layout). generation l x) f.memory.layout

  pub null-fits : moved_by (moves_in n kept) 0 ≡ 0
  null-fits = below_stays n kept f.laid bare 0 (let low = f.laid.layout.start1_low in omega arith)

  -- each object is one of before, where it went
  pub was-object : (p : Object) → IsIn p (objects_in s.rows s.mid)
      → (o : Object) × (p ≡ moved_object (moves_in n kept) (relocated_object (moves_in n kept) o))
      × IsIn o (objects_in s.rows s.old)
  was-object p i =
      from-map go p (objects_in s.rows s.old)
      (out_of_sorted_by (λ (o : Object). o.name) p (map go (objects_in s.rows s.old))
      (subst (λ (os : List Object). IsIn p os) f.fitted.objects i))

  pub gone-object : (o : Object) → IsIn o (objects_in s.rows s.old)
      → IsIn (moved_object (moves_in n kept) (relocated_object (moves_in n kept) o)) (objects_in s.rows s.mid)
  gone-object o i =
      subst (λ (os : List Object). IsIn (go o) os) (sym f.fitted.objects)
      (into_sorted_by (λ (o : Object). o.name) (go o) (map go (objects_in s.rows s.old)) (IsIn-map go i))

  pub mark-is : (o : Object) → IsIn o (objects_in s.rows s.old)
      → is_marked s.mid (go o) ≡ (if is_moved (moves_in n kept) o.place then false else is_marked s.old o)
  mark-is o i = f.fitted.marks o i

  -- WHAT IS LEFT is left afterwards, too: what found room was marked, and is of generation 2 then
  pub left-still : (o : Object) → IsIn o (objects_in s.rows s.old)
      → is_left s.mid 1 (moved_object (moves_in n kept) (relocated_object (moves_in n kept) o)) ≡ is_left s.old 1 o
  left-still o i = by (cases_Bool (is_moved (moves_in n kept) o.place))
    where
      by : (is_moved (moves_in n kept) o.place ≡ true) ⊎ (is_moved (moves_in n kept) o.place ≡ false)
          → is_left s.mid 1 (go o) ≡ is_left s.old 1 o
      by (inl t) =
          let is : IsFittedObject n kept o = fitted_object n kept f.laid bare o (known o i) t in
          let after : generation (frame s.mid) (moved_by F o.place) ≡ 2 =
          ap (λ (l : Layout). generation l (moved_by F o.place)) f.fitted.layout ∙ is.after in
          let before : generation (frame s.old) o.place ≡ 1 =
          sym (ap (λ (l : Layout). generation l o.place) f.memory.layout) ∙ is.before in
          let mark : is_marked s.old o ≡ true = sym (f.tests o i (omega (arith, before))) ∙ is.stays in
          ap (λ (g : ℕ). not (nat_le g 1) || is_marked s.mid (go o)) after
          ∙ sym (λ k. not (nat_le (before k) 1) || mark k)
      by (inr t) =
          let place : moved_by F o.place ≡ o.place = unmoved-still F o.place t in
          let mark : is_marked s.mid (go o) ≡ is_marked s.old o =
          mark-is o i ∙ ap (λ (b : Bool). if b then false else is_marked s.old o) t in
          let age : generation (frame s.mid) (moved_by F o.place) ≡ generation (frame s.old) o.place =
          ap (generation (frame s.mid)) place ∙ age-stays o.place in
          λ k. not (nat_le (age k) 1) || mark k

  left-goes : (x : ℕ) → IsLeft s.rows s.old 1 x → IsLeft s.rows s.mid 1 (moved_by (moves_in n kept) x)
  left-goes x left =
      let o = left.object in
      record {
        object = go o;
        present = gone-object o left.present;
        named = ap (moved_by F) (sym (name-is-place s.rows s.old o left.present) ∙ left.named);
        left = left-still o left.present ∙ left.left;
      }

  name-goes : (x : ℕ) → IsNullOrLeft s.rows s.old 1 x → IsNullOrLeft s.rows s.mid 1 (moved_by (moves_in n kept) x)
  name-goes x (inl null) = inl (ap (moved_by F) null ∙ null-fits)
  name-goes x (inr left) = inr (left-goes x left)

  -- ---- what a collection of generation 1 needs

  -- marked objects are condemned
  pub young-after : ((x : ℕ) → Marked s.rows s.old x → is_condemned_place s.old 1 x ≡ true) → (x : ℕ)
      → Marked s.rows s.mid x → is_condemned_place s.mid 1 x ≡ true
  unfolding is_condemned_place
  young-after young x marked =
      let (p, j, at) = marked.stands in
      let (o, is, i) = was-object p j in
      let there : moved_by F o.place ≡ x = sym (ap (λ (q : Object). q.place) is) ∙ at in
      let (stayed, mark) = not-gone (is_moved F o.place) (is_marked s.old o)
      (sym (mark-is o i) ∙ ap (λ (y : ℕ). has_mark (word_of s.mid y)) there ∙ marked.mark) in
      let place : o.place ≡ x = sym (unmoved-still F o.place stayed) ∙ there in
      ap (λ (g : ℕ). nat_le g 1) (age-stays x)
      ∙ young x (record {
        stands = (o, i, place);
        mark = ap (λ (y : ℕ). has_mark (word_of s.old y)) (sym place) ∙ mark;
      })

  -- what is left names nothing else
  pub closed-after : AreClosed s.rows s.old 1 → AreClosed s.rows s.mid 1
  closed-after closed p j x i left at =
      let (o, is, l) = was-object p i in
      let (v, got, same) = read-changed (relocated_value F) o.slots j (ref x)
      (subst (λ (q : Object). slice_get q.slots j ≡ Some (ref x)) is at) in
      let (z, value, to) = was-reference F v x same in
      subst (IsNullOrLeft s.rows s.mid 1) (sym to)
      (name-goes z (closed o j z l
      (sym (left-still o l) ∙ subst (λ (q : Object). is_left s.mid 1 q ≡ true) is left)
      (got ∙ ap Some value)))

  -- all that slots name stands there
  pub stands-after : ((x y : ℕ) → SlotNames (objects_in s.rows s.old) x y → StandsAt s.rows s.old y) → (x y : ℕ)
      → SlotNames (objects_in s.rows s.mid) x y → StandsAt s.rows s.mid y
  stands-after stands x y names =
      let (o, is, i) = was-object names.object names.present in
      let (v, same, j) = from-map (relocated_value F) (ref y) o.slots
      (subst (λ (q : Object). IsIn (ref y) q.slots) is names.slot) in
      let (z, value, to) = was-reference F v y (sym same) in
      let (q, k, place) = stands o.name z (record {
        object = o;
        present = i;
        named = refl;
        slot = subst (λ (u : Value). IsIn u o.slots) value j;
        not_null = above z to names.not_null;
      }) in
      there q k z place to
    where
      there : (q : Object) → IsIn q (objects_in s.rows s.old) → (z : ℕ) → q.place ≡ z → y ≡ moved_by F z
          → StandsAt s.rows s.mid y
      there q k z place to = (go q, gone-object q k, ap (moved_by F) place ∙ sym to)

      above : (z : ℕ) → y ≡ moved_by F z → 0 < y → 0 < z
      above zero to some = let null = null-fits in absurd (omega (arith, to, some, null))
      above (suc z) to some = omega arith

  -- locals, handles, entries and the f-reachable queue name nothing else
  pub named-after : NameLeft (world_between s) 1
  named-after = record {
    locals = λ x i. let (y, is, j) = from-map (moved_by F) x s.locals
        (subst (λ (xs : List ℕ). IsIn x xs) f.fitted.locals i) in
        subst (IsNullOrLeft s.rows s.mid 1) (sym is) (name-goes y (f.named.locals y j));
    targets = λ k row here. let (was, there, is) = was-handle (moved_by F) s.table k row
        (sym (ap (λ (t : FinMap nat_cmp Handle). finmap.get t k) f.fitted.handles) ∙ here) in
        subst (λ (r : Handle). IsNullOrLeft s.rows s.mid 1 r.target) (sym is)
        (name-goes was.target (f.named.targets k was there));
    seconds = λ k row here. let (was, there, is) = was-handle (moved_by F) s.table k row
        (sym (ap (λ (t : FinMap nat_cmp Handle). finmap.get t k) f.fitted.handles) ∙ here) in
        subst (λ (r : Handle). IsNullOrLeft s.rows s.mid 1 r.second) (sym is)
        (name-goes was.second (f.named.seconds k was there));
    entries = λ x i. let (y, is, j) = from-map (moved_by F) x s.queues.entries
        (subst (λ (xs : List ℕ). IsIn x xs) f.fitted.entries i) in
        subst (IsLeft s.rows s.mid 1) (sym is) (left-goes y (f.named.entries y j));
    ready = λ x i. let (y, is, j) = from-map (moved_by F) x s.queues.ready
        (subst (λ (xs : List ℕ). IsIn x xs) f.fitted.ready i) in
        subst (IsLeft s.rows s.mid 1) (sym is) (left-goes y (f.named.ready y j));
  }
