-- What is seen after a type was defined, and why one is refused.
use Rattle.std.proofs.Common.{[], ap, Bool, false, length, List, refl, true, ℕ, ◌++◌, ◌+◌, ◌↔◌, ◌∙◌, ◌∷◌, ◌≡◌, ◌≢◌, ◌≤◌}
use Rattle.std.proofs.Common.{sym, subst, arith, Option, Some, None, is_some}
use Rattle.std.specs.Prelude.{Result, Ok, Err, OnOk, OnErr}
use Rattle.clr_types.specs.Types.{Form, form_of_row, is_lawful_form, mt_of, number_with_free, TypeRow}
use Rattle.clr_types.specs.declared.TypeId.{TypeId}
use Rattle.clr_types.specs.declared.fault.DefineFault.{DefineFault}
use Rattle.clr_types.specs.declared.fault.DefineFault.TheVariants as fault
use Rattle.clr_safe.specs.Threads.{Threads}
use Rattle.clr_runtime.specs.Shown.{Ahead, shown}
use Rattle.clr_view.specs.View.{IsHeld}
use Rattle.clr_view.specs.World.{World}
use Rattle.clr_view.proofs.CleanWords.{clean_with_type}
use Rattle.clr_view.proofs.FreeHeads.{heads_with_type}
use Rattle.clr_view.proofs.Unmarked.{unmarked_with_type}
use Rattle.clr_view.proofs.TypeMore.{held_with_type, layout_with_type, objects_with_type}
use Rattle.clr_model.specs.declared.Refusal.TheVariants as refusal
use Rattle.clr_model.specs.declared.Reply.TheVariants.{Mt}
use Rattle.clr_model.specs.LineGrammar.{is_name}
use Rattle.clr_model.specs.Machine.{Machine, Options, Sums}
use Rattle.clr_model.specs.Instructions.{define_type}
use Rattle.clr_model.specs.Outcomes.{answered, refused}
use Rattle.clr_model.specs.Step.{new_row, with_type}
use Rattle.clr_model.specs.Run.{Follows, StandsFor}
use Rattle.clr_model.proofs.Carried.{follows}
use Rattle.clr_model.proofs.SeenStands.{follows_sound}
use Rattle.clr_model.proofs.TypeDefined.{define_carried, define_carried_count, define_carried_form}
use Rattle.clr_model.proofs.TypeDefined.{define_carried_lack, define_carried_name}
use Rattle.clr_runtime.specs.Outcomes.{refusal_of_fault}
use Rattle.clr_runtime.specs.RuntimeView.{IsShown}
use Rattle.clr_types.specs.Rising.{IsIn}
use Rattle.clr_types.proofs.GrownTables.{type_row-grown}
use Rattle.clr_types.proofs.RisingLists.{all_at}
use Rattle.clr_model.specs.Lawful.{IsShaped}
use Rattle.clr_runtime.proofs.MarkedKept.{stays_marked}

-- ---- a type more

-- the machine that is shown has the type, too
shown-defined : (w : World) (row : TypeRow) (sums : Sums) (options : Options) (threads : Threads) (ahead : Ahead)
    → IsHeld w.rows w.heap
    → shown (record w { rows = w.rows ++ row ∷ [] }) sums options threads ahead
    ≡ with_type (shown w sums options threads ahead) row.name row.form row.finalizer
shown-defined w row sums options threads ahead held =
    let objects = objects_with_type w.rows row w.heap held.walkable in
    let layout = layout_with_type w.rows row w.heap held.walkable in
    λ i. record (shown w sums options threads ahead) {
      types = w.rows ++ row ∷ [];
      objects = objects i;
      layout = layout i;
    }

-- a table that doesn't refuse a type for its name, its form or the count of types
pub record IsOpenTo (rows : List TypeRow) (name : List ℕ) (form : Form) (finalizer : Bool) : Type 0 where
  pub name_free : (number_with_free rows name ≢ None) → ⊥
  pub form_lawful : (number_with_free rows name ≡ None) → is_lawful_form form finalizer ≡ false → ⊥
  pub count_below : (number_with_free rows name ≡ None) → is_lawful_form form finalizer ≡ true → length rows ≡ 1000 → ⊥

none_is : {X : Type 0} (o : Option X) → (o ≢ None → ⊥) → o ≡ None
none_is None h = refl
none_is (Some x) h = absurd (h (λ e. cc))

some_is : {X : Type 0} (o : Option X) → o ≢ None → is_some o ≡ true
some_is None h = absurd (h refl)
some_is (Some x) h = refl

true_is : (b : Bool) → (b ≡ false → ⊥) → b ≡ true
true_is true h = refl
true_is false h = absurd (h refl)

module _ (w : World) (sums : Sums) (options : Options) (threads : Threads) (ahead : Ahead) (name : List ℕ) (form : Form)
    (finalizer : Bool) where
  abbrev rows : List TypeRow
  rows = w.rows

  abbrev before : Machine
  before = shown w sums options threads ahead

  room_in : (m : Machine) → StandsFor before m → length rows ≤ 1000
  room_in m stands =
      let few = stands.lawful.lawful.type_count in
      subst (λ (s : Machine). length s.types ≤ 1000) stands.seen_is few

  -- the type is defined
  pub defined_follows : IsHeld rows w.heap → is_name name ≡ true → IsOpenTo rows name form finalizer
      → Follows before (define_type name form finalizer) (answered (Mt (mt_of (length rows + 1))))
      (shown (record w { rows = rows ++ new_row name form finalizer ∷ [] }) sums options threads ahead)
  defined_follows held spelled open_to =
      let unknown = none_is (number_with_free rows name) open_to.name_free in
      let lawful = true_is (is_lawful_form form finalizer) (open_to.form_lawful unknown) in
      let new_is = shown-defined w (new_row name form finalizer) sums options threads ahead held in
      subst (Follows before (define_type name form finalizer) (answered (Mt (mt_of (length rows + 1))))) (sym new_is)
      (follows before (define_type name form finalizer) _ _ (λ m stands.
      let few = room_in m stands in
      let some = open_to.count_below unknown lawful in
      define_carried before name form finalizer unknown lawful (omega (arith, few, some)) spelled m stands))

  -- there is no memory for it
  pub lacks_follows : IsOpenTo rows name form finalizer
      → Follows before (define_type name form finalizer) (refused refusal.NoMemory) before
  lacks_follows open_to =
      let unknown = none_is (number_with_free rows name) open_to.name_free in
      let lawful = true_is (is_lawful_form form finalizer) (open_to.form_lawful unknown) in
      follows before (define_type name form finalizer) _ _ (λ m stands.
      let few = room_in m stands in
      let some = open_to.count_below unknown lawful in
      define_carried_lack before name form finalizer unknown lawful (omega (arith, few, some)) m stands)

  pub name_follows : number_with_free rows name ≢ None
      → Follows before (define_type name form finalizer) (refused refusal.DuplicateType) before
  name_follows known =
      follows before (define_type name form finalizer) _ _
      (define_carried_name before name form finalizer (some_is (number_with_free rows name) known))

  pub form_follows : (number_with_free rows name ≡ None) × (is_lawful_form form finalizer ≡ false)
      → Follows before (define_type name form finalizer) (refused refusal.BadShape) before
  form_follows h =
      follows before (define_type name form finalizer) _ _ (define_carried_form before name form finalizer h.0 h.1)

  pub count_follows :
      (number_with_free rows name ≡ None) × (is_lawful_form form finalizer ≡ true) × (length rows ≡ 1000)
      → Follows before (define_type name form finalizer) (refused refusal.TooManyTypes) before
  count_follows h =
      follows before (define_type name form finalizer) _ _
      (define_carried_count before name form finalizer h.0 h.1 (let e = h.2 in omega arith))

-- what a table tells of a definition: each refusal exactly where it is the first that fits
pub record IsTold (rows : List TypeRow) (name : List ℕ) (form : Form) (finalizer : Bool)
    (result : Result TypeId DefineFault) : Type 0 where
  pub duplicate : (result ≡ Err fault.Duplicate) ↔ (number_with_free rows name ≢ None)
  pub bad_shape : (result ≡ Err fault.BadShape)
      ↔ ((number_with_free rows name ≡ None) × (is_lawful_form form finalizer ≡ false))
  pub too_many : (result ≡ Err fault.TooManyTypes)
      ↔ ((number_with_free rows name ≡ None) × (is_lawful_form form finalizer ≡ true) × (length rows ≡ 1000))

module _ (rows : List TypeRow) (name : List ℕ) (form : Form) (finalizer : Bool) (result : Result TypeId DefineFault)
    (told : IsTold rows name form finalizer result) where
  abbrev fails : DefineFault → Result TypeId DefineFault
  fails f = Err f

  open-ok : (t : TypeId) → result ≡ Ok t → IsOpenTo rows name form finalizer
  open-ok t ok = record {
    name_free = λ known. absurd (other (sym ok ∙ told.duplicate.1 known));
    form_lawful = λ unknown unlawful. absurd (other (sym ok ∙ told.bad_shape.1 (unknown, unlawful)));
    count_below = λ unknown lawful full. absurd (other (sym ok ∙ told.too_many.1 (unknown, lawful, full)));
  }
    where
      other : {r : DefineFault} → Ok t ≡ Err r → ⊥
      other e = cc

  open-lack : result ≡ Err fault.NoMemory → IsOpenTo rows name form finalizer
  open-lack err = record {
    name_free = λ known. absurd (no_duplicate (sym err ∙ told.duplicate.1 known));
    form_lawful = λ unknown unlawful. absurd (no_bad_shape (sym err ∙ told.bad_shape.1 (unknown, unlawful)));
    count_below = λ unknown lawful full. absurd (no_too_many (sym err ∙ told.too_many.1 (unknown, lawful, full)));
  }
    where
      no_duplicate : fails fault.NoMemory ≡ fails fault.Duplicate → ⊥
      no_duplicate e = cc

      no_bad_shape : fails fault.NoMemory ≡ fails fault.BadShape → ⊥
      no_bad_shape e = cc

      no_too_many : fails fault.NoMemory ≡ fails fault.TooManyTypes → ⊥
      no_too_many e = cc

-- ---- what is seen

module _ (w : World) (name : List ℕ) (form : Form) (finalizer : Bool) (result : Result TypeId DefineFault)
    (told : IsTold w.rows name form finalizer result) (sums : Sums) (options : Options) (threads : Threads)
    (ahead : Ahead) where
  abbrev shown_before : Machine
  shown_before = shown w sums options threads ahead

  -- a type that was defined
  pub told-ok : is_name name ≡ true → (t : TypeId) → result ≡ Ok t → IsHeld w.rows w.heap
      → Follows shown_before (define_type name form finalizer) (answered (Mt (mt_of (length w.rows + 1))))
      (shown (record w { rows = w.rows ++ new_row name form finalizer ∷ [] }) sums options threads ahead)
  told-ok spelled t ok held =
      defined_follows w sums options threads ahead name form finalizer held spelled
      (open-ok w.rows name form finalizer result told t ok)

  -- and one that was refused
  pub told-err : (f : DefineFault) → result ≡ Err f
      → Follows shown_before (define_type name form finalizer) (refused (refusal_of_fault f)) shown_before
  told-err fault.Duplicate err = name_follows w sums options threads ahead name form finalizer (told.duplicate.0 err)
  told-err fault.BadShape err = form_follows w sums options threads ahead name form finalizer (told.bad_shape.0 err)
  told-err fault.TooManyTypes err = count_follows w sums options threads ahead name form finalizer (told.too_many.0 err)
  told-err fault.NoMemory err =
      lacks_follows w sums options threads ahead name form finalizer
      (open-lack w.rows name form finalizer result told err)

-- what holds of the parts of a runtime holds of them after a definition, whether it was refused or not
pub defined_kept : (w : World) (after : List TypeRow) (sums : Sums) (options : Options) (threads : Threads)
    (ahead : Ahead)
    (name : List ℕ) (form : Form)
    (finalizer : Bool) (result : Result TypeId DefineFault) → IsShown w sums options threads ahead → is_name name ≡ true
    → OnOk result (after ≡ w.rows ++ new_row name form finalizer ∷ []) → OnErr result (after ≡ w.rows)
    → IsTold w.rows name form finalizer result → IsShown (record w { rows = after }) sums options threads ahead
defined_kept w after sums options threads ahead name form finalizer (Ok t) is spelled grown kept told =
    let row = new_row name form finalizer in
    subst (λ (rs : List TypeRow). IsShown (record w { rows = rs }) sums options threads ahead) (sym grown) (record {
      locals = is.locals;
      held = held_with_type w.rows row w.heap is.held;
      unmarked = unmarked_with_type w.rows row w.heap is.held is.unmarked;
      free_heads = heads_with_type w.rows row w.heap is.held is.free_heads;
      clean = clean_with_type w.rows row w.heap is.held is.clean;
      sound = follows_sound _ _ _ _ is.sound
          (told-ok w name form finalizer (Ok t) told sums options threads ahead spelled t refl is.held);
      marked = λ running.
          stays_marked (shown w sums options threads ahead)
          (shown (record w { rows = w.rows ++ row ∷ [] }) sums options threads ahead) ahead.background
          (record {
            objects = λ o here took. subst (IsIn o) (objects_with_type w.rows row w.heap is.held.walkable) here;
            forms = λ o here.
                ap form_of_row
                (type_row-grown w.rows row o.type
                (all_at (IsShaped (shown w sums options threads ahead)) here is.sound.lawful.shapes).typed);
            stores = λ name slot j. j;
          }) (is.marked running);
    })
defined_kept w after sums options threads ahead name form finalizer (Err f) is spelled grown kept told =
    subst (λ (rs : List TypeRow). IsShown (record w { rows = rs }) sums options threads ahead) (sym kept) is
