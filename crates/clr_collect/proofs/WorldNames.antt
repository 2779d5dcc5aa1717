-- What names objects in a sound world: an object stands wherever a slot, a local, a handle, an entry or the f-reachable
-- queue says.
use Rattle.std.proofs.Common.{◌≡◌, inl, inr, ℕ, ◌<◌, List, sym, ◌∙◌, subst, arith, Some}
use Rattle.std.specs.FinMap as finmap
use Rattle.std.specs.FinMap.{FinMap}
use Rattle.std.specs.Ordering.{nat_cmp}
use Rattle.clr_types.specs.Rising.{IsIn}
use Rattle.clr_types.specs.Types.{TypeRow}
use Rattle.clr_types.specs.declared.handle.Handle.{Handle}
use Rattle.clr_types.proofs.RisingLists.{all_at}
use Rattle.clr_heap.specs.View.{HeapView}
use Rattle.clr_model.specs.Lawful.{HasItsSecond, IsPlaceNamed}
use Rattle.clr_model.specs.Machine.{Machine, Object}
use Rattle.clr_model.specs.Reach.{SlotNames}
use Rattle.clr_model.proofs.Joined.{IsNullOrNamed}
use Rattle.clr_model.proofs.HandleTables.{value-among}
use Rattle.clr_model.proofs.NamedWell.{AreNamed, HasObject, lawful-named}
use Rattle.clr_view.specs.SlotValues.{StandsAt}
use Rattle.clr_view.specs.View.{objects_in}
use Rattle.clr_view.specs.World.{HandlesStand, IsNullOrStands, IsWorldOf, World}
use Rattle.clr_mark.specs.Roots.{AreObjects}
use Rattle.clr_collect.specs.Collecting.{AllStand}

module _ (w : World) (m : Machine) (is : IsWorldOf w m) (named : IsPlaceNamed m) where
  names : AreNamed m
  names = lawful-named m named.lawful

  object-stands : (x : ℕ) → HasObject m.objects x → StandsAt w.rows w.heap x
  object-stands x (o, i, n) = (
    o,
    subst (λ (os : List Object). IsIn o os) is.memory.objects i,
    sym (all_at (λ (q : Object). q.name ≡ q.place) i named.places) ∙ n,
  )

  null_or-stands : (x : ℕ) → IsNullOrNamed m.objects x → IsNullOrStands w.rows w.heap x
  null_or-stands x (inl null) = inl null
  null_or-stands x (inr object) = inr (object-stands x object)

  above-stands : (x : ℕ) → 0 < x → IsNullOrNamed m.objects x → StandsAt w.rows w.heap x
  above-stands x some (inl null) = absurd (omega arith)
  above-stands x some (inr object) = object-stands x object

  -- whatever a slot names
  pub slots_stand : (x y : ℕ) → SlotNames (objects_in w.rows w.heap) x y → StandsAt w.rows w.heap y
  slots_stand x y e =
      let present : IsIn e.object m.objects =
      subst (λ (os : List Object). IsIn e.object os) (sym is.memory.objects) e.present in
      above-stands y e.not_null (names.slots e.object present y e.slot)

  -- and locals, the f-reachable queue, entries and handles
  pub locals_stand : AreObjects w.rows w.heap w.locals
  locals_stand x r = above-stands x r.not_null
      (names.locals x (subst (λ (ls : List ℕ). IsIn x ls) (sym is.locals) r.listed))

  pub ready_stand : AreObjects w.rows w.heap w.ready
  ready_stand x r = above-stands x r.not_null
      (names.ready x (subst (λ (ls : List ℕ). IsIn x ls) (sym is.ready) r.listed))

  pub entries_stand : AllStand w.rows w.heap w.entries
  entries_stand x i = object-stands x (names.entries x (subst (λ (ls : List ℕ). IsIn x ls) (sym is.entries) i))

  pub handles_stand : HandlesStand w.rows w.heap w.handles
  handles_stand k row found =
      let used : finmap.get m.handles k ≡ Some row =
      subst (λ (hs : FinMap nat_cmp Handle). finmap.get hs k ≡ Some row) (sym is.handles) found in
      let both = names.handles k row used in
      record {
        target = null_or-stands row.target both.0;
        second = null_or-stands row.second both.1;
        owned = all_at HasItsSecond (value-among m.handles k row used) named.lawful.seconds;
      }

-- where all objects still stand, roots do
pub roots_stay : (rows : List TypeRow) (old new : HeapView)
    → ((x : ℕ) → StandsAt rows old x → StandsAt rows new x) → (roots : List ℕ) → AreObjects rows old roots
    → AreObjects rows new roots
roots_stay rows old new stays roots are x r = stays x (are x r)
