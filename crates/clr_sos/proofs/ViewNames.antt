-- Whatever a view of a lawful machine names is an object of its heap.
use Rattle.std.proofs.Common.{◌≡◌, inl, inr, ℕ, ◌<◌, List, length, ap, sym, ◌∙◌, subst, arith, Some}
use Rattle.std.specs.FinMap as finmap
use Rattle.std.specs.FinMap.{FinMap}
use Rattle.std.specs.Ordering.{nat_cmp}
use Rattle.clr_types.specs.Rising.{IsIn}
use Rattle.clr_types.specs.declared.handle.Handle.{Handle}
use Rattle.clr_types.proofs.RisingLists.{all_at}
use Rattle.clr_model.specs.Lawful.{HasItsSecond, IsPlaceNamed}
use Rattle.clr_model.specs.Machine.{Machine, Object}
use Rattle.clr_model.specs.Reach.{SlotNames}
use Rattle.clr_model.proofs.Joined.{IsNullOrNamed}
use Rattle.clr_model.proofs.HandleTables.{value-among}
use Rattle.clr_model.proofs.NamedWell.{AreNamed, HasObject, lawful-named}
use Rattle.clr_view.specs.View.{objects_in}
use Rattle.clr_view.specs.World.{HandlesStand, IsNullOrStands}
use Rattle.clr_mark.specs.Roots.{AreObjects}
use Rattle.clr_sos.specs.Reaching.{IsObjectOf, IsSound}
use Rattle.clr_sos.specs.Views.{IsLawfulView, IsShownView, IsViewOf}
use Rattle.clr_sos.specs.declared.view.View.{View}
use Rattle.clr_sos.proofs.QueuedObjects.{entries_stand, ready_stand}

module _ (v : View) (m : Machine) (is : IsViewOf v m) (named : IsPlaceNamed m) where
  names : AreNamed m
  names = lawful-named m named.lawful

  object-stands : (x : ℕ) → HasObject m.objects x → IsObjectOf v x
  object-stands x (o, i, n) = (
    o,
    subst (λ (os : List Object). IsIn o os) is.objects i,
    sym (all_at (λ (q : Object). q.name ≡ q.place) i named.places) ∙ n,
  )

  null_or-stands : (x : ℕ) → IsNullOrNamed m.objects x → IsNullOrStands v.types.now v.heap.now x
  null_or-stands x (inl null) = inl null
  null_or-stands x (inr object) = inr (object-stands x object)

  above-stands : (x : ℕ) → 0 < x → IsNullOrNamed m.objects x → IsObjectOf v x
  above-stands x some (inl null) = absurd (omega arith)
  above-stands x some (inr object) = object-stands x object

  slots-stand : (x y : ℕ) → SlotNames (objects_in v.types.now v.heap.now) x y → IsObjectOf v y
  slots-stand x y e =
      let present : IsIn e.object m.objects =
      subst (λ (os : List Object). IsIn e.object os) (sym is.objects) e.present in
      above-stands y e.not_null (names.slots e.object present y e.slot)

  locals-stand : AreObjects v.types.now v.heap.now v.locals.now
  locals-stand x r = above-stands x r.not_null
      (names.locals x (subst (λ (ls : List ℕ). IsIn x ls) (sym is.locals) r.listed))

  pub handles-stand : HandlesStand v.types.now v.heap.now v.handles.now
  handles-stand k row found =
      let used : finmap.get m.handles k ≡ Some row =
      subst (λ (hs : FinMap nat_cmp Handle). finmap.get hs k ≡ Some row) (sym is.handles) found in
      let both = names.handles k row used in
      record {
        target = null_or-stands row.target both.0;
        second = null_or-stands row.second both.1;
        owned = all_at HasItsSecond (value-among m.handles k row used) named.lawful.seconds;
      }

-- A LAWFUL VIEW IS SHOWN
pub shown_view : (v : View) → IsLawfulView v → IsShownView v
shown_view v lawful =
    let m = lawful.machine.0 in
    let is = lawful.machine.1 in
    let named = lawful.machine.2 in
    record {
      heap = lawful.heap;
      held = lawful.held;
      slots = slots-stand v m is named;
      locals = locals-stand v m is named;
      handles = handles-stand v m is named;
      entries = entries_stand v lawful;
      ready = ready_stand v lawful;
    }

-- so a search may follow what it names
pub sound_shown : (v : View) → IsShownView v → IsSound v
sound_shown v shown = record {
  closed = record { heap = shown.heap; held = shown.held; named = shown.slots };
  handles = shown.handles;
  locals = shown.locals;
  ready = λ x r. shown.ready x r.listed;
}

pub sound_view : (v : View) → IsLawfulView v → IsSound v
sound_view v lawful = sound_shown v (shown_view v lawful)

-- it shows 64 locals of each of 16 threads
pub count_locals : (v : View) → IsLawfulView v → length v.locals.now ≡ 1024
count_locals v lawful =
    let is = lawful.machine.1 in
    let named = lawful.machine.2 in
    sym (ap (λ (ls : List ℕ). length ls) is.locals) ∙ named.lawful.locals
