-- What is given before the large heap slides: whatever names an object names one that stands in the heap.
use Rattle.std.proofs.Common.{◌≡◌, inl, inr, ℕ, zero, suc, List, [], ◌∷◌, Some, slice_get, ap, sym, ◌∙◌, subst}
use Rattle.std.proofs.Common.{arith}
use Rattle.std.specs.FinMap as finmap
use Rattle.std.specs.FinMap.{FinMap}
use Rattle.std.specs.Ordering.{nat_cmp}
use Rattle.clr_types.specs.Rising.{first, IsIn, later}
use Rattle.clr_types.specs.Types.{TypeRow}
use Rattle.clr_types.specs.declared.handle.Handle.{Handle}
use Rattle.clr_types.proofs.RisingLists.{all_at}
use Rattle.clr_model.specs.Lawful.{IsPlaceNamed}
use Rattle.clr_model.specs.Machine.{Machine, Object, ref, Value}
use Rattle.clr_model.specs.Reach.{SlotNames}
use Rattle.clr_model.proofs.Joined.{IsNullOrNamed}
use Rattle.clr_model.proofs.NamedWell.{AreNamed, lawful-named}
use Rattle.clr_view.specs.SlotValues.{StandsAt}
use Rattle.clr_view.specs.View.{objects_in}
use Rattle.clr_view.specs.World.{IsNullOrStands, IsWorldOf, World}
use Rattle.clr_heap.specs.View.{HeapView}
use Rattle.clr_survivors.specs.Pins.{PinsStand}
use Rattle.clr_survivors.specs.Survivors.{world_of}
use Rattle.clr_survivors.specs.declared.roots.Roots.{Roots}

slot-in : (vs : List Value) (j : ℕ) (v : Value) → slice_get vs j ≡ Some v → IsIn v vs
slot-in [] j v e = absurd cc
slot-in (w ∷ vs) zero v e = subst (λ (u : Value). IsIn u (w ∷ vs)) (same e) first
  where
    same : Some w ≡ Some v → w ≡ v
    same e = cc
slot-in (w ∷ vs) (suc j) v e = later (slot-in vs j v e)

-- A world of a lawful machine whose objects are named by their places.
module _ (w : World) (n : Machine) (is : IsWorldOf w n) (named : IsPlaceNamed n) where
  sound : AreNamed n
  sound = lawful-named n named.lawful

  object-stands : (x : ℕ) (o : Object) → IsIn o n.objects → o.name ≡ x → StandsAt w.rows w.heap x
  object-stands x o i e = (
    o,
    subst (λ (os : List Object). IsIn o os) is.memory.objects i,
    sym (all_at (λ (q : Object). q.name ≡ q.place) i named.places) ∙ e,
  )

  name-stands : (x : ℕ) → IsNullOrNamed n.objects x → IsNullOrStands w.rows w.heap x
  name-stands x (inl null) = inl null
  name-stands x (inr (o, i, e)) = inr (object-stands x o i e)

  pub slot-stands : (o : Object) (j x : ℕ) → IsIn o (objects_in w.rows w.heap) → slice_get o.slots j ≡ Some (ref x)
      → IsNullOrStands w.rows w.heap x
  slot-stands o j x i slot =
      name-stands x (sound.slots o (subst (λ (os : List Object). IsIn o os) (sym is.memory.objects) i) x
      (slot-in o.slots j (ref x) slot))

  pub slots-stand : (x y : ℕ) → SlotNames (objects_in w.rows w.heap) x y → StandsAt w.rows w.heap y
  slots-stand x y e = by (name-stands y (sound.slots e.object
      (subst (λ (os : List Object). IsIn e.object os) (sym is.memory.objects) e.present) y e.slot))
    where
      by : IsNullOrStands w.rows w.heap y → StandsAt w.rows w.heap y
      by (inl null) = absurd (omega (arith, null, e.not_null))
      by (inr stands) = stands

  pub local-stands : (x : ℕ) → IsIn x w.locals → IsNullOrStands w.rows w.heap x
  local-stands x i = name-stands x (sound.locals x (subst (IsIn x) (sym is.locals) i))

  pub row-stands : (k : ℕ) (row : Handle) → finmap.get w.handles k ≡ Some row
      → IsNullOrStands w.rows w.heap row.target × IsNullOrStands w.rows w.heap row.second
  row-stands k row found =
      let both = sound.handles k row (ap (λ (t : FinMap nat_cmp Handle). finmap.get t k) is.handles ∙ found) in
      (name-stands row.target both.0, name-stands row.second both.1)

  pub entry-stands : (x : ℕ) → IsIn x w.entries → IsNullOrStands w.rows w.heap x
  entry-stands x i = name-stands x (inr (sound.entries x (subst (IsIn x) (sym is.entries) i)))

  pub ready-stands : (x : ℕ) → IsIn x w.ready → IsNullOrStands w.rows w.heap x
  ready-stands x i = name-stands x (sound.ready x (subst (IsIn x) (sym is.ready) i))

-- what pinned handles name stands
pub pins-given : (rows : List TypeRow) (h : HeapView) (roots : Roots) (n : Machine)
    → IsWorldOf (world_of rows h roots) n → IsPlaceNamed n → PinsStand rows h roots.handles
pins-given rows h roots n is named k row found pinned some =
    by ((row-stands (world_of rows h roots) n is named k row found).0)
  where
    by : IsNullOrStands rows h row.target → StandsAt rows h row.target
    by (inl null) = absurd (omega (arith, null, some))
    by (inr stands) = stands
