-- The laws where objects stay at their places and of their sizes, and no reference is new.
use Rattle.std.proofs.Common.{◌≡◌, inl, inr, ℕ, ◌+◌, ◌*◌, ◌/◌, ◌<◌, List, ap, sym, ◌∙◌}
use Rattle.std.proofs.Common.{subst, arith, Some, ℤ}
use Rattle.std.specs.Prelude.{slice_get}
use Rattle.clr_types.specs.Rising.{IsIn}
use Rattle.clr_types.specs.Segments.{ended_at, generation, Layout, stands_in}
use Rattle.clr_types.specs.Types.{Form, form_at, size_of, slot_offset, TypeRow}
use Rattle.clr_types.specs.declared.segment.SegInfo.{SegInfo}
use Rattle.clr_model.specs.Lookups.{object_size}
use Rattle.clr_model.specs.Machine.{Object, ref}
use Rattle.clr_generations.specs.Laws.{AreEntered, BrickLaw, LeadsBrick, LeadsToNearest}
use Rattle.clr_generations.specs.Laws.{NamesYounger, ReachesInto, Stands}
use Rattle.clr_generations.proofs.SameBounds.{generation-same, HasSameBounds, may-same, segment-was}

-- One of these objects was there before, or is it: of the same name, place, form and length.
pub record WasObject (before now : List TypeRow) (objects : List Object) (o : Object) : Type 0 where
  pub object : Object
  pub present : IsIn object objects
  pub name : o.name ≡ object.name
  pub place : o.place ≡ object.place
  pub form : form_at now o.type ≡ form_at before object.type
  pub len : o.len ≡ object.len

-- And each reference of its slots stood in them.
pub record HadReferences (before now : List TypeRow) (objects : List Object) (o : Object) : Type 0 where
  pub was : WasObject before now objects o
  pub named : (j name : ℕ) → slice_get o.slots j ≡ Some (ref name) → slice_get was.object.slots j ≡ Some (ref name)

-- The same objects stand at the same places.
pub record HasSamePlaces (before now : List TypeRow) (old new : List Object) : Type 0 where
  pub were : (o : Object) → IsIn o new → WasObject before now old o
  pub stay : (place : ℕ) → Stands old place → Stands new place

-- And no slot of theirs has a reference that it hadn't.
pub record HasSameObjects (before now : List TypeRow) (old new : List Object) : Type 0 where
  pub were : (o : Object) → IsIn o new → HadReferences before now old o
  pub stay : (place : ℕ) → Stands old place → Stands new place

pub same-places : (before now : List TypeRow) (old new : List Object) → HasSameObjects before now old new
    → HasSamePlaces before now old new
same-places before now old new h = record { were = λ o i. (h.were o i).was; stay = h.stay }

module _ (before now : List TypeRow) (bounds layout : Layout) (old new : List Object)
    (same : HasSameBounds bounds layout) (objects : HasSameObjects before now old new) where
  -- no reference to an object of a lower generation is new
  pub were-younger : (a : ℕ) → NamesYounger now layout new a → NamesYounger before bounds old a
  were-younger a y =
      let had = objects.were y.object y.present in
      let o = had.was in
      let t = (objects.were y.target y.target_present).was in
      let low = generation-same bounds layout same y.target.place ∙ ap (generation bounds) t.place in
      let high = generation-same bounds layout same y.object.place ∙ ap (generation bounds) o.place in
      let younger = y.younger in
      let place = o.place in
      let offset = ap (λ (f : Form). slot_offset f y.slot) o.form in
      record {
        object = o.object;
        present = o.present;
        slot = y.slot;
        target = t.object;
        target_present = t.present;
        named = had.named y.slot t.object.name (y.named ∙ ap (λ (n : ℕ). Some (ref n)) t.name);
        address = y.address ∙ λ i. place i + offset i;
        younger = subst (λ n. n < generation bounds o.object.place) low
            (subst (λ n. generation layout y.target.place < n) high younger);
      }

module _ (before now : List TypeRow) (bounds layout : Layout) (old new : List Object)
    (same : HasSameBounds bounds layout) (objects : HasSamePlaces before now old new) where
  -- an object stood where one stands
  stood : (place : ℕ) → Stands new place → Stands old place
  stood place s = let o = objects.were s.0 s.1 in (o.object, o.present, sym o.place ∙ s.2)

  leads-kept : (brick place : ℕ) → LeadsBrick bounds old brick place → LeadsBrick layout new brick place
  leads-kept brick place l = record {
    stands = objects.stay place l.stands;
    inside = l.inside;
    first = λ other s in_brick. l.first other (stood other s) in_brick;
    may = may-same bounds layout same place ∙ l.may;
  }

  nearest-kept : (entry : ℕ → ℤ) (brick : ℕ) → LeadsToNearest bounds old entry brick
      → LeadsToNearest layout new entry brick
  nearest-kept entry brick n = record {
    below = n.below;
    lower = n.lower;
    place = n.place;
    leader = leads-kept n.below n.place n.leader;
    count = n.count;
    path = n.path;
    nearest = λ other s low high. n.nearest other (stood other s) low high;
  }

  reached-before : (brick : ℕ) → ReachesInto now layout new brick → ReachesInto before bounds old brick
  reached-before brick r =
      let o = objects.were r.object r.present in
      let place = o.place in
      let form = o.form in
      let len = o.len in
      let gen = generation-same bounds layout same r.object.place ∙ ap (generation bounds) place in
      let size : object_size now r.object ≡ object_size before o.object = λ i. size_of (form i) (len i) in
      let to = r.to in
      record {
        object = o.object;
        present = o.present;
        old = subst (λ n. 0 < n) gen r.old;
        from = subst (λ n. n / 4096 < brick) place r.from;
        to = omega (arith, place, size, to);
      }

  entered-kept : (entry : ℕ → ℤ) (s t : SegInfo) → ended_at 0 s ≡ ended_at 0 t → AreEntered before bounds old entry t
      → AreEntered now layout new entry s
  entered-kept entry s t outline e =
      let base = ap (λ (r : SegInfo). r.base) outline in
      let reserved = ap (λ (r : SegInfo). r.reserved) outline in
      let inside : (place : ℕ) → stands_in s place ≡ stands_in t place =
      λ place. ap (λ (r : SegInfo). stands_in r place) outline in
      record {
        named = λ brick offset own is. leads-kept brick (4096 * brick + offset)
            (e.named brick offset (omega (arith, base, own), omega (arith, base, reserved, own)) is);
        starts = λ place s stands may. e.starts place (stood place s) (sym (inside place) ∙ stands)
            (sym (may-same bounds layout same place) ∙ may);
        reached = λ brick own r.
            elim (e.reached brick (omega (arith, base, own), omega (arith, base, reserved, own))
            (reached-before brick r)) [ inl root ↦ inl root | inr near ↦ inr (nearest-kept entry brick near) ];
      }

  -- THE BRICK LAW is kept
  pub brick_law-kept : (entry : ℕ → ℤ) → BrickLaw before bounds old entry → BrickLaw now layout new entry
  brick_law-kept entry law s i =
      let was = segment-was bounds layout same s i in
      entered-kept entry s was.0 was.1 (law was.0 was.2)
