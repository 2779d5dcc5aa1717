-- The names of a machine after a compacting collection: what names an object is the place where its plug took it.
use Rattle.std.proofs.Common.{◌≡◌, inl, inr, ℕ, Bool, true, List, [], map, filter, refl, ap, sym, ◌∙◌, subst, Some}
use Rattle.std.specs.FinMap as finmap
use Rattle.std.specs.FinMap.{FinMap}
use Rattle.std.specs.Ordering.{nat_cmp}
use Rattle.std.specs.Option.{option_map}
use Rattle.std.proofs.Common.{None, Option}
use Rattle.clr_types.specs.Rising.{IsIn}
use Rattle.clr_types.specs.declared.handle.Handle.{Handle}
use Rattle.clr_types.specs.Maps.{map_values}
use Rattle.clr_types.proofs.ChangedLists.{IsIn-map, into_filter, out_of_filter}
use Rattle.clr_types.proofs.ListMembers.{from-map, ImageOf, map-map, map-on}
use Rattle.clr_types.proofs.MapValues.{get-map_values, map_values-same}
use Rattle.clr_handles.specs.Laws.{relocated}
use Rattle.clr_model.specs.Collection.{object_after}
use Rattle.clr_model.specs.Compaction.{Move, moved_by}
use Rattle.clr_model.specs.Lookups.{place_of}
use Rattle.clr_model.specs.Machine.{Machine, num, Object, ref, Value}
use Rattle.clr_model.specs.Picture.{renamed_object, renamed_row, renamed_value}
use Rattle.clr_model.proofs.Apart.{place_of-member}
use Rattle.clr_model.proofs.Joined.{IsNullOrNamed}
use Rattle.clr_model.proofs.NamedWell.{AreNamed}
use Rattle.clr_moves.specs.Objects.{moved_object, relocated_object, relocated_value}

-- A machine `after` whose objects are some of those of m, which are named by their places, at other places. Its names
-- are sound, and null stays.
module _ (m : Machine) (places : (o : Object) → IsIn o m.objects → o.name ≡ o.place)
    (first_of kept : ℕ → Bool) (moves : List Move) (after : Machine)
    (left : after.objects ≡ map (object_after m first_of moves) (filter (λ o. kept o.name) m.objects))
    (named : AreNamed after) (null : moved_by moves 0 ≡ 0) where
  abbrev to : ℕ → ℕ
  to = place_of after.objects

  -- each object of `after` is one that was kept, where its place has gone
  is-moved : (p : Object) → IsIn p after.objects → p.place ≡ moved_by moves p.name
  is-moved p i =
      go (from-map (object_after m first_of moves) p (filter (λ o. kept o.name) m.objects)
      (subst (λ (os : List Object). IsIn p os) left i))
    where
      go : ImageOf (object_after m first_of moves) (filter (λ o. kept o.name) m.objects) p
          → p.place ≡ moved_by moves p.name
      go (o, is, j) =
          let there = (out_of_filter (λ (q : Object). kept q.name) o m.objects j).1 in
          ap (λ (q : Object). q.place) is
          ∙ sym (ap (moved_by moves) (places o there))
          ∙ sym (ap (λ (q : Object). moved_by moves q.name) is)

  -- a name is seen at the place where it has gone
  pub name-goes : (x : ℕ) → IsNullOrNamed after.objects x → to x ≡ moved_by moves x
  name-goes x (inl zero) = subst (λ (n : ℕ). to n ≡ moved_by moves n) (sym zero) (sym null)
  name-goes x (inr (p, i, is)) =
      subst (λ (n : ℕ). to n ≡ moved_by moves n) is (place_of-member after.objects named.apart p i ∙ is-moved p i)

  -- so it is with slots, objects, handles and lists of names
  value-goes : (v : Value) → ((y : ℕ) → v ≡ ref y → IsNullOrNamed after.objects y)
      → renamed_value to v ≡ relocated_value moves v
  value-goes (ref y) there = ap ref (name-goes y (there y refl))
  value-goes (num n) there = refl

  object-goes : (o : Object) → IsIn o m.objects → kept o.name ≡ true
      → renamed_object to (object_after m first_of moves o)
      ≡ moved_object moves (relocated_object moves (object_after m first_of [] o))
  object-goes o i on =
      let among : IsIn (object_after m first_of moves o) after.objects =
      subst (λ (os : List Object). IsIn (object_after m first_of moves o) os) (sym left)
      (IsIn-map (object_after m first_of moves) (into_filter (λ (q : Object). kept q.name) m.objects on i)) in
      let name : to o.name ≡ moved_by moves o.place =
      place_of-member after.objects named.apart (object_after m first_of moves o) among in
      let slots : map (renamed_value to) o.slots ≡ map (relocated_value moves) o.slots =
      map-on (renamed_value to) (relocated_value moves) o.slots
      (λ v j. value-goes v (λ y e. named.slots (object_after m first_of moves o) among y
      (subst (λ (u : Value). IsIn u o.slots) e j))) in
      λ k. record (object_after m first_of moves o) { name = name k; slots = slots k }

  -- THE OBJECTS that are seen are those that were kept, moved and relocated
  pub objects-go : map (renamed_object to) after.objects
      ≡ map (λ o. moved_object moves (relocated_object moves o))
      (map (object_after m first_of []) (filter (λ o. kept o.name) m.objects))
  objects-go =
      ap (map (renamed_object to)) left
      ∙ map-map (object_after m first_of moves) (renamed_object to) (filter (λ o. kept o.name) m.objects)
      ∙ map-on _ _ (filter (λ o. kept o.name) m.objects)
      (λ o i. let (on, j) = out_of_filter (λ (q : Object). kept q.name) o m.objects i in object-goes o j on)
      ∙ sym (map-map (object_after m first_of []) (λ o. moved_object moves (relocated_object moves o))
      (filter (λ o. kept o.name) m.objects))

  pub names-go : (xs : List ℕ) → ((x : ℕ) → IsIn x xs → IsNullOrNamed after.objects x)
      → map to xs ≡ map (moved_by moves) xs
  names-go xs there = map-on to (moved_by moves) xs (λ x i. name-goes x (there x i))

  row-goes : (row : Handle) → IsNullOrNamed after.objects row.target × IsNullOrNamed after.objects row.second
      → renamed_row to row ≡ relocated (moved_by moves) row
  row-goes row there =
      let target = name-goes row.target there.0 in
      let second = name-goes row.second there.1 in
      λ k. record row { target = target k; second = second k }

  pub rows-go : (table : FinMap nat_cmp Handle)
      → ((k : ℕ) (row : Handle) → finmap.get table k ≡ Some row
      → IsNullOrNamed after.objects row.target × IsNullOrNamed after.objects row.second)
      → map_values (renamed_row to) table ≡ map_values (relocated (moved_by moves)) table
  rows-go table there =
      map_values-same _ _
      (λ k. get-map_values (renamed_row to) table k ∙ same k (finmap.get table k) refl
      ∙ sym (get-map_values (relocated (moved_by moves)) table k))
    where
      same : (k : ℕ) (found : Option Handle) → finmap.get table k ≡ found
          → option_map (renamed_row to) found ≡ option_map (relocated (moved_by moves)) found
      same k None e = refl
      same k (Some row) e = ap Some (row-goes row (there k row e))
