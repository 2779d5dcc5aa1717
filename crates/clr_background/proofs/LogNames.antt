-- Names do not matter for the law of the log.
use Rattle.std.proofs.Common.{◌≡◌, ℕ, zero, suc, ◌<◌, ◌⊎◌, inl, inr, List, [], ◌∷◌, map, refl, sym, ap, subst, ◌∙◌}
use Rattle.std.proofs.Common.{Some, lt_irrefl, Bool}
use Rattle.std.specs.Prelude.{slice_get, IsTrue}
use Rattle.clr_types.specs.Rising.{IsIn}
use Rattle.clr_types.proofs.SortedLists.{into_sorted_by, out_of_sorted_by}
use Rattle.clr_types.proofs.ChangedLists.{IsIn-map}
use Rattle.clr_types.proofs.ListMembers.{from-map}
use Rattle.clr_model.specs.Machine.{Value, ref, num, Object, ThreadStep, no_step, begun_store, begun_new, Machine}
use Rattle.clr_model.specs.Machine.{Marking}
use Rattle.clr_model.specs.Lookups.{place_of}
use Rattle.clr_model.specs.Picture.{picture, renamed_marking, renamed_object, renamed_step, renamed_value}
use Rattle.clr_model.specs.Reach.{Marked}
use Rattle.clr_model.proofs.Joined.{IsNullOrNamed}
use Rattle.clr_model.proofs.NamedWell.{AreNamed, lawful-named, name-of-place, place-above}
use Rattle.clr_model.proofs.ObjectChanged.{slice_get-map}
use Rattle.clr_background.specs.Log.{IsNullOrMarked, LogLaw, slot_address}
use Rattle.clr_background.specs.Laws.{LogNamesLaw}
use Rattle.clr_background.proofs.Members.{read_member}
use Rattle.clr_background.proofs.PlaceNames.{back_in}

-- a slot of references in the picture is one of the machine
reference_was : (to : ℕ → ℕ) (vs : List Value) (i z : ℕ) → slice_get (map (renamed_value to) vs) i ≡ Some (ref z)
    → (y : ℕ) × (slice_get vs i ≡ Some (ref y)) × (z ≡ to y)
reference_was to [] i z e = absurd cc
reference_was to (ref y ∷ vs) zero z e = let same : to y ≡ z = cc in (y, refl, sym same)
reference_was to (num n ∷ vs) zero z e = absurd cc
reference_was to (v ∷ vs) (suc i) z e = reference_was to vs i z e

-- a begun store of the picture is one of the machine
store_was : (to : ℕ → ℕ) (s : ThreadStep) (z i : ℕ) → begun_store z i ≡ renamed_step to s
    → (x : ℕ) × (s ≡ begun_store x i) × (z ≡ to x)
store_was to no_step z i e = absurd cc
store_was to (begun_new type len local) z i e = absurd cc
store_was to (begun_store x j) z i e =
    let same : z ≡ to x = cc in let at : i ≡ j = cc in (x, ap (begun_store x) (sym at), same)

module _ (m : Machine) (h : AreNamed m) (k : Marking) (log : ℕ → Bool) where
  abbrev to : ℕ → ℕ
  to = place_of m.objects

  abbrev seen : Marking
  seen = renamed_marking to k

  null_was : (o : Object) → IsIn o m.objects → (y : ℕ) → IsIn (ref y) o.slots → to y ≡ 0 → y ≡ 0
  null_was o i y j e = go (h.slots o i y j)
    where
      go : IsNullOrNamed m.objects y → y ≡ 0
      go (inl null) = null
      go (inr (p, l, n)) =
          absurd (lt_irrefl 0 (subst (λ z. 0 < z) (ap to n ∙ e) (place-above m h p l)))

  marked_was : (o : Object) → IsIn o m.objects → (y : ℕ) → IsIn (ref y) o.slots → IsNullOrMarked seen (to y)
      → IsNullOrMarked k y
  marked_was o i y j (inl null) = inl (null_was o i y j null)
  marked_was o i y j (inr marked) = go (h.slots o i y j) marked
    where
      go : IsNullOrNamed m.objects y → Marked seen (to y) → IsNullOrMarked k y
      go (inl null) marked = inl null
      go (inr there) (inl gray) = inr (inl (back_in m h y there k.gray gray))
      go (inr there) (inr black) = inr (inr (back_in m h y there k.black black))

  log_of_picture : LogLaw (picture m) seen log → LogLaw m k log
  log_of_picture law o i y here black slot =
      go (law (renamed_object to o) i (to y)
      (into_sorted_by (λ (o : Object). o.name) (renamed_object to o) (map (renamed_object to) m.objects)
      (IsIn-map (renamed_object to) here))
      (IsIn-map to black) (slice_get-map (renamed_value to) o.slots i (ref y) slot))
    where
      go : (IsNullOrMarked seen (to y) ⊎ IsTrue (log (slot_address m o i)))
          ⊎ IsIn (begun_store (to o.name) i) (map (renamed_step to) m.steps)
          → (IsNullOrMarked k y ⊎ IsTrue (log (slot_address m o i))) ⊎ IsIn (begun_store o.name i) m.steps
      go (inl (inl marked)) = inl (inl (marked_was o here y (read_member o.slots i (ref y) slot) marked))
      go (inl (inr logged)) = inl (inr logged)
      go (inr j) =
          let (s, e, l) = from-map (renamed_step to) (begun_store (to o.name) i) m.steps j in
          let (x, is, same) = store_was to s (to o.name) i e in
          let name : x ≡ o.name = name-of-place m h x o here (sym same) in
          inr (subst (λ z. IsIn (begun_store z i) m.steps) name (subst (λ q. IsIn q m.steps) is l))

  marked_seen : (y : ℕ) → IsNullOrMarked k y → IsNullOrMarked seen (to y)
  marked_seen y (inl null) = inl (ap to null)
  marked_seen y (inr (inl gray)) = inr (inl (IsIn-map to gray))
  marked_seen y (inr (inr black)) = inr (inr (IsIn-map to black))

  log_seen : LogLaw m k log → LogLaw (picture m) seen log
  log_seen law p i z here black slot =
      let (o, e, j) = from-map (renamed_object to) p m.objects
      (out_of_sorted_by (λ (o : Object). o.name) p (map (renamed_object to) m.objects) here) in
      let (y, at, same) = reference_was to o.slots i z
      (subst (λ (w : Object). slice_get w.slots i ≡ Some (ref z)) e slot) in
      subst (λ (w : Object). (IsNullOrMarked seen z ⊎ IsTrue (log (slot_address (picture m) w i)))
      ⊎ IsIn (begun_store w.name i) (map (renamed_step to) m.steps)) (sym e)
      (go o y same (law o i y j (back_in m h o.name (o, j, refl) k.black
      (subst (λ (w : Object). IsIn w.name (map to k.black)) e black)) at))
    where
      go : (o : Object) (y : ℕ) → z ≡ to y
          → (IsNullOrMarked k y ⊎ IsTrue (log (slot_address m o i))) ⊎ IsIn (begun_store o.name i) m.steps
          → (IsNullOrMarked seen z ⊎ IsTrue (log (slot_address m o i)))
          ⊎ IsIn (begun_store (to o.name) i) (map (renamed_step to) m.steps)
      go o y same (inl (inl marked)) =
          inl (inl (subst (λ x. IsNullOrMarked seen x) (sym same) (marked_seen y marked)))
      go o y same (inl (inr logged)) = inl (inr logged)
      go o y same (inr j) = inr (IsIn-map (renamed_step to) j)

pub log_names : LogNamesLaw
log_names m k log h = (log_of_picture m (lawful-named m h) k log, log_seen m (lawful-named m h) k log)
