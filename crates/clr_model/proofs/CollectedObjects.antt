-- The objects that a whole collection leaves: which they were, where they stand, and how old they are.
use Rattle.std.proofs.Common.{◌≡◌, ℕ, ◌≤◌, List, [], ◌∷◌, refl, sym, ap, subst, ◌∙◌, arith, Bool, true, false}
use Rattle.std.proofs.Common.{if◌then◌else◌, filter, ◌==◌, Some}
use Rattle.std.proofs.lemmas.Bool.{eqb-true}
use Rattle.clr_types.specs.Rising.{IsIn, first, later, find_by}
use Rattle.clr_types.proofs.SortedLists.{same_by_key}
use Rattle.clr_types.proofs.ChangedLists.{out_of_filter, rising-distinct}
use Rattle.clr_types.proofs.ListMembers.{from-map}
use Rattle.clr_model.specs.declared.How.{How}
use Rattle.clr_model.specs.declared.Collected.{Collected}
use Rattle.clr_model.specs.Machine.{Machine, Object}
use Rattle.clr_model.specs.Lookups.{object_named, is_pinned}
use Rattle.clr_model.specs.Lawful.{IsLawful, IsLaid}
use Rattle.clr_model.specs.Sweep.{survivors}
use Rattle.clr_model.specs.Compaction.{moved_by}
use Rattle.clr_model.specs.Updates.{all_given_up}
use Rattle.clr_model.specs.Collection.{IsSmallLaid, compacts, decides_to_compact, object_after, objects_after}
use Rattle.clr_model.proofs.GivenUp.{given_up_laid}
use Rattle.clr_model.proofs.PlainCollections.{IsPlainlyCollected}
use Rattle.clr_model.proofs.MovedPlaces.{object_lower, pinned_stays}

-- what a search by a key finds is a member with that key
pub found_by : {X : Type 0} (key : X → ℕ) (k : ℕ) (xs : List X) (x : X) → find_by key k xs ≡ Some x
    → IsIn x xs × (key x ≡ k)
found_by key k [] x e = absurd cc
found_by key k (y ∷ ys) x e = go (key y == k) refl e (found_by key k ys x)
  where
    same : Some y ≡ Some x → y ≡ x
    same e = cc

    go : (b : Bool) → (key y == k) ≡ b → (if b then Some y else find_by key k ys) ≡ Some x
        → (find_by key k ys ≡ Some x → IsIn x ys × (key x ≡ k)) → IsIn x (y ∷ ys) × (key x ≡ k)
    go true f e more = (subst (λ z. IsIn z (y ∷ ys)) (same e) first, ap key (sym (same e)) ∙ eqb-true (key y) k f)
    go false f e more = let (i, n) = more e in (later i, n)

module _ (m : Machine) (h : IsLawful m) (g : ℕ) (least : g ≤ 2) (how : How) (answer : Collected) (new : Machine)
    {last_pause : Bool} {source : ℕ → Type 0}
    (c : IsPlainlyCollected (record m { layout = all_given_up m.layout }) g how last_pause source answer new) where
  abbrev pub begun : Machine
  begun = record m { layout = all_given_up m.layout }

  pub begun_laid : IsLaid begun
  begun_laid = given_up_laid m h.laid

  abbrev pub compacting : Bool
  compacting = compacts how (decides_to_compact begun g c.survive)

  pub small_is : IsSmallLaid compacting begun.layout g (survivors begun g c.kept) c.moves c.small
  small_is = subst (λ ks. IsSmallLaid compacting begun.layout g ks c.moves c.small) c.survive_are c.small_laid

  pub compacted_is : answer.compacted ≡ compacting
  compacted_is = ap (λ (a : Collected). a.compacted) c.answered

  -- the object of a name afterwards, by the object of that name before
  pub record IsMoved (name : ℕ) (old o : Object) : Type 0 where
    pub present : IsIn old m.objects
    pub named : old.name ≡ name
    pub kept_on : c.kept old.name ≡ true
    pub place : o.place ≡ moved_by c.moves old.place

  pub moved_object : (name : ℕ) (old o : Object) → object_named m.objects name ≡ Some old
      → object_named new.objects name ≡ Some o → IsMoved name old o
  moved_object name old o e f =
      let (i, old_name) = found_by (λ (o : Object). o.name) name m.objects old e in
      let (j, new_name) = found_by (λ (o : Object). o.name) name new.objects o f in
      let k : IsIn o (objects_after begun c.first c.kept c.moves) = subst (λ (w : Machine). IsIn o w.objects) c.state j
      in
      let (p, is, l) = from-map (object_after begun c.first c.moves) o
      (filter (λ (o : Object). c.kept o.name) m.objects) k in
      let (stays, present) = out_of_filter (λ (o : Object). c.kept o.name) p m.objects l in
      let same : p ≡ old = same_by_key (λ (o : Object). o.name) m.objects p old
      (rising-distinct (λ (o : Object). o.name) m.objects h.names_rise) present i
      (sym (ap (λ (w : Object). w.name) is) ∙ new_name ∙ sym old_name) in
      record {
        present = i;
        named = old_name;
        kept_on = subst (λ (w : Object). c.kept w.name ≡ true) same stays;
        place = ap (λ (w : Object). w.place) is ∙ ap (λ (w : Object). moved_by c.moves w.place) same;
      }

  -- no place goes higher
  pub moved_lower : (o : Object) → moved_by c.moves o.place ≤ o.place
  moved_lower o = go compacting small_is
    where
      go : (b : Bool) → IsSmallLaid b begun.layout g (survivors begun g c.kept) c.moves c.small
          → moved_by c.moves o.place ≤ o.place
      go true e = object_lower begun begun_laid g least c.kept c.moves c.small e o
      go false e = subst (λ vs. moved_by vs o.place ≤ o.place) (sym e.0) (omega arith)

  -- the place of a pinned object stays
  pub moved_pinned : (o : Object) → IsIn o m.objects → is_pinned m o.name ≡ true → moved_by c.moves o.place ≡ o.place
  moved_pinned o i pinned = go compacting small_is
    where
      go : (b : Bool) → IsSmallLaid b begun.layout g (survivors begun g c.kept) c.moves c.small
          → moved_by c.moves o.place ≡ o.place
      go true e = pinned_stays begun begun_laid g least c.kept c.moves c.small e o i pinned
      go false e = ap (λ vs. moved_by vs o.place) e.0
