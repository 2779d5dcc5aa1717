-- What a collection leaves of the sums, of the flag of the large heap, and of what a background collection took.
use Rattle.std.proofs.Common.{◌≡◌, ◌∙◌, ℕ, ◌+◌, ◌<◌, ◌≤◌, ◌==◌, ◌&&◌, if◌then◌else◌, Bool, true, false, not, Option}
use Rattle.std.proofs.Common.{List, None, Some, ap, arith, refl, subst, sym, inl, inr}
use Rattle.std.proofs.lemmas.Bool.{cases_lt, eqb-false, ne_eqb}
use Rattle.std.specs.Option.{option_map}
use Rattle.clr_types.proofs.RisingLists.{all_at}
use Rattle.clr_model.specs.declared.Collected.{Collected}
use Rattle.clr_model.specs.declared.How.{How}
use Rattle.clr_model.specs.Collection.{Collects, marking_after, SlidesIf, sums_after}
use Rattle.clr_model.specs.Lawful.{IsPlaceNamed, IsShaped}
use Rattle.clr_model.specs.Laws.{IsUsual}
use Rattle.clr_model.specs.Lookups.{object_named, place_of, place_or_null}
use Rattle.clr_model.specs.Machine.{Machine, Marking, Object, Sums}
use Rattle.clr_model.specs.Picture.{renamed_marking}
use Rattle.clr_model.specs.Reach.{Old}
use Rattle.clr_model.proofs.MarkingKept.{marking_still}
use Rattle.clr_model.proofs.SeenSound.{found-at}
use Rattle.clr_background.proofs.OlderObjects.{older_stay}

-- what a slide leaves of them, and of the flag
record LeavesThese (m new : Machine) : Type 0 where
  sums : new.sums ≡ m.sums
  background : new.background ≡ m.background

slide_leaves : (b : Bool) (m new : Machine) → SlidesIf b m new → LeavesThese m new
slide_leaves true m new (moves, s) = record {
  sums = ap (λ (w : Machine). w.sums) s.state;
  background = ap (λ (w : Machine). w.background) s.state;
}
slide_leaves false m new same = record {
  sums = ap (λ (w : Machine). w.sums) same;
  background = ap (λ (w : Machine). w.background) same;
}

-- the sums are those that the answer gives, and a full collection takes the flag away and ends what runs
pub record LeavesAhead (m new : Machine) (g : ℕ) (counted : Sums) : Type 0 where
  pub sums : new.sums ≡ counted
  pub flag : new.compacts_large ≡ (m.compacts_large && not (g == 2))
  pub background : new.background ≡ marking_after (g == 2) m.background

pub collection_leaves : (m : Machine) (g : ℕ) (how : How) (answer : Collected) (new : Machine)
    → Collects m g how answer new → LeavesAhead m new g (sums_after m g answer.promoted1 answer.promoted2)
collection_leaves m g how answer new c =
    let slid = slide_leaves (m.compacts_large && (g == 2)) c.collected c.slid c.slides in
    record {
      sums = ap (λ (w : Machine). w.sums) c.ends ∙ slid.sums ∙ ap (λ (w : Machine). w.sums) c.collects.state;
      flag = ap (λ (w : Machine). w.compacts_large) c.ends;
      background = ap (λ (w : Machine). w.background) c.ends ∙ slid.background
          ∙ ap (λ (w : Machine). w.background) c.collects.state;
    }

-- ---- what was taken stands where it stood

-- a name that is found has its object's place
place-found : (objects : List Object) (x : ℕ) (o : Object) → 0 < x → object_named objects x ≡ Some o
    → place_of objects x ≡ o.place
place-found objects x o above found =
    ap (λ b. if b then 0 else place_or_null (object_named objects x)) (ne_eqb x 0 (λ e. omega (arith, e, above)))
    ∙ ap place_or_null found

module _ (m : Machine) (sound : IsPlaceNamed m) (g : ℕ) (least : g ≤ 2) (how : How) (usual : IsUsual g how)
    (answer : Collected) (new : Machine) (c : Collects m g how answer new) where
  old-stays : g ≤ 1 → (x : ℕ) → Old m 1 x → place_of new.objects x ≡ x
  old-stays young x old =
      let o = old.object in
      let home : o.name ≡ o.place = all_at (λ (o : Object). o.name ≡ o.place) old.present sound.places in
      let found = found-at m sound o old.present x (sym home ∙ old.named) in
      let above = old.above in
      let still = (older_stay m g how answer new sound.lawful usual c x o found (omega (arith, young, above))).0 in
      let shaped = (all_at (IsShaped m) old.present sound.lawful.shapes).named in
      place-found new.objects x still.object (subst (λ n. 0 < n) old.named shaped) still.found
      ∙ still.place ∙ sym home ∙ old.named

  -- so its names are its places still, where no full collection ended it
  pub marking_seen : option_map (renamed_marking (place_of new.objects)) new.background
      ≡ marking_after (g == 2) m.background
  marking_seen =
      ap (option_map (renamed_marking (place_of new.objects))) (collection_leaves m g how answer new c).background
      ∙ go (g == 2) refl
    where
      none : (r : Option Marking) → option_map (renamed_marking (place_of new.objects)) (marking_after true r)
          ≡ marking_after true r
      none None = refl
      none (Some k) = refl

      same : (r : Option Marking) → marking_after false r ≡ r
      same None = refl
      same (Some k) = refl

      young : (g == 2) ≡ false → g ≤ 1
      young e = elim (cases_lt g 2) [
        | inl below ↦ omega (arith, below)
        | inr above ↦ absurd (eqb-false g 2 e (omega (arith, above, least)))
      ]

      go : (b : Bool) → (g == 2) ≡ b
          → option_map (renamed_marking (place_of new.objects)) (marking_after b m.background)
          ≡ marking_after b m.background
      go true e = none m.background
      go false e =
          ap (option_map (renamed_marking (place_of new.objects))) (same m.background)
          ∙ marking_still m (place_of new.objects) m.background (old-stays (young e)) sound.lawful.marking
          ∙ sym (same m.background)
