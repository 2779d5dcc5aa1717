-- What the roots reach at the last pause of a background collection stays as it is.
use Rattle.std.proofs.Common.{◌≡◌, ℕ, inl, refl, sym, ap, subst, ◌∙◌, true, Some}
use Rattle.clr_model.specs.declared.Collected.{Collected}
use Rattle.clr_model.specs.declared.How.TheVariants.{Sweep}
use Rattle.clr_model.specs.Machine.{Object, Machine, Marking}
use Rattle.clr_model.specs.Lookups.{object_named}
use Rattle.clr_model.specs.Reach.{Live, StartOfBackground}
use Rattle.clr_model.specs.Lawful.{IsLawful}
use Rattle.clr_model.specs.Compaction.{moved_by}
use Rattle.clr_model.specs.Collection.{begun, object_after, EndsBackground, IsCollected}
use Rattle.clr_model.proofs.Reaching.{reach_grows}
use Rattle.clr_model.proofs.CollectedObjects.{found_by}
use Rattle.clr_background.specs.Laws.{BackgroundKeepsLaw, IsStill}
use Rattle.clr_background.proofs.CarriedOver.{found_after}
use Rattle.clr_background.proofs.Pauses.{ended_by}

module _ (m : Machine) (h : IsLawful m) (marking : Marking) (answer : Collected) (new : Machine)
    (c : EndsBackground m marking answer new) where
  abbrev d : IsCollected (begun m) 2 Sweep true (StartOfBackground (begun m) marking) answer c.collected
  d = c.collects

  -- what is alive stays
  live_stays : (x : ℕ) → Live m x → d.kept x ≡ true
  live_stays x live = (d.kept_is x).1 (reach_grows (λ y r. inl (inl r)) live)

  kept_still : (x : ℕ) (o : Object) → d.kept x ≡ true → object_named m.objects x ≡ Some o → IsStill new x o
  kept_still x o stays e =
      let (i, n) = found_by (λ (o : Object). o.name) x m.objects o e in
      let are = ap (λ (w : Machine). w.objects) c.ends ∙ ap (λ (w : Machine). w.objects) d.state in
      record {
        object = object_after (begun m) d.first d.moves o;
        found = subst (λ y. object_named new.objects y ≡ Some (object_after (begun m) d.first d.moves o)) n
            (subst (λ os. object_named os o.name ≡ Some (object_after (begun m) d.first d.moves o)) (sym are)
            (found_after (begun m) h.names_rise d.first d.kept d.moves o i
            (subst (λ y. d.kept y ≡ true) (sym n) stays)));
        place = ap (λ vs. moved_by vs o.place) d.small_laid.0;
        type = refl;
        len = refl;
        slots = refl;
      }

pub background_keeps : BackgroundKeepsLaw
background_keeps m t answer new h obeys x o live e =
    let (marking, runs, ends) = ended_by m t answer new obeys in
    kept_still m h marking answer new ends x o (live_stays m h marking answer new ends x live) e
