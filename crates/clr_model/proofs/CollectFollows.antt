-- The line that collects: what is to follow from each outcome, on what is seen.
use Rattle.std.proofs.Common.{◌≡◌, ℕ, ◌≤◌, [], ◌∷◌, refl, sym, ap, subst, ◌∙◌, false, Option}
use Rattle.std.proofs.Common.{None, MatchOption}
use Rattle.clr_types.proofs.RisingLists.{all_at}
use Rattle.clr_model.specs.declared.How.{How}
use Rattle.clr_model.specs.declared.How.TheVariants.{Sweep}
use Rattle.clr_model.specs.declared.Collected.{Collected}
use Rattle.clr_model.specs.declared.Reply.TheVariants as reply
use Rattle.clr_model.specs.declared.Refusal.TheVariants as refusal
use Rattle.clr_model.specs.Machine.{Object, Machine}
use Rattle.clr_model.specs.Lookups.{is_thread, lowest_in_step}
use Rattle.clr_model.specs.Picture.{picture}
use Rattle.clr_model.specs.Compaction.{moved_by}
use Rattle.clr_model.specs.Collection.{Collects}
use Rattle.clr_model.specs.Instructions.{collect_heap}
use Rattle.clr_model.specs.Outcomes.{Outcome, answered, refused}
use Rattle.clr_model.specs.Step.{Obeys}
use Rattle.clr_model.specs.Lawful.{IsPlaceNamed}
use Rattle.clr_model.specs.Run.{Follows}
use Rattle.clr_model.proofs.LineChecks.{MayRun, may_run_of-picture, IsThreadLine, no_more, line_passes}
use Rattle.clr_model.proofs.LineChecks.{line_refuses_thread, obeys_done}
use Rattle.clr_model.proofs.Carried.{follows, refusal_carried_by}
use Rattle.clr_model.proofs.CollectionNames.{names_dont_matter}
pub use Rattle.clr_model.proofs.CollectionNames.{lowest_in_step-picture}
use Rattle.clr_model.specs.Laws.{IsUnslid, IsUsual}
use Rattle.clr_model.proofs.CollectionKeeps.{collects_keeps}
use Rattle.clr_model.proofs.PlainCollections.{PlainlyCollects, plainly}
use Rattle.clr_model.proofs.CollectedLawful.{stays_lawful, stays_birth_named, plain_objects}

-- ---- what is seen of threads in mid-step

-- ---- the line

pub collect_line : (t g : ℕ) (how : How) → IsThreadLine (collect_heap t g how) t [] (λ s. None ∷ None ∷ None ∷ no_more)
collect_line t g how = record { thread = refl; checks = λ s. refl }

-- where no thread is in mid-step: the collection and its answer
abbrev CollectsNow : Machine → ℕ → How → Outcome → Machine → Type 0
CollectsNow m g how outcome new =
    (answer : Collected) × Collects m g how answer new × (outcome ≡ answered (reply.Collected answer))

-- then the line collects
pub collect_obeys : (m : Machine) (t g : ℕ) (how : How) → MayRun m t → lowest_in_step m ≡ None
    → (answer : Collected) (next : Machine) → Collects m g how answer next
    → Obeys m (collect_heap t g how) (answered (reply.Collected answer)) next
collect_obeys m t g how run idle answer next c =
    obeys_done m (collect_heap t g how) (answered (reply.Collected answer)) next
    (line_passes (collect_heap t g how) t [] (λ s. None ∷ None ∷ None ∷ no_more) (collect_line t g how) m run tt)
    (subst (λ (r : Option ℕ). MatchOption r (CollectsNow m g how (answered (reply.Collected answer)) next)
    (λ k. (answered (reply.Collected answer) ≡ refused (refusal.Wait k)) × (next ≡ m))) (sym idle)
    (answer, c, refl))

-- What a collection does to what is seen, it does to each machine that is seen so.
pub collect_follows : (s : Machine) (t g : ℕ) (how : How) (answer : Collected) (after : Machine) → IsUsual g how
    → MayRun s t
    → lowest_in_step s ≡ None → Collects s g how answer after
    → Follows s (collect_heap t g how) (answered (reply.Collected answer)) (picture after)
collect_follows s t g how answer after usual run idle c =
    follows s (collect_heap t g how) (answered (reply.Collected answer)) (picture after)
    (λ m stands.
    let may : MayRun m t = may_run_of-picture m t (subst (λ (w : Machine). MayRun w t) (sym stands.seen_is) run) in
    let rests : lowest_in_step m ≡ None = sym (lowest_in_step-picture m) ∙ ap lowest_in_step stands.seen_is ∙ idle in
    let (next, done, shown) = names_dont_matter m g how answer after stands.lawful.lawful rests usual
    (subst (λ (w : Machine). Collects w g how answer after) (sym stands.seen_is) c) in (
      next,
      collect_obeys m t g how may rests answer next done,
      record {
        lawful = stays_birth_named m stands.lawful.lawful rests g how usual answer next done
            stands.lawful.born;
        seen_is = shown;
      },
    ))

-- a line of a thread that there is not
pub collect_follows_thread : (s : Machine) (t g : ℕ) (how : How) → is_thread t ≡ false
    → Follows s (collect_heap t g how) (refused refusal.UnknownThread) s
collect_follows_thread s t g how none =
    follows s (collect_heap t g how) (refused refusal.UnknownThread) s
    (refusal_carried_by (collect_heap t g how) (λ w. is_thread t ≡ false) refusal.UnknownThread
    (λ m born none. line_refuses_thread (collect_heap t g how) t [] (λ s. None ∷ None ∷ None ∷ no_more)
    (collect_line t g how) m none) s none)

-- ---- sweeps

-- A sweep moves nothing, so objects that are named by their places still are.
pub after_sweep_is_sound : (s : Machine) → IsPlaceNamed s → lowest_in_step s ≡ None → (g : ℕ) → g ≤ 2 → IsUnslid s g
    → (answer : Collected) (after : Machine) → Collects s g Sweep answer after → IsPlaceNamed after
after_sweep_is_sound s h idle g least unslid answer after c = record {
  lawful = stays_lawful s h.lawful idle g Sweep least answer after c;
  places =
      let plain : PlainlyCollects s g Sweep answer after = plainly s g Sweep answer after unslid refl c in
      plain_objects s h.lawful idle g least Sweep answer after plain (λ x c. c) (λ (o : Object). o.name ≡ o.place)
      (λ q i. all_at (λ (o : Object). o.name ≡ o.place) i h.places
      ∙ sym (ap (λ vs. moved_by vs q.place) plain.small_laid.0));
  uncounted = (collects_keeps s g Sweep answer after c).born ∙ h.uncounted;
}
