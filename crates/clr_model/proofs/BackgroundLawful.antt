-- The last pause of a background collection leaves a lawful machine.
use Rattle.std.proofs.Common.{◌≡◌, ℕ, ◌≤◌, inl, inr, [], refl, arith, None, true}
use Rattle.std.specs.List.{AllByRecursion}
use Rattle.clr_types.specs.Segments.{rest_pieces}
use Rattle.clr_model.specs.declared.How.TheVariants.{Sweep}
use Rattle.clr_model.specs.declared.Collected.{Collected}
use Rattle.clr_model.specs.Machine.{Machine, Marking, Object}
use Rattle.clr_model.specs.Lookups.{lowest_in_step}
use Rattle.clr_model.specs.Reach.{StartOf, StartOfBackground}
use Rattle.clr_model.specs.Collection.{begun, EndsBackground}
use Rattle.clr_model.specs.Lawful.{IsBirthNamed, IsLawful}
use Rattle.clr_model.proofs.CollectedLawful.{plain_birth_named, plain_lawful, plain_rests}
use Rattle.clr_model.proofs.LawfulSurvivors.{generation-least}
use Rattle.clr_model.proofs.PlainCollections.{IsPlainlyCollected, plain_from}

module _ (m : Machine) (h : IsLawful m) (idle : lowest_in_step m ≡ None) (marking : Marking) (answer : Collected)
    (new : Machine) (c : EndsBackground m marking answer new) where
  full : 2 ≤ 2
  full = omega arith

  abbrev whole : IsPlainlyCollected (begun m) 2 Sweep true (StartOfBackground (begun m) marking) answer new
  whole =
      plain_from (begun m) 2 Sweep true
      (StartOfBackground (begun m) marking) answer refl c.collected new c.collects c.ends

  -- no object is older than generation 2, so the marking starts at least where a full collection does
  covers : (x : ℕ) → StartOf (begun m) 2 x → StartOfBackground (begun m) marking x
  covers x (inl root) = inl root
  covers x (inr old) =
      let above = old.above in
      let top = generation-least (begun m).layout old.object.place in
      absurd (omega arith)

  pub background_stays_lawful : IsLawful new
  background_stays_lawful = plain_lawful m h idle 2 full Sweep answer new whole covers

  pub background_birth_named : AllByRecursion (λ (o : Object). o.name ≤ m.born) m.objects → IsBirthNamed new
  background_birth_named = plain_birth_named m h idle 2 full Sweep answer new whole covers

  pub background_rests_gone : rest_pieces new.layout.rests ≡ []
  background_rests_gone = plain_rests m h idle 2 full Sweep answer new whole covers
