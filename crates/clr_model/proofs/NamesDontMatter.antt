-- What a collection does to the picture of a machine, it does to the machine.
use Rattle.std.proofs.Common.{◌≡◌, ℕ, List, refl, sym, ap, subst, ◌∙◌, Bool, false, if◌then◌else◌, filter, ◌&&◌, ◌++◌}
use Rattle.std.proofs.Common.{◌==◌}
use Rattle.std.proofs.Common.{not, ◌⊎◌, inl, inr}
use Rattle.clr_types.specs.Rising.{Tests, IsIn}
use Rattle.clr_model.specs.declared.How.{How}
use Rattle.clr_model.specs.declared.Collected.{Collected}
use Rattle.clr_model.specs.Machine.{Machine}
use Rattle.clr_model.specs.Lookups.{place_of}
use Rattle.clr_types.specs.Maps.{map_values}
use Rattle.clr_model.specs.Picture.{picture}
use Rattle.clr_model.specs.Reach.{StartOf, IsAlive, Kept, woken, is_suppressed}
use Rattle.clr_model.specs.Sweep.{is_condemned}
use Rattle.clr_model.specs.Compaction.{Move}
use Rattle.clr_model.specs.Updates.{all_given_up}
use Rattle.clr_model.specs.Collection.{row_after, objects_after, sums_after, released, compacts, decides_to_compact}
use Rattle.clr_model.specs.Collection.{is_fit, IsCollected, marking_after}
use Rattle.clr_types.specs.Segments.{Layout}
use Rattle.clr_model.proofs.Apart.{AreApart}
use Rattle.clr_types.proofs.ListMembers.{from-map}
use Rattle.clr_types.proofs.ChangedLists.{IsIn-map, out_of_filter}
use Rattle.clr_model.proofs.NamedWell.{AreNamed, HasObject, start-named, start-goes, start-comes}
use Rattle.clr_model.proofs.NamedWell.{tests-carried}
use Rattle.clr_model.proofs.CollectedNames.{woken-picture, count-seen, promoted-seen, survivors-seen, objects-after}
use Rattle.clr_model.proofs.CollectedNames.{handles-after, locals-after, entries-after, ready-after, steps-after}
use Rattle.clr_model.proofs.CollectedNames.{background-after, layout-after}
use Rattle.clr_model.proofs.PlainCollections.{IsPlainlyCollected, PlainlyCollects}

-- the machine after a collection with these tests, moves and layout
abbrev pub next_of : Machine → ℕ → Collected → (ℕ → Bool) → (ℕ → Bool) → List Move → Layout → Machine
next_of m g answer first kept moves laid = record m {
  objects = objects_after m first kept moves;
  handles = map_values (row_after first kept) m.handles;
  entries = filter first m.entries;
  ready = m.ready ++ woken m first;
  layout = if g == 2 then released laid (objects_after m first kept moves) else laid;
  sums = sums_after m g answer.promoted1 answer.promoted2;
  background = marking_after (g == 2) m.background;
}

abbrev pub mid_of : Machine → ℕ → Collected → (ℕ → Bool) → (ℕ → Bool) → List Move → Layout → Machine
mid_of m g answer first kept moves laid = record m {
  objects = objects_after m first kept moves;
  handles = map_values (row_after first kept) m.handles;
  entries = filter first m.entries;
  ready = m.ready ++ woken m first;
  layout = laid;
  sums = sums_after m g answer.promoted1 answer.promoted2;
  background = marking_after (g == 2) m.background;
}

module _ (m : Machine) (h : AreNamed m) where
  abbrev to : ℕ → ℕ
  to = place_of m.objects

  module _ (start start' : ℕ → Type 0) (known : (x : ℕ) → start x → HasObject m.objects x) (goes : (x : ℕ) → start x
      → start' (to x)) (comes : (z : ℕ) → start' z → (x : ℕ) × (z ≡ to x) × start x) where
    -- the tests of the picture, at places, are tests of the machine
    first-carried : (seen : ℕ → Bool) → Tests seen (IsAlive (picture m) start')
        → Tests (λ x. seen (to x)) (IsAlive m start)
    first-carried seen is = tests-carried m h start start' known goes comes seen is

    woken-known : (seen : ℕ → Bool) (x : ℕ) → IsIn x (woken m (λ x. seen (to x))) → HasObject m.objects x
    woken-known seen x i = h.entries x
        (out_of_filter (λ e. not (seen (to e)) && not (is_suppressed m e)) x m.entries i).1

    kept-carried : (seen kept : ℕ → Bool) → Tests kept (Kept (picture m) start' seen)
        → Tests (λ x. kept (to x)) (Kept m start (λ x. seen (to x)))
    kept-carried seen kept is =
        tests-carried m h (λ x. start x ⊎ IsIn x (woken m (λ x. seen (to x))))
        (λ z. start' z ⊎ IsIn z (woken (picture m) seen))
        (λ x s. elim s [ inl k ↦ known x k | inr i ↦ woken-known seen x i ])
        (λ x s. elim s [
          | inl k ↦ inl (goes x k)
          | inr i
              ↦ inr (subst (IsIn (to x)) (sym (woken-picture m h seen)) (IsIn-map to i))
        ])
        (λ z s. elim s [
          | inl k ↦ let (x, e, t) = comes z k in (x, e, inl t)
          | inr i ↦ let (x, e, j) = from-map to z (woken m (λ x. seen (to x)))
              (subst (IsIn z) (woken-picture m h seen) i) in (x, e, inr j)
        ])
        kept is

    -- what a collection does to the picture, it does to the machine
    pub collected_names : (g : ℕ) (how : How) (last_pause : Bool) (answer : Collected) (after : Machine)
        → (c : IsPlainlyCollected (picture m) g how last_pause start' answer after) → AreApart after.objects
        → (next : Machine) × (d : IsPlainlyCollected m g how last_pause start answer next)
        × (picture next ≡ picture after)
        × (d.laid ≡ c.laid)
    collected_names g how last_pause answer after c apart =
        (next_of m g answer (λ x. c.first (to x)) (λ x. c.kept (to x)) c.moves c.laid, collected, shown, refl)
      where
        collected : IsPlainlyCollected m g how last_pause start answer
            (next_of m g answer (λ x. c.first (to x)) (λ x. c.kept (to x)) c.moves c.laid)
        collected = record {
          first = λ x. c.first (to x);
          kept = λ x. c.kept (to x);
          first_is = first-carried c.first c.first_is;
          kept_is = kept-carried c.first c.kept c.kept_is;
          survive = c.survive;
          survive_are = c.survive_are ∙ survivors-seen m h c.first c.kept g;
          small = c.small;
          moves = c.moves;
          small_laid = c.small_laid;
          laid = c.laid;
          large_laid = c.large_laid;
          answered =
              c.answered
              ∙ (let a = count-seen m h c.first c.kept (λ o. is_condemned m g o && c.kept o.name) in
              let b = count-seen m h c.first c.kept (λ o. is_condemned m g o && not (c.kept o.name)) in
              let d = promoted-seen m h c.first c.kept c.laid c.moves 0 in
              let e = promoted-seen m h c.first c.kept c.laid c.moves 1 in
              λ i. record {
                generation = g;
                compacted = compacts how (decides_to_compact m g c.survive);
                fitted = false;
                background = last_pause;
                kept = a i;
                freed = b i;
                promoted1 = d i;
                promoted2 = e i;
              });
          state = refl;
        }

        seen_apart : AreApart (objects_after (picture m) c.first c.kept c.moves)
        seen_apart = subst (λ (w : Machine). AreApart w.objects) c.state apart

        shown : picture (next_of m g answer (λ x. c.first (to x)) (λ x. c.kept (to x)) c.moves c.laid) ≡ picture after
        shown =
            (let objects = objects-after m h c.first c.kept c.moves seen_apart in
            let locals = locals-after m h c.first c.kept c.moves in
            let handles = handles-after m h c.first c.kept c.moves in
            let entries = entries-after m h c.first c.kept c.moves in
            let ready = ready-after m h c.first c.kept c.moves in
            let steps = steps-after m h c.first c.kept c.moves in
            let layout = layout-after m h c.first c.kept c.moves (g == 2) c.laid in
            let background = background-after m h c.first c.kept c.moves (g == 2) in
            λ i. record {
              types = m.types;
              born = 0;
              objects = objects i;
              locals = locals i;
              handles = handles i;
              entries = entries i;
              ready = ready i;
              steps = steps i;
              holder = m.holder;
              layout = layout i;
              sums = sums_after m g answer.promoted1 answer.promoted2;
              options = m.options;
              compacts_large = m.compacts_large;
              background = background i;
            })
            ∙ sym (ap picture c.state)

    -- the same of a collection of any kind, before a slide and the release
    pub any_names : (g : ℕ) (how : How) (last_pause : Bool) (answer : Collected) (after : Machine)
        → (c : IsCollected (picture m) g how last_pause start' answer after) → AreApart after.objects
        → (next : Machine) × IsCollected m g how last_pause start answer next × (picture next ≡ picture after)
    any_names g how last_pause answer after c apart =
        (mid_of m g answer (λ x. c.first (to x)) (λ x. c.kept (to x)) c.moves c.laid, collected, shown)
      where
        collected : IsCollected m g how last_pause start answer
            (mid_of m g answer (λ x. c.first (to x)) (λ x. c.kept (to x)) c.moves c.laid)
        collected = record {
          first = λ x. c.first (to x);
          kept = λ x. c.kept (to x);
          first_is = first-carried c.first c.first_is;
          kept_is = kept-carried c.first c.kept c.kept_is;
          survive = c.survive;
          survive_are = c.survive_are ∙ survivors-seen m h c.first c.kept g;
          small = c.small;
          moves = c.moves;
          small_laid = c.small_laid;
          laid = c.laid;
          large_laid = c.large_laid;
          answered =
              c.answered
              ∙ (let a = count-seen m h c.first c.kept (λ o. is_condemned m g o && c.kept o.name) in
              let b = count-seen m h c.first c.kept (λ o. is_condemned m g o && not (c.kept o.name)) in
              let d = promoted-seen m h c.first c.kept c.laid c.moves 0 in
              let e = promoted-seen m h c.first c.kept c.laid c.moves 1 in
              λ i. record {
                generation = g;
                compacted = compacts how (decides_to_compact m g c.survive);
                fitted = is_fit how;
                background = last_pause;
                kept = a i;
                freed = b i;
                promoted1 = d i;
                promoted2 = e i;
              });
          state = refl;
        }

        seen_apart : AreApart (objects_after (picture m) c.first c.kept c.moves)
        seen_apart = subst (λ (w : Machine). AreApart w.objects) c.state apart

        shown : picture (mid_of m g answer (λ x. c.first (to x)) (λ x. c.kept (to x)) c.moves c.laid) ≡ picture after
        shown =
            (let objects = objects-after m h c.first c.kept c.moves seen_apart in
            let locals = locals-after m h c.first c.kept c.moves in
            let handles = handles-after m h c.first c.kept c.moves in
            let entries = entries-after m h c.first c.kept c.moves in
            let ready = ready-after m h c.first c.kept c.moves in
            let steps = steps-after m h c.first c.kept c.moves in
            let background = background-after m h c.first c.kept c.moves (g == 2) in
            λ i. record {
              types = m.types;
              born = 0;
              objects = objects i;
              locals = locals i;
              handles = handles i;
              entries = entries i;
              ready = ready i;
              steps = steps i;
              holder = m.holder;
              layout = c.laid;
              sums = sums_after m g answer.promoted1 answer.promoted2;
              options = m.options;
              compacts_large = m.compacts_large;
              background = background i;
            })
            ∙ sym (ap picture c.state)

-- ---- blocking collections

-- giving up the contexts leaves the names as they are
pub begun-named : (m : Machine) → AreNamed m → AreNamed (record m { layout = all_given_up m.layout })
begun-named m h = record {
  apart = h.apart;
  slots = h.slots;
  locals = h.locals;
  handles = h.handles;
  entries = h.entries;
  ready = h.ready;
}

-- What a collection does to the picture of a machine, it does to the machine, where its objects have places of their
-- own afterwards.
pub collection_names : (m : Machine) → AreNamed m → (g : ℕ) (how : How) (answer : Collected) (after : Machine)
    → (c : PlainlyCollects (picture m) g how answer after) → AreApart after.objects
    → (next : Machine) × (d : PlainlyCollects m g how answer next) × (picture next ≡ picture after) × (d.laid ≡ c.laid)
collection_names m h g how answer after c apart =
    let begun : Machine = record m { layout = all_given_up m.layout } in
    collected_names begun (begun-named m h) (StartOf begun g) (StartOf (picture begun) g)
    (start-named begun (begun-named m h) g) (start-goes begun (begun-named m h) g)
    (start-comes begun (begun-named m h) g) g how false answer after c apart
