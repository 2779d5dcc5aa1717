-- What is seen after a full collection is reached from the roots.
use Rattle.std.proofs.Common.{◌≡◌, ℕ, ◌<◌, inl, inr, map, sym, ap, subst, lt_irrefl, Result, Ok, Err}
use Rattle.std.specs.Prelude.{IfOk}
use Rattle.clr_types.proofs.ListMembers.{from-map}
use Rattle.clr_types.proofs.SortedLists.{out_of_sorted_by}
use Rattle.clr_model.specs.declared.How.{How}
use Rattle.clr_model.specs.declared.Collected.{Collected}
use Rattle.clr_model.specs.declared.Reply.{Reply}
use Rattle.clr_model.specs.declared.Reply.TheVariants as reply
use Rattle.clr_model.specs.declared.Refusal.{Refusal}
use Rattle.clr_model.specs.declared.Refusal.TheVariants as refusal
use Rattle.clr_model.specs.Machine.{Machine, Object}
use Rattle.clr_model.specs.Lookups.{lowest_in_step, place_of}
use Rattle.clr_model.specs.Picture.{picture, renamed_object}
use Rattle.clr_model.specs.Reach.{Edge, Live, Roots, StartOf}
use Rattle.clr_model.specs.Collection.{Collects}
use Rattle.clr_model.specs.Lawful.{IsLawful, IsPlaceNamed}
use Rattle.clr_model.specs.Instructions.{collect_heap}
use Rattle.clr_model.specs.Checks.{refusal as first_refusal}
use Rattle.clr_model.specs.Outcomes.{answered, refused}
use Rattle.clr_model.specs.Run.{Follows}
use Rattle.clr_model.specs.Step.{Does, Obeys}
use Rattle.clr_model.proofs.Joined.{edge-picture, IsNullOrNamed}
use Rattle.clr_model.proofs.NamedWell.{AreNamed, lawful-named, place-above, start-goes}
use Rattle.clr_model.proofs.Reaching.{reach_renamed}
use Rattle.clr_model.proofs.SeenStands.{sound_stands}
use Rattle.clr_model.proofs.SmallLadder.{either_option}
use Rattle.clr_laws.proofs.FullCollections.{left_live, none_older}
use Rattle.clr_runtime.specs.Outcomes.{collected_outcome}
use Rattle.clr_embed.specs.Live.{IsAllLive}

not_refused : (r : Reply) (why : Refusal) → answered r ≡ refused why → ⊥
not_refused r why e = cc

-- a machine of which each object is live
module _ (m : Machine) (h : IsLawful m) (live : IsAllLive m) where
  abbrev to : ℕ → ℕ
  to = place_of m.objects

  named : AreNamed m
  named = lawful-named m h

  above : (y : ℕ) → IsNullOrNamed m.objects y → 0 < y → 0 < to y
  above y (inl e) l = absurd (lt_irrefl 0 (subst (λ n. 0 < n) e l))
  above y (inr (o, i, n)) l = subst (λ k. 0 < to k) n (place-above m named o i)

  shown : (x y : ℕ) → Edge m x y → 0 < to y
  shown x y (inl e) = above y (named.slots e.object e.present y e.slot) e.not_null
  shown x y (inr e) =
      above y (subst (IsNullOrNamed m.objects) e.secondary (named.handles e.handle e.row e.in_use).1) e.not_null

  roots_go : (x : ℕ) → Roots m x → Roots (picture m) (to x)
  roots_go x root = go (start-goes m named 2 x (inl root))
    where
      go : StartOf (picture m) 2 (to x) → Roots (picture m) (to x)
      go (inl root) = root
      go (inr old) = absurd (none_older (picture m) (to x) old)

  -- so is each object that is seen
  pub seen_live : IsAllLive (picture m)
  seen_live o i =
      let (p, is, n) = from-map (renamed_object to) o m.objects
      (out_of_sorted_by (λ (w : Object). w.name) o (map (renamed_object to) m.objects) i) in
      subst (Live (picture m)) (sym (ap (λ (w : Object). w.name) is))
      (reach_renamed to (Edge m) (Edge (picture m)) (Roots m) (Roots (picture m)) roots_go (edge-picture m shown) p.name
      (live p n))

-- what a full collection by a line leaves is live
left_by_line : (m : Machine) (t : ℕ) (how : How) (answer : Collected) (next : Machine) → IsLawful m
    → Obeys m (collect_heap t 2 how) (answered (reply.Collected answer)) next → IsAllLive next
left_by_line m t how answer next h obeys =
    either_option (first_refusal m (collect_heap t 2 how))
    (Does m (collect_heap t 2 how) (answered (reply.Collected answer)) next)
    (λ r. (answered (reply.Collected answer) ≡ refused r) × (next ≡ m)) obeys does
    (λ r e. absurd (not_refused (reply.Collected answer) r e.0))
  where
    does : Does m (collect_heap t 2 how) (answered (reply.Collected answer)) next → IsAllLive next
    does d =
        either_option (lowest_in_step m)
        ((one : Collected) × Collects m 2 how one next
        × (answered (reply.Collected answer) ≡ answered (reply.Collected one)))
        (λ k. (answered (reply.Collected answer) ≡ refused (refusal.Wait k)) × (next ≡ m)) d
        (λ c. left_live m h how c.0 next c.1)
        (λ k e. absurd (not_refused (reply.Collected answer) (refusal.Wait k) e.0))

-- and so is what is seen after it
pub all_live : (old : Machine) (t : ℕ) (how : How) (answer : Collected) (new : Machine) → IsPlaceNamed old
    → Follows old (collect_heap t 2 how) (answered (reply.Collected answer)) new → IsAllLive new
unfolding Follows
all_live old t how answer new sound follows =
    let (m, stands) = sound_stands old sound in
    let (next, obeys, seen) = follows m stands in
    subst IsAllLive seen.seen_is
    (seen_live next seen.lawful.lawful (left_by_line m t how answer next stands.lawful.lawful obeys))

-- so it is where the call answers
pub live_if_ok : (old : Machine) (t : ℕ) (how : How) (result : Result Collected Refusal) (new : Machine)
    → IsPlaceNamed old → Follows old (collect_heap t 2 how) (collected_outcome result) new
    → IfOk result (λ _. IsAllLive new)
live_if_ok old t how (Ok answer) new sound follows = all_live old t how answer new sound follows
live_if_ok old t how (Err why) new sound follows = tt
