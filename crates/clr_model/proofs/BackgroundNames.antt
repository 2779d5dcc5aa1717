-- Every background collection of a lawful machine can end, and names don't matter there.
use Rattle.std.proofs.Common.{◌≡◌, ℕ, ◌≤◌, inl, inr, ◌++◌, refl, arith}
use Rattle.std.proofs.Common.{true}
use Rattle.clr_types.specs.Rising.{IsIn}
use Rattle.clr_types.proofs.RisingLists.{all_at}
use Rattle.clr_types.proofs.ChangedLists.{append_left, IsIn-map}
use Rattle.clr_types.proofs.ListMembers.{append_right, from-map}
use Rattle.clr_model.specs.declared.How.TheVariants.{Sweep}
use Rattle.clr_model.specs.declared.Collected.{Collected}
use Rattle.clr_model.specs.Machine.{Machine, Marking}
use Rattle.clr_model.specs.Lookups.{place_of}
use Rattle.clr_model.specs.Picture.{picture, renamed_marking}
use Rattle.clr_model.specs.Reach.{Old, Roots, StartOf, StartOfBackground}
use Rattle.clr_model.specs.Background.{IsLawfulMarking, taken}
use Rattle.clr_model.specs.Collection.{begun, EndsBackground}
use Rattle.clr_model.specs.Lawful.{IsLawful}
use Rattle.clr_model.proofs.AliveTests.{marked_alive, marked_alive-tests, marked_stays, marked_stays-tests}
use Rattle.clr_model.proofs.CollectionExists.{collected_exists}
use Rattle.clr_model.proofs.CollectionLaws.{collected_apart, picture_apart, picture_laid}
use Rattle.clr_model.proofs.GivenUp.{given_up_laid}
use Rattle.clr_model.proofs.LawfulSurvivors.{generation-least}
use Rattle.clr_model.proofs.NamedWell.{AreNamed, HasObject, lawful-named, start-comes, start-goes, start-named}
use Rattle.clr_model.proofs.NamesDontMatter.{begun-named, collected_names}
use Rattle.clr_model.proofs.PlainCollections.{IsPlainlyCollected, plain_back, plain_from}

-- Such a collection can end.
pub background_ends : (m : Machine) (k : Marking) → IsLawful m
    → (answer : Collected) × (new : Machine) × EndsBackground m k answer new
background_ends m k h =
    let (answer, new, c) =
    collected_exists (begun m) (given_up_laid m h.laid) 2 (omega arith) Sweep true (marked_alive (begun m) k)
    (marked_stays (begun m) k (marked_alive (begun m) k)) (StartOfBackground (begun m) k)
    (marked_alive-tests (begun m) k) (marked_stays-tests (begun m) k (marked_alive (begun m) k)) in
    let (mid, d, ends, flag, at) =
    plain_back (begun m) 2 Sweep true (StartOfBackground (begun m) k) answer refl new c in
    (answer, new, record { collected = mid; collects = d; ends = ends })

module _ (m : Machine) (h : IsLawful m) (k : Marking) (is : IsLawfulMarking m k) where
  named : AreNamed (begun m)
  named = begun-named m (lawful-named m h)

  abbrev to : ℕ → ℕ
  to = place_of m.objects

  -- nothing is older than generation 2
  root : (w : Machine) (x : ℕ) → StartOf w 2 x → Roots w x
  root w x (inl r) = r
  root w x (inr old) =
      let above = old.above in
      let top = generation-least w.layout old.object.place in
      absurd (omega arith)

  at : (x : ℕ) → IsIn x (taken k) → HasObject m.objects x
  at x i = let old : Old m 1 x = all_at (Old m 1) i is.present in (old.object, old.present, old.named)

  known : (x : ℕ) → StartOfBackground (begun m) k x → HasObject m.objects x
  known x (inl r) = start-named (begun m) named 2 x (inl r)
  known x (inr (inl i)) = at x (append_left k.black (append_right k.white i))
  known x (inr (inr i)) = at x (append_right (k.white ++ k.gray) i)

  goes : (x : ℕ) → StartOfBackground (begun m) k x
      → StartOfBackground (picture (begun m)) (renamed_marking to k) (to x)
  goes x (inl r) = inl (root (picture (begun m)) (to x) (start-goes (begun m) named 2 x (inl r)))
  goes x (inr (inl i)) = inr (inl (IsIn-map to i))
  goes x (inr (inr i)) = inr (inr (IsIn-map to i))

  comes : (z : ℕ) → StartOfBackground (picture (begun m)) (renamed_marking to k) z
      → (x : ℕ) × (z ≡ to x) × StartOfBackground (begun m) k x
  comes z (inl r) =
      let (x, e, s) = start-comes (begun m) named 2 z (inl r) in
      (x, e, inl (root (begun m) x s))
  comes z (inr (inl i)) = let (x, e, j) = from-map to z k.gray i in (x, e, inr (inl j))
  comes z (inr (inr i)) = let (x, e, j) = from-map to z k.black i in (x, e, inr (inr j))

  module _ (answer : Collected) (after : Machine)
      (c : EndsBackground (picture m) (renamed_marking (place_of m.objects) k) answer after) where
    full : 2 ≤ 2
    full = omega arith

    abbrev whole : IsPlainlyCollected (picture (begun m)) 2 Sweep true
        (StartOfBackground (picture (begun m)) (renamed_marking (place_of m.objects) k)) answer after
    whole =
        plain_from (picture (begun m)) 2 Sweep true
        (StartOfBackground (picture (begun m)) (renamed_marking (place_of m.objects) k)) answer refl c.collected after
        c.collects c.ends

    -- what the last pause does to the picture, it does to the machine
    pub background_names : (next : Machine) × EndsBackground m k answer next × (picture next ≡ picture after)
    background_names =
        let (next, d, shown, same) =
        collected_names (begun m) named (StartOfBackground (begun m) k)
        (StartOfBackground (picture (begun m)) (renamed_marking to k)) known goes comes 2 Sweep true answer after whole
        (collected_apart (picture (begun m)) (picture_laid (begun m) (given_up_laid m h.laid))
        (picture_apart m (lawful-named m h)) 2 full Sweep true
        (StartOfBackground (picture (begun m)) (renamed_marking to k)) answer after whole) in
        let (mid, collected, ends, flag, laid) =
        plain_back (begun m) 2 Sweep true (StartOfBackground (begun m) k) answer refl next d in
        (next, record { collected = mid; collects = collected; ends = ends }, shown)
