-- The laws on one collection, put together: objects have places of their own afterwards, and names don't matter.
use Rattle.std.proofs.Common.{◌≡◌, ℕ, ◌≤◌, ◌<◌, [], ◌++◌, map, sym, subst, Bool, true, false, filter, IsSome}
use Rattle.std.specs.List.{AllByRecursion}
use Rattle.clr_types.specs.Rising.{IsIn}
use Rattle.clr_types.specs.Ranges.{Piece}
use Rattle.clr_types.proofs.RisingLists.{all_at}
use Rattle.clr_model.specs.declared.How.{How}
use Rattle.clr_model.specs.declared.Collected.{Collected}
use Rattle.clr_model.specs.Machine.{Object, Machine}
use Rattle.clr_model.specs.Lookups.{pieces, object_piece}
use Rattle.clr_model.specs.Lawful.{IsLawful, IsLaid}
use Rattle.clr_model.specs.Picture.{picture, renamed_object}
use Rattle.clr_model.specs.Lookups.{place_of}
use Rattle.clr_model.specs.Reach.{StartOf}
use Rattle.clr_model.specs.Compaction.{IsCompacted}
use Rattle.clr_model.specs.Updates.{all_given_up}
use Rattle.clr_model.specs.Collection.{objects_after, object_after, IsSmallLaid, compacts, decides_to_compact}
use Rattle.clr_model.specs.Collection.{Collects}
use Rattle.clr_model.specs.Laws.{IsUnslid, IsPlain}
use Rattle.clr_types.specs.Segments.{rest_pieces, segment_of}
use Rattle.clr_types.specs.LawfulLayout.{IsTiled, DoesNotCross}
use Rattle.clr_model.proofs.Apart.{AreApart, place_of-member}
use Rattle.clr_types.proofs.ListMembers.{from-map, distinct_of_sorted, distinct_map, distinct_filter, map-map}
use Rattle.clr_types.proofs.ListMembers.{distinct-on}
use Rattle.clr_types.proofs.ChangedLists.{all_members, out_of_filter}
use Rattle.clr_model.proofs.LawfulPieces.{pieces-distinct}
use Rattle.clr_types.proofs.Shuffles.{IsShuffled, shuffled-sym, shuffled-map, shuffled-sorted, shuffled-sorts}
use Rattle.clr_types.proofs.Shuffles.{shuffled-distinct, shuffled-in, shuffled-left}
use Rattle.clr_model.proofs.GivenUp.{given_up_laid}
use Rattle.clr_model.proofs.NamedWell.{AreNamed, lawful-named, place-above}
use Rattle.clr_model.proofs.CollectedNames.{objects-shuffled}
use Rattle.clr_model.proofs.MovedPlaces.{compacted_apart}
use Rattle.clr_model.proofs.NamesDontMatter.{collection_names}
use Rattle.clr_model.proofs.PlainCollections.{IsPlainlyCollected, PlainlyCollects, from_plain, plainly, usual_least}
use Rattle.clr_model.proofs.PlainCollections.{usual_plain}

-- ---- the picture of a machine has its pieces

module _ (m : Machine) (h : IsLaid m) where
  same_pieces : pieces m ≡ pieces (picture m)
  same_pieces =
      shuffled-sorts (λ (p : Piece). p.place)
      (shuffled-left (rest_pieces m.layout.rests) (shuffled-left m.layout.free objects))
      (distinct_of_sorted (λ (p : Piece). p.place)
      ((map (object_piece m.types) m.objects ++ m.layout.free) ++ rest_pieces m.layout.rests) (pieces-distinct m h))
    where
      objects : IsShuffled (map (object_piece m.types) m.objects) (map (object_piece m.types) (picture m).objects)
      objects =
          subst (λ ps. IsShuffled ps (map (object_piece m.types) (picture m).objects))
          (map-map (renamed_object (place_of m.objects)) (object_piece m.types) m.objects)
          (shuffled-map (object_piece m.types)
          (shuffled-sorted (λ (o : Object). o.name) (map (renamed_object (place_of m.objects)) m.objects)))

  -- the picture's memory is as lawful
  pub picture_laid : IsLaid (picture m)
  picture_laid = record {
    layout = h.layout;
    housed = subst (AllByRecursion (λ (p : Piece). IsSome (segment_of m.layout p.place))) same_pieces h.housed;
    tiled = subst (λ ps. AllByRecursion (IsTiled ps) m.layout.segments) same_pieces h.tiled;
    whole1 = subst (AllByRecursion (DoesNotCross m.layout.start1)) same_pieces h.whole1;
    whole0 = subst (AllByRecursion (DoesNotCross m.layout.start0)) same_pieces h.whole0;
  }

-- a sweep leaves places as they are
swept_apart : (m : Machine) (alive keeps : ℕ → Bool) → AreApart m.objects → AreApart (objects_after m alive keeps [])
swept_apart m alive keeps d = record {
  names = distinct_map (object_after m alive []) (λ (o : Object). o.name)
      (filter (λ (o : Object). keeps o.name) m.objects)
      (distinct_filter (λ (o : Object). o.name) (λ (o : Object). keeps o.name) m.objects d.names);
  places = distinct_map (object_after m alive []) (λ (o : Object). o.place)
      (filter (λ (o : Object). keeps o.name) m.objects)
      (distinct_filter (λ (o : Object). o.place) (λ (o : Object). keeps o.name) m.objects d.places);
  named = all_members (λ (o : Object). 0 < o.name) (objects_after m alive keeps [])
      (λ o i. let (p, e, j) = from-map (object_after m alive []) o (filter (λ (o : Object). keeps o.name) m.objects) i
      in subst (λ (w : Object). 0 < w.name) (sym e)
      (all_at (λ (o : Object). 0 < o.name) (out_of_filter (λ (o : Object). keeps o.name) p m.objects j).1 d.named));
  placed = all_members (λ (o : Object). 0 < o.place) (objects_after m alive keeps [])
      (λ o i. let (p, e, j) = from-map (object_after m alive []) o (filter (λ (o : Object). keeps o.name) m.objects) i
      in subst (λ (w : Object). 0 < w.place) (sym e)
      (all_at (λ (o : Object). 0 < o.place) (out_of_filter (λ (o : Object). keeps o.name) p m.objects j).1 d.placed));
}

-- After a collection, objects have names and places of their own.
pub collected_apart : (m : Machine) → IsLaid m → AreApart m.objects → (g : ℕ) → g ≤ 2
    → (how : How) (last_pause : Bool) (start : ℕ → Type 0) (answer : Collected) (new : Machine)
    → IsPlainlyCollected m g how last_pause start answer new → AreApart new.objects
collected_apart m h d g least how last_pause start answer new c =
    subst (λ (w : Machine). AreApart w.objects) (sym c.state)
    (by_kind (compacts how (decides_to_compact m g c.survive)) c.small_laid)
  where
    by_kind : (b : Bool) → IsSmallLaid b m.layout g c.survive c.moves c.small
        → AreApart (objects_after m c.first c.kept c.moves)
    by_kind true e = compacted_apart m h g least c.kept c.moves c.small
        (subst (λ ks. IsCompacted m.layout g ks c.moves c.small) c.survive_are e) d c.first
    by_kind false e = subst (λ vs. AreApart (objects_after m c.first c.kept vs)) (sym e.0)
        (swept_apart m c.first c.kept d)

-- the picture's names and places are apart
pub picture_apart : (m : Machine) → AreNamed m → AreApart (picture m).objects
picture_apart m h = record {
  names = shuffled-distinct (λ (o : Object). o.name) shuffled
      (distinct_map (renamed_object (place_of m.objects)) (λ (o : Object). o.name) m.objects
      (distinct-on (λ (o : Object). place_of m.objects o.name) (λ (o : Object). o.place) m.objects
      (place_of-member m.objects h.apart) h.apart.places));
  places = shuffled-distinct (λ (o : Object). o.place) shuffled
      (distinct_map (renamed_object (place_of m.objects)) (λ (o : Object). o.place) m.objects h.apart.places);
  named = all_members (λ (o : Object). 0 < o.name) (picture m).objects (λ o i. let (p, e, j) = back o i in
      subst (λ (w : Object). 0 < w.name) (sym e) (place-above m h p j));
  placed = all_members (λ (o : Object). 0 < o.place) (picture m).objects (λ o i. let (p, e, j) = back o i in
      subst (λ (w : Object). 0 < w.place) (sym e) (all_at (λ (o : Object). 0 < o.place) j h.apart.placed));
}
  where
    shuffled : IsShuffled (map (renamed_object (place_of m.objects)) m.objects) (picture m).objects
    shuffled = objects-shuffled m h

    back : (o : Object) → IsIn o (picture m).objects
        → (p : Object) × (o ≡ renamed_object (place_of m.objects) p) × IsIn p m.objects
    back o i = from-map (renamed_object (place_of m.objects)) o m.objects (shuffled-in o (shuffled-sym shuffled) i)

-- What a collection on which no slide follows does to the picture of a lawful machine, it does to the machine.
pub unslid_names : (m : Machine) (g : ℕ) (how : How) (answer : Collected) (after : Machine) → IsLawful m → IsPlain g how
    → IsUnslid m g → Collects (picture m) g how answer after
    → (next : Machine) × Collects m g how answer next × (picture next ≡ picture after)
unslid_names m g how answer after lawful usual unslid collects =
    let least = usual_least g how usual in
    let plain = usual_plain g how usual in
    let c : PlainlyCollects (picture m) g how answer after =
    plainly (picture m) g how answer after unslid plain collects in
    let begun : Machine = record m { layout = all_given_up m.layout } in
    let named : AreNamed m = lawful-named m lawful in
    let laid : IsLaid (picture begun) = picture_laid begun (given_up_laid m lawful.laid) in
    let apart : AreApart (picture begun).objects = picture_apart m named in
    let (next, done, shown, at) =
    collection_names m named g how answer after c
    (collected_apart (picture begun) laid apart g least how false (StartOf (picture begun) g) answer after c) in
    (next, from_plain m g how answer next unslid plain done, shown)
