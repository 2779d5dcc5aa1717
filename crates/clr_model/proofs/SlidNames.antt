-- Names don't matter in a slide of the large heap.
use Rattle.std.proofs.Common.{◌≡◌, ℕ, ◌<◌, ◌≤◌, arith, List, [], ◌∷◌, ◌++◌, map, refl, sym, ap, subst, ◌∙◌, Bool, true}
use Rattle.std.proofs.Common.{filter, not}
use Rattle.std.proofs.Common.{◌&&◌, Option, Some, None, false}
use Rattle.std.proofs.lemmas.List.{append-nil}
use Rattle.std.specs.FinMap as finmap
use Rattle.std.specs.Option.{option_map}
use Rattle.clr_types.specs.Maps.{map_values}
use Rattle.clr_types.specs.Segments.{Layout, rest_pieces, first_place}
use Rattle.clr_types.specs.declared.handle.Handle.{Handle}
use Rattle.clr_types.specs.declared.handle.Kind.{Kind}
use Rattle.clr_types.specs.declared.handle.Kind.TheVariants.{Strong, Pinned, Weak, WeakLong, Dependent}
use Rattle.clr_types.proofs.MapValues.{get-map_values, map_values-same}
use Rattle.clr_model.specs.Machine.{Machine, Marking, Object}
use Rattle.clr_model.specs.Picture.{picture, renamed_marking}
use Rattle.clr_model.specs.Reach.{woken, is_suppressed}
use Rattle.clr_model.specs.Compaction.{Move}
use Rattle.clr_model.specs.Collection.{row_after, row_of_kind, objects_after, marking_after}
use Rattle.clr_model.specs.Slide.{slid_object, IsLargeSlid, SlidesLarge}
use Rattle.clr_model.specs.Lawful.{IsLawful, IsLaid}
use Rattle.clr_model.proofs.Apart.{AreApart}
use Rattle.clr_model.proofs.NamedWell.{AreNamed, lawful-named}
use Rattle.clr_model.proofs.CollectedNames.{survivors-seen, objects-after, handles-after, locals-after, entries-after}
use Rattle.clr_model.proofs.CollectedNames.{background-after, ready-after, steps-after}
use Rattle.clr_model.proofs.SlidLaid.{all_stay}
use Rattle.clr_model.proofs.SlidLaid.{stays_laid}
use Rattle.clr_model.proofs.LawfulPieces.{HasHome, piece-home, object-in-pieces, places-distinct}
use Rattle.clr_model.proofs.CollectionLaws.{picture_laid, picture_apart}
use Rattle.clr_model.specs.Lookups.{object_piece, place_of}
use Rattle.clr_types.proofs.RisingLists.{all_at}
use Rattle.clr_types.proofs.ChangedLists.{all_members}
use Rattle.clr_types.proofs.ListMembers.{from-map, distinct_map}

abbrev all : ℕ → Bool
all = λ name. true

-- what a collection leaves that finds all alive, keeps all, and moves these

all-kept : (xs : List ℕ) → filter all xs ≡ xs
all-kept [] = refl
all-kept (x ∷ xs) = ap (λ ys. x ∷ ys) (all-kept xs)

none-woken : (m : Machine) → woken m all ≡ []
none-woken m = none m.entries
  where
    none : (xs : List ℕ) → filter (λ e. not (all e) && not (is_suppressed m e)) xs ≡ []
    none [] = refl
    none (x ∷ xs) = none xs

same-row : (row : Handle) → row_after all all row ≡ row
same-row row = go row.kind
  where
    go : (k : Kind) → row_of_kind all all k row ≡ row
    go Strong = refl
    go Pinned = refl
    go Weak = refl
    go WeakLong = refl
    go Dependent = refl

same-handles : (m : Machine) → map_values (row_after all all) m.handles ≡ m.handles
same-handles m = map_values-same (map_values (row_after all all) m.handles) m.handles
    (λ k. get-map_values (row_after all all) m.handles k ∙ go (finmap.get m.handles k))
  where
    go : (r : Option Handle) → option_map (row_after all all) r ≡ r
    go None = refl
    go (Some row) = ap Some (same-row row)

same-marking : (r : Option Marking) → marking_after false r ≡ r
same-marking None = refl
same-marking (Some k) = refl

-- the machine with these moves and this layout, written as what such a collection leaves
abbrev as_collected : Machine → List Move → Layout → Machine
as_collected m moves layout = record m {
  objects = objects_after m all all moves;
  handles = map_values (row_after all all) m.handles;
  entries = filter all m.entries;
  ready = m.ready ++ woken m all;
  layout = layout;
}

collected-slides : (m : Machine) (moves : List Move) (layout : Layout)
    → as_collected m moves layout ≡ record m { objects = map (slid_object moves) m.objects; layout = layout }
collected-slides m moves layout =
    let objects = all_stay m moves in
    let handles = same-handles m in
    let entries = all-kept m.entries in
    let ready = ap (λ ws. m.ready ++ ws) (none-woken m) ∙ append-nil m.ready in
    λ i. record m {
      objects = objects i;
      handles = handles i;
      entries = entries i;
      ready = ready i;
      layout = layout;
    }

module _ (m : Machine) (h : AreNamed m) (moves : List Move) (after : Machine) (c : SlidesLarge (picture m) moves after)
    (apart : AreApart after.objects) where
  abbrev next : Machine
  next = record m { objects = map (slid_object moves) m.objects; layout = c.layout }

  slides : SlidesLarge m moves next
  slides = record {
    layout = c.layout;
    slid = subst (λ ks. IsLargeSlid m.layout ks moves c.layout) (survivors-seen m h all all 2) c.slid;
    state = refl;
  }

  after-is : after ≡ as_collected (picture m) moves c.layout
  after-is = c.state ∙ sym (collected-slides (picture m) moves c.layout)

  seen_apart : AreApart (objects_after (picture m) all all moves)
  seen_apart = subst (λ (w : Machine). AreApart w.objects) after-is apart

  shown : picture (as_collected m moves c.layout) ≡ picture (as_collected (picture m) moves c.layout)
  shown =
      let objects = objects-after m h all all moves seen_apart in
      let locals = locals-after m h all all moves in
      let handles = handles-after m h all all moves in
      let entries = entries-after m h all all moves in
      let ready = ready-after m h all all moves in
      let steps = steps-after m h all all moves in
      let background =
      ap (option_map (renamed_marking (place_of (objects_after m all all moves)))) (sym (same-marking m.background))
      ∙ background-after m h all all moves false
      ∙ ap (option_map (renamed_marking (place_of (objects_after (picture m) all all moves))))
      (same-marking (picture m).background) in
      λ i. record {
        types = m.types;
        born = 0;
        objects = objects i;
        locals = locals i;
        handles = handles i;
        entries = entries i;
        ready = ready i;
        steps = steps i;
        holder = m.holder;
        layout = c.layout;
        sums = m.sums;
        options = m.options;
        compacts_large = m.compacts_large;
        background = background i;
      }

  pub slid_names : (next : Machine) × SlidesLarge m moves next × (picture next ≡ picture after)
  slid_names = (
    next,
    slides,
    ap picture (sym (collected-slides m moves c.layout)) ∙ shown ∙ ap picture (sym after-is),
  )

-- after a slide objects have names and places of their own
pub slid_apart : (m : Machine) → IsLaid m → rest_pieces m.layout.rests ≡ [] → AreApart m.objects → (moves : List Move)
    (new : Machine) → SlidesLarge m moves new → AreApart new.objects
slid_apart m h bare d moves new c =
    subst (λ (w : Machine). AreApart w.objects) (sym c.state) (record {
      names = distinct_map (slid_object moves) (λ (o : Object). o.name) m.objects d.names;
      places = places-distinct next laid;
      named = all_members (λ (o : Object). 0 < o.name) (map (slid_object moves) m.objects)
          (λ o i. let (p, e, j) = from-map (slid_object moves) o m.objects i in
          subst (λ (w : Object). 0 < w.name) (sym e) (all_at (λ (o : Object). 0 < o.name) j d.named));
      placed = all_members (λ (o : Object). 0 < o.place) (map (slid_object moves) m.objects)
          (λ o i. let k : HasHome c.layout o.place =
          piece-home next laid (object_piece m.types o) (object-in-pieces next laid o i) in
          let l : first_place k.home ≤ o.place = k.low in omega arith);
    })
  where
    next : Machine
    next = record m { objects = map (slid_object moves) m.objects; layout = c.layout }

    laid : IsLaid next
    laid = stays_laid m h moves c.layout c.slid bare

-- What a slide does to the picture of a lawful machine, it does to the machine.
pub slide_names : (m : Machine) (moves : List Move) (after : Machine) → IsLawful m → rest_pieces m.layout.rests ≡ []
    → SlidesLarge (picture m) moves after
    → (next : Machine) × SlidesLarge m moves next × (picture next ≡ picture after)
slide_names m moves after lawful bare c =
    let named : AreNamed m = lawful-named m lawful in
    slid_names m named moves after c
    (slid_apart (picture m) (picture_laid m lawful.laid) bare (picture_apart m named) moves after c)
