-- A lawful machine whose objects are named by their places stands for a machine, so what a line leaves of it is
-- again such a machine.
use Rattle.std.proofs.Common.{◌≡◌, ℕ, ◌<◌, ◌≤◌, List, [], ◌∷◌, map, refl, sym, ap, subst, ◌∙◌, arith, Option, Some}
use Rattle.std.proofs.Common.{None, inl}
use Rattle.std.proofs.Common.{inr}
use Rattle.std.specs.List.{AllByRecursion}
use Rattle.std.specs.Option.{option_map}
use Rattle.std.specs.FinMap as finmap
use Rattle.clr_types.specs.Rising.{IsIn, sorted_by}
use Rattle.clr_types.specs.Segments.{reserved_end}
use Rattle.clr_types.specs.declared.segment.SegInfo.{SegInfo}
use Rattle.clr_types.proofs.RisingLists.{all_at}
use Rattle.clr_types.proofs.ChangedLists.{all_members, all_imply, sorted_by-done, rising-sorted}
use Rattle.clr_types.specs.declared.handle.Handle.{Handle}
use Rattle.clr_model.specs.Machine.{Value, ref, num, Object, ThreadStep, no_step, begun_store, begun_new, Options}
use Rattle.clr_model.specs.Machine.{Machine}
use Rattle.clr_model.specs.Lookups.{place_of, object_piece}
use Rattle.clr_types.specs.Maps.{map_values}
use Rattle.clr_model.specs.Picture.{picture, renamed_value, renamed_object, renamed_row, renamed_step}
use Rattle.clr_model.specs.Lawful.{AreLawfulOptions, IsLawful, IsPlaceNamed, IsShaped, IsNullOrPresent, IsPresent}
use Rattle.clr_model.specs.Lawful.{SlotIsPresent, StepIsPresent}
use Rattle.clr_model.specs.Instructions.{Instruction}
use Rattle.clr_model.specs.Outcomes.{Outcome}
use Rattle.clr_model.specs.Run.{opening, StandsFor, Follows}
use Rattle.clr_types.proofs.MapValues.{get-map_values, map_values-same}
use Rattle.clr_model.proofs.Joined.{IsNullOrNamed}
use Rattle.clr_model.proofs.LawfulPieces.{HasHome, piece-home, object-in-pieces}
use Rattle.clr_model.proofs.Opening.{opening_stands}
use Rattle.clr_model.proofs.NamedWell.{lawful-named}
use Rattle.clr_model.proofs.RootsChanged.{shaped_alike}
use Rattle.clr_model.proofs.BirthSeen.{member-present}
use Rattle.clr_model.proofs.SeenSound.{place_of-seen, seen_sound}
use Rattle.clr_model.proofs.MarkingKept.{marking_kept, marking_still, old_as}

-- a function that leaves each element leaves the list
map-still : {X : Type 0} (f : X → X) (xs : List X) → AllByRecursion (λ x. f x ≡ x) xs → map f xs ≡ xs
map-still f [] same = refl
map-still f (x ∷ xs) same = let here = same.0 in let rest = map-still f xs same.1 in λ i. here i ∷ rest i

module _ (s : Machine) (h : IsPlaceNamed s) where
  -- the same machine, whose highest place counts as the last birth
  abbrev counted : Machine
  counted = record s { born = s.layout.top }

  abbrev to : ℕ → ℕ
  to = place_of s.objects

  counted-lawful : IsLawful counted
  counted-lawful =
      let is = h.lawful in
      record {
        options = is.options;
        types = is.types;
        type_count = is.type_count;
        type_names = is.type_names;
        type_words = is.type_words;
        names_rise = is.names_rise;
        shapes = all_imply (IsShaped s) (IsShaped counted) s.objects (λ o. shaped_alike s counted o refl) is.shapes;
        laid =
            record {
              layout = is.laid.layout;
              housed = is.laid.housed;
              tiled = is.laid.tiled;
              whole1 = is.laid.whole1;
              whole0 = is.laid.whole0;
            };
        rests_young = is.rests_young;
        suited = is.suited;
        limit = is.limit;
        names =
            record {
              slots = is.names.slots;
              locals = is.names.locals;
              handles = is.names.handles;
              entries =
                  is.names.entries;
              ready = is.names.ready;
              steps = is.names.steps;
            };
        seconds = is.seconds;
        locals = is.locals;
        steps = is.steps;
        rooms = is.rooms;
        holder = is.holder;
        handle_count = is.handle_count;
        handle_numbers = is.handle_numbers;
        entries = is.entries;
        ready = is.ready;
        sums = record {
          spent0 = is.sums.spent0;
          spent_large = is.sums.spent_large;
          promoted1 = is.sums.promoted1;
          promoted2 = is.sums.promoted2;
        };
        marking =
            marking_kept s counted s.background
            (old_as s counted (λ o. o) (λ o. refl) (λ o i. i) (λ o i old. old)) is.marking;
      }

  below-top : (o : Object) → IsIn o s.objects → o.name ≤ s.layout.top
  below-top o i =
      let k : HasHome s.layout o.place =
      piece-home s h.lawful.laid (object_piece s.types o) (object-in-pieces s h.lawful.laid o i) in
      let high : o.place < reserved_end k.home = k.high in
      let top = all_at (λ (u : SegInfo). reserved_end u ≤ s.layout.top) k.among h.lawful.laid.layout.below_top in
      let same : o.name ≡ o.place = all_at (λ (o : Object). o.name ≡ o.place) i h.places in
      omega arith

  -- ---- each name is its own place

  still : (x : ℕ) → IsNullOrPresent s x → to x ≡ x
  still = place_of-seen s h

  value-still : (v : Value) → SlotIsPresent s v → renamed_value to v ≡ v
  value-still (ref x) there = ap ref (still x there)
  value-still (num n) there = refl

  object-still : (o : Object) → IsIn o s.objects → renamed_object to o ≡ o
  object-still o i =
      let name = still o.name (inr (member-present s.objects o i)) in
      let slots = map-still (renamed_value to) o.slots
      (all_imply (SlotIsPresent s) (λ v. renamed_value to v ≡ v) o.slots value-still
      (all_at (λ (o : Object). AllByRecursion (SlotIsPresent s) o.slots) i h.lawful.names.slots)) in
      λ k. record o { name = name k; slots = slots k }

  step-still : (w : ThreadStep) → StepIsPresent s w → renamed_step to w ≡ w
  step-still no_step there = refl
  step-still (begun_store object slot) there = ap (λ n. begun_store n slot) (still object (inr there.0))
  step-still (begun_new type len local) there = refl

  objects-still : sorted_by (λ (o : Object). o.name) (map (renamed_object to) s.objects) ≡ s.objects
  objects-still =
      ap (sorted_by (λ (o : Object). o.name))
      (map-still (renamed_object to) s.objects (all_members (λ o. renamed_object to o ≡ o) s.objects object-still))
      ∙ sorted_by-done (λ (o : Object). o.name) s.objects
      (rising-sorted (λ (o : Object). o.name) s.objects h.lawful.names_rise)

  names-still : (xs : List ℕ) → AllByRecursion (IsPresent s) xs → map to xs ≡ xs
  names-still xs all = map-still to xs (all_imply (IsPresent s) (λ x. to x ≡ x) xs (λ x there. still x (inr there)) all)

  named-still : (x : ℕ) → IsNullOrNamed s.objects x → to x ≡ x
  named-still x (inl null) = still x (inl null)
  named-still x (inr (o, i, n)) = ap to (sym n) ∙ still o.name (inr (member-present s.objects o i)) ∙ n

  rows-still : (k : ℕ) (r : Option Handle) → finmap.get s.handles k ≡ r → option_map (renamed_row to) r ≡ r
  rows-still k None e = refl
  rows-still k (Some row) e =
      let (target, second) = (lawful-named s h.lawful).handles k row e in
      let a = named-still row.target target in
      let b = named-still row.second second in
      λ i. Some (record row { target = a i; second = b i })

  handles-still : map_values (renamed_row to) s.handles ≡ s.handles
  handles-still =
      map_values-same (map_values (renamed_row to) s.handles) s.handles
      (λ k. get-map_values (renamed_row to) s.handles k ∙ rows-still k (finmap.get s.handles k) refl)

  picture-counted : picture counted ≡ s
  picture-counted =
      let names = h.lawful.names in
      let objects = objects-still in
      let locals = map-still to s.locals (all_imply (IsNullOrPresent s) (λ x. to x ≡ x) s.locals still names.locals) in
      let handles = handles-still in
      let entries = names-still s.entries names.entries in
      let ready = names-still s.ready names.ready in
      let steps = map-still (renamed_step to) s.steps
      (all_imply (StepIsPresent s) (λ w. renamed_step to w ≡ w) s.steps step-still names.steps) in
      let none = sym h.uncounted in
      let background = marking_still s to s.background
      (λ x old. still x (inr (subst (IsPresent s) old.named (member-present s.objects old.object old.present))))
      h.lawful.marking in
      λ k. record s {
        born = none k;
        objects = objects k;
        locals = locals k;
        handles = handles k;
        entries = entries k;
        ready = ready k;
        steps = steps k;
        background = background k;
      }

  -- such a machine is its own picture
  pub picture_still : picture s ≡ s
  picture_still = picture-counted

  -- and stands for one whose objects are named by births
  pub sound_stands : (m : Machine) × StandsFor s m
  sound_stands = (
    counted,
    record {
      lawful = record {
        lawful = counted-lawful;
        born = all_members
            (λ (o : Object). o.name ≤ s.layout.top) s.objects below-top;
      };
      seen_is = picture-counted;
    },
  )

-- What follows from what is sound is sound.
pub follows_sound : (s : Machine) (i : Instruction) (outcome : Outcome) (after : Machine) → IsPlaceNamed s
    → Follows s i outcome after → IsPlaceNamed after
unfolding Follows
follows_sound s i outcome after h follows =
    let (m, stands) = sound_stands s h in
    let (next, obeys, shown) = follows m stands in
    seen_sound after next shown

-- and what a script opens with is sound
pub opening_sound : (options : Options) → AreLawfulOptions options → IsPlaceNamed (opening options)
opening_sound options h = seen_sound (opening options) (opening options) (opening_stands options h)
