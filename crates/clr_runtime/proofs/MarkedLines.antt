-- A line while a background collection runs: what holds of its bits and its log holds on, where what the line stores is
-- logged.
use Rattle.std.proofs.Common.{◌≡◌, ◌∙◌, ℕ, inr, Bool, List, map, refl, sym, ap, subst, Option, None}
use Rattle.std.proofs.Common.{Some}
use Rattle.std.specs.Prelude.{IfSome, IsTrue, is_some}
use Rattle.std.specs.Option.{option_map}
use Rattle.clr_types.specs.Rising.{IsIn}
use Rattle.clr_types.specs.Types.{form_at, form_of_row}
use Rattle.clr_types.proofs.ChangedLists.{IsIn-map, rising-distinct}
use Rattle.clr_types.proofs.ListMembers.{from-map}
use Rattle.clr_types.proofs.RisingLists.{all_at}
use Rattle.clr_types.proofs.SortedLists.{into_sorted_by, out_of_sorted_by, same_by_key}
use Rattle.clr_model.specs.Background.{IsLawfulMarking, taken}
use Rattle.clr_model.specs.Instructions.{Instruction}
use Rattle.clr_model.specs.Lawful.{IsBirthNamed, IsLawful, IsPlaceNamed, IsShaped}
use Rattle.clr_model.specs.Lookups.{place_of}
use Rattle.clr_model.specs.Machine.{Machine, Marking, Object}
use Rattle.clr_model.specs.Outcomes.{Outcome}
use Rattle.clr_model.specs.Picture.{picture, renamed_marking, renamed_object}
use Rattle.clr_model.specs.Reach.{Old}
use Rattle.clr_model.specs.Run.{Follows, StandsFor}
use Rattle.clr_model.specs.Step.{Obeys}
use Rattle.clr_model.proofs.Apart.{place_of-member}
use Rattle.clr_model.proofs.NamedWell.{AreNamed, lawful-named}
use Rattle.clr_model.proofs.SeenStands.{sound_stands}
use Rattle.clr_background.specs.Log.{CompletesStore, LogLaw, LogsLine, slot_address}
use Rattle.clr_background.proofs.Changes.{IsUsualLine, line_changes}
use Rattle.clr_background.proofs.LineStores.{change_leaves, change_stores, StoresOnly}
use Rattle.clr_background.proofs.LogHolds.{change_marks, line_logs_on}
use Rattle.clr_background.proofs.LogNames.{log_names}
use Rattle.clr_background.proofs.Markings.{marked_taken, MarksOn}
use Rattle.clr_background.proofs.OldStays.{LeavesOld}
use Rattle.clr_background.proofs.PlaceNames.{back_in, taken_renamed}
use Rattle.clr_bgmark.specs.Shades.{PartView, ShadeView}
use Rattle.clr_runtime.specs.Marked.{StandsWhole, StandWhole}
use Rattle.clr_runtime.proofs.StandingWhole.{stands_so}

-- ---- names

module _ (m : Machine) (h : AreNamed m) (k : Marking) (ss : List ShadeView) (ps : List PartView) where
  abbrev to : ℕ → ℕ
  to = place_of m.objects

  whole_of_picture : StandWhole (picture m) (renamed_marking to k) ss ps → StandWhole m k ss ps
  whole_of_picture whole o here took =
      whole (renamed_object to o)
      (into_sorted_by (λ (o : Object). o.name) (renamed_object to o) (map (renamed_object to) m.objects)
      (IsIn-map (renamed_object to) here))
      (subst (IsIn (to o.name)) (sym (taken_renamed to k)) (IsIn-map to took))

  whole_seen : StandWhole m k ss ps → StandWhole (picture m) (renamed_marking to k) ss ps
  whole_seen whole p here took =
      let (o, e, j) = from-map (renamed_object to) p m.objects
      (out_of_sorted_by (λ (o : Object). o.name) p (map (renamed_object to) m.objects) here) in
      let name : IsIn (to o.name) (map to (taken k)) =
      subst (λ (w : Object). IsIn w.name (map to (taken k))) e (subst (IsIn p.name) (taken_renamed to k) took) in
      subst (λ (w : Object). StandsWhole ss ps w.place (form_at m.types w.type) w.len) (sym e)
      (whole o j (back_in m h o.name (o, j, refl) (taken k) name))

-- what a machine took, by what its picture took
pub unrenamed : (to : ℕ → ℕ) (r : Option Marking) (k : Marking) → option_map (renamed_marking to) r ≡ Some k
    → (old : Marking) × (r ≡ Some old) × (renamed_marking to old ≡ k)
unrenamed to None k e = absurd cc
unrenamed to (Some old) k e = (old, refl, one (renamed_marking to old) k e)
  where
    one : (a b : Marking) → Some a ≡ Some b → a ≡ b
    one a b e = cc

-- ---- what stays of what was taken

module _ (m : Machine) (i : Instruction) (next : Machine) (h : IsBirthNamed m) (lawful : IsLawful next)
    (s : StoresOnly m i next) (l : LeavesOld m next) (old final : Marking) (runs : m.background ≡ Some old)
    (marks : MarksOn m old final) where
  taken_old : (x : ℕ) → IsIn x (taken final) → Old m 1 x
  taken_old x j =
      let is : IsLawfulMarking m old = subst (λ r. IfSome r (IsLawfulMarking m)) runs h.lawful.marking in
      all_at (Old m 1) ((marks.same x).1 j) is.present

  -- the object of a name that was taken is where it was, with its type and length
  record IsAsItWas (p : Object) : Type 0 where
    was : Object
    present : IsIn was m.objects
    name : p.name ≡ was.name
    place : p.place ≡ was.place
    type : p.type ≡ was.type
    len : p.len ≡ was.len

  as_it_was : (p : Object) → IsIn p next.objects → IsIn p.name (taken final) → IsAsItWas p
  as_it_was p here took =
      let is = taken_old p.name took in
      let put = l.puts is.object is.present is.above in
      let one : p ≡ put.object =
      same_by_key (λ (o : Object). o.name) next.objects p put.object
      (rising-distinct (λ (o : Object). o.name) next.objects lawful.names_rise) here put.present
      (sym is.named ∙ sym put.name) in
      record {
        was = is.object;
        present = is.present;
        name = sym is.named;
        place = ap (λ (o : Object). o.place) one ∙ put.place;
        type = ap (λ (o : Object). o.type) one ∙ put.type;
        len = ap (λ (o : Object). o.len) one ∙ put.len;
      }

  whole_goes_on : (ss : List ShadeView) (ps : List PartView) → StandWhole m old ss ps → StandWhole next final ss ps
  whole_goes_on ss ps whole p here took =
      let w = as_it_was p here took in
      let typed = (all_at (IsShaped m) w.present h.lawful.shapes).typed in
      let form : form_at next.types p.type ≡ form_at m.types w.was.type =
      ap (form_at next.types) w.type ∙ ap form_of_row (s.types w.was.type typed) in
      stands_so ss ps w.place form w.len
      (whole w.was w.present (subst (λ n. IsIn n (taken old)) w.name ((marks.same p.name).1 took)))

  -- where the picture shows the same marking before and after, what is black was black
  black_was : renamed_marking (place_of m.objects) old ≡ renamed_marking (place_of next.objects) final → (o : Object)
      → IsIn o m.objects → IsIn o.name final.black → IsIn o.name old.black
  black_was same o here black =
      let named = lawful-named m h.lawful in
      let is = taken_old o.name (marked_taken final o.name (inr black)) in
      let one : is.object ≡ o =
      same_by_key (λ (o : Object). o.name) m.objects is.object o
      (rising-distinct (λ (o : Object). o.name) m.objects h.lawful.names_rise) is.present here is.named in
      let put = l.puts is.object is.present is.above in
      let there : place_of next.objects o.name ≡ o.place =
      ap (place_of next.objects) (sym is.named ∙ sym put.name)
      ∙ place_of-member next.objects (lawful-named next lawful).apart put.object put.present ∙ put.place
      ∙ ap (λ (w : Object). w.place) one in
      let place : place_of next.objects o.name ≡ place_of m.objects o.name =
      there ∙ sym (place_of-member m.objects named.apart o here) in
      back_in m named o.name (o, here, refl) old.black
      (subst (λ x. IsIn x (map (place_of m.objects) old.black)) place
      (subst (IsIn (place_of next.objects o.name)) (sym (ap (λ (k : Marking). k.black) same))
      (IsIn-map (place_of next.objects) black)))

-- ---- one line

-- what the line stores is logged then, and what was logged stays so
pub record LogsStores (s : Machine) (i : Instruction) (log more : ℕ → Bool) : Type 0 where
  pub stays : (a : ℕ) → IsTrue (log a) → IsTrue (more a)
  pub stored : (m : Machine) → picture m ≡ s → (o : Object) (slot : ℕ) → IsIn o m.objects
      → CompletesStore m i o.name slot → IsTrue (more (slot_address m o slot))

-- what holds of a machine, of what it took, of the segments of the first pause and their old parts, and of a log
abbrev pub IsLogged : Machine → Marking → List ShadeView → List PartView → (ℕ → Bool) → Type 0
IsLogged m k ss ps log = StandWhole m k ss ps × LogLaw m k log

module _ (s : Machine) (i : Instruction) (outcome : Outcome) (after : Machine) (line : IsUsualLine i) (k : Marking)
    (ss : List ShadeView) (ps : List PartView) (log more : ℕ → Bool) (logs : LogsStores s i log more) where
  -- of a machine that is seen so
  goes_on : (m next : Machine) → StandsFor s m → Obeys m i outcome next → StandsFor after next
      → s.background ≡ Some k → after.background ≡ Some k → IsLogged s k ss ps log → IsLogged after k ss ps more
  goes_on m next stands obeys shown runs now (whole, law) =
      let (old, began, is) = unrenamed (place_of m.objects) m.background k
      (ap (λ (w : Machine). w.background) stands.seen_is ∙ runs) in
      let (final, goes, final_is) = unrenamed (place_of next.objects) next.background k
      (ap (λ (w : Machine). w.background) shown.seen_is ∙ now) in
      let change = line_changes m i outcome next obeys in
      let leaves = change_leaves m i next stands.lawful line change (ap is_some goes) in
      let stores = change_stores m i next stands.lawful change in
      let marks = change_marks m i next change old final began goes in
      let was_named = lawful-named m stands.lawful.lawful in
      let now_named = lawful-named next shown.lawful.lawful in
      let was_whole : StandWhole m old ss ps =
      whole_of_picture m was_named old ss ps
      (subst (λ w. StandWhole (picture m) w ss ps) (sym is)
      (subst (λ w. StandWhole w k ss ps) (sym stands.seen_is) whole)) in
      let was_law : LogLaw m old log =
      (log_names m old log stands.lawful.lawful).0
      (subst (λ w. LogLaw (picture m) w log) (sym is) (subst (λ w. LogLaw w k log) (sym stands.seen_is) law)) in
      let line_logs : LogsLine m i old final log more =
      record {
        stays = logs.stays;
        stored = logs.stored m stands.seen_is;
        scanned = λ o slot name here black none e.
            absurd (none (black_was m i next stands.lawful shown.lawful.lawful stores leaves old final began marks
            (is ∙ sym final_is) o here black));
      } in
      let now_whole = whole_goes_on m i next stands.lawful shown.lawful.lawful stores leaves old final began marks ss
      ps was_whole in
      let now_law = line_logs_on m i outcome next old final stands.lawful line obeys began goes log more line_logs
      was_law in (
        subst (λ w. StandWhole w k ss ps) shown.seen_is
            (subst (λ w. StandWhole (picture next) w ss ps) final_is
            (whole_seen next now_named final ss ps now_whole)),
        subst (λ w. LogLaw w k more) shown.seen_is
            (subst (λ w. LogLaw (picture next) w more) final_is
            ((log_names next final more shown.lawful.lawful).1 now_law)),
      )

  -- so it is seen
  pub marked_on : IsPlaceNamed s → Follows s i outcome after → s.background ≡ Some k → after.background ≡ Some k
      → IsLogged s k ss ps log → IsLogged after k ss ps more
  unfolding Follows
  marked_on sound follows runs now =
      let (m, stands) = sound_stands s sound in
      let (next, obeys, shown) = follows m stands in goes_on m next stands obeys shown runs now
