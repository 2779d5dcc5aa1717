-- What holds while a background collection runs holds on where the objects that it took stay as they are, and over each
-- line that completes no store.
use Rattle.std.proofs.Common.{◌≡◌, ◌∙◌, ◌⊎◌, inl, inr, ℕ, ◌+◌, Bool, true, false, sym, ap, subst, if◌then◌else◌}
use Rattle.std.proofs.Common.{None, Some}
use Rattle.std.specs.Prelude.{IfSome, IsTrue}
use Rattle.clr_types.specs.Rising.{IsIn}
use Rattle.clr_types.specs.Types.{form_at, slot_offset}
use Rattle.clr_types.proofs.ChangedLists.{rising-distinct}
use Rattle.clr_types.proofs.RisingLists.{all_at}
use Rattle.clr_types.proofs.SortedLists.{same_by_key}
use Rattle.clr_model.specs.Background.{IsLawfulMarking, taken}
use Rattle.clr_model.specs.Instructions.{collect_heap, finish_step, Instruction, set_slot, step_background}
use Rattle.clr_model.specs.Lawful.{IsLawful, IsPlaceNamed}
use Rattle.clr_model.specs.Machine.{begun_store, Machine, Marking, Object}
use Rattle.clr_model.specs.Outcomes.{Outcome}
use Rattle.clr_model.specs.Picture.{picture}
use Rattle.clr_model.specs.Reach.{Old}
use Rattle.clr_model.specs.Run.{Follows}
use Rattle.clr_background.specs.Log.{CompletesStore, IsNullOrMarked, slot_address}
use Rattle.clr_background.proofs.Changes.{IsUsualLine}
use Rattle.clr_background.proofs.Markings.{marked_taken}
use Rattle.clr_bgmark.specs.Shades.{BackgroundView, is_logged}
use Rattle.clr_runtime.specs.Marked.{IsMarkedSoFar, marking_by, marking_of, StandsWhole}
use Rattle.clr_runtime.proofs.MarkedLines.{LogsStores, marked_on}

-- ---- objects stay as they are

-- what was taken is as it was, with its form, and stores that are begun go on
pub record StayTaken (s after : Machine) (k : Marking) : Type 0 where
  pub objects : (o : Object) → IsIn o after.objects → IsIn o.name (taken k) → IsIn o s.objects
  pub forms : (o : Object) → IsIn o s.objects → form_at after.types o.type ≡ form_at s.types o.type
  pub stores : (name slot : ℕ) → IsIn (begun_store name slot) s.steps → IsIn (begun_store name slot) after.steps

pub stays_marked : (s after : Machine) (v : BackgroundView) → StayTaken s after (marking_by v.shades)
    → IsMarkedSoFar s v → IsMarkedSoFar after v
stays_marked s after v stay is = record {
  colours = is.colours;
  counted = is.counted;
  whole = λ o here took.
      let j = stay.objects o here took in
      subst (λ f. StandsWhole v.shades v.parts o.place f o.len) (sym (stay.forms o j)) (is.whole o j took);
  parts = is.parts;
  fronts = is.fronts;
  log = λ o i name here black e.
      let j = stay.objects o here (marked_taken (marking_by v.shades) o.name (inr black)) in
      go o i name (stay.forms o j) (is.log o i name j black e);
}
  where
    go : (o : Object) (i name : ℕ) → form_at after.types o.type ≡ form_at s.types o.type
        → (IsNullOrMarked (marking_by v.shades) name ⊎ IsTrue (is_logged v.shades (slot_address s o i)))
        ⊎ IsIn (begun_store o.name i) s.steps
        → (IsNullOrMarked (marking_by v.shades) name ⊎ IsTrue (is_logged v.shades (slot_address after o i)))
        ⊎ IsIn (begun_store o.name i) after.steps
    go o i name form (inl (inl marked)) = inl (inl marked)
    go o i name form (inl (inr logged)) =
        inl (inr (subst (λ f. IsTrue (is_logged v.shades (o.place + slot_offset f i))) (sym form) logged))
    go o i name form (inr store) = inr (stay.stores o.name i store)

-- where objects, types and steps are those of before
pub same_marked : (s after : Machine) → after.objects ≡ s.objects → after.types ≡ s.types → after.steps ≡ s.steps
    → (v : BackgroundView) → (v.running ≡ true → IsMarkedSoFar s v) → v.running ≡ true → IsMarkedSoFar after v
same_marked s after objects types steps v marked running =
    stays_marked s after v
    (record {
      objects = λ o here took. subst (IsIn o) objects here;
      forms = λ o here. ap (λ rows. form_at rows o.type) types;
      stores = λ name slot j. subst (IsIn (begun_store name slot)) (sym steps) j;
    }) (marked running)

-- an object that was there is the one of its name, where all of them are there still
pub still_taken : (s after : Machine) (k : Marking) → IfSome s.background (IsLawfulMarking s) → s.background ≡ Some k
    → IsLawful after → ((o : Object) → IsIn o s.objects → IsIn o after.objects) → (o : Object)
    → IsIn o after.objects → IsIn o.name (taken k) → IsIn o s.objects
still_taken s after k marking runs lawful more o here took =
    let is : IsLawfulMarking s k = subst (λ r. IfSome r (IsLawfulMarking s)) runs marking in
    let old : Old s 1 o.name = all_at (Old s 1) took is.present in
    let one : old.object ≡ o =
    same_by_key (λ (o : Object). o.name) after.objects old.object o
    (rising-distinct (λ (o : Object). o.name) after.objects lawful.names_rise) (more old.object old.present) here
    old.named in
    subst (λ p. IsIn p s.objects) one old.present

-- while one runs, its marking is seen
pub running_marking : (v : BackgroundView) → v.running ≡ true → marking_of v ≡ Some (marking_by v.shades)
running_marking v running = ap (λ (b : Bool). if b then Some (marking_by v.shades) else None) running

-- ---- lines

-- a line that completes no store, collects nothing and isn't one of the marker
abbrev pub is_quiet : Instruction → Bool
is_quiet (set_slot t into index from) = false
is_quiet (finish_step t) = false
is_quiet (collect_heap t g how) = false
is_quiet (step_background n) = false
is_quiet _ = true

quiet_line : (i : Instruction) → is_quiet i ≡ true → IsUsualLine i
quiet_line (collect_heap t g how) e = absurd cc
quiet_line _ e = tt

quiet_stores : (m : Machine) (i : Instruction) → is_quiet i ≡ true → (name slot : ℕ) → CompletesStore m i name slot
    → ⊥
quiet_stores m (set_slot t into index from) e name slot c = absurd cc
quiet_stores m (finish_step t) e name slot c = absurd cc
quiet_stores m _ e name slot c = c

module _ (s : Machine) (i : Instruction) (outcome : Outcome) (after : Machine) (sound : IsPlaceNamed s)
    (line : IsUsualLine i) (follows : Follows s i outcome after) (v : BackgroundView) where
  -- where the line completes no store
  pub storeless_marked : ((m : Machine) → picture m ≡ s → (name slot : ℕ) → CompletesStore m i name slot → ⊥)
      → s.background ≡ marking_of v → after.background ≡ marking_of v
      → (v.running ≡ true → IsMarkedSoFar s v) → v.running ≡ true → IsMarkedSoFar after v
  storeless_marked none was now marked running =
      let is = marked running in
      let logs : LogsStores s i (is_logged v.shades) (is_logged v.shades) =
      record { stays = λ a e. e; stored = λ m seen o slot here c. absurd (none m seen o.name slot c) } in
      let (whole, log) = marked_on s i outcome after line (marking_by v.shades) v.shades v.parts (is_logged v.shades)
      (is_logged v.shades) logs sound follows (was ∙ running_marking v running) (now ∙ running_marking v running)
      (is.whole, is.log) in
      record {
        colours = is.colours;
        counted = is.counted;
        whole = whole;
        parts = is.parts;
        fronts = is.fronts;
        log = log;
      }

pub quiet_marked : (s : Machine) (i : Instruction) (outcome : Outcome) (after : Machine) → IsPlaceNamed s
    → is_quiet i ≡ true → Follows s i outcome after → (v : BackgroundView) → s.background ≡ marking_of v
    → after.background ≡ marking_of v → (v.running ≡ true → IsMarkedSoFar s v) → v.running ≡ true
    → IsMarkedSoFar after v
quiet_marked s i outcome after sound quiet follows v =
    storeless_marked s i outcome after sound (quiet_line i quiet) follows v (λ m seen. quiet_stores m i quiet)
