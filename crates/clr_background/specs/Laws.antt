-- Laws on background collections over runs of lines. Each is the contract of a function that does nothing.
use Rattle.std.specs.Prelude.{◌≡◌, ℕ, ◌<◌, ◌⊎◌, ◌↔◌, Bool, IsTrue, is_some, None, Some}
use Rattle.std.specs.FinMap as finmap
use Rattle.clr_types.specs.Rising.{IsIn}
use Rattle.clr_types.specs.Segments.{generation}
use Rattle.clr_types.specs.declared.handle.Handle.{Handle}
use Rattle.clr_model.specs.declared.How.{How}
use Rattle.clr_model.specs.declared.Collected.{Collected}
use Rattle.clr_model.specs.declared.Reply.TheVariants as reply
use Rattle.clr_model.specs.Machine.{Machine, Marking, Object}
use Rattle.clr_model.specs.Lookups.{lowest_in_step, object_named, place_of}
use Rattle.clr_model.specs.Picture.{picture, renamed_marking}
use Rattle.clr_model.specs.Reach.{Edge, Live, Old, Reach, Roots, StartOfBackground}
use Rattle.clr_model.specs.Background.{IsBegun, IsLawfulMarking, ScansUpTo}
use Rattle.clr_model.specs.Collection.{Collects}
use Rattle.clr_model.specs.Lawful.{IsBirthNamed, IsLawful}
use Rattle.clr_model.specs.Laws.{IsUsual}
use Rattle.clr_model.specs.Instructions.{Instruction, begin_background, end_background}
use Rattle.clr_model.specs.LineGrammar.{IsWellFormed}
use Rattle.clr_model.specs.Outcomes.{Outcome, answered}
use Rattle.clr_model.specs.Step.{Obeys}
use Rattle.clr_background.specs.Log.{LogLaw, StrictLogLaw, Rescans}
use Rattle.clr_background.specs.Runs.{LogsOn, RunsOn}

-- ---- what stays

-- the object of the name is there as it was: in its place, with its type, length and slots
pub record IsStill (new : Machine) (x : ℕ) (o : Object) : Type 0 where
  pub object : Object
  pub found : object_named new.objects x ≡ Some object
  pub place : object.place ≡ o.place
  pub type : object.type ≡ o.type
  pub len : object.len ≡ o.len
  pub slots : object.slots ≡ o.slots

-- A collection leaves each object of a generation above its own as it is, and as old.
abbrev pub OlderStayLaw : Type 0
OlderStayLaw =
    (m : Machine) (g : ℕ) (how : How) (answer : Collected) (new : Machine) → IsLawful m → IsUsual g how
    → Collects m g how answer new → (x : ℕ) (o : Object) → object_named m.objects x ≡ Some o
    → g < generation m.layout o.place
    → IsStill new x o × (generation new.layout o.place ≡ generation m.layout o.place)

-- an object of the name is in the same place, with its type and length
pub record StaysPut (new : Machine) (o : Object) : Type 0 where
  pub object : Object
  pub present : IsIn object new.objects
  pub name : object.name ≡ o.name
  pub place : object.place ≡ o.place
  pub type : object.type ≡ o.type
  pub len : object.len ≡ o.len

-- A line after which a background collection runs, so one without a full collection, leaves each object of generation 2
-- in its place, and so all that was taken.
abbrev pub OldStayPutLaw : Type 0
OldStayPutLaw =
    (m : Machine) (i : Instruction) (outcome : Outcome) (new : Machine) → IsBirthNamed m → IsWellFormed i
    → Obeys m i outcome new → IsTrue (is_some new.background)
    → (o : Object) → IsIn o m.objects → 1 < generation m.layout o.place → StaysPut new o

-- What the roots reach at the last pause stays as it is, whatever was marked.
abbrev pub BackgroundKeepsLaw : Type 0
BackgroundKeepsLaw =
    (m : Machine) (t : ℕ) (answer : Collected) (new : Machine) → IsLawful m
    → Obeys m (end_background t) (answered (reply.Collected answer)) new
    → (x : ℕ) (o : Object) → Live m x → object_named m.objects x ≡ Some o → IsStill new x o

-- ---- what goes

-- a handle of any kind names the object
pub record IsNamedByHandle (m : Machine) (x : ℕ) : Type 0 where
  pub handle : ℕ
  pub row : Handle
  pub in_use : finmap.get m.handles handle ≡ Some row
  pub names : (row.target ≡ x) ⊎ (row.second ≡ x)

-- a handle of any kind or a finalisation entry names the object
abbrev pub IsNamedByTables : Machine → ℕ → Type 0
IsNamedByTables m x = (0 < x) × (IsNamedByHandle m x ⊎ IsIn x m.entries)

-- roots, handles and finalisation entries reach the object
abbrev pub IsWithinReach : Machine → ℕ → Type 0
IsWithinReach m = Reach (Edge m) (λ x. Roots m x ⊎ IsNamedByTables m x)

-- For all lines between the pauses, what was of generation 2 and out of reach at the first pause is gone after the last
-- one.
abbrev pub BackgroundFreesLaw : Type 0
BackgroundFreesLaw =
    (m begun last new : Machine) (t u : ℕ) (answer : Collected) → IsBirthNamed m
    → Obeys m (begin_background t) (answered reply.Done) begun → RunsOn begun last
    → Obeys last (end_background u) (answered (reply.Collected answer)) new
    → (x : ℕ) → Old m 1 x → (IsWithinReach m x → ⊥) → object_named new.objects x ≡ None

-- ---- the log

-- The law of the log holds at the first pause, whatever is logged then, and after each line behind it.
abbrev pub LogHoldsLaw : Type 0
LogHoldsLaw =
    (m begun last : Machine) (t : ℕ) (marking : Marking) (log end : ℕ → Bool)
    → Obeys m (begin_background t) (answered reply.Done) begun → LogsOn begun log last end
    → last.background ≡ Some marking → LogLaw last marking end

-- Where no thread is between the halves of a step, as at a pause, it holds without begun stores.
abbrev pub StrictLogHoldsLaw : Type 0
StrictLogHoldsLaw =
    (m : Machine) (marking : Marking) (is_logged : ℕ → Bool) → lowest_in_step m ≡ None → LogLaw m marking is_logged
    → StrictLogLaw m marking is_logged

-- Then the last pause finds all that it is to find where it follows no slots of black objects but the logged ones.
abbrev pub RescanIsEnoughLaw : Type 0
RescanIsEnoughLaw =
    (m : Machine) (marking : Marking) (is_logged : ℕ → Bool) → StrictLogLaw m marking is_logged
    → (x : ℕ) → Reach (Edge m) (StartOfBackground m marking) x
    ↔ Reach (Rescans m marking is_logged) (StartOfBackground m marking) x

-- ---- names

-- The law of the log holds of a machine just where it holds of its picture.
abbrev pub LogNamesLaw : Type 0
LogNamesLaw =
    (m : Machine) (marking : Marking) (is_logged : ℕ → Bool) → IsLawful m
    → LogLaw (picture m) (renamed_marking (place_of m.objects) marking) is_logged ↔ LogLaw m marking is_logged

-- A first pause of the picture of a machine is one of the machine, whatever its objects are called.
abbrev pub FirstPauseNamesLaw : Type 0
FirstPauseNamesLaw =
    (m : Machine) (after : Marking) → IsLawful m → IsBegun (picture m) after
    → (marking : Marking) × IsBegun m marking × (renamed_marking (place_of m.objects) marking ≡ after)
    × IsLawfulMarking m marking

-- And so it is with steps of the marker.
abbrev pub MarkerNamesLaw : Type 0
MarkerNamesLaw =
    (m : Machine) (marking : Marking) (n count : ℕ) (after : Marking) → IsLawful m → IsLawfulMarking m marking
    → ScansUpTo (picture m) n (renamed_marking (place_of m.objects) marking) count after
    → (next : Marking) × ScansUpTo m n marking count next × (renamed_marking (place_of m.objects) next ≡ after)
    × IsLawfulMarking m next
