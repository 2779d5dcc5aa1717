-- What is written of an image: its second version, or what the commands show of the heap in it.
use Rattle.std.specs.Prelude.{◌≡◌, ℕ, List, [], ◌++◌, Bool, true, map, if◌then◌else◌, None, Option, Result, Ok, Err}
use Rattle.std.specs.Prelude.{Vec}
use Rattle.std.specs.FinMap as finmap
use Rattle.std.specs.Global.{Global}
use Rattle.clr_model.specs.declared.Life.TheVariants.{Any}
use Rattle.clr_model.specs.declared.Mode.TheVariants.{Full}
use Rattle.clr_model.specs.declared.Reply.TheVariants.{Clean}
use Rattle.clr_model.specs.Instructions.{DumpOptions, plain_options}
use Rattle.clr_model.specs.Machine.{begun_new, begun_store, Machine, no_step, ThreadStep}
use Rattle.clr_model.specs.Outcomes.{answered, outcome_text}
use Rattle.clr_model.specs.Sos.{dumpheap_text, eeheap_text, finalizequeue_text, gchandles_text}
use Rattle.clr_view.specs.View.{layout_in, objects_in}
use Rattle.clr_sos.specs.Buffered.{IsCut}
use Rattle.clr_streams.specs.Faults.{Appended}
use Rattle.clr_image.specs.declared.inspecting.Written.{Written}
use Rattle.clr_image.specs.declared.inspecting.Written.TheVariants.{BadImage, Cut, Refused, Whole}
use Rattle.clr_fields.specs.declared.fault.LoadFault.{LoadFault}
use Rattle.clr_fields.specs.declared.fault.LoadFault.TheVariants.{At, NoMemory}
use Rattle.clr_format.specs.Images.{HasFault, is_first, IsImage, Parts}
use Rattle.clr_format.specs.Saved.{migrated}
use Rattle.clr_sos.specs.declared.step.Step.{Step}
use Rattle.clr_sos.specs.declared.step.Step.TheVariants.{Idle, Store, Begun}

-- ---- the machine in an image

-- what a thread has begun; where a begun object is to stand is told by the thread's context, of which an image has none
abbrev pub step_by : Step → ThreadStep
step_by Idle = no_step
step_by (Store object slot) = begun_store object slot
step_by (Begun t len local front) = begun_new t.0 len local

-- A machine with what an image says, whose objects are those that the words of the segments spell, each named by its
-- place. An image says nothing of sums, budgets and the size of new segments.
pub record IsMachineOf (p : Parts) (m : Machine) : Type 0 where
  pub types : m.types ≡ p.types
  pub objects : m.objects ≡ objects_in p.types p.body.heap
  pub layout : m.layout ≡ layout_in p.types p.body.heap
  pub locals : m.locals ≡ p.rest.locals
  pub holder : m.holder ≡ p.rest.tables.holder
  pub steps : m.steps ≡ map step_by p.rest.tables.steps
  pub handles : finmap.entries m.handles ≡ p.rest.tables.handles
  pub entries : m.entries ≡ p.rest.tables.entries
  pub ready : m.ready ≡ p.rest.tables.ready
  pub limit : m.options.limit ≡ p.head.limit
  pub large : m.options.large ≡ p.head.large
  pub compacts_large : m.compacts_large ≡ p.head.compact_large

-- ---- texts

-- the options of a plain `dumpheap`
abbrev pub all_options : DumpOptions
all_options = record {
  mode = Full;
  life = Any;
  mt = None;
  name = None;
  least = None;
  greatest = None;
  generation = None;
  segment = None;
}

-- the reply to `dumpheap`, for which it plays no part what is reached
abbrev pub all_text : Machine → List ℕ
all_text m = dumpheap_text m (λ place. true) (plain_options all_options)

-- the replies to `gchandles` and `finalizequeue`, which an image of the first version has nothing for
abbrev pub tables_text : Bool → Machine → List ℕ
tables_text first m = if first then [] else gchandles_text m ++ finalizequeue_text m

-- the reply to `gchandles`, which an image of the first version has nothing for
abbrev pub handles_text : Bool → Machine → List ℕ
handles_text first m = if first then [] else gchandles_text m

-- the replies to `eeheap`, `dumpheap`, those two, and `verifyheap`
abbrev pub shown_text : Bool → Machine → List ℕ
shown_text first m =
    eeheap_text m ++ (all_text m ++ (tables_text first m ++ outcome_text (answered Clean)))

-- what is written of the bytes of an image with these parts
abbrev pub TextOf : Type 1
TextOf = List ℕ → Parts → List ℕ → Type 0

abbrev pub Inspected : TextOf
Inspected bytes p text = (m : Machine) × IsMachineOf p m × (text ≡ shown_text p.head.first m)

abbrev pub Migrated : TextOf
Migrated bytes p text = text ≡ migrated (is_first bytes) bytes

-- the bytes are an image, and this is its text; or the offset of their first fault is told; without memory nothing is
abbrev pub Tells : TextOf → List ℕ → Result (Vec ℕ Global) LoadFault → Type 0
Tells IsText bytes (Ok text) = (parts : Parts) × IsImage bytes parts × IsText bytes parts text.items
Tells IsText bytes (Err (At o)) = HasFault bytes o
Tells IsText bytes (Err NoMemory) = Unit {0}

-- What was written of the bytes of an image: its text, or a part of the text's front where a write failed. Of other
-- bytes the offset of their first fault is told.
abbrev pub Writes : TextOf → List ℕ → Option (List ℕ) → Option (List ℕ) → ℕ → ℕ → Written → Type 0
Writes IsText bytes written written_after faults faults_after Whole =
    (parts : Parts) × IsImage bytes parts × (text : List ℕ) × IsText bytes parts text
    × Appended written written_after text × (faults_after ≡ faults)
Writes IsText bytes written written_after faults faults_after Cut =
    (parts : Parts) × IsImage bytes parts × (text : List ℕ) × IsText bytes parts text
    × IsCut written written_after faults faults_after text
Writes IsText bytes written written_after faults faults_after (BadImage o) = HasFault bytes o
Writes IsText bytes written written_after faults faults_after Refused = Unit {0}

-- this holds where nothing was written
abbrev pub IfUnwritten : Written → Type 0 → Type 0
IfUnwritten Whole P = Unit {0}
IfUnwritten Cut P = Unit {0}
IfUnwritten (BadImage o) P = P
IfUnwritten Refused P = P

-- whether the image is of the first version; what is told of other bytes is as above
abbrev pub TellsVersion : List ℕ → Result Bool LoadFault → Type 0
TellsVersion bytes (Ok first) = (parts : Parts) × IsImage bytes parts × (first ≡ is_first bytes)
TellsVersion bytes (Err (At o)) = HasFault bytes o
TellsVersion bytes (Err NoMemory) = Unit {0}
