-- What a line says, with its names as bytes: one instruction for each form of line, one spelling for each instruction.
use Rattle.std.specs.Prelude.{ℕ, ◌-◌, ◌^◌, Bool, List, Option, Some, unwrap_or}
use Rattle.std.specs.Option.{option_map}
use Rattle.clr_types.specs.Types.{Form, form_of}
use Rattle.clr_types.specs.declared.handle.Kind.{Kind}
use Rattle.clr_model.specs.declared.How.{How}
use Rattle.clr_model.specs.declared.Mode.{Mode}
use Rattle.clr_model.specs.declared.Life.{Life}
use Rattle.clr_model.specs.declared.look.Look.{Look as LookLine}
use Rattle.clr_model.specs.declared.command.Filter.{Filter}
use Rattle.clr_model.specs.declared.command.Command.{Command}
use Rattle.clr_model.specs.declared.command.Command.TheVariants.{Define, New, Get, Set, Put, Read, Copy, Clear}
use Rattle.clr_model.specs.declared.command.Command.TheVariants.{Suppress, Reregister, Collect, Suspend, Resume}
use Rattle.clr_model.specs.declared.command.Command.TheVariants.{BeginSet, BeginNew, Step, Handle, Fetch, Second, Free}
use Rattle.clr_model.specs.declared.command.Command.TheVariants.{Finalizer, DumpHeap, DumpObj, GcRoot, EeHeap}
use Rattle.clr_model.specs.declared.command.Command.TheVariants.{VerifyHeap, GcHandles, FinalizeQueue, GcWhere}
use Rattle.clr_model.specs.declared.command.Command.TheVariants.{CompactLarge, NewPinned, BackgroundBegin}
use Rattle.clr_model.specs.declared.command.Command.TheVariants.{BackgroundStep, BackgroundEnd, Look, ObjSize}

-- the options of `dumpheap` as they are written
pub record DumpOptions : Type 0 where
  pub mode : Mode
  pub life : Life
  pub mt : Option ℕ
  pub name : Option (List ℕ)
  pub least : Option ℕ
  pub greatest : Option ℕ
  pub generation : Option ℕ
  pub segment : Option ℕ

pub data Instruction : Type 0 where
  define_type : (name : List ℕ) (form : Form) (finalizer : Bool) → Instruction
  new_object : (t local : ℕ) (name : List ℕ) (len : Option ℕ) → Instruction
  get_slot : (t to from index : ℕ) → Instruction
  set_slot : (t into index from : ℕ) → Instruction
  put_number : (t into index value : ℕ) → Instruction
  read_number : (t from index : ℕ) → Instruction
  copy_local : (t to from : ℕ) → Instruction
  clear_local : (t local : ℕ) → Instruction
  suppress_object : (t local : ℕ) → Instruction
  reregister_object : (t local : ℕ) → Instruction
  collect_heap : (t g : ℕ) (how : How) → Instruction
  suspend_others : (t : ℕ) → Instruction
  resume_others : (t : ℕ) → Instruction
  begin_set : (t into index from : ℕ) → Instruction
  begin_new : (t local : ℕ) (name : List ℕ) (len : Option ℕ) → Instruction
  finish_step : (t : ℕ) → Instruction
  create_handle : (t : ℕ) (kind : Kind) (local : ℕ) (second : Option ℕ) → Instruction
  fetch_target : (t to h : ℕ) → Instruction
  fetch_second : (t to h : ℕ) → Instruction
  free_handle : (t h : ℕ) → Instruction
  take_ready : (t to : ℕ) → Instruction
  compact_large_once : (t : ℕ) → Instruction
  new_pinned : (t local : ℕ) (name : List ℕ) (len : ℕ) → Instruction
  begin_background : (t : ℕ) → Instruction
  step_background : (n : ℕ) → Instruction
  end_background : (t : ℕ) → Instruction
  dump_heap : (options : DumpOptions) → Instruction
  dump_object : (a : ℕ) → Instruction
  show_root : (a : ℕ) → Instruction
  show_segments : Instruction
  verify_heap : Instruction
  show_handles : Instruction
  show_queues : Instruction
  where_is : (a : ℕ) → Instruction
  show_size : (a : ℕ) → Instruction
  look_at : (look : LookLine) → Instruction

abbrev pub least_of : DumpOptions → ℕ
least_of o = unwrap_or o.least 0

abbrev pub greatest_of : DumpOptions → ℕ
greatest_of o = unwrap_or o.greatest (2 ^ 64 - 1)

-- the same options with both sizes written out: what a `Filter` can tell
abbrev pub plain_options : DumpOptions → DumpOptions
plain_options o = record o { least = Some (least_of o); greatest = Some (greatest_of o) }

abbrev pub plain : Instruction → Instruction
plain (dump_heap options) = dump_heap (plain_options options)
plain i = i

abbrev pub options_of : Filter → DumpOptions
options_of f = record {
  mode = f.mode;
  life = f.life;
  mt = f.mt;
  name = option_map (λ n. n.now) f.name;
  least = Some f.min;
  greatest = Some f.max;
  generation = f.generation;
  segment = f.segment;
}

-- the instruction that a command stands for
abbrev pub instruction_of : Command → Instruction
instruction_of (Define name shape finalizer) = define_type name.now (form_of shape) finalizer
instruction_of (New t local name len) = new_object t local name.now len
instruction_of (Get t to from index) = get_slot t to from index
instruction_of (Set t into index from) = set_slot t into index from
instruction_of (Put t into index value) = put_number t into index value
instruction_of (Read t from index) = read_number t from index
instruction_of (Copy t to from) = copy_local t to from
instruction_of (Clear t local) = clear_local t local
instruction_of (Suppress t local) = suppress_object t local
instruction_of (Reregister t local) = reregister_object t local
instruction_of (Collect t g how) = collect_heap t g how
instruction_of (Suspend t) = suspend_others t
instruction_of (Resume t) = resume_others t
instruction_of (BeginSet t into index from) = begin_set t into index from
instruction_of (BeginNew t local name len) = begin_new t local name.now len
instruction_of (Step t) = finish_step t
instruction_of (Handle t kind local second) = create_handle t kind local second
instruction_of (Fetch t to h) = fetch_target t to h
instruction_of (Second t to h) = fetch_second t to h
instruction_of (Free t h) = free_handle t h
instruction_of (Finalizer t to) = take_ready t to
instruction_of (CompactLarge t) = compact_large_once t
instruction_of (NewPinned t local name len) = new_pinned t local name.now len
instruction_of (BackgroundBegin t) = begin_background t
instruction_of (BackgroundStep n) = step_background n
instruction_of (BackgroundEnd t) = end_background t
instruction_of (DumpHeap filter) = dump_heap (options_of filter)
instruction_of (DumpObj a) = dump_object a
instruction_of (GcRoot a) = show_root a
instruction_of EeHeap = show_segments
instruction_of VerifyHeap = verify_heap
instruction_of GcHandles = show_handles
instruction_of FinalizeQueue = show_queues
instruction_of (GcWhere a) = where_is a
instruction_of (ObjSize a) = show_size a
instruction_of (Look look) = look_at look
