-- The grammar of lines: each instruction has one spelling, and a line is the spelling of a well-formed instruction.
use Rattle.std.specs.Prelude.{◌≡◌, ℕ, ◌^◌, ◌<◌, ◌≤◌, List, [], ◌∷◌, ◌++◌, length, Bool, true, false, ◌&&◌, ◌||◌, nat_le}
use Rattle.std.specs.Prelude.{◌==◌, if◌then◌else◌, IsTrue, codes, decimal, Option, Some, None, IfSome}
use Rattle.std.specs.List.{list_all, slice_split}
use Rattle.clr_types.specs.declared.handle.Kind.{Kind}
use Rattle.clr_types.specs.declared.handle.Kind.TheVariants.{Strong, Pinned, Weak, WeakLong, Dependent}
use Rattle.clr_types.specs.Types.{Form, class_form, references_form, bytes_form, structs_form, is_pattern_byte}
use Rattle.clr_model.specs.declared.How.{How}
use Rattle.clr_model.specs.declared.How.TheVariants.{Decide, Compact, Sweep, Fit}
use Rattle.clr_model.specs.declared.Mode.{Mode}
use Rattle.clr_model.specs.declared.Mode.TheVariants.{Full, Stat, Short}
use Rattle.clr_model.specs.declared.Life.{Life}
use Rattle.clr_model.specs.declared.Life.TheVariants.{Any, Live, Dead}
use Rattle.clr_model.specs.declared.look.Look.{Look}
use Rattle.clr_model.specs.declared.look.Look.TheVariants.{DumpArray, DumpMt, GcRoots, PathTo, Retained, GcHeapStat}
use Rattle.clr_model.specs.declared.look.Look.TheVariants.{ListNearObj, EphRefs, HandleStat, HandlesOf}
use Rattle.clr_model.specs.Instructions.{Instruction, DumpOptions, define_type, new_object, get_slot, set_slot}
use Rattle.clr_model.specs.Instructions.{put_number, read_number, copy_local, clear_local, suppress_object}
use Rattle.clr_model.specs.Instructions.{reregister_object, collect_heap, suspend_others, resume_others, begin_set}
use Rattle.clr_model.specs.Instructions.{begin_new, finish_step, create_handle, fetch_target, fetch_second, free_handle}
use Rattle.clr_model.specs.Instructions.{take_ready, dump_heap, dump_object, show_root, show_segments, verify_heap}
use Rattle.clr_model.specs.Instructions.{show_handles, show_queues, where_is, compact_large_once, new_pinned}
use Rattle.clr_model.specs.Instructions.{begin_background, step_background, end_background, show_size, look_at}
use Rattle.clr_nums.specs.Numbers.{hex16}
use Rattle.clr_model.specs.ReplyText.{spaced, kind_word}

-- ---- words

-- the words of a thread, a local and a handle
abbrev pub thread_word : ℕ → List ℕ
thread_word t = 116 ∷ decimal t

abbrev pub local_word : ℕ → List ℕ
local_word k = 108 ∷ decimal k

abbrev pub handle_word : ℕ → List ℕ
handle_word h = 104 ∷ decimal h

-- `-` says no slot
abbrev pub pattern_word : List ℕ → List ℕ
pattern_word [] = 45 ∷ []
pattern_word (byte ∷ bytes) = byte ∷ bytes

abbrev pub form_words : Form → List (List ℕ)
form_words (class_form pattern) = codes "class" ∷ pattern_word pattern ∷ []
form_words references_form = codes "refs" ∷ []
form_words bytes_form = codes "bytes" ∷ []
form_words (structs_form pattern) = codes "structs" ∷ pattern_word pattern ∷ []

abbrev pub final_words : Bool → List (List ℕ)
final_words true = codes "final" ∷ []
final_words false = []

abbrev pub number_words : Option ℕ → List (List ℕ)
number_words None = []
number_words (Some n) = decimal n ∷ []

abbrev pub local_words : Option ℕ → List (List ℕ)
local_words None = []
local_words (Some k) = local_word k ∷ []

abbrev pub how_words : How → List (List ℕ)
how_words Decide = []
how_words Compact = codes "compacting" ∷ []
how_words Sweep = codes "sweeping" ∷ []
how_words Fit = codes "fitting" ∷ []

abbrev pub mode_words : Mode → List (List ℕ)
mode_words Full = []
mode_words Stat = codes "-stat" ∷ []
mode_words Short = codes "-short" ∷ []

abbrev pub life_words : Life → List (List ℕ)
life_words Any = []
life_words Live = codes "-live" ∷ []
life_words Dead = codes "-dead" ∷ []

abbrev pub mt_words : Option ℕ → List (List ℕ)
mt_words None = []
mt_words (Some mt) = codes "-mt" ∷ hex16 mt ∷ []

abbrev pub name_words : Option (List ℕ) → List (List ℕ)
name_words None = []
name_words (Some name) = codes "-type" ∷ name ∷ []

abbrev pub size_words : List ℕ → Option ℕ → List (List ℕ)
size_words option None = []
size_words option (Some n) = option ∷ decimal n ∷ []

abbrev pub segment_words : Option ℕ → List (List ℕ)
segment_words None = []
segment_words (Some base) = codes "-segment" ∷ hex16 base ∷ []

abbrev pub option_words : DumpOptions → List (List ℕ)
option_words o = ((((((mode_words o.mode ++ life_words o.life) ++ mt_words o.mt) ++ name_words o.name)
    ++ size_words (codes "-min") o.least) ++ size_words (codes "-max") o.greatest)
    ++ size_words (codes "-gen") o.generation) ++ segment_words o.segment

abbrev pub unrooted_words : Bool → List (List ℕ)
unrooted_words true = codes "-inclUnrooted" ∷ []
unrooted_words false = []

-- which slots of an object
abbrev pub slots_words : Option ℕ × Option ℕ × ℕ → List (List ℕ)
slots_words (start, count, a) =
    size_words (codes "-start") start ++ (size_words (codes "-length") count ++ (hex16 a ∷ []))

-- the words of a line that looks
abbrev pub look_words : Look → List (List ℕ)
look_words (DumpArray start count a) = codes "dumparray" ∷ slots_words (start, count, a)
look_words (DumpMt mt) = codes "dumpmt" ∷ hex16 mt ∷ []
look_words (GcRoots a) = codes "gcroot" ∷ codes "-all" ∷ hex16 a ∷ []
look_words (PathTo a b) = codes "pathto" ∷ hex16 a ∷ hex16 b ∷ []
look_words (Retained a) = codes "retained" ∷ hex16 a ∷ []
look_words (GcHeapStat unrooted) = codes "gcheapstat" ∷ unrooted_words unrooted
look_words (ListNearObj a) = codes "listnearobj" ∷ hex16 a ∷ []
look_words EphRefs = codes "ephrefs" ∷ []
look_words HandleStat = codes "gchandles" ∷ codes "-stat" ∷ []
look_words (HandlesOf kind) = codes "gchandles" ∷ codes "-type" ∷ kind_word kind ∷ []

-- the words of a line, in order
abbrev pub words_of : Instruction → List (List ℕ)
words_of (define_type name form finalizer) = codes "type" ∷ name ∷ (form_words form ++ final_words finalizer)
words_of (new_object t local name len) = thread_word t ∷ codes "new" ∷ local_word local ∷ name ∷ number_words len
words_of (get_slot t to from index) = thread_word t ∷ codes "get" ∷ local_word to ∷ local_word from ∷ decimal index ∷ []
words_of (set_slot t into index from) = thread_word t ∷ codes "set" ∷ local_word into ∷ decimal index ∷ local_word from
    ∷ []
words_of (put_number t into index value) = thread_word t ∷ codes "put" ∷ local_word into ∷ decimal index ∷ decimal value
    ∷ []
words_of (read_number t from index) = thread_word t ∷ codes "read" ∷ local_word from ∷ decimal index ∷ []
words_of (copy_local t to from) = thread_word t ∷ codes "copy" ∷ local_word to ∷ local_word from ∷ []
words_of (clear_local t local) = thread_word t ∷ codes "null" ∷ local_word local ∷ []
words_of (suppress_object t local) = thread_word t ∷ codes "suppress" ∷ local_word local ∷ []
words_of (reregister_object t local) = thread_word t ∷ codes "reregister" ∷ local_word local ∷ []
words_of (collect_heap t g how) = thread_word t ∷ codes "collect" ∷ decimal g ∷ how_words how
words_of (suspend_others t) = thread_word t ∷ codes "suspend" ∷ []
words_of (resume_others t) = thread_word t ∷ codes "resume" ∷ []
words_of (begin_set t into index from) = thread_word t ∷ codes "begin" ∷ codes "set" ∷ local_word into ∷ decimal index
    ∷ local_word from ∷ []
words_of (begin_new t local name len) = thread_word t ∷ codes "begin" ∷ codes "new" ∷ local_word local ∷ name
    ∷ number_words len
words_of (finish_step t) = thread_word t ∷ codes "step" ∷ []
words_of (create_handle t kind local second) = thread_word t ∷ codes "handle" ∷ kind_word kind ∷ local_word local
    ∷ local_words second
words_of (fetch_target t to h) = thread_word t ∷ codes "fetch" ∷ local_word to ∷ handle_word h ∷ []
words_of (fetch_second t to h) = thread_word t ∷ codes "second" ∷ local_word to ∷ handle_word h ∷ []
words_of (free_handle t h) = thread_word t ∷ codes "free" ∷ handle_word h ∷ []
words_of (take_ready t to) = thread_word t ∷ codes "finalizer" ∷ local_word to ∷ []
words_of (compact_large_once t) = thread_word t ∷ codes "compact-large" ∷ codes "once" ∷ []
words_of (new_pinned t local name len) = thread_word t ∷ codes "new-pinned" ∷ local_word local ∷ name ∷ decimal len ∷ []
words_of (begin_background t) = thread_word t ∷ codes "background" ∷ codes "begin" ∷ []
words_of (step_background n) = codes "background" ∷ codes "step" ∷ decimal n ∷ []
words_of (end_background t) = thread_word t ∷ codes "background" ∷ codes "end" ∷ []
words_of (dump_heap options) = codes "dumpheap" ∷ option_words options
words_of (dump_object a) = codes "dumpobj" ∷ hex16 a ∷ []
words_of (show_root a) = codes "gcroot" ∷ hex16 a ∷ []
words_of show_segments = codes "eeheap" ∷ codes "-gc" ∷ []
words_of verify_heap = codes "verifyheap" ∷ []
words_of show_handles = codes "gchandles" ∷ []
words_of show_queues = codes "finalizequeue" ∷ []
words_of (where_is a) = codes "gcwhere" ∷ hex16 a ∷ []
words_of (show_size a) = codes "objsize" ∷ hex16 a ∷ []
words_of (look_at look) = look_words look

abbrev pub spelling : Instruction → List ℕ
spelling i = spaced (words_of i)

-- ---- what may be written

-- an ASCII letter or `_`
abbrev pub is_name_start : ℕ → Bool
is_name_start b = ((nat_le 65 b && nat_le b 90) || (nat_le 97 b && nat_le b 122)) || (b == 95)

-- a letter, a digit or one of `_ . [ ] < > + ,`
abbrev pub is_name_byte : ℕ → Bool
is_name_byte b =
    ((is_name_start b || (nat_le 48 b && nat_le b 57)) || ((b == 46) || (b == 91)))
    || (((b == 93) || (b == 60)) || ((b == 62) || ((b == 43) || (b == 44))))

abbrev pub is_name : List ℕ → Bool
is_name [] = false
is_name (b ∷ bs) = (is_name_start b && list_all is_name_byte bs) && nat_le (length bs) 127

abbrev pub IsWord : ℕ → Type 0
IsWord n = n < 2 ^ 64

abbrev pub IsForm : Form → Type 0
IsForm (class_form pattern) = IsTrue (list_all is_pattern_byte pattern)
IsForm references_form = Unit {0}
IsForm bytes_form = Unit {0}
IsForm (structs_form pattern) = IsTrue (list_all is_pattern_byte pattern)

-- only a class may be written with `final`
abbrev pub IsFinal : Form → Bool → Type 0
IsFinal (class_form pattern) finalizer = Unit {0}
IsFinal references_form finalizer = finalizer ≡ false
IsFinal bytes_form finalizer = finalizer ≡ false
IsFinal (structs_form pattern) finalizer = finalizer ≡ false

-- at most one of the two options that name a type
abbrev pub IsOneType : Option ℕ → Option (List ℕ) → Type 0
IsOneType None name = Unit {0}
IsOneType (Some mt) None = Unit {0}
IsOneType (Some mt) (Some name) = ⊥

pub record AreOptions (o : DumpOptions) : Type 0 where
  pub mt : IfSome o.mt IsWord
  pub name : IfSome o.name (λ n. IsTrue (is_name n))
  pub one_type : IsOneType o.mt o.name
  pub least : IfSome o.least IsWord
  pub greatest : IfSome o.greatest IsWord
  pub generation : IfSome o.generation (λ g. g ≤ 2)
  pub segment : IfSome o.segment IsWord

-- a dependent handle is written with a second local, and no other is
abbrev pub IsHandleForm : Kind → Option ℕ → Type 0
IsHandleForm Dependent None = ⊥
IsHandleForm Dependent (Some k) = IsWord k
IsHandleForm Strong second = second ≡ None
IsHandleForm Pinned second = second ≡ None
IsHandleForm Weak second = second ≡ None
IsHandleForm WeakLong second = second ≡ None

-- a collection is of generation 0, 1 or 2, and only one of generation 1 is written with `fitting`
abbrev pub IsHowForm : ℕ → How → Type 0
IsHowForm g Decide = g ≤ 2
IsHowForm g Compact = g ≤ 2
IsHowForm g Sweep = g ≤ 2
IsHowForm g Fit = g ≡ 1

abbrev pub IsLookForm : Look → Type 0
IsLookForm (DumpArray start count a) = IfSome start IsWord × IfSome count IsWord × IsWord a
IsLookForm (DumpMt mt) = IsWord mt
IsLookForm (GcRoots a) = IsWord a
IsLookForm (PathTo a b) = IsWord a × IsWord b
IsLookForm (Retained a) = IsWord a
IsLookForm (GcHeapStat unrooted) = Unit {0}
IsLookForm (ListNearObj a) = IsWord a
IsLookForm EphRefs = Unit {0}
IsLookForm HandleStat = Unit {0}
IsLookForm (HandlesOf kind) = Unit {0}

-- the numbers fit 64 bits, and names and patterns have their form
abbrev pub IsWellFormed : Instruction → Type 0
IsWellFormed (define_type name form finalizer) = IsTrue (is_name name) × IsForm form × IsFinal form finalizer
IsWellFormed (new_object t local name len) = IsWord t × IsWord local × IsTrue (is_name name) × IfSome len IsWord
IsWellFormed (get_slot t to from index) = IsWord t × IsWord to × IsWord from × IsWord index
IsWellFormed (set_slot t into index from) = IsWord t × IsWord into × IsWord index × IsWord from
IsWellFormed (put_number t into index value) = IsWord t × IsWord into × IsWord index × IsWord value
IsWellFormed (read_number t from index) = IsWord t × IsWord from × IsWord index
IsWellFormed (copy_local t to from) = IsWord t × IsWord to × IsWord from
IsWellFormed (clear_local t local) = IsWord t × IsWord local
IsWellFormed (suppress_object t local) = IsWord t × IsWord local
IsWellFormed (reregister_object t local) = IsWord t × IsWord local
IsWellFormed (collect_heap t g how) = IsWord t × IsHowForm g how
IsWellFormed (suspend_others t) = IsWord t
IsWellFormed (resume_others t) = IsWord t
IsWellFormed (begin_set t into index from) = IsWord t × IsWord into × IsWord index × IsWord from
IsWellFormed (begin_new t local name len) = IsWord t × IsWord local × IsTrue (is_name name) × IfSome len IsWord
IsWellFormed (finish_step t) = IsWord t
IsWellFormed (create_handle t kind local second) = IsWord t × IsWord local × IsHandleForm kind second
IsWellFormed (fetch_target t to h) = IsWord t × IsWord to × IsWord h
IsWellFormed (fetch_second t to h) = IsWord t × IsWord to × IsWord h
IsWellFormed (free_handle t h) = IsWord t × IsWord h
IsWellFormed (take_ready t to) = IsWord t × IsWord to
IsWellFormed (compact_large_once t) = IsWord t
IsWellFormed (new_pinned t local name len) = IsWord t × IsWord local × IsTrue (is_name name) × IsWord len
IsWellFormed (begin_background t) = IsWord t
IsWellFormed (step_background n) = IsWord n
IsWellFormed (end_background t) = IsWord t
IsWellFormed (dump_heap options) = AreOptions options
IsWellFormed (dump_object a) = IsWord a
IsWellFormed (show_root a) = IsWord a
IsWellFormed show_segments = Unit {0}
IsWellFormed verify_heap = Unit {0}
IsWellFormed show_handles = Unit {0}
IsWellFormed show_queues = Unit {0}
IsWellFormed (where_is a) = IsWord a
IsWellFormed (show_size a) = IsWord a
IsWellFormed (look_at look) = IsLookForm look

-- the bytes are the line of this instruction
pub record IsLine (bytes : List ℕ) (i : Instruction) : Type 0 where
  pub formed : IsWellFormed i
  pub spelled : bytes ≡ spelling i

-- the words of a line, as a reader finds them: what stands before, between and after its spaces
abbrev pub words : List ℕ → List (List ℕ)
words line = slice_split (λ b. b == 32) line

-- ---- lines of a script

abbrev pub onto_first : ℕ → List (List ℕ) → List (List ℕ)
onto_first b [] = (b ∷ []) ∷ []
onto_first b (line ∷ lines) = (b ∷ line) ∷ lines

-- the stretches of bytes that line feeds cut off, and what follows the last line feed unless it is empty
abbrev pub script_lines : List ℕ → List (List ℕ)
script_lines [] = []
script_lines (b ∷ bs) = if b == 10 then [] ∷ script_lines bs else onto_first b (script_lines bs)

abbrev pub onto_first_ended : ℕ → List (List ℕ) → List (List ℕ)
onto_first_ended b [] = []
onto_first_ended b (line ∷ lines) = (b ∷ line) ∷ lines

-- the lines that a line feed ends
abbrev pub ended_lines : List ℕ → List (List ℕ)
ended_lines [] = []
ended_lines (b ∷ bs) = if b == 10 then [] ∷ ended_lines bs else onto_first_ended b (ended_lines bs)
