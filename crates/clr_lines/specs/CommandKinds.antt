-- Kinds of commands: what they work on, or that they only show.
use Rattle.std.specs.Prelude.{Bool, true, false}
use Rattle.clr_model.specs.declared.command.Command.{Command}
use Rattle.clr_model.specs.declared.command.Command.TheVariants.{Clear, Copy, Get, Put, Read, Set}
use Rattle.clr_model.specs.declared.command.Command.TheVariants.{BeginNew, BeginSet, Resume, Step, Suspend}
use Rattle.clr_model.specs.declared.command.Command.TheVariants.{Fetch, Finalizer, Free, Handle, Reregister, Second}
use Rattle.clr_model.specs.declared.command.Command.TheVariants.{DumpHeap, DumpObj, EeHeap, FinalizeQueue, GcHandles}
use Rattle.clr_model.specs.declared.command.Command.TheVariants.{GcRoot, GcWhere, Suppress, VerifyHeap}
use Rattle.clr_model.specs.declared.command.Command.TheVariants.{BackgroundBegin, BackgroundEnd, BackgroundStep}
use Rattle.clr_model.specs.declared.command.Command.TheVariants.{Collect, CompactLarge, Define, New, NewPinned, Look, ObjSize}

-- slots of objects, and locals
abbrev pub is_on_slots : Command → Bool
is_on_slots (Get t to from index) = true
is_on_slots (Set t into index from) = true
is_on_slots (Put t into index value) = true
is_on_slots (Read t from index) = true
is_on_slots (Copy t to from) = true
is_on_slots (Clear t local) = true
is_on_slots _ = false

-- handles and finalisers
abbrev pub is_on_handles : Command → Bool
is_on_handles (Handle t kind local second) = true
is_on_handles (Fetch t to h) = true
is_on_handles (Second t to h) = true
is_on_handles (Free t h) = true
is_on_handles (Suppress t local) = true
is_on_handles (Reregister t local) = true
is_on_handles (Finalizer t to) = true
is_on_handles _ = false

-- steps of threads, and threads that hold others
abbrev pub is_on_threads : Command → Bool
is_on_threads (Suspend t) = true
is_on_threads (Resume t) = true
is_on_threads (BeginSet t into index from) = true
is_on_threads (BeginNew t local name len) = true
is_on_threads (Step t) = true
is_on_threads _ = false

-- types, births and collections
abbrev pub is_on_heap : Command → Bool
is_on_heap (Define name shape finalizer) = true
is_on_heap (New t local name len) = true
is_on_heap (NewPinned t local name len) = true
is_on_heap (Collect t g how) = true
is_on_heap (CompactLarge t) = true
is_on_heap _ = false

-- background collections
abbrev pub is_in_background : Command → Bool
is_in_background (BackgroundBegin t) = true
is_in_background (BackgroundStep n) = true
is_in_background (BackgroundEnd t) = true
is_in_background _ = false

-- it shows the heap, and changes nothing
abbrev pub is_look : Command → Bool
is_look (DumpHeap filter) = true
is_look (DumpObj a) = true
is_look (GcRoot a) = true
is_look EeHeap = true
is_look VerifyHeap = true
is_look GcHandles = true
is_look FinalizeQueue = true
is_look (GcWhere a) = true
is_look (ObjSize a) = true
is_look (Look look) = true
is_look _ = false
