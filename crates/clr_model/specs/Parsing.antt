-- The instruction that words spell, found by reading them from the front. The grammar is LineGrammar's; this is the
-- tool by which it is shown that a line
-- has one reading, and by which the reader of lines is proved.
use Rattle.std.specs.Prelude.{ℕ, ◌^◌, List, [], ◌∷◌, Bool, true, false, ◌&&◌, nat_lt, nat_le, ◌==◌, ◌+◌, ◌-◌, ◌*◌}
use Rattle.std.specs.Prelude.{if◌then◌else◌, codes, bytes_eq, Option, Some, None}
use Rattle.std.specs.Option.{option_map, option_and_then}
use Rattle.std.specs.List.{list_all}
use Rattle.std.specs.Str.Parse.{digits_value}
use Rattle.clr_nums.specs.Numbers.{is_decimal_form, is_hex_form}
use Rattle.clr_types.specs.declared.handle.Kind.{Kind}
use Rattle.clr_types.specs.declared.handle.Kind.TheVariants.{Strong, Pinned, Weak, WeakLong, Dependent}
use Rattle.clr_types.specs.Types.{class_form, references_form, bytes_form, structs_form, is_pattern_byte}
use Rattle.clr_model.specs.declared.How.{How}
use Rattle.clr_model.specs.declared.How.TheVariants.{Decide, Compact, Sweep, Fit}
use Rattle.clr_model.specs.declared.Mode.{Mode}
use Rattle.clr_model.specs.declared.Mode.TheVariants.{Full, Stat, Short}
use Rattle.clr_model.specs.declared.Life.{Life}
use Rattle.clr_model.specs.declared.Life.TheVariants.{Any, Live, Dead}
use Rattle.clr_model.specs.declared.look.Look.TheVariants.{DumpArray, DumpMt, GcRoots, PathTo, Retained, GcHeapStat}
use Rattle.clr_model.specs.declared.look.Look.TheVariants.{ListNearObj, EphRefs, HandleStat, HandlesOf}
use Rattle.clr_model.specs.Instructions.{Instruction, DumpOptions, define_type, new_object, get_slot, set_slot}
use Rattle.clr_model.specs.Instructions.{put_number, read_number, copy_local, clear_local, suppress_object}
use Rattle.clr_model.specs.Instructions.{reregister_object, collect_heap, suspend_others, resume_others, begin_set}
use Rattle.clr_model.specs.Instructions.{begin_new, finish_step, create_handle, fetch_target, fetch_second, free_handle}
use Rattle.clr_model.specs.Instructions.{take_ready, dump_heap, dump_object, show_root, show_segments, verify_heap}
use Rattle.clr_model.specs.Instructions.{show_handles, show_queues, where_is, compact_large_once, new_pinned}
use Rattle.clr_model.specs.Instructions.{begin_background, step_background, end_background, show_size, look_at}
use Rattle.clr_model.specs.LineGrammar.{is_name}

-- ---- one word

-- the number of a word in decimal digits, if it fits 64 bits
unfoldable pub number_in : List ℕ → Option ℕ
number_in word = if is_decimal_form word && nat_lt (digits_value 10 word) (2 ^ 64) then Some (digits_value 10 word) else
    None

-- the value of a hexadecimal digit's byte
abbrev pub hex_digit_value : ℕ → ℕ
hex_digit_value b = if nat_lt b 58 then b - 48 else b - 87

-- the number of hexadecimal digits behind those of n
abbrev pub hex_value_after : ℕ → List ℕ → ℕ
hex_value_after n [] = n
hex_value_after n (b ∷ bs) = hex_value_after (n * 16 + hex_digit_value b) bs

-- the address of a word
unfoldable pub address_in : List ℕ → Option ℕ
address_in word = if is_hex_form word then Some (hex_value_after 0 word) else None

-- the number behind this letter
abbrev pub numbered_in : ℕ → List ℕ → Option ℕ
numbered_in letter [] = None
numbered_in letter (b ∷ digits) = if b == letter then number_in digits else None

-- the number of a thread, a local and a handle
unfoldable pub thread_in : List ℕ → Option ℕ
thread_in word = numbered_in 116 word

-- the number of a local
unfoldable pub local_in : List ℕ → Option ℕ
local_in word = numbered_in 108 word

-- the number of a handle
unfoldable pub handle_in : List ℕ → Option ℕ
handle_in word = numbered_in 104 word

-- the word, if it is a name
unfoldable pub name_in : List ℕ → Option (List ℕ)
name_in word = if is_name word then Some word else None

-- the pattern of a word: none of its slots for `-`
unfoldable pub pattern_in : List ℕ → Option (List ℕ)
pattern_in [] = None
pattern_in (b ∷ bytes) = if bytes_eq (b ∷ bytes) (codes "-") then Some [] else
    (if list_all is_pattern_byte (b ∷ bytes) then Some (b ∷ bytes) else None)

-- the kind of a handle
unfoldable pub kind_in : List ℕ → Option Kind
kind_in word =
    if bytes_eq word (codes "strong") then Some Strong
    else (if bytes_eq word (codes "pinned") then Some Pinned
    else (if bytes_eq word (codes "weak") then Some Weak
    else (if bytes_eq word (codes "weaklong") then Some WeakLong
    else (if bytes_eq word (codes "dependent") then Some Dependent else None))))

-- a generation, 0, 1 or 2
unfoldable pub generation_in : List ℕ → Option ℕ
generation_in word = option_and_then (λ g. if nat_le g 2 then Some g else None) (number_in word)

-- ---- so many words

-- no word
abbrev pub none_in : List (List ℕ) → Option (List (List ℕ))
none_in [] = Some []
none_in (a ∷ more) = None

-- one word
abbrev pub one_in : List (List ℕ) → Option (List ℕ)
one_in [] = None
one_in (a ∷ []) = Some a
one_in (a ∷ b ∷ more) = None

-- two words
abbrev pub two_in : List (List ℕ) → Option (List ℕ × List ℕ)
two_in [] = None
two_in (a ∷ []) = None
two_in (a ∷ b ∷ []) = Some (a, b)
two_in (a ∷ b ∷ c ∷ more) = None

-- three words
abbrev pub three_in : List (List ℕ) → Option (List ℕ × List ℕ × List ℕ)
three_in [] = None
three_in (a ∷ []) = None
three_in (a ∷ b ∷ []) = None
three_in (a ∷ b ∷ c ∷ []) = Some (a, b, c)
three_in (a ∷ b ∷ c ∷ d ∷ more) = None

-- ---- what stands behind the verb of a thread's line

-- a local alone
unfoldable pub one_local_in : List (List ℕ) → Option ℕ
one_local_in ws = option_and_then local_in (one_in ws)

-- a handle alone
unfoldable pub one_handle_in : List (List ℕ) → Option ℕ
one_handle_in ws = option_and_then handle_in (one_in ws)

-- a number alone
unfoldable pub one_number_in : List (List ℕ) → Option ℕ
one_number_in ws = option_and_then number_in (one_in ws)

-- two words, each read in its way
abbrev pub both_in : (first second : List ℕ → Option ℕ) → List (List ℕ) → Option (ℕ × ℕ)
both_in first second ws = option_and_then
    (λ w. option_and_then (λ a. option_map (λ b. (a, b)) (second w.1)) (first w.0)) (two_in ws)

-- and three
abbrev pub each_in : (first second third : List ℕ → Option ℕ) → List (List ℕ) → Option (ℕ × ℕ × ℕ)
each_in first second third ws =
    option_and_then (λ w. option_and_then
    (λ a. option_and_then (λ b. option_map (λ c. (a, b, c)) (third w.2)) (second w.1)) (first w.0)) (three_in ws)

-- two locals
unfoldable pub locals_in : List (List ℕ) → Option (ℕ × ℕ)
locals_in ws = both_in local_in local_in ws

-- a local and a number
unfoldable pub local_and_number_in : List (List ℕ) → Option (ℕ × ℕ)
local_and_number_in ws = both_in local_in number_in ws

-- a local and a handle
unfoldable pub local_and_handle_in : List (List ℕ) → Option (ℕ × ℕ)
local_and_handle_in ws = both_in local_in handle_in ws

-- two locals and a number
unfoldable pub load_in : List (List ℕ) → Option (ℕ × ℕ × ℕ)
load_in ws = each_in local_in local_in number_in ws

-- a local, a number and a local
unfoldable pub store_in : List (List ℕ) → Option (ℕ × ℕ × ℕ)
store_in ws = each_in local_in number_in local_in ws

-- a local and two numbers
unfoldable pub number_store_in : List (List ℕ) → Option (ℕ × ℕ × ℕ)
number_store_in ws = each_in local_in number_in number_in ws

-- the length of a new object, if one is written
unfoldable pub length_in : List (List ℕ) → Option (Option ℕ)
length_in [] = Some None
length_in (word ∷ []) = option_map Some (number_in word)
length_in (word ∷ other ∷ more) = None

-- a local, a name, and a length if one is written
unfoldable pub birth_in : List (List ℕ) → Option (ℕ × List ℕ × Option ℕ)
birth_in [] = None
birth_in (a ∷ []) = None
birth_in (a ∷ b ∷ more) = option_and_then
    (λ local. option_and_then (λ name. option_map (λ len. (local, name, len)) (length_in more)) (name_in b))
    (local_in a)

-- how to collect a generation
unfoldable pub how_in : ℕ → List (List ℕ) → Option How
how_in g [] = Some Decide
how_in g (word ∷ []) = if bytes_eq word (codes "compacting") then Some Compact else
    (if bytes_eq word (codes "sweeping") then Some Sweep else
    (if bytes_eq word (codes "fitting") then (if g == 1 then Some Fit else None) else None))
how_in g (word ∷ other ∷ more) = None

-- a generation, and how to collect it
unfoldable pub collect_in : ℕ → List (List ℕ) → Option Instruction
collect_in t [] = None
collect_in t (word ∷ more) = option_and_then (λ g. option_map (collect_heap t g) (how_in g more)) (generation_in word)

-- the second local, which a dependent handle has and no other
unfoldable pub second_in : Kind → List (List ℕ) → Option (Option ℕ)
second_in Dependent ws = option_map Some (one_local_in ws)
second_in Strong ws = option_map (λ none. None) (none_in ws)
second_in Pinned ws = option_map (λ none. None) (none_in ws)
second_in Weak ws = option_map (λ none. None) (none_in ws)
second_in WeakLong ws = option_map (λ none. None) (none_in ws)

-- a kind, a local, and a second one if the kind has it
unfoldable pub create_in : ℕ → List (List ℕ) → Option Instruction
create_in t [] = None
create_in t (a ∷ []) = None
create_in t (a ∷ b ∷ more) = option_and_then
    (λ kind. option_and_then (λ local. option_map (create_handle t kind local) (second_in kind more)) (local_in b))
    (kind_in a)

-- ---- the lines of a thread

-- the birth of an object
abbrev pub new_in : ℕ → List (List ℕ) → Option Instruction
new_in t ws = option_map (λ b. new_object t b.0 b.1 b.2) (birth_in ws)

-- a store
abbrev pub set_in : ℕ → List (List ℕ) → Option Instruction
set_in t ws = option_map (λ s. set_slot t s.0 s.1 s.2) (store_in ws)

-- the first half of a store or a birth
unfoldable pub begin_in : ℕ → List (List ℕ) → Option Instruction
begin_in t [] = None
begin_in t (verb ∷ ws) =
    if bytes_eq verb (codes "set") then option_map (λ s. begin_set t s.0 s.1 s.2) (store_in ws)
    else (if bytes_eq verb (codes "new") then option_map (λ b. begin_new t b.0 b.1 b.2) (birth_in ws) else None)

-- `once` alone
unfoldable pub once_in : ℕ → List (List ℕ) → Option Instruction
once_in t ws = option_and_then (λ word. if bytes_eq word (codes "once") then Some (compact_large_once t) else None)
    (one_in ws)

-- a pinned object: a local, a name and a length
unfoldable pub pinned_in : ℕ → List (List ℕ) → Option Instruction
pinned_in t [] = None
pinned_in t (a ∷ []) = None
pinned_in t (a ∷ b ∷ more) = option_and_then (λ local. option_and_then (λ name.
    option_map (new_pinned t local name) (one_number_in more)) (name_in b)) (local_in a)

-- the pauses of a background collection
unfoldable pub pause_in : ℕ → List (List ℕ) → Option Instruction
pause_in t [] = None
pause_in t (word ∷ ws) =
    if bytes_eq word (codes "begin") then option_map (λ none. begin_background t) (none_in ws)
    else (if bytes_eq word (codes "end") then option_map (λ none. end_background t) (none_in ws) else None)

-- the lines on large and pinned objects, and on background collections
unfoldable pub seldom_in : ℕ → List ℕ → List (List ℕ) → Option Instruction
seldom_in t verb ws =
    if bytes_eq verb (codes "new-pinned") then pinned_in t ws
    else (if bytes_eq verb (codes "background") then pause_in t ws
    else (if bytes_eq verb (codes "compact-large") then once_in t ws else None))

-- the lines on handles and finalisers
unfoldable pub rooted_in : ℕ → List ℕ → List (List ℕ) → Option Instruction
rooted_in t verb ws =
    if bytes_eq verb (codes "handle") then create_in t ws
    else (if bytes_eq verb (codes "fetch") then option_map (λ p. fetch_target t p.0 p.1) (local_and_handle_in ws)
    else (if bytes_eq verb (codes "second") then option_map (λ p. fetch_second t p.0 p.1) (local_and_handle_in ws)
    else (if bytes_eq verb (codes "free") then option_map (free_handle t) (one_handle_in ws)
    else (if bytes_eq verb (codes "finalizer") then option_map (take_ready t) (one_local_in ws)
    else (if bytes_eq verb (codes "suppress") then option_map (suppress_object t) (one_local_in ws)
    else (if bytes_eq verb (codes "reregister") then option_map (reregister_object t) (one_local_in ws)
    else seldom_in t verb ws))))))

-- the lines on collections and on other threads, and those on handles
unfoldable pub rarely_in : ℕ → List ℕ → List (List ℕ) → Option Instruction
rarely_in t verb ws =
    if bytes_eq verb (codes "begin") then begin_in t ws
    else (if bytes_eq verb (codes "step") then option_map (λ none. finish_step t) (none_in ws)
    else (if bytes_eq verb (codes "collect") then collect_in t ws
    else (if bytes_eq verb (codes "suspend") then option_map (λ none. suspend_others t) (none_in ws)
    else (if bytes_eq verb (codes "resume") then option_map (λ none. resume_others t) (none_in ws)
    else rooted_in t verb ws))))

-- the lines on objects, and all others of a thread
unfoldable pub verb_in : ℕ → List ℕ → List (List ℕ) → Option Instruction
verb_in t verb ws =
    if bytes_eq verb (codes "get") then option_map (λ g. get_slot t g.0 g.1 g.2) (load_in ws)
    else (if bytes_eq verb (codes "set") then set_in t ws
    else (if bytes_eq verb (codes "put") then option_map (λ p. put_number t p.0 p.1 p.2) (number_store_in ws)
    else (if bytes_eq verb (codes "new") then new_in t ws
    else (if bytes_eq verb (codes "read") then option_map (λ r. read_number t r.0 r.1) (local_and_number_in ws)
    else (if bytes_eq verb (codes "copy") then option_map (λ c. copy_local t c.0 c.1) (locals_in ws)
    else (if bytes_eq verb (codes "null") then option_map (clear_local t) (one_local_in ws)
    else rarely_in t verb ws))))))

-- a verb, and what stands behind it
unfoldable pub threaded_in : ℕ → List (List ℕ) → Option Instruction
threaded_in t [] = None
threaded_in t (verb ∷ ws) = verb_in t verb ws

-- ---- types

-- whether `final` is written
unfoldable pub final_in : List (List ℕ) → Option Bool
final_in [] = Some false
final_in (word ∷ []) = if bytes_eq word (codes "final") then Some true else None
final_in (word ∷ other ∷ more) = None

-- a class: its pattern, and whether it has a finaliser
unfoldable pub class_in : List ℕ → List (List ℕ) → Option Instruction
class_in name [] = None
class_in name (word ∷ more) = option_and_then
    (λ pattern. option_map (define_type name (class_form pattern)) (final_in more)) (pattern_in word)

-- an array of structs: its pattern
unfoldable pub structs_in : List ℕ → List (List ℕ) → Option Instruction
structs_in name ws = option_and_then
    (λ word. option_map (λ pattern. define_type name (structs_form pattern) false) (pattern_in word)) (one_in ws)

-- the shape that this word begins
unfoldable pub shape_in : List ℕ → List ℕ → List (List ℕ) → Option Instruction
shape_in name word ws =
    if bytes_eq word (codes "class") then class_in name ws
    else (if bytes_eq word (codes "structs") then structs_in name ws
    else (if bytes_eq word (codes "refs") then option_map (λ none. define_type name references_form false) (none_in ws)
    else (if bytes_eq word (codes "bytes") then option_map (λ none. define_type name bytes_form false) (none_in ws) else
    None)))

-- a name and a shape
unfoldable pub define_in : List (List ℕ) → Option Instruction
define_in [] = None
define_in (a ∷ []) = None
define_in (a ∷ b ∷ more) = option_and_then (λ name. shape_in name b more) (name_in a)

-- ---- the options of `dumpheap`: what was read, and the words behind it

-- how to show the heap
unfoldable pub mode_in : List (List ℕ) → Mode × List (List ℕ)
mode_in [] = (Full, [])
mode_in (word ∷ ws) = if bytes_eq word (codes "-stat") then (Stat, ws) else
    (if bytes_eq word (codes "-short") then (Short, ws) else (Full, word ∷ ws))

-- which objects to show
unfoldable pub life_in : List (List ℕ) → Life × List (List ℕ)
life_in [] = (Any, [])
life_in (word ∷ ws) = if bytes_eq word (codes "-live") then (Live, ws) else
    (if bytes_eq word (codes "-dead") then (Dead, ws) else (Any, word ∷ ws))

-- the type by its method table word or by its name
pub record TypeChoice : Type 0 where
  pub mt : Option ℕ
  pub name : Option (List ℕ)

-- the method table word behind `-mt`
abbrev pub mt_choice_in : List (List ℕ) → Option (TypeChoice × List (List ℕ))
mt_choice_in [] = None
mt_choice_in (word ∷ ws) = option_map (λ a. (record { mt = Some a; name = None }, ws)) (address_in word)

-- the name behind `-type`
abbrev pub name_choice_in : List (List ℕ) → Option (TypeChoice × List (List ℕ))
name_choice_in [] = None
name_choice_in (word ∷ ws) = option_map (λ name. (record { mt = None; name = Some name }, ws)) (name_in word)

-- the type by one of the two options, or by none
unfoldable pub choice_in : List (List ℕ) → Option (TypeChoice × List (List ℕ))
choice_in [] = Some (record { mt = None; name = None }, [])
choice_in (word ∷ ws) =
    if bytes_eq word (codes "-mt") then mt_choice_in ws
    else (if bytes_eq word (codes "-type") then name_choice_in ws else
    Some (record { mt = None; name = None }, word ∷ ws))

-- the number that is due behind an option
abbrev pub number_then_in : List (List ℕ) → Option (Option ℕ × List (List ℕ))
number_then_in [] = None
number_then_in (word ∷ ws) = option_map (λ n. (Some n, ws)) (number_in word)

-- the number behind an option, if that stands here
unfoldable pub size_in : List ℕ → List (List ℕ) → Option (Option ℕ × List (List ℕ))
size_in option [] = Some (None, [])
size_in option (word ∷ ws) = if bytes_eq word option then number_then_in ws else Some (None, word ∷ ws)

-- the generation that is due behind an option
abbrev pub generation_then_in : List (List ℕ) → Option (Option ℕ × List (List ℕ))
generation_then_in [] = None
generation_then_in (word ∷ ws) = option_map (λ g. (Some g, ws)) (generation_in word)

-- the generation behind `-gen`, if that stands here
unfoldable pub generation_choice_in : List (List ℕ) → Option (Option ℕ × List (List ℕ))
generation_choice_in [] = Some (None, [])
generation_choice_in (word ∷ ws) =
    if bytes_eq word (codes "-gen") then generation_then_in ws else Some (None, word ∷ ws)

-- the address that is due behind an option
abbrev pub address_then_in : List (List ℕ) → Option (Option ℕ × List (List ℕ))
address_then_in [] = None
address_then_in (word ∷ ws) = option_map (λ a. (Some a, ws)) (address_in word)

-- the base behind `-segment`, if that stands here
unfoldable pub segment_choice_in : List (List ℕ) → Option (Option ℕ × List (List ℕ))
segment_choice_in [] = Some (None, [])
segment_choice_in (word ∷ ws) =
    if bytes_eq word (codes "-segment") then address_then_in ws else Some (None, word ∷ ws)

-- the options that say where items stand, both in their order, and no word more
unfoldable pub places_in : List (List ℕ) → Option (Option ℕ × Option ℕ)
places_in ws = option_and_then (λ g. option_and_then (λ s. option_map (λ none. (g.0, s.0)) (none_in s.1))
    (segment_choice_in g.1)) (generation_choice_in ws)

-- all options, in their order, and no word more
unfoldable pub options_in : List (List ℕ) → Option DumpOptions
options_in ws =
    option_and_then (λ c. option_and_then (λ l. option_and_then (λ g.
    option_map (λ p. record {
      mode = (mode_in ws).0;
      life = (life_in (mode_in ws).1).0;
      mt = c.0.mt;
      name = c.0.name;
      least = l.0;
      greatest = g.0;
      generation = p.0;
      segment = p.1;
    }) (places_in g.1)) (size_in (codes "-max") l.1)) (size_in (codes "-min") c.1)) (choice_in (life_in (mode_in ws).1).1)

-- ---- a whole line

-- an address alone
unfoldable pub address_after_in : List (List ℕ) → Option ℕ
address_after_in ws = option_and_then address_in (one_in ws)

-- `-gc` alone
unfoldable pub heaps_in : List (List ℕ) → Option Instruction
heaps_in ws = option_and_then (λ word. if bytes_eq word (codes "-gc") then Some show_segments else None) (one_in ws)

-- steps of a background collection, so many
unfoldable pub marking_in : List (List ℕ) → Option Instruction
marking_in [] = None
marking_in (word ∷ ws) =
    if bytes_eq word (codes "step") then option_map step_background (one_number_in ws) else None

-- two addresses
unfoldable pub addresses_in : List (List ℕ) → Option (ℕ × ℕ)
addresses_in ws = both_in address_in address_in ws

-- an object, and the roots that lead to it: one or all
unfoldable pub roots_in : List (List ℕ) → Option Instruction
roots_in [] = None
roots_in (word ∷ ws) =
    if bytes_eq word (codes "-all") then option_map (λ a. look_at (GcRoots a)) (address_after_in ws)
    else option_map show_root (address_after_in (word ∷ ws))

-- a kind alone
unfoldable pub one_kind_in : List (List ℕ) → Option Kind
one_kind_in ws = option_and_then kind_in (one_in ws)

-- which handles: all, how many of each kind, or those of one
unfoldable pub handles_in : List (List ℕ) → Option Instruction
handles_in [] = Some show_handles
handles_in (word ∷ ws) =
    if bytes_eq word (codes "-stat") then option_map (λ none. look_at HandleStat) (none_in ws)
    else (if bytes_eq word (codes "-type")
    then option_map (λ kind. look_at (HandlesOf kind)) (one_kind_in ws) else None)

-- which slots of an object: from where on, how many, and of which
unfoldable pub slots_in : List (List ℕ) → Option (Option ℕ × Option ℕ × ℕ)
slots_in ws = option_and_then (λ s. option_and_then (λ n. option_map (λ a. (s.0, n.0, a)) (address_after_in n.1))
    (size_in (codes "-length") s.1)) (size_in (codes "-start") ws)

-- whether `-inclUnrooted` is written
unfoldable pub unrooted_in : List (List ℕ) → Option Bool
unrooted_in [] = Some false
unrooted_in (word ∷ []) = if bytes_eq word (codes "-inclUnrooted") then Some true else None
unrooted_in (word ∷ other ∷ more) = None

-- the lines that look
unfoldable pub look_in : List ℕ → List (List ℕ) → Option Instruction
look_in word ws =
    if bytes_eq word (codes "dumparray") then option_map (λ s. look_at (DumpArray s.0 s.1 s.2)) (slots_in ws)
    else (if bytes_eq word (codes "dumpmt") then option_map (λ a. look_at (DumpMt a)) (address_after_in ws)
    else (if bytes_eq word (codes "pathto") then option_map (λ p. look_at (PathTo p.0 p.1)) (addresses_in ws)
    else (if bytes_eq word (codes "retained") then option_map (λ a. look_at (Retained a)) (address_after_in ws)
    else (if bytes_eq word (codes "gcheapstat") then option_map (λ u. look_at (GcHeapStat u)) (unrooted_in ws)
    else (if bytes_eq word (codes "listnearobj") then option_map (λ a. look_at (ListNearObj a)) (address_after_in ws)
    else (if bytes_eq word (codes "ephrefs") then option_map (λ none. look_at EphRefs) (none_in ws) else None))))))

-- the lines that are no thread's
unfoldable pub other_in : List ℕ → List (List ℕ) → Option Instruction
other_in word ws =
    if bytes_eq word (codes "type") then define_in ws
    else (if bytes_eq word (codes "gcwhere") then option_map where_is (address_after_in ws)
    else (if bytes_eq word (codes "dumpobj") then option_map dump_object (address_after_in ws)
    else (if bytes_eq word (codes "gcroot") then roots_in ws
    else (if bytes_eq word (codes "dumpheap") then option_map dump_heap (options_in ws)
    else (if bytes_eq word (codes "eeheap") then heaps_in ws
    else (if bytes_eq word (codes "verifyheap") then option_map (λ none. verify_heap) (none_in ws)
    else (if bytes_eq word (codes "gchandles") then handles_in ws
    else (if bytes_eq word (codes "finalizequeue") then option_map (λ none. show_queues) (none_in ws)
    else (if bytes_eq word (codes "objsize") then option_map show_size (address_after_in ws)
    else (if bytes_eq word (codes "background") then marking_in ws else look_in word ws))))))))))

-- the line of this thread, or of none
abbrev pub line_in : Option ℕ → List ℕ → List (List ℕ) → Option Instruction
line_in (Some t) word ws = threaded_in t ws
line_in None word ws = other_in word ws

-- the instruction that the words of a line spell
unfoldable pub instruction_in : List (List ℕ) → Option Instruction
instruction_in [] = None
instruction_in (word ∷ ws) = line_in (thread_in word) word ws
