-- The words of an instruction have no spaces, so a line gives them back, and has one reading.
use Rattle.std.proofs.Common.{◌≡◌, ◌≢◌, ◌==◌, ◌∙◌, ℕ, ◌+◌, ◌<◌, ◌^◌, ◌%◌, Bool, true, false, List, [], ◌∷◌, ◌++◌, refl}
use Rattle.std.proofs.Common.{sym, ap, subst, arith, Option, Some, None, IfSome, decimal, codes, not}
use Rattle.std.specs.Prelude.{IsTrue}
use Rattle.std.specs.List.{AllByRecursion, list_all}
use Rattle.std.proofs.lemmas.Bool.{and_parts, both_ways, eq-eqb, not-true}
use Rattle.std.proofs.lemmas.Fmt.{decimal_by_steps}
use Rattle.clr_nums.specs.Numbers.{is_hex_digit, hex16}
use Rattle.clr_nums.proofs.HexText.{list_all-hex16}
use Rattle.clr_types.specs.declared.handle.Kind.{Kind}
use Rattle.clr_types.specs.declared.handle.Kind.TheVariants.{Strong, Pinned, Weak, WeakLong, Dependent}
use Rattle.clr_types.specs.Types.{Form, class_form, references_form, bytes_form, structs_form, is_pattern_byte}
use Rattle.clr_model.specs.declared.How.{How}
use Rattle.clr_model.specs.declared.How.TheVariants.{Decide, Compact, Sweep}
use Rattle.clr_model.specs.declared.Mode.{Mode}
use Rattle.clr_model.specs.declared.Mode.TheVariants.{Full, Stat, Short}
use Rattle.clr_model.specs.declared.Life.{Life}
use Rattle.clr_model.specs.declared.Life.TheVariants.{Any, Live, Dead}
use Rattle.clr_model.specs.Instructions.{Instruction, DumpOptions, define_type, new_object, get_slot, set_slot}
use Rattle.clr_model.specs.Instructions.{put_number, read_number, copy_local, clear_local, suppress_object}
use Rattle.clr_model.specs.Instructions.{reregister_object, collect_heap, suspend_others, resume_others, begin_set}
use Rattle.clr_model.specs.Instructions.{begin_new, finish_step, create_handle, fetch_target, fetch_second, free_handle}
use Rattle.clr_model.specs.Instructions.{take_ready, dump_heap, dump_object, show_root, show_segments, verify_heap}
use Rattle.clr_model.specs.Instructions.{show_handles, show_queues, where_is}
use Rattle.clr_model.specs.ReplyText.{spaced, kind_word}
use Rattle.clr_model.specs.LineGrammar.{IsLine, IsWellFormed, IsForm, IsWord, IsHandleForm, AreOptions, is_name}
use Rattle.clr_model.specs.LineGrammar.{is_name_start, is_name_byte, form_words, final_words, pattern_word, thread_word}
use Rattle.clr_model.specs.LineGrammar.{local_word, handle_word, number_words, local_words, how_words, mode_words}
use Rattle.clr_model.specs.LineGrammar.{life_words, mt_words, name_words, size_words, option_words, words, words_of}
use Rattle.clr_model.specs.LineGrammar.{spelling}
use Rattle.clr_model.specs.Parsing.{instruction_in}
use Rattle.clr_model.proofs.Spelling.{IsUnspaced, words-spaced, spaced-words}
use Rattle.clr_model.proofs.LineReaders.{instruction_found, instruction_told}
use Rattle.clr_model.specs.declared.How.TheVariants.{Fit}
use Rattle.clr_model.specs.Instructions.{compact_large_once, new_pinned, begin_background, step_background}
use Rattle.clr_model.specs.Instructions.{end_background, show_size, look_at}
use Rattle.clr_model.specs.declared.look.Look.{Look}
use Rattle.clr_model.specs.declared.look.Look.TheVariants.{DumpArray, DumpMt, GcRoots, PathTo, Retained, GcHeapStat}
use Rattle.clr_model.specs.declared.look.Look.TheVariants.{ListNearObj, EphRefs, HandleStat, HandlesOf}
use Rattle.clr_model.specs.LineGrammar.{segment_words, slots_words, unrooted_words}
use Rattle.std.proofs.Common.{◌≤◌}
use Rattle.clr_model.proofs.ArgumentReaders.{how_least}

-- ---- bytes other than a space

-- a byte that passes a test which a space does not is none
not_space : (test : ℕ → Bool) → (test 32 ≡ true → ⊥) → (b : ℕ) → test b ≡ true → b ≢ 32
not_space test none b h e = none (subst (λ n. test n ≡ true) e h)

-- and so are bytes
all_other : (test : ℕ → Bool) → (test 32 ≡ true → ⊥) → (bytes : List ℕ) → list_all test bytes ≡ true → IsUnspaced bytes
all_other test none [] h = tt
all_other test none (b ∷ bytes) h = let p = and_parts _ _ h in
    (not_space test none b p.0, all_other test none bytes p.1)

-- a space stands in no name
no_name_byte : is_name_byte 32 ≡ true → ⊥
no_name_byte h = cc

-- begins none
no_name_start : is_name_start 32 ≡ true → ⊥
no_name_start h = cc

-- in no pattern
no_pattern_byte : is_pattern_byte 32 ≡ true → ⊥
no_pattern_byte h = cc

-- and is no digit
no_hex_digit : is_hex_digit 32 ≡ true → ⊥
no_hex_digit h = cc

-- ---- words

-- a name has no space
name_free : (name : List ℕ) → IsTrue (is_name name) → IsUnspaced name
name_free [] h = tt
name_free (b ∷ bytes) h =
    let p = and_parts _ _ h in
    let q = and_parts _ _ p.0 in
    (not_space is_name_start no_name_start b q.0, all_other is_name_byte no_name_byte bytes q.1)

-- nor the word of a pattern
pattern_free : (pattern : List ℕ) → IsTrue (list_all is_pattern_byte pattern) → IsUnspaced (pattern_word pattern)
pattern_free [] h = (λ e. omega arith, tt)
pattern_free (b ∷ bytes) h = all_other is_pattern_byte no_pattern_byte (b ∷ bytes) h

-- one byte more
one_more : (bytes : List ℕ) (b : ℕ) → IsUnspaced bytes → b ≢ 32 → IsUnspaced (bytes ++ (b ∷ []))
one_more [] b h other = (other, tt)
one_more (c ∷ bytes) b h other = (h.0, one_more bytes b h.1 other)

-- a number has no space
number_free : (n : ℕ) → n < 2 ^ 64 → IsUnspaced (decimal n)
number_free n lt = decimal_by_steps (λ n ds. IsUnspaced ds)
    (λ n small. (λ e. omega arith, tt))
    (λ n ds large h. one_more ds (48 + n % 10) h (λ e. omega arith))
    n lt

-- nor an address
hex_free : (a : ℕ) → IsUnspaced (hex16 a)
hex_free a = all_other is_hex_digit no_hex_digit (hex16 a) (list_all-hex16 a)

-- nor a text of other bytes
text_free : (bytes : List ℕ) → list_all (λ b. not (b == 32)) bytes ≡ true → IsUnspaced bytes
text_free [] h = tt
text_free (b ∷ bytes) h = let p = and_parts _ _ h in
    (λ e. both_ways (b == 32) (not-true _ p.0) (eq-eqb b 32 e), text_free bytes p.1)

-- nor a thread
thread_free : (t : ℕ) → IsWord t → IsUnspaced (thread_word t)
thread_free t h = (λ e. omega arith, number_free t h)

-- nor a local
local_free : (k : ℕ) → IsWord k → IsUnspaced (local_word k)
local_free k h = (λ e. omega arith, number_free k h)

-- nor a handle
handle_free : (n : ℕ) → IsWord n → IsUnspaced (handle_word n)
handle_free n h = (λ e. omega arith, number_free n h)

-- nor a kind
kind_free : (kind : Kind) → IsUnspaced (kind_word kind)
kind_free Strong = text_free (codes "strong") refl
kind_free Pinned = text_free (codes "pinned") refl
kind_free Weak = text_free (codes "weak") refl
kind_free WeakLong = text_free (codes "weaklong") refl
kind_free Dependent = text_free (codes "dependent") refl

-- ---- several words

-- no word has a space
abbrev AreFree : List (List ℕ) → Type 0
AreFree = AllByRecursion IsUnspaced

-- words before words
both_free : (ws vs : List (List ℕ)) → AreFree ws → AreFree vs → AreFree (ws ++ vs)
both_free [] vs h g = g
both_free (w ∷ ws) vs h g = (h.0, both_free ws vs h.1 g)

-- the words of a form
form_free : (form : Form) → IsForm form → AreFree (form_words form)
form_free (class_form pattern) h = (text_free (codes "class") refl, (pattern_free pattern h, tt))
form_free references_form h = (text_free (codes "refs") refl, tt)
form_free bytes_form h = (text_free (codes "bytes") refl, tt)
form_free (structs_form pattern) h = (text_free (codes "structs") refl, (pattern_free pattern h, tt))

-- of `final`
final_free : (final : Bool) → AreFree (final_words final)
final_free true = (text_free (codes "final") refl, tt)
final_free false = tt

-- of a length
length_free : (len : Option ℕ) → IfSome len IsWord → AreFree (number_words len)
length_free None h = tt
length_free (Some n) h = (number_free n h, tt)

-- of a second local
second_free : (kind : Kind) (second : Option ℕ) → IsHandleForm kind second → AreFree (local_words second)
second_free kind None h = tt
second_free Dependent (Some k) h = (local_free k h, tt)
second_free Strong (Some k) h = absurd cc
second_free Pinned (Some k) h = absurd cc
second_free Weak (Some k) h = absurd cc
second_free WeakLong (Some k) h = absurd cc

-- of a way to collect
how_free : (how : How) → AreFree (how_words how)
how_free Decide = tt
how_free Compact = (text_free (codes "compacting") refl, tt)
how_free Sweep = (text_free (codes "sweeping") refl, tt)
how_free Fit = (text_free (codes "fitting") refl, tt)

-- of a mode
mode_free : (mode : Mode) → AreFree (mode_words mode)
mode_free Full = tt
mode_free Stat = (text_free (codes "-stat") refl, tt)
mode_free Short = (text_free (codes "-short") refl, tt)

-- of a life
life_free : (life : Life) → AreFree (life_words life)
life_free Any = tt
life_free Live = (text_free (codes "-live") refl, tt)
life_free Dead = (text_free (codes "-dead") refl, tt)

-- of a method table word
mt_free : (mt : Option ℕ) → AreFree (mt_words mt)
mt_free None = tt
mt_free (Some mt) = (text_free (codes "-mt") refl, (hex_free mt, tt))

-- of a name
type_free : (name : Option (List ℕ)) → IfSome name (λ n. IsTrue (is_name n)) → AreFree (name_words name)
type_free None h = tt
type_free (Some name) h = (text_free (codes "-type") refl, (name_free name h, tt))

-- of a size
size_free : (option : List ℕ) (n : Option ℕ) → IsUnspaced option → IfSome n IsWord → AreFree (size_words option n)
size_free option None o h = tt
size_free option (Some n) o h = (o, (number_free n h, tt))

-- of a generation
generation_free : (g : Option ℕ) → IfSome g (λ n. n ≤ 2) → AreFree (size_words (codes "-gen") g)
generation_free None h = tt
generation_free (Some g) h = (text_free (codes "-gen") refl, (number_free g (omega (arith, h)), tt))

-- of a segment
segment_free : (base : Option ℕ) → AreFree (segment_words base)
segment_free None = tt
segment_free (Some base) = (text_free (codes "-segment") refl, (hex_free base, tt))

-- of all options
options_free : (o : DumpOptions) → AreOptions o → AreFree (option_words o)
options_free o v =
    both_free _ (segment_words o.segment)
    (both_free _ (size_words (codes "-gen") o.generation)
    (both_free _ (size_words (codes "-max") o.greatest)
    (both_free _ (size_words (codes "-min") o.least)
    (both_free _ (name_words o.name)
    (both_free _ (mt_words o.mt) (both_free (mode_words o.mode) (life_words o.life) (mode_free o.mode)
    (life_free o.life)) (mt_free o.mt)) (type_free o.name v.name))
    (size_free (codes "-min") o.least (text_free (codes "-min") refl) v.least))
    (size_free (codes "-max") o.greatest (text_free (codes "-max") refl) v.greatest))
    (generation_free o.generation v.generation)) (segment_free o.segment)

-- of the slots of an object
slots_free : (start count : Option ℕ) (a : ℕ) → IfSome start IsWord → IfSome count IsWord
    → AreFree (slots_words (start, count, a))
slots_free start count a v w =
    both_free (size_words (codes "-start") start) _ (size_free (codes "-start") start (text_free (codes "-start") refl) v)
    (both_free (size_words (codes "-length") count) _
    (size_free (codes "-length") count (text_free (codes "-length") refl) w) (hex_free a, tt))

-- of `-inclUnrooted`
unrooted_free : (u : Bool) → AreFree (unrooted_words u)
unrooted_free true = (text_free (codes "-inclUnrooted") refl, tt)
unrooted_free false = tt

-- ---- a line gives its words back

-- the words of a line that looks are those of its line
look_words_back : (look : Look) → IsWellFormed (look_at look)
    → words (spelling (look_at look)) ≡ words_of (look_at look)
look_words_back (DumpArray start count a) v =
    words-spaced (codes "dumparray") _ (text_free (codes "dumparray") refl, slots_free start count a v.0 v.1)
look_words_back (DumpMt mt) v = words-spaced (codes "dumpmt") _ (text_free (codes "dumpmt") refl, (hex_free mt, tt))
look_words_back (GcRoots a) v =
    words-spaced (codes "gcroot") _ (text_free (codes "gcroot") refl, (text_free (codes "-all") refl, (hex_free a, tt)))
look_words_back (PathTo a b) v =
    words-spaced (codes "pathto") _ (text_free (codes "pathto") refl, (hex_free a, (hex_free b, tt)))
look_words_back (Retained a) v = words-spaced (codes "retained") _ (text_free (codes "retained") refl, (hex_free a, tt))
look_words_back (GcHeapStat unrooted) v =
    words-spaced (codes "gcheapstat") _ (text_free (codes "gcheapstat") refl, unrooted_free unrooted)
look_words_back (ListNearObj a) v =
    words-spaced (codes "listnearobj") _ (text_free (codes "listnearobj") refl, (hex_free a, tt))
look_words_back EphRefs v = words-spaced (codes "ephrefs") [] (text_free (codes "ephrefs") refl, tt)
look_words_back HandleStat v =
    words-spaced (codes "gchandles") _ (text_free (codes "gchandles") refl, (text_free (codes "-stat") refl, tt))
look_words_back (HandlesOf kind) v =
    words-spaced (codes "gchandles") _
    (text_free (codes "gchandles") refl, (text_free (codes "-type") refl, (kind_free kind, tt)))

-- the words of an instruction are the words of its line
pub words_back : (i : Instruction) → IsWellFormed i → words (spelling i) ≡ words_of i
words_back (define_type name form final) v =
    words-spaced (codes "type") _ (
      text_free (codes "type") refl,
      (name_free name v.0, both_free (form_words form) (final_words final) (form_free form v.1) (final_free final)),
    )
words_back (new_object t local name len) v =
    words-spaced (thread_word t) _ (
      thread_free t v.0,
      (text_free (codes "new") refl, (local_free local v.1, (name_free name v.2, length_free len v.3))),
    )
words_back (get_slot t to from index) v =
    words-spaced (thread_word t) _ (
      thread_free t v.0,
      (text_free (codes "get") refl, (local_free to v.1, (local_free from v.2, (number_free index v.3, tt)))),
    )
words_back (set_slot t into index from) v =
    words-spaced (thread_word t) _ (
      thread_free t v.0,
      (text_free (codes "set") refl, (local_free into v.1, (number_free index v.2, (local_free from v.3, tt)))),
    )
words_back (put_number t into index value) v =
    words-spaced (thread_word t) _ (
      thread_free t v.0,
      (text_free (codes "put") refl, (local_free into v.1, (number_free index v.2, (number_free value v.3, tt)))),
    )
words_back (read_number t from index) v =
    words-spaced (thread_word t) _ (
      thread_free t v.0,
      (text_free (codes "read") refl, (local_free from v.1, (number_free index v.2, tt))),
    )
words_back (copy_local t to from) v =
    words-spaced (thread_word t) _ (
      thread_free t v.0,
      (text_free (codes "copy") refl, (local_free to v.1, (local_free from v.2, tt))),
    )
words_back (clear_local t local) v =
    words-spaced (thread_word t) _ (thread_free t v.0, (text_free (codes "null") refl, (local_free local v.1, tt)))
words_back (suppress_object t local) v =
    words-spaced (thread_word t) _ (thread_free t v.0, (text_free (codes "suppress") refl, (local_free local v.1, tt)))
words_back (reregister_object t local) v =
    words-spaced (thread_word t) _ (
      thread_free t v.0,
      (text_free (codes "reregister") refl, (local_free local v.1, tt)),
    )
words_back (collect_heap t g how) v =
    words-spaced (thread_word t) _ (
      thread_free t v.0,
      (text_free (codes "collect") refl, (number_free g (let low = how_least g how v.1 in omega arith), how_free how)),
    )
words_back (suspend_others t) v =
    words-spaced (thread_word t) _ (thread_free t v, (text_free (codes "suspend") refl, tt))
words_back (resume_others t) v = words-spaced (thread_word t) _ (thread_free t v, (text_free (codes "resume") refl, tt))
words_back (begin_set t into index from) v =
    words-spaced (thread_word t) _ (
      thread_free t v.0,
      (
        text_free (codes "begin") refl,
        (text_free (codes "set") refl, (local_free into v.1, (number_free index v.2, (local_free from v.3, tt)))),
      ),
    )
words_back (begin_new t local name len) v =
    words-spaced (thread_word t) _ (
      thread_free t v.0,
      (
        text_free (codes "begin") refl,
        (text_free (codes "new") refl, (local_free local v.1, (name_free name v.2, length_free len v.3))),
      ),
    )
words_back (finish_step t) v = words-spaced (thread_word t) _ (thread_free t v, (text_free (codes "step") refl, tt))
words_back (create_handle t kind local second) v =
    words-spaced (thread_word t) _ (
      thread_free t v.0,
      (text_free (codes "handle") refl, (kind_free kind, (local_free local v.1, second_free kind second v.2))),
    )
words_back (fetch_target t to h) v =
    words-spaced (thread_word t) _ (
      thread_free t v.0,
      (text_free (codes "fetch") refl, (local_free to v.1, (handle_free h v.2, tt))),
    )
words_back (fetch_second t to h) v =
    words-spaced (thread_word t) _ (
      thread_free t v.0,
      (text_free (codes "second") refl, (local_free to v.1, (handle_free h v.2, tt))),
    )
words_back (free_handle t h) v =
    words-spaced (thread_word t) _ (thread_free t v.0, (text_free (codes "free") refl, (handle_free h v.1, tt)))
words_back (take_ready t to) v =
    words-spaced (thread_word t) _ (thread_free t v.0, (text_free (codes "finalizer") refl, (local_free to v.1, tt)))
words_back (compact_large_once t) v =
    words-spaced (thread_word t) _
    (thread_free t v, (text_free (codes "compact-large") refl, (text_free (codes "once") refl, tt)))
words_back (new_pinned t local name len) v =
    words-spaced (thread_word t) _ (
      thread_free t v.0,
      (text_free (codes "new-pinned") refl, (local_free local v.1, (name_free name v.2, (number_free len v.3, tt)))),
    )
words_back (begin_background t) v =
    words-spaced (thread_word t) _
    (thread_free t v, (text_free (codes "background") refl, (text_free (codes "begin") refl, tt)))
words_back (step_background n) v =
    words-spaced (codes "background") _
    (text_free (codes "background") refl, (text_free (codes "step") refl, (number_free n v, tt)))
words_back (end_background t) v =
    words-spaced (thread_word t) _
    (thread_free t v, (text_free (codes "background") refl, (text_free (codes "end") refl, tt)))
words_back (dump_heap options) v =
    words-spaced (codes "dumpheap") _ (text_free (codes "dumpheap") refl, options_free options v)
words_back (dump_object a) v = words-spaced (codes "dumpobj") _ (text_free (codes "dumpobj") refl, (hex_free a, tt))
words_back (show_root a) v = words-spaced (codes "gcroot") _ (text_free (codes "gcroot") refl, (hex_free a, tt))
words_back show_segments v = words-spaced (codes "eeheap") _
    (text_free (codes "eeheap") refl, (text_free (codes "-gc") refl, tt))
words_back verify_heap v = words-spaced (codes "verifyheap") [] (text_free (codes "verifyheap") refl, tt)
words_back show_handles v = words-spaced (codes "gchandles") [] (text_free (codes "gchandles") refl, tt)
words_back show_queues v = words-spaced (codes "finalizequeue") [] (text_free (codes "finalizequeue") refl, tt)
words_back (where_is a) v = words-spaced (codes "gcwhere") _ (text_free (codes "gcwhere") refl, (hex_free a, tt))
words_back (show_size a) v = words-spaced (codes "objsize") _ (text_free (codes "objsize") refl, (hex_free a, tt))
words_back (look_at look) v = look_words_back look v

-- the instruction of a line is the one that is read from its words
pub line_read : (bytes : List ℕ) (i : Instruction) → IsLine bytes i → instruction_in (words bytes) ≡ Some i
line_read bytes i line = ap instruction_in (ap words line.spelled ∙ words_back i line.formed)
    ∙ instruction_found i line.formed

-- so a line has one reading
pub one_reading : (bytes : List ℕ) (i j : Instruction) → IsLine bytes i → IsLine bytes j → i ≡ j
one_reading bytes i j one other = let same : Some i ≡ Some j = sym (line_read bytes i one) ∙ line_read bytes j other in
    cc

-- and what is read from its words is its instruction
pub line_told : (bytes : List ℕ) (i : Instruction) → instruction_in (words bytes) ≡ Some i → IsLine bytes i
line_told bytes i e =
    let p = instruction_told (words bytes) i e in
    record { formed = p.1; spelled = sym (spaced-words bytes) ∙ ap spaced p.0 }
