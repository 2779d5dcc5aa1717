-- The instruction that is read from the words of a line is the one that they spell.
use Rattle.std.proofs.Common.{◌≡◌, ◌∙◌, ◌==◌, ◌++◌, ℕ, Bool, false, List, [], ◌∷◌, refl, ap, subst, Option, Some, None}
use Rattle.std.proofs.Common.{decimal, codes}
use Rattle.std.specs.Prelude.{IsTrue, bytes_eq, if◌then◌else◌}
use Rattle.std.specs.Option.{option_map, option_and_then}
use Rattle.clr_types.specs.Types.{Form, class_form, references_form, bytes_form, structs_form}
use Rattle.clr_model.specs.Instructions.{Instruction, define_type, new_object, get_slot, set_slot, put_number}
use Rattle.clr_model.specs.Instructions.{read_number, copy_local, clear_local, suppress_object, reregister_object}
use Rattle.clr_model.specs.Instructions.{collect_heap, suspend_others, resume_others, begin_set, begin_new, finish_step}
use Rattle.clr_model.specs.Instructions.{create_handle, fetch_target, fetch_second, free_handle, take_ready, dump_heap}
use Rattle.clr_model.specs.Instructions.{dump_object, show_root, show_segments, verify_heap, show_handles, show_queues}
use Rattle.clr_model.specs.Instructions.{where_is, compact_large_once, new_pinned, begin_background, step_background}
use Rattle.clr_model.specs.Instructions.{end_background, show_size, look_at}
use Rattle.clr_model.specs.declared.look.Look.{Look}
use Rattle.clr_model.specs.declared.look.Look.TheVariants.{DumpArray, DumpMt, GcRoots, PathTo, Retained, GcHeapStat}
use Rattle.clr_model.specs.declared.look.Look.TheVariants.{ListNearObj, EphRefs, HandleStat, HandlesOf}
use Rattle.clr_model.specs.LineGrammar.{IsWord, IsForm, IsFinal, IsWellFormed, is_name, words_of, thread_word}
use Rattle.clr_model.specs.LineGrammar.{local_word, pattern_word, form_words, final_words}
use Rattle.clr_model.specs.ReplyText.{kind_word}
use Rattle.clr_model.specs.Parsing.{number_in, thread_in, local_in, name_in, pattern_in, kind_in, generation_in}
use Rattle.clr_model.specs.Parsing.{none_in, one_in, how_in, collect_in, second_in, create_in, begin_in, rooted_in}
use Rattle.clr_model.specs.Parsing.{rarely_in, verb_in, threaded_in, final_in, class_in, structs_in, shape_in}
use Rattle.clr_model.specs.Parsing.{define_in, heaps_in, other_in, line_in, instruction_in, one_number_in, seldom_in}
use Rattle.clr_model.specs.Parsing.{pinned_in, pause_in, once_in, marking_in, roots_in, handles_in, look_in}
use Rattle.clr_model.proofs.Readers.{IsReader, IsTold, bound, mapped, one_told, nothing_told, choice_told, value_told}
use Rattle.clr_model.proofs.Readers.{made_told, made_none_told}
use Rattle.clr_model.proofs.WordReaders.{thread_reader, local_reader, name_reader, pattern_reader, kind_reader}
use Rattle.clr_model.proofs.WordReaders.{generation_reader, no_hex_word}
use Rattle.clr_model.proofs.ArgumentReaders.{one_local_reader, one_handle_reader, address_after_reader, locals_reader}
use Rattle.clr_model.proofs.ArgumentReaders.{local_and_number_reader, local_and_handle_reader, load_reader}
use Rattle.clr_model.proofs.ArgumentReaders.{store_reader, number_store_reader, birth_reader, how_reader, second_reader}
use Rattle.clr_model.proofs.ArgumentReaders.{final_reader, how_least, one_number_reader, addresses_reader}
use Rattle.clr_model.proofs.ArgumentReaders.{one_kind_reader, unrooted_reader}
use Rattle.clr_model.proofs.OptionReaders.{options_reader, slots_reader}

-- what is read from these words is what they spell
abbrev Spells : List (List ℕ) → Option Instruction → Type 0
Spells ws read = IsTold words_of IsWellFormed ws read

-- nothing is read
none_spelled : (ws : List (List ℕ)) → Spells ws None
none_spelled ws = nothing_told words_of IsWellFormed ws

-- a test of a word
either_spelled : (at : List ℕ → List (List ℕ)) (w k : List ℕ) (x y : Option Instruction) → Spells (at k) x
    → Spells (at w) y → Spells (at w) (if bytes_eq w k then x else y)
either_spelled at w k x y here other = choice_told words_of IsWellFormed at w k x y here other

-- what is made of a value that is read
made_spelled : {A : Type 0} (read : List (List ℕ) → Option A) (s : A → List (List ℕ)) (P : A
    → Type 0) (r : IsReader read s P) (at : List (List ℕ) → List (List ℕ)) (make : A → Instruction) →
    ((x : A) → P x → (at (s x) ≡ words_of (make x)) × IsWellFormed (make x)) → (ws : List (List ℕ))
    → Spells (at ws) (option_map make (read ws))
made_spelled read s P r at make all ws = made_told read s P r words_of IsWellFormed at make all ws

-- what takes no more words
alone_spelled : (at : List (List ℕ) → List (List ℕ)) (i : Instruction) → at [] ≡ words_of i → IsWellFormed i
    → (ws : List (List ℕ)) → Spells (at ws) (option_map (λ none. i) (none_in ws))
alone_spelled at i is formed ws = made_none_told words_of IsWellFormed at i is formed ws

-- ---- the lines of a thread

-- the words of a thread's line
abbrev Line : ℕ → List ℕ → List (List ℕ) → List (List ℕ)
Line t verb ws = thread_word t ∷ verb ∷ ws

-- a reader of what stands behind a verb
behind : {A : Type 0} (read : List (List ℕ) → Option A) (s : A → List (List ℕ)) (P : A
    → Type 0) (r : IsReader read s P) (t : ℕ) (verb : List ℕ) (make : A → Instruction) →
    ((x : A) → P x → (Line t verb (s x) ≡ words_of (make x)) × IsWellFormed (make x)) → (ws : List (List ℕ))
    → Spells (Line t verb ws) (option_map make (read ws))
behind read s P r t verb make all ws = made_spelled read s P r (Line t verb) make all ws

-- a collection
collect_spelled : (t : ℕ) → IsWord t → (ws : List (List ℕ)) → Spells (Line t (codes "collect") ws) (collect_in t ws)
unfolding collect_in
collect_spelled t h [] = none_spelled _
collect_spelled t h (word ∷ more) = λ i e.
    let b = bound (λ g. option_map (collect_heap t g) (how_in g more)) (generation_in word) i e in
    let p = generation_reader.told word b.value b.was in
    let q = made_spelled (how_in b.value) _ _ (how_reader b.value p.1)
    (λ v. Line t (codes "collect") (decimal b.value ∷ v)) (collect_heap t b.value) (λ how v. (refl, (h, v))) more i
    b.gives in
    (ap (λ (w : List ℕ). Line t (codes "collect") (w ∷ more)) p.0 ∙ q.0, q.1)

-- a new handle
create_spelled : (t : ℕ) → IsWord t → (ws : List (List ℕ)) → Spells (Line t (codes "handle") ws) (create_in t ws)
unfolding create_in
create_spelled t h [] = none_spelled _
create_spelled t h (a ∷ []) = none_spelled _
create_spelled t h (a ∷ b ∷ more) = λ i e.
    let k = bound (λ kind. option_and_then (λ local. option_map (create_handle t kind local) (second_in kind more))
    (local_in b)) (kind_in a) i e in
    let l = bound (λ local. option_map (create_handle t k.value local) (second_in k.value more)) (local_in b) i k.gives
    in
    let p = kind_reader.told a k.value k.was in
    let q = local_reader.told b l.value l.was in
    let r = made_spelled (second_in k.value) _ _ (second_reader k.value)
    (λ v. Line t (codes "handle") (kind_word k.value ∷ local_word l.value ∷ v)) (create_handle t k.value l.value)
    (λ second v. (refl, (h, q.1, v))) more i l.gives in
    ((λ j. Line t (codes "handle") (p.0 j ∷ q.0 j ∷ more)) ∙ r.0, r.1)

-- the first half of a store or a birth
begin_spelled : (t : ℕ) → IsWord t → (ws : List (List ℕ)) → Spells (Line t (codes "begin") ws) (begin_in t ws)
unfolding begin_in
begin_spelled t h [] = none_spelled _
begin_spelled t h (verb ∷ ws) =
    either_spelled (λ v. Line t (codes "begin") (v ∷ ws)) verb (codes "set") _ _
    (made_spelled _ _ _ store_reader (λ v. Line t (codes "begin") (codes "set" ∷ v)) (λ s. begin_set t s.0 s.1 s.2)
    (λ s v. (refl, (h, v.0, v.1, v.2))) ws)
    (either_spelled (λ v. Line t (codes "begin") (v ∷ ws)) verb (codes "new") _ _
    (made_spelled _ _ _ birth_reader (λ v. Line t (codes "begin") (codes "new" ∷ v)) (λ b. begin_new t b.0 b.1 b.2)
    (λ b v. (refl, (h, v.0, v.1, v.2))) ws)
    (none_spelled _))

-- a pinned object
pinned_spelled : (t : ℕ) → IsWord t → (ws : List (List ℕ)) → Spells (Line t (codes "new-pinned") ws) (pinned_in t ws)
unfolding pinned_in
pinned_spelled t h [] = none_spelled _
pinned_spelled t h (a ∷ []) = none_spelled _
pinned_spelled t h (a ∷ b ∷ more) = λ i e.
    let k = bound (λ local. option_and_then (λ name. option_map (new_pinned t local name) (one_number_in more))
    (name_in b)) (local_in a) i e in
    let n = bound (λ name. option_map (new_pinned t k.value name) (one_number_in more)) (name_in b) i k.gives in
    let p = local_reader.told a k.value k.was in
    let q = name_reader.told b n.value n.was in
    let r = made_spelled one_number_in _ _ one_number_reader
    (λ v. Line t (codes "new-pinned") (local_word k.value ∷ n.value ∷ v)) (new_pinned t k.value n.value)
    (λ len v. (refl, (h, p.1, q.1, v))) more i n.gives in
    ((λ j. Line t (codes "new-pinned") (p.0 j ∷ q.0 j ∷ more)) ∙ r.0, r.1)

-- the pauses of a background collection
pause_spelled : (t : ℕ) → IsWord t → (ws : List (List ℕ)) → Spells (Line t (codes "background") ws) (pause_in t ws)
unfolding pause_in
pause_spelled t h [] = none_spelled _
pause_spelled t h (word ∷ ws) =
    either_spelled (λ v. Line t (codes "background") (v ∷ ws)) word (codes "begin") _ _
    (alone_spelled (λ v. Line t (codes "background") (codes "begin" ∷ v)) (begin_background t) refl h ws)
    (either_spelled (λ v. Line t (codes "background") (v ∷ ws)) word (codes "end") _ _
    (alone_spelled (λ v. Line t (codes "background") (codes "end" ∷ v)) (end_background t) refl h ws)
    (none_spelled _))

-- the compaction of the large heap
once_spelled : (t : ℕ) → IsWord t → (ws : List (List ℕ)) → Spells (Line t (codes "compact-large") ws) (once_in t ws)
unfolding once_in
once_spelled t h ws i e =
    let b = bound (λ word. if bytes_eq word (codes "once") then Some (compact_large_once t) else None) (one_in ws) i e
    in
    let q = either_spelled (λ w. Line t (codes "compact-large") (w ∷ [])) b.value (codes "once")
    (Some (compact_large_once t)) None
    (value_told words_of IsWellFormed (Line t (codes "compact-large") (codes "once" ∷ []))
    (compact_large_once t) refl h)
    (none_spelled _) i b.gives in
    (ap (λ (v : List (List ℕ)). Line t (codes "compact-large") v) (one_told ws b.value b.was) ∙ q.0, q.1)

-- the lines on large and pinned objects, and on background collections
seldom_spelled : (t : ℕ) → IsWord t → (verb : List ℕ) (ws : List (List ℕ))
    → Spells (Line t verb ws) (seldom_in t verb ws)
unfolding seldom_in
seldom_spelled t h verb ws =
    or (codes "new-pinned") _ _ (pinned_spelled t h ws)
    (or (codes "background") _ _ (pause_spelled t h ws)
    (or (codes "compact-large") _ _ (once_spelled t h ws)
    (none_spelled _)))
  where
    or : (k : List ℕ) (x y : Option Instruction) → Spells (Line t k ws) x → Spells (Line t verb ws) y
        → Spells (Line t verb ws) (if bytes_eq verb k then x else y)
    or k x y = either_spelled (λ v. Line t v ws) verb k x y

-- the lines on handles and finalisers
rooted_spelled : (t : ℕ) → IsWord t → (verb : List ℕ) (ws : List (List ℕ))
    → Spells (Line t verb ws) (rooted_in t verb ws)
unfolding rooted_in
rooted_spelled t h verb ws =
    or (codes "handle") _ _ (create_spelled t h ws)
    (or (codes "fetch") _ _ (behind _ _ _ local_and_handle_reader t (codes "fetch") (λ p. fetch_target t p.0 p.1)
    (λ p v. (refl, (h, v.0, v.1))) ws)
    (or (codes "second") _ _ (behind _ _ _ local_and_handle_reader t (codes "second") (λ p. fetch_second t p.0 p.1)
    (λ p v. (refl, (h, v.0, v.1))) ws)
    (or (codes "free") _ _ (behind _ _ _ one_handle_reader t (codes "free") (free_handle t) (λ p v. (refl, (h, v))) ws)
    (or (codes "finalizer") _ _ (behind _ _ _ one_local_reader t (codes "finalizer") (take_ready t)
    (λ p v. (refl, (h, v))) ws)
    (or (codes "suppress") _ _ (behind _ _ _ one_local_reader t (codes "suppress") (suppress_object t)
    (λ p v. (refl, (h, v))) ws)
    (or (codes "reregister") _ _ (behind _ _ _ one_local_reader t (codes "reregister") (reregister_object t)
    (λ p v. (refl, (h, v))) ws)
    (seldom_spelled t h verb ws)))))))
  where
    or : (k : List ℕ) (x y : Option Instruction) → Spells (Line t k ws) x → Spells (Line t verb ws) y
        → Spells (Line t verb ws) (if bytes_eq verb k then x else y)
    or k x y = either_spelled (λ v. Line t v ws) verb k x y

-- the lines on steps, collections and other threads
rarely_spelled : (t : ℕ) → IsWord t → (verb : List ℕ) (ws : List (List ℕ))
    → Spells (Line t verb ws) (rarely_in t verb ws)
unfolding rarely_in
rarely_spelled t h verb ws =
    or (codes "begin") _ _ (begin_spelled t h ws)
    (or (codes "step") _ _ (alone_spelled (Line t (codes "step")) (finish_step t) refl h ws)
    (or (codes "collect") _ _ (collect_spelled t h ws)
    (or (codes "suspend") _ _ (alone_spelled (Line t (codes "suspend")) (suspend_others t) refl h ws)
    (or (codes "resume") _ _ (alone_spelled (Line t (codes "resume")) (resume_others t) refl h ws)
    (rooted_spelled t h verb ws)))))
  where
    or : (k : List ℕ) (x y : Option Instruction) → Spells (Line t k ws) x → Spells (Line t verb ws) y
        → Spells (Line t verb ws) (if bytes_eq verb k then x else y)
    or k x y = either_spelled (λ v. Line t v ws) verb k x y

-- the lines on objects
verb_spelled : (t : ℕ) → IsWord t → (verb : List ℕ) (ws : List (List ℕ)) → Spells (Line t verb ws) (verb_in t verb ws)
unfolding verb_in
verb_spelled t h verb ws =
    or (codes "get") _ _ (behind _ _ _ load_reader t (codes "get") (λ g. get_slot t g.0 g.1 g.2)
    (λ g v. (refl, (h, v.0, v.1, v.2))) ws)
    (or (codes "set") _ _ (behind _ _ _ store_reader t (codes "set") (λ s. set_slot t s.0 s.1 s.2)
    (λ s v. (refl, (h, v.0, v.1, v.2))) ws)
    (or (codes "put") _ _ (behind _ _ _ number_store_reader t (codes "put") (λ p. put_number t p.0 p.1 p.2)
    (λ p v. (refl, (h, v.0, v.1, v.2))) ws)
    (or (codes "new") _ _ (behind _ _ _ birth_reader t (codes "new") (λ b. new_object t b.0 b.1 b.2)
    (λ b v. (refl, (h, v.0, v.1, v.2))) ws)
    (or (codes "read") _ _ (behind _ _ _ local_and_number_reader t (codes "read") (λ r. read_number t r.0 r.1)
    (λ r v. (refl, (h, v.0, v.1))) ws)
    (or (codes "copy") _ _ (behind _ _ _ locals_reader t (codes "copy") (λ c. copy_local t c.0 c.1)
    (λ c v. (refl, (h, v.0, v.1))) ws)
    (or (codes "null") _ _ (behind _ _ _ one_local_reader t (codes "null") (clear_local t) (λ k v. (refl, (h, v))) ws)
    (rarely_spelled t h verb ws)))))))
  where
    or : (k : List ℕ) (x y : Option Instruction) → Spells (Line t k ws) x → Spells (Line t verb ws) y
        → Spells (Line t verb ws) (if bytes_eq verb k then x else y)
    or k x y = either_spelled (λ v. Line t v ws) verb k x y

-- a line of a thread
threaded_spelled : (t : ℕ) → IsWord t → (ws : List (List ℕ)) → Spells (thread_word t ∷ ws) (threaded_in t ws)
unfolding threaded_in
threaded_spelled t h [] = none_spelled _
threaded_spelled t h (verb ∷ ws) = verb_spelled t h verb ws

-- ---- types

-- a class
class_spelled : (name : List ℕ) → IsTrue (is_name name) → (ws : List (List ℕ))
    → Spells (codes "type" ∷ name ∷ codes "class" ∷ ws) (class_in name ws)
unfolding class_in
class_spelled name h [] = none_spelled _
class_spelled name h (word ∷ more) = λ i e.
    let b = bound (λ pattern. option_map (define_type name (class_form pattern)) (final_in more)) (pattern_in word) i e
    in
    let p = pattern_reader.told word b.value b.was in
    let q = made_spelled final_in _ _ final_reader (λ v. codes "type" ∷ name ∷ codes "class" ∷ pattern_word b.value ∷ v)
    (define_type name (class_form b.value)) (λ final v. (refl, (h, p.1, tt))) more i b.gives in
    (ap (λ (w : List ℕ). codes "type" ∷ name ∷ codes "class" ∷ w ∷ more) p.0 ∙ q.0, q.1)

-- an array of structs
structs_spelled : (name : List ℕ) → IsTrue (is_name name) → (ws : List (List ℕ))
    → Spells (codes "type" ∷ name ∷ codes "structs" ∷ ws) (structs_in name ws)
unfolding structs_in
structs_spelled name h ws i e =
    let b = bound (λ word. option_map (λ pattern. define_type name (structs_form pattern) false) (pattern_in word))
    (one_in ws) i e in
    let m = mapped (λ pattern. define_type name (structs_form pattern) false) (pattern_in b.value) i b.gives in
    let p = pattern_reader.told b.value m.value m.was in
    subst (λ (j : Instruction). (codes "type" ∷ name ∷ codes "structs" ∷ ws ≡ words_of j) × IsWellFormed j) m.gives (
      ap (λ (v : List (List ℕ)). codes "type" ∷ name ∷ codes "structs" ∷ v) (one_told ws b.value b.was)
          ∙ ap (λ (w : List ℕ). codes "type" ∷ name ∷ codes "structs" ∷ w ∷ []) p.0,
      (h, p.1, refl),
    )

-- any shape
shape_spelled : (name : List ℕ) → IsTrue (is_name name) → (word : List ℕ) (ws : List (List ℕ))
    → Spells (codes "type" ∷ name ∷ word ∷ ws) (shape_in name word ws)
unfolding shape_in
shape_spelled name h word ws =
    or (codes "class") _ _ (class_spelled name h ws)
    (or (codes "structs") _ _ (structs_spelled name h ws)
    (or (codes "refs") _ _ (alone_spelled (λ v. codes "type" ∷ name ∷ codes "refs" ∷ v)
    (define_type name references_form false) refl (h, tt, refl) ws)
    (or (codes "bytes") _ _ (alone_spelled (λ v. codes "type" ∷ name ∷ codes "bytes" ∷ v)
    (define_type name bytes_form false) refl (h, tt, refl) ws)
    (none_spelled _))))
  where
    or : (k : List ℕ) (x y : Option Instruction) → Spells (codes "type" ∷ name ∷ k ∷ ws) x
        → Spells (codes "type" ∷ name ∷ word ∷ ws) y
        → Spells (codes "type" ∷ name ∷ word ∷ ws) (if bytes_eq word k then x else y)
    or k x y = either_spelled (λ v. codes "type" ∷ name ∷ v ∷ ws) word k x y

-- a definition of a type
define_spelled : (ws : List (List ℕ)) → Spells (codes "type" ∷ ws) (define_in ws)
unfolding define_in
define_spelled [] = none_spelled _
define_spelled (a ∷ []) = none_spelled _
define_spelled (a ∷ b ∷ more) = λ i e.
    let n = bound (λ name. shape_in name b more) (name_in a) i e in
    let p = name_reader.told a n.value n.was in
    let q = shape_spelled n.value p.1 b more i n.gives in
    (ap (λ (w : List ℕ). codes "type" ∷ w ∷ b ∷ more) p.0 ∙ q.0, q.1)

-- ---- the lines that are no thread's

-- the segments
heaps_spelled : (ws : List (List ℕ)) → Spells (codes "eeheap" ∷ ws) (heaps_in ws)
unfolding heaps_in
heaps_spelled ws i e =
    let b = bound (λ word. if bytes_eq word (codes "-gc") then Some show_segments else None) (one_in ws) i e in
    let q = either_spelled (λ w. codes "eeheap" ∷ w ∷ []) b.value (codes "-gc") (Some show_segments) None
    (value_told words_of IsWellFormed (codes "eeheap" ∷ codes "-gc" ∷ []) show_segments refl tt)
    (none_spelled _) i b.gives in
    (ap (λ (v : List (List ℕ)). codes "eeheap" ∷ v) (one_told ws b.value b.was) ∙ q.0, q.1)

-- steps of a background collection
marking_spelled : (ws : List (List ℕ)) → Spells (codes "background" ∷ ws) (marking_in ws)
unfolding marking_in
marking_spelled [] = none_spelled _
marking_spelled (word ∷ ws) =
    either_spelled (λ v. codes "background" ∷ v ∷ ws) word (codes "step") _ _
    (made_spelled _ _ _ one_number_reader (λ v. codes "background" ∷ codes "step" ∷ v) step_background
    (λ n v. (refl, v)) ws)
    (none_spelled _)

-- an object, and the roots that lead to it
roots_spelled : (ws : List (List ℕ)) → Spells (codes "gcroot" ∷ ws) (roots_in ws)
unfolding roots_in
roots_spelled [] = none_spelled _
roots_spelled (word ∷ ws) =
    either_spelled (λ v. codes "gcroot" ∷ v ∷ ws) word (codes "-all") _ _
    (made_spelled _ _ _ address_after_reader (λ v. codes "gcroot" ∷ codes "-all" ∷ v) (λ a. look_at (GcRoots a))
    (λ a v. (refl, v)) ws)
    (made_spelled _ _ _ address_after_reader (λ v. codes "gcroot" ∷ v) show_root (λ a v. (refl, v)) (word ∷ ws))

-- handles
handles_spelled : (ws : List (List ℕ)) → Spells (codes "gchandles" ∷ ws) (handles_in ws)
unfolding handles_in
handles_spelled [] = value_told words_of IsWellFormed (codes "gchandles" ∷ []) show_handles refl tt
handles_spelled (word ∷ ws) =
    either_spelled (λ v. codes "gchandles" ∷ v ∷ ws) word (codes "-stat") _ _
    (alone_spelled (λ v. codes "gchandles" ∷ codes "-stat" ∷ v) (look_at HandleStat) refl tt ws)
    (either_spelled (λ v. codes "gchandles" ∷ v ∷ ws) word (codes "-type") _ _
    (made_spelled _ _ _ one_kind_reader (λ v. codes "gchandles" ∷ codes "-type" ∷ v) (λ kind. look_at (HandlesOf kind))
    (λ kind v. (refl, tt)) ws)
    (none_spelled _))

-- a line that looks
look_spelled : (word : List ℕ) (ws : List (List ℕ)) → Spells (word ∷ ws) (look_in word ws)
unfolding look_in
look_spelled word ws =
    or (codes "dumparray") _ _ (made_spelled _ _ _ slots_reader (λ v. codes "dumparray" ∷ v)
    (λ s. look_at (DumpArray s.0 s.1 s.2)) (λ s v. (refl, v)) ws)
    (or (codes "dumpmt") _ _ (made_spelled _ _ _ address_after_reader (λ v. codes "dumpmt" ∷ v)
    (λ a. look_at (DumpMt a)) (λ a v. (refl, v)) ws)
    (or (codes "pathto") _ _ (made_spelled _ _ _ addresses_reader (λ v. codes "pathto" ∷ v)
    (λ p. look_at (PathTo p.0 p.1)) (λ p v. (refl, v)) ws)
    (or (codes "retained") _ _ (made_spelled _ _ _ address_after_reader (λ v. codes "retained" ∷ v)
    (λ a. look_at (Retained a)) (λ a v. (refl, v)) ws)
    (or (codes "gcheapstat") _ _ (made_spelled _ _ _ unrooted_reader (λ v. codes "gcheapstat" ∷ v)
    (λ u. look_at (GcHeapStat u)) (λ u v. (refl, v)) ws)
    (or (codes "listnearobj") _ _ (made_spelled _ _ _ address_after_reader (λ v. codes "listnearobj" ∷ v)
    (λ a. look_at (ListNearObj a)) (λ a v. (refl, v)) ws)
    (or (codes "ephrefs") _ _ (alone_spelled (λ v. codes "ephrefs" ∷ v) (look_at EphRefs) refl tt ws)
    (none_spelled _)))))))
  where
    or : (k : List ℕ) (x y : Option Instruction) → Spells (k ∷ ws) x → Spells (word ∷ ws) y
        → Spells (word ∷ ws) (if bytes_eq word k then x else y)
    or k x y = either_spelled (λ v. v ∷ ws) word k x y

-- a line that is no thread's
other_spelled : (word : List ℕ) (ws : List (List ℕ)) → Spells (word ∷ ws) (other_in word ws)
unfolding other_in
other_spelled word ws =
    or (codes "type") _ _ (define_spelled ws)
    (or (codes "gcwhere") _ _ (made_spelled _ _ _ address_after_reader (λ v. codes "gcwhere" ∷ v) where_is
    (λ a v. (refl, v)) ws)
    (or (codes "dumpobj") _ _ (made_spelled _ _ _ address_after_reader (λ v. codes "dumpobj" ∷ v) dump_object
    (λ a v. (refl, v)) ws)
    (or (codes "gcroot") _ _ (roots_spelled ws)
    (or (codes "dumpheap") _ _ (made_spelled _ _ _ options_reader (λ v. codes "dumpheap" ∷ v) dump_heap
    (λ o v. (refl, v)) ws)
    (or (codes "eeheap") _ _ (heaps_spelled ws)
    (or (codes "verifyheap") _ _ (alone_spelled (λ v. codes "verifyheap" ∷ v) verify_heap refl tt ws)
    (or (codes "gchandles") _ _ (handles_spelled ws)
    (or (codes "finalizequeue") _ _ (alone_spelled (λ v. codes "finalizequeue" ∷ v) show_queues refl tt ws)
    (or (codes "objsize") _ _ (made_spelled _ _ _ address_after_reader (λ v. codes "objsize" ∷ v) show_size
    (λ a v. (refl, v)) ws)
    (or (codes "background") _ _ (marking_spelled ws)
    (look_spelled word ws)))))))))))
  where
    or : (k : List ℕ) (x y : Option Instruction) → Spells (k ∷ ws) x → Spells (word ∷ ws) y
        → Spells (word ∷ ws) (if bytes_eq word k then x else y)
    or k x y = either_spelled (λ v. v ∷ ws) word k x y

-- any line
line_spelled : (thread : Option ℕ) (word : List ℕ) (ws : List (List ℕ)) → thread_in word ≡ thread
    → Spells (word ∷ ws) (line_in thread word ws)
line_spelled None word ws e = other_spelled word ws
line_spelled (Some t) word ws e = λ i f.
    let p = thread_reader.told word t e in
    let q = threaded_spelled t p.1 ws i f in
    (ap (λ (w : List ℕ). w ∷ ws) p.0 ∙ q.0, q.1)

-- what is read is spelled by the words, and well-formed
pub instruction_told : (ws : List (List ℕ)) (i : Instruction) → instruction_in ws ≡ Some i
    → (ws ≡ words_of i) × IsWellFormed i
unfolding instruction_in
instruction_told [] i e = absurd cc
instruction_told (word ∷ ws) i e = line_spelled (thread_in word) word ws refl i e

-- ---- each instruction is read from its words

-- a line of a thread is read by its verb
threaded : (t : ℕ) (verb : List ℕ) (ws : List (List ℕ)) (i : Instruction) → IsWord t → verb_in t verb ws ≡ Some i
    → instruction_in (thread_word t ∷ verb ∷ ws) ≡ Some i
unfolding instruction_in threaded_in
threaded t verb ws i h e = rw (thread_reader.found t h) e

-- and another by its first word
unthreaded : (word : List ℕ) (ws : List (List ℕ)) (i : Instruction) → thread_in word ≡ None → other_in word ws ≡ Some i
    → instruction_in (word ∷ ws) ≡ Some i
unfolding instruction_in
unthreaded word ws i h e = rw h e

-- no letter of a thread stands in front of these
unlettered : (b : ℕ) (bytes : List ℕ) → (b == 116) ≡ false → thread_in (b ∷ bytes) ≡ None
unfolding thread_in
unlettered b bytes h = rw h refl

-- `type` is no thread, though it begins with its letter
no_thread : thread_in (codes "type") ≡ None
unfolding thread_in number_in
no_thread = refl

-- a shape is read from its words
shaped : (name : List ℕ) (form : Form) (final : Bool) → IsForm form → IsFinal form final
    → define_in (name ∷ (form_words form ++ final_words final))
    ≡ option_and_then (λ n. Some (define_type n form final)) (name_in name)
unfolding define_in shape_in class_in structs_in
shaped name (class_form pattern) final f g = rw (pattern_reader.found pattern f, final_reader.found final tt) refl
shaped name references_form final f g = rw g refl
shaped name bytes_form final f g = rw g refl
shaped name (structs_form pattern) final f g = rw (g, pattern_reader.found pattern f) refl

-- a line that looks is read from its words
look_found : (look : Look) → IsWellFormed (look_at look) → instruction_in (words_of (look_at look)) ≡ Some (look_at look)
unfolding other_in look_in roots_in handles_in
look_found (DumpArray start count a) v =
    unthreaded (codes "dumparray") _ _ (unlettered _ _ refl)
    (ap (option_map (λ s. look_at (DumpArray s.0 s.1 s.2))) (slots_reader.found (start, count, a) v))
look_found (DumpMt mt) v =
    unthreaded (codes "dumpmt") _ _ (unlettered _ _ refl)
    (ap (option_map (λ a. look_at (DumpMt a))) (address_after_reader.found mt v))
look_found (GcRoots a) v =
    unthreaded (codes "gcroot") _ _ (unlettered _ _ refl)
    (ap (option_map (λ b. look_at (GcRoots b))) (address_after_reader.found a v))
look_found (PathTo a b) v =
    unthreaded (codes "pathto") _ _ (unlettered _ _ refl)
    (ap (option_map (λ p. look_at (PathTo p.0 p.1))) (addresses_reader.found (a, b) v))
look_found (Retained a) v =
    unthreaded (codes "retained") _ _ (unlettered _ _ refl)
    (ap (option_map (λ b. look_at (Retained b))) (address_after_reader.found a v))
look_found (GcHeapStat unrooted) v =
    unthreaded (codes "gcheapstat") _ _ (unlettered _ _ refl)
    (ap (option_map (λ u. look_at (GcHeapStat u))) (unrooted_reader.found unrooted tt))
look_found (ListNearObj a) v =
    unthreaded (codes "listnearobj") _ _ (unlettered _ _ refl)
    (ap (option_map (λ b. look_at (ListNearObj b))) (address_after_reader.found a v))
look_found EphRefs v = unthreaded (codes "ephrefs") _ _ (unlettered _ _ refl) refl
look_found HandleStat v = unthreaded (codes "gchandles") _ _ (unlettered _ _ refl) refl
look_found (HandlesOf kind) v =
    unthreaded (codes "gchandles") _ _ (unlettered _ _ refl)
    (ap (option_map (λ k. look_at (HandlesOf k))) (one_kind_reader.found kind tt))

-- each instruction is read from its words
pub instruction_found : (i : Instruction) → IsWellFormed i → instruction_in (words_of i) ≡ Some i
unfolding verb_in rarely_in rooted_in begin_in collect_in create_in other_in heaps_in seldom_in pinned_in pause_in
    once_in marking_in roots_in handles_in
instruction_found (define_type name form final) v =
    unthreaded (codes "type") _ _ no_thread
    (shaped name form final v.1 v.2
    ∙ ap (option_and_then (λ n. Some (define_type n form final))) (name_reader.found name v.0))
instruction_found (new_object t local name len) v =
    threaded t (codes "new") _ _ v.0
    (ap (option_map (λ b. new_object t b.0 b.1 b.2)) (birth_reader.found (local, name, len) (v.1, v.2, v.3)))
instruction_found (get_slot t to from index) v =
    threaded t (codes "get") _ _ v.0
    (ap (option_map (λ g. get_slot t g.0 g.1 g.2)) (load_reader.found (to, from, index) (v.1, v.2, v.3)))
instruction_found (set_slot t into index from) v =
    threaded t (codes "set") _ _ v.0
    (ap (option_map (λ s. set_slot t s.0 s.1 s.2)) (store_reader.found (into, index, from) (v.1, v.2, v.3)))
instruction_found (put_number t into index value) v =
    threaded t (codes "put") _ _ v.0
    (ap (option_map (λ p. put_number t p.0 p.1 p.2)) (number_store_reader.found (into, index, value) (v.1, v.2, v.3)))
instruction_found (read_number t from index) v =
    threaded t (codes "read") _ _ v.0
    (ap (option_map (λ r. read_number t r.0 r.1)) (local_and_number_reader.found (from, index) (v.1, v.2)))
instruction_found (copy_local t to from) v =
    threaded t (codes "copy") _ _ v.0
    (ap (option_map (λ c. copy_local t c.0 c.1)) (locals_reader.found (to, from) (v.1, v.2)))
instruction_found (clear_local t local) v =
    threaded t (codes "null") _ _ v.0 (ap (option_map (clear_local t)) (one_local_reader.found local v.1))
instruction_found (suppress_object t local) v =
    threaded t (codes "suppress") _ _ v.0 (ap (option_map (suppress_object t)) (one_local_reader.found local v.1))
instruction_found (reregister_object t local) v =
    threaded t (codes "reregister") _ _ v.0 (ap (option_map (reregister_object t)) (one_local_reader.found local v.1))
instruction_found (collect_heap t g how) v =
    threaded t (codes "collect") _ _ v.0
    (rw (generation_reader.found g (how_least g how v.1), (how_reader g (how_least g how v.1)).found how v.1) refl)
instruction_found (suspend_others t) v = threaded t (codes "suspend") _ _ v refl
instruction_found (resume_others t) v = threaded t (codes "resume") _ _ v refl
instruction_found (begin_set t into index from) v =
    threaded t (codes "begin") _ _ v.0
    (ap (option_map (λ s. begin_set t s.0 s.1 s.2)) (store_reader.found (into, index, from) (v.1, v.2, v.3)))
instruction_found (begin_new t local name len) v =
    threaded t (codes "begin") _ _ v.0
    (ap (option_map (λ b. begin_new t b.0 b.1 b.2)) (birth_reader.found (local, name, len) (v.1, v.2, v.3)))
instruction_found (finish_step t) v = threaded t (codes "step") _ _ v refl
instruction_found (create_handle t kind local second) v =
    threaded t (codes "handle") _ _ v.0
    (rw (kind_reader.found kind tt, local_reader.found local v.1, (second_reader kind).found second v.2) refl)
instruction_found (fetch_target t to h) v =
    threaded t (codes "fetch") _ _ v.0
    (ap (option_map (λ p. fetch_target t p.0 p.1)) (local_and_handle_reader.found (to, h) (v.1, v.2)))
instruction_found (fetch_second t to h) v =
    threaded t (codes "second") _ _ v.0
    (ap (option_map (λ p. fetch_second t p.0 p.1)) (local_and_handle_reader.found (to, h) (v.1, v.2)))
instruction_found (free_handle t h) v =
    threaded t (codes "free") _ _ v.0 (ap (option_map (free_handle t)) (one_handle_reader.found h v.1))
instruction_found (take_ready t to) v =
    threaded t (codes "finalizer") _ _ v.0 (ap (option_map (take_ready t)) (one_local_reader.found to v.1))
instruction_found (compact_large_once t) v = threaded t (codes "compact-large") _ _ v refl
instruction_found (new_pinned t local name len) v =
    threaded t (codes "new-pinned") _ _ v.0
    (rw (local_reader.found local v.1, name_reader.found name v.2, one_number_reader.found len v.3) refl)
instruction_found (begin_background t) v = threaded t (codes "background") _ _ v refl
instruction_found (step_background n) v =
    unthreaded (codes "background") _ _ (unlettered _ _ refl)
    (ap (option_map step_background) (one_number_reader.found n v))
instruction_found (end_background t) v = threaded t (codes "background") _ _ v refl
instruction_found (dump_heap options) v =
    unthreaded (codes "dumpheap") _ _ (unlettered _ _ refl) (ap (option_map dump_heap) (options_reader.found options v))
instruction_found (dump_object a) v =
    unthreaded (codes "dumpobj") _ _ (unlettered _ _ refl)
    (ap (option_map dump_object) (address_after_reader.found a v))
instruction_found (show_root a) v =
    unthreaded (codes "gcroot") _ _ (unlettered _ _ refl)
    (rw (no_hex_word a (codes "-all") refl) (ap (option_map show_root) (address_after_reader.found a v)))
instruction_found show_segments v = unthreaded (codes "eeheap") _ _ (unlettered _ _ refl) refl
instruction_found verify_heap v = unthreaded (codes "verifyheap") _ _ (unlettered _ _ refl) refl
instruction_found show_handles v = unthreaded (codes "gchandles") _ _ (unlettered _ _ refl) refl
instruction_found show_queues v = unthreaded (codes "finalizequeue") _ _ (unlettered _ _ refl) refl
instruction_found (where_is a) v =
    unthreaded (codes "gcwhere") _ _ (unlettered _ _ refl) (ap (option_map where_is) (address_after_reader.found a v))
instruction_found (show_size a) v =
    unthreaded (codes "objsize") _ _ (unlettered _ _ refl) (ap (option_map show_size) (address_after_reader.found a v))
instruction_found (look_at look) v = look_found look v
