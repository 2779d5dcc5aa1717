-- What a line that shows the heap does, from what the command over what is seen promises.
use Rattle.std.proofs.Common.{◌≡◌, ◌≢◌, ◌≤◌, ℕ, Bool, List, [], ◌∷◌, Option, Some, None, Result, Ok, Err, Vec, Global}
use Rattle.std.proofs.Common.{refl, sym, ap, subst, ◌∙◌, inl, inr, true, false}
use Rattle.std.specs.Prelude.{◌↔◌, IfOk, IfSome}
use Rattle.clr_model.specs.declared.Refusal.{Refusal}
use Rattle.clr_model.specs.declared.Refusal.TheVariants as refusal
use Rattle.clr_model.specs.declared.Reply.TheVariants as reply
use Rattle.clr_model.specs.declared.Where.{Where}
use Rattle.clr_model.specs.declared.command.Filter.{Filter}
use Rattle.clr_model.specs.Machine.{Machine}
use Rattle.clr_model.specs.Lookups.{object_at}
use Rattle.clr_model.specs.Picture.{picture}
use Rattle.clr_model.specs.Reach.{Live}
use Rattle.clr_model.specs.Instructions.{Instruction, dump_heap, dump_object, options_of, show_handles, show_queues}
use Rattle.clr_model.specs.Instructions.{show_root, show_segments, verify_heap, where_is}
use Rattle.clr_model.specs.Checks.{refusal as first_refusal, first_of_all, refuse_if, unknown_type}
use Rattle.clr_model.specs.Outcomes.{Outcome, answered, refused, shown}
use Rattle.clr_model.specs.Sos.{dumpheap_text, dumpobj_text, eeheap_text, finalizequeue_text, gchandles_text}
use Rattle.clr_model.specs.Sos.{where_of}
use Rattle.clr_model.specs.Step.{Does, Shows, ShowsRoot, TestsLife}
use Rattle.clr_model.specs.Run.{Follows, StandsFor}
use Rattle.clr_model.proofs.AliveTests.{alive}
use Rattle.clr_model.proofs.Carried.{follows}
use Rattle.clr_model.proofs.LineChecks.{obeys_done, obeys_refusal}
use Rattle.clr_sos.specs.declared.fault.SosFault.{SosFault}
use Rattle.clr_sos.specs.declared.fault.SosFault.TheVariants as fault
use Rattle.clr_sos.specs.RootTexts.{TellsRoot}
use Rattle.clr_sos.specs.Wants.{is_unknown}
use Rattle.clr_lines.specs.Outcomes.{found_outcome, text_outcome, where_outcome}
use Rattle.clr_lines.proofs.LookChecks.{absent_follows, IsPlaceLine, object_line, present_follows, root_line}
use Rattle.clr_lines.proofs.LookChecks.{tests_life}
use Rattle.clr_lines.proofs.LookChecks.{where_kind, where_line}

-- A command promises of each machine that is seen so what it shows of it. The machine that is seen is one of these.
module _ (Sees : Machine → Type 0) (old : Machine) (sees : Sees old) where
  -- ---- texts that need no object

  -- the line shows this text of a picture, and nothing refuses it
  abbrev IsTextLine : Instruction → (Machine → List ℕ) → Type 0
  IsTextLine i text =
      (m : Machine) → (first_refusal m i ≡ None)
      × ((outcome : Outcome) (new : Machine) → Shows m (text (picture m)) outcome new → Does m i outcome new)

  text_follows : {E : Type 0} (i : Instruction) (text : Machine → List ℕ) → IsTextLine i text
      → (told : Result (Vec ℕ Global) E) → IfOk told (λ shown. (m : Machine) → Sees m → shown.items ≡ text m)
      → Follows old i (text_outcome told) old
  text_follows i text does (Ok bytes) is = follows old i _ _ (λ m stands. (
    m,
    obeys_done m i _ _ (does m).0 ((does m).1 _ _ (inl (ap shown (is old sees ∙ ap text (sym stands.seen_is)), refl))),
    stands,
  ))
  text_follows i text does (Err none) is = follows old i _ _ (λ m stands. (
    m,
    obeys_done m i _ _ (does m).0 ((does m).1 _ _ (inr (refl, refl))),
    stands,
  ))

  pub segments_follow : {E : Type 0} (told : Result (Vec ℕ Global) E)
      → IfOk told (λ shown. (m : Machine) → Sees m → shown.items ≡ eeheap_text m)
      → Follows old show_segments (text_outcome told) old
  segments_follow = text_follows show_segments eeheap_text (λ m. (refl, λ outcome new shows. shows))

  pub handles_follow : {E : Type 0} (told : Result (Vec ℕ Global) E)
      → IfOk told (λ shown. (m : Machine) → Sees m → shown.items ≡ gchandles_text m)
      → Follows old show_handles (text_outcome told) old
  handles_follow = text_follows show_handles gchandles_text (λ m. (refl, λ outcome new shows. shows))

  pub queues_follow : {E : Type 0} (told : Result (Vec ℕ Global) E)
      → IfOk told (λ shown. (m : Machine) → Sees m → shown.items ≡ finalizequeue_text m)
      → Follows old show_queues (text_outcome told) old
  queues_follow = text_follows show_queues finalizequeue_text (λ m. (refl, λ outcome new shows. shows))

  -- ---- texts of one object

  -- what is told is a fault just where no object has the place, and the types play no part in that
  abbrev pub FindsObject : {X : Type 0} → Result X SosFault → ℕ → Type 0
  FindsObject told a =
      ((m : Machine) → Sees m → (told ≡ Err fault.NoObject) ↔ (object_at m.objects a ≡ None))
      × (told ≢ Err fault.UnknownType)

  pub found_follows : (i : Instruction) (a : ℕ) → IsPlaceLine i a → (told : Result (Vec ℕ Global) SosFault)
      → FindsObject told a
      → IfOk told (λ text. (m : Machine) → StandsFor old m → Does m i (shown text.items) m)
      → ((m : Machine) → Does m i (refused refusal.NoMemory) m) → Follows old i (found_outcome told) old
  found_follows i a checks (Ok text) finds shows lacks =
      present_follows i a checks old _ (λ none. let e = (finds.0 old sees).1 none in cc) shows
  found_follows i a checks (Err fault.NoObject) finds shows lacks =
      absent_follows i a checks old ((finds.0 old sees).0 refl)
  found_follows i a checks (Err fault.UnknownType) finds shows lacks = absurd (finds.1 refl)
  found_follows i a checks (Err fault.NoMemory) finds shows lacks =
      present_follows i a checks old _ (λ none. let e = (finds.0 old sees).1 none in cc) (λ m stands. lacks m)

  pub object_follows : (a : ℕ) (told : Result (Vec ℕ Global) SosFault) → FindsObject told a
      → IfOk told (λ text. (m : Machine) → Sees m → text.items ≡ dumpobj_text m a)
      → Follows old (dump_object a) (found_outcome told) old
  object_follows a told finds is =
      found_follows (dump_object a) a (object_line a) told finds (shows told is) (λ m. inr (refl, refl))
    where
      shows : (told : Result (Vec ℕ Global) SosFault)
          → IfOk told (λ text. (m : Machine) → Sees m → text.items ≡ dumpobj_text m a)
          → IfOk told (λ text. (m : Machine) → StandsFor old m → Does m (dump_object a) (shown text.items) m)
      shows (Ok text) is = λ m stands.
          inl (ap shown (is old sees ∙ ap (λ (s : Machine). dumpobj_text s a) (sym stands.seen_is)), refl)
      shows (Err fault) is = is

  pub root_follows : (a : ℕ) (told : Result (Vec ℕ Global) SosFault) → FindsObject told a
      → IfOk told (λ text. (m : Machine) → Sees m → TellsRoot m a text.items)
      → Follows old (show_root a) (found_outcome told) old
  root_follows a told finds is =
      found_follows (show_root a) a (root_line a) told finds (shows told is) (λ m. inr (inr (refl, refl)))
    where
      by_case : (m : Machine) (text : List ℕ) → TellsRoot (picture m) a text → ShowsRoot m a (shown text) m
      by_case m text (inl root) = inl (text, root, refl, refl)
      by_case m text (inr dead) = inr (inl (dead.0, ap shown dead.1, refl))

      shows : (told : Result (Vec ℕ Global) SosFault)
          → IfOk told (λ text. (m : Machine) → Sees m → TellsRoot m a text.items)
          → IfOk told (λ text. (m : Machine) → StandsFor old m → Does m (show_root a) (shown text.items) m)
      shows (Ok text) is = λ m stands.
          by_case m text.items
          (subst (λ (s : Machine). TellsRoot s a text.items) (sym stands.seen_is) (is old sees))
      shows (Err fault) is = is

  -- ---- where an object stands

  pub where_follows : (a : ℕ) (told : Option Where)
      → IfSome told (λ found. (m : Machine) → Sees m → found ≡ where_of m a)
      → ((m : Machine) → Sees m → (told ≡ None) ↔ (object_at m.objects a ≡ None))
      → Follows old (where_is a) (where_outcome told) old
  where_follows a None is finds = absent_follows (where_is a) a (where_line a) old ((finds old sees).0 refl)
  where_follows a (Some found) is finds =
      present_follows (where_is a) a (where_line a) old _ (λ none. let e = (finds old sees).1 none in cc)
      (λ m stands. (
        ap (λ (w : Where). answered (reply.Where w))
            (is old sees ∙ ap (λ (s : Machine). where_of s a) (sym stands.seen_is)),
        refl,
      ))

  -- its segment has a kind
  pub found_kind : (a : ℕ) (told : Option Where)
      → IfSome told (λ found. (m : Machine) → Sees m → found ≡ where_of m a)
      → IfSome told (λ found. found.kind ≤ 3)
  found_kind a None is = is
  found_kind a (Some found) is =
      subst (λ (w : Where). w.kind ≤ 3) (sym (is old sees)) (where_kind old a)

  -- ---- the listing

  pub listing_follows : (f : Filter) (told : Result (Vec ℕ Global) SosFault)
      → ((m : Machine) → Sees m → (told ≡ Err fault.UnknownType)
      ↔ (unknown_type m (dump_heap (options_of f)) ≡ Some refusal.UnknownType))
      → (told ≡ Err fault.NoObject → ⊥)
      → IfOk told (λ text. (m : Machine) → Sees m → (live : ℕ → Bool) → TestsLife f.life live (Live m)
      → text.items ≡ dumpheap_text m live (options_of f))
      → Follows old (dump_heap (options_of f)) (found_outcome told) old
  listing_follows f told unknown known is = go told unknown known is
    where
      i : Instruction
      i = dump_heap (options_of f)

      -- the checks behind that of the types
      none_else : List (Option Refusal)
      none_else =
          None ∷ None ∷ None ∷ None ∷ None ∷ None ∷ None ∷ None ∷ None ∷ None ∷ None ∷ None ∷ None ∷ None ∷ []

      only : (r : Option Refusal) → first_of_all (r ∷ none_else) ≡ r
      only None = refl
      only (Some q) = refl

      checked : (m : Machine) → StandsFor old m → (r : Option Refusal) → unknown_type old i ≡ r
          → first_refusal m i ≡ r
      checked m stands r e =
          ap (λ c. first_of_all (c ∷ none_else)) (ap (λ (s : Machine). unknown_type s i) stands.seen_is ∙ e) ∙ only r

      passes : (absent : Bool) → refuse_if absent refusal.UnknownType ≢ Some refusal.UnknownType
          → refuse_if absent refusal.UnknownType ≡ None
      passes false other = refl
      passes true other = absurd (other refl)

      done : (outcome : Outcome) → unknown_type old i ≢ Some refusal.UnknownType
          → ((m : Machine) → StandsFor old m → Does m i outcome m) → Follows old i outcome old
      done outcome other does = follows old i _ _ (λ m stands. (
        m,
        obeys_done m i _ _ (checked m stands None (passes (is_unknown old.types (options_of f)) other)) (does m stands),
        stands,
      ))

      go : (told : Result (Vec ℕ Global) SosFault)
          → ((m : Machine) → Sees m → (told ≡ Err fault.UnknownType) ↔ (unknown_type m i ≡ Some refusal.UnknownType))
          → (told ≡ Err fault.NoObject → ⊥)
          → IfOk told (λ text. (m : Machine) → Sees m → (live : ℕ → Bool) → TestsLife f.life live (Live m)
          → text.items ≡ dumpheap_text m live (options_of f))
          → Follows old i (found_outcome told) old
      go (Ok text) unknown known is =
          done _ (λ e. let same = (unknown old sees).1 e in cc) (λ m stands. inl (
            alive (picture m) 2,
            tests_life f.life (picture m),
            ap shown (subst
                (λ (s : Machine). text.items ≡ dumpheap_text s (alive s 2) (options_of f)) (sym stands.seen_is)
                (is old sees (alive old 2) (tests_life f.life old))),
            refl,
          ))
      go (Err fault.UnknownType) unknown known is = follows old i _ _ (λ m stands. (
        m,
        obeys_refusal m i refusal.UnknownType (checked m stands _ ((unknown old sees).0 refl)),
        stands,
      ))
      go (Err fault.NoObject) unknown known is = absurd (known refl)
      go (Err fault.NoMemory) unknown known is =
          done _ (λ e. let same = (unknown old sees).1 e in cc) (λ m stands. inr (refl, refl))

-- ---- the check of the heap

-- it finds no fault
pub clean_follows : (old : Machine) → Follows old verify_heap (answered reply.Clean) old
clean_follows old =
    follows old verify_heap _ _ (λ m stands. (m, obeys_done m verify_heap _ _ refl (refl, refl), stands))
