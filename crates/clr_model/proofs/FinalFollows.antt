-- Lines on finalisation: what is to follow from each refusal and from each success, on what is seen.
use Rattle.std.proofs.Common.{◌≡◌, ◌≢◌, ℕ, ◌<◌, List, [], ◌∷◌, length, refl, sym, ap, subst, ◌∙◌, arith, Bool, true}
use Rattle.std.proofs.Common.{false, if◌then◌else◌, ◌==◌, None, inl, inr, eq-eqb, ne_eqb}
use Rattle.std.specs.List.{AllByRecursion}
use Rattle.clr_model.specs.declared.Refusal.TheVariants.{Null, Empty, NoMemory}
use Rattle.clr_model.specs.declared.Reply.TheVariants.{Place, Done}
use Rattle.clr_model.specs.Machine.{Machine}
use Rattle.clr_model.specs.Lookups.{local_of, object_has_finalizer, place_of}
use Rattle.clr_model.specs.Reach.{is_suppressed}
use Rattle.clr_model.specs.Updates.{with_local, with_flag, with_entry}
use Rattle.clr_model.specs.Instructions.{suppress_object, reregister_object, take_ready}
use Rattle.clr_model.specs.Checks.{first_of_all}
use Rattle.clr_model.specs.Outcomes.{Outcome, answered, refused}
use Rattle.clr_model.specs.Step.{head_or_null, tail_of}
use Rattle.clr_model.specs.Lawful.{IsPresent}
use Rattle.clr_model.specs.Run.{Follows}
use Rattle.clr_model.proofs.Carried.{follows_if_stands}
use Rattle.clr_model.proofs.FinalLines.{object_more, object_checks, suppress_line, suppress_alike, reregister_line}
use Rattle.clr_model.proofs.FinalLines.{reregister_alike, reregisters_by, take_more, take_checks, take_line, take_alike}
use Rattle.clr_model.proofs.LineChecks.{MayRun, AreLocals}
use Rattle.clr_model.proofs.LineFollows.{ThreadLine, line_follows_check, line_follows_done}
use Rattle.clr_model.proofs.SeenSound.{seen_sound, place_of-seen}

-- ---- lines that work on the object of a local

abbrev pub suppress_of : (t local : ℕ) → ThreadLine
suppress_of t local = record {
  instruction = suppress_object t local;
  thread = t;
  locals = local ∷ [];
  more = object_more t local;
  line = suppress_line t local;
  alike = suppress_alike t local;
}

abbrev pub reregister_of : (t local : ℕ) → ThreadLine
reregister_of t local = record {
  instruction = reregister_object t local;
  thread = t;
  locals = local ∷ [];
  more = object_more t local;
  line = reregister_line t local;
  alike = reregister_alike t local;
}

-- a local that is null
pub object_follows_null : (s : Machine) (l : ThreadLine) (local : ℕ) → l.more ≡ object_more l.thread local
    → MayRun s l.thread → AreLocals l.locals → local_of s l.thread local ≡ 0 → Follows s l.instruction (refused Null) s
object_follows_null s l local is run all null =
    line_follows_check s l run all Null
    (ap (λ (more : Machine → _). first_of_all (more s)) is
    ∙ ap (λ b. first_of_all (object_checks b)) (eq-eqb (local_of s l.thread local) 0 null))

module _ (s : Machine) (t : ℕ) (run : MayRun s t) (local : ℕ) (low : local < 64) (some : local_of s t local ≢ 0) where
  abbrev place : ℕ
  place = local_of s t local

  passes : first_of_all (object_more t local s) ≡ None
  passes = ap (λ b. first_of_all (object_checks b)) (ne_eqb (local_of s t local) 0 some)

  -- the finaliser is suppressed, if there is one
  pub suppress_done : (final : Bool) → object_has_finalizer s (local_of s t local) ≡ final
      → Follows s (suppress_object t local) (answered Done)
      (if final then with_flag s (local_of s t local) true else s)
  suppress_done final is =
      line_follows_done s (suppress_of t local) run (low, tt) passes _ _
      (refl, ap (λ b. if b then with_flag s place true else s) (sym is))

  reregister_by : (final suppressed : Bool) → object_has_finalizer s place ≡ final → is_suppressed s place ≡ suppressed
      → (outcome : Outcome) (after : Machine) → reregisters_by s place outcome after final suppressed
      → Follows s (reregister_object t local) outcome after
  reregister_by final suppressed is flag outcome after does =
      line_follows_done s (reregister_of t local) run (low, tt) passes outcome after
      (subst (λ (D : Type 0). D) (λ i. reregisters_by s place outcome after (sym is i) (sym flag i)) does)

  -- an object without finaliser stays as it is
  pub reregister_done_plain : object_has_finalizer s (local_of s t local) ≡ false
      → Follows s (reregister_object t local) (answered Done) s
  reregister_done_plain plain = reregister_by false (is_suppressed s place) plain refl _ _ (refl, refl)

  module _ (final : object_has_finalizer s (local_of s t local) ≡ true) where
    -- a finaliser that is suppressed isn't any more
    pub reregister_done_flag : is_suppressed s (local_of s t local) ≡ true
        → Follows s (reregister_object t local) (answered Done) (with_flag s (local_of s t local) false)
    reregister_done_flag flag = reregister_by true true final flag _ _ (refl, refl)

    -- and another one gets an entry more
    pub reregister_done_entry : is_suppressed s (local_of s t local) ≡ false
        → Follows s (reregister_object t local) (answered Done) (with_entry s (local_of s t local))
    reregister_done_entry flag = reregister_by true false final flag _ _ (inl (refl, refl))

    -- for which there is no memory
    pub reregister_follows_memory : is_suppressed s (local_of s t local) ≡ false
        → Follows s (reregister_object t local) (refused NoMemory) s
    reregister_follows_memory flag = reregister_by true false final flag _ _ (inr (refl, refl))

-- ---- taken from the f-reachable queue

abbrev pub take_of : (t to : ℕ) → ThreadLine
take_of t to = record {
  instruction = take_ready t to;
  thread = t;
  locals = to ∷ [];
  more = take_more;
  line = take_line t to;
  alike = take_alike t to;
}

module _ (s : Machine) (t : ℕ) (run : MayRun s t) (to : ℕ) (low : to < 64) where
  -- nothing waits there
  pub take_follows_empty : s.ready ≡ [] → Follows s (take_ready t to) (refused Empty) s
  take_follows_empty none =
      line_follows_check s (take_of t to) run (low, tt) Empty
      (ap (λ (names : List ℕ). first_of_all (take_checks (length names == 0))) none)

  -- the first that waits goes into a local, and is the answer
  pub take_done : (x : ℕ) (xs : List ℕ) → s.ready ≡ x ∷ xs
      → Follows s (take_ready t to) (answered (Place x)) (record (with_local s t to x) { ready = xs })
  take_done x xs waits =
      follows_if_stands s (take_ready t to) _ _
      (λ m stands.
      let sound = seen_sound s m stands in
      let there = subst (AllByRecursion (IsPresent s)) waits sound.lawful.names.ready in
      let some : (length s.ready == 0) ≡ false =
      ap (λ (names : List ℕ). length names == 0) waits ∙ ne_eqb (length (x ∷ xs)) 0 (λ e. omega arith) in
      line_follows_done s (take_of t to) run (low, tt) (ap (λ b. first_of_all (take_checks b)) some) _ _ (
        ap (λ n. answered (Place n))
            (sym (ap (λ names. place_of s.objects (head_or_null names)) waits ∙ place_of-seen s sound x (inr there.0))),
        ap (λ names. record (with_local s t to (head_or_null names)) { ready = tail_of names }) (sym waits),
      ))
