-- Lines that make, follow and free handles: what is to follow from each refusal and from each success, on what is seen.
use Rattle.std.proofs.Common.{◌≡◌, ◌≢◌, ℕ, ◌<◌, ◌≤◌, List, [], ◌∷◌, refl, sym, ap, ◌∙◌, Bool, true, false, not}
use Rattle.std.proofs.Common.{◌&&◌, ◌==◌, nat_le, Option, Some, None, inl, inr, eq-eqb, ne_eqb}
use Rattle.std.specs.FinMap as finmap
use Rattle.std.proofs.lemmas.Bool.{lt-leb, le-leb}
use Rattle.clr_types.specs.declared.handle.Handle.{Handle}
use Rattle.clr_types.specs.declared.handle.Kind.{Kind}
use Rattle.clr_model.specs.declared.Refusal.{Refusal}
use Rattle.clr_model.specs.declared.Refusal.TheVariants.{Null, NoHandle, HandleKind, TooManyHandles, NoMemory}
use Rattle.clr_model.specs.declared.Reply.TheVariants.{Place, Done, HandleNumber}
use Rattle.clr_model.specs.Machine.{Machine}
use Rattle.clr_model.specs.Lookups.{local_of, place_of}
use Rattle.clr_types.specs.Kinds.{is_dependent}
use Rattle.clr_model.specs.Updates.{with_local, with_handle, without_handle}
use Rattle.clr_model.specs.Instructions.{create_handle, fetch_target, fetch_second, free_handle}
use Rattle.clr_model.specs.LineGrammar.{IsHandleForm}
use Rattle.clr_model.specs.Checks.{first_of_all, list_of, refuse_if}
use Rattle.clr_model.specs.Outcomes.{answered, refused}
use Rattle.clr_model.specs.Step.{row_of, target_of, second_of}
use Rattle.clr_model.specs.Lawful.{IsPlaceNamed}
use Rattle.clr_model.specs.Run.{Follows}
use Rattle.clr_model.proofs.Carried.{follows_if_stands}
use Rattle.clr_model.proofs.HandleLines.{handle_more, handle_checks, create_more, create_checks, create_line}
use Rattle.clr_model.proofs.HandleLines.{create_alike, fetch_line, fetch_alike, second_line, second_alike, free_line}
use Rattle.clr_model.proofs.HandleLines.{free_alike}
use Rattle.clr_model.proofs.HandleTables.{value_at}
use Rattle.clr_model.proofs.LineChecks.{MayRun, AreLocals}
use Rattle.clr_model.proofs.LineFollows.{ThreadLine, line_follows_check, line_follows_done}
use Rattle.clr_model.proofs.RootsChanged.{RowIsPresent}
use Rattle.clr_model.proofs.SeenSound.{seen_sound, place_of-seen}

-- ---- lines that name a handle

abbrev pub fetch_of : (t to h : ℕ) → ThreadLine
fetch_of t to h = record {
  instruction = fetch_target t to h;
  thread = t;
  locals = to ∷ [];
  more = handle_more h false;
  line = fetch_line t to h;
  alike = fetch_alike t to h;
}

abbrev pub second_from : (t to h : ℕ) → ThreadLine
second_from t to h = record {
  instruction = fetch_second t to h;
  thread = t;
  locals = to ∷ [];
  more = handle_more h true;
  line = second_line t to h;
  alike = second_alike t to h;
}

abbrev pub free_of : (t h : ℕ) → ThreadLine
free_of t h = record {
  instruction = free_handle t h;
  thread = t;
  locals = [];
  more = handle_more h false;
  line = free_line t h;
  alike = free_alike t h;
}

-- a handle that is not in use
pub handle_follows_missing : (s : Machine) (l : ThreadLine) (h : ℕ) (wants : Bool) → l.more ≡ handle_more h wants
    → MayRun s l.thread → AreLocals l.locals → finmap.get s.handles h ≡ None
    → Follows s l.instruction (refused NoHandle) s
handle_follows_missing s l h wants is run all missing =
    line_follows_check s l run all NoHandle
    (ap (λ (more : Machine → _). first_of_all (more s)) is ∙ ap (λ r. first_of_all (handle_checks r wants)) missing)

-- the checks where there is a handle and a dependent one is wanted
abbrev kind_checks : Bool → List (Option Refusal)
kind_checks is_dependent =
    None ∷ None ∷ None ∷ None ∷ refuse_if (not is_dependent) HandleKind ∷ None ∷ None ∷ None ∷ None ∷ []

-- what a row names is its own place
module _ (s : Machine) (sound : IsPlaceNamed s) (h : ℕ) (row : Handle) (found : finmap.get s.handles h ≡ Some row) where
  there : RowIsPresent s row
  there = value_at (RowIsPresent s) s.handles sound.lawful.names.handles h row found

  target-place : place_of s.objects row.target ≡ row.target
  target-place = place_of-seen s sound row.target there.0

  second-place : place_of s.objects row.second ≡ row.second
  second-place = place_of-seen s sound row.second there.1

module _ (s : Machine) (t : ℕ) (run : MayRun s t) where
  module _ (to : ℕ) (low : to < 64) (h : ℕ) (row : Handle) (found : finmap.get s.handles h ≡ Some row) where
    -- what the handle names goes into a local, and is the answer
    pub fetch_done : Follows s (fetch_target t to h) (answered (Place row.target)) (with_local s t to row.target)
    fetch_done =
        follows_if_stands s (fetch_target t to h) _ _
        (λ m stands.
        let target = target-place s (seen_sound s m stands) h row found in
        line_follows_done s (fetch_of t to h) run (low, tt) (ap (λ r. first_of_all (handle_checks r false)) found) _ _ (
          ap (λ n. answered (Place n)) (sym (ap (λ r. place_of s.objects (target_of r)) found ∙ target)),
          ap (λ r. with_local s t to (target_of r)) (sym found),
        ))

    -- a handle that is not a dependent one has no second
    pub second_follows_kind : is_dependent row.kind ≡ false → Follows s (fetch_second t to h) (refused HandleKind) s
    second_follows_kind plain =
        line_follows_check s (second_from t to h) run (low, tt) HandleKind
        (ap (λ r. first_of_all (handle_checks r true)) found ∙ ap (λ b. first_of_all (kind_checks b)) plain)

    -- the second that a dependent handle names goes into a local, and is the answer
    pub second_done : is_dependent row.kind ≡ true
        → Follows s (fetch_second t to h) (answered (Place row.second)) (with_local s t to row.second)
    second_done dependent =
        follows_if_stands s (fetch_second t to h) _ _
        (λ m stands.
        let second = second-place s (seen_sound s m stands) h row found in
        line_follows_done s (second_from t to h) run (low, tt)
        (ap (λ r. first_of_all (handle_checks r true)) found ∙ ap (λ b. first_of_all (kind_checks b)) dependent) _ _ (
          ap (λ n. answered (Place n)) (sym (ap (λ r. place_of s.objects (second_of r)) found ∙ second)),
          ap (λ r. with_local s t to (second_of r)) (sym found),
        ))

  -- a handle in use is freed
  pub free_done : (h : ℕ) (row : Handle) → finmap.get s.handles h ≡ Some row
      → Follows s (free_handle t h) (answered Done) (without_handle s h)
  free_done h row found =
      line_follows_done s (free_of t h) run tt (ap (λ r. first_of_all (handle_checks r false)) found) _ _ (refl, refl)

-- ---- the line that makes a handle

abbrev pub create_of : (t : ℕ) (kind : Kind) (local : ℕ) (second : Option ℕ) → IsHandleForm kind second → ThreadLine
create_of t kind local second form = record {
  instruction = create_handle t kind local second;
  thread = t;
  locals = local ∷ list_of second;
  more = create_more t kind local;
  line = create_line t kind local second;
  alike = create_alike t kind local second form;
}

module _ (s : Machine) (t : ℕ) (kind : Kind) (local : ℕ) (second : Option ℕ) (form : IsHandleForm kind second)
    (run : MayRun s t) (all : AreLocals (local ∷ list_of second)) where
  abbrev l : ThreadLine
  l = create_of t kind local second form

  by_checks : (is_null full : Bool) → (is_dependent kind && (local_of s t local == 0)) ≡ is_null
      → nat_le 65536 (finmap.len s.handles) ≡ full
      → first_of_all (create_more t kind local s) ≡ first_of_all (create_checks is_null full)
  by_checks is_null full a b = λ i. first_of_all (create_checks (a i) (b i))

  -- null, of which there is no dependent handle
  pub create_follows_null : is_dependent kind ≡ true → local_of s t local ≡ 0
      → Follows s (create_handle t kind local second) (refused Null) s
  create_follows_null dependent null =
      line_follows_check s l run all Null
      (by_checks true (nat_le 65536 (finmap.len s.handles))
      ((λ i. dependent i && (local_of s t local == 0)) ∙ eq-eqb (local_of s t local) 0 null) refl)

  module _ (some : is_dependent kind ≡ true → local_of s t local ≢ 0) where
    not_null : (is_dependent kind && (local_of s t local == 0)) ≡ false
    not_null = go (is_dependent kind) refl
      where
        go : (b : Bool) → is_dependent kind ≡ b → (b && (local_of s t local == 0)) ≡ false
        go true e = ne_eqb (local_of s t local) 0 (some e)
        go false e = refl

    -- there is no number for one more
    pub create_follows_full : 65536 ≤ finmap.len s.handles
        → Follows s (create_handle t kind local second) (refused TooManyHandles) s
    create_follows_full full =
        line_follows_check s l run all TooManyHandles
        (by_checks false true not_null (le-leb 65536 (finmap.len s.handles) full))

    module _ (few : finmap.len s.handles < 65536) where
      passes : first_of_all (create_more t kind local s) ≡ None
      passes = by_checks false false not_null (lt-leb 65536 (finmap.len s.handles) few)

      -- no memory for it
      pub create_follows_memory : Follows s (create_handle t kind local second) (refused NoMemory) s
      create_follows_memory = line_follows_done s l run all passes _ _ (inr (refl, refl))

      -- the handle gets a number that is free, which is the answer
      pub create_done : (h : ℕ) → h < 65536 → finmap.get s.handles h ≡ None
          → Follows s (create_handle t kind local second) (answered (HandleNumber h))
          (with_handle s h (row_of s t kind local second))
      create_done h low free = line_follows_done s l run all passes _ _ (inl (h, low, free, (refl, refl)))
