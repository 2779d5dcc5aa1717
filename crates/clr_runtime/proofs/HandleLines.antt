-- The lines that make, follow and free handles, on what is seen.
use Rattle.std.proofs.Common.{◌≡◌, ◌≢◌, ℕ, ◌<◌, ◌≤◌, ◌↔◌, [], ◌∷◌, refl, sym, ap, subst, ◌∙◌, slice_set, inl, inr}
use Rattle.std.proofs.Common.{true, false, Option, Some, None, unwrap_or}
use Rattle.std.specs.Prelude.{Result, Ok, Err, IfOk, OnErr}
use Rattle.std.specs.FinMap as finmap
use Rattle.std.specs.FinMap.{FinMap}
use Rattle.std.specs.Ordering.{nat_cmp}
use Rattle.std.proofs.lemmas.Bool.{cases_eq, cases_lt}
use Rattle.clr_types.specs.declared.handle.Handle.{Handle}
use Rattle.clr_types.specs.declared.handle.Kind.{Kind}
use Rattle.clr_types.proofs.MapValues.{map_values-same}
use Rattle.clr_handles.specs.declared.fault.CreateFault.{CreateFault}
use Rattle.clr_handles.specs.declared.fault.CreateFault.TheVariants as fault
use Rattle.clr_handles.proofs.Lookups.{get-remove_other, get-removed}
use Rattle.clr_safe.specs.Threads.{Threads}
use Rattle.clr_runtime.specs.Shown.{Ahead, shown}
use Rattle.clr_view.specs.World.{World}
use Rattle.clr_model.specs.declared.Refusal.{Refusal}
use Rattle.clr_model.specs.declared.Refusal.TheVariants.{HandleKind, NoHandle, Null}
use Rattle.clr_model.specs.declared.Reply.TheVariants.{Done, HandleNumber, Place}
use Rattle.clr_model.specs.Checks.{list_of}
use Rattle.clr_model.specs.Instructions.{create_handle, fetch_second, fetch_target, free_handle}
use Rattle.clr_model.specs.LineGrammar.{IsHandleForm}
use Rattle.clr_model.specs.Lookups.{local_index, local_of}
use Rattle.clr_types.specs.Kinds.{is_dependent}
use Rattle.clr_model.specs.Machine.{Machine, Options, Sums}
use Rattle.clr_model.specs.Outcomes.{answered, refused}
use Rattle.clr_model.specs.Run.{Follows}
use Rattle.clr_model.specs.Step.{row_of}
use Rattle.clr_model.proofs.HandleFollows.{create_done, create_follows_full, create_follows_memory, create_follows_null}
use Rattle.clr_model.proofs.HandleFollows.{fetch_done, fetch_of, free_done, free_of, handle_follows_missing}
use Rattle.clr_model.proofs.HandleFollows.{second_done, second_follows_kind, second_from}
use Rattle.clr_model.proofs.LineChecks.{AreLocals, MayRun}
use Rattle.clr_runtime.specs.Checks.{names_refusal, thread_refusal}
use Rattle.clr_runtime.specs.Handles.{held_in}
use Rattle.clr_runtime.specs.Outcomes.{refusal_of_create}
use Rattle.clr_runtime.proofs.LocalLines.{local_written}
use Rattle.clr_runtime.proofs.NamesChecked.{may_run, names_passed, once}

-- a map without a key that it doesn't have
pub removed-none : {X : Type 0} (m : FinMap nat_cmp X) (k : ℕ) → finmap.get m k ≡ None → finmap.remove m k ≡ m
removed-none m k none = map_values-same (finmap.remove m k) m (λ q. elim (cases_eq q k) [
  | inl same ↦ ap (finmap.get (finmap.remove m k)) same ∙ get-removed m k ∙ sym none ∙ ap (finmap.get m) (sym same)
  | inr other ↦ get-remove_other m k q other
])

-- what a table of handles answers where one is to be made
pub record IsCreated (old new : FinMap nat_cmp Handle) (row : Handle) (result : Result ℕ CreateFault) : Type 0 where
  pub free : IfOk result (λ h. finmap.get old h ≡ None)
  pub below : IfOk result (λ h. h < 65536)
  pub created : IfOk result (λ h. new ≡ finmap.insert old h row)
  pub too_many : (result ≡ Err fault.TooManyHandles) ↔ (65536 ≤ finmap.len old)
  pub err : OnErr result (new ≡ old)

-- the locals of the line `handle`, where the first stands for a second that isn't named
pub named_once : (s : Machine) (t local : ℕ) (second : Option ℕ) (r : Option Refusal)
    → names_refusal s t (local ∷ unwrap_or second local ∷ []) ≡ r → names_refusal s t (local ∷ list_of second) ≡ r
named_once s t local None r e = once s t local r e
named_once s t local (Some k) r e = e

module _ (w : World) (sums : Sums) (options : Options) (threads : Threads) (ahead : Ahead) (t : ℕ) where
  abbrev s : Machine
  s = shown w sums options threads ahead

  -- ---- lines that follow a handle

  module _ (to h : ℕ) (passed : names_refusal s t (to ∷ to ∷ []) ≡ None) where
    ran : MayRun s t × AreLocals (to ∷ [])
    ran = names_passed s t (to ∷ []) (once s t to None passed)

    -- a number that isn't in use
    pub fetch_missing : finmap.get w.handles h ≡ None → Follows s (fetch_target t to h) (refused NoHandle) s
    fetch_missing = handle_follows_missing s (fetch_of t to h) h false refl ran.0 ran.1

    pub second_missing : finmap.get w.handles h ≡ None → Follows s (fetch_second t to h) (refused NoHandle) s
    second_missing = handle_follows_missing s (second_from t to h) h true refl ran.0 ran.1

    module _ (row : Handle) (found : finmap.get w.handles h ≡ Some row) where
      -- `fetch`
      pub fetched : (j : ℕ) → j ≡ local_index t to
          → Follows s (fetch_target t to h) (answered (Place row.target))
          (shown (record w { locals = slice_set w.locals j row.target }) sums options threads ahead)
      fetched j at =
          local_written s (fetch_target t to h) (answered (Place row.target)) t to row.target j at
          (fetch_done s t ran.0 to ran.1.0 h row found)

      -- `second`, of a handle that isn't a dependent one and of one that is
      pub second_other : is_dependent row.kind ≡ false → Follows s (fetch_second t to h) (refused HandleKind) s
      second_other = second_follows_kind s t ran.0 to ran.1.0 h row found

      pub second_fetched : is_dependent row.kind ≡ true → (j : ℕ) → j ≡ local_index t to
          → Follows s (fetch_second t to h) (answered (Place row.second))
          (shown (record w { locals = slice_set w.locals j row.second }) sums options threads ahead)
      second_fetched dependent j at =
          local_written s (fetch_second t to h) (answered (Place row.second)) t to row.second j at
          (second_done s t ran.0 to ran.1.0 h row found dependent)

  -- ---- `free`

  module _ (h : ℕ) (passed : thread_refusal s t ≡ None) (new : FinMap nat_cmp Handle)
      (table : new ≡ finmap.remove w.handles h) where
    run : MayRun s t
    run = may_run s t passed

    -- a number that isn't in use
    pub free_missing : finmap.get w.handles h ≡ None
        → Follows s (free_handle t h) (refused NoHandle) (shown (record w { handles = new }) sums options threads ahead)
    free_missing none =
        subst (λ (m : FinMap nat_cmp Handle). Follows s (free_handle t h) (refused NoHandle)
        (shown (record w { handles = m }) sums options threads ahead)) (sym (table ∙ removed-none w.handles h none))
        (handle_follows_missing s (free_of t h) h false refl run tt none)

    -- the handle is taken out of use
    pub freed : (row : Handle) → finmap.get w.handles h ≡ Some row
        → Follows s (free_handle t h) (answered Done) (shown (record w { handles = new }) sums options threads ahead)
    freed row found =
        subst (λ (m : FinMap nat_cmp Handle). Follows s (free_handle t h) (answered Done)
        (shown (record w { handles = m }) sums options threads ahead)) (sym table) (free_done s t run h row found)

  -- ---- `handle`

  module _ (kind : Kind) (local : ℕ) (second : Option ℕ) (form : IsHandleForm kind second)
      (passed : names_refusal s t (local ∷ unwrap_or second local ∷ []) ≡ None) (target : ℕ)
      (at : target ≡ local_of s t local) where
    all : MayRun s t × AreLocals (local ∷ list_of second)
    all = names_passed s t (local ∷ list_of second) (named_once s t local second None passed)

    -- a dependent handle has a primary
    pub create_null : is_dependent kind ≡ true → target ≡ 0
        → Follows s (create_handle t kind local second) (refused Null) s
    create_null dependent null =
        create_follows_null s t kind local second form all.0 all.1 dependent (sym at ∙ null)

    module _ (some : is_dependent kind ≡ true → target ≢ 0) (other : ℕ) (held : other ≡ held_in w.locals t second)
        (new : FinMap nat_cmp Handle) (result : Result ℕ CreateFault)
        (told : IsCreated w.handles new (record { kind = kind; target = target; second = other }) result) where
      primary : is_dependent kind ≡ true → local_of s t local ≢ 0
      primary dependent null = some dependent (at ∙ null)

      row-is : (second : Option ℕ) → row_of s t kind local second
          ≡ record { kind = kind; target = local_of s t local; second = held_in w.locals t second }
      row-is None = refl
      row-is (Some k) = refl

      -- where another refusal comes, the table isn't full
      few : (r : Result ℕ CreateFault) → result ≡ r → (r ≡ Err fault.TooManyHandles → ⊥)
          → finmap.len w.handles < 65536
      few r is not_full = elim (cases_lt (finmap.len w.handles) 65536) [
        | inl low ↦ low
        | inr full ↦ absurd (not_full (sym is ∙ told.too_many.1 full))
      ]

      -- the handle is made
      pub created : (h : ℕ) → result ≡ Ok h → Follows s (create_handle t kind local second) (answered (HandleNumber h))
          (shown (record w { handles = new }) sums options threads ahead)
      created h is =
          let low : h < 65536 = subst (λ r. IfOk r (λ h. h < 65536)) is told.below in
          let free : finmap.get w.handles h ≡ None =
          subst (λ r. IfOk r (λ h. finmap.get w.handles h ≡ None)) is told.free in
          let made : Handle = record { kind = kind; target = target; second = other } in
          let row : row_of s t kind local second ≡ made =
          row-is second ∙ (λ k. record { kind = kind; target = sym at k; second = sym held k }) in
          let table : new ≡ finmap.insert w.handles h made =
          subst (λ r. IfOk r (λ h. new ≡ finmap.insert w.handles h made)) is told.created in
          subst (λ (m : FinMap nat_cmp Handle). Follows s (create_handle t kind local second)
          (answered (HandleNumber h)) (shown (record w { handles = m }) sums options threads ahead))
          (ap (finmap.insert w.handles h) row ∙ sym table)
          (create_done s t kind local second form all.0 all.1 primary (few (Ok h) is (λ e. cc)) h low free)

      -- or there is no room for it
      pub create_refused : (f : CreateFault) → result ≡ Err f
          → Follows s (create_handle t kind local second) (refused (refusal_of_create f))
          (shown (record w { handles = new }) sums options threads ahead)
      create_refused f is =
          let same = subst (λ r. OnErr r (new ≡ w.handles)) is told.err in
          subst (λ (m : FinMap nat_cmp Handle). Follows s (create_handle t kind local second)
          (refused (refusal_of_create f)) (shown (record w { handles = m }) sums options threads ahead)) (sym same)
          (go f is)
        where
          go : (f : CreateFault) → result ≡ Err f
              → Follows s (create_handle t kind local second) (refused (refusal_of_create f)) s
          go fault.TooManyHandles is =
              create_follows_full s t kind local second form all.0 all.1 primary (told.too_many.0 is)
          go fault.NoMemory is =
              create_follows_memory s t kind local second form all.0 all.1 primary
              (few (Err fault.NoMemory) is (λ e. cc))
