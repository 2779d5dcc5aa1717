-- The lines of a background collection, on what is seen.
use Rattle.std.proofs.Common.{◌≡◌, ◌∙◌, ◌⊎◌, ℕ, inl, inr, [], ◌∷◌, length, refl, sym, ap, subst, Bool, true}
use Rattle.std.proofs.Common.{false, not}
use Rattle.std.proofs.Common.{◌&&◌, ◌==◌, Option, None, Some, MatchOption, is_some}
use Rattle.std.specs.Prelude.{IfSome, is_none}
use Rattle.std.specs.Option.{option_map}
use Rattle.std.proofs.lemmas.List.{length-map}
use Rattle.clr_model.specs.declared.Collected.{Collected}
use Rattle.clr_model.specs.declared.Refusal.{Refusal}
use Rattle.clr_model.specs.declared.Refusal.TheVariants.{BackgroundRunning, Blocked, MidStep, NoBackground, NoMemory}
use Rattle.clr_model.specs.declared.Refusal.TheVariants.{NotMidStep, UnknownThread, Wait}
use Rattle.clr_model.specs.declared.Reply.TheVariants as reply
use Rattle.clr_model.specs.Background.{IsBegun, IsLawfulMarking, ScansUpTo}
use Rattle.clr_model.specs.Checks.{first_of_all, refusal as first_refusal, refuse_if, with_some}
use Rattle.clr_model.specs.Collection.{EndsBackground}
use Rattle.clr_model.specs.Instructions.{begin_background, end_background, step_background}
use Rattle.clr_model.specs.Lawful.{IsBirthNamed, IsLawful}
use Rattle.clr_model.specs.Lookups.{is_step, is_thread, lowest_in_step, place_of, step_of}
use Rattle.clr_model.specs.Machine.{Machine, Marking}
use Rattle.clr_model.specs.Outcomes.{answered, Outcome, refused}
use Rattle.clr_model.specs.Picture.{picture, renamed_marking}
use Rattle.clr_model.specs.Run.{Follows}
use Rattle.clr_model.specs.Step.{BeginsBackground, EndsByLine, Replies, StepsBackground, WantsMemory}
use Rattle.clr_model.proofs.BackgroundLawful.{background_birth_named}
use Rattle.clr_model.proofs.BackgroundNames.{background_names}
use Rattle.clr_model.proofs.Carried.{follows, follows_alike, IsAlike, refusal_carried_by}
use Rattle.clr_model.proofs.CollectFollows.{lowest_in_step-picture}
use Rattle.clr_model.proofs.LineChecks.{is_step-picture, may_run_of-picture, MayRun, obeys_done, obeys_refusal}
use Rattle.clr_model.proofs.LineChecks.{unheld_passes}
use Rattle.clr_model.proofs.Remarked.{remarked_birth_named}
use Rattle.clr_background.proofs.MarkerNames.{first_pause_names_law, marker_names_law}
use Rattle.clr_runtime.proofs.MarkedLines.{unrenamed}

-- ---- the checks

-- those of a pause, where the check for a holder comes to `held`, and that for a collection that runs to `runs`
abbrev pause_checks : Bool → Option Refusal → Bool → Option Refusal → Option Refusal
pause_checks thread held stepping runs = first_of_all (
    refuse_if (not thread) UnknownThread
    ∷ held
    ∷ refuse_if (stepping && true) MidStep
    ∷ refuse_if (not stepping && false) NotMidStep
    ∷ runs
    ∷ None ∷ None ∷ None ∷ None ∷ None ∷ None ∷ None ∷ None ∷ None ∷ None ∷ None ∷ None ∷ None ∷ None ∷ None ∷ [])

-- a thread that holds all others holds this one, unless that is in mid-step
abbrev held_by : Option ℕ → ℕ → Bool → Option Refusal
held_by holder t stepping = with_some holder (λ h. refuse_if (not (h == t) && not stepping) (Blocked h))

-- where the thread may run, that for a collection that runs decides
pause_passes : (s : Machine) (t : ℕ) → MayRun s t → (runs : Option Refusal)
    → pause_checks (is_thread t) (held_by s.holder t (is_step (step_of s t))) (is_step (step_of s t)) runs ≡ runs
pause_passes s t run runs =
    let thread = run.thread in
    let idle = run.idle in
    (λ j. pause_checks (thread j) (held_by s.holder t (idle j)) (idle j) runs)
    ∙ ap (λ held. pause_checks true held false runs) (unheld_passes s.holder t run.unheld) ∙ go runs
  where
    go : (r : Option Refusal) → pause_checks true None false r ≡ r
    go None = refl
    go (Some q) = refl

-- one runs in the picture just where one runs
runs-picture : (m : Machine) → is_some (picture m).background ≡ is_some m.background
runs-picture m = go m.background
  where
    go : (r : Option Marking) → is_some (option_map (renamed_marking (place_of m.objects)) r) ≡ is_some r
    go None = refl
    go (Some k) = refl

none-picture : (m : Machine) → is_none (picture m).background ≡ is_none m.background
none-picture m = go m.background
  where
    go : (r : Option Marking) → is_none (option_map (renamed_marking (place_of m.objects)) r) ≡ is_none r
    go None = refl
    go (Some k) = refl

-- what a lawful machine took is lawful
lawful-marking : (m : Machine) → IsLawful m → (k : Marking) → m.background ≡ Some k → IsLawfulMarking m k
lawful-marking m h k runs = subst (λ r. IfSome r (IsLawfulMarking m)) runs h.marking

-- ---- the first pause

module _ (t : ℕ) where
  -- that it begins, or there is no memory for it
  abbrev BeginsNow : Machine → Outcome → Machine → Type 0
  BeginsNow m outcome new =
      ((marking : Marking) × IsBegun m marking
      × Replies outcome reply.Done new (record m { background = Some marking }))
      ⊎ WantsMemory m outcome new

  abbrev WaitsFor : Machine → Outcome → Machine → ℕ → Type 0
  WaitsFor m outcome new k = (outcome ≡ refused (Wait k)) × (new ≡ m)

  begins : (m : Machine) (outcome : Outcome) (new : Machine) (r : Option ℕ) → lowest_in_step m ≡ r
      → MatchOption r (BeginsNow m outcome new) (WaitsFor m outcome new) → BeginsBackground m outcome new
  begins m outcome new r is = subst (λ q. MatchOption q (BeginsNow m outcome new) (WaitsFor m outcome new)) (sym is)

  begin_does : (m : Machine) → IsBirthNamed m → (outcome : Outcome) (after : Machine)
      → BeginsBackground (picture m) outcome after
      → (next : Machine) × BeginsBackground m outcome next × IsBirthNamed next × (picture next ≡ after)
  begin_does m named outcome after d =
      go (lowest_in_step m) refl
      (subst (λ r. MatchOption r (BeginsNow (picture m) outcome after) (WaitsFor (picture m) outcome after))
      (lowest_in_step-picture m) d)
    where
      go : (r : Option ℕ) → lowest_in_step m ≡ r
          → MatchOption r (BeginsNow (picture m) outcome after) (WaitsFor (picture m) outcome after)
          → (next : Machine) × BeginsBackground m outcome next × IsBirthNamed next × (picture next ≡ after)
      go None rests (inl (k, begun, (replied, same))) =
          let (own, is_begun, is, lawful) = first_pause_names_law m k named.lawful begun in (
            record m { background = Some own },
            begins m outcome (record m { background = Some own }) None rests (inl (own, is_begun, (replied, refl))),
            remarked_birth_named m named m.compacts_large (Some own) lawful,
            (λ j. record (picture m) { background = Some (is j) }) ∙ sym same,
          )
      go None rests (inr (wants, same)) =
          (m, begins m outcome m None rests (inr (wants, refl)), named, sym same)
      go (Some k) rests (waits, same) = (m, begins m outcome m (Some k) rests (waits, refl), named, sym same)

  begin_alike : IsAlike (begin_background t)
  begin_alike = record {
    checks = λ m named j. pause_checks (is_thread t) (held_by m.holder t (is_step-picture m t j))
        (is_step-picture m t j) (refuse_if (runs-picture m j) BackgroundRunning);
    does = λ m named passed. begin_does m named;
  }

  module _ (s : Machine) (run : MayRun s t) where
    -- one runs
    pub begin_running : is_some s.background ≡ true → Follows s (begin_background t) (refused BackgroundRunning) s
    begin_running is =
        follows_alike (begin_background t) begin_alike s (refused BackgroundRunning) s
        (obeys_refusal s (begin_background t) BackgroundRunning
        (pause_passes s t run (refuse_if (is_some s.background) BackgroundRunning)
        ∙ ap (λ b. refuse_if b BackgroundRunning) is))

    module _ (none : is_some s.background ≡ false) where
      begin_follows : (outcome : Outcome) (new : Machine) → BeginsBackground s outcome new
          → Follows s (begin_background t) outcome new
      begin_follows outcome new does =
          follows_alike (begin_background t) begin_alike s outcome new
          (obeys_done s (begin_background t) outcome new
          (pause_passes s t run (refuse_if (is_some s.background) BackgroundRunning)
          ∙ ap (λ b. refuse_if b BackgroundRunning) none) does)

      -- a thread is waited for
      pub begin_waits : (k : ℕ) → lowest_in_step s ≡ Some k → Follows s (begin_background t) (refused (Wait k)) s
      begin_waits k busy = begin_follows (refused (Wait k)) s (begins s (refused (Wait k)) s (Some k) busy (refl, refl))

      module _ (idle : lowest_in_step s ≡ None) where
        -- it begins
        pub begin_done : (k : Marking) → IsBegun s k → (new : Machine) → new ≡ record s { background = Some k }
            → Follows s (begin_background t) (answered reply.Done) new
        begin_done k is new same =
            begin_follows (answered reply.Done) new
            (begins s (answered reply.Done) new None idle (inl (k, is, (refl, same))))

        -- there is no memory for it
        pub begin_lacks : (new : Machine) → new ≡ s → Follows s (begin_background t) (refused NoMemory) new
        begin_lacks new same =
            begin_follows (refused NoMemory) new (begins s (refused NoMemory) new None idle (inr (refl, same)))

-- ---- steps

module _ (n : ℕ) where
  step_does : (m : Machine) → IsBirthNamed m → (outcome : Outcome) (after : Machine)
      → StepsBackground (picture m) n outcome after
      → (next : Machine) × StepsBackground m n outcome next × IsBirthNamed next × (picture next ≡ after)
  step_does m named outcome after (old, runs, count, k, scans, (replied, same)) =
      let (own, began, is) = unrenamed (place_of m.objects) m.background old runs in
      let (next, done, shown, lawful) = marker_names_law m own n count k named.lawful
      (lawful-marking m named.lawful own began)
      (subst (λ w. ScansUpTo (picture m) n w count k) (sym is) scans) in
      let counted : length k.gray ≡ length next.gray =
      ap (λ (w : Marking). length w.gray) (sym shown) ∙ length-map next.gray (place_of m.objects) in (
        record m { background = Some next },
        (own, began, count, next, done, (replied ∙ ap (λ g. answered (reply.Scanned count g)) counted, refl)),
        remarked_birth_named m named m.compacts_large (Some next) lawful,
        (λ j. record (picture m) { background = Some (shown j) }) ∙ sym same,
      )

  step_alike : IsAlike (step_background n)
  step_alike = record {
    checks = λ m named j. first_of_all (refuse_if (none-picture m j) NoBackground
        ∷ None ∷ None ∷ None ∷ None ∷ None ∷ None ∷ None ∷ None ∷ None ∷ None ∷ None ∷ None ∷ None ∷ None ∷ None ∷ []);
    does = λ m named passed. step_does m named;
  }

  step_check : (s : Machine) → first_refusal s (step_background n) ≡ refuse_if (is_none s.background) NoBackground
  step_check s = go (is_none s.background)
    where
      go : (b : Bool) → first_of_all (refuse_if b NoBackground
          ∷ None ∷ None ∷ None ∷ None ∷ None ∷ None ∷ None ∷ None ∷ None ∷ None ∷ None ∷ None ∷ None ∷ None ∷ None ∷ [])
          ≡ refuse_if b NoBackground
      go true = refl
      go false = refl

  -- none runs
  pub step_none : (s : Machine) → is_none s.background ≡ true → Follows s (step_background n) (refused NoBackground) s
  step_none s is =
      follows_alike (step_background n) step_alike s (refused NoBackground) s
      (obeys_refusal s (step_background n) NoBackground (step_check s ∙ ap (λ b. refuse_if b NoBackground) is))

  -- so many gray objects are scanned
  pub step_done : (s : Machine) (old : Marking) → s.background ≡ Some old → (count : ℕ) (k : Marking)
      → ScansUpTo s n old count k → (gray : ℕ) → gray ≡ length k.gray → (new : Machine)
      → new ≡ record s { background = Some k }
      → Follows s (step_background n) (answered (reply.Scanned count gray)) new
  step_done s old runs count k scans gray counted new same =
      follows_alike (step_background n) step_alike s (answered (reply.Scanned count gray)) new
      (obeys_done s (step_background n) (answered (reply.Scanned count gray)) new
      (step_check s ∙ ap (λ (r : Option Marking). refuse_if (is_none r) NoBackground) runs)
      (old, runs, count, k, scans, (ap (λ g. answered (reply.Scanned count g)) counted, same)))

-- ---- the last pause

module _ (t : ℕ) where
  abbrev EndsNow : Machine → Outcome → Machine → Type 0
  EndsNow m outcome new =
      (marking : Marking) × (m.background ≡ Some marking) × (answer : Collected) × EndsBackground m marking answer new
      × (outcome ≡ answered (reply.Collected answer))

  ends : (m : Machine) (outcome : Outcome) (new : Machine) (r : Option ℕ) → lowest_in_step m ≡ r
      → MatchOption r (EndsNow m outcome new) (WaitsFor t m outcome new) → EndsByLine m outcome new
  ends m outcome new r is = subst (λ q. MatchOption q (EndsNow m outcome new) (WaitsFor t m outcome new)) (sym is)

  end_passes : (s : Machine) → MayRun s t → is_none s.background ≡ false
      → first_refusal s (end_background t) ≡ None
  end_passes s run is =
      pause_passes s t run (refuse_if (is_none s.background) NoBackground)
      ∙ ap (λ b. refuse_if b NoBackground) is

  module _ (s : Machine) (run : MayRun s t) where
    -- none runs
    pub end_none : is_none s.background ≡ true → Follows s (end_background t) (refused NoBackground) s
    end_none is =
        follows s (end_background t) (refused NoBackground) s
        (refusal_carried_by (end_background t) (λ w. MayRun w t × (is_none w.background ≡ true)) NoBackground
        (λ m named given.
        obeys_refusal m (end_background t) NoBackground
        (pause_passes m t (may_run_of-picture m t given.0) (refuse_if (is_none m.background) NoBackground)
        ∙ ap (λ b. refuse_if b NoBackground) (sym (none-picture m) ∙ given.1)))
        s (run, is))

    -- a thread is waited for
    pub end_waits : is_none s.background ≡ false → (k : ℕ) → lowest_in_step s ≡ Some k
        → Follows s (end_background t) (refused (Wait k)) s
    end_waits is k busy =
        follows s (end_background t) (refused (Wait k)) s
        (refusal_carried_by (end_background t)
        (λ w. MayRun w t × (is_none w.background ≡ false) × (lowest_in_step w ≡ Some k)) (Wait k)
        (λ m named given.
        obeys_done m (end_background t) (refused (Wait k)) m
        (end_passes m (may_run_of-picture m t given.0) (sym (none-picture m) ∙ given.1))
        (ends m (refused (Wait k)) m (Some k) (sym (lowest_in_step-picture m) ∙ given.2) (refl, refl)))
        s (run, is, busy))

    -- it ends
    pub end_done : (k : Marking) → s.background ≡ Some k → lowest_in_step s ≡ None → (answer : Collected)
        (after new : Machine) → EndsBackground s k answer after → new ≡ picture after
        → Follows s (end_background t) (answered (reply.Collected answer)) new
    end_done k runs idle answer after new c same =
        let outcome = answered (reply.Collected answer) in
        subst (Follows s (end_background t) outcome) (sym same)
        (follows s (end_background t) outcome (picture after)
        (λ m stands.
        let may : MayRun m t = may_run_of-picture m t (subst (λ (w : Machine). MayRun w t) (sym stands.seen_is) run) in
        let rests : lowest_in_step m ≡ None =
        sym (lowest_in_step-picture m) ∙ ap lowest_in_step stands.seen_is ∙ idle in
        let (own, began, is) = unrenamed (place_of m.objects) m.background k
        (ap (λ (w : Machine). w.background) stands.seen_is ∙ runs) in
        let lawful = stands.lawful.lawful in
        let (next, done, shown) = background_names m lawful own (lawful-marking m lawful own began) answer after
        (subst (λ w. EndsBackground (picture m) w answer after) (sym is)
        (subst (λ w. EndsBackground w k answer after) (sym stands.seen_is) c)) in (
          next,
          obeys_done m (end_background t) outcome next
              (end_passes m may (ap (λ (r : Option Marking). is_none r) began))
              (ends m outcome next None rests (own, began, answer, done, refl)),
          record {
            lawful = background_birth_named m lawful rests own answer next done stands.lawful.born;
            seen_is = shown;
          },
        )))
