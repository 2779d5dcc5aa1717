-- The lines on finalisers, on what is seen.
use Rattle.std.proofs.Common.{◌≡◌, ◌≢◌, ℕ, List, [], ◌∷◌, ◌++◌, refl, sym, ap, subst, ◌∙◌, slice_set, true, false, None}
use Rattle.clr_heap.specs.View.{HeapView}
use Rattle.clr_view.specs.Flags.{HasFlagged, is_final_at, is_suppressed_at}
use Rattle.clr_safe.specs.Threads.{Threads}
use Rattle.clr_runtime.specs.Shown.{Ahead, shown}
use Rattle.clr_view.specs.World.{World}
use Rattle.clr_model.specs.declared.Refusal.TheVariants.{Empty, NoMemory, Null}
use Rattle.clr_model.specs.declared.Reply.TheVariants.{Done, Place}
use Rattle.clr_model.specs.Instructions.{reregister_object, suppress_object, take_ready}
use Rattle.clr_model.specs.Lookups.{local_index, local_of, object_has_finalizer}
use Rattle.clr_model.specs.Machine.{Machine, Options, Sums}
use Rattle.clr_model.specs.Outcomes.{answered, refused}
use Rattle.clr_model.specs.Reach.{is_suppressed}
use Rattle.clr_model.specs.Run.{Follows}
use Rattle.clr_model.specs.Updates.{with_entry, with_flag}
use Rattle.clr_model.proofs.FinalFollows.{object_follows_null, reregister_done_entry, reregister_done_flag}
use Rattle.clr_model.proofs.FinalFollows.{reregister_done_plain, reregister_follows_memory, reregister_of}
use Rattle.clr_model.proofs.FinalFollows.{suppress_done, suppress_of, take_done, take_follows_empty}
use Rattle.clr_model.proofs.LineChecks.{AreLocals, MayRun}
use Rattle.clr_runtime.specs.Checks.{names_refusal}
use Rattle.clr_runtime.proofs.NamesChecked.{names_passed, once}

module _ (w : World) (sums : Sums) (options : Options) (threads : Threads) (ahead : Ahead) (t k : ℕ) where
  abbrev s : Machine
  s = shown w sums options threads ahead

  module _ (passed : names_refusal s t (k ∷ k ∷ []) ≡ None) where
    ran : MayRun s t × AreLocals (k ∷ [])
    ran = names_passed s t (k ∷ []) (once s t k None passed)

    -- ---- the object of a local

    module _ (place : ℕ) (at : place ≡ local_of s t k) where
      -- null has no finaliser
      pub suppress_null : place ≡ 0 → Follows s (suppress_object t k) (refused Null) s
      suppress_null null = object_follows_null s (suppress_of t k) k refl ran.0 ran.1 (sym at ∙ null)

      pub reregister_null : place ≡ 0 → Follows s (reregister_object t k) (refused Null) s
      reregister_null null = object_follows_null s (reregister_of t k) k refl ran.0 ran.1 (sym at ∙ null)

      module _ (some : place ≢ 0) where
        is_some : local_of s t k ≢ 0
        is_some null = some (at ∙ null)

        -- what the heap tells of the object is what is seen
        final-seen : (b : _) → is_final_at w.rows w.heap place ≡ b → object_has_finalizer s (local_of s t k) ≡ b
        final-seen b is = ap (object_has_finalizer s) (sym at) ∙ is

        suppressed-seen : (b : _) → is_suppressed_at w.rows w.heap place ≡ b → is_suppressed s (local_of s t k) ≡ b
        suppressed-seen b is = ap (is_suppressed s) (sym at) ∙ is

        -- the machine with the flag is that of the heap in which the object has it
        flag-shown : (new : HeapView) (flag : _) → HasFlagged w.rows w.heap new place flag
            → with_flag s (local_of s t k) flag ≡ shown (record w { heap = new }) sums options threads ahead
        flag-shown new flag flagged =
            let objects = flagged.objects in
            let layout = flagged.layout in
            ap (λ p. with_flag s p flag) (sym at)
            ∙ (λ n. record (shown (record w { heap = new }) sums options threads ahead) {
              objects = sym objects n;
              layout = sym layout n;
            })

        -- `suppress`
        pub suppress_plain : is_final_at w.rows w.heap place ≡ false
            → Follows s (suppress_object t k) (answered Done) s
        suppress_plain plain = suppress_done s t ran.0 k ran.1.0 is_some false (final-seen false plain)

        pub suppressed : is_final_at w.rows w.heap place ≡ true → (new : HeapView)
            → HasFlagged w.rows w.heap new place true
            → Follows s (suppress_object t k) (answered Done)
            (shown (record w { heap = new }) sums options threads ahead)
        suppressed final new flagged =
            subst (Follows s (suppress_object t k) (answered Done)) (flag-shown new true flagged)
            (suppress_done s t ran.0 k ran.1.0 is_some true (final-seen true final))

        -- `reregister`
        pub reregister_plain : is_final_at w.rows w.heap place ≡ false
            → Follows s (reregister_object t k) (answered Done) s
        reregister_plain plain = reregister_done_plain s t ran.0 k ran.1.0 is_some (final-seen false plain)

        module _ (final : is_final_at w.rows w.heap place ≡ true) where
          pub allowed : is_suppressed_at w.rows w.heap place ≡ true → (new : HeapView)
              → HasFlagged w.rows w.heap new place false
              → Follows s (reregister_object t k) (answered Done)
              (shown (record w { heap = new }) sums options threads ahead)
          allowed suppressed new flagged =
              subst (Follows s (reregister_object t k) (answered Done)) (flag-shown new false flagged)
              (reregister_done_flag s t ran.0 k ran.1.0 is_some (final-seen true final)
              (suppressed-seen true suppressed))

          module _ (free : is_suppressed_at w.rows w.heap place ≡ false) where
            pub reregister_lacks : Follows s (reregister_object t k) (refused NoMemory) s
            reregister_lacks =
                reregister_follows_memory s t ran.0 k ran.1.0 is_some (final-seen true final)
                (suppressed-seen false free)

            pub reregistered : (entries ready : List ℕ) → entries ≡ w.entries ++ place ∷ [] → ready ≡ w.ready
                → Follows s (reregister_object t k) (answered Done)
                (shown (record w { entries = entries; ready = ready }) sums options threads ahead)
            reregistered entries ready listed waiting =
                subst (Follows s (reregister_object t k) (answered Done))
                (ap (with_entry s) (sym at)
                ∙ (λ n. shown (record w { entries = sym listed n; ready = sym waiting n }) sums options threads ahead))
                (reregister_done_entry s t ran.0 k ran.1.0 is_some (final-seen true final)
                (suppressed-seen false free))

    -- ---- `finalizer`

    -- nothing waits
    pub take_empty : w.ready ≡ [] → Follows s (take_ready t k) (refused Empty) s
    take_empty = take_follows_empty s t ran.0 k ran.1.0

    -- the first that waits is taken
    pub taken : (place j : ℕ) (entries ready : List ℕ) → w.ready ≡ place ∷ ready → entries ≡ w.entries
        → j ≡ local_index t k
        → Follows s (take_ready t k) (answered (Place place))
        (shown (record w { locals = slice_set w.locals j place; entries = entries; ready = ready }) sums
        options threads ahead)
    taken place j entries ready waits kept written =
        subst (Follows s (take_ready t k) (answered (Place place)))
        (λ n. shown (record w {
          locals = slice_set w.locals (sym written n) place;
          entries = sym kept n;
          ready = ready;
        }) sums options threads ahead)
        (take_done s t ran.0 k ran.1.0 place ready waits)
