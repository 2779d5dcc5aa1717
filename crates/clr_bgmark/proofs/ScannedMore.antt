-- A scan of a gray object finds more, and the law of the log goes on.
use Rattle.std.proofs.Common.{◌≡◌, ◌∙◌, ℕ, ◌⊎◌, inl, inr, Bool, List, refl, sym, subst, arith, map}
use Rattle.std.proofs.lemmas.Bool.{cases_eq}
use Rattle.clr_types.specs.Rising.{IsIn}
use Rattle.clr_types.specs.Types.{TypeRow}
use Rattle.clr_heap.specs.View.{HeapView, IsHeap, word_of}
use Rattle.clr_model.specs.Background.{Scans, taken}
use Rattle.clr_model.specs.Instructions.{step_background}
use Rattle.clr_model.specs.Machine.{Machine, Marking, Object, ref}
use Rattle.clr_model.specs.Reach.{follows, Marked, Reach, SlotNames, starts}
use Rattle.clr_view.specs.View.{IsHeld, objects_in}
use Rattle.clr_mark.specs.Markings.{references_at}
use Rattle.clr_background.specs.Log.{LogsLine, slot_address, StrictLogLaw}
use Rattle.clr_background.proofs.Markings.{MarksOn, scan_on}
use Rattle.clr_background.proofs.Members.{read_member, stands_or_not}
use Rattle.clr_bgmark.specs.Closing.{HasFoundMore, IsAtWork, without_colours}
use Rattle.clr_bgmark.specs.Pauses.{IsFound}
use Rattle.clr_bgmark.specs.Scanning.{AreObjects, followed, HasLogged, HasScannedOne, HaveWholeObjects, IsCounted}
use Rattle.clr_bgmark.specs.Scanning.{marking_in}
use Rattle.clr_bgmark.specs.Shades.{BackgroundView, is_logged, met_all, rest_of, with_scanned}
use Rattle.clr_bgmark.proofs.FoundMarked.{found_is_marked}
use Rattle.clr_bgmark.proofs.FoundMore.{all_met_taken, taken_changed}
use Rattle.clr_bgmark.proofs.LoggedRuns.{logs_line}

-- what a scan takes is what was taken
pub followed_taken : (rows : List TypeRow) (h : HeapView) (v : BackgroundView) (x : ℕ)
    → map without_colours (followed rows h v x).shades ≡ map without_colours v.shades
followed_taken rows h v x =
    taken_changed (with_scanned x) (λ s. refl) x (met_all (word_of h) v x (references_at rows h x)).shades
    ∙ all_met_taken (word_of h) x (references_at rows h x) v

-- the law of the log from one marking to the next
law_goes_on : (m : Machine) (old new : Marking) (was is : ℕ → Bool) → MarksOn m old new
    → LogsLine m (step_background 0) old new was is → StrictLogLaw m old was → StrictLogLaw m new is
law_goes_on m old new was is marks line law o i name here black e = elim (stands_or_not o.name old.black) [
  | inl before ↦ elim (law o i name here before e) [
    | inr logged ↦ inr (line.stays (slot_address m o i) logged)
    | inl fine ↦ elim fine [ inl null ↦ inl (inl null) | inr marked ↦ inl (inr (marks.keeps name marked)) ]
  ]
  | inr none ↦ elim (line.scanned o i name here black none e) [
    | inr logged ↦ inr logged
    | inl fine ↦ elim fine [
      | inl null ↦ inl (inl null)
      | inr there ↦ elim (cases_eq name 0) [
        | inl null ↦ inl (inl null)
        | inr some ↦ inl (inr (marks.named o.name name black none (record {
          object = o;
          present = here;
          named = refl;
          slot = read_member o.slots i (ref name) e;
          not_null = omega (arith, some);
        }) there))
      ]
    ]
  ]
]

-- what is marked after a scan was, or is named by the scanned object
marked_from : (m : Machine) (old new : Marking) → Scans m old new → (x : ℕ) → Marked new x
    → Reach (SlotNames m.objects) (Marked old) x
marked_from m old new s x (inl gray) = elim ((s.gray x).0 gray) [
  | inl was ↦ starts (inl was.0)
  | inr white ↦ follows {x = s.scanned} (starts (inl s.was_gray)) white.1
]
marked_from m old new s x (inr black) = elim ((s.black x).0 black) [
  | inl was ↦ starts (inr was)
  | inr is ↦ starts (inl (subst (λ y. IsIn y old.gray) (sym is) s.was_gray))
]

module _ (rows : List TypeRow) (h : HeapView) (heap : IsHeap h) (held : IsHeld rows h) where
  abbrev objects : List Object
  objects = objects_in rows h

  abbrev IsFoundFrom : BackgroundView → ℕ → Type 0
  IsFoundFrom v = Reach (SlotNames objects) (λ y. ⊥ ⊎ IsFound v.shades y)

  module _ (v w : BackgroundView) (work : IsAtWork rows h v) (known : AreObjects rows h w.shades)
      (whole : HaveWholeObjects rows h w.shades) (counted : IsCounted objects w)
      (logs : HasLogged rows objects v.shades w.shades) (scans : HasScannedOne objects v.shades w.shades) where
    -- found places are the marked objects, before and then
    was_marked : (x : ℕ) → IsFound v.shades x → Marked (marking_in objects v.shades) x
    was_marked x = (found_is_marked rows h heap held v.shades work.objects x).0

    was_found : (x : ℕ) → Marked (marking_in objects v.shades) x → IsFound v.shades x
    was_found x = (found_is_marked rows h heap held v.shades work.objects x).1

    pub scanned_work : IsAtWork rows h w
    scanned_work =
        let (m, types, same, law) = work.log in
        record {
          objects = known;
          whole = whole;
          counted = counted;
          log = (
            m,
            types,
            same,
            law_goes_on m (marking_in objects v.shades) (marking_in objects w.shades) (is_logged v.shades)
                (is_logged w.shades)
                (scan_on m (marking_in objects v.shades) (marking_in objects w.shades) (scans m same))
                (logs_line m 0 (marking_in objects v.shades) (marking_in objects w.shades) (is_logged v.shades)
                (is_logged w.shades) (logs m types same)) law,
          );
        }

    pub scanned_more_found : rest_of w ≡ rest_of v
        → map without_colours w.shades ≡ map without_colours v.shades → HasFoundMore rows h (λ y. ⊥) v w
    scanned_more_found rest taken =
        let (m, types, same, law) = work.log in
        let s = scans m same in
        record {
          rest = rest;
          taken = taken;
          kept = λ x f. (found_is_marked rows h heap held w.shades known x).1
              ((scan_on m (marking_in objects v.shades) (marking_in objects w.shades) s).keeps x (was_marked x f));
          reached = λ x f. from m same x
              (marked_from m (marking_in objects v.shades) (marking_in objects w.shades) s x
              ((found_is_marked rows h heap held w.shades known x).0 f));
        }
      where
        from : (m : Machine) → m.objects ≡ objects → (x : ℕ)
            → Reach (SlotNames m.objects) (Marked (marking_in objects v.shades)) x → IsFoundFrom v x
        from m same x (starts s) = starts (inr (was_found x s))
        from m same x (follows {x = y} r e) =
            follows {x = y} (from m same y r) (subst (λ os. SlotNames os y x) same e)
