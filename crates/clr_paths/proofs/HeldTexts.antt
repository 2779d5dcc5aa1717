-- The text of what an object retains, for the machine that a view shows.
use Rattle.std.proofs.Common.{◌≡◌, ◌≢◌, ◌⊎◌, ◌↔◌, ℕ, ◌<◌, List, [], ◌∷◌, ◌++◌, append_assoc, ap, ap₂, sym, ◌∙◌, codes}
use Rattle.std.proofs.Common.{count_by, decimal, filter, sum_by, Bool}
use Rattle.std.specs.FinMap.{FinMap}
use Rattle.std.specs.Ordering.{nat_cmp}
use Rattle.clr_nums.specs.Numbers.{hex16}
use Rattle.clr_types.specs.Rising.{IsIn}
use Rattle.clr_types.specs.Types.{TypeRow}
use Rattle.clr_types.specs.declared.handle.Handle.{Handle}
use Rattle.clr_model.specs.Lookups.{object_size}
use Rattle.clr_model.specs.Looks.{is_retained, IsRetainedText}
use Rattle.clr_model.specs.Machine.{Machine, Object}
use Rattle.clr_model.specs.Reach.{HeldBy, Reach, SecondOf, SlotNames, Without}
use Rattle.clr_model.specs.Sos.{line}
use Rattle.clr_sos.specs.Views.{IsViewOf}
use Rattle.clr_sos.specs.declared.view.View.{View}
use Rattle.clr_sos.proofs.LineParts.{ended, line-cons}
use Rattle.clr_sos.proofs.ReachedAll.{live-shown, to_machine, to_view}
use Rattle.clr_paths.specs.Held.{IsRetainedSum, ReachedWithout}
use Rattle.clr_paths.specs.declared.held.Sum.{Sum}

-- the words of the line, put behind a text one by one
pub retained_parts : (text place objects bytes : List ℕ)
    → ((((((text ++ codes "retained ") ++ place) ++ codes " objects ") ++ objects) ++ codes " bytes ") ++ bytes)
    ++ (10 ∷ [])
    ≡ text ++ line (codes "retained" ∷ place ∷ codes "objects" ∷ objects ∷ codes "bytes" ∷ bytes ∷ [])
retained_parts text place objects bytes =
    let parts : ((((((text ++ codes "retained ") ++ place) ++ codes " objects ") ++ objects) ++ codes " bytes ")
    ++ bytes) ++ (10 ∷ [])
    ≡ text ++ (codes "retained" ++ ended (place ∷ codes "objects" ∷ objects ∷ codes "bytes" ∷ bytes ∷ [])) =
    simp append_assoc in
    parts ∙ ap (λ (rest : List ℕ). text ++ rest)
    (sym (line-cons (codes "retained") (place ∷ codes "objects" ∷ objects ∷ codes "bytes" ∷ bytes ∷ [])))

module _ (v : View) (m : Machine) (is : IsViewOf v m) where
  -- what is reached without an object, from roots and over edges of these lists
  abbrev reached_past : ℕ → ℕ → List Object → List ℕ → FinMap nat_cmp Handle → List ℕ → Type 0
  reached_past a x os ls hs rs =
      Reach (λ y z. (SlotNames os y z ⊎ SecondOf hs y z) × (z ≢ a))
      (λ y. ((0 < y) × ((IsIn y ls ⊎ HeldBy hs y) ⊎ IsIn y rs)) × (y ≢ a)) x

  -- so it is in the machine
  without-shown : (a x : ℕ) → ReachedWithout v a x ↔ Without m a x
  without-shown a x = (to_machine v m is (reached_past a x), to_view v m is (reached_past a x))

  -- THE TEXT
  pub retained-shown : (a : ℕ) (sum : Sum) → IsRetainedSum v a sum → (text : List ℕ)
      → text ≡ line (codes "retained" ∷ hex16 a ∷ codes "objects" ∷ decimal sum.objects
      ∷ codes "bytes" ∷ decimal sum.bytes ∷ []) → IsRetainedText m a text
  retained-shown a sum t text put =
      let test : Object → Bool = is_retained t.live t.without in
      record {
        live = t.live;
        lives = λ x. (λ e. (live-shown v m is x).0 ((t.lives x).0 e), λ l. (t.lives x).1 ((live-shown v m is x).1 l));
        without = t.without;
        stays = λ x. (λ e. (without-shown a x).0 ((t.stays x).0 e), λ r. (t.stays x).1 ((without-shown a x).1 r));
        shown = put ∙ ap₂ (λ (n b : ℕ). line (codes "retained" ∷ hex16 a ∷ codes "objects" ∷ decimal n
            ∷ codes "bytes" ∷ decimal b ∷ []))
            (t.objects ∙ ap (λ (os : List Object). count_by test os) (sym is.objects))
            (t.bytes ∙ ap₂ (λ (rows : List TypeRow) (os : List Object). sum_by (object_size rows) (filter test os))
            (sym is.types) (sym is.objects));
      }
