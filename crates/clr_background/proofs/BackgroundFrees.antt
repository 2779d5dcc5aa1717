-- What was out of reach at the first pause of a background collection is gone after the last one.
use Rattle.std.proofs.Common.{◌≡◌, ℕ, ◌<◌, ◌≤◌, ◌⊎◌, inl, inr, List, refl, sym, ap, subst, ◌∙◌, true, not, ◌&&◌}
use Rattle.std.proofs.Common.{Option, Some, None}
use Rattle.clr_types.specs.Rising.{IsIn}
use Rattle.clr_types.proofs.RisingLists.{all_at}
use Rattle.clr_types.proofs.ChangedLists.{all_members, out_of_filter}
use Rattle.clr_model.specs.declared.Collected.{Collected}
use Rattle.clr_model.specs.declared.How.TheVariants.{Sweep}
use Rattle.clr_model.specs.Machine.{Value, ref, num, Object, Machine, Marking}
use Rattle.clr_model.specs.Lookups.{object_named}
use Rattle.clr_model.specs.Reach.{Reach, starts, follows, Edge, StartOfBackground, woken, is_suppressed}
use Rattle.clr_model.specs.Background.{IsBegun}
use Rattle.clr_model.specs.Lawful.{IsShaped, IsBirthNamed}
use Rattle.clr_model.specs.Collection.{begun, objects_after, EndsBackground, IsCollected}
use Rattle.clr_model.proofs.NamedWell.{HasObject}
use Rattle.clr_model.proofs.CollectedObjects.{found_by}
use Rattle.clr_background.specs.Laws.{BackgroundFreesLaw, IsWithinReach}
use Rattle.clr_background.proofs.CarriedOver.{object_was}
use Rattle.clr_background.proofs.CutOff.{IsSafe, IsSafeValue, IsCutOff, MarksNone}
use Rattle.clr_background.proofs.LinesCutOff.{roots_safe, run_cut_off, slot_named}
use Rattle.clr_background.proofs.Pauses.{began, ended_by}

-- ---- the last pause

module _ (lost : ℕ → Type 0) (m : Machine) (c : IsCutOff lost m) (marking : Marking)
    (none : MarksNone lost marking) where
  edge_safe : (x y : ℕ) → IsSafe lost x → Edge m x y → IsSafe lost y
  edge_safe x y safe (inl e) = slot_named lost m c x y safe e
  edge_safe x y safe (inr e) = subst (IsSafe lost) e.secondary (c.handles e.handle e.row e.in_use).1

  -- what is reached from the roots, from what is marked, and from some entries
  module _ (more : List ℕ) (entries : (x : ℕ) → IsIn x more → IsIn x m.entries) where
    start_safe : (x : ℕ) → StartOfBackground m marking x ⊎ IsIn x more → IsSafe lost x
    start_safe x (inl (inl r)) = roots_safe lost m c x r
    start_safe x (inl (inr marked)) = none x marked
    start_safe x (inr i) = c.entries x (entries x i)

    reach_safe : (x : ℕ) → Reach (Edge m) (λ y. StartOfBackground m marking y ⊎ IsIn y more) x → IsSafe lost x
    reach_safe x (starts s) = start_safe x s
    reach_safe y (follows {x = x} r e) = edge_safe x y (reach_safe x r) e

  lost_gone : (answer : Collected) (new : Machine) → EndsBackground m marking answer new → (x : ℕ) → lost x
      → object_named new.objects x ≡ None
  lost_gone answer new ends x l = go (object_named new.objects x) refl
    where
      d : IsCollected (begun m) 2 Sweep true (StartOfBackground (begun m) marking) answer ends.collected
      d = ends.collects

      stays : (o : Object) → IsIn o (objects_after (begun m) d.first d.kept d.moves) → o.name ≡ x → ⊥
      stays o i n =
          let (q, j, kept, e) = object_was (begun m) d.first d.kept d.moves o i in
          let same : q.name ≡ x = sym (ap (λ (w : Object). w.name) e) ∙ n in
          reach_safe (woken (begun m) d.first)
          (λ y h. (out_of_filter (λ e. not (d.first e) && not (is_suppressed (begun m) e)) y m.entries h).1)
          x ((d.kept_is x).0 (subst (λ y. d.kept y ≡ true) same kept)) l

      go : (r : Option Object) → object_named new.objects x ≡ r → r ≡ None
      go None e = refl
      go (Some o) e =
          let (i, n) = found_by (λ (o : Object). o.name) x new.objects o e in
          absurd (stays o (subst (IsIn o) (ap (λ (w : Machine). w.objects) ends.ends
          ∙ ap (λ (w : Machine). w.objects) d.state) i) n)

-- ---- what is lost at the first pause

module _ (m : Machine) (named : IsBirthNamed m) where
  -- an object out of reach
  abbrev IsLost : ℕ → Type 0
  IsLost x = HasObject m.objects x × (IsWithinReach m x → ⊥)

  above_null : (x : ℕ) → IsLost x → 0 < x
  above_null x ((o, i, n), out) = subst (λ k. 0 < k) n (all_at (IsShaped m) i named.lawful.shapes).named

  module _ (marking : Marking) (is : IsBegun m marking) where
    -- none of them is among the roots, so none is gray
    first_marks : MarksNone IsLost marking
    first_marks x (inl i) l = l.1 (starts (inl ((is.gray x).0 i).1))
    first_marks x (inr i) l = elim (subst (IsIn x) is.black i) [ ]

    opening_cut_off : IsCutOff IsLost (record m { background = Some marking })
    opening_cut_off = record {
      names = λ x l. let (o, i, n) = l.0 in
          (above_null x l, subst (λ k. k ≤ m.born) n (all_at (λ (o : Object). o.name ≤ m.born) i named.born));
      locals = all_members (IsSafe IsLost) m.locals (λ x i l. l.1 (starts (inl (above_null x l, inl (inl i)))));
      handles = λ k row e. (
        λ l. l.1 (starts (inr (
          above_null row.target l,
          inl (record { handle = k; row = row; in_use = e; names = inl refl }),
        ))),
        λ l. l.1 (starts (inr (
          above_null row.second l,
          inl (record { handle = k; row = row; in_use = e; names = inr refl }),
        ))),
      );
      entries = λ x i l. l.1 (starts (inr (above_null x l, inr i)));
      ready = λ x i l. l.1 (starts (inl (above_null x l, inr i)));
      slots = λ o i safe. all_members (IsSafeValue IsLost) o.slots (by o i safe);
      marked = λ k e. subst (MarksNone IsLost) (only k e) first_marks;
    }
      where
        only : (k : Marking) → Some marking ≡ Some k → marking ≡ k
        only k e = cc

        by : (o : Object) → IsIn o m.objects → IsSafe IsLost o.name → (v : Value) → IsIn v o.slots
            → IsSafeValue IsLost v
        by o i safe (ref y) j = λ l. safe (
          (o, i, refl),
          λ r.
              l.1 (follows r (inl (record {
                object = o;
                present = i;
                named = refl;
                slot = j;
                not_null = above_null y l;
              }))),
        )
        by o i safe (num n) j = tt

pub background_frees : BackgroundFreesLaw
background_frees m first last new t u answer named begins run ends x old out =
    let (marking, is, same) = began m t first begins in
    let opening : IsCutOff (IsLost m named) first =
    subst (IsCutOff (IsLost m named)) (sym same) (opening_cut_off m named marking is) in
    let closing : IsCutOff (IsLost m named) last = run_cut_off (IsLost m named) first last run opening in
    let (final, runs, ended) = ended_by last u answer new ends in
    lost_gone (IsLost m named) last closing final (closing.marked final runs) answer new ended x
    ((old.object, old.present, old.named), out)
