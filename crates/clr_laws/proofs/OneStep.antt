-- A step of a background collection has one reply.
use Rattle.std.proofs.Common.{◌≡◌, ℕ, ◌≤◌, zero, suc, inl, inr, List, [], ◌∷◌, ◌++◌, length, refl, sym, ap, subst, ◌∙◌}
use Rattle.std.proofs.Common.{arith, IfSome, Option, None, Some}
use Rattle.std.specs.Prelude.{MatchOption}
use Rattle.clr_types.specs.Rising.{IsIn}
use Rattle.clr_types.proofs.ChangedLists.{append_left}
use Rattle.clr_types.proofs.ListMembers.{append_right, distinct_left, distinct_right}
use Rattle.clr_types.proofs.RisingLists.{all_at}
use Rattle.clr_types.proofs.SortedLists.{IsDistinctBy}
use Rattle.clr_model.specs.declared.Refusal.{Refusal}
use Rattle.clr_model.specs.declared.Refusal.TheVariants.{NoBackground}
use Rattle.clr_model.specs.declared.Reply.TheVariants as reply
use Rattle.clr_model.specs.Machine.{Machine, Marking}
use Rattle.clr_model.specs.Lookups.{place_of}
use Rattle.clr_model.specs.Reach.{Old, SlotNames}
use Rattle.clr_model.specs.Background.{IsLawfulMarking, Scans, ScansUpTo, taken}
use Rattle.clr_model.specs.Checks.{refusal as first_refusal}
use Rattle.clr_model.specs.Instructions.{step_background}
use Rattle.clr_model.specs.Lawful.{IsLawful}
use Rattle.clr_model.specs.Outcomes.{Outcome, answered, refused}
use Rattle.clr_model.specs.Sos.{IsWithoutRepeats}
use Rattle.clr_model.specs.Step.{Obeys, StepsBackground}
use Rattle.clr_model.proofs.NamedWell.{HasObject, lawful-named}
use Rattle.clr_model.proofs.Remarked.{scanned_lawful, scans_lawful}
use Rattle.clr_background.proofs.PlaceNames.{one_name}
use Rattle.clr_laws.specs.Laws.{AreOneButForOrder, HaveSameColours, HaveSameColoursIfAny, OneStepLaw}
use Rattle.clr_laws.proofs.Counting.{no_more_by}

-- ---- numbers that stand once

distinct : (xs : List ℕ) → IsWithoutRepeats xs → IsDistinctBy (λ n. n) xs
distinct [] d = tt
distinct (x ∷ xs) d = (d.0, distinct xs d.1)

-- ---- colours

-- each object of the first marking has its colour in the second
record IsWithin (one other : Marking) : Type 0 where
  white : (x : ℕ) → IsIn x one.white → IsIn x other.white
  gray : (x : ℕ) → IsIn x one.gray → IsIn x other.gray
  black : (x : ℕ) → IsIn x one.black → IsIn x other.black

gray_distinct : (k : Marking) → IsWithoutRepeats (taken k) → IsDistinctBy (λ n. n) k.gray
gray_distinct k apart =
    distinct_right (λ n. n) k.white k.gray
    (distinct_left (λ n. n) (k.white ++ k.gray) k.black (distinct (taken k) apart))

as_many : (a b : Marking) → IsWithoutRepeats (taken a) → IsWithin a b → length a.gray ≤ length b.gray
as_many a b apart w =
    no_more_by (λ n. n) (λ n. n) a.gray b.gray (gray_distinct a apart) (λ x i. (x, w.gray x i, refl))

-- ---- scans

-- a gray object is an object
gray_there : (m : Machine) (a : Marking) → IsLawfulMarking m a → (x : ℕ) → IsIn x a.gray → HasObject m.objects x
gray_there m a lawful x i =
    let o = all_at (Old m 1) (append_left a.black (append_right a.white i)) lawful.present in
    (o.object, o.present, o.named)

module _ (m k : Machine) (law : IsLawful m) (same : m.objects ≡ k.objects) where
  -- both scan one object
  one_lowest : (a a' b b' : Marking) → IsLawfulMarking m a → IsWithin a b → IsWithin b a → (s : Scans m a a')
      → (t : Scans k b b') → s.scanned ≡ t.scanned
  one_lowest a a' b b' lawful forth back s t =
      let x = s.scanned in
      let y = t.scanned in
      let low : place_of m.objects x ≤ place_of m.objects y = s.lowest y (back.gray y t.was_gray) in
      let up : place_of m.objects y ≤ place_of m.objects x =
      subst (λ os. place_of os y ≤ place_of os x) (sym same) (t.lowest x (forth.gray x s.was_gray)) in
      one_name m (lawful-named m law) x y (gray_there m a lawful y (back.gray y t.was_gray)) (omega (arith, low, up))

  scan_forth : (a a' b b' : Marking) → IsWithin a b → (s : Scans m a a') → (t : Scans k b b')
      → s.scanned ≡ t.scanned → IsWithin a' b'
  scan_forth a a' b b' w s t is = record {
    white = λ x i. let p = (s.white x).0 i in (t.white x).1 (w.white x p.0, λ n. p.1 (named_back x n));
    gray = λ x i. (t.gray x).1 (elim ((s.gray x).0 i) [
      | inl p ↦ inl (w.gray x p.0, λ e. p.1 (e ∙ sym is))
      | inr p ↦ inr (w.white x p.0, named_forth x p.1)
    ]);
    black = λ x i. (t.black x).1 (elim ((s.black x).0 i) [ inl j ↦ inl (w.black x j) | inr e ↦ inr (e ∙ is) ]);
  }
    where
      named_forth : (x : ℕ) → SlotNames m.objects s.scanned x → SlotNames k.objects t.scanned x
      named_forth x n =
          subst (λ y. SlotNames k.objects y x) is (subst (λ os. SlotNames os s.scanned x) same n)

      named_back : (x : ℕ) → SlotNames k.objects t.scanned x → SlotNames m.objects s.scanned x
      named_back x n =
          subst (λ y. SlotNames m.objects y x) (sym is) (subst (λ os. SlotNames os t.scanned x) (sym same) n)

-- as many were scanned, and each object has one colour
record AreScannedAlike (c d : ℕ) (one other : Marking) : Type 0 where
  count : c ≡ d
  forth : IsWithin one other
  back : IsWithin other one

same_scans : (m k : Machine) → IsLawful m → IsLawful k → m.objects ≡ k.objects → (n : ℕ) (a b : Marking)
    → IsLawfulMarking m a → IsLawfulMarking k b → IsWithin a b → IsWithin b a → (c : ℕ) (a' : Marking)
    → ScansUpTo m n a c a' → (d : ℕ) (b' : Marking) → ScansUpTo k n b d b' → AreScannedAlike c d a' b'
same_scans m k law law' same zero a b lawful lawful' forth back c a' (e, is) d b' (f, is') =
    record {
      count = e ∙ sym f;
      forth = subst (λ o. IsWithin o b') (sym is) (subst (IsWithin a) (sym is') forth);
      back = subst (λ o. IsWithin o a') (sym is') (subst (IsWithin b) (sym is) back);
    }
same_scans m k law law' same (suc n) a b lawful lawful' forth back zero a' (e, is) zero b' (f, is') =
    record {
      count = refl;
      forth = subst (λ o. IsWithin o b') (sym is) (subst (IsWithin a) (sym is') forth);
      back = subst (λ o. IsWithin o a') (sym is') (subst (IsWithin b) (sym is) back);
    }
same_scans m k law law' same (suc n) a b lawful lawful' forth back zero a' (e, is) (suc d) b' (mid, t, more) =
    elim (subst (IsIn t.scanned) e (back.gray t.scanned t.was_gray)) [ ]
same_scans m k law law' same (suc n) a b lawful lawful' forth back (suc c) a' (mid, s, more) zero b' (f, is') =
    elim (subst (IsIn s.scanned) f (forth.gray s.scanned s.was_gray)) [ ]
same_scans m k law law' same (suc n) a b lawful lawful' forth back (suc c) a' (mid, s, more) (suc d) b'
    (mid', t, more') =
    let is = one_lowest m k law same a mid b mid' lawful forth back s t in
    let rest = same_scans m k law law' same n mid mid' (scanned_lawful m a mid lawful s)
    (scanned_lawful k b mid' lawful' t) (scan_forth m k law same a mid b mid' forth s t is)
    (scan_forth k m law' (sym same) b mid' a mid back t s (sym is)) c a' more d b' more' in
    record { count = ap suc rest.count; forth = rest.forth; back = rest.back }

-- ---- lines

-- the check of a step
refused_at : (w : Machine) (n : ℕ) → w.background ≡ None → first_refusal w (step_background n) ≡ Some NoBackground
refused_at w n e = ap (λ o. first_refusal (record w { background = o }) (step_background n)) e

passed_at : (w : Machine) (n : ℕ) (a : Marking) → w.background ≡ Some a
    → first_refusal w (step_background n) ≡ None
passed_at w n a e = ap (λ o. first_refusal (record w { background = o }) (step_background n)) e

-- what is left of both where a step is done
steps : (m k : Machine) → IsLawful m → IsLawful k → AreOneButForOrder m k → (n : ℕ) (one other : Outcome)
    (new next : Machine) → StepsBackground m n one new → StepsBackground k n other next
    → (one ≡ other) × AreOneButForOrder new next
steps m k law law' alike n one other new next (a, runs, c, a', scans, (replied, is))
    (b, runs', d, b', scans', (replied', is')) =
    let colours : HaveSameColours a b =
    subst (λ o. HaveSameColoursIfAny (Some a) o) runs'
    (subst (λ o. HaveSameColoursIfAny o k.background) runs alike.colours) in
    let lawful : IsLawfulMarking m a = subst (λ o. IfSome o (IsLawfulMarking m)) runs law.marking in
    let lawful' : IsLawfulMarking k b = subst (λ o. IfSome o (IsLawfulMarking k)) runs' law'.marking in
    let same : m.objects ≡ k.objects = ap (λ (w : Machine). w.objects) alike.rest in
    let done = same_scans m k law law' same n a b lawful lawful' (forth a b colours) (back a b colours) c a' scans d b'
    scans' in
    let low = as_many a' b' (scans_lawful m n a c a' lawful scans).apart done.forth in
    let up = as_many b' a' (scans_lawful k n b d b' lawful' scans').apart done.back in
    let gray : length a'.gray ≡ length b'.gray = omega (arith, low, up) in
    let count = done.count in
    let left : AreOneButForOrder (record m { background = Some a' }) (record k { background = Some b' }) =
    record {
      rest = ap (λ (w : Machine). record w { background = Some a' }) alike.rest;
      colours = record {
        white = λ x. (done.forth.white x, done.back.white x);
        gray = λ x. (done.forth.gray x, done.back.gray x);
        black = λ x. (done.forth.black x, done.back.black x);
      };
    } in (
      replied ∙ (λ i. answered (reply.Scanned (count i) (gray i))) ∙ sym replied',
      subst (λ w. AreOneButForOrder w next) (sym is)
          (subst (AreOneButForOrder (record m { background = Some a' })) (sym is') left),
    )
  where
    forth : (a b : Marking) → HaveSameColours a b → IsWithin a b
    forth a b s = record { white = λ x. (s.white x).0; gray = λ x. (s.gray x).0; black = λ x. (s.black x).0 }

    back : (a b : Marking) → HaveSameColours a b → IsWithin b a
    back a b s = record { white = λ x. (s.white x).1; gray = λ x. (s.gray x).1; black = λ x. (s.black x).1 }

pub one_step : OneStepLaw
one_step m k n one other new next law law' alike h h' = go m.background k.background refl refl alike.colours
  where
    at : (w : Machine) (outcome : Outcome) (x : Machine) (r : Option Refusal)
        → first_refusal w (step_background n) ≡ r → Obeys w (step_background n) outcome x
        → MatchOption r (StepsBackground w n outcome x) (λ r. (outcome ≡ refused r) × (x ≡ w))
    at w outcome x r e does =
        subst (λ r. MatchOption r (StepsBackground w n outcome x) (λ r. (outcome ≡ refused r) × (x ≡ w))) e does

    go : (o p : Option Marking) → m.background ≡ o → k.background ≡ p → HaveSameColoursIfAny o p
        → (one ≡ other) × AreOneButForOrder new next
    go None None e f c =
        let (replied, is) = at m one new (Some NoBackground) (refused_at m n e) h in
        let (replied', is') = at k other next (Some NoBackground) (refused_at k n f) h' in (
          replied ∙ sym replied',
          subst (λ w. AreOneButForOrder w next) (sym is) (subst (AreOneButForOrder m) (sym is') alike),
        )
    go None (Some b) e f c = absurd c
    go (Some a) None e f c = absurd c
    go (Some a) (Some b) e f c =
        steps m k law law' alike n one other new next (at m one new None (passed_at m n a e) h)
        (at k other next None (passed_at k n b f) h')
