-- What scans log, one after another.
use Rattle.std.proofs.Common.{◌≡◌, ℕ, zero, suc, ◌⊎◌, inl, inr, Bool, List, refl, sym, subst, arith, Some}
use Rattle.std.specs.Prelude.{IsTrue, slice_get}
use Rattle.std.proofs.lemmas.Bool.{cases_eq}
use Rattle.clr_types.specs.Rising.{IsIn}
use Rattle.clr_types.specs.Types.{TypeRow}
use Rattle.clr_model.specs.Background.{ScansUpTo, taken}
use Rattle.clr_model.specs.Instructions.{step_background}
use Rattle.clr_model.specs.Machine.{Machine, Marking, Object, ref}
use Rattle.clr_background.specs.Log.{IsNullOrTaken, LogsLine, slot_address}
use Rattle.clr_background.proofs.Markings.{MarksOn, scans_on_marking}
use Rattle.clr_background.proofs.Members.{stands_or_not}
use Rattle.clr_bgmark.specs.Scanning.{HasLogged, HasScanned, HasScannedOne, IsReadAt, LogsRead, marking_in}
use Rattle.clr_bgmark.specs.Shades.{is_logged, ShadeView}

-- what is black stays so
stays_black : (m : Machine) (n : ℕ) (old : Marking) (count : ℕ) (new : Marking) → ScansUpTo m n old count new
    → (x : ℕ) → IsIn x old.black → IsIn x new.black
stays_black m zero old count new (done, is) x i = subst (λ (k : Marking). IsIn x k.black) (sym is) i
stays_black m (suc n) old zero new (empty, is) x i = subst (λ (k : Marking). IsIn x k.black) (sym is) i
stays_black m (suc n) old (suc count) new (mid, s, more) x i =
    stays_black m n mid count new more x ((s.black x).1 (inl i))

-- a slot that is read from one marking to another, from other ones
reread : (m : Machine) (from to old new : Marking) (a : ℕ) (r : IsReadAt m from to a) → IsIn r.object.name new.black
    → (IsIn r.object.name old.black → ⊥) → (IsIn r.name (taken old) → ⊥) → IsReadAt m old new a
reread m from to old new a r black was_not untaken = record {
  object = r.object;
  present = r.present;
  black = black;
  was_not = was_not;
  slot = r.slot;
  name = r.name;
  holds = r.holds;
  not_null = r.not_null;
  untaken = untaken;
  card = r.card;
}

logs_after : (m : Machine) (old mid new : Marking) → MarksOn m old mid
    → ((x : ℕ) → IsIn x old.black → IsIn x mid.black) → ((x : ℕ) → IsIn x mid.black → IsIn x new.black)
    → (was between is : ℕ → Bool) → LogsRead m old mid was between → LogsRead m mid new between is
    → LogsRead m old new was is
logs_after m old mid new marks before after was between is one other = record {
  stays = λ a e. other.stays a (one.stays a e);
  read = read;
  only = λ a e. elim (other.only a e) [
    | inr r ↦ inr (reread m mid new old new a r r.black (λ i. r.was_not (before r.object.name i))
        (λ i. r.untaken ((marks.same r.name).0 i)))
    | inl still ↦ elim (one.only a still) [
      | inl was ↦ inl was
      | inr r ↦ inr (reread m old mid old new a r (after r.object.name r.black) r.was_not r.untaken)
    ]
  ];
}
  where
    read : (a : ℕ) → IsReadAt m old new a → IsTrue (is a)
    read a r = elim (stands_or_not r.object.name mid.black) [
      | inl black ↦ other.stays a (one.read a (reread m old new old mid a r black r.was_not r.untaken))
      | inr none ↦ other.read a (reread m old new mid new a r r.black none
          (λ i. r.untaken ((marks.same r.name).1 i)))
    ]

-- ---- in the bits

pub logged_none : (rows : List TypeRow) (objects : List Object) (ss : List ShadeView) → HasLogged rows objects ss ss
logged_none rows objects ss m types same = record {
  stays = λ a e. e;
  read = λ a r. absurd (r.was_not r.black);
  only = λ a e. inl e;
}

pub logged_on : (rows : List TypeRow) (objects : List Object) (k : ℕ) (old mid new : List ShadeView)
    → HasScanned objects k old k mid → HasScannedOne objects mid new → HasLogged rows objects old mid
    → HasLogged rows objects mid new → HasLogged rows objects old new
logged_on rows objects k old mid new scans one so_far more m types same =
    let run = scans m same in
    logs_after m (marking_in objects old) (marking_in objects mid) (marking_in objects new)
    (scans_on_marking m k (marking_in objects old) k (marking_in objects mid) run)
    (stays_black m k (marking_in objects old) k (marking_in objects mid) run)
    (λ x i. ((one m same).black x).1 (inl i)) (is_logged old) (is_logged mid) (is_logged new) (so_far m types same)
    (more m types same)

-- ---- in a line

-- what is read is what a line of the marker has to log
pub logs_line : (m : Machine) (n : ℕ) (old new : Marking) (was is : ℕ → Bool) → LogsRead m old new was is
    → LogsLine m (step_background n) old new was is
logs_line m n old new was is logs = record {
  stays = logs.stays;
  stored = λ o slot here completes. absurd completes;
  scanned = λ o slot name here black none holds. by o slot name here black none holds (cases_eq name 0)
      (stands_or_not name (taken old));
}
  where
    by : (o : Object) (slot name : ℕ) → IsIn o m.objects → IsIn o.name new.black → (IsIn o.name old.black → ⊥)
        → slice_get o.slots slot ≡ Some (ref name) → (name ≡ 0) ⊎ (name ≡ 0 → ⊥)
        → IsIn name (taken old) ⊎ (IsIn name (taken old) → ⊥)
        → IsNullOrTaken old name ⊎ IsTrue (is (slot_address m o slot))
    by o slot name here black none holds (inl null) there = inl (inl null)
    by o slot name here black none holds (inr some) (inl there) = inl (inr there)
    by o slot name here black none holds (inr some) (inr untaken) = inr (logs.read (slot_address m o slot) (record {
      object = o;
      present = here;
      black = black;
      was_not = none;
      slot = slot;
      name = name;
      holds = holds;
      not_null = omega (arith, some);
      untaken = untaken;
      card = refl;
    }))
