-- What is known of the tables that were found: how many bytes each takes, that numbers rise and that types are known.
use Rattle.std.proofs.Common.{◌≡◌, ℕ, suc, zero, ◌+◌, ◌-◌, ◌*◌, ◌<◌, ◌≤◌, ◌==◌, nat_lt, Bool, true}
use Rattle.std.proofs.Common.{List, [], ◌∷◌, ◌++◌, length, replicate, refl, sym, ◌∙◌, ap}
use Rattle.std.proofs.Common.{subst, arith, slice_get, length-append, inl, inr, false, if◌then◌else◌, IfSome, None}
use Rattle.std.proofs.Common.{Some}
use Rattle.std.proofs.lemmas.Bool.{and_parts, cases_Bool}
use Rattle.std.proofs.lemmas.Bool.Decides.{nat_tests}
use Rattle.std.specs.List.{AllByRecursion}
use Rattle.clr_types.specs.HandleCode.{kind_of_number}
use Rattle.clr_types.specs.Rising.{IsRisingBy}
use Rattle.clr_types.specs.Types.{TypeRow}
use Rattle.clr_types.specs.declared.handle.Handle.{Handle}
use Rattle.clr_types.proofs.ChangedLists.{rising-push}
use Rattle.clr_model.specs.Lawful.{HasItsSecond}
use Rattle.clr_model.specs.Lookups.{is_thread}
use Rattle.clr_heap.proofs.Framing.{all_push}
use Rattle.clr_fields.specs.Fields.{anything, field, found, Found, gives, is_from_to, is_up_to, is_zero, times, word_at}
use Rattle.clr_fields.specs.Fields.{◌>>=◌}
use Rattle.clr_format.specs.TableFields.{all_handles, all_steps, begun_fields, handle_fields, idle_fields, is_above}
use Rattle.clr_format.specs.TableFields.{is_new_length, is_number, is_second, more_handles, more_places, more_steps}
use Rattle.clr_format.specs.TableFields.{no_tables, queue_fields, step_fields, step_with, store_fields, Tables}
use Rattle.clr_format.specs.TableFields.{tables_fields, thread_or_none}
use Rattle.clr_format.specs.declared.head.Head.{Head}
use Rattle.clr_sos.specs.declared.step.Step.{Step}
use Rattle.clr_sos.specs.declared.step.Step.TheVariants.{Begun, Idle, Store}
use Rattle.clr_load.specs.StepTests.{IsKnownStep, IsNewStep}
use Rattle.clr_load.proofs.FoundFields.{both_found, field_found, gave, times_keep}

module _ (bytes : List ℕ) (head : Head) (rows : List TypeRow) where
  word_next : (lawful : ℕ → Bool) (o x n : ℕ) → field lawful bytes o ≡ found x n → n ≡ o + 8
  word_next lawful o x n e = (field_found lawful o (word_at bytes o) x n e).next

  word_good : (lawful : ℕ → Bool) (o x n : ℕ) → field lawful bytes o ≡ found x n → lawful x ≡ true
  word_good lawful o x n e = (field_found lawful o (word_at bytes o) x n e).good

  -- ---- steps

  record IsStepFound (o : ℕ) (s : Step) (n : ℕ) : Type 0 where
    known : IsKnownStep rows s
    new : IsNewStep rows head.large s
    next : n ≡ o + 32

  idle_found : (o : ℕ) (s : Step) (n : ℕ) → idle_fields bytes o ≡ found s n → IsStepFound o s n
  unfolding idle_fields
  idle_found o s n e =
      let a = both_found bytes (λ x. field is_zero >>= (λ y. field is_zero >>= (λ z. field is_zero
      >>= (λ w. gives Idle))))
      (field is_zero bytes o) s n e in
      let b = both_found bytes (λ y. field is_zero >>= (λ z. field is_zero >>= (λ w. gives Idle)))
      (field is_zero bytes a.m) s n a.two in
      let c = both_found bytes (λ z. field is_zero >>= (λ w. gives Idle)) (field is_zero bytes b.m) s n b.two in
      let d = both_found bytes (λ w. gives Idle) (field is_zero bytes c.m) s n c.two in
      let same : Idle ≡ s = (gave (Idle) d.m s n d.two).0 in
      let at : d.m ≡ n = (gave _ d.m _ n d.two).1 in
      let a1 = word_next is_zero o a.x a.m a.one in
      let b1 = word_next is_zero a.m b.x b.m b.one in
      let c1 = word_next is_zero b.m c.x c.m c.one in
      let d1 = word_next is_zero c.m d.x d.m d.one in
      record {
        known = subst (IsKnownStep rows) same tt;
        new = subst (IsNewStep rows head.large) same tt;
        next = omega arith;
      }

  store_found : (o : ℕ) (s : Step) (n : ℕ) → store_fields bytes o ≡ found s n → IsStepFound o s n
  unfolding store_fields
  store_found o s n e =
      let a = both_found bytes (λ x. field anything >>= (λ y. field is_zero >>= (λ z. field is_zero
      >>= (λ w. gives (Store x y))))) (field anything bytes o) s n e in
      let b = both_found bytes (λ y. field is_zero >>= (λ z. field is_zero >>= (λ w. gives (Store a.x y))))
      (field anything bytes a.m) s n a.two in
      let c = both_found bytes (λ z. field is_zero >>= (λ w. gives (Store a.x b.x))) (field is_zero bytes b.m) s n
      b.two in
      let d = both_found bytes (λ w. gives (Store a.x b.x)) (field is_zero bytes c.m) s n c.two in
      let same : Store a.x b.x ≡ s = (gave (Store a.x b.x) d.m s n d.two).0 in
      let at : d.m ≡ n = (gave _ d.m _ n d.two).1 in
      let a1 = word_next anything o a.x a.m a.one in
      let b1 = word_next anything a.m b.x b.m b.one in
      let c1 = word_next is_zero b.m c.x c.m c.one in
      let d1 = word_next is_zero c.m d.x d.m d.one in
      record {
        known = subst (IsKnownStep rows) same tt;
        new = subst (IsNewStep rows head.large) same tt;
        next = omega arith;
      }

  begun_found : (o : ℕ) (s : Step) (n : ℕ) → begun_fields head rows bytes o ≡ found s n → IsStepFound o s n
  unfolding begun_fields
  begun_found o s n e =
      let a = both_found bytes (λ t. field (is_new_length rows head.large t) >>= (λ len. field (is_up_to 63)
      >>= (λ local. field anything >>= (λ front. gives (Begun (record { 0 = t }) len local front)))))
      (field (is_from_to 1 (length rows)) bytes o) s n e in
      let b = both_found bytes (λ len. field (is_up_to 63)
      >>= (λ local. field anything >>= (λ front. gives (Begun (record { 0 = a.x }) len local front))))
      (field (is_new_length rows head.large a.x) bytes a.m) s n a.two in
      let c = both_found bytes (λ local. field anything
      >>= (λ front. gives (Begun (record { 0 = a.x }) b.x local front)))
      (field (is_up_to 63) bytes b.m) s n b.two in
      let d = both_found bytes (λ front. gives (Begun (record { 0 = a.x }) b.x c.x front)) (field anything bytes c.m) s
      n c.two in
      let same : Begun (record { 0 = a.x }) b.x c.x d.x ≡ s =
      (gave (Begun (record { 0 = a.x }) b.x c.x d.x) d.m s n d.two).0 in
      let at : d.m ≡ n = (gave _ d.m _ n d.two).1 in
      let good = word_good (is_from_to 1 (length rows)) o a.x a.m a.one in
      let low : 1 ≤ a.x = grind (arith, nat_tests, good) in
      let known : a.x ≤ length rows = grind (arith, nat_tests, good) in
      let suited = word_good (is_new_length rows head.large a.x) a.m b.x b.m b.one in
      let thread = word_good (is_up_to 63) b.m c.x c.m c.one in
      let local : c.x ≤ 63 = grind (arith, nat_tests, thread) in
      let a1 = word_next (is_from_to 1 (length rows)) o a.x a.m a.one in
      let b1 = word_next (is_new_length rows head.large a.x) a.m b.x b.m b.one in
      let c1 = word_next (is_up_to 63) b.m c.x c.m c.one in
      let d1 = word_next anything c.m d.x d.m d.one in
      record {
        known = subst (IsKnownStep rows) same known;
        new = subst (IsNewStep rows head.large) same (low, known, suited, local);
        next = omega arith;
      }

  step_found : (o : ℕ) (s : Step) (n : ℕ) → step_fields head rows bytes o ≡ found s n
      → IsKnownStep rows s × (n ≡ o + 40) × IsNewStep rows head.large s
  unfolding step_fields
  step_found o s n e =
      let a = both_found bytes (λ kind. step_with head rows kind) (field (is_up_to 2) bytes o) s n e in
      let a1 = word_next (is_up_to 2) o a.x a.m a.one in
      let f : IsStepFound a.m s n = elim (cases_Bool (a.x == 0)) [
        | inl none ↦ idle_found a.m s n (let two = a.two in rw none at two)
        | inr some ↦ elim (cases_Bool (a.x == 1)) [
          | inl store ↦ store_found a.m s n (let two = a.two in rw (some, store) at two)
          | inr begun ↦ begun_found a.m s n (let two = a.two in rw (some, begun) at two)
        ]
      ] in
      let next = f.next in
      (f.known, omega arith, f.new)

  record AreStepsFound (o k : ℕ) (steps : List Step) (n : ℕ) : Type 0 where
    known : AllByRecursion (IsKnownStep rows) steps
    new : AllByRecursion (IsNewStep rows head.large) steps
    count : length steps ≡ k
    next : n ≡ o + 40 * k

  one_step : (o k : ℕ) (steps : List Step) (m : ℕ) (t : List Step) (n : ℕ) → AreStepsFound o k steps m
      → more_steps head rows steps bytes m ≡ found t n → AreStepsFound o (k + 1) t n
  unfolding more_steps
  one_step o k steps m t n before e =
      let f = both_found bytes (λ (s : Step). gives (steps ++ s ∷ [])) (step_fields head rows bytes m) t n e in
      let step = step_found m f.x f.m f.one in
      let same : steps ++ f.x ∷ [] ≡ t = (gave (steps ++ f.x ∷ []) f.m t n f.two).0 in
      let at : f.m ≡ n = (gave _ f.m _ n f.two).1 in
      let more = step.1 in
      let next = before.next in
      let many = before.count in
      let joined = length-append steps (f.x ∷ []) in
      let length_is = ap length same in
      record {
        known = subst (AllByRecursion (IsKnownStep rows)) same
            (all_push (IsKnownStep rows) steps f.x before.known step.0);
        new = subst (AllByRecursion (IsNewStep rows head.large)) same
            (all_push (IsNewStep rows head.large) steps f.x before.new step.2);
        count = omega arith;
        next = omega arith;
      }

  steps_found : (o : ℕ) (steps : List Step) (n : ℕ) → all_steps head rows bytes o ≡ found steps n
      → AreStepsFound o 16 steps n
  steps_found o steps n e =
      let all = times_keep (more_steps head rows) bytes (AreStepsFound o) (λ k s m t j p f. one_step o k s m t j p f)
      16 0 [] o steps n (record { known = tt; new = tt; count = refl; next = omega arith }) e in
      let known = all.known in
      let many = all.count in
      let next = all.next in
      record { known = known; new = all.new; count = omega arith; next = omega arith }

  -- ---- handles

  record IsHandleFound (handles : List (ℕ × Handle)) (o : ℕ) (e : ℕ × Handle) (n : ℕ) : Type 0 where
    number : is_number handles e.0 ≡ true
    owned : HasItsSecond e.1
    next : n ≡ o + 32

  second_owned : (kind target second : ℕ) → is_second kind target second ≡ true
      → HasItsSecond (record { kind = kind_of_number kind; target = target; second = second })
  second_owned kind target second on = record {
    dependent = λ off. grind (arith, nat_tests, on, off);
    primary = λ null. grind (arith, nat_tests, on, null);
  }

  handle_found : (handles : List (ℕ × Handle)) (o : ℕ) (e : ℕ × Handle) (n : ℕ)
      → handle_fields handles bytes o ≡ found e n → IsHandleFound handles o e n
  unfolding handle_fields
  handle_found handles o e n f =
      let a = both_found bytes (λ h. field (is_up_to 4) >>= (λ kind. field anything >>= (λ target.
      field (is_second kind target) >>= (λ second. gives (made h kind target second)))))
      (field (is_number handles) bytes o) e n f in
      let b = both_found bytes (λ kind. field anything >>= (λ target. field (is_second kind target)
      >>= (λ second. gives (made a.x kind target second)))) (field (is_up_to 4) bytes a.m) e n a.two in
      let c = both_found bytes (λ target. field (is_second b.x target)
      >>= (λ second. gives (made a.x b.x target second))) (field anything bytes b.m) e n b.two in
      let d = both_found bytes (λ second. gives (made a.x b.x c.x second)) (field (is_second b.x c.x) bytes c.m) e n
      c.two in
      let same : made a.x b.x c.x d.x ≡ e = (gave (made a.x b.x c.x d.x) d.m e n d.two).0 in
      let at : d.m ≡ n = (gave _ d.m _ n d.two).1 in
      let number = word_good (is_number handles) o a.x a.m a.one in
      let second = word_good (is_second b.x c.x) c.m d.x d.m d.one in
      let a1 = word_next (is_number handles) o a.x a.m a.one in
      let b1 = word_next (is_up_to 4) a.m b.x b.m b.one in
      let c1 = word_next anything b.m c.x c.m c.one in
      let d1 = word_next (is_second b.x c.x) c.m d.x d.m d.one in
      record {
        number = subst (λ (q : ℕ × Handle). is_number handles q.0 ≡ true) same number;
        owned = subst (λ (q : ℕ × Handle). HasItsSecond q.1) same (second_owned b.x c.x d.x second);
        next = omega arith;
      }
    where
      made : ℕ → ℕ → ℕ → ℕ → ℕ × Handle
      made h kind target second = (h, record { kind = kind_of_number kind; target = target; second = second })

  abbrev number_of : ℕ × Handle → ℕ
  number_of e = e.0

  -- what is above the last number is above all
  all_lower : (handles : List (ℕ × Handle)) (h : ℕ) → IsRisingBy number_of handles
      → is_above (slice_get handles (length handles - 1)) h ≡ true
      → AllByRecursion (λ (e : ℕ × Handle). e.0 < h) handles
  all_lower [] h rising on = tt
  all_lower (e ∷ []) h rising on = (grind (arith, nat_tests, on), tt)
  all_lower (e ∷ f ∷ handles) h rising on =
      let at : length (e ∷ f ∷ handles) - 1 ≡ suc (length (f ∷ handles) - 1) = omega arith in
      let last : is_above (slice_get (f ∷ handles) (length (f ∷ handles) - 1)) h ≡ true =
      ap (λ (i : ℕ). is_above (slice_get (e ∷ f ∷ handles) i) h) (sym at) ∙ on in
      let rest = all_lower (f ∷ handles) h rising.1 last in
      let low = rising.0.0 in
      let high = rest.0 in
      (omega arith, rest)

  pub record AreHandlesFound (o k : ℕ) (handles : List (ℕ × Handle)) (n : ℕ) : Type 0 where
    pub rising : IsRisingBy number_of handles
    pub below : AllByRecursion (λ (e : ℕ × Handle). e.0 < 65536) handles
    pub owned : AllByRecursion (λ (e : ℕ × Handle). HasItsSecond e.1) handles
    pub count : length handles ≡ k
    pub next : n ≡ o + 32 * k

  one_handle : (o k : ℕ) (handles : List (ℕ × Handle)) (m : ℕ) (t : List (ℕ × Handle)) (n : ℕ)
      → AreHandlesFound o k handles m → more_handles handles bytes m ≡ found t n → AreHandlesFound o (k + 1) t n
  unfolding more_handles
  one_handle o k handles m t n before e =
      let f = both_found bytes (λ (h : ℕ × Handle). gives (handles ++ h ∷ [])) (handle_fields handles bytes m) t n e in
      let one = handle_found handles m f.x f.m f.one in
      let same : handles ++ f.x ∷ [] ≡ t = (gave (handles ++ f.x ∷ []) f.m t n f.two).0 in
      let at : f.m ≡ n = (gave _ f.m _ n f.two).1 in
      let parts = and_parts (is_above (slice_get handles (length handles - 1)) f.x.0) (nat_lt f.x.0 65536) one.number in
      let lower = all_lower handles f.x.0 before.rising parts.0 in
      let small : f.x.0 < 65536 = let p = parts.1 in grind (arith, nat_tests, p) in
      let more = one.next in
      let next = before.next in
      let many = before.count in
      let joined = length-append handles (f.x ∷ []) in
      let length_is = ap length same in
      record {
        rising = subst (IsRisingBy number_of) same (rising-push number_of handles f.x before.rising lower);
        below = subst (AllByRecursion (λ (q : ℕ × Handle). q.0 < 65536)) same
            (all_push (λ (q : ℕ × Handle). q.0 < 65536) handles f.x before.below small);
        owned = subst (AllByRecursion (λ (q : ℕ × Handle). HasItsSecond q.1)) same
            (all_push (λ (q : ℕ × Handle). HasItsSecond q.1) handles f.x before.owned one.owned);
        count = omega arith;
        next = omega arith;
      }

  handles_found : (o : ℕ) (handles : List (ℕ × Handle)) (n : ℕ) → all_handles bytes o ≡ found handles n
      → AreHandlesFound (o + 8) (length handles) handles n × (length handles ≤ 65536)
  unfolding all_handles
  handles_found o handles n e =
      let f = both_found bytes (λ k. times k more_handles []) (field (is_up_to 65536) bytes o) handles n e in
      let a1 = word_next (is_up_to 65536) o f.x f.m f.one in
      let all = times_keep more_handles bytes (AreHandlesFound f.m) (λ k s m t j p g. one_handle f.m k s m t j p g)
      f.x 0 [] f.m handles n (record { rising = tt; below = tt; owned = tt; count = refl; next = omega arith }) f.two in
      let many = all.count in
      let next = all.next in
      let good = word_good (is_up_to 65536) o f.x f.m f.one in
      let most : f.x ≤ 65536 = grind (arith, nat_tests, good) in (
        record { rising = all.rising; below = all.below; owned = all.owned; count = refl; next = omega arith },
        omega arith,
      )

  -- ---- queues

  record ArePlacesFound (o k : ℕ) (places : List ℕ) (n : ℕ) : Type 0 where
    count : length places ≡ k
    next : n ≡ o + 8 * k

  one_place : (o k : ℕ) (places : List ℕ) (m : ℕ) (t : List ℕ) (n : ℕ) → ArePlacesFound o k places m
      → more_places places bytes m ≡ found t n → ArePlacesFound o (k + 1) t n
  unfolding more_places
  one_place o k places m t n before e =
      let f = both_found bytes (λ (x : ℕ). gives (places ++ x ∷ [])) (field anything bytes m) t n e in
      let same : places ++ f.x ∷ [] ≡ t = (gave (places ++ f.x ∷ []) f.m t n f.two).0 in
      let at : f.m ≡ n = (gave _ f.m _ n f.two).1 in
      let a1 = word_next anything m f.x f.m f.one in
      let next = before.next in
      let many = before.count in
      let joined = length-append places (f.x ∷ []) in
      let length_is = ap length same in
      record { count = omega arith; next = omega arith }

  queue_found : (o : ℕ) (places : List ℕ) (n : ℕ) → queue_fields bytes o ≡ found places n
      → n ≡ o + 8 + 8 * length places
  unfolding queue_fields
  queue_found o places n e =
      let f = both_found bytes (λ k. times k more_places []) (field anything bytes o) places n e in
      let a1 = word_next anything o f.x f.m f.one in
      let all = times_keep more_places bytes (ArePlacesFound f.m) (λ k s m t j p g. one_place f.m k s m t j p g)
      f.x 0 [] f.m places n (record { count = refl; next = omega arith }) f.two in
      let many = all.count in
      let next = all.next in
      omega arith

  -- ---- all tables

  -- what is known of the tables: who holds all others, their steps and handles, and that they take so many bytes at
  -- least, if any
  pub record AreTablesFound (o : ℕ) (t : Tables) (n : ℕ) : Type 0 where
    pub steps : length t.steps ≡ 16
    pub holder : IfSome t.holder (λ h. is_thread h ≡ true)
    pub known : AllByRecursion (IsKnownStep rows) t.steps
    pub new : AllByRecursion (IsNewStep rows head.large) t.steps
    pub few : length t.handles ≤ 65536
    pub rising : IsRisingBy number_of t.handles
    pub below : AllByRecursion (λ (e : ℕ × Handle). e.0 < 65536) t.handles
    pub owned : AllByRecursion (λ (e : ℕ × Handle). HasItsSecond e.1) t.handles
    pub room : o + (32 * length t.handles + 8 * length t.entries + 8 * length t.ready) ≤ n

  -- a number up to 16 is none or that of a thread
  thread_found : (t : ℕ) → is_up_to 16 t ≡ true → IfSome (thread_or_none t) (λ h. is_thread h ≡ true)
  thread_found t most = go (t == 0) refl
    where
      go : (b : Bool) → (t == 0) ≡ b → IfSome (if b then None else Some t) (λ h. is_thread h ≡ true)
      go true e = tt
      go false e = grind (arith, nat_tests, most, e)

  pub tables_found : (o : ℕ) (t : Tables) (n : ℕ) → tables_fields head rows bytes o ≡ found t n → AreTablesFound o t n
  unfolding tables_fields
  tables_found o t n e =
      let a = both_found bytes (λ holder. after holder) (field (is_up_to 16) bytes o) t n e in
      let b = both_found bytes (λ steps. behind a.x steps) (all_steps head rows bytes a.m) t n a.two in
      let c = both_found bytes (λ handles. last a.x b.x handles) (all_handles bytes b.m) t n b.two in
      let d = both_found bytes (λ entries. very_last a.x b.x c.x entries) (queue_fields bytes c.m) t n c.two in
      let f = both_found bytes (λ ready. gives (made a.x b.x c.x d.x ready)) (queue_fields bytes d.m) t n d.two in
      let same : made a.x b.x c.x d.x f.x ≡ t = (gave (made a.x b.x c.x d.x f.x) f.m t n f.two).0 in
      let at : f.m ≡ n = (gave _ f.m _ n f.two).1 in
      let a1 = word_next (is_up_to 16) o a.x a.m a.one in
      let steps = steps_found a.m b.x b.m b.one in
      let (handles, few) = handles_found b.m c.x c.m c.one in
      let entries = queue_found c.m d.x d.m d.one in
      let ready = queue_found d.m f.x f.m f.one in
      let steps_next = steps.next in
      let handles_next = handles.next in
      subst (λ (u : Tables). AreTablesFound o u n) same (record {
        steps = steps.count;
        holder = thread_found a.x (word_good (is_up_to 16) o a.x a.m a.one);
        known = steps.known;
        new = steps.new;
        few = few;
        rising = handles.rising;
        below = handles.below;
        owned = handles.owned;
        room = omega arith;
      })
    where
      made : ℕ → List Step → List (ℕ × Handle) → List ℕ → List ℕ → Tables
      made holder steps handles entries ready = record {
        holder = thread_or_none holder;
        steps = steps;
        handles = handles;
        entries = entries;
        ready = ready;
      }

      very_last : ℕ → List Step → List (ℕ × Handle) → List ℕ → List ℕ → ℕ → Found Tables
      very_last holder steps handles entries =
          queue_fields >>= (λ ready. gives (made holder steps handles entries ready))

      last : ℕ → List Step → List (ℕ × Handle) → List ℕ → ℕ → Found Tables
      last holder steps handles = queue_fields >>= very_last holder steps handles

      behind : ℕ → List Step → List ℕ → ℕ → Found Tables
      behind holder steps = all_handles >>= last holder steps

      after : ℕ → List ℕ → ℕ → Found Tables
      after holder = all_steps head rows >>= behind holder

  all_idle : (n : ℕ) → AllByRecursion (IsKnownStep rows) (replicate n Idle)
  all_idle zero = tt
  all_idle (suc n) = (tt, all_idle n)

  all_new : (n : ℕ) → AllByRecursion (IsNewStep rows head.large) (replicate n Idle)
  all_new zero = tt
  all_new (suc n) = (tt, all_new n)

  -- an image of the first version has none
  pub none_found : (o : ℕ) (t : Tables) (n : ℕ) → gives no_tables bytes o ≡ found t n → AreTablesFound o t n
  none_found o t n e =
      let same : no_tables ≡ t = cc in
      let at : o ≡ n = cc in
      subst (λ (u : Tables). AreTablesFound o u n) same (record {
        steps = refl;
        holder = tt;
        known = all_idle 16;
        new = all_new 16;
        few = omega arith;
        rising = tt;
        below = tt;
        owned = tt;
        room = omega arith;
      })
