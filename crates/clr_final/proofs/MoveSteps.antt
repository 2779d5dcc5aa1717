-- Places that follow their objects, one after the other.
use Rattle.std.proofs.Common.{◌≡◌, ◌⊎◌, ℕ, suc, ◌+◌, ◌-◌, ◌<◌, ◌≤◌, ltb, List, [], ◌∷◌, length, take, drop, get_or, inl}
use Rattle.std.proofs.Common.{inr, sym, ap, ◌∙◌, subst, arith}
use Rattle.std.proofs.lemmas.Bool.{cases_lt, lt-ltb}
use Rattle.std.proofs.lemmas.List.{drop-drop, get_or-drop, length-drop, take_rest}
use Rattle.std.specs.List.{AllZip}
use Rattle.clr_final.specs.Places.{PlaceList}
use Rattle.clr_final.specs.Queues.{AreQueues, HasAllFrom, HaveMoved, IsMoved, IsMovedBetween, MayAsk, queues}
use Rattle.clr_final.proofs.JudgeSteps.{at-match}

-- a relation at each index is one of the lists
zip-from_places : (R : ℕ → ℕ → Type 0) (xs ys : List ℕ) → length ys ≡ length xs
    → ((i : ℕ) → i < length xs → R (get_or xs i 0) (get_or ys i 0)) → AllZip R xs ys
zip-from_places R [] [] same at = tt
zip-from_places R [] (y ∷ ys) same at = absurd (omega (arith, same))
zip-from_places R (x ∷ xs) [] same at = absurd (omega (arith, same))
zip-from_places R (x ∷ xs) (y ∷ ys) same at =
    (at 0 (omega arith), zip-from_places R xs ys (omega (arith, same)) (λ i inside. at (suc i) (omega (arith, inside))))

module _ (answers : ℕ → ℕ → Type 0) (low : ℕ) where
  moved-below : (place moved : ℕ) → place < low → moved ≡ place → IsMoved answers low place moved
  moved-below place moved less same = at-match (ltb place low) _ _ (lt-ltb place low less) same

  -- all places behind the first `taken`, where what isn't looked at lies below `low`
  pub moved-all : (old new : List ℕ) (taken start : ℕ) → taken ≤ length old
      → IsMovedBetween answers low old new start (length old) → ((i : ℕ) → taken ≤ i → i < start → get_or old i 0 < low)
      → AllZip (IsMoved answers low) (drop taken old) (drop taken new)
  moved-all old new taken start few moved below =
      zip-from_places (IsMoved answers low) (drop taken old) (drop taken new)
      (length-drop taken new ∙ ap (λ n. n - taken) moved.same_length ∙ sym (length-drop taken old))
      (λ i inside.
      let count = length-drop taken old in
      let within : taken + i < length old = omega (arith, count, inside) in
      subst (λ p. IsMoved answers low p (get_or (drop taken new) i 0)) (sym (get_or-drop taken old i 0))
      (subst (λ p. IsMoved answers low (get_or old (taken + i) 0) p) (sym (get_or-drop taken new i 0))
      (at (taken + i) (omega arith) within (cases_lt (taken + i) start))))
    where
      at : (k : ℕ) → taken ≤ k → k < length old → (k < start) ⊎ (start ≤ k)
          → IsMoved answers low (get_or old k 0) (get_or new k 0)
      at k from within (inl early) =
          moved-below (get_or old k 0) (get_or new k 0) (below k from early) (moved.before k early)
      at k from within (inr late) = moved.moved k late within

  -- ---- the queue afterwards

  module _ (old new settled ready ready' settled' : PlaceList) (taken start first : ℕ)
      (same : new.capacity ≡ old.capacity) (same' : ready'.capacity ≡ ready.capacity)
      (moved : IsMovedBetween answers low old.items new.items start (length old.items))
      (moved' : IsMovedBetween answers low ready.items ready'.items first (length ready.items))
      (is : settled ≡ new) (is' : settled' ≡ ready') (were : AreQueues old ready taken) where
    pub moved-room : AreQueues settled settled' taken
    moved-room =
        let few = were.taken_few in
        let room = were.room in
        let long = moved.same_length in
        let long' = moved'.same_length in
        subst (λ e. AreQueues e settled' taken) (sym is)
        (subst (λ r. AreQueues new r taken) (sym is')
        (record { taken_few = omega (arith, few, long'); room = omega (arith, room, long, long', same') }))

    pub moved-queues : ((i : ℕ) → i < start → get_or old.items i 0 < low)
        → ((i : ℕ) → taken ≤ i → i < first → get_or ready.items i 0 < low)
        → HaveMoved answers low (queues old ready taken) (queues settled settled' taken)
    moved-queues below below' =
        let few = were.taken_few in
        let long = moved.same_length in
        let long' = moved'.same_length in
        subst (λ e. HaveMoved answers low (queues old ready taken) (queues e settled' taken)) (sym is)
        (subst (λ r. HaveMoved answers low (queues old ready taken) (queues new r taken)) (sym is')
        (record {
          entries = moved-all old.items new.items 0 start (omega arith) moved (λ i from early. below i early);
          ready = moved-all ready.items ready'.items taken first few moved' below';
          spare = omega (arith, long, long', same, same');
        }))

-- what may be asked of the f-reachable places may be asked of those that aren't taken
pub ask-untaken : (low taken : ℕ) (xs : List ℕ) (P : ℕ → Type 0) → MayAsk low (drop taken xs) P → (i : ℕ) → taken ≤ i
    → i < length xs → low ≤ get_or xs i 0 → P (get_or xs i 0)
ask-untaken low taken xs P ask i from inside high =
    let at : taken + (i - taken) ≡ i = omega (arith, from) in
    let read : get_or (drop taken xs) (i - taken) 0 ≡ get_or xs i 0 =
    get_or-drop taken xs (i - taken) 0 ∙ ap (λ k. get_or xs k 0) at in
    let count = length-drop taken xs in
    subst P read (ask (i - taken) (omega (arith, count, from, inside)) (omega (arith, read, high)))

-- what lies between the taken ones and the later of two indexes is settled
pub settled-untaken : (low taken settled first : ℕ) (xs : List ℕ) → (first ≡ settled) ⊎ (first ≡ taken)
    → ((i : ℕ) → i < settled → get_or xs i 0 < low) → (i : ℕ) → taken ≤ i → i < first → get_or xs i 0 < low
settled-untaken low taken settled first xs (inl e) below i from early = below i (omega (arith, e, early))
settled-untaken low taken settled first xs (inr e) below i from early = absurd (omega (arith, e, early, from))

-- the places that aren't taken, but for some that are settled
pub from-untaken : (low taken first : ℕ) (items told ready : List ℕ) → told ≡ items → drop taken items ≡ ready
    → taken ≤ first → ((i : ℕ) → taken ≤ i → i < first → get_or items i 0 < low)
    → HasAllFrom low ready (take (length told - first) (drop first told))
from-untaken low taken first items told ready same is later settled =
    let at : taken + (first - taken) ≡ first = omega (arith, later) in
    record {
      first = first - taken;
      rest_is =
          take_rest told first ∙ ap (drop first) same ∙ ap (λ n. drop n items) (sym at)
          ∙ sym (drop-drop (first - taken) taken items) ∙ ap (drop (first - taken)) is;
      below = λ i inside.
          let read : get_or ready i 0 ≡ get_or items (taken + i) 0 =
          ap (λ xs. get_or xs i 0) (sym is) ∙ get_or-drop taken items i 0 in
          let less = settled (taken + i) (omega arith) (omega (arith, inside, later)) in
          omega (arith, read, less);
    }
