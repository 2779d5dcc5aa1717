-- Entries that are sorted by their verdicts, one after the other.
use Rattle.std.proofs.Common.{◌≡◌, ℕ, suc, ◌+◌, ◌<◌, ◌≤◌, ◌++◌, Bool, true, false, cond, ltb, List, [], ◌∷◌, length}
use Rattle.std.proofs.Common.{take, drop, get_or, set, refl, sym, ap, ◌∙◌, subst, subst₂, arith, append_assoc}
use Rattle.std.proofs.Common.{MatchBool}
use Rattle.std.proofs.lemmas.Bool.{lt-ltb}
use Rattle.std.proofs.lemmas.List.{append-nil, take_all, take_more, take_more_set, length-take, get_or-take}
use Rattle.std.proofs.lemmas.List.{length-append, length-set, get_or-set_other, drop-append-le}
use Rattle.std.specs.List.{AllZip}
use Rattle.clr_final.specs.declared.verdict.Verdict.{Verdict}
use Rattle.clr_final.specs.declared.verdict.Verdict.TheVariants.{Alive, Woken, Dropped}
use Rattle.clr_final.specs.Places.{PlaceList}
use Rattle.clr_final.specs.Queues.{AreQueues, ArePlacesJudged, IsJudged, is_alive, HasJudged, is_woken, queues}
use Rattle.clr_final.specs.Queues.{with_verdict}

pub at-match : (b : Bool) (P Q : Type 0) → b ≡ true → P → MatchBool b P Q
at-match true P Q e p = p
at-match false P Q e p = absurd cc

-- one verdict more
zip-push : {A B : Type 0} (R : A → B → Type 0) (xs : List A) (ys : List B) (x : A) (y : B) → AllZip R xs ys → R x y
    → AllZip R (xs ++ x ∷ []) (ys ++ y ∷ [])
zip-push R [] [] x y all last = (last, tt)
zip-push R [] (y' ∷ ys) x y all last = absurd all
zip-push R (x' ∷ xs) [] x y all last = absurd all
zip-push R (x' ∷ xs) (y' ∷ ys) x y all last = (all.0, zip-push R xs ys x y all.1 last)

abbrev pub one_if : Bool → ℕ → List ℕ
one_if b p = cond b (p ∷ []) []

under-if : (b : Bool) (p : ℕ) (xs ys : List ℕ) → cond b (p ∷ (xs ++ ys)) (xs ++ ys) ≡ cond b (p ∷ xs) xs ++ ys
under-if true p xs ys = refl
under-if false p xs ys = refl

with_verdict-push : (answers : ℕ → Verdict → Type 0) (is : Verdict → Bool) (ps : List ℕ) (vs : List Verdict) (p : ℕ)
    (v : Verdict) → AllZip answers ps vs
    → with_verdict is (ps ++ p ∷ []) (vs ++ v ∷ []) ≡ with_verdict is ps vs ++ one_if (is v) p
with_verdict-push answers is [] [] p v all = refl
with_verdict-push answers is [] (v' ∷ vs) p v all = absurd all
with_verdict-push answers is (p' ∷ ps) [] p v all = absurd all
with_verdict-push answers is (p' ∷ ps) (v' ∷ vs) p v all =
    ap (λ rest. cond (is v') (p' ∷ rest) rest) (with_verdict-push answers is ps vs p v all.1)
    ∙ under-if (is v') p' (with_verdict is ps vs) (one_if (is v) p)

module _ (answers : ℕ → Verdict → Type 0) (low : ℕ) where
  -- places that all lie below `low` stay
  pub sorted-below : (xs ready : List ℕ) → ((i : ℕ) → i < length xs → get_or xs i 0 < low)
      → ArePlacesJudged answers low xs xs ready ready
  sorted-below [] ready below = record { verdicts = []; judged = tt; alive = refl; woken = sym (append-nil ready) }
  sorted-below (x ∷ xs) ready below =
      let rest = sorted-below xs ready (λ i inside. below (suc i) (omega (arith, inside))) in
      record {
        verdicts = Alive ∷ rest.verdicts;
        judged = (at-match (ltb x low) _ _ (lt-ltb x low (below 0 (omega arith))) refl, rest.judged);
        alive = ap (λ ys. x ∷ ys) rest.alive;
        woken = rest.woken;
      }

  -- one place more
  pub sorted-push : (old new ready ready' : List ℕ) (place : ℕ) (verdict : Verdict)
      → ArePlacesJudged answers low old new ready ready' → IsJudged answers low place verdict
      → ArePlacesJudged answers low (old ++ place ∷ []) (new ++ one_if (is_alive verdict) place) ready
      (ready' ++ one_if (is_woken verdict) place)
  sorted-push old new ready ready' place verdict sorted judged =
      record {
        verdicts = sorted.verdicts ++ verdict ∷ [];
        judged = zip-push (IsJudged answers low) old sorted.verdicts place verdict sorted.judged judged;
        alive =
            ap (λ xs. xs ++ one_if (is_alive verdict) place) sorted.alive
            ∙ sym (with_verdict-push (IsJudged answers low) is_alive old sorted.verdicts place verdict sorted.judged);
        woken =
            ap (λ xs. xs ++ one_if (is_woken verdict) place) sorted.woken
            ∙ append_assoc ready (with_verdict is_woken old sorted.verdicts) (one_if (is_woken verdict) place)
            ∙ ap (λ xs. ready ++ xs) (sym
            (with_verdict-push (IsJudged answers low) is_woken old sorted.verdicts place verdict sorted.judged));
      }

  -- the items that are kept, where one more was put behind them
  kept-one : (b : Bool) (now : List ℕ) (kept place : ℕ) → kept < length now
      → take (cond b (kept + 1) kept) (cond b (set now kept place) now) ≡ take kept now ++ one_if b place
  kept-one true now kept place inside = take_more_set now kept place inside
  kept-one false now kept place inside = sym (append-nil (take kept now))

  -- a turn of the loop
  pub sorted-turn : (old now ready ready' : List ℕ) (i kept place : ℕ) (verdict : Verdict) → i < length old
      → kept < length now → place ≡ get_or old i 0
      → ArePlacesJudged answers low (take i old) (take kept now) ready ready' → IsJudged answers low place verdict
      → ArePlacesJudged answers low (take (i + 1) old)
      (take (cond (is_alive verdict) (kept + 1) kept) (cond (is_alive verdict) (set now kept place) now)) ready
      (ready' ++ one_if (is_woken verdict) place)
  sorted-turn old now ready ready' i kept place verdict inside room is sorted judged =
      let front : take (i + 1) old ≡ take i old ++ place ∷ [] =
      take_more old i 0 inside ∙ ap (λ p. take i old ++ p ∷ []) (sym is) in
      subst₂ (λ xs ys. ArePlacesJudged answers low xs ys ready (ready' ++ one_if (is_woken verdict) place))
      (sym front) (sym (kept-one (is_alive verdict) now kept place room))
      (sorted-push (take i old) (take kept now) ready ready' place verdict sorted judged)

-- the start of the loop: what is settled stays
pub sorted-start : (answers : ℕ → Verdict → Type 0) (low : ℕ) (old ready : List ℕ) (start : ℕ) → start ≤ length old
    → ((i : ℕ) → i < start → get_or old i 0 < low)
    → ArePlacesJudged answers low (take start old) (take start old) ready ready
sorted-start answers low old ready start inside below =
    sorted-below answers low (take start old) ready (λ i within.
    let less : i < start = omega (arith, within, length-take start old) in
    subst (λ n. n < low) (sym (get_or-take start old i 0 less)) (below i less))

-- how the lengths change where one more place is put
pub length-one : (b : Bool) (p : ℕ) (xs : List ℕ) → length (xs ++ one_if b p) ≡ length xs + cond b 1 0
length-one true p xs = length-append xs (p ∷ [])
length-one false p xs = length-append xs []

pub kept-length : (b : Bool) (xs : List ℕ) (i p : ℕ) → length (cond b (set xs i p) xs) ≡ length xs
kept-length true xs i p = length-set xs i p
kept-length false xs i p = refl

pub kept-ahead : (b : Bool) (xs : List ℕ) (kept i p k : ℕ) → kept ≤ i → i + 1 ≤ k
    → get_or (cond b (set xs kept p) xs) k 0 ≡ get_or xs k 0
kept-ahead true xs kept i p k few ahead = get_or-set_other xs kept k p 0 (λ e. omega (arith, few, ahead, e))
kept-ahead false xs kept i p k few ahead = refl

-- a place is kept, or woken, or neither
pub room-turn : (v : Verdict) (kept n : ℕ)
    → (n + cond (is_woken v) 1 0) + cond (is_alive v) (kept + 1) kept ≤ n + kept + 1
room-turn Alive kept n = omega arith
room-turn Woken kept n = omega arith
room-turn Dropped kept n = omega arith

pub kept-turn : (v : Verdict) (kept : ℕ) → cond (is_alive v) (kept + 1) kept ≤ kept + 1
kept-turn Alive kept = omega arith
kept-turn Woken kept = omega arith
kept-turn Dropped kept = omega arith

-- ---- afterwards

fewer-verdicts : (answers : ℕ → Verdict → Type 0) (ps : List ℕ) (vs : List Verdict) → AllZip answers ps vs
    → length (with_verdict is_alive ps vs) + length (with_verdict is_woken ps vs) ≤ length ps
fewer-verdicts answers [] vs all = omega arith
fewer-verdicts answers (p ∷ ps) [] all = absurd all
fewer-verdicts answers (p ∷ ps) (Alive ∷ vs) all = let rest = fewer-verdicts answers ps vs all.1 in omega (arith, rest)
fewer-verdicts answers (p ∷ ps) (Woken ∷ vs) all = let rest = fewer-verdicts answers ps vs all.1 in omega (arith, rest)
fewer-verdicts answers (p ∷ ps) (Dropped ∷ vs) all = let rest = fewer-verdicts answers ps vs all.1 in
    omega (arith, rest)

-- no more places than before
pub record AreFewer (old new ready ready' : List ℕ) : Type 0 where
  pub entries : length new ≤ length old
  pub both : length ready' + length new ≤ length ready + length old
  pub longer : length ready ≤ length ready'

pub fewer-sorted : (answers : ℕ → Verdict → Type 0) (low : ℕ) (old new ready ready' : List ℕ)
    → ArePlacesJudged answers low old new ready ready' → AreFewer old new ready ready'
fewer-sorted answers low old new ready ready' sorted =
    let fewer = fewer-verdicts (IsJudged answers low) old sorted.verdicts sorted.judged in
    let alive = ap length sorted.alive in
    let woken = ap length sorted.woken ∙ length-append ready (with_verdict is_woken old sorted.verdicts) in
    record {
      entries = omega (arith, fewer, alive);
      both = omega (arith, fewer, alive, woken);
      longer = omega (arith, woken);
    }

-- the same with the first f-reachable places taken
pub sorted-taken : (answers : ℕ → Verdict → Type 0) (low taken : ℕ) (old new ready ready' : List ℕ)
    → taken ≤ length ready → ArePlacesJudged answers low old new ready ready'
    → ArePlacesJudged answers low old new (drop taken ready) (drop taken ready')
sorted-taken answers low taken old new ready ready' few sorted =
    record {
      verdicts = sorted.verdicts;
      judged = sorted.judged;
      alive = sorted.alive;
      woken = ap (drop taken) sorted.woken ∙ drop-append-le taken ready (with_verdict is_woken old sorted.verdicts) few;
    }

-- ---- the loop: the first i of the old entries are sorted, and the first `kept` of the new ones stay

pub record IsSorting (answers : ℕ → Verdict → Type 0) (low : ℕ) (old start : PlaceList) (i kept : ℕ)
    (entries ready : PlaceList) : Type 0 where
  pub few : kept ≤ i
  pub within : i ≤ length old.items
  pub same_length : length entries.items ≡ length old.items
  pub sorted : ArePlacesJudged answers low (take i old.items) (take kept entries.items) start.items ready.items
  pub ahead : (k : ℕ) → i ≤ k → get_or entries.items k 0 ≡ get_or old.items k 0
  pub room : length ready.items + kept ≤ length start.items + i
  pub entries_capacity : entries.capacity ≡ old.capacity
  pub ready_capacity : ready.capacity ≡ start.capacity

pub sorting-start : (answers : ℕ → Verdict → Type 0) (low : ℕ) (old ready : PlaceList) (start : ℕ)
    → start ≤ length old.items → ((i : ℕ) → i < start → get_or old.items i 0 < low)
    → IsSorting answers low old ready start start old ready
sorting-start answers low old ready start inside below =
    record {
      few = omega arith;
      within = inside;
      same_length = refl;
      sorted = sorted-start answers low old.items ready.items start inside below;
      ahead = λ k past. refl;
      room = omega arith;
      entries_capacity = refl;
      ready_capacity = refl;
    }

abbrev pub put_entries : Verdict → PlaceList → ℕ → ℕ → PlaceList
put_entries v entries kept place =
    record entries { items = cond (is_alive v) (set entries.items kept place) entries.items }

abbrev pub put_ready : Verdict → PlaceList → ℕ → PlaceList
put_ready v ready place = record ready { items = ready.items ++ one_if (is_woken v) place }

sorting-put : (answers : ℕ → Verdict → Type 0) (low : ℕ) (old start entries ready : PlaceList) (i kept place : ℕ)
    (v : Verdict) → IsSorting answers low old start i kept entries ready → i < length old.items
    → place ≡ get_or entries.items i 0 → IsJudged answers low place v
    → IsSorting answers low old start (i + 1) (cond (is_alive v) (kept + 1) kept) (put_entries v entries kept place)
    (put_ready v ready place)
sorting-put answers low old start entries ready i kept place v inv inside read judged =
    let few = inv.few in
    let same = inv.same_length in
    let held : kept < length entries.items = omega (arith, few, same, inside) in
    let is : place ≡ get_or old.items i 0 = read ∙ inv.ahead i (omega arith) in
    record {
      few = let turn = kept-turn v kept in omega (arith, turn, few);
      within = omega (arith, inside);
      same_length = kept-length (is_alive v) entries.items kept place ∙ same;
      sorted =
          sorted-turn answers low old.items entries.items start.items ready.items i kept place v inside held is
          inv.sorted judged;
      ahead =
          λ k past. kept-ahead (is_alive v) entries.items kept i place k few past ∙ inv.ahead k (omega (arith, past));
      room =
          let before = inv.room in
          let turn = room-turn v kept (length ready.items) in
          let more = length-one (is_woken v) place ready.items in
          omega (arith, before, turn, more);
      entries_capacity = inv.entries_capacity;
      ready_capacity = inv.ready_capacity;
    }

pub sorting-turn : (answers : ℕ → Verdict → Type 0) (low : ℕ) (old start entries ready entries' ready' : PlaceList)
    (i kept kept' place : ℕ) (v : Verdict) → IsSorting answers low old start i kept entries ready
    → i < length old.items → place ≡ get_or entries.items i 0 → IsJudged answers low place v
    → kept' ≡ cond (is_alive v) (kept + 1) kept → entries' ≡ put_entries v entries kept place
    → ready' ≡ put_ready v ready place
    → IsSorting answers low old start (i + 1) kept' entries' ready'
sorting-turn answers low old start entries ready entries' ready' i kept kept' place v inv inside read judged kept-is
    entries-is ready-is =
    subst (λ k. IsSorting answers low old start (i + 1) k entries' ready') (sym kept-is)
    (subst (λ e. IsSorting answers low old start (i + 1) (cond (is_alive v) (kept + 1) kept) e ready') (sym entries-is)
    (subst (λ r. IsSorting answers low old start (i + 1) (cond (is_alive v) (kept + 1) kept)
    (put_entries v entries kept place) r) (sym ready-is)
    (sorting-put answers low old start entries ready i kept place v inv inside read judged)))

-- the end of the loop
pub sorting-end : (answers : ℕ → Verdict → Type 0) (low : ℕ) (old start entries ready : PlaceList) (i kept : ℕ)
    → IsSorting answers low old start i kept entries ready → length old.items ≤ i
    → ArePlacesJudged answers low old.items (take kept entries.items) start.items ready.items
sorting-end answers low old start entries ready i kept inv all =
    subst (λ xs. ArePlacesJudged answers low xs (take kept entries.items) start.items ready.items)
    (take_all i old.items all) inv.sorted

-- ---- the queue afterwards

module _ (answers : ℕ → Verdict → Type 0) (low : ℕ) (old new settled ready ready' : PlaceList) (taken : ℕ)
    (sorted : ArePlacesJudged answers low old.items new.items ready.items ready'.items) where
  pub sorted-room : ready'.capacity ≡ ready.capacity → settled ≡ new → AreQueues old ready taken
      → AreQueues settled ready' taken
  sorted-room same is were =
      let fewer = fewer-sorted answers low old.items new.items ready.items ready'.items sorted in
      let both = fewer.both in
      let longer = fewer.longer in
      let few = were.taken_few in
      let room = were.room in
      subst (λ e. AreQueues e ready' taken) (sym is)
      (record { taken_few = omega (arith, few, longer); room = omega (arith, room, both, same) })

  pub sorted-queues : new.capacity ≡ old.capacity → ready'.capacity ≡ ready.capacity → settled ≡ new
      → AreQueues old ready taken → HasJudged answers low (queues old ready taken) (queues settled ready' taken)
  sorted-queues same same' is were =
      let fewer = fewer-sorted answers low old.items new.items ready.items ready'.items sorted in
      let both = fewer.both in
      let less = fewer.entries in
      subst (λ e. HasJudged answers low (queues old ready taken) (queues e ready' taken)) (sym is)
      (record {
        places = sorted-taken answers low taken old.items new.items ready.items ready'.items were.taken_few sorted;
        spare = omega (arith, both, less, same, same');
        none_added =
            let longer = fewer.longer in
            let room = were.room in
            omega (arith, both, less, longer, room, same, same');
      })
