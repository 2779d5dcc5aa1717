-- What one thread has begun, among all of them: as a step of the machine, and counted.
use Rattle.std.proofs.Common.{◌≡◌, ◌≢◌, ℕ, zero, suc, ◌+◌, ◌-◌, ◌<◌, ◌≤◌, List, [], ◌∷◌, length, map, get_or, set, drop}
use Rattle.std.proofs.Common.{slice_set, Bool, true, false, if◌then◌else◌, nat_le, refl, sym, ap, ◌∙◌, arith, Some}
use Rattle.std.proofs.Common.{None}
use Rattle.std.specs.Prelude.{slice_get}
use Rattle.std.proofs.lemmas.Bool.{and_parts, leb-true}
use Rattle.std.proofs.lemmas.List.{drop_more, drop_all, drop-map, map-set}
use Rattle.clr_types.specs.Rising.{IsIn, first, later}
use Rattle.clr_model.specs.Machine.{ThreadStep}
use Rattle.clr_model.specs.Lookups.{is_step, is_thread, lowest_step_from, step_or_none}
use Rattle.clr_safe.specs.declared.begun.Begun.{Begun}
use Rattle.clr_safe.specs.declared.begun.Begun.TheVariants.{Nothing}
use Rattle.clr_safe.specs.Threads.{begun_by, owed_by, owed_in, owes_entry, step_by, steps_of, Threads}

-- ---- walks over all threads

-- one thread more is passed that has begun nothing
pub lowest_passed : (xs : List Begun) (i : ℕ) (d : Begun) → i < length xs → is_step (step_by (get_or xs i d)) ≡ false
    → lowest_step_from (i + 1) (drop i (map step_by xs)) ≡ lowest_step_from (i + 1 + 1) (drop (i + 1) (map step_by xs))
lowest_passed xs i d within idle =
    ap (lowest_step_from (i + 1)) (drop-map step_by i xs ∙ ap (map step_by) (drop_more xs i d within))
    ∙ ap (λ b. if b then Some (i + 1) else lowest_step_from (i + 1 + 1) (map step_by (drop (i + 1) xs))) idle
    ∙ ap (lowest_step_from (i + 1 + 1)) (sym (drop-map step_by (i + 1) xs))

-- or the lowest that has begun something is found
pub lowest_found : (xs : List Begun) (i : ℕ) (d : Begun) → i < length xs → is_step (step_by (get_or xs i d)) ≡ true
    → lowest_step_from (i + 1) (drop i (map step_by xs)) ≡ Some (i + 1)
lowest_found xs i d within busy =
    ap (lowest_step_from (i + 1)) (drop-map step_by i xs ∙ ap (map step_by) (drop_more xs i d within))
    ∙ ap (λ b. if b then Some (i + 1) else lowest_step_from (i + 1 + 1) (map step_by (drop (i + 1) xs))) busy

-- or all are passed
pub lowest_none : (xs : List Begun) (i : ℕ) → length xs ≤ i → lowest_step_from (i + 1) (drop i (map step_by xs)) ≡ None
lowest_none xs i past = ap (lowest_step_from (i + 1)) (drop-map step_by i xs ∙ ap (map step_by) (drop_all i xs past))

-- what is owed by the threads past the last is nothing
pub owed_past : (xs : List Begun) (i : ℕ) → length xs ≤ i → owed_in (drop i xs) ≡ 0
owed_past xs i past = ap owed_in (drop_all i xs past)

-- ---- one thread's entry

step-at : (xs : List Begun) (i : ℕ) → step_or_none (slice_get (map step_by xs) i) ≡ step_by (get_or xs i Nothing)
step-at [] i = refl
step-at (x ∷ xs) zero = refl
step-at (x ∷ xs) (suc i) = step-at xs i

-- what a thread has begun is its step
pub step_of-begun : (threads : Threads) (t : ℕ)
    → step_or_none (slice_get (steps_of threads) (t - 1)) ≡ step_by (begun_by threads t)
step_of-begun threads t = step-at threads.begun (t - 1)

-- its entry is there
pub entry-within : (t n : ℕ) → is_thread t ≡ true → n ≡ 16 → t - 1 < n
entry-within t n thread all =
    let (low, high) = and_parts (nat_le 1 t) (nat_le t 16) thread in
    let a = leb-true 1 t low in
    let b = leb-true t 16 high in
    omega arith

-- ---- one entry written

-- its step is written among the steps
pub steps_of-set : (xs : List Begun) (i : ℕ) (what : Begun)
    → map step_by (set xs i what) ≡ slice_set (map step_by xs) i (step_by what)
steps_of-set xs i what = map-set step_by xs i what

-- what it owes comes to what is owed, and what was there before owes no more
pub owed-set : (xs : List Begun) (i : ℕ) (what : Begun) → i < length xs
    → owed_in (set xs i what) + owed_by (get_or xs i Nothing) ≡ owed_in xs + owed_by what
owed-set [] i what within = absurd (omega arith)
owed-set (x ∷ xs) zero what within = omega arith
owed-set (x ∷ xs) (suc i) what within = let rest = owed-set xs i what (omega arith) in omega (arith, rest)

one-owed : (what : Begun) → owed_by what ≤ 1
one-owed what = go (owes_entry what)
  where
    go : (b : Bool) → (if b then 1 else 0) ≤ 1
    go true = omega arith
    go false = omega arith

-- so one more is owed at most
pub owed-one_more : (xs : List Begun) (i : ℕ) (what : Begun) → i < length xs → owed_in (set xs i what) ≤ owed_in xs + 1
owed-one_more xs i what within =
    let all = owed-set xs i what within in let one = one-owed what in omega (arith, all, one)

-- and no more than before, where what is begun owes nothing
pub owed-no_more : (xs : List Begun) (i : ℕ) (what : Begun) → i < length xs → owes_entry what ≡ false
    → owed_in (set xs i what) ≤ owed_in xs
owed-no_more xs i what within none =
    let all = owed-set xs i what within in
    let free : owed_by what ≡ 0 = ap (λ b. if b then 1 else 0) none in
    omega (arith, all, free)

-- a thread that has begun an object with an entry owes one, and owes it no more when it has ended
pub owed-paid : (xs : List Begun) (i : ℕ) (what : Begun) → i < length xs → owes_entry (get_or xs i Nothing) ≡ true
    → owes_entry what ≡ false → owed_in (set xs i what) + 1 ≡ owed_in xs
owed-paid xs i what within owes none =
    let all = owed-set xs i what within in
    let free : owed_by what ≡ 0 = ap (λ b. if b then 1 else 0) none in
    let one : owed_by (get_or xs i Nothing) ≡ 1 = ap (λ b. if b then 1 else 0) owes in
    omega (arith, all, free, one)

-- what is begun stands in the list of steps
pub begun-among : (xs : List Begun) (i : ℕ) (what : Begun) → i < length xs
    → IsIn (step_by what) (slice_set (map step_by xs) i (step_by what))
begun-among [] i what within = absurd (omega arith)
begun-among (x ∷ xs) zero what within = first
begun-among (x ∷ xs) (suc i) what within = later (begun-among xs i what (omega arith))

-- a step that stands there and isn't this thread's old one, stands there still
pub among-still : (s : ThreadStep) (xs : List ThreadStep) (i : ℕ) (new : ThreadStep) → IsIn s xs
    → step_or_none (slice_get xs i) ≢ s → IsIn s (slice_set xs i new)
among-still s [] i new j apart = elim j [ ]
among-still s (x ∷ xs) zero new first apart = absurd (apart refl)
among-still s (x ∷ xs) zero new (later j) apart = later j
among-still s (x ∷ xs) (suc i) new first apart = first
among-still s (x ∷ xs) (suc i) new (later j) apart = later (among-still s xs i new j apart)
