-- A machine whose threads have begun something else, or are held by another thread: it stays lawful, and is seen so.
use Rattle.std.proofs.Common.{◌≡◌, ℕ, zero, suc, ◌+◌, ◌-◌, ◌<◌, List, [], ◌∷◌, map, length, refl, ap, subst}
use Rattle.std.proofs.Common.{◌∙◌, arith, true, slice_set, Option, IfSome, IsTrue}
use Rattle.std.specs.Prelude.{slice_get}
use Rattle.std.specs.List.{AllByRecursion}
use Rattle.clr_types.proofs.ChangedLists.{all_imply, all-slice_set, length-slice_set, slice_get-slice_set}
use Rattle.clr_model.specs.Machine.{Machine, ThreadStep}
use Rattle.clr_model.specs.Lookups.{is_thread, place_of, step_of, step_or_none}
use Rattle.clr_model.specs.Updates.{with_step}
use Rattle.clr_model.specs.Picture.{picture, renamed_step}
use Rattle.clr_model.specs.Lawful.{AllFrom, HasItsRoom, IsBirthNamed, IsLawful, IsShaped, StepIsPresent}
use Rattle.clr_model.proofs.ContextChange.{thread-between}
use Rattle.clr_model.proofs.Naming.{map-slice_set}
use Rattle.clr_model.proofs.RootsChanged.{shaped_alike}
use Rattle.clr_model.proofs.MarkingKept.{marking_kept, old_as}

-- ---- what one thread has begun

-- each thread has its step
pub step-within : (m : Machine) → IsLawful m → (t : ℕ) → is_thread t ≡ true → t - 1 < length m.steps
step-within m h t thread =
    let (low, high) = thread-between t thread in let all = h.steps in omega (arith, low, high, all)

-- what is written there is its step
pub step_of-with : (m : Machine) (t : ℕ) (s : ThreadStep) → t - 1 < length m.steps → step_of (with_step m t s) t ≡ s
step_of-with m t s within = ap step_or_none (slice_get-slice_set m.steps (t - 1) s within)

step-renamed : (to : ℕ → ℕ) (steps : List ThreadStep) (i : ℕ)
    → step_or_none (slice_get (map (renamed_step to) steps) i) ≡ renamed_step to (step_or_none (slice_get steps i))
step-renamed to [] i = refl
step-renamed to (s ∷ ss) zero = refl
step-renamed to (s ∷ ss) (suc i) = step-renamed to ss i

-- the picture shows it, and the object of a begun store at its place
pub step_of-picture : (m : Machine) (t : ℕ) → step_of (picture m) t ≡ renamed_step (place_of m.objects) (step_of m t)
step_of-picture m t = step-renamed (place_of m.objects) m.steps (t - 1)

-- what it names is there
pub step-present : (m : Machine) → IsLawful m → (t : ℕ) → StepIsPresent m (step_of m t)
step-present m h t = go m.steps (t - 1) h.names.steps
  where
    go : (ss : List ThreadStep) (i : ℕ) → AllByRecursion (StepIsPresent m) ss
        → StepIsPresent m (step_or_none (slice_get ss i))
    go [] i all = tt
    go (s ∷ ss) zero all = all.0
    go (s ∷ ss) (suc i) all = go ss i all.1

-- and it has its room
pub step-room : (m : Machine) → IsLawful m → (t : ℕ) → is_thread t ≡ true → HasItsRoom m t (step_of m t)
step-room m h t thread =
    let (low, high) = thread-between t thread in
    let back : 1 + (t - 1) ≡ t = omega (arith, low) in
    subst (λ n. HasItsRoom m n (step_of m t)) back (go 1 m.steps (t - 1) h.rooms)
  where
    go : (u : ℕ) (ss : List ThreadStep) (i : ℕ) → AllFrom (HasItsRoom m) u ss
        → HasItsRoom m (u + i) (step_or_none (slice_get ss i))
    go u [] i all = tt
    go u (s ∷ ss) zero all = let same : u ≡ u + 0 = omega arith in subst (λ n. HasItsRoom m n s) same all.0
    go u (s ∷ ss) (suc i) all =
        let same : u + 1 + i ≡ u + suc i = omega arith in
        subst (λ n. HasItsRoom m n (step_or_none (slice_get ss i))) same (go (u + 1) ss i all.1)

-- ---- other steps, and another holder

pub record AreLawfulSteps (m : Machine) (steps : List ThreadStep) : Type 0 where
  pub present : AllByRecursion (StepIsPresent m) steps
  pub count : length steps ≡ 16
  pub rooms : AllFrom (HasItsRoom m) 1 steps

pub lawful_steps : (m : Machine) → IsLawful m → AreLawfulSteps m m.steps
lawful_steps m h = record { present = h.names.steps; count = h.steps; rooms = h.rooms }

abbrev pub with_threads : Machine → List ThreadStep → Option ℕ → Machine
with_threads m steps holder = record m { steps = steps; holder = holder }

-- a lawful machine with others of these is lawful
pub with_threads_lawful : (m : Machine) → IsBirthNamed m → (steps : List ThreadStep) (holder : Option ℕ)
    → AreLawfulSteps m steps → IfSome holder (λ t. IsTrue (is_thread t)) → IsBirthNamed (with_threads m steps holder)
with_threads_lawful m named steps holder begun held =
    let h = named.lawful in
    let next : Machine = with_threads m steps holder in
    record {
      lawful = record {
        options = h.options;
        types = h.types;
        type_count = h.type_count;
        type_names = h.type_names;
        type_words = h.type_words;
        names_rise = h.names_rise;
        shapes = all_imply (IsShaped m) (IsShaped next) m.objects (λ o. shaped_alike m next o refl) h.shapes;
        laid =
            record {
              layout = h.laid.layout;
              housed = h.laid.housed;
              tiled = h.laid.tiled;
              whole1 = h.laid.whole1;
              whole0 = h.laid.whole0;
            };
        rests_young = h.rests_young;
        suited = h.suited;
        limit = h.limit;
        names = record {
          slots = h.names.slots;
          locals = h.names.locals;
          handles = h.names.handles;
          entries = h.names.entries;
          ready = h.names.ready;
          steps = begun.present;
        };
        seconds = h.seconds;
        locals = h.locals;
        steps = begun.count;
        rooms = begun.rooms;
        holder = held;
        handle_count = h.handle_count;
        handle_numbers = h.handle_numbers;
        entries = h.entries;
        ready = h.ready;
        sums = record {
          spent0 = h.sums.spent0;
          spent_large = h.sums.spent_large;
          promoted1 = h.sums.promoted1;
          promoted2 = h.sums.promoted2;
        };
        marking =
            marking_kept m next m.background
            (old_as m next (λ o. o) (λ o. refl) (λ o i. i) (λ o i old. old)) h.marking;
      };
      born = named.born;
    }

-- ---- one change each

all_from-slice_set : (P : ℕ → ThreadStep → Type 0) (u : ℕ) (ss : List ThreadStep) (i : ℕ) (s : ThreadStep)
    → AllFrom P u ss → P (u + i) s → AllFrom P u (slice_set ss i s)
all_from-slice_set P u [] i s all here = tt
all_from-slice_set P u (x ∷ xs) zero s all here =
    let same : u + 0 ≡ u = omega arith in (subst (λ n. P n s) same here, all.1)
all_from-slice_set P u (x ∷ xs) (suc i) s all here =
    let same : u + suc i ≡ u + 1 + i = omega arith in
    (all.0, all_from-slice_set P (u + 1) xs i s all.1 (subst (λ n. P n s) same here))

-- steps with one that a thread has begun, for which there is room
pub step_written : (m : Machine) → IsLawful m → (t : ℕ) → is_thread t ≡ true → (s : ThreadStep) → StepIsPresent m s
    → HasItsRoom m t s → AreLawfulSteps m (slice_set m.steps (t - 1) s)
step_written m h t thread s there room =
    let (low, high) = thread-between t thread in
    let back : t ≡ 1 + (t - 1) = omega (arith, low) in
    record {
      present = all-slice_set (StepIsPresent m) m.steps (t - 1) s h.names.steps there;
      count = length-slice_set m.steps (t - 1) s ∙ h.steps;
      rooms = all_from-slice_set (HasItsRoom m) 1 m.steps (t - 1) s h.rooms
          (subst (λ n. HasItsRoom m n s) back room);
    }

-- a thread begins a step for which there is room, or has finished its step
pub with_step_lawful : (m : Machine) → IsBirthNamed m → (t : ℕ) → is_thread t ≡ true → (s : ThreadStep)
    → StepIsPresent m s → HasItsRoom m t s → IsBirthNamed (with_step m t s)
with_step_lawful m named t thread s there room =
    with_threads_lawful m named (slice_set m.steps (t - 1) s) m.holder
    (step_written m named.lawful t thread s there room) named.lawful.holder

-- and so it is seen
pub picture-with_step : (m : Machine) (t : ℕ) (s : ThreadStep)
    → picture (with_step m t s) ≡ with_step (picture m) t (renamed_step (place_of m.objects) s)
picture-with_step m t s =
    ap (λ steps. record (picture m) { steps = steps })
    (map-slice_set (renamed_step (place_of m.objects)) m.steps (t - 1) s)

-- a thread holds the others, or none does any more
pub with_holder_lawful : (m : Machine) → IsBirthNamed m → (holder : Option ℕ)
    → IfSome holder (λ t. IsTrue (is_thread t)) → IsBirthNamed (record m { holder = holder })
with_holder_lawful m named holder held =
    with_threads_lawful m named m.steps holder (lawful_steps m named.lawful) held
