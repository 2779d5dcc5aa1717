-- A machine whose layout changes while its objects stay.
use Rattle.std.proofs.Common.{◌≡◌, ◌≢◌, ℕ, suc, ◌+◌, ◌-◌, ◌<◌, ◌≤◌, ◌⊎◌, inl, inr, List, [], ◌∷◌, length, refl, sym, ap}
use Rattle.std.proofs.Common.{subst, ◌∙◌, arith, Bool, true, false, if◌then◌else◌, nat_le, nat_lt, get_or, slice_set}
use Rattle.std.proofs.Common.{Option, Some, None, IsTrue}
use Rattle.std.specs.Prelude.{slice_get}
use Rattle.std.specs.List.{AllByRecursion}
use Rattle.std.proofs.lemmas.Bool.{and_parts, leb-true, lt-ltb, le-ltb, ltb-false, cases_eq}
use Rattle.std.proofs.lemmas.Option.{slice_get-get_or}
use Rattle.clr_types.specs.Rising.{IsIn}
use Rattle.clr_types.specs.Ranges.{Piece, fits, range_piece}
use Rattle.clr_types.specs.Types.{form_at, size_of}
use Rattle.clr_types.specs.Segments.{Layout, stands_in, ephemeral, generation, reserved_sum, rest_pieces, rest_of}
use Rattle.clr_types.specs.Segments.{flat_option}
use Rattle.clr_types.proofs.ChangedLists.{all_imply, slice_get-slice_set}
use Rattle.clr_model.specs.Machine.{Object, ThreadStep, no_step, begun_store, begun_new, Machine}
use Rattle.clr_model.specs.Lookups.{is_thread, is_step, step_or_none, step_of}
use Rattle.clr_model.specs.Updates.{option_piece}
use Rattle.clr_model.specs.Allocation.{with_layout}
use Rattle.clr_model.specs.Lawful.{IsLawful, IsLaid, IsShaped, SuitsItsSegment, HasItsRoom, AllFrom}
use Rattle.clr_model.proofs.BoundedSums.{bounded_older}
use Rattle.clr_model.proofs.RestLists.{slice_get-elsewhere}
use Rattle.clr_model.proofs.MarkingKept.{marking_kept, old_as}

-- ---- the rest of a thread's context

-- a thread's number is from 1 to 16
pub thread-between : (t : ℕ) → is_thread t ≡ true → (1 ≤ t) × (t ≤ 16)
thread-between t e = let (low, high) = and_parts (nat_le 1 t) (nat_le t 16) e in (leb-true 1 t low, leb-true t 16 high)

module _ (layout : Layout) (t : ℕ) (thread : is_thread t ≡ true) (threads : length layout.rests ≡ 16) where
  within : t - 1 < length layout.rests
  within = let (low, high) = thread-between t thread in omega arith

  -- each thread has its entry
  pub rest-entry : slice_get layout.rests (t - 1) ≡ Some (rest_of layout t)
  rest-entry =
      let there : slice_get layout.rests (t - 1) ≡ Some (get_or layout.rests (t - 1) None) =
      slice_get-get_or layout.rests (t - 1) None within in
      there ∙ ap (λ (p : Option Piece). Some p) (sym (ap flat_option there))

  -- what is put there is the thread's rest
  pub rest_of-put : (new : Option Piece) → flat_option (slice_get (slice_set layout.rests (t - 1) new) (t - 1)) ≡ new
  rest_of-put new = ap flat_option (slice_get-slice_set layout.rests (t - 1) new within)

  -- and the other threads have theirs
  pub rest_of-other : (new : Option Piece) (u : ℕ) → 1 ≤ u → u ≢ t
      → flat_option (slice_get (slice_set layout.rests (t - 1) new) (u - 1)) ≡ rest_of layout u
  rest_of-other new u some apart =
      ap flat_option (slice_get-elsewhere layout.rests (t - 1) (u - 1) new
      (λ e. let (low, high) = thread-between t thread in apart (omega arith)))

-- a context of some bytes is a piece
pub context-is : (place size : ℕ) → 0 < size
    → option_piece (range_piece place (place + size)) ≡ Some (record { place = place; size = size })
context-is place size some =
    let bytes : place + size - place ≡ size = omega arith in
    ap (λ b. option_piece (if b then record { place = place; size = place + size - place } ∷ [] else []))
    (lt-ltb place (place + size) (omega arith))
    ∙ ap (λ n. Some (record { place = place; size = n })) bytes

-- ---- generation 0

-- a place of generation 0 stands in the ephemeral segment, from the second boundary on
pub young-is : (layout : Layout) (place : ℕ) → generation layout place ≡ 0
    → (stands_in (ephemeral layout) place ≡ true) × (layout.start0 ≤ place)
young-is layout place e =
    go (stands_in (ephemeral layout) place) (nat_lt place layout.start1) (nat_lt place layout.start0) refl refl e
  where
    go : (a b c : Bool) → stands_in (ephemeral layout) place ≡ a → nat_lt place layout.start0 ≡ c
        → ◌≡◌ {A = ℕ} (if a then (if b then 2 else (if c then 1 else 0)) else 2) 0
        → (stands_in (ephemeral layout) place ≡ true) × (layout.start0 ≤ place)
    go true true c e f g = absurd (omega (arith, g))
    go true false true e f g = absurd (omega (arith, g))
    go true false false e f g = (e, ltb-false place layout.start0 f)
    go false b c e f g = absurd (omega (arith, g))

-- and such a place has generation 0
pub is-young : (layout : Layout) (place : ℕ) → layout.start1 ≤ layout.start0
    → stands_in (ephemeral layout) place ≡ true → layout.start0 ≤ place → generation layout place ≡ 0
is-young layout place order stands high =
    ap (λ b. if b then (if nat_lt place layout.start1 then 2 else (if nat_lt place layout.start0 then 1 else 0))
    else 2) stands
    ∙ ap (λ b. if b then 2 else (if nat_lt place layout.start0 then 1 else 0))
    (le-ltb place layout.start1 (omega arith))
    ∙ ap (λ b. let n : ℕ = if b then 1 else 0 in n) (le-ltb place layout.start0 high)

-- ---- what threads have begun

-- Where a thread has begun nothing and the rests of the others stay, the others keep the room for what they began.
pub rooms_kept : (m : Machine) (layout : Layout) (t : ℕ) → is_thread t ≡ true → is_step (step_of m t) ≡ false
    → ((u : ℕ) → 1 ≤ u → u ≢ t → rest_of layout u ≡ rest_of m.layout u)
    → AllFrom (HasItsRoom m) 1 m.steps → AllFrom (HasItsRoom (with_layout m layout)) 1 m.steps
rooms_kept m layout t thread idle others rooms = go 1 m.steps (omega arith) (λ l. idle) rooms
  where
    room : (u : ℕ) (s : ThreadStep) → 1 ≤ u → (u ≡ t → is_step s ≡ false) → (u ≡ t) ⊎ (u ≡ t → ⊥) → HasItsRoom m u s
        → HasItsRoom (with_layout m layout) u s
    room u no_step some still c there = tt
    room u (begun_store object slot) some still c there = tt
    room u (begun_new type len local) some still (inl same) there = let e = still same in absurd cc
    room u (begun_new type len local) some still (inr apart) there =
        subst (λ (r : Option Piece). (rest : Piece) × (r ≡ Some rest)
        × IsTrue (fits (size_of (form_at m.types type) len) rest.size)
        × (size_of (form_at m.types type) len < m.options.large)) (sym (others u some apart)) there

    at : (s : ThreadStep) (ss : List ThreadStep) (u : ℕ)
        → (u ≤ t → is_step (step_or_none (slice_get (s ∷ ss) (t - u))) ≡ false) → u ≡ t → is_step s ≡ false
    at s ss u still same =
        let none : t - u ≡ 0 = omega arith in
        subst (λ n. is_step (step_or_none (slice_get (s ∷ ss) n)) ≡ false) none (still (omega arith))

    past : (s : ThreadStep) (ss : List ThreadStep) (u : ℕ)
        → (u ≤ t → is_step (step_or_none (slice_get (s ∷ ss) (t - u))) ≡ false) → u + 1 ≤ t
        → is_step (step_or_none (slice_get ss (t - (u + 1)))) ≡ false
    past s ss u still l =
        let next : t - u ≡ suc (t - (u + 1)) = omega arith in
        subst (λ n. is_step (step_or_none (slice_get (s ∷ ss) n)) ≡ false) next (still (omega arith))

    go : (u : ℕ) (ss : List ThreadStep) → 1 ≤ u → (u ≤ t → is_step (step_or_none (slice_get ss (t - u))) ≡ false)
        → AllFrom (HasItsRoom m) u ss → AllFrom (HasItsRoom (with_layout m layout)) u ss
    go u [] some still all = tt
    go u (s ∷ ss) some still all =
        (room u s some (at s ss u still) (cases_eq u t) all.0, go (u + 1) ss (omega arith) (past s ss u still) all.1)

-- ---- all of it

-- A lawful machine with a new lawful layout under the same objects.
pub relaid_lawful : (m : Machine) (layout : Layout) → IsLawful m → IsLaid (with_layout m layout)
    → AllByRecursion (λ (p : Piece). generation layout p.place ≡ 0) (rest_pieces layout.rests)
    → AllByRecursion (SuitsItsSegment (with_layout m layout)) m.objects → reserved_sum layout ≤ m.options.limit
    → AllFrom (HasItsRoom (with_layout m layout)) 1 m.steps
    → ((o : Object) → IsIn o m.objects → generation m.layout o.place ≤ generation layout o.place)
    → IsLawful (with_layout m layout)
relaid_lawful m layout h laid young suited limit rooms older = record {
  options = h.options;
  types = h.types;
  type_count = h.type_count;
  type_names = h.type_names;
  type_words = h.type_words;
  names_rise = h.names_rise;
  shapes =
      all_imply (IsShaped m) (IsShaped (with_layout m layout)) m.objects
      (λ o is. record {
        named = is.named;
        typed = is.typed;
        size = is.size;
        class_len = is.class_len;
        kinds =
            is.kinds;
        numbers = is.numbers;
        suppressed = is.suppressed;
      }) h.shapes;
  laid = laid;
  rests_young = young;
  suited = suited;
  limit = limit;
  names =
      record {
        slots = h.names.slots;
        locals = h.names.locals;
        handles = h.names.handles;
        entries = h.names.entries;
        ready = h.names.ready;
        steps = h.names.steps;
      };
  seconds = h.seconds;
  locals = h.locals;
  steps = h.steps;
  rooms = rooms;
  holder = h.holder;
  handle_count = h.handle_count;
  handle_numbers = h.handle_numbers;
  entries = h.entries;
  ready = h.ready;
  sums = bounded_older m layout older h.sums;
  marking =
      marking_kept m (with_layout m layout) m.background
      (old_as m (with_layout m layout) (λ o. o) (λ o. refl) (λ o i. i)
      (λ o i old. let up = older o i in omega arith)) h.marking;
}
