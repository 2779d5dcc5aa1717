-- The checks of the lines that show the heap, by what is seen of a machine, and the test that some of them take.
use Rattle.std.proofs.Common.{◌≡◌, ◌≢◌, ◌≤◌, ◌∙◌, ◌==◌, ℕ, Bool, true, false, if◌then◌else◌, List, [], ◌∷◌, map, Option}
use Rattle.std.proofs.Common.{Some, None, refl, sym, ap, inl, inr, arith, eq-eqb}
use Rattle.std.specs.Prelude.{is_none}
use Rattle.clr_types.specs.Rising.{IsIn, first, later, find_by, Tests}
use Rattle.clr_types.specs.Segments.{Layout, generation, stands_in}
use Rattle.clr_types.specs.declared.segment.SegInfo.{SegInfo}
use Rattle.clr_types.specs.declared.segment.SegKind.{SegKind}
use Rattle.clr_types.specs.declared.segment.SegKind.TheVariants.{Small, Ephemeral, Large, Pinned}
use Rattle.clr_types.proofs.ChangedLists.{IsIn-map}
use Rattle.clr_types.proofs.ListMembers.{from-map}
use Rattle.clr_types.proofs.SortedLists.{into_sorted_by, out_of_sorted_by}
use Rattle.clr_model.specs.declared.Life.{Life}
use Rattle.clr_model.specs.declared.Life.TheVariants as life
use Rattle.clr_model.specs.declared.Refusal.TheVariants as refusal
use Rattle.clr_model.specs.Machine.{Object, Machine}
use Rattle.clr_model.specs.Lookups.{object_at, place_of}
use Rattle.clr_model.specs.Picture.{picture, renamed_object}
use Rattle.clr_model.specs.Reach.{Live, Reach, Roots, StartOf, starts}
use Rattle.clr_model.specs.Reach.{follows as reached_from}
use Rattle.clr_model.specs.Instructions.{Instruction, dump_object}
use Rattle.clr_model.specs.Instructions.{show_root, where_is}
use Rattle.clr_model.specs.Checks.{refusal as first_refusal, first_of_all, refuse_if}
use Rattle.clr_model.specs.Outcomes.{Outcome, refused}
use Rattle.clr_model.specs.Sos.{kind_number, where_of, where_of_segments}
use Rattle.clr_model.specs.Step.{Does, TestsLife}
use Rattle.clr_model.specs.Run.{Follows, StandsFor}
use Rattle.clr_model.proofs.AliveTests.{alive, alive-tests}
use Rattle.clr_model.proofs.Carried.{follows}
use Rattle.clr_model.proofs.CollectedObjects.{found_by}
use Rattle.clr_model.proofs.LawfulSurvivors.{generation-least}
use Rattle.clr_model.proofs.LineChecks.{obeys_done, obeys_refusal}

-- ---- an object with a place, in a machine and in its picture

-- where a member has the key, one is found
member_found : {X : Type 0} (key : X → ℕ) (k : ℕ) (x : X) (xs : List X) → IsIn x xs → key x ≡ k
    → is_none (find_by key k xs) ≡ false
member_found key k x [] i e = elim i [ ]
member_found key k x (y ∷ ys) first e =
    ap (λ b. is_none (if b then Some x else find_by key k ys)) (eq-eqb (key x) k e)
member_found key k x (y ∷ ys) (later i) e = go (key y == k) (member_found key k x ys i e)
  where
    go : (b : Bool) → is_none (find_by key k ys) ≡ false → is_none (if b then Some y else find_by key k ys) ≡ false
    go true found = refl
    go false found = found

module _ (m : Machine) (a : ℕ) where
  abbrev by_place : Object → ℕ
  by_place o = o.place

  abbrev to : Object → Object
  to = renamed_object (place_of m.objects)

  -- the object that stands for one in the picture
  there : (o : Object) → object_at m.objects a ≡ Some o → is_none (object_at (picture m).objects a) ≡ false
  there o e =
      let (i, at) = found_by by_place a m.objects o e in
      member_found by_place a (to o) (picture m).objects
      (into_sorted_by (λ (o : Object). o.name) (to o) (map to m.objects) (IsIn-map to i)) at

  -- and the one that such a one stands for
  back : (o : Object) → object_at (picture m).objects a ≡ Some o → is_none (object_at m.objects a) ≡ false
  back o e =
      let (i, at) = found_by by_place a (picture m).objects o e in
      let (p, is, j) = from-map to o m.objects (out_of_sorted_by (λ (o : Object). o.name) o (map to m.objects) i) in
      member_found by_place a p m.objects j (sym (ap by_place is) ∙ at)

  -- a place has an object in the picture just where it has one in the machine
  pub absent-picture : is_none (object_at m.objects a) ≡ is_none (object_at (picture m).objects a)
  absent-picture = go (object_at m.objects a) (object_at (picture m).objects a) refl refl
    where
      go : (here seen : Option Object) → object_at m.objects a ≡ here → object_at (picture m).objects a ≡ seen
          → is_none here ≡ is_none seen
      go None None e f = refl
      go None (Some o) e f = sym (ap is_none e) ∙ back o f
      go (Some o) None e f = sym (there o e) ∙ ap is_none f
      go (Some o) (Some p) e f = refl

-- ---- lines that show one object

-- the line is checked for an object with this place, and for nothing else
abbrev pub IsPlaceLine : Instruction → ℕ → Type 0
IsPlaceLine i a =
    (m : Machine) → first_refusal m i
    ≡ first_of_all (refuse_if (is_none (object_at m.objects a)) refusal.NoObject ∷ None ∷ [])

pub object_line : (a : ℕ) → IsPlaceLine (dump_object a) a
object_line a m = refl

pub root_line : (a : ℕ) → IsPlaceLine (show_root a) a
root_line a m = refl

pub where_line : (a : ℕ) → IsPlaceLine (where_is a) a
where_line a m = refl

module _ (i : Instruction) (a : ℕ) (line : IsPlaceLine i a) (old : Machine) where
  checked : (m : Machine) → StandsFor old m
      → first_refusal m i ≡ first_of_all (refuse_if (is_none (object_at old.objects a)) refusal.NoObject ∷ None ∷ [])
  checked m stands =
      line m ∙ ap (λ b. first_of_all (refuse_if b refusal.NoObject ∷ None ∷ []))
      (absent-picture m a ∙ ap (λ (s : Machine). is_none (object_at s.objects a)) stands.seen_is)

  -- where no object has the place, the line is refused
  pub absent_follows : object_at old.objects a ≡ None → Follows old i (refused refusal.NoObject) old
  absent_follows none = follows old i _ _ (λ m stands. (
    m,
    obeys_refusal m i refusal.NoObject (checked m stands
        ∙ ap (λ (o : Option Object). first_of_all (refuse_if (is_none o) refusal.NoObject ∷ None ∷ [])) none),
    stands,
  ))

  -- and where one has, it does what it does
  pub present_follows : (outcome : Outcome) → object_at old.objects a ≢ None
      → ((m : Machine) → StandsFor old m → Does m i outcome m) → Follows old i outcome old
  present_follows outcome some does = follows old i _ _ (λ m stands. (
    m,
    obeys_done m i _ _ (checked m stands ∙ passes (object_at old.objects a) some) (does m stands),
    stands,
  ))
    where
      passes : (o : Option Object) → o ≢ None
          → first_of_all (refuse_if (is_none o) refusal.NoObject ∷ None ∷ []) ≡ None
      passes None some = absurd (some refl)
      passes (Some o) some = refl

-- ---- where an object stands

-- the number of a segment's kind is one
pub where_kind : (m : Machine) (a : ℕ) → (where_of m a).kind ≤ 3
where_kind m a = go m.layout m.layout.segments a _
  where
    number : (kind : SegKind) → kind_number kind ≤ 3
    number Small = omega arith
    number Ephemeral = omega arith
    number Large = omega arith
    number Pinned = omega arith

    go : (layout : Layout) (ss : List SegInfo) (place size : ℕ) → (where_of_segments layout ss place size).kind ≤ 3
    go layout [] place size = omega arith
    go layout (s ∷ ss) place size = pick (stands_in s place) (go layout ss place size)
      where
        pick : (b : Bool) → (where_of_segments layout ss place size).kind ≤ 3 →
            (if b then record {
              generation = generation layout place;
              kind = kind_number s.kind;
              base = s.base;
              size = size;
            } else where_of_segments layout ss place size).kind ≤ 3
        pick true h = number s.kind
        pick false h = h

-- ---- what the roots reach

-- from more starts no less is reached
reach_from : {edge : ℕ → ℕ → Type 0} {start other : ℕ → Type 0} → ((x : ℕ) → start x → other x) → (x : ℕ)
    → Reach edge start x → Reach edge other x
reach_from wider x (starts s) = starts (wider x s)
reach_from wider y (reached_from {x} r e) = reached_from (reach_from wider x r) e

-- a test tells what the roots reach: no object is older than generation 2
live_tests : (m : Machine) → Tests (alive m 2) (Live m)
live_tests m x = (
  λ t. reach_from {start = StartOf m 2} {other = Roots m} roots x ((alive-tests m 2 x).0 t),
  λ r. (alive-tests m 2 x).1 (reach_from {start = Roots m} {other = StartOf m 2} (λ y s. inl s) x r),
)
  where
    roots : (y : ℕ) → StartOf m 2 y → Roots m y
    roots y (inl root) = root
    roots y (inr old) = absurd (let least = generation-least m.layout old.object.place in
        let above = old.above in omega arith)

pub tests_life : (l : Life) (m : Machine) → TestsLife l (alive m 2) (Live m)
tests_life life.Any m = tt
tests_life life.Live m = live_tests m
tests_life life.Dead m = live_tests m
