-- A machine whose threads go on with what they have begun, one after the other, stays lawful.
use Rattle.std.proofs.Common.{◌≡◌, ℕ, suc, ◌+◌, ◌-◌, ◌<◌, not, true, false, nat_le, List, [], ◌∷◌, ◌++◌, length, map}
use Rattle.std.proofs.Common.{replicate, refl, ap, sym, ◌∙◌, subst, arith, append_assoc, append-nil, length-append}
use Rattle.std.specs.Prelude.{slice_get, slice_set}
use Rattle.std.specs.List.{flat_map}
use Rattle.std.proofs.lemmas.Bool.{and_from, le-leb}
use Rattle.clr_types.specs.Ranges.{Piece}
use Rattle.clr_types.specs.Rising.{IsIn}
use Rattle.clr_types.specs.Segments.{Layout}
use Rattle.clr_types.specs.Types.{form_at, size_of}
use Rattle.clr_types.proofs.ChangedLists.{into_filter}
use Rattle.clr_model.specs.Allocation.{from_item, with_layout}
use Rattle.clr_model.specs.Lawful.{IsBirthNamed, StepIsPresent}
use Rattle.clr_model.specs.Lookups.{is_step, is_thread, step_of, step_or_none}
use Rattle.clr_model.specs.Machine.{begun_new, begun_store, Machine, no_step, ThreadStep}
use Rattle.clr_model.specs.Updates.{with_step}
use Rattle.clr_model.proofs.ItemContext.{fits-same, from_item-rest, from_item_lawful, item-size}
use Rattle.clr_runtime.proofs.StepChanged.{with_step_lawful}
use Rattle.clr_format.specs.NameTests.{fronts_of, is_among}
use Rattle.clr_sos.specs.declared.step.Step.{Step}
use Rattle.clr_sos.specs.declared.step.Step.TheVariants.{Begun, Idle, Store}
use Rattle.clr_opened.specs.Opened.{thread_step}
use Rattle.clr_open.specs.Begun.{fronted}
use Rattle.clr_open.proofs.FrontLayouts.{at-middle, done-more, fronted-is, has-front, IsFresh, IsFrontItem, layout_of}
use Rattle.clr_open.proofs.FrontLayouts.{next-layout, set-middle}

-- what a step needs of a machine whose threads have begun nothing
pub record CanBeginNew (m : Machine) (type len local front : ℕ) : Type 0 where
  pub present : StepIsPresent m (begun_new type len local)
  pub small : size_of (form_at m.types type) len < m.options.large
  pub item : IsFrontItem m.layout (size_of (form_at m.types type) len) front

abbrev pub CanBegin : Machine → Step → Type 0
CanBegin m Idle = Unit {0}
CanBegin m (Store object slot) = StepIsPresent m (begun_store object slot)
CanBegin m (Begun t len local front) = CanBeginNew m t.0 len local front

map-count : {X Y : Type 0} (f : X → Y) (xs : List X) → length (map f xs) ≡ length xs
map-count f [] = refl
map-count f (x ∷ xs) = ap suc (map-count f xs)

module _ (m : Machine) where
  -- the machine where threads have begun these, and n more have begun nothing yet
  abbrev pub machine_of : List Step → ℕ → Machine
  machine_of done n = record m {
    layout = layout_of m.layout done n;
    steps = map thread_step done ++ replicate n no_step;
  }

  module _ (done : List Step) (n : ℕ) where
    abbrev t : ℕ
    t = length done + 1

    index : t - 1 ≡ length (map thread_step done)
    index = let count = map-count thread_step done in omega (arith, count)

    steps-more : (s : Step) → slice_set (map thread_step done ++ replicate (suc n) no_step) (t - 1) (thread_step s)
        ≡ map thread_step (done ++ s ∷ []) ++ replicate n no_step
    steps-more s =
        ap (λ (i : ℕ). slice_set (map thread_step done ++ replicate (suc n) no_step) i (thread_step s)) index
        ∙ set-middle (map thread_step done) no_step (replicate n no_step) (thread_step s)
        ∙ sym (done-more thread_step done s (replicate n no_step))

    idle-next : step_of (machine_of done (suc n)) t ≡ no_step
    idle-next =
        ap (λ (i : ℕ). step_or_none (slice_get (map thread_step done ++ replicate (suc n) no_step) i)) index
        ∙ ap step_or_none (at-middle (map thread_step done) no_step (replicate n no_step))

    -- with this layout and its step it is the next one
    next-machine : (s : Step) (layout : Layout) → layout ≡ layout_of m.layout (done ++ s ∷ []) n
        → with_step (with_layout (machine_of done (suc n)) layout) t (thread_step s) ≡ machine_of (done ++ s ∷ []) n
    next-machine s layout is = let steps = steps-more s in λ i. record m { layout = is i; steps = steps i }

    module _ (named : IsBirthNamed (machine_of done (suc n))) (thread : is_thread t ≡ true) where
      begins-new : (type len local front : ℕ) (s : Step) → thread_step s ≡ begun_new type len local
          → CanBeginNew m type len local front → is_among (flat_map fronts_of done) front ≡ false
          → fronted (layout_of m.layout done (suc n)) t front ≡ layout_of m.layout (done ++ s ∷ []) n
          → IsBirthNamed (machine_of (done ++ s ∷ []) n)
      begins-new type len local front s is can fresh next =
          let old = machine_of done (suc n) in
          let item = can.item.item in
          let idle : is_step (step_of old t) ≡ false = ap is_step idle-next in
          let own = has-front m.layout done n (size_of (form_at m.types type) len) front can.item fresh in
          let here : IsIn item old.layout.free =
          into_filter (λ (p : Piece). not (is_among (flat_map fronts_of done) p.place)) m.layout.free
          (ap not (ap (is_among (flat_map fronts_of done)) can.item.at ∙ fresh)) can.item.here in
          let size = item-size old named.lawful t thread idle own.none item here in
          let least = size.0 in
          let layout = from_item old.layout t item item.size in
          let same : layout ≡ layout_of m.layout (done ++ s ∷ []) n =
          fronted-is old.layout t item named.lawful.laid.layout.free_rise here (omega arith)
          ∙ ap (fronted old.layout t) can.item.at ∙ next in
          let lawful = from_item_lawful old named.lawful t thread idle own.none item item.size size
          (fits-same item.size) here can.item.young in
          let rest = from_item-rest old named.lawful t thread idle own.none item item.size size
          (fits-same item.size) here can.item.young in
          subst IsBirthNamed (next-machine s layout same)
          (subst (λ (x : ThreadStep). IsBirthNamed (with_step (with_layout old layout) t x)) (sym is)
          (with_step_lawful (with_layout old layout) (record { lawful = lawful; born = named.born }) t thread
          (begun_new type len local) can.present (item, rest, can.item.room, can.small)))

      pub one-more : (s : Step) → CanBegin m s → IsFresh done s → IsBirthNamed (machine_of (done ++ s ∷ []) n)
      one-more Idle can fresh =
          subst IsBirthNamed
          (next-machine Idle (machine_of done (suc n)).layout (next-layout m.layout done n Idle fresh))
          (with_step_lawful (machine_of done (suc n)) named t thread no_step tt tt)
      one-more (Store object slot) can fresh =
          subst IsBirthNamed
          (next-machine (Store object slot) (machine_of done (suc n)).layout
          (next-layout m.layout done n (Store object slot) fresh))
          (with_step_lawful (machine_of done (suc n)) named t thread (begun_store object slot) can tt)
      one-more (Begun type len local front) can fresh =
          begins-new type.0 len local front (Begun type len local front) refl can fresh
          (next-layout m.layout done n (Begun type len local front) fresh)

  -- ALL THREADS
  pub all-more : (done rest : List Step) → length done + length rest ≡ 16
      → IsBirthNamed (machine_of done (length rest))
      → ((d : List Step) (s : Step) (r : List Step) → d ++ s ∷ r ≡ done ++ rest → CanBegin m s × IsFresh d s)
      → IsBirthNamed (machine_of (done ++ rest) 0)
  all-more done [] count named can =
      subst (λ (steps : List Step). IsBirthNamed (machine_of steps 0)) (sym (append-nil done)) named
  all-more done (s ∷ rest) count named can =
      let own = can done s rest refl in
      let thread : is_thread (length done + 1) ≡ true =
      and_from (nat_le 1 (length done + 1)) (nat_le (length done + 1) 16) (le-leb 1 (length done + 1) (omega arith))
      (le-leb (length done + 1) 16 (omega (arith, count))) in
      let more = length-append done (s ∷ []) in
      subst (λ (steps : List Step). IsBirthNamed (machine_of steps 0)) (append_assoc done (s ∷ []) rest)
      (all-more (done ++ s ∷ []) rest (omega (arith, count, more))
      (one-more done (length rest) named thread s own.0 own.1)
      (λ d x r e. can d x r (e ∙ append_assoc done (s ∷ []) rest)))
