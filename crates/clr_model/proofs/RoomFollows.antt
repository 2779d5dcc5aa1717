-- The ladder of a small object on what is seen: what it comes to there, it comes to in each machine that is seen so.
use Rattle.std.proofs.Common.{◌≡◌, ℕ, zero, suc, ◌+◌, ◌-◌, ◌≤◌, List, [], ◌∷◌, refl, sym, ap, subst, ◌∙◌, arith}
use Rattle.std.proofs.Common.{Bool, true, false, if◌then◌else◌, ◌&&◌, nat_le, nat_lt, Option, Some, None, unwrap_or}
use Rattle.std.proofs.Common.{inl, inr}
use Rattle.std.specs.Prelude.{slice_get}
use Rattle.std.specs.List.{AllByRecursion}
use Rattle.clr_types.specs.Ranges.{Piece, IsLawfulSize}
use Rattle.clr_types.specs.Types.{TypeRow, number_of, form_at, size_of}
use Rattle.clr_types.specs.Segments.{Layout, flat_option, rest_pieces, rest_of}
use Rattle.clr_model.specs.declared.How.{How}
use Rattle.clr_model.specs.declared.How.TheVariants.{Decide, Compact}
use Rattle.clr_model.specs.declared.Collected.{Collected}
use Rattle.clr_model.specs.declared.Reply.TheVariants.{Place}
use Rattle.clr_model.specs.Machine.{ThreadStep, no_step, Options, Machine}
use Rattle.clr_model.specs.Lookups.{is_thread, is_step, step_or_none, step_of, lowest_in_step, lowest_step_from}
use Rattle.clr_model.specs.Picture.{picture}
use Rattle.clr_model.specs.Collection.{Collects, generation_to_collect}
use Rattle.clr_model.specs.Laws.{IsUsual}
use Rattle.clr_model.proofs.CollectionKeeps.{collects_keeps}
use Rattle.clr_model.specs.Allocation.{Attempt, roomed, waits, out_of_room, out_of_memory, has_room, rest_fits}
use Rattle.clr_model.specs.Allocation.{own_fits, context_front, IsRefilled, sealed, allows, with_layout}
use Rattle.clr_model.specs.Allocation.{SmallAfterFull, SmallAfterFirst, MakesRoom}
use Rattle.clr_model.specs.Instructions.{Instruction, new_object}
use Rattle.clr_model.specs.Outcomes.{Outcome, answered}
use Rattle.clr_model.specs.Step.{Fails, born_small}
use Rattle.clr_model.specs.Run.{StandsFor, Follows}
use Rattle.clr_model.specs.RoomFollows.{HasCollected, FollowsRoom}
use Rattle.clr_model.proofs.Carried.{carried, follows}
use Rattle.clr_model.proofs.LineChecks.{MayRun, is_held_off, is_step-picture}
use Rattle.clr_model.proofs.CollectionNames.{names_dont_matter}
use Rattle.clr_model.proofs.CollectedPresent.{all_idle}
use Rattle.clr_model.proofs.CollectedLawful.{rests_gone, stays_birth_named}
use Rattle.clr_model.proofs.CollectFollows.{lowest_in_step-picture}
use Rattle.clr_model.proofs.ContextRefilled.{refill_lawful, refill-has_room}
use Rattle.clr_model.proofs.FrontBirth.{born_size, seen_at_front}
use Rattle.clr_model.proofs.BirthLine.{MayBear, suits_form, new_obeys_small}
use Rattle.clr_model.proofs.BirthFollows.{may_bear_of-picture, born_stands}
use Rattle.clr_model.proofs.SealedLawful.{sealed_lawful}
use Rattle.clr_model.proofs.SmallLadder.{makes_own, makes_refill, makes_wait, makes_collection, first_refill}
use Rattle.clr_model.proofs.SmallLadder.{first_full, full_refill, full_seals, full_none, comes_by}

-- ---- from each machine to what is seen, and back

-- what each machine that is stood for comes to is what is said of what is seen
pub follows_room : (old : Machine) (t size : ℕ) (attempt : Attempt) (new : Machine)
    → ((m : Machine) → StandsFor old m → (ready : Machine) × MakesRoom m t size attempt ready × StandsFor new ready)
    → FollowsRoom old t size attempt new
unfolding FollowsRoom
follows_room old t size attempt new f = f

-- and may be used of each
pub room_followed : (old : Machine) (t size : ℕ) (attempt : Attempt) (new : Machine)
    → FollowsRoom old t size attempt new → (m : Machine) → StandsFor old m
    → (ready : Machine) × MakesRoom m t size attempt ready × StandsFor new ready
unfolding FollowsRoom
room_followed old t size attempt new f = f

-- what holds of what is seen holds of the picture
pub of_picture : (P : Machine → Type 0) (s m : Machine) → StandsFor s m → P s → P (picture m)
of_picture P s m stands = subst P (sym stands.seen_is)

-- ---- what a collection leaves

-- What a collection left: a machine that is seen so, no thread of which is in mid-step or has a context.
pub record IsLeft (s m : Machine) : Type 0 where
  pub stands : StandsFor s m
  pub idle : lowest_in_step m ≡ None
  pub bare : rest_pieces m.layout.rests ≡ []

-- a collection of what is seen is one of each machine that is seen so
pub collection_left : (s : Machine) (g : ℕ) (how : How) (new : Machine) → IsUsual g how → HasCollected s g how new
    → (m : Machine) → StandsFor s m → lowest_in_step m ≡ None
    → (answer : Collected) × (mid : Machine) × Collects m g how answer mid × IsLeft new mid
collection_left s g how new usual (answer, after, c, is) m stands idle =
    let lawful = stands.lawful.lawful in
    let (mid, done, shown) = names_dont_matter m g how answer after lawful idle usual
    (of_picture (λ w. Collects w g how answer after) s m stands c) in (
      answer,
      mid,
      done,
      record {
        stands = record {
          lawful = stays_birth_named m lawful idle g how usual answer mid done stands.lawful.born;
          seen_is = shown ∙ sym is;
        };
        idle = ap (lowest_step_from 1) (collects_keeps m g how answer mid done).steps ∙ idle;
        bare = rests_gone m lawful idle g how usual answer mid done;
      },
    )

-- an allocation collects one of the three generations
which_least : (m : Machine) → generation_to_collect m ≤ 2
which_least m = go (nat_lt m.options.b1 m.sums.promoted1) (nat_lt m.options.b2 m.sums.promoted2)
  where
    go : (a b : Bool) → (let n : ℕ = if a then (if b then 2 else 1) else 0 in n) ≤ 2
    go true true = omega arith
    go true false = omega arith
    go false b = omega arith

-- no thread is in mid-step where none is found
none_steps : (steps : List ThreadStep) (i : ℕ) → AllByRecursion (λ (s : ThreadStep). s ≡ no_step) steps
    → is_step (step_or_none (slice_get steps i)) ≡ false
none_steps [] i all = refl
none_steps (s ∷ ss) zero all = ap is_step all.0
none_steps (s ∷ ss) (suc i) all = none_steps ss i all.1

-- no thread has a context where no rest is left
none_rests : (rests : List (Option Piece)) (i : ℕ) → rest_pieces rests ≡ [] → flat_option (slice_get rests i) ≡ None
none_rests [] i e = refl
none_rests (None ∷ rs) zero e = refl
none_rests (None ∷ rs) (suc i) e = none_rests rs i e
none_rests (Some p ∷ rs) i e = absurd cc

-- and a size fits in no context
none_fits : (layout : Layout) (t size : ℕ) → rest_pieces layout.rests ≡ [] → own_fits layout t size ≡ false
none_fits layout t size bare =
    let none : rest_of layout t ≡ None = none_rests layout.rests (t - 1) bare in
    ap (λ (r : Option Piece). rest_fits r size) none

-- ---- one refill

-- Where the context had no room, what a refill leaves of what is seen, it leaves of each machine that is seen so.
refill_stands : (s m : Machine) (t size : ℕ) (layout : Layout) → is_thread t ≡ true → is_step (step_of m t) ≡ false
    → IsLawfulSize size → own_fits s.layout t size ≡ false → IsRefilled s.layout t size layout → StandsFor s m
    → (has_room m.layout size ≡ true) × IsRefilled m.layout t size layout
    × StandsFor (with_layout s layout) (with_layout m layout)
refill_stands s m t size layout thread idle sized own refilled stands =
    let refills = of_picture (λ w. IsRefilled w.layout t size layout) s m stands refilled in (
      refill-has_room m.layout layout t size
          (of_picture (λ w. own_fits w.layout t size ≡ false) s m stands own) refills,
      refills,
      record {
        lawful = record {
          lawful = (refill_lawful m stands.lawful.lawful t thread idle size sized layout refills).0;
          born = stands.lawful.born;
        };
        seen_is = ap (λ (w : Machine). with_layout w layout) stands.seen_is;
      },
    )

-- a refill after a collection
left_refill : (s m : Machine) (t size : ℕ) (layout : Layout) → is_thread t ≡ true → IsLawfulSize size
    → IsRefilled s.layout t size layout → IsLeft s m
    → (has_room m.layout size ≡ true) × IsRefilled m.layout t size layout
    × StandsFor (with_layout s layout) (with_layout m layout)
left_refill s m t size layout thread sized refilled left =
    refill_stands s m t size layout thread (none_steps m.steps (t - 1) (all_idle 1 m.steps left.idle)) sized
    (subst (λ (w : Machine). own_fits w.layout t size ≡ false) left.stands.seen_is
    (none_fits m.layout t size left.bare)) refilled left.stands

-- a new segment after a collection, where the limit allows it
left_sealed : (s m : Machine) → allows m m.options.segment ≡ true → IsLeft s m
    → IsLeft (with_layout s (sealed s.layout s.options.segment)) (with_layout m (sealed m.layout m.options.segment))
left_sealed s m may left = record {
  stands = record {
    lawful = record {
      lawful = sealed_lawful m left.stands.lawful.lawful left.bare may;
      born = left.stands.lawful.born;
    };
    seen_is = ap (λ (w : Machine). with_layout w (sealed w.layout w.options.segment)) left.stands.seen_is;
  };
  idle = left.idle;
  bare = left.bare;
}

-- ---- the ladder

module _ (s : Machine) (t size : ℕ) where
  -- the size fits in the thread's context
  pub room_own : own_fits s.layout t size ≡ true → FollowsRoom s t size roomed s
  room_own own = follows_room s t size roomed s
      (λ m stands. (
        m,
        makes_own t size roomed m m (of_picture (λ w. own_fits w.layout t size ≡ true) s m stands own) refl refl,
        stands,
      ))

  -- else a refill within the budget
  pub room_refill : (layout : Layout) → is_thread t ≡ true → is_step (step_of s t) ≡ false → IsLawfulSize size
      → own_fits s.layout t size ≡ false → nat_le (s.sums.spent0 + size) s.options.b0 ≡ true
      → IsRefilled s.layout t size layout → FollowsRoom s t size roomed (with_layout s layout)
  room_refill layout thread idle sized own within refilled =
      follows_room s t size roomed (with_layout s layout)
      (λ m stands.
      let still : is_step (step_of m t) ≡ false =
      sym (is_step-picture m t) ∙ of_picture (λ w. is_step (step_of w t) ≡ false) s m stands idle in
      let (room, refills, shown) = refill_stands s m t size layout thread still sized own refilled stands in (
        with_layout m layout,
        makes_refill t size roomed (with_layout m layout) m
            (of_picture (λ w. own_fits w.layout t size ≡ false) s m stands own)
            (of_picture (λ w. nat_le (w.sums.spent0 + size) w.options.b0 ≡ true) s m stands within) room
            (refl, layout, refills, refl),
        shown,
      ))

  module _ (own : own_fits s.layout t size ≡ false)
      (spare : (nat_le (s.sums.spent0 + size) s.options.b0 && has_room s.layout size) ≡ false) where
    -- nor does it fit in the context of a machine that is seen so
    own_of : (m : Machine) → StandsFor s m → own_fits m.layout t size ≡ false
    own_of m stands = of_picture (λ w. own_fits w.layout t size ≡ false) s m stands own

    -- nor is there anything to spare in it
    spare_of : (m : Machine) → StandsFor s m
        → (nat_le (m.sums.spent0 + size) m.options.b0 && has_room m.layout size) ≡ false
    spare_of m stands =
        of_picture (λ w. (nat_le (w.sums.spent0 + size) w.options.b0 && has_room w.layout size) ≡ false) s m stands
        spare

    -- else a wait for a thread that is in mid-step
    pub room_waits : (k : ℕ) → lowest_in_step s ≡ Some k → FollowsRoom s t size (waits k) s
    room_waits k busy =
        follows_room s t size (waits k) s
        (λ m stands. (
          m,
          makes_wait t size (waits k) m m (own_of m stands) (spare_of m stands) k
              (sym (lowest_in_step-picture m) ∙ of_picture (λ w. lowest_in_step w ≡ Some k) s m stands busy) refl refl,
          stands,
        ))

    module _ (idle : lowest_in_step s ≡ None) (s1 : Machine)
        (first : HasCollected s (generation_to_collect s) Decide s1) where
      -- else a collection, and what follows it
      by_first : (attempt : Attempt) (new : Machine)
          → ((m : Machine) → IsLeft s1 m
          → (ready : Machine) × SmallAfterFirst m t size attempt ready × StandsFor new ready)
          → FollowsRoom s t size attempt new
      by_first attempt new more =
          follows_room s t size attempt new
          (λ m stands.
          let still : lowest_in_step m ≡ None =
          sym (lowest_in_step-picture m) ∙ of_picture (λ w. lowest_in_step w ≡ None) s m stands idle in
          let (answer, mid, done, left) =
          collection_left s (generation_to_collect s) Decide s1 (which_least s) first m stands still in
          let (ready, made, shown) = more mid left in (
            ready,
            makes_collection t size attempt ready m (own_of m stands) (spare_of m stands) still (
              answer,
              mid,
              subst (λ g. Collects m g Decide answer mid) (sym (ap generation_to_collect stands.seen_is)) done,
              made,
            ),
            shown,
          ))

      -- after which there is room
      pub room_first : (layout : Layout) → is_thread t ≡ true → IsLawfulSize size → IsRefilled s1.layout t size layout
          → FollowsRoom s t size roomed (with_layout s1 layout)
      room_first layout thread sized refilled =
          by_first roomed (with_layout s1 layout)
          (λ m left.
          let (room, refills, shown) = left_refill s1 m t size layout thread sized refilled left in (
            with_layout m layout,
            first_refill t size roomed (with_layout m layout) m room (refl, layout, refills, refl),
            shown,
          ))

      module _ (lacks : has_room s1.layout size ≡ false) (s2 : Machine) (full : HasCollected s1 2 Compact s2) where
        -- else a full compacting collection, and what follows it
        by_full : (attempt : Attempt) (new : Machine)
            → ((m : Machine) → IsLeft s2 m
            → (ready : Machine) × SmallAfterFull m t size attempt ready × StandsFor new ready)
            → FollowsRoom s t size attempt new
        by_full attempt new more =
            by_first attempt new
            (λ m left.
            let (answer, mid, done, now) =
            collection_left s1 2 Compact s2 (omega arith) full m left.stands left.idle in
            let (ready, made, shown) = more mid now in (
              ready,
              first_full t size attempt ready m
                  (of_picture (λ w. has_room w.layout size ≡ false) s1 m left.stands lacks) answer mid done made,
              shown,
            ))

        -- after which there is room
        pub room_full : (layout : Layout) → is_thread t ≡ true → IsLawfulSize size
            → IsRefilled s2.layout t size layout → FollowsRoom s t size roomed (with_layout s2 layout)
        room_full layout thread sized refilled =
            by_full roomed (with_layout s2 layout)
            (λ m left.
            let (room, refills, shown) = left_refill s2 m t size layout thread sized refilled left in (
              with_layout m layout,
              full_refill t size roomed (with_layout m layout) m room (refl, layout, refills, refl),
              shown,
            ))

        module _ (none : has_room s2.layout size ≡ false) where
          -- nor is there in a machine that is seen so
          none_of : (m : Machine) → StandsFor s2 m → has_room m.layout size ≡ false
          none_of m stands = of_picture (λ w. has_room w.layout size ≡ false) s2 m stands none

          -- else there is no room, where the limit allows no segment more
          pub room_none : allows s2 s2.options.segment ≡ false → FollowsRoom s t size out_of_room s2
          room_none barred =
              by_full out_of_room s2
              (λ m left. (
                m,
                full_none t size out_of_room m m (none_of m left.stands)
                    (of_picture (λ w. allows w w.options.segment ≡ false) s2 m left.stands barred) refl
                    refl,
                left.stands,
              ))

          module _ (may : allows s2 s2.options.segment ≡ true) where
            -- and so it does in a machine that is seen so
            may_of : (m : Machine) → StandsFor s2 m → allows m m.options.segment ≡ true
            may_of m stands = of_picture (λ w. allows w w.options.segment ≡ true) s2 m stands may

            -- where the limit allows one, a new segment, and a refill from that
            pub room_sealed : (layout : Layout) → is_thread t ≡ true → IsLawfulSize size
                → IsRefilled (sealed s2.layout s2.options.segment) t size layout
                → FollowsRoom s t size roomed (with_layout s2 layout)
            room_sealed layout thread sized refilled =
                by_full roomed (with_layout s2 layout)
                (λ m left.
                let allowed = may_of m left.stands in
                let (room, refills, shown) =
                left_refill (with_layout s2 (sealed s2.layout s2.options.segment))
                (with_layout m (sealed m.layout m.options.segment)) t size layout thread sized refilled
                (left_sealed s2 m allowed left) in (
                  with_layout m layout,
                  full_seals t size roomed (with_layout m layout) m (none_of m left.stands) allowed
                      (inl (refl, layout, refills, refl)),
                  shown,
                ))

            -- or there is no memory for it
            pub room_lacks : FollowsRoom s t size out_of_memory s2
            room_lacks =
                by_full out_of_memory s2
                (λ m left. (
                  m,
                  full_seals t size out_of_memory m m (none_of m left.stands) (may_of m left.stands)
                      (inr (refl, refl)),
                  left.stands,
                ))

-- ---- what the ladder leaves

-- Making room leaves types, options, what threads have begun, and who holds the others.
pub record LeavesParts (m new : Machine) : Type 0 where
  pub types : new.types ≡ m.types
  pub options : new.options ≡ m.options
  pub steps : new.steps ≡ m.steps
  pub holder : new.holder ≡ m.holder

-- a new layout leaves all else
pub relaid_leaves : (m new : Machine) (layout : Layout) → new ≡ with_layout m layout → LeavesParts m new
relaid_leaves m new layout same = record {
  types = ap (λ (w : Machine). w.types) same;
  options = ap (λ (w : Machine). w.options) same;
  steps = ap (λ (w : Machine). w.steps) same;
  holder = ap (λ (w : Machine). w.holder) same;
}

-- and so does a collection, as far as these parts go
pub collected_leaves : (m new : Machine) (g : ℕ) (how : How) (answer : Collected) (mid : Machine)
    → Collects m g how answer mid → LeavesParts mid new → LeavesParts m new
collected_leaves m new g how answer mid c after =
    let keeps = collects_keeps m g how answer mid c in
    record {
      types = after.types ∙ keeps.types;
      options = after.options ∙ keeps.options;
      steps = after.steps ∙ keeps.steps;
      holder = after.holder ∙ keeps.holder;
    }

-- and so does the ladder
pub room_leaves : (t size : ℕ) (attempt : Attempt) (new m : Machine) → MakesRoom m t size attempt new
    → LeavesParts m new
room_leaves t size attempt new =
    comes_by t size attempt new (λ m. LeavesParts m new) (λ m same. relaid_leaves m new m.layout same)
    (λ m layout refill same. relaid_leaves m new layout same)
    (λ m layout allowed refill same. relaid_leaves m new layout same)
    (λ m g how answer mid c. collected_leaves m new g how answer mid c)

-- ---- the line that makes an object

-- an object that might be asked for still may be
may_bear-left : (m ready : Machine) (t k : ℕ) (name : List ℕ) (len : Option ℕ) (type : ℕ) → LeavesParts m ready
    → MayBear m t k name len type → MayBear ready t k name len type
may_bear-left m ready t k name len type leaves h =
    let run : MayRun ready t = record {
      thread = h.run.thread;
      idle = ap (λ (ss : List ThreadStep). is_step (step_or_none (slice_get ss (t - 1)))) leaves.steps ∙ h.run.idle;
      unheld = ap (λ h. is_held_off h t) leaves.holder ∙ h.run.unheld;
    } in
    record {
      run = run;
      known = ap (λ (rows : List TypeRow). number_of rows name) leaves.types ∙ h.known;
      shape = subst (λ (rows : List TypeRow). suits_form (record m { types = rows }) type len ≡ true)
          (sym leaves.types) h.shape;
      local = h.local;
      small =
          let size : born_size ready type (unwrap_or len 0) ≡ born_size m type (unwrap_or len 0) =
          ap (λ (rows : List TypeRow). size_of (form_at rows type) (unwrap_or len 0)) leaves.types in
          let large : ready.options.large ≡ m.options.large = ap (λ (o : Options). o.large) leaves.options in
          let small = h.small in
          omega arith;
    }

module _ (s : Machine) (t k : ℕ) (name : List ℕ) (len : Option ℕ) (type : ℕ) (may : MayBear s t k name len type)
    (s' : Machine) where
  abbrev i : Instruction
  i = new_object t k name len

  abbrev l : ℕ
  l = unwrap_or len 0

  -- where room was made, the object is born at the front of the context
  pub new_follows_room : FollowsRoom s t (born_size s type (unwrap_or len 0)) roomed s'
      → own_fits s'.layout t (born_size s type (unwrap_or len 0)) ≡ true
      → Follows s (new_object t k name len) (answered (Place (context_front s'.layout t)))
      (seen_at_front s' t k type (unwrap_or len 0))
  new_follows_room room fits =
      follows s i _ _
      (carried i (λ s. MayBear s t k name len type × FollowsRoom s t (born_size s type l) roomed s'
      × (own_fits s'.layout t (born_size s type l) ≡ true))
      (λ s. answered (Place (context_front s'.layout t))) (λ s. seen_at_front s' t k type l)
      (λ m named given.
      let size = born_size m type l in
      let (ready, made, after) =
      room_followed (picture m) t size roomed s' given.1 m (record { lawful = named; seen_is = refl }) in
      let h = may_bear_of-picture m t k name len type given.0 in
      let leaves = room_leaves t size roomed ready m made in
      let born = may_bear-left m ready t k name len type leaves h in (
        born_small ready t k type l,
        new_obeys_small m t k name len type named h _ _ (
          roomed,
          ready,
          made,
          inl (
            refl,
            (
              ap (λ (w : Machine). answered (Place (context_front w.layout t))) (sym after.seen_is),
              refl,
            ),
          ),
        ),
        subst (λ (w : Machine). StandsFor (seen_at_front w t k type l) (born_small ready t k type l)) after.seen_is
            (born_stands ready t k name len type after.lawful born
            (subst (λ (rows : List TypeRow). own_fits ready.layout t (size_of (form_at rows type) l) ≡ true)
            (sym leaves.types)
            (of_picture (λ w. own_fits w.layout t size ≡ true) s' ready after given.2))),
      ))
      s (may, room, fits))

  -- where none was made, the line is refused, and what was done for it stays
  pub new_follows_fails : (attempt : Attempt) (outcome : Outcome)
      → FollowsRoom s t (born_size s type (unwrap_or len 0)) attempt s' → Fails attempt outcome
      → Follows s (new_object t k name len) outcome s'
  new_follows_fails attempt outcome room fails =
      follows s i _ _
      (carried i (λ s. MayBear s t k name len type × FollowsRoom s t (born_size s type l) attempt s')
      (λ s. outcome) (λ s. s')
      (λ m named given.
      let (ready, made, after) =
      room_followed (picture m) t (born_size m type l) attempt s' given.1 m
      (record { lawful = named; seen_is = refl }) in (
        ready,
        new_obeys_small m t k name len type named (may_bear_of-picture m t k name len type given.0) _ _
            (attempt, ready, made, inr (fails, refl)),
        after,
      ))
      s (may, room))
