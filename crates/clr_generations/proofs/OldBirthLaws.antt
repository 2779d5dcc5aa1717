-- The laws of bricks and of cards where an object of generation 2 is born: its brick names it, where it names nothing
-- below, and those above lead back to its own, where no object starts in them.
use Rattle.std.proofs.Common.{◌≡◌, ◌≢◌, ◌⊎◌, inl, inr, ℕ, ◌+◌, ◌-◌, ◌*◌, ◌/◌, ◌%◌, ◌<◌, ◌≤◌, Bool, true}
use Rattle.std.proofs.Common.{if◌then◌else◌, ◌&&◌, List, refl, ap, sym, ◌∙◌, subst, arith, ℤ, pos, Some}
use Rattle.std.specs.Prelude.{int_lt, slice_get}
use Rattle.std.proofs.lemmas.Bool.{cases_Bool, cases_eq, cases_lt, eq-eqb, ne_eqb}
use Rattle.clr_types.specs.Rising.{IsIn}
use Rattle.clr_types.specs.Segments.{ended_at, Layout, stands_in}
use Rattle.clr_types.specs.Types.{form_at, slot_kinds, TypeRow}
use Rattle.clr_types.specs.declared.segment.SegInfo.{SegInfo}
use Rattle.clr_types.proofs.SegmentFacts.{between-stands, stands-between}
use Rattle.clr_model.specs.Lookups.{object_size}
use Rattle.clr_model.specs.Machine.{Object, ref, Value}
use Rattle.clr_model.specs.Updates.{empty_slots}
use Rattle.clr_bricks.specs.Bricks.{IsRoot, root_entry}
use Rattle.clr_bricks.proofs.Following.{root_above}
use Rattle.clr_generations.specs.Born.{names_later, with_named}
use Rattle.clr_generations.specs.Laws.{AreEntered, BrickLaw, IsBrickOf, LeadsBrick, LeadsToNearest}
use Rattle.clr_generations.specs.Laws.{may_lead, NamesNoMore, ReachesInto, Stands}
use Rattle.clr_generations.specs.OldBirths.{HasOldNewborn, LeadUpTo}
use Rattle.clr_generations.specs.Renewing.{hop, led_back}
use Rattle.clr_generations.proofs.BirthLaws.{later-above, later-not, path-agrees, same-root}
use Rattle.clr_generations.proofs.BrickSteps.{hops, Leads, led-above, led-below, led-inside, no_root}
use Rattle.clr_generations.proofs.CardBirths.{names-nothing, younger-born}
use Rattle.clr_generations.proofs.Homes.{brick-of, old-may_lead}
use Rattle.clr_generations.proofs.SameBounds.{generation-same, HasSameBounds, may-same, segment-was}

-- ---- entries

-- a brick that isn't that of the place keeps its entry
with_named-elsewhere : (entry : ℕ → ℤ) (place brick : ℕ) → brick ≢ place / 4096
    → with_named entry place brick ≡ entry brick
with_named-elsewhere entry place brick ne =
    let miss = ne_eqb brick (place / 4096) ne in
    ap (λ (t : Bool). if t && names_later (place % 4096) (entry (place / 4096)) then root_entry (place % 4096)
    else entry brick) miss

-- that of the place names it, where it named none up to it
with_named-own : (entry : ℕ → ℤ) (place : ℕ) → with_named entry place (place / 4096)
    ≡ (if names_later (place % 4096) (entry (place / 4096)) then root_entry (place % 4096) else entry (place / 4096))
with_named-own entry place =
    let hit = eq-eqb (place / 4096) (place / 4096) refl in
    ap (λ (t : Bool). if t && names_later (place % 4096) (entry (place / 4096)) then root_entry (place % 4096)
    else entry (place / 4096)) hit

-- all but the last, where that names an offset
pub lead-last : (entry : ℕ → ℤ) (place size last : ℕ) → place / 4096 < last → 4096 * last < place + size
    → place + size ≤ 4096 * (last + 1) → int_lt (pos 0) (entry last) ≡ true → LeadUpTo entry place size last
lead-last entry place size last above low high up = record {
  above = above;
  reached = λ brick over under. omega arith;
  rooted = λ brick over under root. omega arith;
  left = λ brick over under.
      (let at : last ≡ brick = omega arith in subst (λ (n : ℕ). IsRoot (entry n)) at (root_above (entry last) up));
}

-- no other entry is written
pub others-led : (entry : ℕ → ℤ) (place size to : ℕ) → LeadUpTo entry place size to → 0 < size → (i : ℕ)
    → (i < place / 4096) ⊎ (place + size ≤ 4096 * i)
    → led_back (with_named entry place) (place / 4096 + 1) to i ≡ entry i
others-led entry place size to lead some i (inl low) =
    led-below (with_named entry place) (place / 4096 + 1) to i (omega arith)
    ∙ with_named-elsewhere entry place i (λ at. absurd (omega arith))
others-led entry place size to lead some i (inr high) =
    led-above (with_named entry place) (place / 4096 + 1) to i (elim (cases_lt i to) [
      | inl under ↦ let reach = lead.reached i (omega arith) under in absurd (omega arith)
      | inr over ↦ over
    ])
    ∙ with_named-elsewhere entry place i (λ at. absurd (omega arith))

module _ (rows : List TypeRow) (before after : Layout) (objects now : List Object) (newborn : Object)
    (b : HasOldNewborn rows before after objects now newborn) where
  abbrev finish : ℕ
  finish = newborn.place + object_size rows newborn

  abbrev own : ℕ
  own = newborn.place / 4096

  bounds : HasSameBounds before after
  bounds = record { segments = b.segments; start1 = b.start1; start0 = b.start0 }

  -- ---- places

  -- all of its brick stands in its segment
  here : (p : ℕ) → p / 4096 ≡ own → stands_in b.home p ≡ true
  here p at =
      let between = stands-between b.home newborn.place b.inside in
      let low = between.0 in
      let high = between.1 in
      let base = b.base in
      let reserved = b.reserved in
      between-stands b.home p (omega arith) (omega arith)

  may-here : (p : ℕ) → p / 4096 ≡ own → p ≤ newborn.place → may_lead before p ≡ true
  may-here p at up = old-may_lead before p (b.old p (here p at) up)

  own-of-home : IsBrickOf b.home own
  own-of-home = brick-of b.home newborn.place (record { base = b.base; reserved = b.reserved }) b.inside

  -- an object that starts in a brick above starts behind it
  starts-behind : (o : Object) → IsIn o objects → own < o.place / 4096 → finish ≤ o.place
  starts-behind o i above = elim (b.apart o i) [ inl less ↦ absurd (omega arith) | inr more ↦ more ]

  -- ---- what leads a brick

  -- a place that led its brick does so still, unless the newborn is below it
  leads-still : (brick p : ℕ) → LeadsBrick before objects brick p → (brick ≡ own → p ≤ newborn.place)
      → LeadsBrick after now brick p
  leads-still brick p l below = record {
    stands = let s = l.stands in (s.0, b.stays s.0 s.1, s.2);
    inside = l.inside;
    first = λ other s in_brick.
        elim (b.members s.0 s.1) [
          | inl new_one ↦
              let at : other ≡ newborn.place = sym s.2 ∙ ap (λ (o : Object). o.place) new_one in
              let under = below (sym in_brick ∙ ap (λ (n : ℕ). n / 4096) at) in
              omega arith
          | inr was ↦ l.first other (s.0, was, s.2) in_brick
        ];
    may = may-same before after bounds p ∙ l.may;
  }

  module _ (entry : ℕ → ℤ) (law : BrickLaw rows before objects entry) (to : ℕ)
      (lead : LeadUpTo entry newborn.place (object_size rows newborn) to) where
    abbrev named : ℕ → ℤ
    named brick = with_named entry newborn.place brick

    abbrev entered : ℕ → ℤ
    entered brick = led_back named (own + 1) to brick

    abbrev is_later : Bool
    is_later = names_later (newborn.place % 4096) (entry own)

    -- ---- the entries

    entered-below : (brick : ℕ) → brick < own → entered brick ≡ entry brick
    entered-below brick low =
        led-below named (own + 1) to brick (omega arith)
        ∙ with_named-elsewhere entry newborn.place brick (λ at. absurd (omega arith))

    entered-above : (brick : ℕ) → to ≤ brick → entered brick ≡ entry brick
    entered-above brick high =
        let up = lead.above in
        led-above named (own + 1) to brick high
        ∙ with_named-elsewhere entry newborn.place brick (λ at. absurd (omega arith))

    entered-own : entered own ≡ named own
    entered-own = led-below named (own + 1) to own (omega arith)

    -- ---- its own brick

    -- the entry of its brick names the first object that starts there
    record IsNamed : Type 0 where
      offset : ℕ
      root : entered own ≡ root_entry offset
      leader : LeadsBrick after now own (4096 * own + offset)

    -- where the brick is to name it, the others of its brick stand above
    others-above : is_later ≡ true → (o : Object) → IsIn o objects → o.place / 4096 ≡ own → newborn.place ≤ o.place
    others-above yes_later o i at = elim (cases_lt o.place newborn.place) [
      | inl under ↦
          let told = law b.home b.listed in
          let root = told.starts o.place (o, i, refl) (here o.place at) (may-here o.place at (omega arith)) in
          let same : entry own ≡ root_entry root.0 = ap entry (sym at) ∙ root.1 in
          let above = later-above (newborn.place % 4096) (entry own) root.0 yes_later same in
          let least = (told.named own root.0 own-of-home same).first o.place (o, i, refl) at in
          omega arith
      | inr over ↦ over
    ]

    leads-now : is_later ≡ true → LeadsBrick after now own newborn.place
    leads-now yes_later = record {
      stands = (newborn, b.born, refl);
      inside = refl;
      first = λ other s in_brick.
          elim (b.members s.0 s.1) [
            | inl new_one ↦
                let at : other ≡ newborn.place = sym s.2 ∙ ap (λ (o : Object). o.place) new_one in
                omega arith
            | inr was ↦
                let at = s.2 in
                let up = others-above yes_later s.0 was (ap (λ (n : ℕ). n / 4096) at ∙ in_brick) in
                omega arith
          ];
      may = may-same before after bounds newborn.place ∙ may-here newborn.place refl (omega arith);
    }

    is-named : IsNamed
    is-named = elim (cases_Bool is_later) [
      | inl yes_later ↦
          let at : newborn.place ≡ 4096 * own + newborn.place % 4096 = omega arith in
          record {
            offset = newborn.place % 4096;
            root = entered-own ∙ with_named-own entry newborn.place
                ∙ ap (λ (t : Bool). if t then root_entry (newborn.place % 4096) else entry own) yes_later;
            leader = subst (LeadsBrick after now own) at (leads-now yes_later);
          }
      | inr no_later ↦
          let was = later-not (newborn.place % 4096) (entry own) no_later in
          let up = was.2 in
          record {
            offset = was.0;
            root = entered-own ∙ with_named-own entry newborn.place
                ∙ ap (λ (t : Bool). if t then root_entry (newborn.place % 4096) else entry own) no_later ∙ was.1;
            leader = leads-still own (4096 * own + was.0)
                ((law b.home b.listed).named own was.0 own-of-home was.1) (λ same. omega arith);
          }
    ]

    own-root : IsRoot (entered own)
    own-root = (is-named.offset, is-named.root)

    -- ---- what reaches into a brick

    -- a brick that leads back leads to its own
    led-home : (brick : ℕ) → own < brick → brick < to → LeadsToNearest after now entered brick
    led-home brick low high =
        let way = hops named (own + 1) to (brick + 1) brick (omega arith) (omega arith) (omega arith) high in
        let back : own + 1 - 1 ≡ own = omega arith in
        let path = subst (λ (n : ℕ). Leads entered brick n) back way in
        record {
          below = own;
          lower = low;
          place = 4096 * own + is-named.offset;
          leader = is-named.leader;
          count = path.0;
          path = path.1;
          nearest = λ other s above under.
              (let reach = lead.reached brick low high in
              let at = s.2 in
              elim (b.members s.0 s.1) [
                | inl new_one ↦
                    let is : s.0.place ≡ newborn.place = ap (λ (o : Object). o.place) new_one in
                    omega arith
                | inr was ↦ let behind = starts-behind s.0 was (omega arith) in omega arith
              ]);
        }

    -- what leads back below the newborn does so still
    nearest-below : (brick : ℕ) → brick < own → LeadsToNearest before objects entry brick
        → LeadsToNearest after now entered brick
    nearest-below brick low n =
        let lower = n.lower in
        record {
          below = n.below;
          lower = n.lower;
          place = n.place;
          leader = leads-still n.below n.place n.leader (λ same. absurd (omega arith));
          count = n.count;
          path = (path-agrees entry entered 0 n.path (λ i up down. entered-below i (omega arith))).1;
          nearest = λ other s above under.
              elim (b.members s.0 s.1) [
                | inl new_one ↦
                    let at : other ≡ newborn.place = sym s.2 ∙ ap (λ (o : Object). o.place) new_one in
                    omega arith
                | inr was ↦ n.nearest other (s.0, was, s.2) above under
              ];
        }

    -- and so does what leads back to the newborn's last brick or above
    nearest-above : (o : Object) (brick : ℕ) → IsIn o objects → finish ≤ o.place → o.place / 4096 < brick
        → LeadsToNearest before objects entry brick → LeadsToNearest after now entered brick
    nearest-above o brick i behind from n =
        let up : o.place / 4096 ≤ n.below = elim (cases_lt n.below (o.place / 4096)) [
          | inl less ↦ absurd (n.nearest o.place (o, i, refl) less from)
          | inr more ↦ more
        ] in
        let leader : (p : ℕ) × LeadsBrick after now n.below p = elim (cases_eq n.below own) [
          | inl same ↦ (
            4096 * own + is-named.offset,
            subst (λ (m : ℕ). LeadsBrick after now m (4096 * own + is-named.offset)) (sym same) is-named.leader,
          )
          | inr other ↦ (n.place, leads-still n.below n.place n.leader (λ same. absurd (other same)))
        ] in
        record {
          below = n.below;
          lower = n.lower;
          place = leader.0;
          leader = leader.1;
          count = n.count;
          path = (path-agrees entry entered 0 n.path (λ i above down.
              entered-above i (elim (cases_lt i to) [
                | inl under ↦ let reach = lead.reached i (omega arith) under in omega arith
                | inr over ↦ over
              ]))).1;
          nearest = λ other s above under.
              elim (b.members s.0 s.1) [
                | inl new_one ↦
                    let at : other ≡ newborn.place = sym s.2 ∙ ap (λ (o : Object). o.place) new_one in
                    omega arith
                | inr was ↦ n.nearest other (s.0, was, s.2) above under
              ];
        }

    -- ---- the law

    module _ (t : SegInfo) (e : AreEntered rows before objects entry t) where
      named-born : (brick offset : ℕ) → IsBrickOf t brick → entered brick ≡ root_entry offset
          → LeadsBrick after now brick (4096 * brick + offset)
      named-born brick offset of is = elim (cases_lt brick own) [
        | inl low ↦
            leads-still brick (4096 * brick + offset) (e.named brick offset of (sym (entered-below brick low) ∙ is))
            (λ same. absurd (omega arith))
        | inr up ↦ elim (cases_eq brick own) [
          | inl same ↦
              let offsets = same-root is-named.offset offset (sym is-named.root ∙ ap entered (sym same) ∙ is) in
              subst (λ (n : ℕ). LeadsBrick after now n (4096 * n + offset)) (sym same)
              (subst (λ (n : ℕ). LeadsBrick after now own (4096 * own + n)) offsets is-named.leader)
          | inr other ↦ elim (cases_lt brick to) [
            | inl inside ↦
                no_root (hop (brick + 1 - (own + 1))) offset
                (sym (led-inside named (own + 1) to brick (omega arith) inside) ∙ is)
            | inr past ↦
                leads-still brick (4096 * brick + offset)
                (e.named brick offset of (sym (entered-above brick past) ∙ is)) (λ same. absurd (other same))
          ]
        ]
      ]

      starts-born : (p : ℕ) → Stands now p → stands_in t p ≡ true → may_lead before p ≡ true
          → IsRoot (entered (p / 4096))
      starts-born p s inside may = elim (b.members s.0 s.1) [
        | inl new_one ↦
            let at : p ≡ newborn.place = sym s.2 ∙ ap (λ (o : Object). o.place) new_one in
            subst (λ (n : ℕ). IsRoot (entered (n / 4096))) (sym at) own-root
        | inr was ↦
            let root = e.starts p (s.0, was, s.2) inside may in
            let at = s.2 in
            elim (cases_lt (p / 4096) own) [
              | inl low ↦ (root.0, entered-below (p / 4096) low ∙ root.1)
              | inr up ↦ elim (cases_eq (p / 4096) own) [
                | inl same ↦ subst (λ (n : ℕ). IsRoot (entered n)) (sym same) own-root
                | inr other ↦ elim (cases_lt (p / 4096) to) [
                  | inl led ↦
                      let more = lead.rooted (p / 4096) (omega arith) led root in
                      let behind = starts-behind s.0 was (omega arith) in
                      absurd (omega arith)
                  | inr past ↦ (root.0, entered-above (p / 4096) past ∙ root.1)
                ]
              ]
            ]
      ]

      reached-by-other : (o : Object) (brick : ℕ) → IsIn o objects → ReachesInto rows before objects brick
          → o.place / 4096 < brick → 4096 * brick < o.place + object_size rows o → IsBrickOf t brick
          → IsRoot (entered brick) ⊎ LeadsToNearest after now entered brick
      reached-by-other o brick i r from reach of = elim (b.apart o i) [
        | inl less ↦ elim (cases_lt brick own) [
          | inl low ↦ elim (e.reached brick of r) [
            | inl root ↦ inl (root.0, entered-below brick low ∙ root.1)
            | inr n ↦ inr (nearest-below brick low n)
          ]
          | inr up ↦
              let same : brick ≡ own = omega arith in
              inl (subst (λ (n : ℕ). IsRoot (entered n)) (sym same) own-root)
        ]
        | inr behind ↦
            let past : to ≤ brick = elim (cases_lt brick to) [
              | inl under ↦ let more = lead.reached brick (omega arith) under in absurd (omega arith)
              | inr over ↦ over
            ] in
            elim (e.reached brick of r) [
              | inl root ↦ inl (root.0, entered-above brick past ∙ root.1)
              | inr n ↦ inr (nearest-above o brick i behind from n)
            ]
      ]

      reached-born : (brick : ℕ) → IsBrickOf t brick → ReachesInto rows after now brick
          → IsRoot (entered brick) ⊎ LeadsToNearest after now entered brick
      reached-born brick of r = elim (b.members r.object r.present) [
        | inl new_one ↦
            let at : r.object.place ≡ newborn.place = ap (λ (o : Object). o.place) new_one in
            let ends : r.object.place + object_size rows r.object ≡ newborn.place + object_size rows newborn =
            ap (λ (o : Object). o.place + object_size rows o) new_one in
            let from = r.from in
            let reach = r.to in
            elim (cases_lt brick to) [
              | inl under ↦ inr (led-home brick (omega arith) under)
              | inr over ↦
                  let root = lead.left brick over (omega arith) in
                  inl (root.0, entered-above brick over ∙ root.1)
            ]
        | inr was ↦
            reached-by-other r.object brick was (record {
              object = r.object;
              present = was;
              old = subst (λ (n : ℕ). 0 < n) (generation-same before after bounds r.object.place) r.old;
              from = r.from;
              to = r.to;
            }) r.from r.to of
      ]

    entered-born : (s t : SegInfo) → ended_at 0 s ≡ ended_at 0 t → AreEntered rows before objects entry t
        → AreEntered rows after now entered s
    entered-born s t outline e =
        let base = ap (λ (r : SegInfo). r.base) outline in
        let reserved = ap (λ (r : SegInfo). r.reserved) outline in
        record {
          named = λ brick offset of is. named-born t e brick offset
              (omega (arith, base, of), omega (arith, base, reserved, of)) is;
          starts = λ p stood inside may. starts-born t e p stood
              (sym (ap (λ (r : SegInfo). stands_in r p) outline) ∙ inside)
              (sym (may-same before after bounds p) ∙ may);
          reached = λ brick of r. reached-born t e brick
              (omega (arith, base, of), omega (arith, base, reserved, of)) r;
        }

    -- THE LAW OF BRICKS is kept
    pub brick_law-old_born : BrickLaw rows after now entered
    brick_law-old_born s i =
        let was = segment-was before after bounds s i in
        entered-born s was.0 was.1 (law was.0 was.2)

-- where the entries told of the objects before, and these were written since, they tell of all of them
pub brick_law-told : (rows : List TypeRow) (before after : Layout) (objects now : List Object) (newborn : Object)
    (entry entries : ℕ → ℤ) (place size to : ℕ) → newborn.place ≡ place → object_size rows newborn ≡ size
    → LeadUpTo entry place size to
    → ((i : ℕ) → entries i ≡ led_back (with_named entry place) (place / 4096 + 1) to i)
    → HasOldNewborn rows before after objects now newborn → BrickLaw rows before objects entry
    → BrickLaw rows after now entries
brick_law-told rows before after objects now newborn entry entries place size to at sized lead told b law =
    let P : ℕ → Type 0 = λ n. LeadUpTo entry newborn.place n to in
    let Q : ℕ → Type 0 = λ p. LeadUpTo entry p size to in
    let same : led_back (with_named entry newborn.place) (newborn.place / 4096 + 1) to ≡ entries =
    λ k i. (ap (λ (p : ℕ). led_back (with_named entry p) (p / 4096 + 1) to i) at ∙ sym (told i)) k in
    subst (BrickLaw rows after now) same
    (brick_law-old_born rows before after objects now newborn b entry law to
    (subst P (sym sized) (subst Q (sym at) lead)))

-- ---- cards

-- no reference to a younger object is new, where the newborn is as new and no other object names it
pub old_birth_cards : (rows : List TypeRow) (before after : Layout) (objects now : List Object) (newborn : Object)
    (t n : ℕ) → HasOldNewborn rows before after objects now newborn → newborn.slots ≡ empty_slots (form_at rows t) n
    → ((o : Object) → IsIn o now → 0 < o.name)
    → ((o : Object) (slot : ℕ) → IsIn o objects → slice_get o.slots slot ≡ Some (ref newborn.name) → ⊥)
    → NamesNoMore rows before objects after now
old_birth_cards rows before after objects now newborn t n b new_slots names unnamed =
    younger-born rows before after objects now newborn (bounds rows before after objects now newborn b) (record {
      members = b.members;
      names = names;
      empty = λ slot name is. names-nothing (slot_kinds (form_at rows t) n) slot name
          (ap (λ (slots : List Value). slice_get slots slot) (sym new_slots) ∙ is);
      unnamed = unnamed;
    })
