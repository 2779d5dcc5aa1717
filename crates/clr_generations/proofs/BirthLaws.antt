-- The law of bricks where an object is born in generation 0: its brick names it, where it may and names nothing below.
use Rattle.std.proofs.Common.{◌≡◌, ◌≢◌, ◌⊎◌, inl, inr, ℕ, zero, suc, ◌+◌, ◌*◌, ◌/◌, ◌%◌, ◌<◌, ◌≤◌, Bool, true, false}
use Rattle.std.proofs.Common.{if◌then◌else◌, ◌&&◌, ◌||◌, List, refl, ap, sym, ◌∙◌, subst, arith, eqb, leb, ltb, ℤ, pos}
use Rattle.std.proofs.Common.{negsuc}
use Rattle.std.proofs.Math.Bool.{or-true}
use Rattle.std.proofs.lemmas.Bool.{and_cases, cases_Bool, cases_eq, cases_lt, eq-eqb, le-leb, leb-false, leb-true}
use Rattle.std.proofs.lemmas.Bool.{lt-ltb, ltb-true, ne_eqb, or_cases}
use Rattle.clr_types.specs.Rising.{IsIn}
use Rattle.clr_types.specs.Segments.{ended_at, generation, Layout, stands_in}
use Rattle.clr_types.specs.Types.{TypeRow}
use Rattle.clr_types.specs.declared.segment.SegInfo.{SegInfo}
use Rattle.clr_model.specs.Lookups.{object_size}
use Rattle.clr_model.specs.Machine.{Object}
use Rattle.clr_bricks.specs.Bricks.{back, here, IsRoot, LeadsBack, root_entry}
use Rattle.clr_generations.specs.Born.{is_to_lead, names_later, with_place}
use Rattle.clr_generations.specs.Laws.{AreEntered, BrickLaw, IsBrickOf, LeadsBrick, LeadsToNearest, may_lead}
use Rattle.clr_generations.specs.Laws.{ReachesInto, Stands}
use Rattle.clr_generations.proofs.SameBounds.{generation-same, HasSameBounds, may-same, segment-was}

-- ---- entries

-- an entry that names no offset up to this one names a higher one, if any
pub later-above : (offset : ℕ) (e : ℤ) (o : ℕ) → names_later offset e ≡ true → e ≡ root_entry o → offset < o
later-above offset (pos zero) o later is = let none : zero ≡ o + 1 = cc in absurd (omega arith)
later-above offset (pos (suc other)) o later is =
    let same : suc other ≡ o + 1 = cc in
    let above = ltb-true offset other later in
    omega arith
later-above offset (negsuc n) o later is = let clash : negsuc n ≡ pos (o + 1) = is in absurd cc

-- and any other names one up to it
pub later-not : (offset : ℕ) (e : ℤ) → names_later offset e ≡ false → (o : ℕ) × (e ≡ root_entry o) × (o ≤ offset)
later-not offset (pos zero) none = absurd cc
later-not offset (pos (suc other)) low = elim (cases_lt offset other) [
  | inl above ↦ let yes_above = lt-ltb offset other above in absurd cc
  | inr up_to ↦ let same : suc other ≡ other + 1 = omega arith in (other, ap pos same, up_to)
]
later-not offset (negsuc n) none = absurd cc

-- two roots of one entry name one offset
pub same-root : (o p : ℕ) → root_entry o ≡ root_entry p → o ≡ p
same-root o p e = let same : o + 1 ≡ p + 1 = cc in omega arith

-- a test that a brick is to name a place, or isn't
to-lead : (a b : Bool) → (a && b) ≡ true → (a ≡ true) × (b ≡ true)
to-lead true true e = (refl, refl)
to-lead true false e = absurd cc
to-lead false b e = absurd cc

-- a path of back entries is one wherever its entries are, but for the last brick
pub path-agrees : (entry other : ℕ → ℤ) (low : ℕ) {brick to n : ℕ} → LeadsBack entry low brick to n
    → ((i : ℕ) → to < i → i ≤ brick → other i ≡ entry i) → (to ≤ brick) × LeadsBack other low brick to n
path-agrees entry other low here same = (omega arith, here)
path-agrees entry other low {brick = brick} {to = to} (back k e l path) same =
    let rest = path-agrees entry other low path (λ i up down. same i up (omega arith)) in
    let down = rest.0 in
    (omega arith, back k (same brick (omega arith) (omega arith) ∙ e) l rest.1)

-- ---- a birth

-- One object more stands at a place of generation 0, which is in no cell of the others. Those of generation 1 and 2
-- that start in its brick stand below it.
pub record IsYoungBirth (rows : List TypeRow) (bounds layout : Layout) (old new : List Object) (place : ℕ)
    : Type 0 where
  pub same : HasSameBounds bounds layout
  pub came : (o : Object) → IsIn o new → (o.place ≡ place) ⊎ IsIn o old
  pub stays : (o : Object) → IsIn o old → IsIn o new
  pub there : Stands new place
  pub young : generation bounds place ≡ 0
  pub low : bounds.start0 ≤ place
  pub apart : (o : Object) → IsIn o old → (o.place + object_size rows o ≤ place) ⊎ (place < o.place)
  pub near : (p : ℕ) → p / 4096 ≡ place / 4096 → 0 < generation bounds p → p < place
  pub homes : (o : Object) → IsIn o old
      → (s : SegInfo) × IsIn s bounds.segments × (stands_in s o.place ≡ true) × IsBrickOf s (o.place / 4096)

module _ (rows : List TypeRow) (bounds layout : Layout) (old new : List Object) (place : ℕ)
    (birth : IsYoungBirth rows bounds layout old new place) (entry : ℕ → ℤ) (law : BrickLaw rows bounds old entry) where
  abbrev own : ℕ
  own = place / 4096

  abbrev now : ℕ → ℤ
  now brick = with_place layout entry place brick

  abbrev leads : Bool
  leads = is_to_lead layout entry place

  -- ---- the entries

  replaced : leads ≡ true → now own ≡ root_entry (place % 4096)
  replaced e =
      let hit = eq-eqb own own refl in
      λ i. if hit i && e i then root_entry (place % 4096) else entry own

  elsewhere : (brick : ℕ) → brick ≢ own → now brick ≡ entry brick
  elsewhere brick ne =
      let miss = ne_eqb brick own ne in
      ap (λ (b : Bool). if b && leads then root_entry (place % 4096) else entry brick) miss

  unchanged : leads ≡ false → (brick : ℕ) → now brick ≡ entry brick
  unchanged e brick =
      ap (λ (b : Bool). if (eqb brick own) && b then root_entry (place % 4096) else entry brick) e
      ∙ go (eqb brick own)
    where
      go : (b : Bool) → (if b && false then root_entry (place % 4096) else entry brick) ≡ entry brick
      go true = refl
      go false = refl

  -- a brick that named an offset still names one
  rooted : (brick : ℕ) → IsRoot (entry brick) → IsRoot (now brick)
  rooted brick root = elim (cases_eq brick own) [
    | inl same ↦ elim (cases_Bool leads) [
      | inl yes_leads ↦
          (place % 4096, ap now same ∙ replaced yes_leads)
      | inr not_leads ↦ (root.0, unchanged not_leads brick ∙ root.1)
    ]
    | inr other ↦ (root.0, elsewhere brick other ∙ root.1)
  ]

  -- what is not to be named begins after generation 0 does, or is named below
  unnamed : leads ≡ false → (4096 * own < bounds.start0) ⊎ ((o : ℕ) × (entry own ≡ root_entry o) × (o ≤ place % 4096))
  unnamed e =
      let start = birth.same.start0 in
      elim (and_cases (leb layout.start0 (4096 * own)) (names_later (place % 4096) (entry own)) e) [
        | inl past ↦ let l = leb-false layout.start0 (4096 * own) past in inl (omega arith)
        | inr named ↦ inr (later-not (place % 4096) (entry own) named)
      ]

  -- where it is named, the brick is of generation 0 alone
  all-young : leads ≡ true → bounds.start0 ≤ 4096 * own
  all-young e =
      let start = birth.same.start0 in
      let l = leb-true layout.start0 (4096 * own) (to-lead (leb layout.start0 (4096 * own))
      (names_later (place % 4096) (entry own)) e).0 in
      omega arith

  -- a place of a brick of generation 0 may lead it, and one of generation 0 leads only such a brick
  may-young : (p : ℕ) → bounds.start0 ≤ 4096 * (p / 4096) → may_lead bounds p ≡ true
  may-young p l =
      ap (λ (b : Bool). ltb 0 (generation bounds p) || b) (le-leb bounds.start0 (4096 * (p / 4096)) l)
      ∙ or-true (ltb 0 (generation bounds p))

  may-what : (p : ℕ) → may_lead bounds p ≡ true → (0 < generation bounds p) ⊎ (bounds.start0 ≤ 4096 * (p / 4096))
  may-what p e = elim (or_cases (ltb 0 (generation bounds p)) (leb bounds.start0 (4096 * (p / 4096))) e) [
    | inl aged ↦ inl (ltb-true 0 (generation bounds p) aged)
    | inr past ↦ inr (leb-true bounds.start0 (4096 * (p / 4096)) past)
  ]

  -- ---- what leads a brick

  -- a place that led its brick does so still, unless the new object is below it
  leads-still : (brick p : ℕ) → LeadsBrick bounds old brick p → (brick ≡ own → p ≤ place)
      → LeadsBrick layout new brick p
  leads-still brick p l below = record {
    stands = let s = l.stands in (s.0, birth.stays s.0 s.1, s.2);
    inside = l.inside;
    first = λ other s in_brick.
        elim (birth.came s.0 s.1) [
          | inl new_one ↦
              let at = s.2 in
              let other_is : other ≡ place = sym at ∙ new_one in
              let under = below (sym in_brick ∙ ap (λ (n : ℕ). n / 4096) other_is) in
              omega (arith, under, other_is)
          | inr was ↦ l.first other (s.0, was, s.2) in_brick
        ];
    may = may-same bounds layout birth.same p ∙ l.may;
  }

  -- where the new object is to lead, the others of its brick stand above it
  old-above : leads ≡ true → (o : Object) → IsIn o old → o.place / 4096 ≡ own → place ≤ o.place
  old-above e o i in_brick =
      let start = all-young e in
      let later = (to-lead (leb layout.start0 (4096 * own)) (names_later (place % 4096) (entry own)) e).1 in
      let home = birth.homes o i in
      let entered = law home.0 home.1 in
      let root = entered.starts o.place (o, i, refl) home.2 (may-young o.place (omega arith)) in
      let named : entry own ≡ root_entry root.0 = ap entry (sym in_brick) ∙ root.1 in
      let above = later-above (place % 4096) (entry own) root.0 later named in
      let led = entered.named own root.0 (subst (IsBrickOf home.0) in_brick home.3) named in
      let up = led.first o.place (o, i, refl) in_brick in
      omega (arith, above, up)

  -- the new object leads its brick
  leads-now : leads ≡ true → LeadsBrick layout new own place
  leads-now e = record {
    stands = birth.there;
    inside = refl;
    first = λ other s in_brick.
        elim (birth.came s.0 s.1) [
          | inl new_one ↦ let at = s.2 in omega (arith, at, new_one)
          | inr was ↦
              let at = s.2 in
              let up = old-above e s.0 was (ap (λ (n : ℕ). n / 4096) at ∙ in_brick) in
              omega (arith, at, up)
        ];
    may = may-same bounds layout birth.same place ∙ may-young place (all-young e);
  }

  -- what led the brick of the new object is below it, where it leads still
  led-below : leads ≡ false → (offset : ℕ) → entry own ≡ root_entry offset
      → LeadsBrick bounds old own (4096 * own + offset) → 4096 * own + offset ≤ place
  led-below e offset is l = elim (unnamed e) [
    | inl early ↦
        let inside = l.inside in
        elim (may-what (4096 * own + offset) l.may) [
          | inl aged ↦ let under = birth.near (4096 * own + offset) inside aged in omega (arith, under)
          | inr past ↦ absurd (omega (arith, past, inside, early))
        ]
    | inr named ↦
        let same = same-root offset named.0 (sym is ∙ named.1) in
        let up = named.2 in
        omega (arith, same, up)
  ]

  -- ---- what reaches into a brick

  -- where an object of generation 1 or 2 reaches over bricks, the new object is in none of them
  not-between : (brick below : ℕ) (r : ReachesInto rows bounds old brick) → r.object.place / 4096 ≤ below
      → below ≤ own → own < brick → ⊥
  not-between brick below r low up high =
      let to = r.to in
      elim (birth.apart r.object r.present) [
        | inl ends ↦ omega arith
        | inr above ↦
            let in_brick : r.object.place / 4096 ≡ own = omega arith in
            let under = birth.near r.object.place in_brick r.old in
            omega arith
      ]

  reached-before : (brick : ℕ) → ReachesInto rows layout new brick → ReachesInto rows bounds old brick
  reached-before brick r =
      let gen = generation-same bounds layout birth.same r.object.place in
      elim (birth.came r.object r.present) [
        | inl new_one ↦
            let aged = r.old in
            let zero_is = ap (generation bounds) new_one ∙ birth.young in
            absurd (omega (arith, gen, aged, zero_is))
        | inr was ↦ record {
          object = r.object;
          present = was;
          old = subst (λ n. 0 < n) gen r.old;
          from = r.from;
          to = r.to;
        }
      ]

  -- so it is below the nearest brick in which an object starts, or not below the brick
  outside : (brick : ℕ) → ReachesInto rows bounds old brick → (n : LeadsToNearest bounds old entry brick)
      → (own < n.below) ⊎ (brick ≤ own)
  outside brick r n = elim (cases_lt own n.below) [
    | inl under ↦ inl under
    | inr up ↦ elim (cases_lt own brick) [
      | inl high ↦ elim (cases_lt n.below (r.object.place / 4096)) [
        | inl between ↦ absurd (n.nearest r.object.place (r.object, r.present, refl) between r.from)
        | inr low ↦ absurd (not-between brick n.below r low up high)
      ]
      | inr over ↦ inr over
    ]
  ]

  nearest : (brick : ℕ) → ReachesInto rows bounds old brick → (n : LeadsToNearest bounds old entry brick)
      → ((i : ℕ) → n.below < i → i ≤ brick → now i ≡ entry i) → LeadsToNearest layout new now brick
  nearest brick r n agrees =
      let out = outside brick r n in
      let lower = n.lower in
      record {
        below = n.below;
        lower = n.lower;
        place = n.place;
        leader = leads-still n.below n.place n.leader
            (λ same. elim out [ inl under ↦ omega (arith, same, under) | inr over ↦ omega (arith, same, over, lower) ]);
        count = n.count;
        path = (path-agrees entry now 0 n.path agrees).1;
        nearest = λ other s low high.
            elim (birth.came s.0 s.1) [
              | inl new_one ↦
                  let at : other ≡ place = sym s.2 ∙ new_one in
                  elim out [ inl under ↦ omega (arith, at, low, under) | inr over ↦ omega (arith, at, high, over) ]
              | inr was ↦ n.nearest other (s.0, was, s.2) low high
            ];
      }

  nearest-still : (brick : ℕ) → ReachesInto rows bounds old brick → LeadsToNearest bounds old entry brick
      → IsRoot (now brick) ⊎ LeadsToNearest layout new now brick
  nearest-still brick r n = elim (cases_Bool leads) [
    | inl yes_leads ↦ elim (cases_eq brick own) [
      | inl same ↦ inl (place % 4096, ap now same ∙ replaced yes_leads)
      | inr other ↦ inr (nearest brick r n (λ i up down.
          elsewhere i (λ is. elim (outside brick r n) [
            | inl under ↦ omega (arith, is, up, under)
            | inr over ↦ other (omega (arith, is, down, over))
          ])))
    ]
    | inr not_leads ↦ inr (nearest brick r n (λ i up down. unchanged not_leads i))
  ]

  -- ---- the law

  named-born : (t : SegInfo) → AreEntered rows bounds old entry t → (brick offset : ℕ) → IsBrickOf t brick
      → now brick ≡ root_entry offset → LeadsBrick layout new brick (4096 * brick + offset)
  named-born t e brick offset own_brick is = elim (cases_Bool leads) [
    | inl yes_leads ↦ elim (cases_eq brick own) [
      | inl same ↦
          let offset_is = same-root offset (place % 4096) (sym is ∙ ap now same ∙ replaced yes_leads) in
          let at : place ≡ 4096 * brick + offset = omega arith in
          subst (LeadsBrick layout new brick) at
          (subst (λ n. LeadsBrick layout new n place) (sym same) (leads-now yes_leads))
      | inr other ↦
          leads-still brick (4096 * brick + offset)
          (e.named brick offset own_brick (sym (elsewhere brick other) ∙ is)) (λ same. absurd (other same))
    ]
    | inr not_leads ↦
        let was : entry brick ≡ root_entry offset = sym (unchanged not_leads brick) ∙ is in
        let led = e.named brick offset own_brick was in
        leads-still brick (4096 * brick + offset) led (λ same.
        subst (λ n. 4096 * n + offset ≤ place) (sym same)
        (led-below not_leads offset (ap entry (sym same) ∙ was)
        (subst (λ n. LeadsBrick bounds old n (4096 * n + offset)) same led)))
  ]

  starts-born : (t : SegInfo) → AreEntered rows bounds old entry t → (p : ℕ) → Stands new p → stands_in t p ≡ true
      → may_lead bounds p ≡ true → IsRoot (now (p / 4096))
  starts-born t e p s inside may = elim (birth.came s.0 s.1) [
    | inl new_one ↦
        let at : p ≡ place = sym s.2 ∙ new_one in
        subst (λ n. IsRoot (now (n / 4096))) (sym at) (own-root (subst (λ n. may_lead bounds n ≡ true) at may))
    | inr was ↦ rooted (p / 4096) (e.starts p (s.0, was, s.2) inside may)
  ]
    where
      own-root : may_lead bounds place ≡ true → IsRoot (now own)
      own-root m = elim (cases_Bool leads) [
        | inl yes_leads ↦ (place % 4096, replaced yes_leads)
        | inr not_leads ↦ elim (unnamed not_leads) [
          | inl early ↦
              let young = birth.young in
              elim (may-what place m) [ inl aged ↦ absurd (omega arith) | inr past ↦ absurd (omega arith) ]
          | inr named ↦ (named.0, unchanged not_leads own ∙ named.1)
        ]
      ]

  -- THE BRICK LAW is kept
  entered-born : (s t : SegInfo) → ended_at 0 s ≡ ended_at 0 t → AreEntered rows bounds old entry t
      → AreEntered rows layout new now s
  entered-born s t outline e =
      let base = ap (λ (r : SegInfo). r.base) outline in
      let reserved = ap (λ (r : SegInfo). r.reserved) outline in
      record {
        named = λ brick offset own_brick is. named-born t e brick offset
            (omega (arith, base, own_brick), omega (arith, base, reserved, own_brick)) is;
        starts = λ p stood inside may. starts-born t e p stood
            (sym (ap (λ (r : SegInfo). stands_in r p) outline) ∙ inside)
            (sym (may-same bounds layout birth.same p) ∙ may);
        reached = λ brick own_brick r.
            let before = reached-before brick r in
            elim (e.reached brick (omega (arith, base, own_brick), omega (arith, base, reserved, own_brick)) before) [
              | inl root ↦ inl (rooted brick root)
              | inr n ↦ nearest-still brick before n
            ];
      }

  pub brick_law-born : BrickLaw rows layout new now
  brick_law-born s i =
      let was = segment-was bounds layout birth.same s i in
      entered-born s was.0 was.1 (law was.0 was.2)
