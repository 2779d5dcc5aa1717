-- The law of bricks where an object is gone: its brick names the next one, or leads back where there is none.
use Rattle.std.proofs.Common.{◌≡◌, ◌≢◌, ◌⊎◌, inl, inr, ℕ, ◌+◌, ◌-◌, ◌*◌, ◌/◌, ◌<◌, ◌≤◌, true, List, refl}
use Rattle.std.proofs.Common.{ap, sym, ◌∙◌, subst, arith, ℤ, pos, negsuc}
use Rattle.std.proofs.lemmas.Bool.{cases_eq, cases_lt}
use Rattle.clr_types.specs.Rising.{IsIn}
use Rattle.clr_types.specs.Segments.{Layout, stands_in}
use Rattle.clr_types.specs.Types.{TypeRow}
use Rattle.clr_types.specs.declared.segment.SegInfo.{SegInfo}
use Rattle.clr_types.proofs.SegmentFacts.{stands-between}
use Rattle.clr_bricks.specs.Bricks.{back, IsRoot, LeadsBack, root_entry}
use Rattle.clr_model.specs.Machine.{Object}
use Rattle.clr_generations.specs.Laws.{AreEntered, BrickLaw, IsBrickOf, LeadsBrick, LeadsToNearest, may_lead}
use Rattle.clr_generations.specs.Laws.{ReachesInto, Stands}
use Rattle.clr_generations.proofs.BirthLaws.{path-agrees, same-root}
use Rattle.clr_generations.proofs.Homes.{HasWholeBricks, old-before, old-may_lead}
use Rattle.clr_evacuate.specs.Left.{HasLeft, IsTold}

-- what leads back names none
no_name : {A : Type 0} (offset k : ℕ) → negsuc k ≡ root_entry offset → A
no_name offset k e = absurd cc

-- an entry names an offset, or doesn't
root_or_not : (e : ℤ) → IsRoot e ⊎ (IsRoot e → ⊥)
root_or_not (pos ℕ.zero) = inr (λ (o, is). let same : 0 ≡ o + 1 = cc in omega (arith, same))
root_or_not (pos (ℕ.suc n)) = inl (n, ap pos (omega arith))
root_or_not (negsuc k) = inr (λ (o, is). no_name o k is)

module _ (rows : List TypeRow) (layout : Layout) (objects now : List Object) (place : ℕ) (entry new : ℕ → ℤ)
    (l : HasLeft rows layout objects now place) (told : IsTold layout now entry new (place / 4096))
    (law : BrickLaw rows layout objects entry) (home : SegInfo) (listed : IsIn home layout.segments)
    (whole : HasWholeBricks home) (inside : stands_in home place ≡ true) (young : place < layout.start0) where
  abbrev own : ℕ
  own = place / 4096

  law_home : AreEntered rows layout objects entry home
  law_home = law home listed

  -- the brick below is one of the segment's, too
  below_of : IsBrickOf home (own - 1) × (0 < own)
  below_of =
      let (low, high) = stands-between home place inside in
      let base = whole.base in
      let reserved = whole.reserved in
      ((omega (arith, low, base), omega (arith, high, base, reserved)), omega (arith, low))

  -- a place that led another brick does so still
  leads_still : (brick p : ℕ) → brick ≢ own → LeadsBrick layout objects brick p → LeadsBrick layout now brick p
  leads_still brick p other lead = record {
    stands =
        let (o, there, at) = lead.stands in
        let in_brick = lead.inside in
        (o, l.stays o there (λ e. other (sym in_brick ∙ ap (λ n. n / 4096) (sym at ∙ e))), at);
    inside = lead.inside;
    first = λ q (o, there, at) in_brick. lead.first q (o, (l.members o there).0, at) in_brick;
    may = lead.may;
  }

  -- what stands below may be named, and its brick names an offset
  lower_root : (o : Object) → IsIn o objects → o.place < place → IsRoot (entry (o.place / 4096))
  lower_root o there low =
      let (s, known, stands) = l.homes o there in
      (law s known).starts o.place (o, there, refl) stands
      (old-may_lead layout o.place (old-before layout o.place (omega (arith, low, young))))

  -- a brick that leads back meets no object on the way
  way_back : (brick : ℕ) → brick ≢ own → (n : LeadsToNearest layout objects entry brick) → (i : ℕ) → n.below < i
      → i ≤ brick → new i ≡ entry i
  way_back brick other n i up down =
      told.others i (λ at. n.nearest place l.there (omega (arith, at, up)) (omega (arith, at, down, other)))

  nearest_still : (brick : ℕ) → brick ≢ own → (n : LeadsToNearest layout objects entry brick)
      → (p : ℕ) → LeadsBrick layout now n.below p → LeadsToNearest layout now new brick
  nearest_still brick other n p leader = record {
    below = n.below;
    lower = n.lower;
    place = p;
    leader = leader;
    count = n.count;
    path = (path-agrees entry new 0 n.path (way_back brick other n)).1;
    nearest = λ q (o, there, at) above under. n.nearest q (o, (l.members o there).0, at) above under;
  }

  -- ---- the brick itself, where it may name none

  -- what reaches into it starts in the brick below, or reaches into that
  own_back : new own ≡ negsuc 0 → ReachesInto rows layout now own → LeadsToNearest layout now new own
  own_back none r = elim (root_or_not (entry (own - 1))) [
    | inl (offset, root) ↦
        let leader = leads_still (own - 1) (4096 * (own - 1) + offset) apart
        (law_home.named (own - 1) offset below_of.0 root) in
        record {
          below = own - 1;
          lower = omega (arith, some);
          place = 4096 * (own - 1) + offset;
          leader = leader;
          count = 1;
          path = back 0 none (omega (arith, some)) step;
          nearest = λ q stands above under. omega (arith, above, under);
        }
    | inr never ↦
        let from = r.from in
        let to = r.to in
        let (there, ne) = l.members r.object r.present in
        let low : r.object.place < place = omega (arith, from) in
        let start = lower_root r.object there low in
        let off : r.object.place / 4096 ≢ own - 1 = λ e. never (subst (λ n. IsRoot (entry n)) e start) in
        elim (law_home.reached (own - 1) below_of.0 (record {
          object = r.object;
          present = there;
          old = r.old;
          from = omega (arith, from, off);
          to = omega (arith, to);
        })) [
          | inl root ↦ absurd (never root)
          | inr n ↦
              let lower = n.lower in
              record {
                below = n.below;
                lower = omega (arith, lower);
                place = n.place;
                leader = leads_still n.below n.place (λ e. omega (arith, e, lower)) n.leader;
                count = ℕ.suc n.count;
                path = back 0 none (omega (arith, some)) (further n);
                nearest = λ q (o, mine, at) above under.
                    (let was = (l.members o mine).0 in
                    elim (cases_eq (q / 4096) (own - 1)) [
                      | inl here ↦
                          let root = lower_root o was (omega (arith, at, under)) in
                          never (subst (λ n. IsRoot (entry n)) (ap (λ n. n / 4096) at ∙ here) root)
                      | inr else ↦ n.nearest q (o, was, at) above (omega (arith, under, else))
                    ]);
              }
        ]
  ]
    where
      some : 0 < own
      some = below_of.1

      apart : own - 1 ≢ own
      apart e = omega (arith, e, some)

      step : LeadsBack new 0 (own - 1) (own - 1) 0
      step = LeadsBack.here

      further : (n : LeadsToNearest layout objects entry (own - 1)) → LeadsBack new 0 (own - 1) n.below n.count
      further n = (path-agrees entry new 0 n.path (way_back (own - 1) apart n)).1

  -- ---- bricks above

  -- where the brick may name none, no brick above leads to it that an object reaches into
  not_to_own : new own ≡ negsuc 0 → ((p : ℕ) → Stands now p → p / 4096 ≡ own → may_lead layout p ≡ true → ⊥)
      → (brick : ℕ) → ReachesInto rows layout now brick → (n : LeadsToNearest layout objects entry brick)
      → n.below ≢ own
  not_to_own none leaderless brick r n e =
      let (there, ne) = l.members r.object r.present in
      let from = r.from in
      let to = r.to in
      let lower = n.lower in
      elim (cases_eq (r.object.place / 4096) own) [
        | inl here ↦ leaderless r.object.place (r.object, r.present, refl) here
            (old-may_lead layout r.object.place r.old)
        | inr other ↦ elim (cases_lt (r.object.place / 4096) own) [
          | inl under ↦
              let ends = l.lower r.object there (omega (arith, under)) in
              omega (arith, ends, to, e, lower)
          | inr over ↦
              n.nearest r.object.place (r.object, there, refl) (omega (arith, over, other, e)) from
        ]
      ]

  -- ---- the law

  module _ (s : SegInfo) (e : AreEntered rows layout objects entry s) where
    named_left : (brick offset : ℕ) → IsBrickOf s brick → new brick ≡ root_entry offset
        → LeadsBrick layout now brick (4096 * brick + offset)
    named_left brick offset of is = elim (cases_eq brick own) [
      | inl here ↦ elim told.own [
        | inl (o, root, leader) ↦
            let same = same-root o offset (sym root ∙ ap new (sym here) ∙ is) in
            subst (λ n. LeadsBrick layout now n (4096 * n + offset)) (sym here)
            (subst (λ n. LeadsBrick layout now own (4096 * own + n)) same leader)
        | inr (none, leaderless) ↦ no_name offset 0 (sym none ∙ ap new (sym here) ∙ is)
      ]
      | inr other ↦ leads_still brick (4096 * brick + offset) other
          (e.named brick offset of (sym (told.others brick other) ∙ is))
    ]

    starts_left : (p : ℕ) → Stands now p → stands_in s p ≡ true → may_lead layout p ≡ true → IsRoot (new (p / 4096))
    starts_left p (o, there, at) stands may = elim (cases_eq (p / 4096) own) [
      | inl here ↦ elim told.own [
        | inl (offset, root, leader) ↦ (offset, ap new here ∙ root)
        | inr (none, leaderless) ↦ absurd (leaderless p (o, there, at) here may)
      ]
      | inr other ↦
          let root = e.starts p (o, (l.members o there).0, at) stands may in
          (root.0, told.others (p / 4096) other ∙ root.1)
    ]

    reached_left : (brick : ℕ) → IsBrickOf s brick → ReachesInto rows layout now brick
        → IsRoot (new brick) ⊎ LeadsToNearest layout now new brick
    reached_left brick of r = elim (cases_eq brick own) [
      | inl here ↦ elim told.own [
        | inl (offset, root, leader) ↦ inl (offset, ap new here ∙ root)
        | inr (none, leaderless) ↦ inr (subst (LeadsToNearest layout now new) (sym here)
            (own_back none (subst (ReachesInto rows layout now) here r)))
      ]
      | inr other ↦ elim (e.reached brick of (record {
        object = r.object;
        present = (l.members r.object r.present).0;
        old = r.old;
        from = r.from;
        to = r.to;
      })) [
        | inl root ↦ inl (root.0, told.others brick other ∙ root.1)
        | inr n ↦ elim (cases_eq n.below own) [
          | inl to_own ↦ elim told.own [
            | inl (offset, root, leader) ↦ inr (nearest_still brick other n (4096 * own + offset)
                (subst (λ m. LeadsBrick layout now m (4096 * own + offset)) (sym to_own) leader))
            | inr (none, leaderless) ↦ absurd (not_to_own none leaderless brick r n to_own)
          ]
          | inr else ↦ inr (nearest_still brick other n n.place (leads_still n.below n.place else n.leader))
        ]
      ]
    ]

  -- THE LAW OF BRICKS is kept
  pub brick_law-left : BrickLaw rows layout now new
  brick_law-left s known = record {
    named = named_left s (law s known);
    starts = starts_left s (law s known);
    reached = reached_left s (law s known);
  }
