-- A walk that enters the bricks of a segment: what holds as far as it has come.
use Rattle.std.proofs.Common.{◌≡◌, ◌≢◌, ◌⊎◌, inl, inr, ℕ, ◌+◌, ◌-◌, ◌*◌, ◌/◌, ◌%◌, ◌<◌, ◌≤◌, true}
use Rattle.std.proofs.Common.{List, refl, ap, sym, ◌∙◌, subst, arith, ℤ}
use Rattle.std.proofs.lemmas.Bool.{cases_eq, cases_lt}
use Rattle.clr_types.specs.Rising.{IsIn}
use Rattle.clr_types.specs.Segments.{ephemeral, first_place, generation, Layout, reserved_end, stands_in}
use Rattle.clr_types.specs.Types.{TypeRow}
use Rattle.clr_types.specs.declared.segment.SegInfo.{SegInfo}
use Rattle.clr_bricks.specs.Bricks.{IsRoot, LeadsBack, root_entry}
use Rattle.clr_model.specs.Lookups.{object_size}
use Rattle.clr_model.specs.Machine.{Object}
use Rattle.clr_compact.specs.Entered.{AreEnteredBelow}
use Rattle.clr_compact.specs.Entering.{hop, led_back}
use Rattle.clr_generations.specs.Laws.{AreEntered, IsBrickOf, LeadsBrick, LeadsToNearest, may_lead, ReachesInto, Stands}
use Rattle.clr_generations.proofs.Alike.{path-down, path-same}
use Rattle.clr_generations.proofs.BrickSteps.{hops, Leads, leads-on, led-inside, no_root}
pub use Rattle.clr_generations.proofs.BrickSteps.{led-above, led-below}
use Rattle.clr_generations.proofs.Homes.{brick-of, HasWholeBricks, HaveHomes, old-may_lead, stands-home}
use Rattle.clr_compact.proofs.BrickPlaces.{may_lead-lower}

-- ---- as far as the walk has come

-- The entries tell the objects of the segment below a place and those that reach into a brick below `next`. Only bricks
-- below `next` name offsets.
pub record AreEnteredTo (rows : List TypeRow) (layout : Layout) (objects : List Object) (entry : ℕ → ℤ) (s : SegInfo)
    (place next : ℕ) : Type 0 where
  pub named : (brick offset : ℕ) → IsBrickOf s brick → entry brick ≡ root_entry offset
      → LeadsBrick layout objects brick (4096 * brick + offset) × (brick < next)
  pub starts : (x : ℕ) → Stands objects x → stands_in s x ≡ true → x < place → may_lead layout x ≡ true
      → IsRoot (entry (x / 4096))
  pub reached : (brick : ℕ) → IsBrickOf s brick → brick < next → ReachesInto rows layout objects brick
      → IsRoot (entry brick) ⊎ LeadsToNearest layout objects entry brick

-- entries lead from the brick to a root that isn't below another one
pub record LeadsUpTo (entry : ℕ → ℤ) (brick low : ℕ) : Type 0 where
  pub to : ℕ
  pub path : Leads entry brick to
  pub root : IsRoot (entry to)
  pub above : low ≤ to

-- So it is where the walk has come to a place, and `next` is the first brick that isn't settled: the brick below that
-- leads to a root not below where an object of generation 1 or 2 starts that reaches on.
pub record IsEntering (rows : List TypeRow) (layout : Layout) (objects : List Object) (entry : ℕ → ℤ) (s : SegInfo)
    (place next : ℕ) : Type 0 where
  pub entered : AreEnteredTo rows layout objects entry s place next
  pub carried : (o : Object) → IsIn o objects → stands_in s o.place ≡ true → o.place < place
      → 0 < generation layout o.place → 4096 * next < o.place + object_size rows o
      → LeadsUpTo entry (next - 1) (o.place / 4096)
  pub near : next ≤ place / 4096 + 1
  pub here : place / 4096 < next → IsRoot (entry (place / 4096))
  pub above : s.base / 4096 < next

module _ (rows : List TypeRow) (layout : Layout) (objects : List Object) (s : SegInfo)
    (homes : HaveHomes rows objects s) (young : HasWholeBricks (ephemeral layout)) where
  -- no object starts between a root that isn't below the start of one and a brick that this one reaches into
  none_between : (o : Object) (low brick q : ℕ) → IsIn o objects → o.place / 4096 ≤ low
      → 4096 * brick < o.place + object_size rows o → Stands objects q → low < q / 4096 → q / 4096 < brick → ⊥
  none_between o low brick q l above to stands up down =
      let at = stands.2 in
      elim (cases_lt o.place q) [
        | inl over ↦ let past = homes.apart o stands.0 l stands.1 (omega arith) in omega arith
        | inr under ↦ omega arith
      ]

  -- ---- the beginning

  module _ (entry : ℕ → ℤ) (from : ℕ) (low : first_place s ≤ from)
      (e : AreEnteredBelow rows layout objects entry s from) where
    -- what reaches over the place's brick is carried from the brick below
    carried-on : (o : Object) → IsIn o objects → stands_in s o.place ≡ true → o.place < from
        → 0 < generation layout o.place → o.place / 4096 < from / 4096
        → 4096 * (from / 4096) < o.place + object_size rows o → IsBrickOf s (from / 4096 - 1)
        → LeadsUpTo entry (from / 4096 - 1) (o.place / 4096)
    carried-on o l in_s below old less reach of = elim (cases_lt (o.place / 4096) (from / 4096 - 1)) [
      | inl lower ↦ elim (e.reached (from / 4096 - 1) of (omega arith)
          (record { object = o; present = l; old = old; from = lower; to = omega arith })) [
            | inl root ↦ record { to = from / 4096 - 1; path = (0, LeadsBack.here); root = root; above = omega arith }
            | inr n ↦
                let lower' = n.lower in
                let inside = n.leader.inside in
                let above : o.place / 4096 ≤ n.below = elim (cases_lt n.below (o.place / 4096)) [
                  | inl less' ↦ absurd (n.nearest o.place (o, l, refl) less' lower)
                  | inr more ↦ more
                ] in
                let first = (brick-of s o.place homes.bricks in_s).0 in
                let high = of.1 in
                let in_s' = stands-home rows objects s n.place homes n.leader.stands (omega arith, omega arith) in
                let root = e.starts n.place n.leader.stands in_s' (omega arith) n.leader.may in
                record {
                  to = n.below;
                  path = (n.count, n.path);
                  root = subst (λ (b : ℕ). IsRoot (entry b)) inside root;
                  above = above;
                }
          ]
      | inr same ↦
          let at : o.place / 4096 ≡ from / 4096 - 1 = omega arith in
          record {
            to = from / 4096 - 1;
            path = (0, LeadsBack.here);
            root = subst (λ (b : ℕ). IsRoot (entry b)) at (e.starts o.place (o, l, refl) in_s below
                (old-may_lead layout o.place old));
            above = omega arith;
          }
    ]

    -- the brick of the place is settled where it is a root
    pub starts_settled : IsRoot (entry (from / 4096))
        → IsEntering rows layout objects entry s from (from / 4096 + 1)
    starts_settled root =
        let base = homes.bricks.base in
        record {
          entered = record {
            named = λ brick offset of is. (let n = e.named brick offset of is in let under = n.1 in (n.0, omega arith));
            starts = e.starts;
            reached = λ brick of under r. elim (cases_eq brick (from / 4096)) [
              | inl at ↦ inl (subst (λ (b : ℕ). IsRoot (entry b)) (sym at) root)
              | inr ne ↦ e.reached brick of (omega arith) r
            ];
          };
          carried = λ o l in_s below old reach. record {
            to = from / 4096;
            path = subst (λ (b : ℕ). Leads entry b (from / 4096)) (below_next (from / 4096)) (0, LeadsBack.here);
            root = root;
            above = omega arith;
          };
          near = omega arith;
          here = λ under. root;
          above = omega arith;
        }
      where
        below_next : (n : ℕ) → n ≡ n + 1 - 1
        below_next n = omega arith

    -- and else it isn't
    pub starts_open : from ≤ reserved_end s
        → (IsBrickOf s (from / 4096) → IsRoot (entry (from / 4096)) → ⊥)
        → IsEntering rows layout objects entry s from (from / 4096)
    starts_open high none =
        let base = homes.bricks.base in
        let reserved = homes.bricks.reserved in
        record {
          entered = record {
            named = λ brick offset of is.
                (let n = e.named brick offset of is in
                let under = n.1 in
                let lower : brick < from / 4096 = elim (cases_eq brick (from / 4096)) [
                  | inl at ↦ absurd (none (subst (λ (b : ℕ). IsBrickOf s b) at of) (offset, ap entry (sym at) ∙ is))
                  | inr ne ↦ omega arith
                ] in
                (n.0, lower));
            starts = e.starts;
            reached = e.reached;
          };
          carried = λ o l in_s below old reach.
              (let less : o.place / 4096 < from / 4096 = elim (cases_eq (o.place / 4096) (from / 4096)) [
                | inl at ↦ absurd (none (subst (λ (b : ℕ). IsBrickOf s b) at (brick-of s o.place homes.bricks in_s))
                    (subst (λ (b : ℕ). IsRoot (entry b)) at (e.starts o.place (o, l, refl) in_s below
                    (old-may_lead layout o.place old))))
                | inr ne ↦ omega arith
              ] in
              carried-on o l in_s below old less reach (omega arith, omega arith));
          near = omega arith;
          here = λ under. absurd (omega arith);
          above = omega arith;
        }

  -- ---- a step

  module _ (entry : ℕ → ℤ) (place next : ℕ) (w : IsEntering rows layout objects entry s place next) where
    -- THE STRETCH UP TO A BRICK leads back
    module _ (to : ℕ) (up : next ≤ to) (met : (x : ℕ) → Stands objects x → stands_in s x ≡ true → x / 4096 + 1 < to
        → x < place) where
      led-root : (brick offset : ℕ) → led_back entry next to brick ≡ root_entry offset → entry brick ≡ root_entry offset
      led-root brick offset is = elim (cases_lt brick next) [
        | inl low ↦ sym (led-below entry next to brick low) ∙ is
        | inr above ↦ elim (cases_lt brick to) [
          | inl inside ↦
              no_root (hop (brick + 1 - next)) offset (sym (led-inside entry next to brick above inside) ∙ is)
          | inr past ↦ sym (led-above entry next to brick past) ∙ is
        ]
      ]

      -- a brick of the stretch leads to where one starts that reaches into it
      led-nearest : (brick : ℕ) → IsBrickOf s brick → next ≤ brick → brick < to → ReachesInto rows layout objects brick
          → LeadsToNearest layout objects (led_back entry next to) brick
      led-nearest brick of low high r =
          let from = r.from in
          let reach = r.to in
          let in_s = homes.home r.object brick r.present of (omega arith) reach in
          let first = (brick-of s r.object.place homes.bricks in_s).0 in
          let last = of.1 in
          let above = w.above in
          let u = w.carried r.object r.present in_s (met r.object.place (r.object, r.present, refl) in_s (omega arith))
          r.old (omega arith) in
          let least = u.above in
          let down = path-down u.path.1 in
          let n = w.entered.named u.to u.root.0 (omega arith, omega arith) u.root.1 in
          let way = hops entry next to (brick + 1) brick (omega arith) (omega arith) (omega arith) high in
          let up = path-same u.path.1 (λ b lo hi. led-below entry next to b (omega arith)) in
          let path = leads-on {n = way.0} way.1 (u.path.0, up) in
          record {
            below = u.to;
            lower = omega arith;
            place = 4096 * u.to + u.root.0;
            leader = n.0;
            count = path.0;
            path = path.1;
            nearest = λ q stands more less. none_between r.object u.to brick q r.present least reach stands more less;
          }

      pub led : AreEnteredTo rows layout objects (led_back entry next to) s place to
      led = record {
        named = λ brick offset of is.
            (let n = w.entered.named brick offset of (led-root brick offset is) in
            let under = n.1 in
            (n.0, omega arith));
        starts = λ x stands in_s below may.
            (let root = w.entered.starts x stands in_s below may in
            let n = w.entered.named (x / 4096) root.0 (brick-of s x homes.bricks in_s) root.1 in
            (root.0, led-below entry next to (x / 4096) n.1 ∙ root.1));
        reached = λ brick of high r. elim (cases_lt brick next) [
          | inl low ↦ elim (w.entered.reached brick of low r) [
            | inl root ↦ inl (root.0, led-below entry next to brick low ∙ root.1)
            | inr n ↦ inr (record {
              below = n.below;
              lower = n.lower;
              place = n.place;
              leader = n.leader;
              count = n.count;
              path = path-same n.path (λ b lo hi. led-below entry next to b (omega arith));
              nearest = n.nearest;
            })
          ]
          | inr above ↦ inr (led-nearest brick of above high r)
        ];
      }

    -- an item is passed that no brick from `next` on is to name
    pub passed : (after : ℕ) → place ≤ after → ((x : ℕ) → Stands objects x → stands_in s x ≡ true → x < after
        → (x < place) ⊎ ((x ≡ place) × (may_lead layout place ≡ true → place / 4096 < next)))
        → IsEntering rows layout objects entry s after next
    passed after up step =
        let near = w.near in
        record {
          entered = record {
            named = w.entered.named;
            starts = λ x stands in_s below may. elim (step x stands in_s below) [
              | inl under ↦ w.entered.starts x stands in_s under may
              | inr (at, settled) ↦
                  let may' = subst (λ (p : ℕ). may_lead layout p ≡ true) at may in
                  subst (λ (p : ℕ). IsRoot (entry (p / 4096))) (sym at) (w.here (settled may'))
            ];
            reached = w.entered.reached;
          };
          carried = λ o l in_s below old reach. elim (step o.place (o, l, refl) in_s below) [
            | inl under ↦ w.carried o l in_s under old reach
            | inr (at, settled) ↦
                let may = subst (λ (p : ℕ). may_lead layout p ≡ true) at (old-may_lead layout o.place old) in
                let under = settled may in
                let same : place / 4096 ≡ next - 1 = omega arith in
                record {
                  to = next - 1;
                  path = (0, LeadsBack.here);
                  root = subst (λ (b : ℕ). IsRoot (entry b)) same (w.here under);
                  above = omega arith;
                }
          ];
          near = omega arith;
          here = λ under.
              (let same : place / 4096 ≡ after / 4096 = omega arith in
              subst (λ (b : ℕ). IsRoot (entry b)) same (w.here (omega arith)));
          above = w.above;
        }

  -- the first object of a brick is named
  module _ (entry other : ℕ → ℤ) (place after : ℕ)
      (w : AreEnteredTo rows layout objects entry s place (place / 4096)) (stands : Stands objects place)
      (in_s : stands_in s place ≡ true) (may : may_lead layout place ≡ true) (up : place ≤ after)
      (step : (x : ℕ) → Stands objects x → stands_in s x ≡ true → x < after → x ≤ place)
      (root : other (place / 4096) ≡ root_entry (place % 4096))
      (same : (b : ℕ) → b ≢ place / 4096 → other b ≡ entry b) where
    rooted-first : (q : ℕ) → Stands objects q → q / 4096 ≡ place / 4096 → place ≤ q
    rooted-first q stands' at = elim (cases_lt q place) [
      | inl less ↦
          let brick = brick-of s place homes.bricks in_s in
          let in_q = stands-home rows objects s q homes stands' (subst (λ (b : ℕ). IsBrickOf s b) (sym at) brick) in
          let may' = may_lead-lower layout place q young at (omega arith) may in
          let r = w.starts q stands' in_q less may' in
          let n = w.named (q / 4096) r.0 (brick-of s q homes.bricks in_q) r.1 in
          let under = n.1 in
          absurd (omega arith)
      | inr more ↦ more
    ]

    rooted-named : (brick offset : ℕ) → IsBrickOf s brick → other brick ≡ root_entry offset
        → LeadsBrick layout objects brick (4096 * brick + offset) × (brick < place / 4096 + 1)
    rooted-named brick offset of is = elim (cases_eq brick (place / 4096)) [
      | inl at ↦
          let both : root_entry (place % 4096) ≡ root_entry offset = sym root ∙ ap other (sym at) ∙ is in
          let offsets : place % 4096 + 1 ≡ offset + 1 = cc in
          let here : place ≡ 4096 * brick + offset = omega arith in (
            subst (λ (p : ℕ). LeadsBrick layout objects brick p) here (record {
              stands = stands;
              inside = sym at;
              first = λ q stands' at'. rooted-first q stands' (at' ∙ at);
              may = may;
            }),
            omega arith,
          )
      | inr ne ↦
          let n = w.named brick offset of (sym (same brick ne) ∙ is) in
          let under = n.1 in
          (n.0, omega arith)
    ]

    rooted-starts : (x : ℕ) → Stands objects x → stands_in s x ≡ true → x < after → may_lead layout x ≡ true
        → IsRoot (other (x / 4096))
    rooted-starts x stands' in_x below may' = elim (cases_eq (x / 4096) (place / 4096)) [
      | inl at ↦ (place % 4096, ap other at ∙ root)
      | inr ne ↦
          let most = step x stands' in_x below in
          let r = w.starts x stands' in_x (omega arith) may' in
          (r.0, same (x / 4096) ne ∙ r.1)
    ]

    rooted-reached : (brick : ℕ) → IsBrickOf s brick → brick < place / 4096 + 1 → ReachesInto rows layout objects brick
        → IsRoot (other brick) ⊎ LeadsToNearest layout objects other brick
    rooted-reached brick of under r = elim (cases_eq brick (place / 4096)) [
      | inl at ↦ inl (place % 4096, ap other at ∙ root)
      | inr ne ↦ elim (w.reached brick of (omega arith) r) [
        | inl r' ↦ inl (r'.0, same brick ne ∙ r'.1)
        | inr n ↦ inr (record {
          below = n.below;
          lower = n.lower;
          place = n.place;
          leader = n.leader;
          count = n.count;
          path = path-same n.path (λ b lo hi. same b (λ at. absurd (omega arith)));
          nearest = n.nearest;
        })
      ]
    ]

    pub rooted : IsEntering rows layout objects other s after (place / 4096 + 1)
    rooted =
        let root' : IsRoot (other (place / 4096)) = (place % 4096, root) in
        let first = (brick-of s place homes.bricks in_s).0 in
        let last : place / 4096 ≡ place / 4096 + 1 - 1 = omega arith in
        record {
          entered = record { named = rooted-named; starts = rooted-starts; reached = rooted-reached };
          carried = λ o l in_o below old reach.
              (let most = step o.place (o, l, refl) in_o below in
              record {
                to = place / 4096;
                path = subst (λ (b : ℕ). Leads other b (place / 4096)) last (0, LeadsBack.here);
                root = root';
                above = omega arith;
              });
          near = omega arith;
          here = λ under.
              (let at : place / 4096 ≡ after / 4096 = omega arith in
              subst (λ (b : ℕ). IsRoot (other b)) at root');
          above = omega arith;
        }

  -- ---- the end

  pub all_entered : (entry : ℕ → ℤ) (place to : ℕ) → AreEnteredTo rows layout objects entry s place to → s.end ≤ place
      → s.end ≤ 4096 * to → AreEntered rows layout objects entry s
  all_entered entry place to w past most = record {
    named = λ brick offset of is. (w.named brick offset of is).0;
    starts = λ x stands in_s may.
        (let at = stands.2 in
        let within = homes.within stands.0 stands.1 (subst (λ (p : ℕ). stands_in s p ≡ true) (sym at) in_s) in
        let least = homes.least stands.0 stands.1 in
        w.starts x stands in_s (omega arith) may);
    reached = λ brick of r.
        (let from = r.from in
        let reach = r.to in
        let in_s = homes.home r.object brick r.present of (omega arith) reach in
        let within = homes.within r.object r.present in_s in
        w.reached brick of (omega arith) r);
  }
