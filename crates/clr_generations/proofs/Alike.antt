-- What bricks say of a segment, carried to other objects, another layout and other entries.
use Rattle.std.proofs.Common.{◌≡◌, ◌⊎◌, inl, inr, ℕ, zero, suc, ◌+◌, ◌*◌, ◌/◌, ◌<◌, ◌≤◌, Bool, true, false}
use Rattle.std.proofs.Common.{◌||◌, List, refl, ap, sym, ◌∙◌, subst, arith, leb, ltb, cond, ℤ, pos, negsuc}
use Rattle.std.proofs.lemmas.Bool.{cases_Bool, cases_lt, leb-true, ltb-true, or_cases, lt-ltb}
use Rattle.clr_types.specs.Rising.{IsIn}
use Rattle.clr_types.specs.Segments.{ended_at, generation, Layout, reserved_end, stands_in}
use Rattle.clr_types.specs.Types.{TypeRow}
use Rattle.clr_types.specs.declared.segment.SegInfo.{SegInfo}
use Rattle.clr_types.proofs.SegmentFacts.{stands-between}
use Rattle.clr_bricks.specs.Bricks.{LeadsBack, root_entry}
use Rattle.clr_model.specs.Lookups.{object_size}
use Rattle.clr_model.specs.Machine.{Object}
use Rattle.clr_generations.proofs.Entered.{AreEnteredBelow, forgotten, kept_below}
use Rattle.clr_generations.specs.Laws.{AreEntered, IsBrickOf, LeadsBrick, LeadsToNearest, may_lead, ReachesInto, Stands}
use Rattle.clr_generations.proofs.Homes.{brick-of, HaveHomes, stands-home}

-- ---- paths

-- back entries lead downwards
pub path-down : {entry : ℕ → ℤ} {low from to n : ℕ} → LeadsBack entry low from to n → to ≤ from
path-down LeadsBack.here = omega arith
path-down (LeadsBack.back k e l rest) = let down = path-down rest in omega arith

-- they lead the same way where the entries between are the same
pub path-same : {entry other : ℕ → ℤ} {low from to n : ℕ} → LeadsBack entry low from to n
    → ((b : ℕ) → to ≤ b → b ≤ from → other b ≡ entry b) → LeadsBack other low from to n
path-same LeadsBack.here same = LeadsBack.here
path-same {from = x} (LeadsBack.back k e l rest) same =
    let down = path-down rest in
    LeadsBack.back k (same x (omega arith) (omega arith) ∙ e) l
    (path-same rest (λ b low high. same b low (omega arith)))

-- ---- objects alike

-- Of the places of the segment below `from`, the same ones have objects of the first list and of the second, of the
-- same sizes, and a brick may name the same ones. What is of generation 1 or 2 in the second layout is so in the first.
pub record AreAlike (rows : List TypeRow) (layout new : Layout) (objects others : List Object) (s : SegInfo)
    (from : ℕ) : Type 0 where
  pub there : (o : Object) → IsIn o objects → stands_in s o.place ≡ true → o.place < from → Stands others o.place
  pub back : (q : Object) → IsIn q others → stands_in s q.place ≡ true → q.place < from
      → (o : Object) × IsIn o objects × (o.place ≡ q.place) × (object_size rows o ≡ object_size rows q)
  pub leads : (place : ℕ) → stands_in s place ≡ true → place < from → may_lead new place ≡ may_lead layout place
  pub old : (place : ℕ) → stands_in s place ≡ true → place < from → 0 < generation new place
      → 0 < generation layout place

-- ---- entries that are taken away

-- a brick below that of the place, or past the end, keeps its entry
pub forgotten-low : (entry : ℕ → ℤ) (from end brick : ℕ) → brick < from / 4096
    → forgotten entry from end brick ≡ entry brick
forgotten-low entry from end brick low = rw (lt-ltb brick (from / 4096) low) refl

forgotten-cases : (entry : ℕ → ℤ) (from end brick : ℕ)
    → (((brick < from / 4096) ⊎ (end ≤ 4096 * brick)) × (forgotten entry from end brick ≡ entry brick))
    ⊎ (forgotten entry from end brick ≡ kept_below from brick (entry brick))
forgotten-cases entry from end brick = elim (cases_Bool (ltb brick (from / 4096) || leb end (4096 * brick))) [
  | inl kept ↦ inl (
    elim (or_cases (ltb brick (from / 4096)) (leb end (4096 * brick)) kept) [
      | inl low ↦ inl (ltb-true brick (from / 4096) low)
      | inr high ↦ inr (leb-true end (4096 * brick) high)
    ],
    ap (λ (b : Bool). cond b (entry brick) (kept_below from brick (entry brick))) kept,
  )
  | inr lost ↦ inr (ap (λ (b : Bool). cond b (entry brick) (kept_below from brick (entry brick))) lost)
]

-- what is kept names a place below
kept-root : (from brick offset : ℕ) (e : ℤ) → kept_below from brick e ≡ root_entry offset
    → (e ≡ root_entry offset) × (4096 * brick + offset < from)
kept-root from brick offset (pos zero) k =
    let same : 0 ≡ offset + 1 = cc in
    absurd (omega arith)
kept-root from brick offset (pos (suc n)) k = go (ltb (4096 * brick + n) from) refl k
  where
    go : (b : Bool) → ltb (4096 * brick + n) from ≡ b → cond b (pos (suc n)) (pos 0) ≡ root_entry offset
        → (pos (suc n) ≡ root_entry offset) × (4096 * brick + offset < from)
    go true below e =
        let same : suc n ≡ offset + 1 = cc in
        let under = ltb-true (4096 * brick + n) from below in
        (e, omega arith)
    go false below e =
        let same : 0 ≡ offset + 1 = cc in
        absurd (omega arith)
kept-root from brick offset (negsuc n) k =
    let same : 0 ≡ offset + 1 = cc in
    absurd (omega arith)

-- and an entry that names a place below is kept
root-kept : (from brick offset : ℕ) (e : ℤ) → e ≡ root_entry offset → 4096 * brick + offset < from
    → kept_below from brick e ≡ root_entry offset
root-kept from brick offset e root below =
    let same : root_entry offset ≡ pos (suc offset) = ap pos (omega arith) in
    ap (kept_below from brick) (root ∙ same)
    ∙ ap (λ (b : Bool). cond b (pos (suc offset)) (pos 0)) (lt-ltb (4096 * brick + offset) from below)
    ∙ sym same

pub root-forgotten : (entry : ℕ → ℤ) (from end brick offset : ℕ) → entry brick ≡ root_entry offset
    → 4096 * brick + offset < from → forgotten entry from end brick ≡ root_entry offset
root-forgotten entry from end brick offset root below = elim (forgotten-cases entry from end brick) [
  | inl kept ↦ kept.1 ∙ root
  | inr lost ↦ lost ∙ root-kept from brick offset (entry brick) root below
]

-- what is left names what it did
pub forgotten-root : (entry : ℕ → ℤ) (from end brick offset : ℕ) → forgotten entry from end brick ≡ root_entry offset
    → entry brick ≡ root_entry offset
forgotten-root entry from end brick offset root = elim (forgotten-cases entry from end brick) [
  | inl kept ↦ sym kept.1 ∙ root
  | inr lost ↦ (kept-root from brick offset (entry brick) (sym lost ∙ root)).0
]

-- ---- what bricks say of objects alike

module _ (rows : List TypeRow) (layout new : Layout) (objects others : List Object) (s : SegInfo) (end from : ℕ)
    (homes : HaveHomes rows objects s) (homes' : HaveHomes rows others (ended_at end s))
    (alike : AreAlike rows layout new objects others s from) where
  -- what stands in a brick of the segment stands in the segment, before and after
  in_segment : (place brick : ℕ) → IsBrickOf s brick → place / 4096 ≡ brick → Stands objects place
      → stands_in s place ≡ true
  in_segment place brick of at stands =
      stands-home rows objects s place homes stands (subst (λ (b : ℕ). IsBrickOf s b) (sym at) of)

  in_segment' : (place brick : ℕ) → IsBrickOf s brick → place / 4096 ≡ brick → Stands others place
      → stands_in s place ≡ true
  in_segment' place brick of at stands =
      stands-home rows others (ended_at end s) place homes' stands (subst (λ (b : ℕ). IsBrickOf s b) (sym at) of)

  stands-there : (place : ℕ) → Stands objects place → stands_in s place ≡ true → place < from → Stands others place
  stands-there place stands in_s below =
      let at = stands.2 in
      subst (Stands others) at (alike.there stands.0 stands.1 (subst (λ (p : ℕ). stands_in s p ≡ true) (sym at) in_s)
      (omega arith))

  stands-back : (place : ℕ) → Stands others place → stands_in s place ≡ true → place < from → Stands objects place
  stands-back place stands in_s below =
      let at = stands.2 in
      let o = alike.back stands.0 stands.1 (subst (λ (p : ℕ). stands_in s p ≡ true) (sym at) in_s) (omega arith) in
      (o.0, o.1, o.2 ∙ at)

  lead-alike : (brick place : ℕ) → IsBrickOf s brick → place < from → LeadsBrick layout objects brick place
      → LeadsBrick new others brick place
  lead-alike brick place of below lead =
      let in_s = in_segment place brick of lead.inside lead.stands in
      record {
        stands = stands-there place lead.stands in_s below;
        inside = lead.inside;
        first = λ other stands at. elim (cases_lt other place) [
          | inl less ↦
              let in_o = in_segment' other brick of at stands in
              lead.first other (stands-back other stands in_o (omega arith)) at
          | inr more ↦ more
        ];
        may = alike.leads place in_s below ∙ lead.may;
      }

  reach-back : (brick : ℕ) → IsBrickOf s brick → 4096 * brick ≤ from → ReachesInto rows new others brick
      → ReachesInto rows layout objects brick
  reach-back brick of below r =
      let lower = r.from in
      let to = r.to in
      let in_s = homes'.home r.object brick r.present of (omega arith) to in
      let under : r.object.place < from = omega arith in
      let o = alike.back r.object r.present in_s under in
      let at = o.2 in
      let size = o.3 in
      record {
        object = o.0;
        present = o.1;
        old = subst (λ (p : ℕ). 0 < generation layout p) (sym at) (alike.old r.object.place in_s under r.old);
        from = omega arith;
        to = omega arith;
      }

  nearest-alike : (entry other : ℕ → ℤ) (brick : ℕ) → IsBrickOf s brick → 4096 * brick ≤ from
      → ReachesInto rows layout objects brick → ((b : ℕ) → IsBrickOf s b → b ≤ brick → other b ≡ entry b)
      → LeadsToNearest layout objects entry brick → LeadsToNearest new others other brick
  nearest-alike entry other brick of below r same n =
      let in_s = homes.home r.object brick r.present of (let l = r.from in omega arith) r.to in
      let first = brick-of s r.object.place homes.bricks in_s in
      let low = first.0 in
      let least : r.object.place / 4096 ≤ n.below = elim (cases_lt n.below (r.object.place / 4096)) [
        | inl less ↦ absurd (n.nearest r.object.place (r.object, r.present, refl) less r.from)
        | inr more ↦ more
      ] in
      let lower = n.lower in
      let high = of.1 in
      let home : IsBrickOf s n.below = (omega arith, omega arith) in
      let inside = n.leader.inside in
      record {
        below = n.below;
        lower = n.lower;
        place = n.place;
        leader = lead-alike n.below n.place home (omega arith) n.leader;
        count = n.count;
        path = path-same n.path (λ b up down. same b (omega arith, omega arith) down);
        nearest = λ q stands up down.
            (let in_q = in_segment' q (q / 4096) (omega arith, omega arith) refl stands in
            n.nearest q (stands-back q stands in_q (omega arith)) up down);
      }

  -- WHAT IS LEFT OF THE BRICKS when the entries from a place on are taken away
  pub entered_below : (entry : ℕ → ℤ) → AreEntered rows layout objects entry s
      → AreEnteredBelow rows new others (forgotten entry from s.end) (ended_at end s) from
  entered_below entry e = record {
    named = λ brick offset of root. elim (forgotten-cases entry from s.end brick) [
      | inl (where_kept, is) ↦
          let lead = e.named brick offset of (sym is ∙ root) in
          let inside = lead.inside in
          let below : 4096 * brick + offset < from = elim where_kept [
            | inl low ↦ omega arith
            | inr high ↦
                let stands = lead.stands in
                let at = stands.2 in
                let in_s = in_segment (4096 * brick + offset) brick of inside stands in
                let within = homes.within stands.0 stands.1 (subst (λ (p : ℕ). stands_in s p ≡ true) (sym at) in_s) in
                let least = homes.least stands.0 stands.1 in
                absurd (omega arith)
          ] in
          (lead-alike brick (4096 * brick + offset) of below lead, below)
      | inr is ↦
          let k = kept-root from brick offset (entry brick) (sym is ∙ root) in
          (lead-alike brick (4096 * brick + offset) of k.1 (e.named brick offset of k.0), k.1)
    ];
    starts = λ place stands in_s below may.
        (let before = stands-back place stands in_s below in
        let root = e.starts place before in_s (sym (alike.leads place in_s below) ∙ may) in
        let of = brick-of s place homes.bricks in_s in
        let lead = e.named (place / 4096) root.0 of root.1 in
        let up = lead.first place before refl in
        (root.0, root-forgotten entry from s.end (place / 4096) root.0 root.1 (omega arith)));
    reached = λ brick of low r.
        (let r' = reach-back brick of (omega arith) r in
        let is = forgotten-low entry from s.end brick low in
        elim (e.reached brick of r') [
          | inl root ↦ inl (root.0, is ∙ root.1)
          | inr n ↦ inr (nearest-alike entry (forgotten entry from s.end) brick of (omega arith) r'
              (λ b of' down. forgotten-low entry from s.end b (omega arith)) n)
        ]);
  }

-- the objects of a list are alike themselves
pub alike-self : (rows : List TypeRow) (layout : Layout) (objects : List Object) (s : SegInfo) (from : ℕ)
    → AreAlike rows layout layout objects objects s from
alike-self rows layout objects s from = record {
  there = λ o l in_s below. (o, l, refl);
  back = λ q l in_s below. (q, l, refl, refl);
  leads = λ place in_s below. refl;
  old = λ place in_s below old. old;
}

-- THE BRICKS OF A SEGMENT where nothing happens: its objects, and the entries of its bricks, are alike
pub entered_alike : (rows : List TypeRow) (layout new : Layout) (objects others : List Object) (s : SegInfo)
    (entry other : ℕ → ℤ) → HaveHomes rows objects s → HaveHomes rows others s
    → AreAlike rows layout new objects others s (reserved_end s) → ((b : ℕ) → IsBrickOf s b → other b ≡ entry b)
    → AreEntered rows layout objects entry s → AreEntered rows new others other s
entered_alike rows layout new objects others s entry other homes homes' alike same e = record {
  named = λ brick offset of root.
      (let lead = e.named brick offset of (sym (same brick of) ∙ root) in
      let inside = lead.inside in
      let high = of.1 in
      lead-alike rows layout new objects others s s.end (reserved_end s) homes homes' alike brick
      (4096 * brick + offset) of (omega arith) lead);
  starts = λ place stands in_s may.
      (let between = stands-between s place in_s in
      let stands' = stands-back rows layout new objects others s s.end (reserved_end s) homes homes' alike place stands
      in_s between.1 in
      let root = e.starts place stands' in_s (sym (alike.leads place in_s between.1) ∙ may) in
      (root.0, same (place / 4096) (brick-of s place homes.bricks in_s) ∙ root.1));
  reached = λ brick of r.
      (let high = of.1 in
      let r' = reach-back rows layout new objects others s s.end (reserved_end s) homes homes' alike brick of
      (omega arith) r in
      elim (e.reached brick of r') [
        | inl root ↦ inl (root.0, same brick of ∙ root.1)
        | inr n ↦ inr (nearest-alike rows layout new objects others s s.end (reserved_end s) homes homes' alike entry
            other brick of (omega arith) r' (λ b of' down. same b of') n)
      ]);
}
