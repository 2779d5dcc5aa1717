-- The bricks of a segment, renewed one after the other.
use Rattle.std.proofs.Common.{◌≡◌, ◌≢◌, ◌⊎◌, inl, inr, ℕ, zero, suc, ◌+◌, ◌-◌, ◌*◌, ◌/◌, ◌<◌, ◌≤◌, Bool, true, List}
use Rattle.std.proofs.Common.{length, refl, ap, sym, ◌∙◌, subst, arith, ℤ, Option, Some, None, MatchOption}
use Rattle.std.proofs.lemmas.Bool.{cases_eq, cases_lt, eq-eqb, ne_eqb}
use Rattle.clr_types.specs.Rising.{IsIn}
use Rattle.clr_types.specs.Segments.{Layout, stands_in}
use Rattle.clr_types.specs.Types.{TypeRow}
use Rattle.clr_types.specs.declared.segment.SegInfo.{SegInfo}
use Rattle.clr_types.proofs.ChangedLists.{into_filter, out_of_filter}
use Rattle.clr_bricks.specs.Bricks.{AreLedBack, entry_at, hop, IsRoot, root_entry}
use Rattle.clr_covers.specs.Covers.{CoverView, is_covered, share_cover, spans}
use Rattle.clr_heap.specs.View.{first_of, frame, HeapView, IsHeap, last_of, no_rests, segment_at, word_of}
use Rattle.clr_heap.proofs.Framing.{lawful_at}
use Rattle.clr_model.specs.Machine.{Object}
use Rattle.clr_view.specs.View.{IsHeld, objects_in}
use Rattle.clr_generations.proofs.Entered.{AreEnteredBelow, forgotten}
use Rattle.clr_generations.specs.Laws.{AreEntered, IsBrickOf, may_lead, Stands}
use Rattle.clr_generations.specs.Renewing.{AreKept, HasNoStart, HasTold, HaveTold, IsCounted, IsFirstIn, led_back}
use Rattle.clr_generations.specs.Renewing.{left_in}
use Rattle.clr_generations.specs.Renewing.{named_after, NamesBelow, next_after, NoneCountedIn}
use Rattle.clr_generations.specs.Tables.{AreBricksOf}
use Rattle.clr_generations.proofs.Alike.{AreAlike, entered_below, forgotten-low, forgotten-root, root-forgotten}
use Rattle.clr_generations.proofs.BrickSteps.{all_entered, IsEntering, IsFirstOf, led, led-above, led-alike, led-below}
use Rattle.clr_generations.proofs.BrickSteps.{no_root, passed, starts_open, starts_settled, stepped}
use Rattle.clr_generations.proofs.Collected.{alike-left}
use Rattle.clr_generations.proofs.FirstCounted.{found_none}
use Rattle.clr_generations.proofs.HeapHomes.{brick-covered, brick-in, bricks-shared, heap_homes}
use Rattle.clr_generations.proofs.Homes.{brick-of, HaveHomes, homes-left, old-may_lead, stands-home}

-- Entries that tell the objects of the segment that are left, as far as bricks below `brick` go. Those that stand are
-- the same below `next`.
pub record IsSeen (rows : List TypeRow) (after : Layout) (left : List Object) (now : ℕ → ℤ) (s : SegInfo)
    (brick next : ℕ) : Type 0 where
  pub seen : ℕ → ℤ
  pub alike : (b : ℕ) → b < next → now b ≡ seen b
  pub entering : IsEntering rows after left seen s (4096 * brick) next

-- The bricks of segment k below `brick` are renewed from that of the place `from` on, and `next` is the first one that
-- isn't settled.
pub record IsRenewing (rows : List TypeRow) (h : HeapView) (counts : ℕ → Bool) (k from : ℕ)
    (old now : List (CoverView ℤ)) (brick next : ℕ) : Type 0 where
  pub low : from / 4096 ≤ brick
  pub order : next ≤ brick
  pub first : from / 4096 ≤ next
  pub near : 4096 * brick < last_of h k + 4096
  pub inside : (i : ℕ) → next ≤ i → i < brick → 4096 * i < last_of h k
  pub past : (x : ℕ) → Stands (objects_in rows h) x → stands_in (segment_at h k) x ≡ true → brick ≤ x / 4096 → from ≤ x
  pub ahead : (i : ℕ) → next ≤ i → entry_at now i ≡ entry_at old i
  pub others : (b : ℕ) → (IsBrickOf (segment_at h k) b → ⊥) → entry_at now b ≡ entry_at old b
  pub spans : spans now ≡ spans old
  pub entering : (after : Layout) (keep : Object → Bool) → AreKept rows h counts k from after keep
      → IsSeen rows after (left_in rows h keep) (entry_at now) (segment_at h k) brick next

-- ---- entries

named-alike : (entry other : ℕ → ℤ) (first : Option ℕ) (brick next b : ℕ) → ((c : ℕ) → c < next → other c ≡ entry c)
    → b < next_after first brick next → named_after first other brick next b ≡ named_after first entry brick next b
named-alike entry other None brick next b same low = same b low
named-alike entry other (Some place) brick next b same low = elim (cases_eq b brick) [
  | inl at ↦ rw (eq-eqb b brick at) refl
  | inr ne ↦ rw (ne_eqb b brick ne) (led-alike entry other next brick b same (omega arith))
]

named-ahead : (entry : ℕ → ℤ) (first : Option ℕ) (brick next b : ℕ) → next_after first brick next ≤ b
    → named_after first entry brick next b ≡ entry b
named-ahead entry None brick next b high = refl
named-ahead entry (Some place) brick next b high =
    rw (ne_eqb b brick (λ at. absurd (omega arith))) (led-above entry next brick b (omega arith))

named-others : (entry : ℕ → ℤ) (first : Option ℕ) (brick next b : ℕ) → b ≢ brick → ((next ≤ b) → b < brick → ⊥)
    → named_after first entry brick next b ≡ entry b
named-others entry None brick next b ne out = refl
named-others entry (Some place) brick next b ne out =
    rw (ne_eqb b brick ne) (elim (cases_lt b next) [
      | inl low ↦ led-below entry next brick b low
      | inr up ↦ elim (cases_lt b brick) [
        | inl under ↦ absurd (out up under)
        | inr over ↦ led-above entry next brick b over
      ]
    ])

pub next-bounds : (first : Option ℕ) (brick next : ℕ) → next ≤ brick
    → (next ≤ next_after first brick next) × (next_after first brick next ≤ brick + 1)
next-bounds None brick next order = (omega arith, omega arith)
next-bounds (Some place) brick next order = (omega arith, omega arith)

next-inside : (P : ℕ → Type 0) (first : Option ℕ) (brick next i : ℕ) → ((j : ℕ) → next ≤ j → j < brick → P j) → P brick
    → next_after first brick next ≤ i → i < brick + 1 → P i
next-inside P None brick next i all here low high = elim (cases_eq i brick) [
  | inl at ↦ subst P (sym at) here
  | inr ne ↦ all i low (omega arith)
]
next-inside P (Some place) brick next i all here low high = absurd (omega arith)

-- ---- bricks that lead back already

-- a brick that is named stands above them
pub led_more : (now new : List (CoverView ℤ)) (first : Option ℕ) (brick next to after : ℕ)
    → after ≡ next_after first brick next
    → ((i : ℕ) → entry_at new i ≡ named_after first (entry_at now) brick next i)
    → to ≤ brick → AreLedBack (entry_at now) next to → AreLedBack (entry_at new) after to
led_more now new first brick next to after at same high is =
    let P : ℕ → Type 0 = λ n. AreLedBack (entry_at new) n to in
    subst P (sym at) (λ i low under. same i ∙ kept first i low under)
  where
    kept : (f : Option ℕ) → AreLedBack (named_after f (entry_at now) brick next) (next_after f brick next) to
    kept None = is
    kept (Some place) = λ i low under. absurd (omega arith)

pub open_more : (first : Option ℕ) (brick next to after : ℕ) → after ≡ next_after first brick next → next ≤ to
    → after < brick + 1 → after ≤ to
open_more None brick next to after at low under = omega arith
open_more (Some place) brick next to after at low under = absurd (omega arith)

-- and none of them is a root
pub led_no_root : (entry : ℕ → ℤ) (next to i : ℕ) → AreLedBack entry next to → next ≤ i → i < to
    → IsRoot (entry i) → ⊥
led_no_root entry next to i is low under root =
    no_root (hop (i + 1 - next)) root.0 (sym (is i low under) ∙ root.1)

module _ (rows : List TypeRow) (h : HeapView) (heap : IsHeap h) (held : IsHeld rows h) (k : ℕ)
    (inside : k < length h.segments) (counts : ℕ → Bool) (from young : ℕ) (low : first_of h k ≤ from)
    (high : from ≤ last_of h k) (bricks : List (CoverView ℤ))
    (was : HaveTold rows h k from young (entry_at bricks)) where
  abbrev s : SegInfo
  s = segment_at h k

  abbrev homes : HaveHomes rows (objects_in rows h) (segment_at h k)
  homes = heap_homes rows h heap held k inside

  -- ---- what is left
  module _ (after : Layout) (keep : Object → Bool) (l : AreKept rows h counts k from after keep) where
    homes' : HaveHomes rows (left_in rows h keep) (segment_at h k)
    homes' = homes-left rows (objects_in rows h) s keep homes

    alike : AreAlike rows was.before after (objects_in rows h) (left_in rows h keep) (segment_at h k) from
    alike = alike-left rows was.before after (objects_in rows h) (left_in rows h keep) s from keep refl l.below
        (λ p in_s below. (was.old p in_s below, l.old p in_s below))

    told : AreEnteredBelow rows after (left_in rows h keep) (forgotten (entry_at bricks) from (last_of h k))
        (segment_at h k) from
    told = entered_below rows was.before after (objects_in rows h) (left_in rows h keep) s (last_of h k) from homes
        homes' alike (entry_at bricks) was.law

    -- one of them is one of all, and kept
    kept-of : (x : ℕ) → (stands : Stands (left_in rows h keep) x)
        → (keep stands.0 ≡ true) × IsIn stands.0 (objects_in rows h)
    kept-of x stands = out_of_filter keep stands.0 (objects_in rows h) stands.1

    may : (q : ℕ) → Stands (left_in rows h keep) q → stands_in (segment_at h k) q ≡ true → may_lead after q ≡ true
    may q stands in_s =
        let of = kept-of q stands in
        let at = stands.2 in
        subst (λ (p : ℕ). may_lead after p ≡ true) at
        (l.may stands.0 of.1 (subst (λ (p : ℕ). stands_in s p ≡ true) (sym at) in_s) of.0)

    -- from the place on those that count
    left-counted : (x : ℕ) → Stands (left_in rows h keep) x → stands_in (segment_at h k) x ≡ true → from ≤ x
        → IsCounted rows h counts x
    left-counted x stands in_s above =
        let of = kept-of x stands in
        let at = stands.2 in
        record {
          stands = (stands.0, of.1, at);
          counted = subst (λ (p : ℕ). counts (word_of h p) ≡ true) at
              (sym (l.above stands.0 of.1 (subst (λ (p : ℕ). stands_in s p ≡ true) (sym at) in_s) (omega arith))
              ∙ of.0);
        }

    counted-left : (x : ℕ) → IsCounted rows h counts x → stands_in (segment_at h k) x ≡ true → from ≤ x
        → Stands (left_in rows h keep) x
    counted-left x is in_s above =
        let o = is.stands.0 in
        let at = is.stands.2 in
        let keeps = l.above o is.stands.1 (subst (λ (p : ℕ). stands_in s p ≡ true) (sym at) in_s) (omega arith) in (
          o,
          into_filter keep (objects_in rows h)
              (keeps ∙ subst (λ (p : ℕ). counts (word_of h p) ≡ true) (sym at) is.counted) is.stands.1,
          at,
        )

  -- ---- the beginning

  begun-seen : (next : ℕ) → NamesBelow (entry_at bricks (from / 4096)) (from / 4096) from → next ≡ from / 4096 + 1
      → (after : Layout) (keep : Object → Bool) → AreKept rows h counts k from after keep
      → IsSeen rows after (left_in rows h keep) (entry_at bricks) (segment_at h k) next next
  begun-seen next names at after keep l =
      let seen = forgotten (entry_at bricks) from (last_of h k) in
      let root : seen (from / 4096) ≡ root_entry names.0 =
      root-forgotten (entry_at bricks) from (last_of h k) (from / 4096) names.0 names.1 names.2 in
      let w = starts_settled rows after (left_in rows h keep) s (homes' after keep l) (may after keep l) seen from low
      (told after keep l) (names.0, root) in
      let P : ℕ → Type 0 = λ n. IsSeen rows after (left_in rows h keep) (entry_at bricks) s n n in
      subst P (sym at) (record {
        seen = seen;
        alike = λ b under. elim (cases_eq b (from / 4096)) [
          | inl here ↦ ap (entry_at bricks) here ∙ names.1 ∙ sym root ∙ ap seen (sym here)
          | inr ne ↦ sym (forgotten-low (entry_at bricks) from (last_of h k) b (omega arith))
        ];
        entering = passed rows after (left_in rows h keep) s (homes' after keep l) (may after keep l) seen from
            (from / 4096 + 1) w (4096 * (from / 4096 + 1)) (omega arith)
            (λ x stands in_s below. elim (cases_lt x from) [
              | inl less ↦ inl less
              | inr more ↦ inr (omega arith, omega arith)
            ]);
      })

  open-seen : (next : ℕ) → (last_of h k ≤ 4096 * (from / 4096))
      ⊎ (NamesBelow (entry_at bricks (from / 4096)) (from / 4096) from → ⊥) → next ≡ from / 4096
      → (after : Layout) (keep : Object → Bool) → AreKept rows h counts k from after keep
      → IsSeen rows after (left_in rows h keep) (entry_at bricks) (segment_at h k) next next
  open-seen next clear at after keep l =
      let seen = forgotten (entry_at bricks) from (last_of h k) in
      let t = told after keep l in
      let end = (lawful_at h k heap inside).high in
      let P : ℕ → Type 0 = λ n. IsSeen rows after (left_in rows h keep) (entry_at bricks) s n n in
      subst P (sym at) (record {
        seen = seen;
        alike = λ b under. sym (forgotten-low (entry_at bricks) from (last_of h k) b under);
        entering = starts_open rows after (left_in rows h keep) s (homes' after keep l) (may after keep l) seen from low
            t (omega arith) (λ of root.
            let under = (t.named (from / 4096) root.0 of root.1).1 in
            elim clear [
              | inl past ↦ omega arith
              | inr never ↦ never (
                root.0,
                forgotten-root (entry_at bricks) from (last_of h k) (from / 4096) root.0 root.1,
                under,
              )
            ]);
      })

  -- where the brick of the place names nothing below it, nothing stands there below it
  open-past : (last_of h k ≤ 4096 * (from / 4096))
      ⊎ (NamesBelow (entry_at bricks (from / 4096)) (from / 4096) from → ⊥) → (x : ℕ) → Stands (objects_in rows h) x
      → stands_in (segment_at h k) x ≡ true → from / 4096 ≤ x / 4096 → from ≤ x
  open-past clear x stands in_s up = elim (cases_lt x from) [
    | inr more ↦ more
    | inl less ↦
        let same : x / 4096 ≡ from / 4096 = omega arith in
        let root = was.law.starts x stands in_s (old-may_lead was.before x (was.old x in_s less)) in
        let least = (was.law.named (x / 4096) root.0 (brick-of s x homes.bricks in_s) root.1).first x stands refl in
        let at = stands.2 in
        let within = homes.within stands.0 stands.1 (subst (λ (p : ℕ). stands_in s p ≡ true) (sym at) in_s) in
        let some = homes.least stands.0 stands.1 in
        elim clear [
          | inl past ↦ absurd (omega arith)
          | inr never ↦ absurd (never (root.0, ap (entry_at bricks) (sym same) ∙ root.1, omega arith))
        ]
  ]

  pub renewing_starts : (next : ℕ) → ((4096 * (from / 4096) < last_of h k)
      × NamesBelow (entry_at bricks (from / 4096)) (from / 4096) from × (next ≡ from / 4096 + 1))
      ⊎ (((last_of h k ≤ 4096 * (from / 4096))
      ⊎ (NamesBelow (entry_at bricks (from / 4096)) (from / 4096) from → ⊥)) × (next ≡ from / 4096))
      → IsRenewing rows h counts k from bricks bricks next next
  renewing_starts next (inl (under, names, at)) = record {
    low = omega arith;
    order = omega arith;
    first = omega arith;
    near = omega arith;
    inside = λ i up down. absurd (omega arith);
    past = λ x stands in_s up. omega arith;
    ahead = λ i up. refl;
    others = λ b out. refl;
    spans = refl;
    entering = begun-seen next names at;
  }
  renewing_starts next (inr (clear, at)) = record {
    low = omega arith;
    order = omega arith;
    first = omega arith;
    near = omega arith;
    inside = λ i up down. absurd (omega arith);
    past = λ x stands in_s up. open-past clear x stands in_s (omega arith);
    ahead = λ i up. refl;
    others = λ b out. refl;
    spans = refl;
    entering = open-seen next clear at;
  }

  -- ---- on the way
  module _ (now : List (CoverView ℤ)) (brick next : ℕ)
      (w : IsRenewing rows h counts k from bricks now brick next) where
    -- a brick from `next` on that begins below the segment's end is one of its
    brick-here : (i : ℕ) → next ≤ i → 4096 * i < last_of h k → IsBrickOf (segment_at h k) i
    brick-here i up under =
        let from' = w.first in
        let base = homes.bricks.base in
        brick-in h k i heap inside (omega arith) under

    pub covered_here : AreBricksOf (frame h) bricks → (i : ℕ) → next ≤ i → 4096 * i < last_of h k
        → is_covered now i ≡ true
    covered_here has i up under = brick-covered h bricks now k i heap inside has w.spans (brick-here i up under)

    module _ (below : 4096 * brick < last_of h k) where
      of : IsBrickOf (segment_at h k) brick
      of = brick-here brick w.order below

      in-segment : (x : ℕ) → Stands (objects_in rows h) x → x / 4096 ≡ brick → stands_in (segment_at h k) x ≡ true
      in-segment x stands at =
          stands-home rows (objects_in rows h) s x homes stands (subst (λ (b : ℕ). IsBrickOf s b) (sym at) of)

      pub told_here : HasTold (objects_in rows h) young brick (entry_at now brick)
      told_here = record {
        before = was.before;
        start0 = was.start0;
        named = λ offset is. was.law.named brick offset of (sym (w.ahead brick w.order) ∙ is);
        starts = λ x stands at may'.
            (let root = was.law.starts x stands (in-segment x stands at) may' in
            (root.0, w.ahead brick w.order ∙ ap (entry_at bricks) (sym at) ∙ root.1));
      }

      pub low_here : first_of h k ≤ 4096 * brick
      low_here = let up = w.low in let base = homes.bricks.base in omega arith

      -- the first object that counts is the first that is left
      left-first : (after : Layout) (keep : Object → Bool) → AreKept rows h counts k from after keep
          → (first : Option ℕ)
          → MatchOption first (NoneCountedIn rows h counts brick) (IsFirstIn rows h counts brick)
          → MatchOption first ((x : ℕ) → Stands (left_in rows h keep) x → x / 4096 ≡ brick → ⊥)
          (IsFirstOf (left_in rows h keep) (segment_at h k) brick)
      left-first after keep l None none = λ x stands at.
          let all : Stands (objects_in rows h) x = (stands.0, (kept-of after keep l x stands).1, stands.2) in
          let in_s = in-segment x all at in
          none x (left-counted after keep l x stands in_s (w.past x all in_s (omega arith))) at
      left-first after keep l (Some place) is =
          let at = is.inside in
          let in_s = in-segment place is.counted.stands at in
          record {
            stands = counted-left after keep l place is.counted in_s
                (w.past place is.counted.stands in_s (omega arith));
            in_segment = in_s;
            inside = at;
            first = λ x stands at'.
                (let all : Stands (objects_in rows h) x = (stands.0, (kept-of after keep l x stands).1, stands.2) in
                let in_x = in-segment x all at' in
                is.first x (left-counted after keep l x stands in_x (w.past x all in_x (omega arith))) at');
          }

      -- THE NEXT BRICK
      pub renewing_more : (new : List (CoverView ℤ)) (first : Option ℕ)
          → MatchOption first (NoneCountedIn rows h counts brick) (IsFirstIn rows h counts brick)
          → ((i : ℕ) → entry_at new i ≡ named_after first (entry_at now) brick next i) → spans new ≡ spans now
          → IsRenewing rows h counts k from bricks new (brick + 1) (next_after first brick next)
      renewing_more new first is same whole =
          let order = w.order in
          let lowest = w.low in
          let started = w.first in
          let bounds = next-bounds first brick next order in
          let up = bounds.0 in
          record {
            low = omega arith;
            order = bounds.1;
            first = omega arith;
            near = omega arith;
            inside = λ i from' to. next-inside (λ (j : ℕ). 4096 * j < last_of h k) first brick next i w.inside below
                from' to;
            past = λ x stands in_s above. w.past x stands in_s (omega arith);
            ahead = λ i above. same i ∙ named-ahead (entry_at now) first brick next i above
                ∙ w.ahead i (omega arith);
            others = λ b out. same b ∙ named-others (entry_at now) first brick next b
                (λ at. out (subst (λ (c : ℕ). IsBrickOf s c) (sym at) of))
                (λ above under. out (brick-here b above (w.inside b above under))) ∙ w.others b out;
            spans = whole ∙ w.spans;
            entering = λ after keep l.
                (let e = w.entering after keep l in
                record {
                  seen = named_after first e.seen brick next;
                  alike = λ b under. same b
                      ∙ named-alike e.seen (entry_at now) first brick next b e.alike under;
                  entering = stepped rows after (left_in rows h keep) s (homes' after keep l) (may after keep l) e.seen
                      (named_after first e.seen brick next) brick next first e.entering order
                      (left-first after keep l first is) (λ b. refl);
                });
          }

    -- the bricks of the segment from one of its on share a cover
    pub shared_here : AreBricksOf (frame h) bricks → (from' : ℕ) → next ≤ from' → (i : ℕ) → from' ≤ i
        → 4096 * i < last_of h k → share_cover now from' i ≡ true
    shared_here has from' up i above under =
        bricks-shared h bricks now k from' i heap inside has w.spans (brick-here from' up (omega arith))
        (brick-here i (omega arith) under)

    -- ---- the end
    module _ (past : last_of h k ≤ 4096 * brick) (new : List (CoverView ℤ))
        (same : (i : ℕ) → entry_at new i ≡ led_back (entry_at now) next brick i) where
      -- no brick past the end names a place
      none-past : (b offset : ℕ) → IsBrickOf (segment_at h k) b → brick ≤ b → entry_at new b ≡ root_entry offset → ⊥
      none-past b offset of up is =
          let order = w.order in
          let root = sym (same b ∙ led-above (entry_at now) next brick b up ∙ w.ahead b (omega arith)) ∙ is in
          let leads = was.law.named b offset of root in
          let at = leads.stands.2 in
          let inside' = leads.inside in
          let in_s = stands-home rows (objects_in rows h) s (4096 * b + offset) homes leads.stands
          (subst (λ (c : ℕ). IsBrickOf s c) (sym inside') of) in
          let within = homes.within leads.stands.0 leads.stands.1
          (subst (λ (p : ℕ). stands_in s p ≡ true) (sym at) in_s) in
          let least = homes.least leads.stands.0 leads.stands.1 in
          omega arith

      -- THE BRICKS ARE RENEWED
      pub renewed : (after : Layout) (keep : Object → Bool) → AreKept rows h counts k from after keep
          → AreEntered rows after (left_in rows h keep) (entry_at new) (segment_at h k)
      renewed after keep l =
          let e = w.entering after keep l in
          all_entered rows after (left_in rows h keep) s (homes' after keep l) (may after keep l)
          (led_back e.seen next brick) (entry_at new) (4096 * brick) brick
          (led rows after (left_in rows h keep) s (homes' after keep l) (may after keep l) e.seen (4096 * brick) next
          e.entering brick w.order (λ x stands in_s below. omega arith)) past past
          (λ b under. same b ∙ led-alike e.seen (entry_at now) next brick b e.alike under) none-past

      -- and those of other segments stay
      pub renewed_others : (b : ℕ) → (IsBrickOf (segment_at h k) b → ⊥) → entry_at new b ≡ entry_at bricks b
      renewed_others b out = same b ∙ elim (cases_lt b next) [
        | inl low' ↦ led-below (entry_at now) next brick b low'
        | inr up ↦ elim (cases_lt b brick) [
          | inl under ↦ absurd (out (brick-here b up (w.inside b up under)))
          | inr over ↦ led-above (entry_at now) next brick b over
        ]
      ] ∙ w.others b out

  -- WHERE NO SEARCH BEGINS nothing changes: bricks in which no object starts are passed
  pub renewing_over : h.rests ≡ no_rests → (now : List (CoverView ℤ)) (next count brick : ℕ)
      → IsRenewing rows h counts k from bricks now brick next → 4096 * (brick + count) < last_of h k + 4096
      → ((i : ℕ) → brick ≤ i → i < brick + count → HasNoStart (entry_at now i) i young)
      → IsRenewing rows h counts k from bricks now (brick + count) next
  renewing_over contexts now next zero brick w near none =
      let P : ℕ → Type 0 = λ b. IsRenewing rows h counts k from bricks now b next in
      let at : brick ≡ brick + 0 = omega arith in
      subst P at w
  renewing_over contexts now next (suc count) brick w near none =
      let P : ℕ → Type 0 = λ b. IsRenewing rows h counts k from bricks now b next in
      let at : brick + 1 + count ≡ brick + suc count = omega arith in
      let below : 4096 * brick < last_of h k = omega arith in
      let told = told_here now brick next w below in
      let empty = found_none rows h heap held contexts k inside brick (low_here now brick next w below) below young
      (entry_at now brick) told counts (none brick (omega arith) (omega arith)) in
      subst P at (renewing_over contexts now next count (brick + 1)
      (renewing_more now brick next w below now None empty (λ i. refl) refl) (omega arith)
      (λ i up under. none i (omega arith) (omega arith)))
