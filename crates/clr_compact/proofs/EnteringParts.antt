-- Bricks of parts that are entered anew.
use Rattle.std.proofs.Common.{◌≡◌, ◌≢◌, ◌⊎◌, inl, inr, ℕ, zero, suc, ◌+◌, ◌-◌, ◌*◌, ◌/◌, ◌%◌, ◌<◌, ◌≤◌, true, false}
use Rattle.std.proofs.Common.{List, [], ◌∷◌}
use Rattle.std.proofs.Common.{length, refl, ap, sym, ◌∙◌, subst, arith, ltb, eqb, ℤ, pos, negsuc}
use Rattle.std.proofs.lemmas.Bool.{and_parts, both_ways, cases_Bool, cases_eq, cases_lt, eq-eqb, eqb-true, ltb-true}
use Rattle.std.proofs.lemmas.Bool.{ne_eqb}
use Rattle.std.proofs.lemmas.Bool.{and_from, cases_order, le-ltb, lt-leb, lt-ltb, or_cases, or_left}
use Rattle.clr_types.specs.Rising.{first, IsIn, later}
use Rattle.clr_types.specs.Segments.{empty_segment, ephemeral, first_place, is_small_or_ephemeral, Layout, reserved_end}
use Rattle.clr_types.specs.Segments.{same_kind, segment_or_empty, segments_of, stands_in}
use Rattle.clr_types.specs.declared.segment.SegKind.TheVariants.{Ephemeral, Large, Small, Pinned}
use Rattle.clr_types.specs.declared.segment.SegKind.{SegKind}
use Rattle.clr_types.proofs.ChangedLists.{into_filter, out_of_filter}
use Rattle.clr_types.specs.Types.{TypeRow}
use Rattle.clr_types.specs.declared.segment.SegInfo.{SegInfo}
use Rattle.clr_types.proofs.SegmentFacts.{stands-between}
use Rattle.clr_bricks.specs.Bricks.{back_entry, entry_at, LeadsBack, root_entry}
use Rattle.clr_covers.specs.Covers.{CoverView, spans}
use Rattle.clr_heap.specs.View.{first_of, frame, HeapView, IsHeap, segment_at}
use Rattle.clr_heap.proofs.Young.{young_number}
use Rattle.clr_model.specs.Machine.{Object}
use Rattle.clr_generations.specs.Laws.{IsBrickOf, LeadsToNearest, ReachesInto}
use Rattle.clr_generations.proofs.Alike.{path-same}
use Rattle.clr_generations.proofs.HeapHomes.{whole_bricks}
use Rattle.clr_generations.proofs.Homes.{brick-of, HaveHomes}
use Rattle.clr_model.specs.Sweep.{has_condemned_part}
use Rattle.clr_sweep.proofs.SurvivorsSwept.{at-in}
use Rattle.clr_moves.specs.Moves.{takes}
use Rattle.clr_compact.specs.Entered.{AreEnteredBelow, forgotten, kept_below}
use Rattle.clr_compact.specs.PartBricks.{both_restored, restored}
use Rattle.clr_compact.proofs.Forgetting.{forgotten-before, forgotten-outside}
use Rattle.clr_compact.proofs.PartBricks.{bricks-apart}
use Rattle.clr_moves.specs.declared.condemned.Condemned.{Condemned}
use Rattle.clr_moves.specs.declared.condemned.Condemned.TheVariants.{Generations}

-- ---- no entries

-- where no brick of a segment has an entry, none is wanted below its first place
pub entered-none : (rows : List TypeRow) (layout : Layout) (objects : List Object) (entry : ℕ → ℤ) (s : SegInfo)
    → HaveHomes rows objects s → ((b : ℕ) → IsBrickOf s b → entry b ≡ pos 0)
    → AreEnteredBelow rows layout objects entry s (first_place s)
entered-none rows layout objects entry s homes none = record {
  named = λ brick offset of is.
      let both : pos 0 ≡ root_entry offset = sym (none brick of) ∙ is in
      let same : 0 ≡ offset + 1 = cc in
      absurd (omega arith);
  starts = λ place stands in_s below may. let between = stands-between s place in_s in absurd (omega arith);
  reached = λ brick of low r.
      let from = r.from in
      let to = r.to in
      let in_s = homes.home r.object brick r.present of (omega arith) to in
      let between = stands-between s r.object.place in_s in
      let low_brick = of.0 in
      let base = homes.bricks.base in
      absurd (omega arith);
}

-- ---- one segment after the other

-- bricks of segments without a part are as before
pub record AreKeptElsewhere (h : HeapView) (g : Condemned) (old now : List (CoverView ℤ)) : Type 0 where
  pub others : (t b : ℕ) → t < length h.segments → takes g (segment_at h t) ≡ false → IsBrickOf (segment_at h t) b
      → entry_at now b ≡ entry_at old b
  pub spans : spans now ≡ spans old

-- where the bricks of a segment with a part are entered
pub kept-more : (h : HeapView) (g : Condemned) (k : ℕ) (old now new : List (CoverView ℤ)) → IsHeap h
    → k < length h.segments
    → takes g (segment_at h k) ≡ true → AreKeptElsewhere h g old now
    → ((b : ℕ) → (IsBrickOf (segment_at h k) b → ⊥) → entry_at new b ≡ entry_at now b) → spans new ≡ spans now
    → AreKeptElsewhere h g old new
kept-more h g k old now new heap inside on kept elsewhere whole = record {
  others = λ t b l off of.
      let ne : t ≢ k = λ at. both_ways (takes g (segment_at h t)) off
      (ap (λ (n : ℕ). takes g (segment_at h n)) at ∙ on) in
      elsewhere b (λ of_k. bricks-apart h t k b heap l inside ne of of_k) ∙ kept.others t b l off of;
  spans = whole ∙ kept.spans;
}

-- ---- the ephemeral segment's part alone

one-of : (ss : List SegInfo) → length ss ≡ 1 → (s : SegInfo) → IsIn s ss → s ≡ segment_or_empty ss
one-of [] e s i = elim i [ ]
one-of (x ∷ []) e s first = refl
one-of (x ∷ []) e s (later i) = elim i [ ]
one-of (x ∷ y ∷ ss) e s i = absurd (omega arith)

head-in : (ss : List SegInfo) → 0 < length ss → IsIn (segment_or_empty ss) ss
head-in [] some = absurd (omega arith)
head-in (x ∷ ss) some = first

kind-small : (k : SegKind) → same_kind Ephemeral k ≡ true → is_small_or_ephemeral k ≡ true
kind-small Small e = refl
kind-small Ephemeral e = refl
kind-small Large e = absurd cc
kind-small Pinned e = absurd cc

-- the ephemeral segment is the one of its kind
pub is-young : (h : HeapView) (t : ℕ) → IsHeap h → t < length h.segments
    → same_kind Ephemeral (segment_at h t).kind ≡ true
    → segment_at h t ≡ ephemeral (frame h)
is-young h t heap inside kind =
    one-of (segments_of Ephemeral (frame h)) heap.one_ephemeral (segment_at h t)
    (into_filter (λ (s : SegInfo). same_kind Ephemeral s.kind) h.segments kind
    (at-in h.segments t empty_segment inside))

pub young-kind : (h : HeapView) → IsHeap h → same_kind Ephemeral (ephemeral (frame h)).kind ≡ true
young-kind h heap =
    let one = heap.one_ephemeral in
    (out_of_filter (λ (s : SegInfo). same_kind Ephemeral s.kind) (ephemeral (frame h)) h.segments
    (head-in (segments_of Ephemeral (frame h)) (omega arith))).0

-- a part of generations below 2 is one of the ephemeral segment
pub young-takes : (h : HeapView) (g t : ℕ) → IsHeap h → g ≢ 2 → t < length h.segments
    → takes (Generations g) (segment_at h t) ≡ true
    → segment_at h t ≡ ephemeral (frame h)
young-takes h g t heap ne inside on =
    let kinds = and_parts (is_small_or_ephemeral (segment_at h t).kind) (has_condemned_part g (segment_at h t)) on in
    elim (or_cases (same_kind Ephemeral (segment_at h t).kind) (eqb g 2) kinds.1) [
      | inl kind ↦ is-young h t heap inside kind
      | inr two ↦ absurd (ne (eqb-true g 2 two))
    ]

-- the ephemeral segment has a part
pub young-part : (h : HeapView) (g t : ℕ) → IsHeap h → t < length h.segments → segment_at h t ≡ ephemeral (frame h)
    → takes (Generations g) (segment_at h t) ≡ true
young-part h g t heap inside is =
    let kind = ap (λ (s : SegInfo). same_kind Ephemeral s.kind) is ∙ young-kind h heap in
    and_from (is_small_or_ephemeral (segment_at h t).kind) (has_condemned_part g (segment_at h t))
    (kind-small (segment_at h t).kind kind) (or_left (same_kind Ephemeral (segment_at h t).kind) (eqb g 2) kind)

module _ (h : HeapView) (k from end : ℕ) (below own : ℤ) (heap : IsHeap h) (inside : k < length h.segments)
    (low : first_of h k ≤ from) (order : from ≤ end) (high : end ≤ reserved_end (segment_at h k)) where
  -- the two bricks whose entries are given back, and those whose entries are taken away, are the segment's
  pub restored-away : (entry : ℕ → ℤ) (b : ℕ) → (IsBrickOf (segment_at h k) b → ⊥)
      → forgotten (both_restored entry from (reserved_end (segment_at h k)) below own) from end b ≡ entry b
  restored-away entry b out =
      let whole = whole_bricks h k heap inside in
      let base = whole.base in
      let reserved = whole.reserved in
      kept-out base reserved ∙ same base reserved
    where
      room : ℕ
      room = reserved_end (segment_at h k)

      kept-out : (segment_at h k).base % 4096 ≡ 0 → (segment_at h k).reserved % 4096 ≡ 0
          → forgotten (both_restored entry from room below own) from end b ≡ both_restored entry from room below own b
      kept-out base reserved = elim (cases_lt b (from / 4096)) [
        | inl before ↦ forgotten-before (both_restored entry from room below own) from end b before
        | inr up ↦ elim (cases_lt (4096 * b) end) [
          | inl under ↦ absurd (out (omega arith, omega arith))
          | inr over ↦ forgotten-outside (both_restored entry from room below own) from end b over
        ]
      ]

      same : (segment_at h k).base % 4096 ≡ 0 → (segment_at h k).reserved % 4096 ≡ 0
          → both_restored entry from room below own b ≡ entry b
      same base reserved = elim (cases_Bool (ltb (4096 * (from / 4096)) room)) [
        | inl here ↦
            let covered = ltb-true (4096 * (from / 4096)) room here in
            rw (
              here,
              ne_eqb b (from / 4096) (λ at. out (omega arith, omega arith)),
              ne_eqb b (from / 4096 - 1) (λ at. out (omega arith, omega arith)),
            ) refl
        | inr none ↦ rw (none, ne_eqb b (from / 4096 - 1) (λ at. out (omega arith, omega arith))) refl
      ]

-- a brick of a segment without a part is none of the ephemeral segment
pub young-away : (h : HeapView) (g t b : ℕ) → IsHeap h → t < length h.segments
    → takes (Generations g) (segment_at h t) ≡ false
    → IsBrickOf (segment_at h t) b → IsBrickOf (ephemeral (frame h)) b → ⊥
young-away h g t b heap inside off of young =
    let one = heap.one_ephemeral in
    let found = young_number h.segments (omega arith) in
    let on = young-part h g found.0 heap found.1 found.2 in
    elim (cases_eq t found.0) [
      | inl at ↦ both_ways (takes (Generations g) (segment_at h t)) off
          (ap (λ (n : ℕ). takes (Generations g) (segment_at h n)) at ∙ on)
      | inr ne ↦
          bricks-apart h t found.0 b heap inside found.1 ne of
          (subst (λ (s : SegInfo). IsBrickOf s b) (sym found.2) young)
    ]

-- ---- entries that are given back

-- Where entries name the same places, and are the same below a brick below that of `from`, whose own entry is the same
-- or leads one brick back, they tell the same of what stands below `from`.
pub entered-restored : (rows : List TypeRow) (layout : Layout) (objects : List Object) (entry other : ℕ → ℤ)
    (s : SegInfo)
    (from : ℕ) → HaveHomes rows objects s → first_place s ≤ from → from ≤ reserved_end s
    → ((b offset : ℕ) → IsBrickOf s b → other b ≡ root_entry offset → entry b ≡ root_entry offset)
    → ((b offset : ℕ) → IsBrickOf s b → entry b ≡ root_entry offset → other b ≡ root_entry offset)
    → ((b : ℕ) → b + 1 < from / 4096 → other b ≡ entry b)
    → (other (from / 4096 - 1) ≡ entry (from / 4096 - 1)) ⊎ (other (from / 4096 - 1) ≡ back_entry 1)
    → AreEnteredBelow rows layout objects entry s from → AreEnteredBelow rows layout objects other s from
entered-restored rows layout objects entry other s from homes up room roots back low at e = record {
  named = λ brick offset of is. e.named brick offset of (roots brick offset of is);
  starts = λ place stands in_s below may.
      let root = e.starts place stands in_s below may in
      (root.0, back (place / 4096) root.0 (brick-of s place homes.bricks in_s) root.1);
  reached = λ brick of under r. elim (e.reached brick of under r) [
    | inl root ↦ inl (root.0, back brick root.0 of root.1)
    | inr n ↦ inr (again brick of under r n)
  ];
}
  where
    -- paths from bricks below that one are the same
    lower : (brick : ℕ) → brick + 1 < from / 4096 → LeadsToNearest layout objects entry brick
        → LeadsToNearest layout objects other brick
    lower brick below n = record {
      below = n.below;
      lower = n.lower;
      place = n.place;
      leader = n.leader;
      count = n.count;
      path = path-same n.path (λ b from_b to_b. low b (omega arith));
      nearest = n.nearest;
    }

    -- one that leads one brick back leads to the nearest
    hop-back : (brick : ℕ) → IsBrickOf s brick → brick + 1 ≡ from / 4096 → ReachesInto rows layout objects brick
        → LeadsToNearest layout objects entry brick → other brick ≡ back_entry 1
        → LeadsToNearest layout objects other brick
    hop-back brick of is r n hop = elim (cases_lt (n.below + 1) brick) [
      | inr near ↦
          let lower_n = n.lower in
          let at_n : n.below ≡ brick - 1 = omega arith in
          record {
            below = n.below;
            lower = n.lower;
            place = n.place;
            leader = n.leader;
            count = 1;
            path = subst (λ (b : ℕ). LeadsBack other 0 brick b 1) (sym at_n)
                (LeadsBack.back {n = 0} 0 hop (omega arith) LeadsBack.here);
            nearest = n.nearest;
          }
      | inl far ↦ beyond far
    ]
      where
        from_r : r.object.place / 4096 ≤ n.below
        from_r = elim (cases_lt n.below (r.object.place / 4096)) [
          | inl less ↦ absurd (n.nearest r.object.place (r.object, r.present, refl) less r.from)
          | inr more ↦ more
        ]

        home : stands_in s r.object.place ≡ true
        home = let l = r.from in homes.home r.object brick r.present of (omega arith) r.to

        beyond : n.below + 1 < brick → LeadsToNearest layout objects other brick
        beyond far =
            let l = from_r in
            let reach = r.to in
            let first_brick = (brick-of s r.object.place homes.bricks home).0 in
            let high = of.1 in
            let of_lower : IsBrickOf s (brick - 1) = (omega arith, omega arith) in
            let r' : ReachesInto rows layout objects (brick - 1) = record {
              object = r.object;
              present = r.present;
              old = r.old;
              from = omega arith;
              to = omega arith;
            } in
            elim (e.reached (brick - 1) of_lower (omega arith) r') [
              | inl root ↦
                  let lead = (e.named (brick - 1) root.0 of_lower root.1).0 in
                  let inside = lead.inside in
                  absurd (n.nearest (4096 * (brick - 1) + root.0) lead.stands (omega arith) (omega arith))
              | inr n' ↦
                  let k = lower (brick - 1) (omega arith) n' in
                  let lower_k = k.lower in
                  record {
                    below = k.below;
                    lower = omega arith;
                    place = k.place;
                    leader = k.leader;
                    count = suc k.count;
                    path = LeadsBack.back {n = k.count} 0 hop (omega arith) k.path;
                    nearest = λ q stands over under. elim (cases_lt (q / 4096) (brick - 1)) [
                      | inl less ↦ k.nearest q stands over less
                      | inr here ↦ n.nearest q stands (omega arith) under
                    ];
                  }
            ]

    again : (brick : ℕ) → IsBrickOf s brick → brick < from / 4096 → ReachesInto rows layout objects brick
        → LeadsToNearest layout objects entry brick → LeadsToNearest layout objects other brick
    again brick of under r n = elim (cases_lt (brick + 1) (from / 4096)) [
      | inl below ↦ lower brick below n
      | inr here ↦
          let is : brick + 1 ≡ from / 4096 = omega arith in
          let this : from / 4096 - 1 ≡ brick = omega arith in
          let P : ℕ → Type 0 = λ b. (other b ≡ entry b) ⊎ (other b ≡ back_entry 1) in
          elim (subst P this at) [
            | inr hop ↦ hop-back brick of is r n hop
            | inl same ↦ record {
              below = n.below;
              lower = n.lower;
              place = n.place;
              leader = n.leader;
              count = n.count;
              path = path-same n.path (λ b from_b to_b. elim (cases_eq b brick) [
                | inl eq ↦ ap other eq ∙ same ∙ ap entry (sym eq)
                | inr ne ↦ low b (omega arith)
              ]);
              nearest = n.nearest;
            }
          ]
    ]

-- ---- what is given back, and what is taken away

kept-none : (from brick : ℕ) (e : ℤ) → from ≤ 4096 * brick → kept_below from brick e ≡ pos 0
kept-none from brick (pos zero) high = refl
kept-none from brick (pos (suc n)) high = rw (le-ltb (4096 * brick + n) from (omega arith)) refl
kept-none from brick (negsuc n) high = refl

kept-restored : (from brick : ℕ) (e : ℤ) → kept_below from brick (restored e) ≡ kept_below from brick e
kept-restored from brick (pos n) = refl
kept-restored from brick (negsuc n) = refl

root-restored : (e : ℤ) (offset : ℕ) → restored e ≡ root_entry offset → e ≡ root_entry offset
root-restored (pos n) offset is = is
root-restored (negsuc n) offset is = absurd cc

restored-root : (e : ℤ) (offset : ℕ) → e ≡ root_entry offset → restored e ≡ root_entry offset
restored-root (pos n) offset is = is
restored-root (negsuc n) offset is = absurd cc

restored-or : (e : ℤ) → (restored e ≡ e) ⊎ (restored e ≡ back_entry 1)
restored-or (pos n) = inl refl
restored-or (negsuc n) = inr refl

forgotten-in : (entry : ℕ → ℤ) (from end brick : ℕ) → from / 4096 ≤ brick → 4096 * brick < end
    → forgotten entry from end brick ≡ kept_below from brick (entry brick)
forgotten-in entry from end brick low high =
    rw (le-ltb brick (from / 4096) low, lt-leb end (4096 * brick) high) refl

module _ (now entry : ℕ → ℤ) (from end room : ℕ) (below own : ℤ) (some : 1 ≤ from / 4096) (order : from ≤ end)
    (low : (i : ℕ) → i + 1 < from / 4096 → now i ≡ entry i) (high : (i : ℕ) → end ≤ 4096 * i → now i ≡ entry i)
    (below_is : below ≡ entry (from / 4096 - 1)) (own_is : own ≡ entry (from / 4096)) where
  abbrev given : ℕ → ℤ
  given = both_restored now from room below own

  given-low : (b : ℕ) → b + 1 < from / 4096 → given b ≡ now b
  given-low b l = elim (cases_Bool (ltb (4096 * (from / 4096)) room)) [
    | inl here ↦ rw (here, ne_eqb b (from / 4096) (λ at. omega arith), ne_eqb b (from / 4096 - 1) (λ at. omega arith))
        refl
    | inr none ↦ rw (none, ne_eqb b (from / 4096 - 1) (λ at. omega arith)) refl
  ]

  given-high : (b : ℕ) → from / 4096 < b → given b ≡ now b
  given-high b l = elim (cases_Bool (ltb (4096 * (from / 4096)) room)) [
    | inl here ↦ rw (here, ne_eqb b (from / 4096) (λ at. omega arith), ne_eqb b (from / 4096 - 1) (λ at. omega arith))
        refl
    | inr none ↦ rw (none, ne_eqb b (from / 4096 - 1) (λ at. omega arith)) refl
  ]

  given-below : given (from / 4096 - 1) ≡ restored below
  given-below = elim (cases_Bool (ltb (4096 * (from / 4096)) room)) [
    | inl here ↦ rw (
      here,
      ne_eqb (from / 4096 - 1) (from / 4096) (λ at. omega arith),
      eq-eqb (from / 4096 - 1) (from / 4096 - 1) refl,
    ) refl
    | inr none ↦ rw (none, eq-eqb (from / 4096 - 1) (from / 4096 - 1) refl) refl
  ]

  given-own : 4096 * (from / 4096) < room → given (from / 4096) ≡ restored own
  given-own here =
      rw (lt-ltb (4096 * (from / 4096)) room here, eq-eqb (from / 4096) (from / 4096) refl) refl

  pub same-low : (b : ℕ) → b + 1 < from / 4096 → forgotten given from end b ≡ forgotten entry from end b
  same-low b l =
      forgotten-before given from end b (omega arith) ∙ given-low b l ∙ low b l
      ∙ sym (forgotten-before entry from end b (omega arith))

  pub same-below : (forgotten given from end (from / 4096 - 1) ≡ forgotten entry from end (from / 4096 - 1))
      ⊎ (forgotten given from end (from / 4096 - 1) ≡ back_entry 1)
  same-below =
      let b = from / 4096 - 1 in
      let mine = forgotten-before given from end b (omega arith) ∙ given-below in
      elim (restored-or below) [
        | inl same ↦ inl (mine ∙ same ∙ below_is ∙ sym (forgotten-before entry from end b (omega arith)))
        | inr hop ↦ inr (mine ∙ hop)
      ]

  -- they name the same places
  pub same-roots : (b offset : ℕ) → 4096 * b < room
      → (forgotten given from end b ≡ root_entry offset → forgotten entry from end b ≡ root_entry offset)
      × (forgotten entry from end b ≡ root_entry offset → forgotten given from end b ≡ root_entry offset)
  same-roots b offset inside = elim (cases_order b (from / 4096)) [
    | inl at ↦ own-brick b at inside
    | inr (inl less) ↦ elim (cases_lt (b + 1) (from / 4096)) [
      | inl far ↦ let same = same-low b far in (λ is. sym same ∙ is, λ is. same ∙ is)
      | inr near ↦
          let at : b ≡ from / 4096 - 1 = omega arith in
          let mine = forgotten-before given from end b less ∙ ap given at ∙ given-below in
          let old = forgotten-before entry from end b less ∙ ap entry at ∙ sym below_is in (
            λ is. old ∙ root-restored below offset (sym mine ∙ is),
            λ is. mine
                ∙ restored-root below offset (sym old ∙ is),
          )
    ]
    | inr (inr more) ↦ elim (cases_lt (4096 * b) end) [
      | inl under ↦
          let mine = forgotten-in given from end b (omega arith) under ∙ kept-none from b (given b) (omega arith) in
          let old = forgotten-in entry from end b (omega arith) under ∙ kept-none from b (entry b) (omega arith) in
          (λ is. old ∙ sym mine ∙ is, λ is. mine ∙ sym old ∙ is)
      | inr over ↦
          let mine = forgotten-outside given from end b over ∙ given-high b more ∙ high b over in
          let old = forgotten-outside entry from end b over in
          (λ is. old ∙ sym mine ∙ is, λ is. mine ∙ sym old ∙ is)
    ]
  ]
    where
      own-brick : (b : ℕ) → b ≡ from / 4096 → 4096 * b < room
          → (forgotten given from end b ≡ root_entry offset → forgotten entry from end b ≡ root_entry offset)
          × (forgotten entry from end b ≡ root_entry offset → forgotten given from end b ≡ root_entry offset)
      own-brick b at within =
          let has : given b ≡ restored own = ap given at ∙ given-own (omega arith) in
          let had : entry b ≡ own = ap entry at ∙ sym own_is in
          elim (cases_lt (4096 * b) end) [
            | inl under ↦
                let mine = forgotten-in given from end b (omega arith) under ∙ ap (kept_below from b) has
                ∙ kept-restored from b own in
                let old = forgotten-in entry from end b (omega arith) under ∙ ap (kept_below from b) had in
                (λ is. old ∙ sym mine ∙ is, λ is. mine ∙ sym old ∙ is)
            | inr over ↦
                let mine = forgotten-outside given from end b over ∙ has in
                let old = forgotten-outside entry from end b over ∙ had in (
                  λ is. old ∙ root-restored own offset (sym mine ∙ is),
                  λ is. mine
                      ∙ restored-root own offset (sym old ∙ is),
                )
          ]
