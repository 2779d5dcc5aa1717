-- Bricks after a compaction: what they told of what stays, they tell still.
use Rattle.std.proofs.Common.{◌≡◌, ◌⊎◌, inl, inr, ℕ, ◌+◌, ◌*◌, ◌/◌, ◌<◌, ◌≤◌, Bool, true, false, ◌||◌, List, not}
use Rattle.std.proofs.Common.{length, map, filter, ap, ap₂, sym, ◌∙◌, subst, arith, ℤ, if◌then◌else◌}
use Rattle.std.proofs.Common.{nat_le, nat_lt}
use Rattle.std.proofs.lemmas.Bool.{both_ways, cases_Bool, cases_order, or_cases, or_right}
use Rattle.clr_types.specs.Rising.{IsIn}
use Rattle.clr_types.specs.Segments.{empty_segment, ended_at, ephemeral, generation, Layout, reserved_end, same_kind}
use Rattle.clr_types.specs.Segments.{stands_in}
use Rattle.clr_types.specs.Types.{TypeRow}
use Rattle.clr_types.specs.declared.item.Item.{Item}
use Rattle.clr_types.specs.declared.segment.SegInfo.{SegInfo}
use Rattle.clr_types.specs.declared.segment.SegKind.TheVariants.{Ephemeral}
use Rattle.clr_types.proofs.ChangedLists.{into_filter, IsIn-map, out_of_filter}
use Rattle.clr_types.proofs.ListMembers.{from-map}
use Rattle.clr_types.proofs.SegmentFacts.{stands-between}
use Rattle.clr_types.proofs.SortedLists.{into_sorted_by, out_of_sorted_by}
use Rattle.clr_bricks.specs.Bricks.{entry_at}
use Rattle.clr_covers.specs.Covers.{CoverView}
use Rattle.clr_heap.specs.View.{first_of, frame, HeapView, IsHeap, items_between, last_of, no_rests}
use Rattle.clr_heap.specs.View.{SameShape, segment_at, sight, word_of}
use Rattle.clr_heap.proofs.Framing.{lawful_at}
use Rattle.clr_heap.proofs.Staying.{segment_order}
use Rattle.clr_heap.proofs.Young.{young_number}
use Rattle.clr_model.specs.Compaction.{Move, moved_by}
use Rattle.clr_model.specs.Lawful.{IsLaid}
use Rattle.clr_model.specs.Lookups.{object_size}
use Rattle.clr_model.specs.Machine.{Machine, Object}
use Rattle.clr_model.specs.Slide.{IsLargeSlid}
use Rattle.clr_model.specs.Sweep.{survivors}
use Rattle.clr_model.proofs.CollectedLayout.{ephemeral-other}
use Rattle.clr_view.specs.Marks.{has_mark}
use Rattle.clr_view.specs.Memory.{is_marked}
use Rattle.clr_view.specs.View.{IsHeld, layout_in, objects_in}
use Rattle.clr_generations.specs.Laws.{AreEntered, BrickLaw, IsBrickOf, may_lead, Stands}
use Rattle.clr_generations.proofs.Alike.{AreAlike, entered_alike}
use Rattle.clr_generations.proofs.HeapHomes.{heap_homes, whole_bricks}
use Rattle.clr_generations.proofs.Homes.{HaveHomes, old-away, old-may_lead}
use Rattle.clr_sweep.proofs.Parting.{IsWalkedAt, walked_at}
use Rattle.clr_sweep.proofs.PassEnds.{none_starts}
use Rattle.clr_sweep.proofs.SurvivorsSwept.{at-in, seen}
use Rattle.clr_moves.specs.Moves.{age_of, AreMoves, part_of, takes}
use Rattle.clr_moves.specs.Objects.{is_in_parts, is_spared, IsUntouched, moved_object}
use Rattle.clr_moves.specs.Overlaid.{IsCompactionOf}
use Rattle.clr_moves.specs.declared.condemned.Condemned.{Condemned}
use Rattle.clr_moves.specs.declared.condemned.Condemned.TheVariants.{Generations, LargeSegments}
use Rattle.clr_moves.proofs.CompactionFills.{fills-parts}
use Rattle.clr_moves.proofs.FilledParts.{FillsParts}
use Rattle.clr_moves.proofs.PartPlaces.{into_parts, out_of_parts}
use Rattle.clr_moves.proofs.PlannedMoves.{seen-compacted, seen-laid}
use Rattle.clr_compact.specs.Compacted.{HasCompacted, part_items}
use Rattle.clr_compact.specs.Rewrites.{cleared, Rewrites}
use Rattle.clr_compact.specs.Entered.{CanEnterFrom}
use Rattle.clr_compact.specs.Slides.{HasSlid, IsEdge}
use Rattle.clr_compact.proofs.CompactedHeap.{part_split, part_stays}
use Rattle.clr_compact.proofs.EnteringParts.{is-young, young-kind, young-part}
use Rattle.clr_compact.proofs.Gone.{goes_with, lands_at, unmoved}
use Rattle.clr_compact.proofs.MemoryItems.{item_of}
use Rattle.clr_compact.proofs.Overlaying.{ended_takes}
use Rattle.clr_compact.proofs.PartBricks.{all_obey}
use Rattle.clr_compact.proofs.SlidBricks.{mid-same}

-- a segment without a part doesn't meet the ephemeral one
pub not-young : (h : HeapView) (g t place : ℕ) → IsHeap h → t < length h.segments
    → takes (Generations g) (segment_at h t) ≡ false
    → stands_in (segment_at h t) place ≡ true → stands_in (ephemeral (frame h)) place ≡ false
not-young h g t place heap inside off stands = elim (cases_Bool (stands_in (ephemeral (frame h)) place)) [
  | inr apart ↦ apart
  | inl meets ↦
      let one = heap.one_ephemeral in
      let found = young_number h.segments (omega arith) in
      let e = found.0 in
      let in_e = found.1 in
      let on = young-part h g e heap in_e found.2 in
      let in_t = stands-between (segment_at h t) place stands in
      let in_y : stands_in (segment_at h e) place ≡ true =
      subst (λ (s : SegInfo). stands_in s place ≡ true) (sym found.2) meets in
      let between = stands-between (segment_at h e) place in_y in
      absurd (elim (cases_order t e) [
        | inl at ↦ both_ways (takes (Generations g) (segment_at h t)) off
            (ap (λ (n : ℕ). takes (Generations g) (segment_at h n)) at ∙ on)
        | inr (inl less) ↦ let order = segment_order h t e heap less in_e in omega arith
        | inr (inr more) ↦ let order = segment_order h e t heap more inside in omega arith
      ])
]

-- a plan touches no brick of a segment without a part
pub untouched-away : (h : HeapView) (g : Condemned) (t b : ℕ) → IsHeap h → t < length h.segments
    → takes g (segment_at h t) ≡ false
    → ((u : ℕ) → u < length h.segments → takes g (segment_at h u) ≡ true
    → first_of h u ≤ part_of h g u)
    → IsBrickOf (segment_at h t) b → IsUntouched h g b
untouched-away h g t b heap inside off starts of u lu on =
    let base_t = (whole_bricks h t heap inside).base in
    let reserved_t = (whole_bricks h t heap inside).reserved in
    let base_u = (whole_bricks h u heap lu).base in
    let low = of.0 in
    let high = of.1 in
    elim (cases_order t u) [
      | inl at ↦ absurd
          (both_ways (takes g (segment_at h t)) off
          (ap (λ (n : ℕ). takes g (segment_at h n)) at ∙ on))
      | inr (inl less) ↦
          let order = segment_order h t u heap less lu in
          let start = starts u lu on in
          inl (omega arith)
      | inr (inr more) ↦
          let order = segment_order h u t heap more inside in
          let end = (lawful_at h u heap lu).high in
          inr (omega arith)
    ]

-- ---- places that bricks may name

-- A brick may name the place in the new layout where it might in the old one, and of generation 1 or 2 it is only where
-- it was so.
pub record LeadAlike (layout new : Layout) (place : ℕ) : Type 0 where
  pub leads : may_lead new place ≡ may_lead layout place
  pub old : 0 < generation new place → 0 < generation layout place

pub old_alike : (layout new : Layout) (place : ℕ) → 0 < generation layout place → 0 < generation new place
    → LeadAlike layout new place
old_alike layout new place a b = record {
  leads = old-may_lead new place b ∙ sym (old-may_lead layout place a);
  old = λ aged. a;
}

-- so it is where generations begin where they did
same_alike : (layout new : Layout) (place : ℕ) → ephemeral new ≡ ephemeral layout → new.start1 ≡ layout.start1
    → new.start0 ≡ layout.start0 → LeadAlike layout new place
same_alike layout new place young one two = record {
  leads =
      ap (λ (n : ℕ). nat_lt 0 n || nat_le new.start0 (4096 * (place / 4096))) same
      ∙ ap (λ (n : ℕ). nat_lt 0 (generation layout place) || nat_le n (4096 * (place / 4096))) two;
  old = λ aged. subst (λ (n : ℕ). 0 < n) same aged;
}
  where
    same : generation new place ≡ generation layout place
    same = λ i. if stands_in (young i) place
        then (if nat_lt place (one i) then 2 else (if nat_lt place (two i) then 1 else 0)) else 2

-- WHERE A SEGMENT HAS NO PART its places are alike
away_alike : (rows : List TypeRow) (old fin : HeapView) (g : Condemned) (moves : List Move) (m : Machine)
    (kept : ℕ → Bool) (after : Layout) → IsCompactionOf rows old g moves m kept after → IsHeap old → IsHeap fin
    → length fin.segments ≡ length old.segments
    → ((t : ℕ) → t < length old.segments → takes g (segment_at old t) ≡ false → segment_at fin t ≡ segment_at old t)
    → after.start1 ≡ fin.start1 → after.start0 ≡ fin.start0 → (t place : ℕ) → t < length old.segments
    → takes g (segment_at old t) ≡ false → stands_in (segment_at old t) place ≡ true
    → LeadAlike (frame old) (frame fin) place
away_alike rows old fin (Generations g) moves m kept after p heap fin_heap count stays one two t place inside off in_s =
    let is = stays t inside off in
    let off' : takes (Generations g) (segment_at fin t) ≡ false = ap (takes (Generations g)) is ∙ off in
    let in_s' : stands_in (segment_at fin t) place ≡ true = ap (λ (s : SegInfo). stands_in s place) is ∙ in_s in
    old_alike (frame old) (frame fin) place (old-away (frame old) place (not-young old g t place heap inside off in_s))
    (old-away (frame fin) place (not-young fin g t place fin_heap (omega arith) off' in_s'))
away_alike rows old fin LargeSegments moves m kept after p heap fin_heap count stays one two t place inside off in_s =
    let single = heap.one_ephemeral in
    let found = young_number old.segments (omega arith) in
    let e = found.0 in
    let in_e = found.1 in
    let kind : same_kind Ephemeral (segment_at old e).kind ≡ true =
    ap (λ (s : SegInfo). same_kind Ephemeral s.kind) found.2 ∙ young-kind old heap in
    let same = stays e in_e (ephemeral-other (segment_at old e).kind kind) in
    let young : segment_at fin e ≡ ephemeral (frame fin) =
    is-young fin e fin_heap (omega arith) (ap (λ (s : SegInfo). same_kind Ephemeral s.kind) same ∙ kind) in
    let slid : IsLargeSlid (layout_in rows old) (survivors (seen rows old m) 2 kept) moves after =
    seen-compacted rows old LargeSegments moves m kept after p in
    same_alike (frame old) (frame fin) place (sym young ∙ same ∙ found.2)
    (sym one ∙ ap (λ (l : Layout). l.start1) slid.laid) (sym two ∙ ap (λ (l : Layout). l.start0) slid.laid)

module _ (rows : List TypeRow) (old : HeapView) (g : Condemned) (moves : List Move) (m : Machine) (kept : ℕ → Bool)
    (after : Layout)
    (p : IsCompactionOf rows old g moves m kept after) (heap : IsHeap old) (held : IsHeld rows old)
    (none : old.rests ≡ no_rests) (least : age_of g ≤ 2) (mid : HeapView) (slid : HasSlid old mid g moves)
    (mid_heap : IsHeap mid)
    (clean : HeapView) (shape : SameShape mid clean)
    (words : Rewrites (cleared (part_items rows mid g (length mid.segments))) (word_of mid)
    (word_of clean))
    (start1 start0 : ℕ)
    (done : HasCompacted rows old (record clean { start1 = start1; start0 = start0 }) g moves)
    (one : after.start1 ≡ start1) (two : after.start0 ≡ start0)
    (fin_heap : IsHeap (record clean { start1 = start1; start0 = start0 })) where
  abbrev fin : HeapView
  fin = record clean { start1 = start1; start0 = start0 }

  fills : FillsParts rows old m g kept moves after
  fills = fills-parts rows old g moves m kept after p least

  am : AreMoves old g moves
  am = fills.are

  laid : IsLaid (seen rows old m)
  laid = seen-laid rows old g moves m kept after p

  -- ---- segments

  pub fin-count : length fin.segments ≡ length old.segments
  fin-count = ap (λ (h : HeapView). length h.segments) shape.others ∙ slid.count

  clean-at : (t : ℕ) → segment_at fin t ≡ segment_at mid t
  clean-at t = ap (λ (h : HeapView). segment_at h t) shape.others

  pub fin-off : (t : ℕ) → t < length old.segments → takes g (segment_at old t) ≡ false
      → segment_at fin t ≡ segment_at old t
  fin-off t l off = clean-at t ∙ slid.rest t l off

  pub fin-on : (t : ℕ) → t < length old.segments → takes g (segment_at old t) ≡ true
      → (e : ℕ) × (segment_at fin t ≡ ended_at e (segment_at old t))
  fin-on t l on = let (e, ends, is) = slid.parts t l on in (e, clean-at t ∙ is)

  -- what doesn't depend on a segment's end is as it was
  pub fin-same : {X : Type 0} (f : SegInfo → X) → ((e : ℕ) (s : SegInfo) → f (ended_at e s) ≡ f s) → (t : ℕ)
      → t < length old.segments → f (segment_at fin t) ≡ f (segment_at old t)
  fin-same f stays t l = ap f (clean-at t) ∙ mid-same old g moves mid slid f stays t l

  -- ---- objects of no part

  item-at : (o : Object) → IsIn o (objects_in rows old) → is_in_parts old g o.place ≡ false
      → moved_by moves o.place ≡ o.place
  item-at o n away =
      let of = item_of rows old m heap held laid o n in
      let place : o.place ≡ of.item.place = ap (λ (x : Object). x.place) of.is in
      let away_i : is_in_parts old g of.item.place ≡ false = subst (λ q. is_in_parts old g q ≡ false) place away in
      ap (moved_by moves) place
      ∙ unmoved rows old m heap held none laid g kept moves after fills mid slid p.tests of.item of.listed of.object
      away_i ∙ sym place

  pub stands-still : (o : Object) → IsIn o (objects_in rows old) → is_in_parts old g o.place ≡ false
      → Stands (objects_in rows fin) o.place
  stands-still o n away =
      let spared : is_spared old g o ≡ true =
      or_right (is_marked old o) (not (is_in_parts old g o.place)) (ap not away) in (
        moved_object moves o,
        subst (IsIn (moved_object moves o)) (sym done.objects)
            (into_sorted_by (λ (q : Object). q.name) (moved_object moves o)
            (map (moved_object moves) (filter (is_spared old g) (objects_in rows old)))
            (IsIn-map (moved_object moves)
            (into_filter (is_spared old g) (objects_in rows old) spared n))),
        item-at o n away,
      )

  pub stood-still : (q : Object) → IsIn q (objects_in rows fin) → is_in_parts old g q.place ≡ false
      → (o : Object) × IsIn o (objects_in rows old) × (o.place ≡ q.place) × (object_size rows o ≡ object_size rows q)
  stood-still q n away =
      let sorted = subst (IsIn q) done.objects n in
      let (o, is, listed) =
      from-map (moved_object moves) q (filter (is_spared old g) (objects_in rows old))
      (out_of_sorted_by (λ (q : Object). q.name) q
      (map (moved_object moves) (filter (is_spared old g) (objects_in rows old))) sorted) in
      let (spared, present) = out_of_filter (is_spared old g) o (objects_in rows old) listed in
      let at : q.place ≡ moved_by moves o.place = ap (λ (x : Object). x.place) is in
      let size : object_size rows q ≡ object_size rows o = ap (object_size rows) is in
      elim (cases_Bool (is_in_parts old g o.place)) [
        | inr out ↦ (o, present, sym (item-at o present out) ∙ sym at, sym size)
        | inl in_part ↦ absurd
            (both_ways (is_in_parts old g q.place) away (landed o present spared in_part q at))
      ]
    where
      landed : (o : Object) → IsIn o (objects_in rows old) → is_spared old g o ≡ true
          → is_in_parts old g o.place ≡ true
          → (q : Object) → q.place ≡ moved_by moves o.place → is_in_parts old g q.place ≡ true
      landed o present spared in_part q at =
          let of = item_of rows old m heap held laid o present in
          let place : o.place ≡ of.item.place = ap (λ (x : Object). x.place) of.is in
          let mark : is_marked old o ≡ true =
          elim (or_cases (is_marked old o) (not (is_in_parts old g o.place)) spared) [
            | inl marked ↦ marked
            | inr out ↦ absurd (both_ways (not (is_in_parts old g o.place)) (ap not in_part) out)
          ] in
          let gone = goes_with rows old m heap held none laid g kept moves after fills mid slid p.tests of.item
          of.listed of.object (subst (λ n. has_mark (word_of old n) ≡ true) place mark)
          (subst (λ n. is_in_parts old g n ≡ true) place in_part) in
          let lands = lands_at rows old m heap held none laid g kept moves after fills mid slid p.tests of.item gone in
          let to : q.place ≡ moved_by moves of.item.place = at ∙ ap (moved_by moves) place in
          subst (λ n. is_in_parts old g n ≡ true) (sym to)
          (into_parts old g lands.segment (moved_by moves of.item.place) lands.into lands.up)

  -- ---- segments alike

  pub alike : (t limit : ℕ)
      → ((place : ℕ) → stands_in (segment_at old t) place ≡ true → place < limit → is_in_parts old g place ≡ false)
      → ((place : ℕ) → stands_in (segment_at old t) place ≡ true → place < limit
      → LeadAlike (frame old) (frame (record clean { start1 = start1; start0 = start0 })) place)
      → AreAlike rows (frame old) (frame (record clean { start1 = start1; start0 = start0 })) (objects_in rows old)
      (objects_in rows (record clean { start1 = start1; start0 = start0 })) (segment_at old t) limit
  alike t limit away same = record {
    there = λ o n in_s below. stands-still o n (away o.place in_s below);
    back = λ q n in_s below. stood-still q n (away q.place in_s below);
    leads = λ place in_s below. (same place in_s below).leads;
    old = λ place in_s below aged. (same place in_s below).old aged;
  }

  pub fin-held : IsHeld rows fin
  fin-held = done.held

  -- A SEGMENT WITHOUT A PART: its bricks tell what they told
  pub entered-away : (t : ℕ) → t < length old.segments → takes g (segment_at old t) ≡ false
      → (entry other : ℕ → ℤ)
      → AreEntered rows (frame old) (objects_in rows old) entry (segment_at old t)
      → ((b : ℕ) → IsBrickOf (segment_at old t) b → other b ≡ entry b)
      → AreEntered rows (frame fin) (objects_in rows fin) other (segment_at fin t)
  entered-away t inside off entry other law same =
      let n = fin-count in
      let is = fin-off t inside off in
      let homes = heap_homes rows old heap held t inside in
      let homes' : HaveHomes rows (objects_in rows fin) (segment_at old t) =
      subst (HaveHomes rows (objects_in rows fin)) is (heap_homes rows fin fin_heap fin-held t (omega arith)) in
      subst (AreEntered rows (frame fin) (objects_in rows fin) other) (sym is)
      (entered_alike rows (frame old) (frame fin) (objects_in rows old) (objects_in rows fin) (segment_at old t)
      entry other homes homes'
      (alike t (reserved_end (segment_at old t)) away
      (λ place in_s below. away_alike rows old fin g moves m kept after p heap fin_heap fin-count fin-off one two t
      place inside off in_s)) same law)
    where
      away : (place : ℕ) → stands_in (segment_at old t) place ≡ true → place < reserved_end (segment_at old t)
          → is_in_parts old g place ≡ false
      away place in_s below = elim (cases_Bool (is_in_parts old g place)) [
        | inr out ↦ out
        | inl in_part ↦
            let (u, into, up) = out_of_parts old g place in_part in
            let between = stands-between (segment_at old t) place in_s in
            let high = into.high in
            absurd (elim (cases_order t u) [
              | inl at ↦ both_ways (takes g (segment_at old t)) off
                  (ap (λ (n : ℕ). takes g (segment_at old n)) at ∙ into.takes)
              | inr (inl less) ↦ let order = segment_order old t u heap less into.in_range in omega arith
              | inr (inr more) ↦ let order = segment_order old u t heap more inside in omega arith
            ])
      ]

  -- ---- parts

  rests-now : fin.rests ≡ no_rests
  rests-now = ap (λ (h : HeapView). h.rests) shape.others ∙ ap (λ (h : HeapView). h.rests) slid.others ∙ none

  -- A PART can be entered: no item reaches over the place where it started
  pub can-enter : (t : ℕ) (inside : t < length old.segments) → takes g (segment_at old t) ≡ true
      → (from : ℕ)
      → from ≡ part_of old g t → first_of fin t ≤ from
      → CanEnterFrom rows (record mid { start1 = start1; start0 = start0 }) fin t from
  can-enter t inside on from is first =
      let (a, b, z) = am.starts t inside on in
      let n = fin-count in
      let F : ℕ → ℕ → List Item = λ p e. items_between (sight rows clean t) p e in
      let G : ℕ → ℕ → List Item = λ p e. items_between (sight rows mid t) p e in
      let last : last_of clean t ≡ last_of mid t = ap (λ (s : SegInfo). s.end) (clean-at t) in
      let walked : IsWalkedAt (sight rows fin t) fin.memories (first_of fin t) from (last_of fin t) =
      walked_at (sight rows fin t) fin.memories (first_of fin t) from (last_of fin t)
      (fin-held.walkable t (omega arith)) (omega arith) first past-end (λ q. none_starts fin t q rests-now)
      (λ i n. let split = part_split rows old m heap held none laid g kept moves after fills mid slid p.tests mid_heap
      clean shape words t inside on i n in
      subst (λ (q : ℕ). (q ≤ i.place) ⊎ (i.place + i.size ≤ q)) (sym is) split)
      in
      record {
        shape = record {
          memories = shape.memories;
          others = ap (λ (h : HeapView). record h { start1 = start1; start0 = start0 }) shape.others;
        };
        heap = fin_heap;
        held = fin-held;
        parted = walked.below;
        whole = walked.above;
        items = ap₂ F is last
            ∙ part_stays rows old m heap held none laid g kept moves after fills mid slid p.tests mid_heap clean shape
            words t inside on ∙ sym (ap (λ (q : ℕ). G q (last_of mid t)) is);
      }
    where
      edge : (x : ℕ) → IsEdge old g moves t x → part_of old g t ≤ x
      edge x (inl at) = omega arith
      edge x (inr (j, lj, into, at)) = let low = into.low in omega arith

      past-end : from ≤ last_of fin t
      past-end =
          let (x, ends, at) = slid.parts t inside on in
          let last : last_of fin t ≡ x = ap (λ (s : SegInfo). s.end) (clean-at t ∙ at) in
          let up = edge x ends.edge in
          omega arith

  -- THE LAW, where the parts were entered anew and nothing else was written
  pub law-now : (bricks : List (CoverView ℤ)) (entry : ℕ → ℤ) → BrickLaw rows (frame old) (objects_in rows old) entry
      → ((i : ℕ) → IsUntouched old g i → entry_at bricks i ≡ entry i) → (other : ℕ → ℤ)
      → ((t : ℕ) → t < length mid.segments → takes g (segment_at mid t) ≡ true
      → AreEntered rows (frame fin) (objects_in rows fin) other (segment_at fin t))
      → ((t b : ℕ) → t < length mid.segments → takes g (segment_at mid t) ≡ false → IsBrickOf (segment_at mid t) b
      → other b ≡ entry_at bricks b)
      → BrickLaw rows (frame fin) (objects_in rows fin) other
  law-now bricks entry law kept_entries other parts others =
      all_obey rows fin fin_heap fin-held other
      (λ t l.
      let n = fin-count in
      let inside : t < length old.segments = omega arith in
      let count = slid.count in
      let in_mid : t < length mid.segments = omega arith in
      elim (cases_Bool (takes g (segment_at mid t))) [
        | inl on ↦ parts t in_mid on
        | inr off ↦
            let off' : takes g (segment_at old t) ≡ false =
            sym (mid-same old g moves mid slid (takes g) (ended_takes g) t inside) ∙ off in
            entered-away t inside off' entry other
            (law (segment_at old t) (at-in old.segments t empty_segment inside))
            (λ b of.
            others t b in_mid off (subst (λ (s : SegInfo). IsBrickOf s b) (sym (slid.rest t inside off')) of)
            ∙ kept_entries b (untouched-away old g t b heap inside off' (λ u lu on. (am.starts u lu on).0) of))
      ])
