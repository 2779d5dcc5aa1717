-- Where objects stand: in a large segment, in a part, or in what a collection doesn't go over.
use Rattle.std.proofs.Common.{◌≡◌, inl, inr, ℕ, zero, suc, ◌+◌, ◌<◌, ◌≤◌, ◌==◌, ◌&&◌, ◌||◌, Bool, true, false}
use Rattle.std.proofs.Common.{List, length}
use Rattle.std.proofs.Common.{refl, ap, sym, ◌∙◌, subst, arith, if◌then◌else◌}
use Rattle.std.proofs.lemmas.Bool.{and_from, and_parts, both_ways, cases_Bool, cases_lt}
use Rattle.clr_types.specs.Rising.{IsIn}
use Rattle.clr_types.specs.Segments.{empty_segment, first_place, is_small_or_ephemeral, reserved_end}
use Rattle.clr_types.specs.Segments.{same_kind}
use Rattle.clr_types.specs.Segments.{Layout, stands_in}
use Rattle.clr_types.specs.Types.{TypeRow}
use Rattle.clr_types.specs.declared.segment.SegInfo.{SegInfo}
use Rattle.clr_types.specs.declared.segment.SegKind.{SegKind}
use Rattle.clr_types.specs.declared.segment.SegKind.TheVariants.{Ephemeral, Large, Small, Pinned}
use Rattle.clr_types.proofs.ListMembers.{any-from, any-in}
use Rattle.clr_types.proofs.SegmentFacts.{between-stands, one_home}
use Rattle.clr_heap.specs.View.{first_of, frame, HeapView, IsHeap, last_of, segment_at}
use Rattle.clr_model.specs.Lawful.{IsLaid}
use Rattle.clr_model.specs.Machine.{Machine, Object}
use Rattle.clr_model.specs.Sweep.{has_condemned_part, part_start}
use Rattle.clr_view.specs.Memory.{is_reached_by, IsMemoryOf}
use Rattle.clr_view.specs.View.{IsHeld, objects_in}
use Rattle.clr_view.proofs.Standing.{standing}
use Rattle.clr_sweep.specs.SweptLarge.{is_large_place}
use Rattle.clr_sweep.proofs.SurvivorsSwept.{at-in}
use Rattle.clr_mark.specs.Marks.{is_condemned_place}
use Rattle.clr_moves.specs.Objects.{is_in_parts}
use Rattle.clr_moves.proofs.PartPlaces.{into_parts, out_of_parts}
use Rattle.clr_scan.specs.OldParts.{HaveOldParts, old_end}
use Rattle.clr_survivors.proofs.ItemsOf.{item-of}
use Rattle.clr_survivors.proofs.LeftGoes.{condemned-is}
use Rattle.clr_types.specs.Segments.{is_large_or_pinned}
use Rattle.clr_moves.specs.declared.condemned.Condemned.TheVariants.{Generations}

-- ---- kinds

small-is : (k : SegKind) → is_large_or_pinned k ≡ false → is_small_or_ephemeral k ≡ true
small-is Small e = refl
small-is Ephemeral e = refl
small-is Large e = absurd cc
small-is Pinned e = absurd cc

not-large : (k : SegKind) → is_small_or_ephemeral k ≡ true → is_large_or_pinned k ≡ false
not-large Small e = refl
not-large Ephemeral e = refl
not-large Large e = absurd cc
not-large Pinned e = absurd cc

young-small : (k : SegKind) → same_kind Ephemeral k ≡ true → is_small_or_ephemeral k ≡ true
young-small Small e = absurd cc
young-small Ephemeral e = refl
young-small Large e = absurd cc
young-small Pinned e = absurd cc

turned-kind : (k : SegKind) → same_kind k Ephemeral ≡ same_kind Ephemeral k
turned-kind Small = refl
turned-kind Ephemeral = refl
turned-kind Large = refl
turned-kind Pinned = refl

or-last : (b : Bool) → (b || true) ≡ true
or-last true = refl
or-last false = refl

module _ (rows : List TypeRow) (h : HeapView) (heap : IsHeap h) (held : IsHeld rows h) where
  -- the segment where an object stands
  pub record HasSegment (o : Object) : Type 0 where
    pub segment : ℕ
    pub in_range : segment < length h.segments
    pub low : first_of h segment ≤ o.place
    pub below : o.place < last_of h segment
    pub high : o.place < reserved_end (segment_at h segment)
    pub room : o.place + 24 ≤ reserved_end (segment_at h segment)

  pub segment-of : (o : Object) → IsIn o (objects_in rows h) → HasSegment o
  segment-of o n =
      let k = item-of rows h o n in
      let st = standing rows h heap held k.item k.listed in
      let at = k.at in
      let up = st.above in
      let down = st.below in
      let size = st.least in
      let top = st.reserved in
      record {
        segment = st.segment;
        in_range = st.in_range;
        low = omega (arith, at, up);
        below = omega (arith, at, down, size);
        high = omega (arith, at, down, size, top);
        room = omega (arith, at, down, size, top);
      }

  -- ---- a full collection

  -- what stands in no large segment stands in a part
  pub full-home : (o : Object) → IsIn o (objects_in rows h) → is_large_place h o.place ≡ false
      → is_in_parts h (Generations 2) o.place ≡ true
  full-home o n off =
      let t = segment-of o n in
      let s = segment_at h t.segment in
      let stands = between-stands s o.place t.low t.high in
      let kind : is_small_or_ephemeral s.kind ≡ true = elim (cases_Bool (is_large_or_pinned s.kind)) [
        | inl large ↦ absurd (both_ways (is_large_place h o.place) off
            (any-from (λ (u : SegInfo). is_large_or_pinned u.kind && stands_in u o.place) h.segments s
            (at-in h.segments t.segment empty_segment t.in_range)
            (and_from (is_large_or_pinned s.kind) (stands_in s o.place) large stands)))
        | inr small ↦ small-is s.kind small
      ] in
      let start : part_start (frame h) 2 s ≡ first_place s = whole (same_kind Ephemeral s.kind) in
      let low = t.low in
      into_parts h (Generations 2) t.segment o.place
      (record {
        in_range = t.in_range;
        takes = and_from (is_small_or_ephemeral s.kind) (has_condemned_part 2 s) kind
            (or-last (same_kind Ephemeral s.kind));
        low = omega (arith, start, low);
        high = t.high;
      }) low
    where
      whole : (b : Bool) → {x : ℕ} → (if b then x else x) ≡ x
      whole true = refl
      whole false = refl

  -- ---- a younger one

  ephemeral-start : (s : SegInfo) (g : ℕ) → g ≤ 1 → same_kind Ephemeral s.kind ≡ true
      → part_start (frame h) g s ≡ (if g == 0 then h.start0 else h.start1)
  ephemeral-start s zero young e =
      ap (λ (b : Bool). if b then h.start0 else first_place s) e
  ephemeral-start s (suc zero) young e =
      ap (λ (b : Bool). if b then h.start1 else first_place s) e
  ephemeral-start s (suc (suc n)) young e = absurd (omega (arith, young))

  -- what it goes over stands in a part
  pub young-home : (g : ℕ) → g ≤ 1 → HaveOldParts rows h g → (o : Object) → IsIn o (objects_in rows h)
      → is_reached_by h g o.place ≡ true → is_in_parts h (Generations g) o.place ≡ true
  young-home g young parts o n reached =
      let t = segment-of o n in
      let s = segment_at h t.segment in
      let part = parts t.segment t.in_range in
      let low = t.low in
      let below = t.below in
      let from : old_end h g t.segment ≤ o.place = elim (cases_lt o.place (old_end h g t.segment)) [
        | inl older ↦ absurd (both_ways (is_condemned_place h g o.place) (part.older o.place low older)
            (condemned-is h g o.place ∙ reached))
        | inr not_older ↦ not_older
      ] in
      elim (cases_Bool (same_kind Ephemeral s.kind)) [
        | inl eph ↦
            let end : old_end h g t.segment ≡ (if g == 0 then h.start0 else h.start1) =
            ap (λ (b : Bool). if b then (if g == 0 then h.start0 else h.start1) else last_of h t.segment)
            (turned-kind s.kind ∙ eph) in
            let start = ephemeral-start s g young eph in
            into_parts h (Generations g) t.segment o.place
            (record {
              in_range = t.in_range;
              takes = and_from (is_small_or_ephemeral s.kind) (has_condemned_part g s) (young-small s.kind eph)
                  (ap (λ (b : Bool). b || (g == 2)) eph);
              low = omega (arith, start, end, from);
              high = t.high;
            }) low
        | inr other ↦
            let end : old_end h g t.segment ≡ last_of h t.segment =
            ap (λ (b : Bool). if b then (if g == 0 then h.start0 else h.start1) else last_of h t.segment)
            (turned-kind s.kind ∙ other) in
            absurd (omega (arith, end, from, below))
      ]

-- no place of a part stands in a large segment
pub large-outside : (rows : List TypeRow) (h : HeapView) (m : Machine) → IsMemoryOf rows h m → IsLaid m → (g x : ℕ)
    → is_in_parts h (Generations g) x ≡ true → is_large_place h x ≡ false
large-outside rows h m memory laid g x inside = elim (cases_Bool (is_large_place h x)) [
  | inl large ↦
      let (s, i, passes) =
      any-in (λ (u : SegInfo). is_large_or_pinned u.kind && stands_in u x) h.segments large in
      let (kind, stands) = and_parts (is_large_or_pinned s.kind) (stands_in s x) passes in
      let (t, into, up) = out_of_parts h (Generations g) x inside in
      let u = segment_at h t in
      let (small, part) = and_parts (is_small_or_ephemeral u.kind) (has_condemned_part g u) into.takes in
      let among : (v : SegInfo) → IsIn v h.segments → IsIn v m.layout.segments =
      λ v j. subst (λ (l : Layout). IsIn v l.segments) (sym memory.layout) j in
      let same : s ≡ u = one_home m.layout laid.layout s u x (among s i)
      (among u (at-in h.segments t empty_segment into.in_range)) stands (between-stands u x up into.high) in
      absurd (both_ways (is_large_or_pinned u.kind) (not-large u.kind small)
      (ap (λ (v : SegInfo). is_large_or_pinned v.kind) (sym same) ∙ kind))
  | inr off ↦ off
]
