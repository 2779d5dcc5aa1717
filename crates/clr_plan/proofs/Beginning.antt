-- Where the pointer of a plan begins, among which segments.
use Rattle.std.proofs.Common.{◌≡◌, ℕ, zero, suc, ◌<◌, ◌≤◌, ◌⊎◌, inl, inr, List, [], ◌∷◌, filter, length, get_or, refl}
use Rattle.std.proofs.Common.{sym, ap, subst, ◌∙◌, arith, Bool, true, false, ◌&&◌, ◌||◌, ◌==◌, if◌then◌else◌}
use Rattle.std.proofs.lemmas.Bool.{and_parts, and_from, cases_lt, eq-eqb}
use Rattle.clr_types.specs.Rising.{IsIn, first, later}
use Rattle.clr_types.specs.Types.{TypeRow}
use Rattle.clr_types.specs.Segments.{Layout, empty_segment, first_place, is_small_or_ephemeral, reserved_end, same_kind}
use Rattle.clr_types.specs.Segments.{segment_or_empty}
use Rattle.clr_types.specs.declared.segment.SegInfo.{SegInfo}
use Rattle.clr_types.specs.declared.segment.SegKind.{SegKind}
use Rattle.clr_types.specs.declared.segment.SegKind.TheVariants.{Small, Ephemeral, Large, Pinned}
use Rattle.clr_types.proofs.ChangedLists.{into_filter, out_of_filter}
use Rattle.clr_types.proofs.PieceGaps.{IsGapped}
use Rattle.clr_heap.specs.View.{HeapView, first_of, segment_at}
use Rattle.clr_view.specs.View.{layout_in}
use Rattle.clr_model.specs.Sweep.{has_condemned_part, part_start}
use Rattle.clr_model.specs.Compaction.{Plug, first_pointer}
use Rattle.clr_model.proofs.CondemnedParts.{pointer-young}
use Rattle.clr_model.proofs.FirstPointer.{AreStarts}
use Rattle.clr_model.proofs.PlugPointer.{IsNear}
use Rattle.clr_model.proofs.PlugRoom.{IsPlug, ArePlugs, IsOutside}
use Rattle.clr_sweep.proofs.SurvivorsSwept.{at-in}
use Rattle.clr_plan.specs.Pointing.{IsAt}
use Rattle.clr_plan.specs.Stages.{are_alike, IsAmong, IsListed}
use Rattle.clr_plan.specs.Firsts.{IsLowest}
use Rattle.clr_plan.specs.Plans.{CanPlanHeap, condemned_plugs, parts_in, start_of_part}
use Rattle.clr_moves.specs.declared.condemned.Condemned.TheVariants.{Generations}
use Rattle.clr_plan.specs.declared.pointer.Pointer.{Pointer}
use Rattle.clr_plan.proofs.Alike.{alike-small}

-- ---- where the pointer begins

module _ (segments : List SegInfo) (all : List Plug) (h : ArePlugs segments all) (start : SegInfo → ℕ) (pointer : ℕ)
    (st : AreStarts segments all start pointer) where
  begin-near : (p : Plug) → IsIn p all → IsNear segments all pointer p.start
  begin-near p i = go (st.each is.home is.among) (st.plugs is.home p is.among i is.of)
    where
      is : IsPlug segments p
      is = h.each p i

      far : pointer ≤ first_place is.home → first_place is.home ≤ p.start → IsGapped (first_place is.home) p.start
          → (pointer < first_place is.home) ⊎ (first_place is.home ≤ pointer) → IsNear segments all pointer p.start
      far l m g (inl up) = (omega arith, inr (inr (is.home, is.among, up, m)))
      far l m g (inr down) = (omega arith, inl (subst (λ n. IsGapped n p.start) (omega arith) g))

      go : (start is.home ≡ pointer) ⊎ (start is.home ≡ first_place is.home) → IsGapped (start is.home) p.start
          → IsNear segments all pointer p.start
      go (inl e) g = (omega arith, inl (subst (λ n. IsGapped n p.start) e g))
      go (inr e) g = let l : pointer ≤ start is.home = st.lowest is.home is.among in
          far (omega arith) (omega arith) (subst (λ n. IsGapped n p.start) e g) (cases_lt pointer (first_place is.home))

  begin-outside : IsOutside all pointer
  begin-outside p i pinned =
      let is : IsPlug segments p = h.each p i in
      let g : IsGapped (start is.home) p.start = st.plugs is.home p is.among i is.of in
      let l : pointer ≤ start is.home = st.lowest is.home is.among in
      inl (omega arith)

  pub begins-at : (s : SegInfo) → IsIn s segments → start s ≡ pointer → IsAt segments [] all s pointer []
  begins-at s i e = record {
    among = i;
    low = subst (λ n. first_place s ≤ n) e (st.low s i);
    high = subst (λ n. n ≤ reserved_end s) e (st.high s i);
    waiting = refl;
    outside = begin-outside;
    near = begin-near;
  }

-- ---- segments by index

pub in-at : (ss : List SegInfo) (s : SegInfo) → IsIn s ss → (k : ℕ) × (k < length ss) × (s ≡ get_or ss k empty_segment)
in-at [] s i = elim i [ ]
in-at (t ∷ ss) s first = (0, omega arith, refl)
in-at (t ∷ ss) s (later i) = let (k, l, e) = in-at ss s i in (suc k, omega arith, e)

pub kind-small : (k : SegKind) → same_kind Ephemeral k ≡ true → is_small_or_ephemeral k ≡ true
kind-small Small e = absurd cc
kind-small Ephemeral e = refl
kind-small Large e = absurd cc
kind-small Pinned e = absurd cc

-- the first that passes a test is the head of those that do
pub head-at : (test : SegInfo → Bool) (ss : List SegInfo) (n : ℕ) → n < length ss
    → test (get_or ss n empty_segment) ≡ true → ((j : ℕ) → j < n → test (get_or ss j empty_segment) ≡ false)
    → segment_or_empty (filter test ss) ≡ get_or ss n empty_segment
head-at test [] n l e below = absurd (omega arith)
head-at test (s ∷ ss) zero l e below = ap (λ b. segment_or_empty (if b then s ∷ filter test ss else filter test ss)) e
head-at test (s ∷ ss) (suc n) l e below =
    ap (λ b. segment_or_empty (if b then s ∷ filter test ss else filter test ss)) (below 0 (omega arith))
    ∙ head-at test ss n (omega arith) e (λ j m. below (suc j) (omega arith))

module _ (rows : List TypeRow) (h : HeapView) (g e : ℕ) (can : CanPlanHeap rows h g e) where
  abbrev layout : Layout
  layout = layout_in rows h

  young-kind : same_kind Ephemeral (segment_at h e).kind ≡ true
  young-kind = ap (λ (s : SegInfo). same_kind Ephemeral s.kind) can.young ∙ can.condemned.kind

  pub young-small : is_small_or_ephemeral (segment_at h e).kind ≡ true
  young-small = kind-small (segment_at h e).kind young-kind

  pub young-in : IsIn (segment_at h e) (parts_in rows h g)
  young-in = subst (λ s. IsIn s (parts_in rows h g)) (sym can.young) can.condemned.among

  part-in : (j : ℕ) → j < length h.segments → is_small_or_ephemeral (segment_at h j).kind ≡ true
      → has_condemned_part g (segment_at h j) ≡ true → IsIn (segment_at h j) (parts_in rows h g)
  part-in j l small part = into_filter (λ (s : SegInfo). is_small_or_ephemeral s.kind && has_condemned_part g s)
      h.segments (and_from (is_small_or_ephemeral (segment_at h j).kind) (has_condemned_part g (segment_at h j)) small
      part) (at-in h.segments j empty_segment l)

  all-parts : g ≡ 2 → (s : SegInfo) → has_condemned_part g s ≡ true
  all-parts two s = go (same_kind Ephemeral s.kind) (eq-eqb g 2 two)
    where
      go : (b : Bool) → (g == 2) ≡ true → (b || (g == 2)) ≡ true
      go true t = refl
      go false t = t

  -- the pointer among the segments that take part
  pub among-at : (at : Pointer) (k : ℕ) → k ≤ e → is_small_or_ephemeral (segment_at h k).kind ≡ true → at.segment ≤ k
      → at.high ≡ reserved_end (segment_at h at.segment) → (g ≡ 2) ⊎ (at.segment ≡ e) → IsAmong h (parts_in rows h g)
      at k
  among-at at k most small order high either = record {
    heap = can.heap;
    in_range = let i = can.inside in omega arith;
    order = order;
    high = high;
    listed = λ s i. listed s i;
    between = λ j l m on. between j l m (sym (alike j) ∙ on) either;
  }
    where
      alike : (j : ℕ) → are_alike h k j ≡ is_small_or_ephemeral (segment_at h j).kind
      alike j = alike-small (segment_at h k).kind (segment_at h j).kind small

      listed : (s : SegInfo) → IsIn s (parts_in rows h g) → IsListed h k s
      listed s i =
          let (t, n) = out_of_filter (λ (s : SegInfo). is_small_or_ephemeral s.kind && has_condemned_part g s) s
          h.segments i in
          let (j, l, same) = in-at h.segments s n in
          record {
            index = j;
            in_range = l;
            is = same;
            alike = alike j ∙ subst (λ (u : SegInfo). is_small_or_ephemeral u.kind ≡ true) same
                (and_parts (is_small_or_ephemeral s.kind) (has_condemned_part g s) t).0;
          }

      between : (j : ℕ) → at.segment ≤ j → j ≤ k → is_small_or_ephemeral (segment_at h j).kind ≡ true → (g ≡ 2)
          ⊎ (at.segment ≡ e) → IsIn (segment_at h j) (parts_in rows h g)
      between j l m on (inl two) = let i = can.inside in part-in j (omega arith) on (all-parts two (segment_at h j))
      between j l m on (inr same) = let at_e : j ≡ e = omega arith in
          subst (λ n. IsIn (segment_at h n) (parts_in rows h g)) (sym at_e) young-in

  pub plugs-lie : ArePlugs (parts_in rows h g) (condemned_plugs rows h g e)
  plugs-lie = can.condemned.plugs

  -- ---- the first places

  pub start-young : g ≤ 1 → start_of_part rows h g e ≡ first_pointer layout g (parts_in rows h g)
  start-young l = ap (part_start layout g) can.young ∙ sym (pointer-young layout can.laid g can.least l)

  pub start-is : start_of_part rows h g e ≡ (if g == 0 then h.start0 else (if g == 1 then h.start1 else first_of h e))
  start-is = ap (λ b. if b then (if g == 0 then h.start0 else (if g == 1 then h.start1 else first_of h e)) else first_of
      h e) young-kind

  pub opens-young : g ≤ 1 → IsAt (parts_in rows h g) [] (condemned_plugs rows h g e) (segment_at h e)
      (first_pointer layout g (parts_in rows h g)) []
  opens-young l = begins-at (parts_in rows h g) (condemned_plugs rows h g e) plugs-lie (part_start layout g)
      (first_pointer layout g (parts_in rows h g)) can.condemned.starts (segment_at h e) young-in (start-young l)

  -- in a collection of generation 2 the pointer begins at the first place of the lowest segment that isn't large
  module _ (two : g ≡ 2) (n : ℕ) (is : IsLowest h (Generations g) n) where
    start-first : part_start layout g (segment_at h n) ≡ first_of h n
    start-first = go (same_kind Ephemeral (segment_at h n).kind)
      where
        go : (b : Bool) → (if b then (if g == 0 then h.start0 else (if g == 1 then h.start1 else first_of h n))
            else first_of h n) ≡ first_of h n
        go true = ap (λ m. if m == 0 then h.start0 else (if m == 1 then h.start1 else first_of h n)) two
        go false = refl

    head-first : segment_or_empty (parts_in rows h g) ≡ segment_at h n
    head-first = head-at (λ (s : SegInfo). is_small_or_ephemeral s.kind && has_condemned_part g s) h.segments n
        is.in_range is.taken is.below

    pub pointer-first : first_pointer layout g (parts_in rows h g) ≡ first_of h n
    pointer-first = ap (part_start layout g) head-first ∙ start-first

    pub opens-first : IsAt (parts_in rows h g) [] (condemned_plugs rows h g e) (segment_at h n)
        (first_pointer layout g (parts_in rows h g)) []
    opens-first =
        begins-at (parts_in rows h g) (condemned_plugs rows h g e) plugs-lie (part_start layout g)
        (first_pointer layout g (parts_in rows h g)) can.condemned.starts (segment_at h n)
        (into_filter (λ (s : SegInfo). is_small_or_ephemeral s.kind && has_condemned_part g s) h.segments is.taken
        (at-in h.segments n empty_segment is.in_range)) (start-first ∙ sym pointer-first)
