-- The layout that a whole collection leaves: the small heap compacted or swept, the large heap swept, and empty
-- segments released.
use Rattle.std.proofs.Common.{◌≡◌, ℕ, ◌%◌, ◌<◌, ◌≤◌, List, [], ◌∷◌, ◌++◌, length, refl, sym, ap, subst, ◌∙◌, arith}
use Rattle.std.proofs.Common.{Bool, true, false, if◌then◌else◌, filter, ◌&&◌, ◌||◌, ◌==◌, nat_lt, min}
use Rattle.std.proofs.lemmas.Bool.{and_parts, eq-eqb, eqb-true}
use Rattle.std.specs.List.{AllByRecursion, flat_map, list_any}
use Rattle.clr_types.specs.Rising.{IsIn, first}
use Rattle.clr_types.specs.Ranges.{Piece, Tiles, by_place, gaps, end_of_last}
use Rattle.clr_types.specs.declared.segment.SegKind.{SegKind}
use Rattle.clr_types.specs.declared.segment.SegKind.TheVariants.{Small, Ephemeral, Large, Pinned}
use Rattle.clr_types.specs.declared.segment.SegInfo.{SegInfo}
use Rattle.clr_types.specs.Segments.{Layout, first_place, reserved_end, same_kind, is_small_or_ephemeral, segments_of}
use Rattle.clr_types.specs.Segments.{ephemeral, generation, stands_in, segment_or_empty, is_large_or_pinned}
use Rattle.clr_types.specs.LawfulLayout.{IsLawfulLayout, IsLawfulSegment, IsBoundedSegment}
use Rattle.clr_types.proofs.RisingLists.{all_at}
use Rattle.clr_types.proofs.ChangedLists.{all_members, into_filter, out_of_filter}
use Rattle.clr_types.proofs.ListMembers.{from-map}
use Rattle.clr_types.proofs.SegmentFacts.{lawful_segment, ephemeral-kind, between-stands}
use Rattle.clr_types.proofs.HighestSegment.{filter-disjoint}
use Rattle.clr_model.specs.Machine.{Machine, Object}
use Rattle.clr_model.specs.Lawful.{IsLaid}
use Rattle.clr_model.specs.Sweep.{Survivor, survivors, survivor_pieces, part_start, sections, old_sections}
use Rattle.clr_model.specs.Sweep.{pieces_between, has_condemned_part, taking_part, segments_after, swept_end}
use Rattle.clr_model.specs.Sweep.{swept_free, swept_others}
use Rattle.clr_model.specs.Compaction.{Move, compacted_end}
use Rattle.clr_model.specs.Collection.{IsSmallLaid, is_retained, released, base_of_first}
use Rattle.clr_model.proofs.SweptLawful.{sweep_tiles, sweep_end}
use Rattle.clr_model.proofs.AfterLayout.{in-flat, fresh-stands, layout_after, ephemeral_after}
use Rattle.clr_model.proofs.LayoutLaws.{compaction_lawful, sweep_lawful}

-- ---- kinds

pub large-not_ephemeral : (k : SegKind) → is_large_or_pinned k ≡ true → same_kind Ephemeral k ≡ false
large-not_ephemeral Small e = absurd cc
large-not_ephemeral Ephemeral e = absurd cc
large-not_ephemeral Large e = refl
large-not_ephemeral Pinned e = refl

-- a large one is large or pinned
pub large-either : (k : SegKind) → same_kind Large k ≡ true → is_large_or_pinned k ≡ true
large-either Small e = absurd cc
large-either Ephemeral e = absurd cc
large-either Large e = refl
large-either Pinned e = absurd cc

pub ephemeral-other : (k : SegKind) → same_kind Ephemeral k ≡ true → same_kind Large k ≡ false
ephemeral-other Small e = absurd cc
ephemeral-other Ephemeral e = refl
ephemeral-other Large e = absurd cc
ephemeral-other Pinned e = absurd cc

pub small-not_large : (k : SegKind) → is_small_or_ephemeral k ≡ true → same_kind Large k ≡ false
small-not_large Small e = refl
small-not_large Ephemeral e = refl
small-not_large Large e = absurd cc
small-not_large Pinned e = absurd cc

pub large-not_small : (k : SegKind) → is_large_or_pinned k ≡ true → is_small_or_ephemeral k ≡ false
large-not_small Small e = absurd cc
large-not_small Ephemeral e = absurd cc
large-not_small Large e = refl
large-not_small Pinned e = refl

pub ephemeral-not_large : (k : SegKind) → same_kind Ephemeral k ≡ true → is_large_or_pinned k ≡ false
ephemeral-not_large Small e = refl
ephemeral-not_large Ephemeral e = refl
ephemeral-not_large Large e = absurd cc
ephemeral-not_large Pinned e = absurd cc

-- ---- the small heap

module _ (m : Machine) (h : IsLaid m) (g : ℕ) (least : g ≤ 2) (keeps : ℕ → Bool) (moves : List Move)
    (small : Layout) where
  abbrev kept : List Survivor
  kept = survivors m g keeps

  -- the small heap, compacted or swept, is lawful
  pub small_lawful : (compacting : Bool) → IsSmallLaid compacting m.layout g kept moves small → IsLawfulLayout small
  small_lawful true c = compaction_lawful m h g least keeps moves small c
  small_lawful false c = subst IsLawfulLayout (sym c.1) (sweep_lawful m h g least keeps)

  -- segments that aren't in the small heap stay as they are
  unchanged : (end_after : SegInfo → ℕ)
      → small.segments ≡ segments_after is_small_or_ephemeral g end_after m.layout.segments → (s : SegInfo)
      → IsIn s small.segments → is_large_or_pinned s.kind ≡ true → IsIn s m.layout.segments
  unchanged end_after e s i kind =
      let (t, f, j) = from-map change s m.layout.segments (subst (IsIn s) e i) in
      go t j (is_small_or_ephemeral t.kind && has_condemned_part g t) refl f
    where
      change : SegInfo → SegInfo
      change t = if is_small_or_ephemeral t.kind && has_condemned_part g t then record t { end = end_after t } else t

      go : (t : SegInfo) → IsIn t m.layout.segments → (b : Bool)
          → (is_small_or_ephemeral t.kind && has_condemned_part g t) ≡ b
          → s ≡ (if b then record t { end = end_after t } else t) → IsIn s m.layout.segments
      go t j false e f = subst (λ (u : SegInfo). IsIn u m.layout.segments) (sym f) j
      go t j true e f =
          let (a, b) = and_parts (is_small_or_ephemeral t.kind) (has_condemned_part g t) e in
          let same : s.kind ≡ t.kind = ap (λ (u : SegInfo). u.kind) f in
          let not_small : is_small_or_ephemeral t.kind ≡ false =
          subst (λ k. is_small_or_ephemeral k ≡ false) same (large-not_small s.kind kind) in
          absurd cc

  pub large-known : (compacting : Bool) → IsSmallLaid compacting m.layout g kept moves small → (s : SegInfo)
      → IsIn s small.segments → is_large_or_pinned s.kind ≡ true → IsIn s m.layout.segments
  large-known true c = unchanged (compacted_end small.start0 c.plugs moves) c.ends
  large-known false c = unchanged (swept_end m.layout g kept) (ap (λ (l : Layout). l.segments) c.1)

-- ---- the large heap

module _ (m : Machine) (h : IsLaid m) (keeps : ℕ → Bool) (moves : List Move) (small : Layout) (compacting : Bool)
    (laid : IsSmallLaid compacting m.layout 2 (survivors m 2 keeps) moves small) where
  abbrev stay : List Survivor
  stay = survivors m 2 keeps

  two : 2 ≤ 2
  two = omega arith

  lawful : IsLawfulLayout small
  lawful = small_lawful m h 2 two keeps moves small compacting laid

  abbrev large : List SegInfo
  large = taking_part (is_large_or_pinned) 2 small

  large-is : (s : SegInfo) → IsIn s large → (is_large_or_pinned s.kind ≡ true) × IsIn s m.layout.segments
  large-is s i =
      let (e, j) = out_of_filter (λ (s : SegInfo). is_large_or_pinned s.kind && has_condemned_part 2 s) s small.segments
      i in
      let (a, b) = and_parts (is_large_or_pinned s.kind) (has_condemned_part 2 s) e in
      (a, large-known m h 2 two keeps moves small compacting laid s j a)

  starts-at : (l : Layout) (s : SegInfo) → same_kind Ephemeral s.kind ≡ false → part_start l 2 s ≡ first_place s
  starts-at l s e = ap (λ b. if b then first_place s else first_place s) e

  -- a large segment's part doesn't hang on the layout
  same-start : (s : SegInfo) → IsIn s large → part_start m.layout 2 s ≡ part_start small 2 s
  same-start s i =
      let e = large-not_ephemeral s.kind (large-is s i).0 in starts-at m.layout s e ∙ sym (starts-at small s e)

  large-sections : (l : Layout) (s : SegInfo) → same_kind Ephemeral s.kind ≡ false
      → sections l 2 s ≡ record { low = first_place s; high = s.end } ∷ []
  large-sections l s e =
      ap (λ b. if b then old_sections l 2 s ++ (record { low = l.start0; high = s.end } ∷ [])
      else record { low = first_place s; high = s.end } ∷ []) e

  same-sections : (s : SegInfo) → IsIn s large → sections m.layout 2 s ≡ sections small 2 s
  same-sections s i =
      let e = large-not_ephemeral s.kind (large-is s i).0 in
      large-sections m.layout s e ∙ sym (large-sections small s e)

  pub same-end : (s : SegInfo) → IsIn s large → swept_end m.layout 2 stay s ≡ swept_end small 2 stay s
  same-end s i = ap (λ n. end_of_last n (survivor_pieces s stay)) (same-start s i)

  pub same-free : (s : SegInfo) → IsIn s large → swept_free m.layout 2 stay s ≡ swept_free small 2 stay s
  same-free s i =
      let end = same-end s i in let parts = same-sections s i in
      λ k. flat_map (λ section. gaps section.low (min section.high (end k))
      (pieces_between section.low section.high (survivor_pieces s stay))) (parts k)

  -- what the sweep keeps of a large segment and its new free items tile it up to its new end
  pub large_tiles : (s : SegInfo) → IsIn s large
      → Tiles (part_start small 2 s) (swept_end small 2 stay s)
      (by_place (survivor_pieces s stay ++ swept_free small 2 stay s))
  large_tiles s i =
      subst (λ n. Tiles n (swept_end small 2 stay s) (by_place (survivor_pieces s stay ++ swept_free small 2 stay s)))
      (same-start s i)
      (subst (λ n. Tiles (part_start m.layout 2 s) n (by_place (survivor_pieces s stay ++ swept_free small 2 stay s)))
      (same-end s i)
      (subst (λ ps. Tiles (part_start m.layout 2 s) (swept_end m.layout 2 stay s)
      (by_place (survivor_pieces s stay ++ ps))) (same-free s i)
      (sweep_tiles m h 2 two keeps s (large-is s i).1)))

  large_high : (s : SegInfo) → IsIn s large → swept_end small 2 stay s ≤ reserved_end s
  large_high s i =
      let (a, b) = sweep_end m h 2 two keeps s (large-is s i).1 in
      let c : s.end ≤ reserved_end s = (lawful_segment m.layout h.layout s (large-is s i).1).high in
      subst (λ n. n ≤ reserved_end s) (same-end s i) (omega arith)

  large_low : (s : SegInfo) → IsIn s large → (first_place s ≤ part_start small 2 s) × (part_start small 2 s % 8 ≡ 0)
  large_low s i =
      let e : part_start small 2 s ≡ first_place s = starts-at small s (large-not_ephemeral s.kind (large-is s i).0) in
      let b : s.base % 4096 ≡ 0 = (lawful_segment m.layout h.layout s (large-is s i).1).base in
      (omega arith, omega arith)

  abbrev swept : Layout
  swept = swept_others small 2 stay

  not_large : (is_large_or_pinned (ephemeral small).kind && has_condemned_part 2 (ephemeral small)) ≡ false
  not_large =
      ap (λ b. b && has_condemned_part 2 (ephemeral small))
      (ephemeral-not_large (ephemeral small).kind (ephemeral-kind small lawful))

  -- the layout with the large heap swept too is lawful
  pub large_lawful : IsLawfulLayout (swept_others small 2 stay)
  large_lawful =
      layout_after small lawful (is_large_or_pinned) 2 (swept_end small 2 stay) (λ s. survivor_pieces s stay)
      (swept_free small 2 stay) large_tiles large_high large_low
      swept refl refl refl refl lawful.start1_low lawful.start1_high
      (subst (λ b. small.start0 ≤ (if b
      then record (ephemeral small) { end = swept_end small 2 stay (ephemeral small) } else ephemeral small).end)
      (sym not_large) lawful.start0_high)
      lawful.aligned

  -- the ephemeral segment, and with it the generations, are those of the small heap
  pub large_ephemeral : ephemeral (swept_others small 2 stay) ≡ ephemeral small
  large_ephemeral =
      ephemeral_after small lawful (is_large_or_pinned) 2 (swept_end small 2 stay) (λ s. survivor_pieces s stay)
      (swept_free small 2 stay) large_tiles large_high large_low swept refl
      ∙ ap (λ b. if b then record (ephemeral small) { end = swept_end small 2 stay (ephemeral small) }
      else ephemeral small) not_large

  -- a free item that the sweep of the large heap makes stands in a large segment
  pub large_fresh : (p : Piece) → IsIn p (flat_map (swept_free small 2 stay) large)
      → (s : SegInfo) × (is_large_or_pinned s.kind ≡ true) × IsIn s m.layout.segments × (stands_in s p.place ≡ true)
  large_fresh p i =
      let (s, j, k) =
      in-flat small lawful (is_large_or_pinned) 2 (swept_end small 2 stay) (λ s. survivor_pieces s stay)
      (swept_free small 2 stay) large_tiles large_high large_low large p i in
      let at = fresh-stands small lawful (is_large_or_pinned) 2 (swept_end small 2 stay) (λ s. survivor_pieces s stay)
      (swept_free small 2 stay) large_tiles large_high large_low s j p k in
      let (kind, known) = large-is s j in
      (s, kind, known, between-stands s p.place at.low_place at.high_place)

-- ---- what is released

filter-through : {X : Type 0} (s t : X → Bool) (xs : List X) → ((x : X) → s x ≡ true → t x ≡ true)
    → filter s (filter t xs) ≡ filter s xs
filter-through s t [] h = refl
filter-through s t (x ∷ xs) h = go (t x) (s x) refl refl (filter-through s t xs h)
  where
    inner : (b : Bool) → s x ≡ b → filter s (filter t xs) ≡ filter s xs
        → (if s x then x ∷ filter s (filter t xs) else filter s (filter t xs))
        ≡ (if b then x ∷ filter s xs else filter s xs)
    inner true e more =
        ap (λ b. if b then x ∷ filter s (filter t xs) else filter s (filter t xs)) e ∙ ap (λ ys. x ∷ ys) more
    inner false e more = ap (λ b. if b then x ∷ filter s (filter t xs) else filter s (filter t xs)) e ∙ more

    go : (a b : Bool) → t x ≡ a → s x ≡ b → filter s (filter t xs) ≡ filter s xs
        → filter s (if a then x ∷ filter t xs else filter t xs) ≡ (if s x then x ∷ filter s xs else filter s xs)
    go true b e f more = inner (s x) refl more
    go false true e f more = let p : t x ≡ true = h x f in absurd cc
    go false false e f more = more ∙ sym (ap (λ b. if b then x ∷ filter s xs else filter s xs) f)

all-filter : (P : SegInfo → Type 0) (test : SegInfo → Bool) (ss : List SegInfo) → AllByRecursion P ss
    → AllByRecursion P (filter test ss)
all-filter P test ss h = all_members P (filter test ss) (λ s i. all_at P (out_of_filter test s ss i).1 h)

or_true : (a b : Bool) → b ≡ true → (a || b) ≡ true
or_true true b e = refl
or_true false b e = e

some_in : (ss : List SegInfo) (s : SegInfo) → IsIn s ss → 0 < length ss
some_in [] s i = elim i [ ]
some_in (t ∷ ss) s i = omega arith

head_is : (ss : List SegInfo) → 0 < length ss → (s : SegInfo) × IsIn s ss × (s.base ≡ base_of_first ss)
head_is [] l = absurd (omega arith)
head_is (s ∷ ss) l = (s, first, refl)

module _ (layout : Layout) (h : IsLawfulLayout layout) (objects : List Object) where
  abbrev left : Layout
  left = released layout objects

  ephemeral_retained : (s : SegInfo) → same_kind Ephemeral s.kind ≡ true → is_retained layout objects s ≡ true
  ephemeral_retained s e =
      or_true (list_any (λ o. stands_in s o.place) objects)
      (same_kind Ephemeral s.kind || (s.base == base_of_first (segments_of Large layout)))
      (ap (λ b. b || (s.base == base_of_first (segments_of Large layout))) e)

  ephemerals_left : segments_of Ephemeral left ≡ segments_of Ephemeral layout
  ephemerals_left =
      filter-through (λ (s : SegInfo). same_kind Ephemeral s.kind) (is_retained layout objects) layout.segments
      ephemeral_retained

  -- the ephemeral segment stays
  pub released_ephemeral : ephemeral (released layout objects) ≡ ephemeral layout
  released_ephemeral = ap segment_or_empty ephemerals_left

  large_left : 0 < length (segments_of Large left)
  large_left =
      let (s, i, e) = head_is (segments_of Large layout) h.some_large in
      let (kind, j) = out_of_filter (λ (s : SegInfo). same_kind Large s.kind) s layout.segments i in
      let stays : is_retained layout objects s ≡ true =
      or_true (list_any (λ o. stands_in s o.place) objects)
      (same_kind Ephemeral s.kind || (s.base == base_of_first (segments_of Large layout)))
      (or_true (same_kind Ephemeral s.kind) (s.base == base_of_first (segments_of Large layout))
      (eq-eqb s.base (base_of_first (segments_of Large layout)) e))
      in
      some_in (segments_of Large left) s
      (into_filter (λ (s : SegInfo). same_kind Large s.kind) (filter (is_retained layout objects) layout.segments)
      kind (into_filter (is_retained layout objects) layout.segments stays j))

  small_left : (s : SegInfo) → IsIn s (segments_of Small left) → s.base ≤ (ephemeral left).base
  small_left s i =
      let (kind, j) =
      out_of_filter (λ (s : SegInfo). same_kind Small s.kind) s (filter (is_retained layout objects) layout.segments)
      i in
      let k : IsIn s layout.segments = (out_of_filter (is_retained layout objects) s layout.segments j).1 in
      subst (λ (u : SegInfo). s.base ≤ u.base) (sym released_ephemeral)
      (all_at (λ (s : SegInfo). s.base ≤ (ephemeral layout).base)
      (into_filter (λ (s : SegInfo). same_kind Small s.kind) layout.segments kind k) h.ephemeral_last)

  -- without the segments that nothing stands in, the layout is as lawful
  pub released_lawful : IsLawfulLayout (released layout objects)
  released_lawful = record {
    segments = all-filter IsLawfulSegment (is_retained layout objects) layout.segments h.segments;
    bounded = all-filter IsBoundedSegment (is_retained layout objects) layout.segments h.bounded;
    disjoint = filter-disjoint (is_retained layout objects) layout.segments h.disjoint;
    below_top =
        all-filter (λ (s : SegInfo). reserved_end s ≤ layout.top) (is_retained layout objects) layout.segments
        h.below_top;
    top_aligned = h.top_aligned;
    one_ephemeral = ap length ephemerals_left ∙ h.one_ephemeral;
    ephemeral_last = all_members (λ (s : SegInfo). s.base ≤ (ephemeral left).base) (segments_of Small left) small_left;
    some_large = large_left;
    start1_low = subst (λ (u : SegInfo). first_place u ≤ layout.start1) (sym released_ephemeral) h.start1_low;
    start1_high = h.start1_high;
    start0_high = subst (λ (u : SegInfo). layout.start0 ≤ u.end) (sym released_ephemeral) h.start0_high;
    aligned = h.aligned;
    free_rise = h.free_rise;
    threads = h.threads;
  }

-- ---- the whole

-- the layout of a collection, from that of its small heap
abbrev pub whole_after : ℕ → List Survivor → Layout → List Object → Layout
whole_after g stay small objects = if g == 2 then released (swept_others small 2 stay) objects else small

module _ (m : Machine) (h : IsLaid m) (g : ℕ) (least : g ≤ 2) (keeps : ℕ → Bool) (moves : List Move) (small : Layout)
    (compacting : Bool) (laid : IsSmallLaid compacting m.layout g (survivors m g keeps) moves small)
    (objects : List Object) where
  -- the whole layout is lawful
  pub whole_lawful : IsLawfulLayout (whole_after g (survivors m g keeps) small objects)
  whole_lawful = go (g == 2) refl
    where
      go : (b : Bool) → (g == 2) ≡ b
          → IsLawfulLayout (if b then released (swept_others small 2 (survivors m g keeps)) objects else small)
      go false e = small_lawful m h g least keeps moves small compacting laid
      go true e =
          let two : g ≡ 2 = eqb-true g 2 e in
          subst (λ n. IsLawfulLayout (released (swept_others small 2 (survivors m n keeps)) objects)) (sym two)
          (released_lawful (swept_others small 2 (survivors m 2 keeps))
          (large_lawful m h keeps moves small compacting
          (subst (λ n. IsSmallLaid compacting m.layout n (survivors m n keeps) moves small) two laid)) objects)

  -- its ephemeral segment is the small heap's
  pub whole_ephemeral : ephemeral (whole_after g (survivors m g keeps) small objects) ≡ ephemeral small
  whole_ephemeral = go (g == 2) refl
    where
      go : (b : Bool) → (g == 2) ≡ b
          → ephemeral (if b then released (swept_others small 2 (survivors m g keeps)) objects else small)
          ≡ ephemeral small
      go false e = refl
      go true e =
          let two : g ≡ 2 = eqb-true g 2 e in
          subst (λ n. ephemeral (released (swept_others small 2 (survivors m n keeps)) objects) ≡ ephemeral small)
          (sym two)
          (let laid_two = subst (λ n. IsSmallLaid compacting m.layout n (survivors m n keeps) moves small) two laid in
          released_ephemeral (swept_others small 2 (survivors m 2 keeps))
          (large_lawful m h keeps moves small compacting laid_two) objects
          ∙ large_ephemeral m h keeps moves small compacting laid_two)

  -- the generations are the small heap's before anything is released
  pub laid_generation : (place : ℕ)
      → generation (if g == 2 then swept_others small 2 (survivors m g keeps) else small) place
      ≡ generation small place
  laid_generation place = go (g == 2) refl
    where
      go : (b : Bool) → (g == 2) ≡ b
          → generation (if b then swept_others small 2 (survivors m g keeps) else small) place
          ≡ generation small place
      go false e = refl
      go true e =
          let two : g ≡ 2 = eqb-true g 2 e in
          subst (λ n. generation (swept_others small 2 (survivors m n keeps)) place ≡ generation small place)
          (sym two)
          (ap (λ (s : SegInfo). if stands_in s place
          then (if nat_lt place small.start1 then 2 else (if nat_lt place small.start0 then 1 else 0)) else 2)
          (large_ephemeral m h keeps moves small compacting
          (subst (λ n. IsSmallLaid compacting m.layout n (survivors m n keeps) moves small) two laid)))

  -- and so are its generations
  pub whole_generation : (place : ℕ)
      → generation (whole_after g (survivors m g keeps) small objects) place ≡ generation small place
  whole_generation place =
      ap (λ (s : SegInfo). if stands_in s place
      then (if nat_lt place (whole_after g (survivors m g keeps) small objects).start1 then 2
      else (if nat_lt place (whole_after g (survivors m g keeps) small objects).start0 then 1 else 0)) else 2)
      whole_ephemeral
      ∙ go (g == 2)
    where
      go : (b : Bool) → (if stands_in (ephemeral small) place
          then (if nat_lt place (if b then released (swept_others small 2 (survivors m g keeps)) objects
          else small).start1 then 2 else (if nat_lt place
          (if b then released (swept_others small 2 (survivors m g keeps)) objects else small).start0 then 1
          else 0)) else 2) ≡ generation small place
      go true = refl
      go false = refl
