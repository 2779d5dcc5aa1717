-- How much the ephemeral segment reserves, over changes of segments and collections.
use Rattle.std.proofs.Common.{◌≡◌, ℕ, List, [], ◌∷◌, ◌++◌, filter, inl, inr, map, refl, sym, ap, ◌∙◌}
use Rattle.std.proofs.Common.{Bool, true, false, ◌&&◌, ◌||◌, ◌==◌, if◌then◌else◌}
use Rattle.std.specs.List.{list_any}
use Rattle.std.proofs.lemmas.Bool.{both_ways, cases_Bool}
use Rattle.clr_types.specs.Rising.{changed_by}
use Rattle.clr_types.specs.Segments.{Layout, ended_at, is_large_or_pinned, is_small_or_ephemeral, same_kind}
use Rattle.clr_types.specs.Segments.{sealed_kind, sealed_segment, segment_or_empty, segments_of, stands_in}
use Rattle.clr_types.specs.declared.segment.SegInfo.{SegInfo}
use Rattle.clr_types.specs.declared.segment.SegKind.{SegKind}
use Rattle.clr_types.specs.declared.segment.SegKind.TheVariants.{Small, Ephemeral, Large, Pinned}
use Rattle.clr_model.specs.declared.How.{How}
use Rattle.clr_model.specs.declared.How.TheVariants.{Compact, Decide, Fit, Sweep}
use Rattle.clr_model.specs.declared.Collected.{Collected}
use Rattle.clr_model.specs.Machine.{Machine, Marking, Object}
use Rattle.clr_model.specs.Reach.{StartOf, StartOfBackground}
use Rattle.clr_model.specs.Sweep.{has_condemned_part, segments_after, swept_end, swept_others, Survivor}
use Rattle.clr_model.specs.Compaction.{compacted_end, Move}
use Rattle.clr_model.specs.Slide.{slid_end}
use Rattle.clr_model.specs.Collection.{base_of_first, begun, compacts, decides_to_compact, is_retained, released}
use Rattle.clr_model.specs.Collection.{Collects, EndsBackground, IsCollected, IsSmallLaid, IsSmallLaidBy, SlidesIf}

-- ---- lists of segments

-- what the first ephemeral segment of a list reserves
abbrev pub ephemeral_length : List SegInfo → ℕ
ephemeral_length ss = (segment_or_empty (filter (λ (s : SegInfo). same_kind Ephemeral s.kind) ss)).reserved

-- this length is the front's where the front is ephemeral, and else that of the rest
at_front : (s : SegInfo) (ss : List SegInfo)
    → ephemeral_length (s ∷ ss) ≡ (if same_kind Ephemeral s.kind then s.reserved else ephemeral_length ss)
at_front s ss = go (same_kind Ephemeral s.kind)
  where
    others : List SegInfo
    others = filter (λ (s : SegInfo). same_kind Ephemeral s.kind) ss

    go : (b : Bool) → (segment_or_empty (if b then s ∷ others else others)).reserved
        ≡ (if b then s.reserved else (segment_or_empty others).reserved)
    go true = refl
    go false = refl

-- a front of another kind doesn't change the length
passed_over : (s : SegInfo) (ss : List SegInfo) → same_kind Ephemeral s.kind ≡ false
    → ephemeral_length (s ∷ ss) ≡ ephemeral_length ss
passed_over s ss other = at_front s ss ∙ ap (λ (b : Bool). if b then s.reserved else ephemeral_length ss) other

-- lists have one length whose fronts have one kind and reservation, and whose rests have one length
replaced : (s t : SegInfo) (ss ts : List SegInfo) → t.kind ≡ s.kind → t.reserved ≡ s.reserved
    → ephemeral_length ts ≡ ephemeral_length ss → ephemeral_length (t ∷ ts) ≡ ephemeral_length (s ∷ ss)
replaced s t ss ts kind reserved rest =
    at_front t ts
    ∙ ap (λ k. if same_kind Ephemeral k then t.reserved else ephemeral_length ts) kind
    ∙ ap (λ n. if same_kind Ephemeral s.kind then n else ephemeral_length ts) reserved
    ∙ ap (λ n. if same_kind Ephemeral s.kind then s.reserved else n) rest
    ∙ sym (at_front s ss)

-- the length stays where one segment ends elsewhere
pub length_ended : (base end : ℕ) (ss : List SegInfo)
    → ephemeral_length (changed_by (λ (s : SegInfo). s.base) base (ended_at end) ss) ≡ ephemeral_length ss
length_ended base end [] = refl
length_ended base end (s ∷ ss) = go (s.base == base) (length_ended base end ss)
  where
    more : List SegInfo
    more = changed_by (λ (s : SegInfo). s.base) base (ended_at end) ss

    go : (b : Bool) → ephemeral_length more ≡ ephemeral_length ss
        → ephemeral_length ((if b then ended_at end s else s) ∷ more) ≡ ephemeral_length (s ∷ ss)
    go true rest = replaced s (ended_at end s) ss more refl refl rest
    go false rest = replaced s s ss more refl refl rest

-- the length stays where segments of some kinds end elsewhere
length_after : (kinds : SegKind → Bool) (g : ℕ) (end_after : SegInfo → ℕ) (ss : List SegInfo)
    → ephemeral_length (segments_after kinds g end_after ss) ≡ ephemeral_length ss
length_after kinds g end_after [] = refl
length_after kinds g end_after (s ∷ ss) =
    go (kinds s.kind && has_condemned_part g s) (length_after kinds g end_after ss)
  where
    more : List SegInfo
    more = segments_after kinds g end_after ss

    go : (b : Bool) → ephemeral_length more ≡ ephemeral_length ss
        → ephemeral_length ((if b then record s { end = end_after s } else s) ∷ more) ≡ ephemeral_length (s ∷ ss)
    go true rest = replaced s (record s { end = end_after s }) ss more refl refl rest
    go false rest = replaced s s ss more refl refl rest

-- the length stays where a segment of another kind is added
pub length_more : (s : SegInfo) → same_kind Ephemeral s.kind ≡ false → (ss : List SegInfo)
    → ephemeral_length (ss ++ (s ∷ [])) ≡ ephemeral_length ss
length_more s other [] = passed_over s [] other
length_more s other (t ∷ ss) = replaced t t ss (ss ++ (s ∷ [])) refl refl (length_more s other ss)

-- the length is the new one's where the ephemeral segment becomes small, and a new one stands behind all
pub length_sealed : (s : SegInfo) → same_kind Ephemeral s.kind ≡ true → (ss : List SegInfo)
    → ephemeral_length (map sealed_segment ss ++ (s ∷ [])) ≡ s.reserved
length_sealed s is [] = at_front s [] ∙ ap (λ (b : Bool). if b then s.reserved else ephemeral_length []) is
length_sealed s is (t ∷ ss) =
    passed_over (sealed_segment t) (map sealed_segment ss ++ (s ∷ [])) (none_left t.kind) ∙ length_sealed s is ss
  where
    none_left : (kind : SegKind) → same_kind Ephemeral (sealed_kind kind) ≡ false
    none_left Small = refl
    none_left Ephemeral = refl
    none_left Large = refl
    none_left Pinned = refl

-- the length stays where segments are gone, but no ephemeral one
length_fewer : (stays : SegInfo → Bool) → ((s : SegInfo) → same_kind Ephemeral s.kind ≡ true → stays s ≡ true)
    → (ss : List SegInfo) → ephemeral_length (filter stays ss) ≡ ephemeral_length ss
length_fewer stays all [] = refl
length_fewer stays all (s ∷ ss) = go (stays s) refl (length_fewer stays all ss)
  where
    go : (b : Bool) → stays s ≡ b → ephemeral_length (filter stays ss) ≡ ephemeral_length ss
        → ephemeral_length (if b then s ∷ filter stays ss else filter stays ss) ≡ ephemeral_length (s ∷ ss)
    go true e rest = replaced s s ss (filter stays ss) refl refl rest
    go false e rest = elim (cases_Bool (same_kind Ephemeral s.kind)) [
      | inl is ↦ absurd (both_ways (stays s) e (all s is))
      | inr other ↦ rest ∙ sym (passed_over s ss other)
    ]

-- ---- collections

-- the length stays where the small heap is compacted or swept
length_small : (compacting : Bool) (layout : Layout) (g : ℕ) (kept : List Survivor) (moves : List Move) (small : Layout)
    → IsSmallLaid compacting layout g kept moves small
    → ephemeral_length small.segments ≡ ephemeral_length layout.segments
length_small true layout g kept moves small c =
    ap ephemeral_length c.ends
    ∙ length_after is_small_or_ephemeral g (compacted_end small.start0 c.plugs moves) layout.segments
length_small false layout g kept moves small (none, same) =
    ap (λ (l : Layout). ephemeral_length l.segments) same
    ∙ length_after is_small_or_ephemeral g (swept_end layout g kept) layout.segments

-- the length stays where the small heap is compacted, swept or fitted
length_small_by : (how : How) (compacting : Bool) (layout : Layout) (g : ℕ) (kept : List Survivor) (moves : List Move)
    (small : Layout) → IsSmallLaidBy how compacting layout g kept moves small
    → ephemeral_length small.segments ≡ ephemeral_length layout.segments
length_small_by Decide = length_small
length_small_by Compact = length_small
length_small_by Sweep = length_small
length_small_by Fit = λ compacting layout g kept moves small c.
    ap ephemeral_length c.compacted.ends
    ∙ length_after is_small_or_ephemeral 1 (compacted_end small.start0 c.compacted.plugs c.others) layout.segments

-- the length stays where large and pinned segments are swept
length_others : (b : Bool) (kept : List Survivor) (small : Layout)
    → ephemeral_length (if b then swept_others small 2 kept else small).segments ≡ ephemeral_length small.segments
length_others true kept small = length_after is_large_or_pinned 2 (swept_end small 2 kept) small.segments
length_others false kept small = refl

-- the length stays in a collection before the large heap slides
length_collected : (m : Machine) (g : ℕ) (how : How) (last_pause : Bool) (start : ℕ → Type 0) (answer : Collected)
    (new : Machine) → IsCollected m g how last_pause start answer new
    → ephemeral_length new.layout.segments ≡ ephemeral_length m.layout.segments
length_collected m g how last_pause start answer new d =
    ap (λ (w : Machine). ephemeral_length w.layout.segments) d.state
    ∙ ap (λ (l : Layout). ephemeral_length l.segments) d.large_laid
    ∙ length_others (g == 2) d.survive d.small
    ∙ length_small_by how (compacts how (decides_to_compact m g d.survive)) m.layout g d.survive d.moves d.small
    d.small_laid

-- the length stays where the large heap slides
length_slid : (slides : Bool) (m new : Machine) → SlidesIf slides m new
    → ephemeral_length new.layout.segments ≡ ephemeral_length m.layout.segments
length_slid true m new (moves, s) =
    ap (λ (w : Machine). ephemeral_length w.layout.segments) s.state
    ∙ ap (λ (l : Layout). ephemeral_length l.segments) s.slid.laid
    ∙ length_after (same_kind Large) 2 (slid_end moves) m.layout.segments
length_slid false m new same = ap (λ (w : Machine). ephemeral_length w.layout.segments) same

-- the length stays where segments are released
length_released : (b : Bool) (layout : Layout) (objects : List Object)
    → ephemeral_length (if b then released layout objects else layout).segments ≡ ephemeral_length layout.segments
length_released true layout objects = length_fewer (is_retained layout objects) stays layout.segments
  where
    stays : (s : SegInfo) → same_kind Ephemeral s.kind ≡ true → is_retained layout objects s ≡ true
    stays s is = go (list_any (λ (o : Object). stands_in s o.place) objects)
      where
        go : (b : Bool)
            → (b || (same_kind Ephemeral s.kind || (s.base == base_of_first (segments_of Large layout)))) ≡ true
        go true = refl
        go false = ap (λ b. b || (s.base == base_of_first (segments_of Large layout))) is
length_released false layout objects = refl

-- the length stays over a whole collection
pub collection_length : (m : Machine) (g : ℕ) (how : How) (answer : Collected) (new : Machine)
    → Collects m g how answer new → ephemeral_length new.layout.segments ≡ ephemeral_length m.layout.segments
collection_length m g how answer new c =
    ap (λ (w : Machine). ephemeral_length w.layout.segments) c.ends
    ∙ length_released (g == 2) c.slid.layout c.slid.objects
    ∙ length_slid (m.compacts_large && (g == 2)) c.collected c.slid c.slides
    ∙ length_collected (begun m) g how false (StartOf (begun m) g) answer c.collected c.collects

-- the length stays over the last pause of a background collection
pub last_pause_length : (m : Machine) (marking : Marking) (answer : Collected) (new : Machine)
    → EndsBackground m marking answer new
    → ephemeral_length new.layout.segments ≡ ephemeral_length m.layout.segments
last_pause_length m marking answer new c =
    ap (λ (w : Machine). ephemeral_length w.layout.segments) c.ends
    ∙ length_released true c.collected.layout c.collected.objects
    ∙ length_collected (begun m) 2 Sweep true (StartOfBackground (begun m) marking) answer c.collected c.collects
