-- What stands in a pinned segment keeps its place in every collection.
use Rattle.std.proofs.Common.{◌≡◌, ◌⊎◌, inl, inr, ℕ, ◌≤◌, ◌&&◌, ◌==◌, Bool, true, false, if◌then◌else◌, List, [], ◌∷◌}
use Rattle.std.proofs.Common.{ap, arith, not, refl, sym, ◌∙◌, subst}
use Rattle.std.specs.List.{list_any}
use Rattle.std.proofs.lemmas.Bool.{and_parts, eqb-true, false≢true}
use Rattle.clr_types.specs.Rising.{first, IsIn, later}
use Rattle.clr_types.specs.LawfulLayout.{IsLawfulLayout}
use Rattle.clr_types.specs.Segments.{is_large_or_pinned, is_small_or_ephemeral, Layout, same_kind, segments_of}
use Rattle.clr_types.specs.Segments.{stands_in}
use Rattle.clr_types.specs.declared.segment.SegInfo.{SegInfo}
use Rattle.clr_types.specs.declared.segment.SegKind.{SegKind}
use Rattle.clr_types.specs.declared.segment.SegKind.TheVariants.{Large, Pinned}
use Rattle.clr_types.proofs.ChangedLists.{IsIn-map, out_of_filter}
use Rattle.clr_types.proofs.ListMembers.{any-in}
use Rattle.clr_types.proofs.RisingLists.{in_cons}
use Rattle.clr_types.proofs.SegmentFacts.{one_base, one_home}
use Rattle.clr_model.specs.declared.Collected.{Collected}
use Rattle.clr_model.specs.declared.How.{How}
use Rattle.clr_model.specs.declared.How.TheVariants.{Sweep}
use Rattle.clr_model.specs.Allocation.{stands_in_kind}
use Rattle.clr_model.specs.Collection as collection
use Rattle.clr_model.specs.Collection.{ended, is_fit, IsCollected, IsSmallLaid}
use Rattle.clr_model.specs.Compaction.{IsCompacted, Move, moved_by}
use Rattle.clr_model.specs.Lawful.{IsLaid, IsLawful}
use Rattle.clr_model.specs.Laws.{HasPlace}
use Rattle.clr_model.specs.Reach.{StartOf, StartOfBackground}
use Rattle.clr_model.specs.Slide.{SlidesLarge}
use Rattle.clr_model.specs.Machine.{Machine, Object}
use Rattle.clr_model.specs.Sweep.{base_at, has_condemned_part, segments_after, Survivor, survivor, survivors, swept_end}
use Rattle.clr_model.proofs.CollectedObjects.{begun, begun_laid, compacting, moved_object, small_is}
use Rattle.clr_model.proofs.CollectedPieces.{IsSmallPhase, small_phase}
use Rattle.clr_model.proofs.MidLaid.{mid_laid, whole_plain}
use Rattle.clr_model.proofs.MovedPlaces.{covered, moved-is}
use Rattle.clr_model.proofs.PlainCollections.{IsPlainlyCollected, plain_from, PlainlyCollects, usual_least, usual_plain}
use Rattle.clr_model.proofs.SlidLaid.{other_still}
use Rattle.clr_model.proofs.SlidLaws.{either}
use Rattle.clr_model.proofs.SlidPlaces.{was_object, WasObject}
use Rattle.clr_model.specs.PinnedFollows.{BackgroundPinnedHeapLaw, PinnedHeapStaysLaw}
use Rattle.clr_model.proofs.KindBirth.{kind-is}

-- where a place stands in a segment, that base is found
found_base : (layout : Layout) → IsLawfulLayout layout → (ss : List SegInfo)
    → ((t : SegInfo) → IsIn t ss → IsIn t layout.segments) → (s : SegInfo) (place : ℕ) → IsIn s layout.segments
    → IsIn s ss → stands_in s place ≡ true → base_at ss place ≡ s.base
found_base layout lawful [] among s place known i in_s = elim i [ ]
found_base layout lawful (t ∷ ts) among s place known i in_s =
    go (stands_in t place) refl (in_cons i)
    (λ j. found_base layout lawful ts (λ u l. among u (later l)) s place known j in_s)
  where
    go : (b : Bool) → stands_in t place ≡ b → (s ≡ t) ⊎ IsIn s ts → (IsIn s ts → base_at ts place ≡ s.base)
        → (if b then t.base else base_at ts place) ≡ s.base
    go true e at more = ap (λ (u : SegInfo). u.base) (one_home layout lawful t s place (among t first) known e in_s)
    go false e (inl same) more =
        absurd (false≢true (sym e ∙ subst (λ (u : SegInfo). stands_in u place ≡ true) same in_s))
    go false e (inr j) more = more j

module _ (m : Machine) (h : IsLaid m) (g : ℕ) (least : g ≤ 2) (keeps : ℕ → Bool) (moves : List Move) (new : Layout)
    (c : IsCompacted m.layout g (survivors m g keeps) moves new) where
  -- no move covers an object beside the small heap
  pub old-uncovered : (o : Object) → IsIn o m.objects → (s : SegInfo) → IsIn s m.layout.segments
      → is_small_or_ephemeral s.kind ≡ false → stands_in s o.place ≡ true → moved_by moves o.place ≡ o.place
  old-uncovered o i s among old in_s = elim (moved-is moves o.place) [
    | inl (v, x, p, f) ↦
        let k = covered m h g least keeps moves new c o i v x p in
        let (survives, kept) = out_of_filter (λ (k : Survivor). list_any
        (λ (t : SegInfo). is_small_or_ephemeral t.kind && (t.base == k.segment)) m.layout.segments) (survivor m o)
        (survivors m g keeps) k.survives in
        let (t, j, passes) = any-in
        (λ (t : SegInfo). is_small_or_ephemeral t.kind && (t.base == (survivor m o).segment)) m.layout.segments
        survives in
        let (small, base) = and_parts (is_small_or_ephemeral t.kind) (t.base == (survivor m o).segment) passes in
        let at : (survivor m o).segment ≡ s.base =
        found_base m.layout h.layout m.layout.segments (λ u l. l) s o.place among among in_s in
        let same = one_base m.layout h.layout t s j among (eqb-true t.base (survivor m o).segment base ∙ at) in
        absurd (false≢true (sym old ∙ ap (λ (u : SegInfo). is_small_or_ephemeral u.kind) (sym same) ∙ small))
    | inr (none, f) ↦ f
  ]

-- so it is, whether the small heap is compacted or swept
laid_stays : (m : Machine) (h : IsLaid m) (g : ℕ) → g ≤ 2 → (keeps : ℕ → Bool) (moves : List Move) (new : Layout)
    (o : Object) → IsIn o m.objects → (s : SegInfo) → IsIn s m.layout.segments → is_small_or_ephemeral s.kind ≡ false
    → stands_in s o.place ≡ true → (compacts : Bool)
    → IsSmallLaid compacts m.layout g (survivors m g keeps) moves new → moved_by moves o.place ≡ o.place
laid_stays m h g least keeps moves new o i s among old in_s true c =
    old-uncovered m h g least keeps moves new c o i s among old in_s
laid_stays m h g least keeps moves new o i s among old in_s false c = ap (λ vs. moved_by vs o.place) c.0

-- ---- a whole collection without a slide

pub plain_pinned_heap : (m : Machine) (g : ℕ) (how : How) (answer : Collected) (new : Machine) {last_pause : Bool}
    {source : ℕ → Type 0} → IsLawful m → g ≤ 2
    → IsPlainlyCollected (collection.begun m) g how last_pause source answer new → (name before after : ℕ)
    → stands_in_kind Pinned m.layout before ≡ true
    → HasPlace m name before → HasPlace new name after → after ≡ before
plain_pinned_heap m g how answer new h least c name was is_now there (old, named_old, at_old) (o, named, at) =
    let is = moved_object m h g least how answer new c name old o named_old named in
    let (s, i, in_s) = any-in (λ (s : SegInfo). stands_in s was) (segments_of Pinned m.layout) there in
    let (of_kind, among) = out_of_filter (λ (u : SegInfo). same_kind Pinned u.kind) s m.layout.segments i in
    let beside : is_small_or_ephemeral s.kind ≡ false =
    ap is_small_or_ephemeral (kind-is Pinned s.kind of_kind) in
    let at_home : stands_in s old.place ≡ true = subst (λ (p : ℕ). stands_in s p ≡ true) (sym at_old) in_s in
    let b = begun m h g least how answer new c in
    let go : (compacts : Bool) → IsSmallLaid compacts b.layout g (survivors b g c.kept) c.moves c.small
    → moved_by c.moves old.place ≡ old.place =
    λ compacts laid. laid_stays b
    (begun_laid m h g least how answer new c) g least c.kept c.moves c.small old is.present
    s among beside at_home compacts laid in
    sym at ∙ is.place ∙ go (compacting m h g least how answer new c) (small_is m h g least how answer new c) ∙ at_old

-- ---- a slide

-- a segment is there still, with another end
home_after : (kinds : SegKind → Bool) (g : ℕ) (end : SegInfo → ℕ) (ss us : List SegInfo)
    → us ≡ segments_after kinds g end ss → (s : SegInfo) → IsIn s ss → (x : ℕ) → stands_in s x ≡ true
    → (t : SegInfo) × IsIn t us × (t.kind ≡ s.kind) × (stands_in t x ≡ true)
home_after kinds g end ss us same s i x in_s = (
  change s,
  subst (IsIn (change s)) (sym same) (IsIn-map change i),
  kind (kinds s.kind && has_condemned_part g s),
  stands (kinds s.kind && has_condemned_part g s),
)
  where
    change : SegInfo → SegInfo
    change s = if kinds s.kind && has_condemned_part g s then record s { end = end s } else s

    kind : (b : Bool) → (let t : SegInfo = if b then record s { end = end s } else s in t.kind) ≡ s.kind
    kind true = refl
    kind false = refl

    stands : (b : Bool) → (let t : SegInfo = if b then record s { end = end s } else s in stands_in t x) ≡ true
    stands true = in_s
    stands false = in_s

module _ (m : Machine) (h : IsLawful m) (how : How) (plain : is_fit how ≡ false) (answer : Collected)
    (mid slid new : Machine)
    (d : IsCollected (collection.begun m) 2 how false (StartOf (collection.begun m) 2) answer mid)
    (moves : List Move) (s : SlidesLarge mid moves slid) (flag : Bool)
    (ends : new ≡ record (ended 2 slid) { compacts_large = flag })
  where
    full : 2 ≤ 2
    full = omega arith

    abbrev c : PlainlyCollects m 2 how answer (ended 2 mid)
    c = whole_plain m h how plain answer mid d

    phase : IsSmallPhase (collection.begun m) 2 c.kept c.moves c.small
    phase = small_phase (collection.begun m) (begun_laid m h 2 full how answer (ended 2 mid) c) 2 full c.kept c.moves
        c.small (compacting m h 2 full how answer (ended 2 mid) c) (small_is m h 2 full how answer (ended 2 mid) c)

    -- where a place stands in a pinned segment before, it does before the slide
    mid_home : (x : ℕ) → stands_in_kind Pinned m.layout x ≡ true
        → (t : SegInfo) × IsIn t mid.layout.segments × (t.kind ≡ Pinned) × (stands_in t x ≡ true)
    mid_home x there =
        let (u, i, in_u) = any-in (λ (s : SegInfo). stands_in s x) (segments_of Pinned m.layout) there in
        let (of_kind, among) = out_of_filter (λ (w : SegInfo). same_kind Pinned w.kind) u m.layout.segments i in
        let (v, j, kind_v, in_v) = home_after is_small_or_ephemeral 2 phase.end m.layout.segments c.small.segments
        phase.segments u among x in_u in
        let (t, k, kind_t, in_t) = home_after is_large_or_pinned 2 (swept_end c.small 2 c.survive) c.small.segments
        mid.layout.segments (ap (λ (w : Machine). w.layout.segments) d.state
        ∙ ap (λ (l : Layout). l.segments) d.large_laid) v j x in_v in
        (t, k, kind_t ∙ kind_v ∙ kind-is Pinned u.kind of_kind, in_t)

    pub slid_pinned_heap : (name before after : ℕ) → stands_in_kind Pinned m.layout before ≡ true
        → HasPlace m name before → HasPlace new name after → after ≡ before
    slid_pinned_heap name before after there at_first at_last =
        let (o, found, at) : HasPlace slid name after = subst (λ (w : Machine). HasPlace w name after) ends at_last in
        let laid = mid_laid m h how plain answer mid d in
        let w : WasObject mid laid moves slid s name o = was_object mid laid moves slid s name o found in
        let was : w.old.place ≡ before =
        plain_pinned_heap m 2 how answer (ended 2 mid) h full c name before w.old.place there at_first
        (w.old, w.found, refl)
        in
        let (t, k, kind, in_t) = mid_home before there in
        let stays : moved_by moves w.old.place ≡ w.old.place =
        other_still mid laid moves s.layout s.slid t k (ap (same_kind Large) kind) w.old w.present
        (inl (subst (λ (p : ℕ). stands_in t p ≡ true) (sym was) in_t)) in
        sym at ∙ ap (λ (q : Object). q.place) w.is ∙ stays ∙ was

-- ---- each collection

pub pinned_heap_stays : PinnedHeapStaysLaw
pinned_heap_stays m g how answer new h usual c name before after there at_first at_last =
    either m g how answer new h usual c (λ n. after ≡ before)
    (λ p. plain_pinned_heap m g how answer new h (usual_least g how usual) p name before after there at_first at_last)
    (λ d moves s ends. slid_pinned_heap m h how (usual_plain g how usual) answer c.collected c.slid new d moves s
    (m.compacts_large && not (2 == 2)) ends name before after there at_first at_last)

-- and the last pause of a background collection
pub pinned_heap_stays_behind : BackgroundPinnedHeapLaw
pinned_heap_stays_behind m marking answer new h e name before after there at_first at_last =
    plain_pinned_heap m 2 Sweep answer new h (omega arith)
    (plain_from (collection.begun m) 2 Sweep true (StartOfBackground (collection.begun m) marking) answer refl
    e.collected new e.collects e.ends) name before after there at_first at_last
