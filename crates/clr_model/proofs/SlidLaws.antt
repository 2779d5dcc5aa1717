-- The laws on a whole collection, whether or not the large heap is slid.
use Rattle.clr_model.proofs.YoungTiles.{young_tiles}
use Rattle.clr_model.proofs.FitLawful.{fit_layout, fit_none_rises, fit_pinned_stay, fit_tiles, fit_promotion}
use Rattle.clr_model.proofs.FitLawful.{fit_free_before_pins}
use Rattle.clr_model.specs.declared.How.TheVariants.{Compact, Decide, Fit, Sweep}
use Rattle.clr_model.proofs.Landings.{pinned_still}
use Rattle.clr_model.proofs.OrderKept.{plain_order}
use Rattle.clr_model.proofs.CollectedObjects.{moved_object}
use Rattle.clr_model.specs.Sweep.{has_condemned_part, is_in_part, part_start}
use Rattle.clr_types.proofs.ChangedLists.{IsIn-map}
use Rattle.clr_types.specs.Ranges.{Piece, piece_end}
use Rattle.clr_types.specs.Rising.{IsIn}
use Rattle.std.proofs.Common.{◌≡◌, ℕ, ◌≤◌, List, refl, sym, ap, subst, ◌∙◌, arith, Bool, true, false, ◌&&◌, ◌==◌, not}
use Rattle.std.proofs.Common.{◌<◌, inl, inr, nat_le}
use Rattle.std.proofs.Common.{if◌then◌else◌, nat_lt}
use Rattle.std.proofs.lemmas.Bool.{and_parts, eqb-true}
use Rattle.std.specs.FinMap as finmap
use Rattle.std.specs.List.{list_any}
use Rattle.clr_types.specs.Kinds.{is_pinned_kind}
use Rattle.clr_types.specs.Maps.{map_values}
use Rattle.clr_types.specs.declared.handle.Handle.{Handle}
use Rattle.clr_types.specs.declared.handle.Kind.{Kind}
use Rattle.clr_types.specs.declared.handle.Kind.TheVariants.{Strong, Pinned, Weak, WeakLong, Dependent}
use Rattle.clr_types.proofs.ListMembers.{any-map, any-in}
use Rattle.clr_types.proofs.MapValues.{values-map_values}
use Rattle.clr_types.specs.declared.segment.SegInfo.{SegInfo}
use Rattle.clr_types.specs.Segments.{generation, Layout, stands_in, is_small_or_ephemeral}
use Rattle.clr_types.specs.LawfulLayout.{IsLawfulLayout}
use Rattle.clr_model.specs.declared.How.{How}
use Rattle.clr_model.specs.declared.Collected.{Collected}
use Rattle.clr_model.specs.Machine.{Machine, Object}
use Rattle.clr_model.specs.Lookups.{is_pinned}
use Rattle.clr_model.specs.Reach.{StartOf}
use Rattle.clr_model.specs.Compaction.{Move, moved_by}
use Rattle.clr_model.specs.Collection.{begun, Collects, ended, is_fit, IsCollected, released, SlidesIf}
use Rattle.clr_model.specs.Collection.{is_in_small_heap}
use Rattle.clr_model.specs.Collection.{kept_or_null, row_after, row_of_kind}
use Rattle.clr_model.specs.Slide.{slid_object, SlidesLarge}
use Rattle.clr_model.specs.Lawful.{IsLaid, IsLawful}
use Rattle.clr_model.specs.Laws.{CollectionLayoutLaw, HasGeneration, HasPlace, IsPromoted, IsSlidTo, IsPlain, OrderLaw}
use Rattle.clr_model.specs.Laws.{FreeBeforePinsLaw, YoungTilesLaw}
use Rattle.clr_model.specs.Laws.{NoneRisesLaw, PinnedStayLaw, PromotionLaw}
use Rattle.clr_model.proofs.CollectedLaws.{layout_lawful, plain_none_rises, plain_pinned_stay, plain_promotion}
use Rattle.clr_model.proofs.CollectedLaws.{plain_free_before_pins}
use Rattle.clr_model.proofs.CollectedLayout.{small-not_large, released_ephemeral, released_lawful}
use Rattle.clr_model.proofs.MidLaid.{mid_laid, whole_plain, stays_small, still_small}
use Rattle.clr_model.proofs.PlainCollections.{PlainlyCollects, plainly, usual_least, usual_plain}
use Rattle.clr_model.proofs.SlidLaid.{layout_slid, landings, other_free}
use Rattle.clr_model.proofs.SlidPlaces.{slid_age, slid_to, was_object, WasObject}

-- generations are as before segments are released
released-age : (layout : Layout) → IsLawfulLayout layout → (objects : List Object) (place : ℕ)
    → generation (released layout objects) place ≡ generation layout place
released-age layout h objects place =
    ap (λ (s : SegInfo). if stands_in s place
    then (if nat_lt place layout.start1 then 2 else (if nat_lt place layout.start0 then 1 else 0)) else 2)
    (released_ephemeral layout h objects)

-- ---- a collection leaves pinned handles

not-pinned : (a b c : Bool) → a ≡ false → (a && b) ≡ (a && c)
not-pinned a b c e = ap (λ x. x && b) e ∙ sym (ap (λ x. x && c) e)

pinned-row : (first kept : ℕ → Bool) (name : ℕ) (row : Handle)
    → (is_pinned_kind (row_after first kept row).kind && ((row_after first kept row).target == name))
    ≡ (is_pinned_kind row.kind && (row.target == name))
pinned-row first kept name row = go row.kind refl
  where
    go : (k : Kind) → row.kind ≡ k
        → (is_pinned_kind (row_of_kind first kept k row).kind && ((row_of_kind first kept k row).target == name))
        ≡ (is_pinned_kind row.kind && (row.target == name))
    go Strong e = refl
    go Pinned e = refl
    go Weak e = not-pinned (is_pinned_kind row.kind) (kept_or_null first row.target == name) (row.target == name)
        (ap is_pinned_kind e)
    go WeakLong e = not-pinned (is_pinned_kind row.kind) (kept_or_null kept row.target == name) (row.target == name)
        (ap is_pinned_kind e)
    go Dependent e = by (kept row.target)
      where
        by : (b : Bool)
            → (is_pinned_kind (if b then row else record row { target = 0; second = 0 }).kind
            && ((if b then row else record row { target = 0; second = 0 }).target == name))
            ≡ (is_pinned_kind row.kind && (row.target == name))
        by true = refl
        by false = not-pinned (is_pinned_kind row.kind) (0 == name) (row.target == name) (ap is_pinned_kind e)

pinned-still : (m : Machine) (first kept : ℕ → Bool) (name : ℕ)
    → list_any (λ row. is_pinned_kind row.kind && (row.target == name))
    (finmap.values (map_values (row_after first kept) m.handles)) ≡ is_pinned m name
pinned-still m first kept name =
    ap (list_any (λ (row : Handle). is_pinned_kind row.kind && (row.target == name)))
    (values-map_values (row_after first kept) m.handles)
    ∙ any-map (row_after first kept) (λ (row : Handle). is_pinned_kind row.kind && (row.target == name))
    (finmap.values m.handles)
    ∙ (λ i. list_any (λ row. pinned-row first kept name row i) (finmap.values m.handles))

-- ---- where a slide follows

module _ (m : Machine) (h : IsLawful m) (how : How) (plain : is_fit how ≡ false) (answer : Collected)
    (mid slid new : Machine) (d : IsCollected (begun m) 2 how false (StartOf (begun m) 2) answer mid)
    (moves : List Move) (s : SlidesLarge mid moves slid) (flag : Bool)
    (ends : new ≡ record (ended 2 slid) { compacts_large = flag })
  where
    full : 2 ≤ 2
    full = omega arith

    laid : IsLaid mid
    laid = mid_laid m h how plain answer mid d

    abbrev c : PlainlyCollects m 2 how answer (ended 2 mid)
    c = whole_plain m h how plain answer mid d

    slid-layout : IsLawfulLayout slid.layout
    slid-layout =
        subst (λ (w : Machine). IsLawfulLayout w.layout) (sym s.state) (layout_slid mid laid moves s.layout s.slid)

    pub slid_layout_lawful : IsLawfulLayout new.layout
    slid_layout_lawful =
        subst (λ (w : Machine). IsLawfulLayout w.layout) (sym ends)
        (released_lawful slid.layout slid-layout slid.objects)

    -- an object of afterwards was there before the slide
    abbrev Was : ℕ → Object → Type 0
    Was name o = WasObject mid laid moves slid s name o

    was : (name : ℕ) (place : ℕ) → HasPlace slid name place → (between : ℕ) × HasPlace mid name between
    was name place (o, found, at) =
        let w : Was name o = was_object mid laid moves slid s name o found in
        (w.old.place, (w.old, w.found, refl))

    was-aged : (name : ℕ) (age : ℕ) → HasGeneration slid name age → (between : ℕ) × HasGeneration mid name between
    was-aged name age (o, found, at) =
        let w : Was name o = was_object mid laid moves slid s name o found in
        (generation mid.layout w.old.place, (w.old, w.found, refl))

    pub slid_pinned_stay : (name before after : ℕ) → is_pinned m name ≡ true → HasPlace m name before
        → HasPlace new name after → after ≡ before
    slid_pinned_stay name before after pinned first last =
        let at : HasPlace slid name after = subst (λ (w : Machine). HasPlace w name after) ends last in
        let (between, middle) = was name after at in
        let is : IsSlidTo mid (is_pinned mid name) between after =
        slid_to mid laid moves slid s name between after middle at in
        is.pinned_stays (still ∙ pinned)
        ∙ plain_pinned_stay m 2 how answer (ended 2 mid) h full c name before between pinned first middle
      where
        still : is_pinned mid name ≡ is_pinned m name
        still = ap (λ (w : Machine). is_pinned w name) d.state ∙ pinned-still m d.first d.kept name

    pub slid_none_rises : (name before after : ℕ) → HasPlace m name before → HasPlace new name after → after ≤ before
    slid_none_rises name before after first last =
        let at : HasPlace slid name after = subst (λ (w : Machine). HasPlace w name after) ends last in
        let (between, middle) = was name after at in
        let is : IsSlidTo mid (is_pinned mid name) between after =
        slid_to mid laid moves slid s name between after middle at in
        let low = is.lower in
        let down = plain_none_rises m 2 how answer (ended 2 mid) h full c name before between first middle in
        omega arith

    pub slid_promotion : (name before after : ℕ) → HasGeneration m name before → HasGeneration new name after
        → IsPromoted 2 (is_pinned m name) answer.compacted before after
    slid_promotion name before after first last =
        let (o, found, age) : HasGeneration (record (ended 2 slid) { compacts_large = flag }) name after =
        subst (λ (w : Machine). HasGeneration w name after) ends last in
        let at : HasGeneration slid name after =
        (o, found, sym (released-age slid.layout slid-layout slid.objects o.place) ∙ age) in
        let (between, middle) = was-aged name after at in
        let same : after ≡ between = slid_age mid laid moves slid s name between after middle at in
        subst (IsPromoted 2 (is_pinned m name) answer.compacted before) (sym same)
        (plain_promotion m 2 how answer (ended 2 mid) h full c name before between first
        (middle.0, middle.1, released-age mid.layout laid.layout mid.objects middle.0.place ∙ middle.2))

    -- ---- the small heap

    -- an object of the small heap was there between, and the slide leaves it
    small_between : (name before between after : ℕ) → is_in_small_heap m.layout before ≡ true → HasPlace m name before
        → HasPlace mid name between → HasPlace slid name after → after ≡ between
    small_between name before between after small (a, e, at) (b, f, to) last =
        let is = moved_object m h 2 full how answer (ended 2 mid) c name a b e f in
        let there : is_in_small_heap mid.layout (moved_by d.moves a.place) ≡ true =
        stays_small m h how plain answer mid d a is.present
        (subst (λ x. is_in_small_heap m.layout x ≡ true) (sym at) small) in
        (slid_to mid laid moves slid s name between after (b, f, to) last).small_stays
        (subst (λ x. is_in_small_heap mid.layout x ≡ true) (sym is.place ∙ to) there)

    pub slid_order : (one other low high low_after high_after : ℕ) → is_pinned m one ≡ false
        → HasPlace m one low → HasPlace m other high → is_in_small_heap m.layout low ≡ true
        → is_in_small_heap m.layout high ≡ true → low < high
        → HasPlace new one low_after → HasPlace new other high_after → low_after < high_after
    slid_order one other low high low_after high_after free was_low was_high small small_too up is_low is_high =
        let at_low : HasPlace slid one low_after = subst (λ (w : Machine). HasPlace w one low_after) ends is_low in
        let at_high : HasPlace slid other high_after = subst (λ (w : Machine). HasPlace w other high_after) ends is_high
        in
        let (p, mid_low) = was one low_after at_low in
        let (q, mid_high) = was other high_after at_high in
        let a : low_after ≡ p = small_between one low p low_after small was_low mid_low at_low in
        let b : high_after ≡ q = small_between other high q high_after small_too was_high mid_high at_high in
        let l = plain_order m 2 how answer (ended 2 mid) h full c one other low high p q free was_low was_high small up
        mid_low mid_high in
        omega arith

    pub slid_free_before : answer.compacted ≡ true → (p : Piece) → IsIn p new.layout.free
        → is_in_part is_small_or_ephemeral m.layout 2 p ≡ true
        → (o : Object) × IsIn o new.objects × (o.place ≡ piece_end p) × (is_pinned m o.name ≡ true)
    slid_free_before compacted p i part =
        let (u, known, t) = any-in (λ u. is_small_or_ephemeral u.kind &&
        (has_condemned_part 2 u && (stands_in u p.place && nat_le (part_start m.layout 2 u) p.place)))
        m.layout.segments part in
        let (kind, rest) = and_parts (is_small_or_ephemeral u.kind)
        (has_condemned_part 2 u && (stands_in u p.place && nat_le (part_start m.layout 2 u) p.place)) t in
        let (condemned, at) = and_parts (has_condemned_part 2 u)
        (stands_in u p.place && nat_le (part_start m.layout 2 u) p.place) rest in
        let (stands, above) = and_parts (stands_in u p.place) (nat_le (part_start m.layout 2 u) p.place) at in
        let (e, among) = still_small m h how plain answer mid d u known kind in
        let was_free : IsIn p mid.layout.free =
        other_free mid laid moves s.layout s.slid (record u { end = e }) among (small-not_large u.kind kind) p stands
        (subst (IsIn p) (ap (λ (w : Machine). w.layout.free) ends ∙ ap (λ (w : Machine). w.layout.free) s.state
        ∙ ap (λ (l : Layout). l.free) s.slid.laid) i) in
        let (o, j, place, pinned) =
        plain_free_before_pins m 2 how answer (ended 2 mid) h full c compacted p was_free part in
        let still : moved_by moves o.place ≡ o.place =
        pinned_still mid laid (λ name. true) _ _ moves (landings mid laid moves s.layout s.slid).going o j
        (ap (λ (w : Machine). is_pinned w o.name) d.state ∙ pinned-still m d.first d.kept o.name ∙ pinned) in (
          slid_object moves o,
          subst (λ (w : Machine). IsIn (slid_object moves o) w.objects) (sym ends)
              (subst (λ (w : Machine). IsIn (slid_object moves o) w.objects) (sym s.state)
              (IsIn-map (slid_object moves) j)),
          still ∙ place,
          pinned,
        )

-- ---- the laws

module _ (m : Machine) (g : ℕ) (how : How) (answer : Collected) (new : Machine) (h : IsLawful m) (usual : IsPlain g how)
    (c : Collects m g how answer new) (P : ℕ → Type 0)
    (unslid : PlainlyCollects m g how answer new → P g)
    (slides : (d : IsCollected (begun m) 2 how false (StartOf (begun m) 2) answer c.collected) (moves : List Move)
    → SlidesLarge c.collected moves c.slid
    → new ≡ record (ended 2 c.slid) { compacts_large = m.compacts_large && not (2 == 2) } → P 2)
  where
    by_flag : (b : Bool) → (m.compacts_large && (g == 2)) ≡ b → P g
    by_flag false e = unslid (plainly m g how answer new e (usual_plain g how usual) c)
    by_flag true e =
        let two : g ≡ 2 = eqb-true g 2 (and_parts m.compacts_large (g == 2) e).1 in
        let (moves, s) = subst (λ (b : Bool). SlidesIf b c.collected c.slid) e c.slides in
        subst P (sym two)
        (slides
        (subst (λ n. IsCollected (begun m) n how false (StartOf (begun m) n) answer c.collected) two c.collects) moves s
        (subst (λ n. new ≡ record (ended n c.slid) { compacts_large = m.compacts_large && not (n == 2) }) two c.ends))

    -- what holds where no slide follows and where one does
    pub either : P g
    either = by_flag (m.compacts_large && (g == 2)) refl

usual_collection_layout : (m : Machine) (g : ℕ) (how : How) (answer : Collected) (new : Machine) → IsLawful m
    → IsPlain g how
    → Collects m g how answer new → IsLawfulLayout new.layout
usual_collection_layout m g how answer new h usual c =
    either m g how answer new h usual c (λ n. IsLawfulLayout new.layout)
    (λ p. layout_lawful m h g (usual_least g how usual) how answer new p)
    (λ d moves s ends. slid_layout_lawful m h how (usual_plain g how usual) answer c.collected c.slid new d moves s
    (m.compacts_large && not (2 == 2)) ends)

usual_promotion : (m : Machine) (g : ℕ) (how : How) (answer : Collected) (new : Machine) → IsLawful m → IsPlain g how
    → Collects m g how answer new
    → (name before after : ℕ) → HasGeneration m name before → HasGeneration new name after
    → IsPromoted g (is_pinned m name) answer.compacted before after
usual_promotion m g how answer new h usual c name before after first last =
    either m g how answer new h usual c (λ n. IsPromoted n (is_pinned m name) answer.compacted before after)
    (λ p. plain_promotion m g how answer new h (usual_least g how usual) p name before after first last)
    (λ d moves s ends. slid_promotion m h how (usual_plain g how usual) answer c.collected c.slid new d moves s
    (m.compacts_large && not (2 == 2)) ends name before after first last)

usual_pinned_stay : (m : Machine) (g : ℕ) (how : How) (answer : Collected) (new : Machine) → IsLawful m → IsPlain g how
    → Collects m g how answer new
    → (name before after : ℕ) → is_pinned m name ≡ true → HasPlace m name before → HasPlace new name after
    → after ≡ before
usual_pinned_stay m g how answer new h usual c name before after pinned first last =
    either m g how answer new h usual c (λ n. after ≡ before)
    (λ p. plain_pinned_stay m g how answer new h (usual_least g how usual) p name before after pinned first last)
    (λ d moves s ends. slid_pinned_stay m h how (usual_plain g how usual) answer c.collected c.slid new d moves s
    (m.compacts_large && not (2 == 2)) ends name before after pinned first last)

usual_none_rises : (m : Machine) (g : ℕ) (how : How) (answer : Collected) (new : Machine) → IsLawful m → IsPlain g how
    → Collects m g how answer new
    → (name before after : ℕ) → HasPlace m name before → HasPlace new name after → after ≤ before
usual_none_rises m g how answer new h usual c name before after first last =
    either m g how answer new h usual c (λ n. after ≤ before)
    (λ p. plain_none_rises m g how answer new h (usual_least g how usual) p name before after first last)
    (λ d moves s ends. slid_none_rises m h how (usual_plain g how usual) answer c.collected c.slid new d moves s
    (m.compacts_large && not (2 == 2)) ends name before after first last)

pub order : OrderLaw
order m g how answer new h usual c one other low high low_after high_after free was_low was_high small too up is_low
    is_high =
    elim too [
      | inl e ↦ plain
          (plainly m g how answer new e (usual_plain g how usual) c)
      | inr small_too ↦ both small_too
    ]
  where
    plain : PlainlyCollects m g how answer new → low_after < high_after
    plain p = plain_order m g how answer new h (usual_least g how usual) p one other low high low_after high_after free
        was_low was_high small up is_low is_high

    both : is_in_small_heap m.layout high ≡ true → low_after < high_after
    both small_too =
        either m g how answer new h usual c (λ n. low_after < high_after) plain
        (λ d moves s ends. slid_order m h how (usual_plain g how usual) answer c.collected c.slid new d moves s
        (m.compacts_large && not (2 == 2)) ends one other low high low_after high_after free was_low was_high small
        small_too up is_low is_high)

usual_free_before_pins : (m : Machine) (g : ℕ) (how : How) (answer : Collected) (new : Machine) → IsLawful m
    → IsPlain g how → Collects m g how answer new → answer.compacted ≡ true
    → (p : Piece) → IsIn p new.layout.free → is_in_part is_small_or_ephemeral m.layout g p ≡ true
    → (o : Object) × IsIn o new.objects × (o.place ≡ piece_end p) × (is_pinned m o.name ≡ true)
usual_free_before_pins m g how answer new h usual c compacted p i part =
    either m g how answer new h usual c
    (λ n. is_in_part is_small_or_ephemeral m.layout n p ≡ true
    → (o : Object) × IsIn o new.objects × (o.place ≡ piece_end p) × (is_pinned m o.name ≡ true))
    (λ q t. plain_free_before_pins m g how answer new h (usual_least g how usual) q compacted p i t)
    (λ d moves s ends t. slid_free_before m h how (usual_plain g how usual) answer c.collected c.slid new d moves s
    (m.compacts_large && not (2 == 2)) ends compacted p i t) part

pub collection_layout : CollectionLayoutLaw
collection_layout m g Decide answer new h usual c = usual_collection_layout m g Decide answer new h usual c
collection_layout m g Compact answer new h usual c = usual_collection_layout m g Compact answer new h usual c
collection_layout m g Sweep answer new h usual c = usual_collection_layout m g Sweep answer new h usual c
collection_layout m g Fit answer new h usual c =
    fit_layout m h answer new (subst (λ n. Collects m n Fit answer new) usual c)

pub pinned_stay : PinnedStayLaw
pinned_stay m g Decide answer new h usual c name before after pinned first last =
    usual_pinned_stay m g Decide answer new h usual c name before after pinned first last
pinned_stay m g Compact answer new h usual c name before after pinned first last =
    usual_pinned_stay m g Compact answer new h usual c name before after pinned first last
pinned_stay m g Sweep answer new h usual c name before after pinned first last =
    usual_pinned_stay m g Sweep answer new h usual c name before after pinned first last
pinned_stay m g Fit answer new h usual c name before after pinned first last =
    fit_pinned_stay m h answer new (subst (λ n. Collects m n Fit answer new) usual c) name before after pinned first
    last

pub none_rises : NoneRisesLaw
none_rises m g Decide answer new h usual c name before after first last =
    usual_none_rises m g Decide answer new h usual c name before after first last
none_rises m g Compact answer new h usual c name before after first last =
    usual_none_rises m g Compact answer new h usual c name before after first last
none_rises m g Sweep answer new h usual c name before after first last =
    usual_none_rises m g Sweep answer new h usual c name before after first last
none_rises m g Fit answer new h usual c name before after first last =
    fit_none_rises m h answer new (subst (λ n. Collects m n Fit answer new) usual c) name before after first last

-- after a young collection, by YoungTiles, or by a fitting
pub every_young_tiles : YoungTilesLaw
every_young_tiles m g Decide answer new h young usual c = young_tiles m g Decide answer new h young usual c
every_young_tiles m g Compact answer new h young usual c = young_tiles m g Compact answer new h young usual c
every_young_tiles m g Sweep answer new h young usual c = young_tiles m g Sweep answer new h young usual c
every_young_tiles m g Fit answer new h young usual c =
    fit_tiles m h answer new (subst (λ n. Collects m n Fit answer new) usual c)

pub promotion : PromotionLaw
promotion m g Decide answer new h usual c name before after first last =
    usual_promotion m g Decide answer new h usual c name before after first last
promotion m g Compact answer new h usual c name before after first last =
    usual_promotion m g Compact answer new h usual c name before after first last
promotion m g Sweep answer new h usual c name before after first last =
    usual_promotion m g Sweep answer new h usual c name before after first last
promotion m g Fit answer new h usual c name before after first last =
    subst (λ n. IsPromoted n (is_pinned m name) answer.compacted before after) (sym usual)
    (fit_promotion m h answer new (subst (λ n. Collects m n Fit answer new) usual c) name before after first last)

pub free_before_pins : FreeBeforePinsLaw
free_before_pins m g Decide answer new h usual c compacted p i part =
    usual_free_before_pins m g Decide answer new h usual c compacted p i part
free_before_pins m g Compact answer new h usual c compacted p i part =
    usual_free_before_pins m g Compact answer new h usual c compacted p i part
free_before_pins m g Sweep answer new h usual c compacted p i part =
    usual_free_before_pins m g Sweep answer new h usual c compacted p i part
free_before_pins m g Fit answer new h usual c compacted p i part =
    fit_free_before_pins m h answer new (subst (λ n. Collects m n Fit answer new) usual c) p i
    (subst (λ n. is_in_part is_small_or_ephemeral m.layout n p ≡ true) usual part)
