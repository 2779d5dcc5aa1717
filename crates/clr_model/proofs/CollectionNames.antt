-- Names don't matter in a collection, and in two: what they do to pictures, they do to the machine.
use Rattle.std.proofs.Common.{◌≡◌, ℕ, ◌+◌, ◌≤◌, List, [], ◌∷◌, map, refl, sym, ap, subst, ◌∙◌, arith, Bool, true, false}
use Rattle.std.proofs.Common.{None}
use Rattle.std.proofs.Common.{not, ◌&&◌, ◌||◌, ◌==◌}
use Rattle.std.proofs.lemmas.Bool.{and_parts, eqb-true}
use Rattle.clr_types.specs.declared.segment.SegKind.TheVariants.{Ephemeral, Large}
use Rattle.clr_types.specs.Segments.{Layout, rest_pieces, same_kind, segments_of, stands_in}
use Rattle.clr_types.proofs.ListMembers.{any-map, filter-on}
use Rattle.clr_types.proofs.Shuffles.{shuffled-any}
use Rattle.clr_model.specs.declared.How.{How}
use Rattle.clr_model.specs.declared.How.TheVariants.{Compact, Decide, Fit, Sweep}
use Rattle.clr_model.specs.declared.Collected.{Collected}
use Rattle.clr_model.specs.Machine.{Machine, Object, ThreadStep, no_step, begun_store, begun_new}
use Rattle.clr_model.specs.Lookups.{lowest_in_step, lowest_step_from, place_of}
use Rattle.clr_model.specs.Picture.{picture, renamed_object, renamed_step}
use Rattle.clr_model.specs.Reach.{StartOf}
use Rattle.clr_model.specs.Compaction.{Move}
use Rattle.clr_model.specs.Collection.{base_of_first, begun, Collects, ended, is_fit, is_retained, IsCollected}
use Rattle.clr_model.specs.Collection.{released}
use Rattle.clr_model.specs.Collection.{SlidesIf}
use Rattle.clr_model.specs.Slide.{IsLargeSlid, slid_object, SlidesLarge}
use Rattle.clr_model.specs.Lawful.{IsLawful}
use Rattle.clr_model.specs.Laws.{IsPlain, IsUsual, TwoCollectionsNamesLaw}
use Rattle.clr_model.proofs.CollectedLawful.{mid_bare, mid_lawful, stays_lawful}
use Rattle.clr_model.proofs.CollectedNames.{objects-shuffled, survivors-seen}
use Rattle.clr_model.proofs.CollectionKeeps.{collects_keeps}
use Rattle.clr_model.proofs.CollectionLaws.{collected_apart, picture_apart, picture_laid, unslid_names}
use Rattle.clr_model.proofs.GivenUp.{given_up_laid}
use Rattle.clr_model.proofs.NamedWell.{AreNamed, lawful-named, start-comes, start-goes, start-named}
use Rattle.clr_model.proofs.FitLawful.{fit_apart, never}
use Rattle.clr_model.proofs.NamesDontMatter.{any_names, begun-named, collection_names}
use Rattle.clr_model.proofs.PlainCollections.{PlainlyCollects, plain_back, plain_from, usual_plain}
use Rattle.clr_model.proofs.SeenSound.{picture_sound}
use Rattle.clr_model.proofs.SlidLawful.{slide_stays_lawful}
use Rattle.clr_model.proofs.SlidNames.{slide_names}

lowest-renamed : (to : ℕ → ℕ) (t : ℕ) (steps : List ThreadStep)
    → lowest_step_from t (map (renamed_step to) steps) ≡ lowest_step_from t steps
lowest-renamed to t [] = refl
lowest-renamed to t (no_step ∷ ss) = lowest-renamed to (t + 1) ss
lowest-renamed to t (begun_store object slot ∷ ss) = refl
lowest-renamed to t (begun_new type len local ∷ ss) = refl

-- the lowest thread in mid-step is seen
pub lowest_in_step-picture : (m : Machine) → lowest_in_step (picture m) ≡ lowest_in_step m
lowest_in_step-picture m = lowest-renamed (place_of m.objects) 1 m.steps

-- ---- a slide of two machines that are seen alike

abbrev every : ℕ → Bool
every = λ name. true

module _ (a b : Machine) (lawful_a : IsLawful a) (lawful_b : IsLawful b) (bare_a : rest_pieces a.layout.rests ≡ [])
    (bare_b : rest_pieces b.layout.rests ≡ []) (alike : picture a ≡ picture b) (moves : List Move) (after : Machine)
    (c : SlidesLarge b moves after)
  where
    abbrev seen : Machine
    seen = record (picture b) { objects = map (slid_object moves) (picture b).objects; layout = c.layout }

    slides_seen : SlidesLarge (picture b) moves seen
    slides_seen = record {
      layout = c.layout;
      slid = subst (λ ks. IsLargeSlid b.layout ks moves c.layout)
          (sym (survivors-seen b (lawful-named b lawful_b) every every 2)) c.slid;
      state = refl;
    }

    -- what it does to the one, it does to the other
    pub slides_alike : (next : Machine) × SlidesLarge a moves next × (picture next ≡ picture after)
    slides_alike =
        let (next, slides, shown) =
        slide_names a moves seen lawful_a bare_a
        (subst (λ (w : Machine). SlidesLarge w moves seen) (sym alike) slides_seen)
        in
        let (other, slides_b, shown_b) = slide_names b moves seen lawful_b bare_b slides_seen in
        (next, slides, shown ∙ sym shown_b ∙ ap picture (same other slides_b))
      where
        at : Layout → Machine
        at l = record b { objects = map (slid_object moves) b.objects; layout = l }

        same : (other : Machine) → SlidesLarge b moves other → other ≡ after
        same other d =
            d.state
            ∙ ap (λ l. record b { objects = map (slid_object moves) b.objects; layout = l })
            (d.slid.laid ∙ sym c.slid.laid)
            ∙ sym c.state

-- ---- the end

-- the same segments are released where objects are named by their places
released-seen : (m : Machine) → AreNamed m → released m.layout m.objects ≡ released m.layout (picture m).objects
released-seen m h =
    ap (λ ss. record m.layout { segments = ss })
    (filter-on (is_retained m.layout m.objects) (is_retained m.layout (picture m).objects) m.layout.segments
    (λ s i. ap (λ b. b || (same_kind Ephemeral s.kind || (s.base == base_of_first (segments_of Large m.layout))))
    (sym (any-map (renamed_object (place_of m.objects)) (λ (o : Object). stands_in s o.place) m.objects)
    ∙ shuffled-any (λ (o : Object). stands_in s o.place) (objects-shuffled m h))))

-- what is seen of a machine that has ended a full collection
abbrev end_seen : Machine → Bool → Machine
end_seen s flag = record s { layout = released s.layout s.objects; compacts_large = flag }

ended-seen : (m : Machine) → AreNamed m → (flag : Bool)
    → picture (record (ended 2 m) { compacts_large = flag }) ≡ end_seen (picture m) flag
ended-seen m h flag = ap (λ l. record (picture m) { layout = l; compacts_large = flag }) (released-seen m h)

-- ---- the whole

module _ (m : Machine) (h : IsLawful m) (idle : lowest_in_step m ≡ None) (how : How) (plain : is_fit how ≡ false)
    (answer : Collected) (mid slid after : Machine)
    (d : IsCollected (begun (picture m)) 2 how false (StartOf (begun (picture m)) 2) answer mid) (moves : List Move)
    (s : SlidesLarge mid moves slid) (flag : Bool)
    (ends : after ≡ record (ended 2 slid) { compacts_large = flag })
  where
    full : 2 ≤ 2
    full = omega arith

    abbrev seen_collects : PlainlyCollects (picture m) 2 how answer (ended 2 mid)
    seen_collects =
        plain_from (begun (picture m)) 2 how false (StartOf (begun (picture m)) 2) answer plain mid (ended 2 mid) d refl

    lawful-seen : IsLawful (picture m)
    lawful-seen = (picture_sound m h).lawful

    idle-seen : lowest_in_step (picture m) ≡ None
    idle-seen = lowest_in_step-picture m ∙ idle

    -- the collection, a slide of what it left, and the end
    abbrev IsFound : Type 0
    IsFound = (left : Machine) × (next : Machine)
        × IsCollected (begun m) 2 how false (StartOf (begun m) 2) answer left × SlidesLarge left moves next
        × (picture (record (ended 2 next) { compacts_large = flag }) ≡ picture after)

    pub found : IsFound
    found =
        let (ended_next, done, shown, same_laid) =
        collection_names m (lawful-named m h) 2 how answer (ended 2 mid) seen_collects
        (collected_apart (picture (begun m)) (picture_laid (begun m) (given_up_laid m h.laid))
        (picture_apart m (lawful-named m h)) 2 full how false (StartOf (picture (begun m)) 2) answer (ended 2 mid)
        seen_collects) in
        let (left, collected, is, flag_is, laid_is) =
        plain_back (begun m) 2 how false (StartOf (begun m) 2) answer plain ended_next done in
        by_left left collected
        (ap (λ (w : Machine). record (picture w) { layout = left.layout }) (sym is)
        ∙ ap (λ (w : Machine). record w { layout = left.layout }) shown
        ∙ ap (λ l. record (picture (ended 2 mid)) { layout = l })
        (laid_is ∙ same_laid ∙ sym (ap (λ (w : Machine). w.layout) d.state)))
      where
        by_left : (left : Machine) → IsCollected (begun m) 2 how false (StartOf (begun m) 2) answer left
            → picture left ≡ picture mid → IsFound
        by_left left collected alike =
            let lawful_left : IsLawful left = mid_lawful m h idle how plain answer left collected in
            let bare_left : rest_pieces left.layout.rests ≡ [] = mid_bare m h idle how plain answer left collected in
            let lawful_mid : IsLawful mid = mid_lawful (picture m) lawful-seen idle-seen how plain answer mid d in
            let bare_mid : rest_pieces mid.layout.rests ≡ [] =
            mid_bare (picture m) lawful-seen idle-seen how plain answer mid d in
            let (next, slides, shown) =
            slides_alike left mid lawful_left lawful_mid bare_left bare_mid alike moves slid s in
            let named_next : AreNamed next =
            lawful-named next (slide_stays_lawful left moves next lawful_left bare_left slides) in
            let named_slid : AreNamed slid =
            lawful-named slid (slide_stays_lawful mid moves slid lawful_mid bare_mid s) in (
              left,
              next,
              collected,
              slides,
              ended-seen next named_next flag ∙ ap (λ (w : Machine). end_seen w flag) shown
                  ∙ sym (ended-seen slid named_slid flag) ∙ sym (ap picture ends),
            )

-- where it fits no survivors into older items
plain_names : (m : Machine) (g : ℕ) (how : How) (answer : Collected) (after : Machine) → IsLawful m
    → lowest_in_step m ≡ None → IsPlain g how → Collects (picture m) g how answer after
    → (next : Machine) × Collects m g how answer next × (picture next ≡ picture after)
plain_names m g how answer after h idle usual c = by_flag (m.compacts_large && (g == 2)) refl
  where
    by_flag : (b : Bool) → (m.compacts_large && (g == 2)) ≡ b
        → (next : Machine) × Collects m g how answer next × (picture next ≡ picture after)
    by_flag false e = unslid_names m g how answer after h usual e c
    by_flag true e =
        let two : g ≡ 2 = eqb-true g 2 (and_parts m.compacts_large (g == 2) e).1 in
        let (moves, s) = subst (λ (b : Bool). SlidesIf b c.collected c.slid) e c.slides in
        let (left, next, collected, slides, shown) =
        found m h idle how (usual_plain g how usual) answer c.collected c.slid after
        (subst (λ n. IsCollected (begun (picture m)) n how false (StartOf (begun (picture m)) n) answer c.collected) two
        c.collects) moves s (m.compacts_large && not (2 == 2))
        (subst (λ n. after ≡ record (ended n c.slid) { compacts_large = m.compacts_large && not (n == 2) }) two
        c.ends) in (
          record (ended 2 next) { compacts_large = m.compacts_large && not (2 == 2) },
          record {
            collected = left;
            slid = next;
            collects =
                subst (λ n. IsCollected (begun m) n how false (StartOf (begun m) n) answer left) (sym two) collected;
            slides = subst (λ (b : Bool). SlidesIf b left next) (sym e) (moves, slides);
            ends =
                ap (λ n. record (ended n next) { compacts_large = m.compacts_large && not (n == 2) }) (sym two);
          },
          shown,
        )

-- and where it does
fit_names : (m : Machine) (answer : Collected) (after : Machine) → IsLawful m → lowest_in_step m ≡ None
    → Collects (picture m) 1 Fit answer after
    → (next : Machine) × Collects m 1 Fit answer next × (picture next ≡ picture after)
fit_names m answer after h idle c =
    let lawful-seen : IsLawful (picture m) = (picture_sound m h).lawful in
    let named : AreNamed (begun m) = begun-named m (lawful-named m h) in
    let (mid, collected, shown) =
    any_names (begun m) named (StartOf (begun m) 1) (StartOf (picture (begun m)) 1) (start-named (begun m) named 1)
    (start-goes (begun m) named 1) (start-comes (begun m) named 1) 1 Fit false answer c.collected c.collects
    (fit_apart (picture m) lawful-seen answer c.collected c.collects) in
    let still : c.slid ≡ c.collected =
    subst (λ (b : Bool). SlidesIf b c.collected c.slid) (never m.compacts_large) c.slides in (
      record mid { compacts_large = m.compacts_large && not (1 == 2) },
      record {
        collected = mid;
        slid = mid;
        collects = collected;
        slides = subst (λ (b : Bool). SlidesIf b mid mid) (sym (never m.compacts_large)) refl;
        ends = refl;
      },
      ap (λ (w : Machine). record w { compacts_large = m.compacts_large && not (1 == 2) }) shown
          ∙ ap (λ (w : Machine). picture (record w { compacts_large = m.compacts_large && not (1 == 2) })) (sym still)
          ∙ sym (ap picture c.ends),
    )

-- What a collection does to the picture of a lawful machine, it does to the machine.
pub names_dont_matter : (m : Machine) (g : ℕ) (how : How) (answer : Collected) (after : Machine) → IsLawful m
    → lowest_in_step m ≡ None → IsUsual g how → Collects (picture m) g how answer after
    → (next : Machine) × Collects m g how answer next × (picture next ≡ picture after)
names_dont_matter m g Decide answer after h idle usual c = plain_names m g Decide answer after h idle usual c
names_dont_matter m g Compact answer after h idle usual c = plain_names m g Compact answer after h idle usual c
names_dont_matter m g Sweep answer after h idle usual c = plain_names m g Sweep answer after h idle usual c
names_dont_matter m g Fit answer after h idle usual c =
    subst (λ n. (next : Machine) × Collects m n Fit answer next × (picture next ≡ picture after)) (sym usual)
    (fit_names m answer after h idle (subst (λ n. Collects (picture m) n Fit answer after) usual c))

pub two_collections_names : TwoCollectionsNamesLaw
two_collections_names m g1 g2 how1 how2 one two after last h idle usual1 usual2 c d =
    let (mid, first, shown) = names_dont_matter m g1 how1 one after h idle usual1 c in
    let (next, second, shown') =
    names_dont_matter mid g2 how2 two last (stays_lawful m h idle g1 how1 usual1 one mid first)
    (ap (lowest_step_from 1) (collects_keeps m g1 how1 one mid first).steps ∙ idle) usual2
    (subst (λ (w : Machine). Collects w g2 how2 two last) (sym shown) d) in
    (mid, next, first, second, shown, shown')
