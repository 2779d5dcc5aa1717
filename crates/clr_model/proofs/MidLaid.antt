-- What a full collection leaves before the large heap is slid and segments are released: its memory is lawful.
use Rattle.std.proofs.Common.{◌≡◌, ◌<◌, ◌≤◌, inl, inr, [], length, refl, sym, ap, subst, ◌∙◌, arith, true}
use Rattle.std.proofs.Common.{false, ℕ, ◌&&◌, ◌⊎◌}
use Rattle.std.proofs.lemmas.Bool.{and_from, and_parts}
use Rattle.clr_types.specs.Rising.{IsIn}
use Rattle.clr_types.specs.Segments.{Layout, generation, is_small_or_ephemeral, rest_pieces, stands_in}
use Rattle.clr_types.specs.declared.segment.SegInfo.{SegInfo}
use Rattle.clr_types.proofs.ListMembers.{any-from, any-in}
use Rattle.clr_types.specs.LawfulLayout.{IsLawfulLayout}
use Rattle.clr_model.specs.declared.How.{How}
use Rattle.clr_model.specs.declared.Collected.{Collected}
use Rattle.clr_model.specs.Machine.{Machine, Object}
use Rattle.clr_model.specs.Reach.{starts, StartOf}
use Rattle.clr_model.specs.Sweep.{survivors, swept_others, taking_part}
use Rattle.clr_model.specs.Compaction.{moved_by}
use Rattle.clr_model.specs.Collection.{begun, ended, is_fit, is_in_small_heap, IsCollected, marking_after}
use Rattle.clr_model.specs.Collection.{objects_after, sums_after}
use Rattle.clr_model.specs.Lawful.{IsLaid, IsLawful}
use Rattle.clr_model.proofs.Apart.{AreApart}
use Rattle.clr_model.proofs.CollectedLaid.{unreleased_laid}
use Rattle.clr_model.proofs.CollectedLayout.{large_lawful}
use Rattle.clr_model.proofs.CollectedObjects.{begun_laid, compacting, small_is}
use Rattle.clr_model.proofs.CollectedPresent.{collected_machine}
use Rattle.clr_model.proofs.CollectedPieces.{IsSmallPhase, small_phase}
use Rattle.clr_model.proofs.CondemnedParts.{taking-is}
use Rattle.clr_model.proofs.FullSegments.{into-swept, phase, small-change}
use Rattle.clr_model.proofs.CollectionLaws.{collected_apart}
use Rattle.clr_model.proofs.GivenUp.{no_rests}
use Rattle.clr_model.proofs.NamedWell.{lawful-named}
use Rattle.clr_model.proofs.PlainCollections.{PlainlyCollects, plain_from}

module _ (m : Machine) (h : IsLawful m) (how : How) (plain : is_fit how ≡ false) (answer : Collected) (mid : Machine)
    (d : IsCollected (begun m) 2 how false (StartOf (begun m) 2) answer mid)
  where
    full : 2 ≤ 2
    full = omega arith

    -- it ends so where no slide follows
    abbrev pub whole_plain : PlainlyCollects m 2 how answer (ended 2 mid)
    whole_plain = plain_from (begun m) 2 how false (StartOf (begun m) 2) answer plain mid (ended 2 mid) d refl

    pub given_laid : IsLaid (begun m)
    given_laid = begun_laid m h 2 full how answer (ended 2 mid) whole_plain

    pub given_bare : rest_pieces (begun m).layout.rests ≡ []
    given_bare = no_rests (length m.layout.rests)

    abbrev pub unreleased : Layout
    unreleased = swept_others d.small 2 (survivors (begun m) 2 d.kept)

    abbrev pub swept : Machine
    swept =
        collected_machine (begun m) d.first d.kept d.moves (swept_others d.small 2 (survivors (begun m) 2 d.kept))
        (sums_after (begun m) 2 answer.promoted1 answer.promoted2) (marking_after true m.background)

    pub mid-is : mid ≡ swept
    mid-is =
        d.state
        ∙ ap (λ l. collected_machine (begun m) d.first d.kept d.moves l
        (sums_after (begun m) 2 answer.promoted1 answer.promoted2) (marking_after true m.background))
        (d.large_laid ∙ ap (swept_others d.small 2) d.survive_are)

    pub unreleased-lawful : IsLawfulLayout unreleased
    unreleased-lawful =
        large_lawful (begun m) given_laid d.kept d.moves d.small
        (compacting m h 2 full how answer (ended 2 mid) whole_plain)
        (small_is m h 2 full how answer (ended 2 mid) whole_plain)

    -- an older object is where the marking starts
    old_kept : (o : Object) → IsIn o m.objects → 2 < generation (begun m).layout o.place → d.kept o.name ≡ true
    old_kept o i above =
        (d.kept_is o.name).1 (starts (inl (inr (record { object = o; present = i; named = refl; above = above }))))

    apart : AreApart (objects_after (begun m) d.first d.kept d.moves)
    apart =
        subst (λ (w : Machine). AreApart w.objects) d.state
        (collected_apart (begun m) given_laid (lawful-named m h).apart 2 full how false (StartOf (begun m) 2) answer
        (ended 2 mid) whole_plain)

    pub laid-swept : IsLaid swept
    laid-swept =
        let is = unreleased_laid (begun m) given_laid given_bare d.kept d.first d.moves d.small
        (compacting m h 2 full how answer (ended 2 mid) whole_plain)
        (small_is m h 2 full how answer (ended 2 mid) whole_plain) old_kept apart.places in
        record { layout = is.layout; housed = is.housed; tiled = is.tiled; whole1 = is.whole1; whole0 = is.whole0 }

    pub mid_laid : IsLaid mid
    mid_laid = subst IsLaid (sym mid-is) laid-swept

    -- ---- the small heap

    pub small_part : IsSmallPhase (begun m) 2 d.kept d.moves d.small
    small_part =
        small_phase (begun m) given_laid 2 full d.kept d.moves d.small
        (compacting m h 2 full how answer (ended 2 mid) whole_plain)
        (small_is m h 2 full how answer (ended 2 mid) whole_plain)

    -- a segment of the small heap, as it is then
    pub still_small : (s : SegInfo) → IsIn s m.layout.segments → is_small_or_ephemeral s.kind ≡ true
        → (e : ℕ) × IsIn (record s { end = e }) mid.layout.segments
    still_small s i kind =
        let is : IsSmallPhase (begun m) 2 d.kept d.moves d.small =
        phase (begun m) given_laid given_bare d.kept d.first d.moves d.small
        (compacting m h 2 full how answer (ended 2 mid) whole_plain)
        (small_is m h 2 full how answer (ended 2 mid) whole_plain) in (
          is.end s,
          subst (λ (w : Machine). IsIn (record s { end = is.end s }) w.layout.segments) (sym mid-is)
              (subst (λ (u : SegInfo). IsIn u unreleased.segments)
              (small-change (begun m) given_laid given_bare d.kept d.first d.moves d.small
              (compacting m h 2 full how answer (ended 2 mid) whole_plain)
              (small_is m h 2 full how answer (ended 2 mid) whole_plain) s kind)
              (into-swept (begun m) given_laid given_bare d.kept d.first d.moves d.small
              (compacting m h 2 full how answer (ended 2 mid) whole_plain)
              (small_is m h 2 full how answer (ended 2 mid) whole_plain) s i)),
        )

    -- an object of the small heap stays there
    pub stays_small : (o : Object) → IsIn o m.objects → is_in_small_heap m.layout o.place ≡ true
        → is_in_small_heap mid.layout (moved_by d.moves o.place) ≡ true
    stays_small o i small = by (small_part.lands o i)
      where
        at : (s : SegInfo) → IsIn s m.layout.segments → is_small_or_ephemeral s.kind ≡ true → (x : ℕ)
            → stands_in s x ≡ true → is_in_small_heap mid.layout x ≡ true
        at s k kind x stands =
            let (e, among) = still_small s k kind in
            any-from (λ s. is_small_or_ephemeral s.kind && stands_in s x) mid.layout.segments
            (record s { end = e }) among
            (and_from (is_small_or_ephemeral s.kind) (stands_in s x) kind stands)

        still : moved_by d.moves o.place ≡ o.place → is_in_small_heap mid.layout (moved_by d.moves o.place) ≡ true
        still e =
            let (s, k, t) = any-in (λ s. is_small_or_ephemeral s.kind && stands_in s o.place) m.layout.segments small in
            let (kind, stands) = and_parts (is_small_or_ephemeral s.kind) (stands_in s o.place) t in
            at s k kind (moved_by d.moves o.place) (subst (λ x. stands_in s x ≡ true) (sym e) stands)

        by : (moved_by d.moves o.place ≡ o.place)
            ⊎ ((generation m.layout o.place ≤ 2)
            × ((s : SegInfo) × IsIn s (taking_part is_small_or_ephemeral 2 (begun m).layout)
            × (stands_in s o.place ≡ true))
            × ((s : SegInfo) × IsIn s (taking_part is_small_or_ephemeral 2 (begun m).layout)
            × (stands_in s (moved_by d.moves o.place) ≡ true)))
            → is_in_small_heap mid.layout (moved_by d.moves o.place) ≡ true
        by (inl e) = still e
        by (inr (age, came, (s, k, stands))) =
            let (kind, part, known) = taking-is (begun m).layout given_laid.layout 2 full s k in
            at s known kind (moved_by d.moves o.place) stands
