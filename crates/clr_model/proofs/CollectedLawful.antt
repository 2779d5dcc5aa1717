-- A collection leaves a lawful machine.
use Rattle.std.proofs.Common.{◌≡◌, ℕ, ◌<◌, ◌≤◌, inl, inr, List, [], length, refl, sym, ap, subst, ◌∙◌, arith, Bool}
use Rattle.std.proofs.Common.{true, false, if◌then◌else◌, filter, map, not, ◌&&◌, ◌==◌, sum_by, None, Option}
use Rattle.std.proofs.lemmas.Bool.{and_parts, eqb-true}
use Rattle.std.specs.List.{AllByRecursion}
use Rattle.clr_types.specs.Rising.{IsIn}
use Rattle.clr_types.specs.Ranges.{Piece}
use Rattle.clr_types.specs.Segments.{Layout, generation, is_large_or_pinned, is_small_or_ephemeral, rest_pieces}
use Rattle.clr_types.specs.Segments.{reserved_sum, stands_in}
use Rattle.clr_types.specs.declared.segment.SegInfo.{SegInfo}
use Rattle.clr_types.proofs.RisingLists.{all_at}
use Rattle.clr_types.proofs.ChangedLists.{all_members, out_of_filter}
use Rattle.clr_types.proofs.ListMembers.{from-map}
use Rattle.clr_model.specs.declared.How.{How}
use Rattle.clr_model.specs.declared.How.TheVariants.{Compact, Decide, Fit, Sweep}
use Rattle.clr_model.specs.declared.Collected.{Collected}
use Rattle.clr_model.specs.Machine.{Object, Sums, Marking, Machine}
use Rattle.clr_model.specs.Lookups.{lowest_in_step, object_piece}
use Rattle.clr_model.specs.Reach.{starts, StartOf}
use Rattle.clr_model.specs.Sweep.{survivors, segments_after, swept_end, swept_others}
use Rattle.clr_model.specs.Updates.{all_given_up}
use Rattle.clr_model.specs.Compaction.{Move, moved_by}
use Rattle.clr_model.specs.Slide.{slid_object, SlidesLarge}
use Rattle.clr_model.specs.Collection.{begun, Collects, ended, is_fit, IsCollected, SlidesIf, bytes_promoted}
use Rattle.clr_model.specs.Collection.{object_after, objects_after}
use Rattle.clr_model.specs.Collection.{sums_after, is_retained, marking_after, released}
use Rattle.clr_model.specs.Lawful.{IsLaid, IsLawful, IsBirthNamed, SuitsItsSegment}
use Rattle.clr_model.specs.Laws.{CollectionStaysLawfulLaw, IsPlain, IsUnslid, IsUsual}
use Rattle.clr_model.proofs.Apart.{AreApart}
use Rattle.clr_model.proofs.GivenUp.{no_rests}
use Rattle.clr_model.proofs.NamedWell.{lawful-named}
use Rattle.clr_model.proofs.CollectionLaws.{collected_apart}
use Rattle.clr_model.proofs.PlainCollections.{IsPlainlyCollected, PlainlyCollects, plainly, usual_least, usual_plain}
use Rattle.clr_model.proofs.CollectedLayout.{released_ephemeral, whole_after}
use Rattle.clr_model.proofs.CollectedObjects.{begun_laid, compacting, small_is}
use Rattle.clr_model.proofs.CollectedLaws.{layout_is, old_age, promoted_is}
use Rattle.clr_model.proofs.CollectedPieces.{IsSmallPhase, small_phase}
use Rattle.clr_model.proofs.CollectedLaid.{collected_laid, collected_bare, collected_suited}
use Rattle.clr_model.proofs.FullSegments.{full_beside}
use Rattle.clr_model.proofs.LawfulPieces.{HasHome, object-in-pieces, piece-home}
use Rattle.clr_model.proofs.ReservedBytes.{reserved-after, sum-retained}
use Rattle.clr_model.proofs.Resegmented.{resegmented_lawful}
use Rattle.clr_model.proofs.MidLaid.{given_bare, given_laid, laid-swept, mid-is, swept, unreleased, unreleased-lawful}
use Rattle.clr_model.proofs.MidLaid.{whole_plain}
use Rattle.clr_model.proofs.FitLawful.{fit_left}
use Rattle.clr_model.proofs.SlidReleased.{IsBeside, slid_and_released}
use Rattle.clr_model.proofs.CollectedPresent.{collected_machine}
use Rattle.clr_model.proofs.PartsLawful.{IsWellLeft, parts_lawful}

module _ (m : Machine) (h : IsLawful m) (idle : lowest_in_step m ≡ None) (g : ℕ) (least : g ≤ 2) (how : How)
    (answer : Collected) (new : Machine) {last_pause : Bool} {source : ℕ → Type 0}
    (c : IsPlainlyCollected (record m { layout = all_given_up m.layout }) g how last_pause source answer new)
    (covers : (x : ℕ) → StartOf (record m { layout = all_given_up m.layout }) g x → source x) where
  abbrev start : Machine
  start = record m { layout = all_given_up m.layout }

  laid : IsLaid start
  laid = begun_laid m h g least how answer new c

  bare : rest_pieces start.layout.rests ≡ []
  bare = no_rests (length m.layout.rests)

  abbrev objects : List Object
  objects = objects_after start c.first c.kept c.moves

  abbrev layout : Layout
  layout = whole_after g (survivors start g c.kept) c.small objects

  abbrev sums : Sums
  sums = sums_after start g answer.promoted1 answer.promoted2

  abbrev background : Option Marking
  background = marking_after (g == 2) m.background

  abbrev next : Machine
  next = collected_machine start c.first c.kept c.moves layout sums background

  new-is : new ≡ next
  new-is =
      c.state ∙ ap (λ l. collected_machine start c.first c.kept c.moves l sums background)
      (sym (ap (λ (w : Machine). w.layout) c.state) ∙ layout_is m h g least how answer new c)

  -- an older object is where the marking starts
  old_kept : (o : Object) → IsIn o start.objects → g < generation start.layout o.place → c.kept o.name ≡ true
  old_kept o i above =
      (c.kept_is o.name).1
      (starts (inl (covers o.name (inr (record { object = o; present = i; named = refl; above = above })))))

  apart : AreApart objects
  apart =
      subst (λ (w : Machine). AreApart w.objects) c.state
      (collected_apart start laid (lawful-named m h).apart g least how last_pause source answer new c)

  phase : IsSmallPhase start g c.kept c.moves c.small
  phase =
      small_phase start laid g least c.kept c.moves c.small (compacting m h g least how answer new c)
      (small_is m h g least how answer new c)

  -- ---- the parts of a lawful state

  back : (P : Object → Type 0) → ((q : Object) → IsIn q m.objects → P (object_after start c.first c.moves q))
      → AllByRecursion P objects
  back P f =
      all_members P objects
      (λ o i.
      let (q, e, j) =
      from-map (object_after start c.first c.moves) o (filter (λ (o : Object). c.kept o.name) m.objects) i in
      subst P (sym e) (f q (out_of_filter (λ (o : Object). c.kept o.name) q m.objects j).1))

  laid-next : IsLaid (record start { objects = objects; layout = layout })
  laid-next =
      collected_laid start laid bare g least c.kept c.first c.moves c.small (compacting m h g least how answer new c)
      (small_is m h g least how answer new c) old_kept apart.places

  bare-next : rest_pieces layout.rests ≡ []
  bare-next =
      collected_bare start laid bare g least c.kept c.first c.moves c.small (compacting m h g least how answer new c)
      (small_is m h g least how answer new c) old_kept apart.places

  suited-next : (o : Object) → IsIn o objects
      → SuitsItsSegment (record start { objects = objects; layout = layout }) o
  suited-next =
      collected_suited start laid bare g least c.kept c.first c.moves c.small (compacting m h g least how answer new c)
      (small_is m h g least how answer new c) old_kept apart.places
      (λ o i. all_at (SuitsItsSegment m) i h.suited)

  -- releasing only lowers the sum
  limit-next : reserved_sum layout ≤ m.options.limit
  limit-next = let l = h.limit in let same = small-reserved in let down = released-reserved (g == 2) in omega arith
    where
      small-reserved : reserved_sum c.small ≡ reserved_sum m.layout
      small-reserved =
          ap (sum_by (λ (s : SegInfo). s.reserved)) phase.segments
          ∙ reserved-after is_small_or_ephemeral g phase.end m.layout.segments

      released-reserved : (b : Bool)
          → reserved_sum (if b then released (swept_others c.small 2 (survivors start g c.kept)) objects
          else c.small) ≤ reserved_sum c.small
      released-reserved false = omega arith
      released-reserved true =
          let same = reserved-after (is_large_or_pinned) 2 (swept_end c.small 2 (survivors start g c.kept))
          c.small.segments in
          let down = sum-retained (λ (s : SegInfo). s.reserved)
          (is_retained (swept_others c.small 2 (survivors start g c.kept)) objects)
          (segments_after (is_large_or_pinned) 2 (swept_end c.small 2 (survivors start g c.kept)) c.small.segments) in
          omega arith

  -- ---- what is counted

  same-layout : new.layout ≡ layout
  same-layout = layout_is m h g least how answer new c

  promoted-is : (l : ℕ) → bytes_promoted start layout c.kept c.moves l ≡ bytes_promoted start c.laid c.kept c.moves l
  promoted-is l =
      ap (λ (k : Layout). bytes_promoted start k c.kept c.moves l) (sym same-layout)
      ∙ sym (promoted_is m h g least how answer new c l)

  old_stays : (o : Object) → IsIn o m.objects → c.kept o.name ≡ true → g < generation m.layout o.place
      → generation layout (moved_by c.moves o.place) ≡ generation m.layout o.place
  old_stays o i stays above =
      ap (λ (k : Layout). generation k (moved_by c.moves o.place)) (sym same-layout)
      ∙ old_age m h g least how answer new c o i stays above

  well_left : IsWellLeft m g c.first c.kept c.moves layout answer.promoted1 answer.promoted2
  well_left = record {
    laid = laid-next;
    bare = bare-next;
    suited = suited-next;
    limit = limit-next;
    old_stays = old_stays;
    first_bytes = ap (λ (a : Collected). a.promoted1) c.answered ∙ sym (promoted-is 0);
    second_bytes = ap (λ (a : Collected). a.promoted2) c.answered ∙ sym (promoted-is 1);
  }

  lawful-next : IsLawful next
  lawful-next =
      parts_lawful m h idle g least c.first c.kept covers c.first_is c.kept_is c.moves layout answer.promoted1
      answer.promoted2 well_left

  -- A collection leaves a lawful machine.
  pub plain_lawful : IsLawful new
  plain_lawful = subst IsLawful (sym new-is) lawful-next

  -- births only go
  pub plain_birth_named : AllByRecursion (λ (o : Object). o.name ≤ m.born) m.objects → IsBirthNamed new
  plain_birth_named born =
      subst IsBirthNamed (sym new-is)
      (record {
        lawful = lawful-next;
        born = back (λ (o : Object). o.name ≤ m.born)
            (λ q i. all_at (λ (o : Object). o.name ≤ m.born) i born);
      })

  -- no thread has a context then
  pub plain_rests : rest_pieces new.layout.rests ≡ []
  plain_rests = ap (λ (w : Machine). rest_pieces w.layout.rests) new-is ∙ bare-next

  -- what holds of each object of before where it goes, holds of each object afterwards
  pub plain_objects : (P : Object → Type 0)
      → ((q : Object) → IsIn q m.objects → P (object_after start c.first c.moves q)) → AllByRecursion P new.objects
  plain_objects P f = subst (λ (w : Machine). AllByRecursion P w.objects) (sym new-is) (back P f)

-- ---- a full collection before the slide

module _ (m : Machine) (h : IsLawful m) (idle : lowest_in_step m ≡ None) (how : How) (plain : is_fit how ≡ false)
    (answer : Collected) (mid : Machine) (d : IsCollected (begun m) 2 how false (StartOf (begun m) 2) answer mid)
  where
    full : 2 ≤ 2
    full = omega arith

    abbrev c : PlainlyCollects m 2 how answer (ended 2 mid)
    c = whole_plain m h how plain answer mid d

    abbrev end : Machine
    end = next m h idle 2 full how answer (ended 2 mid) c (λ x s. s)

    abbrev laid_out : Layout
    laid_out = unreleased m h how plain answer mid d

    abbrev at_end : Machine
    at_end = swept m h how plain answer mid d

    lawful-end : IsLawful end
    lawful-end = lawful-next m h idle 2 full how answer (ended 2 mid) c (λ x s. s)

    home : (o : Object) → IsIn o end.objects
        → (t : SegInfo) × IsIn t end.layout.segments × IsIn t laid_out.segments × (stands_in t o.place ≡ true)
    home o i =
        let n : HasHome end.layout o.place =
        piece-home end lawful-end.laid (object_piece end.types o) (object-in-pieces end lawful-end.laid o i) in (
          n.home,
          n.among,
          (out_of_filter (is_retained laid_out end.objects) n.home laid_out.segments n.among).1,
          n.stands,
        )

    swept-limit : reserved_sum laid_out ≤ m.options.limit
    swept-limit =
        let l = h.limit in
        let is : IsSmallPhase (begun m) 2 d.kept d.moves d.small =
        phase m h idle 2 full how answer (ended 2 mid) c (λ x s. s) in
        let small = ap (sum_by (λ (s : SegInfo). s.reserved)) is.segments
        ∙ reserved-after is_small_or_ephemeral 2 is.end m.layout.segments in
        let large = reserved-after is_large_or_pinned 2 (swept_end d.small 2 (survivors (begun m) 2 d.kept))
        d.small.segments in
        omega arith

    swept-lawful : IsLawful at_end
    swept-lawful =
        resegmented_lawful end lawful-end laid_out.segments m.compacts_large end.background lawful-end.marking
        (laid-swept m h how plain answer mid d)
        (sym (released_ephemeral laid_out (unreleased-lawful m h how plain answer mid d) end.objects)) home swept-limit

    -- it is lawful before segments are released, too
    pub mid_lawful : IsLawful mid
    mid_lawful = subst IsLawful (sym (mid-is m h how plain answer mid d)) swept-lawful

    pub mid_bare : rest_pieces mid.layout.rests ≡ []
    mid_bare = plain_rests m h idle 2 full how answer (ended 2 mid) c (λ x s. s)

    swept-beside : (f : Piece) → IsIn f at_end.layout.free → IsBeside at_end f
    swept-beside =
        full_beside (begun m) (given_laid m h how plain answer mid d)
        (given_bare m h how plain answer mid d) d.kept d.first d.moves d.small
        (compacting m h 2 full how answer (ended 2 mid) c) (small_is m h 2 full how answer (ended 2 mid) c)

    -- and each of its free items shares its segment with an object
    pub mid_beside : (f : Piece) → IsIn f mid.layout.free → IsBeside mid f
    mid_beside = subst (λ (w : Machine). (f : Piece) → IsIn f w.layout.free → IsBeside w f)
        (sym (mid-is m h how plain answer mid d)) swept-beside

-- ---- the laws

module _ (m : Machine) (h : IsLawful m) (idle : lowest_in_step m ≡ None) (g : ℕ) (how : How) (usual : IsPlain g how)
    (answer : Collected) (new : Machine) (c : Collects m g how answer new) where
  plain : is_fit how ≡ false
  plain = usual_plain g how usual

  least : g ≤ 2
  least = usual_least g how usual

  abbrev IsLeft : Machine → Type 0
  IsLeft w = IsLawful w × (rest_pieces w.layout.rests ≡ [])
      × (AllByRecursion (λ (o : Object). o.name ≤ m.born) m.objects
      → AllByRecursion (λ (o : Object). o.name ≤ w.born) w.objects)

  -- where no slide follows
  unslid : IsUnslid m g → IsLeft new
  unslid e =
      let p : PlainlyCollects m g how answer new = plainly m g how answer new e plain c in (
        plain_lawful m h idle g least how answer new p (λ x s. s),
        plain_rests m h idle g least how answer new p (λ x s. s),
        λ born. (plain_birth_named m h idle g least how answer new p (λ x s. s) born).born,
      )

  -- and where one does
  slid : (mid after : Machine) → IsCollected (begun m) 2 how false (StartOf (begun m) 2) answer mid
      → (moves : List Move) → SlidesLarge mid moves after
      → new ≡ record (ended 2 after) { compacts_large = m.compacts_large && not (2 == 2) } → IsLeft new
  slid mid after d moves s ends =
      let lawful : IsLawful mid = mid_lawful m h idle how plain answer mid d in
      let bare : rest_pieces mid.layout.rests ≡ [] = mid_bare m h idle how plain answer mid d in
      let same : after.layout.rests ≡ mid.layout.rests =
      ap (λ (w : Machine). w.layout.rests) s.state ∙ ap (λ (l : Layout). l.rests) s.slid.laid in (
        subst IsLawful (sym ends)
            (slid_and_released mid lawful bare (mid_beside m h idle how plain answer mid d) moves after s
            (m.compacts_large && not (2 == 2))),
        ap (λ (w : Machine). rest_pieces w.layout.rests) ends ∙ ap rest_pieces same ∙ bare,
        λ born.
            subst (λ (w : Machine). AllByRecursion (λ (o : Object). o.name ≤ w.born) w.objects) (sym ends)
            (subst (λ (w : Machine). AllByRecursion (λ (o : Object). o.name ≤ w.born) w.objects) (sym s.state)
            (all_members (λ (o : Object). o.name ≤ mid.born) (map (slid_object moves) mid.objects)
            (λ o i. let (q, e, j) = from-map (slid_object moves) o mid.objects i in
            subst (λ (r : Object). r.name ≤ mid.born) (sym e)
            (all_at (λ (o : Object). o.name ≤ mid.born) j
            (plain_birth_named m h idle 2 (omega arith) how answer (ended 2 mid)
            (whole_plain m h how plain answer mid d) (λ x s. s) born).born)))),
      )

  left : IsLeft new
  left = by_flag (m.compacts_large && (g == 2)) refl
    where
      full : (m.compacts_large && (g == 2)) ≡ true → g ≡ 2
      full e = eqb-true g 2 (and_parts m.compacts_large (g == 2) e).1

      by_flag : (b : Bool) → (m.compacts_large && (g == 2)) ≡ b → IsLeft new
      by_flag false e = unslid e
      by_flag true e =
          let (moves, s) = subst (λ (b : Bool). SlidesIf b c.collected c.slid) e c.slides in
          let two : g ≡ 2 = full e in
          slid c.collected c.slid
          (subst (λ n. IsCollected (begun m) n how false (StartOf (begun m) n) answer c.collected) two c.collects) moves
          s
          (subst (λ n. new ≡ record (ended n c.slid) { compacts_large = m.compacts_large && not (n == 2) }) two c.ends)

  pub plain_left : IsLawful new × (rest_pieces new.layout.rests ≡ [])
      × (AllByRecursion (λ (o : Object). o.name ≤ m.born) m.objects
      → AllByRecursion (λ (o : Object). o.name ≤ new.born) new.objects)
  plain_left = left

-- each kind of collection leaves this
collection_left : (m : Machine) → IsLawful m → lowest_in_step m ≡ None → (g : ℕ) (how : How) → IsUsual g how
    → (answer : Collected) (new : Machine) → Collects m g how answer new
    → IsLawful new × (rest_pieces new.layout.rests ≡ [])
    × (AllByRecursion (λ (o : Object). o.name ≤ m.born) m.objects
    → AllByRecursion (λ (o : Object). o.name ≤ new.born) new.objects)
collection_left m h idle g Decide usual answer new c = plain_left m h idle g Decide usual answer new c
collection_left m h idle g Compact usual answer new c = plain_left m h idle g Compact usual answer new c
collection_left m h idle g Sweep usual answer new c = plain_left m h idle g Sweep usual answer new c
collection_left m h idle g Fit usual answer new c =
    fit_left m h idle answer new (subst (λ n. Collects m n Fit answer new) usual c)

module _ (m : Machine) (h : IsLawful m) (idle : lowest_in_step m ≡ None) (g : ℕ) (how : How) (usual : IsUsual g how)
    (answer : Collected) (new : Machine) (c : Collects m g how answer new) where
  -- A collection leaves a lawful machine.
  pub stays_lawful : IsLawful new
  stays_lawful = (collection_left m h idle g how usual answer new c).0

  -- births only go
  pub stays_birth_named : AllByRecursion (λ (o : Object). o.name ≤ m.born) m.objects → IsBirthNamed new
  stays_birth_named born =
      let left = collection_left m h idle g how usual answer new c in record { lawful = left.0; born = left.2 born }

  -- no thread has a context then
  pub rests_gone : rest_pieces new.layout.rests ≡ []
  rests_gone = (collection_left m h idle g how usual answer new c).1

pub collection_stays_lawful : CollectionStaysLawfulLaw
collection_stays_lawful m g how answer new h idle usual c = stays_lawful m h idle g how usual answer new c
