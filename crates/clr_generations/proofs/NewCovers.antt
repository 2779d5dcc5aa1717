-- The cover of a new segment above all others: where it begins, that it goes alone, and what is covered with it.
use Rattle.std.proofs.Common.{◌≡◌, inl, inr, ℕ, ◌/◌, ◌≤◌, true, Bool, ◌||◌, ◌==◌, List, [], ◌∷◌, ◌++◌}
use Rattle.std.proofs.Common.{map, refl, ap, sym, ◌∙◌, subst, arith, ℤ, pos}
use Rattle.std.specs.List.{AllByRecursion}
use Rattle.std.proofs.lemmas.Bool.{cases_lt, eq-eqb, le-ltb, lt-ltb, ne_eqb}
use Rattle.std.proofs.lemmas.List.{map-append}
use Rattle.std.proofs.Math.Bool.{or-true}
use Rattle.clr_types.specs.LawfulLayout.{IsLawfulSegment}
use Rattle.clr_types.specs.Segments.{opening_segment, reserved_end, sealed_segment}
use Rattle.clr_types.specs.declared.segment.SegInfo.{SegInfo}
use Rattle.clr_types.specs.declared.segment.SegKind.{SegKind}
use Rattle.clr_types.specs.declared.segment.SegKind.TheVariants.{Ephemeral, Large, Small, Pinned}
use Rattle.clr_bricks.specs.Bricks.{new_bricks}
use Rattle.clr_cards.specs.Cards.{clear_cards}
use Rattle.clr_covers.specs.Covers.{begins, cover_of, CoverView, same_values, spans, with_cover, without_cover}
use Rattle.clr_covers.proofs.Changing.{length-same_values}
use Rattle.clr_covers.proofs.Spans.{EndBelow, spans-with_cover_last}
use Rattle.clr_heap.specs.View.{acquired, frame, HeapView, IsHeap}
use Rattle.clr_generations.specs.Tables.{AreBricksOf, AreCardsOf, units_of}
use Rattle.clr_generations.specs.Acquiring.{AreBelow}

-- what lies below ends below
pub ends_below : (b : ℕ) (ss : List (ℕ × ℕ)) → AreBelow b ss → EndBelow b ss
ends_below b [] h = tt
ends_below b (s ∷ ss) h = (h.0.1, ends_below b ss h.1)

module _ {X : Type 0} (c : CoverView X) where
  -- a new cover begins with its first unit
  pub begins_with : (cs : List (CoverView X)) → begins (with_cover c cs) c.first ≡ true
  begins_with [] = rw (eq-eqb c.first c.first refl) refl
  begins_with (d ∷ ds) = elim (cases_lt c.first d.first) [
    | inl low ↦ rw (lt-ltb c.first d.first low, eq-eqb c.first c.first refl) refl
    | inr high ↦ rw (le-ltb c.first d.first high)
        (ap (λ (b : Bool). (d.first == c.first) || b) (begins_with ds) ∙ or-true (d.first == c.first))
  ]

  -- above all others, it is the one that goes
  without_with : (cs : List (CoverView X)) → AreBelow c.first (spans cs) → without_cover c.first (with_cover c cs) ≡ cs
  without_with [] h = rw (eq-eqb c.first c.first refl) refl
  without_with (d ∷ ds) h =
      let low = h.0.0 in
      let ih = without_with ds h.1 in
      rw (le-ltb c.first d.first (omega arith)) (rw (ne_eqb d.first c.first (λ e. absurd (omega arith)))
      (λ i. d ∷ ih i))

  -- so when it is given back, all covers are as they were
  pub given_back : (cs taken back : List (CoverView X)) → AreBelow c.first (spans cs) → taken ≡ with_cover c cs
      → back ≡ without_cover c.first taken → back ≡ cs
  given_back cs taken back below is gone = gone ∙ ap (without_cover c.first) is ∙ without_with cs below

-- ---- the units of segments

-- the cards of lawful segments that end at the top or below lie below it
pub cards_under : (top : ℕ) (ss : List SegInfo) → AllByRecursion IsLawfulSegment ss
    → AllByRecursion (λ (s : SegInfo). reserved_end s ≤ top) ss → AreBelow (top / 2048) (map (units_of 2048) ss)
cards_under top [] lawful below = tt
cards_under top (s ∷ ss) lawful below =
    let base = lawful.0.base in
    let reserved = lawful.0.reserved in
    let least = lawful.0.least in
    let end = below.0 in
    ((omega arith, omega arith), cards_under top ss lawful.1 below.1)

-- and so do their bricks
pub bricks_under : (top : ℕ) (ss : List SegInfo) → AllByRecursion IsLawfulSegment ss
    → AllByRecursion (λ (s : SegInfo). reserved_end s ≤ top) ss → AreBelow (top / 4096) (map (units_of 4096) ss)
bricks_under top [] lawful below = tt
bricks_under top (s ∷ ss) lawful below =
    let base = lawful.0.base in
    let reserved = lawful.0.reserved in
    let least = lawful.0.least in
    let end = below.0 in
    ((omega arith, omega arith), bricks_under top ss lawful.1 below.1)

-- sealed segments have the same units
sealed_units : (unit : ℕ) (ss : List SegInfo) → map (units_of unit) (map sealed_segment ss) ≡ map (units_of unit) ss
sealed_units unit [] = refl
sealed_units unit (s ∷ ss) = let ih = sealed_units unit ss in λ i. units_of unit s ∷ ih i

-- the units of the segments with a new one of any kind
acquired_units : (unit : ℕ) (h : HeapView) (kind : SegKind) (size : ℕ)
    → map (units_of unit) (acquired h kind size).segments
    ≡ (map (units_of unit) h.segments ++ (h.top / unit, size / unit) ∷ [])
acquired_units unit h Small size = map-append (units_of unit) h.segments (opening_segment h.top Small size ∷ [])
acquired_units unit h Ephemeral size =
    map-append (units_of unit) (map sealed_segment h.segments) (opening_segment h.top Ephemeral size ∷ [])
    ∙ ap (λ (us : List (ℕ × ℕ)). us ++ (h.top / unit, size / unit) ∷ []) (sealed_units unit h.segments)
acquired_units unit h Large size = map-append (units_of unit) h.segments (opening_segment h.top Large size ∷ [])
acquired_units unit h Pinned size = map-append (units_of unit) h.segments (opening_segment h.top Pinned size ∷ [])

-- WHAT IS COVERED with a new segment above the others
units_taken : {X : Type 0} (v : X) (unit size : ℕ) (cs cs' : List (CoverView X)) (h new : HeapView) (kind : SegKind)
    → new ≡ acquired h kind size → spans cs ≡ map (units_of unit) h.segments → EndBelow (h.top / unit) (spans cs)
    → cs' ≡ with_cover (cover_of (h.top / unit) (same_values v (size / unit))) cs
    → spans cs' ≡ map (units_of unit) new.segments
units_taken v unit size cs cs' h new kind is same below taken =
    let units : ℕ × ℕ → List (ℕ × ℕ) = λ u. u ∷ [] in
    let count = length-same_values v (size / unit) in
    ap spans taken
    ∙ spans-with_cover_last (cover_of (h.top / unit) (same_values v (size / unit))) cs below
    ∙ (λ i. same i ++ units (h.top / unit, count i))
    ∙ sym (acquired_units unit h kind size)
    ∙ ap (λ (g : HeapView). map (units_of unit) g.segments) (sym is)

-- ---- the tables of a heap

module _ (h : HeapView) (heap : IsHeap h) (base : ℕ) (at : base ≡ h.top) where
  -- its cards lie below its top
  pub cards_below_top : (cards : List (CoverView ℕ)) → AreCardsOf (frame h) cards → AreBelow (base / 2048) (spans cards)
  cards_below_top cards own =
      subst (λ (top : ℕ). AreBelow (top / 2048) (spans cards)) (sym at)
      (subst (AreBelow (h.top / 2048)) (sym own) (cards_under h.top h.segments heap.segments heap.below_top))

  -- and so do its bricks
  pub bricks_below_top : (bricks : List (CoverView ℤ)) → AreBricksOf (frame h) bricks
      → AreBelow (base / 4096) (spans bricks)
  bricks_below_top bricks own =
      subst (λ (top : ℕ). AreBelow (top / 4096) (spans bricks)) (sym at)
      (subst (AreBelow (h.top / 4096)) (sym own) (bricks_under h.top h.segments heap.segments heap.below_top))

  module _ (kind : SegKind) (size : ℕ) (new : HeapView) (is : new ≡ acquired h kind size) where
    -- cards that are taken there are those of a new segment
    pub cards_taken : (cards cards' : List (CoverView ℕ)) → AreCardsOf (frame h) cards
        → cards' ≡ with_cover (clear_cards base size) cards → AreCardsOf (frame new) cards'
    cards_taken cards cards' own taken =
        units_taken 0 2048 size cards cards' h new kind is own
        (subst (λ (top : ℕ). EndBelow (top / 2048) (spans cards)) at
        (ends_below (base / 2048) (spans cards) (cards_below_top cards own)))
        (subst (λ (top : ℕ). cards' ≡ with_cover (clear_cards top size) cards) at taken)

    -- and so are bricks
    pub bricks_taken : (bricks bricks' : List (CoverView ℤ)) → AreBricksOf (frame h) bricks
        → bricks' ≡ with_cover (new_bricks base size) bricks → AreBricksOf (frame new) bricks'
    bricks_taken bricks bricks' own taken =
        units_taken (pos 0) 4096 size bricks bricks' h new kind is own
        (subst (λ (top : ℕ). EndBelow (top / 4096) (spans bricks)) at
        (ends_below (base / 4096) (spans bricks) (bricks_below_top bricks own)))
        (subst (λ (top : ℕ). bricks' ≡ with_cover (new_bricks top size) bricks) at taken)
