-- Old objects can be met by set cards: by the laws of cards and bricks before a plan.
use Rattle.std.proofs.Common.{◌≡◌, inl, inr, ℕ, ◌+◌, ◌-◌, ◌*◌, ◌/◌, ◌<◌, ◌≤◌, Bool, true, false}
use Rattle.std.proofs.Common.{◌==◌, List, refl}
use Rattle.std.proofs.Common.{ap, sym, ◌∙◌, subst, arith, length, if◌then◌else◌, nat_le, nat_lt, ◌&&◌, ℤ}
use Rattle.std.proofs.lemmas.Bool.{both_ways, cases_eq, cases_lt, cases_order, eq-eqb, le-leb, leb-true}
use Rattle.std.proofs.lemmas.Bool.{lt-leb}
use Rattle.std.proofs.lemmas.Bool.{ne_eqb}
use Rattle.clr_types.specs.Segments.{ephemeral, first_place, generation, reserved_end, stands_in}
use Rattle.clr_types.specs.Types.{TypeRow}
use Rattle.clr_covers.specs.Covers.{CoverView, is_covered}
use Rattle.clr_cards.specs.Cards.{is_card_set}
use Rattle.clr_bricks.specs.Bricks.{entry_at}
use Rattle.clr_heap.specs.View.{first_of, frame, HeapView, IsHeap, last_of, segment_at, word_of}
use Rattle.clr_heap.specs.Parts.{item_at}
use Rattle.clr_heap.proofs.Framing.{below_top_at, lawful_at}
use Rattle.clr_heap.proofs.Staying.{segment_order}
use Rattle.clr_model.specs.Compaction.{Move}
use Rattle.clr_model.specs.Reach.{SlotNames}
use Rattle.clr_model.specs.Sweep.{part_start}
use Rattle.clr_view.specs.SlotValues.{StandsAt}
use Rattle.clr_view.specs.View.{objects_in}
use Rattle.clr_view.proofs.ObjectItems.{stands-item}
use Rattle.clr_view.proofs.Standing.{standing}
use Rattle.clr_mark.specs.Marks.{IsClosed}
use Rattle.clr_generations.specs.Laws.{CardLaw}
use Rattle.clr_generations.specs.Tables.{AreBricksOf, AreCardsOf}
use Rattle.clr_generations.proofs.Covered.{brick-covered}
use Rattle.clr_scan.specs.OldParts.{HaveOldParts}
use Rattle.clr_scan.specs.References.{IsReferenceOf}
use Rattle.clr_scan.proofs.CardScans.{ref_stands}
use Rattle.clr_scan.proofs.TableLaws.{cards_have, cards_tell, entries_stand}
use Rattle.clr_plugs.specs.BrickEntries.{BricksView}
use Rattle.clr_pinq.specs.declared.entry.PinEntry.{PinEntry}
use Rattle.clr_reloc.specs.Partial.{HaveEntriesOf, HaveOldPartsOf, IsPartial}
use Rattle.clr_moves.specs.Moves.{age_of, IsInPart, IsInPlug, move_at, part_of, plug_stop, room_end, takes}
use Rattle.clr_moves.specs.Objects.{AreRemembered}
use Rattle.clr_moves.specs.Overlaid.{HoldsPlan}
use Rattle.clr_moves.specs.declared.condemned.Condemned.{Condemned}
use Rattle.clr_moves.specs.declared.condemned.Condemned.TheVariants.{Generations, LargeSegments}
use Rattle.clr_moves.specs.declared.planned.Planned.{Planned}
use Rattle.clr_reloc.specs.Outside.{HaveNoneOver, outside_end}
use Rattle.clr_reloc.specs.Relocated.{rebounded}
use Rattle.clr_reloc.specs.Scanning.{AreEntriesSound, AreInRow, AreQuietWhereClear, border_of, CanScan, entry_before}
use Rattle.clr_reloc.specs.Scanning.{HaveEntries}
use Rattle.clr_reloc.proofs.Boundaries.{boundaries_up, ephemeral_at, not_younger}
use Rattle.clr_reloc.proofs.ClearCards.{was_clear}
use Rattle.clr_reloc.proofs.LeftHomes.{age_most, none_over, not_reached, reached}
use Rattle.clr_reloc.proofs.Outer.{outside_high, outside_low}
use Rattle.clr_reloc.proofs.Plugs.{moved_none}

module _ (rows : List TypeRow) (view h : HeapView) (bricks : BricksView) (entries : List PinEntry) (oldest : ℕ)
    (vs : List Move) (planned : Planned) (least : oldest ≤ 2) (young : oldest < 2)
    (plan : HoldsPlan rows view h bricks entries (Generations oldest) vs planned.start1 planned.start0)
    (old : oldest < 2 → HaveOldParts rows view oldest) where
  abbrev g : Condemned
  g = Generations oldest

  heap : IsHeap view
  heap = plan.overlaid.heap

  over : HaveNoneOver rows view g
  over = none_over rows view g least plan.overlaid.heap plan.held old

  low_of_part : (t : ℕ) → t < length view.segments → first_of view t ≤ outside_end view g t
  low_of_part t l = outside_low rows view g vs plan.overlaid.heap plan.held plan.no_contexts plan.overlaid.moves
      plan.overlaid.starts over t l

  high_of_part : (t : ℕ) → t < length view.segments → outside_end view g t ≤ reserved_end (segment_at view t)
  high_of_part t l = outside_high rows view g vs plan.overlaid.heap plan.held plan.no_contexts plan.overlaid.moves
      plan.overlaid.starts over t l

  part_end : (t : ℕ) → takes g (segment_at view t) ≡ true
      → outside_end view g t ≡ part_of view g t
  part_end t on = ap (λ b. if b then part_of view g t else last_of view t) on

  -- ---- tables

  row : (cards : List (CoverView ℕ)) → AreCardsOf (frame view) cards → (t : ℕ) → t < length view.segments
      → AreInRow cards (first_of view t) (outside_end view g t)
  row cards of t l a b la ha lb hb =
      let s = lawful_at view t heap l in
      let base = s.base in
      let reserved = s.reserved in
      let top = high_of_part t l in
      cards_have view cards heap of t l (a / 2048) (b / 2048) (omega arith) (omega arith) (omega arith) (omega arith)

  covered : AreBricksOf (frame view) bricks → (t : ℕ) → t < length view.segments
      → HaveEntries bricks (first_of view t) (outside_end view g t)
  covered of t l i low high =
      let s = lawful_at view t heap l in
      let base = s.base in
      let top = high_of_part t l in
      let from = low_of_part t l in
      let same : i * 4096 / 4096 ≡ i = omega arith in
      subst (λ n. is_covered bricks n ≡ true) same
      (brick-covered view t (i * 4096) heap l (omega arith) (omega arith) bricks of)

  -- ---- entries

  module _ (entry : ℕ → ℤ)
      (told : AreRemembered rows view bricks g entry planned.below planned.first) where
    same_part : (t u : ℕ) → t < length view.segments → u < length view.segments
        → takes g (segment_at view t) ≡ true → takes g (segment_at view u) ≡ true
        → segment_at view u ≡ segment_at view t
    same_part t u l m on_t on_u =
        ephemeral_at rows view h bricks entries oldest vs planned.start1 planned.start0 plan least young u m on_u
        ∙ sym (ephemeral_at rows view h bricks entries oldest vs planned.start1 planned.start0 plan least young t l
        on_t)

    entry_is : (t i : ℕ) → t < length view.segments → first_of view t / 4096 ≤ i → i ≤ (outside_end view g t - 1) / 4096
        → entry_before bricks planned.below planned.first (border_of view g t) i ≡ entry i
    entry_is t i l low high = go (takes g (segment_at view t)) refl
      where
        top : outside_end view g t ≤ reserved_end (segment_at view t)
        top = high_of_part t l

        from : first_of view t ≤ outside_end view g t
        from = low_of_part t l

        go : (b : Bool) → takes g (segment_at view t) ≡ b
            → entry_before bricks planned.below planned.first (border_of view g t) i ≡ entry i
        go true on =
            let hi_end = top in
            let lo_end = from in
            let border : border_of view g t ≡ outside_end view g t / 4096 =
            ap (λ b. if b then outside_end view g t / 4096 else 18446744073709551615) on in
            let end = part_end t on in
            let eph = ephemeral_at rows view h bricks entries oldest vs planned.start1 planned.start0 plan least young t
            l on in
            let first_is = told.first_is t eph l in
            let below_is = told.below_is t eph l in
            elim (cases_eq i (border_of view g t)) [
              | inl e ↦
                  let at : part_of view g t / 4096 ≡ i = omega arith in
                  ap (λ b. if b then planned.first else (if i + 1 == border_of view g t then planned.below
                  else entry_at bricks i)) (eq-eqb i (border_of view g t) e) ∙ first_is ∙ ap entry at
              | inr n ↦
                  ap (λ b. if b then planned.first else (if i + 1 == border_of view g t then planned.below
                  else entry_at bricks i)) (ne_eqb i (border_of view g t) n)
                  ∙ elim (cases_eq (i + 1) (border_of view g t)) [
                    | inl e ↦
                        let at : part_of view g t / 4096 - 1 ≡ i = omega arith in
                        ap (λ b. if b then planned.below else entry_at bricks i) (eq-eqb (i + 1) (border_of view g t) e)
                        ∙ below_is ∙ ap entry at
                    | inr m ↦
                        ap (λ b. if b then planned.below else entry_at bricks i) (ne_eqb (i + 1) (border_of view g t) m)
                        ∙ told.others i (λ u lu on_u.
                        let same = ap (λ s. part_start (frame view) oldest s) (same_part t u l lu on on_u) in
                        inl (omega arith))
                  ]
            ]
        go false off =
            let border : border_of view g t ≡ 18446744073709551615 =
            ap (λ b. if b then outside_end view g t / 4096 else 18446744073709551615) off in
            let small = heap.top_small in
            let hi_end = top in
            let lo_end = from in
            let s = lawful_at view t heap l in
            let room = below_top_at view t heap l in
            ap (λ b. if b then planned.first else (if i + 1 == border_of view g t then planned.below
            else entry_at bricks i)) (ne_eqb i (border_of view g t) (λ e. omega arith))
            ∙ ap (λ b. if b then planned.below else entry_at bricks i)
            (ne_eqb (i + 1) (border_of view g t) (λ e. omega arith))
            ∙ told.others i (λ u lu on_u.
            let base_t = s.base in
            let su = lawful_at view u heap lu in
            let base_u = su.base in
            let end_u = su.high in
            let start_u = (plan.overlaid.moves.starts u lu on_u).0 in
            elim (cases_order t u) [
              | inl e ↦ absurd (both_ways (takes g (segment_at view t)) off
                  (subst (λ n. takes g (segment_at view n) ≡ true) (sym e) on_u))
              | inr (inl less) ↦ let o = segment_order view t u heap less lu in inl (omega arith)
              | inr (inr more) ↦ let o = segment_order view u t heap more l in inr (omega arith)
            ])

    sound : (t : ℕ) → t < length view.segments
        → AreEntriesSound rows view (entry_before bricks planned.below planned.first (border_of view g t))
        (first_of view t) (outside_end view g t)
    sound t l place p =
        let top = high_of_part t l in
        let from = low_of_part t l in
        let s = lawful_at view t heap l in
        let base = s.base in
        let reserved = s.reserved in
        let above = p.above in
        let below = p.below in
        subst (StandsAt rows view) (sym p.at)
        (entries_stand rows view entry told.law t p.brick p.offset l (omega arith, omega arith)
        (sym (entry_is t p.brick l p.above p.below) ∙ p.root))

  -- ---- cards

  module _ (named : (x y : ℕ) → SlotNames (objects_in rows view) x y → StandsAt rows view y)
      (cards : List (CoverView ℕ)) (law : CardLaw rows (frame view) (objects_in rows view) (is_card_set cards))
      (is_set : ℕ → Bool) (kept : (c : ℕ) → is_card_set cards c ≡ true → is_set c ≡ true) where
    closed : IsClosed rows view
    closed = record { heap = plan.overlaid.heap; held = plan.held; named = named }

    plug_part : (k y : ℕ) → IsInPlug vs k y → (t : ℕ) × IsInPart view g t y
    plug_part k y p =
        let s = plan.overlaid.starts k p.within in
        let u = s.0 in
        let part = s.1 in
        let lu = part.in_range in
        let m = plan.overlaid.moves.each k p.within in
        let lf = m.from_in in
        let f_low = m.from_low in
        let f_high = m.from_high in
        let part_low = part.low in
        let part_high = part.high in
        let big = m.least in
        let u_starts = (plan.overlaid.moves.starts u lu part.takes).0 in
        let same : m.from ≡ u = elim (cases_order m.from u) [
          | inl e ↦ e
          | inr (inl less) ↦ let o = segment_order view m.from u heap less lu in absurd (omega arith)
          | inr (inr more) ↦ let o = segment_order view u m.from heap more lf in absurd (omega arith)
        ] in
        let room : plug_stop (move_at vs k) ≤ room_end view u =
        subst (λ n. plug_stop (move_at vs k) ≤ room_end view n) same f_high in
        let low = p.low in
        let high = p.high in
        (u, record { in_range = lu; takes = part.takes; low = omega arith; high = omega arith })

    -- an object in a plug is of a generation that is collected
    young_there : (k y : ℕ) → IsInPlug vs k y → StandsAt rows view y → generation (frame view) y ≤ oldest
    young_there k y p stands =
        let (t, part) = plug_part k y p in
        let o = stands-item rows view heap plan.held y stands in
        let s = standing rows view heap plan.held (item_at rows (word_of view) y) o.listed in
        let at = o.at in
        let low = s.above in
        let high = s.below in
        let size = s.least in
        let reserved = s.reserved in
        let part_low = part.low in
        let part_high = part.high in
        let lt = part.in_range in
        let end = part_end t part.takes in
        let first_low = (plan.overlaid.moves.starts t lt part.takes).0 in
        let same : s.segment ≡ t = elim (cases_order s.segment t) [
          | inl e ↦ e
          | inr (inl less) ↦ let o = segment_order view s.segment t heap less lt in absurd (omega arith)
          | inr (inr more) ↦ let o = segment_order view t s.segment heap more s.in_range in absurd (omega arith)
        ] in
        let last = ap (last_of view) same in
        leb-true (generation (frame view) y) oldest
        (reached rows view g least plan.overlaid.heap plan.held old t y lt (omega arith) (omega arith))

    older : (t x : ℕ) → t < length view.segments → first_of view t ≤ x → x < outside_end view g t
        → oldest < generation (frame view) x
    older t x l low high = elim (cases_lt oldest (generation (frame view) x)) [
      | inl less ↦ less
      | inr more ↦ absurd (both_ways (nat_le (generation (frame view) x) oldest)
          (not_reached rows view oldest least plan.overlaid.heap plan.held old t x l young low high)
          (le-leb (generation (frame view) x) oldest more))
    ]

    not_null : (y : ℕ) → y ≡ 0 → generation (rebounded (frame view) planned) y ≡ 2
    not_null y zero =
        let below : y < first_place (ephemeral (frame view)) = omega arith in
        ap (λ b. if b && nat_lt y (reserved_end (ephemeral (frame view))) then (if nat_lt y planned.start1 then 2
        else (if nat_lt y planned.start0 then 1 else 0)) else 2)
        (lt-leb (first_place (ephemeral (frame view))) y below)

    quiet : (t : ℕ) → t < length view.segments
        → AreQuietWhereClear rows view g vs (rebounded (frame view) planned) is_set (first_of view t)
        (outside_end view g t)
    quiet t l i offset left low high m off =
        let y = word_of view (i.place + offset) in
        let ref : IsReferenceOf rows i (i.place + offset) =
        record { object = left.object; offset = offset; reference = m; address = refl } in
        let clear = was_clear (is_card_set cards) is_set kept ((i.place + offset) / 2048) off in
        let up = older t i.place l low high in
        elim (cases_eq (word_of view (i.place + offset)) 0) [
          | inl zero ↦ (
            moved_none vs (word_of view (i.place + offset)) (λ k p.
                let (u, part) = plug_part k (word_of view (i.place + offset)) p in
                let a = part.low in
                let b = (plan.overlaid.moves.starts u part.in_range part.takes).0 in
                omega arith),
            λ less.
                let two = not_null (word_of view (i.place + offset)) zero in
                let most = age_most (rebounded (frame view) planned) i.place in
                omega arith,
          )
          | inr ne ↦
              let order : generation (frame view) i.place ≤ generation (frame view) (word_of view (i.place + offset)) =
              elim (cases_lt (generation (frame view) (word_of view (i.place + offset)))
              (generation (frame view) i.place)) [
                | inr more ↦ more
                | inl less ↦ absurd (both_ways (is_card_set cards ((i.place + offset) / 2048)) clear
                    (cards_tell rows view closed (is_card_set cards) law (i.place + offset) (record {
                      item = i;
                      listed = left.listed;
                      reference = ref;
                      not_null = ne;
                      younger = less;
                    })))
              ] in
              let stands = ref_stands rows view closed i left.listed (i.place + offset) ref ne in
              let b = boundaries_up rows view h bricks entries oldest vs planned.start1 planned.start0 plan least young
              in (
                moved_none vs (word_of view (i.place + offset)) (λ k p.
                    let c = young_there k (word_of view (i.place + offset)) p stands in
                    omega arith),
                not_younger oldest (stands_in (ephemeral (frame view)) (word_of view (i.place + offset)))
                    (stands_in (ephemeral (frame view)) i.place) (word_of view (i.place + offset)) i.place view.start1
                    view.start0 planned.start1 planned.start0 young b.0 b.1 up order,
              )
        ]

    pub can_scan : (entry : ℕ → ℤ) → AreRemembered rows view bricks g entry planned.below planned.first
        → (covers : List (CoverView ℕ)) → AreCardsOf (frame view) covers → AreBricksOf (frame view) bricks
        → CanScan rows view covers bricks g vs (rebounded (frame view) planned) is_set planned.below planned.first
    can_scan entry told covers cards_of bricks_of = record {
      quiet = quiet;
      sound = sound entry told;
      entries = covered bricks_of;
      row = row covers cards_of;
    }

-- in a compaction of less than all generations
pub can_scan_part : (rows : List TypeRow) (view h : HeapView) (bricks : BricksView) (entries : List PinEntry)
    (g : Condemned) (vs : List Move) (planned : Planned) → age_of g ≤ 2 → IsPartial g
    → HoldsPlan rows view h bricks entries g vs planned.start1 planned.start0 → HaveOldPartsOf rows view g
    → ((x y : ℕ) → SlotNames (objects_in rows view) x y → StandsAt rows view y) → (cards : List (CoverView ℕ))
    → CardLaw rows (frame view) (objects_in rows view) (is_card_set cards) → (is_set : ℕ → Bool)
    → ((c : ℕ) → is_card_set cards c ≡ true → is_set c ≡ true) → (entry : ℕ → ℤ)
    → HaveEntriesOf rows view bricks g entry planned.below planned.first → (covers : List (CoverView ℕ))
    → AreCardsOf (frame view) covers → AreBricksOf (frame view) bricks
    → CanScan rows view covers bricks g vs (rebounded (frame view) planned) is_set planned.below planned.first
can_scan_part rows view h bricks entries (Generations oldest) vs planned least young plan old named cards law is_set
    kept entry told covers cards_of bricks_of =
    can_scan rows view h bricks entries oldest vs planned least young plan old named cards law is_set kept entry told
    covers cards_of bricks_of
can_scan_part rows view h bricks entries LargeSegments vs planned least young plan old named cards law is_set kept
    entry told covers cards_of bricks_of = absurd young
