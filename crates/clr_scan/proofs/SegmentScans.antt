-- A scan of the set cards of a segment's older part.
use Rattle.std.proofs.Common.{◌≡◌, ◌⊎◌, inl, inr, ℕ, ◌+◌, ◌*◌, ◌/◌, ◌%◌, ◌<◌, ◌≤◌, Bool, true, false, List, length}
use Rattle.std.proofs.Common.{refl, ap, sym, ◌∙◌, subst, arith, ℤ}
use Rattle.std.proofs.lemmas.Bool.{cases_Bool, cases_eq, cases_lt, true≢false}
use Rattle.clr_covers.specs.Covers.{CoverView, is_covered}
use Rattle.clr_covers.proofs.Finding.{share_covered}
use Rattle.clr_cards.specs.Cards.{is_card_set}
use Rattle.clr_types.specs.Rising.{IsIn}
use Rattle.clr_types.specs.Segments.{reserved_end}
use Rattle.clr_types.specs.Types.{TypeRow}
use Rattle.clr_types.specs.declared.item.Item.{Item}
use Rattle.clr_types.proofs.RisingLists.{all_at}
use Rattle.clr_heap.specs.Parts.{item_at}
use Rattle.clr_heap.specs.View.{first_of, heap_items, HeapView, last_of, listing, segment_at, word_of}
use Rattle.clr_heap.proofs.Framing.{lawful_at}
use Rattle.clr_heap.proofs.Staying.{outside_other}
use Rattle.clr_view.proofs.Items.{IsItem, stacked-apart}
use Rattle.clr_view.proofs.Listings.{heap-stacked, listing-are}
use Rattle.clr_view.proofs.ObjectItems.{stands-item}
use Rattle.clr_view.specs.SlotValues.{StandsAt}
use Rattle.clr_generations.specs.Laws.{IsBrickOf}
use Rattle.clr_scan.specs.Entries.{EntriesStand, HaveBricks, IsEntryPlace}
use Rattle.clr_scan.specs.OldParts.{AreOlder}
use Rattle.clr_scan.specs.References.{RefersDown}
use Rattle.clr_scan.specs.Scans.{AreTraced, HasScanned, IsCursor}
use Rattle.clr_scan.specs.SetCards.{AreClear, AreCleared, AreSettled, CardsTell}
use Rattle.clr_mark.specs.Marks.{IsClosed, IsRemarked}
use Rattle.clr_mark.specs.Waiting.{IsGray, MarkerView}
use Rattle.clr_scan.proofs.CardScans.{condemned-most, older-above, scanned-refl, scanned-trans, traced-on}
use Rattle.clr_mark.proofs.Held.{remarked_back}
use Rattle.clr_scan.proofs.RunScans.{last-on, cursor-on, inside-on, law-on, quiet-on, traced-back}
use Rattle.clr_view.proofs.Standing.{listed_from, standing}

module _ (rows : List TypeRow) (h : HeapView) (closed : IsClosed rows h) (k : ℕ) (inside : k < length h.segments) where
  -- an item between the bounds of a segment is one of its
  place-home : (i : Item) → IsIn i (heap_items rows h) → (segment_at h k).base ≤ i.place
      → i.place < reserved_end (segment_at h k) → IsIn i (listing rows h k)
  place-home i listed low high =
      let home = standing rows h closed.heap closed.held i listed in
      let up = home.above in
      let down = home.below in
      let all = home.reserved in
      let least = home.least in
      elim (cases_eq home.segment k) [
        | inl same ↦ subst (λ n. IsIn i (listing rows h n)) same home.listed
        | inr ne ↦ elim (outside_other h home.segment k i.place closed.heap home.in_range inside ne (omega arith)
            (omega arith)) [ inl under ↦ absurd (omega arith) | inr over ↦ absurd (omega arith) ]
      ]

  -- a walk can begin at the first place
  pub first-cursor : IsCursor rows h k (first_of h k) (first_of h k)
  first-cursor =
      let s = lawful_at h k closed.heap inside in
      let base = s.base in
      record {
        low = omega arith;
        high = s.low;
        aligned = omega (arith, base);
        whole = λ i l. inl (all_at (IsItem rows (first_of h k) (last_of h k)) l
            (listing-are rows h closed.held.walkable k inside)).above;
      }

  -- or further behind
  pub cursor-up : (p lo hi : ℕ) → lo ≤ hi → IsCursor rows h k p lo → IsCursor rows h k p hi
  cursor-up p lo hi l c = record {
    low = c.low;
    high = c.high;
    aligned = c.aligned;
    whole = λ i m.
        elim (c.whole i m) [ inl up ↦ inl up | inr (down, under) ↦ inr (down, omega arith) ];
  }

  -- or at an object that an entry of its bricks names
  pub entry-cursor : (entry : ℕ → ℤ) (lo x : ℕ) → EntriesStand rows h entry → lo < last_of h k → first_of h k < x
      → x ≤ lo → IsEntryPlace entry (first_of h k / 4096) (lo / 4096) x → IsCursor rows h k x lo
  entry-cursor entry lo x named top up under e =
      let s = lawful_at h k closed.heap inside in
      let base = s.base in
      let reserved = s.reserved in
      let high = s.high in
      let b = e.brick in
      let above = e.above in
      let most = e.below in
      let own : IsBrickOf (segment_at h k) b = (omega (arith, above), omega (arith, base, reserved, high, top, most)) in
      let stands : StandsAt rows h x =
      subst (λ n. StandsAt rows h n) (sym e.at) (named k b e.offset inside own e.root) in
      let it = item_at rows (word_of h) x in
      let at = stands-item rows h closed.heap closed.held x stands in
      let place : it.place ≡ x = at.at in
      let home = standing rows h closed.heap closed.held it at.listed in
      let z = home.aligned in
      record {
        low = omega arith;
        high = omega arith;
        aligned = omega (arith, z, place);
        whole = λ i l. elim (cases_eq i.place x) [
          | inl same ↦ inl (omega arith)
          | inr ne ↦ elim (stacked-apart (heap_items rows h) i it
              (heap-stacked rows h closed.held.walkable closed.heap) (listed_from rows h k i inside l) at.listed
              (λ q. ne (q ∙ place))) [
                | inl before ↦ inr (omega (arith, place, before), omega (arith, place, before))
                | inr after ↦ let least = home.least in inl (omega (arith, place, after))
              ]
        ];
      }

  -- the bricks of the segment are covered
  pub bricks-covered : (bricks : List (CoverView ℤ)) (lo i : ℕ) → HaveBricks h bricks → lo < last_of h k
      → first_of h k / 4096 ≤ i → i ≤ lo / 4096 → is_covered bricks i ≡ true
  bricks-covered bricks lo i have top low high =
      let s = lawful_at h k closed.heap inside in
      let base = s.base in
      let reserved = s.reserved in
      let end = s.high in
      share_covered bricks i i (have k inside i i (omega arith) (omega arith) (omega arith) (omega arith))

  -- where no card is set, nothing condemned is named by what is older
  pub clear-traced : (is_set : ℕ → Bool) (now : HeapView) (g lo hi end : ℕ) → CardsTell rows h is_set
      → AreClear is_set lo hi → AreOlder h g k end → hi ≤ end → AreTraced h rows now g k lo hi
  clear-traced is_set now g lo hi end law clear older most i a l r low high ne near =
      let listed = listed_from rows h k i inside l in
      let is = all_at (IsItem rows (first_of h k) (last_of h k)) l (listing-are rows h closed.held.walkable k inside) in
      let up = is.above in
      let address = r.address in
      let old = older-above h g i.place (older i.place up (omega arith)) in
      let young = condemned-most h g (word_of h a) near in
      let younger : RefersDown rows h a =
      record { item = i; listed = listed; reference = r; not_null = ne; younger = omega (arith, old, young) } in
      absurd (true≢false (sym (law a younger) ∙ clear a low high))

-- ---- the scan

-- the older part was scanned up to `at`
pub record IsSegmentScan (rows : List TypeRow) (h now : HeapView) (m n : MarkerView) (old cards : List (CoverView ℕ))
    (k first end at cursor : ℕ) : Type 0 where
  pub gray : IsGray rows now n
  pub scanned : HasScanned rows h now m n
  pub from : first ≤ at
  pub to : at ≤ end
  pub grid : (at ≡ end) ⊎ (at % 2048 ≡ 0)
  pub traced : AreTraced h rows now m.oldest k first at
  pub place : IsCursor rows h k cursor at
  pub settled : AreSettled rows h old cards
  pub cleared : AreCleared rows h (is_card_set cards) k first at

pub segment_starts : (rows : List TypeRow) (h : HeapView) (m : MarkerView) (cards : List (CoverView ℕ)) (k end : ℕ)
    → IsGray rows h m → k < length h.segments → first_of h k ≤ end → CardsTell rows h (is_card_set cards)
    → IsSegmentScan rows h h m m cards cards k (first_of h k) end (first_of h k) (first_of h k)
segment_starts rows h m cards k end gray inside order law =
    let base = (lawful_at h k gray.closed.heap inside).base in
    record {
      gray = gray;
      scanned = scanned-refl rows h m;
      from = omega arith;
      to = order;
      grid = inr (omega (arith, base));
      traced = λ i a l r low high. absurd (omega arith);
      place = first-cursor rows h gray.closed k inside;
      settled = record { law = law; kept = λ i e. e; spans = refl };
      cleared = λ c low high. absurd (omega arith);
    }

-- a card that was clear stays so
pub still-clear : (old new : ℕ → Bool) → ((i : ℕ) → new i ≡ true → old i ≡ true) → (i : ℕ) → old i ≡ false
    → new i ≡ false
still-clear old new kept i off =
    elim (cases_Bool (new i)) [ inl on ↦ absurd (true≢false (sym (kept i on) ∙ off)) | inr e ↦ e ]

-- what was settled on the way is settled from the start
pub settled-on : (rows : List TypeRow) (h now : HeapView) (old cards after : List (CoverView ℕ)) → IsClosed rows h
    → IsClosed rows now → IsRemarked rows h now → AreSettled rows h old cards → AreSettled rows now cards after
    → AreSettled rows h old after
settled-on rows h now old cards after closed after_closed r s t = record {
  law = law-on rows now h after_closed (remarked_back rows h now closed.heap closed.held r) (is_card_set after) t.law;
  kept = λ i e. s.kept i (t.kept i e);
  spans = t.spans ∙ s.spans;
}

module _ (rows : List TypeRow) (h now : HeapView) (m n : MarkerView) (old cards : List (CoverView ℕ))
    (k end at cursor : ℕ) (closed : IsClosed rows h) (inside : k < length h.segments)
    (older : AreOlder h m.oldest k end) (s : IsSegmentScan rows h now m n old cards k (first_of h k) end at cursor)
  where
    r : IsRemarked rows h now
    r = s.scanned.remarked

    -- the end
    module _ (clear : AreClear (is_card_set cards) at end) where
      pub segment_traced : AreTraced h rows now m.oldest k (first_of h k) end
      segment_traced i a l ref low high = elim (cases_lt a at) [
        | inl early ↦ s.traced i a l ref low early
        | inr late ↦ clear-traced rows h closed k inside (is_card_set cards) now m.oldest at end end s.settled.law clear
            older (omega arith) i a l ref late high
      ]

      pub segment_cleared : AreCleared rows h (is_card_set cards) k (first_of h k) end
      segment_cleared c low high whole all = elim (cases_lt (2048 * c + 2047) at) [
        | inl early ↦ s.cleared c low (omega arith) (inl (omega arith)) all
        | inr late ↦ elim s.grid [
          | inl past ↦ s.cleared c low (omega (arith, past, high)) (elim whole [
            | inl w ↦ inl (omega (arith, past, w))
            | inr e ↦ inr (past ∙ e)
          ]) all
          | inr z ↦ let e : 2048 * c / 2048 ≡ c = omega arith in ap (is_card_set cards) (sym e)
              ∙ clear (2048 * c) (omega arith) (omega arith)
        ]
      ]

    -- the next run
    module _ (lo hi : ℕ) (up : at ≤ lo) (some : lo < hi) (under : hi ≤ end) (clear : AreClear (is_card_set cards) at lo)
        (ends : (hi ≡ end) ⊎ (hi % 2048 ≡ 0)) where
      module _ (new : HeapView) (o : MarkerView) (after : List (CoverView ℕ)) (next : ℕ) (gray : IsGray rows new o)
          (q : HasScanned rows now new n o) (traced : AreTraced now rows new n.oldest k lo hi)
          (place : IsCursor rows now k next hi) (settled : AreSettled rows now cards after)
          (cleared : AreCleared rows now (is_card_set after) k lo hi) where
        more_cleared : AreCleared rows h (is_card_set after) k (first_of h k) hi
        more_cleared c low high whole all = elim (cases_lt (2048 * c + 2047) at) [
          | inl early ↦ still-clear (is_card_set cards) (is_card_set after) settled.kept c
              (s.cleared c low (omega arith) (inl (omega arith)) all)
          | inr late ↦ elim s.grid [
            | inl past ↦ absurd (omega arith)
            | inr z ↦ elim (cases_lt (2048 * c) lo) [
              | inl before ↦
                  let e : 2048 * c / 2048 ≡ c = omega arith in
                  still-clear (is_card_set cards) (is_card_set after) settled.kept c (ap (is_card_set cards) (sym e)
                  ∙ clear (2048 * c) (omega arith) before)
              | inr within ↦ cleared c within high (elim whole [
                | inl w ↦ inl w
                | inr e ↦ inr (e ∙ sym (last-on rows h now closed r k inside))
              ])
                  (quiet-on rows h now closed r k inside (2048 * c) (2048 * c + 2048) all)
            ]
          ]
        ]

        -- THE NEXT RUN
        pub segment_next : IsSegmentScan rows h new m o old after k (first_of h k) end hi next
        segment_next = record {
          gray = gray;
          scanned = scanned-trans rows h now new m n o closed.heap closed.held s.scanned q;
          from = let f = s.from in omega arith;
          to = under;
          grid = ends;
          traced = λ i a l ref low high. elim (cases_lt a at) [
            | inl early ↦ traced-on h rows now new m.oldest a q.kept (s.traced i a l ref low early)
            | inr late ↦ elim (cases_lt a lo) [
              | inl before ↦ clear-traced rows h closed k inside (is_card_set cards) new m.oldest at lo end
                  s.settled.law clear older (omega arith) i a l ref late before
              | inr within ↦
                  traced-back rows h now closed r k inside new m n lo hi s.scanned traced i a l ref within high
            ]
          ];
          place = cursor-on rows now h s.gray.closed (remarked_back rows h now closed.heap closed.held r) k
              (inside-on rows h now closed r k inside) next hi place;
          settled = settled-on rows h now old cards after closed s.gray.closed r s.settled settled;
          cleared = more_cleared;
        }

      -- where its walk begins
      pub near-cursor : (entry : ℕ → ℤ) (x : ℕ) → EntriesStand rows h entry → end ≤ last_of h k → (x ≡ cursor)
          ⊎ ((cursor < x) × (x ≤ lo) × IsEntryPlace entry (first_of h k / 4096) (lo / 4096) x)
          → IsCursor rows now k x lo
      near-cursor entry x named top which = cursor-on rows h now closed r k inside x lo (elim which [
        | inl same ↦ subst (λ n. IsCursor rows h k n lo) (sym same)
            (cursor-up rows h closed k inside cursor at lo up s.place)
        | inr (behind, before, e) ↦ let low = s.place.low in
            entry-cursor rows h closed k inside entry lo x named (omega arith) (omega arith) before e
      ])
