-- A scan of the cards of a run, one after the other.
use Rattle.std.proofs.Common.{◌≡◌, ◌⊎◌, inl, inr, ℕ, ◌+◌, ◌-◌, ◌*◌, ◌/◌, ◌%◌, ◌^◌, ◌<◌, ◌≤◌, Bool, true, false, List}
use Rattle.std.proofs.Common.{length, refl, ap, sym, ◌∙◌, subst, arith}
use Rattle.std.proofs.lemmas.Bool.{cases_Bool, cases_eq, cases_lt, true≢false}
use Rattle.clr_covers.specs.Covers.{CoverView, HasAll, is_covered, share_cover, spans}
use Rattle.clr_covers.proofs.Finding.{share_covered}
use Rattle.clr_covers.proofs.Spans.{HasAll-spans}
use Rattle.clr_cards.specs.Cards.{is_card_set}
use Rattle.clr_types.specs.Rising.{IsIn}
use Rattle.clr_types.specs.Segments.{generation, reserved_end}
use Rattle.clr_types.specs.Types.{TypeRow}
use Rattle.clr_types.specs.declared.item.Item.{Item}
use Rattle.clr_heap.specs.View.{first_of, frame, heap_items, HeapView, last_of, listing, segment_at, word_of}
use Rattle.clr_heap.proofs.Framing.{below_top_at, lawful_at}
use Rattle.clr_heap.proofs.Staying.{outside_other}
use Rattle.clr_scan.specs.OldParts.{AreOlder}
use Rattle.clr_scan.specs.References.{AreQuiet, IsReferenceOf, RefersDown}
use Rattle.clr_scan.specs.Scans.{AreTraced, HasScanned, IsCursor}
use Rattle.clr_scan.specs.SetCards.{AreCleared, AreSettled, CardsTell, HaveCards, IsCardSettled}
use Rattle.clr_mark.specs.Marks.{IsClosed, IsRemarked}
use Rattle.clr_mark.specs.Waiting.{IsGray, MarkerView}
use Rattle.clr_scan.proofs.CardScans.{ref_cell, ref_word, same-age, scanned-refl, scanned-trans, traced-from, traced-on}
use Rattle.clr_mark.proofs.Graying.{same_condemned}
use Rattle.clr_mark.proofs.Held.{remarked_back}
use Rattle.clr_mark.proofs.Remarking.{keeps_items, keeps_listing, same_segments}
use Rattle.clr_view.proofs.Standing.{listed_from, standing}

-- ---- what stays where marks alone change

module _ (rows : List TypeRow) (h now : HeapView) (closed : IsClosed rows h) (r : IsRemarked rows h now) where
  -- a reference to a younger object was one before
  pub younger-back : (a : ℕ) → RefersDown rows now a → RefersDown rows h a
  younger-back a n =
      let listed = subst (λ (is : List Item). IsIn n.item is) (keeps_items rows h now closed.heap closed.held r)
      n.listed in
      let word = ref_word rows h closed n.item listed a n.reference now r in
      let target = same-age rows h now (word_of h a) r in
      let own = same-age rows h now n.item.place r in
      let w = ap (generation (frame now)) word in
      let less = n.younger in
      record {
        item = n.item;
        listed = listed;
        reference = n.reference;
        not_null = λ e.
            n.not_null (word ∙ e);
        younger = omega (arith, word, target, own, w, less);
      }

  pub law-on : (is_set : ℕ → Bool) → CardsTell rows h is_set → CardsTell rows now is_set
  law-on is_set law a n = law a (younger-back a n)

  module _ (k : ℕ) (inside : k < length h.segments) where
    listing-on : listing rows now k ≡ listing rows h k
    listing-on = keeps_listing rows h now closed.heap closed.held r k inside

    pub first-on : first_of now k ≡ first_of h k
    first-on = ap (λ (g : HeapView). first_of g k) r.shape.others

    pub last-on : last_of now k ≡ last_of h k
    last-on = ap (λ (g : HeapView). last_of g k) r.shape.others

    pub inside-on : k < length now.segments
    inside-on = let n = same_segments h now r.shape in omega (arith, n, inside)

    pub cursor-on : (p lo : ℕ) → IsCursor rows h k p lo → IsCursor rows now k p lo
    cursor-on p lo c =
        let low = c.low in
        let high = c.high in
        let f = first-on in
        let l = last-on in
        record {
          low = omega (arith, f, low);
          high = omega (arith, l, high);
          aligned = c.aligned;
          whole = λ i m.
              c.whole i (subst (λ (is : List Item). IsIn i is) listing-on m);
        }

    pub older-on : (g hi : ℕ) → AreOlder h g k hi → AreOlder now g k hi
    older-on g hi older x low below = let f = first-on in same_condemned rows h now g x r
        ∙ older x (omega (arith, f, low)) below

    pub quiet-back : (lo hi : ℕ) → AreQuiet rows now k lo hi → AreQuiet rows h k lo hi
    quiet-back lo hi quiet i a l ref low high ne less =
        let word = ref_word rows h closed i (listed_from rows h k i inside l) a ref now r in
        let target = same-age rows h now (word_of h a) r in
        let own = same-age rows h now i.place r in
        let w = ap (generation (frame now)) word in
        quiet i a (subst (λ (is : List Item). IsIn i is) (sym listing-on) l) ref low high (λ e. ne (sym word ∙ e))
        (omega (arith, target, own, w, less))

    pub quiet-on : (lo hi : ℕ) → AreQuiet rows h k lo hi → AreQuiet rows now k lo hi
    quiet-on lo hi quiet i a l ref low high ne less =
        let there = subst (λ (is : List Item). IsIn i is) listing-on l in
        let word = ref_word rows h closed i (listed_from rows h k i inside there) a ref now r in
        let target = same-age rows h now (word_of h a) r in
        let own = same-age rows h now i.place r in
        let w = ap (generation (frame now)) word in
        quiet i a there ref low high (λ e. ne (word ∙ e)) (omega (arith, target, own, w, less))

    -- what was followed on the way, was followed from the start
    pub traced-back : (new : HeapView) (m n : MarkerView) (lo hi : ℕ) → HasScanned rows h now m n
        → AreTraced now rows new n.oldest k lo hi → AreTraced h rows new m.oldest k lo hi
    traced-back new m n lo hi s traced i a l ref low high =
        traced-from h rows now new m n a s
        (ref_word rows h closed i (listed_from rows h k i inside l) a ref now s.remarked)
        (traced i a (subst (λ (is : List Item). IsIn i is) (sym listing-on) l) ref low high)

-- ---- the addresses of a segment

module _ (rows : List TypeRow) (h : HeapView) (closed : IsClosed rows h) (k : ℕ) (inside : k < length h.segments) where
  -- a reference between the bounds of a segment is one of its items'
  pub item-home : (i : Item) (a : ℕ) → IsIn i (heap_items rows h) → IsReferenceOf rows i a → (segment_at h k).base ≤ a
      → a < reserved_end (segment_at h k) → IsIn i (listing rows h k) × (a < last_of h k)
  item-home i a listed r low high =
      let home = standing rows h closed.heap closed.held i listed in
      let cell = ref_cell rows h closed i listed a r in
      let address = r.address in
      let up = home.above in
      let down = home.below in
      let all = home.reserved in
      let top = cell.high in
      elim (cases_eq home.segment k) [
        | inl same ↦ (
          subst (λ n. IsIn i (listing rows h n)) same home.listed,
          subst (λ n. a < last_of h n) same
              (omega arith),
        )
        | inr ne ↦ elim (outside_other h home.segment k a closed.heap home.in_range inside ne (omega arith)
            (omega arith)) [ inl under ↦ absurd (omega arith) | inr over ↦ absurd (omega arith) ]
      ]

  pub last-small : last_of h k ≤ 2 ^ 62
  last-small =
      let lawful = (lawful_at h k closed.heap inside).high in
      let top = below_top_at h k closed.heap inside in
      let small = closed.heap.top_small in
      omega arith

  -- its cards are covered
  pub card-covered : (cards : List (CoverView ℕ)) (a : ℕ) → HaveCards h cards → first_of h k ≤ a → a < last_of h k
      → is_covered cards (a / 2048) ≡ true
  card-covered cards a have low high =
      let s = lawful_at h k closed.heap inside in
      let base = s.base in
      let reserved = s.reserved in
      let top = s.high in
      share_covered cards (a / 2048) (a / 2048)
      (have k inside (a / 2048) (a / 2048) (omega arith) (omega arith) (omega arith) (omega arith))

  pub cards-shared : (cards : List (CoverView ℕ)) (lo hi : ℕ) → HaveCards h cards → first_of h k ≤ lo
      → hi ≤ last_of h k → lo < hi → share_cover cards (lo / 2048) ((hi - 1) / 2048) ≡ true
  cards-shared cards lo hi have low high some =
      let s = lawful_at h k closed.heap inside in
      let base = s.base in
      let reserved = s.reserved in
      let top = s.high in
      have k inside (lo / 2048) ((hi - 1) / 2048) (omega arith) (omega arith) (omega arith) (omega arith)

  -- the law after the card of a stretch was cleared where nothing on it names a younger object
  pub law-settled : (old new : ℕ → Bool) (at next : ℕ) (younger : Bool) → CardsTell rows h old
      → IsCardSettled old new at next (last_of h k) younger → first_of h k ≤ at → at < next → next ≤ last_of h k
      → next ≤ 2048 * (at / 2048 + 1)
      → (younger ≡ false → AreQuiet rows h k at next) → CardsTell rows h new
  law-settled old new at next younger law s low some high near quiet a n = elim (cases_eq (a / 2048) (at / 2048)) [
    | inr ne ↦ s.others (a / 2048) ne ∙ law a n
    | inl same ↦ elim (cases_Bool (new (at / 2048))) [
      | inl on ↦ ap new same ∙ on
      | inr off ↦ elim (s.reason off) [
        | inl was ↦ absurd (true≢false (sym (ap old (sym same) ∙ law a n) ∙ was))
        | inr (none, aligned, whole) ↦
            let lawful = lawful_at h k closed.heap inside in
            let base = lawful.base in
            let reserved = lawful.reserved in
            let top = lawful.high in
            let (here, under) = item-home n.item a n.listed n.reference (omega arith) (omega arith) in
            let below : a < next = elim whole
            [ inl grid ↦ omega (arith, grid, same, aligned, some) | inr last ↦ omega arith ] in
            absurd (quiet none n.item a here n.reference (omega arith) below n.not_null n.younger)
      ]
    ]
  ]

-- covers stay while cards are cleared
pub cards-on : (h now : HeapView) (old new : List (CoverView ℕ)) → now ≡ record h { memories = now.memories }
    → spans new ≡ spans old → HaveCards h old → HaveCards now new
cards-on h now old new others same have k l =
    let at = ap (λ (g : HeapView). segment_at g k) others in
    let n = ap (λ (g : HeapView). length g.segments) others in
    HasAll-spans old new ((segment_at now k).base / 2048) (reserved_end (segment_at now k) / 2048) (sym same)
    (subst (λ s. HasAll old (s.base / 2048) (reserved_end s / 2048)) (sym at) (have k (omega (arith, n, l))))

-- ---- the run

-- the stretch from lo up to `at` was scanned, card by card
pub record IsRunScan (rows : List TypeRow) (h now : HeapView) (m n : MarkerView) (old cards : List (CoverView ℕ))
    (k lo hi at place : ℕ) : Type 0 where
  pub gray : IsGray rows now n
  pub scanned : HasScanned rows h now m n
  pub from : lo ≤ at
  pub to : at ≤ hi
  pub grid : (at ≡ lo) ⊎ ((at % 2048 ≡ 0) ⊎ (at ≡ hi))
  pub traced : AreTraced h rows now m.oldest k lo at
  pub cursor : IsCursor rows h k place at
  pub settled : AreSettled rows h old cards
  pub cleared : AreCleared rows h (is_card_set cards) k lo at

pub run_starts : (rows : List TypeRow) (h : HeapView) (m : MarkerView) (cards : List (CoverView ℕ))
    (k lo hi place : ℕ) → IsGray rows h m → lo ≤ hi → IsCursor rows h k place lo
    → CardsTell rows h (is_card_set cards) → IsRunScan rows h h m m cards cards k lo hi lo place
run_starts rows h m cards k lo hi place gray order cursor law = record {
  gray = gray;
  scanned = scanned-refl rows h m;
  from = omega arith;
  to = order;
  grid = inl refl;
  traced = λ i a l r low high. absurd (omega arith);
  cursor = cursor;
  settled = record { law = law; kept = λ i e. e; spans = refl };
  cleared = λ c low high. absurd (omega arith);
}

module _ (rows : List TypeRow) (h now : HeapView) (m n : MarkerView) (old cards : List (CoverView ℕ))
    (k lo hi at place : ℕ) (closed : IsClosed rows h) (inside : k < length h.segments) (first : first_of h k ≤ lo)
    (last : hi ≤ last_of h k) (s : IsRunScan rows h now m n old cards k lo hi at place) (below : at < hi)
    (next : ℕ) (up : at < next) (under : next ≤ hi) (near : next ≤ 2048 * (at / 2048 + 1)) (ends : (next ≡ hi)
    ⊎ (next % 2048 ≡ 0)) where
  r : IsRemarked rows h now
  r = s.scanned.remarked

  module _ (new : HeapView) (o : MarkerView) (after : List (CoverView ℕ)) (met : ℕ) (younger : Bool)
      (gray : IsGray rows new o) (q : HasScanned rows now new n o) (traced : AreTraced now rows new n.oldest k at next)
      (quiet : younger ≡ false → AreQuiet rows now k at next) (silent : AreQuiet rows now k at next → younger ≡ false)
      (cursor : IsCursor rows now k met next)
      (settled : IsCardSettled (is_card_set cards) (is_card_set after) at next (last_of h k) younger)
      (same : spans after ≡ spans cards) where
    all_traced : AreTraced h rows new m.oldest k lo next
    all_traced i a l ref low high = elim (cases_lt a at) [
      | inl early ↦ traced-on h rows now new m.oldest a q.kept (s.traced i a l ref low early)
      | inr late ↦ traced-back rows h now closed r k inside new m n at next s.scanned traced i a l ref late high
    ]

    all_settled : AreSettled rows h old after
    all_settled = record {
      law = let from = s.from in law-settled rows h closed k inside (is_card_set cards) (is_card_set after) at next
          younger s.settled.law settled (omega arith) up (omega arith) near
          (λ e. quiet-back rows h now closed r k inside at next (quiet e));
      kept = λ i e. elim (cases_eq i (at / 2048)) [
        | inl is ↦ s.settled.kept i (ap (is_card_set cards) is ∙ settled.kept (ap (is_card_set after) (sym is) ∙ e))
        | inr ne ↦ s.settled.kept i (sym (settled.others i ne) ∙ e)
      ];
      spans = same ∙ s.settled.spans;
    }

    all_cleared : AreCleared rows h (is_card_set after) k lo next
    all_cleared c low high whole all = elim (cases_lt (2048 * c + 2047) at) [
      | inl early ↦ settled.others c (λ e. omega (arith, e, early))
          ∙ s.cleared c low (omega arith) (inl (omega arith)) all
      | inr late ↦
          let is : c ≡ at / 2048 = omega (arith, late, high, near) in
          let aligned : at % 2048 ≡ 0 = elim s.grid [
            | inl start ↦ omega (arith, start, low, is)
            | inr more ↦ elim more [ inl z ↦ z | inr end ↦ absurd (omega arith) ]
          ] in
          let from : 2048 * c ≡ at = omega (arith, is, aligned) in
          let over : next ≤ 2048 * c + 2048 = omega (arith, is, near) in
          let stop : (next % 2048 ≡ 0) ⊎ (next ≡ last_of h k) = elim whole [
            | inl w ↦ inl (omega (arith, over, w))
            | inr e ↦ inr e
          ] in
          ap (is_card_set after) is
          ∙ settled.cleared (silent (quiet-on rows h now closed r k inside at next
          (λ i a l ref lo hi. all i a l ref (omega (arith, from, lo)) (omega (arith, over, hi))))) aligned stop
    ]

    -- THE NEXT CARD
    pub run_next : IsRunScan rows h new m o old after k lo hi next met
    run_next = record {
      gray = gray;
      scanned = scanned-trans rows h now new m n o closed.heap closed.held s.scanned q;
      from = let f = s.from in omega arith;
      to = under;
      grid = elim ends [ inl e ↦ inr (inr e) | inr z ↦ inr (inl z) ];
      traced = all_traced;
      cursor = cursor-on rows now h gray_closed (remarked_back rows h now closed.heap closed.held r) k inside-now met
          next cursor;
      settled = all_settled;
      cleared = all_cleared;
    }
      where
        gray_closed : IsClosed rows now
        gray_closed = s.gray.closed

        inside-now : k < length now.segments
        inside-now = inside-on rows h now closed r k inside
