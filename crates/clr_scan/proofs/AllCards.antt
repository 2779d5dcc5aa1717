-- A scan of the set cards of all segments, and what it marks in all.
use Rattle.std.proofs.Common.{◌≡◌, ◌⊎◌, ◌↔◌, inl, inr, ℕ, ◌+◌, ◌*◌, ◌/◌, ◌<◌, ◌≤◌, false, List, filter, length, refl}
use Rattle.std.proofs.Common.{ap, sym, ◌∙◌, subst, arith, ℤ}
use Rattle.std.proofs.lemmas.Bool.{cases_eq, cases_lt, true≢false}
use Rattle.clr_cards.specs.Cards.{is_card_set}
use Rattle.clr_covers.specs.Covers.{CoverView, HasAll}
use Rattle.clr_types.specs.Rising.{IsIn}
use Rattle.clr_types.specs.Segments.{reserved_end}
use Rattle.clr_types.specs.Types.{TypeRow}
use Rattle.clr_types.specs.declared.item.Item.{Item}
use Rattle.clr_types.proofs.ListMembers.{from-map}
use Rattle.clr_heap.specs.Parts.{item_at}
use Rattle.clr_heap.specs.View.{first_of, heap_items, HeapView, last_of, segment_at, word_of}
use Rattle.clr_model.specs.Machine.{Object}
use Rattle.clr_model.specs.Reach.{Reach, SlotNames, starts}
use Rattle.clr_view.specs.View.{is_object, object_in, objects_in}
use Rattle.clr_view.specs.SlotValues.{StandsAt}
use Rattle.clr_view.specs.Marks.{Marked}
use Rattle.clr_view.proofs.ObjectItems.{stands-item}
use Rattle.clr_generations.specs.Laws.{IsBrickOf}
use Rattle.clr_scan.specs.Entries.{EntriesStand, HaveBricks}
use Rattle.clr_scan.specs.OldParts.{AreOlder, HasOldPart, HaveOldParts, old_end}
use Rattle.clr_scan.specs.References.{IsNamedByOlder, IsReferenceOf}
use Rattle.clr_scan.specs.Scans.{AreTraced, HasScanned}
use Rattle.clr_scan.specs.SetCards.{AreCleared, AreSettled, CardsTell}
use Rattle.clr_mark.specs.Marks.{is_condemned_place, IsClosed, IsRemarked, LeadsTo}
use Rattle.clr_mark.specs.Waiting.{IsGray, MarkerView}
use Rattle.clr_scan.proofs.CardScans.{IsScanStart, ref_cell, scanned-refl, scanned-trans, traced-on}
use Rattle.clr_mark.proofs.Graying.{leads_back, leads_on, reach_bind, same_condemned}
use Rattle.clr_mark.proofs.References.{refers_from}
use Rattle.clr_mark.proofs.Remarking.{keeps_listing, keeps_stands, same_segments}
use Rattle.clr_scan.proofs.RunScans.{older-on, quiet-on, traced-back}
use Rattle.clr_scan.proofs.SegmentScans.{settled-on, still-clear}
use Rattle.clr_view.proofs.Standing.{standing}

-- ---- what stays where marks alone change

module _ (rows : List TypeRow) (h now : HeapView) (closed : IsClosed rows h) (r : IsRemarked rows h now) where
  pub entries-on : (entry : ℕ → ℤ) → EntriesStand rows h entry → EntriesStand rows now entry
  entries-on entry named k brick offset inside own root =
      let n = same_segments h now r.shape in
      let same = ap (λ (g : HeapView). segment_at g k) r.shape.others in
      keeps_stands rows h now closed.heap closed.held r (4096 * brick + offset)
      (named k brick offset (omega (arith, n, inside)) (subst (λ s. IsBrickOf s brick) same own) root)

  pub bricks-on : (bricks : List (CoverView ℤ)) → HaveBricks h bricks → HaveBricks now bricks
  bricks-on bricks have k l =
      let n = same_segments h now r.shape in
      subst (λ s. HasAll bricks (s.base / 4096) (reserved_end s / 4096))
      (sym (ap (λ (g : HeapView). segment_at g k) r.shape.others)) (have k (omega (arith, n, l)))

  module _ (g k : ℕ) (inside : k < length h.segments) where
    pub old_end-on : old_end now g k ≡ old_end h g k
    old_end-on = ap (λ (v : HeapView). old_end v g k) r.shape.others

    pub part-on : HasOldPart rows h g k → HasOldPart rows now g k
    part-on p =
        let e = old_end-on in
        let f = ap (λ (v : HeapView). first_of v k) r.shape.others in
        let t = ap (λ (v : HeapView). last_of v k) r.shape.others in
        let low = p.low in
        let high = p.high in
        record {
          low = omega (arith, e, f, low);
          high = omega (arith, e, t, high);
          whole = λ i l. subst (λ n. (n ≤ i.place) ⊎ (i.place + i.size ≤ n)) (sym e)
              (p.whole i (subst (λ (is : List Item). IsIn i is)
              (keeps_listing rows h now closed.heap closed.held r k inside) l));
          older = subst (λ n. AreOlder now g k n) (sym e)
              (older-on rows h now closed r k inside g (old_end h g k) p.older);
          young = λ x up below. same_condemned rows h now g x r
              ∙ p.young x (omega (arith, e, up)) (omega (arith, t, below));
        }

  pub parts-on : (g : ℕ) → HaveOldParts rows h g → HaveOldParts rows now g
  parts-on g parts k l =
      let n = same_segments h now r.shape in
      let inside : k < length h.segments = omega (arith, n, l) in
      part-on g k inside (parts k inside)

-- ---- the scan

-- the segments below k were scanned
pub record IsCardScan (rows : List TypeRow) (h now : HeapView) (m n : MarkerView) (old cards : List (CoverView ℕ))
    (k : ℕ) : Type 0 where
  pub gray : IsGray rows now n
  pub scanned : HasScanned rows h now m n
  pub traced : (j : ℕ) → j < k → j < length h.segments
      → AreTraced h rows now m.oldest j (first_of h j) (old_end h m.oldest j)
  pub settled : AreSettled rows h old cards
  pub cleared : (j : ℕ) → j < k → j < length h.segments
      → AreCleared rows h (is_card_set cards) j (first_of h j) (old_end h m.oldest j)

pub card_scan_starts : (rows : List TypeRow) (h : HeapView) (m : MarkerView) (cards : List (CoverView ℕ))
    → IsGray rows h m → CardsTell rows h (is_card_set cards) → IsCardScan rows h h m m cards cards 0
card_scan_starts rows h m cards gray law = record {
  gray = gray;
  scanned = scanned-refl rows h m;
  traced = λ j l. absurd (omega arith);
  settled = record { law = law; kept = λ i e. e; spans = refl };
  cleared = λ j l. absurd (omega arith);
}

module _ (rows : List TypeRow) (h now : HeapView) (m n : MarkerView) (old cards : List (CoverView ℕ)) (k : ℕ)
    (closed : IsClosed rows h) (s : IsCardScan rows h now m n old cards k) where
  r : IsRemarked rows h now
  r = s.scanned.remarked

  -- the next segment
  pub card_scan_next : (new : HeapView) (o : MarkerView) (after : List (CoverView ℕ)) → k < length h.segments
      → IsGray rows new o → HasScanned rows now new n o
      → AreTraced now rows new n.oldest k (first_of now k) (old_end now n.oldest k)
      → AreSettled rows now cards after
      → AreCleared rows now (is_card_set after) k (first_of now k) (old_end now n.oldest k)
      → IsCardScan rows h new m o old after (k + 1)
  card_scan_next new o after inside gray q traced settled cleared =
      let first = ap (λ (v : HeapView). first_of v k) r.shape.others in
      let end = ap (λ (g : ℕ). old_end now g k) s.scanned.oldest ∙ old_end-on rows h now closed r m.oldest k inside in
      let here = traced-back rows h now closed r k inside new m n (first_of now k) (old_end now n.oldest k) s.scanned
      traced in
      record {
        gray = gray;
        scanned = scanned-trans rows h now new m n o closed.heap closed.held s.scanned q;
        traced = λ j below l. elim (cases_eq j k) [
          | inl same ↦ subst (λ i. AreTraced h rows new m.oldest i (first_of h i) (old_end h m.oldest i)) (sym same)
              (λ i a listed ref low high. here i a listed ref (omega (arith, first, low)) (omega (arith, end, high)))
          | inr ne ↦ λ i a listed ref low high.
              traced-on h rows now new m.oldest a q.kept (s.traced j (omega arith) l i a listed ref low high)
        ];
        settled = settled-on rows h now old cards after closed s.gray.closed r s.settled settled;
        cleared = λ j below l. elim (cases_eq j k) [
          | inl same ↦ subst (λ i. AreCleared rows h (is_card_set after) i (first_of h i) (old_end h m.oldest i))
              (sym same)
              (λ c low high whole all. cleared c (omega (arith, first, low)) (omega (arith, end, high)) (elim whole [
                | inl w ↦ inl (omega (arith, end, w))
                | inr e ↦ inr (end ∙ e ∙ sym (ap (λ (v : HeapView). last_of v k) r.shape.others))
              ])
              (quiet-on rows h now closed r k inside (2048 * c) (2048 * c + 2048) all))
          | inr ne ↦ λ c low high whole all. still-clear (is_card_set cards) (is_card_set after) settled.kept c
              (s.cleared j (omega arith) l c low high whole all)
        ];
      }

  -- ---- the end

  -- an object that names another is the one that stands there
  named-stands : (x y : ℕ) → SlotNames (objects_in rows h) x y → StandsAt rows h x
  named-stands x y e =
      let found = from-map (object_in rows (word_of h)) e.object (filter is_object (heap_items rows h)) e.present in
      let place = ap (λ (o : Object). o.place) found.1 in
      let name = ap (λ (o : Object). o.name) found.1 in
      (e.object, e.present, place ∙ sym name ∙ e.named)

  -- what an older object names is marked
  pub older_marked : length h.segments ≤ k → HaveOldParts rows h m.oldest → (y : ℕ) → IsNamedByOlder rows h m.oldest y
      → Marked rows now y
  older_marked past parts y e =
      let x = e.by in
      let it = item_at rows (word_of h) x in
      let at = stands-item rows h closed.heap closed.held x (named-stands x y e.leads.named) in
      let place : it.place ≡ x = at.at in
      let refers = refers_from rows h closed.heap closed.held x it at y e.leads.named in
      let home = standing rows h closed.heap closed.held it at.listed in
      let up = home.above in
      let down = home.below in
      let least = home.least in
      let part = parts home.segment home.in_range in
      let old_off : is_condemned_place h m.oldest it.place ≡ false = ap (is_condemned_place h m.oldest) place
      ∙ e.older in
      let under : it.place < old_end h m.oldest home.segment =
      elim (cases_lt it.place (old_end h m.oldest home.segment)) [
        | inl l ↦ l
        | inr over ↦ absurd (true≢false (sym (part.young it.place over (omega arith)) ∙ old_off))
      ] in
      let whole : it.place + it.size ≤ old_end h m.oldest home.segment =
      elim (part.whole it home.listed) [ inl over ↦ absurd (omega arith) | inr l ↦ l ] in
      let a : ℕ = it.place + refers.offset in
      let ref : IsReferenceOf rows it a =
      record { object = at.object; offset = refers.offset; reference = refers.listed; address = refl } in
      let cell = ref_cell rows h closed it at.listed a ref in
      let high = cell.high in
      let inside = home.in_range in
      let word : word_of h a ≡ y = ap (λ p. word_of h (p + refers.offset)) place ∙ refers.holds in
      let some = refers.not_null in
      let traced = s.traced home.segment (omega arith) inside it a home.listed ref (omega arith) (omega arith) in
      subst (Marked rows now) word (traced (λ z. omega (arith, word, z, some))
      (ap (is_condemned_place h m.oldest) word ∙ e.leads.condemned))

  -- THE MARKS, when what is marked was followed
  pub card_scan_ends : (new : HeapView) → length h.segments ≤ k → HaveOldParts rows h m.oldest
      → ((x : ℕ) → Marked rows new x ↔ Reach (LeadsTo rows now n.oldest) (Marked rows now) x)
      → (x : ℕ) → Marked rows new x ↔ Reach (LeadsTo rows h m.oldest) (λ y. Marked rows h y
      ⊎ IsNamedByOlder rows h m.oldest y) x
  card_scan_ends new past parts drained x =
      let g = m.oldest in
      let P : ℕ → Type 0 = λ b. (x : ℕ) → Marked rows new x ↔ Reach (LeadsTo rows now b) (Marked rows now) x in
      let all = subst P s.scanned.oldest drained in (
        λ t. reach_bind (LeadsTo rows h g) (LeadsTo rows now g) (IsScanStart rows h g) (Marked rows now) x
            (leads_back rows h now closed.heap closed.held r g) s.scanned.reached ((all x).0 t),
        λ reach. (all x).1 (reach_bind (LeadsTo rows now g) (LeadsTo rows h g) (Marked rows now)
            (IsScanStart rows h g) x (leads_on rows h now closed.heap closed.held r g) (λ y t. elim t [
              | inl was ↦ starts (s.scanned.kept y was)
              | inr named ↦ starts (older_marked past parts y named)
            ]) reach),
      )
