-- The first pause: one more item of a segment or one more gap, on a walk over its old part.
use Rattle.std.proofs.Common.{◌≡◌, ◌≢◌, ℕ, ◌+◌, ◌*◌, ◌%◌, ◌<◌, ◌≤◌, ◌⊎◌, inl, inr, List, length, refl, sym, ap}
use Rattle.std.proofs.Common.{subst, ◌∙◌, arith, Bool, true, false, if◌then◌else◌, ◌||◌, nat_eq}
use Rattle.std.proofs.lemmas.Bool.{both_ways, cases_eq, eq-eqb, eqb-true, ne_eqb}
use Rattle.clr_types.specs.Segments.{generation}
use Rattle.clr_types.specs.Types.{TypeRow}
use Rattle.clr_types.specs.declared.item.Item.{Item}
use Rattle.clr_heap.specs.Parts.{item_at}
use Rattle.clr_heap.specs.View.{frame, HeapView, IsHeap, last_of, segment_at, word_of}
use Rattle.clr_heap.proofs.Framing.{lawful_at}
use Rattle.clr_bgmark.specs.Bits.{has_bit, with_bit}
use Rattle.clr_bgmark.specs.FirstParts.{gapped_one, IsFresh, IsTold}
use Rattle.clr_bgmark.specs.Pauses.{is_oldest, taken_one, used_of}
use Rattle.clr_bgmark.specs.Shades.{cell_of, IsShade, PartView, ShadeView, with_taken}
use Rattle.clr_bgmark.specs.Tiles.{IsEdge}
use Rattle.clr_bgmark.proofs.FirstPause.{used_part}
use Rattle.clr_bgmark.proofs.FirstTaken.{free_left, object_taken, shape}
use Rattle.clr_bgmark.proofs.Kept.{cell_room, or_true}
use Rattle.clr_bgmark.proofs.MoreBits.{bit_added, with_bit_length}

-- the old part, as if it ended there
abbrev pub with_stop : PartView → ℕ → PartView
with_stop p y = record p { stop = y }

-- ---- a set with one number more

module _ (words : List ℕ) (n : ℕ) (room : n < 64 * length words) where
  bit_here : has_bit (with_bit words n) n ≡ true
  bit_here = bit_added words n room n ∙ ap (λ b. b || has_bit words n) (eq-eqb n n refl)

  bit_stays : (i : ℕ) → has_bit words i ≡ true → has_bit (with_bit words n) i ≡ true
  bit_stays i e = bit_added words n room i ∙ ap (λ b. nat_eq i n || b) e ∙ or_true (nat_eq i n)

  bit_from : (i : ℕ) → has_bit (with_bit words n) i ≡ true → (i ≡ n) ⊎ (has_bit words i ≡ true)
  bit_from i e = elim (cases_eq i n) [
    | inl same ↦ inl same
    | inr other ↦
        inr (sym (bit_added words n room i ∙ ap (λ b. b || has_bit words i) (ne_eqb i n other)) ∙ e)
  ]

-- ---- one item

-- what is taken of a segment leaves room for its bits
pub taken_lawful : (h : HeapView) (s : ShadeView) (i : Item) → IsShade s → IsShade (taken_one h s i)
taken_lawful h s i is = go (is_oldest h i)
  where
    go : (b : Bool) → IsShade (if b then with_taken i.place s else s)
    go true = record {
      base = is.base;
      size = is.size;
      fits = is.fits;
      taken = let room = is.taken in
          let same = with_bit_length s.taken (cell_of s i.place) in omega (arith, room, same);
      marked = is.marked;
      scanned = is.scanned;
      logged = is.logged;
    }
    go false = is

-- a gap begins where a free item does
pub gap_free : (s : ShadeView) (p : PartView) (i : Item) (place cell : ℕ) → i.place ≡ place → i.type_id.0 ≡ 0
    → cell ≡ cell_of s place → record p { gaps = with_bit p.gaps cell } ≡ gapped_one s p i
gap_free s p i place cell at free is =
    ap (λ n. record p { gaps = with_bit p.gaps n }) (is ∙ ap (cell_of s) (sym at))
    ∙ ap (λ b. if b then record p { gaps = with_bit p.gaps (cell_of s i.place) } else p)
    (sym (eq-eqb i.type_id.0 0 free))

-- and none where an object does
pub gap_none : (s : ShadeView) (p : PartView) (i : Item) → i.type_id.0 ≢ 0 → p ≡ gapped_one s p i
gap_none s p i object =
    ap (λ b. if b then record p { gaps = with_bit p.gaps (cell_of s i.place) } else p)
    (sym (ne_eqb i.type_id.0 0 object))

-- ---- where a walk begins

pub told_none : (rows : List TypeRow) (h : HeapView) (s : ShadeView) (p : PartView) (place : ℕ) → IsFresh s p
    → place ≡ s.base + 4096 → 4096 ≤ s.size → IsTold rows h s (with_stop p place)
told_none rows h s p place fresh at large =
    let base = fresh.lawful.base in
    record {
      part = record {
        low = omega (arith, at);
        high = omega (arith, at, large);
        aligned = omega (arith, at, base);
        room = fresh.untold.room;
        first = inl (sym at);
        taken_low = λ n e. absurd (both_ways (has_bit s.taken n) (fresh.bare n) e);
        taken_high = λ n e. absurd (both_ways (has_bit s.taken n) (fresh.bare n) e);
        gaps_low = λ n e. absurd (both_ways (has_bit p.gaps n) (fresh.untold.none n) e);
        gaps_high = λ n e. absurd (both_ways (has_bit p.gaps n) (fresh.untold.none n) e);
      };
      whole = omega (arith, base);
      edges = λ n e. absurd (both_ways (has_bit s.taken n) (fresh.bare n) e);
    }

-- ---- one step of it

module _ (rows : List TypeRow) (h : HeapView) (s : ShadeView) (p : PartView) (place next : ℕ) (lawful : IsShade s)
    (told : IsTold rows h s (with_stop p place)) (aligned : place % 8 ≡ 0) (up : place < next)
    (within : next ≤ s.base + s.size) (whole : next % 8 ≡ 0) where
  at : s.base + 8 * cell_of s place ≡ place
  at = let base = lawful.base in let low = told.part.low in omega (arith, base, low, aligned)

  low : s.base + 4096 ≤ place
  low = told.part.low

  room_in : (words : List ℕ) → s.size ≤ 512 * length words → cell_of s place < 64 * length words
  room_in words room =
      let from = low in
      cell_room s place (length words)
      (record { low = omega (arith, from); high = omega (arith, up, within) }) room

  -- an object stands there, which is taken
  module _ (size : place + (item_at rows (word_of h) place).size ≡ next) where
    taken_in_it : cell_of s place < 64 * length s.taken
    taken_in_it = room_in s.taken lawful.taken

    edge_taken : (y : ℕ) → IsEdge s (with_stop p place) y → IsEdge (with_taken place s) (with_stop p next) y
    edge_taken y (inl e) =
        inr (
          omega (arith, e, up),
          inl (subst (λ z. has_bit (with_bit s.taken (cell_of s place)) (cell_of s z) ≡ true)
              (sym e) (bit_here s.taken (cell_of s place) taken_in_it)),
        )
    edge_taken y (inr (l, inl t)) =
        inr (omega (arith, l, up), inl (bit_stays s.taken (cell_of s place) taken_in_it (cell_of s y) t))
    edge_taken y (inr (l, inr g)) = inr (omega (arith, l, up), inr g)

    -- so the walk goes on behind it
    pub told_object : IsTold rows h (with_taken place s) (with_stop p next)
    told_object = record {
      part = record {
        low = let from = low in omega (arith, from, up);
        high = within;
        aligned = whole;
        room = told.part.room;
        first = edge_taken (s.base + 4096) told.part.first;
        taken_low = λ n e. elim (bit_from s.taken (cell_of s place) taken_in_it n e) [
          | inl same ↦ let is = at in let from = low in omega (arith, is, same, from)
          | inr old ↦ told.part.taken_low n old
        ];
        taken_high = λ n e. elim (bit_from s.taken (cell_of s place) taken_in_it n e) [
          | inl same ↦ let is = at in omega (arith, is, same, up)
          | inr old ↦ let below = told.part.taken_high n old in omega (arith, below, up)
        ];
        gaps_low = told.part.gaps_low;
        gaps_high = λ n e. let below = told.part.gaps_high n e in omega (arith, below, up);
      };
      whole = told.whole;
      edges = λ n e. elim (bit_from s.taken (cell_of s place) taken_in_it n e) [
        | inl same ↦
            let here : s.base + 8 * n ≡ place = ap (λ m. s.base + 8 * m) same ∙ at in
            inl (ap (λ a. a + (item_at rows (word_of h) a).size) here ∙ size)
        | inr old ↦
            edge_taken (s.base + 8 * n + (item_at rows (word_of h) (s.base + 8 * n)).size) (told.edges n old)
      ];
    }

  gap_in_it : cell_of s place < 64 * length p.gaps
  gap_in_it = room_in p.gaps told.part.room

  abbrev gapped : PartView
  gapped = record p { gaps = with_bit p.gaps (cell_of s place) }

  edge_gapped : (y : ℕ) → IsEdge s (with_stop p place) y → IsEdge s (with_stop gapped next) y
  edge_gapped y (inl e) =
      inr (
        omega (arith, e, up),
        inr (subst (λ z. has_bit (with_bit p.gaps (cell_of s place)) (cell_of s z) ≡ true)
            (sym e) (bit_here p.gaps (cell_of s place) gap_in_it)),
      )
  edge_gapped y (inr (l, inl t)) = inr (omega (arith, l, up), inl t)
  edge_gapped y (inr (l, inr g)) =
      inr (omega (arith, l, up), inr (bit_stays p.gaps (cell_of s place) gap_in_it (cell_of s y) g))

  -- a gap begins there
  pub told_gap : IsTold rows h s (with_stop (record p { gaps = with_bit p.gaps (cell_of s place) }) next)
  told_gap = record {
    part = record {
      low = let from = low in omega (arith, from, up);
      high = within;
      aligned = whole;
      room = let was = told.part.room in
          let same = with_bit_length p.gaps (cell_of s place) in omega (arith, was, same);
      first = edge_gapped (s.base + 4096) told.part.first;
      taken_low = told.part.taken_low;
      taken_high = λ n e. let below = told.part.taken_high n e in omega (arith, below, up);
      gaps_low = λ n e. elim (bit_from p.gaps (cell_of s place) gap_in_it n e) [
        | inl same ↦ let is = at in let from = low in omega (arith, is, same, from)
        | inr old ↦ told.part.gaps_low n old
      ];
      gaps_high = λ n e. elim (bit_from p.gaps (cell_of s place) gap_in_it n e) [
        | inl same ↦ let is = at in omega (arith, is, same, up)
        | inr old ↦ let below = told.part.gaps_high n old in omega (arith, below, up)
      ];
    };
    whole = told.whole;
    edges = λ n e. edge_gapped (s.base + 8 * n + (item_at rows (word_of h) (s.base + 8 * n)).size) (told.edges n e);
  }

  -- an item of generation 2 stands there
  pub told_item : (i : Item) → i ≡ item_at rows (word_of h) place → i.place ≡ place
      → generation (frame h) place ≡ 2 → place + i.size ≡ next
      → IsTold rows h (taken_one h s i) (with_stop (gapped_one s p i) next)
  told_item i is there old size = go (nat_eq i.type_id.0 0) refl
    where
      Told : ShadeView → PartView → Type 0
      Told t q = IsTold rows h t (with_stop q next)

      go : (z : Bool) → nat_eq i.type_id.0 0 ≡ z → Told (taken_one h s i) (gapped_one s p i)
      go true e =
          let free : i.type_id.0 ≡ 0 = eqb-true i.type_id.0 0 e in
          subst (λ q. Told (taken_one h s i) q) (gap_free s p i place (cell_of s place) there free refl)
          (subst (λ t. Told t (record p { gaps = with_bit p.gaps (cell_of s place) })) (free_left h s i free) told_gap)
      go false e =
          let object : i.type_id.0 ≢ 0 = λ f. both_ways (nat_eq i.type_id.0 0) e (eq-eqb i.type_id.0 0 f) in
          subst (λ q. Told (taken_one h s i) q) (gap_none s p i object)
          (subst (λ t. Told t p) (object_taken h s i place there object old)
          (told_object (ap (λ (j : Item). place + j.size) (sym is) ∙ size)))

-- the same under other names
pub told_as : (rows : List TypeRow) (h : HeapView) (s t : ShadeView) (p q : PartView) (n m : ℕ) → t ≡ s → q ≡ p → m ≡ n
    → IsTold rows h s (with_stop p n) → IsTold rows h t (with_stop q m)
told_as rows h s t p q n m shade part stop told =
    subst (λ a. IsTold rows h a (with_stop q m)) (sym shade)
    (subst (λ a. IsTold rows h s (with_stop a m)) (sym part)
    (subst (λ a. IsTold rows h s (with_stop p a)) (sym stop) told))

-- all up to a segment's end has bits
pub within_used : (h : HeapView) → IsHeap h → (k : ℕ) → k < length h.segments → (s : ShadeView)
    → shape s ≡ used_of (segment_at h k) → (a : ℕ) → a ≤ last_of h k → a ≤ s.base + s.size
within_used h heap k inside s is a low =
    let base = ap (λ (p : ℕ × ℕ). p.0) is in
    let size = ap (λ (p : ℕ × ℕ). p.1) is in
    let holds = (used_part (segment_at h k) (lawful_at h k heap inside)).holds in
    omega (arith, base, size, holds, low)
