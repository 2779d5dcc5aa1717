-- The bits of objects, by their segments and the numbers of their words.
use Rattle.std.proofs.Common.{◌≡◌, inl, inr, ℕ, ◌+◌, ◌-◌, ◌*◌, ◌/◌, ◌%◌, ◌<◌, ◌≤◌, ◌||◌, false, List, [], length}
use Rattle.std.proofs.Common.{get_or, set, eqb, nat_eq, refl, ap, ap₂, sym, ◌∙◌, subst, arith, get_or-set_same}
use Rattle.std.proofs.Common.{get_or-set_other}
use Rattle.std.proofs.Common.{length-set, ne_eqb, eq-eqb}
use Rattle.std.proofs.lemmas.Bool.{cases_Bool, cases_eq, eqb-true, eqb-false}
use Rattle.std.proofs.lemmas.List.{get_or_default}
use Rattle.clr_types.specs.declared.segment.SegInfo.{SegInfo}
use Rattle.clr_heap.specs.Memories.{HasWord, memory_index}
use Rattle.clr_heap.specs.Parts.{item_at}
use Rattle.clr_mem.specs.Words.{Memory}
use Rattle.clr_types.specs.Segments.{empty_segment}
use Rattle.clr_heap.specs.View.{HeapView, IsHeap, segment_at, word_of}
use Rattle.clr_heap.proofs.Framing.{count_is, lawful_at, memory_extent}
use Rattle.clr_heap.proofs.Storing.{contains_at_index, contains_bounds}
use Rattle.clr_view.proofs.ObjectItems.{stands-item}
use Rattle.clr_view.proofs.Standing.{cell_has, cell_index, mt_in, standing}
use Rattle.clr_sos.specs.Bits.{has_bit}
use Rattle.clr_sos.specs.Reaching.{HasRoom, HasRoomAt, is_seen, IsObjectOf, IsSound, word_number}
use Rattle.clr_sos.specs.declared.view.View.{View}

-- a word of the used range of segment k
pub record IsWordAt (h : HeapView) (k x : ℕ) : Type 0 where
  pub in_range : k < length h.segments
  pub low : (segment_at h k).base ≤ x
  pub high : x + 8 ≤ (segment_at h k).end
  pub aligned : x % 8 ≡ 0
  pub base_aligned : (segment_at h k).base % 8 ≡ 0
  pub end_aligned : (segment_at h k).end % 8 ≡ 0

-- the method table word of an object
pub record HasNumber (h : HeapView) (x : ℕ) : Type 0 where
  pub word : HasWord h.memories x
  pub at : IsWordAt h (memory_index h.memories x) x

pub numbered : (v : View) → IsSound v → (x : ℕ) → IsObjectOf v x → HasNumber v.heap.now x
numbered v sound x stands =
    let rows = v.types.now in
    let h = v.heap.now in
    let heap = sound.closed.heap in
    let held = sound.closed.held in
    let i = item_at rows (word_of h) x in
    let at = stands-item rows h heap held x stands in
    let s = standing rows h heap held i at.listed in
    let cell = mt_in rows h heap held i at.listed in
    let law = lawful_at h s.segment heap s.in_range in
    let place = at.at in
    let up = s.above in
    let down = s.below in
    let least = s.least in
    let aligned = s.aligned in
    let base = law.base in
    let here : memory_index h.memories x ≡ s.segment =
    ap (memory_index h.memories) (sym place) ∙ cell_index rows h heap held i i.place at.listed cell in
    record {
      word = subst (HasWord h.memories) place (cell_has rows h heap held i i.place at.listed cell);
      at = subst (λ (k : ℕ). IsWordAt h k x) (sym here) (record {
        in_range = s.in_range;
        low = omega (arith, up, place);
        high = omega (arith, down, place, least);
        aligned = omega (arith, aligned, place);
        base_aligned = omega (arith, base);
        end_aligned = law.aligned;
      });
    }

-- there is room for its bit
pub number_room : (h : HeapView) (seen : List (List ℕ)) (x : ℕ) → HasRoom h seen → HasNumber h x
    → word_number h x < 64 * length (get_or seen (memory_index h.memories x) [])
number_room h seen x room n =
    let r = room.room (memory_index h.memories x) n.at.in_range in
    let low = n.at.low in
    let high = n.at.high in
    omega (arith, r, low, high)

-- two words with one number are one
same_word : (h : HeapView) (k x y : ℕ) → IsWordAt h k x → IsWordAt h k y
    → (x - (segment_at h k).base) / 8 ≡ (y - (segment_at h k).base) / 8 → x ≡ y
same_word h k x y a b e =
    let low = a.low in
    let other = b.low in
    let z = a.aligned in
    let w = b.aligned in
    let base = a.base_aligned in
    omega (arith, e, low, other, z, w, base)

module _ (h : HeapView) (seen : List (List ℕ)) (x : ℕ) (bits : List ℕ) (n : HasNumber h x) where
  abbrev k : ℕ
  k = memory_index h.memories x

  -- a set for each segment still has its room
  pub room_more : HasRoom h seen → length bits ≡ length (get_or seen k []) → HasRoom h (set seen k bits)
  room_more room same = record {
    count = length-set seen k bits ∙ room.count;
    room = λ j l. elim (cases_eq j k) [
      | inl is ↦
          let count = room.count in
          let own = n.at.in_range in
          let here : get_or (set seen k bits) k [] ≡ bits =
          get_or-set_same seen k bits [] (omega (arith, own, count)) in
          let was = room.room k own in
          let size : length (get_or (set seen k bits) k []) ≡ length (get_or seen k []) = ap length here ∙ same in
          subst (HasRoomAt h (set seen k bits)) (sym is) (omega (arith, was, size))
      | inr apart ↦
          let other = get_or-set_other seen k j bits [] apart in
          let was = room.room j l in
          let size : length (get_or (set seen k bits) j []) ≡ length (get_or seen j []) = ap length other in
          omega (arith, was, size)
    ];
  }

  module _ (inside : k < length seen)
      (law : (i : ℕ) → has_bit bits i ≡ (nat_eq i (word_number h x) || has_bit (get_or seen k []) i)) where
    -- in the same segment
    near : (y : ℕ) → IsWordAt h k y
        → has_bit (get_or (set seen k bits) k []) ((y - (segment_at h k).base) / 8)
        ≡ (nat_eq y x || has_bit (get_or seen k []) ((y - (segment_at h k).base) / 8))
    near y a =
        let number = (y - (segment_at h k).base) / 8 in
        let here : get_or (set seen k bits) k [] ≡ bits = get_or-set_same seen k bits [] inside in
        let told = ap (λ (b : List ℕ). has_bit b number) here ∙ law number in
        elim (cases_Bool (eqb y x)) [
          | inl is ↦
              let same : number ≡ word_number h x =
              ap (λ (z : ℕ). (z - (segment_at h k).base) / 8) (eqb-true y x is) in
              let hit = eq-eqb number (word_number h x) same in
              rw is (told ∙ rw hit refl)
          | inr other ↦
              let miss : nat_eq number (word_number h x) ≡ false = ne_eqb number (word_number h x)
              (λ e. eqb-false y x other (same_word h k y x a n.at e)) in
              rw other (told ∙ rw miss refl)
        ]

    -- ONE BIT MORE, as all objects are seen
    pub seen_more : (y : ℕ) → HasNumber h y → is_seen h (set seen k bits) y ≡ (nat_eq y x || is_seen h seen y)
    seen_more y m = elim (cases_eq (memory_index h.memories y) k) [
      | inl same ↦
          let P : ℕ → Type 0 = λ j. has_bit (get_or (set seen k bits) j []) ((y - (segment_at h j).base) / 8)
          ≡ (nat_eq y x || has_bit (get_or seen j []) ((y - (segment_at h j).base) / 8)) in
          subst P (sym same) (near y (subst (λ (j : ℕ). IsWordAt h j y) same m.at))
      | inr apart ↦
          let other = get_or-set_other seen k (memory_index h.memories y) bits [] apart in
          let miss : nat_eq y x ≡ false = ne_eqb y x (λ e. apart (ap (memory_index h.memories) e)) in
          ap (λ (b : List ℕ). has_bit b (word_number h y)) other ∙ rw miss refl
    ]

-- THE SAME AS CODE MEETS IT: segment k of the word was read as s, and its set as bits
module _ (h : HeapView) (seen : List (List ℕ)) (x k : ℕ) (s : SegInfo) (bits : List ℕ) (room : HasRoom h seen)
    (n : HasNumber h x) (index : k ≡ memory_index h.memories x) (segment : s ≡ segment_at h k)
    (read : bits ≡ get_or seen k bits) where
  -- as a number in the segment
  abbrev number : ℕ
  number = (x - s.base) / 8

  number-is : number ≡ word_number h x
  number-is = ap (λ (t : SegInfo). (x - t.base) / 8) (segment ∙ ap (segment_at h) index)

  inside : k < length seen
  inside = let count = room.count in let l = n.at.in_range in omega (arith, count, l, index)

  bits-are : bits ≡ get_or seen (memory_index h.memories x) []
  bits-are = read ∙ get_or_default seen k bits [] inside ∙ ap (λ (j : ℕ). get_or seen j []) index

  pub met_room : number < 64 * length bits
  met_room =
      let l = number_room h seen x room n in
      let size = ap (λ (b : List ℕ). length b) bits-are in
      let same = number-is in
      omega (arith, l, size, same)

  pub met_seen : has_bit bits number ≡ is_seen h seen x
  met_seen = ap₂ (λ (b : List ℕ) (j : ℕ). has_bit b j) bits-are number-is

  module _ (new : List ℕ) (size : length new ≡ length bits)
      (law : (i : ℕ) → has_bit new i ≡ (nat_eq i number || has_bit bits i)) where
    pub met_rooms : HasRoom h (set seen k new)
    met_rooms = subst (λ (j : ℕ). HasRoom h (set seen j new)) (sym index)
        (room_more h seen x new n room (size ∙ ap (λ (b : List ℕ). length b) bits-are))

    pub met_law : (y : ℕ) → HasNumber h y → is_seen h (set seen k new) y ≡ (nat_eq y x || is_seen h seen y)
    met_law y m =
        let l = inside in
        subst (λ (j : ℕ). is_seen h (set seen j new) y ≡ (nat_eq y x || is_seen h seen y)) (sym index)
        (seen_more h seen x new n (omega (arith, l, index))
        (λ i. law i ∙ ap₂ (λ (j : ℕ) (b : List ℕ). nat_eq i j || has_bit b i) number-is bits-are) y m)

-- ---- any word

module _ (h : HeapView) (heap : IsHeap h) (x : ℕ) (w : HasWord h.memories x) where
  -- its segment is there
  pub word-segment : memory_index h.memories x < length h.segments
  word-segment = let count = count_is h heap in let inside = w.inside in omega (arith, count, inside)

  -- and begins below it
  pub word-low : (segment_at h (memory_index h.memories x)).base ≤ x
  word-low =
      let d : Memory = record { base = 0; words = [] } in
      let k = memory_index h.memories x in
      let extent = memory_extent h.memories h.segments k d empty_segment heap.memories w.inside word-segment in
      let base = ap (λ (p : ℕ × ℕ). p.0) extent in
      let low = (contains_bounds (get_or h.memories k d) x (contains_at_index h.memories x d w.inside)).0 in
      omega (arith, base, low)
