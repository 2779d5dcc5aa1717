-- The bytes of marked objects, added up item by item and segment by segment.
use Rattle.std.proofs.Common.{◌≡◌, ℕ, ◌+◌, ◌-◌, ◌*◌, ◌/◌, ◌<◌, ◌≤◌, ◌⊎◌, inl, inr, Bool, true, false, ◌&&◌, nat_lt}
use Rattle.std.proofs.Common.{if◌then◌else◌, List, [], ◌∷◌, filter, length, sum_by, refl, ap, sym, ◌∙◌, subst, arith}
use Rattle.std.proofs.lemmas.Bool.{le-ltb, lt-ltb, ltb-false, ltb-true}
use Rattle.std.proofs.lemmas.List.Sums.{sum_by-cons}
use Rattle.clr_types.specs.Rising.{IsIn}
use Rattle.clr_types.specs.Segments.{is_small_or_ephemeral}
use Rattle.clr_types.specs.Types.{TypeRow}
use Rattle.clr_types.specs.declared.item.Item.{Item}
use Rattle.clr_heap.specs.Parts.{item_at, item_part, items_in, Part, parts, rest_part, Sight, Spells}
use Rattle.clr_heap.specs.View.{CanWalk, first_of, frame, HeapView, IsHeap, items_between, last_of, listing, listings}
use Rattle.clr_heap.specs.View.{segment_at, sight, word_of}
use Rattle.clr_heap.proofs.Framing.{lawful_at}
use Rattle.clr_heap.proofs.Spelling.{place-item_at}
use Rattle.clr_heap.proofs.Staying.{segment_order}
use Rattle.clr_model.specs.Collection.{extent, is_in_small_heap}
use Rattle.clr_view.specs.Marks.{has_mark}
use Rattle.clr_view.specs.View.{IsHeld, is_object}
use Rattle.clr_view.proofs.Walked.{walked-on}
use Rattle.clr_types.proofs.ListMembers.{filter-on}
use Rattle.clr_sweep.specs.Dead.{IsDeadKind}
use Rattle.clr_sweep.specs.KeptBytes.{IsWeighed, kept_size, kept_small}
use Rattle.clr_sweep.specs.SweptItems.{stays}
use Rattle.clr_sweep.proofs.CountedParts.{item_after}
use Rattle.clr_sweep.proofs.DeadKinds.{dead-size, dead-stays}
use Rattle.clr_sweep.proofs.Extents.{IsSummed, summed-large, summed-small, summed-within}
use Rattle.clr_sweep.proofs.Filters.{filter-none, sum-passing}
use Rattle.clr_sweep.proofs.LargeSwept.{listed_stands, place_kind}
use Rattle.clr_sweep.proofs.Passing.{IsHome}

-- ---- one part

size-cons : (h : HeapView) (i : Item) (is : List Item)
    → kept_size h (i ∷ is) ≡ (if stays (word_of h) i then i.size else 0) + kept_size h is
size-cons h i is = go (stays (word_of h) i)
  where
    go : (b : Bool) → sum_by (λ (j : Item). j.size) (if b then i ∷ filter (stays (word_of h)) is
        else filter (stays (word_of h)) is) ≡ (if b then i.size else 0) + kept_size h is
    go true = sum_by-cons (λ (j : Item). j.size) i (filter (stays (word_of h)) is)
    go false = omega arith

-- marked items have no more bytes than lie between the places from and to which they stand
kept-bound : (s : Sight) (keep : Item → Bool) (ps : List Part) (p e : ℕ) → Spells s p ps e
    → p + sum_by (λ (i : Item). i.size) (filter keep (items_in ps)) ≤ e
kept-bound s keep [] p e h = omega (arith, h)
kept-bound s keep (item_part i ∷ ps) p e h = go (keep i) (kept-bound s keep ps (p + i.size) e h.3)
  where
    go : (b : Bool) → p + i.size + sum_by (λ (i : Item). i.size) (filter keep (items_in ps)) ≤ e
        → p + sum_by (λ (i : Item). i.size) (if b then i ∷ filter keep (items_in ps)
        else filter keep (items_in ps)) ≤ e
    go true rest =
        let sum = sum_by-cons (λ (i : Item). i.size) i (filter keep (items_in ps)) in omega (arith, sum, rest)
    go false rest = omega (arith, rest)
kept-bound s keep (rest_part low high ∷ ps) p e h =
    let rest = kept-bound s keep ps high e h.4 in
    let up = h.2 in
    omega (arith, rest, up)

kept-between : (rows : List TypeRow) (h : HeapView) (k place e : ℕ)
    → CanWalk (sight rows h k) h.memories place e
    → place + kept_size h (items_between (sight rows h k) place e) ≤ e
kept-between rows h k place e walk =
    kept-bound (sight rows h k) (stays (word_of h)) (parts e (sight rows h k) place e) place e walk.spelled

-- what is weighed is below `need` just where all is
pub weighed-same : (all need ahead bytes : ℕ) → IsWeighed all need ahead bytes → nat_lt bytes need ≡ nat_lt all need
weighed-same all need ahead bytes w =
    let most = w.most in
    elim w.settled [
      | inl same ↦ ap (λ (n : ℕ). nat_lt n need) same
      | inr other ↦ elim other [
        | inl enough ↦ le-ltb bytes need enough ∙ sym (le-ltb all need (omega (arith, most, enough)))
        | inr few ↦ lt-ltb bytes need (omega (arith, most, few)) ∙ sym (lt-ltb all need (omega (arith, few)))
      ]
    ]

-- The bytes of the marked items from `first` up to `place` are added to those before, and those from there to `e`
-- aren't.
pub record IsSumming (rows : List TypeRow) (h : HeapView) (k first e place before bytes : ℕ) : Type 0 where
  pub low : first ≤ place
  pub walk : CanWalk (sight rows h k) h.memories place e
  pub sum : bytes + kept_size h (items_between (sight rows h k) place e)
      ≡ before + kept_size h (items_between (sight rows h k) first e)
  pub least : before ≤ bytes
  pub under : bytes ≤ place

-- a walk to e tells no more from `stop` on
abbrev pub IsStop : ℕ → ℕ → ℕ → ℕ → ℕ → Type 0
IsStop e need ahead bytes stop = (stop ≤ e) × ((place : ℕ) → stop ≤ place
    → (e ≤ place) ⊎ ((need ≤ bytes) ⊎ (e + ahead + bytes < place + need)))

module _ (rows : List TypeRow) (h : HeapView) (k first e place before bytes : ℕ) (home : IsHome rows h k first e)
    (s : IsSumming rows h k first e place before bytes) where
  abbrev it : Item
  it = item_at rows (word_of h) place

  at_most : (b : Bool) → (if b then it.size else 0) ≤ it.size
  at_most true = omega arith
  at_most false = omega arith

  next : place < e → IsSumming rows h k first e (place + it.size) before
      (bytes + (if stays (word_of h) it then it.size else 0))
  next below =
      let after = item_after rows h k first e place home s.low s.walk below in
      let low = s.low in
      let more = ap (kept_size h) after.items
      ∙ size-cons h it (items_between (sight rows h k) (place + it.size) e) in
      let sum = s.sum in
      let least = s.least in
      let under = s.under in
      let most = at_most (stays (word_of h) it) in
      record {
        low = omega arith;
        walk = after.walk;
        sum = omega (arith, more, sum);
        least = omega arith;
        under = omega arith;
      }

  pub summing_goes_on : place < e → (found : Item) (mt : ℕ) → found ≡ item_at rows (word_of h) place
      → mt ≡ word_of h place
      → IsSumming rows h k first e (place + found.size) before
      (bytes + (if is_object found && has_mark mt then found.size else 0))
  summing_goes_on below found mt is word =
      subst (λ (i : Item). IsSumming rows h k first e (place + i.size) before
      (bytes + (if is_object i && has_mark mt then i.size else 0))) (sym is)
      (subst (λ (w : ℕ). IsSumming rows h k first e (place + it.size) before
      (bytes + (if is_object it && has_mark w then it.size else 0))) (sym same) (next below))
    where
      same : mt ≡ word_of h it.place
      same = word ∙ ap (word_of h) (sym (place-item_at rows (word_of h) place))

  -- an item of a dead kind adds nothing
  pub summing_over : place < e → (mt size : ℕ) → IsDeadKind rows (record { mt = mt; size = size })
      → mt ≡ word_of h place → IsSumming rows h k first e (place + size) before bytes
  summing_over below mt size kind word =
      let none : bytes + 0 ≡ bytes = omega arith in
      subst (IsSumming rows h k first e (place + size) before)
      (ap (λ (b : Bool). bytes + (if b then it.size else 0)) (dead-stays rows h place mt size kind word) ∙ none)
      (subst (λ (n : ℕ). IsSumming rows h k first e (place + n) before
      (bytes + (if stays (word_of h) it then it.size else 0))) (sym (dead-size rows h place mt size kind word))
      (next below))

  -- where the walk ends all is weighed
  pub summing_ends : (need ahead stop : ℕ) → IsStop e need ahead bytes stop → stop ≤ place
      → IsWeighed (before + kept_size h (items_between (sight rows h k) first e)) need ahead bytes
  summing_ends need ahead stop is past =
      let sum = s.sum in
      let rest = kept-between rows h k place e s.walk in record {
        most = omega (arith, sum);
        settled = elim (is.1 place past) [
          | inl past ↦ inl (omega (arith, sum, rest, past))
          | inr other ↦ elim other [
            | inl enough ↦ inr (inl enough)
            | inr few ↦ inr (inr (omega (arith, sum, rest, few)))
          ]
        ];
      }

-- ---- segment by segment

-- The bytes of the segments below k are weighed, and the small ones from there on have `ahead` of all bytes.
pub record HaveSummed (rows : List TypeRow) (h : HeapView) (k all need ahead bytes : ℕ) : Type 0 where
  pub within : k ≤ length h.segments
  pub weighed : IsWeighed (kept_small h (listings rows h 0 k)) need ahead bytes
  pub under : (j : ℕ) → k ≤ j → j < length h.segments → bytes ≤ first_of h j
  pub left : ahead ≤ all
  pub passed : IsSummed h k (all - ahead)

pub none_summed : (rows : List TypeRow) (h : HeapView) (all need : ℕ) → HaveSummed rows h 0 all need all 0
none_summed rows h all need =
    let none : all - all ≡ 0 = omega arith in record {
      within = omega arith;
      weighed = record { most = omega arith; settled = inl refl };
      under = λ j l m. omega arith;
      left = omega arith;
      passed = subst (IsSummed h 0) (sym none) (record { is = refl; under = omega arith });
    }

module _ (rows : List TypeRow) (h : HeapView) (k all need ahead bytes : ℕ) (heap : IsHeap h) (held : IsHeld rows h)
    (inside : k < length h.segments) (s : HaveSummed rows h k all need ahead bytes) where
  -- an item of the segment stands in the small heap where the segment belongs to it
  place_small : (i : Item) → IsIn i (listing rows h k)
      → is_in_small_heap (frame h) i.place ≡ is_small_or_ephemeral (segment_at h k).kind
  place_small i m =
      place_kind h heap is_small_or_ephemeral k i.place inside (listed_stands rows h heap held k inside i m)

  segment_small : is_small_or_ephemeral (segment_at h k).kind ≡ true
      → kept_small h (listing rows h k) ≡ kept_size h (listing rows h k)
  segment_small on = ap (sum_by (λ (i : Item). i.size))
      (filter-on (λ i. stays (word_of h) i && is_in_small_heap (frame h) i.place) (stays (word_of h))
      (listing rows h k) (λ i m.
      ap (λ b. stays (word_of h) i && b) (place_small i m ∙ on) ∙ both (stays (word_of h) i)))
    where
      both : (b : Bool) → (b && true) ≡ b
      both true = refl
      both false = refl

  segment_large : is_small_or_ephemeral (segment_at h k).kind ≡ false → kept_small h (listing rows h k) ≡ 0
  segment_large off = ap (sum_by (λ (i : Item). i.size))
      (filter-none (λ i. stays (word_of h) i && is_in_small_heap (frame h) i.place) (listing rows h k)
      (λ i m. ap (λ b. stays (word_of h) i && b) (place_small i m ∙ off) ∙ none (stays (word_of h) i)))
    where
      none : (b : Bool) → (b && false) ≡ false
      none true = refl
      none false = refl

  -- the bytes of the segment
  abbrev len : ℕ
  len = last_of h k - first_of h k

  pub summed-room : all ≡ extent (frame h) 2 → is_small_or_ephemeral (segment_at h k).kind ≡ true → len ≤ ahead
  summed-room whole on =
      let most = summed-within h (k + 1) (all - ahead + len) (summed-small h heap k (all - ahead) s.passed inside on) in
      let left = s.left in
      omega (arith, most, whole, left)

  higher : (more : ℕ) → more ≤ last_of h k → (j : ℕ) → k + 1 ≤ j → j < length h.segments → more ≤ first_of h j
  higher more most j above l =
      let high = (lawful_at h k heap inside).high in
      let order = segment_order h k j heap (omega arith) l in
      omega (arith, high, order, most)

  split : kept_small h (listings rows h 0 (k + 1))
      ≡ kept_small h (listings rows h 0 k) + kept_small h (listing rows h k)
  split = ap (kept_small h) (walked-on rows h k)
      ∙ sum-passing (λ (i : Item). i.size) (λ i. stays (word_of h) i && is_in_small_heap (frame h) i.place)
      (listings rows h 0 k) (listing rows h k)

  pub small_summed : all ≡ extent (frame h) 2 → is_small_or_ephemeral (segment_at h k).kind ≡ true → (more : ℕ)
      → bytes ≤ more → IsWeighed (bytes + kept_size h (listing rows h k)) need (ahead - len) more → more ≤ last_of h k
      → HaveSummed rows h (k + 1) all need (ahead - len) more
  small_summed whole on more least w most =
      let split = split in
      let adds = segment_small on in
      let most-before = s.weighed.most in
      let most-here = w.most in
      let room = summed-room whole on in
      let left = s.left in
      let low = (lawful_at h k heap inside).low in
      let within = kept-between rows h k (first_of h k) (last_of h k) (held.walkable k inside) in
      let passed : all - (ahead - len) ≡ all - ahead + len = omega (arith, room, left) in
      record {
        within = omega arith;
        weighed = record {
          most = omega (arith, split, adds, most-before, most-here);
          settled = elim s.weighed.settled [
            | inl same ↦ elim w.settled [
              | inl again ↦ inl (omega (arith, split, adds, same, again))
              | inr other ↦ elim other [
                | inl enough ↦ inr (inl enough)
                | inr few ↦ inr (inr (omega (arith, split, adds, same, few)))
              ]
            ]
            | inr other ↦ elim other [
              | inl enough ↦ inr (inl (omega (arith, enough, least)))
              | inr few ↦ inr (inr (omega (arith, split, adds, few, room, within)))
            ]
          ];
        };
        under = higher more most;
        left = omega (arith, left);
        passed = subst (IsSummed h (k + 1)) (sym passed) (summed-small h heap k (all - ahead) s.passed inside on);
      }

  pub large_summed : is_small_or_ephemeral (segment_at h k).kind ≡ false
      → HaveSummed rows h (k + 1) all need ahead bytes
  large_summed off =
      let none = segment_large off in
      let zero : kept_small h (listings rows h 0 k) + 0 ≡ kept_small h (listings rows h 0 k) = omega arith in
      let same = split ∙ ap (λ (n : ℕ). kept_small h (listings rows h 0 k) + n) none ∙ zero in
      let below = s.under k (omega arith) inside in
      let low = (lawful_at h k heap inside).low in
      record {
        within = omega arith;
        weighed = subst (λ (n : ℕ). IsWeighed n need ahead bytes) (sym same) s.weighed;
        under = higher bytes (omega (arith, below, low));
        left = s.left;
        passed = summed-large h heap k (all - ahead) s.passed inside off;
      }

-- ---- the decision

same-lt : (a b c d : ℕ) → (a < b → c < d) → (c < d → a < b) → nat_lt a b ≡ nat_lt c d
same-lt a b c d there back = go (nat_lt a b) refl
  where
    go : (t : Bool) → nat_lt a b ≡ t → t ≡ nat_lt c d
    go true on = sym (lt-ltb c d (there (ltb-true a b on)))
    go false off =
        let under = ltb-false a b off in
        sym (le-ltb c d (or_else (nat_lt c d) refl under))
      where
        or_else : (u : Bool) → nat_lt c d ≡ u → b ≤ a → d ≤ c
        or_else true inside under = let l = back (ltb-true c d inside) in absurd (omega (arith, l, under))
        or_else false past under = ltb-false c d past

-- fewer bytes than these stay just where more than so many hundredths are free
pub decided : (threshold all kept need : ℕ) → need ≡ all - threshold * all / 100
    → nat_lt kept need ≡ nat_lt (threshold * all) ((all - kept) * 100)
decided threshold all kept need is =
    same-lt kept need (threshold * all) ((all - kept) * 100) (λ l. omega (arith, is, l)) (λ l. omega (arith, is, l))
