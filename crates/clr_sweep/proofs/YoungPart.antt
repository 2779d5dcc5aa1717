-- The young part of the ephemeral segment: where it begins, its items, and their generations.
use Rattle.std.proofs.Common.{◌≡◌, ◌≢◌, inl, inr, ℕ, zero, suc, ◌%◌, ◌<◌, ◌≤◌, Bool, true, false, List, ◌++◌, length}
use Rattle.std.proofs.Common.{if◌then◌else◌, ◌==◌, nat_lt, refl, ap, sym, ◌∙◌, subst, arith}
use Rattle.std.proofs.lemmas.Bool.{cases_lt, cases_order, le-leb, le-ltb, lt-leb, lt-ltb}
use Rattle.std.specs.List.{AllByRecursion}
use Rattle.clr_types.specs.Rising.{IsIn}
use Rattle.clr_types.specs.Types.{TypeRow}
use Rattle.clr_types.specs.Segments.{empty_segment, ephemeral, first_place, generation, same_kind, stands_in}
use Rattle.clr_types.specs.LawfulLayout.{DoesNotCross}
use Rattle.clr_types.specs.declared.item.Item.{Item}
use Rattle.clr_types.specs.declared.segment.SegInfo.{SegInfo}
use Rattle.clr_types.specs.declared.segment.SegKind.TheVariants.{Ephemeral}
use Rattle.clr_types.proofs.ChangedLists.{append_left}
use Rattle.clr_types.proofs.ListMembers.{append_right}
use Rattle.clr_types.proofs.RisingLists.{all_at}
use Rattle.clr_types.proofs.SegmentFacts.{between-stands, ephemeral-kind, stands-between}
use Rattle.clr_heap.specs.View.{first_of, frame, HeapView, IsHeap, last_of, listing, no_rests, segment_at, sight}
use Rattle.clr_heap.proofs.Framing.{lawful_at}
use Rattle.clr_heap.proofs.Staying.{segment_order}
use Rattle.clr_model.specs.Lawful.{IsLaid}
use Rattle.clr_model.specs.Lookups.{pieces}
use Rattle.clr_model.specs.Machine.{Machine}
use Rattle.clr_model.specs.Sweep.{part_start}
use Rattle.clr_view.specs.View.{IsHeld}
use Rattle.clr_view.proofs.Items.{IsItem, items-are}
use Rattle.clr_heap.specs.Parts.{parts}
use Rattle.clr_view.specs.Memory.{is_reached_by}
use Rattle.clr_sweep.specs.SweptItems.{items_below, items_from, young_start}
use Rattle.clr_sweep.specs.SweptSegments.{IsParted}
use Rattle.clr_sweep.proofs.ObjectsSwept.{no-holes}
use Rattle.clr_sweep.proofs.Parting.{IsWalkedAt, walked_at}
use Rattle.clr_sweep.proofs.SurvivorsSwept.{at-in, item-in-pieces, listed-from, seen, stands-at}

-- the generation of a place of the ephemeral segment, by the boundaries
abbrev age : ℕ → ℕ → ℕ → ℕ
age one start p = if nat_lt p one then 2 else (if nat_lt p start then 1 else 0)

age-from : (one start p g : ℕ) → one ≤ start → g ≤ 1 → (if g == 0 then start else one) ≤ p → age one start p ≤ g
age-from one start p zero order young above =
    let a = le-ltb p one (omega arith) in
    let b = le-ltb p start above in
    let none : 0 ≤ 0 = omega arith in
    rw (a, b) none
age-from one start p (suc zero) order young above = let a = le-ltb p one above in rw a (go (nat_lt p start))
  where
    go : (b : Bool) → (if b then 1 else 0) ≤ 1
    go true = omega arith
    go false = omega arith
age-from one start p (suc (suc g)) order young above = absurd (omega arith)

age-below : (one start p g : ℕ) → one ≤ start → g ≤ 1 → p < (if g == 0 then start else one) → g < age one start p
age-below one start p zero order young below = let b = lt-ltb p start below in rw b (go (nat_lt p one))
  where
    go : (b : Bool) → 0 < (if b then 2 else 1)
    go true = omega arith
    go false = omega arith
age-below one start p (suc zero) order young below = let a = lt-ltb p one below in rw a (omega arith)
age-below one start p (suc (suc g)) order young below = absurd (omega arith)

-- a generation up to 2 that isn't 2 is young
pub below_two : (g : ℕ) → g ≤ 2 → (g ≡ 2 → ⊥) → g ≤ 1
below_two g most ne = elim (cases_lt g 2) [ inl l ↦ omega arith | inr l ↦ absurd (ne (omega arith)) ]

-- where the part begins
pub start-cases : (a b c g : ℕ) → g ≤ 1 → (if g == 0 then a else (if g == 1 then b else c)) ≡ (if g == 0 then a else b)
start-cases a b c zero l = refl
start-cases a b c (suc zero) l = refl
start-cases a b c (suc (suc g)) l = absurd (omega arith)

either : (P : ℕ → Type 0) (a b : ℕ) (t : Bool) → P a → P b → P (if t then a else b)
either P a b true p q = p
either P a b false p q = q

module _ (rows : List TypeRow) (old : HeapView) (base : Machine) (heap : IsHeap old) (held : IsHeld rows old)
    (none : old.rests ≡ no_rests) (laid : IsLaid (seen rows old base)) (g : ℕ) (young : g ≤ 1) (k : ℕ)
    (inside : k < length old.segments) (eph : segment_at old k ≡ ephemeral (frame old)) where
  abbrev m : Machine
  m = seen rows old base

  abbrev s : SegInfo
  s = segment_at old k

  abbrev from : ℕ
  from = young_start old g

  pub young-known : IsIn s old.segments
  young-known = at-in old.segments k empty_segment inside

  pub young-kind : same_kind Ephemeral s.kind ≡ true
  young-kind = subst (λ (u : SegInfo). same_kind Ephemeral u.kind ≡ true) (sym eph)
      (ephemeral-kind m.layout laid.layout)

  -- the part begins where the machine's does
  pub young-start : part_start m.layout g s ≡ from
  young-start = ap (λ b. if b then (if g == 0 then old.start0 else (if g == 1 then old.start1 else first_place s))
      else first_place s) young-kind ∙ start-cases old.start0 old.start1 (first_place s) g young

  record IsPlace (n : ℕ) : Type 0 where
    low : first_place s ≤ n
    high : n ≤ s.end
    aligned : n % 8 ≡ 0
    whole : AllByRecursion (DoesNotCross n) (pieces m)

  place : IsPlace from
  place =
      let low = subst (λ (u : SegInfo). first_place u ≤ old.start1) (sym eph) laid.layout.start1_low in
      let mid : old.start1 ≤ old.start0 = laid.layout.start1_high in
      let high = subst (λ (u : SegInfo). old.start0 ≤ u.end) (sym eph) laid.layout.start0_high in
      let z = laid.layout.aligned in
      either IsPlace old.start0 old.start1 (g == 0)
      (record { low = omega arith; high = high; aligned = z.1; whole = laid.whole0 })
      (record { low = low; high = omega arith; aligned = z.0; whole = laid.whole1 })

  pub young-low : first_of old k ≤ young_start old g
  young-low = place.low

  pub young-high : young_start old g ≤ last_of old k
  young-high = place.high

  home : IsWalkedAt (sight rows old k) old.memories (first_of old k) from (last_of old k)
  home =
      walked_at (sight rows old k) old.memories (first_of old k) from (last_of old k) (held.walkable k inside)
      place.aligned place.low place.high (λ q. no-holes old k q none)
      (λ i l. all_at (DoesNotCross from) (item-in-pieces rows old base heap held none laid i
      (listed-from rows old k i inside l)) place.whole)

  pub young-parted : IsParted rows old k (young_start old g)
  young-parted = record { below = home.below; above = home.above }

  pub young-items : listing rows old k ≡ items_below rows old k (young_start old g) ++ items_from rows old k
      (young_start old g)
  young-items = home.items

  -- ---- where items stand

  pub below-is : (i : Item) → IsIn i (items_below rows old k (young_start old g)) → IsItem rows (first_of old k) from i
  below-is i l =
      all_at (IsItem rows (first_of old k) from) l
      (items-are (sight rows old k) (parts from (sight rows old k) (first_of old k) from) (first_of old k) from
      home.below.start home.below.spelled)

  pub from-is : (i : Item) → IsIn i (items_from rows old k (young_start old g)) → IsItem rows from (last_of old k) i
  from-is i l =
      all_at (IsItem rows from (last_of old k)) l
      (items-are (sight rows old k) (parts (last_of old k) (sight rows old k) from (last_of old k)) from (last_of old k)
      home.above.start home.above.spelled)

  pub below-listed : (i : Item) → IsIn i (items_below rows old k (young_start old g)) → IsIn i (listing rows old k)
  below-listed i l = subst (λ is. IsIn i is) (sym young-items) (append_left (items_from rows old k from) l)

  pub from-listed : (i : Item) → IsIn i (items_from rows old k (young_start old g)) → IsIn i (listing rows old k)
  from-listed i l = subst (λ is. IsIn i is) (sym young-items) (append_right (items_below rows old k from) l)

  -- ---- generations

  order : old.start1 ≤ old.start0
  order = laid.layout.start1_high

  stands-age : (p : ℕ) → stands_in s p ≡ true → generation (frame old) p ≡ age old.start1 old.start0 p
  stands-age p stands = ap (λ b. if b then age old.start1 old.start0 p else 2)
      (ap (λ (u : SegInfo). stands_in u p) (sym eph) ∙ stands)

  -- what stands in the part is young
  pub young-in : (p : ℕ) → stands_in s p ≡ true → young_start old g ≤ p → generation (frame old) p ≤ g
  young-in p stands above = subst (λ n. n ≤ g) (sym (stands-age p stands)) (age-from old.start1 old.start0 p g order
      young above)

  -- what stands below it isn't
  pub old-below : (p : ℕ) → stands_in s p ≡ true → p < young_start old g → g < generation (frame old) p
  old-below p stands below = subst (λ n. g < n) (sym (stands-age p stands)) (age-below old.start1 old.start0 p g order
      young below)

  -- nor is what stands elsewhere
  pub old-elsewhere : (p : ℕ) → stands_in s p ≡ false → g < generation (frame old) p
  old-elsewhere p away =
      subst (λ n. g < n)
      (sym (ap (λ b. if b then age old.start1 old.start0 p else 2) (ap (λ (u : SegInfo). stands_in u p) (sym eph)
      ∙ away))) (omega arith)

  pub swept-on : (p : ℕ) → generation (frame old) p ≤ g → is_reached_by old g p ≡ true
  swept-on p l = le-leb (generation (frame old) p) g l

  pub swept-off : (p : ℕ) → g < generation (frame old) p → is_reached_by old g p ≡ false
  swept-off p l = lt-leb (generation (frame old) p) g l

  -- an item of the segment stands in it
  pub listed-stands : (i : Item) → IsIn i (listing rows old k) → stands_in s i.place ≡ true
  listed-stands i l =
      let is = stands-at rows old base heap held none laid k inside i l in
      let above = is.above in
      let under = is.below in
      let least = is.least in
      let high = (lawful_at old k heap inside).high in
      between-stands s i.place above (omega arith)

  -- and one of another segment doesn't
  pub other-away : (j : ℕ) → j < length old.segments → j ≢ k → (i : Item) → IsIn i (listing rows old j)
      → stands_in s i.place ≡ false
  other-away j l ne i n = go (stands_in s i.place) refl
    where
      go : (b : Bool) → stands_in s i.place ≡ b → stands_in s i.place ≡ false
      go false e = e
      go true e =
          let is = stands-at rows old base heap held none laid j l i n in
          let above = is.above in
          let under = is.below in
          let least = is.least in
          let high = (lawful_at old j heap l).high in
          let (low_k, high_k) = stands-between s i.place e in
          elim (cases_order j k) [
            | inl same ↦ absurd (ne same)
            | inr (inl lower) ↦ let o = segment_order old j k heap lower inside in absurd (omega arith)
            | inr (inr upper) ↦ let o = segment_order old k j heap upper l in absurd (omega arith)
          ]

  pub from-swept : (i : Item) → IsIn i (items_from rows old k (young_start old g)) → is_reached_by old g i.place ≡ true
  from-swept i l = swept-on i.place (young-in i.place (listed-stands i (from-listed i l)) (from-is i l).above)

  pub below-old : (i : Item) → IsIn i (items_below rows old k (young_start old g)) → is_reached_by old g i.place ≡ false
  below-old i l =
      let is = below-is i l in
      let under = is.below in
      let least = is.least in
      swept-off i.place (old-below i.place (listed-stands i (below-listed i l)) (omega arith))

  pub other-old : (j : ℕ) → j < length old.segments → j ≢ k → (i : Item) → IsIn i (listing rows old j)
      → is_reached_by old g i.place ≡ false
  other-old j l ne i n = swept-off i.place (old-elsewhere i.place (other-away j l ne i n))
