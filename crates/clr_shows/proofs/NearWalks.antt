-- The items near an address on a walk over a segment: its steps, and where it may begin.
use Rattle.std.proofs.Common.{◌≡◌, ◌⊎◌, ◌∙◌, ℕ, ◌+◌, ◌-◌, ◌^◌, ◌<◌, ◌≤◌, Bool, true, false, inl, inr, List, [], ◌∷◌}
use Rattle.std.proofs.Common.{◌++◌, arith}
use Rattle.std.proofs.Common.{cond, is_some, length, refl, sym, ap, subst, nat_lt, Option, Some, None}
use Rattle.std.specs.Option.{option_or}
use Rattle.std.specs.List.{AllByRecursion}
use Rattle.std.proofs.lemmas.Bool.{both_ways, ltb-true}
use Rattle.clr_mem.specs.Words.{Memory}
use Rattle.clr_types.specs.Rising.{IsIn}
use Rattle.clr_types.specs.Types.{TypeRow}
use Rattle.clr_types.specs.declared.item.Item.{Item}
use Rattle.clr_types.proofs.ChangedLists.{all_imply}
use Rattle.clr_types.proofs.RisingLists.{in_cons}
use Rattle.clr_heap.specs.Parts.{hole_from, item_at, item_part, items_in, Part, parts, rest_part, Sight, Spells}
use Rattle.clr_heap.specs.View.{CanWalk, first_of, HeapView, IsHeap, items_between, last_of, listing, parts_of, sight}
use Rattle.clr_heap.specs.View.{word_of}
use Rattle.clr_heap.proofs.Framing.{below_top_at, lawful_at}
use Rattle.clr_heap.proofs.Spelling.{item_size, place-item_at}
use Rattle.clr_heap.proofs.Walking.{spelled_parts, walk_item}
use Rattle.clr_model.specs.Looks.{last_item}
use Rattle.clr_view.specs.View.{IsHeld}
use Rattle.clr_view.proofs.Items.{AreStacked, IsItem, items-are}
use Rattle.clr_view.proofs.Listings.{listing-are, listing-stacked}
use Rattle.clr_view.proofs.ObjectItems.{stands-item}
use Rattle.clr_view.proofs.Standing.{standing}
use Rattle.clr_generations.specs.Finding.{IsStart}
use Rattle.clr_generations.proofs.FoundItems.{only-segment, walk-from-start}
use Rattle.clr_shows.specs.Near.{last_begun, near_in, with_item}
use Rattle.clr_shows.specs.declared.near.Near.{Near}
use Rattle.clr_shows.proofs.NearItems.{AreAbove, begun-first, begun-front, begun-joined, ended, joined, joined-above}
use Rattle.clr_shows.proofs.NearItems.{joined-front, joined-on, joined-starts, or-none, over_or_before}

-- ---- one item

-- an option that is no item is none
pub none-at : (o : Option Item) → (is_some o ≡ true → ⊥) → o ≡ None
none-at None never = refl
none-at (Some i) never = absurd (never refl)

-- where the item over the address is known with one item more, that item ends above the address
pub at-past : (near : Near) (i : Item) (a : ℕ) → near.at ≡ None → is_some (with_item near i a).at ≡ true
    → a < i.place + i.size
at-past near i a free = go (nat_lt a (i.place + i.size)) refl
  where
    go : (b : Bool) → nat_lt a (i.place + i.size) ≡ b
        → is_some (cond b (record near { at = Some i }) (record near { before = Some i })).at ≡ true
        → a < i.place + i.size
    go true e some = ltb-true a (i.place + i.size) e
    go false e some =
        let none : is_some near.at ≡ false = ap (λ (o : Option Item). is_some o) free in absurd cc

-- one item at or below the address says nothing of the item above it
pub after-kept : (near : Near) (i : Item) (a : ℕ) → near.after ≡ None → (with_item near i a).after ≡ None
after-kept near i a free = go (nat_lt a (i.place + i.size))
  where
    go : (b : Bool) → (cond b (record near { at = Some i }) (record near { before = Some i })).after ≡ None
    go true = free
    go false = free

-- a segment ends where addresses are still small
pub fits-end : (h : HeapView) (k e : ℕ) → e ≡ last_of h k → IsHeap h → k < length h.segments → e < 2 ^ 64
fits-end h k e is heap inside =
    let lawful = (lawful_at h k heap inside).high in
    let top = below_top_at h k heap inside in
    let small = heap.top_small in
    omega (arith, is, lawful, top, small)

-- the items of a walk begin where the walk does, or above
pub walk-above : (s : Sight) (ms : List Memory) (p e : ℕ) → CanWalk s ms p e → AreAbove p (items_between s p e)
walk-above s ms p e walk =
    all_imply (IsItem s.rows p e) (λ (i : Item). p ≤ i.place) (items_between s p e) (λ i is. is.above)
    (items-are s (parts e s p e) p e walk.start walk.spelled)

module _ (s : Sight) (ms : List Memory) (p e a : ℕ) (near : Near) (walk : CanWalk s ms p e) (l : p < e)
    (none : hole_from s.holes p ≡ None) (found : Item) (is : found ≡ item_at s.rows s.word p) where
  -- the item that is found begins where the walk stands
  place-is : found.place ≡ p
  place-is = ap (λ (i : Item). i.place) is ∙ place-item_at s.rows s.word p

  -- the item that is found has the size that its head tells
  size-is : found.size ≡ (item_at s.rows s.word p).size
  size-is = ap (λ (i : Item). i.size) is

  -- the items behind the next one
  abbrev rest : List Item
  rest = items_between s (p + (item_at s.rows s.word p).size) e

  -- the items that are left are the one that is found and those behind it
  items-are_here : items_between s p e ≡ found ∷ rest
  items-are_here = (walk_item s ms p e walk l none).items ∙ ap (λ (i : Item). i ∷ rest) (sym is)

  -- the items behind the one that is found begin above it
  above : AreAbove (found.place + found.size) rest
  above =
      let place = place-is in
      let size = size-is in
      let end : p + (item_at s.rows s.word p).size ≡ found.place + found.size = omega (arith, place, size) in
      subst (λ (b : ℕ). AreAbove b rest) end
      (walk-above s ms (p + (item_at s.rows s.word p).size) e (walk_item s ms p e walk l none).walk)

  -- a walk ends with the first item above the address
  pub walk-ends : a < p → joined near (items_between s p e) a ≡ record near { after = Some found }
  walk-ends high =
      let place = place-is in
      ap (λ (items : List Item). joined near items a) items-are_here
      ∙ joined-above near found rest a above (omega (arith, high, place))

  -- an item that begins at or below the address is known behind it
  pub walk-on : near.at ≡ None → p ≤ a
      → joined near (items_between s p e) a ≡ joined (with_item near found a) (items_between s (p + found.size) e) a
  walk-on free low =
      let place = place-is in
      let next : p + (item_at s.rows s.word p).size ≡ p + found.size = ap (λ (n : ℕ). p + n) (sym size-is) in
      ap (λ (items : List Item). joined near items a) items-are_here
      ∙ joined-on near found rest a above free (omega (arith, low, place))
      ∙ ap (λ (q : ℕ). joined (with_item near found a) (items_between s q e) a) next

-- ---- from an item on

-- parts in front of an item, and those from it on
record IsSplit (s : Sight) (ps : List Part) (i : Item) (p e : ℕ) : Type 0 where
  front : List Item
  back : List Item
  rest : List Part
  spelled : Spells s i.place rest e
  above : p ≤ i.place
  items : items_in ps ≡ front ++ items_in rest
  begins : items_in rest ≡ i ∷ back
  ended : AllByRecursion (λ (j : Item). j.place + j.size ≤ i.place) front

-- the parts of a walk can be split at each of its items
split-at : (s : Sight) (ps : List Part) (i : Item) (p e : ℕ) → Spells s p ps e → IsIn i (items_in ps)
    → IsSplit s ps i p e
split-at s [] i p e h l = elim l [ ]
split-at s (item_part j ∷ ps) i p e h l =
    let f = item_size s j p h.1 h.2 in
    elim (in_cons l) [
      | inl here ↦
          let at : p ≡ i.place = let place = ap (λ (x : Item). x.place) here in omega arith in
          record {
            front = [];
            back = items_in ps;
            rest = item_part j ∷ ps;
            spelled = subst (λ q. Spells s q (item_part j ∷ ps) e) at h;
            above = omega arith;
            items = refl;
            begins = ap (λ (x : Item). x ∷ items_in ps) (sym here);
            ended = tt;
          }
      | inr more ↦
          let r = split-at s ps i (p + j.size) e h.3 more in
          let up = r.above in
          record {
            front = j ∷ r.front;
            back = r.back;
            rest = r.rest;
            spelled = r.spelled;
            above = omega arith;
            items = ap (λ (items : List Item). j ∷ items) r.items;
            begins = r.begins;
            ended = (omega arith, r.ended);
          }
    ]
split-at s (rest_part from to ∷ ps) i p e h l =
    let r = split-at s ps i to e h.4 l in
    let up = r.above in
    let b = h.2 in
    record {
      front = r.front;
      back = r.back;
      rest = r.rest;
      spelled = r.spelled;
      above = omega arith;
      items = r.items;
      begins = r.begins;
      ended = r.ended;
    }

-- ---- a walk that begins within a segment

-- the items of segment k in front of an address, and those of a walk from there
pub record IsCut (rows : List TypeRow) (h : HeapView) (k start : ℕ) : Type 0 where
  pub walk : CanWalk (sight rows h k) h.memories start (last_of h k)
  pub front : List Item
  pub cut : listing rows h k ≡ front ++ items_between (sight rows h k) start (last_of h k)
  pub ended : AllByRecursion (λ (i : Item). i.place + i.size ≤ start) front
  pub begins : (front ≡ []) ⊎ ((i : Item) × (back : List Item)
      × (items_between (sight rows h k) start (last_of h k) ≡ i ∷ back) × (i.place ≡ start))

-- a walk may begin at any item of a segment
cut-from-item : (rows : List TypeRow) (h : HeapView) (k : ℕ) (i : Item) → IsHeld rows h → k < length h.segments
    → IsIn i (listing rows h k) → CanWalk (sight rows h k) h.memories i.place (last_of h k) → IsCut rows h k i.place
cut-from-item rows h k i held l listed walk =
    let s = sight rows h k in
    let e = last_of h k in
    let r = split-at s (parts_of rows h k) i (first_of h k) e (held.walkable k l).spelled listed in
    let same : items_between s i.place e ≡ items_in r.rest = ap items_in (spelled_parts s r.rest i.place e r.spelled) in
    record {
      walk = walk;
      front = r.front;
      cut = r.items ∙ ap (λ (items : List Item). r.front ++ items) (sym same);
      ended = r.ended;
      begins = inr (i, r.back, same ∙ r.begins, refl);
    }

-- A WALK FROM A START leaves out only items that end at or below it
pub cut-from-start : (rows : List TypeRow) (h : HeapView) → IsHeap h → IsHeld rows h → (k a start : ℕ)
    → k < length h.segments → a < last_of h k → IsStart rows h k a start → IsCut rows h k start
cut-from-start rows h heap held k a start l high s =
    let walk = (walk-from-start rows h heap held k a start l high s).walk in
    elim s.there [
      | inl at_first ↦ record {
        walk = walk;
        front = [];
        cut = ap (λ (p : ℕ). items_between (sight rows h k) p (last_of h k)) (sym at_first);
        ended = tt;
        begins = inl refl;
      }
      | inr stands ↦
          let at = stands-item rows h heap held start stands in
          let i = item_at rows (word_of h) start in
          let there = standing rows h heap held i at.listed in
          let place = at.at in
          let low = s.above in
          let below = s.below in
          let up = there.above in
          let down = there.below in
          let least = there.least in
          let home : there.segment ≡ k =
          only-segment rows h heap held k start l there.segment there.in_range (omega arith) (omega arith) (omega arith)
          (omega arith) in
          subst (IsCut rows h k) place
          (cut-from-item rows h k i held l (subst (λ j. IsIn i (listing rows h j)) home there.listed)
          (subst (λ (p : ℕ). CanWalk (sight rows h k) h.memories p (last_of h k)) (sym place) walk))
    ]

-- items that end at or below an address begin below it
front-below : (rows : List TypeRow) (low high start : ℕ) (front rest : List Item)
    → AllByRecursion (IsItem rows low high) (front ++ rest)
    → AllByRecursion (λ (i : Item). i.place + i.size ≤ start) front
    → AllByRecursion (λ (i : Item). i.place < start) front
front-below rows low high start [] rest all ended = tt
front-below rows low high start (i ∷ front) rest all ended =
    let least = all.0.least in
    let end = ended.0 in
    (omega (arith, least, end), front-below rows low high start front rest all.1 ended.1)

-- where items stand one above the other, so do those behind the first few
stacked-rest : (front back : List Item) → AreStacked (front ++ back) → AreStacked back
stacked-rest [] back stacked = stacked
stacked-rest (i ∷ front) back stacked = stacked-rest front back stacked.1

module _ (rows : List TypeRow) (h : HeapView) (held : IsHeld rows h) (k a start : ℕ) (l : k < length h.segments)
    (c : IsCut rows h k start) (low : start ≤ a) where
  -- the items of the walk
  abbrev left : List Item
  left = items_between (sight rows h k) start (last_of h k)

  -- the last item in front of the walk
  abbrev before : Option Item
  before = last_item c.front

  -- the items stand one above the other
  stacked : AreStacked (c.front ++ left)
  stacked = subst AreStacked c.cut (listing-stacked rows h held.walkable k l)

  -- the items in front end at or below the address
  ended-low : AllByRecursion (λ (i : Item). i.place + i.size ≤ a) c.front
  ended-low = all_imply (λ (i : Item). i.place + i.size ≤ start) (λ (i : Item). i.place + i.size ≤ a) c.front
      (λ i m. omega (arith, m, low)) c.ended

  -- what is near an address of the segment: what the walk finds, and before it the last item in front
  whole : near_in (listing rows h k) a ≡ joined (ended before) left a
  whole =
      ap (λ (items : List Item). near_in items a) c.cut ∙ joined-starts (c.front ++ left) a
      ∙ joined-front None c.front left a stacked ended-low
      ∙ ap (λ (o : Option Item). joined (ended o) left a) (or-none before)

  -- where the walk finds an item before the address, it finds all
  pub near-found : (near : Near) → near ≡ near_in left a → is_some near.before ≡ true
      → near ≡ near_in (listing rows h k) a
  near-found near is some = is ∙ go (near_in left a).before refl ∙ sym whole
    where
      go : (o : Option Item) → (near_in left a).before ≡ o → near_in left a ≡ joined (ended before) left a
      go None none =
          let missing : is_some near.before ≡ false = ap (λ (n : Near). is_some n.before) is ∙ ap is_some none in
          absurd (both_ways (is_some near.before) missing some)
      go (Some i) found = λ j. record {
        before = (found ∙ ap (λ (o : Option Item). option_or o before) (sym found)) j;
        at = (near_in left a).at;
        after = (near_in left a).after;
      }

  -- where the walk begins at the segment's first address, it finds all
  pub near-all : (near : Near) → near ≡ near_in left a → start ≡ first_of h k → near ≡ near_in (listing rows h k) a
  near-all near is first =
      let items : listing rows h k ≡ left =
      ap (λ (p : ℕ). items_between (sight rows h k) p (last_of h k)) (sym first) in
      is ∙ ap (λ (items : List Item). near_in items a) (sym items)

  -- where the walk finds no item before the address, that is the last one in front of the walk
  pub near-behind : (near : Near) (last : Option Item) → near ≡ near_in left a → is_some near.before ≡ false
      → 0 < start → last ≡ last_begun (start - 1) (listing rows h k)
      → record { before = last; at = near.at; after = near.after } ≡ near_in (listing rows h k) a
  near-behind near last is none some found =
      let missing : (near_in left a).before ≡ None =
      none-at (near_in left a).before (λ found. both_ways (is_some (near_in left a).before)
      (ap (λ (n : Near). is_some n.before) (sym is) ∙ none) found) in
      let below = front-below rows (first_of h k) (last_of h k) start c.front left
      (subst (AllByRecursion (IsItem rows (first_of h k) (last_of h k))) c.cut (listing-are rows h held.walkable k l))
      c.ended in
      let last_is : last ≡ before =
      found ∙ ap (last_begun (start - 1)) c.cut
      ∙ begun-front c.front left start some below (walk-above (sight rows h k) h.memories start (last_of h k) c.walk) in
      (λ j. record { before = last_is j; at = (is j).at; after = (is j).after })
      ∙ (λ j. record {
        before = sym (ap (λ (o : Option Item). option_or o before) missing) j;
        at = (near_in left a).at;
        after = (near_in left a).after;
      })
      ∙ sym whole

  -- the item over the address, or else the one before it, is the last one that begins at or below it
  pub begun-found : (near : Near) → near ≡ near_in left a
      → over_or_before near ≡ last_begun a (listing rows h k)
  begun-found near is =
      let rest = stacked-rest c.front left stacked in
      let whole_begun = begun-joined None (c.front ++ left) a stacked in
      let rest_begun = begun-joined before left a rest in
      let own_begun = begun-joined None left a rest in
      ap over_or_before (is ∙ joined-starts left a) ∙ own_begun ∙ first-begun c.begins
      ∙ sym rest_begun
      ∙ ap over_or_before (sym (joined-front None c.front left a stacked ended-low
      ∙ ap (λ (o : Option Item). joined (ended o) left a) (or-none before)))
      ∙ whole_begun ∙ or-none (last_begun a (c.front ++ left)) ∙ ap (last_begun a) (sym c.cut)
    where
      first-begun : ((c.front ≡ []) ⊎ ((i : Item) × (back : List Item) × (left ≡ i ∷ back) × (i.place ≡ start)))
          → option_or (last_begun a left) None ≡ option_or (last_begun a left) before
      first-begun (inl none) = ap (λ (items : List Item). option_or (last_begun a left) (last_item items)) (sym none)
      first-begun (inr (i, back, begins, at)) =
          ap (λ (items : List Item). option_or (last_begun a items) None) begins
          ∙ sym (begun-first before i back a (omega (arith, at, low)))
          ∙ ap (λ (items : List Item). option_or (last_begun a items) before) (sym begins)
