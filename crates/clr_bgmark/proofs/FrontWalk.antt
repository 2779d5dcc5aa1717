-- The front of a segment: from its first place up to the end of an object that was taken stand objects that are found
-- and free items before objects, where all is as it was in the cells up to that object.
use Rattle.std.proofs.Common.{◌≡◌, ◌⊎◌, inl, inr, ℕ, zero, suc, ◌+◌, ◌*◌, ◌%◌, ◌<◌, ◌≤◌, Bool, true, false, not, List}
use Rattle.std.proofs.Common.{[], ◌∷◌, refl, ap, sym, ◌∙◌, subst, arith, None, count_by, cond, nat_eq}
use Rattle.std.proofs.lemmas.Bool.{both_ways, cases_Bool, cases_eq}
use Rattle.std.proofs.lemmas.List.Sums.{sum_by-cons}
use Rattle.clr_types.specs.Rising.{IsIn}
use Rattle.clr_types.specs.Types.{mt_of, TypeRow}
use Rattle.clr_types.specs.declared.item.Item.{Item}
use Rattle.clr_types.proofs.RisingLists.{all_at, in_cons}
use Rattle.clr_heap.specs.Parts.{hole_from, item_at, length_at, NamesItem, parts, Sight, type_number}
use Rattle.clr_heap.specs.View.{AfterItem, CanWalk, HeapView, holes_of, items_between, sight, word_of}
use Rattle.clr_heap.proofs.Spelling.{place-item_at}
use Rattle.clr_heap.proofs.Walking.{walk_done, walk_item}
use Rattle.clr_view.specs.View.{is_free, is_object}
use Rattle.clr_view.proofs.Items.{IsItem, items-are}
use Rattle.clr_sweep.specs.Fronts.{AreBeforeObjects}
use Rattle.clr_bgmark.specs.Bits.{count_below, has_bit}
use Rattle.clr_bgmark.specs.Settling.{AreGood, HasObject, IsFreeGap, IsTakenIn}
use Rattle.clr_bgmark.specs.Shades.{cell_of, covers, IsShade, PartView, ShadeView}
use Rattle.clr_bgmark.specs.Tiles.{IsEdge, IsPart}
use Rattle.clr_bgmark.proofs.CellCounts.{count_next, count_none}
use Rattle.clr_bgmark.proofs.Kept.{covers_inside, inside_covers}

-- an object isn't free
not_free : (i : Item) → is_object i ≡ true → is_free i ≡ false
not_free i object = go (is_free i) object
  where
    go : (b : Bool) → not b ≡ true → b ≡ false
    go true e = absurd cc
    go false e = refl

-- the words of a free item
is_free_at : (rows : List TypeRow) (word : ℕ → ℕ) (q : ℕ) → word q ≡ mt_of 0 → is_free (item_at rows word q) ≡ true
unfolding item_at
is_free_at rows word q free =
    let number : type_number (mt_of 0) ≡ 0 = refl in
    ap (λ (n : ℕ). nat_eq n 0) (ap type_number free ∙ number)

free_size : (rows : List TypeRow) (word : ℕ → ℕ) (q : ℕ) → NamesItem rows word q → word q ≡ mt_of 0
    → (item_at rows word q).size ≡ 24 + word (q + 8)
unfolding item_at length_at
free_size rows word q names free =
    let whole : word (q + 8) % 8 ≡ 0 = names.free (rw free refl) in
    rw free (omega (arith, whole))

module _ (s : ShadeView) (p : PartView) (shade : IsShade s) (part : IsPart s p) where
  -- a cell that was taken is that of a place
  pub taken_cell : (n : ℕ) → has_bit s.taken n ≡ true → IsTakenIn s (s.base + 8 * n)
  taken_cell n on =
      let base = shade.base in
      let stop = part.high in
      let below = part.taken_high n on in
      let cell : cell_of s (s.base + 8 * n) ≡ n = omega arith in
      record {
        aligned = omega (arith, base);
        inside = inside_covers s (s.base + 8 * n) (record { low = omega arith; high = omega (arith, below, stop) });
        taken = ap (has_bit s.taken) cell ∙ on;
      }

  -- a place is that of its cell
  pub cell_place : (x : ℕ) → x % 8 ≡ 0 → s.base ≤ x → x ≡ s.base + 8 * cell_of s x
  cell_place x z low = let base = shade.base in omega (arith, z, low, base)

  pub taken_low : (x : ℕ) → IsTakenIn s x → s.base + 4096 ≤ x
  taken_low x t =
      let low = (covers_inside s x t.inside).low in
      let at = cell_place x t.aligned low in
      let up = part.taken_low (cell_of s x) t.taken in
      omega (arith, at, up)

  pub taken_high : (x : ℕ) → IsTakenIn s x → x < p.stop
  taken_high x t =
      let low = (covers_inside s x t.inside).low in
      let at = cell_place x t.aligned low in
      let down = part.taken_high (cell_of s x) t.taken in
      omega (arith, at, down)

module _ (rows : List TypeRow) (h : HeapView) (k : ℕ) (s : ShadeView) (p : PartView) (shade : IsShade s)
    (part : IsPart s p) (none : (q : ℕ) → hole_from (holes_of h k) q ≡ None)
    (tiled : (x : ℕ) → IsTakenIn s x → IsEdge s p (x + (item_at rows (word_of h) x).size)) (limit : ℕ)
    (good : AreGood (word_of h) s p 0 limit) (x : ℕ) (at : IsTakenIn s x) (low : cell_of s x < limit)
    (last : (n : ℕ) → cell_of s x < n → n < limit → has_bit s.taken n ≡ false) (end : ℕ)
    (ends : end ≡ x + (item_at rows (word_of h) x).size) (some : x < end) where
  abbrev see : Sight
  see = sight rows h k

  abbrev items : ℕ → List Item
  items q = items_between see q end

  -- the walk came to q: what was taken from there on stands there
  pub record IsHere (q : ℕ) : Type 0 where
    pub walk : CanWalk see h.memories q end
    pub inside : s.base ≤ q
    pub below : q ≤ x
    pub edge : IsEdge s p q
    pub objects : (z : ℕ) → IsTakenIn s z → q ≤ z → z < end → HasObject (items q) z

  -- what is known of the items from q on
  pub record IsFrontOf (q : ℕ) (is : List Item) : Type 0 where
    pub taken : (i : Item) → IsIn i is → is_object i ≡ true → IsTakenIn s i.place × (cell_of s i.place < limit)
    pub settled : (b : Bool) → (b ≡ true → has_bit s.taken (cell_of s q) ≡ true) → AreBeforeObjects b is
    pub count : count_by is_object is + count_below s.taken (cell_of s q) ≡ count_below s.taken limit

  module _ (q : ℕ) (here : IsHere q) where
    after : AfterItem see h.memories q end
    after = let b = here.below in walk_item see h.memories q end here.walk (omega (arith, b, some)) (none q)

    abbrev item : Item
    item = item_at rows (word_of h) q

    abbrev next : ℕ
    next = q + item.size

    item_place : item.place ≡ q
    item_place = place-item_at rows (word_of h) q

    longer : q < next
    longer = let least = after.names.least in omega (arith, least)

    rest_above : (j : Item) → IsIn j (items next) → next ≤ j.place
    rest_above j l =
        (all_at (IsItem rows next end) l (items-are see (parts end see next end) next end after.walk.start
        after.walk.spelled)).above

    -- it is the first of them or stands in the rest
    in_rest : (z : ℕ) → (z ≡ q → ⊥) → HasObject (items q) z → HasObject (items next) z
    in_rest z ne o =
        let l : IsIn o.item (item ∷ items next) = subst (λ (is : List Item). IsIn o.item is) after.items o.listed in
        elim (in_cons l) [
          | inl e ↦ absurd (ne (sym o.at ∙ ap (λ (j : Item). j.place) e ∙ item_place))
          | inr m ↦ record { item = o.item; listed = m; at = o.at; object = o.object }
        ]

    rest_from : (z : ℕ) → HasObject (items next) z → next ≤ z
    rest_from z o = let up = rest_above o.item o.listed in let there = o.at in omega (arith, up, there)

    -- the first of them is an object where one was taken
    first_object : IsTakenIn s q → is_object item ≡ true
    first_object t =
        let b = here.below in
        let o = here.objects q t (omega arith) (omega (arith, b, some)) in
        let l : IsIn o.item (item ∷ items next) = subst (λ (is : List Item). IsIn o.item is) after.items o.listed in
        elim (in_cons l) [
          | inl e ↦ subst (λ (j : Item). is_object j ≡ true) e o.object
          | inr m ↦
              let up = rest_above o.item m in let there = o.at in let more = longer in
              absurd (omega (arith, up, there, more))
        ]

    -- nothing was taken between its place and its end
    none_between : (n : ℕ) → cell_of s q < n → n < cell_of s next → has_bit s.taken n ≡ false
    none_between n from to = elim (cases_Bool (has_bit s.taken n)) [
      | inl on ↦
          let z : ℕ = s.base + 8 * n in
          let inside = here.inside in
          let start = here.walk.start in
          let q_at = cell_place s p shade part q start inside in
          let above : q < z = omega (arith, q_at, from) in
          let under : z < next = omega (arith, to) in
          let fits = after.within in
          let o = here.objects z (taken_cell s p shade part n on) (omega (arith, above)) (omega (arith, under, fits)) in
          let up = rest_from z (in_rest z (λ e. omega (arith, above, e)) o) in
          absurd (omega (arith, up, under))
      | inr off ↦ off
    ]

    -- the walk goes on behind it, where x stands in the rest
    goes_on : (x ≡ q → ⊥) → IsEdge s p next → IsHere next
    goes_on ne there =
        let inside = here.inside in
        let below = here.below in
        let more = longer in
        record {
          walk = after.walk;
          inside = omega (arith, inside, more);
          below = rest_from x (in_rest x ne (here.objects x at below some));
          edge = there;
          objects = λ z t up down.
              in_rest z (λ e. omega (arith, up, e, more)) (here.objects z t (omega (arith, up, more)) down);
        }

    -- ---- an object that was taken

    module _ (taken : IsTakenIn s q) where
      q_low : cell_of s q < limit
      q_low = let b = here.below in omega (arith, b, low)

      with_object : (is : List Item) (m : ℕ)
          → ((i : Item) → IsIn i is → is_object i ≡ true → IsTakenIn s i.place × (cell_of s i.place < limit))
          → AreBeforeObjects false is → count_by is_object is + m ≡ count_below s.taken limit
          → m ≡ count_below s.taken (cell_of s q) + 1 → IsFrontOf q (item ∷ is)
      with_object is m all settled count one =
          let object = first_object taken in
          record {
            taken = λ i l o. elim (in_cons l) [
              | inl e ↦
                  let place : i.place ≡ q = ap (λ (j : Item). j.place) e ∙ item_place in
                  subst (λ (y : ℕ). IsTakenIn s y × (cell_of s y < limit)) (sym place) (taken, q_low)
              | inr r ↦ all i r o
            ];
            settled = λ b f. (
              (λ on. object),
              subst (λ (c : Bool). AreBeforeObjects c is) (sym (not_free item object)) settled,
            );
            count =
                let more = sum_by-cons (λ (y : Item). cond (is_object y) 1 0) item is in
                let here_one : ◌≡◌ {A = ℕ} (cond (is_object item) 1 0) 1 = ap (λ (c : Bool). cond c 1 0) object in
                omega (arith, more, here_one, count, one);
          }

      -- it is the last one
      ends_here : x ≡ q → IsFrontOf q (items q)
      ends_here e =
          let same : next ≡ end = ap (λ (y : ℕ). y + (item_at rows (word_of h) y).size) (sym e) ∙ sym ends in
          let done : items next ≡ [] = walk_done see h.memories next end after.walk (omega (arith, same)) in
          let cell : cell_of s x ≡ cell_of s q = ap (cell_of s) e in
          let on = q_low in
          subst (λ (is : List Item). IsFrontOf q is) (sym (after.items ∙ ap (λ (is : List Item). item ∷ is) done))
          (with_object [] (count_below s.taken limit) (λ i l o. elim l [ ]) refl (omega arith)
          (count_next s.taken (cell_of s q) limit on taken.taken (λ n from to. last n (omega (arith, from, cell)) to)))

      -- or the next ones are known
      passes : IsFrontOf next (items next) → IsFrontOf q (items q)
      passes more =
          let inside = here.inside in
          let start = here.walk.start in
          let least = after.names.least in
          subst (λ (is : List Item). IsFrontOf q is) (sym after.items)
          (with_object (items next) (count_below s.taken (cell_of s next)) more.taken
          (more.settled false (λ e. absurd cc)) more.count
          (count_next s.taken (cell_of s q) (cell_of s next) (omega (arith, least, inside)) taken.taken none_between))

    -- ---- a gap

    module _ (never : has_bit s.taken (cell_of s q) ≡ false) (gap : IsFreeGap (word_of h) s q) where
      gap_end : next ≡ q + 24 + word_of h (q + 8)
      gap_end = let size = free_size rows (word_of h) q after.names gap.free in omega (arith, size)

      next_taken : IsTakenIn s next
      next_taken = record {
        aligned = after.walk.start;
        inside = ap (covers s) gap_end ∙ gap.inside;
        taken = ap (λ (y : ℕ). has_bit s.taken (cell_of s y)) gap_end ∙ gap.taken;
      }

      no_x : x ≡ q → ⊥
      no_x e = both_ways (has_bit s.taken (cell_of s q)) never (ap (λ (y : ℕ). has_bit s.taken (cell_of s y)) (sym e)
          ∙ at.taken)

      behind_gap : IsHere next
      behind_gap = goes_on no_x (inr (taken_high s p shade part next next_taken, inl next_taken.taken))

      passes_gap : IsFrontOf next (items next) → IsFrontOf q (items q)
      passes_gap more =
          let free = is_free_at rows (word_of h) q gap.free in
          let inside = here.inside in
          let least = after.names.least in
          subst (λ (is : List Item). IsFrontOf q is) (sym after.items) (record {
            taken = λ i l o. elim (in_cons l) [
              | inl e ↦
                  let object = subst (λ (j : Item). is_object j ≡ true) e o in
                  absurd (both_ways (is_free item) (not_free item object) free)
              | inr r ↦ more.taken i r o
            ];
            settled = λ b f. (
              (λ on. absurd (both_ways (has_bit s.taken (cell_of s q)) never (f on))),
              more.settled (is_free item) (λ e. next_taken.taken),
            );
            count =
                let both = sum_by-cons (λ (y : Item). cond (is_object y) 1 0) item (items next) in
                let zero_here : ◌≡◌ {A = ℕ} (cond (is_object item) 1 0) 0 = ap (λ (c : Bool). cond (not c) 1 0) free in
                let rest = more.count in
                let same = count_none s.taken (cell_of s q) (cell_of s next) (omega (arith, least, inside))
                (λ n from to. elim (cases_eq n (cell_of s q)) [
                  | inl e ↦ ap (has_bit s.taken) e ∙ never
                  | inr ne ↦ none_between n (omega (arith, from, ne)) to
                ]) in
                omega (arith, both, zero_here, rest, same);
          })

    -- what begins there lies below the object
    starts : (has_bit s.taken (cell_of s q) ≡ true) ⊎ (has_bit p.gaps (cell_of s q) ≡ true)
    starts =
        let stop = taken_high s p shade part x at in
        let below = here.below in
        elim here.edge [ inl e ↦ absurd (omega (arith, e, stop, below)) | inr begun ↦ begun.1 ]

    gap_there : has_bit p.gaps (cell_of s q) ≡ true → IsFreeGap (word_of h) s q
    gap_there on =
        let below = here.below in
        subst (IsFreeGap (word_of h) s) (sym (cell_place s p shade part q here.walk.start here.inside))
        (good.gaps (cell_of s q) (omega arith) (omega (arith, below, low)) on)

    taken_there : has_bit s.taken (cell_of s q) ≡ true → IsTakenIn s q
    taken_there on =
        let below = here.below in
        let inside = here.inside in
        let high = (covers_inside s x at.inside).high in
        record {
          aligned = here.walk.start;
          inside = inside_covers s q (record { low = inside; high = omega (arith, below, high) });
          taken = on;
        }

    -- the items from there on, where those behind the next edge are known
    step : (IsHere next → IsFrontOf next (items next)) → IsFrontOf q (items q)
    step more = go (cases_Bool (has_bit s.taken (cell_of s q))) (cases_eq x q)
      where
        go : (has_bit s.taken (cell_of s q) ≡ true) ⊎ (has_bit s.taken (cell_of s q) ≡ false)
            → (x ≡ q) ⊎ (x ≡ q → ⊥) → IsFrontOf q (items q)
        go (inl on) (inl e) = ends_here (taken_there on) e
        go (inl on) (inr ne) = let taken = taken_there on in passes taken (more (goes_on ne (tiled q taken)))
        go (inr off) _ = elim starts [
          | inl on ↦ absurd (both_ways (has_bit s.taken (cell_of s q)) off on)
          | inr on ↦ let gap = gap_there on in passes_gap off gap (more (behind_gap off gap))
        ]

  -- THE WALK: from an edge on to the end of the object
  pub front_walk : (fuel q : ℕ) → IsHere q → end ≤ q + fuel → IsFrontOf q (items q)
  front_walk zero q here l = let below = here.below in absurd (omega (arith, below, some, l))
  front_walk (suc fuel) q here l =
      let more = longer q here in
      step q here (λ there. front_walk fuel (next q here) there (omega (arith, l, more)))
