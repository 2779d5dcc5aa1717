-- The counts of lines with one item more.
use Rattle.std.proofs.Common.{◌≡◌, ◌∙◌, ℕ, zero, suc, ◌+◌, ◌<◌, ◌^◌, Bool, true, false, ◌&&◌, ◌||◌, not, inl, inr, List}
use Rattle.std.proofs.Common.{[], ◌∷◌, ◌++◌}
use Rattle.std.proofs.Common.{arith, cond, filter, get_or, length, replicate, set, refl, sym, ap, ap₂, subst, ◌==◌}
use Rattle.std.proofs.lemmas.Bool.{cases_eq, eq-eqb, ne_eqb}
use Rattle.std.proofs.lemmas.List.{get_or-set_other, get_or-set_same, length-set}
use Rattle.clr_types.specs.Types.{TypeRow}
use Rattle.clr_types.specs.declared.item.Item.{Item}
use Rattle.clr_heap.specs.View.{HeapView}
use Rattle.clr_model.specs.Looks.{objects_among, stat_row_in}
use Rattle.clr_model.specs.Sos.{bytes_in, is_free_item}
use Rattle.clr_view.specs.View.{layout_in}
use Rattle.clr_sos.proofs.ListedItems.{bytes-more, filter-no, filter-yes, length-more}
use Rattle.clr_shows.specs.StatBounds.{AreWithin, IsStatWithin}
use Rattle.clr_shows.specs.Stats.{AreCounted, counted, CanCount, in_line, is_dead, no_stat, stat_of, with_counted}
use Rattle.clr_shows.specs.declared.stats.Stat.{Stat}

-- ---- one line

module _ (live : ℕ → Bool) (xs : List Item) (i : Item) where
  -- the item isn't free
  abbrev no_free : Item → Bool
  no_free j = not (is_free_item j)

  -- the item isn't live
  abbrev not_live : Item → Bool
  not_live j = not (live j.place)

  -- the bytes of the dead with one object more, dead or not
  dead-more : (b : Bool) → not (live i.place) ≡ b
      → cond b (bytes_in (filter not_live (objects_among xs)) + i.size) (bytes_in (filter not_live (objects_among xs)))
      ≡ bytes_in (filter not_live (objects_among xs ++ i ∷ []))
  dead-more true e =
      sym (ap bytes_in (filter-yes not_live (objects_among xs) i e) ∙ bytes-more (filter not_live (objects_among xs)) i)
  dead-more false e = sym (ap bytes_in (filter-no not_live (objects_among xs) i e))

  -- THE COUNTS OF ITEMS with one item more
  pub counted-push : counted (stat_of live xs) i (is_dead live i) ≡ stat_of live (xs ++ i ∷ [])
  counted-push = go (is_free_item i) refl
    where
      go : (b : Bool) → is_free_item i ≡ b
          → cond b (record (stat_of live xs) { free = bytes_in (filter is_free_item xs) + i.size })
          (record {
            objects = length (objects_among xs) + 1;
            bytes = bytes_in (objects_among xs) + i.size;
            free = bytes_in (filter is_free_item xs);
            dead = cond (not b && not (live i.place)) (bytes_in (filter not_live (objects_among xs)) + i.size)
                (bytes_in (filter not_live (objects_among xs)));
          })
          ≡ stat_of live (xs ++ i ∷ [])
      go true e =
          let objects = sym (filter-no no_free xs i (ap not e)) in
          let free : bytes_in (filter is_free_item xs) + i.size ≡ bytes_in (filter is_free_item (xs ++ i ∷ [])) =
          sym (ap bytes_in (filter-yes is_free_item xs i e) ∙ bytes-more (filter is_free_item xs) i) in
          λ k. record {
            objects = length (objects k);
            bytes = bytes_in (objects k);
            free = free k;
            dead = bytes_in (filter not_live (objects k));
          }
      go false e =
          let objects = filter-yes no_free xs i (ap not e) in
          let count : length (objects_among xs) + 1 ≡ length (objects_among (xs ++ i ∷ [])) =
          sym (ap length objects ∙ length-more (objects_among xs) i) in
          let bytes : bytes_in (objects_among xs) + i.size ≡ bytes_in (objects_among (xs ++ i ∷ [])) =
          sym (ap bytes_in objects ∙ bytes-more (objects_among xs) i) in
          let free = sym (filter-no is_free_item xs i e) in
          let dead = dead-more (not (live i.place)) refl
          ∙ ap (λ (items : List Item). bytes_in (filter not_live items)) (sym objects) in
          λ k. record { objects = count k; bytes = bytes k; free = bytes_in (free k); dead = dead k }

-- ---- how much a line counts at most

-- with an item more that isn't counted, the counts are within what the items come to
pub within-more : (s : Stat) (xs : List Item) (i : Item) → IsStatWithin s xs → IsStatWithin s (xs ++ i ∷ [])
within-more s xs i w =
    let long = length-more xs i in
    let sum = bytes-more xs i in
    let o = w.objects in
    let b = w.bytes in
    let f = w.free in
    let d = w.dead in
    record {
      objects = omega (arith, long, o);
      bytes = omega (arith, sum, b);
      free = omega (arith, sum, f);
      dead = omega (arith, sum, d);
    }

-- with an item more that is counted, the counts are within what the items come to
pub within-counted : (s : Stat) (xs : List Item) (i : Item) (dead : Bool) → IsStatWithin s xs
    → IsStatWithin (counted s i dead) (xs ++ i ∷ [])
within-counted s xs i dead w = go (is_free_item i) dead
  where
    go : (b d : Bool) → IsStatWithin (cond b (record s { free = s.free + i.size }) (record {
      objects = s.objects + 1;
      bytes = s.bytes + i.size;
      free = s.free;
      dead = cond d (s.dead + i.size) s.dead;
    })) (xs ++ i ∷ [])
    go true d =
        let long = length-more xs i in
        let sum = bytes-more xs i in
        let o = w.objects in
        let b = w.bytes in
        let f = w.free in
        let d = w.dead in
        record {
          objects = omega (arith, long, o);
          bytes = omega (arith, sum, b);
          free = omega (arith, sum, f);
          dead = omega (arith, sum, d);
        }
    go false true =
        let long = length-more xs i in
        let sum = bytes-more xs i in
        let o = w.objects in
        let b = w.bytes in
        let f = w.free in
        let d = w.dead in
        record {
          objects = omega (arith, long, o);
          bytes = omega (arith, sum, b);
          free = omega (arith, sum, f);
          dead = omega (arith, sum, d);
        }
    go false false =
        let long = length-more xs i in
        let sum = bytes-more xs i in
        let o = w.objects in
        let b = w.bytes in
        let f = w.free in
        let d = w.dead in
        record {
          objects = omega (arith, long, o);
          bytes = omega (arith, sum, b);
          free = omega (arith, sum, f);
          dead = omega (arith, sum, d);
        }

-- where counts are within what few items come to, one item more can be counted
pub room-left : (s : Stat) (xs : List Item) (i : Item) → IsStatWithin s xs → length xs + 1 < 2 ^ 62
    → bytes_in xs + i.size < 2 ^ 62 → CanCount s i
room-left s xs i w count bytes =
    let o = w.objects in
    let b = w.bytes in
    let f = w.free in
    let d = w.dead in
    record {
      objects = omega (arith, count, o);
      bytes = omega (arith, bytes, b);
      free = omega (arith, bytes, f);
      dead = omega (arith, bytes, d);
    }

-- ---- all lines

-- a choice of which one holds
or-true : (b : Bool) → (b || true) ≡ true
or-true true = refl
or-true false = refl

-- the last line is none of those that count a part
apart : (row : ℕ) → row < 5 → 5 ≡ row → ⊥
apart row low is = omega (arith, low, is)

module _ (stats : List Stat) (long : length stats ≡ 6) (row : ℕ) (low : row < 5) (i : Item) (dead : Bool) where
  -- the lines with the item counted in its own
  abbrev one : List Stat
  one = set stats row (counted (get_or stats row no_stat) i dead)

  -- there are six of them
  long_one : length one ≡ 6
  long_one = length-set stats row (counted (get_or stats row no_stat) i dead) ∙ long

  -- the last line with one item more
  at-last : get_or (with_counted stats row i dead) 5 no_stat ≡ counted (get_or stats 5 no_stat) i dead
  at-last =
      let size = long_one in
      get_or-set_same one 5 (counted (get_or stats 5 no_stat) i dead) no_stat (omega (arith, size))

  -- the item's own line with one item more
  at-row : get_or (with_counted stats row i dead) row no_stat ≡ counted (get_or stats row no_stat) i dead
  at-row =
      get_or-set_other one 5 row (counted (get_or stats 5 no_stat) i dead) no_stat (λ is. apart row low (sym is))
      ∙ get_or-set_same stats row (counted (get_or stats row no_stat) i dead) no_stat (omega (arith, long, low))

  -- every other line stays
  at-other : (k : ℕ) → (k ≡ 5 → ⊥) → (k ≡ row → ⊥)
      → get_or (with_counted stats row i dead) k no_stat ≡ get_or stats k no_stat
  at-other k last own =
      get_or-set_other one 5 k (counted (get_or stats 5 no_stat) i dead) no_stat last
      ∙ get_or-set_other stats row k (counted (get_or stats row no_stat) i dead) no_stat own

  -- to count an item leaves the number of lines
  pub lines-kept : length (with_counted stats row i dead) ≡ 6
  lines-kept = length-set one 5 (counted (get_or stats 5 no_stat) i dead) ∙ long_one

  -- with one item more, no line counts more than the items come to
  pub within-on : (xs : List Item) → AreWithin stats xs → AreWithin (with_counted stats row i dead) (xs ++ i ∷ [])
  within-on xs within k m = elim (cases_eq k 5) [
    | inl last ↦
        subst (λ (j : ℕ). IsStatWithin (get_or (with_counted stats row i dead) j no_stat) (xs ++ i ∷ [])) (sym last)
        (subst (λ (s : Stat). IsStatWithin s (xs ++ i ∷ [])) (sym at-last)
        (within-counted (get_or stats 5 no_stat) xs i dead (within 5 (omega arith))))
    | inr part ↦ elim (cases_eq k row) [
      | inl own ↦
          subst (λ (j : ℕ). IsStatWithin (get_or (with_counted stats row i dead) j no_stat) (xs ++ i ∷ [])) (sym own)
          (subst (λ (s : Stat). IsStatWithin s (xs ++ i ∷ [])) (sym at-row)
          (within-counted (get_or stats row no_stat) xs i dead (within row (omega (arith, low)))))
      | inr other ↦
          subst (λ (s : Stat). IsStatWithin s (xs ++ i ∷ [])) (sym (at-other k part other))
          (within-more (get_or stats k no_stat) xs i (within k m))
    ]
  ]

  module _ (rows : List TypeRow) (h : HeapView) (live : ℕ → Bool) (xs : List Item)
      (own : stat_row_in (layout_in rows h) h.segments i.place ≡ row) (told : dead ≡ is_dead live i)
      (counts : AreCounted rows h live stats xs) where
    -- a line that counts the item has the counts of its items and that one
    line-more : (k : ℕ) → k < 6 → in_line rows h k i ≡ true
        → counted (get_or stats k no_stat) i dead ≡ stat_of live (filter (in_line rows h k) (xs ++ i ∷ []))
    line-more k m yes_it =
        ap₂ (λ (s : Stat) (d : Bool). counted s i d) (counts k m) told
        ∙ counted-push live (filter (in_line rows h k) xs) i
        ∙ ap (stat_of live) (sym (filter-yes (in_line rows h k) xs i yes_it))

    -- THE COUNTS OF ALL LINES with one item more are those of the items and that one
    pub counts-on : AreCounted rows h live (with_counted stats row i dead) (xs ++ i ∷ [])
    counts-on k m = elim (cases_eq k 5) [
      | inl last ↦
          subst (λ (j : ℕ). get_or (with_counted stats row i dead) j no_stat
          ≡ stat_of live (filter (in_line rows h j) (xs ++ i ∷ []))) (sym last)
          (at-last ∙ line-more 5 (omega arith) refl)
      | inr part ↦ elim (cases_eq k row) [
        | inl same ↦
            subst (λ (j : ℕ). get_or (with_counted stats row i dead) j no_stat
            ≡ stat_of live (filter (in_line rows h j) (xs ++ i ∷ []))) (sym same)
            (at-row ∙ line-more row (omega (arith, low)) (row-line row own))
        | inr other ↦
            at-other k part other ∙ counts k m
            ∙ ap (stat_of live) (sym (filter-no (in_line rows h k) xs i (other-line part other)))
      ]
    ]
      where
        row-line : (n : ℕ) → stat_row_in (layout_in rows h) h.segments i.place ≡ n → in_line rows h n i ≡ true
        row-line n is =
            ap (λ (b : Bool). (n == 5) || b) (eq-eqb (stat_row_in (layout_in rows h) h.segments i.place) n is)
            ∙ or-true (n == 5)

        other-line : {j : ℕ} → (j ≡ 5 → ⊥) → (j ≡ row → ⊥) → in_line rows h j i ≡ false
        other-line {j} part other =
            ap₂ (λ (a b : Bool). a || b) (ne_eqb j 5 part)
            (ne_eqb (stat_row_in (layout_in rows h) h.segments i.place) j (λ is. other (sym is ∙ own)))

-- ---- nothing

-- a line that counts nothing
none-at : (n k : ℕ) → get_or (replicate n no_stat) k no_stat ≡ no_stat
none-at zero k = refl
none-at (suc n) zero = refl
none-at (suc n) (suc k) = none-at n k

-- lines that count nothing have the counts of no items
pub none-counted : (rows : List TypeRow) (h : HeapView) (live : ℕ → Bool)
    → AreCounted rows h live (replicate 6 no_stat) []
none-counted rows h live k m = none-at 6 k

-- lines that count nothing are within what no items come to
pub none-within : AreWithin (replicate 6 no_stat) []
none-within k m = subst (λ (s : Stat). IsStatWithin s []) (sym (none-at 6 k))
    (record { objects = omega arith; bytes = omega arith; free = omega arith; dead = omega arith })
