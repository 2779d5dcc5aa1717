-- Runs of the first pause: what one more item, segment, root or handle adds.
use Rattle.std.proofs.Common.{◌≡◌, ℕ, zero, suc, ◌+◌, List, [], ◌∷◌, ◌++◌, get_or, append-nil, append_assoc, ap, arith}
use Rattle.std.proofs.Common.{refl, sym}
use Rattle.std.proofs.Common.{◌∙◌, ◌<◌, ◌≤◌, inl, inr, Bool, true, false, if◌then◌else◌, map, drop, None, Option, Some}
use Rattle.std.proofs.lemmas.Bool.{both_ways, cases_lt, le-leb}
use Rattle.std.specs.List.{AllByRecursion}
use Rattle.std.specs.FinMap as finmap
use Rattle.std.specs.Ordering.{nat_cmp}
use Rattle.clr_types.specs.LawfulLayout.{AreDisjoint, IsLawfulSegment}
use Rattle.clr_types.specs.Segments.{reserved_end}
use Rattle.clr_types.specs.Types.{TypeRow}
use Rattle.clr_types.specs.declared.handle.Handle.{Handle}
use Rattle.clr_types.specs.declared.item.Item.{Item}
use Rattle.clr_types.specs.declared.segment.SegInfo.{SegInfo}
use Rattle.clr_handles.specs.Places.{names_from, NoneNames}
use Rattle.clr_heap.specs.View.{HeapView, listing, listings}
use Rattle.clr_bgmark.specs.Pauses.{all_taken, is_oldest, root_grayed, roots_grayed, taken_item}
use Rattle.clr_bgmark.specs.Pauses.{target_grayed, targets_grayed, used_of, used_size}
use Rattle.clr_bgmark.specs.Shades.{AreApart, AreRising, BackgroundView, changed_at, covers, is_covered, ShadeView, with_taken}
use Rattle.clr_bgmark.proofs.Kept.{apart_kept, covers_inside, rising_kept}

pub taken_more : (h : HeapView) (ss : List ShadeView) (xs ys : List Item)
    → all_taken h ss (xs ++ ys) ≡ all_taken h (all_taken h ss xs) ys
taken_more h ss [] ys = refl
taken_more h ss (x ∷ xs) ys = taken_more h (taken_item h ss x) xs ys

-- what is taken leaves the segments apart
pub taken_apart : (h : HeapView) (items : List Item) (ss : List ShadeView) → AreApart ss
    → AreApart (all_taken h ss items)
taken_apart h [] ss apart = apart
taken_apart h (i ∷ items) ss apart = taken_apart h items (taken_item h ss i) (one (is_oldest h i))
  where
    one : (b : Bool) → AreApart (if b then changed_at i.place (with_taken i.place) ss else ss)
    one true = apart_kept (with_taken i.place) (λ s b. refl) ss i.place apart
    one false = apart

-- and rising
pub taken_rising : (h : HeapView) (items : List Item) (ss : List ShadeView) → AreRising ss
    → AreRising (all_taken h ss items)
taken_rising h [] ss rising = rising
taken_rising h (i ∷ items) ss rising = taken_rising h items (taken_item h ss i) (one (is_oldest h i))
  where
    one : (b : Bool) → AreRising (if b then changed_at i.place (with_taken i.place) ss else ss)
    one true = rising_kept (with_taken i.place) (λ s. refl) (λ s. refl) ss i.place rising
    one false = rising

-- n + 1 segments are n segments and the one after them
pub listings_more : (rows : List TypeRow) (h : HeapView) (k n : ℕ)
    → listings rows h k (n + 1) ≡ listings rows h k n ++ listing rows h (k + n)
listings_more rows h k zero =
    let e : k ≡ k + 0 = omega arith in
    append-nil (listing rows h k) ∙ ap (listing rows h) e
listings_more rows h k (suc n) =
    let e : k + 1 + n ≡ k + suc n = omega arith in
    let one : suc n + 1 ≡ suc (n + 1) = omega arith in
    ap (listings rows h k) one ∙ ap (λ (rest : List Item). listing rows h k ++ rest) (listings_more rows h (k + 1) n)
    ∙ ap (λ (m : ℕ). listing rows h k ++ (listings rows h (k + 1) n ++ listing rows h m)) e
    ∙ sym (append_assoc (listing rows h k) (listings rows h (k + 1) n) (listing rows h (k + suc n)))

pub no_roots : (roots : List ℕ) (v : BackgroundView) → roots_grayed roots 0 v ≡ v
unfolding roots_grayed
no_roots roots v = refl

pub roots_more : (roots : List ℕ) (n : ℕ) (v : BackgroundView)
    → roots_grayed roots (n + 1) v ≡ root_grayed (roots_grayed roots n v) (get_or roots n 0)
unfolding roots_grayed
roots_more roots n v =
    let e : n + 1 ≡ suc n = omega arith in
    ap (λ (m : ℕ). roots_grayed roots m v) e

pub no_targets : (handles : finmap.FinMap nat_cmp Handle) (v : BackgroundView) → targets_grayed handles 0 v ≡ v
unfolding targets_grayed
no_targets handles v = refl

pub targets_more : (handles : finmap.FinMap nat_cmp Handle) (n : ℕ) (v : BackgroundView)
    → targets_grayed handles (n + 1) v ≡ target_grayed (finmap.get handles n) (targets_grayed handles n v)
unfolding targets_grayed
targets_more handles n v =
    let e : n + 1 ≡ suc n = omega arith in
    ap (λ (m : ℕ). targets_grayed handles m v) e

-- numbers that aren't in use make nothing gray
pub targets_passed : (handles : finmap.FinMap nat_cmp Handle) (v : BackgroundView) (from to : ℕ) → from ≤ to
    → NoneNames handles 0 from to → targets_grayed handles to v ≡ targets_grayed handles from v
unfolding targets_grayed
targets_passed handles v from zero l none =
    let same : zero ≡ from = omega (arith, l) in
    ap (λ (n : ℕ). targets_grayed handles n v) same
targets_passed handles v from (suc n) l none = elim (cases_lt n from) [
  | inr before ↦
      ap (λ (o : Option Handle). target_grayed o (targets_grayed handles n v))
      (unused n (finmap.get handles n) before (omega arith) refl)
      ∙ targets_passed handles v from n before (λ h row low high e. none h row low (omega (arith, high)) e)
  | inl past ↦
      let same : suc n ≡ from = omega (arith, l, past) in
      ap (λ (m : ℕ). targets_grayed handles m v) same
]
  where
    unused : (k : ℕ) (o : Option Handle) → from ≤ k → k < suc n → finmap.get handles k ≡ o → o ≡ None
    unused k None low high e = refl
    unused k (Some row) low high e =
        let names : names_from 0 row ≡ true = rw (le-leb 0 row.target (omega arith)) refl in
        absurd (both_ways (names_from 0 row) (none k row low high e) names)

-- no segment has an address below all of them
uncovered : (ss : List ShadeView) (segs : List SegInfo) (top a : ℕ)
    → map (λ (s : ShadeView). (s.base, s.size)) ss ≡ map used_of segs
    → AllByRecursion (λ (r : SegInfo). top ≤ r.base) segs → a < top → is_covered ss a ≡ false
uncovered [] segs top a e above low = refl
uncovered (s ∷ ss) [] top a e above low = absurd cc
uncovered (s ∷ ss) (g ∷ segs) top a e above low =
    let base : s.base ≡ g.base = ap (λ (l : List (ℕ × ℕ)). (get_or l 0 (0, 0)).0) e in
    let over = above.0 in
    let out : a < s.base = omega (arith, base, over, low) in
    go out (uncovered ss segs top a (ap (drop 1) e) above.1 low) (covers s a) refl
  where
    go : a < s.base → is_covered ss a ≡ false → (c : Bool) → covers s a ≡ c
        → (if c then true else is_covered ss a) ≡ false
    go out rest true f =
        let in_it = (covers_inside s a f).low in
        absurd (omega (arith, out, in_it))
    go out rest false f = rest

-- The used part of a segment, in whole pages: all up to the segment's end lies in it, and it is reserved.
pub record IsUsedPart (g : SegInfo) : Type 0 where
  pub holds : g.end ≤ g.base + used_size g
  pub reserved : g.base + used_size g ≤ reserved_end g

pub used_part : (g : SegInfo) → IsLawfulSegment g → IsUsedPart g
used_part g is =
    let reserved = is.reserved in
    let low = is.low in
    let high = is.high in
    record { holds = omega (arith, low); reserved = omega (arith, reserved, low, high) }

-- the used parts of segments that lie beside each other share no address
pub apart_shapes : (ss : List ShadeView) (segs : List SegInfo)
    → map (λ (s : ShadeView). (s.base, s.size)) ss ≡ map used_of segs → AllByRecursion IsLawfulSegment segs
    → AreDisjoint segs → AreApart ss
apart_shapes [] segs e lawful disjoint = tt
apart_shapes (s ∷ ss) [] e lawful disjoint = absurd cc
apart_shapes (s ∷ ss) (g ∷ segs) e lawful disjoint =
    let base : s.base ≡ g.base = ap (λ (l : List (ℕ × ℕ)). (get_or l 0 (0, 0)).0) e in
    let size : s.size ≡ used_size g = ap (λ (l : List (ℕ × ℕ)). (get_or l 0 (0, 0)).1) e in
    let reserved = (used_part g lawful.0).reserved in (
      (λ a f.
          let low = (covers_inside s a f).high in
          uncovered ss segs (reserved_end g) a (ap (drop 1) e) disjoint.0
          (omega (arith, base, size, reserved, low))),
      apart_shapes ss segs (ap (drop 1) e) lawful.1 disjoint.1,
    )

-- what stands above a segment stands above its used part
above_used : (ss : List ShadeView) (segs : List SegInfo) (end top : ℕ) → end ≤ top
    → map (λ (s : ShadeView). (s.base, s.size)) ss ≡ map used_of segs
    → AllByRecursion (λ (r : SegInfo). top ≤ r.base) segs → AllByRecursion (λ (t : ShadeView). end ≤ t.base) ss
above_used [] segs end top low e above = tt
above_used (s ∷ ss) [] end top low e above = absurd cc
above_used (s ∷ ss) (g ∷ segs) end top low e above =
    let base : s.base ≡ g.base = ap (λ (l : List (ℕ × ℕ)). (get_or l 0 (0, 0)).0) e in
    let over = above.0 in
    (omega (arith, base, over, low), above_used ss segs end top low (ap (drop 1) e) above.1)

-- the used parts of segments that lie above each other do so, too
pub rising_shapes : (ss : List ShadeView) (segs : List SegInfo)
    → map (λ (s : ShadeView). (s.base, s.size)) ss ≡ map used_of segs → AllByRecursion IsLawfulSegment segs
    → AreDisjoint segs → AreRising ss
rising_shapes [] segs e lawful disjoint = tt
rising_shapes (s ∷ ss) [] e lawful disjoint = absurd cc
rising_shapes (s ∷ ss) (g ∷ segs) e lawful disjoint =
    let base : s.base ≡ g.base = ap (λ (l : List (ℕ × ℕ)). (get_or l 0 (0, 0)).0) e in
    let size : s.size ≡ used_size g = ap (λ (l : List (ℕ × ℕ)). (get_or l 0 (0, 0)).1) e in
    let reserved = (used_part g lawful.0).reserved in (
      above_used ss segs (s.base + s.size) (reserved_end g) (omega (arith, base, size, reserved)) (ap (drop 1) e)
          disjoint.0,
      rising_shapes ss segs (ap (drop 1) e) lawful.1 disjoint.1,
    )
