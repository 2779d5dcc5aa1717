-- References that are followed with the bits of one segment lent.
use Rattle.std.proofs.Common.{◌≡◌, ◌≢◌, ℕ, ◌+◌, ◌*◌, ◌^◌, ◌<◌, ◌≤◌, inl, inr, List, length, refl}
use Rattle.std.proofs.Common.{sym, ap, subst, ◌∙◌, arith, Bool, true, false, if◌then◌else◌, ◌==◌, get_or, set, min}
use Rattle.std.proofs.lemmas.Bool.{ne_eqb}
use Rattle.std.proofs.lemmas.List.{get_or-set_same, length-set, set-get_or, set-set}
use Rattle.clr_types.specs.Descriptors.{offsets_from}
use Rattle.clr_mark.proofs.RunReferences.{run_more}
use Rattle.clr_bgmark.specs.Bits.{has_bit}
use Rattle.clr_bgmark.specs.Lending.{found_near, HasMetNear, IsLentFrom, IsNear, lent, met_near, StaysLawful}
use Rattle.clr_bgmark.specs.Shades.{BackgroundView, cell_colour, cell_of, changed_at, colour_at, colour_by, covers}
use Rattle.clr_bgmark.specs.Shades.{grayed, is_outside, is_white, IsAt, IsBackground, met, met_all}
use Rattle.clr_bgmark.specs.Shades.{ShadeView, slot_logged, with_marked}
use Rattle.clr_bgmark.proofs.FollowedSlots.{met_more}
use Rattle.clr_bgmark.proofs.GrayPlaces.{apart_at}
use Rattle.clr_bgmark.proofs.Kept.{marked_background}
use Rattle.clr_bgmark.proofs.Lookups.{at_changed, at_told}

-- ---- one segment

module _ (s : ShadeView) (y : ℕ) where
  pub null_met : y ≡ 0 → s ≡ met_near s y
  null_met null = ap (λ n. if n == 0 then s else (if is_white (cell_colour s y) then with_marked y s else s)) (sym null)

  pub null_found : y ≡ 0 → 0 ≡ found_near s y
  null_found null = ap (λ n. if n == 0 then 0 else (if is_white (cell_colour s y) then 1 else 0)) (sym null)

  pub white_met : y ≢ 0 → is_white (cell_colour s y) ≡ true → with_marked y s ≡ met_near s y
  white_met some white = sym (λ i. if ne_eqb y 0 some i then s else (if white i then with_marked y s else s))

  pub white_found : y ≢ 0 → is_white (cell_colour s y) ≡ true → 1 ≡ found_near s y
  white_found some white = sym (λ i. if ne_eqb y 0 some i then 0 else (if white i then 1 else 0))

  pub dark_met : y ≢ 0 → is_white (cell_colour s y) ≡ false → s ≡ met_near s y
  dark_met some dark = sym (λ i. if ne_eqb y 0 some i then s else (if dark i then with_marked y s else s))

  pub dark_found : y ≢ 0 → is_white (cell_colour s y) ≡ false → 0 ≡ found_near s y
  dark_found some dark = sym (λ i. if ne_eqb y 0 some i then 0 else (if dark i then 1 else 0))

  pub few_found : found_near s y ≤ 1
  few_found = go (y == 0) (is_white (cell_colour s y))
    where
      go : (z w : Bool) → (if z then 0 else (if w then 1 else 0)) ≤ 1
      go true w = omega arith
      go false true = omega arith
      go false false = omega arith

-- ---- one segment among all

more_gray : (g n : ℕ) → min (min (g + n) 18446744073709551615 + 1) 18446744073709551615
    ≡ min (g + (n + 1)) 18446744073709551615
more_gray g n = omega arith

same_gray : (g n : ℕ) → min (g + n) 18446744073709551615 ≡ min (g + (n + 0)) 18446744073709551615
same_gray g n = omega arith

-- a target in the segment whose bits were given back
module _ (ss : List ShadeView) (near : ℕ) (s : ShadeView) (y : ℕ) (lawful : IsBackground (set ss near s))
    (within : near < length ss) (inside : covers s y ≡ true) where
  abbrev ts : List ShadeView
  ts = set ss near s

  own : get_or ts near s ≡ s
  own = get_or-set_same ss near s s within

  at : IsAt ts near y
  at =
      let same = length-set ss near s in
      apart_at ts near y s lawful.apart (omega (arith, same, within))
      (ap (λ (t : ShadeView). covers t y) own ∙ inside)

  pub colour_back : colour_at ts y ≡ cell_colour s y
  colour_back =
      let scanned = at_told (λ s a. has_bit s.scanned (cell_of s a)) ts near y s at in
      let marked = at_told (λ s a. has_bit s.marked (cell_of s a)) ts near y s at in
      let taken = at_told (λ s a. has_bit s.taken (cell_of s a)) ts near y s at in
      (λ i. colour_by (scanned i) (marked i) (taken i)) ∙ ap (λ (t : ShadeView). cell_colour t y) own

  pub marked_back : changed_at y (with_marked y) ts ≡ set ss near (with_marked y s)
  marked_back =
      sym (at_changed (with_marked y) ts near y s at)
      ∙ ap (λ (t : ShadeView). set ts near (with_marked y t)) own
      ∙ set-set ss near s (with_marked y s)

  pub marked_lawful : IsBackground (set ss near (with_marked y s))
  marked_lawful = subst IsBackground marked_back (marked_background ts y lawful)

-- ---- the law of what is lent

pub lawful_begins : (s : ShadeView) → StaysLawful s s
lawful_begins s = λ ss near l.
    subst IsBackground (sym (ap (set ss near) l.is ∙ set-get_or ss near s)) l.background

pub lawful_goes : (s now : ShadeView) (y : ℕ) → StaysLawful s now → IsNear now y → StaysLawful s (met_near now y)
lawful_goes s now y stays (inl null) = λ ss near l.
    subst (λ (t : ShadeView). IsBackground (set ss near t)) (null_met now y null) (stays ss near l)
lawful_goes s now y stays (inr is) = λ ss near l.
    go ss near l (y == 0) (is_white (cell_colour now y))
  where
    go : (ss : List ShadeView) (near : ℕ) → IsLentFrom ss near s → (z w : Bool)
        → IsBackground (set ss near (if z then now else (if w then with_marked y now else now)))
    go ss near l true w = stays ss near l
    go ss near l false true = marked_lawful ss near now y (stays ss near l) l.within is.0
    go ss near l false false = stays ss near l

-- ---- what is met

one_met : (v : BackgroundView) (near : ℕ) (s : ShadeView) (found y a : ℕ) → IsBackground (set v.shades near s)
    → near < length v.shades → IsNear s y
    → met (lent v near s found) y a ≡ lent v near (met_near s y) (found + found_near s y)
one_met v near s found y a lawful within is = go is (y == 0) refl (is_white (cell_colour s y)) refl
  where
    u : BackgroundView
    u = lent v near s found

    same : lent v near s found ≡ lent v near s (found + 0)
    same = λ i. record v { shades = set v.shades near s; gray = same_gray v.gray found i }

    go : IsNear s y → (z : Bool) → (y == 0) ≡ z → (w : Bool) → is_white (cell_colour s y) ≡ w
        → (if z then u else (if is_white (colour_at u.shades y) then grayed u y else
        (if is_outside (colour_at u.shades y) then slot_logged u a else u)))
        ≡ lent v near (if z then s else (if w then with_marked y s else s))
        (found + (if z then 0 else (if w then 1 else 0)))
    go is true e w f = same
    go (inl null) false e w f = absurd (ne-zero null e)
      where
        ne-zero : y ≡ 0 → (y == 0) ≡ false → ⊥
        ne-zero null e = let no : (0 == 0) ≡ false = ap (λ n. n == 0) (sym null) ∙ e in absurd cc
    go (inr here) false e true f =
        let white = ap is_white (colour_back v.shades near s y lawful within here.0) ∙ f in
        (λ i. if white i then grayed u y else (if is_outside (colour_at u.shades y) then slot_logged u a else u))
        ∙ (λ i. record v {
          shades = marked_back v.shades near s y lawful within here.0 i;
          gray = more_gray v.gray found i;
        })
    go (inr here) false e false f =
        let colour = colour_back v.shades near s y lawful within here.0 in
        let dark = ap is_white colour ∙ f in
        let there = ap is_outside colour ∙ here.1 in
        (λ i. if dark i then grayed u y else (if there i then slot_logged u a else u)) ∙ same

pub near_begins : (word : ℕ → ℕ) (obj offset from : ℕ) (s : ShadeView) → HasMetNear word obj offset from from s s 0
near_begins word obj offset from s = λ first v near l fits e.
    let same : set v.shades near s ≡ v.shades = ap (set v.shades near) l.is ∙ set-get_or v.shades near s in
    let gray : min (v.gray + 0) 18446744073709551615 ≡ v.gray = omega (arith, fits) in
    (λ i. record v { shades = same i; gray = gray i }) ∙ e

pub near_goes : (word : ℕ → ℕ) (obj offset from i : ℕ) (s now : ShadeView) (found y : ℕ) → StaysLawful s now
    → HasMetNear word obj offset from i s now found → IsNear now y → y ≡ word (obj + (offset + 8 * i))
    → HasMetNear word obj offset from (i + 1) s (met_near now y) (found + found_near now y)
near_goes word obj offset from i s now found y lawful done is reads = λ first v near l fits e.
    let a = obj + (offset + 8 * i) in
    sym (one_met v near now found y a (lawful v.shades near l) l.within is)
    ∙ (λ j. met (done first v near l fits e j) (reads j) a)
    ∙ sym (met_more word first obj (offsets_from offset i) (offset + 8 * i))
    ∙ ap (met_all word first obj) (sym (run_more offset i))

-- the bits given back to all segments
pub given_back : (word : ℕ → ℕ) (obj offset from stop : ℕ) (s now : ShadeView) (found : ℕ) (ss : List ShadeView)
    (near : ℕ) → HasMetNear word obj offset from stop s now found → near < length ss → s ≡ get_or ss near s
    → (first v : BackgroundView) → v.shades ≡ ss → IsBackground v.shades → v.gray < 2 ^ 64
    → v ≡ met_all word first obj (offsets_from offset from)
    → (record v { shades = set ss near now; gray = min (v.gray + found) 18446744073709551615 })
    ≡ met_all word first obj (offsets_from offset stop)
given_back word obj offset from stop s now found ss near met within is first v same lawful fits e =
    let lengths = ap length same in
    ap (λ (ts : List ShadeView). record v {
      shades = set ts near now;
      gray = min (v.gray + found) 18446744073709551615;
    }) (sym same)
    ∙ met first v near (record {
      background = lawful;
      within = omega (arith, within, lengths);
      is = is ∙ ap (λ (ts : List ShadeView). get_or ts near s) (sym same);
    }) fits e

-- nothing was lent
pub nothing_lent : (ss : List ShadeView) (v met : BackgroundView) → v.shades ≡ ss → v.gray < 2 ^ 64 → v ≡ met
    → (record v { shades = ss; gray = min (v.gray + 0) 18446744073709551615 }) ≡ met
nothing_lent ss v met same fits e =
    let gray : min (v.gray + 0) 18446744073709551615 ≡ v.gray = omega (arith, fits) in
    (λ i. record v { shades = sym same i; gray = gray i }) ∙ e
