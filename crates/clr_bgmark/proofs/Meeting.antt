-- What following references leaves of the colours.
use Rattle.std.proofs.Common.{◌≡◌, ◌≢◌, ℕ, ◌+◌, ◌/◌, ◌%◌, ◌⊎◌, inl, inr, List, [], ◌∷◌, refl, sym, ap, subst, ◌∙◌}
use Rattle.std.proofs.Common.{arith, Bool, true, false, if◌then◌else◌, ◌||◌, ◌&&◌, not, ◌==◌, nat_eq}
use Rattle.std.specs.List.{AllByRecursion}
use Rattle.std.proofs.lemmas.Bool.{cases_Bool, both_ways, eqb-true, eqb-false, eq-eqb}
use Rattle.clr_types.specs.Rising.{IsIn, first, later}
use Rattle.clr_types.proofs.RisingLists.{in_cons}
use Rattle.clr_bgmark.specs.Bits.{has_bit}
use Rattle.clr_bgmark.specs.Scanning.{is_white_place}
use Rattle.clr_bgmark.specs.Shades.{ShadeView, IsShade, BackgroundView, cell_of, changed_at, colour_at, colour_by}
use Rattle.clr_bgmark.specs.Shades.{is_covered, is_marked, is_outside, is_scanned, is_taken, is_white, met}
use Rattle.clr_bgmark.specs.Shades.{met_all, grayed, rest_of, slot_logged, told, with_logged, with_marked}
use Rattle.clr_bgmark.proofs.Lookups.{none_told}
use Rattle.clr_bgmark.proofs.Kept.{in_cell, logged_shades, marked_more, marked_shades, or_true, told_kept}

-- what is told of an address, its segment has
pub told_covered : (test : ShadeView → ℕ → Bool) (ss : List ShadeView) (a : ℕ) → told test ss a ≡ true
    → is_covered ss a ≡ true
told_covered test ss a e = elim (cases_Bool (is_covered ss a)) [
  | inl some ↦ some
  | inr none ↦ absurd (both_ways (told test ss a) (none_told test ss a none) e)
]

-- ---- the colour white

white_by : (scanned marked taken : Bool) → is_white (colour_by scanned marked taken)
    ≡ (taken && (not marked && not scanned))
white_by true true true = refl
white_by true true false = refl
white_by true false true = refl
white_by true false false = refl
white_by false true true = refl
white_by false true false = refl
white_by false false true = refl
white_by false false false = refl

pub white_is : (ss : List ShadeView) (a : ℕ) → is_white (colour_at ss a) ≡ is_white_place ss a
white_is ss a = white_by (is_scanned ss a) (is_marked ss a) (is_taken ss a)

pub record IsWhite (ss : List ShadeView) (a : ℕ) : Type 0 where
  pub taken : is_taken ss a ≡ true
  pub unmarked : is_marked ss a ≡ false
  pub unscanned : is_scanned ss a ≡ false

pub white_parts : (ss : List ShadeView) (a : ℕ) → is_white_place ss a ≡ true → IsWhite ss a
white_parts ss a e = go (is_taken ss a) refl (is_marked ss a) refl (is_scanned ss a) refl e
  where
    go : (t : Bool) → is_taken ss a ≡ t → (m : Bool) → is_marked ss a ≡ m → (s : Bool) → is_scanned ss a ≡ s
        → (t && (not m && not s)) ≡ true → IsWhite ss a
    go true f false g false h e = record { taken = f; unmarked = g; unscanned = h }
    go true f false g true h e = absurd cc
    go true f true g s h e = absurd cc
    go false f m g s h e = absurd cc

pub parts_white : (ss : List ShadeView) (a : ℕ) → IsWhite ss a → is_white_place ss a ≡ true
parts_white ss a w = λ i. w.taken i && (not (w.unmarked i) && not (w.unscanned i))

-- ---- what was met

-- White places that are named became marked, and nothing else did. What was taken and scanned stays.
pub record HasMet (ss now : List ShadeView) (named : ℕ → Type 0) : Type 0 where
  pub shades : AllByRecursion IsShade now
  pub taken : (b : ℕ) → is_taken now b ≡ is_taken ss b
  pub scanned : (b : ℕ) → is_scanned now b ≡ is_scanned ss b
  pub stays : (b : ℕ) → is_marked ss b ≡ true → is_marked now b ≡ true
  pub fresh : (b : ℕ) → b % 8 ≡ 0 → is_marked now b ≡ true
      → (is_marked ss b ≡ true) ⊎ (named b × (is_white_place ss b ≡ true))
  pub found : (b : ℕ) → named b → is_white_place ss b ≡ true → is_marked now b ≡ true

pub met_none : (ss : List ShadeView) (named : ℕ → Type 0) → AllByRecursion IsShade ss
    → ((b : ℕ) → named b → is_white_place ss b ≡ true → ⊥) → HasMet ss ss named
met_none ss named all none = record {
  shades = all;
  taken = λ b. refl;
  scanned = λ b. refl;
  stays = λ b e. e;
  fresh = λ b whole e. inl e;
  found = λ b n w. absurd (none b n w);
}

-- one after another
pub met_after : (ss mid now : List ShadeView) (one other both : ℕ → Type 0) → HasMet ss mid one → HasMet mid now other
    → ((b : ℕ) → both b → one b ⊎ other b) → ((b : ℕ) → one b → both b) → ((b : ℕ) → other b → both b)
    → HasMet ss now both
met_after ss mid now one other both h k split left right = record {
  shades = k.shades;
  taken = λ b. k.taken b ∙ h.taken b;
  scanned = λ b. k.scanned b ∙ h.scanned b;
  stays = λ b e. k.stays b (h.stays b e);
  fresh = λ b whole e. go b whole (k.fresh b whole e);
  found = λ b n w. find b (split b n) w;
}
  where
    -- what is white later was white before
    white_back : (b : ℕ) → is_white_place mid b ≡ true → is_white_place ss b ≡ true
    white_back b e =
        let w = white_parts mid b e in
        parts_white ss b (record {
          taken = sym (h.taken b) ∙ w.taken;
          unmarked = elim (cases_Bool (is_marked ss b)) [
            | inl m ↦ absurd (both_ways (is_marked mid b) w.unmarked (h.stays b m))
            | inr f ↦ f
          ];
          unscanned = sym (h.scanned b) ∙ w.unscanned;
        })

    go : (b : ℕ) → b % 8 ≡ 0 → (is_marked mid b ≡ true) ⊎ (other b × (is_white_place mid b ≡ true))
        → (is_marked ss b ≡ true) ⊎ (both b × (is_white_place ss b ≡ true))
    go b whole (inr (n, w)) = inr (right b n, white_back b w)
    go b whole (inl e) = elim (h.fresh b whole e) [ inl m ↦ inl m | inr p ↦ inr (left b p.0, p.1) ]

    find : (b : ℕ) → one b ⊎ other b → is_white_place ss b ≡ true → is_marked now b ≡ true
    find b (inl n) w = k.stays b (h.found b n w)
    find b (inr n) w = elim (cases_Bool (is_marked mid b)) [
      | inl m ↦ k.stays b m
      | inr f ↦ k.found b n (parts_white mid b (record {
        taken = h.taken b ∙ (white_parts ss b w).taken;
        unmarked = f;
        unscanned = h.scanned b ∙ (white_parts ss b w).unscanned;
      }))
    ]

-- ---- one reference

abbrev pub IsName : ℕ → ℕ → Type 0
IsName y b = (b ≡ y) × (y ≢ 0)

pub gray_met : (ss : List ShadeView) (y : ℕ) → AllByRecursion IsShade ss → y % 8 ≡ 0 → y ≢ 0
    → is_white_place ss y ≡ true → HasMet ss (changed_at y (with_marked y) ss) (IsName y)
gray_met ss y all whole some white = record {
  shades = marked_shades ss y all;
  taken = λ b. told_kept (λ s a. has_bit s.taken (cell_of s a)) (with_marked y) (λ s b. refl) (λ s b. refl) ss y b;
  scanned = λ b. told_kept (λ s a. has_bit s.scanned (cell_of s a)) (with_marked y) (λ s b. refl) (λ s b. refl) ss y b;
  stays = λ b e. more b ∙ ap (λ m. in_cell b y || m) e ∙ or_true (in_cell b y);
  fresh = λ b there e. split b there (in_cell b y) refl (is_marked ss b) refl (sym (more b) ∙ e);
  found = λ b n w. more b ∙ ap (λ c. c || is_marked ss b) (own b n.0);
}
  where
    there : is_covered ss y ≡ true
    there = told_covered (λ s a. has_bit s.taken (cell_of s a)) ss y (white_parts ss y white).taken

    more : (b : ℕ) → is_marked (changed_at y (with_marked y) ss) b ≡ (in_cell b y || is_marked ss b)
    more b = marked_more ss all y b there

    own : (b : ℕ) → b ≡ y → in_cell b y ≡ true
    own b e = ap (λ n. nat_eq (n / 8) (y / 8)) e ∙ same (y / 8)
      where
        same : (n : ℕ) → nat_eq n n ≡ true
        same n = eq-eqb n n refl

    split : (b : ℕ) → b % 8 ≡ 0 → (c : Bool) → in_cell b y ≡ c → (m : Bool) → is_marked ss b ≡ m → (c || m) ≡ true
        → (is_marked ss b ≡ true) ⊎ (IsName y b × (is_white_place ss b ≡ true))
    split b at true f m g e =
        let near = eqb-true (b / 8) (y / 8) f in
        let same : b ≡ y = omega (arith, near, at, whole) in
        inr ((same, some), subst (λ n. is_white_place ss n ≡ true) (sym same) white)
    split b at false f m g e = inl (g ∙ e)

log_met : (ss : List ShadeView) (y a : ℕ) → AllByRecursion IsShade ss → (is_white_place ss y ≡ true → ⊥)
    → HasMet ss (changed_at a (with_logged a) ss) (IsName y)
log_met ss y a all none = record {
  shades = logged_shades ss a all;
  taken = λ b. told_kept (λ s a. has_bit s.taken (cell_of s a)) (with_logged a) (λ s b. refl) (λ s b. refl) ss a b;
  scanned = λ b. told_kept (λ s a. has_bit s.scanned (cell_of s a)) (with_logged a) (λ s b. refl) (λ s b. refl) ss a b;
  stays = λ b e. marked b ∙ e;
  fresh = λ b whole e. inl (sym (marked b) ∙ e);
  found = λ b n w. absurd (none (subst (λ x. is_white_place ss x ≡ true) n.0 w));
}
  where
    marked : (b : ℕ) → is_marked (changed_at a (with_logged a) ss) b ≡ is_marked ss b
    marked b = told_kept (λ s a. has_bit s.marked (cell_of s a)) (with_logged a) (λ s b. refl) (λ s b. refl) ss a b

pub met_one : (v : BackgroundView) (y a : ℕ) → AllByRecursion IsShade v.shades → (y ≢ 0 → y % 8 ≡ 0)
    → HasMet v.shades (met v y a).shades (IsName y)
met_one v y a all whole =
    go (y == 0) refl (is_white (colour_at v.shades y)) refl (is_outside (colour_at v.shades y))
  where
    ss : List ShadeView
    ss = v.shades

    dark : is_white (colour_at v.shades y) ≡ false → is_white_place v.shades y ≡ true → ⊥
    dark f w = both_ways (is_white_place v.shades y) (sym (white_is v.shades y) ∙ f) w

    go : (z : Bool) → (y == 0) ≡ z → (w : Bool) → is_white (colour_at v.shades y) ≡ w → (o : Bool)
        → HasMet v.shades
        (if z then v else (if w then grayed v y else (if o then slot_logged v a else v))).shades (IsName y)
    go true e w f o = met_none v.shades (IsName y) all (λ b n white. n.1 (eqb-true y 0 e))
    go false e true f o =
        let some = eqb-false y 0 e in
        gray_met v.shades y all (whole some) some (sym (white_is v.shades y) ∙ f)
    go false e false f true = log_met v.shades y a all (dark f)
    go false e false f false =
        met_none v.shades (IsName y) all (λ b n white. dark f (subst (λ x. is_white_place v.shades x ≡ true) n.0 white))

-- ---- all references of an object

-- y is the word at one of the offsets, and not null
pub record IsWordAt (word : ℕ → ℕ) (x : ℕ) (offsets : List ℕ) (y : ℕ) : Type 0 where
  pub offset : ℕ
  pub listed : IsIn offset offsets
  pub is : y ≡ word (x + offset)
  pub not_null : word (x + offset) ≢ 0

pub all_met : (word : ℕ → ℕ) (x : ℕ) (offsets : List ℕ) (v : BackgroundView) → AllByRecursion IsShade v.shades
    → ((offset : ℕ) → IsIn offset offsets → word (x + offset) ≢ 0 → word (x + offset) % 8 ≡ 0)
    → HasMet v.shades (met_all word v x offsets).shades (IsWordAt word x offsets)
all_met word x [] v all whole = met_none v.shades (IsWordAt word x []) all (λ b n white. elim n.listed [ ])
all_met word x (o ∷ os) v all whole =
    let one = met_one v (word (x + o)) (x + o) all (whole o first) in
    met_after v.shades (met v (word (x + o)) (x + o)).shades
    (met_all word (met v (word (x + o)) (x + o)) x os).shades
    (IsName (word (x + o))) (IsWordAt word x os) (IsWordAt word x (o ∷ os)) one
    (all_met word x os (met v (word (x + o)) (x + o)) one.shades (λ offset l. whole offset (later l)))
    (λ b n. split b n) (λ b n. record { offset = o; listed = first; is = n.0; not_null = n.1 })
    (λ b n. record { offset = n.offset; listed = later n.listed; is = n.is; not_null = n.not_null })
  where
    split : (b : ℕ) → IsWordAt word x (o ∷ os) b → IsName (word (x + o)) b ⊎ IsWordAt word x os b
    split b n = go (in_cons n.listed)
      where
        go : (n.offset ≡ o) ⊎ IsIn n.offset os → IsName (word (x + o)) b ⊎ IsWordAt word x os b
        go (inl e) = inl (n.is ∙ ap (λ k. word (x + k)) e, subst (λ k. word (x + k) ≢ 0) e n.not_null)
        go (inr l) = inr (record { offset = n.offset; listed = l; is = n.is; not_null = n.not_null })

-- all but the bits and the count stays
pub met_rest : (v : BackgroundView) (y a : ℕ) → rest_of (met v y a) ≡ rest_of v
met_rest v y a = go (y == 0) (is_white (colour_at v.shades y)) (is_outside (colour_at v.shades y))
  where
    go : (z w o : Bool)
        → rest_of (if z then v else (if w then grayed v y else (if o then slot_logged v a else v))) ≡ rest_of v
    go true w o = refl
    go false true o = refl
    go false false true = refl
    go false false false = refl

pub all_rest : (word : ℕ → ℕ) (x : ℕ) (offsets : List ℕ) (v : BackgroundView)
    → rest_of (met_all word v x offsets) ≡ rest_of v
all_rest word x [] v = refl
all_rest word x (o ∷ os) v = all_rest word x os (met v (word (x + o)) (x + o)) ∙ met_rest v (word (x + o)) (x + o)
