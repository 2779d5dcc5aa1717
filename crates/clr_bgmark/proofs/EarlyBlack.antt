-- An object is scanned before what it names is followed: the same comes of it as when it is scanned last.
use Rattle.std.proofs.Common.{◌≡◌, ℕ, List, [], ◌∷◌, refl, sym, ap, ◌∙◌, Bool, true, false, if◌then◌else◌, ◌||◌}
use Rattle.std.proofs.Common.{inl, inr, ◌+◌, ◌==◌, ◌/◌}
use Rattle.std.specs.List.{AllByRecursion}
use Rattle.std.proofs.lemmas.Bool.{both_ways, cases_Bool, eqb-true}
use Rattle.clr_bgmark.specs.Bits.{has_bit}
use Rattle.clr_bgmark.specs.Shades.{BackgroundView, IsShade, ShadeView, cell_of, changed_at, colour_at, colour_by}
use Rattle.clr_bgmark.specs.Shades.{covers, grayed, is_covered, is_marked, is_outside, is_scanned, is_taken, is_white}
use Rattle.clr_bgmark.specs.Shades.{met, met_all, passed, slot_logged, with_logged, with_marked, with_scanned}
use Rattle.clr_bgmark.specs.declared.background.Colour.{Colour}
use Rattle.clr_bgmark.specs.declared.background.Colour.TheVariants.{Black, Gray}
use Rattle.clr_bgmark.proofs.Kept.{covers_inside, in_cell, logged_shades, marked_more, marked_shades, near_cell}
use Rattle.clr_bgmark.proofs.Kept.{or_true, same_cell, scanned_more, told_kept}
use Rattle.clr_bgmark.proofs.Lookups.{none_changed}
use Rattle.clr_bgmark.proofs.Meeting.{told_covered}

-- ---- changes of several segments commute

hit : (f : ShadeView → ShadeView) (s : ShadeView) (ss : List ShadeView) (a : ℕ) → covers s a ≡ true
    → changed_at a f (s ∷ ss) ≡ f s ∷ ss
hit f s ss a e = ap (λ b. if b then f s ∷ ss else s ∷ changed_at a f ss) e

miss : (f : ShadeView → ShadeView) (s : ShadeView) (ss : List ShadeView) (a : ℕ) → covers s a ≡ false
    → changed_at a f (s ∷ ss) ≡ s ∷ changed_at a f ss
miss f s ss a e = ap (λ b. if b then f s ∷ ss else s ∷ changed_at a f ss) e

module _ (f g : ShadeView → ShadeView) (same_f : (s : ShadeView) (b : ℕ) → covers (f s) b ≡ covers s b)
    (same_g : (s : ShadeView) (b : ℕ) → covers (g s) b ≡ covers s b) (both : (s : ShadeView) → f (g s) ≡ g (f s))
    (a b : ℕ) where
  commute : (ss : List ShadeView) → changed_at a f (changed_at b g ss) ≡ changed_at b g (changed_at a f ss)
  commute [] = refl
  commute (s ∷ ss) = go (covers s a) refl (covers s b) refl (commute ss)
    where
      go : (x : Bool) → covers s a ≡ x → (y : Bool) → covers s b ≡ y
          → changed_at a f (changed_at b g ss) ≡ changed_at b g (changed_at a f ss)
          → changed_at a f (if y then g s ∷ ss else s ∷ changed_at b g ss)
          ≡ changed_at b g (if x then f s ∷ ss else s ∷ changed_at a f ss)
      go true e true k more =
          hit f (g s) ss a (same_g s a ∙ e) ∙ ap (λ t. t ∷ ss) (both s) ∙ sym (hit g (f s) ss b (same_f s b ∙ k))
      go true e false k more =
          hit f s (changed_at b g ss) a e ∙ sym (miss g (f s) ss b (same_f s b ∙ k))
      go false e true k more =
          miss f (g s) ss a (same_g s a ∙ e) ∙ sym (hit g s (changed_at a f ss) b k)
      go false e false k more =
          miss f s (changed_at b g ss) a e ∙ ap (λ ts. s ∷ ts) more ∙ sym (miss g s (changed_at a f ss) b k)

-- ---- the colours

-- what has eight bytes in common with a marked place is marked
near_marked : (ss : List ShadeView) → AllByRecursion IsShade ss → (x y : ℕ) → in_cell y x ≡ true
    → is_marked ss x ≡ true → is_marked ss y ≡ true
near_marked [] all x y n e = absurd cc
near_marked (s ∷ ss) all x y n e = go (covers s x) refl (covers s y) refl e (near_marked ss all.1 x y n)
  where
    go : (p : Bool) → covers s x ≡ p → (q : Bool) → covers s y ≡ q
        → (if p then has_bit s.marked (cell_of s x) else is_marked ss x) ≡ true
        → (is_marked ss x ≡ true → is_marked ss y ≡ true)
        → (if q then has_bit s.marked (cell_of s y) else is_marked ss y) ≡ true
    go true h true k m more =
        ap (has_bit s.marked) (eqb-true (cell_of s y) (cell_of s x)
        (same_cell s all.0 x y (covers_inside s x h) (covers_inside s y k) ∙ n)) ∙ m
    go true h false k m more =
        absurd (both_ways (covers s y) k (near_cell s all.0 x y (covers_inside s x h) (eqb-true (y / 8) (x / 8) n)))
    go false h true k m more =
        absurd (both_ways (covers s x) h
        (near_cell s all.0 y x (covers_inside s y k) (sym (eqb-true (y / 8) (x / 8) n))))
    go false h false k m more = more m

module _ (ss : List ShadeView) (all : AllByRecursion IsShade ss) (x : ℕ) (gray : is_marked ss x ≡ true) where
  abbrev now : List ShadeView
  now = changed_at x (with_scanned x) ss

  -- a test that tells neither gray nor black says what it said
  stays : (test : Colour → Bool) → test Gray ≡ false → test Black ≡ false → (y : ℕ)
      → test (colour_at now y) ≡ test (colour_at ss y)
  stays test g b y = go (in_cell y x) refl
    where
      marked : is_marked now y ≡ is_marked ss y
      marked = told_kept (λ s a. has_bit s.marked (cell_of s a)) (with_scanned x) (λ s b. refl) (λ s b. refl) ss x y

      taken : is_taken now y ≡ is_taken ss y
      taken = told_kept (λ s a. has_bit s.taken (cell_of s a)) (with_scanned x) (λ s b. refl) (λ s b. refl) ss x y

      there : is_covered ss x ≡ true
      there = told_covered (λ s a. has_bit s.marked (cell_of s a)) ss x gray

      found : (s t : Bool) → test (colour_by s true t) ≡ false
      found true t = b
      found false t = g

      go : (c : Bool) → in_cell y x ≡ c → test (colour_at now y) ≡ test (colour_at ss y)
      go true e =
          let m = near_marked ss all x y e gray in
          (λ i. test (colour_by (is_scanned now y) ((marked ∙ m) i) (is_taken now y)))
          ∙ found (is_scanned now y) (is_taken now y)
          ∙ sym ((λ i. test (colour_by (is_scanned ss y) (m i) (is_taken ss y)))
          ∙ found (is_scanned ss y) (is_taken ss y))
      go false e =
          let scanned = scanned_more ss all x y there ∙ ap (λ c. c || is_scanned ss y) e in
          λ i. test (colour_by (scanned i) (marked i) (taken i))

-- ---- what is met

-- a marked place stays marked
keeps : (ss : List ShadeView) → AllByRecursion IsShade ss → (x y : ℕ) → is_marked ss x ≡ true
    → is_marked (changed_at y (with_marked y) ss) x ≡ true
keeps ss all x y gray = elim (cases_Bool (is_covered ss y)) [
  | inl some ↦ marked_more ss all y x some ∙ ap (λ m. in_cell x y || m) gray ∙ or_true (in_cell x y)
  | inr none ↦ ap (λ ts. is_marked ts x) (none_changed (with_marked y) ss y none) ∙ gray
]

record IsKept (x : ℕ) (v : BackgroundView) : Type 0 where
  shades : AllByRecursion IsShade v.shades
  gray : is_marked v.shades x ≡ true

met_keeps : (v : BackgroundView) (x y a : ℕ) → IsKept x v → IsKept x (met v y a)
met_keeps v x y a k = go (y == 0) (is_white (colour_at v.shades y)) (is_outside (colour_at v.shades y))
  where
    go : (z w o : Bool)
        → IsKept x (if z then v else (if w then grayed v y else (if o then slot_logged v a else v)))
    go true w o = k
    go false true o = record {
      shades = marked_shades v.shades y k.shades;
      gray = keeps v.shades k.shades x y k.gray;
    }
    go false false true = record {
      shades = logged_shades v.shades a k.shades;
      gray = told_kept (λ s a. has_bit s.marked (cell_of s a)) (with_logged a) (λ s b. refl) (λ s b. refl) v.shades a x
          ∙ k.gray;
    }
    go false false false = k

passed_met : (v : BackgroundView) (x y a : ℕ) → IsKept x v → met (passed v x) y a ≡ passed (met v y a) x
passed_met v x y a k =
    (λ i. if y == 0 then passed v x else
    (if white i then grayed (passed v x) y else (if outside i then slot_logged (passed v x) a else passed v x)))
    ∙ go (y == 0) (is_white (colour_at v.shades y)) (is_outside (colour_at v.shades y))
  where
    white : is_white (colour_at (passed v x).shades y) ≡ is_white (colour_at v.shades y)
    white = stays v.shades k.shades x k.gray is_white refl refl y

    outside : is_outside (colour_at (passed v x).shades y) ≡ is_outside (colour_at v.shades y)
    outside = stays v.shades k.shades x k.gray is_outside refl refl y

    go : (z w o : Bool)
        → (if z then passed v x else
        (if w then grayed (passed v x) y else (if o then slot_logged (passed v x) a else passed v x)))
        ≡ passed (if z then v else (if w then grayed v y else (if o then slot_logged v a else v))) x
    go true w o = refl
    go false true o =
        ap (λ (ss : List ShadeView). record (grayed v y) { shades = ss })
        (commute (with_marked y) (with_scanned x) (λ s b. refl) (λ s b. refl) (λ s. refl) y x v.shades)
    go false false true =
        ap (λ (ss : List ShadeView). record v { shades = ss })
        (commute (with_logged a) (with_scanned x) (λ s b. refl) (λ s b. refl) (λ s. refl) a x v.shades)
    go false false false = refl

passed_on : (word : ℕ → ℕ) (x : ℕ) (offsets : List ℕ) (v : BackgroundView) → IsKept x v
    → met_all word (passed v x) x offsets ≡ passed (met_all word v x offsets) x
passed_on word x [] v k = refl
passed_on word x (o ∷ os) v k =
    ap (λ (w : BackgroundView). met_all word w x os) (passed_met v x (word (x + o)) (x + o) k)
    ∙ passed_on word x os (met v (word (x + o)) (x + o)) (met_keeps v x (word (x + o)) (x + o) k)

pub passed_all : (word : ℕ → ℕ) (x : ℕ) (offsets : List ℕ) (v : BackgroundView) → AllByRecursion IsShade v.shades
    → is_marked v.shades x ≡ true → met_all word (passed v x) x offsets ≡ passed (met_all word v x offsets) x
passed_all word x offsets v all gray = passed_on word x offsets v (record { shades = all; gray = gray })
