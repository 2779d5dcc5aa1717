-- How many objects are gray.
use Rattle.std.proofs.Common.{◌≡◌, ◌≢◌, ℕ, ◌+◌, ◌-◌, ◌%◌, ◌^◌, ◌<◌, ◌≤◌, ◌⊎◌, inl, inr, List, [], ◌∷◌, length, min}
use Rattle.std.proofs.Common.{filter, refl, sym, ap, subst, ◌∙◌, arith, Bool, true, false, if◌then◌else◌, ◌||◌, ◌&&◌}
use Rattle.std.proofs.Common.{not}
use Rattle.std.proofs.Common.{◌==◌}
use Rattle.std.specs.List.{AllByRecursion}
use Rattle.std.proofs.lemmas.Bool.{eqb-false}
use Rattle.std.proofs.lemmas.List.{length-map}
use Rattle.clr_types.specs.Rising.{IsIn, first, later}
use Rattle.clr_types.specs.Types.{TypeRow}
use Rattle.clr_types.proofs.RisingLists.{all_at, in_cons}
use Rattle.clr_types.proofs.ListMembers.{filter-on}
use Rattle.clr_types.proofs.SortedLists.{IsDistinctBy}
use Rattle.clr_heap.specs.Parts.{item_at}
use Rattle.clr_heap.specs.View.{HeapView, IsHeap, word_of}
use Rattle.clr_model.specs.Machine.{Object}
use Rattle.clr_model.specs.Reach.{SlotNames}
use Rattle.clr_view.specs.View.{IsHeld, objects_in}
use Rattle.clr_view.specs.SlotValues.{StandsAt}
use Rattle.clr_mark.specs.Markings.{references_at}
use Rattle.clr_mark.proofs.References.{refers_to}
use Rattle.clr_bgmark.specs.Bits.{has_bit}
use Rattle.clr_bgmark.specs.Scanning.{AreObjects, followed, IsCounted, is_gray_place, is_white_place}
use Rattle.clr_bgmark.specs.Shades.{BackgroundView, cell_of, changed_at, colour_at, grayed, IsShade, is_covered}
use Rattle.clr_bgmark.specs.Shades.{is_marked}
use Rattle.clr_bgmark.specs.Shades.{is_outside, is_scanned, is_white, met, met_all, one_more, ShadeView}
use Rattle.clr_bgmark.specs.Shades.{slot_logged, with_logged, with_marked, with_scanned}
use Rattle.clr_bgmark.proofs.FewObjects.{few_objects, few_pass}
use Rattle.clr_bgmark.proofs.Kept.{in_cell, logged_gray, marked_more, scanned_more, told_kept}
use Rattle.clr_bgmark.proofs.Meeting.{IsWordAt, HasMet, all_met, met_one, told_covered, white_is, white_parts}
use Rattle.clr_bgmark.proofs.ScannedLists.{gray_parts, marked_now, met_x, named_slot, named_stands, names}
use Rattle.clr_bgmark.proofs.ScannedLists.{names_distinct, other_cell, own_cell, scanned_now, stands_aligned}
use Rattle.clr_bgmark.proofs.ScannedLists.{stands_named, x_stands}

-- ---- lists

-- one member more passes
pub one_passes : (p q : ℕ → Bool) (xs : List ℕ) → IsDistinctBy (λ n. n) xs → (y : ℕ) → IsIn y xs → p y ≡ false
    → q y ≡ true → ((x : ℕ) → IsIn x xs → x ≢ y → q x ≡ p x) → length (filter q xs) ≡ length (filter p xs) + 1
one_passes p q [] d y i e f same = elim i [ ]
one_passes p q (x ∷ xs) d y i e f same =
    go (in_cons i) (λ j. one_passes p q xs d.1 y j e f (λ z l. same z (later l)))
  where
    chosen : (r : ℕ → Bool) (b : Bool) → r x ≡ b → length (filter r (x ∷ xs))
        ≡ length (if b then x ∷ filter r xs else filter r xs)
    chosen r b g = ap (λ c. length (if c then x ∷ filter r xs else filter r xs)) g

    rest : ((z : ℕ) → IsIn z xs → q z ≡ p z) → length (filter q xs) ≡ length (filter p xs)
    rest h = ap length (filter-on q p xs h)

    go : (y ≡ x) ⊎ IsIn y xs → (IsIn y xs → length (filter q xs) ≡ length (filter p xs) + 1)
        → length (filter q (x ∷ xs)) ≡ length (filter p (x ∷ xs)) + 1
    go (inl is) more =
        let here = chosen q true (subst (λ n. q n ≡ true) is f) in
        let there = chosen p false (subst (λ n. p n ≡ false) is e) in
        let others = rest (λ z j. same z (later j) (λ g. all_at (λ w. x ≢ w) j d.0 (sym (g ∙ is)))) in
        omega (arith, here, there, others)
    go (inr j) more = by (p x) refl (same x first (λ g. all_at (λ w. x ≢ w) j d.0 g)) (more j)
      where
        by : (b : Bool) → p x ≡ b → q x ≡ p x → length (filter q xs) ≡ length (filter p xs) + 1
            → length (filter q (x ∷ xs)) ≡ length (filter p (x ∷ xs)) + 1
        by true g s more =
            let here = chosen q true (s ∙ g) in let there = chosen p true g in omega (arith, here, there, more)
        by false g s more =
            let here = chosen q false (s ∙ g) in let there = chosen p false g in omega (arith, here, there, more)

module _ (rows : List TypeRow) (h : HeapView) (heap : IsHeap h) (held : IsHeld rows h) where
  abbrev objects : List Object
  objects = objects_in rows h

  abbrev ns : List ℕ
  ns = names rows h heap held

  abbrev gray_count : List ShadeView → ℕ
  gray_count ss = length (filter (is_gray_place ss) ns)

  aligned : (x : ℕ) → IsIn x ns → x % 8 ≡ 0
  aligned x i = stands_aligned rows h heap held x (named_stands rows h heap held x i)

  within : (ss : List ShadeView) → gray_count ss < 2 ^ 63
  within ss =
      let few = few_objects rows h heap held in
      let count = length-map objects (λ (o : Object). o.name) in
      let l = few_pass (is_gray_place ss) ns in
      omega (arith, few, count, l)

  -- ---- one reference

  pub grayed_counted : (v : BackgroundView) (y : ℕ) → AllByRecursion IsShade v.shades → IsCounted objects v → IsIn y ns
      → is_white_place v.shades y ≡ true → IsCounted objects (grayed v y)
  grayed_counted v y all c there white =
      by (one_passes (is_gray_place v.shades) (is_gray_place (changed_at y (with_marked y) v.shades)) ns
      (names_distinct rows h heap held) y there before after others)
    where
      covered : is_covered v.shades y ≡ true
      covered = told_covered (λ s a. has_bit s.taken (cell_of s a)) v.shades y (white_parts v.shades y white).taken

      marked : (b : ℕ) → is_marked (changed_at y (with_marked y) v.shades) b ≡ (in_cell b y || is_marked v.shades b)
      marked b = marked_more v.shades all y b covered

      scanned : (b : ℕ) → is_scanned (changed_at y (with_marked y) v.shades) b ≡ is_scanned v.shades b
      scanned b =
          told_kept (λ s a. has_bit s.scanned (cell_of s a)) (with_marked y) (λ s b. refl) (λ s b. refl) v.shades y b

      before : is_gray_place v.shades y ≡ false
      before = ap (λ m. m && not (is_scanned v.shades y)) (white_parts v.shades y white).unmarked

      after : is_gray_place (changed_at y (with_marked y) v.shades) y ≡ true
      after =
          λ i. (marked y ∙ ap (λ n. n || is_marked v.shades y) (own_cell y)) i
          && not ((scanned y ∙ (white_parts v.shades y white).unscanned) i)

      others : (x : ℕ) → IsIn x ns → x ≢ y
          → is_gray_place (changed_at y (with_marked y) v.shades) x ≡ is_gray_place v.shades x
      others x i ne =
          λ j. (marked x ∙ ap (λ n. n || is_marked v.shades x)
          (other_cell y x (aligned y there) (aligned x i) ne)) j && not (scanned x j)

      by : gray_count (changed_at y (with_marked y) v.shades) ≡ gray_count v.shades + 1
          → one_more v.gray ≡ gray_count (changed_at y (with_marked y) v.shades)
      by more =
          let is = c in
          let low = within (changed_at y (with_marked y) v.shades) in
          let least : min (v.gray + 1) 18446744073709551615 ≡ v.gray + 1 =
          small (v.gray + 1) (omega (arith, more, is, low))
          in omega (arith, least, more, is)
        where
          small : (n : ℕ) → n ≤ 18446744073709551615 → min n 18446744073709551615 ≡ n
          small n l = grind (arith, l)

  met_counted : (v : BackgroundView) (y a : ℕ) → AllByRecursion IsShade v.shades → IsCounted objects v
      → (y ≢ 0 → IsIn y ns) → IsCounted objects (met v y a)
  met_counted v y a all c there =
      go (y == 0) refl (is_white (colour_at v.shades y)) refl (is_outside (colour_at v.shades y))
    where
      go : (z : Bool) → (y == 0) ≡ z → (w : Bool) → is_white (colour_at v.shades y) ≡ w → (o : Bool)
          → IsCounted objects (if z then v else (if w then grayed v y else (if o then slot_logged v a else v)))
      go true e w f o = c
      go false e true f o =
          grayed_counted v y all c (there (eqb-false y 0 e)) (sym (white_is v.shades y) ∙ f)
      go false e false f true =
          c ∙ ap length (sym (filter-on (is_gray_place (changed_at a (with_logged a) v.shades))
          (is_gray_place v.shades) ns (λ x i. logged_gray v.shades a x)))
      go false e false f false = c

  pub all_counted : (x : ℕ) (offsets : List ℕ) (v : BackgroundView) → AllByRecursion IsShade v.shades
      → IsCounted objects v
      → ((offset : ℕ) → IsIn offset offsets → word_of h (x + offset) ≢ 0 → IsIn (word_of h (x + offset)) ns)
      → IsCounted objects (met_all (word_of h) v x offsets)
  all_counted x [] v all c there = c
  all_counted x (o ∷ os) v all c there =
      let y = word_of h (x + o) in
      all_counted x os (met v y (x + o))
      (met_one v y (x + o) all (λ ne. aligned y (there o first ne))).shades
      (met_counted v y (x + o) all c (there o first)) (λ offset l. there offset (later l))

  -- ---- one object is scanned

  module _ (v : BackgroundView) (all : AllByRecursion IsShade v.shades) (known : AreObjects rows h v.shades) (x : ℕ)
      (whole : x % 8 ≡ 0) (gray : is_gray_place v.shades x ≡ true)
      (closed : (y : ℕ) → SlotNames objects x y → StandsAt rows h y) where
    abbrev mid : BackgroundView
    mid = met_all (word_of h) v x (references_at rows h x)

    abbrev now : List ShadeView
    now = (followed rows h v x).shades

    has_met : HasMet v.shades mid.shades (IsWordAt (word_of h) x (references_at rows h x))
    has_met = met_x rows h heap held v all known x whole gray closed

    scanned : (b : ℕ) → is_scanned now b ≡ (in_cell b x || is_scanned v.shades b)
    scanned b = scanned_now rows h heap held v all known x whole gray closed b

    marked : (b : ℕ) → is_marked now b ≡ is_marked mid.shades b
    marked b = marked_now rows h heap held v all known x whole gray closed b

    x_named : IsIn x ns
    x_named = stands_named rows h heap held x (x_stands rows h heap held v all known x whole gray closed)

    there : (offset : ℕ) → IsIn offset (references_at rows h x) → word_of h (x + offset) ≢ 0
        → IsIn (word_of h (x + offset)) ns
    there offset l some = stands_named rows h heap held (word_of h (x + offset)) (closed (word_of h (x + offset))
        (named_slot rows h heap held v all known x whole gray closed offset l some))

    -- the object was gray, and isn't any more
    before : is_gray_place mid.shades x ≡ true
    before =
        let (was, unscanned) = gray_parts v.shades x gray in
        λ i. has_met.stays x was i && not ((has_met.scanned x ∙ unscanned) i)

    after : is_gray_place now x ≡ false
    after =
        ap (λ s. is_marked now x && not s) (scanned x ∙ ap (λ n. n || is_scanned v.shades x) (own_cell x))
        ∙ never (is_marked now x)
      where
        never : (m : Bool) → (m && not true) ≡ false
        never true = refl
        never false = refl

    -- and all others are as they were
    others : (b : ℕ) → IsIn b ns → b ≢ x → is_gray_place mid.shades b ≡ is_gray_place now b
    others b i ne =
        let unscanned = scanned b ∙ ap (λ n. n || is_scanned v.shades b) (other_cell x b whole (aligned b i) ne) in
        λ j. sym (marked b) j && not ((has_met.scanned b ∙ sym unscanned) j)

    pub followed_counted : IsCounted objects v → IsCounted objects (followed rows h v x)
    followed_counted c =
        let one =
        one_passes (is_gray_place now) (is_gray_place mid.shades) ns (names_distinct rows h heap held) x x_named after
        before others in
        let counted = all_counted x (references_at rows h x) v all c there in
        omega (arith, one, counted)
