-- The colours as lists of names, before and after a gray object is scanned.
use Rattle.std.proofs.Common.{◌≡◌, ◌≢◌, ℕ, ◌+◌, ◌/◌, ◌%◌, ◌≤◌, ◌⊎◌, inl, inr, List, [], ◌∷◌, ◌++◌, map}
use Rattle.std.proofs.Common.{filter, refl, sym, ap, subst, ◌∙◌, arith, Bool, true, false, ◌||◌, ◌&&◌, not}
use Rattle.std.proofs.Common.{if◌then◌else◌}
use Rattle.std.specs.List.{AllByRecursion}
use Rattle.std.proofs.lemmas.Bool.{cases_Bool, cases_eq, both_ways, eqb-true, eq-eqb, ne_eqb}
use Rattle.clr_types.specs.Rising.{IsIn}
use Rattle.clr_types.specs.Types.{TypeRow}
use Rattle.clr_types.proofs.ChangedLists.{into_filter, out_of_filter, IsIn-map, rising-distinct}
use Rattle.clr_types.proofs.ListMembers.{distinct_append, distinct_filter, distinct_map, from-map, in_append}
use Rattle.clr_types.proofs.SortedLists.{find_by-member, IsDistinctBy}
use Rattle.clr_heap.specs.Parts.{item_at}
use Rattle.clr_heap.specs.View.{HeapView, heap_items, IsHeap, word_of}
use Rattle.clr_model.specs.Background.{Scans, taken}
use Rattle.clr_model.specs.Lookups.{object_named, place_of, place_or_null}
use Rattle.clr_model.specs.Machine.{Object, Machine}
use Rattle.clr_model.specs.Reach.{SlotNames}
use Rattle.clr_model.specs.Sos.{IsWithoutRepeats}
use Rattle.clr_view.specs.View.{IsHeld, is_object, object_in, objects_in}
use Rattle.clr_view.specs.SlotValues.{StandsAt}
use Rattle.clr_view.proofs.FreeHeads.{listed_room}
use Rattle.clr_view.proofs.Listings.{heap-rise}
use Rattle.clr_view.proofs.Rises.{objects-rise}
use Rattle.clr_mark.specs.Markings.{references_at}
use Rattle.clr_mark.proofs.References.{refers_from, refers_to}
use Rattle.clr_bgmark.specs.Bits.{has_bit}
use Rattle.clr_bgmark.specs.Scanning.{AreObjects, followed, is_gray_place, is_white_place, IsTakenAt, marking_in}
use Rattle.clr_bgmark.specs.Scanning.{places_where}
use Rattle.clr_bgmark.specs.Shades.{ShadeView, IsShade, BackgroundView, cell_of, is_covered, is_marked}
use Rattle.clr_bgmark.specs.Shades.{is_scanned, is_taken, met_all, with_scanned}
use Rattle.clr_bgmark.proofs.FollowedSlots.{at}
use Rattle.clr_bgmark.proofs.Kept.{in_cell, or_true, scanned_more, scanned_shades, told_kept}
use Rattle.clr_bgmark.proofs.Meeting.{HasMet, IsWhite, IsWordAt, all_met, parts_white, told_covered, white_parts}

-- two places have eight bytes in common only if they are one
pub one_cell : (a b : ℕ) → a % 8 ≡ 0 → b % 8 ≡ 0 → in_cell b a ≡ true → b ≡ a
one_cell a b ha hb e = let near = eqb-true (b / 8) (a / 8) e in omega (arith, near, ha, hb)

pub other_cell : (a b : ℕ) → a % 8 ≡ 0 → b % 8 ≡ 0 → (b ≡ a → ⊥) → in_cell b a ≡ false
other_cell a b ha hb ne = ne_eqb (b / 8) (a / 8) (λ e. ne (omega (arith, e, ha, hb)))

pub own_cell : (a : ℕ) → in_cell a a ≡ true
own_cell a = eq-eqb (a / 8) (a / 8) refl

-- numbers that are distinct stand once each
without_repeats : (xs : List ℕ) → IsDistinctBy (λ n. n) xs → IsWithoutRepeats xs
without_repeats [] d = tt
without_repeats (x ∷ xs) d = (d.0, without_repeats xs d.1)

-- no number passes both tests
abbrev AreExclusive : (ℕ → Bool) → (ℕ → Bool) → Type 0
AreExclusive p q = (x : ℕ) → p x ≡ true → q x ≡ true → ⊥

apart_filters : (p q r : ℕ → Bool) (xs : List ℕ) → IsDistinctBy (λ n. n) xs → AreExclusive p q → AreExclusive p r
    → AreExclusive q r → IsWithoutRepeats ((filter p xs ++ filter q xs) ++ filter r xs)
apart_filters p q r xs d pq pr qr =
    without_repeats ((filter p xs ++ filter q xs) ++ filter r xs)
    (distinct_append (λ n. n) (filter p xs ++ filter q xs) (filter r xs)
    (distinct_append (λ n. n) (filter p xs) (filter q xs) (distinct_filter (λ n. n) p xs d)
    (distinct_filter (λ n. n) q xs d) (λ x y i j e. pq x (passes p x i) (same q x y e j)))
    (distinct_filter (λ n. n) r xs d)
    (λ x y i j e. elim (in_append (filter p xs) i) [
      | inl k ↦ pr x (passes p x k) (same r x y e j)
      | inr k ↦ qr x (passes q x k) (same r x y e j)
    ]))
  where
    passes : (t : ℕ → Bool) (x : ℕ) → IsIn x (filter t xs) → t x ≡ true
    passes t x i = (out_of_filter t x xs i).0

    same : (t : ℕ → Bool) (x y : ℕ) → x ≡ y → IsIn y (filter t xs) → t x ≡ true
    same t x y e j = ap t e ∙ passes t y j

-- where no number passes a test, none is left
pub none_passes : (test : ℕ → Bool) (xs : List ℕ) → ((x : ℕ) → test x ≡ false) → filter test xs ≡ []
none_passes test [] none = refl
none_passes test (x ∷ xs) none =
    ap (λ b. if b then x ∷ filter test xs else filter test xs) (none x) ∙ none_passes test xs none

-- what is gray is marked, and wasn't scanned
pub gray_parts : (ss : List ShadeView) (b : ℕ) → is_gray_place ss b ≡ true
    → (is_marked ss b ≡ true) × (is_scanned ss b ≡ false)
gray_parts ss b = by (is_marked ss b) (is_scanned ss b)
  where
    by : (marked scanned : Bool) → (marked && not scanned) ≡ true → (marked ≡ true) × (scanned ≡ false)
    by true true e = absurd cc
    by true false e = (refl, refl)
    by false s e = absurd cc

-- ---- names and places

module _ (rows : List TypeRow) (h : HeapView) (heap : IsHeap h) (held : IsHeld rows h) where
  abbrev objects : List Object
  objects = objects_in rows h

  abbrev pub names : List ℕ
  names = map (λ (o : Object). o.name) objects

  -- an object is named by its place
  object_place : (o : Object) → IsIn o objects → o.name ≡ o.place
  object_place o i =
      let (item, e, j) = from-map (object_in rows (word_of h)) o (filter is_object (heap_items rows h)) i in
      ap (λ (w : Object). w.name) e ∙ sym (ap (λ (w : Object). w.place) e)

  pub stands_named : (x : ℕ) → StandsAt rows h x → IsIn x names
  stands_named x (o, i, e) =
      subst (λ n. IsIn n names) (object_place o i ∙ e) (IsIn-map (λ (o : Object). o.name) i)

  pub named_stands : (x : ℕ) → IsIn x names → StandsAt rows h x
  named_stands x j =
      let (o, e, i) = from-map (λ (o : Object). o.name) x objects j in (o, i, sym (object_place o i) ∙ sym e)

  pub stands_aligned : (x : ℕ) → StandsAt rows h x → x % 8 ≡ 0
  stands_aligned x (o, i, e) =
      let (item, f, j) = from-map (object_in rows (word_of h)) o (filter is_object (heap_items rows h)) i in
      let (passes, listed) = out_of_filter is_object item (heap_items rows h) j in
      let same : item.place ≡ x = sym (ap (λ (w : Object). w.place) f) ∙ e in
      subst (λ n. n % 8 ≡ 0) same (listed_room rows h heap held item listed).0

  objects_distinct : IsDistinctBy (λ (o : Object). o.name) objects
  objects_distinct =
      rising-distinct (λ (o : Object). o.name) objects
      (objects-rise rows (word_of h) (heap_items rows h) (heap-rise rows h held.walkable heap))

  pub names_distinct : IsDistinctBy (λ n. n) names
  names_distinct = distinct_map (λ (o : Object). o.name) (λ n. n) objects objects_distinct

  -- the place of the object with a name is that name
  place_told : (x : ℕ) → StandsAt rows h x → place_of objects x ≡ x
  place_told x (o, i, e) = elim (cases_eq x 0) [
    | inl null ↦
        ap (λ b. if b then 0 else place_or_null (object_named objects x)) (eq-eqb x 0 null) ∙ sym null
    | inr some ↦
        ap (λ b. if b then 0 else place_or_null (object_named objects x)) (ne_eqb x 0 some)
        ∙ ap place_or_null (ap (object_named objects) (sym (object_place o i ∙ e))
        ∙ find_by-member (λ (o : Object). o.name) o objects objects_distinct i)
        ∙ e
  ]

  -- no object has two colours
  pub marking_apart : (ss : List ShadeView) → IsWithoutRepeats (taken (marking_in objects ss))
  marking_apart ss =
      apart_filters (is_white_place ss) (is_gray_place ss) (is_scanned ss) names names_distinct
      (λ x w g. white_gray (is_taken ss x) (is_marked ss x) (is_scanned ss x) w g)
      (λ x w b. white_black (is_taken ss x) (is_marked ss x) (is_scanned ss x) w b)
      (λ x g b. gray_black (is_marked ss x) (is_scanned ss x) g b)
    where
      white_gray : (t m s : Bool) → (t && (not m && not s)) ≡ true → (m && not s) ≡ true → ⊥
      white_gray true true s w g = cc
      white_gray true false s w g = cc
      white_gray false m s w g = cc

      white_black : (t m s : Bool) → (t && (not m && not s)) ≡ true → s ≡ true → ⊥
      white_black t m false w b = cc
      white_black true true true w b = cc
      white_black true false true w b = cc
      white_black false m true w b = cc

      gray_black : (m s : Bool) → (m && not s) ≡ true → s ≡ true → ⊥
      gray_black m false g b = cc
      gray_black true true g b = cc
      gray_black false true g b = cc

  -- ---- one object is scanned

  module _ (v : BackgroundView) (all : AllByRecursion IsShade v.shades) (known : AreObjects rows h v.shades) (x : ℕ)
      (whole : x % 8 ≡ 0) (gray : is_gray_place v.shades x ≡ true)
      (closed : (y : ℕ) → SlotNames objects x y → StandsAt rows h y) where
    abbrev ss : List ShadeView
    ss = v.shades

    abbrev mid : List ShadeView
    mid = (met_all (word_of h) v x (references_at rows h x)).shades

    abbrev now : List ShadeView
    now = (followed rows h v x).shades

    x_marked : is_marked ss x ≡ true
    x_marked = (gray_parts ss x gray).0

    pub x_stands : StandsAt rows h x
    x_stands = known.marked x whole x_marked

    pub named_slot : (offset : ℕ) → IsIn offset (references_at rows h x) → word_of h (x + offset) ≢ 0
        → SlotNames objects x (word_of h (x + offset))
    named_slot offset l ne =
        refers_to rows h heap held x (item_at rows (word_of h) x) (at rows h heap held x x_stands) offset l ne

    pub met_x : HasMet ss mid (IsWordAt (word_of h) x (references_at rows h x))
    met_x = all_met (word_of h) x (references_at rows h x) v all
        (λ offset l ne. stands_aligned (word_of h (x + offset))
        (closed (word_of h (x + offset)) (named_slot offset l ne)))

    slot_of : (b : ℕ) → IsWordAt (word_of h) x (references_at rows h x) b → SlotNames objects x b
    slot_of b n = subst (SlotNames objects x) (sym n.is) (named_slot n.offset n.listed n.not_null)

    of_slot : (b : ℕ) → SlotNames objects x b → IsWordAt (word_of h) x (references_at rows h x) b
    of_slot b n =
        let r = refers_from rows h heap held x (item_at rows (word_of h) x) (at rows h heap held x x_stands) b n in
        let some = r.not_null in
        record {
          offset = r.offset;
          listed = r.listed;
          is = sym r.holds;
          not_null = λ e. let same = r.holds in omega (arith, some, same, e);
        }

    mid_covered : is_covered mid x ≡ true
    mid_covered = told_covered (λ s a. has_bit s.marked (cell_of s a)) mid x (met_x.stays x x_marked)

    pub scanned_now : (b : ℕ) → is_scanned now b ≡ (in_cell b x || is_scanned ss b)
    scanned_now b = scanned_more mid met_x.shades x b mid_covered ∙ ap (λ r. in_cell b x || r) (met_x.scanned b)

    pub marked_now : (b : ℕ) → is_marked now b ≡ is_marked mid b
    marked_now b =
        told_kept (λ s a. has_bit s.marked (cell_of s a)) (with_scanned x) (λ s b. refl) (λ s b. refl) mid x b

    pub taken_now : (b : ℕ) → is_taken now b ≡ is_taken ss b
    taken_now b =
        told_kept (λ s a. has_bit s.taken (cell_of s a)) (with_scanned x) (λ s b. refl) (λ s b. refl) mid x b
        ∙ met_x.taken b

    -- and no object was taken since
    pub taken_was : (b : ℕ) → IsTakenAt now b → IsTakenAt ss b
    taken_was b (there, inl t) = (there, inl (sym (taken_now b) ∙ t))
    taken_was b (there, inr m) = elim (met_x.fresh b there (sym (marked_now b) ∙ m)) [
      | inl was ↦ (there, inr was)
      | inr white ↦ (there, inl (white_parts ss b white.1).taken)
    ]

    pub now_shades : AllByRecursion IsShade now
    now_shades = scanned_shades mid x met_x.shades

    scanned_split : (b : ℕ) → b % 8 ≡ 0 → is_scanned now b ≡ true → (is_scanned ss b ≡ true) ⊎ (b ≡ x)
    scanned_split b there e = go (in_cell b x) refl (sym (scanned_now b) ∙ e)
      where
        go : (c : Bool) → in_cell b x ≡ c → (c || is_scanned ss b) ≡ true → (is_scanned ss b ≡ true) ⊎ (b ≡ x)
        go true f g = inr (one_cell x b whole there f)
        go false f g = inl g

    scanned_not : (b : ℕ) → b % 8 ≡ 0 → (b ≡ x → ⊥) → is_scanned ss b ≡ false → is_scanned now b ≡ false
    scanned_not b there ne e =
        scanned_now b ∙ (λ i. other_cell x b whole there ne i || e i)

    -- what isn't scanned then isn't x, and wasn't scanned
    not_scanned : (b : ℕ) → is_scanned now b ≡ false → (b ≡ x → ⊥) × (is_scanned ss b ≡ false)
    not_scanned b e = (
      λ same. both_ways (is_scanned now b) e
          (scanned_now b ∙ ap (λ c. c || is_scanned ss b) (ap (λ n. in_cell n x) same ∙ own_cell x)),
      go (in_cell b x) (sym (scanned_now b) ∙ e),
    )
      where
        go : (c : Bool) → (c || is_scanned ss b) ≡ false → is_scanned ss b ≡ false
        go true f = absurd cc
        go false f = f

    -- ---- as lists

    gray_of : (ts : List ShadeView) (b : ℕ) → is_marked ts b ≡ true → is_scanned ts b ≡ false
        → is_gray_place ts b ≡ true
    gray_of ts b m s = λ i. m i && not (s i)

    aligned : (b : ℕ) → IsIn b names → b % 8 ≡ 0
    aligned b j = stands_aligned b (named_stands b j)

    pub black_forth : (b : ℕ) → IsIn b (places_where (is_scanned now) objects)
        → IsIn b (places_where (is_scanned ss) objects) ⊎ (b ≡ x)
    black_forth b j =
        let (e, i) = out_of_filter (is_scanned now) b names j in
        elim (scanned_split b (aligned b i) e) [
          | inl f ↦ inl (into_filter (is_scanned ss) names f i)
          | inr same ↦ inr same
        ]

    pub black_back : (b : ℕ) → IsIn b (places_where (is_scanned ss) objects) ⊎ (b ≡ x)
        → IsIn b (places_where (is_scanned now) objects)
    black_back b (inl j) =
        let (e, i) = out_of_filter (is_scanned ss) b names j in
        into_filter (is_scanned now) names (scanned_now b ∙ ap (λ r. in_cell b x || r) e ∙ or_true (in_cell b x)) i
    black_back b (inr same) =
        into_filter (is_scanned now) names
        (scanned_now b ∙ ap (λ c. c || is_scanned ss b) (ap (λ n. in_cell n x) same ∙ own_cell x))
        (subst (λ n. IsIn n names) (sym same) (stands_named x x_stands))

    gray_forth : (b : ℕ) → IsIn b (places_where (is_gray_place now) objects)
        → (IsIn b (places_where (is_gray_place ss) objects) × (b ≡ x → ⊥))
        ⊎ (IsIn b (places_where (is_white_place ss) objects) × SlotNames objects x b)
    gray_forth b j =
        let (e, i) = out_of_filter (is_gray_place now) b names j in
        let (m, s) = gray_parts now b e in
        let (other, before) = not_scanned b s in
        elim (met_x.fresh b (aligned b i) (sym (marked_now b) ∙ m)) [
          | inl was ↦ inl (into_filter (is_gray_place ss) names (gray_of ss b was before) i, other)
          | inr p ↦ inr (into_filter (is_white_place ss) names p.1 i, slot_of b p.0)
        ]

    gray_back : (b : ℕ) → (IsIn b (places_where (is_gray_place ss) objects) × (b ≡ x → ⊥))
        ⊎ (IsIn b (places_where (is_white_place ss) objects) × SlotNames objects x b)
        → IsIn b (places_where (is_gray_place now) objects)
    gray_back b (inl (j, other)) =
        let (e, i) = out_of_filter (is_gray_place ss) b names j in
        let (m, s) = gray_parts ss b e in
        into_filter (is_gray_place now) names
        (gray_of now b (marked_now b ∙ met_x.stays b m) (scanned_not b (aligned b i) other s)) i
    gray_back b (inr (j, named)) =
        let (e, i) = out_of_filter (is_white_place ss) b names j in
        let w = white_parts ss b e in
        into_filter (is_gray_place now) names
        (gray_of now b (marked_now b ∙ met_x.found b (of_slot b named) e)
        (scanned_not b (aligned b i) (white_other b w) w.unscanned)) i
      where
        white_other : (b : ℕ) → IsWhite ss b → b ≡ x → ⊥
        white_other b w same =
            both_ways (is_marked ss b) w.unmarked (subst (λ n. is_marked ss n ≡ true) (sym same) x_marked)

    white_forth : (b : ℕ) → IsIn b (places_where (is_white_place now) objects)
        → IsIn b (places_where (is_white_place ss) objects) × (SlotNames objects x b → ⊥)
    white_forth b j =
        let (e, i) = out_of_filter (is_white_place now) b names j in
        let w = white_parts now b e in
        let (other, before) = not_scanned b w.unscanned in
        let unmarked : is_marked mid b ≡ false = sym (marked_now b) ∙ w.unmarked in
        let white : is_white_place ss b ≡ true = parts_white ss b (record {
          taken = sym (taken_now b) ∙ w.taken;
          unmarked = elim (cases_Bool (is_marked ss b)) [
            | inl m ↦ absurd (both_ways (is_marked mid b) unmarked (met_x.stays b m))
            | inr f ↦ f
          ];
          unscanned = before;
        }) in (
          into_filter (is_white_place ss) names white i,
          λ named. both_ways (is_marked mid b) unmarked (met_x.found b (of_slot b named) white),
        )

    white_back : (b : ℕ) → IsIn b (places_where (is_white_place ss) objects) × (SlotNames objects x b → ⊥)
        → IsIn b (places_where (is_white_place now) objects)
    white_back b (j, unnamed) =
        let (e, i) = out_of_filter (is_white_place ss) b names j in
        let w = white_parts ss b e in
        into_filter (is_white_place now) names
        (parts_white now b (record {
          taken = taken_now b ∙ w.taken;
          unmarked = elim (cases_Bool (is_marked mid b)) [
            | inl m ↦ absurd (elim (met_x.fresh b (aligned b i) m) [
              | inl was ↦ both_ways (is_marked ss b) w.unmarked was
              | inr p ↦ unnamed (slot_of b p.0)
            ])
            | inr f ↦ marked_now b ∙ f
          ];
          unscanned = scanned_not b (aligned b i) (λ same. both_ways (is_marked ss b) w.unmarked
              (subst (λ n. is_marked ss n ≡ true) (sym same) x_marked)) w.unscanned;
        })) i

    -- where no gray place is lower, none of the objects that are gray stands lower
    lowest_place : ((a : ℕ) → is_gray_place ss a ≡ true → x ≤ a) → (y : ℕ)
        → IsIn y (places_where (is_gray_place ss) objects) → place_of objects x ≤ place_of objects y
    lowest_place low y j =
        let (e, i) = out_of_filter (is_gray_place ss) y names j in
        subst (λ p. p ≤ place_of objects y) (sym (place_told x x_stands))
        (subst (λ p. x ≤ p) (sym (place_told y (named_stands y i))) (low y e))

    -- THE LOWEST GRAY OBJECT IS SCANNED, in every machine of these objects.
    pub scans_one : ((a : ℕ) → is_gray_place ss a ≡ true → x ≤ a) → (m : Machine) → m.objects ≡ objects
        → Scans m (marking_in objects ss) (marking_in objects now)
    scans_one low m same = record {
      scanned = x;
      lowest = λ y j. subst (λ os. place_of os x ≤ place_of os y) (sym same) (lowest_place low y j);
      apart = marking_apart now;
      was_gray = into_filter (is_gray_place ss) names gray (stands_named x x_stands);
      black = λ b. (black_forth b, black_back b);
      gray = λ b. (
        λ j. elim (gray_forth b j) [
          | inl p ↦ inl p
          | inr p ↦ inr (p.0, subst (λ os. SlotNames os x b) (sym same) p.1)
        ],
        λ s. gray_back b (elim s [
          | inl p ↦ inl p
          | inr p ↦ inr (p.0, subst (λ os. SlotNames os x b) same p.1)
        ]),
      );
      white = λ b. (
        λ j. let (i, unnamed) = white_forth b j in (i, λ n. unnamed (subst (λ os. SlotNames os x b) same n)),
        λ p. white_back b (p.0, λ n. p.1 (subst (λ os. SlotNames os x b) (sym same) n)),
      );
    }

    -- and all colours are still those of objects
    pub objects_now : AreObjects rows h now
    objects_now = record {
      taken = λ a there e. known.taken a there (sym (taken_now a) ∙ e);
      marked = λ a there e. elim (met_x.fresh a there (sym (marked_now a) ∙ e)) [
        | inl was ↦ known.marked a there was
        | inr p ↦ closed a (slot_of a p.0)
      ];
      black = λ a there e. elim (scanned_split a there e) [
        | inl was ↦ marked_now a ∙ met_x.stays a (known.black a there was)
        | inr same ↦ subst (λ (n : ℕ). is_marked now n ≡ true) (sym same) (marked_now x ∙ met_x.stays x x_marked)
      ];
      scanned = λ a there e. elim (scanned_split a there e) [
        | inl was ↦ known.scanned a there was
        | inr same ↦ subst (StandsAt rows h) (sym same) x_stands
      ];
    }
