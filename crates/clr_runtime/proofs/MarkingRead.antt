-- What a background collection took, read off its bits: which places these are, and that they are those of the objects.
use Rattle.std.proofs.Common.{◌≡◌, ◌∙◌, ℕ, zero, suc, ◌+◌, ◌*◌, ◌%◌, ◌^◌, ◌<◌, ◌↔◌, ◌⊎◌, inl, inr, Bool, true, false}
use Rattle.std.proofs.Common.{not}
use Rattle.std.proofs.Common.{◌&&◌, if◌then◌else◌, List, [], ◌∷◌, ◌++◌, filter, map, refl, sym, ap, subst, arith, Some}
use Rattle.std.specs.Prelude.{IfSome}
use Rattle.std.proofs.lemmas.Bool.{cases_lt}
use Rattle.clr_types.specs.Rising.{IsIn, first, IsRisingBy}
use Rattle.clr_types.specs.Types.{TypeRow}
use Rattle.clr_types.proofs.ChangedLists.{all-map, append_left, into_filter, out_of_filter}
use Rattle.clr_types.proofs.ListMembers.{append_right, filter-rises, from-map, in_append, rising_append}
use Rattle.clr_types.proofs.RisingLists.{all_at, in_cons, rising_agree}
use Rattle.clr_heap.specs.View.{heap_items, HeapView, IsHeap, word_of}
use Rattle.clr_model.specs.Background.{IsLawfulMarking, taken}
use Rattle.clr_model.specs.Lawful.{IsPlaceNamed}
use Rattle.clr_model.specs.Machine.{Machine, Object}
use Rattle.clr_model.specs.Reach.{Old}
use Rattle.clr_view.specs.SlotValues.{StandsAt}
use Rattle.clr_view.specs.View.{IsHeld, is_object, object_in, objects_in}
use Rattle.clr_view.proofs.Listed.{listed-low}
use Rattle.clr_view.proofs.Listings.{heap-rise}
use Rattle.clr_view.proofs.Rises.{objects-rise}
use Rattle.clr_bgmark.specs.Bits.{has_bit}
use Rattle.clr_bgmark.specs.Scanning.{AreObjects, is_gray_place, is_white_place, IsTakenAt, marking_in, places_where}
use Rattle.clr_bgmark.specs.Shades.{cell_of, changed_at, is_marked, is_scanned, is_taken, ShadeView, with_logged}
use Rattle.clr_bgmark.proofs.Kept.{told_kept}
use Rattle.clr_bgmark.proofs.ScannedLists.{named_stands, stands_aligned, stands_named}
use Rattle.clr_runtime.specs.Marked.{AreColours, marking_by, places_below}

-- ---- places that pass a test

-- such a place is a multiple of 8 below the bound, and passes
pub record IsPlaceBelow (test : ℕ → Bool) (n x : ℕ) : Type 0 where
  pub whole : x % 8 ≡ 0
  pub low : x < 8 * n
  pub passes : test x ≡ true

pub out_of_places : (test : ℕ → Bool) (n x : ℕ) → IsIn x (places_below test n) → IsPlaceBelow test n x
unfolding places_below
out_of_places test zero x i = elim i [ ]
out_of_places test (suc n) x i = elim (in_append (places_below test n) i) [
  | inl j ↦
      let is = out_of_places test n x j in
      let low = is.low in
      record { whole = is.whole; low = omega (arith, low); passes = is.passes }
  | inr j ↦ last (test (8 * n)) refl j
]
  where
    last : (b : Bool) → test (8 * n) ≡ b → IsIn x (if b then 8 * n ∷ [] else []) → IsPlaceBelow test (suc n) x
    last true e j = elim (in_cons j) [
      | inl same ↦ record { whole = omega (arith, same); low = omega (arith, same); passes = ap test same ∙ e }
      | inr k ↦ elim k [ ]
    ]
    last false e j = elim j [ ]

pub into_places : (test : ℕ → Bool) (n x : ℕ) → IsPlaceBelow test n x → IsIn x (places_below test n)
unfolding places_below
into_places test zero x is = let low = is.low in absurd (omega (arith, low))
into_places test (suc n) x is = elim (cases_lt x (8 * n)) [
  | inl below ↦
      append_left (if test (8 * n) then 8 * n ∷ [] else [])
      (into_places test n x (record { whole = is.whole; low = below; passes = is.passes }))
  | inr above ↦
      let low = is.low in
      let whole = is.whole in
      let same : x ≡ 8 * n = omega (arith, above, low, whole) in
      append_right (places_below test n) (last same (ap test (sym same) ∙ is.passes))
]
  where
    last : x ≡ 8 * n → test (8 * n) ≡ true → IsIn x (if test (8 * n) then 8 * n ∷ [] else [])
    last same e =
        subst (λ b. IsIn x (if b then 8 * n ∷ [] else [])) (sym e) (subst (λ y. IsIn y (8 * n ∷ [])) (sym same) first)

places_rise : (test : ℕ → Bool) (n : ℕ) → IsRisingBy (λ k. k) (places_below test n)
unfolding places_below
places_rise test zero = tt
places_rise test (suc n) =
    rising_append (λ k. k) (places_below test n) (if test (8 * n) then 8 * n ∷ [] else []) (places_rise test n)
    (one (test (8 * n)))
    (λ x y i j.
    let low = (out_of_places test n x i).low in
    let same = last y (test (8 * n)) j in omega (arith, low, same))
  where
    one : (b : Bool) → IsRisingBy (λ k. k) (if b then 8 * n ∷ [] else [])
    one true = (tt, tt)
    one false = tt

    last : (y : ℕ) (b : Bool) → IsIn y (if b then 8 * n ∷ [] else []) → y ≡ 8 * n
    last y true j = elim (in_cons j) [ inl same ↦ same | inr k ↦ elim k [ ] ]
    last y false j = elim j [ ]

-- ---- what was taken

-- a place that was taken has a bit
pub bit_of_taken : (ss : List ShadeView) → AreColours ss → (x : ℕ) → IsIn x (taken (marking_by ss)) → IsTakenAt ss x
unfolding marking_by
bit_of_taken ss is x i = elim (in_append (white ++ gray) i) [
  | inl j ↦ elim (in_append white j) [
    | inl k ↦
        let p = out_of_places (is_white_place ss) (2 ^ 60) x k in
        (p.whole, inl (white_taken (is_taken ss x) (is_marked ss x) (is_scanned ss x) p.passes))
    | inr k ↦
        let p = out_of_places (is_gray_place ss) (2 ^ 60) x k in
        (p.whole, inr (gray_marked (is_marked ss x) (is_scanned ss x) p.passes))
  ]
  | inr j ↦
      let p = out_of_places (is_scanned ss) (2 ^ 60) x j in (p.whole, inr (is.scanned x p.whole p.passes))
]
  where
    white : List ℕ
    white = places_below (is_white_place ss) (2 ^ 60)

    gray : List ℕ
    gray = places_below (is_gray_place ss) (2 ^ 60)

    white_taken : (t m s : Bool) → (t && (not m && not s)) ≡ true → t ≡ true
    white_taken true m s e = refl
    white_taken false m s e = absurd cc

    gray_marked : (m s : Bool) → (m && not s) ≡ true → m ≡ true
    gray_marked true s e = refl
    gray_marked false s e = absurd cc

-- and one that has a bit was taken
pub taken_of_bit : (ss : List ShadeView) → AreColours ss → (x : ℕ) → IsTakenAt ss x → IsIn x (taken (marking_by ss))
unfolding marking_by
taken_of_bit ss is x (whole, bit) = go (is_scanned ss x) refl (is_marked ss x) refl bit
  where
    white : List ℕ
    white = places_below (is_white_place ss) (2 ^ 60)

    gray : List ℕ
    gray = places_below (is_gray_place ss) (2 ^ 60)

    black : List ℕ
    black = places_below (is_scanned ss) (2 ^ 60)

    into : (test : ℕ → Bool) → x < 2 ^ 63 → test x ≡ true → IsIn x (places_below test (2 ^ 60))
    into test low e = into_places test (2 ^ 60) x (record { whole = whole; low = omega (arith, low); passes = e })

    go : (s : Bool) → is_scanned ss x ≡ s → (m : Bool) → is_marked ss x ≡ m
        → (is_taken ss x ≡ true) ⊎ (is_marked ss x ≡ true) → IsIn x ((white ++ gray) ++ black)
    go true e m f bit =
        append_right (white ++ gray) (into (is_scanned ss) (is.marked x whole (is.scanned x whole e)) e)
    go false e true f bit =
        append_left black (append_right white (into (is_gray_place ss) (is.marked x whole f) (λ i. f i && not (e i))))
    go false e false f (inl t) =
        append_left black (append_left gray
        (into (is_white_place ss) (is.taken x whole t) (λ i. t i && (not (f i) && not (e i)))))
    go false e false f (inr m) = absurd (clash (sym f ∙ m))
      where
        clash : false ≡ true → ⊥
        clash c = cc

-- the log has no part in it
pub marking_logged : (ss : List ShadeView) (a : ℕ) → marking_by (changed_at a (with_logged a) ss) ≡ marking_by ss
unfolding marking_by
marking_logged ss a =
    let now = changed_at a (with_logged a) ss in
    let t : (b : ℕ) → is_taken now b ≡ is_taken ss b =
    λ b. told_kept (λ s c. has_bit s.taken (cell_of s c)) (with_logged a) (λ s c. refl) (λ s c. refl) ss a b in
    let m : (b : ℕ) → is_marked now b ≡ is_marked ss b =
    λ b. told_kept (λ s c. has_bit s.marked (cell_of s c)) (with_logged a) (λ s c. refl) (λ s c. refl) ss a b in
    let s : (b : ℕ) → is_scanned now b ≡ is_scanned ss b =
    λ b. told_kept (λ s c. has_bit s.scanned (cell_of s c)) (with_logged a) (λ s c. refl) (λ s c. refl) ss a b in
    λ i. record {
      white = places_below (λ b. t b i && (not (m b i) && not (s b i))) (2 ^ 60);
      gray = places_below (λ b. m b i && not (s b i)) (2 ^ 60);
      black = places_below (λ b. s b i) (2 ^ 60);
    }

-- ---- they are the objects'

rising_mapped : (objects : List Object) → IsRisingBy (λ (o : Object). o.name) objects
    → IsRisingBy (λ k. k) (map (λ (o : Object). o.name) objects)
rising_mapped [] rise = tt
rising_mapped (o ∷ os) rise =
    (all-map (λ (o : Object). o.name) (λ k. o.name < k) os rise.0, rising_mapped os rise.1)

module _ (rows : List TypeRow) (h : HeapView) (heap : IsHeap h) (held : IsHeld rows h) where
  -- no object stands at 2 ^ 63 or above
  pub stands_low : (x : ℕ) → StandsAt rows h x → x < 2 ^ 63
  stands_low x (o, i, e) =
      let (item, f, j) = from-map (object_in rows (word_of h)) o (filter is_object (heap_items rows h)) i in
      let listed = (out_of_filter is_object item (heap_items rows h) j).1 in
      let low = listed-low rows h item heap held listed in
      let same : item.place ≡ x = sym (ap (λ (w : Object). w.place) f) ∙ e in omega (arith, low, same)

  names_rise : IsRisingBy (λ k. k) (map (λ (o : Object). o.name) (objects_in rows h))
  names_rise =
      rising_mapped (objects_in rows h)
      (objects-rise rows (word_of h) (heap_items rows h) (heap-rise rows h held.walkable heap))

  -- the places that pass are those of the objects that pass, where only these do
  places_are : (test : ℕ → Bool) → ((x : ℕ) → x % 8 ≡ 0 → test x ≡ true → StandsAt rows h x)
      → places_below test (2 ^ 60) ≡ places_where test (objects_in rows h)
  places_are test stands =
      rising_agree (places_below test (2 ^ 60)) (places_where test (objects_in rows h)) (places_rise test (2 ^ 60))
      (filter-rises test (λ k. k) (map (λ (o : Object). o.name) (objects_in rows h)) names_rise)
      (λ x. (into_objects x, out_of_objects x))
    where
      names : List ℕ
      names = map (λ (o : Object). o.name) (objects_in rows h)

      into_objects : (x : ℕ) → IsIn x (places_below test (2 ^ 60)) → IsIn x (filter test names)
      into_objects x i =
          let p = out_of_places test (2 ^ 60) x i in
          into_filter test names p.passes (stands_named rows h heap held x (stands x p.whole p.passes))

      out_of_objects : (x : ℕ) → IsIn x (filter test names) → IsIn x (places_below test (2 ^ 60))
      out_of_objects x i =
          let (e, j) = out_of_filter test x names i in
          let there = named_stands rows h heap held x j in
          let low = stands_low x there in
          into_places test (2 ^ 60) x (record {
            whole = stands_aligned rows h heap held x there;
            low = omega (arith, low);
            passes = e;
          })

  -- what is read off the bits are the objects of each colour
  pub marking_is : (ss : List ShadeView) → AreObjects rows h ss → marking_by ss ≡ marking_in (objects_in rows h) ss
  unfolding marking_by
  marking_is ss known =
      let white = places_are (is_white_place ss) (λ x whole e. known.taken x whole (white_taken (is_taken ss x) _ e)) in
      let gray = places_are (is_gray_place ss) (λ x whole e. known.marked x whole (white_taken (is_marked ss x) _ e)) in
      let black = places_are (is_scanned ss) known.scanned in
      λ i. record { white = white i; gray = gray i; black = black i }
    where
      white_taken : (t more : Bool) → (t && more) ≡ true → t ≡ true
      white_taken true more e = refl
      white_taken false more e = absurd cc

  -- objects alone have bits, below 2 ^ 63
  pub objects_coloured : (ss : List ShadeView) → AreObjects rows h ss → AreColours ss
  objects_coloured ss known = record {
    taken = λ a whole e. stands_low a (known.taken a whole e);
    marked = λ a whole e. stands_low a (known.marked a whole e);
    scanned = known.black;
  }

-- what a lawful machine takes for taken are its objects
pub coloured_objects : (m : Machine) → IsPlaceNamed m → (rows : List TypeRow) (h : HeapView)
    → m.objects ≡ objects_in rows h → (ss : List ShadeView) → m.background ≡ Some (marking_by ss) → AreColours ss
    → AreObjects rows h ss
coloured_objects m sound rows h same ss runs is = record {
  taken = λ a whole e. stands a (whole, inl e);
  marked = λ a whole e. stands a (whole, inr e);
  scanned = λ a whole e. stands a (whole, inr (is.scanned a whole e));
  black = is.scanned;
}
  where
    lawful : IsLawfulMarking m (marking_by ss)
    lawful = subst (λ r. IfSome r (IsLawfulMarking m)) runs sound.lawful.marking

    stands : (a : ℕ) → IsTakenAt ss a → StandsAt rows h a
    stands a bit =
        let old : Old m 1 a = all_at (Old m 1) (taken_of_bit ss is a bit) lawful.present in (
          old.object,
          subst (IsIn old.object) same old.present,
          sym (all_at (λ (o : Object). o.name ≡ o.place) old.present sound.places) ∙ old.named,
        )
