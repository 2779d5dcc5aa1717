-- Flags that are cleared, one after the other, where what is left stays the same.
use Rattle.std.proofs.Common.{◌≡◌, ◌↔◌, ◌⊎◌, inl, inr, ℕ, zero, suc, ◌-◌, ◌<◌, ◌==◌, ◌&&◌, ◌||◌, ◌++◌, ◌∷◌, Bool}
use Rattle.std.proofs.Common.{true, false, not, List, [], filter, map, drop, if◌then◌else◌, nat_le, slice_index}
use Rattle.std.proofs.Common.{refl, ap}
use Rattle.std.proofs.Common.{ap₂, sym, ◌∙◌, subst, arith}
use Rattle.std.specs.List.{list_any}
use Rattle.std.proofs.lemmas.Bool.{both_ways, eq-eqb, eqb-true}
use Rattle.clr_types.specs.Rising.{changed_by, IsIn, later}
use Rattle.clr_types.specs.Segments.{generation, Layout}
use Rattle.clr_types.specs.Types.{TypeRow}
use Rattle.clr_types.proofs.ChangedLists.{into_filter, IsIn-map, out_of_filter}
use Rattle.clr_types.proofs.ListMembers.{any-from, any-in, any-map, any-on, in_append, map-on}
use Rattle.clr_types.proofs.RisingLists.{in_cons}
use Rattle.clr_heap.specs.View.{HeapView, IsHeap, word_of}
use Rattle.clr_heap.proofs.Rewrite.{SameShape-refl, SameShape-stored, shaped_heap}
use Rattle.clr_model.specs.Machine.{Object}
use Rattle.clr_model.specs.Updates.{with_flag_of}
use Rattle.clr_model.proofs.NamedWell.{eqb_sym}
use Rattle.clr_view.specs.Clean.{AreClean}
use Rattle.clr_view.specs.Flags.{flagged, HasFlagged, with_flag_at}
use Rattle.clr_view.specs.Marks.{Marked}
use Rattle.clr_view.specs.Memory.{is_left, is_left_name, is_marked}
use Rattle.clr_view.specs.SlotValues.{StandsAt}
use Rattle.clr_view.specs.View.{AreFreeHeads, IsHeld, layout_in, objects_in}
use Rattle.clr_collect.specs.Collecting.{AllLeft, HasUnflagged, unflagged}

-- ---- Booleans

both_true : (a b : Bool) → (a ≡ true → b ≡ true) → (b ≡ true → a ≡ true) → a ≡ b
both_true true b there back = sym (there refl)
both_true false true there back = back refl
both_true false false there back = refl

and-true : (b : Bool) → (b && true) ≡ b
and-true true = refl
and-true false = refl

-- ---- what is left

module _ (rows : List TypeRow) (old new : HeapView) (g : ℕ) (f : Object → Object)
    (same-name : (o : Object) → (f o).name ≡ o.name) (same-place : (o : Object) → (f o).place ≡ o.place)
    (objects : objects_in rows new ≡ map f (objects_in rows old)) (layout : layout_in rows new ≡ layout_in rows old)
    (marks : (x : ℕ) → Marked rows new x ↔ Marked rows old x) where
  same-mark : (o : Object) → IsIn o (objects_in rows old) → is_marked new o ≡ is_marked old o
  same-mark o i = both_true (is_marked new o) (is_marked old o)
      (λ e. ((marks o.place).0
      (record { stands = (f o, subst (IsIn (f o)) (sym objects) (IsIn-map f i), same-place o); mark = e })).mark)
      (λ e. ((marks o.place).1 (record { stands = (o, i, refl); mark = e })).mark)

  same-left : (o : Object) → IsIn o (objects_in rows old) → is_left new g (f o) ≡ is_left old g o
  same-left o i =
      ap (λ (p : ℕ). is_left new g (record (f o) { place = p })) (same-place o)
      ∙ ap₂ (λ (b c : Bool). not b || c)
      (ap (λ (l : Layout). nat_le (generation l o.place) g) layout) (same-mark o i)

  -- WHAT IS LEFT stays the same where objects keep names, places and marks
  pub left_stays : (x : ℕ) → is_left_name rows new g x ≡ is_left_name rows old g x
  left_stays x =
      ap (list_any (λ (o : Object). (o.name == x) && is_left new g o)) objects
      ∙ any-map f (λ (o : Object). (o.name == x) && is_left new g o) (objects_in rows old)
      ∙ any-on (λ o. ((f o).name == x) && is_left new g (f o)) (λ o. (o.name == x) && is_left old g o)
      (objects_in rows old) (λ o i. ap₂ (λ (b c : Bool). b && c) (ap (λ (n : ℕ). n == x) (same-name o)) (same-left o i))

-- objects that lost flags
module _ (rows : List TypeRow) (old new : HeapView) (g : ℕ) (entries : List ℕ)
    (u : HasUnflagged rows old new g entries) where
  pub left_unflagged : (x : ℕ) → is_left_name rows new g x ≡ is_left_name rows old g x
  left_unflagged = left_stays rows old new g (unflagged (is_left_name rows old g) entries) (λ o. refl) (λ o. refl)
      u.objects u.layout u.marks

  pub stands_unflagged : (x : ℕ) → StandsAt rows old x → StandsAt rows new x
  stands_unflagged x (o, i, at) =
      let change : Object → Object = unflagged (is_left_name rows old g) entries in
      (change o, subst (IsIn (change o)) (sym u.objects) (IsIn-map change i), at)

-- ---- one flag more

module _ (left : ℕ → Bool) where
  any-push : (test : ℕ → Bool) (xs : List ℕ) (x : ℕ) → list_any test (xs ++ x ∷ []) ≡ (list_any test xs || test x)
  any-push test [] x = or-false (test x)
    where
      or-false : (b : Bool) → (b || false) ≡ b
      or-false true = refl
      or-false false = refl
  any-push test (y ∷ xs) x = go (test y) (any-push test xs x)
    where
      go : (b : Bool) → list_any test (xs ++ x ∷ []) ≡ (list_any test xs || test x)
          → (b || list_any test (xs ++ x ∷ [])) ≡ ((b || list_any test xs) || test x)
      go true e = refl
      go false e = e

  -- an entry whose object isn't left
  cleared-one : (done : List ℕ) (p : ℕ) → left p ≡ false → (o : Object)
      → (if o.name == p then with_flag_of false (unflagged left done o) else unflagged left done o)
      ≡ unflagged left (done ++ p ∷ []) o
  cleared-one done p gone o = go (o.name == p) refl
    where
      seen : Bool
      seen = list_any (λ e. e == o.name) done

      any-is : (b : Bool) → (o.name == p) ≡ b → list_any (λ e. e == o.name) (done ++ p ∷ []) ≡ (seen || b)
      any-is b e = any-push (λ e. e == o.name) done p ∙ ap (λ (c : Bool). seen || c) (eqb_sym p o.name ∙ e)

      hidden : (a s : Bool) → false ≡ (s && not ((a || true) && true))
      hidden true true = refl
      hidden true false = refl
      hidden false true = refl
      hidden false false = refl

      same : (a s l : Bool) → (s && not (a && l)) ≡ (s && not ((a || false) && l))
      same true s l = refl
      same false s l = refl

      go : (b : Bool) → (o.name == p) ≡ b
          → (if b then with_flag_of false (unflagged left done o) else unflagged left done o)
          ≡ unflagged left (done ++ p ∷ []) o
      go true e =
          let out : not (left o.name) ≡ true = ap (λ (n : ℕ). not (left n)) (eqb-true o.name p e) ∙ ap not gone in
          let flag : false ≡ (o.suppressed && not (list_any (λ e. e == o.name) (done ++ p ∷ []) && not (left o.name))) =
          hidden seen o.suppressed
          ∙ ap₂ (λ (a c : Bool). o.suppressed && not (a && c)) (sym (any-is true e)) (sym out) in
          ap (λ (s : Bool). record o { suppressed = s }) flag
      go false e =
          ap (λ (s : Bool). record o { suppressed = s })
          (same seen o.suppressed (not (left o.name))
          ∙ ap (λ (a : Bool). o.suppressed && not (a && not (left o.name))) (sym (any-is false e)))

  cleared-each : (done : List ℕ) (p : ℕ) → left p ≡ false → (objects : List Object)
      → changed_by (λ (o : Object). o.name) p (with_flag_of false) (map (unflagged left done) objects)
      ≡ map (unflagged left (done ++ p ∷ [])) objects
  cleared-each done p gone [] = refl
  cleared-each done p gone (o ∷ os) =
      let here = cleared-one done p gone o in
      let rest = cleared-each done p gone os in
      λ k. here k ∷ rest k

  -- one whose object is left
  kept-one : (done : List ℕ) (p : ℕ) → left p ≡ true → (o : Object)
      → unflagged left done o ≡ unflagged left (done ++ p ∷ []) o
  kept-one done p stays o = ap (λ (s : Bool). record o { suppressed = s }) (go (p == o.name) refl)
    where
      seen : Bool
      seen = list_any (λ e. e == o.name) done

      wide : (a l s : Bool) → l ≡ true → (s && not (a && not l)) ≡ (s && not ((a || true) && not l))
      wide true l s e = refl
      wide false true s e = refl
      wide false false s e = absurd cc

      same : (a s l : Bool) → (s && not (a && l)) ≡ (s && not ((a || false) && l))
      same true s l = refl
      same false s l = refl

      go : (b : Bool) → (p == o.name) ≡ b
          → (o.suppressed && not (seen && not (left o.name)))
          ≡ (o.suppressed && not (list_any (λ e. e == o.name) (done ++ p ∷ []) && not (left o.name)))
      go true e =
          wide seen (left o.name) o.suppressed (ap left (sym (eqb-true p o.name e)) ∙ stays)
          ∙ ap (λ (a : Bool). o.suppressed && not (a && not (left o.name)))
          (sym (any-push (λ e. e == o.name) done p ∙ ap (λ (c : Bool). seen || c) e))
      go false e =
          same seen o.suppressed (not (left o.name))
          ∙ ap (λ (a : Bool). o.suppressed && not (a && not (left o.name)))
          (sym (any-push (λ e. e == o.name) done p ∙ ap (λ (c : Bool). seen || c) e))

-- ---- the steps of the loop

-- a flag is a word
flag_keeps_heap : (h : HeapView) (p : ℕ) (flag : Bool) → IsHeap h → IsHeap (with_flag_at h p flag)
flag_keeps_heap h p flag =
    shaped_heap h (with_flag_at h p flag)
    (SameShape-stored h h (p - 8) (flagged flag (word_of h (p - 8))) (SameShape-refl h))

module _ (rows : List TypeRow) (old : HeapView) (g : ℕ) where
  abbrev left : ℕ → Bool
  left = is_left_name rows old g

  -- at the start no flag was cleared
  pub unflagged_none : IsHeap old → IsHeld rows old → HasUnflagged rows old old g []
  unflagged_none heap held = record {
    heap = heap;
    held = held;
    objects = same (objects_in rows old);
    layout = refl;
    marks = λ x. (λ m. m, λ m. m);
    clean = λ c. c;
    free_heads = λ c. c;
    limit = refl;
    rests = refl;
  }
    where
      same : (os : List Object) → os ≡ map (unflagged left []) os
      same [] = refl
      same (o ∷ os) =
          let here = ap (λ (s : Bool). record o { suppressed = s }) (sym (and-true o.suppressed)) in
          let rest = same os in
          λ k. here k ∷ rest k

  -- an entry whose object is left changes nothing
  pub unflagged_kept : (now : HeapView) (done : List ℕ) (p : ℕ) → HasUnflagged rows old now g done
      → is_left_name rows now g p ≡ true → HasUnflagged rows old now g (done ++ p ∷ [])
  unflagged_kept now done p u stays = record {
    heap = u.heap;
    held = u.held;
    objects =
        u.objects
        ∙ map-on (unflagged left done) (unflagged left (done ++ p ∷ [])) (objects_in rows old)
        (λ o i. kept-one left done p (sym (left_unflagged rows old now g done u p) ∙ stays) o);
    layout = u.layout;
    marks = u.marks;
    clean = u.clean;
    free_heads = u.free_heads;
    limit = u.limit;
    rests = u.rests;
  }

  -- another one's flag is cleared
  pub unflagged_more : (now new : HeapView) (done : List ℕ) (p : ℕ) → HasUnflagged rows old now g done
      → is_left_name rows now g p ≡ false → HasFlagged rows now new p false → new ≡ with_flag_at now p false
      → (AreClean rows now → AreClean rows new) → (AreFreeHeads rows now → AreFreeHeads rows new)
      → HasUnflagged rows old new g (done ++ p ∷ [])
  unflagged_more now new done p u gone f words clean free_heads = record {
    heap = subst IsHeap (sym words) (flag_keeps_heap now p false u.heap);
    held = f.held;
    objects =
        f.objects
        ∙ ap (changed_by (λ (o : Object). o.name) p (with_flag_of false)) u.objects
        ∙ cleared-each left done p (sym (left_unflagged rows old now g done u p) ∙ gone) (objects_in rows old);
    layout = f.layout ∙ u.layout;
    marks = λ x. (λ m. (u.marks x).0 ((f.marks x).0 m), λ m. (f.marks x).1 ((u.marks x).1 m));
    clean = λ c. clean (u.clean c);
    free_heads = λ c. free_heads (u.free_heads c);
    limit = ap (λ (h : HeapView). h.limit) words ∙ u.limit;
    rests = ap (λ (h : HeapView). h.rests) words ∙ u.rests;
  }

-- ---- all entries

-- one more place whose object is left
pub left_more : (rows : List TypeRow) (h : HeapView) (g : ℕ) (done : List ℕ) (p : ℕ) → AllLeft rows h g done
    → is_left_name rows h g p ≡ true → AllLeft rows h g (done ++ p ∷ [])
left_more rows h g done p all stays x i = elim (in_append done i) [
  | inl before ↦ all x before
  | inr last ↦ elim (in_cons last) [
    | inl e ↦ ap (is_left_name rows h g) e ∙ stays
    | inr none ↦ elim none [ ]
  ]
]

-- what is behind the first places is among all
pub behind-among : (n : ℕ) (xs : List ℕ) (x : ℕ) → IsIn x (drop n xs) → IsIn x xs
behind-among zero xs x i = i
behind-among (suc n) [] x i = elim i [ ]
behind-among (suc n) (y ∷ xs) x i = later (behind-among n xs x i)

module _ (left suppressed : ℕ → Bool) where
  -- what isn't among the first places is behind them
  pub behind : (n : ℕ) (xs : List ℕ) (x : ℕ) → IsIn x xs → left x ≡ false
      → ((i : ℕ) → i < n → left (slice_index xs i) ≡ true) → IsIn x (drop n xs)
  behind zero xs x i gone all = i
  behind (suc n) [] x i gone all = elim i [ ]
  behind (suc n) (y ∷ xs) x i gone all =
      go (in_cons i) (λ j. behind n xs x j gone (λ k l. all (suc k) (omega (arith, l))))
    where
      go : (x ≡ y) ⊎ IsIn x xs → (IsIn x xs → IsIn x (drop n xs)) → IsIn x (drop n xs)
      go (inl same) more = absurd (both_ways (left x) gone (ap left same ∙ all 0 (omega arith)))
      go (inr j) more = more j

  -- the entries that are looked at are those that matter
  module _ (n : ℕ) (entries : List ℕ)
      (early : (i : ℕ) → i < n → left (slice_index (filter (λ x. left x || suppressed x) entries) i) ≡ true) where
    abbrev looked : List ℕ
    looked = drop n (filter (λ x. left x || suppressed x) entries)

    seen-there : (x : ℕ) → left x ≡ false → suppressed x ≡ true → list_any (λ e. e == x) entries ≡ true
        → list_any (λ e. e == x) looked ≡ true
    seen-there x gone flag e =
        let (y, i, at) = any-in (λ e. e == x) entries e in
        let same : y ≡ x = eqb-true y x at in
        let among : IsIn x entries = subst (λ (n : ℕ). IsIn n entries) same i in
        let passes : (left x || suppressed x) ≡ true = ap (λ (b : Bool). left x || b) flag ∙ or-true (left x) in
        any-from (λ e. e == x) looked x
        (behind n (filter (λ x. left x || suppressed x) entries) x
        (into_filter (λ x. left x || suppressed x) entries passes among) gone early) (eq-eqb x x refl)
      where
        or-true : (b : Bool) → (b || true) ≡ true
        or-true true = refl
        or-true false = refl

    seen-here : (x : ℕ) → list_any (λ e. e == x) looked ≡ true → list_any (λ e. e == x) entries ≡ true
    seen-here x e =
        let (y, i, at) = any-in (λ e. e == x) looked e in
        let passed = behind-among n (filter (λ x. left x || suppressed x) entries) y i in
        any-from (λ e. e == x) entries y (out_of_filter (λ x. left x || suppressed x) y entries passed).1 at

    -- FLAGS are the same as if all had been looked at
    pub unflagged_all : (o : Object) → suppressed o.name ≡ o.suppressed
        → unflagged left looked o ≡ unflagged left entries o
    unflagged_all o known = ap (λ (s : Bool). record o { suppressed = s })
        (go o.suppressed refl (left o.name) refl)
      where
        a : Bool
        a = list_any (λ e. e == o.name) looked

        b : Bool
        b = list_any (λ e. e == o.name) entries

        none : (c s : Bool) → (s && not (c && false)) ≡ (s && true)
        none true s = refl
        none false s = refl

        go : (s : Bool) → o.suppressed ≡ s → (l : Bool) → left o.name ≡ l
            → (s && not (a && not l)) ≡ (s && not (b && not l))
        go false e l f = refl
        go true e true f = none a true ∙ sym (none b true)
        go true e false f =
            ap (λ (c : Bool). not (c && true)) (both_true a b (seen-here o.name) (seen-there o.name f (known ∙ e)))
