-- Pieces by rising place: where one is put in, what is left of one that is taken from, and tests of such lists.
use Rattle.std.proofs.Common.{◌≡◌, ◌≢◌, inl, inr, ℕ, zero, suc, ◌+◌, ◌-◌, ◌<◌, ◌≤◌, true, false, Bool, List, [], ◌∷◌}
use Rattle.std.proofs.Common.{◌++◌, length, get_or, set, refl, ap, sym, ◌∙◌, subst, arith, filter, nat_le, ◌==◌}
use Rattle.std.proofs.Common.{if◌then◌else◌, nat_lt}
use Rattle.std.proofs.Common.{Option, Some, None, Result, Ok, Err, true≢false}
use Rattle.std.specs.Prelude.{is_some, OnSome}
use Rattle.std.specs.Result.{is_err, is_ok, OnErr, OnOk}
use Rattle.std.specs.List.{AllByRecursion, insert, remove}
use Rattle.std.proofs.lemmas.Bool.{cases_lt, eq-eqb, le-leb, le-ltb, lt-leb, lt-ltb, ltb-true, ne_eqb, leb-true}
use Rattle.std.proofs.lemmas.List.Concat.{flat_map-cons}
use Rattle.std.proofs.lemmas.List.Sums.{prefix_len_passes}
use Rattle.clr_types.specs.Rising.{IsIn, IsRisingBy, insert_by}
use Rattle.clr_types.specs.Ranges.{Piece, piece_end, range_piece}
use Rattle.clr_types.proofs.ChangedLists.{all_imply, IsSortedBy}
use Rattle.clr_types.proofs.RisingLists.{all_at, in_cons}
use Rattle.clr_model.specs.Allocation.{taken_from}
use Rattle.clr_items.specs.Items.{lower_count}

abbrev pub place : Piece → ℕ
place p = p.place

-- ---- what a call promises where it succeeds

pub on_ok : {A B P : Type 0} (r : Result A B) → is_ok r ≡ true → OnOk r P → P
on_ok (Ok x) fine promise = promise
on_ok (Err y) fine promise = absurd (true≢false (sym fine))

pub on_err : {A B P : Type 0} (r : Result A B) → is_err r ≡ true → OnErr r P → P
on_err (Ok x) wrong promise = absurd (true≢false (sym wrong))
on_err (Err y) wrong promise = promise

pub on_some : {A P : Type 0} (r : Option A) → is_some r ≡ true → OnSome r P → P
on_some (Some x) fine promise = promise
on_some None fine promise = absurd (true≢false (sym fine))

-- ---- where a piece is put in

-- where a list rises, each piece below a place is counted
pub counted : (ps : List Piece) (k at : ℕ) (d : Piece) → IsRisingBy place ps → k < length ps
    → (get_or ps k d).place < at → k < lower_count at ps
counted [] k at d rise l low = absurd (omega arith)
counted (p ∷ ps) zero at d rise l low = let here = lt-ltb p.place at low in rw here (omega arith)
counted (p ∷ ps) (suc k) at d rise l low =
    let up = above ps k rise.0 (omega arith) in
    let here = lt-ltb p.place at (omega arith) in
    let rest = counted ps k at d rise.1 (omega arith) low in
    rw here (omega arith)
  where
    above : (qs : List Piece) (j : ℕ) → AllByRecursion (λ q. p.place < place q) qs → j < length qs
        → p.place < (get_or qs j d).place
    above [] j all l = absurd (omega arith)
    above (q ∷ qs) zero all l = all.0
    above (q ∷ qs) (suc j) all l = above qs j all.1 (omega arith)

-- and none is where one stands that isn't below it
pub not_counted : (ps : List Piece) (k at : ℕ) (d : Piece) → at ≤ (get_or ps k d).place → lower_count at ps ≤ k
not_counted ps k at d high = elim (cases_lt k (lower_count at ps)) [
  | inl wrong ↦
      let passes = ltb-true (get_or ps k d).place at (prefix_len_passes (λ (p : Piece). nat_lt p.place at) ps k d wrong)
      in
      absurd (omega (arith, high, passes))
  | inr right ↦ right
]

-- a piece is put in after those below it
pub put_in : (ps : List Piece) (x : Piece) → insert ps (lower_count x.place ps) x ≡ insert_by place x ps
put_in [] x = refl
put_in (p ∷ ps) x = elim (cases_lt p.place x.place) [
  | inl low ↦
      let here = lt-ltb p.place x.place low in
      let past = lt-leb x.place p.place low in
      let ih = put_in ps x in
      let count : 1 + lower_count x.place ps ≡ suc (lower_count x.place ps) = omega arith in
      rw (here, past, count) (ap (λ (qs : List Piece). p ∷ qs) ih)
  | inr high ↦
      let here = le-ltb p.place x.place high in
      let at = le-leb x.place p.place high in
      rw (here, at) refl
]

-- ---- a piece among others that rise

all_middle : (P : Piece → Type 0) (xs : List Piece) (x : Piece) (ys : List Piece) → AllByRecursion P (xs ++ x ∷ ys)
    → P x
all_middle P [] x ys all = all.0
all_middle P (z ∷ xs) x ys all = all_middle P xs x ys all.1

pub apart_around : (xs : List Piece) (x : Piece) (ys : List Piece) → IsRisingBy place (xs ++ x ∷ ys)
    → AllByRecursion (λ y. place y ≢ x.place) (xs ++ ys)
apart_around [] x ys rise =
    all_imply (λ (y : Piece). x.place < place y) (λ (y : Piece). place y ≢ x.place) ys (λ y l same. omega arith) rise.0
apart_around (z ∷ xs) x ys rise =
    let low : z.place < x.place = all_middle (λ (y : Piece). z.place < place y) xs x ys rise.0 in
    ((λ same. omega arith), apart_around xs x ys rise.1)

pub put_between : (xs : List Piece) (x : Piece) (ys : List Piece) → IsRisingBy place (xs ++ x ∷ ys)
    → insert_by place x (xs ++ ys) ≡ xs ++ x ∷ ys
put_between [] x [] rise = refl
put_between [] x (y ∷ ys) rise = let below = rise.0.0 in let at = le-leb x.place y.place (omega arith) in rw at refl
put_between (z ∷ xs) x ys rise =
    let low : z.place < x.place = all_middle (λ (y : Piece). z.place < place y) xs x ys rise.0 in
    let past = lt-leb x.place z.place low in
    rw past (ap (λ (zs : List Piece). z ∷ zs) (put_between xs x ys rise.1))

-- ---- what is left of a piece

-- what is left of one piece after some bytes from its front
abbrev pub left_of : ℕ → ℕ → Piece → List Piece
left_of at n = λ i. if i.place == at then range_piece (i.place + n) (piece_end i) else i ∷ []

pub taken-apart : (at n : ℕ) (ps : List Piece) → AllByRecursion (λ q. place q ≢ at) ps → taken_from at n ps ≡ ps
taken-apart at n [] apart = refl
taken-apart at n (p ∷ ps) apart =
    let miss = ne_eqb p.place at apart.0 in
    let ih = taken-apart at n ps apart.1 in
    flat_map-cons (left_of at n) p ps
    ∙ ap (λ (b : Bool). (if b then range_piece (p.place + n) (piece_end p) else p ∷ []) ++ taken_from at n ps) miss
    ∙ ap (λ (qs : List Piece). p ∷ qs) ih

-- a piece among others of which the front is taken
pub taken-between : (xs : List Piece) (x : Piece) (ys : List Piece) (n : ℕ)
    → AllByRecursion (λ q. place q ≢ x.place) (xs ++ ys)
    → taken_from x.place n (xs ++ x ∷ ys) ≡ xs ++ (range_piece (x.place + n) (piece_end x) ++ ys)
taken-between [] x ys n apart =
    let hit = eq-eqb x.place x.place refl in
    flat_map-cons (left_of x.place n) x ys
    ∙ ap (λ (b : Bool). (if b then range_piece (x.place + n) (piece_end x) else x ∷ []) ++ taken_from x.place n ys) hit
    ∙ ap (λ (qs : List Piece). range_piece (x.place + n) (piece_end x) ++ qs) (taken-apart x.place n ys apart)
taken-between (z ∷ xs) x ys n apart =
    let miss = ne_eqb z.place x.place apart.0 in
    flat_map-cons (left_of x.place n) z (xs ++ x ∷ ys)
    ∙ ap (λ (b : Bool). (if b then range_piece (z.place + n) (piece_end z) else z ∷ [])
    ++ taken_from x.place n (xs ++ x ∷ ys)) miss
    ∙ ap (λ (qs : List Piece). z ∷ qs) (taken-between xs x ys n apart.1)

-- the piece that is counted up to
pub record Spot (ps : List Piece) (x : Piece) : Type 0 where
  pub in_range : lower_count x.place ps < length ps
  pub whole : taken_from x.place x.size ps ≡ remove ps (lower_count x.place ps)
  pub part : (n : ℕ) (y : Piece) → n < x.size → y ≡ record { place = x.place + n; size = piece_end x - (x.place + n) }
      → taken_from x.place n ps ≡ set ps (lower_count x.place ps) y
  pub is : (d : Piece) → get_or ps (lower_count x.place ps) d ≡ x

spot-first : (ps : List Piece) (x : Piece) → IsRisingBy place (x ∷ ps) → Spot (x ∷ ps) x
spot-first ps x rise =
    let here = le-ltb x.place x.place (omega arith) in
    let apart = all_imply (λ (q : Piece). x.place < place q) (λ (q : Piece). place q ≢ x.place) ps
    (λ q l same. omega arith) rise.0 in
    let empty = le-ltb (piece_end x) (piece_end x) (omega arith) in
    record {
      in_range = rw here (omega arith);
      whole = rw here (taken-between [] x ps x.size apart
          ∙ ap (λ (b : Bool). (if b then record { place = x.place + x.size; size = piece_end x - (x.place + x.size) }
          ∷ [] else []) ++ ps) empty);
      part = λ n y l e.
          let some = lt-ltb (x.place + n) (piece_end x) (omega arith) in
          rw here (taken-between [] x ps n apart
          ∙ ap (λ (b : Bool). (if b then record { place = x.place + n; size = piece_end x - (x.place + n) }
          ∷ [] else []) ++ ps) some
          ∙ ap (λ (z : Piece). z ∷ ps) (sym e));
      is = λ d. rw here refl;
    }

spot-later : (p : Piece) (ps : List Piece) (x : Piece) → p.place < x.place → Spot ps x → Spot (p ∷ ps) x
spot-later p ps x low s =
    let here = lt-ltb p.place x.place low in
    let miss = ne_eqb p.place x.place (λ same. omega arith) in
    let count : 1 + lower_count x.place ps ≡ suc (lower_count x.place ps) = omega arith in
    let in_range = s.in_range in
    let step : (n : ℕ) → taken_from x.place n (p ∷ ps) ≡ p ∷ taken_from x.place n ps =
    λ n. flat_map-cons (left_of x.place n) p ps
    ∙ ap (λ (b : Bool). (if b then range_piece (p.place + n) (piece_end p) else p ∷ []) ++ taken_from x.place n ps)
    miss in
    record {
      in_range = rw here (omega arith);
      whole = rw (here, count) (step x.size ∙ ap (λ (qs : List Piece). p ∷ qs) s.whole);
      part = λ n y l e. rw (here, count) (step n ∙ ap (λ (qs : List Piece). p ∷ qs) (s.part n y l e));
      is = λ d. rw (here, count) (s.is d);
    }

pub spot : (ps : List Piece) (x : Piece) → IsRisingBy place ps → IsIn x ps → Spot ps x
spot [] x rise i = elim i [ ]
spot (p ∷ ps) x rise i = elim (in_cons i) [
  | inl same ↦ subst (Spot (p ∷ ps)) (sym same) (spot-first ps p rise)
  | inr j ↦ spot-later p ps x (all_at (λ (q : Piece). p.place < place q) j rise.0) (spot ps x rise.1 j)
]

-- ---- tests

module _ (test : Piece → Bool) where
  all_filter : (P : Piece → Type 0) (ps : List Piece) → AllByRecursion P ps → AllByRecursion P (filter test ps)
  all_filter P [] all = tt
  all_filter P (p ∷ ps) all = go (test p) (all_filter P ps all.1)
    where
      go : (b : Bool) → AllByRecursion P (filter test ps)
          → AllByRecursion P (if b then p ∷ filter test ps else filter test ps)
      go true rest = (all.0, rest)
      go false rest = rest

  put_first : (x : Piece) (ys : List Piece) → AllByRecursion (λ y. x.place ≤ place y) ys → insert_by place x ys ≡ x ∷ ys
  put_first x [] all = refl
  put_first x (y ∷ ys) all = let at = le-leb x.place y.place all.0 in rw at refl

  -- a piece that passes a test is put among those that pass it
  pub filter-put : (x : Piece) (ys : List Piece) → IsSortedBy place ys → test x ≡ true
      → filter test (insert_by place x ys) ≡ insert_by place x (filter test ys)
  filter-put x [] sorted passes = rw passes refl
  filter-put x (y ∷ ys) sorted passes = go (nat_le x.place y.place) refl (filter-put x ys sorted.1 passes)
    where
      behind : (b : Bool) → nat_le x.place y.place ≡ false → filter test (insert_by place x ys) ≡ insert_by place x
          (filter test ys)
          → (if b then y ∷ filter test (insert_by place x ys) else filter test (insert_by place x ys)) ≡ insert_by place
          x (if b then y ∷ filter test ys else filter test ys)
      behind true past ih = rw past (ap (λ (zs : List Piece). y ∷ zs) ih)
      behind false past ih = ih

      go : (b : Bool) → nat_le x.place y.place ≡ b → filter test (insert_by place x ys) ≡ insert_by place x
          (filter test ys)
          → filter test (if b then x ∷ y ∷ ys else y ∷ insert_by place x ys) ≡ insert_by place x (filter test (y ∷ ys))
      go true e ih =
          let low = leb-true x.place y.place e in
          let all = all_filter (λ z. x.place ≤ place z) (y ∷ ys)
          (low, all_imply (λ z. y.place ≤ place z) (λ z. x.place ≤ place z) ys (λ z l. omega arith) sorted.0) in
          ap (λ (c : Bool). if c then x ∷ filter test (y ∷ ys) else filter test (y ∷ ys)) passes
          ∙ sym (put_first x (filter test (y ∷ ys)) all)
      go false e ih = behind (test y) e ih
