-- Rows of stretches: the one in which a piece belongs, and what its change does to the list of all pieces.
use Rattle.std.proofs.Common.{◌≡◌, ◌≢◌, inl, inr, ℕ, zero, suc, ◌+◌, ◌<◌, ◌≤◌, List, [], ◌∷◌, ◌++◌}
use Rattle.std.proofs.Common.{length, refl, ap, ap₂, sym, ◌∙◌, subst, arith, take, drop, get_or, set, append-nil}
use Rattle.std.proofs.Common.{◌==◌, false, find, length-drop, length-set, nat_lt, None, Option, Some, true, true≢false}
use Rattle.std.specs.Option.{option_or}
use Rattle.std.specs.Prelude.{is_some}
use Rattle.std.specs.List.{AllByRecursion, insert, remove}
use Rattle.std.proofs.lemmas.Bool.{cases_lt, eqb-true, le-leb, lt-leb, lt-ltb, ltb-false, ltb-true}
use Rattle.std.proofs.lemmas.List.{append_assoc, at_drop_more, get_or_default, get_or_read, length-take-le}
use Rattle.std.proofs.lemmas.List.{take-append-drop}
use Rattle.std.proofs.lemmas.List.Folds.{find-append}
use Rattle.std.proofs.lemmas.List.Concat.{flat_map-append}
use Rattle.clr_types.specs.Rising.{first, insert_by, IsIn, IsRisingBy}
use Rattle.clr_types.specs.Ranges.{fits, Piece}
use Rattle.clr_types.proofs.ChangedLists.{all_imply}
use Rattle.clr_types.proofs.ListMembers.{append_right, in_append}
use Rattle.clr_types.proofs.ChangedLists.{append_left}
use Rattle.clr_types.proofs.RisingLists.{all_at}
use Rattle.clr_model.specs.Allocation.{taken_from}
use Rattle.clr_items.specs.Items.{lower_count}
use Rattle.clr_items.specs.Stretches.{all_of, AreFilled, IsHome}
use Rattle.clr_items.proofs.Lists.{left_of, not_counted, place, taken-apart}

abbrev pub IsBelow : ℕ → List Piece → Type 0
IsBelow at ps = AllByRecursion (λ (p : Piece). p.place < at) ps

-- how many stand below a place, where both were read
pub count-read : (ps now : List Piece) (at read count : ℕ) → count ≡ lower_count read now → read ≡ at → now ≡ ps
    → count ≡ lower_count at ps
count-read ps now at read count is same slice =
    is ∙ ap (λ (n : ℕ). lower_count n now) same ∙ ap (λ (qs : List Piece). lower_count at qs) slice

-- the stretch in which a place is, where both were read
pub home-read : (row now : List (List Piece)) (k at read : ℕ) → IsHome read now k → read ≡ at → now ≡ row
    → IsHome at row k
home-read row now k at read home same slice =
    subst (λ (n : ℕ). IsHome n row k) same (subst (λ (ss : List (List Piece)). IsHome read ss k) slice home)

-- ---- parts of a list that rises

all-left : (P : Piece → Type 0) (xs ys : List Piece) → AllByRecursion P (xs ++ ys) → AllByRecursion P xs
all-left P [] ys all = tt
all-left P (x ∷ xs) ys all = (all.0, all-left P xs ys all.1)

all-right : (P : Piece → Type 0) (xs ys : List Piece) → AllByRecursion P (xs ++ ys) → AllByRecursion P ys
all-right P [] ys all = all
all-right P (x ∷ xs) ys all = all-right P xs ys all.1

rise-left : (xs ys : List Piece) → IsRisingBy place (xs ++ ys) → IsRisingBy place xs
rise-left [] ys rise = tt
rise-left (x ∷ xs) ys rise = (all-left (λ y. x.place < place y) xs ys rise.0, rise-left xs ys rise.1)

rise-right : (xs ys : List Piece) → IsRisingBy place (xs ++ ys) → IsRisingBy place ys
rise-right [] ys rise = rise
rise-right (x ∷ xs) ys rise = rise-right xs ys rise.1

pub rise-at : (ss : List (List Piece)) (k : ℕ) (d : List Piece) → k < length ss → IsRisingBy place (all_of ss)
    → IsRisingBy place (get_or ss k d)
rise-at [] k d l rise = absurd (omega (arith, l))
rise-at (s ∷ ss) zero d l rise = rise-left s (all_of ss) rise
rise-at (s ∷ ss) (suc k) d l rise = rise-at ss k d (omega (arith, l)) (rise-right s (all_of ss) rise)

-- where the last piece stands below a place, all do
pub last-below : (ps : List Piece) (k at : ℕ) (d : Piece) → k + 1 ≡ length ps → IsRisingBy place ps
    → (get_or ps k d).place < at → IsBelow at ps
last-below [] k at d l rise low = tt
last-below (p ∷ []) zero at d l rise low = (low, tt)
last-below (p ∷ q ∷ ps) zero at d l rise low = absurd (omega (arith, l))
last-below (p ∷ []) (suc k) at d l rise low = absurd (omega (arith, l))
last-below (p ∷ q ∷ ps) (suc k) at d l rise low =
    let rest = last-below (q ∷ ps) k at d (omega (arith, l)) rise.1 low in
    let next = rise.0.0 in
    let top = rest.0 in
    (omega (arith, next, top), rest)

-- so the last piece of a stretch tells it
pub last-low : (ps qs : List Piece) (k at m : ℕ) (y : Piece) → ps ≡ qs → k + 1 ≡ length ps → y ≡ get_or ps k y
    → m ≡ y.place → IsRisingBy place qs → nat_lt m at ≡ true → IsBelow at qs
last-low ps qs k at m y is l got read rise passes =
    let low = ltb-true m at passes in
    let own = ap place got in
    subst (IsBelow at) is
    (last-below ps k at y l (subst (IsRisingBy place) (sym is) rise) (omega (arith, low, own, read)))

pub last-high : (ps qs : List Piece) (k at m : ℕ) (y : Piece) → ps ≡ qs → k + 1 ≡ length ps → y ≡ get_or ps k y
    → m ≡ y.place → nat_lt m at ≡ false → lower_count at qs < length qs
last-high ps qs k at m y is l got read fails =
    let high = ltb-false m at fails in
    let own = ap place got in
    let most = not_counted ps k at y (omega (arith, high, own, read)) in
    subst (λ (xs : List Piece). lower_count at xs < length xs) is (omega (arith, l, most))

-- what stands before a piece below a place is below it, too
before-below : (xs ys : List Piece) (y : Piece) (at : ℕ) → IsRisingBy place (xs ++ ys) → IsIn y ys → y.place < at
    → IsBelow at xs
before-below [] ys y at rise i low = tt
before-below (x ∷ xs) ys y at rise i low =
    let next = all_at (λ (z : Piece). x.place < place z) (append_right xs i) rise.0 in
    (omega (arith, next, low), before-below xs ys y at rise.1 i low)

count-next : (y : Piece) (xs : List Piece) (at : ℕ) → y.place < at
    → lower_count at (y ∷ xs) ≡ lower_count at xs + 1
count-next y xs at low = let here = lt-ltb y.place at low in rw here (omega arith)

-- what stands behind a piece that isn't below a place is above it
beyond : (xs ys : List Piece) (at : ℕ) → IsRisingBy place (xs ++ ys) → lower_count at xs < length xs
    → AllByRecursion (λ (y : Piece). at < y.place) ys
beyond [] ys at rise l = absurd (omega (arith, l))
beyond (x ∷ xs) ys at rise l = elim (cases_lt x.place at) [
  | inl low ↦ let next = count-next x xs at low in beyond xs ys at rise.1 (omega (arith, l, next))
  | inr high ↦
      all_imply (λ (y : Piece). x.place < place y) (λ (y : Piece). at < y.place) ys
      (λ y more. omega (arith, high, more)) (all-right (λ (y : Piece). x.place < place y) xs ys rise.0)
]

-- ---- the stretch in which a place is

-- none of the stretches has a piece from the place on
abbrev pub AreBelow : ℕ → List (List Piece) → Type 0
AreBelow at ss = AllByRecursion (λ (s : List Piece). IsBelow at s) ss

in-row : (ss : List (List Piece)) (k : ℕ) (d : List Piece) (y : Piece) → k < length ss → IsIn y (get_or ss k d)
    → IsIn y (all_of ss)
in-row [] k d y l i = absurd (omega (arith, l))
in-row (s ∷ ss) zero d y l i = append_left (all_of ss) i
in-row (s ∷ ss) (suc k) d y l i = append_right s (in-row ss k d y (omega (arith, l)) i)

below-before : (s : List Piece) (ss : List (List Piece)) (k at : ℕ) (d t : List Piece) → t ≡ get_or ss k d
    → IsRisingBy place (s ++ all_of ss) → k < length ss → 0 < length t → IsBelow at t → IsBelow at s
below-before s ss k at d [] is rise l some below = absurd (omega (arith, some))
below-before s ss k at d (y ∷ t) is rise l some below =
    before-below s (all_of ss) y at rise (in-row ss k d y l (subst (IsIn y) is first)) below.0

through : (ss : List (List Piece)) (k at : ℕ) (d : List Piece) → IsRisingBy place (all_of ss) → k < length ss
    → 0 < length (get_or ss k d) → IsBelow at (get_or ss k d) → AreBelow at (take (suc k) ss)
through [] k at d rise l some below = absurd (omega (arith, l))
through (s ∷ ss) zero at d rise l some below = (below, tt)
through (s ∷ ss) (suc k) at d rise l some below = (
  below-before s ss k at d (get_or ss k d) refl rise (omega (arith, l)) some below,
  through ss k at d (rise-right s (all_of ss) rise) (omega (arith, l)) some below,
)

-- where a stretch is below a place, those before it are
pub below-through : (ss : List (List Piece)) (k at : ℕ) (d : List Piece) → IsRisingBy place (all_of ss)
    → k < length ss → 0 < length (get_or ss k d) → IsBelow at (get_or ss k d) → AreBelow at (take (k + 1) ss)
below-through ss k at d rise l some below =
    let next : suc k ≡ k + 1 = omega arith in
    subst (λ (n : ℕ). AreBelow at (take n ss)) next (through ss k at d rise l some below)

pub home-made : (ss : List (List Piece)) (k at : ℕ) → k ≤ length ss → AreBelow at (take k ss)
    → (k < length ss → lower_count at (get_or ss k []) < length (get_or ss k [])) → IsHome at ss k
home-made [] k at l below reached = omega (arith, l)
home-made (s ∷ ss) zero at l below reached = reached (omega arith)
home-made (s ∷ ss) (suc k) at l below reached =
    (below.0, home-made ss k at (omega (arith, l)) below.1 (λ more. reached (omega (arith, more))))

-- ---- a piece is put in

past-put : (xs ys : List Piece) (x : Piece) → IsBelow x.place xs
    → insert_by place x (xs ++ ys) ≡ xs ++ insert_by place x ys
past-put [] ys x below = refl
past-put (z ∷ xs) ys x below =
    let past = lt-leb x.place z.place below.0 in
    rw past (ap (λ (zs : List Piece). z ∷ zs) (past-put xs ys x below.1))

within-put : (xs ys : List Piece) (x : Piece) → lower_count x.place xs < length xs
    → insert_by place x (xs ++ ys) ≡ insert_by place x xs ++ ys
within-put [] ys x l = absurd (omega (arith, l))
within-put (z ∷ xs) ys x l = elim (cases_lt z.place x.place) [
  | inl low ↦
      let next = count-next z xs x.place low in
      let past = lt-leb x.place z.place low in
      let rest = within-put xs ys x (omega (arith, l, next)) in
      rw past (ap (λ (zs : List Piece). z ∷ zs) rest)
  | inr high ↦ let here = le-leb x.place z.place high in rw here refl
]

pub home-put : (ss : List (List Piece)) (k : ℕ) (x : Piece) (d : List Piece) → k < length ss → IsHome x.place ss k
    → all_of (set ss k (insert_by place x (get_or ss k d))) ≡ insert_by place x (all_of ss)
home-put [] k x d l home = absurd (omega (arith, l))
home-put (s ∷ ss) zero x d l home = sym (within-put s (all_of ss) x home)
home-put (s ∷ ss) (suc k) x d l home =
    ap (λ (ps : List Piece). s ++ ps) (home-put ss k x d (omega (arith, l)) home.1)
    ∙ sym (past-put s (all_of ss) x home.0)

pub end-put : (ss : List (List Piece)) (k : ℕ) (x : Piece) → k ≡ length ss → IsHome x.place ss k
    → all_of ss ++ x ∷ [] ≡ insert_by place x (all_of ss)
end-put [] k x l home = refl
end-put (s ∷ ss) zero x l home = absurd (omega (arith, l))
end-put (s ∷ ss) (suc k) x l home =
    append_assoc s (all_of ss) (x ∷ [])
    ∙ ap (λ (ps : List Piece). s ++ ps) (end-put ss k x (omega (arith, l)) home.1)
    ∙ sym (past-put s (all_of ss) x home.0)

pub put-filled : (x : Piece) (ps : List Piece) → 0 < length (insert_by place x ps)
put-filled x [] = omega arith
put-filled x (p ∷ ps) = elim (cases_lt p.place x.place) [
  | inl low ↦ let past = lt-leb x.place p.place low in rw past (omega arith)
  | inr high ↦ let here = le-leb x.place p.place high in rw here (omega arith)
]

-- ---- a piece is taken from

-- the stretch in which a piece is
pub record IsTaken (ss : List (List Piece)) (k : ℕ) (x : Piece) : Type 0 where
  pub within : k < length ss
  pub listed : (d : List Piece) → IsIn x (get_or ss k d)
  pub taken : (n : ℕ) (d : List Piece)
      → all_of (set ss k (taken_from x.place n (get_or ss k d))) ≡ taken_from x.place n (all_of ss)

not-below : (x : Piece) (ps : List Piece) → IsBelow x.place ps → IsIn x ps → ⊥
not-below x ps below i = let l = all_at (λ (p : Piece). p.place < x.place) i below in omega (arith, l)

not-above : (x : Piece) (ps : List Piece) → AllByRecursion (λ (p : Piece). x.place < p.place) ps → IsIn x ps → ⊥
not-above x ps above i = let l = all_at (λ (p : Piece). x.place < p.place) i above in omega (arith, l)

below-apart : (at : ℕ) (ps : List Piece) → IsBelow at ps → AllByRecursion (λ (p : Piece). place p ≢ at) ps
below-apart at ps below =
    all_imply (λ (p : Piece). p.place < at) (λ (p : Piece). place p ≢ at) ps (λ p l same. omega (arith, l, same)) below

above-apart : (at : ℕ) (ps : List Piece) → AllByRecursion (λ (p : Piece). at < p.place) ps
    → AllByRecursion (λ (p : Piece). place p ≢ at) ps
above-apart at ps above =
    all_imply (λ (p : Piece). at < p.place) (λ (p : Piece). place p ≢ at) ps (λ p l same. omega (arith, l, same)) above

taken-first : (s : List Piece) (ss : List (List Piece)) (x : Piece) → lower_count x.place s < length s
    → IsRisingBy place (s ++ all_of ss) → IsIn x (s ++ all_of ss) → IsTaken (s ∷ ss) 0 x
taken-first s ss x home rise i =
    let above = beyond s (all_of ss) x.place rise home in
    record {
      within = omega arith;
      listed = λ d. elim (in_append s i) [ inl here ↦ here | inr more ↦ absurd (not-above x (all_of ss) above more) ];
      taken = λ n d.
          ap (λ (ps : List Piece). taken_from x.place n s ++ ps)
          (sym (taken-apart x.place n (all_of ss) (above-apart x.place (all_of ss) above)))
          ∙ sym (flat_map-append (left_of x.place n) s (all_of ss));
    }

taken-later : (s : List Piece) (ss : List (List Piece)) (k : ℕ) (x : Piece) → IsBelow x.place s → IsTaken ss k x
    → IsTaken (s ∷ ss) (suc k) x
taken-later s ss k x below t =
    let l = t.within in
    record {
      within = omega (arith, l);
      listed = λ d. t.listed d;
      taken = λ n d.
          ap (λ (ps : List Piece). s ++ ps) (t.taken n d)
          ∙ ap (λ (ps : List Piece). ps ++ taken_from x.place n (all_of ss))
          (sym (taken-apart x.place n s (below-apart x.place s below)))
          ∙ sym (flat_map-append (left_of x.place n) s (all_of ss));
    }

pub home-taken : (ss : List (List Piece)) (k : ℕ) (x : Piece) → IsHome x.place ss k → IsRisingBy place (all_of ss)
    → IsIn x (all_of ss) → IsTaken ss k x
home-taken [] k x home rise i = elim i [ ]
home-taken (s ∷ ss) zero x home rise i = taken-first s ss x home rise i
home-taken (s ∷ ss) (suc k) x home rise i = taken-later s ss k x home.0
    (home-taken ss k x home.1 (rise-right s (all_of ss) rise) (elim (in_append s i) [
      | inl here ↦ absurd (not-below x s home.0 here)
      | inr more ↦ more
    ]))

-- ---- stretches that grow, are split and go

pub all-append : (ss ts : List (List Piece)) → all_of (ss ++ ts) ≡ all_of ss ++ all_of ts
all-append [] ts = refl
all-append (s ∷ ss) ts =
    ap (λ (ps : List Piece). s ++ ps) (all-append ss ts) ∙ sym (append_assoc s (all_of ss) (all_of ts))

pub grown-last : (ss : List (List Piece)) (k : ℕ) (d : List Piece) (x : Piece) → length ss ≡ k + 1
    → all_of (set ss k (get_or ss k d ++ x ∷ [])) ≡ all_of ss ++ x ∷ []
grown-last [] k d x l = absurd (omega (arith, l))
grown-last (s ∷ []) zero d x l =
    append-nil (s ++ x ∷ []) ∙ ap (λ (ps : List Piece). ps ++ x ∷ []) (sym (append-nil s))
grown-last (s ∷ t ∷ ss) zero d x l = absurd (omega (arith, l))
grown-last (s ∷ ss) (suc k) d x l =
    ap (λ (ps : List Piece). s ++ ps) (grown-last ss k d x (omega (arith, l)))
    ∙ sym (append_assoc s (all_of ss) (x ∷ []))

pub filled-at : (ss : List (List Piece)) (k : ℕ) (d : List Piece) → k < length ss → AreFilled ss
    → 0 < length (get_or ss k d)
filled-at [] k d l filled = absurd (omega (arith, l))
filled-at (s ∷ ss) zero d l filled = filled.0
filled-at (s ∷ ss) (suc k) d l filled = filled-at ss k d (omega (arith, l)) filled.1

pub filled-set : (ss : List (List Piece)) (k : ℕ) (t : List Piece) → 0 < length t → AreFilled ss
    → AreFilled (set ss k t)
filled-set [] k t some filled = filled
filled-set (s ∷ ss) zero t some filled = (some, filled.1)
filled-set (s ∷ ss) (suc k) t some filled = (filled.0, filled-set ss k t some filled.1)

pub filled-append : (ss ts : List (List Piece)) → AreFilled ss → AreFilled ts → AreFilled (ss ++ ts)
filled-append [] ts filled more = more
filled-append (s ∷ ss) ts filled more = (filled.0, filled-append ss ts filled.1 more)

-- a stretch that is empty goes
pub all-gone : (ss : List (List Piece)) (k : ℕ) → k < length ss → length (get_or ss k []) ≡ 0
    → all_of (remove ss k) ≡ all_of ss
all-gone [] k l none = absurd (omega (arith, l))
all-gone ([] ∷ ss) zero l none = refl
all-gone ((x ∷ s) ∷ ss) zero l none = absurd (omega (arith, none))
all-gone (s ∷ ss) (suc k) l none = ap (λ (ps : List Piece). s ++ ps) (all-gone ss k (omega (arith, l)) none)

pub filled-gone : (ss : List (List Piece)) (k : ℕ) (t : List Piece) → AreFilled ss → AreFilled (remove (set ss k t) k)
filled-gone [] zero t filled = tt
filled-gone [] (suc k) t filled = tt
filled-gone (s ∷ ss) zero t filled = filled.1
filled-gone (s ∷ ss) (suc k) t filled = (filled.0, filled-gone ss k t filled.1)

-- a stretch is split
pub all-split : (ss : List (List Piece)) (k n : ℕ) (d : List Piece) → k < length ss
    → all_of (set (insert ss (suc k) (drop n (get_or ss k d))) k (take n (get_or ss k d))) ≡ all_of ss
all-split [] k n d l = absurd (omega (arith, l))
all-split (s ∷ ss) zero n d l =
    sym (append_assoc (take n s) (drop n s) (all_of ss))
    ∙ ap (λ (ps : List Piece). ps ++ all_of ss) (take-append-drop n s)
all-split (s ∷ ss) (suc k) n d l = ap (λ (ps : List Piece). s ++ ps) (all-split ss k n d (omega (arith, l)))

pub filled-insert : (ss : List (List Piece)) (k : ℕ) (t : List Piece) → 0 < length t → AreFilled ss
    → AreFilled (insert ss k t)
filled-insert ss zero t some filled = (some, filled)
filled-insert [] (suc k) t some filled = (some, tt)
filled-insert (s ∷ ss) (suc k) t some filled = (filled.0, filled-insert ss k t some filled.1)

get-inserted : (ss : List (List Piece)) (k : ℕ) (u d : List Piece) → k < length ss
    → get_or (insert ss (suc k) u) k d ≡ get_or ss k d
get-inserted [] k u d l = absurd (omega (arith, l))
get-inserted (s ∷ ss) zero u d l = refl
get-inserted (s ∷ ss) (suc k) u d l = get-inserted ss k u d (omega (arith, l))

pub record IsSplit (ss new : List (List Piece)) : Type 0 where
  pub filled : AreFilled ss → AreFilled new
  pub items : all_of new ≡ all_of ss

-- where what is behind the first 128 pieces of a stretch was put behind it, and is cut off
pub split-row : (row now : List (List Piece)) (k : ℕ) (u s t v cut : List Piece) → k < length row
    → s ≡ get_or row k s → t ≡ get_or row k t → v ≡ get_or now k v → u ≡ drop 128 t → now ≡ insert row (k + 1) u
    → cut ≡ take 128 v → 256 < length s → IsSplit row (set now k cut)
split-row row now k u s t v cut l got-s got-t got-v upper new lower long =
    let own = get_or row k [] in
    let next : k + 1 ≡ suc k = omega arith in
    let up : u ≡ drop 128 own = upper ∙ ap (drop 128) (get_or_read row k t l got-t []) in
    let is : now ≡ insert row (suc k) u = new ∙ ap (λ (n : ℕ). insert row n u) next in
    let same : v ≡ own = got-v ∙ ap (λ (ss : List (List Piece)). get_or ss k v) is ∙ get-inserted row k u v l
    ∙ get_or_default row k v [] l in
    let low : cut ≡ take 128 own = lower ∙ ap (take 128) same in
    let more : length s ≡ length own = ap length (get_or_read row k s l got-s []) in
    let low-long = ap length low ∙ length-take-le 128 own (omega (arith, long, more)) in
    let up-long = ap length up ∙ length-drop 128 own in
    record {
      filled = λ filled. filled-set now k cut (omega (arith, low-long))
          (subst AreFilled (sym is) (filled-insert row (suc k) u (omega (arith, up-long, long, more)) filled));
      items = ap₂ (λ (ss : List (List Piece)) (x : List Piece). all_of (set ss k x))
          (is ∙ ap (insert row (suc k)) up) low
          ∙ all-split row k 128 [] l;
    }

-- a stretch that became empty goes
pub emptied : (ss : List (List Piece)) (k : ℕ) (t own : List Piece) → k < length ss → own ≡ get_or (set ss k t) k own
    → (length own == 0) ≡ true → all_of (remove (set ss k t) k) ≡ all_of (set ss k t)
emptied ss k t own l got none =
    let long = length-set ss k t in
    let same = get_or_read (set ss k t) k own (omega (arith, long, l)) got [] in
    let zero-long = eqb-true (length own) 0 none in
    all-gone (set ss k t) k (omega (arith, long, l)) (sym (ap length same) ∙ zero-long)

-- ---- what a search finds

module _ (size : ℕ) (ss : List (List Piece)) (i : ℕ) (s : List Piece) (o : Option Piece) (l : i < length ss)
    (got : s ≡ get_or ss i s) (is : o ≡ find (λ (p : Piece). fits size p.size) s) where
  found-next : find (λ (p : Piece). fits size p.size) (all_of (drop i ss))
      ≡ option_or o (find (λ (p : Piece). fits size p.size) (all_of (drop (i + 1) ss)))
  found-next =
      at_drop_more (λ (ts : List (List Piece)). find (λ (p : Piece). fits size p.size) (all_of ts)) ss i s l
      ∙ ap (λ (t : List Piece). find (λ (p : Piece). fits size p.size) (t ++ all_of (drop (i + 1) ss))) (sym got)
      ∙ find-append (λ (p : Piece). fits size p.size) s (all_of (drop (i + 1) ss))
      ∙ ap (λ (q : Option Piece). option_or q (find (λ (p : Piece). fits size p.size) (all_of (drop (i + 1) ss))))
      (sym is)

  pub found-first : is_some o ≡ true → find (λ (p : Piece). fits size p.size) (all_of (drop i ss)) ≡ o
  found-first some =
      found-next ∙ stays o some (find (λ (p : Piece). fits size p.size) (all_of (drop (i + 1) ss)))
    where
      stays : (q : Option Piece) → is_some q ≡ true → (r : Option Piece) → option_or q r ≡ q
      stays (Some p) yields r = refl
      stays None yields r = absurd (true≢false (sym yields))

  pub found-later : is_some o ≡ false → find (λ (p : Piece). fits size p.size) (all_of (drop (i + 1) ss))
      ≡ find (λ (p : Piece). fits size p.size) (all_of (drop i ss))
  found-later none =
      sym (found-next ∙ passes o none (find (λ (p : Piece). fits size p.size) (all_of (drop (i + 1) ss))))
    where
      passes : (q : Option Piece) → is_some q ≡ false → (r : Option Piece) → option_or q r ≡ r
      passes None fails r = refl
      passes (Some p) fails r = absurd (true≢false fails)
