-- The tally of each type, with one item more, and the lines of all.
use Rattle.std.proofs.Common.{◌≡◌, ◌≢◌, ◌∙◌, ◌==◌, ℕ, zero, suc, ◌+◌, ◌<◌, Bool, true, false, List, [], ◌∷◌, ◌++◌}
use Rattle.std.proofs.Common.{length, get_or, set, length-set, filter, ap, ap₂, arith, append-nil, append_assoc, refl}
use Rattle.std.proofs.Common.{subst, sym}
use Rattle.std.proofs.lemmas.Bool.{cond-false, eqb-false, eqb-true, ne_eqb}
use Rattle.std.proofs.lemmas.List.{get_or-set_other, get_or-set_same}
use Rattle.std.specs.Prelude.{decimal}
use Rattle.clr_nums.specs.Numbers.{hex16}
use Rattle.clr_types.specs.Types.{mt_of, name_of, TypeRow}
use Rattle.clr_types.specs.declared.item.Item.{Item}
use Rattle.clr_model.specs.declared.Mode.TheVariants.{Stat}
use Rattle.clr_model.specs.Sos.{dump_by_mode, line, stat_line, stat_lines}
use Rattle.clr_sos.specs.Dumping.{AreTallies, AreTalliesWithin, IsTallyWithin, no_tally, of_type, tallied, tally_line}
use Rattle.clr_sos.specs.Dumping.{tally_of, totals_line, totals_of}
use Rattle.clr_sos.specs.declared.listing_counts.Tally.{Tally}
use Rattle.clr_sos.specs.declared.listing_lines.Totals.{Totals}
use Rattle.clr_sos.proofs.ListedItems.{bytes-more, filter-no, filter-yes, length-more}

tallied-push : (xs : List Item) (i : Item) → tallied (tally_of xs) i ≡ tally_of (xs ++ i ∷ [])
tallied-push xs i = λ k. record { count = sym (length-more xs i) k; bytes = sym (bytes-more xs i) k }

-- what the tallies are with one item more
abbrev pub with_item : List Tally → Item → List Tally
with_item tallies i = set tallies i.type_id.0 (tallied (get_or tallies i.type_id.0 no_tally) i)

with_item-length : (tallies : List Tally) (i : Item) → length (with_item tallies i) ≡ length tallies
with_item-length tallies i = length-set tallies i.type_id.0 (tallied (get_or tallies i.type_id.0 no_tally) i)

more-tallies : (tallies : List Tally) (xs : List Item) (i : Item) → i.type_id.0 < length tallies
    → AreTallies tallies xs → AreTallies (with_item tallies i) (xs ++ i ∷ [])
more-tallies tallies xs i known all = λ type l. go type (i.type_id.0 == type) refl
    (all type (let same = with_item-length tallies i in omega arith))
  where
    go : (type : ℕ) (b : Bool) → (i.type_id.0 == type) ≡ b → get_or tallies type no_tally ≡ tally_of (of_type type xs)
        → get_or (with_item tallies i) type no_tally ≡ tally_of (of_type type (xs ++ i ∷ []))
    go type true e old =
        let same = eqb-true i.type_id.0 type e in
        ap (λ (n : ℕ). get_or (with_item tallies i) n no_tally) (sym same)
        ∙ get_or-set_same tallies i.type_id.0 (tallied (get_or tallies i.type_id.0 no_tally) i) no_tally known
        ∙ ap (λ (n : ℕ). tallied (get_or tallies n no_tally) i) same
        ∙ ap (λ (t : Tally). tallied t i) old ∙ tallied-push (of_type type xs) i
        ∙ ap tally_of (sym (filter-yes (λ j. j.type_id.0 == type) xs i e))
    go type false e old =
        let other : type ≢ i.type_id.0 = λ same. eqb-false i.type_id.0 type e (sym same) in
        get_or-set_other tallies i.type_id.0 type (tallied (get_or tallies i.type_id.0 no_tally) i) no_tally other ∙ old
        ∙ ap tally_of (sym (filter-no (λ j. j.type_id.0 == type) xs i e))

pub length-counted : (tallies new : List Tally) (i : Item) (n : ℕ) → new ≡ with_item tallies i → length tallies ≡ n
    → length new ≡ n
length-counted tallies new i n is old = ap length is ∙ with_item-length tallies i ∙ old

-- the tallies of what a test passes
pub tallies-skip : (test : Item → Bool) (tallies : List Tally) (xs : List Item) (i : Item) → test i ≡ false
    → AreTallies tallies (filter test xs) → AreTallies tallies (filter test (xs ++ i ∷ []))
tallies-skip test tallies xs i fails old = subst (AreTallies tallies) (sym (filter-no test xs i fails)) old

pub tallies-more : (test : Item → Bool) (tallies new : List Tally) (xs : List Item) (i : Item)
    → i.type_id.0 < length tallies → test i ≡ true → new ≡ with_item tallies i
    → AreTallies tallies (filter test xs) → AreTallies new (filter test (xs ++ i ∷ []))
tallies-more test tallies new xs i known holds is old =
    subst (λ (ts : List Tally). AreTallies ts (filter test (xs ++ i ∷ []))) (sym is)
    (subst (AreTallies (with_item tallies i)) (sym (filter-yes test xs i holds))
    (more-tallies tallies (filter test xs) i known old))

pub tallies-all : (test : Item → Bool) (tallies : List Tally) (xs items : List Item) → xs ≡ items
    → AreTallies tallies (filter test xs) → AreTallies tallies (filter test items)
tallies-all test tallies xs items all old =
    subst (λ (is : List Item). AreTallies tallies (filter test is)) all old

-- ---- how much they are at most

pub tallies-within_more : (tallies : List Tally) (xs : List Item) (i : Item) → AreTalliesWithin tallies xs
    → AreTalliesWithin tallies (xs ++ i ∷ [])
tallies-within_more tallies xs i all = λ type l.
    let w = all type l in
    let count = w.count in
    let bytes = w.bytes in
    let long = length-more xs i in
    let sum = bytes-more xs i in
    record { count = omega arith; bytes = omega arith }

one-more : (t : Tally) (xs : List Item) (i : Item) → IsTallyWithin t xs → IsTallyWithin (tallied t i) (xs ++ i ∷ [])
one-more t xs i w =
    let count = w.count in
    let bytes = w.bytes in
    let long = length-more xs i in
    let sum = bytes-more xs i in
    record { count = omega arith; bytes = omega arith }

within-with_item : (tallies : List Tally) (xs : List Item) (i : Item) → i.type_id.0 < length tallies
    → AreTalliesWithin tallies xs → AreTalliesWithin (with_item tallies i) (xs ++ i ∷ [])
within-with_item tallies xs i known all = λ type l. go type (i.type_id.0 == type) refl
    (tallies-within_more tallies xs i all type (let same = with_item-length tallies i in omega arith))
  where
    go : (type : ℕ) (b : Bool) → (i.type_id.0 == type) ≡ b
        → IsTallyWithin (get_or tallies type no_tally) (xs ++ i ∷ [])
        → IsTallyWithin (get_or (with_item tallies i) type no_tally) (xs ++ i ∷ [])
    go type true e old =
        let same = eqb-true i.type_id.0 type e in
        subst (λ (t : Tally). IsTallyWithin t (xs ++ i ∷ []))
        (sym (ap (λ (n : ℕ). get_or (with_item tallies i) n no_tally) (sym same)
        ∙ get_or-set_same tallies i.type_id.0 (tallied (get_or tallies i.type_id.0 no_tally) i) no_tally known))
        (one-more (get_or tallies i.type_id.0 no_tally) xs i (all i.type_id.0 known))
    go type false e old =
        let other : type ≢ i.type_id.0 = λ same. eqb-false i.type_id.0 type e (sym same) in
        subst (λ (t : Tally). IsTallyWithin t (xs ++ i ∷ []))
        (sym (get_or-set_other tallies i.type_id.0 type
        (tallied (get_or tallies i.type_id.0 no_tally) i) no_tally other))
        old

pub tallies-within_counted : (tallies new : List Tally) (xs : List Item) (i : Item) → i.type_id.0 < length tallies
    → new ≡ with_item tallies i → AreTalliesWithin tallies xs → AreTalliesWithin new (xs ++ i ∷ [])
tallies-within_counted tallies new xs i known is all =
    subst (λ (ts : List Tally). AreTalliesWithin ts (xs ++ i ∷ [])) (sym is) (within-with_item tallies xs i known all)

-- ---- the lines

-- the line of a type with an item
pub tally-line_some : (rows : List TypeRow) (type : ℕ) (t : Tally) → t.count ≢ 0
    → line (hex16 (mt_of type) ∷ decimal t.count ∷ decimal t.bytes ∷ name_of rows type ∷ []) ≡ tally_line rows type t
tally-line_some rows type t some =
    let text = line (hex16 (mt_of type) ∷ decimal t.count ∷ decimal t.bytes ∷ name_of rows type ∷ []) in
    sym (cond-false (t.count == 0) [] text (ne_eqb t.count 0 some))

stat-tally : (rows : List TypeRow) (shown : List Item) (type : ℕ)
    → stat_line rows shown type ≡ tally_line rows type (tally_of shown)
stat-tally rows [] type = refl
stat-tally rows (i ∷ shown) type =
    let some : (length (i ∷ shown) == 0) ≡ false = ne_eqb (length (i ∷ shown)) 0 (λ none. omega arith) in
    sym (cond-false (length (i ∷ shown) == 0) [] (stat_line rows (i ∷ shown) type) some)

lines-more : (n type : ℕ) (rows : List TypeRow) (shown : List Item)
    → stat_lines (n + 1) type rows shown
    ≡ stat_lines n type rows shown ++ stat_line rows (of_type (type + n) shown) (type + n)
lines-more zero type rows shown =
    let same : type ≡ type + 0 = omega arith in
    append-nil (stat_line rows (of_type type shown) type)
    ∙ ap (λ (t : ℕ). stat_line rows (of_type t shown) t) same
lines-more (suc n) type rows shown =
    let same : type + 1 + n ≡ type + suc n = omega arith in
    let count : suc n + 1 ≡ suc (n + 1) = omega arith in
    ap (λ (k : ℕ). stat_lines k type rows shown) count
    ∙ ap (λ rest. stat_line rows (of_type type shown) type ++ rest)
    (lines-more n (type + 1) rows shown
    ∙ ap (λ (t : ℕ). stat_lines n (type + 1) rows shown ++ stat_line rows (of_type t shown) t) same)
    ∙ sym (append_assoc (stat_line rows (of_type type shown) type) (stat_lines n (type + 1) rows shown)
    (stat_line rows (of_type (type + suc n) shown) (type + suc n)))

-- the lines of the types up to one, and the line of the next
pub tally-lines_more : (rows : List TypeRow) (shown : List Item) (tallies : List Tally) (type : ℕ)
    (before text new : List ℕ) → AreTallies tallies shown → type < length tallies
    → text ≡ before ++ stat_lines type 0 rows shown → new ≡ text ++ tally_line rows type (get_or tallies type no_tally)
    → new ≡ before ++ stat_lines (type + 1) 0 rows shown
tally-lines_more rows shown tallies type before text new all l old put =
    let line : tally_line rows type (get_or tallies type no_tally) ≡ stat_line rows (of_type type shown) type =
    ap (tally_line rows type) (all type l) ∙ sym (stat-tally rows (of_type type shown) type) in
    let same : type ≡ 0 + type = omega arith in
    put ∙ ap₂ (λ (front back : List ℕ). front ++ back) old line
    ∙ append_assoc before (stat_lines type 0 rows shown) (stat_line rows (of_type type shown) type)
    ∙ ap (λ (t : ℕ). before ++ (stat_lines type 0 rows shown ++ stat_line rows (of_type t shown) t)) same
    ∙ ap (λ back. before ++ back) (sym (lines-more type 0 rows shown))

-- the lines of all types, and the line of the totals
pub stat-text : (rows : List TypeRow) (shown : List Item) (before text new : List ℕ) (t : Totals)
    → text ≡ before ++ stat_lines (length rows + 1) 0 rows shown → t ≡ totals_of shown → new ≡ text ++ totals_line t
    → new ≡ before ++ dump_by_mode Stat rows shown
stat-text rows shown before text new t lines totals put =
    put ∙ ap₂ (λ (front : List ℕ) (u : Totals). front ++ totals_line u) lines totals
    ∙ append_assoc before (stat_lines (length rows + 1) 0 rows shown) (totals_line (totals_of shown))
