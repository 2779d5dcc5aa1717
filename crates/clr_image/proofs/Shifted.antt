-- What was read of bytes is read again of others where the same bytes stand 16 further on, and more may follow.
use Rattle.std.proofs.Common.{◌≡◌, ℕ, suc, zero, ◌≤◌, ◌+◌, Bool, true, false, ◌&&◌}
use Rattle.std.proofs.Common.{List, [], ◌++◌, length, take, drop, refl, arith, ap, sym, ◌∙◌, Option, Some, None}
use Rattle.std.proofs.Common.{nat_le, le-leb, cond, length-drop, position}
use Rattle.std.proofs.lemmas.Bool.Decides.{nat_tests}
use Rattle.std.proofs.lemmas.List.{take-append-le}
use Rattle.byteorder.specs.Endian.{little_from}
use Rattle.byteorder.specs.Numbers.{little_from-append}
use Rattle.clr_types.specs.Types.{TypeRow}
use Rattle.clr_fields.specs.Fields.{fault, field, field_of, Fields, found, Found, found_then, gives, is_from_to}
use Rattle.clr_fields.specs.Fields.{is_up_to}
use Rattle.clr_fields.specs.Fields.{text, times, word_at, ◌>>=◌}
use Rattle.clr_fields.specs.TypeFields.{is_final_mark, is_new_name, is_no_slot, is_pattern_length, pattern_field}
use Rattle.clr_fields.specs.TypeFields.{pattern_of}
use Rattle.clr_fields.specs.TypeFields.{type_fields, types_fields}

-- the same bytes from 16 on, 16 further on, and others behind them
pub record Shifted (bytes others more : List ℕ) : Type 0 where
  pub at : (o : ℕ) → 16 ≤ o → o ≤ length bytes → drop (o + 16) others ≡ drop o bytes ++ more
  pub size : length others ≡ length bytes + 16 + length more

-- a field that was read ends behind its first byte
abbrev pub Grows : {A : Type 0} → Fields A → Type 0
Grows {A = A} fields = (bytes : List ℕ) (o n : ℕ) (x : A) → fields bytes o ≡ found x n → o ≤ n

-- what the first reads, the second reads 16 further on
abbrev pub Again : {A : Type 0} → Fields A → Fields A → Type 0
Again {A = A} first second = (bytes others more : List ℕ) (o n : ℕ) (x : A) → Shifted bytes others more → 16 ≤ o
    → n ≤ length bytes → first bytes o ≡ found x n → second others (o + 16) ≡ found x (n + 16)

-- ---- words

pub record FieldFound (lawful : ℕ → Bool) (o : ℕ) (w : Option ℕ) (x n : ℕ) : Type 0 where
  pub word : w ≡ Some x
  pub good : lawful x ≡ true
  pub next : n ≡ o + 8

pub field_found : (lawful : ℕ → Bool) (o : ℕ) (w : Option ℕ) (x n : ℕ) → field_of lawful o w ≡ found x n
    → FieldFound lawful o w x n
field_found lawful o None x n e = absurd cc
field_found lawful o (Some w) x n e = go (lawful w) refl e
  where
    go : (t : Bool) → lawful w ≡ t → cond t (found w (o + 8)) (fault o) ≡ found x n → FieldFound lawful o (Some w) x n
    go true good e =
        let same : w ≡ x = cc in
        let next : o + 8 ≡ n = cc in
        record { word = ap (λ v. Some v) same; good = ap lawful (sym same) ∙ good; next = sym next }
    go false good e = absurd cc

-- a word that is there
pub word_again : (bytes others more : List ℕ) (o w : ℕ) → Shifted bytes others more → 16 ≤ o → word_at bytes o ≡ Some w
    → word_at others (o + 16) ≡ Some w
unfolding word_at
word_again bytes others more o w shifted low e = go (nat_le (o + 8) (length bytes)) refl e
  where
    go : (t : Bool) → nat_le (o + 8) (length bytes) ≡ t → cond t (Some (little_from 0 8 (drop o bytes))) None ≡ Some w
        → cond (nat_le (o + 16 + 8) (length others)) (Some (little_from 0 8 (drop (o + 16) others))) None ≡ Some w
    go true there e =
        let fits : o + 8 ≤ length bytes = grind (arith, nat_tests) in
        let size = shifted.size in
        let still : nat_le (o + 16 + 8) (length others) ≡ true = le-leb (o + 16 + 8) (length others) (omega arith) in
        let left = length-drop o bytes in
        let same : little_from 0 8 (drop (o + 16) others) ≡ little_from 0 8 (drop o bytes) =
        ap (little_from 0 8) (shifted.at o low (omega arith))
        ∙ little_from-append 8 (drop o bytes) more (omega arith) in
        rw (still, same) e
    go false there e = absurd cc

pub field_again : (lawful : ℕ → Bool) → Again (field lawful) (field lawful)
field_again lawful bytes others more o n x shifted low most e =
    let f = field_found lawful o (word_at bytes o) x n e in
    let word = word_again bytes others more o x shifted low f.word in
    let good = f.good in
    let next = f.next in
    let behind : o + 16 + 8 ≡ n + 16 = omega arith in
    ap (field_of lawful (o + 16)) word ∙ rw good (ap (found x) behind)

pub field_grows : (lawful : ℕ → Bool) → Grows (field lawful)
field_grows lawful bytes o n x e =
    let f = field_found lawful o (word_at bytes o) x n e in let next = f.next in omega arith

-- ---- texts

pub record TextFound (n : ℕ) (lawful : List ℕ → Bool) (bytes : List ℕ) (o : ℕ) (x : List ℕ) (next : ℕ) : Type 0 where
  pub there : o + n ≤ length bytes
  pub value : take n (drop o bytes) ≡ x
  pub good : lawful x ≡ true
  pub behind : next ≡ o + n

pub text_found : (n : ℕ) (lawful : List ℕ → Bool) (bytes : List ℕ) (o : ℕ) (x : List ℕ) (next : ℕ)
    → text n lawful bytes o ≡ found x next → TextFound n lawful bytes o x next
text_found n lawful bytes o x next e = go (nat_le (o + n) (length bytes)) (lawful (take n (drop o bytes))) refl refl e
  where
    go : (t u : Bool) → nat_le (o + n) (length bytes) ≡ t → lawful (take n (drop o bytes)) ≡ u
        → cond (t && u) (found (take n (drop o bytes)) (o + n)) (fault o) ≡ found x next
        → TextFound n lawful bytes o x next
    go true true a b e =
        let same : take n (drop o bytes) ≡ x = cc in
        let at : o + n ≡ next = cc in
        record { there = grind (arith, nat_tests); value = same; good = ap lawful (sym same) ∙ b; behind = sym at }
    go true false a b e = absurd cc
    go false u a b e = absurd cc

-- bytes that are there
pub bytes_again : (bytes others more : List ℕ) (o n : ℕ) → Shifted bytes others more → 16 ≤ o → o + n ≤ length bytes
    → take n (drop (o + 16) others) ≡ take n (drop o bytes)
bytes_again bytes others more o n shifted low fits =
    let left = length-drop o bytes in
    ap (take n) (shifted.at o low (omega arith)) ∙ take-append-le n (drop o bytes) more (omega arith)

pub text_again : (n : ℕ) (lawful : List ℕ → Bool) → Again (text n lawful) (text n lawful)
text_again n lawful bytes others more o next x shifted low most e =
    let f = text_found n lawful bytes o x next e in
    let there = f.there in
    let size = shifted.size in
    let still : nat_le (o + 16 + n) (length others) ≡ true = le-leb (o + 16 + n) (length others) (omega arith) in
    let same : take n (drop (o + 16) others) ≡ x = bytes_again bytes others more o n shifted low there ∙ f.value in
    let good = f.good in
    let behind = f.behind in
    let at : o + 16 + n ≡ next + 16 = omega arith in
    rw (still, same, good) (ap (found x) at)

pub text_grows : (n : ℕ) (lawful : List ℕ → Bool) → Grows (text n lawful)
text_grows n lawful bytes o next x e =
    let f = text_found n lawful bytes o x next e in let behind = f.behind in omega arith

record PatternFound (n : ℕ) (bytes : List ℕ) (o : ℕ) (x : List ℕ) (next : ℕ) : Type 0 where
  there : o + n ≤ length bytes
  value : take n (drop o bytes) ≡ x
  good : position is_no_slot x ≡ None
  behind : next ≡ o + n

pattern_found : (n : ℕ) (bytes : List ℕ) (o : ℕ) (x : List ℕ) (next : ℕ) → pattern_field n bytes o ≡ found x next
    → PatternFound n bytes o x next
pattern_found n bytes o x next e =
    go (nat_le (o + n) (length bytes)) (position is_no_slot (take n (drop o bytes))) refl refl e
  where
    go : (t : Bool) (p : Option ℕ) → nat_le (o + n) (length bytes) ≡ t → position is_no_slot (take n (drop o bytes)) ≡ p
        → cond t (pattern_of o (take n (drop o bytes)) (o + n) p) (fault o) ≡ found x next
        → PatternFound n bytes o x next
    go true None a b e =
        let same : take n (drop o bytes) ≡ x = cc in
        let at : o + n ≡ next = cc in
        record {
          there = grind (arith, nat_tests);
          value = same;
          good =
              ap (position is_no_slot) (sym same) ∙ b;
          behind = sym at;
        }
    go true (Some i) a b e = absurd cc
    go false p a b e = absurd cc

pub pattern_again : (n : ℕ) → Again (pattern_field n) (pattern_field n)
pattern_again n bytes others more o next x shifted low most e =
    let f = pattern_found n bytes o x next e in
    let there = f.there in
    let size = shifted.size in
    let still : nat_le (o + 16 + n) (length others) ≡ true = le-leb (o + 16 + n) (length others) (omega arith) in
    let same : take n (drop (o + 16) others) ≡ x = bytes_again bytes others more o n shifted low there ∙ f.value in
    let good = f.good in
    let behind = f.behind in
    let at : o + 16 + n ≡ next + 16 = omega arith in
    rw (still, same, good) (ap (found x) at)

pub pattern_grows : (n : ℕ) → Grows (pattern_field n)
pattern_grows n bytes o next x e = let f = pattern_found n bytes o x next e in let behind = f.behind in omega arith

-- ---- several fields

pub record BothFound {A B : Type 0} (first : Found A) (next : A → ℕ → Found B) (y : B) (n : ℕ) : Type 0 where
  pub x : A
  pub m : ℕ
  pub one : first ≡ found x m
  pub two : next x m ≡ found y n

pub both_found : {A B : Type 0} (bytes : List ℕ) (next : A → Fields B) (r : Found A) (y : B) (n : ℕ)
    → found_then bytes next r ≡ found y n → BothFound r (λ x m. next x bytes m) y n
both_found bytes next (fault o) y n e = absurd cc
both_found bytes next (found x m) y n e = record { x = x; m = m; one = refl; two = e }

pub gives_again : {A : Type 0} (y : A) → Again (gives y) (gives y)
gives_again y bytes others more o n x shifted low most e =
    let same : y ≡ x = cc in
    let at : o ≡ n = cc in
    rw same (ap (λ k. found x (k + 16)) at)

pub gives_grows : {A : Type 0} (y : A) → Grows (gives y)
gives_grows y bytes o n x e = let at : o ≡ n = cc in omega arith

pub then_grows : {A B : Type 0} (first : Fields A) (next : A → Fields B) → Grows first → ((x : A) → Grows (next x))
    → Grows (first >>= next)
then_grows first next g h bytes o n y e =
    let f = both_found bytes next (first bytes o) y n e in
    let low = g bytes o f.m f.x f.one in
    let high = h f.x bytes f.m n y f.two in
    omega arith

pub then_again : {A B : Type 0} (first second : Fields A) (next then : A → Fields B) → Again first second → Grows first
    → ((x : A) → Again (next x) (then x)) → ((x : A) → Grows (next x)) → Again (first >>= next) (second >>= then)
then_again first second next then again grows later goes bytes others more o n y shifted low most e =
    let f = both_found bytes next (first bytes o) y n e in
    let start = grows bytes o f.m f.x f.one in
    let end = goes f.x bytes f.m n y f.two in
    let one = again bytes others more o f.m f.x shifted low (omega arith) f.one in
    let two = later f.x bytes others more f.m n y shifted (omega arith) most f.two in
    ap (found_then others then) one ∙ two

pub times_grows : {S : Type 0} (n : ℕ) (step : S → Fields S) (s : S) → ((x : S) → Grows (step x))
    → Grows (times n step s)
unfolding times
times_grows zero step s grows = gives_grows s
times_grows (suc n) step s grows = then_grows (step s) (times n step) (grows s) (λ x. times_grows n step x grows)

pub times_again : {S : Type 0} (n : ℕ) (step then : S → Fields S) (s : S) → ((x : S) → Again (step x) (then x))
    → ((x : S) → Grows (step x)) → Again (times n step s) (times n then s)
unfolding times
times_again zero step then s again grows = gives_again s
times_again (suc n) step then s again grows =
    then_again (step s) (then s) (times n step) (times n then) (again s) (grows s)
    (λ x. times_again n step then x again grows) (λ x. times_grows n step x grows)

-- ---- fields that are read alike in both

pub record IsSteady {A : Type 0} (fields : Fields A) : Type 0 where
  pub again : Again fields fields
  pub grows : Grows fields

pub steady_field : (lawful : ℕ → Bool) → IsSteady (field lawful)
steady_field lawful = record { again = field_again lawful; grows = field_grows lawful }

pub steady_text : (n : ℕ) (lawful : List ℕ → Bool) → IsSteady (text n lawful)
steady_text n lawful = record { again = text_again n lawful; grows = text_grows n lawful }

pub steady_pattern : (n : ℕ) → IsSteady (pattern_field n)
steady_pattern n = record { again = pattern_again n; grows = pattern_grows n }

pub steady_gives : {A : Type 0} (y : A) → IsSteady (gives y)
steady_gives y = record { again = gives_again y; grows = gives_grows y }

pub steady_then : {A B : Type 0} (first : Fields A) (next : A → Fields B) → IsSteady first
    → ((x : A) → IsSteady (next x)) → IsSteady (first >>= next)
steady_then {A = A} first next one two = record {
  again = then_again first first next next one.again one.grows (λ (x : A). (two x).again) (λ (x : A). (two x).grows);
  grows = then_grows first next one.grows (λ (x : A). (two x).grows);
}

pub steady_times : {S : Type 0} (n : ℕ) (step : S → Fields S) (s : S) → ((x : S) → IsSteady (step x))
    → IsSteady (times n step s)
steady_times {S = S} n step s each = record {
  again = times_again n step step s (λ (x : S). (each x).again) (λ (x : S). (each x).grows);
  grows = times_grows n step s (λ (x : S). (each x).grows);
}

-- ---- types

steady_type : (rows : List TypeRow) → IsSteady (type_fields rows)
unfolding type_fields
steady_type rows =
    steady_then (field (is_from_to 1 128)) _ (steady_field (is_from_to 1 128)) (λ n.
    steady_then (text n (is_new_name rows)) _ (steady_text n (is_new_name rows)) (λ name.
    steady_then (field (is_up_to 3)) _ (steady_field (is_up_to 3)) (λ shape.
    steady_then (field (is_final_mark shape)) _ (steady_field (is_final_mark shape)) (λ final.
    steady_then (field (is_pattern_length shape)) _ (steady_field (is_pattern_length shape)) (λ len.
    steady_then (pattern_field len) _ (steady_pattern len) (λ pattern. steady_gives _))))))

pub steady_types : IsSteady types_fields
unfolding types_fields
steady_types =
    steady_then (field (is_up_to 1000)) (λ n. times n type_fields []) (steady_field (is_up_to 1000))
    (λ n. steady_times n type_fields [] steady_type)
