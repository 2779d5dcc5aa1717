-- The second version of an image is an image, and says the same.
use Rattle.std.proofs.Common.{◌≡◌, ℕ, suc, zero, ◌≤◌, ◌+◌, ◌-◌, ◌*◌, ◌==◌, Bool, true, false}
use Rattle.std.proofs.Common.{List, [], ◌∷◌, ◌++◌, length, take, drop, map, refl, arith, ap, sym, ◌∙◌, subst, Option}
use Rattle.std.proofs.Common.{Some, None}
use Rattle.std.proofs.Common.{nat_le, le-leb, cond, if◌then◌else◌, codes, length-append, length-drop, append_assoc}
use Rattle.std.proofs.Common.{append-nil, replicate}
use Rattle.std.proofs.lemmas.Bool.Decides.{nat_tests}
use Rattle.std.proofs.lemmas.List.{drop_all, drop_at, drop-append-le, drop-drop, length-take-le}
use Rattle.std.specs.List.{AllByRecursion, list_all}
use Rattle.byteorder.specs.Endian.{little_from}
use Rattle.byteorder.specs.Numbers.{little_from-append, little_from-take}
use Rattle.clr_types.specs.Types.{TypeRow}
use Rattle.clr_types.specs.declared.item.Item.{Item}
use Rattle.clr_fields.specs.Fields.{fault, field, found, Found, found_then, gives, is_from_to, is_up_to, nothing_more}
use Rattle.clr_fields.specs.Fields.{text, word_at, ◌>>=◌}
use Rattle.clr_mem.specs.Words.{words_of}
use Rattle.clr_heap.specs.View.{HeapView}
use Rattle.clr_fields.specs.TypeFields.{types_fields}
use Rattle.clr_sos.specs.Faults.{is_name}
use Rattle.clr_format.specs.HeapFields.{Body, heap_fields}
use Rattle.clr_format.specs.Images.{common_fields, fields_of, first_head_fields, image_of, is_first, IsImage, judged}
use Rattle.clr_format.specs.Images.{locals_field}
use Rattle.clr_format.specs.Images.{magic, Parts, parts_fields, Rest, rest_fields, second_head_fields, tests_in}
use Rattle.clr_format.specs.Images.{unless_failed}
use Rattle.clr_format.specs.Images.{version_tables}
use Rattle.clr_image.specs.Migration.{MigrationLaw, SameBody}
use Rattle.clr_format.specs.NameTests.{final_tests, first_failed, handle_tests, name_tests, reference_test, step_tests}
use Rattle.clr_format.specs.NameTests.{Test}
use Rattle.clr_format.specs.NameTests.{test_from, tests_of, with_earlier}
use Rattle.clr_save.specs.ReadsBack.{StandsAt}
use Rattle.clr_format.specs.Saved.{empty_tables_bytes, migrated, word_bytes, words_bytes, zero_bytes}
use Rattle.clr_format.specs.TableFields.{no_tables, tables_fields}
use Rattle.clr_save.specs.Writable.{AreWrittenTables, IsWrittenStep}
use Rattle.clr_save.specs.Written.{bytes_of_tables}
use Rattle.clr_save.specs.WrittenImage.{Passes}
use Rattle.clr_format.specs.declared.head.Head.{Head}
use Rattle.clr_sos.specs.declared.step.Step.TheVariants.{Idle}
use Rattle.clr_image.proofs.Shifted.{both_found, bytes_again, field_found, Shifted, steady_types, text_found}
use Rattle.clr_image.proofs.ShiftedHeap.{heap_again, second_head}
use Rattle.clr_load.proofs.ShortImages.{long_enough}
use Rattle.clr_save.proofs.Written.{first_of, length-word, second_of, text_back, word_back}
use Rattle.clr_save.proofs.WrittenImage.{AllPass, both_pass, each_pass, judged_found, parts_with, second_read}
use Rattle.clr_save.proofs.WrittenTables.{tables_back}

-- ---- the bytes

front : List ℕ → List ℕ
front bytes = codes "CLRHEAP2" ++ (take 8 (drop 8 bytes) ++ words_bytes (85000 ∷ 0 ∷ []))

shape : (bytes : List ℕ) → migrated true bytes ≡ front bytes ++ (drop 16 bytes ++ empty_tables_bytes)
unfolding migrated front
shape bytes = refl

length-front : (bytes : List ℕ) → 16 ≤ length bytes → length (front bytes) ≡ 32
unfolding front
length-front bytes long =
    let left = length-drop 8 bytes in
    let eight = length-take-le 8 (drop 8 bytes) (omega arith) in
    let one = length-word 85000 in
    let two = length-word 0 in
    let a = length-append (take 8 (drop 8 bytes)) (word_bytes 85000 ++ (word_bytes 0 ++ [])) in
    let b = length-append (word_bytes 85000) (word_bytes 0 ++ []) in
    let c = ap length (append-nil (word_bytes 0)) in
    omega arith

shifted : (bytes : List ℕ) → 16 ≤ length bytes → Shifted bytes (migrated true bytes) empty_tables_bytes
shifted bytes long =
    let len = length-front bytes long in
    let whole = length-append (front bytes) (drop 16 bytes ++ empty_tables_bytes) in
    let rest = length-append (drop 16 bytes) empty_tables_bytes in
    let left = length-drop 16 bytes in
    record {
      at = λ o low high.
          let split : o + 16 ≡ 32 + (o - 16) = omega arith in
          let back : 16 + (o - 16) ≡ o = omega arith in
          ap (drop (o + 16)) (shape bytes) ∙ ap (λ k. drop k (front bytes ++ (drop 16 bytes ++ empty_tables_bytes)))
          split
          ∙ sym (drop-drop (o - 16) 32 (front bytes ++ (drop 16 bytes ++ empty_tables_bytes)))
          ∙ ap (drop (o - 16)) (drop_at (front bytes) (drop 16 bytes ++ empty_tables_bytes) 32 len)
          ∙ drop-append-le (o - 16) (drop 16 bytes) empty_tables_bytes (omega arith)
          ∙ ap (λ bs. bs ++ empty_tables_bytes) (drop-drop (o - 16) 16 bytes ∙ ap (λ k. drop k bytes) back);
      size = ap length (shape bytes) ∙ (let e : length (front bytes ++ (drop 16 bytes ++ empty_tables_bytes))
          ≡ length bytes + 16 + length empty_tables_bytes = omega arith in e);
    }

empty_are : bytes_of_tables no_tables ≡ empty_tables_bytes
unfolding bytes_of_tables empty_tables_bytes zero_bytes word_bytes
empty_are = refl

-- ---- the head

pub record FirstHead (bytes : List ℕ) (head : Head) (o : ℕ) : Type 0 where
  at : o ≡ 16
  limit : ℕ
  lawful : is_from_to 524288 1073741824 limit ≡ true
  there : word_at bytes 8 ≡ Some limit
  is : (let h : Head = record { limit = limit; large = 85000; compact_large = false; first = true } in h) ≡ head

pub head_found : (bytes : List ℕ) (head : Head) (o : ℕ) → first_head_fields bytes 0 ≡ found head o
    → FirstHead bytes head o
unfolding first_head_fields
head_found bytes head o e =
    let f = both_found bytes (λ name. field (is_from_to 524288 1073741824) >>=
    (λ limit. gives (record { limit = limit; large = 85000; compact_large = false; first = true })))
    (text 8 (magic (codes "CLRHEAP1")) bytes 0) head o e in
    let t = text_found 8 (magic (codes "CLRHEAP1")) bytes 0 f.x f.m f.one in
    let g = both_found bytes (λ limit. gives (record {
      limit = limit;
      large = 85000;
      compact_large = false;
      first =
          true;
    }))
    (field (is_from_to 524288 1073741824) bytes f.m) head o f.two in
    let w = field_found (is_from_to 524288 1073741824) f.m (word_at bytes f.m) g.x g.m g.one in
    let eight : f.m ≡ 8 = let b = t.behind in omega arith in
    let is : (let h : Head = record { limit = g.x; large = 85000; compact_large = false; first = true } in h) ≡ head =
    let two = g.two in cc in
    let end : g.m ≡ o = let two = g.two in cc in
    let next = w.next in
    record {
      at = omega arith;
      limit = g.x;
      lawful = w.good;
      there = ap (word_at bytes) (sym eight) ∙ w.word;
      is = is;
    }

-- the head of the second version
head_read : (bytes : List ℕ) (limit : ℕ) → 16 ≤ length bytes → is_from_to 524288 1073741824 limit ≡ true
    → word_at bytes 8 ≡ Some limit
    → second_head_fields (migrated true bytes) 0
    ≡ found (let h : Head = record { limit = limit; large = 85000; compact_large = false; first = false } in h) 32
unfolding second_head_fields word_at front
head_read bytes limit long lawful there =
    let others = migrated true bytes in
    let rest = drop 16 bytes ++ empty_tables_bytes in
    let t8 = take 8 (drop 8 bytes) in
    let left = length-drop 8 bytes in
    let eight : length (take 8 (drop 8 bytes)) ≡ 8 = length-take-le 8 (drop 8 bytes) (omega arith) in
    let size = shifted bytes long in
    let all = size.size in
    let a0 : StandsAt (migrated true bytes) 0 (codes "CLRHEAP2"
    ++ (take 8 (drop 8 bytes) ++ words_bytes (85000 ∷ 0 ∷ [])))
    (drop 16 bytes ++ empty_tables_bytes) = record { within = omega arith; is = shape bytes } in
    let name = text_back 8 (magic (codes "CLRHEAP2")) (codes "CLRHEAP2") refl refl (migrated true bytes) _ 0
    (first_of (migrated true bytes) (codes "CLRHEAP2") _ (drop 16 bytes ++ empty_tables_bytes) 0 a0) in
    let a1 = second_of (migrated true bytes) (codes "CLRHEAP2") (take 8 (drop 8 bytes) ++ words_bytes (85000 ∷ 0 ∷ []))
    (drop 16 bytes ++ empty_tables_bytes) 0 a0 in
    let had : nat_le (8 + 8) (length bytes) ≡ true = le-leb (8 + 8) (length bytes) (omega arith) in
    let value : Some (little_from 0 8 (drop 8 bytes)) ≡ Some limit = rw had at there in
    let is : little_from 0 8 (drop 8 bytes) ≡ limit = cc in
    let still : nat_le (8 + 8) (length (migrated true bytes)) ≡ true =
    le-leb (8 + 8) (length (migrated true bytes)) (omega arith) in
    let spelled : little_from 0 8 (drop 8 (migrated true bytes)) ≡ limit =
    ap (little_from 0 8) (a1.is ∙ append_assoc (take 8 (drop 8 bytes)) (words_bytes (85000 ∷ 0 ∷ []))
    (drop 16 bytes ++ empty_tables_bytes))
    ∙ little_from-append 8 (take 8 (drop 8 bytes)) (words_bytes (85000 ∷ 0 ∷ [])
    ++ (drop 16 bytes ++ empty_tables_bytes)) (omega arith)
    ∙ little_from-take 0 8 8 (drop 8 bytes) (omega arith) ∙ is in
    let one : field (is_from_to 524288 1073741824) (migrated true bytes) 8 ≡ found limit 16 =
    rw (still, spelled, lawful) refl in
    let a2 = subst (λ o. StandsAt (migrated true bytes) o (words_bytes (85000 ∷ 0 ∷ []))
    (drop 16 bytes ++ empty_tables_bytes))
    (let e : 8 + length (take 8 (drop 8 bytes)) ≡ 16 = omega arith in e)
    (second_of (migrated true bytes) (take 8 (drop 8 bytes)) (words_bytes (85000 ∷ 0 ∷ []))
    (drop 16 bytes ++ empty_tables_bytes) 8 a1) in
    let w1 = length-word 85000 in
    let w0 = length-word 0 in
    let two = word_back (is_from_to 85000 67104768) 85000 (omega arith) refl (migrated true bytes) _ 16
    (first_of (migrated true bytes) (word_bytes 85000) (word_bytes 0 ++ []) (drop 16 bytes ++ empty_tables_bytes) 16 a2)
    ∙ ap (found 85000) (let e : 16 + length (word_bytes 85000) ≡ 24 = omega arith in e) in
    let a3 = subst (λ o. StandsAt (migrated true bytes) o (word_bytes 0 ++ []) (drop 16 bytes ++ empty_tables_bytes))
    (let e : 16 + length (word_bytes 85000) ≡ 24 = omega arith in e)
    (second_of (migrated true bytes) (word_bytes 85000) (word_bytes 0 ++ [])
    (drop 16 bytes ++ empty_tables_bytes) 16 a2) in
    let three = word_back (is_up_to 1) 0 (omega arith) refl (migrated true bytes) _ 24
    (first_of (migrated true bytes) (word_bytes 0) [] (drop 16 bytes ++ empty_tables_bytes) 24 a3)
    ∙ ap (found 0) (let e : 24 + length (word_bytes 0) ≡ 32 = omega arith in e) in
    ap (found_then (migrated true bytes) (λ name. field (is_from_to 524288 1073741824) >>=
    (λ l. field (is_from_to 85000 67104768)
    >>= (λ large. field (is_up_to 1) >>= (λ flag. gives (let h : Head = record {
      limit = l;
      large = large;
      compact_large = flag == 1;
      first = false;
    } in h)))))) name
    ∙ ap (found_then (migrated true bytes) (λ l. field (is_from_to 85000 67104768)
    >>= (λ large. field (is_up_to 1) >>= (λ flag. gives (let h : Head = record {
      limit = l;
      large = large;
      compact_large = flag == 1;
      first = false;
    } in h))))) one
    ∙ ap (found_then (migrated true bytes) (λ large. field (is_up_to 1) >>= (λ flag. gives (let h : Head = record {
      limit = limit;
      large = large;
      compact_large = flag == 1;
      first = false;
    } in h)))) two
    ∙ ap (found_then (migrated true bytes) (λ flag. gives (let h : Head = record {
      limit = limit;
      large = 85000;
      compact_large = flag == 1;
      first = false;
    } in h))) three

-- ---- tables and the second pass

all_idle : (rows : List TypeRow) (large n : ℕ) → AllByRecursion (IsWrittenStep rows large) (replicate n Idle)
all_idle rows large zero = tt
all_idle rows large (suc n) = (tt, all_idle rows large n)

empty_lawful : (rows : List TypeRow) (large : ℕ) → AreWrittenTables rows large no_tables
empty_lawful rows large = record {
  holder = tt;
  threads = refl;
  steps = all_idle rows large 16;
  few_handles = omega arith;
  handles = tt;
  entries = record { count = omega arith; each = tt };
  ready = record { count = omega arith; each = tt };
}

passed_all : (tests : List Test) → first_failed tests ≡ None → list_all (λ (t : Test). t.1) tests ≡ true
unfolding first_failed
passed_all [] e = refl
passed_all ((o, true) ∷ tests) e = passed_all tests e
passed_all ((o, false) ∷ tests) e = absurd cc

split_all : (xs ys : List Test) → AllPass (xs ++ ys) → AllPass xs × AllPass ys
split_all [] ys all = (record { all = refl }, all)
split_all ((o, true) ∷ xs) ys all =
    let rest = split_all xs ys (record { all = all.all }) in (record { all = let r = rest.0 in r.all }, rest.1)
split_all ((o, false) ∷ xs) ys all = absurd (let a = all.all in cc)

unmoved : (o : ℕ) (tests : List Test) → list_all (λ (t : Test). t.1) (map (test_from o) tests) ≡ true
    → list_all (λ (t : Test). t.1) tests ≡ true
unmoved o [] all = refl
unmoved o ((a, true) ∷ tests) all = unmoved o tests all
unmoved o ((a, false) ∷ tests) all = absurd cc

each_passed : {X : Type 0} (stride : ℕ) (test : X → List Test) (o : ℕ) (xs : List X)
    → AllPass (tests_of stride test o xs) → Passes test xs
each_passed stride test o [] all = tt
each_passed stride test o (x ∷ xs) all =
    let both = split_all (map (test_from o) (test x)) (tests_of stride test (o + stride) xs) all in
    let first = both.0 in
    (unmoved o (test x) first.all, each_passed stride test (o + stride) xs both.1)

by_names : (items : List Item) (rs : List (ℕ × ℕ)) → list_all (λ (t : Test). t.1) (map (reference_test items) rs)
    ≡ list_all (is_name items) (map (λ (r : ℕ × ℕ). r.1) rs)
by_names items [] = refl
by_names items ((o, place) ∷ rs) = let rest = by_names items rs in rw rest refl

idle_pass : (rows : List TypeRow) (items : List Item) (h : HeapView) (n : ℕ) (earlier : List ℕ)
    → Passes (step_tests rows items h) (with_earlier earlier (replicate n Idle))
idle_pass rows items h zero earlier = tt
idle_pass rows items h (suc n) earlier = (refl, idle_pass rows items h n (earlier ++ []))

-- ---- what stands behind the heap

record LocalsFound (bytes : List ℕ) (o : ℕ) (x : List ℕ) (n : ℕ) : Type 0 where
  there : o + 8192 ≤ length bytes
  value : words_of 1024 (take 8192 (drop o bytes)) ≡ x
  behind : n ≡ o + 8192

locals_found : (bytes : List ℕ) (o : ℕ) (x : List ℕ) (n : ℕ) → locals_field bytes o ≡ found x n
    → LocalsFound bytes o x n
unfolding locals_field
locals_found bytes o x n e = go (nat_le (o + 8192) (length bytes)) refl e
  where
    go : (t : Bool) → nat_le (o + 8192) (length bytes) ≡ t
        → cond t (found (words_of 1024 (take 8192 (drop o bytes))) (o + 8192)) (fault o) ≡ found x n
        → LocalsFound bytes o x n
    go true t e =
        let is : words_of 1024 (take 8192 (drop o bytes)) ≡ x = cc in
        let at : o + 8192 ≡ n = cc in
        record { there = grind (arith, nat_tests); value = is; behind = sym at }
    go false t e = absurd cc

locals_again : (bytes others more : List ℕ) (o n : ℕ) (x : List ℕ) → Shifted bytes others more → 16 ≤ o
    → LocalsFound bytes o x n → locals_field others (o + 16) ≡ found x (n + 16)
unfolding locals_field
locals_again bytes others more o n x shifted low f =
    let there = f.there in
    let size = shifted.size in
    let still : nat_le (o + 16 + 8192) (length others) ≡ true = le-leb (o + 16 + 8192) (length others) (omega arith) in
    let same : words_of 1024 (take 8192 (drop (o + 16) others)) ≡ x =
    ap (words_of 1024) (bytes_again bytes others more o 8192 shifted low there) ∙ f.value in
    let behind = f.behind in
    let at : o + 16 + 8192 ≡ n + 16 = omega arith in
    rw (still, same) (ap (found x) at)

record RestFound (bytes : List ℕ) (o : ℕ) (r : Rest) (n : ℕ) : Type 0 where
  at : ℕ
  locals : locals_field bytes o ≡ found r.locals at
  tables : r.tables ≡ no_tables
  end : at ≡ length bytes

rest_found : (head : Head) (types : List TypeRow) (bytes : List ℕ) (o n : ℕ) (r : Rest) → head.first ≡ true
    → rest_fields head types bytes o ≡ found r n → RestFound bytes o r n
unfolding rest_fields
rest_found head types bytes o n r first e =
    let f = both_found bytes (λ locals b m. found_then b (λ tables.
    nothing_more >>= (λ end. gives (let q : Rest = record {
      locals = locals;
      tables = tables;
      tables_at = m;
    } in q))) (version_tables head types b m))
    (locals_field bytes o) r n e in
    let version : version_tables head types bytes f.m ≡ found no_tables f.m =
    ap (λ b. (if b then gives no_tables else tables_fields head types) bytes f.m) first in
    let goes : found_then bytes (λ tables. nothing_more >>= (λ end. gives (let q : Rest = record {
      locals = f.x;
      tables = tables;
      tables_at = f.m;
    } in q))) (found no_tables f.m) ≡ found r n =
    ap (found_then bytes (λ tables. nothing_more >>= (λ end. gives (let q : Rest = record {
      locals = f.x;
      tables = tables;
      tables_at = f.m;
    } in q)))) (sym version) ∙ f.two in
    go f.x f.m (f.m == length bytes) refl f.one goes
  where
    go : (x : List ℕ) (m : ℕ) (t : Bool) → (m == length bytes) ≡ t → locals_field bytes o ≡ found x m
        → found_then bytes (λ end. gives (let q : Rest = record { locals = x; tables = no_tables; tables_at = m } in q))
        (cond t (found (let u : Unit {0} = tt in u) m) (fault m)) ≡ found r n → RestFound bytes o r n
    go x m true t one e =
        let is : (let q : Rest = record { locals = x; tables = no_tables; tables_at = m } in q) ≡ r = cc in
        record {
          at = m;
          locals = one ∙ ap (λ (q : Rest). found q.locals m) is;
          tables = sym (ap (λ (q : Rest). q.tables) is);
          end = grind (arith, nat_tests);
        }
    go x m false t one e = absurd cc

-- ---- the law

judged_from : (r : Found Parts) (p : Parts) (n : ℕ) → judged r ≡ found p n
    → (r ≡ found p n) × (first_failed (tests_in p) ≡ None)
judged_from (fault o) p n e = absurd cc
judged_from (found q m) p n e = go (first_failed (tests_in q)) refl e
  where
    go : (o : Option ℕ) → first_failed (tests_in q) ≡ o → unless_failed q m o ≡ found p n
        → (found q m ≡ found p n) × (first_failed (tests_in p) ≡ None)
    go None f e = let is : q ≡ p = cc in (e, subst (λ (z : Parts). first_failed (tests_in z) ≡ None) is f)
    go (Some a) f e = absurd cc

second_now : (bytes : List ℕ) → is_first (migrated true bytes) ≡ false
unfolding is_first migrated
second_now bytes = refl

parts_of_image : (bytes : List ℕ) (p : Parts) → is_first bytes ≡ true → IsImage bytes p
    → (parts_fields true bytes 0 ≡ found p (length bytes)) × (first_failed (tests_in p) ≡ None)
unfolding image_of
parts_of_image bytes p first image =
    let from = judged_from (fields_of bytes) p (length bytes) image.is in
    (ap (λ b. parts_fields b bytes 0) (sym first) ∙ from.0, from.1)

-- what stands in an image of the first version
record FirstParts (bytes : List ℕ) (p : Parts) : Type 0 where
  o1 : ℕ
  o2 : ℕ
  o3 : ℕ
  o4 : ℕ
  head : FirstHead bytes p.head o1
  types : types_fields bytes o1 ≡ found p.types o2
  heap : heap_fields p.head p.types bytes o2 ≡ found p.body o3
  rest : rest_fields p.head p.types bytes o3 ≡ found p.rest o4

first_parts : (bytes : List ℕ) (p : Parts) (n : ℕ) → parts_fields true bytes 0 ≡ found p n → FirstParts bytes p
unfolding parts_fields common_fields
first_parts bytes p n e =
    let f = both_found bytes common_fields (first_head_fields bytes 0) p n e in
    let h = head_found bytes f.x f.m f.one in
    let t = both_found bytes (λ types. heap_fields f.x types >>= (λ body. rest_fields f.x types >>= (λ rest. gives
    (let q : Parts = record { head = f.x; types = types; body = body; rest = rest } in q))))
    (types_fields bytes f.m) p n f.two in
    let b = both_found bytes (λ body. rest_fields f.x t.x >>= (λ rest. gives
    (let q : Parts = record { head = f.x; types = t.x; body = body; rest = rest } in q)))
    (heap_fields f.x t.x bytes t.m) p n t.two in
    let r = both_found bytes (λ rest. gives
    (let q : Parts = record { head = f.x; types = t.x; body = b.x; rest = rest } in q))
    (rest_fields f.x t.x bytes b.m) p n b.two in
    let last = r.two in
    let is : (let q : Parts = record { head = f.x; types = t.x; body = b.x; rest = r.x } in q) ≡ p = cc in
    subst (λ (z : Parts). FirstParts bytes z) is (record {
      o1 = f.m;
      o2 = t.m;
      o3 = b.m;
      o4 = r.m;
      head = h;
      types = t.one;
      heap = b.one;
      rest = r.one;
    })

first_is : (bytes : List ℕ) (head : Head) (o : ℕ) → FirstHead bytes head o → head.first ≡ true
first_is bytes head o h = sym (ap (λ (z : Head). z.first) h.is)

-- all tests of the parts that differ in offsets pass too
all_again : (p : Parts) (head : Head) (body : Body) (o : ℕ) → first_failed (tests_in p) ≡ None → SameBody p.body body
    → AllPass (tests_in (parts_with head p.types body p.rest.locals no_tables o))
all_again p head body o none same =
    let all : AllPass (tests_in p) = record { all = passed_all (tests_in p) none } in
    let one = split_all _ _ all in
    let two = split_all _ _ one.0 in
    let three = split_all _ _ two.0 in
    let four = split_all _ _ three.0 in
    let five = split_all (map (reference_test p.body.items) p.body.references)
    (tests_of 8 (name_tests p.body.items) (p.rest.tables_at - 8192) p.rest.locals) four.0 in
    let references = five.0 in
    let named : list_all (λ (t : Test). t.1) (map (reference_test body.items) body.references) ≡ true =
    by_names body.items body.references
    ∙ ap (λ (js : List Item). list_all (is_name js) (map (λ (r : ℕ × ℕ). r.1) body.references)) same.items
    ∙ ap (list_all (is_name p.body.items)) same.names
    ∙ sym (by_names p.body.items p.body.references) ∙ references.all in
    let locals : Passes (name_tests body.items) p.rest.locals =
    subst (λ (js : List Item). Passes (name_tests js) p.rest.locals) (sym same.items)
    (each_passed 8 (name_tests p.body.items) (p.rest.tables_at - 8192) p.rest.locals five.1) in
    both_pass _ _
    (both_pass _ _
    (both_pass _ _
    (both_pass _ _
    (both_pass _ _ (record { all = named }) (each_pass 8 (name_tests body.items) (o - 8192) p.rest.locals locals))
    (each_pass 40 (step_tests p.types body.items body.heap) (o + 8) (with_earlier [] no_tables.steps)
    (idle_pass p.types body.items body.heap 16 [])))
    (each_pass 32 (handle_tests body.items) (o + 656) no_tables.handles tt))
    (each_pass 8 (final_tests p.types body.items) (o + 656 + 32 * length no_tables.handles + 8) no_tables.entries tt))
    (each_pass 8 (final_tests p.types body.items)
    (o + 656 + 32 * length no_tables.handles + 8 + 8 * length no_tables.entries + 8) no_tables.ready tt)

pub migration_law : MigrationLaw
migration_law bytes p first image =
    let long = long_enough bytes p image first in
    let s = shifted bytes long in
    let size = s.size in
    let from = parts_of_image bytes p first image in
    let f = first_parts bytes p (length bytes) from.0 in
    let h = f.head in
    let at = h.at in
    let r = rest_found p.head p.types bytes f.o3 f.o4 p.rest (first_is bytes p.head f.o1 h) f.rest in
    let end = r.end in
    let l = locals_found bytes f.o3 p.rest.locals r.at r.locals in
    let fits = l.there in
    let steady = steady_types in
    let t_grows = steady.grows bytes f.o1 f.o2 p.types f.types in
    let heap = heap_again p.head p.types bytes (migrated true bytes) empty_tables_bytes f.o2 f.o3 p.body s (omega arith)
    (omega arith) f.heap in
    let b_grows = heap.grows in
    let types = steady.again bytes (migrated true bytes) empty_tables_bytes f.o1 f.o2 p.types s (omega arith)
    (omega arith)
    f.types in
    let types_at : types_fields (migrated true bytes) 32 ≡ found p.types (f.o2 + 16) =
    ap (types_fields (migrated true bytes)) (let e : 32 ≡ f.o1 + 16 = omega arith in e) ∙ types in
    let head : second_head_fields (migrated true bytes) 0 ≡ found (second_head p.head) 32 =
    head_read bytes h.limit long h.lawful h.there ∙ ap (λ (z : Head). found (second_head z) 32) h.is in
    let locals = locals_again bytes (migrated true bytes) empty_tables_bytes f.o3 r.at p.rest.locals s
    (omega arith) l in
    let none_left = drop_all r.at bytes (omega arith) in
    let empty = ap length empty_are in
    let stands : StandsAt (migrated true bytes) (r.at + 16) (bytes_of_tables no_tables) [] = record {
      within = omega arith;
      is = s.at r.at (omega arith) (omega arith) ∙ ap (λ bs. bs ++ empty_tables_bytes) none_left
          ∙ sym empty_are ∙ sym (append-nil (bytes_of_tables no_tables));
    } in
    let tables = tables_back (second_head p.head) p.types no_tables (empty_lawful p.types (second_head p.head).large)
    (migrated true bytes) [] (r.at + 16) stands in
    let last : r.at + 16 + length (bytes_of_tables no_tables) ≡ length (migrated true bytes) = omega arith in
    let test : (r.at + 16 + length (bytes_of_tables no_tables) == length (migrated true bytes)) ≡ true =
    grind (arith, nat_tests) in
    let read : parts_fields false (migrated true bytes) 0
    ≡ found (parts_with (second_head p.head) p.types heap.body p.rest.locals no_tables (r.at + 16))
    (length (migrated true bytes)) =
    second_read (migrated true bytes) (second_head p.head) p.types heap.body p.rest.locals no_tables 32 (f.o2 + 16)
    (f.o3 + 16) (r.at + 16) (r.at + 16 + length (bytes_of_tables no_tables)) refl head types_at heap.is locals tables
    test
    ∙ ap (found (parts_with (second_head p.head) p.types heap.body p.rest.locals no_tables (r.at + 16))) last in (
      parts_with (second_head p.head) p.types heap.body p.rest.locals no_tables (r.at + 16),
      judged_found (migrated true bytes)
          (parts_with (second_head p.head) p.types heap.body p.rest.locals no_tables (r.at + 16))
          (second_now bytes) read
          (all_again p (second_head p.head) heap.body (r.at + 16) from.1 heap.same),
      record { head = refl; types = refl; body = heap.same; locals = refl; tables = sym r.tables },
    )
