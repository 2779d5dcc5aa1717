-- A whole image is read back.
use Rattle.std.proofs.Common.{◌≡◌, ℕ, ◌+◌, ◌==◌, true, false}
use Rattle.std.proofs.Common.{List, [], ◌∷◌, ◌++◌, length, map, refl, arith, ap, sym, ◌∙◌, subst, None}
use Rattle.std.proofs.Common.{append-nil, if◌then◌else◌}
use Rattle.std.proofs.lemmas.Bool.Decides.{nat_tests}
use Rattle.std.specs.List.{AllByRecursion, flat_map, list_all}
use Rattle.clr_types.specs.Types.{TypeRow}
use Rattle.clr_types.specs.declared.item.Item.{Item}
use Rattle.clr_fields.specs.Fields.{found, gives}
use Rattle.clr_fields.specs.TypeFields.{types_fields}
use Rattle.clr_sos.specs.Faults.{is_name}
use Rattle.clr_format.specs.HeapFields.{Body, heap_fields}
use Rattle.clr_format.specs.Images.{common_fields, fields_of, image_of, is_first, IsImage, judged, locals_field, Parts}
use Rattle.clr_format.specs.Images.{parts_fields, Rest, rest_fields, second_head_fields, tests_in, unless_failed}
use Rattle.clr_format.specs.Images.{version_tables}
use Rattle.clr_format.specs.NameTests.{reference_test}
use Rattle.clr_format.specs.NameTests.{final_tests, first_failed, handle_tests, name_tests, step_tests, Test, test_from}
use Rattle.clr_format.specs.NameTests.{tests_of, with_earlier}
use Rattle.clr_save.specs.ReadsBack.{StandsAt}
use Rattle.clr_format.specs.Saved.{type_bytes, word_bytes, words_bytes}
use Rattle.clr_format.specs.TableFields.{no_tables, Tables, tables_fields}
use Rattle.clr_save.specs.Written.{bytes_of_tables, head_bytes}
use Rattle.clr_save.specs.WrittenHeap.{segments_bytes}
use Rattle.clr_save.specs.WrittenImage.{ArePartsOf, ImageLaw, IsWritten, items_of, Passes, written_bytes, WrittenImage}
use Rattle.clr_format.specs.declared.head.Head.{Head}
use Rattle.clr_save.proofs.Written.{first_of, room, second_of}
use Rattle.clr_save.proofs.WrittenHeads.{locals_back, second_head_back}
use Rattle.clr_save.proofs.WrittenHeap.{heap_read}
use Rattle.clr_save.proofs.WrittenTables.{tables_back}
use Rattle.clr_save.proofs.WrittenTypes.{types_back}

-- ---- the second pass

-- all tests of a list pass
pub record AllPass (tests : List Test) : Type 0 where
  pub all : list_all (λ (t : Test). t.1) tests ≡ true

none_fails : (tests : List Test) → list_all (λ (t : Test). t.1) tests ≡ true → first_failed tests ≡ None
unfolding first_failed
none_fails [] all = refl
none_fails ((o, true) ∷ tests) all = none_fails tests all
none_fails ((o, false) ∷ tests) all = absurd cc

pub none_failed : (tests : List Test) → AllPass tests → first_failed tests ≡ None
none_failed tests pass = none_fails tests pass.all

joined_all : (xs ys : List Test) → list_all (λ (t : Test). t.1) xs ≡ true → list_all (λ (t : Test). t.1) ys ≡ true
    → list_all (λ (t : Test). t.1) (xs ++ ys) ≡ true
joined_all [] ys all more = more
joined_all ((o, true) ∷ xs) ys all more = joined_all xs ys all more
joined_all ((o, false) ∷ xs) ys all more = absurd cc

pub both_pass : (xs ys : List Test) → AllPass xs → AllPass ys → AllPass (xs ++ ys)
both_pass xs ys all more = record { all = joined_all xs ys all.all more.all }

moved_all : (o : ℕ) (tests : List Test) → list_all (λ (t : Test). t.1) tests ≡ true
    → list_all (λ (t : Test). t.1) (map (test_from o) tests) ≡ true
moved_all o [] all = refl
moved_all o ((a, true) ∷ tests) all = moved_all o tests all
moved_all o ((a, false) ∷ tests) all = absurd cc

pub each_pass : {X : Type 0} (stride : ℕ) (test : X → List Test) (o : ℕ) (xs : List X) → Passes test xs
    → AllPass (tests_of stride test o xs)
each_pass stride test o [] all = record { all = refl }
each_pass stride test o (x ∷ xs) all =
    both_pass (map (test_from o) (test x)) (tests_of stride test (o + stride) xs)
    (record { all = moved_all o (test x) all.0 }) (each_pass stride test (o + stride) xs all.1)

references_all : (body : Body) (items : List Item) (references : List (ℕ × ℕ)) → body.items ≡ items
    → AllByRecursion (λ place. is_name items place ≡ true) (map (λ (r : ℕ × ℕ). r.1) references)
    → list_all (λ (t : Test). t.1) (map (reference_test body.items) references) ≡ true
references_all body items [] same all = refl
references_all body items ((o, place) ∷ references) same all =
    let here : is_name body.items place ≡ true = ap (λ (js : List Item). is_name js place) same ∙ all.0 in
    let rest = references_all body items references same all.1 in
    rw here rest

references_pass : (body : Body) (items : List Item) (references : List (ℕ × ℕ)) → body.items ≡ items
    → AllByRecursion (λ place. is_name items place ≡ true) (map (λ (r : ℕ × ℕ). r.1) references)
    → AllPass (map (reference_test body.items) references)
references_pass body items references same all = record { all = references_all body items references same all }

pub all_pass : (w : WrittenImage) (p : Parts) → IsWritten w → ArePartsOf w p → AllPass (tests_in p)
all_pass w p is are =
    let body = are.body in
    let items = body.items in
    let heap = body.heap in
    let references = references_pass p.body (items_of w) p.body.references items
    (subst (λ ns. AllByRecursion (λ place. is_name (items_of w) place ≡ true) ns) (sym body.names) is.references) in
    let locals : Passes (name_tests p.body.items) p.rest.locals = rw (items, are.locals) is.locals in
    let steps : Passes (step_tests p.types p.body.items p.body.heap) (with_earlier [] p.rest.tables.steps) =
    rw (are.types, items, heap, are.tables) is.steps in
    let handles : Passes (handle_tests p.body.items) p.rest.tables.handles = rw (items, are.tables) is.handles in
    let entries : Passes (final_tests p.types p.body.items) p.rest.tables.entries =
    rw (are.types, items, are.tables) is.entries in
    let ready : Passes (final_tests p.types p.body.items) p.rest.tables.ready =
    rw (are.types, items, are.tables) is.ready in
    both_pass _ _
    (both_pass _ _
    (both_pass _ _
    (both_pass _ _
    (both_pass _ _ references (each_pass 8 (name_tests p.body.items) _ p.rest.locals locals))
    (each_pass 40 (step_tests p.types p.body.items p.body.heap) _ (with_earlier [] p.rest.tables.steps) steps))
    (each_pass 32 (handle_tests p.body.items) _ p.rest.tables.handles handles))
    (each_pass 8 (final_tests p.types p.body.items) _ p.rest.tables.entries entries))
    (each_pass 8 (final_tests p.types p.body.items) _ p.rest.tables.ready ready)

-- ---- the first pass

abbrev pub parts_with : Head → List TypeRow → Body → List ℕ → Tables → ℕ → Parts
parts_with head types body locals tables o = record {
  head = head;
  types = types;
  body = body;
  rest = record { locals = locals; tables = tables; tables_at = o };
}

rest_read : (bytes : List ℕ) (head : Head) (types : List TypeRow) (locals : List ℕ) (tables : Tables) (o3 o4 o5 : ℕ)
    → head.first ≡ false → locals_field bytes o3 ≡ found locals o4
    → tables_fields head types bytes o4 ≡ found tables o5 → (o5 == length bytes) ≡ true
    → rest_fields head types bytes o3
    ≡ found (let r : Rest = record { locals = locals; tables = tables; tables_at = o4 } in r) o5
unfolding rest_fields
rest_read bytes head types locals tables o3 o4 o5 second d e f =
    let version : version_tables head types bytes o4 ≡ found tables o5 =
    ap (λ b. (if b then gives no_tables else tables_fields head types) bytes o4) second ∙ e in
    rw (d, version, f) refl

pub second_read : (bytes : List ℕ) (head : Head) (types : List TypeRow) (body : Body) (locals : List ℕ)
    (tables : Tables)
    (o1 o2 o3 o4 o5 : ℕ) → head.first ≡ false → second_head_fields bytes 0 ≡ found head o1
    → types_fields bytes o1 ≡ found types o2 → heap_fields head types bytes o2 ≡ found body o3
    → locals_field bytes o3 ≡ found locals o4 → tables_fields head types bytes o4 ≡ found tables o5
    → (o5 == length bytes) ≡ true
    → parts_fields false bytes 0 ≡ found (parts_with head types body locals tables o4) o5
unfolding parts_fields common_fields
second_read bytes head types body locals tables o1 o2 o3 o4 o5 second a b c d e f =
    let rest = rest_read bytes head types locals tables o3 o4 o5 second d e f in rw (a, b, c, rest) refl

record FieldsRead (w : WrittenImage) (bytes : List ℕ) : Type 0 where
  parts : Parts
  is : parts_fields false bytes 0 ≡ found parts (length bytes)
  are : ArePartsOf w parts

fields_read : (w : WrittenImage) (bytes : List ℕ) → IsWritten w → bytes ≡ written_bytes w → FieldsRead w bytes
unfolding written_bytes
fields_read w bytes is same =
    let o1 = 0 + length (head_bytes w.head) in
    let o2 = o1 + length (word_bytes (length w.types) ++ flat_map type_bytes w.types) in
    let o3 = o2 + length (word_bytes (length w.segments) ++ segments_bytes w.segments) in
    let o4 = o3 + length (words_bytes w.locals) in
    let a0 : StandsAt bytes 0 (head_bytes w.head ++ ((word_bytes (length w.types) ++ flat_map type_bytes w.types)
    ++ ((word_bytes (length w.segments) ++ segments_bytes w.segments)
    ++ (words_bytes w.locals ++ bytes_of_tables w.tables)))) [] =
    record { within = omega arith; is = same ∙ sym (append-nil _) } in
    let a1 = second_of bytes (head_bytes w.head) _ [] 0 a0 in
    let a2 = second_of bytes (word_bytes (length w.types) ++ flat_map type_bytes w.types) _ [] o1 a1 in
    let a3 = second_of bytes (word_bytes (length w.segments) ++ segments_bytes w.segments) _ [] o2 a2 in
    let a4 = second_of bytes (words_bytes w.locals) (bytes_of_tables w.tables) [] o3 a3 in
    let head = second_head_back w.head is.head bytes _ 0 (first_of bytes (head_bytes w.head) _ [] 0 a0) in
    let types = types_back w.types is.types bytes _ o1
    (first_of bytes (word_bytes (length w.types) ++ flat_map type_bytes w.types) _ [] o1 a1) in
    let heap = heap_read w.head w.types w.segments bytes _ o2 is.segments
    (first_of bytes (word_bytes (length w.segments) ++ segments_bytes w.segments) _ [] o2 a2) in
    let locals = locals_back w.locals is.threads is.words bytes _ o3
    (first_of bytes (words_bytes w.locals) _ [] o3 a3) in
    let few = is.types in
    let most = few.few in
    let tables = tables_back w.head w.types w.tables is.tables bytes [] o4 a4 in
    let last = room bytes (bytes_of_tables w.tables) [] o4 a4 in
    let end : o4 + length (bytes_of_tables w.tables) ≡ length bytes = omega arith in
    let test : (o4 + length (bytes_of_tables w.tables) == length bytes) ≡ true = grind (arith, nat_tests) in
    record {
      parts = parts_with w.head w.types heap.body w.locals w.tables o4;
      is = second_read bytes w.head w.types heap.body w.locals w.tables o1 o2 o3 o4
          (o4 + length (bytes_of_tables w.tables))
          (let h = is.head in h.second) head types heap.is locals tables test
          ∙ ap (found (parts_with w.head w.types heap.body w.locals w.tables o4)) end;
      are = record { head = refl; types = refl; body = heap.has; locals = refl; tables = refl };
    }

second_version : (w : WrittenImage) → is_first (written_bytes w) ≡ false
unfolding is_first written_bytes
second_version w = refl

pub judged_found : (bytes : List ℕ) (p : Parts) → is_first bytes ≡ false → parts_fields false bytes 0
    ≡ found p (length bytes)
    → AllPass (tests_in p) → IsImage bytes p
unfolding image_of
judged_found bytes p second read all =
    let none = none_failed (tests_in p) all in
    let fields : fields_of bytes ≡ found p (length bytes) = rw second read in
    record { is = ap judged fields ∙ ap (unless_failed p (length bytes)) none }

pub image_law : ImageLaw
image_law w is =
    let read = fields_read w (written_bytes w) is refl in (
      read.parts,
      judged_found (written_bytes w) read.parts (second_version w) read.is (all_pass w read.parts is read.are),
      read.are,
    )
