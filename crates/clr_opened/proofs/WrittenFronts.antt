-- An image that was written is read back, whatever stands behind it.
use Rattle.std.proofs.Common.{◌≡◌, ℕ, ◌+◌, false, List, ◌++◌, length, refl, arith, ap, ◌∙◌, subst, if◌then◌else◌}
use Rattle.std.specs.List.{flat_map}
use Rattle.clr_types.specs.Types.{TypeRow}
use Rattle.clr_fields.specs.Fields.{found, gives}
use Rattle.clr_fields.specs.TypeFields.{types_fields}
use Rattle.clr_format.specs.HeapFields.{Body, heap_fields}
use Rattle.clr_format.specs.Images.{is_first, judged, locals_field, Parts, Rest, second_head_fields, tests_in}
use Rattle.clr_format.specs.Images.{unless_failed, version_tables}
use Rattle.clr_format.specs.Saved.{type_bytes, word_bytes, words_bytes}
use Rattle.clr_format.specs.TableFields.{no_tables, Tables, tables_fields}
use Rattle.clr_format.specs.declared.head.Head.{Head}
use Rattle.clr_save.specs.ReadsBack.{StandsAt}
use Rattle.clr_save.specs.Written.{bytes_of_tables, head_bytes}
use Rattle.clr_save.specs.WrittenHeap.{segments_bytes}
use Rattle.clr_save.specs.WrittenImage.{ArePartsOf, IsWritten, written_bytes, WrittenImage}
use Rattle.clr_save.proofs.SavedImages.{bytes-are, parts-say, w, written}
use Rattle.clr_save.proofs.Written.{first_of, room, second_of}
use Rattle.clr_save.proofs.WrittenHeads.{locals_back, second_head_back}
use Rattle.clr_save.proofs.WrittenHeap.{heap_read}
use Rattle.clr_save.proofs.WrittenImage.{all_pass, none_failed, parts_with}
use Rattle.clr_save.proofs.WrittenTables.{tables_back}
use Rattle.clr_save.proofs.WrittenTypes.{types_back}
use Rattle.clr_opened.specs.Fronts.{common_front, image_front, parts_front, rest_front}
use Rattle.clr_opened.specs.Laws.{SavedFrontLaw}

rest_read : (bytes : List ℕ) (head : Head) (types : List TypeRow) (locals : List ℕ) (tables : Tables) (o3 o4 o5 : ℕ)
    → head.first ≡ false → locals_field bytes o3 ≡ found locals o4
    → tables_fields head types bytes o4 ≡ found tables o5
    → rest_front head types bytes o3
    ≡ found (let r : Rest = record { locals = locals; tables = tables; tables_at = o4 } in r) o5
unfolding rest_front
rest_read bytes head types locals tables o3 o4 o5 second d e =
    let version : version_tables head types bytes o4 ≡ found tables o5 =
    ap (λ b. (if b then gives no_tables else tables_fields head types) bytes o4) second ∙ e in
    rw (d, version) refl

second_read : (bytes : List ℕ) (head : Head) (types : List TypeRow) (body : Body) (locals : List ℕ)
    (tables : Tables)
    (o1 o2 o3 o4 o5 : ℕ) → head.first ≡ false → second_head_fields bytes 0 ≡ found head o1
    → types_fields bytes o1 ≡ found types o2 → heap_fields head types bytes o2 ≡ found body o3
    → locals_field bytes o3 ≡ found locals o4 → tables_fields head types bytes o4 ≡ found tables o5
    → parts_front false bytes 0 ≡ found (parts_with head types body locals tables o4) o5
unfolding parts_front common_front
second_read bytes head types body locals tables o1 o2 o3 o4 o5 second a b c d e =
    let rest = rest_read bytes head types locals tables o3 o4 o5 second d e in rw (a, b, c, rest) refl

record FrontRead (w : WrittenImage) (bytes : List ℕ) (at : ℕ) : Type 0 where
  parts : Parts
  is : parts_front false bytes 0 ≡ found parts at
  are : ArePartsOf w parts

front_read : (w : WrittenImage) (bytes behind : List ℕ) → IsWritten w → bytes ≡ written_bytes w ++ behind
    → FrontRead w bytes (length (written_bytes w))
unfolding written_bytes
front_read w bytes behind is same =
    let these = head_bytes w.head ++ ((word_bytes (length w.types) ++ flat_map type_bytes w.types)
    ++ ((word_bytes (length w.segments) ++ segments_bytes w.segments)
    ++ (words_bytes w.locals ++ bytes_of_tables w.tables))) in
    let o1 = 0 + length (head_bytes w.head) in
    let o2 = o1 + length (word_bytes (length w.types) ++ flat_map type_bytes w.types) in
    let o3 = o2 + length (word_bytes (length w.segments) ++ segments_bytes w.segments) in
    let o4 = o3 + length (words_bytes w.locals) in
    let a0 : StandsAt bytes 0 (head_bytes w.head ++ ((word_bytes (length w.types) ++ flat_map type_bytes w.types)
    ++ ((word_bytes (length w.segments) ++ segments_bytes w.segments)
    ++ (words_bytes w.locals ++ bytes_of_tables w.tables)))) behind =
    record { within = omega arith; is = same } in
    let a1 = second_of bytes (head_bytes w.head) _ behind 0 a0 in
    let a2 = second_of bytes (word_bytes (length w.types) ++ flat_map type_bytes w.types) _ behind o1 a1 in
    let a3 = second_of bytes (word_bytes (length w.segments) ++ segments_bytes w.segments) _ behind o2 a2 in
    let a4 = second_of bytes (words_bytes w.locals) (bytes_of_tables w.tables) behind o3 a3 in
    let head = second_head_back w.head is.head bytes _ 0 (first_of bytes (head_bytes w.head) _ behind 0 a0) in
    let types = types_back w.types is.types bytes _ o1
    (first_of bytes (word_bytes (length w.types) ++ flat_map type_bytes w.types) _ behind o1 a1) in
    let heap = heap_read w.head w.types w.segments bytes _ o2 is.segments
    (first_of bytes (word_bytes (length w.segments) ++ segments_bytes w.segments) _ behind o2 a2) in
    let locals = locals_back w.locals is.threads is.words bytes _ o3
    (first_of bytes (words_bytes w.locals) _ behind o3 a3) in
    let tables = tables_back w.head w.types w.tables is.tables bytes behind o4 a4 in
    let whole = room bytes these behind 0 a0 in
    let last = room bytes (bytes_of_tables w.tables) behind o4 a4 in
    let end : o4 + length (bytes_of_tables w.tables) ≡ length these = omega arith in
    record {
      parts = parts_with w.head w.types heap.body w.locals w.tables o4;
      is = second_read bytes w.head w.types heap.body w.locals w.tables o1 o2 o3 o4
          (o4 + length (bytes_of_tables w.tables))
          (let h = is.head in h.second) head types heap.is locals tables
          ∙ ap (found (parts_with w.head w.types heap.body w.locals w.tables o4)) end;
      are = record { head = refl; types = refl; body = heap.has; locals = refl; tables = refl };
    }

second_version : (w : WrittenImage) (behind : List ℕ) → is_first (written_bytes w ++ behind) ≡ false
unfolding is_first written_bytes
second_version w behind = refl

-- what was written is an image in front
front_found : (w : WrittenImage) (behind : List ℕ) → IsWritten w
    → (p : Parts) × (image_front (written_bytes w ++ behind) ≡ found p (length (written_bytes w))) × ArePartsOf w p
unfolding image_front
front_found w behind is =
    let bytes = written_bytes w ++ behind in
    let read = front_read w bytes behind is refl in
    let none = none_failed (tests_in read.parts) (all_pass w read.parts is read.are) in
    let fields : parts_front (is_first bytes) bytes 0 ≡ found read.parts (length (written_bytes w)) =
    ap (λ b. parts_front b bytes 0) (second_version w behind) ∙ read.is in
    (read.parts, ap judged fields ∙ ap (unless_failed read.parts (length (written_bytes w))) none, read.are)

-- THE IMAGE OF A LAWFUL MACHINE delimits itself
pub saved-front : SavedFrontLaw
saved-front s m heap shows sound few_entries few_ready behind =
    let (p, front, are) = front_found (w s m heap shows sound few_entries few_ready) behind
    (written s m heap shows sound few_entries few_ready) in (
      p,
      subst (λ (bytes : List ℕ). image_front (bytes ++ behind) ≡ found p (length bytes))
          (bytes-are s m heap shows sound few_entries few_ready) front,
      parts-say s m heap shows sound few_entries few_ready p are,
    )
