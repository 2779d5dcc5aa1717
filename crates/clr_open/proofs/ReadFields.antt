-- What the fields of an image say that no table keeps: bounds of the head, names of types, where segments stand.
use Rattle.std.proofs.Common.{◌≡◌, ℕ, ◌+◌, ◌-◌, ◌≤◌, ◌==◌, ◌&&◌, Bool, true, false, cond, if◌then◌else◌, nat_le, List}
use Rattle.std.proofs.Common.{[], ◌∷◌, ◌++◌, codes, drop, length, take, refl, ap, sym, ◌∙◌, subst, arith, Option, None}
use Rattle.std.proofs.Common.{Some, Result, Ok, Err, length-drop, length-take-le, position}
use Rattle.std.specs.Prelude.{slice_get}
use Rattle.std.specs.List.{AllByRecursion}
use Rattle.std.proofs.lemmas.Bool.{and_parts}
use Rattle.std.proofs.lemmas.Bool.Decides.{nat_tests}
use Rattle.std.proofs.lemmas.List.Sums.{sum_by-append}
use Rattle.clr_types.specs.Segments.{first_place, reserved_end}
use Rattle.clr_types.specs.Types.{bytes_form, class_form, references_form, structs_form, TypeRow}
use Rattle.clr_types.specs.declared.item.Item.{Item}
use Rattle.clr_types.specs.declared.segment.SegInfo.{SegInfo}
use Rattle.clr_types.specs.declared.segment.SegKind.{SegKind}
use Rattle.clr_types.specs.declared.segment.SegKind.TheVariants.{Ephemeral, Large}
use Rattle.clr_heap.specs.Drafts.{has_kind}
use Rattle.clr_heap.specs.View.{HeapView}
use Rattle.clr_heap.specs.declared.heap.draft.SegmentHead.{SegmentHead}
use Rattle.clr_heap.proofs.Framing.{all_push}
use Rattle.clr_model.specs.LineGrammar.{is_name}
use Rattle.clr_fields.specs.Fields.{anything, fault, field, Fields, found, Found, gives, is_from_to, is_up_to, text}
use Rattle.clr_fields.specs.Fields.{times, word_at, ◌>>=◌}
use Rattle.clr_fields.specs.TypeFields.{form_pattern, form_with, is_final_mark, is_new_name, is_no_slot}
use Rattle.clr_fields.specs.TypeFields.{is_pattern_length, pattern_field, pattern_of, row_with, type_fields}
use Rattle.clr_fields.specs.TypeFields.{types_fields}
use Rattle.clr_sos.specs.CheckedCells.{checked_items}
use Rattle.clr_format.specs.HeapFields.{Body, empty_body, has_needed, heap_fields, heap_more, is_base, is_boundary}
use Rattle.clr_format.specs.HeapFields.{is_end, is_reserved, kind_field, kind_found, kinds_of, may_follow, memory_field}
use Rattle.clr_format.specs.HeapFields.{memory_of, rules_with, segment_fields, segment_head_fields, segment_with}
use Rattle.clr_format.specs.HeapFields.{words_from, references_in}
use Rattle.clr_format.specs.Images.{common_fields, fields_of, first_head_fields, head_fields, image_of, is_first}
use Rattle.clr_format.specs.Images.{IsImage, judged, magic, Parts, parts_fields, Rest, rest_fields, second_head_fields}
use Rattle.clr_format.specs.Images.{tests_in, unless_failed}
use Rattle.clr_format.specs.NameTests.{first_failed}
use Rattle.clr_format.specs.declared.head.Head.{Head}
use Rattle.clr_load.proofs.FoundFields.{both_found, field_found, gave, text_found, times_keep}
use Rattle.clr_open.specs.Offsets.{AreHeadsAt, segments_from, type_size, types_size}

-- one type more takes its bytes
pub types-more : (rows : List TypeRow) (row : TypeRow) (n : ℕ) → type_size row ≡ n
    → types_size (rows ++ row ∷ []) ≡ types_size rows + n
types-more rows row n is =
    let sum = sum_by-append type_size rows (row ∷ []) in
    let one : types_size (row ∷ []) ≡ type_size row = omega arith in
    omega (arith, is, sum, one)

-- ---- segments that stand one behind the other

-- where the memory of the last of them ends
abbrev heads_end : ℕ → List SegInfo → List ℕ → ℕ
heads_end at [] os = at
heads_end at (s ∷ ss) [] = at
heads_end at (s ∷ ss) (o ∷ os) = heads_end (o + (s.end - first_place s)) ss os

heads-push : (at : ℕ) (ss : List SegInfo) (os : List ℕ) (s : SegInfo) (o : ℕ) → AreHeadsAt at ss os
    → o ≡ heads_end at ss os + 48
    → AreHeadsAt at (ss ++ s ∷ []) (os ++ o ∷ [])
    × (heads_end at (ss ++ s ∷ []) (os ++ o ∷ []) ≡ o + (s.end - first_place s))
heads-push at [] [] s o are is = ((is, tt), refl)
heads-push at [] (q ∷ os) s o are is = absurd are
heads-push at (t ∷ ss) [] s o are is = absurd are
heads-push at (t ∷ ss) (q ∷ os) s o are is =
    let rest = heads-push (q + (t.end - first_place t)) ss os s o are.1 is in
    ((are.0, rest.0), rest.1)

module _ (bytes : List ℕ) where
  next-word : (lawful : ℕ → Bool) (o x n : ℕ) → field lawful bytes o ≡ found x n → n ≡ o + 8
  next-word lawful o x n e = (field_found lawful o (word_at bytes o) x n e).next

  good-word : (lawful : ℕ → Bool) (o x n : ℕ) → field lawful bytes o ≡ found x n → lawful x ≡ true
  good-word lawful o x n e = (field_found lawful o (word_at bytes o) x n e).good

  -- ---- the head

  record IsHeadFound (head : Head) (n : ℕ) : Type 0 where
    next : n + 8 ≡ (if head.first then 24 else 40)
    limit : head.limit ≤ 1073741824
    large : 85000 ≤ head.large
    largest : head.large ≤ 67104768

  first-head : (head : Head) (n : ℕ) → first_head_fields bytes 0 ≡ found head n → IsHeadFound head n
  unfolding first_head_fields
  first-head head n e =
      let f = both_found bytes (λ name. field (is_from_to 524288 1073741824) >>= (λ limit. gives (made limit)))
      (text 8 (magic (codes "CLRHEAP1")) bytes 0) head n e in
      let g = both_found bytes (λ limit. gives (made limit)) (field (is_from_to 524288 1073741824) bytes f.m) head n
      f.two in
      let same : made g.x ≡ head = (gave (made g.x) g.m head n g.two).0 in
      let at : g.m ≡ n = (gave (made g.x) g.m head n g.two).1 in
      let a = (text_found 8 (magic (codes "CLRHEAP1")) bytes 0 f.x f.m f.one).behind in
      let b = next-word (is_from_to 524288 1073741824) f.m g.x g.m g.one in
      let good = good-word (is_from_to 524288 1073741824) f.m g.x g.m g.one in
      subst (λ (h : Head). IsHeadFound h n) {x = made g.x} same (record {
        next = omega arith;
        limit = grind (arith, nat_tests, good);
        large = omega arith;
        largest = omega arith;
      })
    where
      made : ℕ → Head
      made limit = record { limit = limit; large = 85000; compact_large = false; first = true }

  second-head : (head : Head) (n : ℕ) → second_head_fields bytes 0 ≡ found head n → IsHeadFound head n
  unfolding second_head_fields
  second-head head n e =
      let f = both_found bytes (λ name. field (is_from_to 524288 1073741824) >>= (λ limit.
      field (is_from_to 85000 67104768) >>= (λ large. field (is_up_to 1) >>= (λ flag. gives (made limit large flag)))))
      (text 8 (magic (codes "CLRHEAP2")) bytes 0) head n e in
      let g = both_found bytes (λ limit. field (is_from_to 85000 67104768)
      >>= (λ large. field (is_up_to 1) >>= (λ flag. gives (made limit large flag))))
      (field (is_from_to 524288 1073741824) bytes f.m) head n f.two in
      let h = both_found bytes (λ large. field (is_up_to 1) >>= (λ flag. gives (made g.x large flag)))
      (field (is_from_to 85000 67104768) bytes g.m) head n g.two in
      let k = both_found bytes (λ flag. gives (made g.x h.x flag)) (field (is_up_to 1) bytes h.m) head n h.two in
      let same : made g.x h.x k.x ≡ head = (gave (made g.x h.x k.x) k.m head n k.two).0 in
      let at : k.m ≡ n = (gave (made g.x h.x k.x) k.m head n k.two).1 in
      let a = (text_found 8 (magic (codes "CLRHEAP2")) bytes 0 f.x f.m f.one).behind in
      let b = next-word (is_from_to 524288 1073741824) f.m g.x g.m g.one in
      let c = next-word (is_from_to 85000 67104768) g.m h.x h.m h.one in
      let d = next-word (is_up_to 1) h.m k.x k.m k.one in
      let good = good-word (is_from_to 524288 1073741824) f.m g.x g.m g.one in
      let least = good-word (is_from_to 85000 67104768) g.m h.x h.m h.one in
      subst (λ (q : Head). IsHeadFound q n) {x = made g.x h.x k.x} same (record {
        next = omega arith;
        limit = grind (arith, nat_tests, good);
        large = grind (arith, nat_tests, least);
        largest = grind (arith, nat_tests, least);
      })
    where
      made : ℕ → ℕ → ℕ → Head
      made limit large flag = record { limit = limit; large = large; compact_large = flag == 1; first = false }

  head-found : (first : Bool) (head : Head) (n : ℕ) → head_fields first bytes 0 ≡ found head n → IsHeadFound head n
  head-found true head n e = first-head head n e
  head-found false head n e = second-head head n e

  -- ---- types

  record AreTypesFound (from k : ℕ) (rows : List TypeRow) (n : ℕ) : Type 0 where
    named : AllByRecursion (λ (row : TypeRow). is_name row.name ≡ true) rows
    next : n ≡ from + types_size rows

  record IsPatternFound (len : ℕ) (o : ℕ) (pattern : List ℕ) (n : ℕ) : Type 0 where
    count : length pattern ≡ len
    next : n ≡ o + len

  taken-count : (len o : ℕ) → o + len ≤ length bytes → length (take len (drop o bytes)) ≡ len
  taken-count len o l =
      let left = length-drop o bytes in length-take-le len (drop o bytes) (omega (arith, l, left))

  pattern-found : (len o : ℕ) (pattern : List ℕ) (n : ℕ) → pattern_field len bytes o ≡ found pattern n
      → IsPatternFound len o pattern n
  pattern-found len o pattern n e = go (nat_le (o + len) (length bytes)) refl e
    where
      inner : o + len ≤ length bytes → (bad : Option ℕ)
          → pattern_of o (take len (drop o bytes)) (o + len) bad ≡ found pattern n → IsPatternFound len o pattern n
      inner l (Some i) e = absurd cc
      inner l None e =
          let same : take len (drop o bytes) ≡ pattern = cc in
          let at : o + len ≡ n = cc in
          record { count = ap length (sym same) ∙ taken-count len o l; next = sym at }

      go : (t : Bool) → nat_le (o + len) (length bytes) ≡ t
          → cond t (pattern_of o (take len (drop o bytes)) (o + len) (position is_no_slot (take len (drop o bytes))))
          (fault o) ≡ found pattern n → IsPatternFound len o pattern n
      go true on e =
          inner (grind (arith, nat_tests, on)) (position is_no_slot (take len (drop o bytes))) e
      go false on e = absurd cc

  -- a form has the pattern that was read
  pattern-count : (shape len : ℕ) (pattern : List ℕ) → is_pattern_length shape len ≡ true → length pattern ≡ len
      → length (form_pattern (form_with shape pattern)) ≡ len
  pattern-count shape len pattern good count =
      go (shape == 0) (shape == 1) (shape == 2) (shape == 3) refl refl refl refl good
    where
      go : (a b c d : Bool) → (shape == 0) ≡ a → (shape == 1) ≡ b → (shape == 2) ≡ c → (shape == 3) ≡ d
          → (if a then nat_le len 256 else (if d then nat_le 1 len && nat_le len 64 else len == 0)) ≡ true
          → length (form_pattern (if a then class_form pattern
          else (if b then references_form else (if c then bytes_form else structs_form pattern)))) ≡ len
      go true b c d ea eb ec ed good = count
      go false false false d ea eb ec ed good = count
      go false false true false ea eb ec ed good =
          let none : len ≡ 0 = grind (arith, nat_tests, good) in omega (arith, none)
      go false false true true ea eb ec ed good = absurd (grind (arith, nat_tests, ec, ed))
      go false true c false ea eb ec ed good =
          let none : len ≡ 0 = grind (arith, nat_tests, good) in omega (arith, none)
      go false true c true ea eb ec ed good = absurd (grind (arith, nat_tests, eb, ed))

  one-type : (from k : ℕ) (rows : List TypeRow) (o : ℕ) (t : List TypeRow) (m : ℕ) → AreTypesFound from k rows o
      → type_fields rows bytes o ≡ found t m → AreTypesFound from (k + 1) t m
  unfolding type_fields
  one-type from k rows o t m before e =
      let a = both_found bytes (λ n. text n (is_new_name rows) >>= after) (field (is_from_to 1 128) bytes o) t m e in
      let b = both_found bytes after (text a.x (is_new_name rows) bytes a.m) t m a.two in
      let c = both_found bytes (behind b.x) (field (is_up_to 3) bytes b.m) t m b.two in
      let d = both_found bytes (last b.x c.x) (field (is_final_mark c.x) bytes c.m) t m c.two in
      let f = both_found bytes (very_last b.x c.x d.x) (field (is_pattern_length c.x) bytes d.m) t m d.two in
      let g = both_found bytes (λ pattern. gives (rows ++ row_with b.x c.x d.x pattern ∷ []))
      (pattern_field f.x bytes f.m) t m f.two in
      let row = row_with b.x c.x d.x g.x in
      let same : rows ++ row ∷ [] ≡ t = (gave (rows ++ row ∷ []) g.m t m g.two).0 in
      let at : g.m ≡ m = (gave (rows ++ row ∷ []) g.m t m g.two).1 in
      let a1 = next-word (is_from_to 1 128) o a.x a.m a.one in
      let name = text_found a.x (is_new_name rows) bytes a.m b.x b.m b.one in
      let b1 = name.behind in
      let there = name.there in
      let name_count : length b.x ≡ a.x = ap length (sym name.value) ∙ taken-count a.x a.m there in
      let good = and_parts (is_name b.x) _ name.good in
      let c1 = next-word (is_up_to 3) b.m c.x c.m c.one in
      let d1 = next-word (is_final_mark c.x) c.m d.x d.m d.one in
      let f1 = next-word (is_pattern_length c.x) d.m f.x f.m f.one in
      let pattern = pattern-found f.x f.m g.x g.m g.one in
      let g1 = pattern.next in
      let count : length (form_pattern row.form) ≡ f.x =
      pattern-count c.x f.x g.x (good-word (is_pattern_length c.x) d.m f.x f.m f.one) pattern.count in
      let old = before.next in
      let size : type_size row ≡ 32 + a.x + f.x = omega (arith, name_count, count) in
      let total : types_size t ≡ types_size rows + (32 + a.x + f.x) =
      subst (λ (ts : List TypeRow). types_size ts ≡ types_size rows + (32 + a.x + f.x)) {x = rows ++ row ∷ []} same
      (types-more rows row (32 + a.x + f.x) size) in
      record {
        named = subst (AllByRecursion (λ (r : TypeRow). is_name r.name ≡ true)) same
            (all_push (λ (r : TypeRow). is_name r.name ≡ true) rows row before.named good.0);
        next = omega (arith, old, at, a1, b1, c1, d1, f1, g1, total);
      }
    where
      very_last : List ℕ → ℕ → ℕ → ℕ → Fields (List TypeRow)
      very_last name shape final len =
          pattern_field len >>= (λ pattern. gives (rows ++ row_with name shape final pattern ∷ []))

      last : List ℕ → ℕ → ℕ → Fields (List TypeRow)
      last name shape final = field (is_pattern_length shape) >>= very_last name shape final

      behind : List ℕ → ℕ → Fields (List TypeRow)
      behind name shape = field (is_final_mark shape) >>= last name shape

      after : List ℕ → Fields (List TypeRow)
      after name = field (is_up_to 3) >>= behind name

  types-found : (o : ℕ) (rows : List TypeRow) (n : ℕ) → types_fields bytes o ≡ found rows n
      → AreTypesFound (o + 8) 0 rows n
  unfolding types_fields
  types-found o rows n e =
      let f = both_found bytes (λ k. times k type_fields []) (field (is_up_to 1000) bytes o) rows n e in
      let a1 = next-word (is_up_to 1000) o f.x f.m f.one in
      let all = times_keep type_fields bytes (AreTypesFound f.m) (λ k s i t m p g. one-type f.m k s i t m p g)
      f.x 0 [] f.m rows n (record { named = tt; next = omega arith }) f.two in
      let next = all.next in
      record { named = all.named; next = omega arith }

  -- ---- segments

  module _ (head : Head) (rows : List TypeRow) where
    kind-next : (segments : List SegInfo) (o : ℕ) (k : Option SegKind) (x : SegKind) (n : ℕ)
        → kind_found segments o k ≡ found x n → n ≡ o + 8
    kind-next segments o None x n e = absurd cc
    kind-next segments o (Some kind) x n e = go (may_follow segments kind) e
      where
        go : (t : Bool) → cond t (found kind (o + 8)) (fault o) ≡ found x n → n ≡ o + 8
        go true e = let at : o + 8 ≡ n = cc in sym at
        go false e = absurd cc

    -- what stands before a segment's memory takes six words
    head-next : (h : HeapView) (o : ℕ) (s : SegmentHead) (n : ℕ)
        → segment_head_fields head h bytes o ≡ found s n → n ≡ o + 48
    unfolding segment_head_fields
    head-next h o s n e =
        let a = both_found bytes (λ base. field (is_reserved head h) >>= (λ reserved. after base reserved))
        (field (is_base h) bytes o) s n e in
        let b = both_found bytes (λ reserved. after a.x reserved) (field (is_reserved head h) bytes a.m) s n a.two in
        let c = both_found bytes (λ kind. behind a.x b.x kind) (kind_field head.first h.segments bytes b.m) s n b.two in
        let k = both_found bytes (λ w bytes next. kind_found h.segments b.m (slice_get (kinds_of head.first) w))
        (field anything bytes b.m) c.x c.m c.one in
        let d = both_found bytes (λ end. last a.x b.x c.x end) (field (is_end a.x b.x) bytes c.m) s n c.two in
        let info : SegInfo = segment_with a.x b.x c.x d.x in
        let f = both_found bytes (λ start1. very_last a.x b.x c.x d.x start1)
        (field (is_boundary info (a.x + 0x1000)) bytes d.m) s n d.two in
        let g = both_found bytes (λ start0. gives (made a.x b.x c.x d.x f.x start0))
        (field (is_boundary info f.x) bytes f.m) s n f.two in
        let at : g.m ≡ n = (gave (made a.x b.x c.x d.x f.x g.x) g.m s n g.two).1 in
        let a1 = next-word (is_base h) o a.x a.m a.one in
        let b1 = next-word (is_reserved head h) a.m b.x b.m b.one in
        let c1 = kind-next h.segments b.m (slice_get (kinds_of head.first) k.x) c.x c.m k.two in
        let d1 = next-word (is_end a.x b.x) c.m d.x d.m d.one in
        let f1 = next-word (is_boundary info (a.x + 0x1000)) d.m f.x f.m f.one in
        let g1 = next-word (is_boundary info f.x) f.m g.x g.m g.one in
        omega (arith, at, a1, b1, c1, d1, f1, g1)
      where
        made : ℕ → ℕ → SegKind → ℕ → ℕ → ℕ → SegmentHead
        made base reserved kind end start1 start0 =
            record { info = segment_with base reserved kind end; start1 = start1; start0 = start0 }

        very_last : ℕ → ℕ → SegKind → ℕ → ℕ → List ℕ → ℕ → Found SegmentHead
        very_last base reserved kind end start1 =
            field (is_boundary (segment_with base reserved kind end) start1)
            >>= (λ start0. gives (made base reserved kind end start1 start0))

        last : ℕ → ℕ → SegKind → ℕ → List ℕ → ℕ → Found SegmentHead
        last base reserved kind end =
            field (is_boundary (segment_with base reserved kind end) (base + 0x1000))
            >>= very_last base reserved kind end

        behind : ℕ → ℕ → SegKind → List ℕ → ℕ → Found SegmentHead
        behind base reserved kind = field (is_end base reserved) >>= last base reserved kind

        after : ℕ → ℕ → List ℕ → ℕ → Found SegmentHead
        after base reserved = kind_field head.first h.segments >>= behind base reserved

    -- the segments so far, from an offset on, and the heap's limit
    record AreSegmentsFound (from k : ℕ) (b : Body) (o : ℕ) : Type 0 where
      heads : AreHeadsAt from b.heap.segments b.offsets
      next : o ≡ heads_end from b.heap.segments b.offsets
      limit : b.heap.limit ≡ head.limit
      top : (most : ℕ) → AllByRecursion (λ (s : SegInfo). reserved_end s ≤ most) b.heap.segments → b.heap.top ≤ most

    record IsMemoryFound (b : Body) (s : SegmentHead) (o : ℕ) (x : Body) (n : ℕ) : Type 0 where
      segments : x.heap.segments ≡ b.heap.segments ++ s.info ∷ []
      offsets : x.offsets ≡ b.offsets ++ o ∷ []
      limit : x.heap.limit ≡ b.heap.limit
      top : x.heap.top ≡ reserved_end s.info
      next : n ≡ o + (s.info.end - first_place s.info)

    memory-found : (b : Body) (s : SegmentHead) (o : ℕ) (x : Body) (n : ℕ)
        → memory_field head rows b s.info s.start1 s.start0 bytes o ≡ found x n → IsMemoryFound b s o x n
    unfolding memory_field
    memory-found b s o x n e =
        go (checked_items (s.info.end - first_place s.info) (rules_with head.large rows s.info s.start1 s.start0)
        (words_from bytes s.info o) (first_place s.info)) e
      where
        go : (r : Result (List Item) ℕ) → memory_of bytes rows b s.info s.start1 s.start0 o r ≡ found x n
            → IsMemoryFound b s o x n
        go (Err a) e = absurd cc
        go (Ok items) e =
            let same : (let y : Body = record {
              heap = heap_more bytes b.heap s.info s.start1 s.start0 o;
              offsets = b.offsets ++ o ∷ [];
              items = b.items ++ items;
              references = b.references ++ references_in bytes rows s.info o items;
            } in y) ≡ x = cc in
            let at : o + (s.info.end - first_place s.info) ≡ n = cc in
            record {
              segments = sym (ap (λ (y : Body). y.heap.segments) same);
              offsets = sym (ap (λ (y : Body). y.offsets) same);
              limit = sym (ap (λ (y : Body). y.heap.limit) same);
              top = sym (ap (λ (y : Body). y.heap.top) same);
              next = sym at;
            }

    one-segment : (from k : ℕ) (b : Body) (o : ℕ) (x : Body) (n : ℕ) → AreSegmentsFound from k b o
        → segment_fields head rows b bytes o ≡ found x n → AreSegmentsFound from (k + 1) x n
    unfolding segment_fields
    one-segment from k b o x n before e =
        let f = both_found bytes (λ (s : SegmentHead). memory_field head rows b s.info s.start1 s.start0)
        (segment_head_fields head b.heap bytes o) x n e in
        let front = head-next b.heap o f.x f.m f.one in
        let m = memory-found b f.x f.m x n f.two in
        let old = before.next in
        let at : f.m ≡ heads_end from b.heap.segments b.offsets + 48 = omega (arith, front, old) in
        let pushed = heads-push from b.heap.segments b.offsets f.x.info f.m before.heads at in
        record {
          heads = subst (λ (ss : List SegInfo). AreHeadsAt from ss x.offsets) (sym m.segments)
              (subst (AreHeadsAt from (b.heap.segments ++ f.x.info ∷ [])) (sym m.offsets) pushed.0);
          next = m.next ∙ sym pushed.1 ∙ sym (λ i. heads_end from (m.segments i) (m.offsets i));
          limit = m.limit ∙ before.limit;
          top = λ most all.
              let end = last-of (λ (s : SegInfo). reserved_end s ≤ most) b.heap.segments f.x.info
              (subst (AllByRecursion (λ (s : SegInfo). reserved_end s ≤ most)) m.segments all) in
              let same = m.top in
              omega (arith, end, same);
        }
      where
        last-of : (P : SegInfo → Type 0) (ss : List SegInfo) (s : SegInfo) → AllByRecursion P (ss ++ s ∷ []) → P s
        last-of P [] s all = all.0
        last-of P (r ∷ ss) s all = last-of P ss s all.1

    needed : (o : ℕ) (body : Body) (m n : ℕ) (x : Body) → has_needed o body bytes m ≡ found x n
        → (has_kind Large x.heap.segments ≡ true) × (body ≡ x)
    needed o body m n x e = go (has_kind Ephemeral body.heap.segments && has_kind Large body.heap.segments) refl e
      where
        go : (t : Bool) → (has_kind Ephemeral body.heap.segments && has_kind Large body.heap.segments) ≡ t
            → cond t (found body m) (fault o) ≡ found x n
            → (has_kind Large x.heap.segments ≡ true) × (body ≡ x)
        go true is e =
            let same : body ≡ x = cc in (
              subst (λ (y : Body). has_kind Large y.heap.segments ≡ true) same
                  (and_parts (has_kind Ephemeral body.heap.segments) (has_kind Large body.heap.segments) is).1,
              same,
            )
        go false is e = absurd cc

    record IsBodyFound (from : ℕ) (b : Body) : Type 0 where
      heads : AreHeadsAt from b.heap.segments b.offsets
      limit : b.heap.limit ≡ head.limit
      top : (most : ℕ) → AllByRecursion (λ (s : SegInfo). reserved_end s ≤ most) b.heap.segments → b.heap.top ≤ most
      large : has_kind Large b.heap.segments ≡ true

    heap-found : (o : ℕ) (b : Body) (n : ℕ) → heap_fields head rows bytes o ≡ found b n → IsBodyFound (o + 8) b
    unfolding heap_fields
    heap-found o b n e =
        let f = both_found bytes (λ k. times k (segment_fields head rows) (empty_body head.limit) >>= has_needed o)
        (field (is_from_to 2 4096) bytes o) b n e in
        let g = both_found bytes (has_needed o) (times f.x (segment_fields head rows) (empty_body head.limit) bytes f.m)
        b n f.two in
        let need = needed o g.x g.m n b g.two in
        let at = next-word (is_from_to 2 4096) o f.x f.m f.one in
        let all = times_keep (segment_fields head rows) bytes (AreSegmentsFound f.m)
        (λ k s i t m p q. one-segment f.m k s i t m p q) f.x 0 (empty_body head.limit) f.m g.x g.m
        (record { heads = tt; next = refl; limit = refl; top = λ most all. omega arith }) g.one in
        subst (IsBodyFound (o + 8)) need.1 (record {
          heads = subst (λ (from : ℕ). AreHeadsAt from g.x.heap.segments g.x.offsets) at all.heads;
          limit = all.limit;
          top = all.top;
          large = ap (λ (y : Body). has_kind Large y.heap.segments) need.1 ∙ need.0;
        })

  -- ---- ALL OF IT

  pub record AreFieldsFound (p : Parts) : Type 0 where
    pub limit_high : p.head.limit ≤ 1073741824
    pub large_low : 85000 ≤ p.head.large
    pub large_high : p.head.large ≤ 67104768
    pub named : AllByRecursion (λ (row : TypeRow). is_name row.name ≡ true) p.types
    pub heads : AreHeadsAt (segments_from p.head.first p.types) p.body.heap.segments p.body.offsets
    pub heap_limit : p.body.heap.limit ≡ p.head.limit
    pub top : (most : ℕ) → AllByRecursion (λ (s : SegInfo). reserved_end s ≤ most) p.body.heap.segments
        → p.body.heap.top ≤ most
    pub large_kind : has_kind Large p.body.heap.segments ≡ true

  common-found : (head : Head) (o : ℕ) (p : Parts) (n : ℕ) → IsHeadFound head o
      → common_fields head bytes o ≡ found p n → AreFieldsFound p
  unfolding common_fields
  common-found head o p n front e =
      let a = both_found bytes (λ types. heap_fields head types >>= (λ body. rest_fields head types
      >>= (λ rest. gives (made types body rest)))) (types_fields bytes o) p n e in
      let b = both_found bytes (λ body. rest_fields head a.x >>= (λ rest. gives (made a.x body rest)))
      (heap_fields head a.x bytes a.m) p n a.two in
      let c = both_found bytes (λ rest. gives (made a.x b.x rest)) (rest_fields head a.x bytes b.m) p n b.two in
      let same : made a.x b.x c.x ≡ p = (gave (made a.x b.x c.x) c.m p n c.two).0 in
      let types = types-found o a.x a.m a.one in
      let body = heap-found head a.x a.m b.x b.m b.one in
      let one = front.next in
      let two = types.next in
      let from : a.m + 8 ≡ segments_from head.first a.x = omega (arith, one, two) in
      subst AreFieldsFound {x = made a.x b.x c.x} same (record {
        limit_high = front.limit;
        large_low = front.large;
        large_high = front.largest;
        named = types.named;
        heads = subst (λ (at : ℕ). AreHeadsAt at b.x.heap.segments b.x.offsets) from body.heads;
        heap_limit = body.limit;
        top = body.top;
        large_kind = body.large;
      })
    where
      made : List TypeRow → Body → Rest → Parts
      made types body rest = record { head = head; types = types; body = body; rest = rest }

  pub fields-found : (p : Parts) (n : ℕ) → fields_of bytes ≡ found p n → AreFieldsFound p
  unfolding parts_fields
  fields-found p n e =
      let a = both_found bytes common_fields (head_fields (is_first bytes) bytes 0) p n e in
      common-found a.x a.m p n (head-found (is_first bytes) a.x a.m a.one) a.two

-- bytes that are an image have these fields
pub fields-of : (bytes : List ℕ) (p : Parts) → IsImage bytes p → fields_of bytes ≡ found p (length bytes)
unfolding image_of
fields-of bytes p is = go (fields_of bytes) refl is.is
  where
    tested : (q : Parts) (next : ℕ) (t : Option ℕ) → fields_of bytes ≡ found q next
        → unless_failed q next t ≡ found p (length bytes) → fields_of bytes ≡ found p (length bytes)
    tested q next (Some o) fields e = absurd cc
    tested q next None fields e = fields ∙ e

    go : (f : Found Parts) → fields_of bytes ≡ f → judged f ≡ found p (length bytes)
        → fields_of bytes ≡ found p (length bytes)
    go (fault o) fields e = absurd cc
    go (found q next) fields e = tested q next (first_failed (tests_in q)) fields e
