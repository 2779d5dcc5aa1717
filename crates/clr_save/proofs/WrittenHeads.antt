-- What stands before the types, the fields before a segment's memory, and the locals are read back.
use Rattle.std.proofs.Common.{◌≡◌, ℕ, ◌<◌, ◌+◌, ◌*◌, ◌^◌, ◌==◌, Bool, true, false}
use Rattle.std.proofs.Common.{List, [], ◌∷◌, ◌++◌, length, take, drop, refl, arith, ap, sym, ◌∙◌, Some}
use Rattle.std.proofs.Common.{nat_le, le-leb, length-append, append_assoc, append-nil, slice_get, codes}
use Rattle.std.proofs.lemmas.Grind.{common_steps}
use Rattle.std.proofs.lemmas.Bool.Decides.{nat_tests}
use Rattle.std.specs.List.{AllByRecursion}
use Rattle.std.proofs.lemmas.List.{drop_at, take_at}
use Rattle.clr_save.proofs.WrittenTypes.{same_bit, small_bit}
use Rattle.clr_mem.specs.Words.{words_of}
use Rattle.clr_mem.proofs.Spelling.{spelled-bytes}
use Rattle.clr_types.specs.declared.segment.SegInfo.{SegInfo}
use Rattle.clr_types.specs.declared.segment.SegKind.{SegKind}
use Rattle.clr_types.specs.declared.segment.SegKind.TheVariants.{Small, Ephemeral, Large, Pinned}
use Rattle.clr_heap.specs.View.{HeapView}
use Rattle.clr_fields.specs.Fields.{anything, found, found_then, is_from_to, is_up_to}
use Rattle.clr_fields.specs.Fields.{text}
use Rattle.clr_format.specs.HeapFields.{is_base, is_boundary, is_end, is_reserved, kind_field, kind_found}
use Rattle.clr_format.specs.HeapFields.{kind_number, kinds_of, may_follow, segment_head_fields}
use Rattle.clr_format.specs.Images.{locals_field, magic, second_head_fields}
use Rattle.clr_save.specs.ReadsBack.{ReadsBack}
use Rattle.clr_format.specs.Saved.{bit, word_bytes, words_bytes}
use Rattle.clr_save.specs.Writable.{IsWrittenHead, IsWrittenSegment, IsWord}
use Rattle.clr_save.specs.Written.{head_bytes, words_of_head}
use Rattle.clr_format.specs.declared.head.Head.{Head}
use Rattle.clr_heap.specs.declared.heap.draft.SegmentHead.{SegmentHead}
use Rattle.clr_save.proofs.Written.{gives_back, length-word, room, same_value}
use Rattle.clr_save.proofs.Written.{text_back, then_back, word_back, word_then}

-- ---- the fields before a segment's memory

small_kind : (kind : SegKind) → kind_number kind < 2 ^ 64
small_kind Small = omega arith
small_kind Ephemeral = omega arith
small_kind Large = omega arith
small_kind Pinned = omega arith

kind_back : (first : Bool) (segments : List SegInfo) (kind : SegKind)
    → slice_get (kinds_of first) (kind_number kind) ≡ Some kind → may_follow segments kind ≡ true
    → ReadsBack (kind_field first segments) (word_bytes (kind_number kind)) kind
kind_back first segments kind known may bytes others o at =
    let word = word_back anything (kind_number kind) (small_kind kind) refl bytes others o at in
    ap (found_then bytes (λ n b next. kind_found segments o (slice_get (kinds_of first) n))) word
    ∙ ap (kind_found segments o) known ∙ rw may (ap (λ k. found kind (o + k)) (sym (length-word (kind_number kind))))

pub segment_head_back : (head : Head) (h : HeapView) (s : SegmentHead) → IsWrittenSegment head h s
    → ReadsBack (segment_head_fields head h) (words_bytes (words_of_head s)) s
unfolding segment_head_fields
segment_head_back head h s is =
    let small = is.base_fits in
    let reserved_small = is.reserved_fits in
    let end_small = is.end_fits in
    let start1_small = is.start1_fits in
    let start0_small = is.start0_fits in
    word_then (is_base h) _ s.info.base _ _ small is.base
    (word_then (is_reserved head h) _ s.info.reserved _ _ reserved_small is.reserved
    (then_back (kind_field head.first h.segments) _ (word_bytes (kind_number s.info.kind)) _ s.info.kind _
    (kind_back head.first h.segments s.info.kind is.known is.kind)
    (word_then (is_end s.info.base s.info.reserved) _ s.info.end _ _ end_small is.end
    (word_then (is_boundary s.info (s.info.base + 0x1000)) _ s.start1 _ _ start1_small is.start1
    (word_then (is_boundary s.info s.start1) _ s.start0 _ _ start0_small is.start0 (gives_back s))))))

-- ---- what stands before the types

same_head : (head : Head) → head.first ≡ false
    → (let h : Head = record {
      limit = head.limit;
      large = head.large;
      compact_large = bit head.compact_large == 1;
      first = false;
    } in h) ≡ head
same_head head second = let e = same_bit head.compact_large in let f = sym second in rw (e, f) refl

bit_fits : (b : Bool) → is_up_to 1 (bit b) ≡ true
bit_fits true = refl
bit_fits false = refl

pub second_head_back : (head : Head) → IsWrittenHead head → ReadsBack second_head_fields (head_bytes head) head
unfolding second_head_fields
second_head_back head is =
    let limit_small : head.limit < 2 ^ 64 = let h = is.limit in grind (arith, nat_tests, common_steps) in
    let large_small : head.large < 2 ^ 64 = let h = is.large in grind (arith, nat_tests, common_steps) in
    then_back (text 8 (magic (codes "CLRHEAP2"))) _ (codes "CLRHEAP2") _ (codes "CLRHEAP2") head
    (text_back 8 (magic (codes "CLRHEAP2")) (codes "CLRHEAP2") refl refl)
    (word_then (is_from_to 524288 1073741824) _ head.limit _ head limit_small is.limit
    (word_then (is_from_to 85000 67104768) _ head.large _ head large_small is.large
    (word_then (is_up_to 1) _ (bit head.compact_large) _ head (small_bit head.compact_large)
    (bit_fits head.compact_large)
    (same_value _ [] _ head (same_head head is.second) (gives_back _)))))

-- ---- the locals

pub length-words : (words : List ℕ) → length (words_bytes words) ≡ 8 * length words
length-words [] = refl
length-words (w ∷ words) =
    let ih = length-words words in
    let one = length-word w in
    let both = length-append (word_bytes w) (words_bytes words) in
    omega (arith, ih, one, both)

pub words_back : (words rest : List ℕ) → AllByRecursion IsWord words
    → words_of (length words) (words_bytes words ++ rest) ≡ words
unfolding words_of word_bytes
words_back [] rest all = refl
words_back (w ∷ words) rest all =
    let cut = append_assoc (word_bytes w) (words_bytes words) rest in
    let first = spelled-bytes w (words_bytes words ++ rest) all.0 in
    let left = drop_at (word_bytes w) (words_bytes words ++ rest) 8 (length-word w) in
    let ih = words_back words rest all.1 in
    rw cut (rw (first, left, ih) refl)

pub locals_back : (locals : List ℕ) → length locals ≡ 1024 → AllByRecursion IsWord locals
    → ReadsBack locals_field (words_bytes locals) locals
unfolding locals_field
locals_back locals len all bytes others o at =
    let whole = room bytes (words_bytes locals) others o at in
    let size = length-words locals in
    let there : nat_le (o + 8192) (length bytes) ≡ true = le-leb (o + 8192) (length bytes) (omega arith) in
    let cut : take 8192 (drop o bytes) ≡ words_bytes locals =
    ap (take 8192) at.is ∙ take_at (words_bytes locals) others 8192 (omega arith) in
    let same : words_of 1024 (take 8192 (drop o bytes)) ≡ locals =
    ap (words_of 1024) (cut ∙ sym (append-nil (words_bytes locals)))
    ∙ ap (λ n. words_of n (words_bytes locals ++ [])) (sym len) ∙ words_back locals [] all in
    let behind : o + 8192 ≡ o + length (words_bytes locals) = omega arith in
    rw (there, same) (ap (found locals) behind)
