-- The bytes of an object are those that the words of its cell have.
use Rattle.std.proofs.Common.{◌≡◌, ℕ, suc, zero, ◌≤◌, ◌+◌, ◌-◌, ◌*◌, ◌/◌, ◌%◌, inl, inr, Bool, true, false}
use Rattle.std.proofs.Common.{List, [], ◌∷◌, ◌++◌, length, map, refl, arith, ap, sym, ◌∙◌, subst, append_assoc}
use Rattle.std.proofs.Common.{append-nil}
use Rattle.std.proofs.lemmas.List.{length-append, length-map, length-replicate}
use Rattle.std.specs.Int.{byte_at, bytes_low_first}
use Rattle.std.specs.List.{flat_map, repeat}
use Rattle.clr_mem.specs.Words.{byte_of}
use Rattle.clr_mem.proofs.Digits.{byte_of-zero}
use Rattle.clr_types.specs.Types.{bytes_form, class_form, Form, form_at, is_array, is_reference, mt_of, references_form}
use Rattle.clr_types.specs.Types.{size_of, slot_kinds, slots_from, slots_of, structs_form, TypeRow}
use Rattle.clr_types.specs.declared.item.Item.{Item}
use Rattle.clr_heap.specs.Memories.{word_address}
use Rattle.clr_view.specs.Clean.{AreZero, HasCleanWords, IsCleanHeader, slots_end}
use Rattle.clr_view.specs.View.{has_suppressed_bit, object_in, slot_value, word_value}
use Rattle.clr_format.specs.Saved.{header_of, length_words, object_bytes, value_bytes, word_bytes, words_bytes}
use Rattle.clr_format.specs.Saved.{zero_bytes}
use Rattle.clr_save.specs.SavedWords.{words_at}
use Rattle.clr_save.proofs.WrittenCells.{whole_size}

-- n bytes from an address on
pub memory_bytes : (ℕ → ℕ) → ℕ → ℕ → List ℕ
memory_bytes word a zero = []
memory_bytes word a (suc n) = byte_of (word (word_address a)) (a % 8) ∷ memory_bytes word (a + 1) n

pub memory-append : (word : ℕ → ℕ) (a m n : ℕ) → memory_bytes word a (m + n) ≡ memory_bytes word a m
    ++ memory_bytes word (a + m) n
unfolding memory_bytes
memory-append word a zero n =
    let count : zero + n ≡ n = omega arith in
    let at : a + 0 ≡ a = omega arith in
    rw (count, at) refl
memory-append word a (suc m) n =
    let count : suc m + n ≡ suc (m + n) = omega arith in
    let at : a + 1 + m ≡ a + suc m = omega arith in
    let ih = memory-append word (a + 1) m n in
    rw (count, ih, at) refl

pub same_byte : (j n : ℕ) → byte_at j n ≡ byte_of n j
same_byte zero n = sym (byte_of-zero n)
same_byte (suc j) n = refl

-- the bytes of a word from byte j on
word_from : (word : ℕ → ℕ) (a j n : ℕ) → a % 8 ≡ 0 → j + n ≤ 8 → bytes_low_first j n (word a)
    ≡ memory_bytes word (a + j) n
unfolding memory_bytes
word_from word a j zero aligned fits = refl
word_from word a j (suc n) aligned fits =
    let at : word_address (a + j) ≡ a = omega arith in
    let digit : (a + j) % 8 ≡ j = omega arith in
    let next : a + j + 1 ≡ a + suc j = omega arith in
    let ih = word_from word a (suc j) n aligned (omega arith) in
    let byte = same_byte j (word a) in
    rw (at, digit, next, ih, byte) refl

pub word_memory : (word : ℕ → ℕ) (a : ℕ) → a % 8 ≡ 0 → word_bytes (word a) ≡ memory_bytes word a 8
unfolding word_bytes
word_memory word a aligned =
    word_from word a 0 8 aligned (omega arith) ∙ ap (λ b. memory_bytes word b 8) (let e : a + 0 ≡ a = omega arith in e)

pub words_memory : (word : ℕ → ℕ) (a n : ℕ) → a % 8 ≡ 0 → words_bytes (words_at word a n) ≡ memory_bytes word a (8 * n)
unfolding words_at memory_bytes
words_memory word a zero aligned = refl
words_memory word a (suc n) aligned =
    let count : 8 * suc n ≡ 8 + 8 * n = omega arith in
    let first = word_memory word a aligned in
    let rest = words_memory word (a + 8) n (omega arith) in
    let joined = memory-append word a 8 (8 * n) in
    ap (λ bs. bs ++ words_bytes (words_at word (a + 8) n)) first
    ∙ ap (λ bs. memory_bytes word a 8 ++ bs) rest ∙ sym joined ∙ ap (memory_bytes word a) (sym count)

-- bytes that are zero
pub zero_memory : (word : ℕ → ℕ) (low high n : ℕ) → AreZero word low high → low + n ≤ high
    → zero_bytes n ≡ memory_bytes word low n
unfolding zero_bytes memory_bytes
zero_memory word low high zero clear fits = refl
zero_memory word low high (suc n) clear fits =
    let here = clear low (omega arith) (omega arith) in
    let rest = zero_memory word (low + 1) high n (λ a l h. clear a (omega arith) h) (omega arith) in
    rw here (ap (λ bs. 0 ∷ bs) rest)

-- ---- slots

class_value : (pattern : List ℕ) (kind : Bool) (w : ℕ) → value_bytes (class_form pattern) (word_value kind w)
    ≡ word_bytes w
class_value pattern true w = refl
class_value pattern false w = refl

reference_value : (kind : Bool) (w : ℕ) → value_bytes references_form (word_value kind w) ≡ word_bytes w
reference_value true w = refl
reference_value false w = refl

struct_value : (pattern : List ℕ) (kind : Bool) (w : ℕ) → value_bytes (structs_form pattern) (word_value kind w)
    ≡ word_bytes w
struct_value pattern true w = refl
struct_value pattern false w = refl

class_slots : (word : ℕ → ℕ) (pattern : List ℕ) (p i : ℕ) (kinds : List Bool) → p % 8 ≡ 0
    → flat_map (value_bytes (class_form pattern))
    (map (slot_value (class_form pattern) word p) (slots_from (class_form pattern) i kinds))
    ≡ memory_bytes word (p + (8 + 8 * i)) (8 * length kinds)
unfolding memory_bytes
class_slots word pattern p i [] aligned = refl
class_slots word pattern p i (kind ∷ kinds) aligned =
    let first = class_value pattern kind (word (p + (8 + 8 * i))) ∙ word_memory word (p + (8 + 8 * i)) (omega arith) in
    let rest = class_slots word pattern p (i + 1) kinds aligned in
    let at : p + (8 + 8 * (i + 1)) ≡ p + (8 + 8 * i) + 8 = omega arith in
    let count : 8 * suc (length kinds) ≡ 8 + 8 * length kinds = omega arith in
    let joined = memory-append word (p + (8 + 8 * i)) 8 (8 * length kinds) in
    ap (λ bs. bs ++ flat_map (value_bytes (class_form pattern))
    (map (slot_value (class_form pattern) word p) (slots_from (class_form pattern) (i + 1) kinds))) first
    ∙ ap (λ bs. memory_bytes word (p + (8 + 8 * i)) 8 ++ bs)
    (rest ∙ ap (λ b. memory_bytes word b (8 * length kinds)) at)
    ∙ sym joined ∙ ap (memory_bytes word (p + (8 + 8 * i))) (sym count)

reference_slots : (word : ℕ → ℕ) (p i : ℕ) (kinds : List Bool) → p % 8 ≡ 0
    → flat_map (value_bytes references_form) (map (slot_value references_form word p)
    (slots_from references_form i kinds))
    ≡ memory_bytes word (p + (16 + 8 * i)) (8 * length kinds)
unfolding memory_bytes
reference_slots word p i [] aligned = refl
reference_slots word p i (kind ∷ kinds) aligned =
    let first = reference_value kind (word (p + (16 + 8 * i))) ∙ word_memory word (p + (16 + 8 * i)) (omega arith) in
    let rest = reference_slots word p (i + 1) kinds aligned in
    let at : p + (16 + 8 * (i + 1)) ≡ p + (16 + 8 * i) + 8 = omega arith in
    let count : 8 * suc (length kinds) ≡ 8 + 8 * length kinds = omega arith in
    let joined = memory-append word (p + (16 + 8 * i)) 8 (8 * length kinds) in
    ap (λ bs. bs ++ flat_map (value_bytes references_form)
    (map (slot_value references_form word p) (slots_from references_form (i + 1) kinds))) first
    ∙ ap (λ bs. memory_bytes word (p + (16 + 8 * i)) 8 ++ bs)
    (rest ∙ ap (λ b. memory_bytes word b (8 * length kinds)) at)
    ∙ sym joined ∙ ap (memory_bytes word (p + (16 + 8 * i))) (sym count)

struct_slots : (word : ℕ → ℕ) (pattern : List ℕ) (p i : ℕ) (kinds : List Bool) → p % 8 ≡ 0
    → flat_map (value_bytes (structs_form pattern))
    (map (slot_value (structs_form pattern) word p) (slots_from (structs_form pattern) i kinds))
    ≡ memory_bytes word (p + (16 + 8 * i)) (8 * length kinds)
unfolding memory_bytes
struct_slots word pattern p i [] aligned = refl
struct_slots word pattern p i (kind ∷ kinds) aligned =
    let first = struct_value pattern kind (word (p + (16 + 8 * i)))
    ∙ word_memory word (p + (16 + 8 * i)) (omega arith) in
    let rest = struct_slots word pattern p (i + 1) kinds aligned in
    let at : p + (16 + 8 * (i + 1)) ≡ p + (16 + 8 * i) + 8 = omega arith in
    let count : 8 * suc (length kinds) ≡ 8 + 8 * length kinds = omega arith in
    let joined = memory-append word (p + (16 + 8 * i)) 8 (8 * length kinds) in
    ap (λ bs. bs ++ flat_map (value_bytes (structs_form pattern))
    (map (slot_value (structs_form pattern) word p) (slots_from (structs_form pattern) (i + 1) kinds))) first
    ∙ ap (λ bs. memory_bytes word (p + (16 + 8 * i)) 8 ++ bs)
    (rest ∙ ap (λ b. memory_bytes word b (8 * length kinds)) at)
    ∙ sym joined ∙ ap (memory_bytes word (p + (16 + 8 * i))) (sym count)

byte_slots : (word : ℕ → ℕ) (p i : ℕ) (kinds : List Bool)
    → flat_map (value_bytes bytes_form) (map (slot_value bytes_form word p) (slots_from bytes_form i kinds))
    ≡ memory_bytes word (p + (16 + i)) (length kinds)
unfolding memory_bytes
byte_slots word p i [] = refl
byte_slots word p i (kind ∷ kinds) =
    let rest = byte_slots word p (i + 1) kinds in
    let at : p + (16 + (i + 1)) ≡ p + (16 + i) + 1 = omega arith in
    ap (λ bs. byte_of (word (word_address (p + (16 + i)))) ((p + (16 + i)) % 8) ∷ bs)
    (rest ∙ ap (λ b. memory_bytes word b (length kinds)) at)

-- ---- the whole

join : (word : ℕ → ℕ) (q a b c n : ℕ) (first second third : List ℕ) → first ≡ memory_bytes word q a
    → second ≡ memory_bytes word (q + a) b → third ≡ memory_bytes word (q + a + b) c → a + (b + c) ≡ n
    → first ++ (second ++ third) ≡ memory_bytes word q n
join word q a b c n first second third f s t e =
    let inner = memory-append word (q + a) b c in
    let outer = memory-append word q a (b + c) in
    ap (λ bs. bs ++ (second ++ third)) f ∙ ap (λ bs. memory_bytes word q a ++ (bs ++ third)) s
    ∙ ap (λ bs. memory_bytes word q a ++ (memory_bytes word (q + a) b ++ bs)) t
    ∙ ap (λ bs. memory_bytes word q a ++ bs) (sym inner) ∙ sym outer ∙ ap (memory_bytes word q) e

two_words : (word : ℕ → ℕ) (p header mt : ℕ) → p % 8 ≡ 0 → 8 ≤ p → header ≡ word (p - 8) → word p ≡ mt
    → words_bytes (header ∷ mt ∷ []) ≡ memory_bytes word (p - 8) 16
two_words word p header mt aligned above h m =
    let first = word_memory word (p - 8) (omega arith) in
    let second = word_memory word p aligned in
    let at : p - 8 + 8 ≡ p = omega arith in
    ap (λ w. word_bytes w ++ (word_bytes mt ++ [])) h
    ∙ ap (λ w. word_bytes (word (p - 8)) ++ (word_bytes w ++ [])) (sym m)
    ∙ ap (λ bs. bs ++ (word_bytes (word p) ++ [])) first
    ∙ ap (λ bs. memory_bytes word (p - 8) 8 ++ bs) (append-nil (word_bytes (word p)) ∙ second
    ∙ ap (λ b. memory_bytes word b 8) (sym at))
    ∙ sym (memory-append word (p - 8) 8 8)

three_words : (word : ℕ → ℕ) (p header mt len : ℕ) → p % 8 ≡ 0 → 8 ≤ p → header ≡ word (p - 8) → word p ≡ mt
    → word (p + 8) ≡ len → words_bytes (header ∷ mt ∷ len ∷ []) ≡ memory_bytes word (p - 8) 24
three_words word p header mt len aligned above h m n =
    let two = two_words word p header mt aligned above h m in
    let third = word_memory word (p + 8) (omega arith) in
    let at : p - 8 + 16 ≡ p + 8 = omega arith in
    let split : words_bytes (header ∷ mt ∷ len ∷ []) ≡ words_bytes (header ∷ mt ∷ []) ++ word_bytes len =
    simp (append_assoc, append-nil) in
    split ∙ ap (λ bs. bs ++ word_bytes len) two
    ∙ ap (λ w. memory_bytes word (p - 8) 16 ++ word_bytes w) (sym n)
    ∙ ap (λ bs. memory_bytes word (p - 8) 16 ++ bs) (third ∙ ap (λ b. memory_bytes word b 8) (sym at))
    ∙ sym (memory-append word (p - 8) 16 8)

length-repeat_kinds : (len : ℕ) (kinds : List Bool) → length (repeat len kinds) ≡ length kinds * len
length-repeat_kinds zero kinds = omega arith
length-repeat_kinds (suc len) kinds =
    let ih = length-repeat_kinds len kinds in
    let both = length-append kinds (repeat len kinds) in
    omega (arith, ih, both)

pub cell_is : (form : Form) (word : ℕ → ℕ) (p header t len : ℕ) → p % 8 ≡ 0 → 8 ≤ p → header ≡ word (p - 8)
    → word p ≡ mt_of t → (is_array form ≡ true → word (p + 8) ≡ len)
    → AreZero word (p + slots_end form len) (p + size_of form len - 8)
    → words_bytes (header ∷ mt_of t ∷ length_words form len)
    ++ (flat_map (value_bytes form) (map (slot_value form word p) (slots_of form len))
    ++ zero_bytes (size_of form len - 8 - slots_end form len)) ≡ memory_bytes word (p - 8) (size_of form len)
cell_is (class_form pattern) word p header t len aligned above h m n clear =
    let form = class_form pattern in
    let count = length-map pattern is_reference in
    let k = length pattern in
    let slots = class_slots word pattern p 0 (slot_kinds (class_form pattern) len) aligned in
    let low : p + (8 + 8 * 0) ≡ p - 8 + 16 = omega arith in
    let many : 8 * length (slot_kinds (class_form pattern) len) ≡ 8 * length pattern = omega arith in
    let end : p + slots_end (class_form pattern) len ≡ p - 8 + 16 + 8 * length pattern = omega arith in
    join word (p - 8) 16 (8 * length pattern) (size_of (class_form pattern) len - 8 - slots_end
    (class_form pattern) len)
    (size_of (class_form pattern) len) _ _ _ (two_words word p header (mt_of t) aligned above h m)
    (slots ∙ ap (λ b. memory_bytes word b (8 * length (slot_kinds (class_form pattern) len))) low
    ∙ ap (memory_bytes word (p - 8 + 16)) many)
    (zero_memory word (p + slots_end (class_form pattern) len) (p + size_of (class_form pattern) len - 8)
    (size_of (class_form pattern) len - 8 - slots_end (class_form pattern) len) clear (omega arith)
    ∙ ap (λ b. memory_bytes word b (size_of (class_form pattern) len - 8 - slots_end (class_form pattern) len)) end)
    (omega arith)
cell_is references_form word p header t len aligned above h m n clear =
    let count = length-replicate {A = Bool} len true in
    let slots = reference_slots word p 0 (slot_kinds references_form len) aligned in
    let low : p + (16 + 8 * 0) ≡ p - 8 + 24 = omega arith in
    let many : 8 * length (slot_kinds references_form len) ≡ 8 * len = omega arith in
    let end : p + slots_end references_form len ≡ p - 8 + 24 + 8 * len = omega arith in
    join word (p - 8) 24 (8 * len) (size_of references_form len - 8 - slots_end references_form len)
    (size_of references_form len) _ _ _ (three_words word p header (mt_of t) len aligned above h m (n refl))
    (slots ∙ ap (λ b. memory_bytes word b (8 * length (slot_kinds references_form len))) low
    ∙ ap (memory_bytes word (p - 8 + 24)) many)
    (zero_memory word (p + slots_end references_form len) (p + size_of references_form len - 8)
    (size_of references_form len - 8 - slots_end references_form len) clear (omega arith)
    ∙ ap (λ b. memory_bytes word b (size_of references_form len - 8 - slots_end references_form len)) end)
    (omega arith)
cell_is bytes_form word p header t len aligned above h m n clear =
    let count = length-replicate {A = Bool} len false in
    let slots = byte_slots word p 0 (slot_kinds bytes_form len) in
    let low : p + (16 + 0) ≡ p - 8 + 24 = omega arith in
    let end : p + slots_end bytes_form len ≡ p - 8 + 24 + len = omega arith in
    join word (p - 8) 24 len (size_of bytes_form len - 8 - slots_end bytes_form len)
    (size_of bytes_form len) _ _ _ (three_words word p header (mt_of t) len aligned above h m (n refl))
    (slots ∙ ap (λ b. memory_bytes word b (length (slot_kinds bytes_form len))) low
    ∙ ap (memory_bytes word (p - 8 + 24)) count)
    (zero_memory word (p + slots_end bytes_form len) (p + size_of bytes_form len - 8)
    (size_of bytes_form len - 8 - slots_end bytes_form len) clear (omega arith)
    ∙ ap (λ b. memory_bytes word b (size_of bytes_form len - 8 - slots_end bytes_form len)) end)
    (omega arith)
cell_is (structs_form pattern) word p header t len aligned above h m n clear =
    let kinds = length-map pattern is_reference in
    let count = length-repeat_kinds len (map is_reference pattern) in
    let all : length (slot_kinds (structs_form pattern) len) ≡ length pattern * len = count ∙ ap (λ k. k * len) kinds in
    let k = length pattern * len in
    let slots = struct_slots word pattern p 0 (slot_kinds (structs_form pattern) len) aligned in
    let low : p + (16 + 8 * 0) ≡ p - 8 + 24 = omega arith in
    let end : p + slots_end (structs_form pattern) len ≡ p - 8 + 24 + 8 * (length pattern * len) = omega arith in
    join word (p - 8) 24 (8 * (length pattern * len))
    (size_of (structs_form pattern) len - 8 - slots_end (structs_form pattern) len)
    (size_of (structs_form pattern) len) _ _ _ (three_words word p header (mt_of t) len aligned above h m (n refl))
    (slots ∙ ap (λ b. memory_bytes word b (8 * length (slot_kinds (structs_form pattern) len))) low
    ∙ ap (λ j. memory_bytes word (p - 8 + 24) (8 * j)) all)
    (zero_memory word (p + slots_end (structs_form pattern) len) (p + size_of (structs_form pattern) len - 8)
    (size_of (structs_form pattern) len - 8 - slots_end (structs_form pattern) len) clear (omega arith)
    ∙ ap (λ b. memory_bytes word b (size_of (structs_form pattern) len - 8 - slots_end (structs_form pattern) len)) end)
    (omega arith)

-- the header of an object says whether its finaliser is suppressed, and nothing else
header_is : (rows : List TypeRow) (t w : ℕ) → IsCleanHeader rows t w → header_of (has_suppressed_bit w) ≡ w
header_is rows t w (inl none) = rw none refl
header_is rows t w (inr set) = let is = set.0 in rw is refl

-- an object's bytes are those of its cell
pub object_is : (rows : List TypeRow) (word : ℕ → ℕ) (i : Item) → i.place % 8 ≡ 0 → 8 ≤ i.place
    → HasCleanWords rows word i → word i.place ≡ mt_of i.type_id.0
    → (is_array (form_at rows i.type_id.0) ≡ true → word (i.place + 8) ≡ i.len)
    → i.size ≡ size_of (form_at rows i.type_id.0) i.len
    → object_bytes rows (object_in rows word i) ≡ words_bytes (words_at word (i.place - 8) (i.size / 8))
object_is rows word i aligned above clean mt len size =
    let header = header_is rows i.type_id.0 (word (i.place - 8)) clean.header in
    let clear = subst (λ n. AreZero word (i.place + slots_end (form_at rows i.type_id.0) i.len) (i.place + n - 8)) size
    clean.padding in
    let whole = whole_size (form_at rows i.type_id.0) i.len in
    let count : 8 * (i.size / 8) ≡ size_of (form_at rows i.type_id.0) i.len = omega arith in
    cell_is (form_at rows i.type_id.0) word i.place _ i.type_id.0 i.len aligned above header mt len clear
    ∙ ap (memory_bytes word (i.place - 8)) (sym count)
    ∙ sym (words_memory word (i.place - 8) (i.size / 8) (omega arith))
