-- Bytes and digits at places of a text.
use Rattle.std.proofs.Common.{◌≡◌, ◌∙◌, ℕ, ◌+◌, ◌-◌, ◌*◌, ◌/◌, ◌%◌, ◌<◌, ◌≤◌, ◌^◌, List, [], ◌∷◌, ◌++◌, ap, arith}
use Rattle.std.proofs.Common.{decimal, drop, get_or, length, length-append, length-drop, refl, sym, Option, Some, None}
use Rattle.std.proofs.Common.{IfSome, append_assoc, take}
use Rattle.std.proofs.lemmas.Fmt.{decimal_digit, decimal_step, decimal_nonempty}
use Rattle.std.proofs.lemmas.List.{drop-drop, drop_more, take-append-drop, take_rest}
use Rattle.clr_nums.proofs.DecimalText.{length-decimal-most}

-- ---- bytes

-- one byte
pub one_byte : (text : List ℕ) (at after : ℕ) → after ≡ at + 1 → at < length text
    → drop at text ≡ get_or text at 0 ∷ drop after text
one_byte text at after is within =
    drop_more text at 0 within ∙ ap (λ (n : ℕ). get_or text at 0 ∷ drop n text) (sym is)

-- two bytes
pub two_bytes : (text : List ℕ) (at : ℕ) → at + 2 ≤ length text
    → drop at text ≡ get_or text at 0 ∷ get_or text (at + 1) 0 ∷ drop (at + 2) text
two_bytes text at within =
    one_byte text at (at + 1) refl (omega arith)
    ∙ ap (λ (l : List ℕ). get_or text at 0 ∷ l) (one_byte text (at + 1) (at + 2) (omega arith) (omega arith))

-- two bytes that are known
pub two_known : (text : List ℕ) (at a b : ℕ) → at + 2 ≤ length text → get_or text at 0 ≡ a
    → get_or text (at + 1) 0 ≡ b
    → drop at text ≡ a ∷ b ∷ drop (at + 2) text
two_known text at a b within first second =
    two_bytes text at within ∙ (ap (λ (n : ℕ). n ∷ get_or text (at + 1) 0 ∷ drop (at + 2) text) first
    ∙ ap (λ (n : ℕ). a ∷ n ∷ drop (at + 2) text) second)

-- four bytes that are known
pub four_known : (text : List ℕ) (at a b c d : ℕ) → at + 4 ≤ length text → get_or text at 0 ≡ a
    → get_or text (at + 1) 0 ≡ b → get_or text (at + 2) 0 ≡ c → get_or text (at + 3) 0 ≡ d
    → drop at text ≡ a ∷ b ∷ c ∷ d ∷ drop (at + 4) text
four_known text at a b c d within first second third fourth =
    two_known text at a b (omega arith) first second
    ∙ ap (λ (l : List ℕ). a ∷ b ∷ l)
    (one_byte text (at + 2) (at + 3) (omega arith) (omega arith)
    ∙ (ap (λ (n : ℕ). n ∷ drop (at + 3) text) third
    ∙ ap (λ (l : List ℕ). c ∷ l) (one_byte text (at + 3) (at + 4) (omega arith) (omega arith)
    ∙ ap (λ (n : ℕ). n ∷ drop (at + 4) text) fourth)))

-- the first four bytes of what is left
pub first_four : (text bytes : List ℕ) (at : ℕ) → at + 4 ≤ length text
    → bytes ≡ take 4 (take (length text - at) (drop at text))
    → bytes ≡ get_or text at 0 ∷ get_or text (at + 1) 0 ∷ get_or text (at + 2) 0 ∷ get_or text (at + 3) 0 ∷ []
first_four text bytes at within is =
    is ∙ ap (take 4) (take_rest text at ∙ four_known text at _ _ _ _ within refl refl refl refl)

-- ---- digits

-- a digit alone
pub digit_alone : (d : ℕ) (rest : List ℕ) → d < 10 → (48 + d) ∷ rest ≡ decimal d ++ rest
digit_alone d rest low = rw (decimal_digit d low) refl

-- and one more
pub digit_more : (n d : ℕ) (rest : List ℕ) → d < 10 → (n ≡ 0 → ⊥) → n < 10 ^ 18
    → decimal n ++ (48 + d) ∷ rest ≡ decimal (n * 10 + d) ++ rest
digit_more n d rest low some small =
    let front : (n * 10 + d) / 10 ≡ n = omega arith in
    let back : (n * 10 + d) % 10 ≡ d = omega arith in
    rw (decimal_step (n * 10 + d) (omega arith) (omega arith), front, back, append_assoc) refl

-- a number that goes on with digits ends near
pub number_near : (text : List ℕ) (front number from at : ℕ) → front < 2 ^ 64 → number < 2 ^ 64 → from ≤ length text
    → at ≤ length text
    → decimal front ++ drop from text ≡ decimal number ++ drop at text
    → at ≤ from + 19
number_near text front number from at small fits low within is =
    let one = length-append (decimal front) (drop from text) in
    let two = length-append (decimal number) (drop at text) in
    let behind = length-drop from text in
    let left = length-drop at text in
    let some = decimal_nonempty front small in
    let most = length-decimal-most number fits in
    let same = ap length is in
    omega (arith, one, two, behind, left, some, most, same)

-- ---- words

-- what stands between two places
pub slice_here : (text : List ℕ) (at end : ℕ) → at ≤ end
    → drop at text ≡ take (end - at) (drop at text) ++ drop end text
slice_here text at end up =
    let back : at + (end - at) ≡ end = omega (arith, up) in
    sym (take-append-drop (end - at) (drop at text))
    ∙ ap (λ (l : List ℕ). take (end - at) (drop at text) ++ l)
    (drop-drop (end - at) at text ∙ ap (λ (n : ℕ). drop n text) back)

-- a word that stands there
pub word_here : (text word : List ℕ) (at end : ℕ) → at ≤ end → take (end - at) (drop at text) ≡ word
    → drop at text ≡ word ++ drop end text
word_here text word at end up is =
    slice_here text at end up ∙ ap (λ (l : List ℕ). l ++ drop end text) is

-- a word of a number, of what stands before it
pub word_told : (text : List ℕ) (at next : ℕ) (front : List ℕ) (found : Option (ℕ × ℕ))
    → drop at text ≡ front ++ drop next text
    → IfSome found (λ p. (drop next text ≡ decimal p.0 ++ drop p.1 text) × (p.0 < 2 ^ 64))
    → IfSome found (λ p. (drop at text ≡ (front ++ decimal p.0) ++ drop p.1 text) × (p.0 < 2 ^ 64))
word_told text at next front None is told = tt
word_told text at next front (Some p) is told = (
  is ∙ (ap (λ (l : List ℕ). front ++ l) told.0 ∙ sym (append_assoc front (decimal p.0) (drop p.1 text))),
  told.1,
)
