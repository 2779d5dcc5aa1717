-- Texts of four to eight bytes are equal where their first and their last four bytes are.
use Rattle.std.proofs.Common.{◌≡◌, ℕ, ◌+◌, ◌-◌, ◌<◌, ◌≤◌, true, List, [], ◌∷◌, ◌++◌, length, get_or, take, drop}
use Rattle.std.proofs.Common.{Option, Some, None, MatchOption, Bor, sym, ◌∙◌, ap, arith}
use Rattle.std.specs.Array.{IsFirstChunk, IsWholeChunk}
use Rattle.std.specs.Option.{option_eq}
use Rattle.std.specs.Str.{bytes_eq}
use Rattle.std.proofs.lemmas.List.{take-append-drop, drop-drop}
use Rattle.std.proofs.lemmas.Slice.Eq.{bytes_eq-Decides}

-- parts of two texts that are compared
abbrev pub are_equal : Option (Bor (List ℕ)) → Option (Bor (List ℕ)) → Type 0
are_equal part other = option_eq (λ x y. bytes_eq x.now y.now) part other ≡ true

pub same_front : (text other : List ℕ) (part counterpart : Option (Bor (List ℕ))) (n : ℕ) → n ≤ length text
    → MatchOption part (length text < n) (λ y. IsFirstChunk text y.now n)
    → MatchOption counterpart (length other < n) (λ y. IsFirstChunk other y.now n)
    → are_equal part counterpart → take n text ≡ take n other
same_front text other None b n long short first equal = absurd (omega arith)
same_front text other (Some x) None n long first none equal = absurd (cc equal)
same_front text other (Some x) (Some y) n long first second equal =
    sym first.same ∙ (bytes_eq-Decides x.now y.now).0 equal ∙ second.same

pub same_back : (text other : List ℕ) (part counterpart : Option (Bor (List ℕ))) (n : ℕ) → n ≤ length text
    → MatchOption part (length text < n) (λ y. (n ≤ length text) × IsWholeChunk (drop (length text - n) text) y.now n)
    → MatchOption counterpart (length other < n)
    (λ y. (n ≤ length other) × IsWholeChunk (drop (length other - n) other) y.now n)
    → are_equal part counterpart → drop (length text - n) text ≡ drop (length other - n) other
same_back text other None b n long short last equal = absurd (omega arith)
same_back text other (Some x) None n long last none equal = absurd (cc equal)
same_back text other (Some x) (Some y) n long (enough, last) (more, second) equal =
    sym last.same ∙ (bytes_eq-Decides x.now y.now).0 equal ∙ second.same

-- texts that are equal have equal parts
pub equal_front : (text other : List ℕ) (part counterpart : Option (Bor (List ℕ))) (n : ℕ) → n ≤ length text
    → MatchOption part (length text < n) (λ y. IsFirstChunk text y.now n)
    → MatchOption counterpart (length other < n) (λ y. IsFirstChunk other y.now n)
    → text ≡ other → are_equal part counterpart
equal_front text other None b n long short first same = absurd (omega arith)
equal_front text other (Some x) None n long first none same = let l = ap length same in absurd (omega arith)
equal_front text other (Some x) (Some y) n long first second same =
    (bytes_eq-Decides x.now y.now).1 (first.same ∙ ap (take n) same ∙ sym second.same)

pub equal_back : (text other : List ℕ) (part counterpart : Option (Bor (List ℕ))) (n : ℕ) → n ≤ length text
    → MatchOption part (length text < n) (λ y. (n ≤ length text) × IsWholeChunk (drop (length text - n) text) y.now n)
    → MatchOption counterpart (length other < n)
    (λ y. (n ≤ length other) × IsWholeChunk (drop (length other - n) other) y.now n)
    → text ≡ other → are_equal part counterpart
equal_back text other None b n long short last same = absurd (omega arith)
equal_back text other (Some x) None n long last none same = let l = ap length same in absurd (omega arith)
equal_back text other (Some x) (Some y) n long (enough, last) (more, second) same =
    (bytes_eq-Decides x.now y.now).1
    (last.same ∙ ap (λ (xs : List ℕ). drop (length xs - n) xs) same ∙ sym second.same)

-- texts of one byte are equal where their bytes are
pub one_byte : (text other : List ℕ) → length text ≡ 1 → length other ≡ 1 → get_or text 0 0 ≡ get_or other 0 0
    → text ≡ other
one_byte [] other one too same = absurd (omega arith)
one_byte (x ∷ text) [] one too same = absurd (omega arith)
one_byte (x ∷ y ∷ text) (z ∷ other) one too same = absurd (omega arith)
one_byte (x ∷ []) (y ∷ z ∷ other) one too same = absurd (omega arith)
one_byte (x ∷ []) (y ∷ []) one too same = ap (λ (k : ℕ). k ∷ []) same

-- the two parts overlap or meet
pub same_text : (text other : List ℕ) (n : ℕ) → length text ≡ length other → n ≤ length text → length text ≤ n + n
    → take n text ≡ take n other → drop (length text - n) text ≡ drop (length other - n) other → text ≡ other
same_text text other n count long short front back =
    let from : ℕ = length text - n in
    let rest : from + (n - from) ≡ n = omega arith in
    let last : drop from text ≡ drop from other = rw (← count) at back in
    let split = λ (xs : List ℕ). ap (λ k. drop k xs) (sym rest) ∙ sym (drop-drop (n - from) from xs) in
    let behind : drop n text ≡ drop n other = split text ∙ ap (drop (n - from)) last ∙ sym (split other) in
    sym (take-append-drop n text) ∙ ap (λ xs. xs ++ drop n text) front ∙ ap (λ xs. take n other ++ xs) behind
    ∙ take-append-drop n other
