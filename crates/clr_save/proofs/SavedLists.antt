-- Segments and types, one more at each turn.
use Rattle.std.proofs.Common.{◌≡◌, ℕ, suc, zero, ◌≤◌, ◌<◌, ◌+◌, ◌-◌, List, [], ◌∷◌, ◌++◌, length, refl, arith, ap, sym}
use Rattle.std.proofs.Common.{◌∙◌}
use Rattle.std.proofs.Common.{append_assoc, append-nil, get_or, take, slice_get, Some}
use Rattle.std.specs.List.{flat_map}
use Rattle.std.proofs.lemmas.List.{flat_map_more, take_more, take_all}
use Rattle.clr_types.specs.Types.{TypeRow}
use Rattle.clr_heap.specs.View.{HeapView}
use Rattle.clr_format.specs.Saved.{type_bytes, word_bytes}
use Rattle.clr_save.specs.SavedWords.{bytes_of_segment, bytes_of_segments}
use Rattle.clr_save.specs.Written.{row_at}

-- ---- segments

segments_more : (rows : List TypeRow) (h : HeapView) (k n : ℕ) → bytes_of_segments rows h k (n + 1)
    ≡ bytes_of_segments rows h k n ++ bytes_of_segment rows h (k + n)
unfolding bytes_of_segments
segments_more rows h k zero =
    let at : k + 0 ≡ k = omega arith in
    append-nil (bytes_of_segment rows h k) ∙ ap (λ j. bytes_of_segment rows h j) (sym at)
segments_more rows h k (suc n) =
    let count : suc n + 1 ≡ suc (n + 1) = omega arith in
    let at : k + 1 + n ≡ k + suc n = omega arith in
    rw count (ap (λ bs. bytes_of_segment rows h k ++ bs) (segments_more rows h (k + 1) n)
    ∙ sym (append_assoc (bytes_of_segment rows h k) (bytes_of_segments rows h (k + 1) n)
    (bytes_of_segment rows h (k + 1 + n)))
    ∙ ap (λ j. (bytes_of_segment rows h k ++ bytes_of_segments rows h (k + 1) n) ++ bytes_of_segment rows h j) at)

pub no_segments : (text : List ℕ) (rows : List TypeRow) (h : HeapView) → text ≡ text ++ bytes_of_segments rows h 0 0
unfolding bytes_of_segments
no_segments text rows h = sym (append-nil text)

pub segment_more : (old text new : List ℕ) (rows : List TypeRow) (h : HeapView) (n : ℕ)
    → text ≡ old ++ bytes_of_segments rows h 0 n → new ≡ text ++ bytes_of_segment rows h n
    → new ≡ old ++ bytes_of_segments rows h 0 (n + 1)
segment_more old text new rows h n before after =
    let at : 0 + n ≡ n = omega arith in
    after ∙ ap (λ t. t ++ bytes_of_segment rows h n) before
    ∙ append_assoc old (bytes_of_segments rows h 0 n) (bytes_of_segment rows h n)
    ∙ ap (λ bs. old ++ bs) (ap (λ j. bytes_of_segments rows h 0 n ++ bytes_of_segment rows h j) (sym at)
    ∙ sym (segments_more rows h 0 n))

pub all_segments : (old text new : List ℕ) (rows : List TypeRow) (h : HeapView) (n m : ℕ) → n ≡ m
    → text ≡ old ++ word_bytes m → new ≡ text ++ bytes_of_segments rows h 0 n
    → new ≡ old ++ (word_bytes m ++ bytes_of_segments rows h 0 m)
all_segments old text new rows h n m count before after =
    after ∙ ap (λ t. t ++ bytes_of_segments rows h 0 n) before
    ∙ append_assoc old (word_bytes m) (bytes_of_segments rows h 0 n)
    ∙ ap (λ j. old ++ (word_bytes m ++ bytes_of_segments rows h 0 j)) count

-- ---- types

row_there : (rows : List TypeRow) (i : ℕ) (d : TypeRow) → i < length rows → slice_get rows i ≡ Some (get_or rows i d)
row_there [] i d h = absurd (omega arith)
row_there (row ∷ rows) zero d h = refl
row_there (row ∷ rows) (suc i) d h = row_there rows i d (omega arith)

pub row_is : (rows : List TypeRow) (i : ℕ) (d : TypeRow) → i < length rows → row_at rows (suc i) ≡ get_or rows i d
row_is rows i d h = let e = row_there rows i d h in rw e refl

pub type_more : (old text new : List ℕ) (rows : List TypeRow) (t : ℕ) → 1 ≤ t → t ≤ length rows
    → text ≡ old ++ flat_map type_bytes (take (t - 1) rows) → new ≡ text ++ type_bytes (row_at rows t)
    → new ≡ old ++ flat_map type_bytes (take (t + 1 - 1) rows)
type_more old text new rows zero low high before after = absurd (omega arith)
type_more old text new rows (suc i) low high before after =
    let d = row_at rows (suc i) in
    let here : suc i - 1 ≡ i = omega arith in
    let next : suc i + 1 - 1 ≡ i + 1 = omega arith in
    let now : text ≡ old ++ flat_map type_bytes (take i rows) = rw here at before in
    let is = row_is rows i (row_at rows (suc i)) (omega arith) in
    let taken = take_more rows i (row_at rows (suc i)) (omega arith) in
    after ∙ ap (λ t. t ++ type_bytes (row_at rows (suc i))) now
    ∙ flat_map_more type_bytes old (take i rows) (row_at rows (suc i))
    ∙ ap (λ (row : TypeRow). old ++ flat_map type_bytes (take i rows ++ row ∷ [])) is
    ∙ ap (λ (rs : List TypeRow). old ++ flat_map type_bytes rs) (sym taken)
    ∙ ap (λ j. old ++ flat_map type_bytes (take j rows)) (sym next)

pub all_types : (old text new : List ℕ) (rows : List TypeRow) (t n : ℕ) → length rows < t → n ≡ length rows
    → text ≡ old ++ word_bytes n → new ≡ text ++ flat_map type_bytes (take (t - 1) rows)
    → new ≡ old ++ (word_bytes (length rows) ++ flat_map type_bytes rows)
all_types old text new rows t n over count before after =
    after ∙ ap (λ b. b ++ flat_map type_bytes (take (t - 1) rows)) before
    ∙ append_assoc old (word_bytes n) (flat_map type_bytes (take (t - 1) rows))
    ∙ ap (λ (rs : List TypeRow). old ++ (word_bytes n ++ flat_map type_bytes rs)) (take_all (t - 1) rows (omega arith))
    ∙ ap (λ j. old ++ (word_bytes j ++ flat_map type_bytes rows)) count
