-- Lines of items that are put together of a place and an end.
use Rattle.std.proofs.Common.{◌≡◌, ◌∙◌, ℕ, ◌+◌, ◌-◌, ◌<◌, ◌≤◌, List, [], ◌∷◌, ◌++◌, ap, arith, decimal, drop, length}
use Rattle.std.proofs.Common.{sym, take}
use Rattle.std.proofs.Math.Seq.{drop-append-add, drop-append_seam}
use Rattle.std.proofs.lemmas.List.{append_assoc, length-append, length-drop, take_all}
use Rattle.clr_types.specs.Types.{TypeRow, mt_of, name_of}
use Rattle.clr_types.specs.declared.item.Item.{Item}
use Rattle.clr_nums.specs.Numbers.{hex16}
use Rattle.clr_nums.proofs.HexText.{length-hex16}
use Rattle.clr_model.specs.Sos.{item_line}
use Rattle.clr_sos.specs.LineEnds.{IsLineEnd}
use Rattle.clr_sos.specs.declared.line_ends.LineEnd.{LineEnd}

-- the line of an item behind its place
abbrev behind : List TypeRow → ℕ → ℕ → List ℕ
behind rows t size =
    (32 ∷ (hex16 (mt_of t) ++ (32 ∷ (decimal size ++ (32 ∷ name_of rows t))))) ++ (10 ∷ [])

split : (a b c : List ℕ) → (a ++ b) ++ c ≡ a ++ (b ++ c)
split a b c = simp append_assoc

line-split : (rows : List TypeRow) (i : Item) → item_line rows i ≡ hex16 i.place ++ behind rows i.type_id.0 i.size
line-split rows i =
    split (hex16 i.place)
    (32 ∷ (hex16 (mt_of i.type_id.0) ++ (32 ∷ (decimal i.size ++ (32 ∷ name_of rows i.type_id.0))))) (10 ∷ [])

-- what stands behind a place of 16 digits
rest-is : (old a b : List ℕ) → length a ≡ 16 → drop (length old + 16) (old ++ (a ++ b)) ≡ b
rest-is old a b long =
    drop-append-add old (a ++ b) 16 ∙ ap (λ (n : ℕ). drop n (a ++ b)) (sym long) ∙ drop-append_seam a b

-- a part that goes to the end
pub cut-rest : (xs : List ℕ) (n : ℕ) → take (length xs - n) (drop n xs) ≡ drop n xs
cut-rest xs n = let long = length-drop n xs in take_all (length xs - n) (drop n xs) (omega (arith, long))

-- a line has room for its place
pub long-enough : (rows : List TypeRow) (old text : List ℕ) (item : Item) → text ≡ old ++ item_line rows item
    → length old + 16 ≤ length text
long-enough rows old text item put =
    let whole = ap length (put ∙ ap (λ (l : List ℕ). old ++ l) (line-split rows item)) in
    let first = length-append old (hex16 item.place ++ behind rows item.type_id.0 item.size) in
    let second = length-append (hex16 item.place) (behind rows item.type_id.0 item.size) in
    let place = length-hex16 item.place in
    omega (arith, whole, first, second, place)

-- what is kept of a line that was put is the end of those of its type and size
pub kept-ends : (rows : List TypeRow) (old text : List ℕ) (item : Item) (e : LineEnd)
    → text ≡ old ++ item_line rows item → e.type_id.0 ≡ item.type_id.0 → e.size ≡ item.size → e.count ≤ 64
    → (0 < e.count → take e.count e.bytes ≡ drop (length old + 16) text) → IsLineEnd rows e
kept-ends rows old text item e put type size within kept = record {
  within = within;
  ends = λ some i same-type same-size.
      let rest : drop (length old + 16) text ≡ behind rows item.type_id.0 item.size =
      ap (drop (length old + 16)) (put ∙ ap (λ (l : List ℕ). old ++ l) (line-split rows item))
      ∙ rest-is old (hex16 item.place) (behind rows item.type_id.0 item.size) (length-hex16 item.place) in
      let alike : behind rows item.type_id.0 item.size ≡ behind rows i.type_id.0 i.size =
      ap (λ (t : ℕ). behind rows t item.size) (sym type ∙ sym same-type)
      ∙ ap (behind rows i.type_id.0) (sym size ∙ sym same-size) in
      ap (λ (l : List ℕ). hex16 i.place ++ l) (kept some ∙ rest ∙ alike) ∙ sym (line-split rows i);
}
