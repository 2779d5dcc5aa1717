-- What is written behind the front of a list of bytes.
use Rattle.std.proofs.Common.{◌≡◌, ◌∙◌, sym, ℕ, ◌+◌, ◌≤◌, List, ◌++◌, take, length, ap}
use Rattle.std.proofs.Math.Seq.{take-append-add}
use Rattle.std.proofs.lemmas.List.{take-append-le, length-take-le}
use borrow.Rule.Slice.PartMut.{put_mid, post_of}

-- the text and the first bytes of what was written behind it
pub front_written : (bytes new text : List ℕ) (len room count : ℕ) → len ≤ length bytes → count ≤ length new
    → take count new ≡ text → take (len + count) (put_mid len room bytes new) ≡ take len bytes ++ text
front_written bytes new text len room count within few is =
    let front : length (take len bytes) ≡ len = length-take-le len bytes within in
    let whole = put_mid len room bytes new in
    let behind = new ++ post_of len room bytes in
    ap (λ n. take (n + count) whole) (sym front) ∙ (take-append-add (take len bytes) behind count
    ∙ ap (λ l. take len bytes ++ l) (take-append-le count new (post_of len room bytes) few ∙ is))
