-- Line feeds that a search finds.
use Rattle.std.proofs.Common.{◌≡◌, ◌≢◌, ◌∙◌, ℕ, zero, suc, ◌+◌, ◌<◌, ◌≤◌, List, [], ◌∷◌, ◌++◌, length, take, drop, sym}
use Rattle.std.proofs.Common.{ap, arith, ◌-◌, append_assoc, length-drop, take-add}
use Rattle.std.proofs.lemmas.Bool.{eqb-true, eq-eqb}
use Rattle.std.proofs.lemmas.List.{take_more, take_all, take_rest, take-append-drop}
use Rattle.std.specs.Prelude.{slice_index, Option, Some, None, MatchOption}
use Rattle.memchr.specs.Find.{IsFirstByte, Nowhere, Passes, is_byte}
use Rattle.clr_script.specs.Fronts.{IsUnfed}
use Rattle.clr_session.specs.LineStretch.{IsFirstFeed}

-- bytes of which the first n are no line feeds
unfed_below : (bytes : List ℕ) (n : ℕ) → n ≤ length bytes → ((k : ℕ) → k < n → slice_index bytes k ≢ 10)
    → IsUnfed (take n bytes)
unfed_below bytes zero le none = tt
unfed_below [] (suc n) le none = absurd (omega arith)
unfed_below (b ∷ bytes) (suc n) le none = (
  none 0 (omega arith),
  unfed_below bytes n (omega arith) (λ k lt. none (suc k) (omega arith)),
)

none_feeds : (bytes : List ℕ) (n : ℕ) → Nowhere (Passes (is_byte 10) bytes) 0 n → (k : ℕ) → k < n
    → slice_index bytes k ≢ 10
none_feeds bytes n none k lt e = none k (omega arith) lt (eq-eqb (slice_index bytes k) 10 e)

-- what a search for a line feed finds
pub first_feed : (bytes : List ℕ) (found : Option ℕ) → IsFirstByte (is_byte 10) bytes found
    → MatchOption found (IsUnfed bytes) (IsFirstFeed bytes)
first_feed bytes None h = rw (take_all (length bytes) bytes (omega arith)) at
    (unfed_below bytes (length bytes) (omega arith) (none_feeds bytes (length bytes) h))
first_feed bytes (Some at) h =
    let within : at < length bytes = h.0.high in
    let here : slice_index bytes at ≡ 10 = eqb-true (slice_index bytes at) 10 h.1 in
    record {
      within = within;
      before = unfed_below bytes at (omega arith) (none_feeds bytes at h.0.before);
      here = take_more bytes at 0 within ∙ ap (λ (b : ℕ). take at bytes ++ b ∷ []) here;
    }

-- the line that ends in a piece behind its first bytes
pub record PieceLine (piece : List ℕ) (from at : ℕ) : Type 0 where
  pub within : from + (at + 1) ≤ length piece
  pub unfed : IsUnfed (take ((from + at) - from) (drop from piece))
  pub whole : take (from + (at + 1)) piece ≡ take from piece ++ (take ((from + at) - from) (drop from piece) ++ 10 ∷ [])
  pub split : piece ≡ take from piece ++ ((take ((from + at) - from) (drop from piece) ++ 10 ∷ [])
      ++ drop (from + (at + 1)) piece)

pub piece_line : (piece : List ℕ) (from at : ℕ) → from ≤ length piece
    → IsFirstFeed (take (length piece - from) (drop from piece)) at → PieceLine piece from at
piece_line piece from at low h =
    let rest : take (length piece - from) (drop from piece) ≡ drop from piece = take_rest piece from in
    let first : IsFirstFeed (drop from piece) at = rw rest at h in
    let long = length-drop from piece in
    let inside = first.within in
    let same : (from + at) - from ≡ at = omega arith in
    let whole : take (from + (at + 1)) piece ≡ take from piece ++ (take at (drop from piece) ++ 10 ∷ []) =
    take-add from (at + 1) piece ∙ ap (λ more. take from piece ++ more) first.here in
    record {
      within = omega (arith, long, inside);
      unfed = rw same first.before;
      whole = rw same whole;
      split = rw same (sym (take-append-drop (from + (at + 1)) piece)
          ∙ (ap (λ front. front ++ drop (from + (at + 1)) piece) whole
          ∙ append_assoc (take from piece) (take at (drop from piece) ++ 10 ∷ []) (drop (from + (at + 1)) piece)));
    }
