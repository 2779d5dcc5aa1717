-- One plug is placed.
use Rattle.std.proofs.Common.{◌≡◌, ◌⊎◌, inl, inr, ℕ, ◌+◌, ◌-◌, ◌%◌, ◌<◌, ◌≤◌, Bool, true, false, ◌&&◌, leb, ltb, []}
use Rattle.std.proofs.Common.{refl, ap, ◌∙◌, arith, if◌then◌else◌}
use Rattle.std.proofs.lemmas.Bool.{and_from, le-leb, le-ltb, lt-leb, lt-ltb}
use Rattle.clr_heap.specs.Memories.{moves}
use Rattle.clr_heap.specs.View.{freed, HasHead, HeapView, word_of}
use Rattle.clr_heap.proofs.Placing.{placed_leaves}
use Rattle.clr_model.specs.Compaction.{Move}
use Rattle.clr_moves.specs.Moves.{IsGapped, landing_end}
use Rattle.clr_compact.specs.Slides.{HasFilled, HasLanded, HasMoved}

-- the head of a free item is written
pub filled_range : (h : HeapView) (top to : ℕ) → IsGapped top to → top < to → HasHead h top
    → HasFilled top to (word_of h) (word_of (freed h top (to - top)))
filled_range h top to gap low head =
    let l = placed_leaves [] h top 0 (to - top - 24) head in
    let room : top + 24 ≤ to = elim gap [ inl e ↦ absurd (omega arith) | inr far ↦ far ] in
    record {
      free = λ _. record { header = l.header; mt = l.mt; len = l.len refl };
      others = λ b z o. elim o [
        | inl below ↦ l.others b z (λ e. omega arith) (λ e. omega arith) (λ e. omega arith)
        | inr above ↦ l.others b z (λ e. omega arith) (λ e. omega arith) (λ e. omega arith)
      ];
    }

-- nothing is to be filled
pub filled_none : (top to : ℕ) (word : ℕ → ℕ) → to ≤ top → HasFilled top to word word
filled_none top to word high = record { free = λ low. absurd (omega arith); others = λ b z o. refl }

-- what a move makes of the words in its range, and outside of it
pub moves_inside : (from to n : ℕ) (old : ℕ → ℕ) (b : ℕ) → to ≤ b → b < to + n
    → moves from to n old b ≡ old (from + (b - to))
moves_inside from to n old b low high =
    ap (λ t. if t then old (from + (b - to)) else old b)
    (and_from (leb to b) (ltb b (to + n)) (le-leb to b low) (lt-ltb b (to + n) high))

pub moves_outside : (from to n : ℕ) (old : ℕ → ℕ) (b : ℕ) → (b < to) ⊎ (to + n ≤ b) → moves from to n old b ≡ old b
moves_outside from to n old b (inl below) =
    ap (λ t. if t && ltb b (to + n) then old (from + (b - to)) else old b) (lt-leb to b below)
moves_outside from to n old b (inr above) =
    ap (λ t. if leb to b && t then old (from + (b - to)) else old b) (le-ltb b (to + n) above) ∙ go (leb to b)
  where
    go : (t : Bool) → (if t && false then old (from + (b - to)) else old b) ≡ old b
    go true = refl
    go false = refl

pub moved_down : (v : Move) (was now : ℕ → ℕ) → v.to ≤ v.start → 8 ≤ v.to
    → ((b : ℕ) → b % 8 ≡ 0 → now b ≡ moves (v.start - 8) (v.to - 8) v.size was b) → HasMoved v was now
moved_down v was now lower up words = record {
  cells = λ b z low high.
      let at : v.start - 8 + (b - (v.to - 8)) ≡ b + (v.start - v.to) = omega arith in
      words b z ∙ moves_inside (v.start - 8) (v.to - 8) v.size was b (omega arith) (omega arith) ∙ ap was at;
  others = λ b z o. words b z ∙ moves_outside (v.start - 8) (v.to - 8) v.size was b
      (elim o [ inl below ↦ inl (omega arith) | inr above ↦ inr (omega arith) ]);
}

pub moved_none : (v : Move) (word : ℕ → ℕ) → v.start ≤ v.to → HasMoved v word word
moved_none v word high =
    record {
      cells = λ b z low up. let at : b ≡ b + (v.start - v.to) = omega arith in
          ap word at;
      others = λ b z o. refl;
    }

-- both together
pub landed : (v : Move) (top : ℕ) (h : HeapView) (was mid now : ℕ → ℕ) → v.to ≤ v.start
    → (v.start % 8 ≡ 0) × (v.to % 8 ≡ 0) → IsGapped top v.to → (top < v.to → HasHead h top)
    → HasFilled top v.to was mid → HasMoved v mid now → HasLanded v top was now
landed v top h was mid now lower (zs, zt) gap head fill move =
    let up : top ≤ v.to = elim gap [ inl e ↦ omega arith | inr far ↦ omega arith ] in
    record {
      cells = λ b z low high. move.cells b z low high
          ∙ fill.others (b + (v.start - v.to)) (omega arith) (inr (omega arith));
      free = λ low.
          let room : top + 24 ≤ v.to = elim gap [ inl e ↦ absurd (omega arith) | inr far ↦ far ] in
          let k = head low in
          let above = k.above in
          let f = fill.free low in
          record {
            header = move.others (top - 8) k.header.aligned (inl (omega arith)) ∙ f.header;
            mt = move.others top k.mt.aligned (inl (omega arith)) ∙ f.mt;
            len = move.others (top + 8) k.len.aligned (inl (omega arith)) ∙ f.len;
          };
      others = λ b z o. elim o [
        | inl below ↦ move.others b z (inl (omega arith)) ∙ fill.others b z (inl below)
        | inr above ↦ let size : v.to ≤ landing_end v = omega arith in
            move.others b z (inr above) ∙ fill.others b z (inr (omega arith))
      ];
    }

-- the words below an edge of one memory, and those above it of another
abbrev pub spliced : ℕ → (ℕ → ℕ) → (ℕ → ℕ) → ℕ → ℕ
spliced edge low high b = if ltb (b + 8) edge then low b else high b

-- A plug is placed in a heap that holds the words that count only below `top` and in the plug. Of those, from the
-- plug's end on all stay.
pub landed_among : (v : Move) (top : ℕ) (words mid now : ℕ → ℕ) → v.to ≤ v.start → 24 ≤ v.size
    → (v.start % 8 ≡ 0) × (v.to % 8 ≡ 0) → top % 8 ≡ 0 → IsGapped top v.to
    → ((b : ℕ) → b % 8 ≡ 0 → b + 8 < top → mid b ≡ words b)
    → ((b : ℕ) → b % 8 ≡ 0 → v.start ≤ b + 8 → b + 8 < v.start + v.size → mid b ≡ words b)
    → HasLanded v top mid now → HasLanded v top words (spliced (landing_end v) now words)
landed_among v top words mid now lower least (zs, zt) z gap below source l =
    let up : top ≤ v.to = elim gap [ inl e ↦ omega arith | inr far ↦ omega arith ] in
    record {
      cells = λ b zb low high. low_word b high ∙ l.cells b zb low high
          ∙ source (b + (v.start - v.to)) (omega arith) (omega arith) (omega arith);
      free = λ some.
          let room : top + 24 ≤ v.to = elim gap [ inl e ↦ absurd (omega arith) | inr far ↦ far ] in
          let f = l.free some in
          record {
            header = low_word (top - 8) (omega arith) ∙ f.header;
            mt = low_word top (omega arith) ∙ f.mt;
            len = low_word (top + 8) (omega arith) ∙ f.len;
          };
      others = λ b zb o. elim o [
        | inl under ↦ low_word b (omega arith) ∙ l.others b zb (inl under) ∙ below b zb under
        | inr above ↦ ap (λ t. if t then now b else words b) (le-ltb (b + 8) (landing_end v) above)
      ];
    }
  where
    low_word : (b : ℕ) → b + 8 < landing_end v → spliced (landing_end v) now words b ≡ now b
    low_word b high = ap (λ t. if t then now b else words b) (lt-ltb (b + 8) (landing_end v) high)
