-- Items that are spelled at other places, and pieces that words spell.
use Rattle.std.proofs.Common.{◌≡◌, ℕ, ◌+◌, ◌≤◌, List, [], ◌∷◌, ◌⊎◌, inl, inr, map, sym, ap, ap₂, subst, ◌∙◌, arith}
use Rattle.std.proofs.Common.{None, Some, if◌then◌else◌}
use Rattle.clr_types.specs.Rising.{IsIn, first, later}
use Rattle.clr_types.specs.Ranges.{Piece, piece_end, Tiles}
use Rattle.clr_types.specs.Types.{TypeRow, form_at, is_array, size_of}
use Rattle.clr_types.specs.declared.item.Item.{Item}
use Rattle.clr_heap.specs.Parts.{hole_from, IsBoundary, item_at, item_part, item_parts, items_in, length_at, NamesItem}
use Rattle.clr_heap.specs.Parts.{Part, rest_part, Sight, Spells, type_number}
use Rattle.clr_heap.proofs.Spelling.{item_size}

module _ (rows : List TypeRow) (was now : ℕ → ℕ) (p q : ℕ) (mt : now p ≡ was q) (len : now (p + 8) ≡ was (q + 8)) where
  length_moved : length_at rows now p ≡ length_at rows was q
  unfolding length_at
  length_moved = ap₂ (λ (w l : ℕ). if is_array (form_at rows (type_number w)) then l else 0) mt len

  -- the item is the same at its new place
  pub item_moved : item_at rows now p ≡ record (item_at rows was q) { place = p }
  unfolding item_at
  item_moved =
      let n = length_moved in
      λ k. record {
        place = p;
        size = size_of (form_at rows (type_number (mt k))) (n k);
        type_id = record { 0 = type_number (mt k) };
        len = n k;
      }

  pub names_moved : NamesItem rows was q → NamesItem rows now p
  names_moved names =
      let size : (item_at rows now p).size ≡ (item_at rows was q).size = ap (λ (i : Item). i.size) item_moved in
      record {
        known = rw mt names.known;
        mt = rw mt names.mt;
        least = rw size names.least;
        most = rw size names.most;
        whole = rw size names.whole;
        free = λ e. rw len (names.free (sym (ap type_number mt) ∙ e));
      }

-- the words spell an item over a piece
pub record SpellsPiece (rows : List TypeRow) (word : ℕ → ℕ) (p : Piece) : Type 0 where
  pub names : NamesItem rows word p.place
  pub size : (item_at rows word p.place).size ≡ p.size

-- the items over pieces
abbrev pub items_over : List TypeRow → (ℕ → ℕ) → List Piece → List Item
items_over rows word ps = map (λ (p : Piece). item_at rows word p.place) ps

-- PIECES THAT TILE, each with an item, are spelled
pub tiles_spelled : (s : Sight) (low high : ℕ) (ps : List Piece) → Tiles low high ps
    → ((q : ℕ) → hole_from s.holes q ≡ None) → ((p : Piece) → IsIn p ps → SpellsPiece s.rows s.word p)
    → Spells s low (item_parts (items_over s.rows s.word ps)) high
tiles_spelled s low high [] t none each = t
tiles_spelled s low high (p ∷ ps) t none each =
    let is = each p first in
    let at : p.place ≡ low = t.0 in
    let end : piece_end p ≡ low + (item_at s.rows s.word p.place).size = let size = is.size in omega arith in
    let more = tiles_spelled s (piece_end p) high ps t.2 none (λ q i. each q (later i)) in (
      none low,
      ap (item_at s.rows s.word) at,
      subst (NamesItem s.rows s.word) at is.names,
      subst (λ n. Spells s n (item_parts (items_over s.rows s.word ps)) high) end more,
    )

-- a place that no item crosses is a boundary
pub boundary_at : (s : Sight) (ps : List Part) (p e x : ℕ) → Spells s p ps e → ((q : ℕ) → hole_from s.holes q ≡ None)
    → p ≤ x → x ≤ e → ((i : Item) → IsIn i (items_in ps) → (x ≤ i.place) ⊎ (i.place + i.size ≤ x)) → IsBoundary ps p x
boundary_at s [] p e x h none low high whole = let end : p ≡ e = h in omega arith
boundary_at s (item_part i ∷ ps) p e x h none low high whole =
    let f = item_size s i p h.1 h.2 in
    let next : i.place + i.size ≡ p + i.size = omega arith in
    elim (whole i first) [
      | inl above ↦ inl (omega arith)
      | inr below ↦ inr
          (subst (λ n. IsBoundary ps n x) (sym next)
          (boundary_at s ps (p + i.size) e x h.3 none (omega arith) high (λ j l. whole j (later l))))
    ]
boundary_at s (rest_part lo hi ∷ ps) p e x h none low high whole = let clash : None ≡ Some hi = sym (none p) ∙ h.1 in
    absurd cc
