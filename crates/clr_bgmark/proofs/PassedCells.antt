-- What a search tells of a cell over which it passes, as it is told of the place there.
use Rattle.std.proofs.Common.{◌≡◌, ℕ, ◌+◌, ◌-◌, ◌*◌, ◌/◌, ◌%◌, ◌<◌, ◌≤◌, List, false, true, ap, arith, get_or, subst}
use Rattle.std.proofs.Common.{inl, inr, sym, ◌∙◌, ◌&&◌, not}
use Rattle.std.specs.List.{AllByRecursion}
use Rattle.std.proofs.lemmas.Bool.{both_ways, cases_Bool}
use Rattle.clr_bgmark.specs.Bits.{has_bit}
use Rattle.clr_bgmark.specs.Pauses.{IsClear, IsUnlogged, Passes, PassesCell}
use Rattle.clr_bgmark.specs.Shades.{AreApart, card_of, cell_of, covers, is_gray_cell, is_logged, is_marked, IsAt}
use Rattle.clr_bgmark.specs.Shades.{IsShade, ShadeView}
use Rattle.clr_bgmark.specs.declared.shade.Search.{Search}
use Rattle.clr_bgmark.specs.declared.shade.Search.TheVariants.{Gray, Logged}
use Rattle.clr_bgmark.proofs.GrayPlaces.{covers_told}
use Rattle.clr_bgmark.proofs.Kept.{covers_inside, inside_covers, IsInside}
use Rattle.clr_bgmark.proofs.Lookups.{all_get, at_told, at_within, read_covers}

-- the mark of a place, read in its segment
pub marked_in : (ss : List ShadeView) (k b : ℕ) (s : ShadeView) → s ≡ get_or ss k s → IsAt ss k b
    → has_bit s.marked (cell_of s b) ≡ is_marked ss b
marked_in ss k b s read at =
    ap (λ (t : ShadeView). has_bit t.marked (cell_of t b)) read
    ∙ sym (at_told (λ s a. has_bit s.marked (cell_of s a)) ss k b s at)

module _ (ss : List ShadeView) (apart : AreApart ss) (all : AllByRecursion IsShade ss) (k b : ℕ) (s : ShadeView)
    (read : s ≡ get_or ss k s) (at : IsAt ss k b) where
  shade : IsShade s
  shade = subst IsShade (sym read) (all_get IsShade ss k b s all at)

  inside : IsInside s b
  inside = covers_inside s b (read_covers ss k b s read at)

  -- what lies between the place and the end of the segment is there, too
  above : (a : ℕ) → b ≤ a → a < s.base + s.size → IsAt ss k a
  above a up high =
      let low = inside.low in
      covers_told ss k a s read apart (at_within ss k b at)
      (inside_covers s a (record { low = omega (arith, low, up); high = high }))

  -- behind it nothing is logged up to the next place
  clear_at : IsUnlogged s (cell_of s b) → IsClear ss b
  clear_at u =
      let base = shade.base in
      let low = inside.low in
      let high = inside.high in
      let further = u.further in
      let within = u.within in
      let next : ℕ = s.base + 8 * u.next in
      let top : next < s.base + s.size = omega (arith, within) in
      let over : b < next = omega (arith, low, further) in
      let there : IsAt ss k next = above next (omega (arith, over)) top in
      let cell : cell_of s next ≡ u.next = omega arith in
      record {
        next = next;
        found = (
          omega (arith, base),
          sym (marked_in ss k next s read there) ∙ ap (has_bit s.marked) cell ∙ u.marked,
        );
        further = over;
        clear = λ a from to.
            at_told (λ s a. has_bit s.logged (card_of s a)) ss k a s (above a from (omega (arith, to, top)))
            ∙ ap (λ (t : ShadeView). has_bit t.logged (card_of t a)) (sym read)
            ∙ u.clear (card_of s a) (omega (arith, from, low)) (omega (arith, from, low, to));
      }

pub passes_at : (search : Search) (ss : List ShadeView) → AreApart ss → AllByRecursion IsShade ss → (k b : ℕ)
    → (s : ShadeView) → s ≡ get_or ss k s → IsAt ss k b → PassesCell search s (cell_of s b) → Passes search ss b
passes_at Gray ss apart all k b s read at p =
    at_told (λ s a. has_bit s.scanned (cell_of s a)) ss k b s at
    ∙ ap (λ (t : ShadeView). has_bit t.scanned (cell_of t b)) (sym read) ∙ p
passes_at Logged ss apart all k b s read at p = clear_at ss apart all k b s read at p

-- ---- the search in one segment

-- a marked cell that isn't gray was scanned
pub scanned_cell : (s : ShadeView) (i : ℕ) → is_gray_cell s i ≡ false → has_bit s.marked i ≡ true
    → has_bit s.scanned i ≡ true
scanned_cell s i never marked = elim (cases_Bool (has_bit s.scanned i)) [
  | inl on ↦ on
  | inr off ↦ absurd (both_ways (is_gray_cell s i) never (λ j. marked j && not (off j)))
]

-- below the last marked cell before a logged card nothing is logged up to it
pub unlogged_below : (s : ShadeView) (start card : ℕ) → card ≤ s.size / 2048
    → ((k : ℕ) → start / 256 ≤ k → k < card → has_bit s.logged k ≡ false) → (n : ℕ) → n < 256 * card
    → has_bit s.marked n ≡ true → (i : ℕ) → start ≤ i → i < n → has_bit s.marked i ≡ true → IsUnlogged s i
unlogged_below s start card few clear n below marked i low further here = record {
  next = n;
  further = further;
  within = omega (arith, few, below);
  marked = marked;
  clear = λ k from to. clear k (omega (arith, low, from)) (omega (arith, to, below));
}
