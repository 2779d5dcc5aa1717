-- Items that a walk passes, one after the other, as long as they are alike.
use Rattle.std.proofs.Common.{◌≡◌, ◌≢◌, ℕ, ◌+◌, ◌-◌, ◌<◌, ◌≤◌, Bool, true, false, not, ◌&&◌, ◌==◌}
use Rattle.std.proofs.Common.{List, [], ◌∷◌, ◌++◌, refl, ap, sym, ◌∙◌, arith, append_assoc}
use Rattle.std.specs.Bool.{beq}
use Rattle.std.specs.List.{AllByRecursion}
use Rattle.clr_types.specs.Bits.{has_pin}
use Rattle.clr_types.specs.Segments.{generation}
use Rattle.clr_types.specs.Types.{TypeRow}
use Rattle.clr_types.specs.declared.item.Item.{Item}
use Rattle.clr_heap.specs.Parts.{item_at}
use Rattle.clr_heap.specs.View.{frame, HeapView, items_between, sight, word_of}
use Rattle.clr_heap.proofs.Spelling.{place-item_at}
use Rattle.clr_view.specs.Marks.{has_mark}
use Rattle.clr_view.specs.View.{is_object}
use Rattle.clr_plan.specs.Scans.{CanLook, CanScan}
use Rattle.clr_plan.proofs.Scanning.{AtItem, at_item}
use Rattle.clr_evacuate.specs.Fittings.{AreSideBySide, ArePassed, may_fit}

-- such items end where the next one begins, or above where they begin
pub side-up : (p e : ℕ) (is : List Item) → AreSideBySide p is e → p ≤ e
side-up p e [] side = omega arith
side-up p e (i ∷ is) side = let up = side-up (p + i.size) e is side.1 in omega arith

side-more : (p e : ℕ) (is : List Item) (i : Item) → AreSideBySide p is e → i.place ≡ e
    → AreSideBySide p (is ++ i ∷ []) (e + i.size)
side-more p e [] i side at = (at ∙ sym side, ap (λ (n : ℕ). n + i.size) side)
side-more p e (j ∷ is) i side at = (side.0, side-more (p + j.size) e is i side.1 at)

all-more : (P : Item → Type 0) (is : List Item) (i : Item) → AllByRecursion P is → P i
    → AllByRecursion P (is ++ i ∷ [])
all-more P [] i all one = (one, tt)
all-more P (j ∷ is) i all one = (all.0, all-more P is i all.1 one)

module _ (rows : List TypeRow) (h : HeapView) (k p e : ℕ) (may : Bool) where
  -- none is passed at first
  pub none_passed : CanScan rows h k p e → ArePassed rows h k p e may p
  none_passed scan = record {
    passed = [];
    items = refl;
    alike = tt;
    side_by_side = refl;
    scan = scan;
    within = λ l. l;
  }

  module _ (place : ℕ) (before : ArePassed rows h k p e may place) (below : place < e) where
    at : AtItem rows h k place e before.scan below
    at = at_item rows h k place e before.scan below

    abbrev item : Item
    item = item_at rows (word_of h) place

    -- the next item can be looked at
    pub can_look : CanLook rows h k place
    can_look = at.can

    -- it ends in the stretch
    pub ends_within : place + item.size ≤ e
    ends_within = at.within

    pub has_size : 24 ≤ item.size
    has_size = at.least

    -- and where it is like them, it is passed too
    pub one_passed : may_fit h item ≡ may → ArePassed rows h k p e may (place + item.size)
    one_passed same = record {
      passed = before.passed ++ item ∷ [];
      items = before.items
          ∙ ap (λ (is : List Item). before.passed ++ is) at.items
          ∙ sym (append_assoc before.passed (item ∷ []) (items_between (sight rows h k) (place + item.size) e));
      alike = all-more (λ (i : Item). may_fit h i ≡ may) before.passed item before.alike same;
      side_by_side = side-more p place before.passed item before.side_by_side (place-item_at rows (word_of h) place);
      scan = at.scan;
      within = λ l. at.within;
    }

-- what is read of an item tells whether it may go
pub look_tells : (rows : List TypeRow) (h : HeapView) (p mt : ℕ) (found : Item) → mt ≡ word_of h p
    → found ≡ item_at rows (word_of h) p
    → (((is_object found && has_mark mt) && (generation (frame h) p == 1)) && not (has_pin (word_of h (p - 8))))
    ≡ may_fit h (item_at rows (word_of h) p)
look_tells rows h p mt found word is =
    (λ j. ((is_object (is j) && has_mark (word j)) && (generation (frame h) p == 1))
    && not (has_pin (word_of h (p - 8))))
    ∙ sym (ap (λ (q : ℕ). ((is_object (item_at rows (word_of h) p) && has_mark (word_of h q))
    && (generation (frame h) q == 1)) && not (has_pin (word_of h (q - 8)))) (place-item_at rows (word_of h) p))

-- two answers that aren't told to differ are one, and others aren't
pub told-same : (a b : Bool) → not (beq a b) ≡ false → a ≡ b
told-same true true e = refl
told-same true false e = absurd cc
told-same false true e = absurd cc
told-same false false e = refl

pub told-apart : (a b : Bool) → not (beq a b) ≡ true → a ≢ b
told-apart true true e = absurd cc
told-apart true false e = λ q. absurd cc
told-apart false true e = λ q. absurd cc
told-apart false false e = absurd cc
