-- From window to window.
use Rattle.std.proofs.Common.{◌≡◌, ℕ, ◌<◌, ◌&&◌, ◌||◌, not, nat_lt, Bool, true, false, List, [], ◌∷◌, filter, Option}
use Rattle.std.proofs.Common.{None, refl, sym, ◌∙◌, ap, arith}
use Rattle.std.specs.List.{list_all}
use Rattle.clr_types.specs.Types.{TypeRow}
use Rattle.clr_types.specs.declared.item.Item.{Item}
use Rattle.clr_heap.specs.View.{heap_items, HeapView, word_of}
use Rattle.clr_sos.specs.Faults.{is_name, lowest}
use Rattle.clr_sos.specs.Windows.{in_window, is_bad_before, is_bad_in}
use Rattle.clr_sos.specs.declared.verify.windows.Window.{Window}
use Rattle.clr_sos.proofs.ListTests.{all_true, filter-none}
use Rattle.clr_sos.proofs.JudgedNames.{lowest-either, lowest-none}

-- what was judged before a window and in it, of what is wrong
pub wrong_step : (b : Bool) (window : Window) (from : ℕ) → window.from ≡ from
    → (window.last ≡ false → from < window.end) → (w : ℕ)
    → ((nat_lt w window.end || not (not window.last)) && b)
    ≡ (((nat_lt w from || not true) && b) || (in_window window w && b))
wrong_step b window from at further w = go window.last refl
  where
    go : (last : Bool) → window.last ≡ last
        → ((nat_lt w window.end || not (not window.last)) && b)
        ≡ (((nat_lt w from || not true) && b) || (in_window window w && b))
    go true on = rw on (grind (arith, at))
    go false off = let l = further off in rw off (grind (arith, at, l))

before_step : (items : List Item) (window : Window) (from : ℕ) → window.from ≡ from
    → (window.last ≡ false → from < window.end) → (w : ℕ)
    → is_bad_before items window.end (not window.last) w ≡ (is_bad_before items from true w || is_bad_in items window w)
before_step items window from at further w = wrong_step (not (is_name items w)) window from at further w

-- where the windows are over all that is wrong was judged
pub wrong_end : (a b : Bool) → ((a || not false) && b) ≡ b
wrong_end true b = refl
wrong_end false b = refl

pub before_apart : (items : List Item) (window : Window) (from w : ℕ) → window.from ≡ from
    → is_bad_before items from true w ≡ true → is_bad_in items window w ≡ false
before_apart items window from w at e = grind (arith, at, e)

-- ---- the start

pub nothing_yet : (b : Bool) (w : ℕ) → ((nat_lt w 0 || not true) && b) ≡ false
nothing_yet b w = let low : nat_lt w 0 ≡ false = grind arith in rw low refl

pub nothing-before : (items : List Item) (w : ℕ) → is_bad_before items 0 true w ≡ false
nothing-before items w = nothing_yet (not (is_name items w)) w

pub low_starts : (items : List Item) (word : ℕ → ℕ) (xs : List ℕ)
    → None ≡ lowest None (filter (λ a. is_bad_before items 0 true (word a)) xs)
low_starts items word xs =
    sym (ap (lowest None)
    (filter-none (λ a. is_bad_before items 0 true (word a)) xs (λ a m. nothing-before items (word a)))
    ∙ lowest-none None)

pub good_starts : (items : List Item) (locals : List ℕ)
    → true ≡ list_all (λ name. not (is_bad_before items 0 true name)) locals
good_starts items locals =
    sym (all_true (λ name. not (is_bad_before items 0 true name)) locals (λ x m. ap not (nothing-before items x)))

-- ---- a window

pub all-both : (s t u : ℕ → Bool) → ((a : ℕ) → u a ≡ (s a || t a)) → (xs : List ℕ)
    → (list_all (λ x. not (s x)) xs && list_all (λ x. not (t x)) xs) ≡ list_all (λ x. not (u x)) xs
all-both s t u is [] = refl
all-both s t u is (x ∷ xs) =
    rw (is x)
    (go (s x) (t x) (list_all (λ y. not (s y)) xs) (list_all (λ y. not (t y)) xs)
    ∙ ap (λ (b : Bool). not (s x || t x) && b) (all-both s t u is xs))
  where
    go : (a b p q : Bool) → ((not a && p) && (not b && q)) ≡ (not (a || b) && (p && q))
    go true b p q = refl
    go false true true q = refl
    go false true false q = refl
    go false false p q = refl

module _ (rows : List TypeRow) (h : HeapView) (window : Window) (from : ℕ) (at : window.from ≡ from)
    (further : window.last ≡ false → from < window.end) where
  abbrev items : List Item
  items = heap_items rows h

  pub low_step : (low next : Option ℕ) (xs : List ℕ)
      → low ≡ lowest None (filter (λ a. is_bad_before items from true (word_of h a)) xs)
      → next ≡ lowest low (filter (λ a. is_bad_in items window (word_of h a)) xs)
      → next ≡ lowest None (filter (λ a. is_bad_before items window.end (not window.last) (word_of h a)) xs)
  low_step low next xs e f =
      f ∙ ap (λ (o : Option ℕ). lowest o (filter (λ a. is_bad_in items window (word_of h a)) xs)) e
      ∙ lowest-either (λ a. is_bad_before items from true (word_of h a)) (λ a. is_bad_in items window (word_of h a))
      (λ a. is_bad_before items window.end (not window.last) (word_of h a))
      (λ a. before_step items window from at further (word_of h a))
      (λ a p. before_apart items window from (word_of h a) at p) None xs

  pub good_step : (good fine : Bool) (locals : List ℕ)
      → good ≡ list_all (λ name. not (is_bad_before items from true name)) locals
      → fine ≡ (good && list_all (λ name. not (is_bad_in items window name)) locals)
      → fine ≡ list_all (λ name. not (is_bad_before items window.end (not window.last) name)) locals
  good_step good fine locals e f =
      f ∙ ap (λ (b : Bool). b && list_all (λ name. not (is_bad_in items window name)) locals) e
      ∙ all-both (is_bad_before items from true) (is_bad_in items window)
      (is_bad_before items window.end (not window.last))
      (λ w. before_step items window from at further w) locals
