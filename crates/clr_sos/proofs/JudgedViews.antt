-- What is found of the names of a view, from window to window.
use Rattle.std.proofs.Common.{◌≡◌, ◌↔◌, ℕ, ◌<◌, ◌&&◌, ◌||◌, not, nat_lt, Bool, true, false, List, None}
use Rattle.std.proofs.Common.{refl, sym, ◌∙◌, ap, ap₂}
use Rattle.std.specs.List.{list_all}
use Rattle.std.specs.FinMap as finmap
use Rattle.clr_types.specs.Types.{TypeRow}
use Rattle.clr_types.specs.declared.item.Item.{Item}
use Rattle.clr_handles.specs.Tables.{Table}
use Rattle.clr_heap.specs.View.{heap_items, HeapView, word_of}
use Rattle.clr_sos.specs.Faults.{addresses, is_name}
use Rattle.clr_sos.specs.JudgedTables.{are_final_before, are_final_in, AreJudged, HasJudged, is_final}
use Rattle.clr_sos.specs.JudgedTables.{is_unfinal_before, is_unfinal_in, IsJudgedBefore, NamesNone}
use Rattle.clr_sos.specs.Windows.{is_bad_before, is_bad_by, is_bad_in, IsJudging}
use Rattle.clr_sos.specs.declared.verify.names.Names.{Names}
use Rattle.clr_sos.specs.declared.verify.windows.Window.{Window}
use Rattle.clr_sos.specs.declared.view.View.{View}
use Rattle.clr_sos.proofs.JudgedNames.{bad_is, lowest-same}
use Rattle.clr_sos.proofs.ListTests.{all_agree, all_true}
use Rattle.clr_sos.proofs.WindowBounds.{all-both, good_starts, good_step, low_starts, low_step, nothing-before}
use Rattle.clr_sos.proofs.WindowBounds.{nothing_yet, wrong_end, wrong_step}

-- ---- in a window

-- locals that are judged by bits
pub good_by_bits : (rows : List TypeRow) (h : HeapView) (window : Window) (bits : List ℕ) → IsJudging rows h window bits
    → (locals : List ℕ)
    → list_all (λ x. not (is_bad_by window bits x)) locals
    ≡ list_all (λ x. not (is_bad_in (heap_items rows h) window x)) locals
good_by_bits rows h window bits j locals =
    all_agree (λ x. not (is_bad_by window bits x)) (λ x. not (is_bad_in (heap_items rows h) window x))
    (λ x. ap not (bad_is rows h window bits j x)) locals

-- ---- handles

names_none : (s t u : ℕ → Bool) → ((a : ℕ) → u a ≡ (s a || t a)) → (handles : Table)
    → NamesNone handles u ↔ (NamesNone handles s × NamesNone handles t)
names_none s t u is handles = (
  λ none. (
    λ k row e. let n = none k row e in (first-off row.target n.0, first-off row.second n.1),
    λ k row e. let n = none k row e in (last-off row.target n.0, last-off row.second n.1),
  ),
  λ both k row e. let m = both.0 k row e in let n = both.1 k row e in (
    both-off row.target m.0 n.0,
    both-off row.second m.1 n.1,
  ),
)
  where
    first-off : (a : ℕ) → u a ≡ false → s a ≡ false
    first-off a off = go (s a) (sym (is a) ∙ off)
      where
        go : (b : Bool) → (b || t a) ≡ false → b ≡ false
        go true e = e
        go false e = refl

    last-off : (a : ℕ) → u a ≡ false → t a ≡ false
    last-off a off = go (s a) (sym (is a) ∙ off)
      where
        go : (b : Bool) → (b || t a) ≡ false → t a ≡ false
        go true e = absurd cc
        go false e = e

    both-off : (a : ℕ) → s a ≡ false → t a ≡ false → u a ≡ false
    both-off a e f = is a ∙ ap (λ (b : Bool). b || t a) e ∙ f

-- ---- from window to window

module _ (v : View) where
  abbrev items : List Item
  items = heap_items v.types.now v.heap.now

  abbrev unfinal : ℕ → Bool
  unfinal x = not (is_final v.types.now items x)

  pub judged_starts : IsJudgedBefore v 0 true (record { low = None; locals = true; handles = true; finals = true })
  judged_starts = record {
    low = low_starts items (word_of v.heap.now) (addresses v.types.now items);
    locals = good_starts items v.locals.now;
    handles = (λ e k row used. (nothing-before items row.target, nothing-before items row.second), λ none. refl);
    finals = ap₂ (λ (a b : Bool). a && b) (starts v.finals.now.entries) (starts v.finals.now.ready);
  }
    where
      starts : (places : List ℕ) → true ≡ are_final_before v.types.now items 0 true places
      starts places =
          sym (all_true (λ x. not (is_unfinal_before v.types.now items 0 true x)) places
          (λ x m. ap not (nothing_yet (unfinal x) x)))

  module _ (window : Window) (from : ℕ) (at : window.from ≡ from)
      (further : window.last ≡ false → from < window.end) where
    finals_step : (places : List ℕ)
        → (are_final_before v.types.now items from true places && are_final_in v.types.now items window places)
        ≡ are_final_before v.types.now items window.end (not window.last) places
    finals_step places =
        all-both (is_unfinal_before v.types.now items from true) (is_unfinal_in v.types.now items window)
        (is_unfinal_before v.types.now items window.end (not window.last))
        (λ x. wrong_step (unfinal x) window from at further x) places

    pub judged_step : (old new : Names) → IsJudgedBefore v from true old → HasJudged v window old new
        → IsJudgedBefore v window.end (not window.last) new
    judged_step old new before now =
        let none =
        names_none (is_bad_before items from true) (is_bad_in items window)
        (is_bad_before items window.end (not window.last))
        (λ x. wrong_step (not (is_name items x)) window from at further x) v.handles.now in
        record {
          low = low_step v.types.now v.heap.now window from at further old.low new.low (addresses v.types.now items)
              before.low now.low;
          locals = good_step v.types.now v.heap.now window from at further old.locals new.locals v.locals.now
              before.locals now.locals;
          handles = (
            λ e. let p = now.handles.0 e in none.1 (before.handles.0 p.0, p.1),
            λ n. let p = none.0 n in now.handles.1 (before.handles.1 p.0, p.1),
          );
          finals =
              now.finals
              ∙ ap (λ (b : Bool). b && (are_final_in v.types.now items window v.finals.now.entries
              && are_final_in v.types.now items window v.finals.now.ready)) before.finals
              ∙ crossed (are_final_before v.types.now items from true v.finals.now.entries)
              (are_final_before v.types.now items from true v.finals.now.ready)
              (are_final_in v.types.now items window v.finals.now.entries)
              (are_final_in v.types.now items window v.finals.now.ready)
              ∙ ap₂ (λ (a b : Bool). a && b) (finals_step v.finals.now.entries) (finals_step v.finals.now.ready);
        }
      where
        crossed : (a b p q : Bool) → ((a && b) && (p && q)) ≡ ((a && p) && (b && q))
        crossed true true true q = refl
        crossed true true false q = refl
        crossed true false true q = refl
        crossed true false false q = refl
        crossed false b p q = refl

  -- where the windows are over all names were judged
  pub judged_all : (from : ℕ) (names : Names) → IsJudgedBefore v from false names → AreJudged v names
  judged_all from names all = record {
    low =
        all.low
        ∙ lowest-same (λ a. is_bad_before items from false (word_of v.heap.now a))
        (λ a. not (is_name items (word_of v.heap.now a)))
        (λ a. wrong_end (nat_lt (word_of v.heap.now a) from) (not (is_name items (word_of v.heap.now a)))) None
        (addresses v.types.now items);
    locals =
        all.locals
        ∙ all_agree (λ x. not (is_bad_before items from false x)) (is_name items)
        (λ x. ap not (wrong_end (nat_lt x from) (not (is_name items x))) ∙ twice (is_name items x)) v.locals.now;
    handles = (
      λ e k row used. let n = all.handles.0 e k row used in (
        sym (wrong_end (nat_lt row.target from) (not (is_name items row.target))) ∙ n.0,
        sym (wrong_end (nat_lt row.second from) (not (is_name items row.second))) ∙ n.1,
      ),
      λ none. all.handles.1 (λ k row used. let n = none k row used in (
        wrong_end (nat_lt row.target from) (not (is_name items row.target)) ∙ n.0,
        wrong_end (nat_lt row.second from) (not (is_name items row.second)) ∙ n.1,
      )),
    );
    finals =
        all.finals ∙ ap₂ (λ (a b : Bool). a && b) (final_all v.finals.now.entries) (final_all v.finals.now.ready);
  }
    where
      twice : (b : Bool) → not (not b) ≡ b
      twice true = refl
      twice false = refl

      final_all : (places : List ℕ)
          → are_final_before v.types.now items from false places ≡ list_all (is_final v.types.now items) places
      final_all places =
          all_agree (λ x. not (is_unfinal_before v.types.now items from false x)) (is_final v.types.now items)
          (λ x. ap not (wrong_end (nat_lt x from) (unfinal x)) ∙ twice (is_final v.types.now items x)) places
