-- The trees of some bricks, one after the other.
use Rattle.std.proofs.Common.{◌≡◌, inl, inr, ℕ, zero, suc, ◌+◌, ◌-◌, ◌*◌, ◌/◌, ◌<◌, ◌≤◌, true, false, List, []}
use Rattle.std.proofs.Common.{◌++◌, length, map, refl, ap, sym, ◌∙◌, subst, arith}
use Rattle.std.proofs.lemmas.Bool.{cases_lt}
use Rattle.std.proofs.lemmas.List.{map-append}
use Rattle.clr_types.specs.Rising.{first, IsIn}
use Rattle.clr_types.proofs.ListMembers.{append_right, in_append}
use Rattle.clr_heap.specs.View.{HeapView, word_of}
use Rattle.clr_bricks.specs.Bricks.{entry_at}
use Rattle.clr_plugs.specs.BrickEntries.{BricksView}
use Rattle.clr_plugs.specs.Cursors.{AreLeft, starts_between}
use Rattle.clr_plugs.specs.Forests.{AreWaiting, IsInSome, IsWhole, offset_of, plugs_of, told_offsets}
use Rattle.clr_plugs.specs.Offsets.{has_unit}
use Rattle.clr_plugs.specs.Plans.{plug_starts, root_number}
use Rattle.clr_plugs.specs.Trees.{in_order, IsBrickTree, leaf, node, root_of, Stands, starts_in, Tree}
use Rattle.clr_plugs.proofs.Loading.{brick_tree, few_in, in_bricks, into_bricks}
use Rattle.clr_plugs.proofs.Starts.{in_brick, into_brick}
use Rattle.clr_plugs.proofs.Waiting.{in_tree, plugs-append, plugs-of-tree, some-left, some-right, told_root}
use Rattle.clr_plugs.proofs.Waiting.{trees_of, whole_child}

-- the trees of the bricks from `from` up to `brick`, by the offsets of their roots
pub record AreRooted (word : ℕ → ℕ) (starts : List ℕ) (from brick : ℕ) (queue : List ℕ) : Type 0 where
  pub trees : List Tree
  pub roots : queue ≡ map (offset_of (from * 4096)) trees
  pub whole : (t : Tree) → IsIn t trees → IsWhole word starts t
  pub few : plugs_of trees ≤ 171 * (brick - from)
  pub full : (x : ℕ) → IsIn x starts → x / 4096 < brick → IsInSome trees x

pub told_short : (low n : ℕ) → length (told_offsets low n) ≤ 1
told_short low zero = omega arith
told_short low (suc n) = omega arith

module _ (h : HeapView) (bricks : BricksView) (from past : ℕ) (left : AreLeft h bricks from past) where
  abbrev starts : List ℕ
  starts = plug_starts left.part.plugs

  pub roots_start : AreRooted (word_of h) (starts_between from past starts) from from []
  roots_start = record {
    trees = [];
    roots = refl;
    whole = λ t i. elim i [ ];
    few = omega arith;
    full = λ x i less. let m = (in_bricks from past starts x i).1.0 in absurd (omega (arith, m, less));
  }

  module _ (brick root : ℕ) (low : from ≤ brick) (high : brick < past)
      (read : root ≡ root_number (entry_at bricks brick)) where
    abbrev t : IsBrickTree (word_of h) brick root (starts_in brick starts)
    t = brick_tree (word_of h) starts brick root (entry_at bricks brick) (left.tell brick low high) read

    within : (x : ℕ) → IsIn x (in_order t.tree) → IsIn x starts × (x / 4096 ≡ brick)
    within x i =
        let P : List ℕ → Type 0 = λ xs. IsIn x xs in
        in_brick brick starts x (subst P t.order i)

    root_low : (u : Tree) → ((x : ℕ) → IsIn x (in_order u) → x / 4096 ≡ brick) → root_of (brick * 4096) u ≤ 4096
    root_low leaf inside = omega arith
    root_low (node l p r) inside =
        let e = inside p (append_right (in_order l) first) in
        omega (arith, e)

    pub root_fits : past ≤ from + 4 → (brick - from) * 4096 + root ≤ 65536
    root_fits few =
        let e = t.root in
        let small = root_low t.tree (λ x i. (within x i).1) in
        omega (arith, e, small, few, high)

    pub roots_more : (queue : List ℕ) → AreRooted (word_of h) (starts_between from past starts) from brick queue
        → AreRooted (word_of h) (starts_between from past starts) from (brick + 1)
        (queue ++ told_offsets ((brick - from) * 4096) root)
    roots_more queue s = record {
      trees = s.trees ++ trees_of t.tree;
      roots =
          ap (λ (xs : List ℕ). xs ++ told_offsets ((brick - from) * 4096) root) s.roots
          ∙ ap (λ (xs : List ℕ). map (offset_of (from * 4096)) s.trees ++ xs)
          (ap (told_offsets ((brick - from) * 4096)) t.root
          ∙ told_root (word_of h) (from * 4096) ((brick - from) * 4096) (brick * 4096) t.tree t.stands
          (omega (arith, low)))
          ∙ sym (map-append (offset_of (from * 4096)) s.trees (trees_of t.tree));
      whole = λ u i. elim (in_append s.trees i) [
        | inl old ↦ s.whole u old
        | inr new ↦
            let here : brick * 4096 / 4096 ≡ brick = omega arith in
            let S : ℕ → Type 0 = λ b. Stands (word_of h) (b * 4096) t.tree in
            whole_child (word_of h) (starts_between from past starts) (brick * 4096) t.tree
            (subst S (sym here) t.stands)
            (λ x j. (within x j).1 ∙ sym here)
            (λ x j. let m = within x j in let at = m.1 in
            into_bricks from past starts x m.0 (omega (arith, at, low)) (omega (arith, at, high))) u new
      ];
      few =
          let old = s.few in
          let a = plugs-append s.trees (trees_of t.tree) in
          let b = plugs-of-tree t.tree in
          let c = ap length t.order in
          let d = few_in left.part.low brick starts left.lies.spaced in
          omega (arith, old, a, b, c, d, low);
      full = λ x i less. elim (cases_lt (x / 4096) brick) [
        | inl below ↦ some-left s.trees (trees_of t.tree) x (s.full x i below)
        | inr more ↦
            let there = into_brick brick starts x (in_bricks from past starts x i).0 (omega (arith, less, more)) in
            let P : List ℕ → Type 0 = λ xs. IsIn x xs in
            some-right s.trees (trees_of t.tree) x (in_tree t.tree x (subst P (sym t.order) there))
      ];
    }

  pub roots_end : past ≤ from + 4 → (queue bits : List ℕ) → ((n : ℕ) → has_unit bits n ≡ false)
      → AreRooted (word_of h) (starts_between from past starts) from past queue
      → AreWaiting (word_of h) (starts_between from past starts) (from * 4096) 0 queue bits
  roots_end few queue bits none s = record {
    trees = s.trees;
    roots = s.roots;
    whole = s.whole;
    few = let n = s.few in omega (arith, n, few);
    sound = λ n e. absurd (let bad : true ≡ false = sym e ∙ none n in cc);
    full = λ x i. inr (s.full x i (in_bricks from past starts x i).1.1);
  }
