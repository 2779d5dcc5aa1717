-- The first pause: roots that become gray leave what is known of the old parts, and room for fronts.
use Rattle.std.proofs.Common.{◌≡◌, ℕ, zero, suc, ◌+◌, ◌⊎◌, inl, inr, List, [], ◌∷◌, map, get_or, refl, ap, sym, ◌∙◌}
use Rattle.std.proofs.Common.{Bool, true, false, if◌then◌else◌, Option, Some, None}
use Rattle.std.specs.FinMap as finmap
use Rattle.std.specs.Ordering.{nat_cmp}
use Rattle.std.proofs.lemmas.Bool.{both_ways}
use Rattle.clr_types.specs.Kinds.{is_root_kind}
use Rattle.clr_types.specs.Types.{TypeRow}
use Rattle.clr_types.specs.declared.handle.Handle.{Handle}
use Rattle.clr_heap.specs.Parts.{item_at}
use Rattle.clr_heap.specs.View.{HeapView, word_of}
use Rattle.clr_sweep.specs.declared.behind.Front.{Front}
use Rattle.clr_bgmark.specs.Closing.{without_colours}
use Rattle.clr_bgmark.specs.Pauses.{root_grayed, roots_grayed, target_grayed, targets_grayed}
use Rattle.clr_bgmark.specs.Shades.{BackgroundView, changed_at, colour_at, covers, grayed, is_marked, is_taken}
use Rattle.clr_bgmark.specs.Shades.{is_white, PartView, ShadeView, with_marked}
use Rattle.clr_bgmark.specs.Tiles.{AreTiled, HaveEdges}
use Rattle.clr_bgmark.proofs.Meeting.{HasMet, white_parts}
use Rattle.clr_bgmark.proofs.SameTiles.{same_edge}

-- what graying leaves: what was taken, the old parts and their fronts
abbrev pub beside_colours : BackgroundView → List ShadeView × (List PartView × List Front)
beside_colours v = (map without_colours v.shades, (v.parts, v.fronts))

marked_bare : (ss : List ShadeView) (a : ℕ) → map without_colours (changed_at a (with_marked a) ss)
    ≡ map without_colours ss
marked_bare [] a = refl
marked_bare (s ∷ ss) a = go (covers s a) (marked_bare ss a)
  where
    go : (b : Bool) → map without_colours (changed_at a (with_marked a) ss) ≡ map without_colours ss
        → map without_colours (if b then with_marked a s ∷ ss else s ∷ changed_at a (with_marked a) ss)
        ≡ map without_colours (s ∷ ss)
    go true more = refl
    go false more = ap (λ ts. without_colours s ∷ ts) more

root_beside : (v : BackgroundView) (y : ℕ) → beside_colours (root_grayed v y) ≡ beside_colours v
root_beside v y = go (is_white (colour_at v.shades y))
  where
    go : (w : Bool) → beside_colours (if w then grayed v y else v) ≡ beside_colours v
    go true = ap (λ ss. (ss, (v.parts, v.fronts))) (marked_bare v.shades y)
    go false = refl

pub roots_beside : (roots : List ℕ) (n : ℕ) (v : BackgroundView)
    → beside_colours (roots_grayed roots n v) ≡ beside_colours v
unfolding roots_grayed
roots_beside roots zero v = refl
roots_beside roots (suc n) v = root_beside (roots_grayed roots n v) (get_or roots n 0) ∙ roots_beside roots n v

target_beside : (row : Option Handle) (v : BackgroundView) → beside_colours (target_grayed row v) ≡ beside_colours v
target_beside None v = refl
target_beside (Some row) v = go (is_root_kind row.kind)
  where
    go : (r : Bool) → beside_colours (if r then root_grayed v row.target else v) ≡ beside_colours v
    go true = root_beside v row.target
    go false = refl

pub targets_beside : (handles : finmap.FinMap nat_cmp Handle) (n : ℕ) (v : BackgroundView)
    → beside_colours (targets_grayed handles n v) ≡ beside_colours v
unfolding targets_grayed
targets_beside handles zero v = refl
targets_beside handles (suc n) v =
    target_beside (finmap.get handles n) (targets_grayed handles n v) ∙ targets_beside handles n v

-- WHAT IS MARKED AT THE FIRST PAUSE WAS TAKEN: so behind each object there is an edge
pub first_tiled : (rows : List TypeRow) (h : HeapView) (ss now : List ShadeView) (ps : List PartView)
    (named : ℕ → Type 0) → map without_colours now ≡ map without_colours ss → HasMet ss now named
    → ((b : ℕ) → is_marked ss b ≡ false) → HaveEdges rows h ss ps → AreTiled rows h now ps
first_tiled rows h ss now ps named same met unmarked edges x (aligned, bit) =
    same_edge ss now same ps x (x + (item_at rows (word_of h) x).size) (edges x aligned (was_taken bit))
  where
    was_taken : (is_taken now x ≡ true) ⊎ (is_marked now x ≡ true) → is_taken ss x ≡ true
    was_taken (inl t) = sym (met.taken x) ∙ t
    was_taken (inr m) = elim (met.fresh x aligned m) [
      | inl was ↦ absurd (both_ways (is_marked ss x) (unmarked x) was)
      | inr p ↦ (white_parts ss x p.1).taken
    ]
