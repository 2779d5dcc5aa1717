-- An object stands whole: where it stands on, and where what was taken stays so.
use Rattle.std.proofs.Common.{◌≡◌, ◌∙◌, ℕ, ◌+◌, List, map, sym, subst}
use Rattle.clr_types.specs.Types.{Form, form_at, size_of, TypeRow}
use Rattle.clr_heap.specs.Parts.{item_at}
use Rattle.clr_bgmark.specs.Closing.{without_colours}
use Rattle.clr_bgmark.specs.Shades.{PartView, ShadeView}
use Rattle.clr_bgmark.specs.Tiles.{IsEdgeBy}
use Rattle.clr_bgmark.proofs.SameTiles.{same_covered, same_edge}
use Rattle.clr_runtime.specs.Marked.{StandsWhole}

-- at the same place, with the same form and length
pub stands_so : (ss : List ShadeView) (ps : List PartView) {place x : ℕ} {form f : Form} {len n : ℕ}
    → x ≡ place → f ≡ form → n ≡ len → StandsWhole ss ps place form len → StandsWhole ss ps x f n
stands_so ss ps {place = place} {x = x} {form = form} {f = f} {len = len} {n = n} at is has whole =
    subst (λ y. StandsWhole ss ps y f n) (sym at)
    (subst (λ g. StandsWhole ss ps place g n) (sym is)
    (subst (λ k. StandsWhole ss ps place form k) (sym has) whole))

-- by bits that took the same
pub same_stands : (old new : List ShadeView) → map without_colours new ≡ map without_colours old
    → (ps : List PartView) (place : ℕ) (form : Form) (len : ℕ) → StandsWhole old ps place form len
    → StandsWhole new ps place form len
same_stands old new same ps place form len whole = record {
  slots = λ offset listed. same_covered old new same (place + offset) ∙ whole.slots offset listed;
  edge = same_edge old new same ps place (place + size_of form len) whole.edge;
}

-- an item ends where its type and its length say
module _ (rows : List TypeRow) (word : ℕ → ℕ) (ss : List ShadeView) (ps : List PartView) (x : ℕ) where
  pub edge_of_form : IsEdgeBy ss ps x (x + (item_at rows word x).size)
      → IsEdgeBy ss ps x (x + size_of (form_at rows (item_at rows word x).type_id.0) (item_at rows word x).len)
  unfolding item_at
  edge_of_form edge = edge

  pub edge_of_item : IsEdgeBy ss ps x
      (x + size_of (form_at rows (item_at rows word x).type_id.0) (item_at rows word x).len)
      → IsEdgeBy ss ps x (x + (item_at rows word x).size)
  unfolding item_at
  edge_of_item edge = edge
