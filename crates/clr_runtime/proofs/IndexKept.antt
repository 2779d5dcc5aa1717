-- An index of free items, of the young ones or of those of large segments, where these stay.
use Rattle.std.proofs.Common.{◌≡◌, ◌∙◌, ℕ, ◌%◌, List, [], ◌∷◌, ◌++◌, ap, sym, subst, Option, Some, None, IfSome}
use Rattle.std.specs.Prelude.{Result, Ok, Err, OnOk, OnErr}
use Rattle.clr_types.specs.Ranges.{Piece}
use Rattle.clr_types.specs.Segments.{Layout, opening_layout}
use Rattle.clr_types.specs.Types.{TypeRow}
use Rattle.clr_types.specs.declared.fault.DefineFault.{DefineFault}
use Rattle.clr_types.specs.declared.TypeId.{TypeId}
use Rattle.clr_heap.specs.View as heap
use Rattle.clr_heap.specs.View.{HeapView}
use Rattle.clr_view.specs.View.{IsHeld, layout_in}
use Rattle.clr_view.proofs.Opening.{layout_at_start}
use Rattle.clr_view.proofs.TypeMore.{layout_with_type}

module _ (items : Layout → List Piece) where
  -- the index, where it is kept, lists these free items of a layout
  abbrev pub Lists : List TypeRow → HeapView → Option (List Piece) → Type 0
  Lists rows h index = IfSome index (λ ps. ps ≡ items (layout_in rows h))

  -- it is that of every heap in which they are the same
  pub index_kept : (rows after : List TypeRow) (h new : HeapView) (index : Option (List Piece))
      → items (layout_in after new) ≡ items (layout_in rows h) → Lists rows h index → Lists after new index
  index_kept rows after h new None same is = is
  index_kept rows after h new (Some ps) same is = is ∙ sym same

  -- as in one of this layout
  pub same_index : (rows after : List TypeRow) (h new : HeapView) (index : Option (List Piece))
      → layout_in after new ≡ layout_in rows h → Lists rows h index → Lists after new index
  same_index rows after h new index same = index_kept rows after h new index (ap items same)

  -- with another type, too
  pub defined_index : (rows after : List TypeRow) (h : HeapView) (row : TypeRow) (result : Result TypeId DefineFault)
      (index : Option (List Piece)) → IsHeld rows h → OnOk result (after ≡ rows ++ row ∷ [])
      → OnErr result (after ≡ rows) → Lists rows h index → Lists after h index
  defined_index rows after h row (Ok t) index held grown kept is =
      subst (λ (rs : List TypeRow). Lists rs h index) (sym grown)
      (same_index rows (rows ++ row ∷ []) h h index (layout_with_type rows row h held.walkable) is)
  defined_index rows after h row (Err f) index held grown kept is =
      subst (λ (rs : List TypeRow). Lists rs h index) (sym kept) is

  -- a heap that was just made has no free items
  pub first_index : (rows : List TypeRow) (h : HeapView) (segment limit : ℕ) → segment % 4096 ≡ 0 → rows ≡ []
      → h ≡ heap.opening_heap segment limit → [] ≡ items (opening_layout segment) → Lists rows h (Some [])
  first_index rows h segment limit aligned none empty no_items =
      subst (λ (rs : List TypeRow). Lists rs h (Some [])) (sym none)
      (subst (λ (o : HeapView). Lists [] o (Some [])) (sym empty)
      (no_items ∙ ap items (sym (layout_at_start [] segment limit aligned))))
