-- What the last pause rests on where it passes over fronts, after the contexts were given up.
use Rattle.std.proofs.Common.{◌≡◌, ◌↔◌, ◌∙◌, ℕ, ◌+◌, ◌%◌, ◌<◌, inl, List, length, map, true, ap, sym, subst, arith}
use Rattle.std.proofs.Common.{get_or, if◌then◌else◌}
use Rattle.clr_types.specs.Segments.{empty_segment, Layout}
use Rattle.clr_types.specs.Types.{form_at, is_array, size_of, TypeRow}
use Rattle.clr_heap.specs.Parts.{type_number}
use Rattle.clr_types.specs.declared.segment.SegInfo.{SegInfo}
use Rattle.clr_heap.specs.Parts.{item_at, length_at}
use Rattle.clr_heap.specs.View.{HeapView, IsHeap, segment_at, word_of}
use Rattle.clr_model.specs.Collection.{begun}
use Rattle.clr_model.specs.Lawful.{IsLaid, IsPlaceNamed}
use Rattle.clr_model.specs.Machine.{Machine}
use Rattle.clr_model.specs.Updates.{all_given_up}
use Rattle.clr_model.proofs.GivenUp.{given_up_laid}
use Rattle.clr_view.specs.Marks.{has_mark, Marked}
use Rattle.clr_view.specs.SlotValues.{StandsAt}
use Rattle.clr_view.specs.Memory.{IsMemoryOf}
use Rattle.clr_view.specs.View.{HasGivenUp, IsHeld, layout_in, objects_in}
use Rattle.clr_view.specs.World.{IsWorldOf, World}
use Rattle.clr_view.proofs.ObjectItems.{stands-item}
use Rattle.clr_view.proofs.Standing.{standing}
use Rattle.clr_bgmark.specs.Closing.{without_colours}
use Rattle.clr_bgmark.proofs.SameTiles.{same_edge, same_taken}
use Rattle.clr_bgmark.specs.LastPause.{HasMarked}
use Rattle.clr_bgmark.specs.Pauses.{IsFound}
use Rattle.clr_bgmark.specs.Scanning.{AreObjects}
use Rattle.clr_bgmark.specs.Shades.{PartView, ShadeView}
use Rattle.clr_bgmark.specs.Tiles.{AreTiled, HasFoundMarks, HaveEdges, HaveSameBases, IsEdgeBy}

-- where the words of its head are the same, an item is as large
size_agrees : (rows : List TypeRow) (a b : ℕ → ℕ) (p : ℕ) → a p ≡ b p → a (p + 8) ≡ b (p + 8)
    → (item_at rows a p).size ≡ (item_at rows b p).size
unfolding item_at length_at
size_agrees rows a b p mt len =
    λ k. size_of (form_at rows (type_number (mt k)))
    (if is_array (form_at rows (type_number (mt k))) then len k else 0)

module _ (rows : List TypeRow) (old mid : HeapView) (heap : IsHeap old) (held : IsHeld rows old)
    (given : HasGivenUp rows old mid) (ss : List ShadeView) (known : AreObjects rows old ss) where
  -- giving up the contexts leaves the sizes of what was taken
  pub edges_given : (ps : List PartView) → HaveEdges rows old ss ps → HaveEdges rows mid ss ps
  edges_given ps edges x aligned took =
      let i = item_at rows (word_of old) x in
      let at = stands-item rows old heap held x (known.taken x aligned took) in
      let s = standing rows old heap held i at.listed in
      let least = s.least in
      let place = at.at in
      let mt : word_of mid x ≡ word_of old x =
      given.cells i x at.listed at.object aligned (omega (arith, place)) (omega (arith, place, least)) in
      let len : word_of mid (x + 8) ≡ word_of old (x + 8) =
      given.cells i (x + 8) at.listed at.object (omega (arith, aligned)) (omega (arith, place))
      (omega (arith, place, least)) in
      subst (λ n. IsEdgeBy ss ps x (x + n)) (sym (size_agrees rows (word_of mid) (word_of old) x mt len))
      (edges x aligned took)

  -- and the segments
  pub bases_given : HaveSameBases old ss → HaveSameBases mid ss
  bases_given (count, bases) =
      let same : mid.segments ≡ old.segments = ap (λ (l : Layout). l.segments) given.layout in (
        count ∙ ap (λ (segments : List SegInfo). length segments) (sym same),
        λ k s inside. bases k s inside
            ∙ ap (λ (segments : List SegInfo). (get_or segments k empty_segment).base) (sym same),
      )

-- a heap with marks on what is found, and no others
pub found_marked : (rows : List TypeRow) (h v : HeapView) (ss : List ShadeView) → HasMarked rows (IsFound ss) h v
    → ((x : ℕ) → Marked rows v x ↔ IsFound ss x)
    → ((x : ℕ) → StandsAt rows h x → StandsAt rows v x) → HasFoundMarks rows h v ss
found_marked rows h v ss r marks stand = record {
  marks = r.words;
  found = λ x s f. ((marks x).1 f).mark;
  only = λ x s on. (marks x).0 (record { stands = stand x s; mark = on });
}

-- behind what was taken the edges stay where colours and the log change
pub edges_same : (rows : List TypeRow) (h : HeapView) (old new : List ShadeView)
    → map without_colours new ≡ map without_colours old → (ps : List PartView) → AreTiled rows h old ps
    → HaveEdges rows h new ps
edges_same rows h old new same ps tiled x aligned took =
    same_edge old new same ps x (x + (item_at rows (word_of h) x).size)
    (tiled x (aligned, inl (sym (same_taken old new same x) ∙ took)))

-- ---- a machine of the heap

module _ (w : World) (mid : HeapView) (given : HasGivenUp w.rows w.heap mid) (m : Machine) (is : IsWorldOf w m)
    (named : IsPlaceNamed m) where
  -- with its contexts given up it has the heap without contexts, and each heap that differs in marks alone
  pub given_memory : (new : HeapView) → objects_in w.rows new ≡ objects_in w.rows mid
      → layout_in w.rows new ≡ layout_in w.rows mid → (n : Machine) × IsMemoryOf w.rows new n × IsLaid n
  given_memory new objects layout = (
    begun m,
    record {
      types = is.memory.types;
      objects = is.memory.objects ∙ sym given.objects ∙ sym objects;
      layout = ap all_given_up is.memory.layout ∙ sym given.layout ∙ sym layout;
    },
    given_up_laid m named.lawful.laid,
  )
