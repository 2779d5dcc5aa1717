-- The lines of the contexts.
use Rattle.std.proofs.Common.{◌≡◌, ℕ, ◌+◌, ◌-◌, ◌≤◌, ◌<◌, List, ◌++◌, get_or, take}
use Rattle.std.proofs.Common.{Option, None, ap, sym, ◌∙◌, arith}
use Rattle.std.specs.Prelude.{slice_get}
use Rattle.std.specs.List.{enumerate_from, flat_map}
use Rattle.std.proofs.lemmas.List.{take_all}
use Rattle.std.proofs.lemmas.Option.{slice_get-get_or}
use Rattle.std.proofs.lemmas.List.FromFn.{get_or-enumerate_from, length-enumerate_from}
use Rattle.clr_types.specs.Ranges.{Piece}
use Rattle.clr_types.specs.Segments.{flat_option, rest_of}
use Rattle.clr_heap.specs.View.{frame, HeapView, IsHeap}
use Rattle.clr_model.specs.Sos.{context_line}
use Rattle.clr_sos.proofs.LineParts.{lines-more}

-- the lines of contexts, with that of one more thread
pub contexts-more : (h : HeapView) (text : List ℕ) (k : ℕ) → IsHeap h → k < 16
    → (text ++ flat_map context_line (take k (enumerate_from 1 h.rests)))
    ++ context_line (k + 1, rest_of (frame h) (k + 1))
    ≡ text ++ flat_map context_line (take (k + 1) (enumerate_from 1 h.rests))
contexts-more h text k heap within =
    let threads = heap.threads in
    let counted = length-enumerate_from 1 h.rests in
    let here : k + 1 - 1 ≡ k = omega arith in
    let one : 1 + k ≡ k + 1 = omega arith in
    let read = get_or-enumerate_from 1 h.rests k (0, None) (omega (arith, threads, within)) in
    let known = slice_get-get_or h.rests k None (omega (arith, threads, within)) in
    let same : ◌≡◌ {A = ℕ × Option Piece} (k + 1, rest_of (frame h) (k + 1))
    (get_or (enumerate_from 1 h.rests) k (0, None)) =
    (λ i. (sym one i, (ap (λ j. flat_option (slice_get h.rests j)) here ∙ ap flat_option known) i)) ∙ sym read in
    ap (λ (entry : ℕ × Option Piece). (text ++ flat_map context_line (take k (enumerate_from 1 h.rests)))
    ++ context_line entry) same
    ∙ lines-more context_line text (enumerate_from 1 h.rests) k (0, None) (omega (arith, counted, threads, within))

-- all contexts
pub contexts-all : (h : HeapView) (text : List ℕ) (k : ℕ) → IsHeap h → 16 ≤ k
    → text ++ flat_map context_line (take k (enumerate_from 1 h.rests))
    ≡ text ++ flat_map context_line (enumerate_from 1 h.rests)
contexts-all h text k heap past =
    let threads = heap.threads in
    let counted = length-enumerate_from 1 h.rests in
    ap (λ entries. text ++ flat_map context_line entries)
    (take_all k (enumerate_from 1 h.rests) (omega (arith, counted, threads, past)))
