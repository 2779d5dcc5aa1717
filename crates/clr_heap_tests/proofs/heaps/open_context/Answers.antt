use Rattle.std.proofs.Common.{◌≡◌, ◌+◌, ◌-◌, ◌++◌, ◌∷◌, [], ℕ, List, None, Option, get_or, set, sym, ap, ◌∙◌, subst}
use Rattle.std.proofs.Common.{arith}
use Rattle.std.proofs.lemmas.List.{get_or-replicate}
use Rattle.clr_types.specs.Ranges.{Piece}
use Rattle.clr_types.specs.Segments.{ended_at}
use Rattle.clr_types.specs.declared.segment.SegInfo.{SegInfo}
use Rattle.clr_heap.specs.Parts.{hole_from, rest_part}
use Rattle.clr_heap.specs.View.{HeapView, last_of, parts_of, PartsAre, rest_between, segment_at}
use Rattle.clr_heap.proofs.Holes.{hole_at_end}
use Rattle.clr_heap_tests.proofs.heaps.open_context.Goals as goal

pub returns-clause-parts : goal.returns-clause-parts
returns-clause-parts g c =
    let rows = c.args.types.now in
    let h = c.args.heap.now in
    let k = c.args.k in
    let i = c.args.thread - 1 in
    let size = c.args.size in
    let here = c.info-segment.ensures.value in
    let last : c.info-segment.result.end ≡ last_of h k = ap (λ (s : SegInfo). s.end) here in
    let all = ap (λ (s : SegInfo). s.base + s.reserved) here in
    let threads = c.lawful.ensures.threads in
    let positive = c.requires.positive in
    let few = c.requires.few in
    let had : get_or h.rests i None ≡ None = ap (λ (hs : List (Option Piece)). get_or hs i None) c.requires.none
    ∙ get_or-replicate {A = Option Piece} 16 i None None (omega arith) in
    let none : hole_from h.rests (last_of h k) ≡ None =
    ap (λ (hs : List (Option Piece)). hole_from hs (last_of h k)) c.requires.none in
    let made = hole_at_end rows h k i size c.lawful.ensures c.requires.in_range c.requires.walkable c.requires.young
    (omega arith) had c.requires.least c.requires.whole (omega arith) none in
    let P : HeapView → Type 0 =
    λ q. PartsAre rows q k (parts_of rows h k ++ rest_part (last_of h k) (last_of h k + size) ∷ []) in
    let is = c.set_hole.ensures ∙ ap (λ (q : HeapView). record q
    { rests = set q.rests i (rest_between c.info-segment.result.end (c.info-segment.result.end + size)) })
    c.set_end.ensures
    ∙ ap (λ (e : ℕ). record h {
      segments = set h.segments k (ended_at (e + size) (segment_at h k));
      rests = set h.rests i (rest_between e (e + size));
    }) last in
    subst P (sym is) made
