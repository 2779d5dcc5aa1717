use Rattle.std.proofs.Common.{◌≡◌, ◌+◌, ◌++◌, ◌∷◌, [], ℕ, None, rules, set, sym, ap, ◌∙◌, subst, arith}
use Rattle.clr_types.specs.Segments.{ended_at}
use Rattle.clr_types.specs.declared.segment.SegInfo.{SegInfo}
use Rattle.clr_types.specs.Types.{form_at, size_of}
use Rattle.clr_heap.specs.Parts.{hole_from, item_part, made_item}
use Rattle.clr_heap.specs.View.{HeapView, holes_of, last_of, segment_at, parts_of, PartsAre, placed}
use Rattle.clr_heap.proofs.Ends.{head_at_end, made_at_end}
use Rattle.clr_heap.proofs.Placing.{Placed, placed_leaves}
use Rattle.clr_heap_tests.proofs.heaps.append.Goals as goal

pub make_object-requires-clause-head : goal.make_object-requires-clause-head
make_object-requires-clause-head g c =
    let least = c.size_to_make-size.ensures.item.least in
    let size = c.size_to_make-size.ensures.size in
    let here = c.info-segment.ensures.value in
    let last = ap (λ (s : SegInfo). s.end) here in
    let all = ap (λ (s : SegInfo). s.base + s.reserved) here in
    let head = head_at_end c.args.heap.now c.args.k c.lawful.ensures c.requires.in_range (omega arith) in
    rw last head

pub returns-clause-parts : goal.returns-clause-parts
returns-clause-parts g c =
    let rows = c.args.types.now in
    let h = c.args.heap.now in
    let k = c.args.k in
    let t = c.args.t.0 in
    let n = c.args.len in
    let here = c.info-segment.ensures.value in
    let last : c.info-segment.result.end ≡ last_of h k = ap (λ (s : SegInfo). s.end) here in
    let all = ap (λ (s : SegInfo). s.base + s.reserved) here in
    let size = c.size_to_make-size.ensures.size in
    let least = c.size_to_make-size.ensures.item.least in
    let none : hole_from (holes_of h k) (last_of h k) ≡ None = rw (← last) (sym c.hole_end.ensures ∙ (search rules)) in
    let head = head_at_end h k c.lawful.ensures c.requires.in_range (omega arith) in
    let W : HeapView → Type 0 = λ q. Placed rows h q (last_of h k) t n in
    let p = c.make_object.new.self in
    let is : p ≡ placed rows h (last_of h k) t n =
    c.make_object.ensures.words ∙ ap (λ (a : ℕ). placed rows h a t n) last in
    let made : Placed rows h p (last_of h k) t n = subst W (sym is) (placed_leaves rows h (last_of h k) t n head) in
    let at = made_at_end rows h p k t n c.lawful.ensures c.requires.in_range c.requires.walkable made
    c.size_to_make-size.ensures.item
    (omega arith) none in
    let end : c.info-segment.result.end + c.size_to_make-size.result ≡ last_of h k + size_of (form_at rows t) n =
    omega arith in
    let P : HeapView → Type 0 =
    λ q. PartsAre rows q k (parts_of rows h k ++ item_part (made_item rows (last_of h k) t n) ∷ []) in
    subst P (sym (c.set_end.ensures ∙ ap (λ
    (e : ℕ). record p { segments = set p.segments k (ended_at e (segment_at p k)) }) end)) at
