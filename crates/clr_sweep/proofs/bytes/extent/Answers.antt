use Rattle.std.proofs.Common.{Bool, true, false, if◌then◌else◌, ◌==◌, arith, ap, ℕ, ◌-◌, ◌≤◌, ap₂, sym, ◌∙◌}
use Rattle.clr_types.specs.Segments.{first_place}
use Rattle.clr_heap.specs.View.{first_of}
use Rattle.clr_types.specs.declared.segment.SegInfo.{SegInfo}
use Rattle.clr_sweep.specs.SweptItems.{young_start}
use Rattle.clr_sweep.proofs.Extents.{extent-young, young-small}
use Rattle.clr_sweep.proofs.YoungPart.{below_two, start-cases}
use Rattle.clr_sweep.proofs.bytes.extent.Goals as goal

part-above : (one start low g : ℕ) → low ≤ one → one ≤ start → low ≤ (if g == 0 then start else one)
part-above one start low g above order = go (g == 0)
  where
    go : (b : Bool) → low ≤ (if b then start else one)
    go true = omega arith
    go false = above

pub returns-clause-bytes : goal.returns-clause-bytes
returns-clause-bytes c =
    let h = c.args.heap.now in
    let e = c.ephemeral.result in
    let young : c.args.g ≤ 1 = below_two c.args.g c.requires.generation c.if-g-eq2.false in
    ap₂ (λ (s : SegInfo) (n : ℕ). s.end - n) c.info.ensures.value
    (c.start_of.ensures ∙ sym (start-cases h.start0 h.start1 (first_of h e) c.args.g young))
    ∙ sym (extent-young h c.ephemeral.ensures.heap e c.ephemeral.ensures.segment c.args.g young)

pub returns-clause-small : goal.returns-clause-small
returns-clause-small c =
    let h = c.args.heap.now in
    let e = c.ephemeral.result in
    let end = ap (λ (s : SegInfo). s.end) c.info.ensures.value in
    let first = ap first_place c.ephemeral.ensures.segment in
    let start = c.start_of.ensures in
    let low = c.requires.low in
    let above = part-above h.start1 h.start0 (first_of h e) c.args.g (omega (arith, first, low)) c.requires.order in
    let small = young-small h c.ephemeral.ensures.heap e c.ephemeral.ensures.segment (young_start h c.args.g) above
    c.ephemeral.ensures.in_range in
    omega (arith, end, start, small)
