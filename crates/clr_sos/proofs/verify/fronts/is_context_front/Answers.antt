-- Where the thread has a context.
use Rattle.std.proofs.Common.{◌≡◌, ◌+◌, ◌-◌, option_map, slice_get, sym, ◌∙◌, ap, arith}
use Rattle.clr_types.specs.Segments.{flat_option}
use Rattle.clr_heap.specs.View.{rest_bounds}
use Rattle.clr_sos.proofs.ContextRooms.{context_none}
use Rattle.clr_sos.proofs.verify.fronts.is_context_front.Goals as goal

pub returns-in-None : goal.returns-in-None
returns-in-None c =
    let rests = c.args.heap.now.rests in
    let at : c.args.k + 1 - 1 ≡ c.args.k = omega arith in
    context_none c.args.size c.args.place (flat_option (slice_get rests c.args.k))
    (ap (λ n. option_map rest_bounds (flat_option (slice_get rests n))) (sym at) ∙ sym c.hole.ensures ∙ c.in-None.is)
