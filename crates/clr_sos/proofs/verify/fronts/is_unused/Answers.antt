-- Context by context.
use Rattle.std.proofs.Common.{sym, ◌∙◌, ap, arith}
use Rattle.std.specs.List.{list_any}
use Rattle.std.proofs.lemmas.List.{drop_all}
use Rattle.clr_types.specs.Segments.{rest_pieces}
use Rattle.clr_sos.proofs.ContextRooms.{has_room, room_here, room_on}
use Rattle.clr_sos.proofs.verify.fronts.is_unused.Goals as goal

pub loop-k-preserved : goal.loop-k-preserved
loop-k-preserved c =
    let threads = c.requires.heap.threads in
    let more = c.loop-k-test.true in
    room_on c.args.size c.args.place c.args.heap.now.rests c.loop-k.k (omega (arith, threads, more))
    c.is_context_front.result c.is_context_front.ensures c.if-is_context_front.false c.loop-k.invariant

pub returns-then-is_context_front : goal.returns-then-is_context_front
returns-then-is_context_front c =
    let threads = c.requires.heap.threads in
    let more = c.loop-k-test.true in
    room_here c.args.size c.args.place c.args.heap.now.rests c.loop-k.k (omega (arith, threads, more))
    c.is_context_front.result c.is_context_front.ensures c.if-is_context_front.true c.loop-k.invariant

pub returns : goal.returns
returns c =
    let rests = c.args.heap.now.rests in
    let threads = c.requires.heap.threads in
    let all = c.loop-k-test.false in
    ap (λ rs. list_any (has_room c.args.size c.args.place) (rest_pieces rs))
    (sym (drop_all c.loop-k.k rests (omega (arith, threads, all))))
    ∙ c.loop-k.invariant
