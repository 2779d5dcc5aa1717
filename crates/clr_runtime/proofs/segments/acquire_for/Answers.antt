-- What holds of a runtime holds of its parts with a new segment.
use Rattle.std.proofs.Common.{◌≡◌, arith}
use Rattle.clr_model.specs.Allocation.{segment_for}
use Rattle.clr_runtime.specs.RuntimeView.{seen}
use Rattle.clr_runtime.proofs.AcquiredParts.{acquired_kept, acquired_tables}
use Rattle.clr_runtime.proofs.segments.acquire_for.Goals as goal

pub acquire_of_kind-requires-clause-cards : goal.acquire_of_kind-requires-clause-cards
acquire_of_kind-requires-clause-cards c = c.requires.runtime.tables.cards

pub acquire_of_kind-requires-clause-bricks : goal.acquire_of_kind-requires-clause-bricks
acquire_of_kind-requires-clause-bricks c = c.requires.runtime.tables.bricks

pub returns-clause-runtime : goal.returns-clause-runtime
returns-clause-runtime c =
    let p = c.args.parts.now in
    let new = c.acquire_of_kind.new in
    let done = c.acquire_of_kind.ensures in
    let larger = c.max-reserved.ensures in
    let same : c.max-reserved.result ≡ segment_for (seen p) c.args.size = omega (arith, larger) in
    acquired_kept c.args.kind c.requires.old p c.requires.runtime c.args.size new.heap done.objects new.cards new.bricks
    c.acquire_of_kind.result (rw same at done.acquired) (rw same at done.layout) done.err
    (rw same at done.over_limit) done.items done.lawful done.held done.unmarked done.free_heads done.clean
    (acquired_tables c.args.kind c.requires.old p c.requires.runtime c.args.size new.heap done.objects new.cards
    new.bricks done.cards done.bricks done.set done.names done.brick_law)
