-- What holds of a runtime holds of its parts with a new segment.
use Rattle.std.proofs.Common.{Ok}
use Rattle.clr_runtime.proofs.SealedParts.{sealed_kept, segment_allowed}
use Rattle.clr_runtime.proofs.StepsKept.{tables-idle}
use Rattle.clr_runtime.proofs.sealing.seal_parts.Goals as goal

pub seal-requires-clause-tables : goal.seal-requires-clause-tables
seal-requires-clause-tables c =
    let p = c.args.parts.now in
    tables-idle p.space.cards p.safe p.space.bricks p.types p.space.heap c.requires.idle c.requires.runtime.tables

pub returns-clause-runtime : goal.returns-clause-runtime
returns-clause-runtime c =
    let p = c.args.parts.now in
    let new = c.seal.new in
    let done = c.in_ok-seal.ensures in
    let within = segment_allowed p c.requires.runtime (Ok tt) done.over_limit (λ e. cc) in
    rw c.forget.ensures
    (sealed_kept p c.requires.runtime c.requires.no_contexts within new.heap done.objects done.layout new.cards
    new.bricks done.lawful done.sealed done.held done.unmarked done.free_heads done.clean done.tables)
