-- What was copied came from the front of what was left.
use Rattle.std.proofs.Common.{Some, ap}
use Rattle.std.proofs.lemmas.List.{take_rest}
use Rattle.clr_streams.proofs.ByteStreams.{held_after}
use Rattle.clr_streams.proofs.memory.MemorySourceSource.read.Goals as goal

pub returns-clause-bytes : goal.returns-clause-bytes
returns-clause-bytes c =
    let e = rw (c.as_slice.ensures.value, take_rest) at c.copy_front-count.ensures.copied in
    rw (← c.self.view_is) (ap Some (held_after _ _ _ _ e))
