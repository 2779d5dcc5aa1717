-- What is seen is sound.
use Rattle.clr_runtime.proofs.runtime.Runtime.heap.Goals as goal

pub returns-clause-sound : goal.returns-clause-sound
returns-clause-sound c = rw (← c.self.view_is) c.self.invariant.shown.sound
