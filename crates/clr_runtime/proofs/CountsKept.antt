-- Lines that leave the count of compactions and the room of the mark stack.
use Rattle.std.proofs.Common.{◌≡◌, ap, refl}
use Rattle.clr_collect.specs.declared.collector.CollectorState.{CollectorState}
use Rattle.clr_runtime.specs.RuntimeView.{seen, viewed}
use Rattle.clr_runtime.specs.declared.parts.Parts.{Parts}

-- both are read off the workshop
pub collector_kept : (old new : Parts) → new.collector ≡ old.collector
    → viewed new ≡ record (viewed old) { machine = (viewed new).machine }
collector_kept old new e =
    ap (λ (w : CollectorState). record { machine = seen new; slides = w.slides; stack = w.marker.capacity }) e

-- where each is as it was
pub counts_kept : (old new : Parts) → new.collector.slides ≡ old.collector.slides
    → new.collector.marker.capacity ≡ old.collector.marker.capacity
    → viewed new ≡ record (viewed old) { machine = (viewed new).machine }
counts_kept old new slides stack = λ i. record { machine = seen new; slides = slides i; stack = stack i }
