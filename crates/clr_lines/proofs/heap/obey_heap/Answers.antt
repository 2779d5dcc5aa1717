-- A line that collects names a generation, and where it compacts this may be asked of it.
use Rattle.clr_model.specs.Instructions.{collect_heap}
use Rattle.clr_model.specs.LineGrammar.{IsWellFormed}
use Rattle.clr_model.proofs.ArgumentReaders.{how_least}
use Rattle.clr_background.proofs.Changes.{usual_line}
use Rattle.clr_lines.proofs.heap.obey_heap.Goals as goal

pub collect-requires : goal.collect-requires
collect-requires c =
    let d = c.in-Collect in
    let formed : IsWellFormed (collect_heap d.t d.g d.how) = rw d.is at c.requires.formed in
    record { generation = how_least d.g d.how formed.1; usual = usual_line (collect_heap d.t d.g d.how) formed }
