use Rattle.std.proofs.Common.{◌≡◌, ◌++◌}
use Rattle.std.specs.List.{flat_map}
use Rattle.clr_model.specs.Sos.{item_line}
use Rattle.clr_sos.specs.Buffered.{IsPut}
use Rattle.clr_sos.specs.Dumping.{IsWithin, totals_of}
use Rattle.clr_sos.proofs.buffered.listing.write_items.Given as goal

abbrev pub invariant-loop-item : goal.invariant-loop-item
invariant-loop-item g l = record {
  walked : l.yielded ++ l.item-iterator ≡ l.initial.item-iterator;
  within : IsWithin l.totals l.yielded;
  totals : l.totals ≡ totals_of l.yielded;
  put : IsPut (g.K.Sink.written l.initial.sink) (g.K.Sink.written l.sink) (g.K.Sink.faults l.initial.sink)
      (g.K.Sink.faults l.sink) (l.initial.buffer.items ++ flat_map (item_line l.types) l.yielded) l.buffer.items;
}
