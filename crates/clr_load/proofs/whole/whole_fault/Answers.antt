-- The tables are tested over the heap and its objects.
use Rattle.std.proofs.Common.{sym, ◌∙◌}
use Rattle.clr_load.proofs.WholeTests.{alone_kept, has_offsets, held_kept, known_steps, starts_kept, tests_kept}
use Rattle.clr_load.proofs.whole.whole_fault.Goals as goal

pub tables_fault-requires-clause-seen : goal.tables_fault-requires-clause-seen
tables_fault-requires-clause-seen c =
    let r = c.requires in
    record {
      heap = r.2.lawful;
      held = held_kept r.0 c.args.whole.now r.1 r.2;
      alone = alone_kept r.0 c.args.whole.now r.1 r.2;
      starts = starts_kept r.0 c.args.whole.now r.1 r.2;
    }

pub tables_fault-requires-clause-offsets : goal.tables_fault-requires-clause-offsets
tables_fault-requires-clause-offsets c = let r = c.requires in has_offsets r.0 c.args.whole.now r.1 r.2

pub tables_fault-requires-clause-known : goal.tables_fault-requires-clause-known
tables_fault-requires-clause-known c = let r = c.requires in known_steps r.0 c.args.whole.now r.1 r.2

pub returns : goal.returns
returns c bytes p is = c.tables_fault.ensures ∙ sym (tests_kept bytes c.args.whole.now p is)
