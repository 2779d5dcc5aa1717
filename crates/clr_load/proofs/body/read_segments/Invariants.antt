-- So many segments are read, and what is kept stands for them.
use Rattle.std.proofs.Common.{◌≡◌}
use Rattle.clr_load.specs.Bodies.{IsBody, LeavesRoom}
use Rattle.clr_format.specs.HeapFields as fields
use Rattle.clr_format.specs.HeapFields.{segment_fields}
use Rattle.clr_load.proofs.LoadTurns.{IsLoading}
use Rattle.clr_load.proofs.body.read_segments.Given as goal

abbrev pub invariant-loop-turn : goal.invariant-loop-turn
invariant-loop-turn l = record {
  limit : l.head.limit ≡ l.body.draft.limit;
  room : LeavesRoom l.body;
  read : (b : fields.Body) → IsBody l.initial.reader.bytes l.types l.initial.body b
      → IsLoading (segment_fields l.head l.types) l.n l._turn b l.initial.reader l.reader
      (IsBody l.initial.reader.bytes l.types l.body);
}
