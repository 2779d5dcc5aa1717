-- What the fields of sources and sinks in memory stand for.
use Rattle.std.specs.Prelude.{◌≤◌, ◌<◌, drop, length, vec_len, vec_capacity}
use Rattle.clr_streams.specs.Memory.{SourceState, SinkState}
use Rattle.clr_streams.specs.declared.memory.MemorySource.TheInside as source
use Rattle.clr_streams.specs.declared.memory.MemorySink.TheInside as sink

abbrev pub source_state : source.Inside → SourceState
source_state s = record {
  left = drop s.at s.bytes.items;
  piece = s.piece;
  fails = s.fails.items;
  calls = s.calls;
  faults = s.faults;
}

pub record IsSource (s : source.Inside) : Type 0 where
  pub within : s.at ≤ length s.bytes.items
  pub some : 0 < s.piece

abbrev pub sink_state : sink.Inside → SinkState
sink_state s = record {
  bytes = s.bytes.items;
  room = s.room;
  piece = s.piece;
  fails = s.fails.items;
  calls = s.calls;
  faults = s.faults;
}

pub record IsSink (s : sink.Inside) : Type 0 where
  pub within : vec_len s.bytes ≤ s.room
  pub reserved : s.room ≤ vec_capacity s.bytes
  pub some : 0 < s.piece
