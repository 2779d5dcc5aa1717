use Rattle.std.proofs.Common.{◌+◌, arith}
use Rattle.clr_view.proofs.Bearing.{front-birth, front-head, front-high, front-memory, IsAsked, IsBirth}
use Rattle.clr_view.proofs.CleanWords.{clean_born}
use Rattle.clr_view.proofs.FreeHeads.{heads_born}
use Rattle.clr_view.proofs.Unmarked.{unmarked_born}
use Rattle.clr_view.proofs.births.allocate.Goals as goal
use Rattle.clr_view.proofs.births.allocate.Goals.{After-hole, After-set_hole}

-- what is asked for
asked : (c : After-hole) → IsAsked c.args.types.now c.args.heap.now c.args.thread c.args.t.0 c.args.len
asked c = record {
  heap = c.lawful.ensures;
  held = c.requires.held;
  positive = c.requires.positive;
  few = c.requires.few;
  item = c.requires.item;
  object = c.requires.object;
  room = c.requires.room;
}

pub write_head-requires-clause-head : goal.write_head-requires-clause-head
write_head-requires-clause-head c =
    front-head c.args.types.now c.args.heap.now c.args.thread c.args.t.0 c.args.len
    (asked (goal.at.write_head-requires-clause-head c).After-hole) c.in-Some.front c.in-Some.end c.in-Some.ensures

pub write_head-requires-clause-mt_in : goal.write_head-requires-clause-mt_in
write_head-requires-clause-mt_in c =
    front-memory c.args.types.now c.args.heap.now c.args.thread c.args.t.0 c.args.len
    (asked (goal.at.write_head-requires-clause-mt_in c).After-hole) c.in-Some.front c.in-Some.end c.in-Some.ensures
    c.in-Some.front (omega arith) (omega arith)

pub write_head-requires-clause-len_in : goal.write_head-requires-clause-len_in
write_head-requires-clause-len_in c =
    front-memory c.args.types.now c.args.heap.now c.args.thread c.args.t.0 c.args.len
    (asked (goal.at.write_head-requires-clause-len_in c).After-hole) c.in-Some.front c.in-Some.end c.in-Some.ensures
    (c.in-Some.front + 8) (omega arith) (omega arith)

pub write_head-requires-clause-room : goal.write_head-requires-clause-room
write_head-requires-clause-room c =
    front-high c.args.types.now c.args.heap.now c.args.thread c.args.t.0 c.args.len
    (asked (goal.at.write_head-requires-clause-room c).After-hole) c.in-Some.front c.in-Some.end c.in-Some.ensures

-- the heap before the birth and after it
birth : (c : After-set_hole) → IsBirth c.args.types.now c.args.heap.now c.set_hole.new.self c.args.thread c.args.t.0
    c.args.len
birth c =
    front-birth c.args.types.now c.args.heap.now c.args.thread c.args.t.0 c.args.len
    (asked c.before.before.before.before.before)
    c.in-Some.front c.in-Some.end c.in-Some.ensures c.write_head.new.heap c.set_hole.new.self
    c.args.size c.requires.size c.write_head.ensures c.set_hole.ensures

pub returns-clause-born : goal.returns-clause-born
returns-clause-born c = (birth (goal.at.returns-clause-born c).After-set_hole).born

pub returns-clause-words : goal.returns-clause-words
returns-clause-words c = (birth (goal.at.returns-clause-words c).After-set_hole).words

pub returns-clause-unmarked : goal.returns-clause-unmarked
returns-clause-unmarked c =
    unmarked_born c.args.types.now c.args.heap.now c.set_hole.new.self c.args.thread c.args.t.0 c.args.len
    (birth (goal.at.returns-clause-unmarked c).After-set_hole)

pub returns-clause-free_heads : goal.returns-clause-free_heads
returns-clause-free_heads c =
    heads_born c.args.types.now c.args.heap.now c.set_hole.new.self c.args.thread c.args.t.0 c.args.len
    (birth (goal.at.returns-clause-free_heads c).After-set_hole)

pub returns-clause-clean : goal.returns-clause-clean
returns-clause-clean c =
    clean_born c.args.types.now c.args.heap.now c.set_hole.new.self c.args.thread c.args.t.0 c.args.len
    (birth (goal.at.returns-clause-clean c).After-set_hole)
