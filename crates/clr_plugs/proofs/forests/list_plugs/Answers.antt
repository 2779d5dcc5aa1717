use Rattle.std.proofs.Common.{take, replicate, arith}
use Rattle.clr_heap.specs.View.{word_of}
use Rattle.clr_plugs.proofs.Loading.{found_apart, listed_all, none_found}
use Rattle.clr_plugs.proofs.Waiting.{none_waits}
use Rattle.clr_plugs.proofs.forests.list_plugs.Goals as goal

pub returns-then-roots-eq0-clause-listed : goal.returns-then-roots-eq0-clause-listed
returns-then-roots-eq0-clause-listed c = λ starts segment can begun.
    let none = c.if-roots-eq0.true in
    none_found starts c.args.base 32 (none_waits (word_of c.args.heap.now) starts c.args.base 0 c.args.roots
    c.args.into.now (replicate 32 0) (omega (arith, none)) begun)

pub gather-requires-clause-can : goal.gather-requires-clause-can
gather-requires-clause-can c = c.requires.can

pub list_offsets-requires-clause-apart : goal.list_offsets-requires-clause-apart
list_offsets-requires-clause-apart c =
    let (starts, segment, can, begun) = c.requires.can in
    found_apart c.args.heap.now c.args.base segment starts can c.gather.new.words
    (c.gather.ensures starts segment can begun)

pub returns-clause-listed : goal.returns-clause-listed
returns-clause-listed c = λ starts segment can begun.
    listed_all c.args.heap.now c.args.base segment starts can c.gather.new.words
    (c.gather.ensures starts segment can begun) (take c.list_offsets.result c.list_offsets.new.into)
    c.list_offsets.ensures.listed
