-- The first pause takes what is of generation 2, or there is no memory for it.
use Rattle.std.proofs.Common.{◌∙◌, ap, is_some, Option, sym}
use Rattle.clr_model.specs.Machine.{Marking}
use Rattle.clr_runtime.proofs.BackgroundParts.{begun_err, begun_ok, begun_runtime, parts_closed, parts_handles}
use Rattle.clr_runtime.proofs.BackgroundParts.{parts_locals, parts_ready, runs_is}
use Rattle.clr_runtime.proofs.background.begin_marking.Goals as goal

pub begin-requires-clause-idle : goal.begin-requires-clause-idle
begin-requires-clause-idle c =
    sym (runs_is c.args.parts.now.background) ∙ ap (λ (r : Option Marking). is_some r) c.requires.none

pub begin-requires-clause-closed : goal.begin-requires-clause-closed
begin-requires-clause-closed c = parts_closed c.args.parts.now c.requires.runtime

pub begin-requires-clause-handles : goal.begin-requires-clause-handles
begin-requires-clause-handles c = parts_handles c.args.parts.now c.requires.runtime

pub begin-requires-clause-locals : goal.begin-requires-clause-locals
begin-requires-clause-locals c =
    rw c.deref.ensures.value (parts_locals c.args.parts.now c.requires.runtime)

pub begin-requires-clause-ready : goal.begin-requires-clause-ready
begin-requires-clause-ready c =
    rw c.ready.ensures (parts_ready c.args.parts.now c.requires.runtime)

pub returns-clause-begun : goal.returns-clause-begun
returns-clause-begun c =
    let done = c.begin.ensures in
    begun_ok c.args.parts.now c.requires.runtime c.begin.new.self c.begin.result done.running
    (rw (c.deref.ensures.value, c.ready.ensures) at done.begun) done.objects

pub returns-clause-err : goal.returns-clause-err
returns-clause-err c =
    begun_err c.args.parts.now c.requires.runtime c.begin.new.self c.begin.result c.begin.ensures.err

pub returns-clause-runtime : goal.returns-clause-runtime
returns-clause-runtime c =
    let done = c.begin.ensures in
    begun_runtime c.args.parts.now c.requires.runtime c.begin.new.self c.begin.result done.running
    (rw (c.deref.ensures.value, c.ready.ensures) at done.begun) done.objects done.whole done.counted done.parts
    done.tiled done.fronts done.err
