-- A command is obeyed.
use Rattle.clr_lines.proofs.LineSteps.{command_follows}
use Rattle.clr_lines.proofs.execute.obey.Goals as goal

pub returns-in-Define-clause-follows : goal.returns-in-Define-clause-follows
returns-in-Define-clause-follows c =
    command_follows c.args.line.now c.args.command c.requires.short c.requires.read
    c.args.runtime.now.machine c.obey_heap.new.runtime.machine _ c.obey_heap.ensures.follows

pub returns-in-Get-clause-follows : goal.returns-in-Get-clause-follows
returns-in-Get-clause-follows c =
    command_follows c.args.line.now c.args.command c.requires.short c.requires.read
    c.args.runtime.now.machine c.obey_slot.new.runtime.machine _ c.obey_slot.ensures.follows

pub returns-in-Handle-clause-follows : goal.returns-in-Handle-clause-follows
returns-in-Handle-clause-follows c =
    command_follows c.args.line.now c.args.command c.requires.short c.requires.read
    c.args.runtime.now.machine c.obey_handle.new.runtime.machine _ c.obey_handle.ensures.follows

pub returns-in-DumpHeap-clause-follows : goal.returns-in-DumpHeap-clause-follows
returns-in-DumpHeap-clause-follows c =
    command_follows c.args.line.now c.args.command c.requires.short c.requires.read
    c.args.runtime.now.machine c.args.runtime.now.machine _ c.obey_look.ensures.follows

pub returns-in-Suspend-clause-follows : goal.returns-in-Suspend-clause-follows
returns-in-Suspend-clause-follows c =
    command_follows c.args.line.now c.args.command c.requires.short c.requires.read
    c.args.runtime.now.machine c.obey_thread.new.runtime.machine _ c.obey_thread.ensures.follows

pub returns-in-BackgroundBegin-clause-follows : goal.returns-in-BackgroundBegin-clause-follows
returns-in-BackgroundBegin-clause-follows c =
    command_follows c.args.line.now c.args.command c.requires.short c.requires.read
    c.args.runtime.now.machine c.obey_background.new.runtime.machine _ c.obey_background.ensures.follows
