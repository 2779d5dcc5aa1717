-- Handle by handle.
use Rattle.std.proofs.Common.{ℕ, ◌<◌, ◌∙◌, ap}
use Rattle.std.proofs.lemmas.List.{take_all}
use Rattle.std.specs.FinMap as finmap
use Rattle.std.specs.FinMap.{FinMap}
use Rattle.std.specs.Ordering.{nat_cmp}
use Rattle.clr_types.specs.declared.handle.Handle.{Handle}
use Rattle.clr_types.specs.declared.handle.Kind.TheVariants.{Strong}
use Rattle.clr_heap.proofs.Framing.{all_at}
use Rattle.clr_load.proofs.RestoredHandles.{next_free, next_put, none_yet}
use Rattle.clr_load.proofs.restoring.restore_handles.Goals as goal

pub loop-i-init : goal.loop-i-init
loop-i-init c = none_yet c.new-handles.result c.new-handles.ensures

pub restore-requires-clause-free : goal.restore-requires-clause-free
restore-requires-clause-free c =
    next_free c.args.rows.now c.loop-i.i (0, record { kind = Strong; target = 0; second = 0 }) c.loop-i-test.true
    c.requires.rising c.loop-i.handles c.loop-i.invariant

pub restore-requires-clause-below : goal.restore-requires-clause-below
restore-requires-clause-below c =
    all_at (λ (e : ℕ × Handle). e.0 < 65536) c.args.rows.now c.loop-i.i
    (0, record { kind = Strong; target = 0; second = 0 }) c.requires.below c.loop-i-test.true

pub loop-i-preserved : goal.loop-i-preserved
loop-i-preserved c =
    ap (λ (t : FinMap nat_cmp Handle). finmap.entries t) c.in_ok-restore.ensures.ok
    ∙ next_put c.args.rows.now c.loop-i.i (0, record { kind = Strong; target = 0; second = 0 }) c.loop-i-test.true
    c.requires.rising c.loop-i.handles c.loop-i.invariant

pub returns : goal.returns
returns c = c.loop-i.invariant ∙ take_all c.loop-i.i c.args.rows.now c.loop-i-test.false
