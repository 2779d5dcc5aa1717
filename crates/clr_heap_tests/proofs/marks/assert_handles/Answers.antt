use Rattle.std.proofs.Common.{◌∙◌, sym, subst, arith}
use Rattle.std.proofs.lemmas.Option.{none-some, same_Some}
use Rattle.clr_view.specs.World.{HandleStands}
use Rattle.clr_mark.proofs.FoundObjects.{handles_more}
use Rattle.clr_heap_tests.proofs.marks.assert_handles.Goals.{in-Some, in_default}
use Rattle.clr_heap_tests.proofs.marks.assert_handles.Goals as goal

pub loop-number-preserved : goal.loop-number-preserved
loop-number-preserved g c =
    let stands = HandleStands c.args.types.now c.args.heap.now in
    handles_more c.args.handles.now c.loop-number.number stands c.loop-number.invariant
    (λ row e. elim c.match-get.branch [
      | in-Some w ↦
          subst stands (same_Some w.in-Some.handle row (sym w.in-Some.is ∙ c.get.ensures.value ∙ e))
          w.assert_handle.ensures
      | in_default w ↦ absurd (none-some row (sym w.in_default.is ∙ c.get.ensures.value ∙ e))
    ])

pub returns : goal.returns
returns g c = λ k row e.
    let below = c.lawful.ensures k row e in
    c.loop-number.invariant k row (omega (arith, below)) e
