use Rattle.std.proofs.Common.{ℕ, ◌+◌, ◌/◌, sym, subst}
use Rattle.clr_plugs.specs.Cursors.{AreLeft, CursorView}
use Rattle.clr_plugs.proofs.Stepping.{later_left}
use Rattle.clr_plugs.proofs.Walking.{walk_begins}
use Rattle.clr_heap_tests.proofs.plugs.expect_walked.Goals as goal

pub loop-want-init : goal.loop-want-init
loop-want-init g c =
    let h = c.args.heap.now in
    let bricks = c.args.bricks.now in
    let r = c.requires in
    let P : ℕ → Type 0 = λ n. AreLeft h bricks (n / 4096) ((r.part.high + 4095) / 4096) in
    let Q : ℕ → Type 0 = λ n. AreLeft h bricks (c.args.low / 4096) ((n + 4095) / 4096) in
    let R : CursorView → Type 0 = λ v. AreLeft h bricks v.brick v.past in
    subst R (sym c.new-cursor.ensures)
    (subst Q r.ends (subst P r.starts (walk_begins h bricks r.part c.segments.ensures.heap r.planned)))

pub loop-want-preserved : goal.loop-want-preserved
loop-want-preserved g c =
    let P : ℕ → Type 0 = λ n. AreLeft c.args.heap.now c.args.bricks.now c.next.new.self.brick n in
    subst P (sym c.next.ensures.past)
    (later_left c.args.heap.now c.args.bricks.now c.loop-want.cursor.brick c.next.new.self.brick
    c.loop-want.cursor.past c.next.ensures.brick c.loop-want.invariant)
