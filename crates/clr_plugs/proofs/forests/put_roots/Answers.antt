use Rattle.std.proofs.Common.{ℕ, ◌+◌, ◌-◌, ◌*◌, List, take, ap, sym, subst, arith}
use Rattle.clr_heap.specs.View.{word_of}
use Rattle.clr_plugs.specs.Cursors.{starts_between}
use Rattle.clr_plugs.specs.Plans.{plug_starts}
use Rattle.clr_plugs.proofs.Roots.{AreRooted, root_fits, roots_end, roots_more, roots_start, told_short}
use Rattle.clr_plugs.proofs.forests.put_roots.Goals as goal

pub loop-brick-init : goal.loop-brick-init
loop-brick-init c =
    record { rooted = λ h left. roots_start h c.args.bricks.now c.args.first c.args.past left; few = omega arith }

pub put_plug-count-requires-clause-fits : goal.put_plug-count-requires-clause-fits
put_plug-count-requires-clause-fits c =
    let (h, left) = c.requires.left in
    root_fits h c.args.bricks.now c.args.first c.args.past left c.loop-brick.brick c.lead-root.result.0
    c.loop-brick.auto.brick c.loop-brick-test.true (ap (λ (p : ℕ × ℕ). p.0) c.lead-root.ensures) c.requires.few

pub loop-brick-preserved : goal.loop-brick-preserved
loop-brick-preserved c =
    let low = (c.loop-brick.brick - c.args.first) * 4096 in
    let read = ap (λ (p : ℕ × ℕ). p.0) c.lead-root.ensures in
    let few = c.loop-brick.invariant.few in
    let one = told_short low c.lead-root.result.0 in
    let count = c.put_plug-count.ensures.count in
    let above = c.loop-brick.auto.brick in
    record {
      rooted = λ h left.
          let P : List ℕ → Type 0 = λ q. AreRooted (word_of h)
          (starts_between c.args.first c.args.past (plug_starts left.part.plugs)) c.args.first (c.loop-brick.brick + 1)
          q in
          subst P (sym c.put_plug-count.ensures.offsets)
          (roots_more h c.args.bricks.now c.args.first c.args.past left c.loop-brick.brick c.lead-root.result.0 above
          c.loop-brick-test.true read (take c.loop-brick.count c.loop-brick.into)
          (c.loop-brick.invariant.rooted h left));
      few = omega (arith, few, one, count, above);
    }

pub returns : goal.returns
returns c =
    let past = c.loop-brick-test.false in
    let end = c.loop-brick.auto.brick-end in
    record {
      waiting = λ h bits none left.
          let P : ℕ → Type 0 = λ b. AreRooted (word_of h)
          (starts_between c.args.first c.args.past (plug_starts left.part.plugs)) c.args.first b
          (take c.loop-brick.count c.loop-brick.into) in
          roots_end h c.args.bricks.now c.args.first c.args.past left c.requires.few
          (take c.loop-brick.count c.loop-brick.into) bits none
          (subst P (omega (arith, past, end)) (c.loop-brick.invariant.rooted h left));
    }
