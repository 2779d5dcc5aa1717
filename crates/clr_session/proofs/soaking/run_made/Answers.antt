-- Each turn runs the next line.
use Rattle.std.proofs.Common.{◌≡◌, ◌∙◌, ◌+◌, ◌<◌, ◌≤◌, cond, length, ap, arith}
use mir.Val.{bool_byte}
use Rattle.clr_lines.specs.Outcomes.{outcome_of}
use Rattle.clr_script.proofs.MadeLines.{lines_are_counted}
use Rattle.clr_session.specs.Soak.{is_refused}
use Rattle.clr_session.proofs.SoakLoop.{started, went_on, finished, of_made, left_shorter, one_if, one_most}
use Rattle.clr_session.proofs.soaking.run_made.Goals as goal

pub loop-alloc-init : goal.loop-alloc-init
loop-alloc-init c =
    let made : length c.new-made.result ≡ c.args.count + 3 =
    ap length c.new-made.ensures ∙ lines_are_counted c.args.seed c.args.count in
    let room = c.requires in
    record {
      running = started _ _;
      room = omega (arith, made, room);
      few = omega (arith, made, room);
      refused = omega arith;
    }

pub loop-alloc-preserved : goal.loop-alloc-preserved
loop-alloc-preserved c =
    let some : 0 < c.next_line-length.result = let n = c.if-length-eq0.false in omega (arith, n) in
    let line = c.next_line-length.ensures.line some in
    let shorter : length c.loop-alloc.made ≡ length c.next_line-length.new.self + 1 = left_shorter _ _ _ line in
    let one : c.from.result ≡ cond (is_refused (outcome_of c.execute-outcome.result)) 1 0 =
    c.from.ensures ∙ (ap bool_byte c.is_refused.ensures ∙ one_if _) in
    let most : c.from.result ≤ 1 = one_most _ _ one in
    let room = c.loop-alloc.invariant.room in
    let few = c.loop-alloc.invariant.few in
    let refused = c.loop-alloc.invariant.refused in
    let grown = c.execute-outcome.ensures.grows in
    record {
      running = went_on _ _ _ _ _ _ _ _ _ _ _ c.loop-alloc.invariant.running line c.execute-outcome.ensures.follows one;
      room = omega (arith, room, shorter, grown);
      few = omega (arith, few, shorter);
      refused = omega (arith, refused, most);
    }

pub returns-then-length-eq0 : goal.returns-then-length-eq0
returns-then-length-eq0 c =
    of_made _ _ c.args.seed c.args.count _ _ _ c.new-made.ensures (finished _ _ _ _ _ _ c.loop-alloc.invariant.running
    (c.next_line-length.ensures.ends.0 c.if-length-eq0.true))
