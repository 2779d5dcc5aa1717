-- Each turn answers one line more.
use Rattle.std.proofs.Common.{◌∙◌, ◌++◌, List, [], ℕ, arith, append-nil, append_assoc, ap}
use Rattle.std.proofs.Common.{refl, sym, take}
use Rattle.clr_session.proofs.FirstLines.{front_stays, over_more, over_none}
use Rattle.clr_session.proofs.pending.answer_lines.Goals as goal

pub loop-buffer-init : goal.loop-buffer-init
loop-buffer-init c = record {
  read = omega arith;
  behind = omega arith;
  within = omega arith;
  kept = refl;
  idle = λ e. refl;
  answered = ([], over_none c.args.runtime.now.machine, sym (append-nil (take c.args.at c.args.buffer.now)));
  grows = omega arith;
}

pub loop-buffer-preserved : goal.loop-buffer-preserved
loop-buffer-preserved c =
    let turn = c.loop-buffer in
    let before = turn.invariant in
    let step = c.answer_behind-read in
    let low = before.behind in
    let (front, goes, written) = before.answered in
    let (reply, answered, put) = step.ensures.answered c.if-read-eq0.false in
    let (some, within, more) = over_more c.args.runtime.now.machine turn.runtime.machine step.new.runtime.machine
    c.args.text.now front reply turn.from step.result.0 before.read goes answered in
    record {
      read = within;
      behind = let next = step.ensures.behind in omega (arith, low, next);
      within = step.ensures.within;
      kept = front_stays step.new.buffer turn.buffer c.args.at turn.end low step.ensures.kept ∙ before.kept;
      idle = λ e. absurd (omega (arith, e, some));
      answered = (
        front ++ reply,
        more,
        put ∙ (ap (λ (l : List ℕ). l ++ reply) written
            ∙ append_assoc (take c.args.at c.args.buffer.now) front reply),
      );
      grows = let grown = step.ensures.grows in let risen = before.grows in omega (arith, grown, risen, some);
    }

pub returns-then-read-eq0-clause-kept : goal.returns-then-read-eq0-clause-kept
returns-then-read-eq0-clause-kept c =
    front_stays c.answer_behind-read.new.buffer c.loop-buffer.buffer c.args.at c.loop-buffer.end
    c.loop-buffer.invariant.behind c.answer_behind-read.ensures.kept ∙ c.loop-buffer.invariant.kept
