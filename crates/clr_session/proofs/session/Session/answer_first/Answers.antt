-- Lines that are done at once are answered as any others.
use Rattle.std.proofs.Common.{◌≤◌, ◌+◌, ◌*◌, ◌^◌, ℕ, arith, ap, refl, subst, sym, ◌∙◌}
use Rattle.std.proofs.lemmas.Bool.{eqb-true}
use Rattle.std.proofs.lemmas.Result.{err_from_is_err_and}
use Rattle.clr_session.proofs.FirstLines.{goes_front, grows_found, ok_same, rises_found, some_front, stops_front}
use Rattle.clr_session.proofs.session.Session.answer_first.Goals as goal

pub returns-then-not-is_empty-clause-grows : goal.returns-then-not-is_empty-clause-grows
returns-then-not-is_empty-clause-grows g c =
    grows_found c.answer_any.result c.args.self.now c.answer_any.new.self c.args.text.now
    (g.K.Sink.written c.args.sink.now) (g.K.Sink.written c.answer_any.new.sink) _ _ c.answer_any.ensures.bytes
    c.answer_any.ensures.grows

pub returns-then-not-is_empty-clause-rises : goal.returns-then-not-is_empty-clause-rises
returns-then-not-is_empty-clause-rises g c = rises_found c.answer_any.result _ _ _ c.answer_any.ensures.some
    c.answer_any.ensures.grows

pub returns-in_err-count-clause-stops : goal.returns-in_err-count-clause-stops
returns-in_err-count-clause-stops g c =
    let p = err_from_is_err_and c.from_residual.result c.from_residual.ensures.1 in
    let e = eqb-true _ _ (sym c.is_empty.ensures ∙ c.if-not-is_empty.false) in
    rw p.1 (stops_front c.args.self.now _ c.args.text.now _ _ (omega (arith, e, c.args.self.now.line.ok))
    c.in_err-count.ensures.part)

pub returns-in_err-count-clause-some : goal.returns-in_err-count-clause-some
returns-in_err-count-clause-some g c =
    let p = err_from_is_err_and c.from_residual.result c.from_residual.ensures.1 in
    rw p.1 (some_front c.in_err-count.ensures.part)

pub returns-in-Some-clause-bytes : goal.returns-in-Some-clause-bytes
returns-in-Some-clause-bytes g c =
    let e = eqb-true _ _ (sym c.is_empty.ensures ∙ c.if-not-is_empty.false) in
    let answered = rw c.in-Some.is at c.in_ok-count.ensures.answered in (
      answered.0,
      answered.1,
      goes_front c.args.self.now c.answer_front.new.runtime.machine c.answer_front.new.self _ answered.2 _ _
          (omega (arith, e, c.args.self.now.line.ok)) answered.3 answered.4,
    )

pub returns-in-Some-clause-grows : goal.returns-in-Some-clause-grows
returns-in-Some-clause-grows g c = rw c.in-Some.is at c.in_ok-count.ensures.grows

pub returns-clause-bytes : goal.returns-clause-bytes
returns-clause-bytes g c =
    let stays = rw c.in_default.is at c.in_ok-count.ensures.answered in
    let same = record c.args.self.now { runtime = c.answer_front.new.runtime; pending = c.answer_front.new.self } in
    ok_same c.args.self.now same c.answer_any-2.new.self c.args.text.now _ (g.K.Sink.written c.answer_front.new.sink) _
    stays.0 refl stays.2 stays.1 c.answer_any-2.result c.answer_any-2.ensures.bytes

pub returns-clause-grows : goal.returns-clause-grows
returns-clause-grows g c =
    let stays = rw c.in_default.is at c.in_ok-count.ensures.answered in
    let top = ap (λ m. m.layout.top) stays.0 in
    let grown = c.answer_any-2.ensures.grows in
    let same = record c.args.self.now { runtime = c.answer_front.new.runtime; pending = c.answer_front.new.self } in
    grows_found c.answer_any-2.result same c.answer_any-2.new.self c.args.text.now
    (g.K.Sink.written c.answer_front.new.sink) (g.K.Sink.written c.answer_any-2.new.sink) _ _
    c.answer_any-2.ensures.bytes (omega (arith, top, grown))

pub returns-clause-rises : goal.returns-clause-rises
returns-clause-rises g c =
    let stays = rw c.in_default.is at c.in_ok-count.ensures.answered in
    let top = ap (λ m. m.layout.top) stays.0 in
    let grown = c.answer_any-2.ensures.grows in
    rises_found c.answer_any-2.result _ _ _ c.answer_any-2.ensures.some (omega (arith, top, grown))
