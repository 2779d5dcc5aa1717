use Rattle.std.proofs.Common.{◌≡◌, ◌-◌, ℕ, List, ap, sym, ◌∙◌, subst, arith}
use Rattle.clr_model.specs.Compaction.{Move}
use Rattle.clr_plugs.specs.Plans.{PlannedPlug}
use Rattle.clr_moves.specs.PlugMoves.{PlugMovesView}
use Rattle.clr_moves.specs.Told.{end_before, IsMarkedRun}
use Rattle.clr_moves.proofs.Giving.{end_read, none_read, plug_at, plug_can, plug_given, plug_run}
use Rattle.clr_moves.proofs.Runs.{not_past}
use Rattle.clr_moves.proofs.plug_moves.PlugMoves.step.Goals.{in-Some, in-None}
use Rattle.clr_moves.proofs.plug_moves.PlugMoves.step.Goals as goal

pub read-requires : goal.read-requires
read-requires c =
    let (g, vs, gives) = c.requires.gives in
    let rows = c.args.types.now in
    let h = c.args.heap.now in
    let bricks = c.args.bricks.now in
    let line = c.args.self.now in (
      gives.part,
      (plug_at rows h bricks g line vs gives c.requires.some).others,
      plug_can rows h bricks g line vs gives c.requires.some,
    )

pub run_end-end-requires-clause-run : goal.run_end-end-requires-clause-run
run_end-end-requires-clause-run c =
    let (g, vs, gives) = c.requires.gives in
    let rows = c.args.types.now in
    let h = c.args.heap.now in
    let bricks = c.args.bricks.now in
    let line = c.args.self.now in
    let others = (plug_at rows h bricks g line vs gives c.requires.some).others in
    let can = plug_can rows h bricks g line vs gives c.requires.some in
    let none = none_read h bricks c.read.new.self gives.part others (c.in-None.ensures.read gives.part others can) in
    let run = plug_run rows h bricks g line vs gives c.requires.some none in
    let seg : c.self-2.inside.segment ≡ line.segment =
    ap (λ (v : PlugMovesView). v.segment) c.self-2.view_is ∙ c.read.ensures.segment in
    let start : c.self.inside.start ≡ line.start = ap (λ (v : PlugMovesView). v.start) c.self.view_is in
    let P : ℕ → Type 0 = λ n. IsMarkedRun rows h n line.start gives.last in
    let Q : ℕ → Type 0 = λ n. IsMarkedRun rows h c.self-2.inside.segment n gives.last in
    (gives.last, subst Q (sym start) (subst P (sym seg) run))

pub overflow_sub-end : goal.overflow_sub-end
overflow_sub-end c =
    let (g, vs, gives) = c.requires.gives in
    let rows = c.args.types.now in
    let h = c.args.heap.now in
    let bricks = c.args.bricks.now in
    let line = c.args.self.now in
    let others = (plug_at rows h bricks g line vs gives c.requires.some).others in
    let can = plug_can rows h bricks g line vs gives c.requires.some in
    let none = none_read h bricks c.read.new.self gives.part others (c.in-None.ensures.read gives.part others can) in
    let run = plug_run rows h bricks g line vs gives c.requires.some none in
    let seg : c.self-2.inside.segment ≡ line.segment =
    ap (λ (v : PlugMovesView). v.segment) c.self-2.view_is ∙ c.read.ensures.segment in
    let start : c.self.inside.start ≡ line.start = ap (λ (v : PlugMovesView). v.start) c.self.view_is in
    let P : ℕ → Type 0 = λ n. IsMarkedRun rows h n line.start gives.last in
    let Q : ℕ → Type 0 = λ n. IsMarkedRun rows h c.self-2.inside.segment n gives.last in
    let moved = subst Q (sym start) (subst P (sym seg) run) in
    let end = c.run_end-end.ensures.end gives.last moved in
    let up = not_past rows h c.self-2.inside.segment c.self.inside.start gives.last moved in
    omega (arith, end, up)

pub returns : goal.returns
returns c = λ g vs gives.
    let rows = c.args.types.now in
    let h = c.args.heap.now in
    let bricks = c.args.bricks.now in
    let line = c.args.self.now in
    let others = (plug_at rows h bricks g line vs gives c.requires.some).others in
    let can = plug_can rows h bricks g line vs gives c.requires.some in
    let start : c.self.inside.start ≡ line.start = ap (λ (v : PlugMovesView). v.start) c.self.view_is in
    let to : c.self.inside.to ≡ line.to = ap (λ (v : PlugMovesView). v.to) c.self.view_is in
    let read = c.read.ensures.read gives.part others can in
    let given = plug_given rows h bricks g line vs gives c.requires.some c.read.new.self c.read.result
    c.read.ensures.segment read in
    elim c.match-read.branch [
      | in-Some w ↦
          let is = w.result-is ∙ w.new.ensures in
          let end = end_read h bricks c.read.new.self gives.part others gives.last w.in-Some.end
          (w.in-Some.ensures.read gives.part others can) in
          let size : w.saturating_sub.result ≡ end_before others gives.last - line.start =
          w.saturating_sub.ensures ∙ ap (λ (n : ℕ). n - c.self.inside.start) end
          ∙ ap (λ (n : ℕ). end_before others gives.last - n) start in
          given c.match-read.result (ap (λ (v : Move). v.start) is ∙ start) (ap (λ (v : Move). v.to) is ∙ to)
          (ap (λ (v : Move). v.size) is ∙ size)
      | in-None w ↦
          let is = w.result-is ∙ w.new-in-None.ensures in
          let none = none_read h bricks c.read.new.self gives.part others
          (w.in-None.ensures.read gives.part others can) in
          let run = plug_run rows h bricks g line vs gives c.requires.some none in
          let seg : c.self-2.inside.segment ≡ line.segment =
          ap (λ (v : PlugMovesView). v.segment) c.self-2.view_is ∙ c.read.ensures.segment in
          let P : ℕ → Type 0 = λ n. IsMarkedRun rows h n line.start gives.last in
          let Q : ℕ → Type 0 = λ n. IsMarkedRun rows h c.self-2.inside.segment n gives.last in
          let end = w.run_end-end.ensures.end gives.last (subst Q (sym start) (subst P (sym seg) run))
          ∙ sym (ap (λ (ps : List PlannedPlug). end_before ps gives.last) none) in
          let size : w.run_end-end.result - c.self.inside.start ≡ end_before others gives.last - line.start =
          ap (λ (n : ℕ). n - c.self.inside.start) end ∙ ap (λ (n : ℕ). end_before others gives.last - n) start in
          given c.match-read.result (ap (λ (v : Move). v.start) is ∙ start) (ap (λ (v : Move). v.to) is ∙ to)
          (ap (λ (v : Move). v.size) is ∙ size)
    ]
