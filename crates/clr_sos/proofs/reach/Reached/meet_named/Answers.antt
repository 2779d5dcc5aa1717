-- Null names nothing.
use Rattle.std.proofs.Common.{◌≡◌}
use Rattle.clr_sos.specs.declared.reach.Origin.{Origin}
use Rattle.clr_sos.specs.declared.reach.Origin.TheVariants.{Through}
use Rattle.clr_sos.proofs.Searching.{came-none, grown-refl}
use Rattle.clr_sos.proofs.Seen.{numbered}
use Rattle.clr_sos.proofs.reach.Reached.meet_named.Goals as goal

pub returns-then-target-eq0-clause-grown : goal.returns-then-target-eq0-clause-grown
returns-then-target-eq0-clause-grown c = grown-refl c.args.self.now.entries.items

pub returns-then-target-eq0-clause-met : goal.returns-then-target-eq0-clause-met
returns-then-target-eq0-clause-met c = λ some. absurd (some c.if-target-eq0.true)

pub returns-then-target-eq0-clause-came : goal.returns-then-target-eq0-clause-came
returns-then-target-eq0-clause-came c =
    came-none c.args.self.now.entries.items (λ (o : Origin). o ≡ Through c.args.i)

pub segment_near-k-requires : goal.segment_near-k-requires
segment_near-k-requires c =
    (numbered c.args.view.now c.requires.sound c.args.target (c.requires.stands c.if-target-eq0.false)).word

pub meet_in-requires-clause-stands : goal.meet_in-requires-clause-stands
meet_in-requires-clause-stands c = c.requires.stands c.if-target-eq0.false

pub meet_in-requires-clause-origin : goal.meet_in-requires-clause-origin
meet_in-requires-clause-origin c = c.requires.origin c.if-target-eq0.false

pub returns-clause-met : goal.returns-clause-met
returns-clause-met c = λ some. c.in_ok-meet_in.ensures.met
