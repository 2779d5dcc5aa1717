use Rattle.std.proofs.Common.{sym, ◌∙◌, inl, inr}
use Rattle.clr_load.proofs.StartBits.{a_place, no_place}
use Rattle.clr_load.proofs.starts.Range.has.Goals.{then-place-self-via-then-place-self}
use Rattle.clr_load.proofs.starts.Range.has.Goals.{then-place-self-via-else-place-self+then-place-self-ne0}
use Rattle.clr_load.proofs.starts.Range.has.Goals as goal

pub returns-then-place-self : goal.returns-then-place-self
returns-then-place-self c = elim c.then-place-self.branch [
  | then-place-self-via-then-place-self w ↦ sym (no_place c.args.self.now c.args.place (inl w.if-place-self.true))
  | then-place-self-via-else-place-self+then-place-self-ne0 w ↦
      sym (no_place c.args.self.now c.args.place (inr w.if-place-self-ne0.true))
]

pub returns : goal.returns
returns c =
    c.has_bit.ensures ∙ sym (a_place c.args.self.now c.args.place c.if-place-self.false c.if-place-self-ne0.false)
