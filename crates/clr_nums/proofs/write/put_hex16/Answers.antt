-- The lower half is written behind the upper one, which is eight zeros or digits.
use Rattle.std.proofs.Common.{◌∙◌, [], ap, sym}
use Rattle.clr_nums.specs.Numbers.{hex_onto}
use Rattle.clr_nums.proofs.HexText.{hex16-put}
use Rattle.clr_nums.proofs.write.put_hex16.Goals as goal
use Rattle.clr_nums.proofs.write.put_hex16.Goals.{then-high-eq0, else-high-eq0}

pub returns : goal.returns
returns c = elim c.if-high-eq0.branch [
  | then-high-eq0 w ↦
      let zeros = w.copy_from_slice.ensures.after ∙ ap (λ high. hex_onto 8 high []) (sym w.if-high-eq0.true) in
      hex16-put c.args.into.now c.if-high-eq0.into _ _ c.args.v c.told-into w.into-is zeros c.put_hex8-2.ensures
  | else-high-eq0 w ↦
      hex16-put c.args.into.now c.if-high-eq0.into _ _ c.args.v c.told-into w.into-is
      w.put_hex8.ensures c.put_hex8-2.ensures
]
