use Rattle.std.proofs.Common.{◌≡◌, ℕ, ◌+◌, ◌-◌, ◌%◌, ◌||◌, ◌==◌, nat_lt, true, false, sym, ◌∙◌, ap, arith, refl}
use Rattle.clr_sos.specs.CheckedCells.{first_byte}
use Rattle.clr_sos.proofs.PaddingBytes.{byte_ends, byte_found, byte_skipped}
use Rattle.clr_load.proofs.cells.first_byte.Goals.{else-a-i-via-then-a-i+else-rest-ne0, else-a-i-via-else-a-i}
use Rattle.clr_load.proofs.cells.first_byte.Goals as goal

pub returns-then-rest-ne0-clause-is : goal.returns-then-rest-ne0-clause-is
returns-then-rest-ne0-clause-is c =
    let i = c.loop-i.i in
    let low : nat_lt (c.args.a + i) c.args.from ≡ false = grind (arith, c.if-a-i.true) in
    let byte : (c.loop-i.rest % 256 == 0) ≡ false = grind (arith, c.if-rest-ne0.true) in
    sym (byte_found (8 - i) c.args.from (c.args.a + i) c.loop-i.rest (omega arith) (rw (low, byte) refl))
    ∙ c.loop-i.invariant

pub loop-i-preserved : goal.loop-i-preserved
loop-i-preserved c =
    let i = c.loop-i.i in
    let count : 8 - (i + 1) ≡ 8 - i - 1 = omega arith in
    let at : c.args.a + (i + 1) ≡ c.args.a + i + 1 = omega arith in
    let skip : (nat_lt (c.args.a + i) c.args.from || (c.loop-i.rest % 256 == 0)) ≡ true = elim c.else-a-i.branch [
      | else-a-i-via-then-a-i+else-rest-ne0 w ↦ grind (arith, w.if-a-i.true, w.if-rest-ne0.false)
      | else-a-i-via-else-a-i w ↦ grind (arith, w.if-a-i.false)
    ] in
    rw (count, at)
    (sym (byte_skipped (8 - i) c.args.from (c.args.a + i) c.loop-i.rest (omega arith) skip) ∙ c.loop-i.invariant)

pub returns-clause-is : goal.returns-clause-is
returns-clause-is c =
    let i = c.loop-i.i in
    let none : 8 - i ≡ 0 = omega arith in
    sym (byte_ends c.args.from (c.args.a + i) c.loop-i.rest)
    ∙ ap (λ (n : ℕ). first_byte n c.args.from (c.args.a + i) c.loop-i.rest) (sym none) ∙ c.loop-i.invariant
