use Rattle.std.proofs.Common.{◌/◌, ap, ◌∙◌, arith, length}
use Rattle.clr_mem.proofs.Callers.{length-zeros}
use Rattle.clr_mem.proofs.Mem.sparse.Goals as goal

pub invariant_of-result : goal.invariant_of-result
invariant_of-result c =
    let pages = c.in_ok-new.ensures in
    let count = ap length (pages.ok ∙ c.in_ok-pages.ensures) ∙ length-zeros (c.args.len / 8) in
    let none = ap length c.in_ok-bytes.ensures ∙ length-zeros 0 in
    let aligned = c.requires.base_aligned in
    let whole = c.requires.len_aligned in
    let fits = c.requires.fits in
    record {
      stored = (record { aligned = aligned; whole = omega arith; fits = omega (arith, count, whole, fits) }, none);
      counted = omega (arith, count, whole);
    }

pub returns-clause-end : goal.returns-clause-end
returns-clause-end c =
    let pages = c.in_ok-new.ensures in
    let count = ap length (pages.ok ∙ c.in_ok-pages.ensures) ∙ length-zeros (c.args.len / 8) in
    let whole = c.requires.len_aligned in
    omega (arith, count, whole)
