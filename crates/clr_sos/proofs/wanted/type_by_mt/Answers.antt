-- The table of types has a word exactly where the definition finds it.
use Rattle.std.proofs.Common.{◌&&◌, Bool, true, ap}
use Rattle.clr_sos.proofs.Wanting.{mt-known, mt-unknown, same-mt}
use Rattle.clr_sos.proofs.wanted.type_by_mt.Goals as goal

pub returns-in_err-found-in-Some : goal.returns-in_err-found-in-Some
returns-in_err-found-in-Some c =
    let none = mt-unknown c.args.types.now c.in-Some.word c.in_err-found-in-Some.ensures in
    rw (c.from_residual.ensures, c.in-Some.is) (ap (λ (b : Bool). b && true) none)

pub returns-in_ok-found-in-Some : goal.returns-in_ok-found-in-Some
returns-in_ok-found-in-Some c =
    let known = c.in_ok-found-in-Some.ensures in
    rw c.in-Some.is (
      ap (λ (b : Bool). b && true)
          (mt-known c.args.types.now c.in-Some.word c.in_ok-found-in-Some.found.0 known.0 known.1),
      λ item. same-mt c.in_ok-found-in-Some.found.0 item.type_id.0 c.in-Some.word known.1,
    )
