use Rattle.std.proofs.Common.{◌%◌, ◌/◌, ◌^◌, ◌<◌, arith, refl, w64}
use Rattle.std.specs.Int.{trailing_zeros}
use Rattle.clr_bgmark.proofs.WordSearch.{first_told, none_told}
use Rattle.clr_bgmark.proofs.bits.first_in.Goals as goal

pub returns-then-rest-eq0-clause-none : goal.returns-then-rest-eq0-clause-none
returns-then-rest-eq0-clause-none c =
    let fits : c.args.word < 2 ^ 64 = omega (arith, c.ranges.word) in
    none_told c.args.word c.args.n fits c.if-rest-eq0.true

pub returns-clause-near : goal.returns-clause-near
returns-clause-near c =
    let fits : c.args.word < 2 ^ 64 = omega (arith, c.ranges.word) in
    let some = c.if-rest-eq0.false in
    (first_told c.args.word c.args.n fits (trailing_zeros w64 (c.args.word / 2 ^ (c.args.n % 64)))
    (omega (arith, some)) refl).near

pub returns-clause-here : goal.returns-clause-here
returns-clause-here c =
    let fits : c.args.word < 2 ^ 64 = omega (arith, c.ranges.word) in
    let some = c.if-rest-eq0.false in
    (first_told c.args.word c.args.n fits (trailing_zeros w64 (c.args.word / 2 ^ (c.args.n % 64)))
    (omega (arith, some)) refl).here

pub returns-clause-first : goal.returns-clause-first
returns-clause-first c =
    let fits : c.args.word < 2 ^ 64 = omega (arith, c.ranges.word) in
    let some = c.if-rest-eq0.false in
    (first_told c.args.word c.args.n fits (trailing_zeros w64 (c.args.word / 2 ^ (c.args.n % 64)))
    (omega (arith, some)) refl).first
