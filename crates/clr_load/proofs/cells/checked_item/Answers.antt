-- An item whose first words are lawful is what its type says.
use Rattle.std.proofs.Common.{◌≡◌, true, sym, ◌∙◌, ap, arith}
use Rattle.clr_sos.specs.CheckedCells.{is_header, is_inside, typed_item}
use Rattle.clr_load.specs.Scans.{rules_in, words_in}
use Rattle.clr_sos.proofs.ScanLimits.{type_is}
use Rattle.clr_load.proofs.TypeWords.{item_from}
use Rattle.clr_load.proofs.cells.checked_item.Goals as goal

pub returns-clause-is : goal.returns-clause-is
returns-clause-is c =
    let scan = c.args.scan.now in
    let p = c.args.place in
    let inside : is_inside (rules_in scan) p 24 ≡ true =
    sym c.is_inside.ensures ∙ grind (arith, c.if-not-is_inside.false) in
    let lawful : is_header c.in-Some.header ≡ true =
    sym c.is_header.ensures ∙ grind (arith, c.if-not-is_header.false) in
    c.typed_item.ensures.is
    ∙ ap (typed_item (rules_in scan) (words_in scan) p c.in-Some.header)
    (sym (type_is scan.types.now c.in-Some-word.mt c.by_mt.result c.by_mt.ensures))
    ∙ sym (item_from (rules_in scan) (words_in scan) p c.in-Some.header c.in-Some-word.mt
    (sym c.word.ensures ∙ c.in-Some.is) inside lawful (sym c.word-2.ensures ∙ c.in-Some-word.is))
