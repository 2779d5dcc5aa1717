use Rattle.std.proofs.Common.{◌≡◌, ℕ, ◌+◌, ◌-◌, ◌^◌, ◌<◌, ◌&&◌, nat_le, true, sym, ◌∙◌, ap, option_map, arith}
use Rattle.clr_types.specs.declared.TypeId.{TypeId}
use Rattle.clr_heap.specs.View.{last_of, word_of}
use Rattle.clr_sos.specs.CheckedCells.{is_header, is_inside, type_of_word, typed_item}
use Rattle.clr_sos.specs.declared.verify.cells.Limits.{Limits}
use Rattle.clr_sos.specs.Faults.{rules_of, words_in}
use Rattle.clr_sos.proofs.ScanLimits.{cell_words, end_low, inside_is, item_from, type_is}
use Rattle.clr_sos.proofs.verify.cells.checked_item.Goals as goal

pub word_at-header-requires-clause-word : goal.word_at-header-requires-clause-word
word_at-header-requires-clause-word c =
    let at = c.requires.place in
    let z = at.aligned in
    let low = at.low in
    let high = at.high in
    (cell_words c.args.scan.now.heap.now c.args.scan.now.k c.args.place (c.args.place - 8) at
    (omega arith) (omega arith) (omega arith)).0

pub word_at-header-requires-clause-segment : goal.word_at-header-requires-clause-segment
word_at-header-requires-clause-segment c =
    let at = c.requires.place in
    let z = at.aligned in
    let low = at.low in
    let high = at.high in
    (cell_words c.args.scan.now.heap.now c.args.scan.now.k c.args.place (c.args.place - 8) at
    (omega arith) (omega arith) (omega arith)).1

pub word_at-requires-clause-word : goal.word_at-requires-clause-word
word_at-requires-clause-word c =
    let at = c.requires.place in
    let high = at.high in
    (cell_words c.args.scan.now.heap.now c.args.scan.now.k c.args.place c.args.place at at.aligned (omega arith)
    high).0

pub word_at-requires-clause-segment : goal.word_at-requires-clause-segment
word_at-requires-clause-segment c =
    let at = c.requires.place in
    let high = at.high in
    (cell_words c.args.scan.now.heap.now c.args.scan.now.k c.args.place c.args.place at at.aligned (omega arith)
    high).1

pub returns : goal.returns
returns c =
    let rows = c.args.scan.now.types.now in
    let large = c.args.scan.now.limits.large in
    let h = c.args.scan.now.heap.now in
    let k = c.args.scan.now.k in
    let p = c.args.place in
    let header = word_of h (p - 8) in
    let low = end_low h k p c.requires.place in
    let small : last_of h k < 2 ^ 64 = omega (arith, low) in
    let end : c.args.scan.now.limits.end ≡ last_of h k = ap (λ (l : Limits). l.end) c.requires.limits in
    let said : c.is_inside.result ≡ true = grind (arith, c.if-not-is_inside.false) in
    let inside : is_inside (rules_of rows large h k) p 24 ≡ true =
    inside_is rows large h k p c.args.next c.requires.next small 24
    ∙ ap (λ (e : ℕ). nat_le (p + 24) e && nat_le (p + 24) c.args.next) (sym end) ∙ sym c.is_inside.ensures ∙ said in
    let told : c.is_header.result ≡ true = grind (arith, c.if-not-is_header.false) in
    let lawful_header : is_header header ≡ true =
    ap is_header (sym c.word_at-header.ensures) ∙ sym c.is_header.ensures ∙ told in
    c.typed_item.ensures
    ∙ ap (λ (n : ℕ). typed_item (rules_of rows large h k) (words_in h) p n
    (option_map (λ (t : TypeId). t.0) c.by_mt-found.result)) c.word_at-header.ensures
    ∙ ap (typed_item (rules_of rows large h k) (words_in h) p header)
    (sym (type_is rows c.word_at.result c.by_mt-found.result c.by_mt-found.ensures)
    ∙ ap (type_of_word rows) c.word_at.ensures)
    ∙ sym (item_from rows large h k p inside lawful_header)
