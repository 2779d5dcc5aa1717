-- The first fault of an item's words, of which only the first may be there.
use Rattle.std.proofs.Common.{◌≡◌, ℕ, ◌+◌, ◌-◌, ◌*◌, ◌/◌, Option, Some, None, sym, ◌∙◌, ap, arith}
use Rattle.clr_sos.specs.CheckedCells.{first_in_words, or_else, padding_from}
use Rattle.clr_load.specs.Scans.{rules_in, words_in}
use Rattle.clr_load.proofs.MemoryWords.{all_there, or_at_first, some_missing}
use Rattle.clr_load.proofs.cells.contents_fault.Goals as goal

pub returns-in-Some-clause-is : goal.returns-in-Some-clause-is
returns-in-Some-clause-is c =
    let words = words_in c.args.scan.now in
    let from = padding_from (rules_in c.args.scan.now) c.args.place c.args.type_id.0 c.args.len in
    let there = c.words_there-there.result in
    let told = c.words_there-there.ensures in
    let found : first_in_words there from words (c.args.place + 8) ≡ Some c.in-Some.a =
    ap (λ (f : ℕ). first_in_words there f words (c.args.place + 8)) (sym c.padding_from-from.ensures)
    ∙ sym c.dirty_byte.ensures.is ∙ c.in-Some.is in
    sym (or_at_first ((c.args.size - 16) / 8) there from (c.args.place + 8) c.in-Some.a words told.there.are told.few
    told.not_there found)
    ∙ ap (λ (s : ℕ). first_in_words ((s - 16) / 8) from words (c.args.place + 8)) c.requires.size

pub returns-in-None-clause-is : goal.returns-in-None-clause-is
returns-in-None-clause-is c =
    let words = words_in c.args.scan.now in
    let from = padding_from (rules_in c.args.scan.now) c.args.place c.args.type_id.0 c.args.len in
    let there = c.words_there-there.result in
    let told = c.words_there-there.ensures in
    let less = c.if-there-count.true in
    let none : first_in_words there from words (c.args.place + 8) ≡ None =
    ap (λ (f : ℕ). first_in_words there f words (c.args.place + 8)) (sym c.padding_from-from.ensures)
    ∙ sym c.dirty_byte.ensures.is ∙ c.in-None.is in
    ap (λ (o : Option ℕ). or_else o (Some (c.args.place + 8 + 8 * there))) (sym none)
    ∙ sym (some_missing ((c.args.size - 16) / 8) there from (c.args.place + 8) words told.there.are less
    (told.not_there less))
    ∙ ap (λ (s : ℕ). first_in_words ((s - 16) / 8) from words (c.args.place + 8)) c.requires.size

pub returns-in-None-2-clause-is : goal.returns-in-None-2-clause-is
returns-in-None-2-clause-is c =
    let words = words_in c.args.scan.now in
    let from = padding_from (rules_in c.args.scan.now) c.args.place c.args.type_id.0 c.args.len in
    let there = c.words_there-there.result in
    let told = c.words_there-there.ensures in
    let none : first_in_words there from words (c.args.place + 8) ≡ None =
    ap (λ (f : ℕ). first_in_words there f words (c.args.place + 8)) (sym c.padding_from-from.ensures)
    ∙ sym c.dirty_byte.ensures.is ∙ c.in-None-2.is in
    sym none
    ∙ all_there ((c.args.size - 16) / 8) there from (c.args.place + 8) words told.few (omega arith)
    ∙ ap (λ (s : ℕ). first_in_words ((s - 16) / 8) from words (c.args.place + 8)) c.requires.size
