-- Word by word the memory is filled.
use Rattle.std.proofs.Common.{◌≡◌, ℕ, ◌+◌, ◌-◌, ◌*◌, ◌/◌, ◌<◌, drop, sym, ◌∙◌, ap, subst, arith}
use Rattle.std.proofs.lemmas.List.{drop-drop}
use Rattle.clr_mem.specs.Words.{Holds, Memory, spelled, with_word}
use Rattle.clr_types.specs.Segments.{first_place}
use Rattle.clr_heap.specs.Filled.{filled}
use Rattle.clr_heap.specs.Memories.{shape_of}
use Rattle.clr_heap.proofs.Filling.{filled_end, filled_holds, filled_shape, filled_start, filled_step}
use Rattle.clr_heap.proofs.memory.fill.Goals as goal

pub loop-i-init : goal.loop-i-init
loop-i-init c =
    let is = c.requires.segment in
    let base = is.base in
    let reserved = is.reserved in
    let low = is.low in
    let high = is.high in
    c.requires.zero ∙ filled_start c.args.info.now is c.args.bytes.now c.args.at (omega arith)

pub set_word-requires : goal.set_word-requires
set_word-requires c =
    let is = c.requires.segment in
    let first = c.first_place.ensures in
    let less : c.loop-i.i < (c.args.info.now.end - first_place c.args.info.now) / 8 =
    omega (arith, first, c.loop-i-test.true) in
    subst (λ (m : Memory). Holds m (c.args.info.now.base + 4088 + 8 * c.loop-i.i) 8) (sym c.loop-i.invariant)
    (filled_holds c.args.info.now is c.args.bytes.now c.args.at c.loop-i.i less).0

pub loop-i-preserved : goal.loop-i-preserved
loop-i-preserved c =
    let is = c.requires.segment in
    let first = c.first_place.ensures in
    let bytes = c.args.bytes.now in
    let i = c.loop-i.i in
    let front : ℕ = c.args.info.now.base + 4088 + 8 * i in
    let less : i < (c.args.info.now.end - first_place c.args.info.now) / 8 =
    omega (arith, first, c.loop-i-test.true) in
    let few = (filled_holds c.args.info.now is bytes c.args.at i less).1 in
    let word : c.word_of_bytes.result ≡ spelled (drop (8 * i) (drop c.args.at bytes)) =
    c.word_of_bytes.ensures ∙ ap spelled (sym (drop-drop (8 * i) c.args.at bytes)) in
    c.set_word.ensures.value
    ∙ ap (λ (m : Memory). with_word m front c.word_of_bytes.result) c.loop-i.invariant
    ∙ ap (with_word (filled c.args.info.now bytes c.args.at i) front) word
    ∙ filled_step c.args.info.now is bytes c.args.at i few

pub returns-clause-words : goal.returns-clause-words
returns-clause-words c =
    let is = c.requires.segment in
    let first = c.first_place.ensures in
    let all : c.loop-i.i ≡ (c.args.info.now.end - first_place c.args.info.now) / 8 =
    omega (arith, first, c.loop-i-test.false) in
    c.loop-i.invariant ∙ ap (filled c.args.info.now c.args.bytes.now c.args.at) all
    ∙ filled_end c.args.info.now is c.args.bytes.now c.args.at

pub returns-clause-shape : goal.returns-clause-shape
returns-clause-shape c =
    ap shape_of (returns-clause-words c)
    ∙ filled_shape c.args.info.now c.requires.segment c.args.bytes.now c.args.at
