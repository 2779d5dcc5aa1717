use Rattle.std.proofs.Common.{sym, ◌∙◌, arith}
use Rattle.clr_view.proofs.SlotReads.{byte-read, byte-there, slot-low, word-read, word-there}
use Rattle.clr_view.proofs.slot_values.slot_value.Goals as goal

pub overflow_add-address : goal.overflow_add-address
overflow_add-address c =
    let low = slot-low c.args.types.now c.args.heap.now c.args.item.now c.args.slot c.is_byte-byte.ensures.heap
    c.requires.held c.requires.listed c.requires.slot in
    omega (arith, low)

pub byte-requires : goal.byte-requires
byte-requires c =
    byte-there c.args.types.now c.args.heap.now c.args.item.now c.args.slot c.is_byte-byte.ensures.heap
    c.requires.held c.requires.listed c.requires.slot
    (sym c.is_byte-byte.ensures.value ∙ c.if-byte.true)

pub word-requires : goal.word-requires
word-requires c =
    word-there c.args.types.now c.args.heap.now c.args.item.now c.args.slot c.is_byte-byte.ensures.heap
    c.requires.held c.requires.listed c.requires.slot
    (sym c.is_byte-byte.ensures.value ∙ c.if-byte.false)

pub returns-then-byte : goal.returns-then-byte
returns-then-byte c =
    byte-read c.args.types.now c.args.heap.now c.args.item.now c.args.slot c.is_byte-byte.ensures.heap
    c.requires.held c.requires.listed c.from.result
    (sym c.is_byte-byte.ensures.value ∙ c.if-byte.true) (c.from.ensures ∙ c.byte.ensures)

pub returns-else-byte : goal.returns-else-byte
returns-else-byte c =
    word-read c.args.types.now c.args.heap.now c.args.item.now c.args.slot c.is_byte-byte.ensures.heap
    c.requires.held c.requires.listed c.word.result
    (sym c.is_byte-byte.ensures.value ∙ c.if-byte.false) c.word.ensures.value
