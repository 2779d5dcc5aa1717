use Rattle.std.proofs.Common.{sym, ◌∙◌, arith}
use Rattle.clr_view.proofs.SlotReads.{byte-clean, byte-heads, byte-stored-there, byte-there, byte-unmarked, slot-low}
use Rattle.clr_view.proofs.SlotReads.{word-clean, word-heads, word-stored, word-there, word-unmarked}
use Rattle.clr_view.proofs.slot_values.set_slot_value.Goals as goal

pub overflow_add-target : goal.overflow_add-target
overflow_add-target c =
    let low = slot-low c.args.types.now c.args.heap.now c.args.item.now c.args.slot c.is_byte-byte.ensures.heap
    c.requires.held c.requires.listed c.requires.slot in
    omega (arith, low)

pub set_byte-requires : goal.set_byte-requires
set_byte-requires c =
    byte-there c.args.types.now c.args.heap.now c.args.item.now c.args.slot c.is_byte-byte.ensures.heap
    c.requires.held c.requires.listed c.requires.slot
    (sym c.is_byte-byte.ensures.value ∙ c.if-byte.true)

pub set_word-requires : goal.set_word-requires
set_word-requires c =
    word-there c.args.types.now c.args.heap.now c.args.item.now c.args.slot c.is_byte-byte.ensures.heap
    c.requires.held c.requires.listed c.requires.slot
    (sym c.is_byte-byte.ensures.value ∙ c.if-byte.false)

pub returns-then-byte-clause-stored : goal.returns-then-byte-clause-stored
returns-then-byte-clause-stored c =
    let bytes = sym c.is_byte-byte.ensures.value ∙ c.if-byte.true in
    byte-stored-there c.args.types.now c.args.heap.now c.args.item.now c.args.slot c.is_byte-byte.ensures.heap
    c.requires.held c.requires.listed c.set_byte.new.self c.args.value
    bytes (c.requires.byte bytes) c.set_byte.ensures

pub returns-else-byte-clause-stored : goal.returns-else-byte-clause-stored
returns-else-byte-clause-stored c =
    word-stored c.args.types.now c.args.heap.now c.args.item.now c.args.slot c.is_byte-byte.ensures.heap
    c.requires.held c.requires.listed c.set_word.new.self c.args.value
    (sym c.is_byte-byte.ensures.value ∙ c.if-byte.false) c.set_word.ensures.value

pub returns-then-byte-clause-unmarked : goal.returns-then-byte-clause-unmarked
returns-then-byte-clause-unmarked c =
    let bytes = sym c.is_byte-byte.ensures.value ∙ c.if-byte.true in
    byte-unmarked c.args.types.now c.args.heap.now c.args.item.now c.args.slot c.is_byte-byte.ensures.heap
    c.requires.held c.requires.listed c.set_byte.new.self c.args.value
    bytes (c.requires.byte bytes) c.set_byte.ensures c.requires.slot

pub returns-else-byte-clause-unmarked : goal.returns-else-byte-clause-unmarked
returns-else-byte-clause-unmarked c =
    word-unmarked c.args.types.now c.args.heap.now c.args.item.now c.args.slot c.is_byte-byte.ensures.heap
    c.requires.held c.requires.listed c.set_word.new.self c.args.value
    (sym c.is_byte-byte.ensures.value ∙ c.if-byte.false) c.set_word.ensures.value c.requires.slot

pub returns-then-byte-clause-free_heads : goal.returns-then-byte-clause-free_heads
returns-then-byte-clause-free_heads c =
    let bytes = sym c.is_byte-byte.ensures.value ∙ c.if-byte.true in
    byte-heads c.args.types.now c.args.heap.now c.args.item.now c.args.slot c.is_byte-byte.ensures.heap
    c.requires.held c.requires.listed c.set_byte.new.self c.args.value
    bytes (c.requires.byte bytes) c.set_byte.ensures c.requires.slot

pub returns-else-byte-clause-free_heads : goal.returns-else-byte-clause-free_heads
returns-else-byte-clause-free_heads c =
    word-heads c.args.types.now c.args.heap.now c.args.item.now c.args.slot c.is_byte-byte.ensures.heap
    c.requires.held c.requires.listed c.set_word.new.self c.args.value
    (sym c.is_byte-byte.ensures.value ∙ c.if-byte.false) c.set_word.ensures.value c.requires.slot

pub returns-then-byte-clause-clean : goal.returns-then-byte-clause-clean
returns-then-byte-clause-clean c =
    let bytes = sym c.is_byte-byte.ensures.value ∙ c.if-byte.true in
    byte-clean c.args.types.now c.args.heap.now c.args.item.now c.args.slot c.is_byte-byte.ensures.heap c.requires.held
    c.requires.listed
    c.set_byte.new.self c.args.value bytes (c.requires.byte bytes) c.set_byte.ensures c.requires.slot

pub returns-else-byte-clause-clean : goal.returns-else-byte-clause-clean
returns-else-byte-clause-clean c =
    word-clean c.args.types.now c.args.heap.now c.args.item.now c.args.slot c.is_byte-byte.ensures.heap c.requires.held
    c.requires.listed
    c.set_word.new.self c.args.value (sym c.is_byte-byte.ensures.value ∙ c.if-byte.false) c.set_word.ensures.value
    c.requires.slot
