-- A free item, or the unused part of a context.
use Rattle.std.proofs.Common.{◌||◌, Bool, true, false, sym, ◌∙◌, ap}
use Rattle.clr_heap.specs.View.{heap_items}
use Rattle.clr_sos.proofs.ContextRooms.{front_is}
use Rattle.clr_sos.proofs.verify.fronts.is_front.Goals as goal

pub returns-then-free : goal.returns-then-free
returns-then-free c =
    c.if-free.true ∙ ap (λ (b : Bool). b || c.is_unused-unused.result) (sym c.if-free.true)
    ∙ front_is (heap_items c.args.types.now c.args.heap.now) c.args.heap.now c.args.size c.args.place
    c.is_free-free.result c.is_unused-unused.result (sym c.gen_of.ensures ∙ c.if-gen_of-ne0.false)
    c.is_free-free.ensures c.is_unused-unused.ensures

pub returns-else-free : goal.returns-else-free
returns-else-free c =
    ap (λ (b : Bool). b || c.is_unused-unused.result) (sym c.if-free.false)
    ∙ front_is (heap_items c.args.types.now c.args.heap.now) c.args.heap.now c.args.size c.args.place
    c.is_free-free.result c.is_unused-unused.result (sym c.gen_of.ensures ∙ c.if-gen_of-ne0.false)
    c.is_free-free.ensures c.is_unused-unused.ensures
