use Rattle.std.proofs.Common.{◌<◌, ℕ, ◌+◌, ◌-◌, ap, inl, sym, ◌∙◌, subst, arith, set}
use Rattle.clr_heap.specs.Memories.{clears, InOne}
use Rattle.clr_heap.specs.View.{HasHead, rest_between, word_of}
use Rattle.clr_view.proofs.Carving.{Carves, carves_part}
use Rattle.clr_ctx.proofs.Steps.{drawn_cells, drawn_head, drawn_low, drawn_step, drawn_within}
use Rattle.clr_ctx.proofs.ranges.open_in_item.Goals as goal
use Rattle.clr_ctx.proofs.ranges.open_in_item.Goals.{then-taken-size, else-taken-size}

pub make_free-requires-clause-head : goal.make_free-requires-clause-head
make_free-requires-clause-head c =
    let less : c.args.taken < c.args.item.size =
    subst (λ n. c.args.taken < n) c.size.ensures.value c.if-taken-size.true in
    subst (λ q. HasHead c.args.heap.now (q + c.args.taken)) (sym c.place-low.ensures)
    (drawn_head c.args.types.now c.args.heap.now c.args.t c.requires.heap c.requires.held c.requires.positive
    c.requires.few c.args.item c.args.taken c.requires.none c.requires.listed c.requires.least c.requires.aligned
    c.requires.within less)

pub overflow_sub-low : goal.overflow_sub-low
overflow_sub-low c =
    let low = drawn_low c.args.types.now c.args.heap.now c.args.t c.requires.heap c.requires.held
    c.requires.positive c.requires.few c.args.item c.args.taken c.requires.none c.requires.listed c.requires.least
    c.requires.aligned c.requires.within in
    let at = c.place-low.ensures in
    omega (arith, low, at)

pub clear_cells-requires : goal.clear_cells-requires
clear_cells-requires c =
    let h = c.args.heap.now in
    let p = c.args.item in
    let n = c.args.taken in
    let size = c.size.ensures.value in
    let fit = drawn_within c.args.types.now c.args.heap.now c.args.t c.requires.heap c.requires.held
    c.requires.positive c.requires.few c.args.item c.args.taken c.requires.none c.requires.listed c.requires.least
    c.requires.aligned c.requires.within in
    let carves : Carves h p n c.if-taken-size.heap =
    elim c.if-taken-size.branch [
      | then-taken-size w ↦
          let less : n < p.size = subst (λ b. n < b) size w.if-taken-size.true in
          carves_part h p n c.place-low.result w.size-then-taken-size.result c.if-taken-size.heap w.make_free.new.self
          c.place-low.ensures w.size-then-taken-size.ensures.value less w.heap-is w.make_free.ensures.words
      | else-taken-size w ↦ let not_less = w.if-taken-size.false in inl (omega (arith, not_less, size, fit), w.heap-is)
    ] in
    subst (λ a. InOne c.if-taken-size.heap.memories (a - 8) n) (sym c.place-low.ensures)
    (drawn_cells c.args.types.now c.args.heap.now c.args.t c.requires.heap c.requires.held c.requires.positive
    c.requires.few c.args.item c.args.taken c.requires.none c.requires.listed c.requires.least c.requires.aligned
    c.requires.within c.if-taken-size.heap carves)

pub returns-clause-relaid : goal.returns-clause-relaid
returns-clause-relaid c =
    let h = c.args.heap.now in
    let p = c.args.item in
    let n = c.args.taken in
    let size = c.size.ensures.value in
    let fit = drawn_within c.args.types.now c.args.heap.now c.args.t c.requires.heap c.requires.held
    c.requires.positive c.requires.few c.args.item c.args.taken c.requires.none c.requires.listed c.requires.least
    c.requires.aligned c.requires.within in
    let carves : Carves h p n c.if-taken-size.heap =
    elim c.if-taken-size.branch [
      | then-taken-size w ↦
          let less : n < p.size = subst (λ b. n < b) size w.if-taken-size.true in
          carves_part h p n c.place-low.result w.size-then-taken-size.result c.if-taken-size.heap w.make_free.new.self
          c.place-low.ensures w.size-then-taken-size.ensures.value less w.heap-is w.make_free.ensures.words
      | else-taken-size w ↦ let not_less = w.if-taken-size.false in inl (omega (arith, not_less, size, fit), w.heap-is)
    ] in
    (drawn_step c.args.types.now c.args.heap.now c.args.t c.requires.heap c.requires.held c.requires.positive
    c.requires.few c.args.item c.args.taken c.requires.none c.requires.listed c.requires.least c.requires.aligned
    c.requires.within
    c.if-taken-size.heap c.clear_cells.new.self c.set_hole.new.self carves c.clear_cells.ensures.shape
    (λ b z. c.clear_cells.ensures.words b z ∙ ap (λ (a : ℕ). clears (a - 8) n (word_of c.if-taken-size.heap) b)
    c.place-low.ensures)
    (c.set_hole.ensures
    ∙ ap (λ (a : ℕ).
    record c.clear_cells.new.self { rests = set c.clear_cells.new.self.rests (c.args.t - 1) (rest_between a (a + n)) })
    c.place-low.ensures)).0

pub returns-clause-young : goal.returns-clause-young
returns-clause-young c =
    let h = c.args.heap.now in
    let p = c.args.item in
    let n = c.args.taken in
    let size = c.size.ensures.value in
    let fit = drawn_within c.args.types.now c.args.heap.now c.args.t c.requires.heap c.requires.held
    c.requires.positive c.requires.few c.args.item c.args.taken c.requires.none c.requires.listed c.requires.least
    c.requires.aligned c.requires.within in
    let carves : Carves h p n c.if-taken-size.heap =
    elim c.if-taken-size.branch [
      | then-taken-size w ↦
          let less : n < p.size = subst (λ b. n < b) size w.if-taken-size.true in
          carves_part h p n c.place-low.result w.size-then-taken-size.result c.if-taken-size.heap w.make_free.new.self
          c.place-low.ensures w.size-then-taken-size.ensures.value less w.heap-is w.make_free.ensures.words
      | else-taken-size w ↦ let not_less = w.if-taken-size.false in inl (omega (arith, not_less, size, fit), w.heap-is)
    ] in
    (drawn_step c.args.types.now c.args.heap.now c.args.t c.requires.heap c.requires.held c.requires.positive
    c.requires.few c.args.item c.args.taken c.requires.none c.requires.listed c.requires.least c.requires.aligned
    c.requires.within
    c.if-taken-size.heap c.clear_cells.new.self c.set_hole.new.self carves c.clear_cells.ensures.shape
    (λ b z. c.clear_cells.ensures.words b z ∙ ap (λ (a : ℕ). clears (a - 8) n (word_of c.if-taken-size.heap) b)
    c.place-low.ensures)
    (c.set_hole.ensures
    ∙ ap (λ (a : ℕ).
    record c.clear_cells.new.self { rests = set c.clear_cells.new.self.rests (c.args.t - 1) (rest_between a (a + n)) })
    c.place-low.ensures)).1
