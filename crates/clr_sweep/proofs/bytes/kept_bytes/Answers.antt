use Rattle.std.proofs.Common.{◌≡◌, ℕ, ◌+◌, ◌≤◌, arith, ap, sym, nat_lt, ◌∙◌}
use Rattle.clr_heap.specs.View.{heap_items}
use Rattle.clr_sweep.specs.KeptBytes.{kept_size}
use Rattle.clr_sweep.specs.SweptItems.{items_from}
use Rattle.clr_sweep.proofs.KeptBytes.{kept-all, kept-reached, kept-young, kept_reached}
use Rattle.clr_sweep.proofs.KeptSizes.{weighed-same}
use Rattle.clr_sweep.proofs.YoungPart.{below_two}
use Rattle.clr_sweep.proofs.YoungWhole.{as-seen, part_parted}
use Rattle.clr_sweep.proofs.bytes.kept_bytes.Goals as goal

pub returns-then-g-eq2 : goal.returns-then-g-eq2
returns-then-g-eq2 c = λ m kept memory tests.
    (let rows = c.args.types.now in
    let h = c.args.heap.now in
    c.small_bytes.ensures.bytes
    ∙ ap (λ (n : ℕ). nat_lt n c.args.need) (sym (kept-all rows h)
    ∙ ap (λ (n : ℕ). kept_reached h n (heap_items rows h)) (sym c.if-g-eq2.true)
    ∙ sym (kept-reached rows h m c.args.g kept c.small_bytes.ensures.heap c.requires.held tests memory)))

pub part_bytes-requires-clause-parted : goal.part_bytes-requires-clause-parted
part_bytes-requires-clause-parted c =
    rw c.start_of-from.ensures (part_parted c.args.types.now c.args.heap.now c.ephemeral-k.ensures.heap c.requires.held
    c.requires.no_contexts c.requires.laid c.args.g (below_two c.args.g c.requires.generation c.if-g-eq2.false)
    c.ephemeral-k.result c.ephemeral-k.ensures.in_range c.ephemeral-k.ensures.segment)

pub returns : goal.returns
returns c = λ m kept memory tests.
    (let rows = c.args.types.now in
    let h = c.args.heap.now in
    let k = c.ephemeral-k.result in
    let young : c.args.g ≤ 1 = below_two c.args.g c.requires.generation c.if-g-eq2.false in
    let none : (n : ℕ) → 0 + n ≡ n = λ n. omega arith in
    weighed-same (0 + kept_size h (items_from rows h k c.start_of-from.result)) c.args.need 0 c.part_bytes.result
    c.part_bytes.ensures.weighed
    ∙ ap (λ (n : ℕ). nat_lt n c.args.need) (none (kept_size h (items_from rows h k c.start_of-from.result))
    ∙ ap (λ (n : ℕ). kept_size h (items_from rows h k n)) c.start_of-from.ensures
    ∙ sym (kept-young rows h c.requires.laid.0 c.ephemeral-k.ensures.heap c.requires.held c.requires.no_contexts
    (as-seen rows h c.ephemeral-k.ensures.heap c.requires.held c.requires.no_contexts c.requires.laid c.args.g young)
    c.args.g young k c.ephemeral-k.ensures.in_range c.ephemeral-k.ensures.segment)
    ∙ sym (kept-reached rows h m c.args.g kept c.ephemeral-k.ensures.heap c.requires.held tests memory)))
