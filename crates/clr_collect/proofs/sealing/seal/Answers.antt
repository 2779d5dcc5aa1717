-- The ephemeral segment is sealed, and the bricks of what became older are renewed.
use Rattle.std.proofs.Common.{ℕ, ap}
use Rattle.clr_collect.proofs.AfterSealing.{can_renew, kept_sealed, layout_sealed, tables_sealed}
use Rattle.clr_generations.proofs.KeptItems.{kept_clean, kept_heads, kept_objects, kept_unmarked}
use Rattle.clr_collect.proofs.sealing.seal.Goals as goal

pub renew_aged_bricks-requires-clause-held : goal.renew_aged_bricks-requires-clause-held
renew_aged_bricks-requires-clause-held c =
    (kept_sealed c.args.types.now c.args.heap.now c.ephemeral-k.ensures.heap c.requires.held c.requires.no_contexts
    c.args.size c.acquire.new.heap c.in_ok-acquire.ensures.acquired c.acquire.ensures.lawful).held

pub renew_aged_bricks-requires-clause-border : goal.renew_aged_bricks-requires-clause-border
renew_aged_bricks-requires-clause-border c =
    (can_renew c.args.types.now c.args.heap.now c.ephemeral-k.ensures.heap c.requires.held c.requires.no_contexts
    c.args.size c.acquire.new.heap c.in_ok-acquire.ensures.acquired c.acquire.ensures.lawful c.ephemeral-k.result
    c.ephemeral-k.ensures.in_range c.ephemeral-k.ensures.segment c.args.cards.now c.args.bricks.now
    c.acquire.new.bricks c.requires.tables c.acquire.ensures.entries c.requires.laid
    c.boundaries-start0.result.1 (ap (λ (p : ℕ × ℕ). p.1) c.boundaries-start0.ensures)).border

pub renew_aged_bricks-requires-clause-told : goal.renew_aged_bricks-requires-clause-told
renew_aged_bricks-requires-clause-told c =
    (can_renew c.args.types.now c.args.heap.now c.ephemeral-k.ensures.heap c.requires.held c.requires.no_contexts
    c.args.size c.acquire.new.heap c.in_ok-acquire.ensures.acquired c.acquire.ensures.lawful c.ephemeral-k.result
    c.ephemeral-k.ensures.in_range c.ephemeral-k.ensures.segment c.args.cards.now c.args.bricks.now
    c.acquire.new.bricks c.requires.tables c.acquire.ensures.entries c.requires.laid
    c.boundaries-start0.result.1 (ap (λ (p : ℕ × ℕ). p.1) c.boundaries-start0.ensures)).told

pub returns-clause-objects : goal.returns-clause-objects
returns-clause-objects c =
    kept_objects c.args.types.now c.args.heap.now c.acquire.new.heap c.ephemeral-k.ensures.heap c.requires.held
    (kept_sealed c.args.types.now c.args.heap.now c.ephemeral-k.ensures.heap c.requires.held c.requires.no_contexts
    c.args.size c.acquire.new.heap c.in_ok-acquire.ensures.acquired c.acquire.ensures.lawful)

pub returns-clause-layout : goal.returns-clause-layout
returns-clause-layout c =
    layout_sealed c.args.types.now c.args.heap.now c.ephemeral-k.ensures.heap c.requires.held c.requires.no_contexts
    c.args.size c.acquire.new.heap c.in_ok-acquire.ensures.acquired c.acquire.ensures.lawful

pub returns-clause-held : goal.returns-clause-held
returns-clause-held c =
    (kept_sealed c.args.types.now c.args.heap.now c.ephemeral-k.ensures.heap c.requires.held c.requires.no_contexts
    c.args.size c.acquire.new.heap c.in_ok-acquire.ensures.acquired c.acquire.ensures.lawful).held

pub returns-clause-unmarked : goal.returns-clause-unmarked
returns-clause-unmarked c =
    kept_unmarked c.args.types.now c.args.heap.now c.acquire.new.heap c.ephemeral-k.ensures.heap c.requires.held
    (kept_sealed c.args.types.now c.args.heap.now c.ephemeral-k.ensures.heap c.requires.held c.requires.no_contexts
    c.args.size c.acquire.new.heap c.in_ok-acquire.ensures.acquired c.acquire.ensures.lawful)

pub returns-clause-free_heads : goal.returns-clause-free_heads
returns-clause-free_heads c =
    kept_heads c.args.types.now c.args.heap.now c.acquire.new.heap c.ephemeral-k.ensures.heap c.requires.held
    (kept_sealed c.args.types.now c.args.heap.now c.ephemeral-k.ensures.heap c.requires.held c.requires.no_contexts
    c.args.size c.acquire.new.heap c.in_ok-acquire.ensures.acquired c.acquire.ensures.lawful)

pub returns-clause-clean : goal.returns-clause-clean
returns-clause-clean c =
    kept_clean c.args.types.now c.args.heap.now c.acquire.new.heap c.ephemeral-k.ensures.heap c.requires.held
    (kept_sealed c.args.types.now c.args.heap.now c.ephemeral-k.ensures.heap c.requires.held c.requires.no_contexts
    c.args.size c.acquire.new.heap c.in_ok-acquire.ensures.acquired c.acquire.ensures.lawful)

pub returns-clause-tables : goal.returns-clause-tables
returns-clause-tables c =
    tables_sealed c.args.types.now c.args.heap.now c.ephemeral-k.ensures.heap c.requires.held c.requires.no_contexts
    c.args.size c.acquire.new.heap c.in_ok-acquire.ensures.acquired c.acquire.ensures.lawful c.ephemeral-k.result
    c.ephemeral-k.ensures.in_range c.ephemeral-k.ensures.segment c.args.cards.now c.args.bricks.now
    c.acquire.new.bricks c.requires.tables c.acquire.ensures.entries c.acquire.new.cards
    c.renew_aged_bricks.new.bricks c.in_ok-acquire.ensures.cards c.in_ok-acquire.ensures.bricks
    c.renew_aged_bricks.ensures.spans c.renew_aged_bricks.ensures.others c.renew_aged_bricks.ensures.entered
