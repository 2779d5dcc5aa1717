use Rattle.std.proofs.Common.{ℕ, ap, sym, subst, ◌∙◌}
use Rattle.clr_view.specs.View.{free_among}
use Rattle.clr_sweep.specs.SweptItems.{items_from}
use Rattle.clr_sweep.specs.SweptSegments.{IsParted}
use Rattle.clr_sweep.proofs.PassEnds.{none_starts}
use Rattle.clr_ctx.proofs.Renewing.{renewed_index, young_listed, young_parted}
use Rattle.clr_ctx.proofs.young_items.YoungItems.renew_in.Goals as goal

pub list_free-self-inside-requires-clause-parted : goal.list_free-self-inside-requires-clause-parted
list_free-self-inside-requires-clause-parted c =
    subst (IsParted c.args.types.now c.args.heap.now c.args.k)
    (sym (ap (λ (p : ℕ × ℕ). p.1) c.boundaries-start0.ensures))
    (young_parted c.args.types.now c.args.heap.now c.requires.heap c.requires.held c.requires.no_contexts
    c.requires.laid c.args.k c.requires.in_range c.requires.segment)

pub list_free-self-inside-requires-clause-no_contexts : goal.list_free-self-inside-requires-clause-no_contexts
list_free-self-inside-requires-clause-no_contexts c =
    λ q. none_starts c.args.heap.now c.args.k q c.requires.no_contexts

pub returns : goal.returns
returns c =
    let start = ap (λ (p : ℕ × ℕ). p.1) c.boundaries-start0.ensures in
    record {
      index =
          renewed_index c.args.types.now c.args.heap.now c.list_free-self-inside.result c.clear.new.self.items
          c.list_free-self-inside.new.items.items
          (free_among (items_from c.args.types.now c.args.heap.now c.args.k c.boundaries-start0.result.1))
          c.clear.ensures c.list_free-self-inside.ensures
          (young_listed c.args.types.now c.args.heap.now c.requires.heap c.requires.held c.requires.no_contexts
          c.requires.laid c.args.k c.requires.in_range c.requires.segment
          ∙ ap (λ (n : ℕ). free_among (items_from c.args.types.now c.args.heap.now c.args.k n))
          (sym start));
    }
