-- What the collection has left stays, but for the index.
use Rattle.std.proofs.Common.{ap, sym, ◌∙◌, arith, subst}
use Rattle.clr_runtime.specs.RuntimeView.{seen}
use Rattle.clr_runtime.specs.Slides.{CountsCollection}
use Rattle.clr_runtime.specs.declared.parts.Parts.{Parts}
use Rattle.clr_runtime.proofs.rooms.collect_for_room.Goals as goal

pub returns-clause-collected : goal.returns-clause-collected
returns-clause-collected c =
    let (after, collects, is) = c.collect_parts-collected.ensures.collected in
    (after, collects, ap seen c.renew_index.ensures.others ∙ is)

pub returns-clause-no_contexts : goal.returns-clause-no_contexts
returns-clause-no_contexts c =
    ap (λ (p : Parts). p.space.heap.rests) c.renew_index.ensures.others ∙ c.collect_parts-collected.ensures.no_contexts

pub returns-clause-slides : goal.returns-clause-slides
returns-clause-slides c =
    subst (CountsCollection c.collect_parts-collected.result.compacted c.args.parts.now.collector.slides)
    (sym (ap (λ (p : Parts). p.collector.slides) c.renew_index.ensures.others)) c.collect_parts-collected.ensures.slides

pub returns-clause-spare : goal.returns-clause-spare
returns-clause-spare c =
    let same = ap (λ (p : Parts). p.roots.finals.spare) c.renew_index.ensures.others in
    let more = c.collect_parts-collected.ensures.spare in
    omega (arith, same, more)

pub returns-clause-types : goal.returns-clause-types
returns-clause-types c =
    ap (λ (p : Parts). p.types) c.renew_index.ensures.others ∙ c.collect_parts-collected.ensures.types

pub returns-clause-safe : goal.returns-clause-safe
returns-clause-safe c =
    ap (λ (p : Parts). p.safe) c.renew_index.ensures.others ∙ c.collect_parts-collected.ensures.safe

pub returns-clause-options : goal.returns-clause-options
returns-clause-options c =
    ap (λ (p : Parts). p.options) c.renew_index.ensures.others ∙ c.collect_parts-collected.ensures.options
