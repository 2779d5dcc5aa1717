-- Each handle of the kind has its line, and is counted.
use Rattle.std.proofs.Common.{◌∙◌, ◌++◌, ℕ, List, ap, append-nil, arith, filter, length, sym}
use Rattle.std.specs.List.{flat_map}
use Rattle.clr_types.specs.declared.handle.Handle.{Handle}
use Rattle.clr_model.specs.Sos.{handle_line}
use Rattle.clr_sos.proofs.NumberedEntries.{entries-all}
use Rattle.clr_shows.specs.Kinds.{has_kind}
use Rattle.clr_shows.proofs.KindEntries.{kind-counted, kind-shown, no-kind}
use Rattle.clr_shows.proofs.kinds.put_handles_of.Goals as goal

pub loop-number-init : goal.loop-number-init
loop-number-init c =
    let none = no-kind c.args.kind c.args.handles.now in
    record {
      text = sym (append-nil c.args.text.now.items)
          ∙ ap (λ (entries : List (ℕ × Handle)). c.args.text.now.items ++ flat_map handle_line entries) (sym none);
      count = sym (ap length none);
      few = omega arith;
      within = omega arith;
    }

pub loop-number-preserved : goal.loop-number-preserved
loop-number-preserved c =
    let next = c.in-Some.ensures.found in
    let below = c.in-Some.ensures.below c.in-Some.number c.in-Some.handle next.in_use in
    let above = next.above in
    let few = c.loop-number.invariant.few in
    let one = c.one_of-count.ensures.few in
    record {
      text = rw (c.in_ok-put_if.ensures, c.loop-number.invariant.text)
          (kind-shown c.args.kind c.args.handles.now c.loop-number.from c.in-Some.number c.in-Some.handle next
          handle_line c.args.text.now.items);
      count = kind-counted c.args.kind c.args.handles.now c.loop-number.from c.in-Some.number c.in-Some.handle next
          c.loop-number.count c.one_of-count.result c.loop-number.invariant.count
          (c.one_of-count.ensures.count c.in-Some.number);
      few = omega (arith, few, above, one);
      within = omega (arith, below);
    }

pub returns-clause-text : goal.returns-clause-text
returns-clause-text c =
    c.loop-number.invariant.text
    ∙ ap (λ (entries : List (ℕ × Handle)). c.args.text.now.items
    ++ flat_map handle_line (filter (has_kind c.args.kind) entries))
    (entries-all c.args.handles.now c.loop-number.from c.in_default.ensures.below c.in_default.ensures.none)

pub returns-clause-count : goal.returns-clause-count
returns-clause-count c =
    c.loop-number.invariant.count
    ∙ ap (λ (entries : List (ℕ × Handle)). length (filter (has_kind c.args.kind) entries))
    (entries-all c.args.handles.now c.loop-number.from c.in_default.ensures.below c.in_default.ensures.none)
