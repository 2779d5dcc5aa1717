-- Each handle has its line, and is counted.
use Rattle.std.proofs.Common.{ℕ, ◌∙◌, ◌++◌, List, length, append-nil, ap, sym, arith}
use Rattle.std.specs.List.{flat_map}
use Rattle.std.specs.FinMap as finmap
use Rattle.clr_model.specs.Sos.{handle_line}
use Rattle.clr_types.specs.declared.handle.Handle.{Handle}
use Rattle.clr_sos.proofs.NumberedEntries.{count-more, entries-all, handles-more, none-before}
use Rattle.clr_sos.proofs.handles.put_handles.Goals as goal

pub loop-number-init : goal.loop-number-init
loop-number-init c =
    let none = none-before c.args.handles.now in
    record {
      text = sym (append-nil c.args.text.now.items)
          ∙ ap (λ (entries : List (ℕ × Handle)). c.args.text.now.items ++ flat_map handle_line entries) (sym none);
      count = sym (ap length none);
      few = omega arith;
      within = omega arith;
    }

pub loop-number-preserved : goal.loop-number-preserved
loop-number-preserved c =
    let next = c.in-Some.ensures.found in
    let below = c.in-Some.ensures.below c.in-Some.number c.in-Some.handle next.in_use in
    let above = next.above in
    let few = c.loop-number.invariant.few in
    record {
      text = rw (c.in_ok-put_handle.ensures, c.loop-number.invariant.text)
          (handles-more handle_line c.args.text.now.items c.args.handles.now c.loop-number.from c.in-Some.number
          c.in-Some.handle next);
      count = rw c.loop-number.invariant.count
          (count-more c.args.handles.now c.loop-number.from c.in-Some.number c.in-Some.handle next);
      few = omega (arith, few, above);
      within = omega (arith, below);
    }

pub returns-clause-text : goal.returns-clause-text
returns-clause-text c =
    c.loop-number.invariant.text
    ∙ ap (λ (entries : List (ℕ × Handle)). c.args.text.now.items ++ flat_map handle_line entries)
    (entries-all c.args.handles.now c.loop-number.from c.in_default.ensures.below c.in_default.ensures.none)

pub returns-clause-count : goal.returns-clause-count
returns-clause-count c =
    c.loop-number.invariant.count
    ∙ ap length (entries-all c.args.handles.now c.loop-number.from c.in_default.ensures.below c.in_default.ensures.none)
    ∙ sym (finmap.len-entries c.args.handles.now)
