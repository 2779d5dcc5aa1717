-- Each handle is put.
use Rattle.std.proofs.Common.{ℕ, ◌∙◌, ◌++◌, List, append-nil, ap, sym, arith}
use Rattle.std.specs.List.{flat_map}
use Rattle.clr_types.specs.declared.handle.Handle.{Handle}
use Rattle.clr_format.specs.Saved.{handle_bytes}
use Rattle.clr_sos.proofs.NumberedEntries.{entries-all, handles-more, none-before}
use Rattle.clr_save.proofs.put_tables.put_handles.Goals as goal

pub loop-number-init : goal.loop-number-init
loop-number-init c =
    let none = none-before c.args.handles.now in
    record {
      text = sym (append-nil c.args.out.now.items)
          ∙ ap (λ (entries : List (ℕ × Handle)). c.args.out.now.items ++ flat_map handle_bytes entries) (sym none);
      within = omega arith;
    }

pub loop-number-preserved : goal.loop-number-preserved
loop-number-preserved c =
    let next = c.in-Some.ensures.found in
    let below = c.in-Some.ensures.below c.in-Some.number c.in-Some.handle next.in_use in
    record {
      text = rw (c.in_ok-put_handle.ensures, c.loop-number.invariant.text)
          (handles-more handle_bytes c.args.out.now.items c.args.handles.now c.loop-number.from c.in-Some.number
          c.in-Some.handle next);
      within = omega (arith, below);
    }

pub returns : goal.returns
returns c =
    c.loop-number.invariant.text
    ∙ ap (λ (entries : List (ℕ × Handle)). c.args.out.now.items ++ flat_map handle_bytes entries)
    (entries-all c.args.handles.now c.loop-number.from c.in_default.ensures.below c.in_default.ensures.none)
