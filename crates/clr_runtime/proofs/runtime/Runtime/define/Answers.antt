-- The table has the type, or it is refused for the first reason that fits.
use Rattle.clr_types.specs.declared.segment.SegKind.TheVariants.{Large, Pinned}
use Rattle.clr_types.specs.Types.{form_of}
use Rattle.clr_ctx.specs.Contexts.{young_items}
use Rattle.clr_large.specs.Places.{kind_items}
use Rattle.clr_options.specs.Options.{options_of}
use Rattle.clr_runtime.specs.RuntimeView.{ahead_of, sums_of, world_of}
use Rattle.clr_model.specs.Step.{new_row}
use Rattle.clr_runtime.proofs.IndexKept.{defined_index}
use Rattle.clr_runtime.proofs.TablesKept.{defined_finalizers, defined_tables}
use Rattle.clr_runtime.proofs.TypeLines.{defined_kept, IsTold, told-err, told-ok}
use Rattle.clr_runtime.proofs.runtime.Runtime.define.Goals as goal
use Rattle.clr_runtime.proofs.runtime.Runtime.define.Goals.{in-Ok, in-Err}

pub returns-clause-follows : goal.returns-clause-follows
returns-clause-follows c =
    let r = c.self.inside.parts in
    let form = form_of c.args.shape in
    let told : IsTold r.types c.args.name.now form c.args.finalizer c.define.result = record {
      duplicate = c.define.ensures.duplicate;
      bad_shape = c.define.ensures.bad_shape;
      too_many = c.define.ensures.too_many;
    } in
    rw (← c.self.view_is)
    elim c.match-define.branch [
      | in-Ok w ↦ rw (w.result-is, w.mt.ensures, w.in-Ok.ensures.number, w.in-Ok.ensures.defined)
          (told-ok (world_of r) c.args.name.now form c.args.finalizer c.define.result told (sums_of r.sums)
          (options_of r.options) r.safe (ahead_of r) c.requires w.in-Ok.t w.in-Ok.is c.self.invariant.shown.held)
      | in-Err w ↦ rw (w.result-is, w.refusal_of.ensures, w.in-Err.ensures.err)
          (told-err (world_of r) c.args.name.now form c.args.finalizer c.define.result told (sums_of r.sums)
          (options_of r.options) r.safe (ahead_of r) w.in-Err.fault w.in-Err.is)
    ]

pub invariant_of-self : goal.invariant_of-self
invariant_of-self c =
    let r = c.self.inside.parts in
    let form = form_of c.args.shape in
    record {
      shown =
          defined_kept (world_of r) c.define.new.self (sums_of r.sums) (options_of r.options) r.safe
          (ahead_of r) c.args.name.now
          form c.args.finalizer c.define.result c.self.invariant.shown c.requires c.define.ensures.defined
          c.define.ensures.err
          (record {
            duplicate = c.define.ensures.duplicate;
            bad_shape = c.define.ensures.bad_shape;
            too_many = c.define.ensures.too_many;
          });
      heap = c.self.invariant.heap;
      tables = defined_tables c.self.invariant.shown c.define.new.self (new_row c.args.name.now form c.args.finalizer)
          r.space.cards r.space.bricks c.define.result c.define.ensures.defined c.define.ensures.err
          c.self.invariant.tables;
      owed = c.self.invariant.owed;
      finalizers = defined_finalizers c.self.invariant.shown c.define.new.self
          (new_row c.args.name.now form c.args.finalizer) c.define.result c.define.ensures.defined c.define.ensures.err
          c.self.invariant.finalizers;
      index = defined_index young_items r.types c.define.new.self r.space.heap
          (new_row c.args.name.now form c.args.finalizer) c.define.result r.collector.young
          c.self.invariant.shown.held
          c.define.ensures.defined c.define.ensures.err c.self.invariant.index;
      large = defined_index (kind_items Large) r.types c.define.new.self r.space.heap
          (new_row c.args.name.now form c.args.finalizer) c.define.result r.large c.self.invariant.shown.held
          c.define.ensures.defined c.define.ensures.err c.self.invariant.large;
      pinned = defined_index (kind_items Pinned) r.types c.define.new.self r.space.heap
          (new_row c.args.name.now form c.args.finalizer) c.define.result r.pinned c.self.invariant.shown.held
          c.define.ensures.defined c.define.ensures.err c.self.invariant.pinned;
      limit = c.self.invariant.limit;
      ready = c.self.invariant.ready;
    }
