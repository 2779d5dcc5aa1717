-- Options as those of the machine.
use Rattle.clr_model.specs.Machine as machine
use Rattle.clr_options.specs.declared.options.Options.{Options}

abbrev pub options_of : Options → machine.Options
options_of o = record {
  limit = o.limit;
  segment = o.segment;
  b0 = o.b0;
  b1 = o.b1;
  b2 = o.b2;
  bl = o.bl;
  compact = o.compact;
  large = o.large;
}
