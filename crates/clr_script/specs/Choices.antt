-- The type that `dumpheap` names, as it was read.
use Rattle.std.specs.Option.{option_map}
use Rattle.clr_model.specs.Parsing as parsing
use Rattle.clr_script.specs.declared.options.TypeChoice.{TypeChoice}

abbrev pub choice_of : TypeChoice → parsing.TypeChoice
choice_of c = record { mt = c.mt; name = option_map (λ n. n.now) c.name }
