-- A heap may be made with the options that a script runs with where the command line says nothing.
use Rattle.std.proofs.Common.{◌≡◌, sym, subst}
use Rattle.clr_model.specs.Machine.{Options}
use Rattle.clr_model.specs.Lawful.{AreLawfulOptions}
use Rattle.clr_model.specs.Run.{defaults}
use Rattle.clr_model.proofs.Opening.{defaults_lawful}

pub lawful_defaults : (options : Options) → options ≡ defaults → AreLawfulOptions options
lawful_defaults options e = subst AreLawfulOptions (sym e) defaults_lawful
