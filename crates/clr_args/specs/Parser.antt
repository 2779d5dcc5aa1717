-- The commands and their options, as the parser of arguments knows them.
use Rattle.std.specs.Prelude.{true, List, [], ◌∷◌, ◌++◌, Some, codes, fold, map}
use Rattle.clap.specs.Walk.{Rule, Text}
use Rattle.clap.specs.Simple.{App, Shape, filled, new_rule, new_shape, with_rule, with_subcommand}
use Rattle.clap.specs.declared.builder.action.ArgAction.TheVariants.{Set}
use Rattle.clap.specs.declared.builder.value_parser.ValueParser.TheVariants as vp
use Rattle.clr_args.specs.Grammar.{budget_names, open_places, option_names, soak_places}

-- a rule that takes one text, once
abbrev pub text_rule : Text → Rule
text_rule name = record (new_rule name) {
  action = Some Set;
  range = Some (record { start_inclusive = 1; end_inclusive = 1 });
  parser = Some vp.String;
}

-- an option that is written with its name
abbrev pub option_rule : Text → Rule
option_rule name = record (text_rule name) { long = Some name }

-- a place that has to have a text
abbrev pub place_rule : Text → Rule
place_rule name = record (text_rule name) { required = true }

-- a command with two options more
abbrev pub with_two : Text → Text → App → App
with_two first second app = with_rule (with_rule app (option_rule first)) (option_rule second)

-- a command with the options for budgets more
abbrev pub with_budgets : App → App
with_budgets app = fold with_rule app (map option_rule budget_names)

-- a command with the options more
abbrev pub with_options : App → App
with_options app = fold with_rule app (map option_rule option_names)

-- a command with these options and places
abbrev pub command_shape : Text → List Text → List Text → Shape
command_shape name options places =
    record (new_shape name) { rules = map option_rule options ++ map place_rule places }

abbrev pub top_shape : Shape
top_shape = record (new_shape (codes "clrheap")) {
  no_binary_name = true;
  disable_help_flag = true;
  disable_help_subcommand = true;
  disable_version_flag = true;
  subcommand_required = true;
}

-- the commands, in the order in which they are added
abbrev pub command_shapes : List Shape
command_shapes =
    command_shape (codes "run") option_names [] ∷ command_shape (codes "soak") option_names soak_places
    ∷ command_shape (codes "image") option_names [] ∷ command_shape (codes "inspect") [] []
    ∷ command_shape (codes "migrate") [] [] ∷ command_shape (codes "open") budget_names open_places ∷ []

-- the program without commands
abbrev pub bare_program : App
bare_program = record { top = top_shape; subs = [] }

-- the program: these commands, no help and no version
abbrev pub program : App
program = fold with_subcommand bare_program command_shapes

-- ---- what is left out

-- a command with what its rules leave out
abbrev pub filled_shape : Shape → Shape
filled_shape s = record s { rules = map filled s.rules }

abbrev pub filled_app : App → App
filled_app a = record { top = filled_shape a.top; subs = map filled_shape a.subs }
