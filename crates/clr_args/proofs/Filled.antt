-- Commands whose rules are the program's, once what they leave out is filled in, are read as the program is.
use Rattle.std.specs.Prelude.{◌≡◌, ◌++◌, ◌&&◌, ℕ, Bool, true, false, List, [], ◌∷◌, codes, drop, map}
use Rattle.std.specs.Prelude.{if◌then◌else◌}
use Rattle.std.specs.List.{list_all}
use Rattle.std.proofs.Common.{refl, ap, ap₂, ◌∙◌}
use Rattle.std.proofs.lemmas.List.{map-append}
use Rattle.clap.specs.Walk.{Rule, Text, nothing_held, stop_after}
use Rattle.clap.specs.Simple.{App, Shape, built, entered, filled, filled_from, index_after, is_buildable, is_ready}
use Rattle.clap.specs.Simple.{is_ready_leaf, is_simple, names_of, new_shape, subcommand_of, with_index, with_rule}
use Rattle.clap.specs.Simple.{with_subcommand}
use Rattle.clap.specs.Faults.{built_fault, fault_of, is_free_app, is_simple_and_free}
use Rattle.clr_args.specs.Grammar.{budget_names, open_places, option_names, soak_places}
use Rattle.clr_args.specs.Parser.{filled_app, filled_shape, option_rule, place_rule, program, top_shape}
use Rattle.clr_args.proofs.Turns.{leaf, level}

-- ---- what builders add

pub filled_rule : (a : App) (r : Rule) → filled_app (with_rule a r) ≡ with_rule (filled_app a) (filled r)
filled_rule a r = ap (λ (rules : List Rule). record {
  top = record a.top { rules = rules };
  subs = map filled_shape a.subs;
}) (map-append filled a.top.rules (r ∷ []))

pub filled_subcommand : (a : App) (s : Shape)
    → filled_app (with_subcommand a s) ≡ with_subcommand (filled_app a) (filled_shape s)
filled_subcommand a s = ap (λ (subs : List Shape). record {
  top = record a.top { rules = map filled a.top.rules; is_leaf = false };
  subs = subs;
}) (map-append filled_shape a.subs (s ∷ []))

-- a rule more, by what it is once it is filled in
pub rule_added : (before after : App) (made rule : Rule) (want : App) → after ≡ with_rule before made
    → filled made ≡ rule → filled_app before ≡ want → filled_app after ≡ with_rule want rule
rule_added before after made rule want is fills are =
    ap filled_app is ∙ (filled_rule before made ∙ ap₂ with_rule are fills)

-- and a command more
pub command_added : (before after : App) (made shape : Shape) (want : App) → after ≡ with_subcommand before made
    → filled_shape made ≡ shape → filled_app before ≡ want → filled_app after ≡ with_subcommand want shape
command_added before after made shape want is fills are =
    ap filled_app is ∙ (filled_subcommand before made ∙ ap₂ with_subcommand are fills)

-- ---- rules

-- rules that are filled in, with their positions
abbrev indexed_from : ℕ → List Rule → List Rule
indexed_from i [] = []
indexed_from i (a ∷ rest) = with_index i a ∷ indexed_from (index_after i a) rest

filled_is : (i : ℕ) (rules : List Rule) → filled_from i rules ≡ indexed_from i (map filled rules)
filled_is i [] = refl
filled_is i (a ∷ rest) =
    ap (λ (rules : List Rule). with_index i (filled a) ∷ rules) (filled_is (index_after i a) rest)

abbrev are_simple : List Rule → Bool
are_simple rules = list_all (λ a. a.is_simple) rules

simple_is : (rules : List Rule) → are_simple rules ≡ are_simple (map filled rules)
simple_is [] = refl
simple_is (a ∷ rest) = ap (λ b. a.is_simple && b) (simple_is rest)

-- ---- shapes

-- a shape that is filled in to another is that one but for its rules
shape_is : (s t : Shape) → filled_shape s ≡ t → s ≡ record t { rules = s.rules }
shape_is s t e = λ i. record {
  name = (e i).name;
  aliases = (e i).aliases;
  rules = s.rules;
  is_plain = (e i).is_plain;
  is_leaf = (e i).is_leaf;
  no_binary_name = (e i).no_binary_name;
  disable_help_flag = (e i).disable_help_flag;
  disable_help_subcommand = (e i).disable_help_subcommand;
  disable_version_flag = (e i).disable_version_flag;
  propagate_version = (e i).propagate_version;
  has_version = (e i).has_version;
  has_long_version = (e i).has_long_version;
  args_override_self = (e i).args_override_self;
  arg_required_else_help = (e i).arg_required_else_help;
  subcommand_required = (e i).subcommand_required;
  subcommand_negates_reqs = (e i).subcommand_negates_reqs;
  is_built = (e i).is_built;
}

rules_are : (s t : Shape) → filled_shape s ≡ t → map filled s.rules ≡ t.rules
rules_are s t e = ap (λ (x : Shape). x.rules) e

no_rules : (rules : List Rule) → map filled rules ≡ [] → rules ≡ []
no_rules [] e = refl
no_rules (a ∷ rest) e = absurd cc

-- a shape without rules
bare_is : (s t : Shape) → filled_shape s ≡ t → t.rules ≡ [] → s ≡ record t { rules = [] }
bare_is s t e none =
    shape_is s t e ∙ ap (λ (rules : List Rule). record t { rules = rules }) (no_rules s.rules (rules_are s t e ∙ none))

record IsFirst (shapes : List Shape) (first : Shape) (rest : List Shape) : Type 0 where
  shape : Shape
  more : List Shape
  are : shapes ≡ shape ∷ more
  first_is : filled_shape shape ≡ first
  rest_are : map filled_shape more ≡ rest

first_of : (shapes rest : List Shape) (first : Shape) → map filled_shape shapes ≡ first ∷ rest
    → IsFirst shapes first rest
first_of [] rest first e = absurd cc
first_of (s ∷ more) rest first e = record {
  shape = s;
  more = more;
  are = refl;
  first_is = ap (λ (xs : List Shape). head xs) e;
  rest_are = ap (λ (xs : List Shape). tail xs) e;
}
  where
    head : List Shape → Shape
    head [] = s
    head (x ∷ xs) = x

    tail : List Shape → List Shape
    tail [] = []
    tail (x ∷ xs) = xs

none_left : (shapes : List Shape) → map filled_shape shapes ≡ [] → shapes ≡ []
none_left [] e = refl
none_left (s ∷ more) e = absurd cc

-- ---- the program

abbrev command_with : Text → List Rule → Shape
command_with name rules = record (new_shape name) { rules = rules }

-- the program with these rules
abbrev program_with : List Rule → List Rule → List Rule → List Rule → App
program_with run soak image opened = record {
  top = record top_shape { is_leaf = false };
  subs =
      command_with (codes "run") run ∷ command_with (codes "soak") soak ∷ command_with (codes "image") image
      ∷ command_with (codes "inspect") [] ∷ command_with (codes "migrate") [] ∷ command_with (codes "open") opened ∷ [];
}

abbrev options : List Rule
options = map option_rule option_names

abbrev options_and_places : List Rule
options_and_places = map option_rule option_names ++ map place_rule soak_places

abbrev budgets_and_path : List Rule
budgets_and_path = map option_rule budget_names ++ map place_rule open_places

record IsProgram (a : App) : Type 0 where
  run : List Rule
  soak : List Rule
  image : List Rule
  opened : List Rule
  is : a ≡ program_with run soak image opened
  run_filled : map filled run ≡ options
  soak_filled : map filled soak ≡ options_and_places
  image_filled : map filled image ≡ options
  opened_filled : map filled opened ≡ budgets_and_path

is_program : (a : App) → filled_app a ≡ program → IsProgram a
is_program a e =
    let top = bare_is a.top (record top_shape { is_leaf = false }) (ap (λ (x : App). x.top) e) refl in
    let run = first_of a.subs _ _ (ap (λ (x : App). x.subs) e) in
    let soak = first_of run.more _ _ run.rest_are in
    let image = first_of soak.more _ _ soak.rest_are in
    let inspect = first_of image.more _ _ image.rest_are in
    let migrate = first_of inspect.more _ _ inspect.rest_are in
    let opened = first_of migrate.more _ _ migrate.rest_are in
    let runs = shape_is run.shape _ run.first_is in
    let soaks = shape_is soak.shape _ soak.first_is in
    let images = shape_is image.shape _ image.first_is in
    let inspects = bare_is inspect.shape _ inspect.first_is refl in
    let migrates = bare_is migrate.shape _ migrate.first_is refl in
    let opens = shape_is opened.shape _ opened.first_is in
    let none = none_left opened.more opened.rest_are in
    let subs =
    run.are ∙ ap₂ (λ (s : Shape) (ss : List Shape). s ∷ ss) runs
    (soak.are ∙ ap₂ (λ (s : Shape) (ss : List Shape). s ∷ ss) soaks
    (image.are ∙ ap₂ (λ (s : Shape) (ss : List Shape). s ∷ ss) images
    (inspect.are ∙ ap₂ (λ (s : Shape) (ss : List Shape). s ∷ ss) inspects
    (migrate.are ∙ ap₂ (λ (s : Shape) (ss : List Shape). s ∷ ss) migrates
    (opened.are ∙ ap₂ (λ (s : Shape) (ss : List Shape). s ∷ ss) opens none))))) in
    record {
      run = run.shape.rules;
      soak = soak.shape.rules;
      image = image.shape.rules;
      opened = opened.shape.rules;
      is = λ i. record { top = top i; subs = subs i };
      run_filled = rules_are run.shape _ run.first_is;
      soak_filled = rules_are soak.shape _ soak.first_is;
      image_filled = rules_are image.shape _ image.first_is;
      opened_filled = rules_are opened.shape _ opened.first_is;
    }

abbrev built_with : List Rule → List Rule → List Rule → List Rule → App
built_with run soak image opened = record {
  top = level (codes "clrheap") false [];
  subs =
      leaf (codes "run") run ∷ leaf (codes "soak") soak ∷ leaf (codes "image") image ∷ leaf (codes "inspect") []
      ∷ leaf (codes "migrate") [] ∷ leaf (codes "open") opened ∷ [];
}

built_is : (run soak image opened : List Rule)
    → built (program_with run soak image opened)
    ≡ built_with (filled_from 1 run) (filled_from 1 soak) (filled_from 1 image) (filled_from 1 opened)
built_is run soak image opened = refl

abbrev buildable_by : Bool → Bool → Bool → Bool → Bool
buildable_by run soak image opened = run && (soak && (image && (opened && true)))

buildable_is : (run soak image opened : List Rule)
    → is_buildable (program_with run soak image opened)
    ≡ buildable_by (are_simple run) (are_simple soak) (are_simple image) (are_simple opened)
buildable_is run soak image opened = refl

-- a command whose rules are filled in to the program's
module _ (a : App) (alike : filled_app a ≡ program) where
  parts : IsProgram a
  parts = is_program a alike

  built_same : built a ≡ built program
  built_same =
      let run = filled_is 1 parts.run ∙ ap (indexed_from 1) parts.run_filled in
      let soak = filled_is 1 parts.soak ∙ ap (indexed_from 1) parts.soak_filled in
      let image = filled_is 1 parts.image ∙ ap (indexed_from 1) parts.image_filled in
      let opened = filled_is 1 parts.opened ∙ ap (indexed_from 1) parts.opened_filled in
      ap built parts.is
      ∙ (built_is parts.run parts.soak parts.image parts.opened
      ∙ (λ i. built_with (run i) (soak i) (image i) (opened i)))

  buildable : is_buildable a ≡ true
  buildable =
      let run : are_simple parts.run ≡ true = simple_is parts.run ∙ ap are_simple parts.run_filled in
      let soak : are_simple parts.soak ≡ true = simple_is parts.soak ∙ ap are_simple parts.soak_filled in
      let image : are_simple parts.image ≡ true = simple_is parts.image ∙ ap are_simple parts.image_filled in
      let opened : are_simple parts.opened ≡ true = simple_is parts.opened ∙ ap are_simple parts.opened_filled in
      ap is_buildable parts.is
      ∙ (buildable_is parts.run parts.soak parts.image parts.opened
      ∙ (λ i. buildable_by (run i) (soak i) (image i) (opened i)))

  pub simple : is_simple a ≡ true
  simple =
      ap₂ (λ (b : Bool) (c : App). b && (is_ready c.top && list_all is_ready_leaf c.subs)) buildable built_same

  pub simple_and_free : is_simple_and_free a ≡ true
  simple_and_free = ap₂ (λ (b : Bool) (c : App). b && is_free_app c) simple built_same

  top_is : a.top.no_binary_name ≡ true
  top_is = ap (λ (x : App). x.top.no_binary_name) parts.is

  pub fault_is : (arguments : List Text) → fault_of a arguments ≡ fault_of program arguments
  fault_is arguments =
      ap₂ (λ (c : App) (b : Bool). built_fault c nothing_held (if b then arguments else drop 1 arguments))
      built_same top_is

  pub found_is : (arguments : List Text) → subcommand_of a arguments ≡ subcommand_of program arguments
  found_is arguments = ap₂ (λ (c : App) (b : Bool). entered c
      (stop_after c.top.rules (names_of c) (if b then arguments else drop 1 arguments))) built_same top_is
