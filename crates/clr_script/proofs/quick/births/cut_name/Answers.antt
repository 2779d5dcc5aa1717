-- What stands before the first other byte may stand in a name.
use Rattle.std.proofs.Common.{◌≡◌, ◌∙◌, List, ℕ, sym, subst, true}
use Rattle.std.specs.List.{list_all}
use Rattle.clr_model.specs.LineGrammar.{is_name_byte}
use Rattle.clr_script.proofs.NameFronts.{all_pass, all_pass_to}
use Rattle.clr_script.proofs.quick.births.cut_name.Goals as goal

pub returns-in-None-clause-named : goal.returns-in-None-clause-named
returns-in-None-clause-named c = all_pass is_name_byte c.args.text.now (sym c.first_other.ensures ∙ c.in-None.is)

pub split_at-requires : goal.split_at-requires
split_at-requires c =
    (all_pass_to is_name_byte c.args.text.now c.in-Some.at (sym c.first_other.ensures ∙ c.in-Some.is)).0

pub returns-in-Some-clause-named : goal.returns-in-Some-clause-named
returns-in-Some-clause-named c =
    subst (λ (l : List ℕ). list_all is_name_byte l ≡ true) (sym c.split_at.ensures.front)
    (all_pass_to is_name_byte c.args.text.now c.in-Some.at (sym c.first_other.ensures ∙ c.in-Some.is)).1
