-- The machine after the birth stands for what is seen after it.
use Rattle.std.proofs.lemmas.Bool.{both_ways}
use Rattle.clr_types.specs.Types.{form_at, is_array}
use Rattle.clr_model.proofs.PinnedBirth.{pinned_stands}
use Rattle.clr_model.proofs.laws.pinned_births_are_lawful.Goals as goal

pub returns : goal.returns
returns c = λ m t local place type len layout named typed array plain most placed.
    (pinned_stands m type len named (record {
      birth = record {
        typed = typed;
        class = λ e. absurd (both_ways (is_array (form_at m.types type)) e array);
        most = most;
      };
      array = array;
      plain = plain;
    }) place layout placed t local).lawful
