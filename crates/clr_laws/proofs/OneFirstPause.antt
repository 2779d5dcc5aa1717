-- The first pause of a background collection leaves one state, but for the order in which colours are listed.
use Rattle.std.proofs.Common.{◌≡◌, ◌⊎◌, inl, inr, Option, None, Some, refl, sym, subst, ◌∙◌}
use Rattle.clr_types.specs.Rising.{IsIn}
use Rattle.clr_model.specs.declared.Refusal.TheVariants as refusal
use Rattle.clr_model.specs.declared.Reply.TheVariants as reply
use Rattle.clr_model.specs.Machine.{Machine, Marking}
use Rattle.clr_model.specs.Lookups.{lowest_in_step}
use Rattle.clr_model.specs.Background.{IsBegun}
use Rattle.clr_model.specs.Checks.{refusal as first_refusal}
use Rattle.clr_model.specs.Instructions.{begin_background}
use Rattle.clr_model.specs.Outcomes.{Outcome, answered, refused}
use Rattle.clr_model.specs.Step.{BeginsBackground, Replies, WantsMemory}
use Rattle.clr_laws.specs.Laws.{AreOneButForOrder, HaveSameColours, HaveSameColoursIfAny, OneFirstPauseLaw}
use Rattle.clr_laws.proofs.OneRoom.{both_options_known}

-- ---- one machine

same_colours : (o : Option Marking) → HaveSameColoursIfAny o o
same_colours None = tt
same_colours (Some k) = record {
  white = λ x. (λ i. i, λ i. i);
  gray = λ x. (λ i. i, λ i. i);
  black = λ x. (λ i. i, λ i. i);
}

one_machine : (m new next : Machine) → new ≡ m → next ≡ m → AreOneButForOrder new next
one_machine m new next e f =
    subst (λ w. AreOneButForOrder w next) (sym e)
    (subst (AreOneButForOrder m) (sym f) (record { rest = refl; colours = same_colours m.background }))

-- ---- what is taken

taken_alike : (m : Machine) (k l : Marking) → IsBegun m k → IsBegun m l → HaveSameColours k l
taken_alike m k l one other = record {
  white = λ x. (λ i. (other.white x).1 ((one.white x).0 i), λ i. (one.white x).1 ((other.white x).0 i));
  gray = λ x. (λ i. (other.gray x).1 ((one.gray x).0 i), λ i. (one.gray x).1 ((other.gray x).0 i));
  black = λ x. (
    λ i. subst (IsIn x) (one.black ∙ sym other.black) i,
    λ i. subst (IsIn x) (other.black ∙ sym one.black) i,
  );
}

not_both : (outcome : Outcome) → outcome ≡ answered reply.Done → outcome ≡ refused refusal.NoMemory → ⊥
not_both outcome e f = apart (sym e ∙ f)
  where
    apart : answered reply.Done ≡ refused refusal.NoMemory → ⊥
    apart e = cc

begins : (m : Machine) (outcome : Outcome) (new next : Machine) → BeginsBackground m outcome new
    → BeginsBackground m outcome next → AreOneButForOrder new next
begins m outcome new next h h' =
    both_options_known (lowest_in_step m) h h' (λ none. both) (λ k h h'. one_machine m new next h.1 h'.1)
  where
    both : ((k : Marking) × IsBegun m k × Replies outcome reply.Done new (record m { background = Some k }))
        ⊎ WantsMemory m outcome new
        → ((l : Marking) × IsBegun m l × Replies outcome reply.Done next (record m { background = Some l }))
        ⊎ WantsMemory m outcome next
        → AreOneButForOrder new next
    both (inl (k, one, (replied, is))) (inl (l, other, (replied', is'))) =
        subst (λ w. AreOneButForOrder w next) (sym is)
        (subst (AreOneButForOrder (record m { background = Some k })) (sym is')
        (record { rest = refl; colours = taken_alike m k l one other }))
    both (inl (k, one, (replied, is))) (inr wants) = absurd (not_both outcome replied wants.0)
    both (inr wants) (inl (l, other, (replied, is))) = absurd (not_both outcome replied wants.0)
    both (inr wants) (inr wants') = one_machine m new next wants.1 wants'.1

pub one_first_pause : OneFirstPauseLaw
one_first_pause m t outcome new next h h' =
    both_options_known (first_refusal m (begin_background t)) h h' (λ none. begins m outcome new next)
    (λ r h h'. one_machine m new next h.1 h'.1)
