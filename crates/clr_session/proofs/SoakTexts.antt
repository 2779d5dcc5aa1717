-- What the lines that show the heap reply at the end of a generated script.
use Rattle.std.proofs.Common.{◌≡◌, ◌∙◌, ℕ, List, refl, ap, inl, inr}
use Rattle.clr_model.specs.Instructions.{dump_heap, verify_heap, plain_options}
use Rattle.clr_model.specs.Machine.{Machine}
use Rattle.clr_model.specs.declared.Reply.{Reply}
use Rattle.clr_model.specs.declared.Reply.TheVariants.{Clean}
use Rattle.clr_model.specs.Outcomes.{Outcome, answered, shown, refused}
use Rattle.clr_model.specs.Picture.{picture}
use Rattle.clr_model.specs.Run.{Follows, StandsFor}
use Rattle.clr_model.specs.Step.{Does}
use Rattle.clr_lines.specs.Outcomes.{outcome_of}
use Rattle.clr_lines.specs.declared.outcome.Outcome as code
use Rattle.clr_session.specs.Soak.{stat_options, stat_text}

shown_same : (a b : List ℕ) → shown a ≡ shown b → a ≡ b
shown_same a b e = cc

does_stat : (m new : Machine) (text : List ℕ) → Does m (dump_heap (plain_options stat_options)) (shown text) new
    → text ≡ stat_text (picture m)
does_stat m new text (inl (live, tests, is, stays)) = shown_same text _ is
does_stat m new text (inr (is, stays)) = cc

-- a text that it shows is that of what is seen
pub stat_told : (seen new : Machine) (text : List ℕ) → (m : Machine) × StandsFor seen m
    → Follows seen (dump_heap (plain_options stat_options)) (shown text) new → text ≡ stat_text seen
unfolding Follows
stat_told seen new text (m, stands) follows =
    let next = follows m stands in
    does_stat m next.0 text next.1 ∙ ap stat_text stands.seen_is

-- `verifyheap` answers that all is well
clean_outcome : (seen new : Machine) (outcome : Outcome) → (m : Machine) × StandsFor seen m
    → Follows seen verify_heap outcome new → outcome ≡ answered Clean
unfolding Follows
clean_outcome seen new outcome (m, stands) follows = (follows m stands).1.0

pub clean_told : (seen new : Machine) (reply : Reply) → (m : Machine) × StandsFor seen m
    → Follows seen verify_heap (answered reply) new → reply ≡ Clean
clean_told seen new reply stands follows = let e = clean_outcome seen new (answered reply) stands follows in cc

-- and nothing else
pub clean_alone : (seen new : Machine) (told : code.Outcome) → (m : Machine) × StandsFor seen m
    → Follows seen verify_heap (outcome_of told) new → ((reply : Reply) → told ≡ code.TheVariants.Reply reply → ⊥) → ⊥
clean_alone seen new (code.TheVariants.Reply reply) stands follows other = other reply refl
clean_alone seen new (code.TheVariants.Text text) stands follows other =
    let e = clean_outcome seen new (shown text.items) stands follows in cc
clean_alone seen new (code.TheVariants.Refused refusal) stands follows other =
    let e = clean_outcome seen new (refused refusal) stands follows in cc
