-- Lines put together of what was read of them.
use Rattle.std.proofs.Common.{◌≡◌, ap, ℕ, ◌<◌, ◌^◌, List, ◌∷◌, ◌++◌, [], append-nil, Option, codes}
use Rattle.clr_types.specs.declared.handle.Kind.{Kind}
use Rattle.clr_model.specs.Instructions.{create_handle}
use Rattle.clr_model.specs.LineGrammar.{IsLine, IsHandleForm, thread_word, local_word, local_words}
use Rattle.clr_model.specs.ReplyText.{spaced, kind_word}
use Rattle.clr_script.specs.Fronts.{behind}

-- words behind a first one
pub spaced_behind : (w : List ℕ) (ws : List (List ℕ)) → w ++ behind ws ≡ spaced (w ∷ ws)
spaced_behind w [] = append-nil w
spaced_behind w (v ∷ vs) = ap (λ l. w ++ (32 ∷ l)) (spaced_behind v vs)

pub handle_made : (t local : ℕ) (kind : Kind) (second : Option ℕ) (text rest more : List ℕ)
    → text ≡ (32 ∷ kind_word kind) ++ rest → rest ≡ (32 ∷ local_word local) ++ more
    → more ≡ behind (local_words second) → t < 2 ^ 64 → local < 2 ^ 64 → IsHandleForm kind second
    → IsLine (thread_word t ++ ((32 ∷ codes "handle") ++ text)) (create_handle t kind local second)
handle_made t local kind second text rest more e f g t-fits local-fits form = record {
  formed = (t-fits, local-fits, form);
  spelled = rw (e, f, g)
      (spaced_behind (thread_word t) (codes "handle" ∷ kind_word kind ∷ local_word local ∷ local_words second));
}
