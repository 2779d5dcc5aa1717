use Rattle.std.proofs.Common.{◌++◌, ◌∙◌, ◌≡◌, List, ℕ, ap, append_assoc}
use Rattle.std.proofs.lemmas.List.{take_rest}
use Rattle.clr_format.specs.Saved.{migrated}
use Rattle.clr_load.proofs.OkThen.{ok_then}
use Rattle.clr_image.proofs.migrating.put_migrated.Goals as goal

-- five parts, one behind the other
joined : (old s t u v new a b c d e : List ℕ) → s ≡ old ++ a → t ≡ s ++ b → u ≡ t ++ c → v ≡ u ++ d → new ≡ v ++ e
    → new ≡ old ++ ((a ++ (b ++ c)) ++ (d ++ e))
joined old s t u v new a b c d e hs ht hu hv hn = rw (hn, hv, hu, ht, hs) (simp append_assoc)

pub returns : goal.returns
unfolding migrated
returns c =
    ok_then c.put_empty_tables.result c.put_empty_tables.ensures
    (λ last. joined c.args.out.now.items _ _ _ _ _ _ _ _ _ _ c.in_ok-extend_from_slice.ensures.items
    c.in_ok-extend_from_slice-2.ensures.items c.in_ok-put_words.ensures (c.in_ok-extend_from_slice-3.ensures.items
    ∙ ap (λ bs. c.put_words.new.out.items ++ bs) (take_rest c.args.bytes.now 16)) last)
