use Rattle.std.proofs.Common.{◌≡◌, ℕ, ◌++◌, ◌∙◌, List, append_assoc, ap, Result, Ok, Err, OnOk}
use Rattle.std.specs.FinMap as finmap
use Rattle.clr_format.specs.Saved.{queue_bytes, word_bytes}
use Rattle.clr_save.specs.Written.{bytes_of_tables}
use Rattle.clr_save.proofs.put_tables.put_tables.Goals as goal

ok_then : {A E : Type 0} {P Q : Type 0} (r : Result A E) → OnOk r P → (P → Q) → OnOk r Q
ok_then (Ok x) p f = f p
ok_then (Err e) p f = tt

-- six parts, one behind the other
joined : (old s t u v w new a b c d e f : List ℕ) → s ≡ old ++ a → t ≡ s ++ b → u ≡ t ++ c → v ≡ u ++ d → w ≡ v ++ e
    → new ≡ w ++ f → new ≡ old ++ (a ++ (b ++ (c ++ (d ++ (e ++ f)))))
joined old s t u v w new a b c d e f hs ht hu hv hw hn = rw (hn, hw, hv, hu, ht, hs) (simp append_assoc)

pub returns : goal.returns
unfolding bytes_of_tables
returns c =
    let count = c.count_handles.ensures ∙ finmap.len-entries c.args.handles.now in
    ok_then c.put_queue-2.result c.put_queue-2.ensures
    (λ last. joined c.args.out.now.items _ _ _ _ _ _ _ _ _ _ _ _
    (c.in_ok-put_word.ensures ∙ ap (λ n. c.args.out.now.items ++ word_bytes n) c.holder_word.ensures)
    c.in_ok-put_steps.ensures
    (c.in_ok-put_word-2.ensures ∙ ap (λ n. c.put_steps.new.out.items ++ word_bytes n) count) c.in_ok-put_handles.ensures
    (c.in_ok-put_queue.ensures ∙ ap (λ ps. c.put_handles.new.out.items ++ queue_bytes ps) c.entries.ensures)
    (last ∙ ap (λ ps. c.put_queue.new.out.items ++ queue_bytes ps) c.ready.ensures))
