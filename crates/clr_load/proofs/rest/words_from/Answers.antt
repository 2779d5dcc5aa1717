-- One word more.
use Rattle.std.proofs.Common.{◌≡◌, ℕ, List, [], ◌∷◌, ◌++◌, sym, ◌∙◌, ap, arith}
use Rattle.clr_mem.specs.Words.{words_of}
use Rattle.clr_heap.proofs.Filling.{words_more}
use Rattle.clr_load.proofs.rest.words_from.Goals as goal

pub loop-i-init : goal.loop-i-init
unfolding words_of
loop-i-init c = c.new-words.ensures.items

pub loop-i-preserved : goal.loop-i-preserved
loop-i-preserved c =
    c.in_ok-push.ensures.items
    ∙ ap (λ (ws : List ℕ). ws ++ c.word_of_bytes.result ∷ []) c.loop-i.invariant
    ∙ ap (λ (w : ℕ). words_of c.loop-i.i c.args.bytes.now ++ w ∷ []) c.word_of_bytes.ensures
    ∙ sym (words_more c.loop-i.i c.args.bytes.now)

pub returns : goal.returns
returns c =
    let all : c.loop-i.i ≡ 1024 = omega arith in
    c.loop-i.invariant ∙ ap (λ (n : ℕ). words_of n c.args.bytes.now) all
