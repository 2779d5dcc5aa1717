-- Words that are zero, enough of them.
use Rattle.std.proofs.Common.{◌≡◌, ◌+◌, ◌++◌, ◌∙◌, ap, ap₂, arith, length, length-append, replicate, ℕ, List}
use Rattle.std.proofs.lemmas.List.{length-replicate}
use Rattle.clr_mem.proofs.Callers.{length-zeros}
use Rattle.clr_sos.proofs.FreshMarks.{none-in_both}
use Rattle.clr_sos.proofs.reach.bits.Bits.new.Goals as goal

pub returns-clause-room : goal.returns-clause-room
returns-clause-room c =
    let front : c.in_ok-front.front.items ≡ replicate c.counts-whole.result.0 0 =
    c.in_ok-front.ensures.items_if_clones_equal (λ y same. same) in
    let whole : length c.in_ok-front.front.items ≡ c.counts-whole.result.0 =
    ap (λ (ws : List ℕ). length ws) front ∙ length-replicate {A = ℕ} c.counts-whole.result.0 0 in
    let paged : length c.in_ok-pages.pages ≡ c.counts-whole.result.1 =
    ap (λ (ws : List ℕ). length ws) c.in_ok-pages.ensures ∙ length-zeros c.counts-whole.result.1 in
    let both : length (c.in_ok-front.front.items ++ c.in_ok-pages.pages)
    ≡ length c.in_ok-front.front.items + length c.in_ok-pages.pages =
    length-append c.in_ok-front.front.items c.in_ok-pages.pages in
    let room = c.counts-whole.ensures.room in
    omega (arith, whole, paged, both, room)

pub returns-clause-none : goal.returns-clause-none
returns-clause-none c =
    none-in_both c.in_ok-front.front.items c.in_ok-pages.pages c.counts-whole.result.0 c.counts-whole.result.1
    (c.in_ok-front.ensures.items_if_clones_equal (λ y same. same)) c.in_ok-pages.ensures
