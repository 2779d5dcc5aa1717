-- What is found once the object is followed is what it retains, with itself.
use Rattle.std.proofs.Common.{◌≡◌, arith, length, refl, subst}
use Rattle.clr_sos.specs.Reaching.{place_at}
use Rattle.clr_sos.proofs.Searching.{grown-trans}
use Rattle.clr_paths.specs.Held.{AreFollowedFrom, IsSumFrom}
use Rattle.clr_paths.proofs.HeldReach.{last-exactly}
use Rattle.clr_paths.proofs.HeldSums.{bytes_from-few, item-small, retained-told}
use Rattle.clr_paths.proofs.held.follow_last.Goals as goal

pub overflow_add-result-2 : goal.overflow_add-result-2
overflow_add-result-2 c =
    let v = c.args.view.now in
    let es = c.follow_from.new.reached.entries.items in
    let seen = c.follow_from.new.reached.seen.items in
    let search = c.in_ok-found.ensures.search in
    let few = bytes_from-few v c.requires.sound seen es search c.len-start.result (length es)
    c.in_ok-found.found.bytes c.in_ok-found.ensures.sum.bytes in
    let small = item-small v c.requires.sound seen es search (place_at c.args.reached.now.entries.items c.args.i)
    c.in_ok-own.own c.in_ok-own.ensures.item in
    omega (arith, few, small)

pub returns : goal.returns
returns c =
    let v = c.args.view.now in
    let front = c.args.reached.now.entries.items in
    let mid = c.follow.new.reached.entries.items in
    let es = c.follow_from.new.reached.entries.items in
    let seen = c.follow_from.new.reached.seen.items in
    let search = c.in_ok-found.ensures.search in
    let a = place_at front c.args.i in
    let led = c.in_ok-own.ensures.led in
    let grown = c.in_ok-found.ensures.grown in
    let count = c.len-start.ensures in
    let whole = c.args.reached.now.entries.ok.0 in
    let start : c.len-start.result ≡ length front = omega (arith, count, whole) in
    retained-told v c.requires.sound front es (grown-trans front mid es led.grown grown) seen search a c.args.i
    c.in_ok-own.own c.requires.below refl c.in_ok-own.ensures.item c.requires.around
    (last-exactly v a front c.requires.around c.requires.sound mid es seen search c.args.i c.requires.below refl led
    grown (subst (AreFollowedFrom v es) start c.in_ok-found.ensures.followed)) c.in_ok-found.found
    (subst (λ n. IsSumFrom v es n c.in_ok-found.found) start c.in_ok-found.ensures.sum)
