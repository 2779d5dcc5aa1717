use Rattle.std.proofs.Common.{◌≡◌, ℕ, ◌+◌, ◌*◌, ◌%◌, ◌^◌, List, [], ◌∷◌, ◌++◌, take, set, ap, sym, ◌∙◌, subst, refl}
use Rattle.std.proofs.Common.{arith, bit_and, w64}
use Rattle.std.proofs.lemmas.List.{length-take-le, length_push, take_more_set}
use Rattle.std.specs.Int.{bit_not, trailing_zeros}
use Rattle.clr_plugs.proofs.Listing.{IsListing, left_less, listed_few, listing_more}
use Rattle.clr_plugs.proofs.offsets.list_word.Goals as goal

pub loop-left-smaller : goal.loop-left-smaller
loop-left-smaller c =
    let some = c.loop-left-test.true in
    left_less c.args.word c.args.low (take c.args.count c.args.into.now) c.requires.can c.loop-left.left
    (take c.loop-left.listed c.loop-left.into) c.loop-left.invariant.listing (omega (arith, some))
    (trailing_zeros w64 c.loop-left.left) refl

pub loop-left-preserved : goal.loop-left-preserved
loop-left-preserved c =
    let some = c.loop-left-test.true in
    let most = c.loop-left.invariant.most in
    let room = c.requires.room in
    let len = c.loop-left.auto.into in
    let before = take c.args.count c.args.into.now in
    let now = take c.loop-left.listed c.loop-left.into in
    let t = trailing_zeros w64 c.loop-left.left in
    let more = listing_more c.args.word c.args.low before c.requires.can c.loop-left.left now
    c.loop-left.invariant.listing (omega (arith, some)) t refl in
    let v = c.args.low + 8 * c.from.result in
    let is : v ≡ c.args.low + 8 * t = ap (λ (n : ℕ). c.args.low + 8 * n) c.from.ensures in
    let stored : take (c.loop-left.listed + 1) (set c.loop-left.into c.loop-left.listed v)
    ≡ now ++ (c.args.low + 8 * t) ∷ [] =
    take_more_set c.loop-left.into c.loop-left.listed v (omega (arith, most, room, len))
    ∙ ap (λ (n : ℕ). now ++ n ∷ []) is in
    let left = bit_and c.loop-left.left (bit_not w64 (1 * 2 ^ t % 2 ^ 64)) in
    let few = listed_few c.args.word c.args.low before c.requires.can left (now ++ (c.args.low + 8 * t) ∷ []) more in
    let count = length_push now (c.args.low + 8 * t) in
    let here = length-take-le c.loop-left.listed c.loop-left.into (omega (arith, most, room, len)) in
    let P : List ℕ → Type 0 = λ xs. IsListing c.args.word c.args.low before left xs in
    record { listing = subst P (sym stored) more; most = omega (arith, few, count, here) }
