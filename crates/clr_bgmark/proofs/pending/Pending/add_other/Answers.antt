use Rattle.std.proofs.Common.{◌≡◌, ℕ, ◌*◌, ◌/◌, ◌<◌, ◌≤◌, ◌||◌, inr, length, List, nat_eq, ap, sym, subst, ◌∙◌, arith, refl}
use Rattle.std.proofs.lemmas.Bool.{eq-eqb}
use Rattle.clr_bgmark.specs.Bits.{has_bit, with_bit}
use Rattle.clr_bgmark.specs.Pending.{PendingView}
use Rattle.clr_bgmark.proofs.Groups.{above_more, grouped_more}
use Rattle.clr_bgmark.proofs.MoreBits.{bit_added, with_bit_length}
use Rattle.clr_bgmark.proofs.pending.Pending.add_other.Goals as goal

-- the number is in the set
more : (old new : List ℕ) (n : ℕ) → n < 64 * length old → new ≡ with_bit old n → (i : ℕ)
    → has_bit new i ≡ (nat_eq i n || has_bit old i)
more old new n room is i = ap (λ (ws : List ℕ). has_bit ws i) is ∙ bit_added old n room i

pub invariant_of-self : goal.invariant_of-self
invariant_of-self c =
    let n = c.args.n in
    let numbers = c.self.inside.numbers in
    let groups = c.self.inside.groups in
    let room = c.requires.room in
    let same = ap (λ (v : PendingView). length v.numbers) c.self.view_is in
    let most = c.self.invariant.room in
    let here = more numbers c.add.new.self n (omega (arith, room, same)) c.add.ensures.value in
    let count = ap length c.add.ensures.value ∙ with_bit_length numbers n in
    let counts = ap length c.add-2.ensures.value ∙ with_bit_length groups (n / 64) in
    record {
      grouped = grouped_more numbers c.add.new.self n here groups c.add-2.new.self
          (more groups c.add-2.new.self (n / 64) (omega (arith, room, same, most)) c.add-2.ensures.value)
          c.self.invariant.grouped;
      above = λ i on.
          subst (λ (k : ℕ). k ≤ i) (sym c.min-self-inside.ensures)
          (above_more numbers c.add.new.self n here c.self.inside.lowest c.self.invariant.above i on);
      there = inr (here n ∙ ap (λ b. b || has_bit numbers n) (eq-eqb n n refl));
      room = omega (arith, most, count, counts);
    }

pub returns-clause-numbers : goal.returns-clause-numbers
returns-clause-numbers c i =
    let room = c.requires.room in
    let same = ap (λ (v : PendingView). length v.numbers) c.self.view_is in
    more c.self.inside.numbers c.add.new.self c.args.n (omega (arith, room, same)) c.add.ensures.value i
    ∙ ap (λ (v : PendingView). nat_eq i c.args.n || has_bit v.numbers i) c.self.view_is
