-- An object without a mark gets an entry.
use Rattle.std.proofs.Common.{◌≡◌, ◌≢◌, ◌<◌, ℕ, ap, arith, length, set, subst, sym, ◌∙◌}
use Rattle.std.specs.Vec.{with_item}
use Rattle.std.proofs.lemmas.List.{get_or_read}
use Rattle.clr_paths.specs.AllRoots.{HasMet, mark_of}
use Rattle.clr_paths.specs.declared.all_roots.Ways.{Ways}
use Rattle.clr_paths.proofs.WaysBack.{met-added, met-found, met-marked, met-only, met-refl}
use Rattle.clr_paths.proofs.all_roots.Ways.meet.Goals as goal

pub returns-then-index-ne0-clause-met : goal.returns-then-index-ne0-clause-met
returns-then-index-ne0-clause-met c = met-refl c.args.self.now c.args.next

pub returns-then-index-ne0-clause-only : goal.returns-then-index-ne0-clause-only
returns-then-index-ne0-clause-only c = λ i late l. absurd (omega (arith, late, l))

pub returns-then-index-ne0-clause-found : goal.returns-then-index-ne0-clause-found
returns-then-index-ne0-clause-found c = λ none.
    c.if-index-ne0.true (get_or_read c.args.self.now.at.items c.args.number c.index.result.now c.requires.below
    c.index.ensures 0 ∙ none)

pub returns : goal.returns
returns c =
    let old = c.args.self.now in
    let last = c.in_ok-self.field-0 in
    let new : Ways = record { found = c.push.new.self; at = with_item old.at c.args.number last } in
    let n = length old.at.items in
    let number = c.in_ok-in_four_bytes.field-0 in
    let next = c.in_ok-in_four_bytes-2.field-0 in
    let own : number ≡ c.args.number = c.in_ok-in_four_bytes.ensures.number in
    let led : next ≡ c.args.next = c.in_ok-in_four_bytes-2.ensures.number in
    let none = get_or_read old.at.items c.args.number c.index.result.now c.requires.below c.index.ensures 0 in
    let test = c.if-index-ne0.false in
    let inside = subst (λ (k : ℕ). k < n) (sym own) c.requires.below in
    let fresh = subst (λ (k : ℕ). mark_of old k ≡ 0) (sym own) (sym none ∙ test) in
    let size = c.len.ensures in
    let whole = c.push.new.self.ok.0 in
    let told = c.in_ok-self.ensures.number in
    let is : last ≡ length new.found.items = omega (arith, size, whole, told) in
    let at : new.at.items ≡ set old.at.items number last = ap (λ (k : ℕ). set old.at.items k last) (sym own) in
    let found = c.in_ok-push.ensures.items in
    record {
      marks = met-marked n old new c.requires.marks number next last inside fresh found is at;
      met = subst (HasMet old new) led
          (met-added n old new c.requires.marks number next last inside fresh found is at);
      only = λ i late l. met-only n old new c.requires.marks number next last inside fresh found is at i late l ∙ own;
      found = subst (λ (k : ℕ). mark_of new k ≢ 0) own
          (met-found n old new c.requires.marks number next last inside fresh found is at);
    }
