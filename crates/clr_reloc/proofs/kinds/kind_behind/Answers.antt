use Rattle.std.proofs.Common.{ℕ, sym, ◌∙◌, subst}
use Rattle.clr_reloc.specs.RunKinds.{IsRunKind}
use Rattle.clr_reloc.proofs.KnownKinds.{kind_known}
use Rattle.clr_reloc.proofs.kinds.kind_behind.Goals as goal

pub returns-in-Some : goal.returns-in-Some
returns-in-Some c =
    let (word, a, is, at) = c.requires.item in
    let rows = c.args.types.now in
    subst (λ (w : ℕ). IsRunKind rows (record {
      object = record { mt = w; size = c.args.found.size };
      run = c.in-Some.run';
    })) (sym c.unmarked.ensures)
    (kind_known rows word a c.args.mt c.args.found c.in-Some.run' is at c.if-found-eq0.false
    (sym c.has_length.ensures ∙ c.if-has_length.false) c.in-Some.ensures.spelled)
