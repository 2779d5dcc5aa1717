-- The text is all that was written.
use Rattle.std.proofs.Common.{◌∙◌, ℕ, List, subst, sym}
use Rattle.clr_image.specs.Texts.{Inspected}
use Rattle.clr_image.proofs.ShownTexts.{grown_is}
use Rattle.clr_image.proofs.inspecting.inspect.Goals as goal

pub returns-in-Whole : goal.returns-in-Whole
returns-in-Whole c =
    let (parts, is, text, says, appended, counted) = c.in-Whole.ensures.written in
    let same = c.into_bytes.ensures
    ∙ grown_is c.new-text.result.bytes.items c.inspect_to.new.sink.bytes.items text c.new-text.ensures appended in (
      parts,
      is,
      subst (λ (l : List ℕ). Inspected c.args.bytes.items parts l) (sym same) says,
    )
