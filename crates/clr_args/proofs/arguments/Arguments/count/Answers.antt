-- There are as many arguments as texts.
use Rattle.std.proofs.Common.{◌≡◌, ◌∙◌, sym, ap, arith, length, vec_len, string_bytes}
use Rattle.std.proofs.lemmas.List.{length-map}
use Rattle.clr_args.proofs.arguments.Arguments.count.Goals as goal

pub returns : goal.returns
returns c =
    let texts = c.self.inside.texts.items in
    let whole : vec_len c.self.inside.texts ≡ length texts = omega (arith, c.self.inside.texts.ok) in
    c.len.ensures ∙ (whole ∙ (sym (length-map texts string_bytes) ∙ ap length c.self.view_is))
