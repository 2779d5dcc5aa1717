-- The bytes of names in front are one, where the first may begin it.
use Rattle.std.proofs.Common.{sym}
use Rattle.clr_script.proofs.NameFronts.{name_made}
use Rattle.clr_script.proofs.quick.births.front_name.Goals as goal

pub returns-then-more-le127 : goal.returns-then-more-le127
returns-then-more-le127 c = (
  c.cut_name.ensures.whole,
  name_made _ _ _ c.in_ok-first.ensures.cases.0 c.cut_name.ensures.named
      (sym c.if-starts_name.ensures) c.if-more-le127.true,
)
