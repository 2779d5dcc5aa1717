use Rattle.std.proofs.Common.{arith}
use Rattle.clr_covers.proofs.Spans.{HasAll-covered}
use Rattle.clr_low_tests.proofs.bricks.expect_found.Goals as goal

pub found_from-found-requires-clause-covered : goal.found_from-found-requires-clause-covered
found_from-found-requires-clause-covered g c = HasAll-covered _ 65536 65600 _ c.requires (omega arith) (omega arith)
