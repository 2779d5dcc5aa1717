use Rattle.clr_nums.proofs.HexText.{hex16-length, hex_reads, hex_some}
use Rattle.clr_nums.proofs.read.read_hex.Goals as goal

pub returns-then-text-eq16-clause-reads : goal.returns-then-text-eq16-clause-reads
returns-then-text-eq16-clause-reads c = hex_reads c.args.text.now c.hex_number.result c.hex_number.ensures

pub returns-then-text-eq16-clause-some : goal.returns-then-text-eq16-clause-some
returns-then-text-eq16-clause-some c = hex_some c.args.text.now c.hex_number.result c.hex_number.ensures

pub returns-else-text-eq16-clause-reads : goal.returns-else-text-eq16-clause-reads
returns-else-text-eq16-clause-reads c =
    λ n small same. absurd (hex16-length c.args.text.now n c.if-text-eq16.false same)
