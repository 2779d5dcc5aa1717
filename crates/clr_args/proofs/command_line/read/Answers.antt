-- What is read of the matches is what the arguments say.
use Rattle.std.proofs.Common.{map, string_bytes}
use Rattle.clap.specs.Simple.{subcommand_rows_of}
use Rattle.clr_args.proofs.Answering.{each_read, nothing_by_fault, said_by_matches}
use Rattle.clr_args.proofs.command_line.read.Goals as goal

pub returns-in_default : goal.returns-in_default
returns-in_default c =
    nothing_by_fault (map (λ w. string_bytes w) c.args.arguments.now) (rw c.in_default.is at c.in_ok-matches.ensures)

pub returns : goal.returns
returns c =
    let found = rw c.in-Some.is at c.in_ok-matches.ensures in
    let rows = subcommand_rows_of c.in-Some.matches in
    let read = c.read_matches.ensures in
    said_by_matches (map (λ w. string_bytes w) c.args.arguments.now) rows found.0 found.1 c.read_matches.result
    (each_read rows c.read_matches.result read.run read.soak read.image read.inspect read.migrate
    read.opens)
