-- What is read of the matches is the path that the arguments say.
use Rattle.std.proofs.Common.{◌∙◌, Some, ap, map, string_bytes}
use Rattle.clap.specs.Simple.{subcommand_rows_of}
use Rattle.clr_args.specs.declared.command_line.CommandLine.{CommandLine}
use Rattle.clr_args.proofs.Answering.{each_read, no_path, none_opened, nothing_by_fault, other_opened, path_by_matches}
use Rattle.clr_args.proofs.Answering.{said_by_matches}
use Rattle.clr_args.proofs.command_line.image_path.Goals as goal

pub returns-in_default : goal.returns-in_default
returns-in_default c =
    let nothing =
    nothing_by_fault (map (λ w. string_bytes w) c.args.arguments.now) (rw c.in_default.is at c.in_ok-matches.ensures) in
    nothing.no_open

pub returns-in_default-read_matches : goal.returns-in_default-read_matches
returns-in_default-read_matches c =
    let found = rw c.in-Some.is at c.in_ok-matches.ensures in
    let rows = subcommand_rows_of c.in-Some.matches in
    let read = c.read_matches.ensures in
    let arguments = map (λ w. string_bytes w) c.args.arguments.now in
    no_path arguments c.read_matches.result
    (said_by_matches arguments rows found.0 found.1 c.read_matches.result
    (each_read rows c.read_matches.result read.run read.soak read.image read.inspect read.migrate read.opens))
    (none_opened c.read_matches.result c.in_default-read_matches.is)

pub returns-in-Open : goal.returns-in-Open
returns-in-Open c =
    let found = rw c.in-Some.is at c.in_ok-matches.ensures in
    let rows = subcommand_rows_of c.in-Some.matches in
    let read = c.read_matches.ensures in
    let arguments = map (λ w. string_bytes w) c.args.arguments.now in
    path_by_matches arguments rows found.1 c.read_matches.result c.in-Open.field-0
    (said_by_matches arguments rows found.0 found.1 c.read_matches.result
    (each_read rows c.read_matches.result read.run read.soak read.image read.inspect read.migrate read.opens))
    (c.in-Some-read_matches.is ∙ ap (λ (l : CommandLine). Some l) c.in-Open.is) _ c.read_path.ensures

pub returns : goal.returns
returns c =
    let found = rw c.in-Some.is at c.in_ok-matches.ensures in
    let rows = subcommand_rows_of c.in-Some.matches in
    let read = c.read_matches.ensures in
    let arguments = map (λ w. string_bytes w) c.args.arguments.now in
    no_path arguments c.read_matches.result
    (said_by_matches arguments rows found.0 found.1 c.read_matches.result
    (each_read rows c.read_matches.result read.run read.soak read.image read.inspect read.migrate read.opens))
    (other_opened c.read_matches.result c.in-Some-read_matches.line c.in-Some-read_matches.is
    c.in_default-line.not-Open)
