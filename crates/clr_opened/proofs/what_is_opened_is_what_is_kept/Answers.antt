use Rattle.clr_opened.proofs.Reopened.{reopened-same}
use Rattle.clr_opened.proofs.ReopenedLawful.{reopened-lawful, reopened-own}
use Rattle.clr_opened.proofs.what_is_opened_is_what_is_kept.Goals as goal

pub returns-clause-kept : goal.returns-clause-kept
returns-clause-kept c = reopened-same

pub returns-clause-own : goal.returns-clause-own
returns-clause-own c = reopened-own

pub returns-clause-lawful : goal.returns-clause-lawful
returns-clause-lawful c = reopened-lawful
