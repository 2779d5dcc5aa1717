use Rattle.clr_model.proofs.PlainSeries.{plain_series, series_refer}
use Rattle.clr_model.proofs.laws.plain_arrays_have_no_series.Goals as goal

pub returns-clause-plain : goal.returns-clause-plain
returns-clause-plain c = plain_series

pub returns-clause-refer : goal.returns-clause-refer
returns-clause-refer c = series_refer
