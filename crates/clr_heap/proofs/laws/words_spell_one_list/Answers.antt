use Rattle.clr_heap.proofs.Spelling.{one_list}
use Rattle.clr_heap.proofs.laws.words_spell_one_list.Goals as goal

pub returns : goal.returns
returns c = one_list
