use Rattle.wb_laws.proofs.WrittenSorts.{terms_sort, same_sorts}
use Rattle.wb_laws.proofs.laws.a_written_term_has_the_sort_of_its_term.Goals as goal

pub returns : goal.returns
returns c = record { upward = terms_sort; same = same_sorts }
