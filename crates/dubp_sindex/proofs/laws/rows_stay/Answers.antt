use Rattle.dubp_sindex.proofs.Derived.{behind_rows, placed_rows, left_rows}
use Rattle.dubp_sindex.proofs.laws.rows_stay.Goals as goal

pub returns-clause-made : goal.returns-clause-made
returns-clause-made c = λ rows e are new. behind_rows rows e are new

pub returns-clause-between : goal.returns-clause-between
returns-clause-between c = λ rows e are free. placed_rows rows e are free

pub returns-clause-spent : goal.returns-clause-spent
returns-clause-spent c = λ rows id are. left_rows rows id are
