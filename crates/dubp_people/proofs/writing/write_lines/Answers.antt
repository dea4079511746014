use Rattle.dubp_people.proofs.writing.write_lines.Goals as goal

pub returns-clause-indexes : goal.returns-clause-indexes
returns-clause-indexes g c = λ chain written since at others. c.in_ok-write_indexes.ensures.indexes chain others.2 written since at others.0
