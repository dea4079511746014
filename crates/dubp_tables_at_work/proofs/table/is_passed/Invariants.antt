use Rattle.dubp_tables_at_work.proofs.table.is_passed.Given as goal

abbrev pub ghosts-passes : goal.ghosts-passes
ghosts-passes a = record { name = a.blank.name; parts = a.blank.parts }
