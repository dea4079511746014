use Rattle.dubp_tables_at_work.proofs.found.is_passed.Given as goal

abbrev pub ghosts-passes : goal.ghosts-passes
ghosts-passes g a = record { name = a.blank.name; parts = a.blank.parts }
