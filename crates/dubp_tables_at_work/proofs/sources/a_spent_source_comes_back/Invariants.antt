use Rattle.dubp_tables_at_work.proofs.sources.a_spent_source_comes_back.Given as goal

-- the steps are those of the blank
abbrev pub ghosts-counts_steps : goal.ghosts-counts_steps
ghosts-counts_steps g a = record { name = a.blank.name; parts = a.blank.parts }
