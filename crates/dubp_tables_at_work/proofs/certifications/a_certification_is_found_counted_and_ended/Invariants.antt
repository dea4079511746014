use Rattle.dubp_tables_at_work.proofs.certifications.a_certification_is_found_counted_and_ended.Given as goal

-- the steps are those of the blank
abbrev pub ghosts-counts_steps : goal.ghosts-counts_steps
ghosts-counts_steps g a = record { name = a.blank.name; parts = a.blank.parts }
