use Rattle.dubp_tables_at_work.proofs.expiry.entries_are_found_in_order.Given as goal

-- the steps are those of the blank
abbrev pub ghosts-counts_steps : goal.ghosts-counts_steps
ghosts-counts_steps g a = record { name = a.blank.name; parts = a.blank.parts }

abbrev pub ghosts-empties : goal.ghosts-empties
ghosts-empties g a = record { name = a.blank.name; parts = a.blank.parts }
