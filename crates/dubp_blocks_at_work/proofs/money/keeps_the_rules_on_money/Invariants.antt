use Rattle.dubp_blocks_at_work.proofs.money.keeps_the_rules_on_money.Given as goal

-- the steps are those of the blank
abbrev pub ghosts-is_kept : goal.ghosts-is_kept
ghosts-is_kept a = record { name = a.blank.name; parts = a.blank.parts }
