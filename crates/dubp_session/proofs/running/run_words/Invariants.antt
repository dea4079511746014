use Rattle.dubp_session.proofs.running.run_words.Given as goal

abbrev pub ghosts-session_from : goal.ghosts-session_from
ghosts-session_from g a = record { name = a.blank.name; parts = a.blank.parts }

abbrev pub ghosts-generate_from : goal.ghosts-generate_from
ghosts-generate_from g a = record { name = a.blank.name; parts = a.blank.parts }
