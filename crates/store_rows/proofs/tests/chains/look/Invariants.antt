use Rattle.store_rows.proofs.tests.chains.look.Given as goal

abbrev pub ghosts-look_by : goal.ghosts-look_by
ghosts-look_by a = record { name = a.blank.name; parts = a.blank.parts }
