use Rattle.store_rows.proofs.tests.chains.find.Given as goal

abbrev pub ghosts-find_by : goal.ghosts-find_by
ghosts-find_by a = record { name = a.blank.name; parts = a.blank.parts }
