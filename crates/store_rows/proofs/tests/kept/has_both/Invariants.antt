use Rattle.store_rows.proofs.tests.kept.has_both.Given as goal

abbrev pub ghosts-has_both_by : goal.ghosts-has_both_by
ghosts-has_both_by a = record { name = a.blank.name; parts = a.blank.parts }
