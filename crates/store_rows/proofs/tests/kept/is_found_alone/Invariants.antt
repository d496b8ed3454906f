use Rattle.store_rows.proofs.tests.kept.is_found_alone.Given as goal

abbrev pub ghosts-is_found_alone_by : goal.ghosts-is_found_alone_by
ghosts-is_found_alone_by a = record { name = a.blank.name; parts = a.blank.parts }
