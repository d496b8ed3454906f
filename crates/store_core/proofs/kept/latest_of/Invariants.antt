use Rattle.store_core.proofs.kept.latest_of.Given as goal

abbrev pub ghosts-latest_by : goal.ghosts-latest_by
ghosts-latest_by a = record { name = a.blank.name; parts = a.blank.parts }
