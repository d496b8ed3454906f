use Rattle.store_core.proofs.kept.next_reading.Given as goal

abbrev pub ghosts-next_by : goal.ghosts-next_by
ghosts-next_by a = record { name = a.blank.name; parts = a.blank.parts }
