use Rattle.par_search.proofs.calls.fetch.Given as goal

abbrev pub ghosts-fetch_by : goal.ghosts-fetch_by
ghosts-fetch_by g a = record { name = a.blank.name; parts = a.blank.parts }
