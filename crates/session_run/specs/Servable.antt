-- For callers: the settings with which sessions can be served.
use Rattle.std.specs.Prelude.{◌≤◌}
use Rattle.par_search.specs.declared.pieces.TheConstants.{MOST_WORKERS}
use Rattle.store_core.specs.declared.page.TheConstants.{MOST_RECORDS}
use Rattle.session_run.specs.declared.settings.Settings.{Settings}

-- 1 to 16 workers, pages of 1 to 256 records
pub record IsServable (settings : Settings) : Type 0 where
  pub some_workers : 1 ≤ settings.workers
  pub few_workers : settings.workers ≤ MOST_WORKERS
  pub some_records : 1 ≤ settings.page
  pub few_records : settings.page ≤ MOST_RECORDS
