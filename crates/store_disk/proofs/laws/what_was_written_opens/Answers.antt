use Rattle.store_machine.specs.History.{base_states}
use Rattle.store_disk.specs.Payloads.{history_of}
use Rattle.store_disk.proofs.OneWay.{all-short, history-in-range}
use Rattle.store_disk.proofs.Payloads.{valid-short}
use Rattle.store_disk.proofs.laws.what_was_written_opens.Goals as goal

pub returns-clause-first : goal.returns-clause-first
returns-clause-first c = λ h generation front rest b is few begun shut. record {
  history = is;
  few = few;
  opens = c.a_pair_opens_one_way.ensures.first (history_of generation h) front rest b begun
      (all-short h.commits (history-in-range h is) valid-short h.version (base_states h) is.allowed) shut;
}

pub returns-clause-second : goal.returns-clause-second
returns-clause-second c = λ h generation front rest a is few begun shut. record {
  history = is;
  few = few;
  opens = c.a_pair_opens_one_way.ensures.second (history_of generation h) front rest a begun
      (all-short h.commits (history-in-range h is) valid-short h.version (base_states h) is.allowed) shut;
}
