-- The limit of a store is another.
use Rattle.std.proofs.Common.{◌≤◌, refl, ℕ}
use Rattle.store_core.specs.Stored.{Served, StandsFor, StoreTerm}

pub relimited : (store : StoreTerm) (s : Served) (commits : ℕ) → commits ≤ 16777215 → StandsFor store s
    → StandsFor (record store { limit = commits }) (record s { limit = commits })
relimited store s commits few h = record {
  sound = record {
    history = h.sound.history;
    doubt = tt;
    slots = h.sound.slots;
    pins = h.sound.pins;
    bases = record { base = h.sound.bases.base; copy = tt; finish = tt };
    kept = h.sound.kept;
    made = h.sound.made;
  };
  version = h.version;
  limit = refl;
  most = few;
  within = h.within;
  pins = h.pins;
  kept = h.kept;
  few = h.few;
  live = h.live;
  withdrawn = h.withdrawn;
  ids = h.ids;
  chains = λ id. let k = h.chains id in record { late = k.late; states = k.states; records = k.records };
}
