-- Where any image may be left, a write leaves any.
use Rattle.disk_edge.specs.Disk.{Tears}
use Rattle.disk_edge.specs.TornLaws.{torn_same}
use Rattle.disk_edge.specs.Untold.{any_image}

pub any_tears : {D : Type 0} (at n : _) (before after : D) → Tears at n (any_image before) (any_image after)
any_tears at n before after = record { from = λ c i. (c, tt, torn_same at n c); all = λ c d i torn. tt }
