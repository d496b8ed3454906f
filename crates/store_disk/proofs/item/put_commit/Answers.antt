use Rattle.std.proofs.Common.{drop, Err, map, Ok, refl, Vec, ℕ}
use Rattle.std.specs.declared.alloc.Global.{Global}
use Rattle.store_disk.specs.Copies.{copy_of}
use Rattle.store_disk.proofs.Items.{commit-lacks}
use Rattle.store_disk.proofs.NextItem.{commit-given, queue-split}
use Rattle.store_disk.proofs.item.put_commit.Goals as goal

pub returns-in-Err-clause-item : goal.returns-in-Err-clause-item
returns-in-Err-clause-item g c s l =
    let q = c.args.copy.now.commits.items in
    let x = c.in-Some.payload.now in
    record {
      lacks = tt;
      gives = commit-given g.D.Disk.model c.args.pair.now c.add.new.self (Err c.in-Err.fault) s
          (copy_of c.args.copy.now) l c.requires.based x.items (map (λ (v : Vec ℕ Global). v.items) (drop 1 q))
          (queue-split q (drop 1 q) x c.requires.some c.in-Some.ensures.lookup refl) c.deref.result.now
          c.deref.ensures.value c.in-Err.ensures.gives;
    }

pub returns-clause-item : goal.returns-clause-item
returns-clause-item g c s l =
    let copy = copy_of c.args.copy.now in
    let q = c.args.copy.now.commits.items in
    let x = c.in-Some.payload.now in
    let rest = c.pop_front.new.self.items in
    let after = map (λ (v : Vec ℕ Global). v.items) rest in
    let split = queue-split q rest x c.requires.some c.in-Some.ensures.lookup c.pop_front.ensures.rest in
    record {
      lacks = commit-lacks s.history s.copy copy l c.requires.based x.items after split;
      gives = commit-given g.D.Disk.model c.args.pair.now c.add.new.self (Ok tt) s copy l c.requires.based x.items
          after split c.deref.result.now c.deref.ensures.value c.in-Ok.ensures.gives;
    }
