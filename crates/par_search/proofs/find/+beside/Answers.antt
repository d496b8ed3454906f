use Rattle.std.proofs.Common.{◌≡◌, ◌≤◌, ◌∷◌, All, arith, List, subst, suc, ℕ}
use Rattle.smarts_parse.specs.Pattern.{pattern_of}
use Rattle.par_search.specs.Flags.{WorkerTerm}
use Rattle.par_search.specs.Shares.{records_in}
use Rattle.par_search.proofs.Joining.{found-first}
use Rattle.par_search.proofs.find.+beside.Goals as goal

-- the rest have the room that all have
rest-room : (size : ℕ) (all rest : List WorkerTerm) (w : WorkerTerm) → all ≡ w ∷ rest
    → All (λ (v : WorkerTerm). size ≤ v.share) all → All (λ (v : WorkerTerm). size ≤ v.share) rest
rest-room size all rest w is room =
    let here = subst (λ (l : List WorkerTerm). All (λ (v : WorkerTerm). size ≤ v.share) l) is room in
    λ k d less. here (suc k) d (omega (arith, less))

pub Shares::find_beside-find_one_beside-requires-clause-room :
    goal.Shares::find_beside-find_one_beside-requires-clause-room
Shares::find_beside-find_one_beside-requires-clause-room g t c κs within =
    rest-room c.args.self.now.size c.args.workers.now c.in-Some.rest.now c.in-Some.worker.now
    c.in-Some.ensures.cases.0 c.requires.room

pub Shares::find_beside-returns-then-is_apart-clause-found :
    goal.Shares::find_beside-returns-then-is_apart-clause-found
Shares::find_beside-returns-then-is_apart-clause-found g t c =
    found-first (pattern_of c.args.self.now.pattern.now) c.args.self.now.size c.args.number
    (records_in c.args.self.now.pages.now) c.find_one_beside.new.worker c.find_one_beside.new.rest
    c.find_one_beside.ensures.found c.find_one_beside.ensures.rest

pub Shares::find_beside-find_beside-requires-clause-room : goal.Shares::find_beside-find_beside-requires-clause-room
Shares::find_beside-find_beside-requires-clause-room g t c κs within =
    rest-room c.args.self.now.size c.args.workers.now c.in-Some.rest.now c.in-Some.worker.now
    c.in-Some.ensures.cases.0 c.requires.room

pub Shares::find_beside-returns-clause-found : goal.Shares::find_beside-returns-clause-found
Shares::find_beside-returns-clause-found g t c =
    found-first (pattern_of c.args.self.now.pattern.now) c.args.self.now.size c.args.number
    (records_in c.args.self.now.pages.now) c.find.new.worker c.find_beside.new.workers
    c.find.ensures.found c.find_beside.ensures.found
