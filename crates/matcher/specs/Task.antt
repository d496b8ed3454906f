-- For private clauses alone: facts about a graph that is placed in a molecule.
use Rattle.std.specs.Prelude.{ℕ, ◌<◌, List, [], ◌∷◌, ◌++◌, slice_index_or}
use Rattle.smarts_mean.specs.Table.{HoldsIn}
use Rattle.smarts_parse.specs.Embedding.{BondEmbeds, IsEmbedding}
use Rattle.smarts_parse.specs.Pattern.{BondTerm, graph_of}
use Rattle.matcher.specs.declared.task.Task.{Task}
use Rattle.matcher.specs.Partial.{CanComplete, IsLeastFrom, IsPartial}
use Rattle.matcher.specs.Plan.{IsReady, step_at}

-- the graph can be searched for, and has its steps
abbrev pub IsReadyTask : Task → Type 0
IsReadyTask task = IsReady (graph_of task.graph.now) task.steps.now

-- the atoms of `front` are a mapping of the graph's first places
abbrev pub IsPlaced : Task → List ℕ → Type 0
IsPlaced task front = IsPartial (HoldsIn task.table.now) (graph_of task.graph.now) task.mol.now front

-- an embedding
abbrev pub Embeds : Task → List ℕ → Type 0
Embeds task image = IsEmbedding (HoldsIn task.table.now) (graph_of task.graph.now) task.mol.now image

-- an embedding begins so
abbrev pub Completes : Task → List ℕ → Type 0
Completes task front = CanComplete (HoldsIn task.table.now) (graph_of task.graph.now) task.mol.now front

-- the least embedding that begins so, at the front of an image
abbrev pub IsLeastPlaced : Task → List ℕ → List ℕ → Type 0
IsLeastPlaced task front whole = IsLeastFrom (HoldsIn task.table.now) (graph_of task.graph.now) task.mol.now front whole

-- the atom at a place has a bond to an earlier one
abbrev pub IsBonded : Task → ℕ → Type 0
IsBonded task place = (step_at task.steps.now place).from < (step_at task.steps.now place).to

-- if the next atom has a bond to an earlier one, the first of these embeds with it there
abbrev pub FirstEmbeds : Task → ℕ → List ℕ → ℕ → Type 0
FirstEmbeds task place front atom = (d : BondTerm) → IsBonded task place
    → BondEmbeds task.mol.now (front ++ atom ∷ [])
    (slice_index_or (graph_of task.graph.now).bonds (step_at task.steps.now place).from d)
