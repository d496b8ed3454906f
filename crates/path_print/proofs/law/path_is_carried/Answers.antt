use Rattle.smarts_parse.specs.Embedding.{PartsHold}
use Rattle.path_print.proofs.Carries.{path_carried}
use Rattle.path_print.proofs.law.path_is_carried.Goals as goal

pub returns : goal.returns
returns c = λ recs n family g m image atoms there back molecule embeds path.
    path_carried (PartsHold recs m n) family g m image molecule embeds atoms there back path
