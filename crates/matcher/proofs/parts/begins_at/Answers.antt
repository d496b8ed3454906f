use Rattle.std.proofs.Common.{◌<◌, subst, sym}
use Rattle.std.proofs.lemmas.List.{length-map}
use Rattle.smarts_parse.specs.Pattern.{term_of}
use Rattle.matcher.proofs.Standing.{candidates_of}
use Rattle.matcher.proofs.parts.begins_at.Goals as goal

pub place_from-requires-clause-holds : goal.place_from-requires-clause-holds
place_from-requires-clause-holds c = (c.requires.truths 0 c.args.atom
    (subst (λ n. 0 < n) (sym (length-map c.args.graph.now.atoms.items term_of)) c.requires.some) c.requires.in_range).0
    c.requires.candidate

pub place_from-requires-clause-candidates : goal.place_from-requires-clause-candidates
place_from-requires-clause-candidates c = candidates_of _ _ c.requires.truths
