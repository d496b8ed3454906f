use Rattle.smarts_words.proofs.AtomRead.{bond_reads}
use Rattle.smarts_parse.proofs.smarts.SmartsNotation.bond_at.Goals as goal

pub returns : goal.returns
returns c = bond_reads (λ r. (r.0, r.1.now)) c.args.bytes.now c.bond_at.result c.bond_at.ensures.found
    c.bond_at.ensures.only
