use Rattle.std.proofs.Common.{◌≡◌, ◌++◌, true, false, sym, ◌∙◌, ap}
use Rattle.chem_core.specs.declared.sketch.Fill.TheVariants.{Organic}
use Rattle.smiles_words.specs.Atom.{star, organic, aromatic, bracket, bare_atom, atom_text}
use Rattle.smiles_words.specs.Parts.{IsOrganic}
use Rattle.smiles_words.proofs.Unique.{organic_not_small}
use Rattle.smiles_words.proofs.atom.organic_at.Goals as goal

pub returns-in-Some : goal.returns-in-Some
returns-in-Some c =
    let f = c.in-Some.ensures.found in
    record {
      found = (organic f.0, tt, f.2, c.bare.ensures ∙ ap (λ n. bare_atom n false Organic) f.3);
      only = λ x rest is after h. elim x as (λ v. IsOrganic v → c.args.bytes.now ≡ atom_text v ++ rest
          → c.in-Some.rest.now ≡ rest) [
            | star ↦ λ i e. absurd i
            | organic y ↦ λ i e. c.in-Some.ensures.only y rest tt after e
            | aromatic y ↦ λ i e. absurd (organic_not_small f.0 y c.in-Some.rest.now rest (sym f.2 ∙ e))
            | bracket y ↦ λ i e. absurd i
          ] is h;
    }

pub returns-in_ok-number-in-None : goal.returns-in_ok-number-in-None
returns-in_ok-number-in-None c =
    let f = c.in_ok-number-in-None.ensures.found in
    record {
      found = (aromatic f.0, f.1, f.2, c.bare-in-None.ensures ∙ ap (λ n. bare_atom n true Organic) f.3);
      only = λ x rest is after h. elim x as (λ v. IsOrganic v → c.args.bytes.now ≡ atom_text v ++ rest
          → c.in_ok-number-in-None.rest.now ≡ rest) [
            | star ↦ λ i e. absurd i
            | organic y ↦ λ i e. absurd (c.in-None.ensures.only y rest tt after e)
            | aromatic y ↦ λ i e. c.in_ok-number-in-None.ensures.only y rest i tt e
            | bracket y ↦ λ i e. absurd i
          ] is h;
    }
