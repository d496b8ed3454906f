use Rattle.std.proofs.Common.{refl, sym, ◌∙◌}
use Rattle.chem_core.specs.Bits.{shared_bits}
use Rattle.similar_find.specs.Score.{all_bits}
use Rattle.lookup.proofs.Offered.{offered-none-of, offered-on}
use Rattle.lookup.proofs.similar.LikesVisitRecord.see.Goals as goal

pub returns-then-not-may_take : goal.returns-then-not-may_take
returns-then-not-may_take c = λ start before seen.
    let board = c.args.self.now.best in
    let print = c.args.given.now.print in
    let other = c.args.other.now in
    let sound = c.id.ensures.sound in
    let d = shared_bits print other.print in
    let v = all_bits print other.print in
    let bound = c.most_alike-c.ensures.bound print other.print (c.bits.ensures.length ∙ sym c.bits-2.ensures.length)
    (sym c.bits.ensures.bits) (sym c.bits-2.ensures.bits) in
    offered-on start.best board board print before other c.id.result d v seen
    (record {
      molecule = other.mol;
      structure = sound.structure;
      own = other.print;
      own_is = record { size = c.bits-2.ensures.length; bits = sound.print };
      both = refl;
      either = refl;
    }) c.id.ensures.id
    (λ offered are best. c.may_take.ensures.same c.if-not-may_take.true offered d v bound are best) refl refl refl

pub returns-then-u-eq0 : goal.returns-then-u-eq0
returns-then-u-eq0 c = λ start before seen.
    let n = c.counts-c.result in
    offered-none-of start.best c.args.self.now.best c.args.given.now.print before c.args.other.now n.0 n.1 seen
    c.counts-c.ensures.scored c.if-u-eq0.true

pub returns : goal.returns
returns c = λ start before seen.
    let n = c.counts-c.result in
    offered-on start.best c.args.self.now.best c.offer.new.self c.args.given.now.print before c.args.other.now
    c.id-2.result n.0 n.1 seen c.counts-c.ensures.scored c.id-2.ensures.id c.offer.ensures.best c.offer.ensures.p
    c.offer.ensures.q c.offer.ensures.most
