-- What the table says of recursive parts is so.
use Rattle.std.proofs.Common.{◌≡◌, arith, length, subst, sym, take}
use Rattle.std.proofs.lemmas.List.{length-map}
use Rattle.smarts_parse.specs.Pattern.{graph_of, pattern_of}
use Rattle.matcher.specs.Least.{IsLeast}
use Rattle.matcher.specs.Parts.{AreNoted}
use Rattle.matcher.proofs.PartsHeld.{least_of, none_of}
use Rattle.matcher.proofs.Places.{take_all}
use Rattle.matcher.proofs.answer.find.Goals as goal

pub returns-clause-found : goal.returns-clause-found
returns-clause-found c =
    let p = pattern_of c.args.pattern.now in
    let m = c.args.mol.now in
    let n = length c.args.pattern.now.top.atoms.items in
    let same : length c.place_least.new.image ≡ c.note_parts.new.memory.image.len = omega
    (arith, c.deref_mut.ensures.len, c.place_least.auto.image) in
    λ t. subst (λ xs. IsLeast p m (take n xs))
    (sym (take_all c.note_parts.new.memory.image.len c.place_least.new.image _ (sym same)))
    (least_of p m c.args.prepared.now.wanted.classes.items c.note_parts.new.memory.table
    (take n c.place_least.new.image) c.requires.sound c.requires.prepared.wanted
    (subst (λ k. AreNoted p.recs m c.args.prepared.now.wanted.classes.items k
    c.note_parts.new.memory.table)
    (omega (arith, length-map c.args.pattern.now.recs.items graph_of, c.args.pattern.now.recs.ok.0))
    c.note_parts.ensures) (c.place_least.ensures.found t))

pub returns-clause-none : goal.returns-clause-none
returns-clause-none c = λ f.
    let p = pattern_of c.args.pattern.now in
    let m = c.args.mol.now in
    let noted = subst (λ k. AreNoted p.recs m c.args.prepared.now.wanted.classes.items k
    c.note_parts.new.memory.table)
    (omega (arith, length-map c.args.pattern.now.recs.items graph_of, c.args.pattern.now.recs.ok.0))
    c.note_parts.ensures in
    none_of p m c.args.prepared.now.wanted.classes.items c.note_parts.new.memory.table c.requires.sound
    c.requires.prepared.wanted noted (c.place_least.ensures.none f)

pub returns-then-is_refused-clause-none : goal.returns-then-is_refused-clause-none
returns-then-is_refused-clause-none c =
    let p = pattern_of c.args.pattern.now in
    let m = c.args.mol.now in
    let noted = subst (λ k. AreNoted p.recs m c.args.prepared.now.wanted.classes.items k
    c.note_parts.new.memory.table)
    (omega (arith, length-map c.args.pattern.now.recs.items graph_of, c.args.pattern.now.recs.ok.0))
    c.note_parts.ensures in
    λ _. none_of p m c.args.prepared.now.wanted.classes.items c.note_parts.new.memory.table c.requires.sound
    c.requires.prepared.wanted noted
    (c.is_refused.ensures.refused c.if-is_refused.true)

pub returns-then-is_refused_apart-clause-none : goal.returns-then-is_refused_apart-clause-none
returns-then-is_refused_apart-clause-none c =
    let p = pattern_of c.args.pattern.now in
    let m = c.args.mol.now in
    let noted = subst (λ k. AreNoted p.recs m c.args.prepared.now.wanted.classes.items k
    c.note_parts.new.memory.table)
    (omega (arith, length-map c.args.pattern.now.recs.items graph_of, c.args.pattern.now.recs.ok.0))
    c.note_parts.ensures in
    λ _. none_of p m c.args.prepared.now.wanted.classes.items c.note_parts.new.memory.table c.requires.sound
    c.requires.prepared.wanted noted
    (c.is_refused_apart.ensures.refused c.if-is_refused_apart.true)
