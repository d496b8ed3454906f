use Rattle.std.proofs.Common.{ℕ, ◌+◌, ◌*◌, ◌≡◌, ◌≢◌, Some, None, get_or, sym, ap, ◌∙◌, arith}
use Rattle.smarts_parse.specs.Pattern.{graph_of}
use Rattle.path_print.specs.declared.known.Known.{Known}
use Rattle.path_print.specs.Path.{label_of}
use Rattle.path_print.specs.Prints.{graph_view}
use Rattle.path_print.specs.Texts.{last_of}
use Rattle.path_print.proofs.Sheets.{byte_from_square, no_byte_from_square, label_from_known}
use Rattle.path_print.proofs.Ways.{none_without_byte}
use Rattle.path_print.proofs.pattern.step_to.Goals as goal

pub returns-then-byte-eq0-clause-none : goal.returns-then-byte-eq0-clause-none
returns-then-byte-eq0-clause-none c =
    let s = c.args.sheet.now in
    let g = graph_of s.graph.now in
    let x : ℕ = last_of c.args.path.now.atoms in
    let zero_at : get_or s.square.now (256 * x + c.args.atom) 0 ≡ 0 = ap (λ k. get_or s.square.now k 0)
    (omega (arith, c.from.ensures, c.from-2.ensures, c.last.ensures)) ∙ c.if-byte-eq0.true in
    none_without_byte (graph_view g) c.args.path.now c.requires.path c.args.atom
    (λ family b h. no_byte_from_square g s.known.now s.square.now s.rows.now s.counts.now c.requires.sheet family x
    c.args.atom c.requires.last c.requires.atom zero_at b h)

pub returns-clause-some : goal.returns-clause-some
returns-clause-some c =
    let s = c.args.sheet.now in
    let g = graph_of s.graph.now in
    let d : Known = record { number = None; aromatic = None } in
    let x : ℕ = last_of c.args.path.now.atoms in
    let at : 256 * x + c.args.atom ≡ 256 * c.from.result + c.from-2.result = omega
    (arith, c.from.ensures, c.from-2.ensures, c.last.ensures) in
    let above : get_or s.square.now (256 * x + c.args.atom) 0 ≢ 0 = λ e. c.if-byte-eq0.false
    (ap (λ k. get_or s.square.now k 0) (sym at) ∙ e) in
    record {
      byte = λ family. byte_from_square g s.known.now s.square.now s.rows.now s.counts.now c.requires.sheet family x
          c.args.atom c.requires.last c.requires.atom above ∙ ap (λ k. Some (get_or s.square.now k 0)) at;
      label = λ family. label_from_known g s.known.now s.square.now s.rows.now s.counts.now c.requires.sheet family x
          c.args.atom c.requires.last c.requires.atom d
          ∙ ap (λ k. label_of family (get_or s.known.now k d)) (sym c.from-3.ensures);
    }
