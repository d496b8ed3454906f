use Rattle.std.proofs.Common.{◌∙◌, ◌++◌, [], ◌∷◌, ap, List, refl, subst, sym, ℕ}
use Rattle.shell_lang.specs.Reply as line
use Rattle.shell_lang.specs.Reply.{reply_of}
use Rattle.shell_lang.specs.declared.reply.Refusal.TheVariants as refusals
use Rattle.smarts_parse.specs.Pattern.{pattern_of}
use Rattle.session_acts.specs.Acts.{Fault, MayOpen, Refused}
use Rattle.session_acts.specs.Cursors.{IsNoName}
use Rattle.session_run.specs.Opened.{named, opened}
use Rattle.session_run.specs.Servable.{IsServable}
use Rattle.session_run.specs.Walks.{AreSized, cursors_of}
use Rattle.session_run.specs.declared.cursors.Cursor as rust
use Rattle.session_run.specs.declared.settings.Settings.{Settings}
use Rattle.session_run.proofs.ByName.{is_free, is_taken}
use Rattle.session_run.proofs.Joined.{uses-none}
use Rattle.session_run.proofs.Lines.{noted, pattern_refused, said, unbegun}
use Rattle.session_run.proofs.Named.{sized-pushed}
use Rattle.session_run.proofs.Opening.{fit_as, fit_same, opens, still}
use Rattle.session_run.proofs.cursors.Cursors.open.Goals as goal

pub returns-in-Err-clause-answered : goal.returns-in-Err-clause-answered
returns-in-Err-clause-answered g c =
    let cursors = cursors_of (opened c.args.self.now) in
    said [] (reply_of c.refuse_pattern.result) c.say.result (uses-none g.met.S.Service.stays c.args.service.now)
    (pattern_refused (MayOpen cursors c.args.name.now c.args.text.now) c.args.text.now c.in-Err.fault _ tt (λ f h. h)
    c.in-Err.ensures.fault c.refuse_pattern.ensures) c.say.ensures

pub returns-then-contains_key-clause-answered : goal.returns-then-contains_key-clause-answered
returns-then-contains_key-clause-answered g c =
    let taken = is_taken c.args.name.now c.args.self.now.by_name.entries c.contains_key.result c.contains_key.ensures
    c.if-contains_key.true in
    said [] (line.Refused refusals.Cursor) c.say-then-contains_key.result
    (uses-none g.met.S.Service.stays c.args.service.now)
    (noted (Refused refusals.Cursor) (pattern_of c.in-Ok.pattern, c.in-Ok.ensures.pattern, taken))
    c.say-then-contains_key.ensures

pub returns-in_default-clause-answered : goal.returns-in_default-clause-answered
returns-in_default-clause-answered g c =
    still c.room_for.ensures.same (said [] line.MemoryFault c.say-in_default.result
    (uses-none g.met.S.Service.stays c.args.service.now) (noted Fault tt) c.say-in_default.ensures)

pub returns-in_default-clause-fit : goal.returns-in_default-clause-fit
returns-in_default-clause-fit g c =
    fit_same c.args.self.now c.room_for.new.self c.room_for.ensures.settings c.room_for.ensures.same c.requires.fit

pub begin-requires-clause-servable : goal.begin-requires-clause-servable
begin-requires-clause-servable g c = subst IsServable (sym c.room_for.ensures.settings) c.requires.fit.servable

pub add-requires : goal.add-requires
add-requires g c = record {
  room = c.in-Ok-room_for.ensures.room;
  free = subst (λ (m : List ℕ). IsNoName (cursors_of (opened c.room_for.new.self)) m)
      (sym c.in-Ok-room_for.ensures.name)
      (subst (λ (l : List rust.Cursor). IsNoName (cursors_of l) c.args.name.now) (sym c.room_for.ensures.same)
      (is_free c.args.name.now c.args.self.now.by_name.entries c.contains_key.result c.contains_key.ensures
      c.if-contains_key.false));
}

pub returns-in-Ok-begin-clause-answered : goal.returns-in-Ok-begin-clause-answered
returns-in-Ok-begin-clause-answered g c =
    let begun = c.in-Ok-begin.ensures in
    opens c.args.name.now c.args.text.now c.in-Ok.pattern c.room_for.new.self.settings.page (opened c.args.self.now)
    (named (c.in-Ok-room_for.own_name, c.in-Ok-begin.walk)) c.in-Ok-room_for.ensures.name begun.begun begun.new
    c.in-Ok.ensures.pattern
    (is_free c.args.name.now c.args.self.now.by_name.entries c.contains_key.result c.contains_key.ensures
    c.if-contains_key.false)
    (c.add.ensures.added ∙ ap (λ (l : List rust.Cursor). l ++ named (c.in-Ok-room_for.own_name, c.in-Ok-begin.walk) ∷ [])
    c.room_for.ensures.same) begun.begins c.add.ensures.said

pub returns-in-Ok-begin-clause-fit : goal.returns-in-Ok-begin-clause-fit
returns-in-Ok-begin-clause-fit g c =
    let x = named (c.in-Ok-room_for.own_name, c.in-Ok-begin.walk) in
    fit_as c.args.self.now c.add.new.self (c.add.ensures.settings ∙ c.room_for.ensures.settings)
    (subst (λ (l : List rust.Cursor). AreSized c.args.self.now.settings.page l)
    (sym (c.add.ensures.added ∙ ap (λ (l : List rust.Cursor). l ++ x ∷ []) c.room_for.ensures.same))
    (sized-pushed c.args.self.now.settings.page (opened c.args.self.now) x
    (c.in-Ok-begin.ensures.begun.size_is ∙ ap (λ (s : Settings). s.page) c.room_for.ensures.settings)
    c.requires.fit.sized)) c.requires.fit

pub returns-in-Err-begin-clause-answered : goal.returns-in-Err-begin-clause-answered
returns-in-Err-begin-clause-answered g c =
    let free = is_free c.args.name.now c.args.self.now.by_name.entries c.contains_key.result c.contains_key.ensures
    c.if-contains_key.false in
    still c.room_for.ensures.same (unbegun c.in-Err-begin.fault c.fault_line.result c.say_given.result
    (refl, pattern_of c.in-Ok.pattern, c.in-Ok.ensures.pattern, free) tt c.in-Err-begin.ensures.begins
    c.fault_line.ensures c.say_given.ensures)

pub returns-in-Err-begin-clause-fit : goal.returns-in-Err-begin-clause-fit
returns-in-Err-begin-clause-fit g c =
    fit_same c.args.self.now c.room_for.new.self c.room_for.ensures.settings c.room_for.ensures.same c.requires.fit
