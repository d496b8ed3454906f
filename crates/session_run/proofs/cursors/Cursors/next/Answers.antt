use Rattle.std.proofs.Common.{◌≡◌, ◌∙◌, [], ap, List, map, refl, sym}
use Rattle.shell_lang.specs.Reply as line
use Rattle.shell_lang.specs.declared.reply.Refusal.TheVariants as refusals
use Rattle.session_acts.specs.Acts.{Refused}
use Rattle.session_run.specs.Opened.{named, opened}
use Rattle.session_run.proofs.ByName.{Entry, absent, found}
use Rattle.session_run.proofs.Joined.{uses-none}
use Rattle.session_run.proofs.Lines.{noted, said}
use Rattle.session_run.proofs.Opening.{fit_as, fit_same, nexts, pin_at, size_at, sized_with, still}
use Rattle.session_run.proofs.cursors.Cursors.next.Goals as goal

pub next_page-requires-clause-held : goal.next_page-requires-clause-held
next_page-requires-clause-held g c = λ κs outlives.
    let f = found c.args.name.now c.args.self.now.by_name.entries c.in-Some.walk.now (sym c.in-Some.ensures.value) in
    pin_at c.args.name.now (opened c.args.self.now) f.1.place (named (f.0, c.in-Some.walk.now)) f.1.named_at f.1.is
    (g.S.Service.holds c.args.service.now) c.requires.held

pub returns-in-Some-clause-answered : goal.returns-in-Some-clause-answered
returns-in-Some-clause-answered g c =
    let f = found c.args.name.now c.args.self.now.by_name.entries c.in-Some.walk.now (sym c.in-Some.ensures.value) in
    let old = opened c.args.self.now in
    let x = named (f.0, c.in-Some.walk.now) in
    let left = ap (λ (l : List Entry). map named l) (c.get_mut.follows.holds c.next_page.new.walk).0
    ∙ f.1.moved c.next_page.new.walk in
    nexts c.args.name.now old f.1.place x f.1.named_at f.1.is c.args.self.now.settings.page
    (named (f.0, c.next_page.new.walk))
    (size_at c.args.name.now old f.1.place x f.1.named_at f.1.is c.args.self.now.settings.page c.requires.fit.sized)
    left (c.next_page.ensures.answered f.0)

pub returns-in-Some-clause-fit : goal.returns-in-Some-clause-fit
returns-in-Some-clause-fit g c =
    let f = found c.args.name.now c.args.self.now.by_name.entries c.in-Some.walk.now (sym c.in-Some.ensures.value) in
    let left = ap (λ (l : List Entry). map named l) (c.get_mut.follows.holds c.next_page.new.walk).0
    ∙ f.1.moved c.next_page.new.walk in
    fit_as c.args.self.now _ refl (sized_with c.args.name.now (opened c.args.self.now) f.1.place
    (named (f.0, c.in-Some.walk.now)) f.1.named_at f.1.is c.args.self.now.settings.page
    (named (f.0, c.next_page.new.walk)) left c.next_page.ensures.size c.requires.fit.sized) c.requires.fit

pub returns-in-None-clause-answered : goal.returns-in-None-clause-answered
returns-in-None-clause-answered g c =
    let same : map named c.get_mut.follows.lender-at-none.entries ≡ opened c.args.self.now =
    ap (λ m. map named m.entries) c.get_mut.follows.holds-at-none in
    still same (said [] (line.Refused refusals.Cursor) c.say.result
    (uses-none g.met.S.Service.stays c.args.service.now)
    (noted (Refused refusals.Cursor)
    (absent c.args.name.now c.args.self.now.by_name.entries (sym c.in-None.ensures.value))) c.say.ensures)

pub returns-in-None-clause-fit : goal.returns-in-None-clause-fit
returns-in-None-clause-fit g c =
    fit_same c.args.self.now _ refl (ap (λ m. map named m.entries) c.get_mut.follows.holds-at-none) c.requires.fit
