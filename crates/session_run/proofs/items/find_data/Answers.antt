use Rattle.std.proofs.Common.{inl, inr, None, refl, Some}
use Rattle.std.specs.Arc.{arc_value}
use Rattle.shell_lang.specs.Reply as line
use Rattle.shell_lang.specs.declared.reply.Refusal.TheVariants as refusals
use Rattle.store_machine.specs.declared.machine.Reply.TheVariants as replies
use Rattle.store_machine.specs.declared.machine.Status.TheVariants as status
use Rattle.session_acts.specs.Acts.{item_line}
use Rattle.session_acts.specs.Records.{data_of}
use Rattle.session_run.proofs.Itemed.{found, item_told, unfound}
use Rattle.session_run.proofs.items.find_data.Goals as goal

pub returns-in-Ok-Live : goal.returns-in-Ok-Live
returns-in-Ok-Live g c size cursors =
    let look = c.in-Ok-Live.ensures in
    let call = rw c.in-Ok-Live.field-0-is at look.call in
    let entry = arc_value c.in-Ok-Live.entry in
    let reply = replies.Looked (Some (status.Live c.in-Ok-Live.field-0-0 entry.format entry.text)) in
    let data_is = data_of entry.format entry.text c.args.name.now in
    let told = item_told c.args.id c.item_of.result data_is c.args.out.now.items c.say_item.new.out.items
    c.say_item.result (rw c.deref.ensures at c.item_of.ensures) c.say_item.ensures in
    elim told [
      | inl t ↦ found c.args.id c.args.name.now reply (item_line c.args.id data_is) c.say_item.result call look.held
          look.bounds (inl refl) t
      | inr t ↦ found c.args.id c.args.name.now reply line.MemoryFault c.say_item.result call look.held look.bounds
          (inr refl) t
    ]

pub returns-in-Ok-Absent : goal.returns-in-Ok-Absent
returns-in-Ok-Absent g c size cursors =
    let look = c.in-Ok-Absent.ensures in
    found c.args.id c.args.name.now (replies.Looked None) (line.Refused refusals.Absent) c.say.result
    (rw c.in-Ok-Absent.field-0-is at look.call) look.held look.bounds (inl refl) c.say.ensures

pub returns-in-Ok-Withdrawn : goal.returns-in-Ok-Withdrawn
returns-in-Ok-Withdrawn g c size cursors =
    let look = c.in-Ok-Withdrawn.ensures in
    found c.args.id c.args.name.now (replies.Looked (Some (status.Withdrawn c.in-Ok-Withdrawn.field-0-0)))
    (line.Refused refusals.Withdrawn) c.say-in-Ok-Withdrawn.result (rw c.in-Ok-Withdrawn.field-0-is at look.call)
    look.held look.bounds (inl refl) c.say-in-Ok-Withdrawn.ensures

pub returns-in-Err-NoMemory : goal.returns-in-Err-NoMemory
returns-in-Err-NoMemory g c size cursors =
    let look = c.in-Err-NoMemory.ensures in
    found c.args.id c.args.name.now replies.NoMemory line.MemoryFault c.say-in-Err-NoMemory.result
    (rw c.in-Err-NoMemory.field-0-is at look.call) look.held look.bounds refl c.say-in-Err-NoMemory.ensures

pub returns-in-Err-Worn : goal.returns-in-Err-Worn
returns-in-Err-Worn g c size cursors =
    let look = c.in-Err-Worn.ensures in
    let worn = rw c.in-Err-Worn.field-0-is at look.worn in
    unfound c.args.id c.args.name.now (rw c.in-Err-Worn.field-0-is at look.call) look.held look.bounds (worn.1 refl)
