use Rattle.store_rows.proofs.Only.{one-is-read}
use Rattle.store_rows.proofs.tests.kept.fetch_one.Goals as goal

pub returns : goal.returns
returns g c =
    one-is-read c.args.want.now c.args.only c.args.store.now c.fetch.new.self c.args.pin.now.slot 1 256 _ _ _ _
    c.in_ok-fetch.ensures.call c.fetch.ensures.steps c.requires.only
