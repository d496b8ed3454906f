use Rattle.std.proofs.Common.{sym}
use Rattle.molfile_read.specs.Properties.{words}
use Rattle.molfile_read.specs.Parts.{IsSetting}
use Rattle.molfile_read.proofs.Steps.{all_push}
use Rattle.molfile_read.proofs.Pairs.{pairs_more, pairs_stop, added_none}
use Rattle.molfile_read.proofs.property.read_pairs.Goals as goal

pub returns-in_default-setting-clause-read : goal.returns-in_default-setting-clause-read
returns-in_default-setting-clause-read c =
    added_none c.args.settings.now.items _ (pairs_stop c.args.tag c.args.atoms c.in-Some.count c.loop.counter
    c.loop.settings.items (words c.loop.rest.now) _ c.loop-test.true (sym c.in_default-setting.ensures.value)
    c.loop.invariant.read)

pub loop-preserved : goal.loop-preserved
loop-preserved c = record {
  read = rw c.in_ok-push.ensures.items
      (pairs_more c.args.tag c.args.atoms c.in-Some.count c.loop.counter c.loop.settings.items c.in-Some-setting.setting
      (words c.loop.rest.now) (words c.in-Some-setting.after.now) _ c.loop-test.true
      (sym c.in-Some-setting.ensures.value) c.loop.invariant.read);
  range = rw c.in_ok-push.ensures.items (all_push (IsSetting c.args.atoms) c.loop.settings.items
      c.in-Some-setting.setting c.loop.invariant.range c.in-Some-setting.ensures.range);
}
