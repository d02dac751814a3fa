use Rattle.std.proofs.Common.{Some, ap}
use Rattle.keep_tasks.proofs.Taking.{put-begins}
use Rattle.keep_tasks.proofs.put.PutTask.begin.Goals as goal

pub returns-clause-stands : goal.returns-clause-stands
returns-clause-stands c = record {
  config = c.args.config.now;
  id = c.args.id;
  token = c.args.token;
  bytes = c.args.block;
  locator_is = ap Some (rw (c.digest-digest.ensures, c.as_slice.ensures.value, c.in_ok-text.ensures) at c.in_ok-locator.ensures);
  walks = put-begins c.args.config.now c.args.id c.args.devices c.args.token c.args.block _ (rw (c.in_ok-compares.ensures.items, c.as_slice-2.ensures) at c.in-Some.ensures.at);
}

pub returns-clause-may_ask : goal.returns-clause-may_ask
returns-clause-may_ask c = λ n all. (c.in-Some.ensures.below n (rw (c.in_ok-compares.ensures.items, c.as_slice-2.ensures) all), all)
