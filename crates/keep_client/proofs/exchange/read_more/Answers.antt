use Rattle.std.proofs.Common.{rules, ◌≡◌, length, arith, Ok, subst, refl}
use Rattle.keep_spec.specs.declared.failed.Failed.{Failed}
use Rattle.keep_client.specs.Steps.{AfterRead}
use Rattle.keep_client.proofs.exchange.read_more.Goals as goal

pub returns-in-Ok-eq0-clause-read : goal.returns-in-Ok-eq0-clause-read
returns-in-Ok-eq0-clause-read g c =
    let same : length c.read.new.buf ≡ length c.args.piece.now = search rules in
    let zero : c.in-Ok-eq0.field-0 ≡ 0 = omega (arith, c.in-Ok-eq0.field-0-test) in
    record {
      buffer = c.read.new.buf;
      some = omega (arith, same, c.requires.room);
      same = refl;
      told = subst (λ v. AfterRead {E = Failed} (Ok v) c.read.new.buf (g.L.Link.told c.args.link.now) (g.L.Link.told c.read.new.self)) zero c.in-Ok-eq0.ensures.told;
    }
