use Rattle.keep_config.proofs.Equality.{config_eq, config_eq-Decides}
use Rattle.std.proofs.lemmas.Bool.Decides.{Decides-at}
use Rattle.keep_config.proofs.config.Config.same.Goals as goal

pub returns : goal.returns
returns c = Decides-at c.eq.result (config_eq c.args.self.now c.args.other.now) c.eq.ensures (config_eq-Decides c.args.self.now c.args.other.now)
