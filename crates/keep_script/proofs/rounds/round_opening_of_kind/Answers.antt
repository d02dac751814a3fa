use Rattle.keep_script.proofs.rounds.round_opening_of_kind.Goals as goal

pub returns-else-eq-5-clause-within : goal.returns-else-eq-5-clause-within
returns-else-eq-5-clause-within g c = c.table_opening_of_kind.ensures.within c.args.config.now
