use Rattle.keep_routes.proofs.route.starred_route.Goals as goal

pub returns-then-has_method-clause-within : goal.returns-then-has_method-clause-within
returns-then-has_method-clause-within c = c.by_system.ensures.within c.args.config.now
