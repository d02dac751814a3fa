use Rattle.keep_routes.proofs.route.route_at.Goals as goal

pub returns-in-Trash-clause-within : goal.returns-in-Trash-clause-within
returns-in-Trash-clause-within c = c.trash_route.ensures.within c.args.config.now
