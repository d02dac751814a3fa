use Rattle.keep_workers.proofs.pull.PullWorker.item_done.Goals as goal

pub returns-clause-askable : goal.returns-clause-askable
returns-clause-askable c = λ devices h. c.ask_for_item.ensures.askable devices (record { query = h.query; sources = h.sources; own = h.own; known = h.known })
