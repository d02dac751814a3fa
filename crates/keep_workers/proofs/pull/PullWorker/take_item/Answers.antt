use Rattle.std.proofs.Common.{◌≡◌, ◌∙◌, ap, arith, subst}
use Rattle.keep_history.specs.Workers.{fetch_from, sources_in, taking}
use Rattle.keep_workers.specs.Pulls.{PullMoves, known_sources, pulling}
use Rattle.keep_workers.proofs.pull.PullWorker.take_item.Goals as goal

pub returns-in_ok-self-in-Pull-clause-moved : goal.returns-in_ok-self-in-Pull-clause-moved
returns-in_ok-self-in-Pull-clause-moved c = λ config few at devices.
    let known : c.in_ok-self-in-Pull.field-0.items ≡ sources_in config c.in-Pull.item.sources =
    c.in_ok-self-in-Pull.ensures.known ∙ ap (known_sources c.args.self.now.devices) c.as_slice.ensures ∙ ap (λ n. known_sources n c.in-Pull.item.sources) devices in
    rw c.in-Pull.is
    (subst (λ sources. PullMoves (fetch_from c.in-Pull.item.digest sources (pulling taking c.args.self.now)) c.fetch_next.new.self c.fetch_next.result) known
    (c.fetch_next.ensures.moved taking few))

pub returns-in_ok-self-in-Pull-clause-askable : goal.returns-in_ok-self-in-Pull-clause-askable
returns-in_ok-self-in-Pull-clause-askable c = λ devices h.
    c.fetch_next.ensures.askable devices (record { query = h.query; sources = λ k d b. omega (arith, c.in_ok-self-in-Pull.ensures.below k d b, h.known); own = h.own; known = h.known })
