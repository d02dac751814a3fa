use Rattle.keep_workers.proofs.Trashes.{none-trashed}
use Rattle.keep_workers.proofs.trash.TrashWorker.take_of_device.Goals as goal

pub returns-in-Young-clause-moved : goal.returns-in-Young-clause-moved
returns-in-Young-clause-moved c = rw c.in-Young.is (none-trashed c.args.self.now c.item_taken-in-Young.new.self c.item_taken-in-Young.result c.item_taken-in-Young.ensures.moved)

pub returns-in-Skipped-clause-moved : goal.returns-in-Skipped-clause-moved
returns-in-Skipped-clause-moved c = rw c.in-Skipped.is (none-trashed c.args.self.now c.item_taken-in-Skipped.new.self c.item_taken-in-Skipped.result c.item_taken-in-Skipped.ensures.moved)

pub returns-in-Gone-clause-moved : goal.returns-in-Gone-clause-moved
returns-in-Gone-clause-moved c = rw c.in-Gone.is (none-trashed c.args.self.now c.item_taken-in-Gone.new.self c.item_taken-in-Gone.result c.item_taken-in-Gone.ensures.moved)

pub returns-in-ReadOnly-clause-moved : goal.returns-in-ReadOnly-clause-moved
returns-in-ReadOnly-clause-moved c = rw c.in-ReadOnly.is (none-trashed c.args.self.now c.item_taken-in-ReadOnly.new.self c.item_taken-in-ReadOnly.result c.item_taken-in-ReadOnly.ensures.moved)
