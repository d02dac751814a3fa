use Rattle.std.proofs.Common.{◌∙◌}
use Rattle.keep_plain.proofs.TrashItems.{taken-first}
use Rattle.keep_plain.proofs.device.PlainDevice.trash_next.Goals as goal

pub returns-in-Some : goal.returns-in-Some
returns-in-Some c = rw (← c.self.view_is) (c.trash_item.ensures ∙ taken-first c.args.rules c.in-Some.item c.args.reading _ c.pop_front.new.self.items c.in-Some.ensures.items)
