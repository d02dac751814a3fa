use Rattle.std.proofs.Common.{refl}
use Rattle.keep_client.proofs.Ends.{changed}
use Rattle.keep_client.proofs.scripted.ScriptedLink.note_read.Goals as goal

pub returns-in-Some-clause-noted : goal.returns-in-Some-clause-noted
returns-in-Some-clause-noted c = changed _ c.args.self.now _ c.note.new.self c.in-Some.last c.after_read.result c.in-Some.ensures.items refl c.after_read.ensures c.note.ensures.noted
