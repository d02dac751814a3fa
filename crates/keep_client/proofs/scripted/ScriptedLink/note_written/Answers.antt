use Rattle.std.proofs.Common.{refl}
use Rattle.keep_client.proofs.Ends.{changed, written_ok}
use Rattle.keep_client.proofs.scripted.ScriptedLink.note_written.Goals as goal

pub returns-in-Some-clause-noted : goal.returns-in-Some-clause-noted
returns-in-Some-clause-noted c =
    changed _ c.args.self.now _ c.note.new.self c.in-Some.last c.after_write.result c.in-Some.ensures.items refl (written_ok c.args.bytes.now c.in-Some.last c.after_write.result c.after_write.ensures) c.note.ensures.noted
