use Rattle.std.proofs.Common.{rules, sym}
use Rattle.keep_plain.proofs.Cuts.{put-at}
use Rattle.keep_plain.proofs.held.put_in_room.Goals as goal

pub returns-in-Ok : goal.returns-in-Ok
returns-in-Ok c = sym (put-at c.args.name.now c.args.held.now.items c.in-Ok.i (search rules) c.args.stored)
