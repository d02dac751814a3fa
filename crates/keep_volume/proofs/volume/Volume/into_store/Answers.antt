use Rattle.std.proofs.Common.{rules}
use Rattle.keep_volume.proofs.Notes.{note-is}
use Rattle.keep_volume.proofs.Reopened.{reopened}
use Rattle.keep_volume.proofs.volume.Volume.into_store.Goals as goal

pub returns-clause-reopened : goal.returns-clause-reopened
returns-clause-reopened g c = reopened _ _ c.args.self (search rules) (search rules)

pub returns-clause-note : goal.returns-clause-note
returns-clause-note g c = rw (← c.self.view_is) (note-is (g.S.Store.noted c.self.inside.store) c.self.inside.round c.self.invariant.noted)
