use Rattle.std.proofs.Common.{rules, ◌≡◌, ◌+◌, ◌≤◌, ℕ, length, sym, subst, arith}
use Rattle.std.proofs.lemmas.Bool.Decides.{nat_tests}
use Rattle.keep_event.specs.Port.{NoneFalls, most_events}
use Rattle.keep_cluster.specs.Cluster.{View, faults_at}
use Rattle.keep_cluster.proofs.Replies.{sound-device, sound-table, world-device, world-kept, device-fault, device-faults}
use Rattle.keep_cluster.proofs.cluster.ClusterPort.ask.Goals as goal

pub invariant_of-self-in-Ok : goal.invariant_of-self-in-Ok
invariant_of-self-in-Ok g c =
    sound-device _ c.self.invariant c.in-Device.device c.in-Device.query _ _ c.ask_device.ensures c.reply.new.made (search (rules, arith)) (search (rules, arith))

pub invariant_of-self-in-Err : goal.invariant_of-self-in-Err
invariant_of-self-in-Err g c =
    sound-device _ c.self.invariant c.in-Device.device c.in-Device.query _ _ c.ask_device.ensures c.self.inside.made (omega arith) c.self.invariant.made

pub invariant_of-self-in-Ok-answer : goal.invariant_of-self-in-Ok-answer
invariant_of-self-in-Ok-answer g c =
    sound-table _ c.self.invariant c.in-Table.query c.answer.new.table c.in-Ok-answer.answer (search rules) c.reply-in-Ok-answer.new.made (search rules) (search (rules, arith))

pub returns-in-Ok-clause-world : goal.returns-in-Ok-clause-world
returns-in-Ok-clause-world g c =
    world-device _ _ (sym c.self.view_is) c.self.invariant _ c.in-Device.device c.in-Device.query c.in-Device.is (search rules) c.ask_device.new.volumes.items c.in-Ok.answer c.reply.result c.reply.new.made (search rules) (search rules)

pub returns-in-Ok-clause-store_failed : goal.returns-in-Ok-clause-store_failed
returns-in-Ok-clause-store_failed g c =
    device-fault _ _ (sym c.self.view_is) c.self.invariant _ c.in-Device.device c.in-Device.query c.in-Device.is (search rules) c.ask_device.new.volumes.items c.in-Ok.answer c.reply.result (search rules) (search rules)

pub returns-in-Ok-clause-store_faults_stay : goal.returns-in-Ok-clause-store_faults_stay
returns-in-Ok-clause-store_faults_stay g c =
    subst (λ (v : View). NoneFalls (faults_at v.devices) (faults_at c.ask_device.new.volumes.items)) c.self.view_is
    (device-faults _ c.self.invariant c.in-Device.device c.in-Device.query _ _ c.ask_device.ensures)

pub returns-in-Err-clause-world : goal.returns-in-Err-clause-world
returns-in-Err-clause-world g c =
    world-kept _ _ (sym c.self.view_is) c.self.invariant _ c.in-Device.device c.in-Device.query c.in-Device.is (search rules) c.ask_device.new.volumes.items c.in-Err.field-0 c.self.inside.made (search rules)

pub returns-in-Err-clause-store_faults_stay : goal.returns-in-Err-clause-store_faults_stay
returns-in-Err-clause-store_faults_stay g c =
    subst (λ (v : View). NoneFalls (faults_at v.devices) (faults_at c.ask_device.new.volumes.items)) c.self.view_is
    (device-faults _ c.self.invariant c.in-Device.device c.in-Device.query _ _ c.ask_device.ensures)
