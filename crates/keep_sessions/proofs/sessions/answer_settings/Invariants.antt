use Rattle.std.proofs.Common.{◌≡◌, length}
use Rattle.keep_sessions.proofs.sessions.answer_settings.Given as goal

-- what a desk promises
abbrev pub invariant-loop-setting : goal.invariant-loop-setting
invariant-loop-setting l = length l.desk.1.0.config.devices ≡ length l.desk.0.now.devices
