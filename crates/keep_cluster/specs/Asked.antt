-- One of many devices was asked. For private clauses.
use Rattle.std.specs.Prelude.{◌≡◌, ℕ, List, Result, Ok, IfOk, IsTrue, true, slice_index_or, slice_set}
use Rattle.keep_spec.specs.declared.memory.NoMemory.{NoMemory}
use Rattle.keep_event.specs.Answers.{is_device_answer}
use Rattle.keep_event.specs.Device.{step, may_fault}
use Rattle.keep_event.specs.declared.device.DeviceQuery.{DeviceQuery}
use Rattle.keep_event.specs.declared.device.DeviceAnswer.{DeviceAnswer}
use Rattle.keep_event.specs.declared.device.DeviceAnswer.TheVariants.{StoreFault}
use Rattle.keep_volume.specs.Calls.{VolumeView, IsLine}

-- the device of a number was asked by its own rules, and the others stay
pub record IsAskedOf (device reading : ℕ) (query : DeviceQuery) (old new : List VolumeView) (result : Result DeviceAnswer NoMemory) : Type 0 where
  pub before : VolumeView
  pub after : VolumeView
  pub found : (d : VolumeView) → slice_index_or old device d ≡ before
  pub changed : new ≡ slice_set old device after
  pub line : IsLine (step before.rules reading query) before after result
  pub may_fault : result ≡ Ok StoreFault → may_fault query ≡ true
  pub listed : IfOk result (λ answer. IsTrue (is_device_answer query answer))
