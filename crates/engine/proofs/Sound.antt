-- Every valid machine is sound, by the steps that led to it.
use Rattle.records.specs.Machine.{Machine}
use Rattle.records.specs.Valid.{IsValid}
use Rattle.engine.proofs.IsSound.{IsSound, sound_new, sound_later, sound_failed}
use Rattle.engine.proofs.SoundWithAccount.{sound_account}
use Rattle.engine.proofs.SoundWithTransfer.{sound_transfer}

pub sound : (m : Machine) → IsValid m → IsSound m
sound m IsValid.new_tenant = sound_new
sound n (IsValid.later m clock valid le fits) = sound_later m clock (sound m valid) le
sound n (IsValid.next_account m account valid next) = sound_account m account (sound m valid) next
sound n (IsValid.next_transfer m entry valid next) = sound_transfer m entry (sound m valid) next
sound n (IsValid.next_failed m id valid next) = sound_failed m id (sound m valid) next
