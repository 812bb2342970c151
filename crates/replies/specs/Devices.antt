-- What calls made of a source, and a device that was left alone.
use Rattle.std.specs.Prelude.{◌≡◌, ℕ, List, Option}
use Rattle.std.specs.Io.KnownBytes.{Keeps}
use Rattle.trf16_report.specs.Prelude.{Use, use_of, HasNotFailed}

-- a source before and after, and how many calls of it were made [with reading_of]
pub record Reading : Type 0 where
  pub device : Use
  pub calls_before : ℕ
  pub calls_after : ℕ

-- a source before and after, by the members that say its bytes, its failures and its calls [own]
abbrev pub reading_of : {D : Type 0} → (D → Option (List ℕ)) → (D → ℕ) → (D → ℕ) → D → D → Reading
reading_of bytes failures calls old new = record {
  device = use_of bytes failures old new;
  calls_before = calls old;
  calls_after = calls new;
}

-- the device has the bytes that it had, and no call of it failed [with reading_of]
pub record IsKept (device : Use) : Type 0 where
  pub kept : Keeps device.before device.after
  pub sound : HasNotFailed device

-- no call of the source was made [with reading_of]
pub record IsUnread (source : Reading) : Type 0 where
  pub calls : source.calls_after ≡ source.calls_before
  pub kept : IsKept source.device
