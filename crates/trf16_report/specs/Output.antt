-- What calls make of a device, and what putting a text makes of a sink.
use Rattle.std.specs.Prelude.{◌≡◌, ◌<◌, ◌++◌, ℕ, List, Option, Result, Ok, Err, length}
use Rattle.std.specs.Io.KnownBytes.{Appends}
use Rattle.trf16_report.specs.Devices.{CountsOne}

-- a device before and after: its bytes where they are known (those still to come of a source, those written of a sink), and how many of its
-- calls had failed [own]
pub record Use : Type 0 where
  pub before : Option (List ℕ)
  pub after : Option (List ℕ)
  pub failures_before : ℕ
  pub failures_after : ℕ

-- a device before and after, by the members that say its bytes and its failures [own]
abbrev pub use_of : {D : Type 0} → (D → Option (List ℕ)) → (D → ℕ) → D → D → Use
use_of bytes failures old new = record {
  before = bytes old;
  after = bytes new;
  failures_before = failures old;
  failures_after = failures new;
}

-- no call of the device failed [with Use]
abbrev pub HasNotFailed : Use → Type 0
HasNotFailed device = device.failures_after ≡ device.failures_before

-- one call of the device failed [with Use]
abbrev pub HasFailed : Use → Type 0
HasFailed device = CountsOne device.failures_before device.failures_after

-- the whole text was put [with Puts]
pub record HasText (text : List ℕ) (sink : Use) : Type 0 where
  pub written : Appends sink.before sink.after text
  pub sound : HasNotFailed sink

-- a call of the sink failed, and a part of the text was put, which ends before the text does [with Puts]
pub record HasPart (text : List ℕ) (sink : Use) : Type 0 where
  pub part : List ℕ
  pub rest : List ℕ
  pub whole : text ≡ part ++ rest
  pub left : 0 < length rest
  pub written : Appends sink.before sink.after part
  pub failed : HasFailed sink

-- the text was put whole; or a call of the sink failed, and a part of the text was put that ends before it does [own]
abbrev pub Puts : {T E : Type 0} → List ℕ → Use → Result T E → Type 0
Puts text sink (Ok _) = HasText text sink
Puts text sink (Err _) = HasPart text sink
