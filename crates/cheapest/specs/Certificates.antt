-- What is sure of a certificate.
use Rattle.std.specs.Prelude.{◌≡◌, ℕ, length, All}
use Rattle.dual.specs.declared.table.CertificateTable.{CertificateTable}

-- a certificate, a `CertificateTable` of `dual`, has a potential for each vertex, and each of its sets a mark for each [own]
pub record HasPlaces (size : ℕ) (certificate : CertificateTable) : Type 0 where
  pub potentials : length certificate.potentials.items ≡ size
  pub marks : All (λ set. length set.marks.items ≡ size) certificate.sets.items
