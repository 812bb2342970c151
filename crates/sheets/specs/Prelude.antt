-- The words of sheets by one name: for its proofs, and for the crates above.
unfoldable pub use Rattle.sheets.specs.Pages.{document_of, page_of}
