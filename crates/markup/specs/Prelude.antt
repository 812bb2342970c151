-- The words of markup by one name: for its proofs, and for the crates above.
pub use Rattle.markup.specs.Escapes.{escaped, escaped_byte}
pub use Rattle.markup.specs.Tags.{attribute_name, ends_line, is_void, opens_line, tag_name}
pub use Rattle.markup.specs.Nodes.{AttributeFacts, Node, attribute_of, attribute_text, document_text, line_end, node_text}
unfoldable pub use Rattle.markup.specs.Nodes.{doctype, end_tag, start_tag}
