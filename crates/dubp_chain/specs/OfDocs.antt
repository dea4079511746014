-- What those above take from here of the definitions of dubp_docs.
pub use Rattle.dubp_docs.specs.Spelling.{signed_tx}
unfoldable pub use Rattle.dubp_docs.specs.Spelling.{signed_text, tx_hash}
pub use Rattle.dubp_docs.specs.declared.doc.Doc.TheVariants.{Identity, Membership, Revocation, Certification}
