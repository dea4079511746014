-- What those above take from here of the definitions of dubp_pool and dubp_docs.
pub use Rattle.dubp_docs.specs.declared.doc.Doc.{Doc}
pub use Rattle.dubp_pool.specs.Pools.{IsRead, doc_hash, is_pending, most_pending, without}
