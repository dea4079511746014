pub mod OfKept
