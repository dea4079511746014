-- What those above take from here of the definitions of dubp_left.
pub use Rattle.dubp_left.specs.declared.next.Next.{Next}
pub use Rattle.dubp_left.specs.Next.{IsAsked}
