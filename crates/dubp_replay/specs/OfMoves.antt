-- What those above take from here of the definitions of dubp_moves.
pub use Rattle.dubp_moves.specs.declared.moves.Kind.{Kind}
pub use Rattle.dubp_moves.specs.declared.moves.Kind.TheVariants.{Made, Spent, Cleared}
pub use Rattle.dubp_moves.specs.declared.moves.Move.{Move}
pub use Rattle.dubp_moves.specs.Moves.{Change, balance_behind, is_about, last_balance, move_of, moves_of}
pub use Rattle.dubp_moves.specs.Accounts.{Account, account_of, moved, no_account, with_block, with_cleared, with_gone, with_made, with_transaction}
pub use Rattle.dubp_moves.specs.Statements.{IsStatement, Statements}
