-- What those above take from here of the definitions of dubp_money.
pub use Rattle.dubp_money.specs.declared.money.Money.{Money}
pub use Rattle.dubp_money.specs.contracts.money.MoneyTablesBlock.TheImpl as money_tables_block
pub use Rattle.dubp_money.specs.Applied.{money_records, ArePaid}
pub use Rattle.dubp_money.specs.Applied as applied
