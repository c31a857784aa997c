mod IntegerRows
pub mod UsualRows
pub mod KindLaws
mod ArithmeticRows
pub mod OutcomeLaws
pub mod PoolLemmas
pub mod IntegerLaws
pub mod ArithmeticLaws
pub mod ArithmeticLemmas
pub mod TokenTables
