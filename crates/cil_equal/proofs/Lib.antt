mod ValuesAlike
mod StatementsAlike
pub mod ProgramsAlike
