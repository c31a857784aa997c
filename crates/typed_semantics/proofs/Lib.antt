mod Rows
mod MoreRows
