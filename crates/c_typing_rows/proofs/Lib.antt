mod Accepted
mod Rows
mod Limits
mod Completed
