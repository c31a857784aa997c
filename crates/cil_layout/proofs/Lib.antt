pub mod SignLaws
pub mod LineLaws
pub mod ScanLaws
