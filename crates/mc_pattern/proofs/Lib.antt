pub mod Members
pub mod Listed
pub mod RuleLaws
pub mod Built
pub mod Lent
