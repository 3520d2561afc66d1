pub mod TermTexts
pub mod ArgumentTexts
